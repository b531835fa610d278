use Rattle.std.proofs.Common.{◌≤◌, ◌-◌, length, take}
use Rattle.odc_syntax.specs.lexical.Words.{Run}
use Rattle.odc_lex.specs.Unit.{IsUnit}
use Rattle.odc_lex.proofs.unit.run_len.Given as goal

abbrev pub invariant-loop-len : goal.invariant-loop-len
invariant-loop-len l = record {
  within : l.at ≤ length l.text;
  run : Run (IsUnit l.unit) (take l.at l.text);
}

abbrev pub decreases-loop-len : goal.decreases-loop-len
decreases-loop-len l = length l.text - l.at
