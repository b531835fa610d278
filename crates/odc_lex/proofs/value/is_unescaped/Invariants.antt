use Rattle.std.proofs.Common.{◌≡◌, ◌≤◌, length, drop, bytes_eq}
use Rattle.odc_syntax.specs.lexical.Value.{outside, unescaped}
use Rattle.odc_lex.specs.Value.{reading_of, HasRoom}
use Rattle.odc_lex.proofs.value.is_unescaped.Given as goal

abbrev pub invariant-loop-b : goal.invariant-loop-b
invariant-loop-b l = record {
  room : HasRoom l.reading;
  within : l.at ≤ length l.value;
  same : bytes_eq (unescaped (reading_of l.reading) (drop l.b-index l.inside)) (drop l.at l.value) ≡ bytes_eq (unescaped outside l.inside) l.value;
}
