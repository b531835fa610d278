use Rattle.std.proofs.Common.{◌≡◌, ◌+◌, ◌*◌, ◌++◌, drop}
use Rattle.odc_small.specs.Typing.{parameters_at}
use Rattle.odc_small.proofs.funcs.locals_of.Given as goal

abbrev pub invariant-loop-parameter : goal.invariant-loop-parameter
invariant-loop-parameter l = record {
  count : l.column ≡ 11 + 8 * l.parameter-index;
  told : l.locals.items ++ parameters_at l.line l.column (drop l.parameter-index l.names) ≡ parameters_at l.line 11 l.names;
}
