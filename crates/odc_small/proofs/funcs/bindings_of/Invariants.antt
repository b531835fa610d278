use Rattle.std.proofs.Common.{◌≡◌, ◌++◌, drop}
use Rattle.odc_small.specs.Names.{parameter_names}
use Rattle.odc_small.proofs.funcs.bindings_of.Given as goal

abbrev pub invariant-loop-name : goal.invariant-loop-name
invariant-loop-name l = record {
  count : l.variable ≡ l.name-index;
  told : l.bindings.items ++ parameter_names l.variable (drop l.name-index l.names) ≡ parameter_names 0 l.names;
}
