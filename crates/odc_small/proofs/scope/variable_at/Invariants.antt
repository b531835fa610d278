use Rattle.std.proofs.Common.{◌≡◌, drop}
use Rattle.odc_small.specs.Names.{variable_of}
use Rattle.odc_small.proofs.scope.variable_at.Given as goal

abbrev pub invariant-loop-known : goal.invariant-loop-known
invariant-loop-known l = variable_of l.name (drop l.known-index l.names) ≡ variable_of l.name l.names
