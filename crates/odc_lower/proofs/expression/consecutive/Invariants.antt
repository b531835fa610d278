use Rattle.std.proofs.Common.{◌≡◌}
use Rattle.odc_lower.specs.Code.{temps_from}
use Rattle.odc_lower.proofs.expression.consecutive.Given as goal

abbrev pub invariant-loop-i : goal.invariant-loop-i
invariant-loop-i l = l.temps.items ≡ temps_from l.first l.i
