use Rattle.std.proofs.Common.{◌≡◌, ◌++◌}
use Rattle.odc_carried.specs.Code.{waits_from}
use Rattle.odc_carried.proofs.procedure.push_waits.Given as goal

abbrev pub invariant-loop-d : goal.invariant-loop-d
invariant-loop-d l = l.all.items ≡ l.initial.all.items ++ waits_from l.low 0 l.d
