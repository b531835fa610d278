use Rattle.std.proofs.Common.{◌≡◌, ◌+◌, ◌++◌, drop}
use Rattle.odc_mid.specs.View.{proc}
use Rattle.rv_emit.specs.Code.{enter_size, steps_size}
use Rattle.rv_emit.specs.Blocks.{steps_holes, proc_holes}
use Rattle.rv_emit.proofs.holes.holes_of.Given as goal

-- the holes so far, and those of the steps that are left, are those of all
abbrev pub invariant-loop-step : goal.invariant-loop-step
invariant-loop-step l =
    (l.holes.items ++ steps_holes l.next (drop l.step-index l.q.steps.items) ≡ proc_holes (proc l.q))
    × (l.next + steps_size (drop l.step-index l.q.steps.items) ≡ enter_size + steps_size l.q.steps.items)
