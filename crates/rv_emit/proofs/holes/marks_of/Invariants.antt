use Rattle.std.proofs.Common.{◌≡◌, ◌+◌, ◌++◌, drop}
use Rattle.rv_emit.specs.Code.{enter_size, steps_size}
use Rattle.rv_emit.specs.Blocks.{steps_marks}
use Rattle.rv_emit.proofs.holes.marks_of.Given as goal

-- the calls so far, and those of the steps that are left, are those of all
abbrev pub invariant-loop-step : goal.invariant-loop-step
invariant-loop-step l =
    (l.calls.items ++ steps_marks l.next (drop l.step-index l.q.steps.items) ≡ steps_marks enter_size l.q.steps.items)
    × (l.next + steps_size (drop l.step-index l.q.steps.items) ≡ enter_size + steps_size l.q.steps.items)
