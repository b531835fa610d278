use Rattle.std.proofs.Common.{◌≡◌, ◌+◌, ◌^◌, ◌<◌, drop}
use Rattle.rv_emit.specs.Code.{enter_size, steps_size}
use Rattle.rv_emit.proofs.limits.left_of.Given as goal

-- what is left and the steps so far are the room
abbrev pub invariant-loop-step : goal.invariant-loop-step
invariant-loop-step l = (l.left + enter_size + steps_size l.q.steps.items ≡ l.room + steps_size (drop l.step-index l.q.steps.items)) × (l.left < 2 ^ 31)
