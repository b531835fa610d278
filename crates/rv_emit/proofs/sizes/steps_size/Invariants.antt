use Rattle.std.proofs.Common.{◌≡◌, ◌+◌, drop}
use Rattle.rv_emit.specs.Code.{steps_size}
use Rattle.rv_emit.proofs.sizes.steps_size.Given as goal

-- what is counted, and the size of the steps that are left, are the size of all
abbrev pub invariant-loop-step : goal.invariant-loop-step
invariant-loop-step l = l.total + steps_size (drop l.step-index l.steps) ≡ steps_size l.steps
