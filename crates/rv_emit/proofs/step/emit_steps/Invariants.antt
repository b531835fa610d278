use Rattle.std.proofs.Common.{◌≡◌, ◌+◌, ◌*◌, ◌<◌, ◌^◌, ◌++◌, drop, length}
use Rattle.odc_mid.specs.View.{proc}
use Rattle.rv_emit.specs.Code.{enter_size, steps_code, steps_size}
use Rattle.rv_emit.specs.Blocks.{bare}
use Rattle.rv_emit.specs.Layout.{AllCanEmit}
use Rattle.rv_emit.proofs.step.emit_steps.Given as goal

-- what is emitted, and the code of the steps that are left, are the code of all
abbrev pub invariant-loop-step : goal.invariant-loop-step
invariant-loop-step l =
    (l.code.items ++ steps_code (bare (proc l.q)) l.at l.site (drop l.step-index l.q.steps.items)
    ≡ l.initial.code.items ++ steps_code (bare (proc l.q)) (4 * enter_size) 1 l.q.steps.items)
    × ((l.at + 4 * steps_size (drop l.step-index l.q.steps.items) ≡ 4 * (enter_size + steps_size l.q.steps.items))
    × (AllCanEmit (bare (proc l.q)) (length l.q.steps.items) (drop l.step-index l.q.steps.items)
    × (l.site + steps_size (drop l.step-index l.q.steps.items) < 2 ^ 31)))
