use Rattle.std.proofs.Common.{◌≡◌, ◌+◌, ◌-◌, ◌^◌, ◌<◌, drop}
use Rattle.rv_emit.specs.Code.{variables_end}
use Rattle.rv_emit.proofs.limits.variables_end.Given as goal

-- the end so far, or that of the variables that are left, is the end of all
abbrev pub invariant-loop-v : goal.invariant-loop-v
invariant-loop-v l = (l.end + (variables_end (drop l.v-index l.variables) - l.end) ≡ variables_end l.variables) × (l.end < 2 ^ 33)
