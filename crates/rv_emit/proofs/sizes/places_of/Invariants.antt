use Rattle.std.proofs.Common.{◌≡◌, ◌+◌, ◌*◌}
use Rattle.odc_mid.specs.View.{proc}
use Rattle.rv_emit.specs.Blocks.{bare}
use Rattle.rv_emit.specs.Tables.{IsTable}
use Rattle.rv_emit.proofs.sizes.places_of.Given as goal

-- the steps so far have their places, and the next one has the next place
abbrev pub invariant-loop-step : goal.invariant-loop-step
invariant-loop-step l = IsTable l.places.items l.step-index (bare (proc l.q)).place × (l.next ≡ (bare (proc l.q)).place l.step-index)
