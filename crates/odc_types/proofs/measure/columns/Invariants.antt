use Rattle.std.proofs.Common.{map, ℕ, Option, ◌<◌}
use Rattle.odc_types.specs.Layout.{Layout, column}
use Rattle.odc_types.specs.Clipped.{AreKept}
use Rattle.odc_types.proofs.MeasureLemmas.{IsWalking}
use Rattle.odc_types.proofs.measure.columns.Given as goal

abbrev pub invariant-loop-field : goal.invariant-loop-field
invariant-loop-field l = (0 < l.align) × ((part : ℕ → Option Layout) → AreKept l.extents part → IsWalking (map (λ f. column part l.count f.ty.index) l.fields) l.field-index l.end l.align l.depth)
