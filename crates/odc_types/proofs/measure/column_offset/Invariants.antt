use Rattle.std.proofs.Common.{map, ℕ, Option}
use Rattle.odc_types.specs.Layout.{Layout, column}
use Rattle.odc_types.specs.Clipped.{AreKept}
use Rattle.odc_types.proofs.MeasureLemmas.{IsSeeking}
use Rattle.odc_types.proofs.measure.column_offset.Given as goal

abbrev pub invariant-loop-index : goal.invariant-loop-index
invariant-loop-index l = (part : ℕ → Option Layout) → AreKept l.extents part → IsSeeking (map (λ f. column part l.count f.ty.index) l.fields) l.index l.end l.at
