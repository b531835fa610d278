use Rattle.std.proofs.Common.{map, ℕ, Option}
use Rattle.odc_types.specs.Layout.{Layout}
use Rattle.odc_types.specs.Clipped.{AreKept}
use Rattle.odc_types.proofs.MeasureLemmas.{IsOverlaying}
use Rattle.odc_types.proofs.measure.union_extent.Given as goal

abbrev pub invariant-loop-variant : goal.invariant-loop-variant
invariant-loop-variant l = (part : ℕ → Option Layout) → AreKept l.extents part → IsOverlaying (map (λ v. part v.index) l.variants) l.variant-index l.widest l.depth
