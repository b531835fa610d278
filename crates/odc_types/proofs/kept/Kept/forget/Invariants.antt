use Rattle.std.proofs.Common.{◌≡◌, List, Option, length}
use Rattle.odc_types.specs.declared.extent.Extent.{Extent}
use Rattle.odc_types.specs.Measured.{AreTold}
use Rattle.odc_types.proofs.SpreadLaws.{IsForgetting}
use Rattle.odc_types.proofs.kept.Kept.forget.Given as goal

abbrev pub invariant-loop-at : goal.invariant-loop-at
invariant-loop-at l =
    (l.self.heights ≡ l.fn.self.heights) × (l.self.waiters ≡ l.fn.self.waiters) × (l.self.fresh ≡ l.fn.self.fresh) × (length l.self.extents.items ≡ length l.fn.self.extents.items)
    × ((begun : List (Option Extent)) → AreTold begun l.fn.self.extents.items l.fn.self.fresh.items → IsForgetting begun l.self.extents.items l.fn.self.fresh.items l.at)
