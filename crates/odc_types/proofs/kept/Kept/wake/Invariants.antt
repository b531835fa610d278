use Rattle.std.proofs.Common.{◌≡◌}
use Rattle.odc_types.specs.Nodes.{nodes}
use Rattle.odc_types.proofs.SpreadLaws.{IsWaking}
use Rattle.odc_types.proofs.kept.Kept.wake.Given as goal

abbrev pub invariant-loop-at : goal.invariant-loop-at
invariant-loop-at l =
    (l.self.heights ≡ l.fn.self.heights)
    × IsWaking (nodes l.types) l.fn.self.extents.items l.self.extents.items l.fn.self.waiters.items l.self.waiters.items l.fn.self.fresh.items l.self.fresh.items l.part.index l.fn.from l.at
