use Rattle.std.proofs.Common.{◌≡◌, ◌+◌, ◌-◌, length}
use Rattle.odc_types.specs.Nodes.{nodes}
use Rattle.odc_types.specs.Measured.{gaps}
use Rattle.odc_types.proofs.SpreadLaws.{IsPassing}
use Rattle.odc_types.proofs.kept.Kept.spread.Given as goal

abbrev pub invariant-loop-done : goal.invariant-loop-done
invariant-loop-done l =
    (l.self.heights ≡ l.fn.self.heights)
    × IsPassing (nodes l.types) l.fn.self.extents.items l.self.extents.items l.fn.self.waiters.items l.self.waiters.items l.fn.self.fresh.items l.self.fresh.items l.done

abbrev pub decreases-loop-done : goal.decreases-loop-done
decreases-loop-done l = (gaps l.self.extents.items + length l.self.fresh.items) - l.done
