use Rattle.std.proofs.Common.{◌≡◌, ◌<◌, List, length, drop}
use Rattle.odc_types.specs.Nodes.{Node}
use Rattle.odc_types.specs.Heights.{AreHeights}
use Rattle.odc_types.specs.Below.{AreBelow}
use Rattle.odc_types.proofs.HeightLaws.{IsRising}
use Rattle.odc_types.proofs.kept.highest.Given as goal

abbrev pub invariant-loop-t : goal.invariant-loop-t
invariant-loop-t l = (table : List Node) → AreHeights table l.heights → AreBelow (length table) l.types → IsRising table l.types l.t-index l.most
