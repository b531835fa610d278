use Rattle.std.proofs.Common.{◌≡◌, ◌+◌, ◌^◌, ◌<◌, drop}
use Rattle.odc_program.specs.Typing.Frames.{items_weight}
use Rattle.odc_program.specs.Views.StmtView.{items}
use Rattle.odc_limits.specs.Sized.{capped}
use Rattle.odc_limits.specs.Weighed.{weight}
use Rattle.odc_limits.proofs.weigh_stmt.weigh_items.Given as goal

abbrev pub invariant-loop-item : goal.invariant-loop-item
invariant-loop-item l = (l.total < 2 ^ 64) × (capped (l.total + items_weight (weight l.scale.unit l.scale.rows.now) l.scale.unit (items (drop l.item-index l.list))) ≡ capped (items_weight (weight l.scale.unit l.scale.rows.now) l.scale.unit (items l.list)))
