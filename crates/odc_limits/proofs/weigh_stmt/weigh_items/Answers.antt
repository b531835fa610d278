use Rattle.std.proofs.Common.{List, refl}
use Rattle.odc_program.specs.declared.tree.CaseItem.{CaseItem}
use Rattle.odc_program.specs.Typing.Frames.{items_weight}
use Rattle.odc_program.specs.Views.StmtView.{items}
use Rattle.odc_limits.specs.Weighed.{weight}
use Rattle.odc_limits.proofs.Rest.{walked}
use Rattle.odc_limits.proofs.weigh_stmt.weigh_items.Goals as goal

pub returns : goal.returns
returns c = walked (λ (xs : List CaseItem). items_weight (weight c.args.scale.now.unit c.args.scale.now.rows.now) c.args.scale.now.unit (items xs)) c.args.list.now c.loop-item.item-index c.loop-item.total refl c.loop-item-test.false c.loop-item.invariant.0
    c.loop-item.invariant.1
