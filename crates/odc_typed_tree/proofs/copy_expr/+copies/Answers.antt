use Rattle.std.proofs.Common.{arith, rules}
use Rattle.odc_typed_tree.proofs.Elements.{expr_falls, part_falls}
use Rattle.odc_typed_tree.proofs.copy_expr.+copies.Goals as goal

-- src/copy_expr.rt
pub copy_exprs-copy_expr-requires : goal.copy_exprs-copy_expr-requires
copy_exprs-copy_expr-requires t c = (omega (arith, expr_falls c.args.list.now c.loop-e.e-index c.e-item.result (search rules) c.e-item.is), tt)

pub copy_parts-copy_expr-requires : goal.copy_parts-copy_expr-requires
copy_parts-copy_expr-requires t c = (omega (arith, part_falls c.args.list.now c.loop-part.part-index c.part-item.result (search rules) c.part-item.is), tt)
