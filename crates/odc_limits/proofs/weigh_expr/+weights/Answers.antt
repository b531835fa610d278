use Rattle.std.proofs.Common.{arith, rules, List, ap, refl, sym, ◌∙◌}
use Rattle.odc_typed_tree.proofs.Elements.{expr_falls, part_falls}
use Rattle.odc_program.specs.declared.tree.BuildPart.{BuildPart}
use Rattle.odc_program.specs.Trees.Tree as tree
use Rattle.odc_program.specs.Typing.Frames.{exprs_weight, parts_weight}
use Rattle.odc_program.specs.Views.View.{exprs, parts}
use Rattle.odc_limits.specs.Sized.{capped}
use Rattle.odc_limits.specs.Weighed.{weight}
use Rattle.odc_limits.proofs.Arguments.{plain_arguments}
use Rattle.odc_limits.proofs.Rest.{walked}
use Rattle.odc_limits.proofs.weigh_expr.+weights.Goals as goal

pub weigh_exprs-weigh_expr-requires : goal.weigh_exprs-weigh_expr-requires
weigh_exprs-weigh_expr-requires t c = (omega (arith, expr_falls c.args.list.now c.loop-e.e-index c.e-item.result (search rules) c.e-item.is), tt)

pub weigh_parts-weigh_expr-requires : goal.weigh_parts-weigh_expr-requires
weigh_parts-weigh_expr-requires t c = (omega (arith, part_falls c.args.list.now c.loop-part.part-index c.part-item.result (search rules) c.part-item.is), tt)

pub weigh_exprs-returns : goal.weigh_exprs-returns
weigh_exprs-returns t c = walked (λ (es : List tree.Expr). exprs_weight (weight c.args.scale.now.unit c.args.scale.now.rows.now) c.args.scale.now.unit (exprs es)) c.args.list.now c.loop-e.e-index c.loop-e.total refl c.loop-e-test.false
    c.loop-e.invariant.0 c.loop-e.invariant.1

pub weigh_parts-returns : goal.weigh_parts-returns
weigh_parts-returns t c = walked (λ (ps : List BuildPart). parts_weight (weight c.args.scale.now.unit c.args.scale.now.rows.now) c.args.scale.now.unit (parts ps)) c.args.list.now c.loop-part.part-index c.loop-part.total refl c.loop-part-test.false
    c.loop-part.invariant.0 c.loop-part.invariant.1

pub weigh_arguments-returns-in_default : goal.weigh_arguments-returns-in_default
weigh_arguments-returns-in_default t c = c.weigh_exprs-in_default.ensures ∙ ap capped (sym (plain_arguments (weight c.args.scale.now.unit c.args.scale.now.rows.now) c.args.scale.now.unit c.args.which (exprs c.args.list.now) c.in_default.not-Len))
