use Rattle.std.proofs.Common.{◌≡◌, ◌+◌, ◌*◌, ◌^◌, ◌<◌, drop}
use Rattle.odc_program.specs.Typing.Frames.{exprs_weight, parts_weight}
use Rattle.odc_program.specs.Views.View.{maybe, exprs, parts}
use Rattle.odc_program.specs.Views.Sizes.{expr_size, maybe_size, exprs_size, parts_size}
use Rattle.odc_limits.specs.Sized.{capped}
use Rattle.odc_limits.specs.Weighed.{weight}
use Rattle.odc_limits.proofs.weigh_expr.+weights.Given as goal

abbrev pub decreases-weigh_expr : goal.decreases-weigh_expr
decreases-weigh_expr l = 2 * expr_size l.e.now

abbrev pub decreases-weigh_optional : goal.decreases-weigh_optional
decreases-weigh_optional l = 2 * maybe_size (maybe l.e.now) + 1

abbrev pub decreases-weigh_exprs : goal.decreases-weigh_exprs
decreases-weigh_exprs l = 2 * exprs_size (exprs l.list.now)

abbrev pub decreases-weigh_arguments : goal.decreases-weigh_arguments
decreases-weigh_arguments l = 2 * exprs_size (exprs l.list.now) + 1

abbrev pub decreases-weigh_parts : goal.decreases-weigh_parts
decreases-weigh_parts l = 2 * parts_size (parts l.list.now)

abbrev pub invariant-weigh_exprs-loop-e : goal.invariant-weigh_exprs-loop-e
invariant-weigh_exprs-loop-e l = (l.total < 2 ^ 64) × (capped (l.total + exprs_weight (weight l.scale.unit l.scale.rows.now) l.scale.unit (exprs (drop l.e-index l.list))) ≡ capped (exprs_weight (weight l.scale.unit l.scale.rows.now) l.scale.unit (exprs l.list)))

abbrev pub invariant-weigh_parts-loop-part : goal.invariant-weigh_parts-loop-part
invariant-weigh_parts-loop-part l = (l.total < 2 ^ 64) × (capped (l.total + parts_weight (weight l.scale.unit l.scale.rows.now) l.scale.unit (parts (drop l.part-index l.list))) ≡ capped (parts_weight (weight l.scale.unit l.scale.rows.now) l.scale.unit (parts l.list)))
