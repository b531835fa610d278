use Rattle.odc_program.specs.Views.Sizes.{expr_size}
use Rattle.odc_limits.proofs.weigh_expr.+places.Given as goal

abbrev pub decreases-is_place : goal.decreases-is_place
decreases-is_place l = expr_size l.e.now
