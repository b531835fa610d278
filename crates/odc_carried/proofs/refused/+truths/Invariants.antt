use Rattle.odc_program.specs.Views.Sizes.{expr_size}
use Rattle.odc_carried.proofs.refused.+truths.Given as goal

abbrev pub decreases-refused_truth : goal.decreases-refused_truth
decreases-refused_truth l = expr_size l.e.now
