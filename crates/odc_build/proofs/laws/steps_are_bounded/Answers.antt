use Rattle.odc_build.proofs.Whole.{cheaper}
use Rattle.odc_build.proofs.laws.steps_are_bounded.Goals as goal

pub returns : goal.returns
returns c = λ p q well lowered. cheaper p q lowered well
