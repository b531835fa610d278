use Rattle.odc_build.proofs.Whole.{have_slots}
use Rattle.odc_build.proofs.laws.temporaries_have_slots.Goals as goal

pub returns : goal.returns
returns c = λ p q lowered. have_slots p q lowered
