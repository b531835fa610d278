use Rattle.odc_lower.proofs.Wells.{procedure_length}
use Rattle.odc_lower.proofs.laws.steps_are_counted.Goals as goal

pub returns : goal.returns
returns c = λ p. procedure_length p
