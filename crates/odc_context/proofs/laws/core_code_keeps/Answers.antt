use Rattle.odc_context.proofs.Whole.{keeps}
use Rattle.odc_context.proofs.laws.core_code_keeps.Goals as goal

pub returns : goal.returns
returns c = λ p well entries input. keeps entries p well input
