use Rattle.odc_lower.proofs.Whole.{keeps_on}
use Rattle.odc_lower.proofs.laws.mid_code_keeps.Goals as goal

pub returns : goal.returns
returns c = λ p q well lowered entries input bytes. keeps_on entries p q input well lowered bytes
