use Rattle.odc_text.proofs.Keep.{keeps_on_composes}
use Rattle.odc_text.proofs.laws.kept_runs_compose.Goals as goal

pub returns : goal.returns
returns c = λ k c1 l d f g p q r first second input. keeps_on_composes k c1 l d f g p q r input (first input) (second input)
