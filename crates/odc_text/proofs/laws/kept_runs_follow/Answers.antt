use Rattle.odc_text.proofs.Keep.{keeps_follows_on}
use Rattle.odc_text.proofs.laws.kept_runs_follow.Goals as goal

pub returns : goal.returns
returns c = λ k c1 f p q kept input. keeps_follows_on k c1 f p q input (kept input)
