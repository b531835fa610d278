use Rattle.odc_syntax.proofs.CutLemmas.{stuck_lost}
use Rattle.odc_syntax.proofs.laws.stuck_texts_have_no_tokens.Goals as goal

pub returns : goal.returns
returns c = stuck_lost
