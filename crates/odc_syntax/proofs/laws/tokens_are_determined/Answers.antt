use Rattle.odc_syntax.proofs.CutLemmas.{lexes_same}
use Rattle.odc_syntax.proofs.laws.tokens_are_determined.Goals as goal

pub returns : goal.returns
returns c = lexes_same
