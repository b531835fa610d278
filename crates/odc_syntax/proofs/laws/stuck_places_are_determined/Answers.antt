use Rattle.odc_syntax.proofs.CutLemmas.{stuck_one}
use Rattle.odc_syntax.proofs.laws.stuck_places_are_determined.Goals as goal

pub returns : goal.returns
returns c = stuck_one
