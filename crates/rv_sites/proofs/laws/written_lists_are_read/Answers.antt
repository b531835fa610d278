use Rattle.rv_sites.proofs.Spelled.{listing_back}
use Rattle.rv_sites.proofs.laws.written_lists_are_read.Goals as goal

pub returns : goal.returns
returns c = listing_back
