use Rattle.rv_emit.proofs.Filling.{block_filled}
use Rattle.rv_emit.proofs.laws.blocks_stand_anywhere.Goals as goal

pub returns : goal.returns
returns c = λ entries addresses at site p. block_filled entries addresses at p site
