use Rattle.odc_lex.proofs.PieceLemmas.{raw_found, raw_none}
use Rattle.odc_lex.proofs.piece.raw.Goals as goal

pub returns-in-Some : goal.returns-in-Some
returns-in-Some c a = raw_found a _ _ c.requires c.in-Some.ensures

pub returns-in-None : goal.returns-in-None
returns-in-None c a = raw_none a _ c.requires c.in-None.ensures
