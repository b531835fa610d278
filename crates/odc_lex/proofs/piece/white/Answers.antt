use Rattle.odc_lex.proofs.PieceLemmas.{white_found, white_none}
use Rattle.odc_lex.proofs.piece.white.Goals as goal

pub returns-in-Some : goal.returns-in-Some
returns-in-Some c a = white_found a _ _ c.requires c.in-Some.ensures

pub returns-in-None : goal.returns-in-None
returns-in-None c a = white_none a _ c.requires c.in-None.ensures
