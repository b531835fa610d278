use Rattle.odc_lex.proofs.PieceLemmas.{number_found, number_none}
use Rattle.odc_lex.proofs.piece.number_token.Goals as goal

pub returns-in-Some : goal.returns-in-Some
returns-in-Some c a = number_found a _ _ c.requires c.in-Some.ensures.some

pub returns-in-None : goal.returns-in-None
returns-in-None c a = number_none a _ c.requires c.in-None.ensures.none
