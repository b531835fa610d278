use Rattle.odc_lex.proofs.PieceLemmas.{sign_found, sign_none}
use Rattle.odc_lex.proofs.piece.sign_token.Goals as goal

pub returns-in-Some : goal.returns-in-Some
returns-in-Some c a = sign_found a _ _ c.requires c.in-Some.ensures.some

pub returns-in-None : goal.returns-in-None
returns-in-None c a = sign_none a _ c.requires c.in-None.ensures.none
