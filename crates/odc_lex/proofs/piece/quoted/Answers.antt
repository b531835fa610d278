use Rattle.odc_lex.proofs.PieceLemmas.{quoted_found, quoted_none}
use Rattle.odc_lex.proofs.piece.quoted.Goals as goal

pub returns-in-Some : goal.returns-in-Some
returns-in-Some c a = quoted_found a _ _ c.requires c.in-Some.ensures

pub returns-in-None : goal.returns-in-None
returns-in-None c a = quoted_none a _ c.requires c.in-None.ensures
