use Rattle.odc_lex.proofs.PieceLemmas.{rune_found, rune_none}
use Rattle.odc_lex.proofs.piece.rune.Goals as goal

pub returns-in-Some : goal.returns-in-Some
returns-in-Some c a = rune_found a _ _ c.requires c.in-Some.ensures

pub returns-in-None : goal.returns-in-None
returns-in-None c a = rune_none a _ c.requires c.in-None.ensures
