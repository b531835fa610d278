use Rattle.odc_lex.proofs.PieceLemmas.{word_behind, word_found, word_none}
use Rattle.odc_lex.proofs.piece.word.Goals as goal

pub returns-then-behind_number : goal.returns-then-behind_number
returns-then-behind_number c = word_behind _ _ c.if-behind_number.true c.requires

pub returns-in-Some : goal.returns-in-Some
returns-in-Some c = word_found _ _ _ _ c.if-behind_number.false c.requires c.word_kind.ensures c.in-Some.ensures

pub returns-in-None : goal.returns-in-None
returns-in-None c = word_none _ _ c.requires c.in-None.ensures
