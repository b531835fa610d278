use Rattle.odc_lex.proofs.PieceLemmas.{line_comment_found, line_comment_none}
use Rattle.odc_lex.proofs.piece.line_comment.Goals as goal

pub returns-in-Some : goal.returns-in-Some
returns-in-Some c a = line_comment_found a _ _ c.requires c.in-Some.ensures

pub returns-in-None : goal.returns-in-None
returns-in-None c a = line_comment_none a _ c.requires c.in-None.ensures
