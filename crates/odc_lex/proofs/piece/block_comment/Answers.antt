use Rattle.odc_lex.proofs.PieceLemmas.{block_comment_found, block_comment_none}
use Rattle.odc_lex.proofs.piece.block_comment.Goals as goal

pub returns-in-Some : goal.returns-in-Some
returns-in-Some c a = block_comment_found a _ _ _ c.requires c.comment_form.ensures c.in-Some.ensures

pub returns-in-None : goal.returns-in-None
returns-in-None c a = block_comment_none a _ c.requires c.in-None.ensures
