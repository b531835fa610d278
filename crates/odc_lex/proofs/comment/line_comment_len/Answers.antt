use Rattle.odc_lex.proofs.CommentLemmas.{line_found, line_lost}
use Rattle.odc_lex.proofs.comment.line_comment_len.Goals as goal

pub returns-then-ends_line : goal.returns-then-ends_line
returns-then-ends_line c = line_found _ c.if-not-begins_with_both.ensures.yes _ c.run_len-len.ensures c.if-ends_line.ensures.yes

pub returns-else-ends_line : goal.returns-else-ends_line
returns-else-ends_line c = line_lost _ c.if-not-begins_with_both.ensures.yes _ c.run_len-len.ensures c.if-ends_line.ensures.no
