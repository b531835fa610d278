use Rattle.std.proofs.Common.{arith}
use Rattle.odc_lex.proofs.CommentLemmas.{reached_step, reached_end}
use Rattle.odc_lex.proofs.comment.closing_len.Goals as goal

pub loop-depth-preserved : goal.loop-depth-preserved
loop-depth-preserved c = reached_step _ _ _ _ c.loop-depth.invariant c.in-Some.ensures.some

pub returns : goal.returns
returns c = reached_end _ _ _ (omega arith) c.loop-depth.invariant
