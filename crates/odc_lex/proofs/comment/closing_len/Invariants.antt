use Rattle.std.proofs.Common.{◌-◌, length}
use Rattle.odc_lex.proofs.CommentLemmas.{Reached}
use Rattle.odc_lex.proofs.comment.closing_len.Given as goal

abbrev pub invariant-loop-depth : goal.invariant-loop-depth
invariant-loop-depth l = Reached l.text l.depth l.at

abbrev pub decreases-loop-depth : goal.decreases-loop-depth
decreases-loop-depth l = length l.text - l.at
