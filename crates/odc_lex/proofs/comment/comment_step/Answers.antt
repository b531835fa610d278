use Rattle.odc_lex.proofs.CommentLemmas.{close_step, open_step, other_step, no_step}
use Rattle.odc_lex.proofs.comment.comment_step.Goals as goal

pub returns-then-begins_with_both-clause-some : goal.returns-then-begins_with_both-clause-some
returns-then-begins_with_both-clause-some c = close_step _ _ c.requires.some c.if-begins_with_both.ensures.yes

pub returns-then-begins_with_both-2-clause-some : goal.returns-then-begins_with_both-2-clause-some
returns-then-begins_with_both-2-clause-some c = open_step _ _ c.requires.some c.if-begins_with_both-2.ensures.yes

pub returns-in-Some-clause-some : goal.returns-in-Some-clause-some
returns-in-Some-clause-some c = other_step _ _ c.requires.some c.if-begins_with_both.ensures.no c.if-begins_with_both-2.ensures.no _ c.in-Some.ensures.some

pub returns-in-None-clause-none : goal.returns-in-None-clause-none
returns-in-None-clause-none c = no_step _ _ c.requires.some c.if-begins_with_both.ensures.no c.if-begins_with_both-2.ensures.no c.in-None.ensures.none
