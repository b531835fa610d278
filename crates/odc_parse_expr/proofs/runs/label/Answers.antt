use Rattle.std.proofs.Common.{◌∙◌, sym}
use Rattle.odc_lookahead.proofs.stmts.RunExits.{labels_at, unlabelled_unnamed, unlabelled_alone, unlabelled_end, unlabelled_other}
use Rattle.odc_parse_expr.proofs.runs.label.Goals as goal

pub returns-in-None-clause-none : goal.returns-in-None-clause-none
returns-in-None-clause-none c = unlabelled_unnamed c.args.tokens.now c.in-None.ensures.none

pub returns-in-None-strip-clause-none : goal.returns-in-None-strip-clause-none
returns-in-None-strip-clause-none c = unlabelled_alone c.args.tokens.now c.in-Some.found.1.now c.in-Some.found.0 c.in-Some.ensures.is c.in-None-strip.ensures.none

pub returns-then-is_labelled-clause-labels : goal.returns-then-is_labelled-clause-labels
returns-then-is_labelled-clause-labels c =
    labels_at c.args.tokens.now c.in-Some.found.1.now c.in-Some-strip.rest.now c.in-Some-first._after.now c.in-Some.found.0 c.in-Some-strip._colon c.in-Some-first.next c.in-Some.ensures.is c.in-Some.ensures.kind c.in-Some-strip.ensures.is c.in-Some-strip.ensures.kind
    c.in-Some-first.ensures.some (sym c.is_labelled.ensures ∙ c.if-is_labelled.true)

pub returns-else-is_labelled-clause-none : goal.returns-else-is_labelled-clause-none
returns-else-is_labelled-clause-none c =
    unlabelled_other c.args.tokens.now c.in-Some.found.1.now c.in-Some-strip.rest.now c.in-Some-first._after.now c.in-Some.found.0 c.in-Some-strip._colon c.in-Some-first.next c.in-Some.ensures.is c.in-Some-strip.ensures.is c.in-Some-first.ensures.some
    (sym c.is_labelled.ensures ∙ c.if-is_labelled.false)

pub returns-in-None-first-clause-none : goal.returns-in-None-first-clause-none
returns-in-None-first-clause-none c = unlabelled_end c.args.tokens.now c.in-Some.found.1.now c.in-Some-strip.rest.now c.in-Some.found.0 c.in-Some-strip._colon c.in-Some.ensures.is c.in-Some-strip.ensures.is c.in-None-first.ensures.none
