use Rattle.std.proofs.Common.{refl, inr}
use Rattle.odc_io.specs.Trees.{texts}
use Rattle.odc_tool.specs.Words.{asked_by}
use Rattle.odc_tool.proofs.Asking.{bad_word_answers, no_bad_word, usage_cause, asked_cause, asked_anew}
use Rattle.odc_tool.proofs.run.run_tool.Goals as goal

pub returns-in-Err-clause-usage : goal.returns-in-Err-clause-usage
returns-in-Err-clause-usage g c = λ i bad.
    bad_word_answers (texts c.args.words.now) c.in-Err.word i c.tell.result c.word_or_empty.result.now _ _ c.in-Err.ensures bad c.word_or_empty.ensures c.tell.ensures.line refl refl

pub returns-in-Err-clause-unread : goal.returns-in-Err-clause-unread
returns-in-Err-clause-unread g c = λ i bad. (refl, refl)

pub returns-in-Err-clause-answers : goal.returns-in-Err-clause-answers
returns-in-Err-clause-answers g c = λ asked is. absurd (no_bad_word (texts c.args.words.now) asked c.in-Err.word is c.in-Err.ensures)

pub returns-in-Err-clause-cause : goal.returns-in-Err-clause-cause
returns-in-Err-clause-cause g c =
    usage_cause (texts c.args.words.now) (g.F.Folder.tree c.args.folder.now) _ _ _ _ c.in-Err.word c.tell.result c.in-Err.ensures c.tell.ensures.cause (λ rose. inr rose)

pub returns-in-Ok-clause-usage : goal.returns-in-Ok-clause-usage
returns-in-Ok-clause-usage g c = λ i bad. absurd (no_bad_word (texts c.args.words.now) (asked_by c.in-Ok.command) i c.in-Ok.ensures bad)

pub returns-in-Ok-clause-unread : goal.returns-in-Ok-clause-unread
returns-in-Ok-clause-unread g c = λ i bad. absurd (no_bad_word (texts c.args.words.now) (asked_by c.in-Ok.command) i c.in-Ok.ensures bad)

pub returns-in-Ok-clause-answers : goal.returns-in-Ok-clause-answers
returns-in-Ok-clause-answers g c = λ asked is.
    asked_anew (texts c.args.words.now) (asked_by c.in-Ok.command) asked _ c.carry_out.result _ _ _ _ _ _ c.in-Ok.ensures is c.carry_out.ensures.answers

pub returns-in-Ok-clause-cause : goal.returns-in-Ok-clause-cause
returns-in-Ok-clause-cause g c =
    asked_cause (texts c.args.words.now) (asked_by c.in-Ok.command) (g.F.Folder.tree c.args.folder.now) _ _ _ c.carry_out.result c.in-Ok.ensures c.carry_out.ensures.cause
