use Rattle.std.proofs.Common.{refl, inr, ap}
use Rattle.std.specs.Prelude.{Err}
use Rattle.odc_tool.specs.Headline.{exec_causes}
use Rattle.odc_tool.proofs.Asking.{exec_answers, exec_cause, exec_failed, folder_failed, folder_cause}
use Rattle.odc_tool.proofs.run.run_file.Goals as goal

pub returns-in-Ok-clause-file : goal.returns-in-Ok-clause-file
returns-in-Ok-clause-file g c =
    exec_answers (g.F.Folder.tree c.args.folder.now) c.args.file.now c.in-Ok.content c.args.steps _ c.run_content.result _ _ c.in-Ok.ensures.found c.run_content.ensures.run

pub returns-in-Ok-clause-cause : goal.returns-in-Ok-clause-cause
returns-in-Ok-clause-cause g c =
    exec_cause (g.F.Folder.tree c.args.folder.now) c.args.file.now c.in-Ok.content c.args.steps _ _ _ c.run_content.result c.in-Ok.ensures.found c.in-Ok.ensures.within c.run_content.ensures.cause

pub returns-in-Err-clause-file : goal.returns-in-Err-clause-file
returns-in-Err-clause-file g c =
    exec_failed (g.F.Folder.tree c.args.folder.now) c.args.file.now c.args.steps _ c.tell_error.result _ _
    (folder_failed c.in-Err.error c.from.result _ c.tell_error.result _ _ c.from.ensures (λ e. c.in-Err.ensures.cause (ap (λ x. Err x) e)) c.tell_error.ensures.line refl refl)

pub returns-in-Err-clause-cause : goal.returns-in-Err-clause-cause
returns-in-Err-clause-cause g c =
    folder_cause (exec_causes c.args.file.now (g.F.Folder.tree c.args.folder.now) _ _ _) c.args.steps _ c.in-Err.error c.from.result c.tell_error.result c.from.ensures (λ e. c.in-Err.ensures.cause (ap (λ x. Err x) e)) c.tell_error.ensures.cause
    (λ rose. inr rose)
