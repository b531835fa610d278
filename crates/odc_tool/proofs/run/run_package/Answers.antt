use Rattle.std.proofs.Common.{refl, ap, inr, IfSome}
use Rattle.std.specs.Prelude.{Err}
use Rattle.odc_typed.specs.View.{program}
use Rattle.odc_small.specs.Grammar.{Tree}
use Rattle.odc_tool.specs.Verdict.{Verdict, taken}
use Rattle.odc_tool.specs.Headline.{run_causes}
use Rattle.odc_tool.proofs.WithinLemmas.{gathered_well, gathered_within}
use Rattle.odc_tool.proofs.FileLemmas.{gathered_listed}
use Rattle.odc_tool.proofs.Asking.{gathered_runs, taken_run_cause, error_runs, error_cause}
use Rattle.odc_tool.proofs.run.run_package.Goals as goal

pub run_program-requires-clause-well : goal.run_program-requires-clause-well
run_program-requires-clause-well g c =
    gathered_well (λ (t : Tree). IfSome (g.F.Folder.tree c.args.folder.now) (λ files. Verdict files c.args.dir.now (taken t))) (program c.in-Ok.p) c.in-Ok.ensures.taken

pub run_program-requires-clause-within : goal.run_program-requires-clause-within
run_program-requires-clause-within g c =
    gathered_within (λ (t : Tree). IfSome (g.F.Folder.tree c.args.folder.now) (λ files. Verdict files c.args.dir.now (taken t))) (program c.in-Ok.p) c.in-Ok.ensures.taken

pub run_program-requires-clause-lists : goal.run_program-requires-clause-lists
run_program-requires-clause-lists g c =
    gathered_listed (λ (t : Tree). IfSome (g.F.Folder.tree c.args.folder.now) (λ files. Verdict files c.args.dir.now (taken t))) (program c.in-Ok.p) c.in-Ok.p.paths.items c.in-Ok.ensures.paths c.in-Ok.ensures.taken

pub returns-in-Ok-clause-folder : goal.returns-in-Ok-clause-folder
returns-in-Ok-clause-folder g c =
    gathered_runs (g.F.Folder.tree c.args.folder.now) c.args.dir.now c.args.steps _ (program c.in-Ok.p) c.run_program.result _ _ _ _ c.in-Ok.ensures.taken c.run_program.ensures.run

pub returns-in-Ok-clause-cause : goal.returns-in-Ok-clause-cause
returns-in-Ok-clause-cause g c =
    taken_run_cause (g.F.Folder.tree c.args.folder.now) c.args.dir.now c.args.steps c.in-Ok.ensures.taken.tree _ _ _ c.run_program.result c.in-Ok.ensures.taken.holds c.run_program.ensures.cause

pub returns-in-Err-clause-folder : goal.returns-in-Err-clause-folder
returns-in-Err-clause-folder g c =
    error_runs (g.F.Folder.tree c.args.folder.now) c.args.dir.now c.args.steps _ c.in-Err.error c.tell_error.result _ _ _ c.in-Err.ensures.refused (λ e. c.in-Err.ensures.fault (ap (λ x. Err x) e)) c.tell_error.ensures.line refl refl

pub returns-in-Err-clause-cause : goal.returns-in-Err-clause-cause
returns-in-Err-clause-cause g c =
    error_cause (g.F.Folder.tree c.args.folder.now) c.args.dir.now (run_causes c.args.dir.now (g.F.Folder.tree c.args.folder.now) _ _ _) c.args.steps _ c.in-Err.error c.tell_error.result c.in-Err.ensures.refused (λ fault x. x)
    (λ e. c.in-Err.ensures.fault (ap (λ x. Err x) e)) c.tell_error.ensures.cause (λ rose. inr rose)
