use Rattle.std.proofs.Common.{refl, inr}
use Rattle.odc_tool.specs.declared.words.Command.TheVariants.{Run, Exec, Build}
use Rattle.odc_tool.proofs.Asking.{build_cause_weaker, command_answers, command_cause}
use Rattle.odc_tool.proofs.run.carry_out.Goals as goal

pub returns-in-Run-clause-answers : goal.returns-in-Run-clause-answers
returns-in-Run-clause-answers g c =
    command_answers c.args.command (Run c.in-Run.dir c.in-Run.steps) _ c.run_package.result _ _ _ _ _ _ c.in-Run.is (c.run_package.ensures.same, c.run_package.ensures.folder)

pub returns-in-Run-clause-cause : goal.returns-in-Run-clause-cause
returns-in-Run-clause-cause g c = command_cause c.args.command (Run c.in-Run.dir c.in-Run.steps) (g.F.Folder.tree c.args.folder.now) _ _ _ c.run_package.result c.in-Run.is c.run_package.ensures.cause

pub returns-in-Exec-clause-answers : goal.returns-in-Exec-clause-answers
returns-in-Exec-clause-answers g c =
    command_answers c.args.command (Exec c.in-Exec.file c.in-Exec.steps) _ c.run_file.result _ _ _ _ _ _ c.in-Exec.is (c.run_file.ensures.same, (refl, c.run_file.ensures.file))

pub returns-in-Exec-clause-cause : goal.returns-in-Exec-clause-cause
returns-in-Exec-clause-cause g c = command_cause c.args.command (Exec c.in-Exec.file c.in-Exec.steps) (g.F.Folder.tree c.args.folder.now) _ _ _ c.run_file.result c.in-Exec.is c.run_file.ensures.cause

pub returns-in-Build-clause-answers : goal.returns-in-Build-clause-answers
returns-in-Build-clause-answers g c =
    command_answers c.args.command (Build c.in-Build.dir c.in-Build.file) _ c.build_package.result _ _ _ _ _ _ c.in-Build.is
    (c.build_package.ensures.others, c.build_package.ensures.folder (g.S.Source.rest c.args.input.now) (g.O.Sink.written c.args.out.now))

pub returns-in-Build-clause-cause : goal.returns-in-Build-clause-cause
returns-in-Build-clause-cause g c =
    command_cause c.args.command (Build c.in-Build.dir c.in-Build.file) (g.F.Folder.tree c.args.folder.now) _ _ _ c.build_package.result c.in-Build.is
    (build_cause_weaker c.in-Build.dir.now (g.F.Folder.tree c.args.folder.now) _ _ _ c.build_package.result (λ rose. inr rose) c.build_package.ensures.cause)
