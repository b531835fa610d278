use Rattle.std.proofs.Common.{refl, inr, ap, ◌∙◌, List, [], ℕ, get_or}
use Rattle.odc_text.specs.Run.{exited, checked, trapped, going}
use Rattle.odc_tool.specs.Loading.{program_causes}
use Rattle.odc_tool.specs.declared.status.Status.TheVariants.{Exited, Stopped, StepsOut, Trapped}
use Rattle.odc_tool.specs.declared.run.Failure.TheVariants.{Read, Write}
use Rattle.odc_tool.proofs.TellingLemmas.{rose_later}
use Rattle.odc_tool.proofs.Answering.{ended_answers, ended_line_answers, broken_answers, told_cause, stopped_line}
use Rattle.odc_tool.proofs.run.run_machine.Goals as goal

pub returns-in-Exited-clause-run : goal.returns-in-Exited-clause-run
returns-in-Exited-clause-run g c = λ image ready.
    let r = c.in-Exited.ensures.is in
    ended_answers c.args.steps image c.args.ready.machine _ _ _ _ r.input (exited c.in-Exited.code) (Exited c.in-Exited.code) c.tell.result ready.machine r.told r.comes refl c.tell.ensures.line refl refl

pub returns-in-Exited-clause-cause : goal.returns-in-Exited-clause-cause
returns-in-Exited-clause-cause g c = told_cause (program_causes _ _) c.args.steps _ (Exited c.in-Exited.code) c.tell.result tt c.tell.ensures.cause (λ rose. inr (rose_later _ _ _ c.run.ensures.counted_err rose))

pub returns-in-Checked-clause-run : goal.returns-in-Checked-clause-run
returns-in-Checked-clause-run g c = λ image ready.
    let r = c.in-Checked.ensures.is in
    let line = stopped_line c.args.ready.paths.items image.lists.paths c.in-Checked.check c.in-Checked.at c.path_of-path.result.now ready.paths (c.path_of-path.ensures ∙ ap (λ (l : List (List ℕ)). get_or l c.in-Checked.at.file.number []) c.deref.ensures.value) in
    ended_line_answers c.args.steps image c.args.ready.machine _ _ _ _ r.input (checked c.in-Checked.check c.in-Checked.at) (Stopped c.in-Checked.check c.in-Checked.at) c.tell-in-Checked.result _ line ready.machine r.told r.comes refl
    c.tell-in-Checked.ensures.line refl refl

pub returns-in-Checked-clause-cause : goal.returns-in-Checked-clause-cause
returns-in-Checked-clause-cause g c = told_cause (program_causes _ _) c.args.steps _ (Stopped c.in-Checked.check c.in-Checked.at) c.tell-in-Checked.result tt c.tell-in-Checked.ensures.cause (λ rose. inr (rose_later _ _ _ c.run.ensures.counted_err rose))

pub returns-in-Trapped-clause-run : goal.returns-in-Trapped-clause-run
returns-in-Trapped-clause-run g c = λ image ready.
    let r = c.in-Trapped.ensures.is in
    ended_answers c.args.steps image c.args.ready.machine _ _ _ _ r.input (trapped c.in-Trapped.pc) (Trapped c.in-Trapped.pc) c.tell-in-Trapped.result ready.machine r.told r.comes refl c.tell-in-Trapped.ensures.line refl refl

pub returns-in-Trapped-clause-cause : goal.returns-in-Trapped-clause-cause
returns-in-Trapped-clause-cause g c = told_cause (program_causes _ _) c.args.steps _ (Trapped c.in-Trapped.pc) c.tell-in-Trapped.result tt c.tell-in-Trapped.ensures.cause (λ rose. inr (rose_later _ _ _ c.run.ensures.counted_err rose))

pub returns-in-StepsOut-clause-run : goal.returns-in-StepsOut-clause-run
returns-in-StepsOut-clause-run g c = λ image ready.
    let r = c.in-StepsOut.ensures.is in
    ended_answers c.args.steps image c.args.ready.machine _ _ _ _ r.input going (StepsOut c.args.steps) c.tell-in-StepsOut.result ready.machine r.told r.comes.0 refl c.tell-in-StepsOut.ensures.line refl refl

pub returns-in-StepsOut-clause-cause : goal.returns-in-StepsOut-clause-cause
returns-in-StepsOut-clause-cause g c = told_cause (program_causes _ _) c.args.steps _ (StepsOut c.args.steps) c.tell-in-StepsOut.result (tt, refl) c.tell-in-StepsOut.ensures.cause (λ rose. inr (rose_later _ _ _ c.run.ensures.counted_err rose))

pub returns-in-ReadFault-clause-run : goal.returns-in-ReadFault-clause-run
returns-in-ReadFault-clause-run g c = λ image ready.
    let r = c.in-ReadFault.ensures.is in
    broken_answers c.args.steps image c.args.ready.machine _ _ _ r.input Read c.fail.result ready.machine r.told r.comes c.fail.ensures.status c.fail.ensures.line refl refl

pub returns-clause-run : goal.returns-clause-run
returns-clause-run g c = λ image ready.
    let r = c.in-WriteFault.ensures.is in
    broken_answers c.args.steps image c.args.ready.machine _ _ _ r.input Write c.fail-in-WriteFault.result ready.machine r.told r.comes c.fail-in-WriteFault.ensures.status c.fail-in-WriteFault.ensures.line refl refl
