use Rattle.std.proofs.Common.{refl, inl, sym, subst}
use Rattle.odc_typed.specs.View.{program}
use Rattle.odc_tool.specs.Headline.{CauseBy}
use Rattle.odc_tool.specs.Loading.{program_causes}
use Rattle.odc_tool.proofs.Answering.{nothing}
use Rattle.odc_tool.proofs.Asking.{program_ran, ran_cause}
use Rattle.odc_tool.proofs.run.run_program.Goals as goal

pub returns-in_default-clause-run : goal.returns-in_default-clause-run
returns-in_default-clause-run g c = inl (refl, nothing c.fail.result _ _ c.fail.ensures.status c.fail.ensures.line refl refl)

pub returns-in_default-clause-cause : goal.returns-in_default-clause-cause
returns-in_default-clause-cause g c = subst (CauseBy (program_causes _ _) c.args.steps) (sym c.fail.ensures.status) tt

pub returns-clause-run : goal.returns-clause-run
returns-clause-run g c =
    program_ran (program c.args.p.now) c.args.p.now.paths.items c.args.steps c.in-Ok.bytes.items c.deref.result.now c.run_bytes.result c.args.image.now.items _ _ c.requires.paths c.in-Ok.ensures.built c.deref.ensures.value
    c.run_bytes.ensures.run

pub returns-clause-cause : goal.returns-clause-cause
returns-clause-cause g c =
    ran_cause (program c.args.p.now) c.args.p.now.paths.items c.args.steps c.in-Ok.bytes.items c.deref.result.now _ _ c.run_bytes.result c.in-Ok.ensures.built c.deref.ensures.value c.run_bytes.ensures.cause
