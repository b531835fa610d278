use Rattle.std.proofs.Common.{refl, inl, inr, ap, ◌∙◌, sym, subst, List, ℕ}
use Rattle.std.specs.Prelude.{Err}
use Rattle.odc_io.specs.Trees.{with_file}
use Rattle.odc_typed.specs.View.{program}
use Rattle.odc_tool.specs.Headline.{CauseBy}
use Rattle.odc_tool.specs.Loading.{write_causes}
use Rattle.odc_tool.proofs.Answering.{nothing}
use Rattle.odc_tool.proofs.Asking.{program_made, folder_failed, folder_cause, same_but_nothing, same_but_written}
use Rattle.odc_tool.proofs.run.write_program.Goals as goal

pub returns-in_default-clause-made : goal.returns-in_default-clause-made
returns-in_default-clause-made g c = λ rest o. inl (refl, inr (nothing c.fail.result _ _ c.fail.ensures.status c.fail.ensures.line refl refl))

pub returns-in_default-clause-cause : goal.returns-in_default-clause-cause
returns-in_default-clause-cause g c = subst (CauseBy (write_causes _ _) 0) (sym c.fail.ensures.status) tt

pub returns-in_default-clause-others : goal.returns-in_default-clause-others
returns-in_default-clause-others g c = same_but_nothing c.args.file.now (g.F.Folder.tree c.args.folder.now)

pub returns-in-Ok-write-clause-made : goal.returns-in-Ok-write-clause-made
returns-in-Ok-write-clause-made g c = λ rest o.
    program_made (program c.args.p.now) c.args.p.now.paths.items c.args.file.now _ (g.F.Folder.tree c.args.folder.now) _ c.args.image.now.items c.in-Ok.bytes.items _ c.requires.paths c.in-Ok.ensures.built
    (c.in-Ok-write.ensures.ok ∙ ap (λ (b : List ℕ). with_file (g.F.Folder.tree c.args.folder.now) c.args.file.now b) c.deref.ensures.value)

pub returns-in-Ok-write-clause-cause : goal.returns-in-Ok-write-clause-cause
returns-in-Ok-write-clause-cause g c = tt

pub returns-in-Ok-write-clause-others : goal.returns-in-Ok-write-clause-others
returns-in-Ok-write-clause-others g c = same_but_written c.args.file.now c.deref.result.now (g.F.Folder.tree c.args.folder.now) _ c.in-Ok-write.ensures.ok

pub returns-in-Err-clause-made : goal.returns-in-Err-clause-made
returns-in-Err-clause-made g c = λ rest o.
    inl (refl, folder_failed c.in-Err.error c.from.result _ c.tell_error.result _ _ c.from.ensures (λ e. c.in-Err.ensures.cause (ap (λ x. Err x) e)) c.tell_error.ensures.line refl refl)

pub returns-in-Err-clause-cause : goal.returns-in-Err-clause-cause
returns-in-Err-clause-cause g c =
    folder_cause (write_causes _ _) 0 _ c.in-Err.error c.from.result c.tell_error.result c.from.ensures (λ e. c.in-Err.ensures.cause (ap (λ x. Err x) e)) c.tell_error.ensures.cause (λ rose. rose)

pub returns-in-Err-clause-others : goal.returns-in-Err-clause-others
returns-in-Err-clause-others g c = c.in-Err.ensures.err
