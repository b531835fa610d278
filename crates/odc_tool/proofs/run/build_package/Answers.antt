use Rattle.std.proofs.Common.{refl, ap, inr, IfSome}
use Rattle.std.specs.Prelude.{Err}
use Rattle.odc_typed.specs.View.{program}
use Rattle.odc_small.specs.Grammar.{Tree}
use Rattle.odc_tool.specs.Verdict.{Verdict, taken}
use Rattle.odc_tool.specs.Headline.{build_causes}
use Rattle.odc_tool.proofs.TellingLemmas.{rose_later}
use Rattle.odc_tool.proofs.WithinLemmas.{gathered_well, gathered_within}
use Rattle.odc_tool.proofs.FileLemmas.{gathered_listed}
use Rattle.odc_tool.proofs.Asking.{gathered_builds, write_later, taken_build_cause, error_builds, error_cause, same_but_later, same_but_same}
use Rattle.odc_tool.proofs.run.build_package.Goals as goal

pub write_program-requires-clause-well : goal.write_program-requires-clause-well
write_program-requires-clause-well g c =
    gathered_well (λ (t : Tree). IfSome (g.F.Folder.tree c.args.folder.now) (λ files. Verdict files c.args.dir.now (taken t))) (program c.in-Ok.p) c.in-Ok.ensures.taken

pub write_program-requires-clause-within : goal.write_program-requires-clause-within
write_program-requires-clause-within g c =
    gathered_within (λ (t : Tree). IfSome (g.F.Folder.tree c.args.folder.now) (λ files. Verdict files c.args.dir.now (taken t))) (program c.in-Ok.p) c.in-Ok.ensures.taken

pub write_program-requires-clause-lists : goal.write_program-requires-clause-lists
write_program-requires-clause-lists g c =
    gathered_listed (λ (t : Tree). IfSome (g.F.Folder.tree c.args.folder.now) (λ files. Verdict files c.args.dir.now (taken t))) (program c.in-Ok.p) c.in-Ok.p.paths.items c.in-Ok.ensures.paths c.in-Ok.ensures.taken

pub returns-in-Ok-clause-folder : goal.returns-in-Ok-clause-folder
returns-in-Ok-clause-folder g c = λ rest o.
    let tree = g.F.Folder.tree c.args.folder.now in
    gathered_builds tree c.args.dir.now c.args.file.now _ (program c.in-Ok.p) c.write_program.result _ _ _ _ _ c.in-Ok.ensures.taken
    (write_later (program c.in-Ok.p) c.args.file.now _ _ c.write_program.result _ tree _ _ _ _ _ c.in-Ok.ensures.same (λ rose. rose_later _ _ _ c.in-Ok.ensures.counted rose) (c.write_program.ensures.made rest o))

pub returns-in-Ok-clause-cause : goal.returns-in-Ok-clause-cause
returns-in-Ok-clause-cause g c =
    taken_build_cause (g.F.Folder.tree c.args.folder.now) c.args.dir.now c.in-Ok.ensures.taken.tree _ _ _ c.write_program.result c.in-Ok.ensures.taken.holds (λ rose. rose_later _ _ _ c.in-Ok.ensures.counted rose) c.write_program.ensures.cause

pub returns-in-Ok-clause-others : goal.returns-in-Ok-clause-others
returns-in-Ok-clause-others g c = same_but_later c.args.file.now (g.F.Folder.tree c.args.folder.now) _ _ c.in-Ok.ensures.same c.write_program.ensures.others

pub returns-in-Err-clause-folder : goal.returns-in-Err-clause-folder
returns-in-Err-clause-folder g c = λ rest o.
    error_builds (g.F.Folder.tree c.args.folder.now) c.args.dir.now c.args.file.now _ c.in-Err.error c.tell_error.result _ _ _ _ c.in-Err.ensures.same c.in-Err.ensures.refused (λ e. c.in-Err.ensures.fault (ap (λ x. Err x) e)) c.tell_error.ensures.line
    refl refl

pub returns-in-Err-clause-cause : goal.returns-in-Err-clause-cause
returns-in-Err-clause-cause g c =
    error_cause (g.F.Folder.tree c.args.folder.now) c.args.dir.now (build_causes c.args.dir.now (g.F.Folder.tree c.args.folder.now) _ _) 0 _ c.in-Err.error c.tell_error.result c.in-Err.ensures.refused (λ fault x. x)
    (λ e. c.in-Err.ensures.fault (ap (λ x. Err x) e)) c.tell_error.ensures.cause (λ rose. rose)

pub returns-in-Err-clause-others : goal.returns-in-Err-clause-others
returns-in-Err-clause-others g c = same_but_same c.args.file.now (g.F.Folder.tree c.args.folder.now) _ c.in-Err.ensures.same
