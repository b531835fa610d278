use Rattle.std.proofs.Common.{◌≡◌, sym, ◌∙◌, ap, Some}
use Rattle.odc_io.specs.Files.{file_at}
use Rattle.odc_io.specs.declared.files.MemFile.{MemFile}
use Rattle.odc_io.specs.declared.files.MemFolder.{MemFolder}
use Rattle.odc_io.proofs.FileLemmas.{at_first, reads_front_by}
use Rattle.odc_io.proofs.files.MemFolderFolder.read.Goals as goal

pub returns-in_ok-front_of-in-Some-clause-found : goal.returns-in_ok-front_of-in-Some-clause-found
returns-in_ok-front_of-in-Some-clause-found c =
    let old = c.args.self.now.files.items in
    let same : c.fails_now.new.self.files.items ≡ old = ap (λ (z : MemFolder). z.files.items) c.fails_now.ensures.after in
    let f = c.index.result.now in
    reads_front_by (file_at old c.args.path.now) f.bytes.items c.args.limit c.in_ok-front_of-in-Some.field-0
    (ap (λ z. file_at z c.args.path.now) (sym same) ∙ at_first c.fails_now.new.self.files.items c.args.path.now c.in-Some.i f c.in-Some.ensures
    ∙ ap (λ (z : MemFile). Some z.bytes.items) (sym c.index.ensures))
    c.in_ok-front_of-in-Some.ensures
