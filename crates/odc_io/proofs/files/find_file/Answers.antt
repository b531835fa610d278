use Rattle.std.proofs.Common.{sym, ◌∙◌}
use Rattle.odc_io.proofs.FileLemmas.{none_more}
use Rattle.odc_io.proofs.files.find_file.Goals as goal

pub loop-i-preserved : goal.loop-i-preserved
loop-i-preserved c =
    none_more c.args.files.now.items c.loop-i.i c.file-item.result c.args.path.now
    (rw c.deref-file-items.ensures.value at c.loop-i-test.true) (rw c.deref-file-items.ensures.value at c.file-item.is)
    c.loop-i.invariant (rw c.as_str.ensures.value at (sym c.eq.ensures ∙ c.if-eq.false))
