use Rattle.std.proofs.Common.{◌≡◌, ◌<◌, ◌+◌, true, false, sym, ◌∙◌, length, take, get_or, ap, subst, string_bytes, refl}
use Rattle.std.proofs.lemmas.List.{take_all}
use Rattle.odc_io.specs.Trees.{texts, ListsFiles}
use Rattle.odc_io.specs.Files.{file_at}
use Rattle.odc_io.proofs.FileLemmas.{paths, paths_more}
use Rattle.odc_io.proofs.ListingLemmas.{listed_as, listed_other, listed_under, lists_files}
use Rattle.odc_io.proofs.files.list_files.Goals as goal
use Rattle.odc_io.proofs.files.list_files.Goals.{in-Some+in_ok-add_name, in_default, then-any, else-any}

pub loop-file-preserved : goal.loop-file-preserved
loop-file-preserved c =
    let files = c.args.files.now.items in
    let i = c.loop-file.file-index in
    let f = c.file-item.result in
    let before = paths (take i files) in
    let h : i < length files = rw c.deref-file-items.ensures.value at c.loop-file-test.true in
    let is : f ≡ get_or files i f = rw c.deref-file-items.ensures.value at c.file-item.is in
    let step = paths_more files i f h is in
    elim c.match-path_under.branch [
      | in-Some+in_ok-add_name w ↦
          listed_as _ (paths (take (i + 1) files)) c.args.folder.now _ (texts c.match-path_under.names) _ c.match-path_under.any step (ap texts w.names-is) w.any-is
          (listed_under before c.args.folder.now (texts c.loop-file.names) (texts w.add_name.new.names) c.loop-file.any (string_bytes f.path) w.in-Some.name.now
          (sym c.as_str.ensures.value ∙ w.in-Some.ensures) w.in_ok-add_name.ensures c.loop-file.invariant)
      | in_default w ↦
          listed_as _ (paths (take (i + 1) files)) c.args.folder.now _ (texts c.match-path_under.names) _ c.match-path_under.any step (ap texts w.names-is) w.any-is
          (listed_other before c.args.folder.now (texts c.loop-file.names) c.loop-file.any (string_bytes f.path)
          (λ rest e. w.in_default.ensures rest (c.as_str.ensures.value ∙ e)) c.loop-file.invariant)
    ]

pub returns : goal.returns
returns c =
    let files = c.args.files.now.items in
    let whole : paths (take c.loop-file.file-index files) ≡ paths files
    = ap paths (take_all c.loop-file.file-index files (rw c.deref-file-items.ensures.value at c.loop-file-test.false)) in
    elim c.if-any.branch [
      | then-any w ↦
          subst (λ z. ListsFiles (file_at files) c.args.folder.now z) (sym w.result-is)
          (lists_files files c.args.folder.now c.loop-file.names true (listed_as _ (paths files) c.args.folder.now _ (texts c.loop-file.names) _ true (sym whole) refl (sym w.if-any.true) c.loop-file.invariant))
      | else-any w ↦
          subst (λ z. ListsFiles (file_at files) c.args.folder.now z) (sym w.result-is)
          (lists_files files c.args.folder.now c.loop-file.names false (listed_as _ (paths files) c.args.folder.now _ (texts c.loop-file.names) _ false (sym whole) refl (sym w.if-any.false) c.loop-file.invariant))
    ]
