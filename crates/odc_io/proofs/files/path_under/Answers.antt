use Rattle.std.proofs.Common.{◌++◌, sym, ◌∙◌, ap, lit<}
use Rattle.std.proofs.lemmas.Str.Pattern.{strip_prefix_char}
use Rattle.odc_io.proofs.FileLemmas.{path_under_by}
use Rattle.odc_io.proofs.files.path_under.Goals as goal

pub returns : goal.returns
returns c =
    let found = c.in_ok-strip_prefix.ensures.cases in
    path_under_by c.args.path.now c.args.folder.now c.in_ok-strip_prefix.field-0.now c.strip_prefix-2.result
    (found.1.1 ∙ ap (λ z. c.args.folder.now ++ z) (sym found.2))
    (strip_prefix_char 47 c.in_ok-strip_prefix.field-0.now c.strip_prefix-2.result c.strip_prefix-2.ensures.cases (lit< tt))
