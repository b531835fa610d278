use Rattle.std.proofs.Common.{◌≡◌, true, inl, ◌∙◌, subst}
use Rattle.std.specs.List.{list_any}
use Rattle.std.specs.Str.{bytes_eq}
use Rattle.odc_io.specs.Trees.{texts, ReadsFront, joined}
use Rattle.odc_tool.specs.Verdict.{main_name}
use Rattle.odc_tool.specs.Gather.{IsMain}
use Rattle.odc_tool.proofs.NameLemmas.{told_weaker, among}
use Rattle.odc_tool.proofs.folder.read_main.Goals as goal

pub returns-clause-found : goal.returns-clause-found
returns-clause-found g c =
    let names = texts c.args.names.now in
    let on : list_any (bytes_eq main_name) names ≡ true = cc in
    let path : c.as_str.result.now ≡ joined c.args.dir.now main_name = c.as_str.ensures.value ∙ c.in_ok-path.ensures in
    told_weaker (g.F.Folder.tree c.args.folder.now) (λ files. ReadsFront (files c.as_str.result.now) 16384 c.in_ok-read.field-0)
    (λ files. IsMain files c.args.dir.now names c.in_ok-read.field-0)
    (λ files r. inl (among names main_name on, subst (λ z. ReadsFront (files z) 16384 c.in_ok-read.field-0) path r))
    c.in_ok-read.ensures.found
