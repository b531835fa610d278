use Rattle.std.proofs.Common.{◌≡◌, ◌<◌, true, sym, ◌∙◌, length, string_bytes, get_or}
use Rattle.std.specs.Str.{bytes_eq}
use Rattle.odc_tool.specs.Verdict.{main_name}
use Rattle.odc_tool.proofs.NameLemmas.{text_at}
use Rattle.odc_tool.proofs.folder.has_main.Goals as goal

pub returns-then-eq : goal.returns-then-eq
returns-then-eq c =
    let list = c.args.names.now.items in
    let i = c.loop-name.name-index in
    let s = c.name-item.result in
    let h : i < length list = rw c.deref-name-items.ensures.value at c.loop-name-test.true in
    let is : s ≡ get_or list i s = rw c.deref-name-items.ensures.value at c.name-item.is in
    let same : bytes_eq main_name (string_bytes s) ≡ true = rw c.as_str.ensures.value at (sym c.eq.ensures ∙ c.if-eq.true) in
    sym (text_at list i s main_name h is same)
