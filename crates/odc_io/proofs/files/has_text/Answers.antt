use Rattle.std.proofs.Common.{◌≡◌, ◌<◌, true, sym, ◌∙◌, length, map, string_bytes, get_or, ap, arith}
use Rattle.std.specs.Str.{bytes_eq}
use Rattle.std.proofs.lemmas.List.{get_or-map, length-map}
use Rattle.std.proofs.lemmas.List.Folds.{list_any_at}
use Rattle.odc_io.proofs.files.has_text.Goals as goal

pub returns-then-eq : goal.returns-then-eq
returns-then-eq c =
    let list = c.args.list.now.items in
    let i = c.loop-t.t-index in
    let s = c.t-item.result in
    let h : i < length list = rw c.deref-t-items.ensures.value at c.loop-t-test.true in
    let is : s ≡ get_or list i s = rw c.deref-t-items.ensures.value at c.t-item.is in
    let same : bytes_eq c.args.text.now (string_bytes s) ≡ true = rw c.as_str.ensures.value at (sym c.eq.ensures ∙ c.if-eq.true) in
    sym (list_any_at (bytes_eq c.args.text.now) (map string_bytes list) i c.args.text.now (omega (arith, length-map list string_bytes))
    (ap (bytes_eq c.args.text.now) (get_or-map string_bytes list i s c.args.text.now h ∙ ap string_bytes (sym is)) ∙ same))
