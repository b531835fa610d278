use Rattle.std.proofs.Common.{◌≡◌, ◌<◌, ◌+◌, Some, sym, ◌∙◌, ap, subst, length, take, map, get_or, string_bytes}
use Rattle.std.specs.Option.{option_copied}
use Rattle.std.proofs.lemmas.List.{take_all}
use Rattle.odc_tool.specs.Gather.{IsOther, IsLeast, lesser}
use Rattle.odc_tool.proofs.NameLemmas.{texts_more}
use Rattle.odc_tool.proofs.OrderLemmas.{least_as, least_skip, least_first, least_next}
use Rattle.odc_tool.proofs.folder.least_other.Goals as goal
use Rattle.odc_tool.proofs.folder.least_other.Goals.{then-is_other+in-Some, then-is_other+in-None, else-is_other}

pub loop-name-preserved : goal.loop-name-preserved
loop-name-preserved c =
    let list = c.args.names.now.items in
    let i = c.loop-name.name-index in
    let s = c.name-item.result in
    let before = map string_bytes (take i list) in
    let h : i < length list = rw c.deref-name-items.ensures.value at c.loop-name-test.true in
    let is : s ≡ get_or list i s = rw c.deref-name-items.ensures.value at c.name-item.is in
    let step = texts_more list i s h is in
    let here = c.as_str-name.ensures.value in
    elim c.if-is_other.branch [
      | then-is_other+in-Some w ↦
          (let other : IsOther (string_bytes s) = rw here at (c.is_other.ensures.0 w.if-is_other.true) in
          let best = w.in-Some.best.now in
          least_as _ (map string_bytes (take (i + 1) list)) (Some (lesser best (string_bytes s))) (option_copied c.if-is_other.least) step
          (ap option_copied w.least-is ∙ ap (λ z. Some z) (w.lesser_of.ensures ∙ ap (lesser best) here))
          (least_next before (string_bytes s) best other (subst (λ z. IsLeast before (option_copied z)) w.in-Some.is c.loop-name.invariant)))
      | then-is_other+in-None w ↦
          (let other : IsOther (string_bytes s) = rw here at (c.is_other.ensures.0 w.if-is_other.true) in
          least_as _ (map string_bytes (take (i + 1) list)) (Some (string_bytes s)) (option_copied c.if-is_other.least) step
          (ap option_copied w.least-is ∙ ap (λ z. Some z) here)
          (least_first before (string_bytes s) other (subst (λ z. IsLeast before (option_copied z)) w.in-None.is c.loop-name.invariant)))
      | else-is_other w ↦
          least_as _ (map string_bytes (take (i + 1) list)) (option_copied c.loop-name.least) (option_copied c.if-is_other.least) step
          (ap option_copied w.least-is)
          (least_skip before (string_bytes s) (option_copied c.loop-name.least)
          (λ o. let t = c.is_other.ensures.1 (rw (sym here) at o) in let f = w.if-is_other.false in cc) c.loop-name.invariant)
    ]

pub returns : goal.returns
returns c =
    let list = c.args.names.now.items in
    subst (λ z. IsLeast (map string_bytes z) (option_copied c.loop-name.least))
    (take_all c.loop-name.name-index list (rw c.deref-name-items.ensures.value at c.loop-name-test.false)) c.loop-name.invariant
