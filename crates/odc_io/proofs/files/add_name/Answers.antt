use Rattle.std.proofs.Common.{◌≡◌, true, false, inl, inr, refl}
use Rattle.std.specs.Str.{bytes_eq}
use Rattle.std.specs.List.{list_any}
use Rattle.odc_io.specs.Trees.{texts}
use Rattle.odc_io.proofs.ListingLemmas.{among, not_among, texts_push}
use Rattle.odc_io.proofs.files.add_name.Goals as goal
use Rattle.odc_io.proofs.files.add_name.Goals.{else-not-has_slash-via-then-not-has_slash+else-not-has_text, else-not-has_slash-via-else-not-has_slash}

pub returns-in_ok-push : goal.returns-in_ok-push
returns-in_ok-push c =
    let off : list_any (bytes_eq c.args.name.now) (texts c.args.names.now) ≡ false = cc in
    inl (
      texts_push c.args.names.now c.push.new.self c.in_ok-from_str.field-0 c.args.name.now c.in_ok-push.ensures.items c.in_ok-from_str.ensures.ok,
      λ slash. let t = c.has_slash.ensures.1 slash in cc,
      not_among (texts c.args.names.now) c.args.name.now off,
    )

pub returns-else-not-has_slash : goal.returns-else-not-has_slash
returns-else-not-has_slash c =
    elim c.else-not-has_slash.branch [
      | else-not-has_slash-via-then-not-has_slash+else-not-has_text w ↦
          (let on : list_any (bytes_eq c.args.name.now) (texts c.args.names.now) ≡ true = cc in
          inr (refl, inr (among (texts c.args.names.now) c.args.name.now on)))
      | else-not-has_slash-via-else-not-has_slash w ↦ (let t : c.has_slash.result ≡ true = cc in inr (refl, inl (c.has_slash.ensures.0 t)))
    ]
