use Rattle.std.proofs.Common.{◌≡◌, ◌<◌, ◌⊎◌, inl, inr, ℕ, Option, Some, None, false, is_some, ap, sym, ◌∙◌, subst, arith, length, slice_get, slice_set, refl, List, Result, Ok, Err, OnOk}
use Rattle.std.specs.Option.{option_map}
use Rattle.std.proofs.lemmas.Bool.Decides.{Decides-eqb}
use Rattle.std.proofs.lemmas.List.{length-map}
use Rattle.std.proofs.lemmas.Option.{slice_get-map, slice_get_within}
use Rattle.odc_types.specs.declared.extent.Extent.{Extent}
use Rattle.odc_types.specs.declared.waiter.Waiters.{Waiters}
use Rattle.odc_types.specs.declared.ty.Ty.{Ty}
use Rattle.odc_types.specs.Nodes.{Node, node, nodes}
use Rattle.odc_types.specs.Layout.{Layout, layout_of_node}
use Rattle.odc_types.specs.Clipped.{IsMeasured, AreKept, kept_at}
use Rattle.odc_types.specs.Measured.{seen, told, IsBlocked, IsAnswered, Waits}
use Rattle.odc_types.proofs.MeasuredLaws.{sound_set, seen_kept, kept_changed}
use Rattle.odc_types.proofs.BlockedLaws.{blocked_inside}
use Rattle.odc_types.proofs.SpreadLaws.{on_ok}
use Rattle.odc_types.proofs.kept.Kept.attempt.Goals as goal

none_of : (o : Option Extent) → is_some o ≡ false → o ≡ None
none_of None e = refl
none_of (Some x) e = cc

at : (types : List Ty) (t : ℕ) (ty : Ty) → Some ty ≡ slice_get types t → slice_get (nodes types) t ≡ Some (node ty)
at types t ty e = slice_get-map node types t ∙ ap (λ o. option_map node o) (sym e)

inside : (types : List Ty) (t : ℕ) (ty : Ty) → Some ty ≡ slice_get types t → (n : ℕ) → n ≡ length types → t < n
inside types t ty e n same = let h = slice_get_within types t ty (sym e) in omega arith

same_node : (types : List Ty) (t : ℕ) (ty : Ty) (n : Node) → Some ty ≡ slice_get types t → slice_get (nodes types) t ≡ Some n → node ty ≡ n
same_node types t ty n e found = let both : Some (node ty) ≡ Some n = sym (at types t ty e) ∙ found in cc

pub returns-then-eq-clause-ok : goal.returns-then-eq-clause-ok
returns-then-eq-clause-ok c = λ n found none.
    let types = nodes c.args.types.now in
    let t = c.args.waiter.ty.index in
    let p = c.in-Err.missing.part.index in
    let blocked : IsBlocked types c.args.self.now.extents.items t (node c.in-Some.ty.now) p = subst (λ es. IsBlocked types es t (node c.in-Some.ty.now) p) c.as_slice-3.ensures.value c.in-Err.ensures.err in
    record {
      part = p;
      blocked = subst (λ m. IsBlocked types c.args.self.now.extents.items t m p) (same_node c.args.types.now t c.in-Some.ty.now n c.in-Some.ensures found) blocked;
      waits = inl ((Decides-eqb p c.args.event.index).0 (sym c.eq.ensures ∙ c.if-eq.true));
    }

pub wait-requires : goal.wait-requires
wait-requires c =
    let types = nodes c.args.types.now in
    let t = c.args.waiter.ty.index in
    let p = c.in-Err.missing.part.index in
    let n = node c.in-Some.ty.now in
    let there = at c.args.types.now t c.in-Some.ty.now c.in-Some.ensures in
    let blocked : IsBlocked types c.args.self.now.extents.items t n p = subst (λ es. IsBlocked types es t n p) c.as_slice-3.ensures.value c.in-Err.ensures.err in
    let count = length-map c.args.types.now node in
    let lists = c.requires.lists in
    elim (blocked_inside types c.args.self.now.extents.items t p n c.requires.founded.parts (c.requires.founded.parts t n there) blocked) [
      | inl below ↦ omega arith
      | inr same ↦ (let below = inside c.args.types.now t c.in-Some.ty.now c.in-Some.ensures (length c.args.self.now.waiters.items) lists in omega arith)
    ]

none_kept : (c : goal.After-self-1) → kept_at c.args.self.now.extents.items c.args.waiter.ty.index ≡ None
none_kept c = ap (λ es. kept_at es c.args.waiter.ty.index) (sym c.as_slice.ensures.value) ∙ sym c.kept.ensures ∙ none_of c.kept.result (sym c.is_some.ensures ∙ c.if-is_some.false)

pub returns-in_ok-push-in-Ok-clause-told : goal.returns-in_ok-push-in-Ok-clause-told
returns-in_ok-push-in-Ok-clause-told c =
    told c.in-Ok.extent (inside c.args.types.now c.args.waiter.ty.index c.in-Some.ty.now c.in-Some.ensures (length c.args.self.now.extents.items) c.requires.same) (none_kept c) refl c.in_ok-push-in-Ok.ensures.items

pub returns-in_ok-push-in-Ok-clause-sound : goal.returns-in_ok-push-in-Ok-clause-sound
returns-in_ok-push-in-Ok-clause-sound c =
    let types = nodes c.args.types.now in
    let t = c.args.waiter.ty.index in
    let extents = c.args.self.now.extents.items in
    let n = node c.in-Some.ty.now in
    let measures = subst (λ es. (part : ℕ → Option Layout) → AreKept es part → IsMeasured (Some c.in-Ok.extent) (layout_of_node types part n)) c.as_slice-3.ensures.value c.in-Ok.ensures.ok in
    sound_set types extents t n c.in-Ok.extent c.requires.sound (inside c.args.types.now t c.in-Some.ty.now c.in-Some.ensures (length extents) c.requires.same) (at c.args.types.now t c.in-Some.ty.now c.in-Some.ensures)
    (measures (seen types extents) (seen_kept types extents c.requires.sound))

pub returns-in_ok-push-in-Ok-clause-ok : goal.returns-in_ok-push-in-Ok-clause-ok
returns-in_ok-push-in-Ok-clause-ok c = λ n found none.
    let changed = kept_changed c.args.self.now.extents.items c.args.waiter.ty.index (Some c.in-Ok.extent) (inside c.args.types.now c.args.waiter.ty.index c.in-Some.ty.now c.in-Some.ensures (length c.args.self.now.extents.items) c.requires.same) in
    absurd (some_none c.in-Ok.extent (sym changed ∙ none))
  where
    some_none : (e : Extent) → Some e ≡ None → ⊥
    some_none e h = cc

pub returns-else-eq-clause-ok : goal.returns-else-eq-clause-ok
returns-else-eq-clause-ok c =
    let types = nodes c.args.types.now in
    let t = c.args.waiter.ty.index in
    let p = c.in-Err.missing.part.index in
    let n0 = node c.in-Some.ty.now in
    let stays : c.wait.new.self.extents.items ≡ c.args.self.now.extents.items = ap (λ v. v.items) c.wait.ensures.extents in
    let blocked : IsBlocked types c.wait.new.self.extents.items t n0 p = subst (λ es. IsBlocked types es t n0 p) (c.as_slice-3.ensures.value ∙ sym stays) c.in-Err.ensures.err in
    on_ok c.wait.result (Waits c.wait.new.self.waiters.items p t) _
    (λ waits n found none. record {
      part = p;
      blocked = subst (λ m. IsBlocked types c.wait.new.self.extents.items t m p) (same_node c.args.types.now t c.in-Some.ty.now n c.in-Some.ensures found) blocked;
      waits = inr waits;
    })
    c.wait.ensures.ok
