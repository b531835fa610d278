-- What is kept of the types of a table: that it is right, and that nothing is missing once no type can be measured any more.
use Rattle.std.proofs.Common.{◌≡◌, ◌≢◌, ℕ, zero, suc, ◌+◌, ◌-◌, ◌<◌, ◌≤◌, List, [], ◌∷◌, ◌++◌, Option, Some, None, length, slice_get, slice_set, unwrap_or, get_or, refl, sym, ◌∙◌, ap, subst, arith, map, inl, inr, ◌⊎◌, All, IsSome, is_some, take}
use Rattle.std.proofs.lemmas.Bool.{cases_lt, cases_eq}
use Rattle.std.proofs.lemmas.Option.{slice_get_within, slice_get-get_or}
use Rattle.std.proofs.lemmas.List.{length-append, take_at}
use Rattle.std.proofs.lemmas.List.Sums.{sum_by-set}
use Rattle.std.proofs.lemmas.List.Elements.{All-head, All-tail}
use Rattle.std.specs.Option.{option_map, option_and_then}
use Rattle.odc_types.specs.declared.ty.TyId.{TyId}
use Rattle.odc_types.specs.declared.ty.Field.{Field}
use Rattle.odc_types.specs.declared.extent.Extent.{Extent}
use Rattle.odc_types.specs.Nodes.{Node}
use Rattle.odc_types.specs.Nodes as nodes
use Rattle.odc_types.specs.declared.ty.SoaForm.TheVariants.{Fixed, Slice, Dyn}
use Rattle.odc_types.specs.declared.key.Key.{Key}
use Rattle.odc_types.specs.Parts.{HasPartsBelow}
use Rattle.odc_types.specs.Interned.{IsInterned}
use Rattle.odc_types.specs.Layout.{Layout, layout, layout_of, layout_of_node}
use Rattle.odc_types.specs.Clipped.{IsMeasured, kept_at, AreKept}
use Rattle.odc_types.specs.Measured.{IsSound, only, seen, gap, gaps, is_undefined}
use Rattle.odc_types.proofs.IdentityLaws.{get_end}
use Rattle.odc_types.proofs.Unfolding.{Extends}
use Rattle.odc_types.proofs.Lists.{get_front, get_elsewhere}
use Rattle.odc_types.proofs.LayoutLaws.{Grows, same_table, node_keeps, enough, layout_unfolds, keeps_layout, height_added, grows_at_end}

-- by what is kept of a type
seen_by : (o : Option Extent) (m : Option Layout) (l : Layout) → only o m ≡ Some l → m ≡ Some l
seen_by None m l e = cc
seen_by (Some x) m l e = e

pub seen_extends : (types : List Node) (extents : List (Option Extent)) → Extends (seen types extents) (layout_of types)
seen_extends types extents = record { keeps = λ t l e. seen_by (kept_at extents t) (layout_of types t) l e }

kept_by : (o : Option Extent) (m : Option Layout) → ((e : Extent) → o ≡ Some e → IsMeasured (Some e) m) → IsMeasured o (only o m)
kept_by None m h = tt
kept_by (Some e) m h = h e refl

-- what is kept is what is seen
pub seen_kept : (types : List Node) (extents : List (Option Extent)) → IsSound types extents → AreKept extents (seen types extents)
seen_kept types extents s = record { each = λ t. kept_by (kept_at extents t) (layout_of types t) (s.sound t) }

-- nothing more can be told
pub record IsDone (types : List Node) (extents : List (Option Extent)) : Type 0 where
  pub done : (t : ℕ) (n : Node) → slice_get types t ≡ Some n → kept_at extents t ≡ None → layout_of_node types (seen types extents) n ≡ None

pub complete : (types : List Node) (extents : List (Option Extent)) → IsDone types extents → (k : ℕ) → Extends (layout types k) (seen types extents)
complete types extents d zero = record { keeps = λ t l e. cc }
complete types extents d (suc k) = record { keeps = λ t l e. by t (slice_get types t) refl l e (complete types extents d k) }
  where
    kept_or : (t : ℕ) (o : Option Extent) (l : Layout) → (o ≡ None → ⊥) → layout_of types t ≡ Some l → only o (layout_of types t) ≡ Some l
    kept_or t None l h e = absurd (h refl)
    kept_or t (Some x) l h e = e

    by : (t : ℕ) (o : Option Node) → slice_get types t ≡ o → (l : Layout) → option_and_then (layout_of_node types (layout types k)) (slice_get types t) ≡ Some l → Extends (layout types k) (seen types extents) → seen types extents t ≡ Some l
    by t None e l h below = let none : None ≡ Some l = ap (λ o. option_and_then (layout_of_node types (layout types k)) o) (sym e) ∙ h in cc
    by t (Some n) e l h below =
        let told : layout_of_node types (layout types k) n ≡ Some l = ap (λ o. option_and_then (layout_of_node types (layout types k)) o) (sym e) ∙ h in
        let shown : layout_of_node types (seen types extents) n ≡ Some l = node_keeps types types (layout types k) (seen types extents) (same_table types) below n refl l told in
        kept_or t (kept_at extents t) l (λ none. (let stuck = d.done t n e none in none_some l (sym stuck ∙ shown))) (enough types (suc k) t l h)
      where
        none_some : (l : Layout) → None ≡ Some l → ⊥
        none_some l e = cc

pub all_kept : (types : List Node) (extents : List (Option Extent)) → IsSound types extents → IsDone types extents → AreKept extents (layout_of types)
all_kept types extents s d = record { each = λ t. by t (kept_at extents t) refl (layout_of types t) refl }
  where
    by : (t : ℕ) (o : Option Extent) → kept_at extents t ≡ o → (m : Option Layout) → layout_of types t ≡ m → IsMeasured o m
    by t (Some e) k m h = subst (λ x. IsMeasured (Some e) x) h (s.sound t e k)
    by t None k None h = tt
    by t None k (Some l) h = absurd (none_some l (sym (ap (λ o. only o (layout_of types t)) k) ∙ (complete types extents d (length types)).keeps t l h))
      where
        none_some : (l : Layout) → None ≡ Some l → ⊥
        none_some l e = cc

pub kept_changed : (extents : List (Option Extent)) (t : ℕ) (x : Option Extent) → t < length extents → kept_at (slice_set extents t x) t ≡ x
kept_changed [] t x h = absurd (omega arith)
kept_changed (y ∷ ys) zero x h = refl
kept_changed (y ∷ ys) (suc t) x h = kept_changed ys t x (omega arith)

pub kept_elsewhere : (extents : List (Option Extent)) (t u : ℕ) (x : Option Extent) → u ≢ t → kept_at (slice_set extents t x) u ≡ kept_at extents u
kept_elsewhere extents t u x h = ap (λ o. unwrap_or o None) (get_elsewhere extents t u x h)

-- the layout of a type over those that are seen is its own
pub measured_sound : (types : List Node) (extents : List (Option Extent)) (t : ℕ) (n : Node) (e : Extent) → slice_get types t ≡ Some n → IsMeasured (Some e) (layout_of_node types (seen types extents) n) → IsMeasured (Some e) (layout_of types t)
measured_sound types extents t n e at m = by (layout_of_node types (seen types extents) n) refl m
  where
    by : (o : Option Layout) → layout_of_node types (seen types extents) n ≡ o → IsMeasured (Some e) o → IsMeasured (Some e) (layout_of types t)
    by None h m = absurd m
    by (Some l) h m = subst (λ o. IsMeasured (Some e) o) (sym (layout_unfolds types t n at ∙ node_keeps types types (seen types extents) (layout_of types) (same_table types) (seen_extends types extents) n refl l h)) m

pub sound_set : (types : List Node) (extents : List (Option Extent)) (t : ℕ) (n : Node) (e : Extent) → IsSound types extents → t < length extents → slice_get types t ≡ Some n → IsMeasured (Some e) (layout_of_node types (seen types extents) n) → IsSound types (slice_set extents t (Some e))
sound_set types extents t n e s h at m = record {
  sound = λ u x k. elim (cases_eq u t) [
    | inl same ↦ (
        let here : Some e ≡ Some x = sym (kept_changed extents t (Some e) h) ∙ ap (λ v. kept_at (slice_set extents t (Some e)) v) (sym same) ∙ k in
        let is : e ≡ x = cc in
        subst (λ v. IsMeasured (Some x) (layout_of types v)) (sym same) (subst (λ y. IsMeasured (Some y) (layout_of types t)) is (measured_sound types extents t n e at m)))
    | inr other ↦ s.sound u x (sym (kept_elsewhere extents t u (Some e) other) ∙ k)
  ];
}

pub keeps_set : (extents : List (Option Extent)) (t : ℕ) (x : Option Extent) → kept_at extents t ≡ None → (u : ℕ) → kept_at (slice_set extents t x) u ≡ None → kept_at extents u ≡ None
keeps_set extents t x none u h = elim (cases_eq u t) [ inl same ↦ ap (λ v. kept_at extents v) same ∙ none | inr other ↦ sym (kept_elsewhere extents t u x other) ∙ h ]

pub gaps_changed : (extents : List (Option Extent)) (t : ℕ) (e : Extent) → t < length extents → kept_at extents t ≡ None → gaps (slice_set extents t (Some e)) + 1 ≡ gaps extents
gaps_changed extents t e h none =
    let change = sum_by-set gap extents t (Some e) None h in
    let is : get_or extents t None ≡ None = sym (ap (λ o. unwrap_or o None) (slice_get-get_or extents t None h)) ∙ none in
    let one : gap (get_or extents t None) ≡ 1 = ap gap is in
    omega (arith, change, one)

pub gaps_set : (extents : List (Option Extent)) (t : ℕ) (e : Extent) → t < length extents → kept_at extents t ≡ None → gaps (slice_set extents t (Some e)) < gaps extents
gaps_set extents t e h none =
    let change = sum_by-set gap extents t (Some e) None h in
    let is : get_or extents t None ≡ None = sym (ap (λ o. unwrap_or o None) (slice_get-get_or extents t None h)) ∙ none in
    let one : gap (get_or extents t None) ≡ 1 = ap gap is in
    omega (arith, change, one)

pub none_is : (o : Option Layout) → IsMeasured None o → o ≡ None
none_is None m = refl
none_is (Some l) m = absurd m

pub some_has : (e : Extent) (o : Option Layout) → IsMeasured (Some e) o → IsSome o
some_has e None m = absurd m
some_has e (Some l) m = refl

-- what was kept stays right as a table grows
pub sound_grows : (types types' : List Node) (extents : List (Option Extent)) → Grows types types' → AreKept extents (layout_of types) → IsSound types' extents
sound_grows types types' extents grows k = record {
  sound = λ t e h.
      let m : IsMeasured (Some e) (layout_of types t) = subst (λ o. IsMeasured o (layout_of types t)) h (k.each t) in
      subst (λ o. IsMeasured (Some e) o) (sym (keeps_layout types types' grows t (some_has e (layout_of types t) m))) m;
}

pub undefined_none : (types : List Node) (f : ℕ → Option Layout) (n : Node) → is_undefined n → layout_of_node types f n ≡ None
undefined_none types f (nodes.struct name None) u = refl
undefined_none types f (nodes.union name None) u = refl
undefined_none types f (nodes.enum name base None) u = refl
undefined_none types f (nodes.distinct name None) u = refl
undefined_none types f (nodes.struct name (Some fs)) u = absurd u
undefined_none types f (nodes.union name (Some vs)) u = absurd u
undefined_none types f (nodes.enum name base (Some es)) u = absurd u
undefined_none types f (nodes.distinct name (Some b)) u = absurd u
undefined_none types f n u = absurd u

pub kept_front : (extents : List (Option Extent)) (x : Option Extent) (t : ℕ) → t < length extents → kept_at (extents ++ (x ∷ [])) t ≡ kept_at extents t
kept_front [] x t h = absurd (omega arith)
kept_front (y ∷ ys) x zero h = refl
kept_front (y ∷ ys) x (suc t) h = kept_front ys x t (omega arith)

pub kept_last : (extents : List (Option Extent)) (x : Option Extent) → kept_at (extents ++ (x ∷ [])) (length extents) ≡ x
kept_last [] x = refl
kept_last (y ∷ ys) x = kept_last ys x

pub kept_past : (extents : List (Option Extent)) (x : Option Extent) (t : ℕ) → length extents < t → kept_at (extents ++ (x ∷ [])) t ≡ None
kept_past [] x zero h = absurd (omega arith)
kept_past [] x (suc t) h = refl
kept_past (y ∷ ys) x zero h = absurd (omega arith)
kept_past (y ∷ ys) x (suc t) h = kept_past ys x t (omega arith)

layout_grown : (types types' : List Node) → Grows types types' → Extends (layout_of types) (layout_of types')
layout_grown types types' grows = record { keeps = λ t l e. keeps_layout types types' grows t (ap (λ o. is_some o) e) ∙ e }

pub added_sound : (keys : List Key) (types : List Node) (n : Node) → IsInterned keys types → HasPartsBelow (length types) n → (extents : List (Option Extent)) (x : Option Extent) → length extents ≡ length types → AreKept extents (layout_of types) → IsMeasured x (layout_of_node types (layout_of types) n) → IsSound (types ++ (n ∷ [])) (extents ++ (x ∷ []))
added_sound keys types n table below extents x same k m = record {
  sound = λ t e h. elim (cases_lt t (length extents)) [
    | inl before ↦ (sound_grows types (types ++ (n ∷ [])) extents (grows_at_end keys types n table) k).sound t e (sym (kept_front extents x t before) ∙ h)
    | inr after ↦ elim (cases_eq t (length extents)) [
      | inl last ↦ (
          let is : x ≡ Some e = sym (kept_last extents x) ∙ ap (λ v. kept_at (extents ++ (x ∷ [])) v) (sym last) ∙ h in
          last_sound t e (last ∙ same) (layout_of_node types (layout_of types) n) refl (subst (λ o. IsMeasured o (layout_of_node types (layout_of types) n)) is m))
      | inr past ↦ absurd (none_some e (sym (kept_past extents x t (omega arith)) ∙ h))
    ]
  ];
}
  where
    none_some : (e : Extent) → None ≡ Some e → ⊥
    none_some e h = cc

    last_sound : (t : ℕ) (e : Extent) → t ≡ length types → (o : Option Layout) → layout_of_node types (layout_of types) n ≡ o → IsMeasured (Some e) o → IsMeasured (Some e) (layout_of (types ++ (n ∷ [])) t)
    last_sound t e last None h m = absurd m
    last_sound t e last (Some l) h m =
        let at : slice_get (types ++ (n ∷ [])) t ≡ Some n = ap (λ v. slice_get (types ++ (n ∷ [])) v) last ∙ get_end types n in
        subst (λ o. IsMeasured (Some e) o) (sym (layout_unfolds (types ++ (n ∷ [])) t n at ∙ node_keeps types (types ++ (n ∷ [])) (layout_of types) (layout_of (types ++ (n ∷ []))) (grows_at_end keys types n table) (layout_grown types (types ++ (n ∷ [])) (grows_at_end keys types n table)) n (height_added keys types n table n below) l h)) m

-- an element that was put at a list's end and taken off again
pub taken_off : {A : Type 0} (xs ys zs : List A) (x : A) (n : ℕ) → ys ≡ xs ++ (x ∷ []) → zs ≡ take (n - 1) ys → n ≡ length xs + 1 → zs ≡ xs
taken_off xs ys zs x n grown rest count = rest ∙ ap (λ l. take (n - 1) l) grown ∙ take_at xs (x ∷ []) (n - 1) (omega arith)

-- what is kept of a type is that of its layout
pub kept_measures : (types : List Node) (extents : List (Option Extent)) (t : ℕ) (o : Option Extent) → AreKept extents (layout_of types) → o ≡ kept_at extents t → IsMeasured o (layout_of types t)
kept_measures types extents t o k e = subst (λ x. IsMeasured x (layout_of types t)) (sym e) (k.each t)
