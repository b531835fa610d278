-- What a table keeps stays right when a type is added, and when one gets its parts.
use Rattle.std.proofs.Common.{◌≡◌, ◌≢◌, ℕ, zero, suc, ◌+◌, ◌<◌, ◌≤◌, List, [], ◌∷◌, ◌++◌, Option, Some, None, Result, Ok, Err, IfOk, IfErr, get_or, length, slice_get, slice_set, refl, sym, ◌∙◌, ap, subst, arith, inl, inr, ◌⊎◌}
use Rattle.std.proofs.lemmas.Bool.{cases_eq}
use Rattle.std.proofs.lemmas.Option.{slice_get_within}
use Rattle.std.proofs.lemmas.List.{length-append, length-set}
use Rattle.odc_types.specs.declared.ty.TyId.{TyId}
use Rattle.odc_types.specs.declared.key.Key.{Key}
use Rattle.odc_types.specs.declared.extent.Extent.{Extent}
use Rattle.odc_types.specs.declared.measure.Missing.{Missing}
use Rattle.odc_types.specs.declared.waiter.Waiters.{Waiters}
use Rattle.odc_types.specs.Nodes.{Node}
use Rattle.odc_types.specs.Identity.{identity_of, identity_of_node}
use Rattle.odc_types.specs.Parts.{HasPartsBelow, IsUndefined}
use Rattle.odc_types.specs.Keys.{IsKeyOf}
use Rattle.odc_types.specs.Interned.{IsInterned, IsFresh}
use Rattle.odc_types.specs.Heights.{AreHeights, clipped, height_of_node}
use Rattle.odc_types.specs.Layout.{Layout, layout_of, layout_of_node}
use Rattle.odc_types.specs.Clipped.{IsMeasured, kept_at, AreKept}
use Rattle.odc_types.specs.Measured.{is_undefined, IsBlocked, Waits, AreLonger, waiters_at, IsWaiting, IsMeasuredTable, IsTable, IsFounded, IsSound, IsListed, IsPending, listed, here, IsStanding, IsSpreading, extent_in, seen}
use Rattle.odc_types.proofs.InternedLaws.{get_last, interned_added, interned_defined, added_identity}
use Rattle.odc_types.proofs.Lists.{get_elsewhere}
use Rattle.odc_types.proofs.LayoutLaws.{Grows, grows_at_end, grows_by_parts, undefined_is, layout_unfolds}
use Rattle.odc_types.proofs.MeasuredLaws.{IsDone, all_kept, seen_kept, added_sound, sound_grows, kept_front, kept_last, none_is, undefined_none}
use Rattle.odc_types.proofs.BlockedLaws.{IsSteady, blocked_none, blocked_inside, blocked_stays, blocked_on, undefined_blocked, steady_at_end, steady_by_parts}
use Rattle.odc_types.proofs.MeasureLemmas.{err_as}
use Rattle.odc_types.proofs.HeightLaws.{founded, heights_added, heights_defined}
use Rattle.odc_types.proofs.SpreadLaws.{none_told, waits_longer, longer_on}

-- all extents are kept where each type without one waits
pub waiting_kept : (types : List Node) (extents : List (Option Extent)) (waiters : List Waiters) → IsSound types extents → ((t : ℕ) (n : Node) → slice_get types t ≡ Some n → kept_at extents t ≡ None → IsWaiting types extents waiters t n) → AreKept extents (layout_of types)
waiting_kept types extents waiters sound waits = all_kept types extents sound (record {
  done = λ t n at none. (let w = waits t n at none in blocked_none types extents (seen types extents) t w.part n (seen_kept types extents sound) w.blocked);
})

beyond : (p : ℕ) → p ≢ suc p
beyond p e = absurd (omega arith)

-- what was found of a new type
pub record IsFound (types : List Node) (extents : List (Option Extent)) (waiters : List Waiters) (n : Node) (found : Result Extent Missing) : Type 0 where
  pub ok : (e : Extent) → found ≡ Ok e → IsMeasured (Some e) (layout_of_node types (layout_of types) n)
  pub err : (m : Missing) → found ≡ Err m → IsBlocked types extents (length types) n m.part.index × Waits waiters m.part.index (length types)

-- one more type
pub measured_added : (keys : List Key) (types : List Node) (extents : List (Option Extent)) (ws vs : List Waiters) (n : Node) (found : Result Extent Missing) → IsInterned keys types → IsMeasuredTable types extents ws → HasPartsBelow (length types) n →
    IsFound types extents vs n found → AreLonger ws vs → length vs ≡ length ws + 1 → IsMeasuredTable (types ++ (n ∷ [])) (extents ++ (extent_in found ∷ [])) vs
measured_added keys types extents ws vs n found table m below f longer count = record {
  same = length-append extents (extent_in found ∷ []) ∙ ap (λ k. k + 1) m.same ∙ sym (length-append types (n ∷ []));
  lists = count ∙ ap (λ k. k + 1) m.lists ∙ sym (length-append types (n ∷ []));
  kept = waiting_kept (types ++ (n ∷ [])) (extents ++ (extent_in found ∷ [])) vs sound waits;
  waits = waits;
}
  where
    measures : (r : Result Extent Missing) → found ≡ r → IsMeasured (extent_in r) (layout_of_node types (layout_of types) n)
    measures (Ok e) is = f.ok e is
    measures (Err x) is = subst (λ o. IsMeasured None o) (sym (blocked_none types extents (layout_of types) (length types) x.part.index n m.kept (f.err x is).0)) tt

    sound : IsSound (types ++ (n ∷ [])) (extents ++ (extent_in found ∷ []))
    sound = added_sound keys types n table below extents (extent_in found) m.same m.kept (measures found refl)

    stays : (t p : ℕ) (o : Node) → HasPartsBelow (length types) o → (p < length types) ⊎ ((p ≡ length types) × (extent_in found ≡ None)) → IsBlocked types extents t o p → IsBlocked (types ++ (n ∷ [])) (extents ++ (extent_in found ∷ [])) t o p
    stays t p o inside where_is b =
        blocked_stays types (types ++ (n ∷ [])) extents (extents ++ (extent_in found ∷ [])) (suc p) t p o (steady_at_end types n (suc p)) (grows_at_end keys types n table) table.parts inside (beyond p)
        (λ none. elim where_is [
          | inl before ↦ (let same = m.same in kept_front extents (extent_in found) p (omega arith) ∙ none)
          | inr last ↦ ap (λ k. kept_at (extents ++ (extent_in found ∷ [])) k) (last.0 ∙ sym m.same) ∙ kept_last extents (extent_in found) ∙ last.1
        ]) b

    front : (t : ℕ) (o : Node) → slice_get types t ≡ Some o → kept_at (extents ++ (extent_in found ∷ [])) t ≡ None → IsWaiting (types ++ (n ∷ [])) (extents ++ (extent_in found ∷ [])) vs t o
    front t o at none =
        let inside = slice_get_within types t o at in
        let same = m.same in
        let w = m.waits t o at (sym (kept_front extents (extent_in found) t (omega arith)) ∙ none) in
        record {
          part = w.part;
          blocked = stays t w.part o (table.parts t o at) (elim (blocked_inside types extents t w.part o table.parts (table.parts t o at) w.blocked) [ inl before ↦ inl before | inr same ↦ inl (omega arith) ]) w.blocked;
          waits = waits_longer ws vs w.part t longer w.waits;
        }

    last_waits : (r : Result Extent Missing) → found ≡ r → extent_in found ≡ None → IsWaiting (types ++ (n ∷ [])) (extents ++ (extent_in found ∷ [])) vs (length types) n
    last_waits (Ok e) is none = absurd (some_none e (sym (ap extent_in is) ∙ none))
      where
        some_none : (e : Extent) → Some e ≡ None → ⊥
        some_none e h = cc
    last_waits (Err x) is none =
        let b = f.err x is in
        record {
          part = x.part.index;
          blocked = stays (length types) x.part.index n below (elim (blocked_inside types extents (length types) x.part.index n table.parts below b.0) [ inl before ↦ inl before | inr same ↦ inr (same, none) ]) b.0;
          waits = b.1;
        }

    waits : (t : ℕ) (o : Node) → slice_get (types ++ (n ∷ [])) t ≡ Some o → kept_at (extents ++ (extent_in found ∷ [])) t ≡ None → IsWaiting (types ++ (n ∷ [])) (extents ++ (extent_in found ∷ [])) vs t o
    waits t o at none = elim (get_last types n o t at) [
      | inl before ↦ front t o before none
      | inr last ↦ (
          let gone : extent_in found ≡ None = sym (kept_last extents (extent_in found)) ∙ ap (λ k. kept_at (extents ++ (extent_in found ∷ [])) k) (m.same ∙ sym last.0) ∙ none in
          subst (λ k. IsWaiting (types ++ (n ∷ [])) (extents ++ (extent_in found ∷ [])) vs k o) (sym last.0)
          (subst (λ q. IsWaiting (types ++ (n ∷ [])) (extents ++ (extent_in found ∷ [])) vs (length types) q) last.1 (last_waits found refl gone)))
    ]

-- the same lists but longer, or other extents that are the same one by one
pub measured_again : (types : List Node) (old new : List (Option Extent)) (ws vs : List Waiters) → IsMeasuredTable types old ws → length new ≡ length old → length vs ≡ length ws → ((u : ℕ) → kept_at new u ≡ kept_at old u) → AreLonger ws vs → IsMeasuredTable types new vs
measured_again types old new ws vs m same count kept longer = record {
  same = same ∙ m.same;
  lists = count ∙ m.lists;
  kept = record { each = λ t. subst (λ o. IsMeasured o (layout_of types t)) (sym (kept t)) (m.kept.each t) };
  waits = λ t n at none. (
      let w = m.waits t n at (sym (kept t) ∙ none) in
      record { part = w.part; blocked = blocked_on types old new t w.part n (λ h. kept w.part ∙ h) w.blocked; waits = waits_longer ws vs w.part t longer w.waits });
}

-- a type got its parts: nothing is told yet, and all that wait for it are to be looked at
pub define_begins : (keys : List Key) (types : List Node) (extents : List (Option Extent)) (waiters : List Waiters) (i : ℕ) (again : Node) → IsInterned keys types → IsMeasuredTable types extents waiters → IsUndefined types (slice_get types i) again →
    IsSpreading (slice_set types i again) extents extents waiters [] 0 i 0 (length (waiters_at waiters i))
define_begins keys types extents waiters i again table m u = record {
  told = none_told extents;
  sound = sound_grows types (slice_set types i again) extents grows m.kept;
  within = omega arith;
  stands = λ t n found none. elim (cases_eq t i) [
    | inl same ↦ own t n same none
    | inr other ↦ (let at = sym (get_elsewhere types i t again other) ∙ found in others t n at none)
  ];
}
  where
    grows : Grows types (slice_set types i again)
    grows = grows_by_parts types i again u

    pending : (t : ℕ) (n : Node) (p : ℕ) → p ≡ i → Waits waiters p t → IsStanding (slice_set types i again) extents waiters [] 0 i 0 (length (waiters_at waiters i)) t n
    pending t n p same w =
        let inside = slice_get_within (waiters_at waiters p) w.at w.waiter w.there in
        let bound = ap (λ k. length (waiters_at waiters k)) same in
        record { part = p; waits = w; stands = inr (here same (omega arith) (omega arith)) }

    others : (t : ℕ) (n : Node) → slice_get types t ≡ Some n → kept_at extents t ≡ None → IsStanding (slice_set types i again) extents waiters [] 0 i 0 (length (waiters_at waiters i)) t n
    others t n at none =
        let w = m.waits t n at none in
        elim (cases_eq w.part i) [
          | inl same ↦ pending t n w.part same w.waits
          | inr other ↦ record {
            part = w.part;
            waits = w.waits;
            stands = inl (blocked_stays types (slice_set types i again) extents extents i t w.part n (steady_by_parts types i again u) grows table.parts (table.parts t n at) other (λ h. h) w.blocked);
          }
        ]

    own_by : (o : Option Node) → slice_get types i ≡ o → IsUndefined types o again → (t : ℕ) (n : Node) → t ≡ i → kept_at extents t ≡ None → IsStanding (slice_set types i again) extents waiters [] 0 i 0 (length (waiters_at waiters i)) t n
    own_by None at u t n same none = absurd u
    own_by (Some before) at u t n same none =
        let w = m.waits t before (ap (λ k. slice_get types k) same ∙ at) none in
        pending t n w.part (undefined_blocked types extents t w.part before (undefined_is types before again u) w.blocked ∙ same) w.waits

    own : (t : ℕ) (n : Node) → t ≡ i → kept_at extents t ≡ None → IsStanding (slice_set types i again) extents waiters [] 0 i 0 (length (waiters_at waiters i)) t n
    own t n same none = own_by (slice_get types i) refl u t n same none

-- a type without its parts has no extent
pub undefined_unkept : (types : List Node) (extents : List (Option Extent)) (waiters : List Waiters) (i : ℕ) (again : Node) → IsMeasuredTable types extents waiters → IsUndefined types (slice_get types i) again → kept_at extents i ≡ None
undefined_unkept types extents waiters i again m u = by (slice_get types i) refl u
  where
    none_by : (o : Option Extent) → IsMeasured o None → o ≡ None
    none_by None h = refl
    none_by (Some e) h = absurd h

    by : (o : Option Node) → slice_get types i ≡ o → IsUndefined types o again → kept_at extents i ≡ None
    by None at u = absurd u
    by (Some n) at u =
        let none : layout_of types i ≡ None = layout_unfolds types i n at ∙ undefined_none types (layout_of types) n (undefined_is types n again u) in
        none_by (kept_at extents i) (subst (λ o. IsMeasured (kept_at extents i) o) none (m.kept.each i))

-- and all was told
pub define_ends : (types : List Node) (old new : List (Option Extent)) (ws vs : List Waiters) (fresh : List TyId) → length old ≡ length types → length ws ≡ length types → length vs ≡ length ws → IsSpreading types old new vs fresh (length fresh) 0 0 0 → IsMeasuredTable types new vs
define_ends types old new ws vs fresh same lists len s = record {
  same = s.told.same ∙ same;
  lists = len ∙ lists;
  kept = waiting_kept types new vs s.sound waits;
  waits = waits;
}
  where
    by : (t : ℕ) (n : Node) → (st : IsStanding types new vs fresh (length fresh) 0 0 0 t n) → IsBlocked types new t n st.part ⊎ IsPending fresh (length fresh) 0 0 0 st.part st.waits.at → IsWaiting types new vs t n
    by t n st (inl b) = record { part = st.part; blocked = b; waits = st.waits }
    by t n st (inr (listed l)) = (let inside = slice_get_within fresh l.at l.id l.there in let past = l.past in absurd (omega arith))
    by t n st (inr (here e h l)) = absurd (omega arith)

    waits : (t : ℕ) (n : Node) → slice_get types t ≡ Some n → kept_at new t ≡ None → IsWaiting types new vs t n
    waits t n at none = (let st = s.stands t n at none in by t n st st.stands)

-- what measuring tells of a new type
pub found_as : (types ts : List Node) (extents es : List (Option Extent)) (vs : List Waiters) (n : Node) (id : ℕ) (found : Result Extent Missing) → ts ≡ types → es ≡ extents → id ≡ length types → AreKept extents (layout_of types) →
    IfOk found (λ e. (part : ℕ → Option Layout) → AreKept es part → IsMeasured (Some e) (layout_of_node ts part n)) → IfErr found (λ m. IsBlocked ts es id n m.part.index) → IfErr found (λ m. Waits vs m.part.index id) → IsFound types extents vs n found
found_as types ts extents es vs n id found t s same k ok err waits = record {
  ok = λ e is. (let told = subst (λ r. IfOk r (λ e. (part : ℕ → Option Layout) → AreKept es part → IsMeasured (Some e) (layout_of_node ts part n))) is ok in
      subst (λ l. IsMeasured (Some e) (layout_of_node l (layout_of types) n)) t (told (layout_of types) (subst (λ l. AreKept l (layout_of types)) (sym s) k)));
  err = λ m is. (
      let blocked = subst (λ r. IfErr r (λ m. IsBlocked ts es id n m.part.index)) is err in
      let listed = subst (λ r. IfErr r (λ m. Waits vs m.part.index id)) is waits in
      (subst (λ k. IsBlocked types extents k n m.part.index) same (subst (λ l. IsBlocked types l id n m.part.index) s (subst (λ l. IsBlocked l es id n m.part.index) t blocked)), subst (λ k. Waits vs m.part.index k) same listed));
}

-- what a new type waits for is in the table, or the type itself
pub found_within : (keys : List Key) (types ts : List Node) (extents es : List (Option Extent)) (n : Node) (id count : ℕ) (found : Result Extent Missing) → ts ≡ types → es ≡ extents → id ≡ length types → count ≡ length types → IsInterned keys types → HasPartsBelow (length types) n →
    IfErr found (λ m. IsBlocked ts es id n m.part.index) → IfErr found (λ m. m.part.index ≤ count)
found_within keys types ts extents es n id count found t s same counts table below err =
    err_as found _ _
    (λ (m : Missing) b.
    let blocked = subst (λ l. IsBlocked types l id n m.part.index) s (subst (λ l. IsBlocked l es id n m.part.index) t b) in
    elim (blocked_inside types extents id m.part.index n table.parts below blocked) [ inl before ↦ omega arith | inr last ↦ omega arith ])
    err

-- a table whose lists of those that wait got longer
pub table_again : (keys : List Key) (types : List Node) (heights heights' : List ℕ) (extents extents' : List (Option Extent)) (ws vs : List Waiters) → IsTable keys types heights extents ws → heights' ≡ heights → extents' ≡ extents → length vs ≡ length ws → AreLonger ws vs → IsTable keys types heights' extents' vs
table_again keys types heights heights' extents extents' ws vs t h e count longer = record {
  interned = t.interned;
  high = subst (AreHeights types) (sym h) t.high;
  measured = measured_again types extents extents' ws vs t.measured (ap length e) count (λ u. ap (λ es. kept_at es u) e) longer;
}

-- a table with one more type
pub table_added : (keys : List Key) (types : List Node) (heights : List ℕ) (extents : List (Option Extent)) (ws vs : List Waiters) (k : Key) (n : Node) (x : ℕ) (found : Result Extent Missing) → IsTable keys types heights extents ws → IsKeyOf k n → HasPartsBelow (length types) n → IsFresh types n →
    x ≡ clipped (height_of_node types n) → IsFound types extents vs n found → AreLonger ws vs → length vs ≡ length ws + 1 → IsTable (keys ++ (k ∷ [])) (types ++ (n ∷ [])) (heights ++ (x ∷ [])) (extents ++ (extent_in found ∷ [])) vs
table_added keys types heights extents ws vs k n x found t key below fresh high f longer count = record {
  interned = interned_added keys types k n t.interned key below fresh;
  high = heights_added keys types heights n x t.interned t.high high (added_identity keys types k n t.interned key below fresh);
  measured = measured_added keys types extents ws vs n found t.interned t.measured below f longer count;
}

-- what a type that gets its parts is measured over
pub define_founded : (keys : List Key) (types : List Node) (heights : List ℕ) (extents : List (Option Extent)) (ws : List Waiters) (i : ℕ) (again : Node) → IsTable keys types heights extents ws → HasPartsBelow (length types) again → IsUndefined types (slice_get types i) again → IsFounded (slice_set types i again) heights
define_founded keys types heights extents ws i again t below u = founded keys (slice_set types i again) heights (interned_defined keys types i again t.interned below u) (heights_defined types heights i again u t.high)

pub define_sound : (keys : List Key) (types : List Node) (heights : List ℕ) (extents : List (Option Extent)) (ws : List Waiters) (i : ℕ) (again : Node) → IsTable keys types heights extents ws → IsUndefined types (slice_get types i) again → IsSound (slice_set types i again) extents
define_sound keys types heights extents ws i again t u = sound_grows types (slice_set types i again) extents (grows_by_parts types i again u) t.measured.kept

-- a table in which a type got its parts
pub table_defined : (keys : List Key) (types : List Node) (heights heights' : List ℕ) (extents new : List (Option Extent)) (ws vs : List Waiters) (fresh : List TyId) (i : ℕ) (again : Node) → IsTable keys types heights extents ws → HasPartsBelow (length types) again → IsUndefined types (slice_get types i) again →
    heights' ≡ heights → length vs ≡ length ws →
    (IsSpreading (slice_set types i again) extents extents ws [] 0 i 0 (length (waiters_at ws i)) → IsSpreading (slice_set types i again) extents new vs fresh (length fresh) 0 0 0) → IsTable keys (slice_set types i again) heights' new vs
table_defined keys types heights heights' extents new ws vs fresh i again t below u h count goes = record {
  interned = interned_defined keys types i again t.interned below u;
  high = subst (AreHeights (slice_set types i again)) (sym h) (heights_defined types heights i again u t.high);
  measured = define_ends (slice_set types i again) extents new ws vs fresh (t.measured.same ∙ sym (length-set types i again)) (t.measured.lists ∙ sym (length-set types i again)) count (goes (define_begins keys types extents ws i again t.interned t.measured u));
}

-- a table in which nothing was changed after all
pub table_kept : (keys : List Key) (types : List Node) (heights heights' : List ℕ) (extents new : List (Option Extent)) (ws vs : List Waiters) → IsTable keys types heights extents ws → heights' ≡ heights → length new ≡ length extents → length vs ≡ length ws → ((u : ℕ) → kept_at new u ≡ kept_at extents u) → AreLonger ws vs → IsTable keys types heights' new vs
table_kept keys types heights heights' extents new ws vs t h same count kept longer = record {
  interned = t.interned;
  high = subst (AreHeights types) (sym h) t.high;
  measured = measured_again types extents new ws vs t.measured same count kept longer;
}

pub undefined_within : (types : List Node) (i : ℕ) (again : Node) → IsUndefined types (slice_get types i) again → i < length types
undefined_within types i again u = by (slice_get types i) refl u
  where
    by : (o : Option Node) → slice_get types i ≡ o → IsUndefined types o again → i < length types
    by None at u = absurd u
    by (Some n) at u = slice_get_within types i n at

-- an element that was changed and put back
pub set_back : {A : Type 0} (xs : List A) (i : ℕ) (x y : A) → x ≡ get_or xs i x → slice_set (slice_set xs i y) i x ≡ xs
set_back [] i x y e = refl
set_back (z ∷ xs) zero x y e = ap (λ w. w ∷ xs) e
set_back (z ∷ xs) (suc i) x y e = ap (λ ws. z ∷ ws) (set_back xs i x y e)
