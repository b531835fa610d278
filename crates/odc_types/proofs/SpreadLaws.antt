-- What is known of a type is told to those that wait for it, until all that can be measured is measured.
use Rattle.std.proofs.Common.{◌≡◌, ◌≢◌, ℕ, zero, suc, ◌+◌, ◌-◌, ◌<◌, ◌≤◌, List, [], ◌∷◌, ◌++◌, Option, Some, None, Result, Ok, Err, OnOk, length, slice_get, slice_set, get_or, take, refl, sym, ◌∙◌, ap, subst, arith, inl, inr, ◌⊎◌}
use Rattle.std.proofs.lemmas.Bool.{cases_lt, cases_eq}
use Rattle.std.proofs.lemmas.Option.{slice_get_within, slice_get-get_or}
use Rattle.std.proofs.lemmas.List.{length-append, length-set}
use Rattle.std.proofs.lemmas.List.Sums.{sum_by-set}
use Rattle.odc_types.specs.declared.ty.TyId.{TyId}
use Rattle.odc_types.specs.declared.extent.Extent.{Extent}
use Rattle.odc_types.specs.declared.waiter.Waiter.{Waiter}
use Rattle.odc_types.specs.declared.waiter.Waiters.{Waiters}
use Rattle.odc_types.specs.Nodes.{Node}
use Rattle.odc_types.specs.Clipped.{kept_at}
use Rattle.odc_types.specs.Measured.{IsBlocked, IsSound, Waits, AreLonger, waiters_at, list_of, IsEntered, in_other, in_own, IsTold, nothing, told, AreTold, IsListed, IsPending, listed, here, IsStanding, IsSpreading, IsAnswered, gap, gaps}
use Rattle.odc_types.proofs.IdentityLaws.{get_end}
use Rattle.odc_types.proofs.InternedLaws.{get_last}
use Rattle.odc_types.proofs.Lists.{get_front}
use Rattle.odc_types.proofs.MeasuredLaws.{kept_changed, kept_elsewhere, gaps_changed}
use Rattle.odc_types.proofs.BlockedLaws.{blocked_on}

-- nothing told yet
pub none_told : (begun : List (Option Extent)) → AreTold begun begun []
none_told begun = record {
  same = refl;
  count = omega arith;
  had_none = λ u l. absurd (let h = slice_get_within [] l.at l.id l.there in omega arith);
  each = λ u. inl refl;
}

pub told_same : (old new : List (Option Extent)) (before after : List TyId) (t : TyId) → IsTold old new before after t → length new ≡ length old
told_same old new before after t (nothing e f) = ap length e
told_same old new before after t (told x inside none e f) = ap length e ∙ length-set old t.index (Some x)

pub told_count : (old new : List (Option Extent)) (before after : List TyId) (t : TyId) → IsTold old new before after t → gaps new + length after ≡ gaps old + length before
told_count old new before after t (nothing e f) = let a = ap gaps e in let b = ap length f in omega arith
told_count old new before after t (told x inside none e f) =
    let a = ap gaps e in
    let b = ap length f ∙ length-append before (t ∷ []) in
    let c = gaps_changed old t.index x inside none in
    omega arith

pub told_none : (old new : List (Option Extent)) (before after : List TyId) (t : TyId) → IsTold old new before after t → (u : ℕ) → kept_at new u ≡ None → kept_at old u ≡ None
told_none old new before after t (nothing e f) u h = ap (λ es. kept_at es u) (sym e) ∙ h
told_none old new before after t (told x inside none e f) u h = elim (cases_eq u t.index) [
  | inl same ↦ ap (λ v. kept_at old v) same ∙ none
  | inr other ↦ sym (kept_elsewhere old t.index u (Some x) other) ∙ ap (λ es. kept_at es u) (sym e) ∙ h
]

-- a listed type is listed in a longer list
pub listed_longer : (fresh more : List TyId) (from u : ℕ) → IsListed fresh from u → IsListed (fresh ++ more) from u
listed_longer fresh more from u l = record { at = l.at; id = l.id; there = get_front fresh more l.at l.id l.there; past = l.past; is = l.is }

listed_last : (fresh : List TyId) (t : TyId) (from : ℕ) → from ≤ length fresh → IsListed (fresh ++ (t ∷ [])) from t.index
listed_last fresh t from h = record { at = length fresh; id = t; there = get_end fresh t; past = h; is = refl }

listed_told : (old new : List (Option Extent)) (before after : List TyId) (t : TyId) → IsTold old new before after t → (from u : ℕ) → IsListed before from u → IsListed after from u
listed_told old new before after t (nothing e f) from u l = subst (λ ts. IsListed ts from u) (sym f) l
listed_told old new before after t (told x inside none e f) from u l = subst (λ ts. IsListed ts from u) (sym f) (listed_longer before (t ∷ []) from u l)

each_before : (begun old : List (Option Extent)) (fresh : List TyId) (t : ℕ) → AreTold begun old fresh → kept_at old t ≡ None → kept_at begun t ≡ None
each_before begun old fresh t a none = elim (a.each t) [ inl same ↦ sym same ∙ none | inr l ↦ l.0 ]

-- one more type told
pub told_on : (begun old new : List (Option Extent)) (before after : List TyId) (t : TyId) → IsTold old new before after t → AreTold begun old before → AreTold begun new after
told_on begun old new before after t (nothing e f) a = subst (λ ts. AreTold begun new ts) (sym f) (subst (λ es. AreTold begun es before) (sym e) a)
told_on begun old new before after t (told x inside none e f) a = record {
  same = told_same old new before after t (told x inside none e f) ∙ a.same;
  count = told_count old new before after t (told x inside none e f) ∙ a.count;
  had_none = λ u l. had u (subst (λ ts. IsListed ts 0 u) f l);
  each = λ u. elim (cases_eq u t.index) [
    | inl same ↦ inr (ap (λ v. kept_at begun v) same ∙ each_before begun old before t.index a none, subst (λ v. IsListed after 0 v) (sym same) (subst (λ ts. IsListed ts 0 t.index) (sym f) (listed_last before t 0 (omega arith))))
    | inr other ↦ elim (a.each u) [
      | inl same ↦ inl (ap (λ es. kept_at es u) e ∙ kept_elsewhere old t.index u (Some x) other ∙ same)
      | inr l ↦ inr (l.0, listed_told old new before after t (told x inside none e f) 0 u l.1)
    ]
  ];
}
  where
    had : (u : ℕ) → IsListed (before ++ (t ∷ [])) 0 u → kept_at begun u ≡ None
    had u l = elim (get_last before t l.id l.at l.there) [
      | inl front ↦ a.had_none u (record { at = l.at; id = l.id; there = front; past = l.past; is = l.is })
      | inr last ↦ ap (λ v. kept_at begun v) (sym l.is ∙ ap (λ (y : TyId). y.index) (sym last.1)) ∙ each_before begun old before t.index a none
    ]

pub longer_same : (ws : List Waiters) → AreLonger ws ws
longer_same ws = record { keeps = λ p at w h. h }

pub longer_on : (a b c : List Waiters) → AreLonger a b → AreLonger b c → AreLonger a c
longer_on a b c x y = record { keeps = λ p at w h. y.keeps p at w (x.keeps p at w h) }

abbrev pub waits_longer : (old new : List Waiters) (p t : ℕ) → AreLonger old new → Waits old p t → Waits new p t
waits_longer old new p t l w = record { at = w.at; waiter = w.waiter; there = l.keeps p w.at w.waiter w.there; is = w.is }

some_less : (a b : ℕ) → a ≤ b → a ≢ b → suc a ≤ b
some_less a b h n = omega arith

-- one of those that wait was looked at
pub spread_on : (types : List Node) (begun old new : List (Option Extent)) (before after : List Waiters) (was fresh : List TyId) (done k at last : ℕ) (w : Waiter) → IsSpreading types begun old before was done k at last → slice_get (waiters_at before k) at ≡ Some w →
    IsTold old new was fresh w.ty → IsSound types new → AreLonger before after → ((n : Node) → slice_get types w.ty.index ≡ Some n → kept_at new w.ty.index ≡ None → IsAnswered types new after k w.ty.index n) → IsSpreading types begun new after fresh done k (at + 1) last
spread_on types begun old new before after was fresh done k at last w s there change sound longer ok = record {
  told = told_on begun old new was fresh w.ty change s.told;
  sound = sound;
  within = (let h = s.within in let more = front_length change in omega arith);
  stands = λ t n found none. (let st = s.stands t n found (told_none old new was fresh w.ty change t none) in by t n found none st st.stands);
}
  where
    front_length : IsTold old new was fresh w.ty → length was ≤ length fresh
    front_length (nothing e f) = let h = ap length f in omega arith
    front_length (told x inside n e f) = let h = ap length f ∙ length-append was (w.ty ∷ []) in omega arith

    blocked_part : (t p : ℕ) (n : Node) (x : ℕ) → IsTold old new was fresh w.ty → IsBlocked types old t n p → IsBlocked types new t n p ⊎ IsPending fresh done k (at + 1) last p x
    blocked_part t p n x (nothing e f) b = inl (subst (λ es. IsBlocked types es t n p) (sym e) b)
    blocked_part t p n x (told y inside none e f) b = elim (cases_eq p w.ty.index) [
      | inl same ↦ inr (listed (subst (λ v. IsListed fresh done v) (sym same) (subst (λ ts. IsListed ts done w.ty.index) (sym f) (listed_last was w.ty done s.within))))
      | inr other ↦ inl (blocked_on types old new t p n (λ none. ap (λ es. kept_at es p) e ∙ kept_elsewhere old w.ty.index p (Some y) other ∙ none) b)
    ]

    answered : (t : ℕ) (n : Node) → t ≡ w.ty.index → slice_get types t ≡ Some n → kept_at new t ≡ None → IsAnswered types new after k t n
    answered t n same found none = subst (λ v. IsAnswered types new after k v n) (sym same) (ok n (ap (λ v. slice_get types v) (sym same) ∙ found) (ap (λ v. kept_at new v) (sym same) ∙ none))

    by : (t : ℕ) (n : Node) → slice_get types t ≡ Some n → kept_at new t ≡ None → (st : IsStanding types old before was done k at last t n) → IsBlocked types old t n st.part ⊎ IsPending was done k at last st.part st.waits.at → IsStanding types new after fresh done k (at + 1) last t n
    by t n found none st (inl b) = record { part = st.part; waits = waits_longer before after st.part t longer st.waits; stands = blocked_part t st.part n st.waits.at change b }
    by t n found none st (inr (listed l)) = record { part = st.part; waits = waits_longer before after st.part t longer st.waits; stands = inr (listed (listed_told old new was fresh w.ty change done st.part l)) }
    by t n found none st (inr (here e h l)) = elim (cases_eq at st.waits.at) [
      | inl same ↦ (
          let both : Some w ≡ Some st.waits.waiter = sym there ∙ ap (λ x. slice_get (waiters_at before k) x) same ∙ ap (λ v. slice_get (waiters_at before v) st.waits.at) (sym e) ∙ st.waits.there in
          let one : w ≡ st.waits.waiter = cc in
          let is : t ≡ w.ty.index = sym st.waits.is ∙ ap (λ (y : Waiter). y.ty.index) (sym one) in
          let a = answered t n is found none in
          elim a.waits [
            | inl event ↦ record {
              part = k;
              waits = subst (λ v. Waits after v t) e (waits_longer before after st.part t longer st.waits);
              stands = inl (subst (λ v. IsBlocked types new t n v) event a.blocked);
            }
            | inr waits ↦ record { part = a.part; waits = waits; stands = inl a.blocked }
          ])
      | inr other ↦ record { part = st.part; waits = waits_longer before after st.part t longer st.waits; stands = inr (here e (let less = some_less at st.waits.at h other in omega arith) l) }
    ]

-- there is none at this place
pub spread_past : (types : List Node) (begun extents : List (Option Extent)) (waiters : List Waiters) (fresh : List TyId) (done k at last : ℕ) → IsSpreading types begun extents waiters fresh done k at last → slice_get (waiters_at waiters k) at ≡ None → IsSpreading types begun extents waiters fresh done k (at + 1) last
spread_past types begun extents waiters fresh done k at last s gone = record {
  told = s.told;
  sound = s.sound;
  within = s.within;
  stands = λ t n found none. (let st = s.stands t n found none in by t n st st.stands);
}
  where
    by : (t : ℕ) (n : Node) → (st : IsStanding types extents waiters fresh done k at last t n) → IsBlocked types extents t n st.part ⊎ IsPending fresh done k at last st.part st.waits.at → IsStanding types extents waiters fresh done k (at + 1) last t n
    by t n st (inl b) = record { part = st.part; waits = st.waits; stands = inl b }
    by t n st (inr (listed l)) = record { part = st.part; waits = st.waits; stands = inr (listed l) }
    by t n st (inr (here e h l)) = elim (cases_eq at st.waits.at) [
      | inl same ↦ (
          let both : None ≡ Some st.waits.waiter = sym gone ∙ ap (λ x. slice_get (waiters_at waiters k) x) same ∙ ap (λ v. slice_get (waiters_at waiters v) st.waits.at) (sym e) ∙ st.waits.there in
          absurd (none_some st.waits.waiter both))
      | inr other ↦ record { part = st.part; waits = st.waits; stands = inr (here e (let less = some_less at st.waits.at h other in omega arith) l) }
    ]
      where
        none_some : (x : Waiter) → None ≡ Some x → ⊥
        none_some x e = cc

-- those that wait for another type are next
pub spread_next : (types : List Node) (begun extents : List (Option Extent)) (waiters : List Waiters) (fresh : List TyId) (done : ℕ) (part : TyId) (last : ℕ) → IsSpreading types begun extents waiters fresh done 0 0 0 → slice_get fresh done ≡ Some part → last ≡ length (waiters_at waiters part.index) →
    IsSpreading types begun extents waiters fresh (done + 1) part.index 0 last
spread_next types begun extents waiters fresh done part last s there count = record {
  told = s.told;
  sound = s.sound;
  within = (let h = slice_get_within fresh done part there in omega arith);
  stands = λ t n found none. (let st = s.stands t n found none in by t n st st.stands);
}
  where
    by : (t : ℕ) (n : Node) → (st : IsStanding types extents waiters fresh done 0 0 0 t n) → IsBlocked types extents t n st.part ⊎ IsPending fresh done 0 0 0 st.part st.waits.at → IsStanding types extents waiters fresh (done + 1) part.index 0 last t n
    by t n st (inl b) = record { part = st.part; waits = st.waits; stands = inl b }
    by t n st (inr (here e h l)) = absurd (omega arith)
    by t n st (inr (listed l)) = elim (cases_eq done l.at) [
      | inl same ↦ (
          let both : Some part ≡ Some l.id = sym there ∙ ap (λ x. slice_get fresh x) same ∙ l.there in
          let one : part ≡ l.id = cc in
          let is : st.part ≡ part.index = sym l.is ∙ ap (λ (y : TyId). y.index) (sym one) in
          let inside = slice_get_within (waiters_at waiters st.part) st.waits.at st.waits.waiter st.waits.there in
          let bound = ap (λ v. length (waiters_at waiters v)) is in
          record { part = st.part; waits = st.waits; stands = inr (here is (omega arith) (omega arith)) })
      | inr other ↦ record { part = st.part; waits = st.waits; stands = inr (listed (record { at = l.at; id = l.id; there = l.there; past = (let past = l.past in let less = some_less done l.at past other in omega arith); is = l.is })) }
    ]

-- all that wait for a type were looked at
pub spread_left : (types : List Node) (begun extents : List (Option Extent)) (waiters : List Waiters) (fresh : List TyId) (done k at last : ℕ) → last ≤ at → IsSpreading types begun extents waiters fresh done k at last → IsSpreading types begun extents waiters fresh done 0 0 0
spread_left types begun extents waiters fresh done k at last past s = record {
  told = s.told;
  sound = s.sound;
  within = s.within;
  stands = λ t n found none. (let st = s.stands t n found none in by t n st st.stands);
}
  where
    by : (t : ℕ) (n : Node) → (st : IsStanding types extents waiters fresh done k at last t n) → IsBlocked types extents t n st.part ⊎ IsPending fresh done k at last st.part st.waits.at → IsStanding types extents waiters fresh done 0 0 0 t n
    by t n st (inl b) = record { part = st.part; waits = st.waits; stands = inl b }
    by t n st (inr (listed l)) = record { part = st.part; waits = st.waits; stands = inr (listed l) }
    by t n st (inr (here e h l)) = absurd (omega arith)

-- the type that was defined is itself among those whose extents were found
pub spread_found : (types : List Node) (begun extents : List (Option Extent)) (waiters : List Waiters) (fresh : List TyId) (k at last : ℕ) → kept_at begun k ≡ None → (kept_at extents k ≡ None → ⊥) → IsSpreading types begun extents waiters fresh 0 k at last → IsSpreading types begun extents waiters fresh 0 0 0 0
spread_found types begun extents waiters fresh k at last had has s = record {
  told = s.told;
  sound = s.sound;
  within = s.within;
  stands = λ t n found none. (let st = s.stands t n found none in by t n st st.stands);
}
  where
    in_list : IsListed fresh 0 k
    in_list = elim (s.told.each k) [ inl same ↦ absurd (has (same ∙ had)) | inr l ↦ l.1 ]

    by : (t : ℕ) (n : Node) → (st : IsStanding types extents waiters fresh 0 k at last t n) → IsBlocked types extents t n st.part ⊎ IsPending fresh 0 k at last st.part st.waits.at → IsStanding types extents waiters fresh 0 0 0 0 t n
    by t n st (inl b) = record { part = st.part; waits = st.waits; stands = inl b }
    by t n st (inr (listed l)) = record { part = st.part; waits = st.waits; stands = inr (listed l) }
    by t n st (inr (here e h l)) = record { part = st.part; waits = st.waits; stands = inr (listed (subst (λ v. IsListed fresh 0 v) (sym e) in_list)) }

-- so far along those that wait for a type
pub record IsWaking (types : List Node) (old new : List (Option Extent)) (before after : List Waiters) (was fresh : List TyId) (k from at : ℕ) : Type 0 where
  pub same : length new ≡ length old
  pub count : gaps new + length fresh ≡ gaps old + length was
  pub told : (begun : List (Option Extent)) → AreTold begun old was → AreTold begun new fresh
  pub sound : IsSound types new
  pub len : length after ≡ length before
  pub longer : AreLonger before after
  pub spreads : (begun : List (Option Extent)) (done last : ℕ) → IsSpreading types begun old before was done k from last → IsSpreading types begun new after fresh done k at last

pub waking_begins : (types : List Node) (old : List (Option Extent)) (before : List Waiters) (was : List TyId) (k from : ℕ) → IsSound types old → IsWaking types old old before before was was k from from
waking_begins types old before was k from sound = record {
  same = refl;
  count = refl;
  told = λ begun a. a;
  sound = sound;
  len = refl;
  longer = longer_same before;
  spreads = λ begun done last s. s;
}

pub waking_on : (types : List Node) (old mid new : List (Option Extent)) (before between after : List Waiters) (was now fresh : List TyId) (k from at : ℕ) (w : Waiter) → IsWaking types old mid before between was now k from at → slice_get (waiters_at between k) at ≡ Some w →
    IsTold mid new now fresh w.ty → IsSound types new → length after ≡ length between → AreLonger between after → ((n : Node) → slice_get types w.ty.index ≡ Some n → kept_at new w.ty.index ≡ None → IsAnswered types new after k w.ty.index n) →
    IsWaking types old new before after was fresh k from (at + 1)
waking_on types old mid new before between after was now fresh k from at w i there change sound len longer ok = record {
  same = told_same mid new now fresh w.ty change ∙ i.same;
  count = told_count mid new now fresh w.ty change ∙ i.count;
  told = λ begun a. told_on begun mid new now fresh w.ty change (i.told begun a);
  sound = sound;
  len = len ∙ i.len;
  longer = longer_on before between after i.longer longer;
  spreads = λ begun done last s. spread_on types begun mid new between after now fresh done k at last w (i.spreads begun done last s) there change sound longer ok;
}

pub waking_past : (types : List Node) (old new : List (Option Extent)) (before after : List Waiters) (was fresh : List TyId) (k from at : ℕ) → IsWaking types old new before after was fresh k from at → slice_get (waiters_at after k) at ≡ None → IsWaking types old new before after was fresh k from (at + 1)
waking_past types old new before after was fresh k from at i gone = record {
  same = i.same;
  count = i.count;
  told = i.told;
  sound = i.sound;
  len = i.len;
  longer = i.longer;
  spreads = λ begun done last s. spread_past types begun new after fresh done k at last (i.spreads begun done last s) gone;
}

-- so far along the types whose extents were found
pub record IsPassing (types : List Node) (old new : List (Option Extent)) (before after : List Waiters) (was fresh : List TyId) (done : ℕ) : Type 0 where
  pub same : length new ≡ length old
  pub told : (begun : List (Option Extent)) → AreTold begun old was → AreTold begun new fresh
  pub sound : IsSound types new
  pub len : length after ≡ length before
  pub longer : AreLonger before after
  pub spreads : (begun : List (Option Extent)) → IsSpreading types begun old before was 0 0 0 0 → IsSpreading types begun new after fresh done 0 0 0

pub passing_begins : (types : List Node) (old : List (Option Extent)) (before : List Waiters) (was : List TyId) → IsSound types old → IsPassing types old old before before was was 0
passing_begins types old before was sound = record {
  same = refl;
  told = λ begun a. a;
  sound = sound;
  len = refl;
  longer = longer_same before;
  spreads = λ begun s. s;
}

pub passing_on : (types : List Node) (old mid new : List (Option Extent)) (before between after : List Waiters) (was now fresh : List TyId) (done : ℕ) (part : TyId) (last : ℕ) → IsPassing types old mid before between was now done → slice_get now done ≡ Some part → last ≡ length (waiters_at between part.index) →
    length new ≡ length mid → ((begun : List (Option Extent)) → AreTold begun mid now → AreTold begun new fresh) → IsSound types new → length after ≡ length between → AreLonger between after →
    ((begun : List (Option Extent)) (done' last' : ℕ) → IsSpreading types begun mid between now done' part.index 0 last' → IsSpreading types begun new after fresh done' part.index last last') → IsPassing types old new before after was fresh (done + 1)
passing_on types old mid new before between after was now fresh done part last i there count same tells sound len longer ok = record {
  same = same ∙ i.same;
  told = λ begun a. tells begun (i.told begun a);
  sound = sound;
  len = len ∙ i.len;
  longer = longer_on before between after i.longer longer;
  spreads = λ begun s. spread_left types begun new after fresh (done + 1) part.index last last (omega arith) (ok begun (done + 1) last (spread_next types begun mid between now done part last (i.spreads begun s) there count));
}

-- so far in dropping extents again
pub record IsForgetting (begun extents : List (Option Extent)) (fresh : List TyId) (at : ℕ) : Type 0 where
  pub each : (u : ℕ) → (kept_at extents u ≡ kept_at begun u) ⊎ ((kept_at begun u ≡ None) × IsListed fresh at u)

pub forgetting_begins : (begun extents : List (Option Extent)) (fresh : List TyId) → AreTold begun extents fresh → IsForgetting begun extents fresh 0
forgetting_begins begun extents fresh a = record { each = a.each }

pub forgetting_on : (begun extents changed : List (Option Extent)) (fresh : List TyId) (at : ℕ) (id : TyId) → ((u : ℕ) → IsListed fresh 0 u → kept_at begun u ≡ None) → IsForgetting begun extents fresh at → slice_get fresh at ≡ Some id →
    ((u : ℕ) → u ≢ id.index → kept_at changed u ≡ kept_at extents u) → kept_at changed id.index ≡ None → IsForgetting begun changed fresh (at + 1)
forgetting_on begun extents changed fresh at id had f there others gone = record {
  each = λ u. elim (cases_eq u id.index) [
    | inl same ↦ inl (ap (λ v. kept_at changed v) same ∙ gone ∙ sym (ap (λ v. kept_at begun v) same ∙ had id.index (record { at = at; id = id; there = there; past = omega arith; is = refl })))
    | inr other ↦ elim (f.each u) [
      | inl same ↦ inl (others u other ∙ same)
      | inr l ↦ inr (l.0, further u other l.1)
    ]
  ];
}
  where
    further : (u : ℕ) → u ≢ id.index → IsListed fresh at u → IsListed fresh (at + 1) u
    further u other l = record {
      at = l.at;
      id = l.id;
      there = l.there;
      past = elim (cases_eq at l.at) [
        | inl same ↦ (
            let both : Some id ≡ Some l.id = sym there ∙ ap (λ x. slice_get fresh x) same ∙ l.there in
            let one : id ≡ l.id = cc in
            absurd (other (sym l.is ∙ ap (λ (y : TyId). y.index) (sym one))))
        | inr unlike ↦ (let past = l.past in let less = some_less at l.at past unlike in omega arith)
      ];
      is = l.is;
    }

pub forgetting_ends : (begun extents : List (Option Extent)) (fresh : List TyId) (at : ℕ) → IsForgetting begun extents fresh at → length fresh ≤ at → (u : ℕ) → kept_at extents u ≡ kept_at begun u
forgetting_ends begun extents fresh at f past u = elim (f.each u) [
  | inl same ↦ same
  | inr l ↦ (let inside = slice_get_within fresh l.1.at l.1.id l.1.there in let after = l.1.past in absurd (omega arith))
]

front_waiters : (ws : List Waiters) (w : Waiters) (p at : ℕ) (x : Waiter) → slice_get (waiters_at ws p) at ≡ Some x → slice_get (waiters_at (ws ++ (w ∷ [])) p) at ≡ Some x
front_waiters ws w p at x e = by (slice_get ws p) refl e
  where
    by : (o : Option Waiters) → slice_get ws p ≡ o → slice_get (list_of o) at ≡ Some x → slice_get (waiters_at (ws ++ (w ∷ [])) p) at ≡ Some x
    by None h e = cc
    by (Some v) h e = ap (λ o. slice_get (list_of o) at) (get_front ws (w ∷ []) p v h) ∙ e

pub longer_end : (ws : List Waiters) (w : Waiters) → AreLonger ws (ws ++ (w ∷ []))
longer_end ws w = record { keeps = λ p at x e. front_waiters ws w p at x e }

-- a new type waits, on another's list or on its own
pub entered : (ws : List Waiters) (w : Waiters) (p t : ℕ) → IsEntered ws w.list.items p t → t ≡ length ws → Waits (ws ++ (w ∷ [])) p t
entered ws w p t (in_other i) e = record { at = i.at; waiter = i.waiter; there = front_waiters ws w p i.at i.waiter i.there; is = i.is }
entered ws w p t (in_own x same list is) e = record {
  at = 0;
  waiter = x;
  there = ap (λ k. slice_get (waiters_at (ws ++ (w ∷ [])) k) 0) (same ∙ e) ∙ ap (λ o. slice_get (list_of o) 0) (get_end ws w) ∙ ap (λ xs. slice_get xs 0) list;
  is = is;
}

-- a list of lists without its last
taken_keeps : (xs ws : List Waiters) (w : Waiters) (p at : ℕ) (x : Waiter) → ws ≡ xs ++ (w ∷ []) → p ≢ length xs → slice_get (waiters_at ws p) at ≡ Some x → slice_get (waiters_at xs p) at ≡ Some x
taken_keeps xs ws w p at x e other h = by (slice_get (xs ++ (w ∷ [])) p) refl (ap (λ l. slice_get (waiters_at l p) at) (sym e) ∙ h)
  where
    by : (o : Option Waiters) → slice_get (xs ++ (w ∷ [])) p ≡ o → slice_get (list_of o) at ≡ Some x → slice_get (waiters_at xs p) at ≡ Some x
    by None g h = cc
    by (Some v) g h = elim (get_last xs w v p g) [
      | inl front ↦ ap (λ o. slice_get (list_of o) at) front ∙ h
      | inr last ↦ absurd (other last.0)
    ]

pub on_ok : {A B : Type 0} (r : Result A B) (P Q : Type 0) → (P → Q) → OnOk r P → OnOk r Q
on_ok (Ok x) P Q f h = f h
on_ok (Err e) P Q f h = tt
