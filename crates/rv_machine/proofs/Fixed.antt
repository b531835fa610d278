-- Ranges that share no address, and text that stays what it is over stores.
use Rattle.std.proofs.Common.{◌≡◌, ◌≢◌, ℕ, zero, suc, ◌+◌, ◌-◌, ◌*◌, ◌<◌, ◌≤◌, Bool, true, false, ◌⊎◌, inl, inr, List, [], ◌∷◌, ◌++◌, length, map, set, arith, ap, ◌∙◌, sym, subst, refl}
use Rattle.std.specs.Prelude.{◌&&◌, IfSome, Option, Some, option_map, option_and_then, position, slice_get, slice_range}
use Rattle.std.specs.Int.{w32, from_le_bytes}
use Rattle.std.proofs.lemmas.Option.{get_or_from_slice_get}
use Rattle.std.proofs.Math.Seq.{map-set_same}
use Rattle.rv_table.specs.Table.{decoded}
use Rattle.rv_table.specs.State.{Area, State, covers, listed, marked, executed, fetched, stepped}
use Rattle.rv_table.specs.Areas.{Shape, shape, holds, IsApartFrom, AreApart}
use Rattle.rv_table.specs.declared.inst.Inst.{Inst}
use Rattle.rv_table.specs.declared.effect.Access.{Access}
use Rattle.rv_table.specs.declared.effect.Access.TheVariants.{Execute}
use Rattle.rv_table.specs.declared.effect.Event.{Event}
use Rattle.rv_table.specs.declared.effect.Event.TheVariants.{Next}
use Rattle.rv_table.proofs.Areas.{position_here, position_on, Inside, inside}
use Rattle.rv_table.proofs.Fetch.{stepped_shown}
use Rattle.rv_machine.specs.Text.{IsFixedAt, IsEntry, AreFixed, Keeps}

-- ---- the first range that covers an access depends on the shapes alone

first_step : (a : Access) (address size : ℕ) (r : Area) (rs : List Area) → position (covers a address size) rs ≡ position (holds a address size) (map shape rs) → (b : Bool) → covers a address size r ≡ b →
    position (covers a address size) (r ∷ rs) ≡ position (holds a address size) (map shape (r ∷ rs))
first_step a address size r rs rest true e = position_here (covers a address size) r rs e ∙ sym (position_here (holds a address size) (shape r) (map shape rs) e)
first_step a address size r rs rest false e =
    position_on (covers a address size) r rs e ∙ ap (option_map suc) rest ∙ sym (position_on (holds a address size) (shape r) (map shape rs) e)

first_by_shape : (a : Access) (address size : ℕ) (rs : List Area) → position (covers a address size) rs ≡ position (holds a address size) (map shape rs)
first_by_shape a address size [] = refl
first_by_shape a address size (r ∷ rs) = first_step a address size r rs (first_by_shape a address size rs) (covers a address size r) refl

-- ---- where no two share an address, a range that covers an access is the first

both_inside : (r x : Area) (a : Access) (address size : ℕ) → 0 < size → covers a address size r ≡ true → covers a address size x ≡ true →
    (r.start + length r.bytes ≤ x.start) ⊎ (x.start + length x.bytes ≤ r.start) → ⊥
both_inside r x a address size some h k apart =
    let i : Inside r address size = inside r a address size h in
    let j : Inside x address size = inside x a address size k in
    let low : r.start ≤ address = i.low in
    let high : address + size ≤ r.start + length r.bytes = i.high in
    let low' : x.start ≤ address = j.low in
    let high' : address + size ≤ x.start + length x.bytes = j.high in
    elim apart [ inl l ↦ omega arith | inr l ↦ omega arith ]

apart_there : (r x : Area) (rs : List Area) (k : ℕ) → IsApartFrom (shape r) (map shape rs) → slice_get rs k ≡ Some x → (r.start + length r.bytes ≤ x.start) ⊎ (x.start + length x.bytes ≤ r.start)
apart_there r x [] k apart e = cc
apart_there r x (y ∷ rs) zero apart e =
    let same : y ≡ x = cc in
    let P : Area → Type 0 = λ z. (r.start + length r.bytes ≤ z.start) ⊎ (z.start + length z.bytes ≤ r.start) in
    subst P same apart.0
apart_there r x (y ∷ rs) (suc k) apart e = apart_there r x rs k apart.1 e

module _ (a : Access) (address size : ℕ) (some : 0 < size) where
  sole_step : (r x : Area) (rs : List Area) (k : ℕ) → IsApartFrom (shape r) (map shape rs) → slice_get rs k ≡ Some x → covers a address size x ≡ true →
      position (covers a address size) rs ≡ Some k → (b : Bool) → covers a address size r ≡ b → position (covers a address size) (r ∷ rs) ≡ Some (suc k)
  sole_step r x rs k apart at h rest true e = absurd (both_inside r x a address size some e h (apart_there r x rs k apart at))
  sole_step r x rs k apart at h rest false e = position_on (covers a address size) r rs e ∙ ap (option_map suc) rest

  pub sole : (rs : List Area) (k : ℕ) (x : Area) → AreApart (map shape rs) → slice_get rs k ≡ Some x → covers a address size x ≡ true → position (covers a address size) rs ≡ Some k
  sole [] k x apart at h = cc
  sole (r ∷ rs) zero x apart at h =
      let same : x ≡ r = cc in
      let P : Area → Type 0 = λ y. covers a address size y ≡ true in
      position_here (covers a address size) r rs (subst P same h)
  sole (r ∷ rs) (suc k) x apart at h = sole_step r x rs k apart.0 at h (sole rs k x apart.1 at h) (covers a address size r) refl

-- ---- text

get_other : {X : Type 0} (xs : List X) (i k : ℕ) (y : X) → k ≢ i → slice_get (set xs i y) k ≡ slice_get xs k
get_other [] i k y other = refl
get_other (x ∷ xs) zero zero y other = absurd (other refl)
get_other (x ∷ xs) zero (suc k) y other = refl
get_other (x ∷ xs) (suc i) zero y other = refl
get_other (x ∷ xs) (suc i) (suc k) y other = get_other xs i k y (λ e. other (ap suc e))

module _ (areas : List Area) (j : ℕ) (x y : Area) (at : slice_get areas j ≡ Some x) (same : shape y ≡ shape x) where
  shapes_kept : map shape (set areas j y) ≡ map shape areas
  shapes_kept = map-set_same shape areas j y x (same ∙ ap shape (sym (get_or_from_slice_get areas j x x at)))

  fixed_kept : (address : ℕ) (inst : Inst) → x.writable ≡ true → IsFixedAt areas address inst → IsFixedAt (set areas j y) address inst
  fixed_kept address inst may f =
      let other : f.index ≢ j = λ e. (
      let here : Some f.area ≡ Some x = sym f.at ∙ ap (slice_get areas) e ∙ at in
      let is : f.area ≡ x = cc in
      let both : false ≡ true = sym f.fixed ∙ ap (λ (r : Area). r.writable) is ∙ may in
      cc) in
      record {
        index = f.index;
        area = f.area;
        first = first_by_shape Execute address 4 (set areas j y) ∙ ap (position (holds Execute address 4)) shapes_kept ∙ sym (first_by_shape Execute address 4 areas) ∙ f.first;
        at = get_other areas j f.index y other ∙ f.at;
        fixed = f.fixed;
        means = f.means;
        fits = f.fits;
        plain = f.plain;
      }

  pub keeps_on : (apart : Bool) (start : ℕ) (entries : List (Option Inst)) → x.writable ≡ true → Keeps areas apart start entries → Keeps (set areas j y) apart start entries
  keeps_on apart start entries may k =
      let P : List Shape → Type 0 = AreApart in
      record {
        are_apart = λ e. subst P (sym shapes_kept) (k.are_apart e);
        text = record { each = λ i inst e. fixed_kept (start + 4 * i) inst may (k.text.each i inst e) };
      }

-- ---- a step in fixed text

pub entry_fixed : (areas : List Area) (start : ℕ) (entries : List (Option Inst)) (address : ℕ) (inst : Inst) → AreFixed areas start entries → IsEntry start entries address inst → IsFixedAt areas address inst
entry_fixed areas start entries address inst all e = let P : ℕ → Type 0 = λ a. IsFixedAt areas a inst in subst P e.place (all.each e.index inst e.is)

fixed_fetched : (s : State) (inst : Inst) → IsFixedAt s.areas s.pc inst → fetched s ≡ Some inst
fixed_fetched s inst f =
    let word : List ℕ → Option Inst = λ bytes. decoded (from_le_bytes w32 bytes) in
    let bytes : Area → List ℕ = λ area. slice_range area.bytes (s.pc - area.start) (s.pc - area.start + 4) in
    ap (λ (o : Option ℕ). option_and_then word (option_and_then (λ i. option_map bytes (slice_get s.areas i)) o)) f.first
    ∙ ap (λ (o : Option Area). option_and_then word (option_map bytes o)) f.at
    ∙ f.means

pub fixed_steps : (s new : State) (inst : Inst) (event : Event) → IsFixedAt s.areas s.pc inst → executed inst s ≡ (event, new) → event ≡ Next → (calls : List ℕ) → stepped calls s ≡ (Next, new)
fixed_steps s new inst event f e next calls =
    stepped_shown calls s inst (fixed_fetched s inst f)
    ∙ ap (λ (b : Bool). marked (b && listed calls s.pc) (executed inst s)) f.plain
    ∙ e
    ∙ ap (λ (v : Event). (v, new)) next

-- ---- entries one after another

pub fixed_none : (areas : List Area) (start : ℕ) → AreFixed areas start []
fixed_none areas start = record { each = λ i inst e. absurd (none i inst e) }
  where
    none : (i : ℕ) (inst : Inst) → slice_get {X = Option Inst} [] i ≡ Some (Some inst) → ⊥
    none i inst e = cc

get_more : {X : Type 0} (xs : List X) (x y : X) (i : ℕ) → slice_get (xs ++ x ∷ []) i ≡ Some y → (slice_get xs i ≡ Some y) ⊎ ((i ≡ length xs) × (x ≡ y))
get_more [] x y zero e = inr (refl, cc)
get_more [] x y (suc i) e = cc
get_more (z ∷ xs) x y zero e = inl e
get_more (z ∷ xs) x y (suc i) e = elim (get_more xs x y i e) [ inl h ↦ inl h | inr p ↦ inr (ap suc p.0, p.1) ]

pub fixed_more : (areas : List Area) (start : ℕ) (entries : List (Option Inst)) (entry : Option Inst) → AreFixed areas start entries → IfSome entry (λ inst. IsFixedAt areas (start + 4 * length entries) inst) →
    AreFixed areas start (entries ++ entry ∷ [])
fixed_more areas start entries entry all one = record {
  each = λ i inst e. elim (get_more entries entry (Some inst) i e) [
    | inl h ↦ all.each i inst h
    | inr p ↦ (let P : ℕ → Type 0 = λ n. IsFixedAt areas (start + 4 * n) inst in
        let Q : Option Inst → Type 0 = λ o. IfSome o (λ x. IsFixedAt areas (start + 4 * length entries) x) in
        let here : IsFixedAt areas (start + 4 * length entries) inst = subst Q p.1 one in
        subst P (sym p.0) here)
  ];
}

pub apart_more : (r : Area) (rs : List Area) (x : Area) → IsApartFrom (shape r) (map shape rs) → (r.start + length r.bytes ≤ x.start) ⊎ (x.start + length x.bytes ≤ r.start) → IsApartFrom (shape r) (map shape (rs ++ x ∷ []))
apart_more r [] x apart one = (one, tt)
apart_more r (y ∷ rs) x apart one = (apart.0, apart_more r rs x apart.1 one)
