-- Ranges vanish: an access that some range holds reads and writes the function that the ranges show.
use Rattle.std.proofs.Common.{◌≡◌, ℕ, suc, ◌+◌, ◌-◌, ◌≤◌, Bool, true, false, cond, ◌⊎◌, inl, inr, List, [], ◌∷◌, ◌++◌, length, take, drop, map, set, ltb, leb, arith, ap, ◌∙◌, sym, refl}
use Rattle.std.specs.Prelude.{Option, Some, None, option_map, option_and_then, position, slice_get, slice_range, ◌&&◌, ◌||◌, not}
use Rattle.std.specs.List.{position_or_len}
use Rattle.std.proofs.lemmas.Bool.Decides.{nat_tests}
use Rattle.std.proofs.lemmas.List.{length-append, length-take-le, length-drop}
use Rattle.rv_table.specs.Bytes.{run, written}
use Rattle.rv_table.specs.State.{Area, allows, covers, loaded, overwritten, filled}
use Rattle.rv_table.specs.Areas.{Shows, Shape, shape, has, IsApartFrom, AreApart, Filled}
use Rattle.rv_table.specs.declared.effect.Access.{Access}
use Rattle.rv_table.specs.declared.effect.Access.TheVariants.{Write}
use Rattle.rv_table.proofs.Bytes.{part_run, overwritten_run, run_apart}

-- ---- the first element that passes

pub position_here : {X : Type 0} (p : X → Bool) (x : X) (xs : List X) → p x ≡ true → position p (x ∷ xs) ≡ Some 0
position_here p x xs h = at_test (p x) h
  where
    at_test : (b : Bool) → b ≡ true → cond (ltb (cond (not b) (1 + position_or_len p xs) 0) (suc (length xs))) (Some (cond (not b) (1 + position_or_len p xs) 0)) None ≡ Some 0
    at_test true e = let less : ltb 0 (suc (length xs)) ≡ true = grind (arith, nat_tests) in ap (λ (z : Bool). cond z (Some 0) None) less
    at_test false e = cc

pub position_on : {X : Type 0} (p : X → Bool) (x : X) (xs : List X) → p x ≡ false → position p (x ∷ xs) ≡ option_map suc (position p xs)
position_on p x xs h = at_test (p x) h
  where
    next : (b c : Bool) (k : ℕ) → b ≡ c → cond b (Some (1 + k)) None ≡ option_map suc (cond c (Some k) None)
    next true true k e = let more : 1 + k ≡ suc k = omega arith in ap (λ (n : ℕ). Some n) more
    next true false k e = cc
    next false true k e = cc
    next false false k e = refl

    same : (k n : ℕ) → ltb (1 + k) (suc n) ≡ ltb k n
    same k n = by_side (ltb (1 + k) (suc n)) (ltb k n) refl refl
      where
        by_side : (b c : Bool) → ltb (1 + k) (suc n) ≡ b → ltb k n ≡ c → b ≡ c
        by_side true true e f = refl
        by_side false false e f = refl
        by_side true false e f = absurd (grind (arith, nat_tests))
        by_side false true e f = absurd (grind (arith, nat_tests))

    at_test : (b : Bool) → b ≡ false → cond (ltb (cond (not b) (1 + position_or_len p xs) 0) (suc (length xs))) (Some (cond (not b) (1 + position_or_len p xs) 0)) None ≡ option_map suc (position p xs)
    at_test true e = cc
    at_test false e = next (ltb (1 + position_or_len p xs) (suc (length xs))) (ltb (position_or_len p xs) (length xs)) (position_or_len p xs) (same (position_or_len p xs) (length xs))

and_then-suc : {A : Type 0} (g : ℕ → Option A) (o : Option ℕ) → option_and_then g (option_map suc o) ≡ option_and_then (λ (i : ℕ). g (suc i)) o
and_then-suc g None = refl
and_then-suc g (Some i) = refl

-- ---- loads

module _ (r : Area) (rs : List Area) (a : Access) (address size : ℕ) where
  loaded_here : covers a address size r ≡ true → loaded (r ∷ rs) a address size ≡ Some (slice_range r.bytes (address - r.start) (address - r.start + size))
  loaded_here h = ap (option_and_then (λ i. option_map (λ area. slice_range area.bytes (address - area.start) (address - area.start + size)) (slice_get (r ∷ rs) i))) (position_here (covers a address size) r rs h)

  loaded_on : covers a address size r ≡ false → loaded (r ∷ rs) a address size ≡ loaded rs a address size
  loaded_on h =
      let g : ℕ → Option (List ℕ) = λ i. option_map (λ (area : Area). slice_range area.bytes (address - area.start) (address - area.start + size)) (slice_get (r ∷ rs) i) in
      ap (option_and_then g) (position_on (covers a address size) r rs h) ∙ and_then-suc g (position (covers a address size) rs)

-- what a range that covers an access says
pub record Inside (r : Area) (address size : ℕ) : Type 0 where
  pub low : r.start ≤ address
  pub high : address + size ≤ r.start + length r.bytes

pub inside : (r : Area) (a : Access) (address size : ℕ) → covers a address size r ≡ true → Inside r address size
inside r a address size h = at_test (allows a r) (leb r.start address) (leb (address + size) (r.start + length r.bytes)) refl refl h
  where
    at_test : (x y z : Bool) → leb r.start address ≡ y → leb (address + size) (r.start + length r.bytes) ≡ z → (x && y && z) ≡ true → Inside r address size
    at_test true true true e f t = record { low = grind (arith, nat_tests); high = grind (arith, nat_tests) }
    at_test true true false e f t = cc
    at_test true false z e f t = cc
    at_test false y z e f t = cc

range_shown : (f : ℕ → ℕ) (r : Area) (address size : ℕ) → run f r.start (length r.bytes) ≡ r.bytes → Inside r address size →
    slice_range r.bytes (address - r.start) (address - r.start + size) ≡ run f address size
range_shown f r address size shown i =
    let low : r.start ≤ address = i.low in
    let high : address + size ≤ r.start + length r.bytes = i.high in
    let back : address - r.start + size - (address - r.start) ≡ size = omega arith in
    let place : r.start + (address - r.start) ≡ address = omega arith in
    ap (λ (k : ℕ). take k (drop (address - r.start) r.bytes)) back
    ∙ ap (λ (xs : List ℕ). take size (drop (address - r.start) xs)) (sym shown)
    ∙ part_run f r.start (address - r.start) size (length r.bytes) (omega arith)
    ∙ ap (λ (b : ℕ). run f b size) place

pub or_parts : (b c : Bool) → (b || c) ≡ true → (b ≡ true) ⊎ ((b ≡ false) × (c ≡ true))
or_parts true c h = inl refl
or_parts false c h = inr (refl, h)

-- a load that some range holds gives the function's bytes
pub loaded_shown : (rs : List Area) (f : ℕ → ℕ) (a : Access) (address size : ℕ) → Shows rs f → has a address size (map shape rs) ≡ true → loaded rs a address size ≡ Some (run f address size)
loaded_shown [] f a address size shows h = cc
loaded_shown (r ∷ rs) f a address size shows h =
    elim (or_parts (covers a address size r) (has a address size (map shape rs)) h) [
      | inl here ↦ loaded_here r rs a address size here ∙ ap (λ (xs : List ℕ). Some xs) (range_shown f r address size shows.0 (inside r a address size here))
      | inr p ↦ loaded_on r rs a address size p.0 ∙ loaded_shown rs f a address size shows.1 p.1
    ]

-- ---- writes

module _ (r : Area) (rs : List Area) (address size : ℕ) (bytes : List ℕ) where
  filled_here : covers Write address size r ≡ true → filled (r ∷ rs) address size bytes ≡ Some (overwritten r address bytes ∷ rs)
  filled_here h = ap (option_and_then (λ i. option_map (λ (area : Area). set (r ∷ rs) i (overwritten area address bytes)) (slice_get (r ∷ rs) i))) (position_here (covers Write address size) r rs h)

  filled_on : covers Write address size r ≡ false → filled (r ∷ rs) address size bytes ≡ option_map (λ (after : List Area). r ∷ after) (filled rs address size bytes)
  filled_on h =
      let g : ℕ → Option (List Area) = λ i. option_map (λ (area : Area). set (r ∷ rs) i (overwritten area address bytes)) (slice_get (r ∷ rs) i) in
      ap (option_and_then g) (position_on (covers Write address size) r rs h) ∙ and_then-suc g (position (covers Write address size) rs) ∙ out (position (covers Write address size) rs)
    where
      inner : (i : ℕ) (o : Option Area) → option_map (λ (area : Area). r ∷ set rs i (overwritten area address bytes)) o ≡ option_map (λ (after : List Area). r ∷ after) (option_map (λ (area : Area). set rs i (overwritten area address bytes)) o)
      inner i None = refl
      inner i (Some area) = refl

      out : (o : Option ℕ) → option_and_then (λ (i : ℕ). option_map (λ (area : Area). r ∷ set rs i (overwritten area address bytes)) (slice_get rs i)) o
          ≡ option_map (λ (after : List Area). r ∷ after) (option_and_then (λ (i : ℕ). option_map (λ (area : Area). set rs i (overwritten area address bytes)) (slice_get rs i)) o)
      out None = refl
      out (Some i) = inner i (slice_get rs i)

overwritten_length : (r : Area) (address : ℕ) (bytes : List ℕ) → Inside r address (length bytes) → length (overwritten r address bytes).bytes ≡ length r.bytes
overwritten_length r address bytes i =
    let low : r.start ≤ address = i.low in
    let high : address + length bytes ≤ r.start + length r.bytes = i.high in
    let front : length (take (address - r.start) r.bytes) ≡ address - r.start = length-take-le (address - r.start) r.bytes (omega arith) in
    let back : length (drop (address - r.start + length bytes) r.bytes) ≡ length r.bytes - (address - r.start + length bytes) = length-drop (address - r.start + length bytes) r.bytes in
    simp length-append (omega arith)

-- the other ranges show the function as before
others_kept : (r : Area) (rs : List Area) (f : ℕ → ℕ) (address : ℕ) (bytes : List ℕ) → IsApartFrom (shape r) (map shape rs) → Inside r address (length bytes) → Shows rs f → Shows rs (written f address bytes)
others_kept r [] f address bytes apart i shows = tt
others_kept r (q ∷ qs) f address bytes apart i shows =
    let low : r.start ≤ address = i.low in
    let high : address + length bytes ≤ r.start + length r.bytes = i.high in (
      run_apart f address bytes q.start (length q.bytes) (elim apart.0 [ inl l ↦ inr (omega arith) | inr l ↦ inl (omega arith) ]) ∙ shows.0,
      others_kept r qs f address bytes apart.1 i shows.1,
    )

written_range : (r : Area) (f : ℕ → ℕ) (address : ℕ) (bytes : List ℕ) → run f r.start (length r.bytes) ≡ r.bytes → Inside r address (length bytes) →
    run (written f address bytes) r.start (length (overwritten r address bytes).bytes) ≡ (overwritten r address bytes).bytes
written_range r f address bytes shown i =
    let low : r.start ≤ address = i.low in
    let high : address + length bytes ≤ r.start + length r.bytes = i.high in
    let at = address - r.start in
    let place : address ≡ r.start + at = omega arith in
    ap (λ (n : ℕ). run (written f address bytes) r.start n) (overwritten_length r address bytes i)
    ∙ ap (λ (b : ℕ). run (written f b bytes) r.start (length r.bytes)) place
    ∙ overwritten_run f r.start at (length r.bytes) bytes (omega arith)
    ∙ ap (λ (xs : List ℕ). take at xs ++ bytes ++ drop (at + length bytes) xs) shown

same_shape : (r : Area) (n : ℕ) → n ≡ length r.bytes → (rs ss : List Shape) → rs ≡ ss →
    record { start = r.start; size = n; readable = r.readable; writable = r.writable; executable = r.executable } ∷ rs ≡ shape r ∷ ss
same_shape r n e rs ss h = ap (λ (k : ℕ). record { start = r.start; size = k; readable = r.readable; writable = r.writable; executable = r.executable } ∷ rs) e ∙ ap (λ (xs : List Shape). shape r ∷ xs) h

-- the behaviour of a write into a later range
after_one : (r : Area) (rs : List Area) (f : ℕ → ℕ) (address size : ℕ) (bytes : List ℕ) → covers Write address size r ≡ false →
    run (written f address bytes) r.start (length r.bytes) ≡ r.bytes → Filled rs f address size bytes → Filled (r ∷ rs) f address size bytes
after_one r rs f address size bytes h kept rest = record {
  after = r ∷ rest.after;
  is = filled_on r rs address size bytes h ∙ ap (option_map (λ (after : List Area). r ∷ after)) rest.is;
  shows = (kept, rest.shows);
  shapes = ap (λ (xs : List Shape). shape r ∷ xs) rest.shapes;
}

-- somewhere in the list a range holds the access and is apart from the given one
pub apart_from_holder : (r : Shape) (rs : List Area) (address size : ℕ) → IsApartFrom r (map shape rs) → has Write address size (map shape rs) ≡ true →
    (address + size ≤ r.start) ⊎ (r.start + r.size ≤ address)
apart_from_holder r [] address size apart h = cc
apart_from_holder r (q ∷ qs) address size apart h =
    elim (or_parts (covers Write address size q) (has Write address size (map shape qs)) h) [
      | inl here ↦ (let i : Inside q address size = inside q Write address size here in
          let low : q.start ≤ address = i.low in
          let high : address + size ≤ q.start + length q.bytes = i.high in
          elim apart.0 [ inl l ↦ inr (omega arith) | inr l ↦ inl (omega arith) ])
      | inr p ↦ apart_from_holder r qs address size apart.1 p.1
    ]

-- a write to the start of a buffer that some range holds writes the function
pub filled_shown : (rs : List Area) (f : ℕ → ℕ) (address size : ℕ) (bytes : List ℕ) → length bytes ≤ size → Shows rs f → AreApart (map shape rs) → has Write address size (map shape rs) ≡ true →
    Filled rs f address size bytes
filled_shown [] f address size bytes fits shows apart h = cc
filled_shown (r ∷ rs) f address size bytes fits shows apart h =
    elim (or_parts (covers Write address size r) (has Write address size (map shape rs)) h) [
      | inl here ↦ (let whole : Inside r address size = inside r Write address size here in
          let low : r.start ≤ address = whole.low in
          let high : address + size ≤ r.start + length r.bytes = whole.high in
          let part : Inside r address (length bytes) = record { low = low; high = omega arith } in
          record {
            after = overwritten r address bytes ∷ rs;
            is = filled_here r rs address size bytes here;
            shows = (written_range r f address bytes shows.0 part, others_kept r rs f address bytes apart.0 part shows.1);
            shapes = same_shape r (length (overwritten r address bytes).bytes) (overwritten_length r address bytes part) (map shape rs) (map shape rs) refl;
          })
      | inr p ↦ (let away : (address + size ≤ r.start) ⊎ (r.start + length r.bytes ≤ address) = apart_from_holder (shape r) rs address size apart.0 p.1 in
          after_one r rs f address size bytes p.0
          (run_apart f address bytes r.start (length r.bytes) (elim away [ inl l ↦ inr (omega arith) | inr l ↦ inl (omega arith) ]) ∙ shows.0)
          (filled_shown rs f address size bytes fits shows.1 apart.1 p.1))
    ]

-- a store that some range holds writes the function
pub stored_shown : (rs : List Area) (f : ℕ → ℕ) (address : ℕ) (bytes : List ℕ) → Shows rs f → AreApart (map shape rs) → has Write address (length bytes) (map shape rs) ≡ true →
    Filled rs f address (length bytes) bytes
stored_shown rs f address bytes shows apart h = filled_shown rs f address (length bytes) bytes (omega arith) shows apart h
