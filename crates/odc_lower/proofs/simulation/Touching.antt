-- What may be touched in a frame.
use Rattle.std.proofs.Common.{◌≡◌, ℕ, zero, suc, ◌+◌, ◌<◌, ◌≤◌, ◌⊎◌, inl, inr, Bool, true, false, List, [], ◌∷◌, subst, refl, arith}
use Rattle.std.specs.Prelude.{Some, slice_get, ◌&&◌, ◌||◌, nat_le, nat_lt}
use Rattle.std.proofs.lemmas.Bool.Decides.{nat_tests}
use Rattle.odc_core.specs.declared.tree.Variable.{Variable}
use Rattle.odc_core.specs.Memory.{all_in, lies}
use Rattle.odc_core.specs.Frames.{in_variables, touched_in}
use Rattle.odc_core.specs.Well.{AreLaid}

pub or_left : (a b : Bool) → a ≡ true → (a || b) ≡ true
or_left true b h = refl
or_left false b h = absurd (cc)

pub or_right : (a b : Bool) → b ≡ true → (a || b) ≡ true
or_right true b h = refl
or_right false b h = h

pub or_either : (a b : Bool) → (a || b) ≡ true → (a ≡ true) ⊎ (b ≡ true)
or_either true b h = inl refl
or_either false b h = inr h

pub and_both : (a b : Bool) → a ≡ true → b ≡ true → (a && b) ≡ true
and_both true b h g = g
and_both false b h g = absurd (cc)

pub and_first : (a b : Bool) → (a && b) ≡ true → a ≡ true
and_first true b h = refl
and_first false b h = absurd (cc)

pub and_second : (a b : Bool) → (a && b) ≡ true → b ≡ true
and_second true b h = h
and_second false b h = absurd (cc)

pub all_touched : (touched : ℕ → Bool) (a n : ℕ) → ((x : ℕ) → a ≤ x → x < a + n → touched x ≡ true) → all_in touched a n ≡ true
all_touched touched a zero h = refl
all_touched touched a (suc n) h = and_both (touched a) (all_in touched (a + 1) n) (h a (omega arith) (omega arith)) (all_touched touched (a + 1) n (λ x low high. h x (omega arith) (omega arith)))

pub each_touched : (touched : ℕ → Bool) (a n : ℕ) → all_in touched a n ≡ true → (x : ℕ) → a ≤ x → x < a + n → touched x ≡ true
each_touched touched a zero h x low high = absurd (omega arith)
each_touched touched a (suc n) h x low high = by_place (nat_le x a) refl (each_touched touched (a + 1) n (and_second (touched a) (all_in touched (a + 1) n) h) x)
  where
    by_place : (t : Bool) → nat_le x a ≡ t → (a + 1 ≤ x → x < a + 1 + n → touched x ≡ true) → touched x ≡ true
    by_place true e rest =
        let below : x ≤ a = grind (arith, nat_tests) in
        let same : a ≡ x = omega arith in
        subst (λ (y : ℕ). touched y ≡ true) same (and_first (touched a) (all_in touched (a + 1) n) h)
    by_place false e rest =
        let above : a < x = grind (arith, nat_tests) in
        rest (omega arith) (omega arith)

-- a part of what may be touched
pub part_touched : (touched : ℕ → Bool) (a n b m : ℕ) → all_in touched a n ≡ true → a ≤ b → b + m ≤ a + n → all_in touched b m ≡ true
part_touched touched a n b m h low high = all_touched touched b m (λ x l u. each_touched touched a n h x (omega arith) (omega arith))

pub in_variable : (low : ℕ) (vs : List Variable) (j : ℕ) (v : Variable) (x : ℕ) → slice_get vs j ≡ Some v → lies (low + v.offset) v.size x ≡ true → in_variables low vs x ≡ true
in_variable low [] j v x h inside = absurd (cc)
in_variable low (u ∷ vs) zero v x h inside =
    let same : v ≡ u = cc in
    or_left (lies (low + u.offset) u.size x) (in_variables low vs x) (subst (λ (y : Variable). lies (low + y.offset) y.size x ≡ true) same inside)
in_variable low (u ∷ vs) (suc j) v x h inside = or_right (lies (low + u.offset) u.size x) (in_variables low vs x) (in_variable low vs j v x h inside)

-- a variable may be touched
pub variable_touched : (touched : ℕ → Bool) (low : ℕ) (vs : List Variable) (j n : ℕ) (v : Variable) → slice_get vs j ≡ Some v → v.size ≡ n → all_in (touched_in touched low vs) (low + v.offset) n ≡ true
variable_touched touched low vs j n v h size = all_touched (touched_in touched low vs) (low + v.offset) n (λ x l u.
    let inside : lies (low + v.offset) v.size x ≡ true = grind (arith, nat_tests) in
    or_left (in_variables low vs x) (touched x) (in_variable low vs j v x h inside))

-- variables lie below the end of their frame
pub variables_below : (frame low : ℕ) (vs : List Variable) (x : ℕ) → AreLaid frame vs → in_variables low vs x ≡ true → x < low + frame
variables_below frame low [] x laid h = absurd (cc)
variables_below frame low (v ∷ vs) x laid h = elim (or_either (lies (low + v.offset) v.size x) (in_variables low vs x) h) [
  | inl here ↦ (let high : nat_lt x (low + v.offset + v.size) ≡ true = and_second (nat_le (low + v.offset) x) (nat_lt x (low + v.offset + v.size)) here in
      below_end frame low x v.offset v.size high laid.0.1)
  | inr rest ↦ variables_below frame low vs x laid.1.1 rest
]
  where
    below_end : (frame low x offset size : ℕ) → nat_lt x (low + offset + size) ≡ true → offset + size + 8 ≤ frame → x < low + frame
    below_end frame low x offset size test fits = grind (arith, nat_tests)
