-- The first answer among those for the numbers below a bound.
use Rattle.std.proofs.Common.{◌≡◌, ℕ, zero, suc, ◌+◌, ◌-◌, ◌<◌, Option, Some, None, arith, refl, ap, ◌∙◌, add-one}
use Rattle.elf_file.specs.Rules.{or_else, first_below}

pub first_more : {A : Type 0} (f : ℕ → Option A) (k : ℕ) → first_below f k ≡ None → f k ≡ None → first_below f (k + 1) ≡ None
first_more f k h e = rw (add-one, h) e

first_at : {A : Type 0} (f : ℕ → Option A) (k d n : ℕ) (x : A) → n ≡ suc (k + d) → first_below f k ≡ None → f k ≡ Some x → first_below f n ≡ Some x
first_at {A} f k zero n x e h g =
    let here : n ≡ suc k = omega arith in
    ap (first_below f) here ∙ ap (λ (o : Option A). or_else o (f k)) h ∙ g
first_at {A} f k (suc d) n x e h g =
    let here : n ≡ suc (suc (k + d)) = omega arith in
    let before : first_below f (suc (k + d)) ≡ Some x = first_at f k d (suc (k + d)) x refl h g in
    ap (first_below f) here ∙ ap (λ (o : Option A). or_else o (f (suc (k + d)))) before

-- where there is one it stays the first
pub first_is : {A : Type 0} (f : ℕ → Option A) (k n : ℕ) (x : A) → k < n → first_below f k ≡ None → f k ≡ Some x → first_below f n ≡ Some x
first_is f k n x l h g = first_at f k (n - suc k) n x (omega arith) h g
