-- Bytes behind an index, as a function: reading a list of them and writing one.
use Rattle.std.specs.Prelude.{ℕ, zero, suc, ◌+◌, ◌==◌, List, [], ◌∷◌, if◌then◌else◌}

-- the n values from index a on
abbrev pub run : {A : Type 0} → (ℕ → A) → ℕ → ℕ → List A
run f a zero = []
run f a (suc n) = f a ∷ run f (a + 1) n

-- f with these values from index a on
abbrev pub written : {A : Type 0} → (ℕ → A) → ℕ → List A → ℕ → A
written f a [] x = f x
written f a (v ∷ vs) x = if x == a then v else written f (a + 1) vs x
