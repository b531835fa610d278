-- A list that is walked to its end.
use Rattle.std.proofs.Common.{◌≡◌, ℕ, zero, suc, ◌+◌, ◌^◌, ◌<◌, ◌≤◌, List, [], ◌∷◌, length, refl, subst, arith}
use Rattle.std.specs.Prelude.{drop}
use Rattle.odc_limits.specs.Sized.{capped}

none_left : {A : Type 0} (xs : List A) (i : ℕ) → length xs ≤ i → drop i xs ≡ []
none_left [] zero h = refl
none_left [] (suc i) h = refl
none_left (x ∷ xs) zero h = absurd (omega (arith, h))
none_left (x ∷ xs) (suc i) h = none_left xs i (omega (arith, h))

-- where what is left and the total are the whole, and nothing is left, the total is the whole
pub walked : {A : Type 0} (f : List A → ℕ) (xs : List A) (i total : ℕ) → f [] ≡ 0 → length xs ≤ i → total < 2 ^ 64 → capped (total + f (drop i xs)) ≡ capped (f xs) → total ≡ capped (f xs)
walked f xs i total nothing h small whole = ended (f []) (f xs) total nothing small (subst (λ zs. capped (total + f zs) ≡ capped (f xs)) (none_left xs i h) whole)
  where
    ended : (a b total : ℕ) → a ≡ 0 → total < 2 ^ 64 → capped (total + a) ≡ capped b → total ≡ capped b
    ended a b total nothing small whole = omega (arith, nothing, small, whole)
