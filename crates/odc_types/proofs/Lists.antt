-- Lists at an index.
use Rattle.std.proofs.Common.{◌≡◌, ◌≢◌, ℕ, zero, suc, List, [], ◌∷◌, ◌++◌, Some, slice_get, slice_set, refl, ap}

pub get_front : {A : Type 0} (xs ys : List A) (t : ℕ) (x : A) → slice_get xs t ≡ Some x → slice_get (xs ++ ys) t ≡ Some x
get_front [] ys t x e = cc
get_front (y ∷ xs) ys zero x e = e
get_front (y ∷ xs) ys (suc t) x e = get_front xs ys t x e

pub get_elsewhere : {A : Type 0} (xs : List A) (i t : ℕ) (y : A) → t ≢ i → slice_get (slice_set xs i y) t ≡ slice_get xs t
get_elsewhere [] i t y other = refl
get_elsewhere (x ∷ xs) zero zero y other = absurd (other refl)
get_elsewhere (x ∷ xs) zero (suc t) y other = refl
get_elsewhere (x ∷ xs) (suc i) zero y other = refl
get_elsewhere (x ∷ xs) (suc i) (suc t) y other = get_elsewhere xs i t y (λ same. other (ap suc same))
