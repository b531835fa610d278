-- The exact product of two signed words, of which no bit is lost in 128 bits.
use Rattle.std.proofs.Common.{◌≡◌, ◌^◌, ◌<◌, ◌≤◌, ℤ, pos, negsuc, ◌*ℤ◌, arith, ap, ◌∙◌, to_z, of_z, lit<}
use Rattle.std.specs.Prelude.{unsigned_abs, FitsSigned}
use Rattle.std.specs.Int.{w64, w128}
use Rattle.std.proofs.lemmas.Int.{fits_signed_mul, to_z-of_z}
use lib.Signed.{mag}

at_most : (z : ℤ) → mag z < 2 ^ 63 → unsigned_abs z ≤ 2 ^ 63
at_most (pos n) h = omega arith
at_most (negsuc n) h = omega arith

fits_64 : (z : ℤ) → mag z < 2 ^ 63 → FitsSigned w64 z
fits_64 z h = record { sfits = h }

fits_128 : (z : ℤ) → mag z < 2 ^ 63 → FitsSigned w128 z
fits_128 z h = record { sfits = omega arith }

same_64 : (z : ℤ) → mag z < 2 ^ 63 → to_z w64 (of_z w64 z) ≡ z
same_64 z h = to_z-of_z w64 z (fits_64 z h)

same_128 : (z : ℤ) → mag z < 2 ^ 63 → to_z w128 (of_z w128 z) ≡ z
same_128 z h = to_z-of_z w128 z (fits_128 z h)

pub product_is : (x y : ℤ) → mag x < 2 ^ 63 → mag y < 2 ^ 63 →
    of_z w128 (to_z w128 (of_z w128 (to_z w128 (of_z w128 (to_z w64 (of_z w64 x))) *ℤ to_z w128 (of_z w128 (to_z w64 (of_z w64 y)))))) ≡ of_z w128 (x *ℤ y)
product_is x y hx hy =
    ap (λ (a : ℤ). of_z w128 (to_z w128 (of_z w128 (to_z w128 (of_z w128 a) *ℤ to_z w128 (of_z w128 (to_z w64 (of_z w64 y))))))) (same_64 x hx)
    ∙ ap (λ (b : ℤ). of_z w128 (to_z w128 (of_z w128 (to_z w128 (of_z w128 x) *ℤ to_z w128 (of_z w128 b))))) (same_64 y hy)
    ∙ ap (λ (a : ℤ). of_z w128 (to_z w128 (of_z w128 (a *ℤ to_z w128 (of_z w128 y))))) (same_128 x hx)
    ∙ ap (λ (b : ℤ). of_z w128 (to_z w128 (of_z w128 (x *ℤ b)))) (same_128 y hy)
    ∙ ap (of_z w128) (to_z-of_z w128 (x *ℤ y) (fits_signed_mul w128 x y (2 ^ 63) (2 ^ 63) (at_most x hx) (at_most y hy) (lit< tt)))
