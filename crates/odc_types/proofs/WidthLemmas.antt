-- Values of the integer types, and what a number wraps to.
use Rattle.std.proofs.Common.{◌≡◌, ℕ, ◌-◌, ◌/◌, ◌^◌, ◌<◌, ◌≤◌, ℤ, pos, negsuc, ◌+ℤ◌, ◌-ℤ◌, ◌*ℤ◌, unsigned_abs, int_div, arith, refl, suc, zero}
use Rattle.std.proofs.Math.Nat.{div-le_self}
use Rattle.std.proofs.Math.IntN.{suc_ℤ, suc_ℤ-*ℤ}
use Rattle.std.proofs.Math.Pow.{pow_pos}
use Rattle.std.specs.Prelude.{Bool, true, false, if◌then◌else◌, ◌&&◌, int_le}
use Rattle.std.specs.Prelude.{neg_ℤ}
use Rattle.std.proofs.lemmas.Int.{ints, fits_signed_from_abs}
use Rattle.std.specs.Int.{int_rem_euclid, w128}
use Rattle.std.specs.Prelude.{FitsSigned, IsTrue}
use Rattle.odc_types.specs.declared.width.Width.{Width}
use Rattle.odc_types.specs.declared.width.Width.TheVariants.{Int, Uint, I8, I16, I32, I64, U8, U16, U32, U64}
use Rattle.odc_types.specs.Widths.{bits_of, is_signed, least, wrapped, IsValue}

-- a number is its rest and a multiple of the divisor
pub euclid_parts : (z : ℤ) (n : ℕ) → 0 < n → (k : ℤ) × (z ≡ (int_rem_euclid z (pos n) +ℤ (k *ℤ pos n)))
euclid_parts (pos a) n h = (pos (a / n), omega (arith, ints))
euclid_parts (negsuc a) n h = (negsuc (a / n), omega (arith, ints))

-- the same, one multiple further
pub euclid_below : (z : ℤ) (n : ℕ) → 0 < n → (k : ℤ) × (z ≡ ((int_rem_euclid z (pos n) -ℤ pos n) +ℤ (k *ℤ pos n)))
euclid_below z n h = let p = euclid_parts z n h in let e = suc_ℤ-*ℤ p.0 (pos n) in (suc_ℤ p.0, omega (arith, ints, p.1, e))

value_small : (w : Width) (z : ℤ) → IsValue w z → unsigned_abs z < 2 ^ 64
value_small Int z v = omega (arith, ints)
value_small Uint z v = omega (arith, ints)
value_small I8 z v = omega (arith, ints)
value_small I16 z v = omega (arith, ints)
value_small I32 z v = omega (arith, ints)
value_small I64 z v = omega (arith, ints)
value_small U8 z v = omega (arith, ints)
value_small U16 z v = omega (arith, ints)
value_small U32 z v = omega (arith, ints)
value_small U64 z v = omega (arith, ints)

abs_neg : (n m : ℕ) → n ≤ m → unsigned_abs (neg_ℤ (pos n)) ≤ m
abs_neg zero m h = h
abs_neg (suc n) m h = h

div_small : (a b : ℤ) → unsigned_abs (int_div a b) ≤ unsigned_abs a
div_small (pos a) (pos b) = div-le_self a b
div_small (pos a) (negsuc b) = abs_neg (a / suc b) a (div-le_self a (suc b))
div_small (negsuc a) (pos b) = abs_neg (suc a / b) (suc a) (div-le_self (suc a) b)
div_small (negsuc a) (negsuc b) = div-le_self (suc a) (suc b)

pub quotient_fits : (w : Width) (a b : ℤ) → IsValue w a → FitsSigned w128 (int_div a b)
quotient_fits w a b v =
    let small = value_small w a v in
    let less = div_small a b in
    fits_signed_from_abs w128 (int_div a b) (omega arith)

pub least_wraps : (w : Width) → IsTrue (is_signed w) → wrapped w (int_div (least w) (negsuc 0)) ≡ least w
least_wraps Int s = refl
least_wraps Uint s = cc
least_wraps I8 s = refl
least_wraps I16 s = refl
least_wraps I32 s = refl
least_wraps I64 s = refl
least_wraps U8 s = cc
least_wraps U16 s = cc
least_wraps U32 s = cc
least_wraps U64 s = cc

congruent_by : (b : Bool) (z : ℤ) (n : ℕ) → 0 < n → (k : ℤ) × (z ≡ ((if b then int_rem_euclid z (pos n) -ℤ pos n else int_rem_euclid z (pos n)) +ℤ (k *ℤ pos n)))
congruent_by true z n h = euclid_below z n h
congruent_by false z n h = euclid_parts z n h

-- what a number wraps to differs from it by a multiple of the number of values
pub wrapped_congruent : (w : Width) (z : ℤ) → (k : ℤ) × (z ≡ (wrapped w z +ℤ (k *ℤ pos (2 ^ bits_of w))))
wrapped_congruent w z =
    congruent_by (is_signed w && int_le (pos (2 ^ (bits_of w - 1))) (int_rem_euclid z (pos (2 ^ bits_of w)))) z (2 ^ bits_of w) (pow_pos (bits_of w))
