-- Shifts past the ends of a constant.
use Rattle.std.proofs.Common.{◌≡◌, ◌≢◌, ℕ, zero, suc, ◌*◌, ◌%◌, ◌^◌, ◌<◌, ◌≤◌, ℤ, pos, negsuc, ◌*ℤ◌, refl, sym, ◌∙◌, ap, subst, arith, unsigned_abs, FitsSigned}
use Rattle.std.specs.Int.{w128, int_shr, cast_signed}
use Rattle.std.proofs.lemmas.Int.{unsigned_abs-mul, to_z_pos}
use Rattle.std.proofs.Math.Nat.{pow-le-pow_right, div-eq_of_lt}
use Rattle.odc_constants.specs.Folds.{shifted_out}

most : (z : ℤ) → FitsSigned w128 z → unsigned_abs z ≤ 2 ^ 127
most (pos n) h = omega (arith, h)
most (negsuc n) h = omega (arith, h)

some : (a : ℤ) → a ≢ pos 0 → 1 ≤ unsigned_abs a
some (pos zero) h = absurd (h refl)
some (pos (suc n)) h = omega arith
some (negsuc n) h = omega arith

size : (a : ℤ) (k : ℕ) → unsigned_abs (a *ℤ pos (2 ^ k)) ≡ unsigned_abs a * 2 ^ k
size a k = unsigned_abs-mul a (pos (2 ^ k))

grown : (n p m : ℕ) → 1 ≤ n → m ≤ p → m ≤ n * p
grown zero p m h l = absurd (omega (arith, h))
grown (suc n) p m h l = omega arith

-- a number other than 0, shifted by 128 and more
pub farther : (a : ℤ) (k : ℕ) → (a ≡ pos 0 → ⊥) → 127 < k → FitsSigned w128 (a *ℤ pos (2 ^ k)) → ⊥
farther a k h l f =
    let upper = most (a *ℤ pos (2 ^ k)) f in
    let large : 2 ^ 128 ≤ 2 ^ k = pow-le-pow_right (omega arith) l in
    let more = grown (unsigned_abs a) (2 ^ k) (2 ^ 128) (some a h) large in
    let same = size a k in
    omega arith

not_there : (a : ℤ) → (a ≡ pos 0 → ⊥) → (a ≡ negsuc 0 → ⊥) → FitsSigned w128 (a *ℤ pos (2 ^ 127)) → ⊥
not_there (pos zero) h g f = h refl
not_there (pos (suc n)) h g f = omega (arith, f)
not_there (negsuc zero) h g f = g refl
not_there (negsuc (suc n)) h g f =
    let upper = most (negsuc (suc n) *ℤ pos (2 ^ 127)) f in
    let same = size (negsuc (suc n)) 127 in
    omega arith

-- and by 127, but for -1
pub far : (a : ℤ) (k : ℕ) → (a ≡ pos 0 → ⊥) → (a ≡ negsuc 0 → ⊥) → 127 ≤ k → k ≤ 127 → FitsSigned w128 (a *ℤ pos (2 ^ k)) → ⊥
far a k h g l m f = let same : k ≡ 127 = omega arith in not_there a h g (subst (λ n. FitsSigned w128 (a *ℤ pos (2 ^ n))) same f)

pub none : (a : ℤ) (k : ℕ) → a ≡ pos 0 → a *ℤ pos (2 ^ k) ≡ pos 0
none a k e = let z : 0 * 2 ^ k ≡ 0 = omega arith in rw e (ap pos z)

-- each bit is shifted out
pub all_gone : (a : ℤ) (k : ℕ) → FitsSigned w128 a → 128 ≤ k → shifted_out a ≡ int_shr a k
all_gone (pos n) k h l =
    let large : 2 ^ 128 ≤ 2 ^ k = pow-le-pow_right (omega arith) l in
    ap pos (sym (div-eq_of_lt (omega (arith, h))))
all_gone (negsuc n) k h l =
    let large : 2 ^ 128 ≤ 2 ^ k = pow-le-pow_right (omega arith) l in
    ap negsuc (sym (div-eq_of_lt (omega (arith, h))))

pub power_is : (k : ℕ) → k < 127 → cast_signed w128 (1 * 2 ^ k % 2 ^ 128) ≡ pos (2 ^ k)
power_is k l =
    let low : k ≤ 126 = omega arith in
    let small : 2 ^ k ≤ 2 ^ 126 = pow-le-pow_right (omega arith) low in
    let same : 1 * 2 ^ k % 2 ^ 128 ≡ 2 ^ k = omega arith in
    ap (cast_signed w128) same ∙ to_z_pos w128 (2 ^ k) (omega arith)
