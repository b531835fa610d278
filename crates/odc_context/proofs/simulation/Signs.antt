-- The sign of a word.
use Rattle.std.proofs.Common.{◌≡◌, ℕ, suc, ◌+◌, ◌-◌, ◌^◌, ◌<◌, ◌≤◌, Bool, true, false, cond, arith, ap, ◌∙◌}
use Rattle.std.specs.Prelude.{ℤ, pos, negsuc, nat_lt, not, int_lt}
use Rattle.std.specs.Int.{w64, cast_signed}
use Rattle.std.proofs.lemmas.Bool.Decides.{nat_tests}
use Rattle.std.proofs.Math.Nat.{mod-eq_of_lt}
use Rattle.rv_table.specs.Words.{signed_below, minus}

pub signed_low : (w : ℕ) → w < 2 ^ 63 → cast_signed w64 w ≡ pos w
signed_low w h = let test : nat_lt w (2 ^ 63) ≡ true = grind (arith, nat_tests) in ap (λ (b : Bool). cond b (pos w) (negsuc (2 ^ 64 - suc w))) test

pub signed_high : (w : ℕ) → 2 ^ 63 ≤ w → w < 2 ^ 64 → cast_signed w64 w ≡ negsuc (2 ^ 64 - 1 - w)
signed_high w h small =
    let test : nat_lt w (2 ^ 63) ≡ false = grind (arith, nat_tests) in
    let same : 2 ^ 64 - suc w ≡ 2 ^ 64 - 1 - w = omega arith in
    ap (λ (b : Bool). cond b (pos w) (negsuc (2 ^ 64 - suc w))) test ∙ ap (λ (n : ℕ). negsuc n) same

pub below_low : (w : ℕ) → w < 2 ^ 63 → not (signed_below w 0) ≡ true
below_low w h = ap (λ (z : ℤ). not (int_lt z (cast_signed w64 0))) (signed_low w h) ∙ (let test : nat_lt w 0 ≡ false = grind (arith, nat_tests) in ap not test)

pub below_high : (w : ℕ) → 2 ^ 63 ≤ w → w < 2 ^ 64 → not (signed_below w 0) ≡ false
below_high w h small = ap (λ (z : ℤ). not (int_lt z (cast_signed w64 0))) (signed_high w h small)

pub negated : (w : ℕ) → 2 ^ 63 ≤ w → w < 2 ^ 64 → minus 0 w ≡ 2 ^ 64 - 1 - w + 1
negated w h small = let small_one : 0 + (2 ^ 64 - w) < 2 ^ 64 = omega arith in mod-eq_of_lt small_one ∙ omega arith
