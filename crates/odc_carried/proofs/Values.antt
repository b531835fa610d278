-- Values of the source and words: what bytes are on the machine, and the operations on the integers that words are.
use Rattle.std.proofs.Common.{◌≡◌, ℕ, zero, suc, ◌+◌, ◌-◌, ◌*◌, ◌/◌, ◌%◌, ◌^◌, ◌<◌, ◌≤◌, Bool, true, false, List, [], ◌∷◌, length, arith, ap, ◌∙◌, sym, subst, refl, lit<}
use Rattle.std.specs.Prelude.{ℤ, pos, negsuc, ◌+ℤ◌, ◌-ℤ◌, ◌*ℤ◌, neg_ℤ, nat_abs, Option, Some, None, option_map, nat_lt, ◌==◌, int_div, int_rem, int_lt, not, ◌||◌, if◌then◌else◌}
use Rattle.std.specs.Ordering.{int_eq}
use Rattle.std.specs.Int.{w64, cast_signed, cast_unsigned, int_wrap}
use Rattle.std.proofs.Math.Nat.{mod-eq_of_lt, div-le_self, mod-le}
use Rattle.std.proofs.lemmas.Int.{wrapping_add-bits, wrapping_sub-bits, wrapping_mul-bits, of_z-to_z, ints}
use Rattle.std.proofs.lemmas.Bool.Decides.{nat_tests, Decides-int_eq}
use Rattle.std.specs.Cmp.{unsigned_Decides}
use Rattle.std.specs.Bool.{one_answer}
use Rattle.rv_table.specs.Words.{plus, minus, quotient, remainder, signed_below}
use Rattle.odc_program.specs.States.Bytes.{number, of_address, of_procedure, Value, bytes_of, number_of, after_byte, residue, signed_of, int_of}
use Rattle.odc_core.specs.Words.{number_of as word_of, bytes_of as numbers_of}
use Rattle.odc_carried.specs.Places.{bytes_at}

-- ---- signs
pub signed_low : (w : ℕ) → w < 2 ^ 63 → cast_signed w64 w ≡ pos w
signed_low w h = let test : nat_lt w (2 ^ 63) ≡ true = grind (arith, nat_tests) in ap (λ (b : Bool). if b then pos w else negsuc (2 ^ 64 - suc w)) test

pub signed_high : (w : ℕ) → 2 ^ 63 ≤ w → w < 2 ^ 64 → cast_signed w64 w ≡ negsuc (2 ^ 64 - 1 - w)
signed_high w h small =
    let test : nat_lt w (2 ^ 63) ≡ false = grind (arith, nat_tests) in
    let same : 2 ^ 64 - suc w ≡ 2 ^ 64 - 1 - w = omega arith in
    ap (λ (b : Bool). if b then pos w else negsuc (2 ^ 64 - suc w)) test ∙ ap (λ (n : ℕ). negsuc n) same

pub signed_same : (w : ℕ) → w < 2 ^ 64 → signed_of 8 w ≡ cast_signed w64 w
signed_same w small = by (nat_lt w (2 ^ 63)) refl
  where
    by : (b : Bool) → nat_lt w (2 ^ 63) ≡ b → signed_of 8 w ≡ cast_signed w64 w
    by true e = let low : w < 2 ^ 63 = grind (arith, nat_tests) in ap (λ (b : Bool). if b then pos w else (pos w -ℤ pos (2 ^ 64))) e ∙ sym (signed_low w low)
    by false e =
        let high : 2 ^ 63 ≤ w = grind (arith, nat_tests) in
        let turned : (pos w -ℤ pos (2 ^ 64)) ≡ negsuc (2 ^ 64 - 1 - w) = omega (arith, ints) in
        ap (λ (b : Bool). if b then pos w else (pos w -ℤ pos (2 ^ 64))) e ∙ turned ∙ sym (signed_high w high small)

-- ---- bytes
-- a value of so many bytes is this word on the machine
pub record Val (entries : ℕ → ℕ) (n : ℕ) (v : Value) (w : ℕ) : Type 0 where
  pub long : length v ≡ n
  pub is : bytes_at entries v ≡ numbers_of n w
  pub small : w < 2 ^ 64

pub numbers_are : (entries : ℕ → ℕ) (v : Value) (n : ℕ) → number_of v ≡ Some n → word_of (bytes_at entries v) ≡ n
numbers_are entries [] n e = cc
numbers_are entries (number b ∷ v) n e = by (number_of v) refl e (λ k f. numbers_are entries v k f)
  where
    by : (o : Option ℕ) → number_of v ≡ o → after_byte b o ≡ Some n → ((k : ℕ) → number_of v ≡ Some k → word_of (bytes_at entries v) ≡ k) → word_of (bytes_at entries (number b ∷ v)) ≡ n
    by None f g below = cc
    by (Some k) f g below =
        let rest : word_of (bytes_at entries v) ≡ k = below k f in
        let sum : b + 256 * k ≡ n = cc in
        ap (λ (x : ℕ). b + 256 * x) rest ∙ sum
numbers_are entries (of_address b o k ∷ v) n e = cc
numbers_are entries (of_procedure f k ∷ v) n e = cc

abbrev IsBytes : ℕ → ℕ → Type 0
IsBytes zero w = w ≡ 0
IsBytes (suc n) w = IsBytes n (w / 256)

bytes_word : (n w : ℕ) → IsBytes n w → word_of (numbers_of n w) ≡ w
bytes_word zero w h = sym h
bytes_word (suc n) w h =
    let whole : w % 256 + 256 * (w / 256) ≡ w = omega arith in
    ap (λ (x : ℕ). w % 256 + 256 * x) (bytes_word n (w / 256) h) ∙ whole

pub word_number : (w : ℕ) → w < 2 ^ 64 → word_of (numbers_of 8 w) ≡ w
word_number w h = bytes_word 8 w (omega arith)

pub val_number : (entries : ℕ → ℕ) (v : Value) (w n : ℕ) → Val entries 8 v w → number_of v ≡ Some n → n ≡ w
val_number entries v w n x e = sym (numbers_are entries v n e) ∙ ap word_of x.is ∙ word_number w x.small

-- the integer that a value is, where it is one
pub val_int : (entries : ℕ → ℕ) (v : Value) (w : ℕ) (z : ℤ) → Val entries 8 v w → int_of true 8 v ≡ Some z → z ≡ cast_signed w64 w
val_int entries v w z x e = by (number_of v) refl e
  where
    by : (o : Option ℕ) → number_of v ≡ o → option_map (signed_of 8) o ≡ Some z → z ≡ cast_signed w64 w
    by None f g = cc
    by (Some n) f g =
        let same : n ≡ w = val_number entries v w n x f in
        let first : signed_of 8 n ≡ z = cc in
        sym first ∙ ap (signed_of 8) same ∙ signed_same w x.small

pub residue_small : (z : ℤ) → residue (2 ^ 64) z < 2 ^ 64
residue_small (pos n) = omega arith
residue_small (negsuc n) = omega arith

pub val_word : (entries : ℕ → ℕ) (w : ℕ) → w < 2 ^ 64 → Val entries 8 (bytes_of 8 w) w
val_word entries w h = record { long = refl; is = refl; small = h }

-- ---- operations
wrapped : (z : ℤ) (r : ℕ) → r < 2 ^ 64 → cast_signed w64 r ≡ int_wrap w64 z → residue (2 ^ 64) z ≡ r
unfolding int_wrap
wrapped (pos n) r small e = sym (of_z-to_z w64 (n % 2 ^ 64) (omega arith)) ∙ ap (cast_unsigned w64) (sym e) ∙ of_z-to_z w64 r small
wrapped (negsuc n) r small e = sym (of_z-to_z w64 (2 ^ 64 - 1 - n % 2 ^ 64) (omega arith)) ∙ ap (cast_unsigned w64) (sym e) ∙ of_z-to_z w64 r small

pub added : (u v : ℕ) → u < 2 ^ 64 → v < 2 ^ 64 → residue (2 ^ 64) (cast_signed w64 u +ℤ cast_signed w64 v) ≡ plus u v
added u v p q = wrapped (cast_signed w64 u +ℤ cast_signed w64 v) (plus u v) (omega arith) (wrapping_add-bits w64 u v p q)

pub subtracted : (u v : ℕ) → u < 2 ^ 64 → v < 2 ^ 64 → residue (2 ^ 64) (cast_signed w64 u -ℤ cast_signed w64 v) ≡ minus u v
subtracted u v p q = wrapped (cast_signed w64 u -ℤ cast_signed w64 v) (minus u v) (omega arith) (wrapping_sub-bits w64 u v p q)

pub multiplied : (u v : ℕ) → u < 2 ^ 64 → v < 2 ^ 64 → residue (2 ^ 64) (cast_signed w64 u *ℤ cast_signed w64 v) ≡ u * v % 2 ^ 64
multiplied u v p q = wrapped (cast_signed w64 u *ℤ cast_signed w64 v) (u * v % 2 ^ 64) (omega arith) (wrapping_mul-bits w64 u v p q)

-- an integer that is near enough has the word of its residue
abbrev IsNear : ℤ → Type 0
IsNear (pos n) = n ≤ 2 ^ 63
IsNear (negsuc n) = n < 2 ^ 63

near_residue : (z : ℤ) → IsNear z → residue (2 ^ 64) z ≡ cast_unsigned w64 z
near_residue (pos n) h = mod-eq_of_lt (omega arith)
near_residue (negsuc n) h = let below : n < 2 ^ 64 = omega arith in let same : n % 2 ^ 64 ≡ n = mod-eq_of_lt below in omega (arith, same)

near_negative : (n : ℕ) → n ≤ 2 ^ 63 → IsNear (neg_ℤ (pos n))
near_negative zero h = h
near_negative (suc n) h = omega arith

near_quotient : (y z : ℤ) → IsNear y → IsNear (int_div y z)
near_quotient (pos a) (pos b) h = omega (arith, div-le_self a b)
near_quotient (pos a) (negsuc b) h = near_negative (a / suc b) (omega (arith, div-le_self a (suc b)))
near_quotient (negsuc a) (pos b) h = near_negative (suc a / b) (omega (arith, div-le_self (suc a) b))
near_quotient (negsuc a) (negsuc b) h = omega (arith, div-le_self (suc a) (suc b))

near_remainder : (y z : ℤ) → IsNear y → IsNear (int_rem y z)
near_remainder (pos a) z h = omega (arith, mod-le a (nat_abs z))
near_remainder (negsuc a) z h = near_negative (suc a % nat_abs z) (omega (arith, mod-le (suc a) (nat_abs z)))

near_word : (v : ℕ) → v < 2 ^ 64 → IsNear (cast_signed w64 v)
near_word v h = by (nat_lt v (2 ^ 63)) refl
  where
    by : (t : Bool) → nat_lt v (2 ^ 63) ≡ t → IsNear (cast_signed w64 v)
    by true e = let below : v < 2 ^ 63 = grind (arith, nat_tests) in subst IsNear (sym (signed_low v below)) (omega arith)
    by false e = let big : 2 ^ 63 ≤ v = grind (arith, nat_tests) in subst IsNear (sym (signed_high v big h)) (omega arith)

pub divided_word : (u v : ℕ) → u < 2 ^ 64 → (v == 0) ≡ false → residue (2 ^ 64) (int_div (cast_signed w64 u) (cast_signed w64 v)) ≡ quotient w64 u v
divided_word u v p e =
    near_residue (int_div (cast_signed w64 u) (cast_signed w64 v)) (near_quotient (cast_signed w64 u) (cast_signed w64 v) (near_word u p))
    ∙ sym (ap (λ (b : Bool). if b then cast_unsigned w64 (negsuc 0) else cast_unsigned w64 (int_div (cast_signed w64 u) (cast_signed w64 v))) e)

pub rest_word : (u v : ℕ) → u < 2 ^ 64 → (v == 0) ≡ false → residue (2 ^ 64) (int_rem (cast_signed w64 u) (cast_signed w64 v)) ≡ remainder w64 u v
rest_word u v p e =
    near_residue (int_rem (cast_signed w64 u) (cast_signed w64 v)) (near_remainder (cast_signed w64 u) (cast_signed w64 v) (near_word u p))
    ∙ sym (ap (λ (b : Bool). if b then u else cast_unsigned w64 (int_rem (cast_signed w64 u) (cast_signed w64 v))) e)

word_of_near : (z : ℤ) → IsNear z → cast_unsigned w64 z < 2 ^ 64
word_of_near (pos n) h = omega arith
word_of_near (negsuc n) h = omega arith

pub quotient_small : (u v : ℕ) → u < 2 ^ 64 → quotient w64 u v < 2 ^ 64
quotient_small u v p = by (v == 0)
  where
    by : (t : Bool) → (if t then cast_unsigned w64 (negsuc 0) else cast_unsigned w64 (int_div (cast_signed w64 u) (cast_signed w64 v))) < 2 ^ 64
    by true = lit< tt
    by false = word_of_near (int_div (cast_signed w64 u) (cast_signed w64 v)) (near_quotient (cast_signed w64 u) (cast_signed w64 v) (near_word u p))

pub remainder_small : (u v : ℕ) → u < 2 ^ 64 → remainder w64 u v < 2 ^ 64
remainder_small u v p = by (v == 0)
  where
    by : (t : Bool) → (if t then u else cast_unsigned w64 (int_rem (cast_signed w64 u) (cast_signed w64 v))) < 2 ^ 64
    by true = p
    by false = word_of_near (int_rem (cast_signed w64 u) (cast_signed w64 v)) (near_remainder (cast_signed w64 u) (cast_signed w64 v) (near_word u p))

-- equal words are equal integers
pub equal_test : (u v : ℕ) → u < 2 ^ 64 → v < 2 ^ 64 → int_eq (cast_signed w64 u) (cast_signed w64 v) ≡ (u == v)
equal_test u v p q =
    let d = unsigned_Decides u v in
    one_answer (int_eq (cast_signed w64 u) (cast_signed w64 v)) (u == v) (Decides-int_eq (cast_signed w64 u) (cast_signed w64 v))
    ((λ e. ap (cast_signed w64) (d.0 e)), (λ e. d.1 (sym (of_z-to_z w64 u p) ∙ ap (cast_unsigned w64) e ∙ of_z-to_z w64 v q)))

pub zero_test : (v : ℕ) → v < 2 ^ 64 → int_eq (cast_signed w64 v) (pos 0) ≡ (v == 0)
zero_test v p = equal_test v 0 p (lit< tt)

-- bytes as a word
abbrev pub AreBytes : List ℕ → Type 0
AreBytes [] = Unit {0}
AreBytes (b ∷ bs) = (b < 256) × AreBytes bs

word_bytes : (bs : List ℕ) → AreBytes bs → numbers_of (length bs) (word_of bs) ≡ bs
word_bytes [] h = refl
word_bytes (b ∷ bs) h =
    let first : (b + 256 * word_of bs) % 256 ≡ b = omega (arith, h.0) in
    let rest : (b + 256 * word_of bs) / 256 ≡ word_of bs = omega (arith, h.0) in
    ap (λ (x : ℕ). x ∷ numbers_of (length bs) ((b + 256 * word_of bs) / 256)) first ∙ ap (λ (x : ℕ). b ∷ numbers_of (length bs) x) rest ∙ ap (λ (xs : List ℕ). b ∷ xs) (word_bytes bs h.1)

is_bytes : (bs : List ℕ) → AreBytes bs → IsBytes (length bs) (word_of bs)
is_bytes [] h = refl
is_bytes (b ∷ bs) h =
    let rest : (b + 256 * word_of bs) / 256 ≡ word_of bs = omega (arith, h.0) in
    subst (IsBytes (length bs)) (sym rest) (is_bytes bs h.1)

pub eight_bytes : (bs : List ℕ) → length bs ≡ 8 → AreBytes bs → (bs ≡ numbers_of 8 (word_of bs)) × (word_of bs < 2 ^ 64)
eight_bytes bs long h =
    let w : ℕ = word_of bs in
    let small : IsBytes 8 w = (let P : ℕ → Type 0 = λ n. IsBytes n w in subst P long (is_bytes bs h)) in
    (sym (word_bytes bs h) ∙ ap (λ (n : ℕ). numbers_of n w) long, omega (arith, small))

-- one integer comes behind another where they are neither equal nor the other way round
pub behind_is : (y z : ℤ) → int_lt z y ≡ not (int_eq y z || int_lt y z)
behind_is (pos a) (pos b) = grind (arith, nat_tests)
behind_is (pos a) (negsuc b) = refl
behind_is (negsuc a) (pos b) = refl
behind_is (negsuc a) (negsuc b) = grind (arith, nat_tests)

pub not_twice : (b : Bool) → not (not b) ≡ b
not_twice true = refl
not_twice false = refl

pub below_low : (w : ℕ) → w < 2 ^ 63 → not (signed_below w 0) ≡ true
below_low w h = ap (λ (z : ℤ). not (int_lt z (cast_signed w64 0))) (signed_low w h) ∙ (let test : nat_lt w 0 ≡ false = grind (arith, nat_tests) in ap not test)

pub below_high : (w : ℕ) → 2 ^ 63 ≤ w → w < 2 ^ 64 → not (signed_below w 0) ≡ false
below_high w h small = ap (λ (z : ℤ). not (int_lt z (cast_signed w64 0))) (signed_high w h small)

pub negated : (w : ℕ) → 2 ^ 63 ≤ w → w < 2 ^ 64 → minus 0 w ≡ 2 ^ 64 - 1 - w + 1
negated w h small = let small_one : 0 + (2 ^ 64 - w) < 2 ^ 64 = omega arith in mod-eq_of_lt small_one ∙ omega arith
