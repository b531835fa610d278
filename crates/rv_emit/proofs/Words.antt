-- Words: those that operations give have 64 bits, and bytes read and written are those of the machine.
use Rattle.std.proofs.Common.{◌≡◌, ℕ, zero, suc, ◌+◌, ◌-◌, ◌*◌, ◌/◌, ◌%◌, ◌^◌, ◌<◌, ◌≤◌, Bool, true, false, cond, ◌⊎◌, inl, inr, arith, ap, ◌∙◌, sym, subst, refl}
use Rattle.std.specs.Prelude.{ℤ, pos, negsuc, ◌==◌, not, nat_lt, int_div, int_rem, unsigned_abs, neg_ℤ, if◌then◌else◌}
use Rattle.std.specs.Int.{w64, to_le_bytes, cast_signed, cast_unsigned}
use Rattle.std.specs.Int.Bits.{and_lt}
use Rattle.std.proofs.lemmas.Nat.{or_lt, xor_lt}
use Rattle.std.proofs.lemmas.Bool.Decides.{nat_tests}
use Rattle.std.proofs.Math.Nat.{div-le_self, mod-le}
use Rattle.rv_table.specs.Bytes.{run}
use Rattle.rv_table.specs.Words.{minus, flag, extended, signed_below, shifted_left, shifted_right, shifted_signed, quotient, remainder, quotient_unsigned, remainder_unsigned}
use Rattle.rv_table.specs.State.{load_size, load_value, store_bytes}
use Rattle.rv_table.specs.declared.effect.LoadKind.{LoadKind}
use Rattle.rv_table.specs.declared.effect.LoadKind.TheVariants.{Double as LoadDouble, UnsignedByte, UnsignedHalf, UnsignedWord}
use Rattle.rv_table.specs.declared.effect.StoreKind.{StoreKind}
use Rattle.rv_table.specs.declared.effect.StoreKind.TheVariants.{Byte as StoreByte, Half as StoreHalf, Word as StoreWord, Double as StoreDouble}
use Rattle.odc_core.specs.declared.tree.Width.{Width}
use Rattle.odc_core.specs.declared.tree.Width.TheVariants.{Byte, Half, Word, Double}
use Rattle.odc_core.specs.declared.tree.UnaryOp.{UnaryOp}
use Rattle.odc_core.specs.declared.tree.UnaryOp.TheVariants.{Complement, SignByte, SignHalf, SignWord}
use Rattle.odc_core.specs.declared.tree.BinaryOp.{BinaryOp}
use Rattle.odc_core.specs.declared.tree.BinaryOp.TheVariants.{Add, Subtract, Multiply, Divide, DivideUnsigned, Remainder, RemainderUnsigned, And, Or, Xor, ShiftLeft, ShiftRight, ShiftRightSigned}
use Rattle.odc_core.specs.declared.tree.Comparison.{Comparison}
use Rattle.odc_core.specs.declared.tree.Comparison.TheVariants.{Equal, Different, Less, Below}
use Rattle.odc_core.specs.Words.{width_size, unary_word, binary_word, compare_words, number_of, bytes_of}
use Rattle.odc_core.specs.Well.{AreBytes}

-- ---- quotients with sign

abbrev IsFit : ℤ → Type 0
IsFit (pos n) = n < 2 ^ 64
IsFit (negsuc n) = suc n < 2 ^ 64

cast_fit : (a : ℕ) → a < 2 ^ 64 → IsFit (cast_signed w64 a)
cast_fit a h = by (nat_lt a (2 ^ 63)) refl
  where
    by : (t : Bool) → nat_lt a (2 ^ 63) ≡ t → IsFit (cond t (pos a) (negsuc (2 ^ 64 - suc a)))
    by true e = h
    by false e = let big : 2 ^ 63 ≤ a = grind (arith, nat_tests) in omega arith

negative_small : (n : ℕ) → cast_unsigned w64 (neg_ℤ (pos n)) < 2 ^ 64
negative_small zero = omega arith
negative_small (suc n) = omega arith

quotient_small : (x y : ℤ) → IsFit x → cast_unsigned w64 (int_div x y) < 2 ^ 64
quotient_small (pos a) (pos b) h = omega (arith, div-le_self a b)
quotient_small (pos a) (negsuc b) h = negative_small (a / suc b)
quotient_small (negsuc a) (pos b) h = negative_small (suc a / b)
quotient_small (negsuc a) (negsuc b) h = omega (arith, div-le_self (suc a) (suc b))

remainder_small : (x y : ℤ) → IsFit x → cast_unsigned w64 (int_rem x y) < 2 ^ 64
remainder_small (pos a) y h = omega (arith, mod-le a (unsigned_abs y))
remainder_small (negsuc a) y h = negative_small (suc a % unsigned_abs y)

quotient_fits : (a b : ℕ) → a < 2 ^ 64 → quotient w64 a b < 2 ^ 64
quotient_fits a b h = by (b == 0)
  where
    by : (t : Bool) → (if t then cast_unsigned w64 (negsuc 0) else cast_unsigned w64 (int_div (cast_signed w64 a) (cast_signed w64 b))) < 2 ^ 64
    by true = omega arith
    by false = quotient_small (cast_signed w64 a) (cast_signed w64 b) (cast_fit a h)

remainder_fits : (a b : ℕ) → a < 2 ^ 64 → remainder w64 a b < 2 ^ 64
remainder_fits a b h = by (b == 0)
  where
    by : (t : Bool) → (if t then a else cast_unsigned w64 (int_rem (cast_signed w64 a) (cast_signed w64 b))) < 2 ^ 64
    by true = h
    by false = remainder_small (cast_signed w64 a) (cast_signed w64 b) (cast_fit a h)

unsigned_fits : (a b : ℕ) → a < 2 ^ 64 → quotient_unsigned 64 a b < 2 ^ 64
unsigned_fits a b h = by (b == 0)
  where
    by : (t : Bool) → (if t then 2 ^ 64 - 1 else a / b) < 2 ^ 64
    by true = omega arith
    by false = omega (arith, div-le_self a b)

unsigned_left : (a b : ℕ) → a < 2 ^ 64 → remainder_unsigned a b < 2 ^ 64
unsigned_left a b h = by (b == 0)
  where
    by : (t : Bool) → (if t then a else a % b) < 2 ^ 64
    by true = h
    by false = omega (arith, mod-le a b)

right_fits : (a n : ℕ) → a < 2 ^ 64 → shifted_right a n < 2 ^ 64
right_fits a n h = omega (arith, div-le_self a (2 ^ n))

signed_fits : (a n : ℕ) → a < 2 ^ 64 → shifted_signed 64 a n < 2 ^ 64
signed_fits a n h = by (nat_lt a (2 ^ 63))
  where
    by : (t : Bool) → (if t then a / 2 ^ n else 2 ^ 64 - 1 - (2 ^ 64 - 1 - a) / 2 ^ n) < 2 ^ 64
    by true = omega (arith, div-le_self a (2 ^ n))
    by false = omega arith

pub binary_fits : (op : BinaryOp) (a b : ℕ) → a < 2 ^ 64 → b < 2 ^ 64 → binary_word op a b < 2 ^ 64
binary_fits Add a b h k = omega arith
binary_fits Subtract a b h k = omega arith
binary_fits Multiply a b h k = omega arith
binary_fits Divide a b h k = quotient_fits a b h
binary_fits DivideUnsigned a b h k = unsigned_fits a b h
binary_fits Remainder a b h k = remainder_fits a b h
binary_fits RemainderUnsigned a b h k = unsigned_left a b h
binary_fits And a b h k = and_lt 64 a b h k
binary_fits Or a b h k = or_lt 64 a b h k
binary_fits Xor a b h k = xor_lt 64 a b h k
binary_fits ShiftLeft a b h k = omega arith
binary_fits ShiftRight a b h k = right_fits a (b % 64) h
binary_fits ShiftRightSigned a b h k = signed_fits a (b % 64) h

flag_fits : (t : Bool) → flag t < 2 ^ 64
flag_fits true = omega arith
flag_fits false = omega arith

pub compare_fits : (op : Comparison) (a b : ℕ) → compare_words op a b < 2 ^ 64
compare_fits Equal a b = flag_fits (a == b)
compare_fits Different a b = flag_fits (not (a == b))
compare_fits Less a b = flag_fits (signed_below a b)
compare_fits Below a b = flag_fits (nat_lt a b)

-- a sign carried on by two shifts
sign_by_8 : (a : ℕ) → shifted_signed 64 (shifted_left 64 a 56) 56 ≡ extended 8 (a % 2 ^ 8)
sign_by_8 a =
    let low : a * 2 ^ 56 % 2 ^ 64 ≡ a % 2 ^ 8 * 2 ^ 56 = omega arith in
    ap (λ (s : ℕ). shifted_signed 64 s 56) low ∙ by (a % 2 ^ 8) (omega arith) (nat_lt (a % 2 ^ 8) (2 ^ 7)) refl
  where
    by : (b : ℕ) → b < 2 ^ 8 → (t : Bool) → nat_lt b (2 ^ 7) ≡ t → shifted_signed 64 (b * 2 ^ 56) 56 ≡ (if t then b else b + (2 ^ 64 - 2 ^ 8))
    by b h true e =
        let small : b < 2 ^ 7 = grind (arith, nat_tests) in
        let test : nat_lt (b * 2 ^ 56) (2 ^ 63) ≡ true = grind (arith, nat_tests) in
        ap (λ (u : Bool). cond u (b * 2 ^ 56 / 2 ^ 56) (2 ^ 64 - 1 - (2 ^ 64 - 1 - b * 2 ^ 56) / 2 ^ 56)) test ∙ omega arith
    by b h false e =
        let big : 2 ^ 7 ≤ b = grind (arith, nat_tests) in
        let test : nat_lt (b * 2 ^ 56) (2 ^ 63) ≡ false = grind (arith, nat_tests) in
        ap (λ (u : Bool). cond u (b * 2 ^ 56 / 2 ^ 56) (2 ^ 64 - 1 - (2 ^ 64 - 1 - b * 2 ^ 56) / 2 ^ 56)) test ∙ omega arith

sign_by_16 : (a : ℕ) → shifted_signed 64 (shifted_left 64 a 48) 48 ≡ extended 16 (a % 2 ^ 16)
sign_by_16 a =
    let low : a * 2 ^ 48 % 2 ^ 64 ≡ a % 2 ^ 16 * 2 ^ 48 = omega arith in
    ap (λ (s : ℕ). shifted_signed 64 s 48) low ∙ by (a % 2 ^ 16) (omega arith) (nat_lt (a % 2 ^ 16) (2 ^ 15)) refl
  where
    by : (b : ℕ) → b < 2 ^ 16 → (t : Bool) → nat_lt b (2 ^ 15) ≡ t → shifted_signed 64 (b * 2 ^ 48) 48 ≡ (if t then b else b + (2 ^ 64 - 2 ^ 16))
    by b h true e =
        let small : b < 2 ^ 15 = grind (arith, nat_tests) in
        let test : nat_lt (b * 2 ^ 48) (2 ^ 63) ≡ true = grind (arith, nat_tests) in
        ap (λ (u : Bool). cond u (b * 2 ^ 48 / 2 ^ 48) (2 ^ 64 - 1 - (2 ^ 64 - 1 - b * 2 ^ 48) / 2 ^ 48)) test ∙ omega arith
    by b h false e =
        let big : 2 ^ 15 ≤ b = grind (arith, nat_tests) in
        let test : nat_lt (b * 2 ^ 48) (2 ^ 63) ≡ false = grind (arith, nat_tests) in
        ap (λ (u : Bool). cond u (b * 2 ^ 48 / 2 ^ 48) (2 ^ 64 - 1 - (2 ^ 64 - 1 - b * 2 ^ 48) / 2 ^ 48)) test ∙ omega arith

sign_by_32 : (a : ℕ) → shifted_signed 64 (shifted_left 64 a 32) 32 ≡ extended 32 (a % 2 ^ 32)
sign_by_32 a =
    let low : a * 2 ^ 32 % 2 ^ 64 ≡ a % 2 ^ 32 * 2 ^ 32 = omega arith in
    ap (λ (s : ℕ). shifted_signed 64 s 32) low ∙ by (a % 2 ^ 32) (omega arith) (nat_lt (a % 2 ^ 32) (2 ^ 31)) refl
  where
    by : (b : ℕ) → b < 2 ^ 32 → (t : Bool) → nat_lt b (2 ^ 31) ≡ t → shifted_signed 64 (b * 2 ^ 32) 32 ≡ (if t then b else b + (2 ^ 64 - 2 ^ 32))
    by b h true e =
        let small : b < 2 ^ 31 = grind (arith, nat_tests) in
        let test : nat_lt (b * 2 ^ 32) (2 ^ 63) ≡ true = grind (arith, nat_tests) in
        ap (λ (u : Bool). cond u (b * 2 ^ 32 / 2 ^ 32) (2 ^ 64 - 1 - (2 ^ 64 - 1 - b * 2 ^ 32) / 2 ^ 32)) test ∙ omega arith
    by b h false e =
        let big : 2 ^ 31 ≤ b = grind (arith, nat_tests) in
        let test : nat_lt (b * 2 ^ 32) (2 ^ 63) ≡ false = grind (arith, nat_tests) in
        ap (λ (u : Bool). cond u (b * 2 ^ 32 / 2 ^ 32) (2 ^ 64 - 1 - (2 ^ 64 - 1 - b * 2 ^ 32) / 2 ^ 32)) test ∙ omega arith

-- what the instructions of an operation on one word give
abbrev pub unary_done : UnaryOp → ℕ → ℕ
unary_done Complement a = minus (2 ^ 64 - 1) a
unary_done SignByte a = shifted_signed 64 (shifted_left 64 a 56) 56
unary_done SignHalf a = shifted_signed 64 (shifted_left 64 a 48) 48
unary_done SignWord a = shifted_signed 64 (shifted_left 64 a 32) 32

pub unary_is : (op : UnaryOp) (a : ℕ) → a < 2 ^ 64 → unary_done op a ≡ unary_word op a
unary_is Complement a h = omega arith
unary_is SignByte a h = sign_by_8 a
unary_is SignHalf a h = sign_by_16 a
unary_is SignWord a h = sign_by_32 a

pub unary_fits : (op : UnaryOp) (a : ℕ) → a < 2 ^ 64 → unary_word op a < 2 ^ 64
unary_fits Complement a h = omega arith
unary_fits SignByte a h = subst (λ (w : ℕ). w < 2 ^ 64) (sign_by_8 a) (signed_fits (a * 2 ^ 56 % 2 ^ 64) 56 (omega arith))
unary_fits SignHalf a h = subst (λ (w : ℕ). w < 2 ^ 64) (sign_by_16 a) (signed_fits (a * 2 ^ 48 % 2 ^ 64) 48 (omega arith))
unary_fits SignWord a h = subst (λ (w : ℕ). w < 2 ^ 64) (sign_by_32 a) (signed_fits (a * 2 ^ 32 % 2 ^ 64) 32 (omega arith))

-- what the instructions of a comparison give
abbrev pub compare_done : Comparison → ℕ → ℕ → ℕ
compare_done Equal a b = flag (nat_lt (minus a b) 1)
compare_done Different a b = flag (nat_lt 0 (minus a b))
compare_done Less a b = flag (signed_below a b)
compare_done Below a b = flag (nat_lt a b)

minus_tells : (a b : ℕ) → a < 2 ^ 64 → b < 2 ^ 64 → (t : Bool) → (a == b) ≡ t → ((t ≡ true) × (minus a b ≡ 0)) ⊎ ((t ≡ false) × (0 < minus a b))
minus_tells a b h k true e = let same : a ≡ b = grind (arith, nat_tests) in inl (refl, omega arith)
minus_tells a b h k false e = let other : (a < b) ⊎ (b < a) = grind (arith, nat_tests) in inr (refl, elim other [ inl l ↦ omega arith | inr l ↦ omega arith ])

pub compare_is : (op : Comparison) (a b : ℕ) → a < 2 ^ 64 → b < 2 ^ 64 → compare_done op a b ≡ compare_words op a b
compare_is Equal a b h k = elim (minus_tells a b h k (a == b) refl) [
  | inl p ↦ (let test : nat_lt (minus a b) 1 ≡ true = grind (arith, nat_tests, p.1) in ap flag (test ∙ sym p.0))
  | inr p ↦ (let test : nat_lt (minus a b) 1 ≡ false = grind (arith, nat_tests, p.1) in ap flag (test ∙ sym p.0))
]
compare_is Different a b h k = elim (minus_tells a b h k (a == b) refl) [
  | inl p ↦ (let test : nat_lt 0 (minus a b) ≡ false = grind (arith, nat_tests, p.1) in ap flag (test ∙ ap not (sym p.0)))
  | inr p ↦ (let test : nat_lt 0 (minus a b) ≡ true = grind (arith, nat_tests, p.1) in ap flag (test ∙ ap not (sym p.0)))
]
compare_is Less a b h k = refl
compare_is Below a b h k = refl

-- ---- bytes

abbrev pub load_kind : Width → LoadKind
load_kind Byte = UnsignedByte
load_kind Half = UnsignedHalf
load_kind Word = UnsignedWord
load_kind Double = LoadDouble

abbrev pub store_kind : Width → StoreKind
store_kind Byte = StoreByte
store_kind Half = StoreHalf
store_kind Word = StoreWord
store_kind Double = StoreDouble

pub load_size_is : (width : Width) → load_size (load_kind width) ≡ width_size width
load_size_is Byte = refl
load_size_is Half = refl
load_size_is Word = refl
load_size_is Double = refl

pub store_is : (width : Width) (v : ℕ) → v < 2 ^ 64 → store_bytes (store_kind width) v ≡ bytes_of (width_size width) v
store_is Byte v h = refl
store_is Half v h =
    let e0 : v % 65536 % 256 ≡ v % 256 = omega arith in
    let e1 : v % 65536 / 256 % 256 ≡ v / 256 % 256 = omega arith in
    cc
store_is Word v h =
    let e0 : v % 4294967296 % 256 ≡ v % 256 = omega arith in
    let e1 : v % 4294967296 / 256 % 256 ≡ v / 256 % 256 = omega arith in
    let e2 : v % 4294967296 / 65536 % 256 ≡ v / 256 / 256 % 256 = omega arith in
    let e3 : v % 4294967296 / 16777216 % 256 ≡ v / 256 / 256 / 256 % 256 = omega arith in
    cc
store_is Double v h =
    let e0 : v % 256 ≡ v % 256 = omega arith in
    let e1 : v / 256 % 256 ≡ v / 256 % 256 = omega arith in
    let e2 : v / 65536 % 256 ≡ v / 256 / 256 % 256 = omega arith in
    let e3 : v / 16777216 % 256 ≡ v / 256 / 256 / 256 % 256 = omega arith in
    let e4 : v / 4294967296 % 256 ≡ v / 256 / 256 / 256 / 256 % 256 = omega arith in
    let e5 : v / 1099511627776 % 256 ≡ v / 256 / 256 / 256 / 256 / 256 % 256 = omega arith in
    let e6 : v / 281474976710656 % 256 ≡ v / 256 / 256 / 256 / 256 / 256 / 256 % 256 = omega arith in
    let e7 : v / 72057594037927936 % 256 ≡ v / 256 / 256 / 256 / 256 / 256 / 256 / 256 % 256 = omega arith in
    cc

pub load_is : (width : Width) (f : ℕ → ℕ) (a : ℕ) → load_value (load_kind width) (run f a (load_size (load_kind width))) ≡ number_of (run f a (width_size width))
load_is Byte f a = omega arith
load_is Half f a = omega arith
load_is Word f a = omega arith
load_is Double f a = omega arith

pub number_fits : (width : Width) (f : ℕ → ℕ) (a : ℕ) → ((x : ℕ) → f x < 256) → number_of (run f a (width_size width)) < 2 ^ 64
number_fits Byte f a h = omega (arith, h a)
number_fits Half f a h = omega (arith, h a, h (a + 1))
number_fits Word f a h = omega (arith, h a, h (a + 1), h (a + 1 + 1), h (a + 1 + 1 + 1))
number_fits Double f a h =
    omega (arith, h a, h (a + 1), h (a + 1 + 1), h (a + 1 + 1 + 1), h (a + 1 + 1 + 1 + 1), h (a + 1 + 1 + 1 + 1 + 1), h (a + 1 + 1 + 1 + 1 + 1 + 1), h (a + 1 + 1 + 1 + 1 + 1 + 1 + 1))

pub word_bytes : (v : ℕ) → AreBytes (to_le_bytes w64 v)
word_bytes v = (omega arith, (omega arith, (omega arith, (omega arith, (omega arith, (omega arith, (omega arith, (omega arith, tt))))))))

pub bytes_of_bytes : (n v : ℕ) → AreBytes (bytes_of n v)
bytes_of_bytes zero v = tt
bytes_of_bytes (suc n) v = (omega arith, bytes_of_bytes n (v / 256))
