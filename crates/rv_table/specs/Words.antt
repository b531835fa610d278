-- Arithmetic on words of 64 bits, which are numbers below 2^64, in the manual's terms.
-- `cast_signed w` reads such a number as a signed one in two's complement, `cast_unsigned w` goes back.
-- Source: the RISC-V unprivileged manual, chapters RV32I, RV64I and "M".
use Rattle.std.specs.Prelude.{ℕ, ◌+◌, ◌-◌, ◌*◌, ◌/◌, ◌%◌, ◌^◌, ◌==◌, Bool, ℤ, pos, negsuc, ◌*ℤ◌, nat_lt, int_lt, int_div, int_rem, if◌then◌else◌}
use Rattle.std.specs.Int.{Width, w64, w128, cast_signed, cast_unsigned}

-- an immediate or an offset as a word
abbrev pub word : ℤ → ℕ
word z = cast_unsigned w64 z

-- the upper immediate in its place
abbrev pub upper : ℤ → ℕ
upper z = word z * 2 ^ 12 % 2 ^ 64

-- the low 32 bits
abbrev pub low : ℕ → ℕ
low n = n % 2 ^ 32

-- n has `size` bits: the word that these are, sign-extended
abbrev pub extended : ℕ → ℕ → ℕ
extended size n = if nat_lt n (2 ^ (size - 1)) then n else n + (2 ^ 64 - 2 ^ size)

abbrev pub plus : ℕ → ℕ → ℕ
plus a b = (a + b) % 2 ^ 64

abbrev pub minus : ℕ → ℕ → ℕ
minus a b = (a + (2 ^ 64 - b)) % 2 ^ 64

-- a truth value as a word
abbrev pub flag : Bool → ℕ
flag b = if b then 1 else 0

abbrev pub signed_below : ℕ → ℕ → Bool
signed_below a b = int_lt (cast_signed w64 a) (cast_signed w64 b)

-- ---- shifts; n is less than the number of bits

abbrev pub shifted_left : ℕ → ℕ → ℕ → ℕ
shifted_left size a n = a * 2 ^ n % 2 ^ size

abbrev pub shifted_right : ℕ → ℕ → ℕ
shifted_right a n = a / 2 ^ n

-- a has `size` bits; copies of its sign bit come in
abbrev pub shifted_signed : ℕ → ℕ → ℕ → ℕ
shifted_signed size a n = if nat_lt a (2 ^ (size - 1)) then a / 2 ^ n else 2 ^ size - 1 - (2 ^ size - 1 - a) / 2 ^ n

-- ---- products and quotients

-- the upper half of the exact product of 128 bits: signed by signed, signed by unsigned, unsigned by unsigned
abbrev pub high_product : ℕ → ℕ → ℕ
high_product a b = cast_unsigned w128 (cast_signed w64 a *ℤ cast_signed w64 b) / 2 ^ 64

abbrev pub high_product_mixed : ℕ → ℕ → ℕ
high_product_mixed a b = cast_unsigned w128 (cast_signed w64 a *ℤ pos b) / 2 ^ 64

abbrev pub high_product_unsigned : ℕ → ℕ → ℕ
high_product_unsigned a b = a * b / 2 ^ 64

-- cut toward zero; by 0 all ones, and the least number by -1 itself
abbrev pub quotient : Width → ℕ → ℕ → ℕ
quotient w a b = if b == 0 then cast_unsigned w (negsuc 0) else cast_unsigned w (int_div (cast_signed w a) (cast_signed w b))

-- with the sign of the dividend; by 0 the dividend, and the least number by -1 leaves 0
abbrev pub remainder : Width → ℕ → ℕ → ℕ
remainder w a b = if b == 0 then a else cast_unsigned w (int_rem (cast_signed w a) (cast_signed w b))

abbrev pub quotient_unsigned : ℕ → ℕ → ℕ → ℕ
quotient_unsigned size a b = if b == 0 then 2 ^ size - 1 else a / b

abbrev pub remainder_unsigned : ℕ → ℕ → ℕ
remainder_unsigned a b = if b == 0 then a else a % b
