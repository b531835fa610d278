-- Numbers. An integer is decimal digits, or `0b`, `0o` or `0x` and digits of that base; `_` may stand
-- anywhere after the first character or the prefix. A fraction, an exponent or a last `i`, `j` or `k`
-- make a number of the kinds that the language has none of.
use Rattle.std.specs.Prelude.{◌≡◌, ℕ, ◌≤◌, Bool, true, ◌||◌, ◌==◌, ◌⊎◌, List, [], ◌∷◌, ◌++◌, length, take}
use Rattle.std.specs.Char.{is_digit}
use Rattle.odc_syntax.specs.declared.token.TokenKind.{TokenKind}
use Rattle.odc_syntax.specs.declared.token.TokenKind.TheVariants.{Int, Float}
use Rattle.odc_syntax.specs.lexical.Words.{IsByte, Run, Led, Then}

abbrev pub is_digit_of : ℕ → ℕ → Bool
is_digit_of base b = is_digit b base

abbrev pub is_digit_or_underscore : ℕ → ℕ → Bool
is_digit_or_underscore base b = is_digit b base || b == 95

abbrev pub is_underscore : ℕ → Bool
is_underscore b = b == 95

-- a digit, and then digits and `_`
abbrev pub Digits : ℕ → List ℕ → Type 0
Digits base = Led (IsByte (is_digit_of base)) (IsByte (is_digit_or_underscore base))

-- the letter behind the 0 of a prefix, and its base
pub data Prefix (letter base : ℕ) : Type 0 where
  binary : letter ≡ 98 → base ≡ 2 → Prefix letter base
  octal : letter ≡ 111 → base ≡ 8 → Prefix letter base
  hexadecimal : letter ≡ 120 → base ≡ 16 → Prefix letter base

-- a prefix, and then digits and `_`, at least one digit among them
pub record IsBased (w : List ℕ) : Type 0 where
  pub letter : ℕ
  pub base : ℕ
  pub digits : List ℕ
  pub known : Prefix letter base
  pub are_digits : Then (Run (IsByte is_underscore)) (Digits base) digits
  pub bytes : w ≡ 48 ∷ letter ∷ digits

abbrev pub Optional : (List ℕ → Type 0) → List ℕ → Type 0
Optional P w = (w ≡ []) ⊎ P w

pub record IsFraction (w : List ℕ) : Type 0 where
  pub digits : List ℕ
  pub are_digits : Digits 10 digits
  pub bytes : w ≡ 46 ∷ digits

abbrev pub is_exponent_letter : ℕ → Bool
is_exponent_letter b = b == 101 || b == 69

abbrev pub is_plus_or_minus : ℕ → Bool
is_plus_or_minus b = b == 43 || b == 45

-- `e` or `E`, a plus or minus or none, and digits
pub record IsExponent (w : List ℕ) : Type 0 where
  pub letter : ℕ
  pub tail : List ℕ
  pub is_letter : is_exponent_letter letter ≡ true
  pub is_tail : Then (Optional (IsByte is_plus_or_minus)) (Digits 10) tail
  pub bytes : w ≡ letter ∷ tail

abbrev pub is_unit_letter : ℕ → Bool
is_unit_letter b = b == 105 || b == 106 || b == 107

abbrev pub IsUnitLetter : List ℕ → Type 0
IsUnitLetter = IsByte is_unit_letter

-- what may follow the digits of a decimal number
abbrev pub DecimalTail : List ℕ → Type 0
DecimalTail = Then (Optional IsFraction) (Then (Optional IsExponent) (Optional IsUnitLetter))

-- an integer, unless something follows its digits
abbrev pub number_kind : List ℕ → TokenKind
number_kind [] = Int
number_kind (b ∷ bs) = Float

pub data IsNumber (k : TokenKind) (w : List ℕ) : Type 0 where
  decimal : (digits tail : List ℕ) → Digits 10 digits → DecimalTail tail → w ≡ digits ++ tail → k ≡ number_kind tail → IsNumber k w
  based : (digits tail : List ℕ) → IsBased digits → Optional IsUnitLetter tail → w ≡ digits ++ tail → k ≡ number_kind tail → IsNumber k w

-- the first n bytes of the text are a number of this kind, and no longer front is any number
pub record IsNumberFront (text : List ℕ) (k : TokenKind) (n : ℕ) : Type 0 where
  pub within : n ≤ length text
  pub is : IsNumber k (take n text)
  pub longest : (l : TokenKind) (v s : List ℕ) → IsNumber l v → v ++ s ≡ text → length v ≤ n
