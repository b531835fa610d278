-- Numbers at the front of a text.
use Rattle.std.specs.Prelude.{◌≡◌, ℕ, zero, suc, Bool, ◌||◌, List, ◌++◌}
use Rattle.odc_syntax.specs.declared.token.TokenKind.{TokenKind}
use Rattle.odc_syntax.specs.declared.token.TokenKind.TheVariants.{Int, Float}
use Rattle.odc_syntax.specs.lexical.Words.{IsByte}
use Rattle.odc_syntax.specs.lexical.Longest.{Begins, Heads}
use Rattle.odc_syntax.specs.lexical.Numbers.{IsNumber, IsNumberFront, is_digit_or_underscore, is_plus_or_minus}
use Rattle.odc_lex.specs.declared.number.Lexeme.{Lexeme}

abbrev pub LexemeFront : List ℕ → Lexeme → Type 0
LexemeFront text found = IsNumberFront text found.kind found.len

abbrev pub NoNumber : List ℕ → Type 0
NoNumber text = (k : TokenKind) (v s : List ℕ) → IsNumber k v → v ++ s ≡ text → ⊥

-- what a shorter run of decimal digits is followed by
abbrev pub AfterDigits : List ℕ → Type 0
AfterDigits = Begins (IsByte (is_digit_or_underscore 10))

-- what a shorter exponent is followed by
abbrev pub is_after_sign : ℕ → Bool
is_after_sign b = is_plus_or_minus b || is_digit_or_underscore 10 b

abbrev pub AfterExponent : List ℕ → Type 0
AfterExponent = Heads is_after_sign

-- nothing is asked of what follows a shorter tail
abbrev pub AfterTail : List ℕ → Type 0
AfterTail s = Unit {0}

abbrev pub kind_by_tail : ℕ → TokenKind
kind_by_tail zero = Int
kind_by_tail (suc n) = Float
