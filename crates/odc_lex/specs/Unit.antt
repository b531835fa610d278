-- What the lexer's classes of bytes and characters stand for.
use Rattle.std.specs.Prelude.{ℕ, Bool, List, ◌∷◌}
use Rattle.odc_syntax.specs.lexical.Words.{IsByte, IsCharacter}
use Rattle.odc_syntax.specs.lexical.Longest.{Begins}
use Rattle.odc_syntax.specs.lexical.Names.{starts_name, continues_name}
use Rattle.odc_syntax.specs.lexical.Numbers.{is_digit_of, is_digit_or_underscore, is_underscore, is_plus_or_minus, is_exponent_letter, is_unit_letter}
use Rattle.odc_syntax.specs.lexical.Texts.{IsItem, is_plain_rune, is_plain_text, is_raw}
use Rattle.odc_syntax.specs.lexical.Comments.{is_no_newline}
use Rattle.odc_syntax.specs.lexical.Pieces.{is_white}
use Rattle.odc_lex.specs.declared.unit.ByteClass.{ByteClass}
use Rattle.odc_lex.specs.declared.unit.ByteClass.TheVariants.{White, Digit, DigitOrUnderscore, Underscore, PlusOrMinus, ExponentLetter, UnitLetter}
use Rattle.odc_lex.specs.declared.unit.CharacterClass.{CharacterClass}
use Rattle.odc_lex.specs.declared.unit.CharacterClass.TheVariants.{NameStart, NameContinue, LineComment, Raw}
use Rattle.odc_lex.specs.declared.unit.Quote.{Quote}
use Rattle.odc_lex.specs.declared.unit.Quote.TheVariants.{Single, Double}
use Rattle.odc_lex.specs.declared.unit.Unit.{Unit}
use Rattle.odc_lex.specs.declared.unit.Unit.TheVariants.{Byte, Character, Item}

abbrev pub byte_test : ByteClass → ℕ → Bool
byte_test White = is_white
byte_test (Digit base) = is_digit_of base
byte_test (DigitOrUnderscore base) = is_digit_or_underscore base
byte_test Underscore = is_underscore
byte_test PlusOrMinus = is_plus_or_minus
byte_test ExponentLetter = is_exponent_letter
byte_test UnitLetter = is_unit_letter

abbrev pub character_test : CharacterClass → ℕ → Bool
character_test NameStart = starts_name
character_test NameContinue = continues_name
character_test LineComment = is_no_newline
character_test Raw = is_raw

abbrev pub item_test : Quote → ℕ → Bool
item_test Single = is_plain_rune
item_test Double = is_plain_text

abbrev pub IsUnit : Unit → List ℕ → Type 0
IsUnit (Byte class) = IsByte (byte_test class)
IsUnit (Character class) = IsCharacter (character_test class)
IsUnit (Item quote) = IsItem (item_test quote)

-- no unit begins with this byte
abbrev pub NoneBegins : ℕ → Unit → Type 0
NoneBegins b unit = (s : List ℕ) → Begins (IsUnit unit) (b ∷ s) → ⊥
