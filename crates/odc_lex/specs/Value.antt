-- Reading the value of a string byte by byte.
use Rattle.std.specs.Prelude.{◌≡◌, ◌≤◌, ◌+◌, ◌*◌, ◌^◌, ⊤, ℕ, Bool, Option, Some, None, nat_lt, List, [], ◌∷◌, ◌++◌}
use Rattle.odc_syntax.specs.lexical.Value.{outside, backslash, digits, coded_bytes, unescaped}
use Rattle.odc_syntax.specs.lexical.Value as value
use Rattle.odc_lex.specs.declared.value.Coded.{Coded}
use Rattle.odc_lex.specs.declared.value.Reading.{Reading}
use Rattle.odc_lex.specs.declared.value.Reading.TheVariants.{Outside, Backslash, Digits}
use Rattle.odc_lex.specs.declared.value.Step.{Step}

abbrev pub is_ascii : ℕ → Bool
is_ascii b = nat_lt b 128

abbrev pub reading_of : Reading → value.Reading
reading_of Outside = outside
reading_of Backslash = backslash
reading_of (Digits d) = digits d.letter d.left d.number

-- the number stays below 2 ^ 32 before the last digit
abbrev pub HasRoom : Reading → Type 0
HasRoom Outside = ⊤
HasRoom Backslash = ⊤
HasRoom (Digits d) = (d.number + 3) * 16 ^ d.left ≤ 16 ^ 8

abbrev pub bytes_of : Option Coded → List ℕ
bytes_of None = []
bytes_of (Some c) = coded_bytes c.letter c.number

-- the byte b writes what the step says, and the rest is read on from there
abbrev pub Reads : Reading → ℕ → Step → Type 0
Reads r b s = (bs : List ℕ) → unescaped (reading_of r) (b ∷ bs) ≡ bytes_of s.writes ++ unescaped (reading_of s.reading) bs
