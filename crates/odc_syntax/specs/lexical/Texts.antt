-- Escapes, runes and strings.
use Rattle.std.specs.Prelude.{◌≡◌, ℕ, ◌+◌, ◌*◌, ◌<◌, Bool, true, not, ◌||◌, ◌==◌, List, [], ◌∷◌, ◌++◌, length, if◌then◌else◌}
use Rattle.std.specs.List.{fold, list_all}
use Rattle.std.specs.Char.{IsScalar, is_digit, digit_value}
use Rattle.odc_syntax.specs.lexical.Words.{IsCharacter, Run}

-- the letters and signs that stand behind a backslash alone: a b e f n r t v \ ' "
abbrev pub is_short_escape : ℕ → Bool
is_short_escape b =
    b == 97 || b == 98 || b == 101 || b == 102 || b == 110 || b == 114 || b == 116 || b == 118 || b == 92 || b == 39 || b == 34

-- how many hexadecimal digits follow x, u and U behind a backslash; no other is followed by any
abbrev pub hex_digits : ℕ → ℕ
hex_digits b = if b == 120 then 2 else (if b == 117 then 4 else (if b == 85 then 8 else 0))

abbrev pub is_hex_digit : ℕ → Bool
is_hex_digit b = is_digit b 16

-- the number that the digits write
abbrev pub hex_value : List ℕ → ℕ
hex_value ds = fold (λ n d. 16 * n + digit_value d) 0 ds

-- a backslash and a letter or sign, or a backslash, x, u or U, and the digits of a character's code
pub data IsEscape (w : List ℕ) : Type 0 where
  short : (b : ℕ) → is_short_escape b ≡ true → w ≡ 92 ∷ b ∷ [] → IsEscape w
  coded : (b : ℕ) (ds : List ℕ) → 0 < length ds → length ds ≡ hex_digits b → list_all is_hex_digit ds ≡ true → IsScalar (hex_value ds) → w ≡ 92 ∷ b ∷ ds → IsEscape w

-- a character in single quotes: neither a quote nor a backslash nor a newline, or an escape
abbrev pub is_plain_rune : ℕ → Bool
is_plain_rune c = not (c == 39 || c == 92 || c == 10)

-- likewise in double quotes
abbrev pub is_plain_text : ℕ → Bool
is_plain_text c = not (c == 34 || c == 92 || c == 10)

abbrev pub is_raw : ℕ → Bool
is_raw c = not (c == 96)

-- one character of a rune or string in quotes
pub data IsItem (is_plain : ℕ → Bool) (w : List ℕ) : Type 0 where
  plain : IsCharacter is_plain w → IsItem is_plain w
  escape : IsEscape w → IsItem is_plain w

-- what stands between two equal signs
pub record IsBetween (sign : ℕ) (IsInside : List ℕ → Type 0) (w : List ℕ) : Type 0 where
  pub inside : List ℕ
  pub is_inside : IsInside inside
  pub bytes : w ≡ sign ∷ (inside ++ sign ∷ [])

abbrev pub IsRune : List ℕ → Type 0
IsRune = IsBetween 39 (IsItem is_plain_rune)

abbrev pub IsQuoted : List ℕ → Type 0
IsQuoted = IsBetween 34 (Run (IsItem is_plain_text))

-- in backquotes each character stands for itself, a newline too
abbrev pub IsRaw : List ℕ → Type 0
IsRaw = IsBetween 96 (Run (IsCharacter is_raw))
