-- What the bytes of an integer, a rune and a string stand for. Each is meant of the bytes of a token.
use Rattle.std.specs.Prelude.{ℕ, suc, zero, ◌+◌, ◌-◌, ◌*◌, ◌==◌, List, [], ◌∷◌, ◌++◌, if◌then◌else◌, encode_utf8, chars, length, take}
use Rattle.std.specs.Char.{digit_value}
use Rattle.odc_syntax.specs.lexical.Texts.{hex_digits, hex_value}

-- the number that the digits write behind n, `_` left out
abbrev pub digits_onto : ℕ → ℕ → List ℕ → ℕ
digits_onto base n [] = n
digits_onto base n (d ∷ ds) = if d == 95 then digits_onto base n ds else digits_onto base (base * n + digit_value d) ds

-- by the letter behind a first 0
abbrev pub base_of : ℕ → ℕ
base_of b = if b == 98 then 2 else (if b == 111 then 8 else (if b == 120 then 16 else 10))

-- The number of an Int. The letter of a prefix is no decimal digit.
abbrev pub integer_value : List ℕ → ℕ
integer_value [] = 0
integer_value (a ∷ []) = digit_value a
integer_value (a ∷ b ∷ ds) = if base_of b == 10 then digits_onto 10 0 (a ∷ b ∷ ds) else digits_onto (base_of b) 0 ds

-- the code of the character that a letter or sign behind a backslash stands for
abbrev pub short_escape : ℕ → ℕ
short_escape b =
    if b == 97 then 7
    else (if b == 98 then 8
    else (if b == 101 then 27
    else (if b == 102 then 12
    else (if b == 110 then 10
    else (if b == 114 then 13
    else (if b == 116 then 9
    else (if b == 118 then 11
    else b)))))))

-- How far an escape is read.
pub data Reading : Type 0 where
  outside : Reading
  backslash : Reading
  -- the letter, how many digits are still to come behind the next, and the number so far
  digits : (letter left n : ℕ) → Reading

-- the bytes of a coded character: `\x` is that byte, the others a character in UTF-8
abbrev pub coded_bytes : ℕ → ℕ → List ℕ
coded_bytes letter n = if letter == 120 then n ∷ [] else encode_utf8 n

-- the bytes that stand inside double quotes, with the escapes read
abbrev pub unescaped : Reading → List ℕ → List ℕ
unescaped state [] = []
unescaped outside (b ∷ bs) = if b == 92 then unescaped backslash bs else b ∷ unescaped outside bs
unescaped backslash (b ∷ bs) =
    if hex_digits b == 0 then short_escape b ∷ unescaped outside bs else unescaped (digits b (hex_digits b - 1) 0) bs
unescaped (digits letter zero n) (b ∷ bs) = coded_bytes letter (16 * n + digit_value b) ++ unescaped outside bs
unescaped (digits letter (suc left) n) (b ∷ bs) = unescaped (digits letter left (16 * n + digit_value b)) bs

-- without the first and the last
abbrev pub inner : List ℕ → List ℕ
inner [] = []
inner (b ∷ bs) = take (length bs - 1) bs

-- The bytes of a Text.
abbrev pub text_value : List ℕ → List ℕ
text_value [] = []
text_value (b ∷ bs) = if b == 96 then inner (b ∷ bs) else unescaped outside (inner (b ∷ bs))

abbrev pub first_or_zero : List ℕ → ℕ
first_or_zero [] = 0
first_or_zero (c ∷ cs) = c

-- the code of the character inside single quotes
abbrev pub character_value : List ℕ → ℕ
character_value [] = 0
character_value (b ∷ []) = b
character_value (a ∷ b ∷ ds) =
    if a == 92 then (if hex_digits b == 0 then short_escape b else hex_value ds) else first_or_zero (chars (a ∷ b ∷ ds))

-- The code of a Rune.
abbrev pub rune_value : List ℕ → ℕ
rune_value w = character_value (inner w)
