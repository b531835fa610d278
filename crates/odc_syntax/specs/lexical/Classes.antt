-- The form of the piece at the front of a text, by its first two bytes.
use Rattle.std.specs.Prelude.{ℕ, Bool, ◌||◌, ◌&&◌, ◌==◌, nat_le, List, slice_index, if◌then◌else◌}
use Rattle.std.specs.Char.{is_digit}
use Rattle.odc_syntax.specs.lexical.Pieces.{is_white}

pub data Class : Type 0 where
  white_class : Class
  newline_class : Class
  line_comment_class : Class
  block_comment_class : Class
  word_class : Class
  number_class : Class
  rune_class : Class
  quoted_class : Class
  raw_class : Class
  directive_class : Class
  sign_class : Class

-- a letter, `_`, or the first byte of a character that is not ASCII
abbrev pub is_word_byte : ℕ → Bool
is_word_byte b = (nat_le 97 b && nat_le b 122) || (nat_le 65 b && nat_le b 90) || b == 95 || nat_le 128 b

-- of the first byte, and of the second one, or 0 where there is none
abbrev pub class_at : ℕ → ℕ → Class
class_at b c =
    if is_white b then white_class
    else (if b == 10 then newline_class
    else (if b == 47 then (if c == 47 then line_comment_class else (if c == 42 then block_comment_class else sign_class))
    else (if is_digit b 10 then number_class
    else (if b == 39 then rune_class
    else (if b == 34 then quoted_class
    else (if b == 96 then raw_class
    else (if b == 35 then (if c == 43 then sign_class else directive_class)
    else (if is_word_byte b then word_class
    else sign_class))))))))

abbrev pub class_of : List ℕ → Class
class_of text = class_at (slice_index text 0) (slice_index text 1)
