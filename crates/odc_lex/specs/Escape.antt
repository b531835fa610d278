-- The digits of an escape.
use Rattle.std.specs.Prelude.{◌≡◌, ℕ, ◌≤◌, true, List, length, take}
use Rattle.std.specs.List.{list_all}
use Rattle.odc_syntax.specs.lexical.Texts.{hex_value, is_hex_digit}

-- so many hexadecimal digits begin the text, and write the code
pub record WritesHex (text : List ℕ) (digits code : ℕ) : Type 0 where
  pub within : digits ≤ length text
  pub are_digits : list_all is_hex_digit (take digits text) ≡ true
  pub value : code ≡ hex_value (take digits text)
