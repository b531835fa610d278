-- The character at the front of a text.
use Rattle.std.specs.Prelude.{◌≡◌, ℕ, ◌≤◌, List, length, take, encode_utf8}
use Rattle.std.specs.Char.{IsScalar}
use Rattle.odc_lex.specs.declared.character.Character.{Character}

-- the text begins with this character
pub record IsFirstCharacter (text : List ℕ) (c : Character) : Type 0 where
  pub within : c.len ≤ length text
  pub scalar : IsScalar c.code
  pub bytes : take c.len text ≡ encode_utf8 c.code
