-- Why a text has no tokens.
use Rattle.std.specs.Prelude.{◌≡◌, ℕ, List}
use Rattle.odc_text.specs.declared.code.Code.TheVariants.{X01}
use Rattle.odc_text.specs.declared.place.FileId.{FileId}
use Rattle.odc_text.specs.declared.place.Place.{Place}
use Rattle.odc_text.specs.declared.code.Fault as faults
use Rattle.odc_syntax.specs.declared.token.Token.{Token}
use Rattle.odc_syntax.specs.lexical.Lexes.{Lexes, IsStuck}
use Rattle.odc_lex.specs.declared.error.LexError.{LexError}
use Rattle.odc_lex.specs.declared.error.LexError.TheVariants.{Fault, Memory}

-- the text gets stuck at the place, and no tokens are its own
pub record GetsStuck (file : FileId) (text : List ℕ) (fault : faults.Fault) : Type 0 where
  pub code : fault.code ≡ X01
  pub place : IsStuck file text fault.at
  pub none : (ts : List Token) (end : Place) → Lexes file text ts end → ⊥

abbrev pub HasNoTokens : FileId → List ℕ → LexError → Type 0
HasNoTokens file text (Fault fault) = GetsStuck file text fault
HasNoTokens file text Memory = Unit {0}
