-- The tables of keywords and signs.
use Rattle.std.specs.Prelude.{◌≡◌, ℕ, ◌≤◌, List, [], ◌∷◌, ◌++◌, length, take, map, nat_eq, Option, Some, None, if◌then◌else◌}
use Rattle.std.specs.List.{starts_with}
use Rattle.odc_syntax.specs.declared.token.TokenKind.{TokenKind}
use Rattle.odc_syntax.specs.lexical.Names.{Row}
use Rattle.odc_syntax.specs.lexical.Signs.{IsSign}
use Rattle.std.specs.Borrow.{Bor}
use Rattle.odc_lex.specs.declared.number.Lexeme.{Lexeme}

abbrev pub rows_of : List (Bor (List ℕ) × TokenKind) → List Row
rows_of rows = map (λ (s : Bor (List ℕ) × TokenKind). record { text = s.0.now; kind = s.1 }) rows

-- the first row whose text begins the text
abbrev pub first_front : List Row → List ℕ → Option Row
first_front [] text = None
first_front (r ∷ rs) text = if starts_with nat_eq text r.text then Some r else first_front rs text

-- the row that was found, with the length of its text
abbrev pub FindsRow : Option Row → Option Lexeme → Type 0
FindsRow None None = Unit {0}
FindsRow (Some r) (Some found) = (found.kind ≡ r.kind) × (found.len ≡ length r.text)
FindsRow _ _ = ⊥

-- the first bytes are a sign, and no longer front is one
pub record SignFront (text : List ℕ) (found : Lexeme) : Type 0 where
  pub within : found.len ≤ length text
  pub is : IsSign found.kind (take found.len text)
  pub longest : (l : TokenKind) (v s : List ℕ) → IsSign l v → v ++ s ≡ text → length v ≤ found.len

abbrev pub NoSign : List ℕ → Type 0
NoSign text = (l : TokenKind) (v s : List ℕ) → IsSign l v → v ++ s ≡ text → ⊥
