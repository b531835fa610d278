-- What the lexer's state stands for: the tokens so far, and those that the pieces still to come give.
use Rattle.std.specs.Prelude.{◌≡◌, ℕ, ◌+◌, ◌<◌, ◌^◌, not, ◌&&◌, List, [], ◌∷◌, ◌++◌, length, option_to_list, if◌then◌else◌}
use Rattle.odc_text.specs.declared.place.Place.{Place}
use Rattle.odc_syntax.specs.declared.token.Token.{Token}
use Rattle.odc_syntax.specs.declared.token.TokenKind.{TokenKind}
use Rattle.odc_syntax.specs.lexical.Pieces.{Piece, bytes_of, is_number}
use Rattle.odc_syntax.specs.lexical.Lexes.{behind, ends_statement, joins_lines, innermost, at_newline, else_follows, is_else, tokens_of, inserted}
use Rattle.odc_lex.specs.declared.state.State.{State}
use Rattle.odc_lex.specs.declared.state.Ending.{Ending}
use Rattle.odc_lex.specs.declared.state.Ending.TheVariants.{Never, AtNewline, Ended}

-- the semicolon that is still to be written before the tokens of the next pieces
abbrev pub owed : Ending → Place → ℕ → List Piece → List Token
owed Never at from ps = []
owed AtNewline at from ps = if not (else_follows ps) then option_to_list (at_newline at from ps) else []
owed (Ended semicolon) at from ps = if not (else_follows ps) then semicolon ∷ [] else []

-- all tokens, where these pieces are still to come
abbrev pub total : State → List Piece → List Token
total s ps = s.tokens.items ++ (owed s.ending s.at s.from ps ++ tokens_of s.«open».items s.at s.from ps)

-- the new state is the old one behind the piece
pub record Steps (old new : State) (p : Piece) : Type 0 where
  pub at : new.at ≡ behind old.at (bytes_of p)
  pub from : new.from ≡ old.from + length (bytes_of p)
  pub number : new.behind_number ≡ is_number p
  pub tokens : (ps : List Piece) → total new ps ≡ total old (p ∷ ps)

-- places up to the end of the next bytes can be counted
pub record HasRoom (s : State) (bytes : List ℕ) : Type 0 where
  pub line : s.at.line + length bytes < 2 ^ 32
  pub column : s.at.column + length bytes < 2 ^ 32
  pub from : s.from + length bytes < 2 ^ 32

-- the semicolon that comes before a token of this kind
abbrev pub before_token : Ending → TokenKind → List Token
before_token Never k = []
before_token AtNewline k = []
before_token (Ended semicolon) k = if not (is_else k) then semicolon ∷ [] else []

-- the semicolon that comes before the end
abbrev pub before_end : Ending → Place → ℕ → List Token
before_end Never at from = []
before_end AtNewline at from = inserted at from ∷ []
before_end (Ended semicolon) at from = semicolon ∷ []

-- how the statement stands behind a token, with these brackets open
abbrev pub ending_behind : TokenKind → List TokenKind → Ending
ending_behind k open' = if ends_statement k && not (joins_lines (innermost open')) then AtNewline else Never

abbrev pub ending_at_newline : Ending → Place → ℕ → Ending
ending_at_newline Never at from = Never
ending_at_newline AtNewline at from = Ended (inserted at from)
ending_at_newline (Ended semicolon) at from = Ended semicolon
