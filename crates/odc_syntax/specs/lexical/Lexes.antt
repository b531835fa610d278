-- Places, the newline rule, and the tokens of a text.
use Rattle.std.specs.Prelude.{◌≡◌, ◌≢◌, ℕ, ◌+◌, ◌-◌, Bool, true, false, not, ◌&&◌, ◌==◌, List, [], ◌∷◌, ◌++◌, length, take, drop, slice_get, Option, Some, None, option_to_list, if◌then◌else◌, nat_eq}
use Rattle.std.specs.List.{starts_with}
use Rattle.odc_text.specs.declared.place.FileId.{FileId}
use Rattle.odc_text.specs.declared.place.Place.{Place}
use Rattle.odc_syntax.specs.declared.token.Token.{Token}
use Rattle.odc_syntax.specs.declared.token.TokenKind.{TokenKind}
use Rattle.odc_syntax.specs.declared.token.TokenKind.TheVariants.{Name, Int, Float, Rune, Text, Context, Break, Continue, Fallthrough, Return, OrReturn, Else, Dashes, Caret, Question, OpenParen, CloseParen, OpenBracket, CloseBracket, OpenBrace, CloseBrace, Semicolon}
use Rattle.odc_syntax.specs.declared.token.Word.TheVariants.{Plain}
use Rattle.odc_syntax.specs.lexical.Wording.{word_of}
use Rattle.odc_syntax.specs.lexical.Pieces.{Piece, blank, newline, token, IsCut, NoPiece, spelled, ends_in_number}

-- the place behind a byte: a newline ends its line, and columns count bytes
abbrev pub past : Place → ℕ → Place
past at b = if b == 10 then record { file = at.file; line = at.line + 1; column = 1 } else record { file = at.file; line = at.line; column = at.column + 1 }

-- the place behind some bytes
abbrev pub behind : Place → List ℕ → Place
behind at [] = at
behind at (b ∷ bs) = behind (past at b) bs

-- the tokens behind which a newline ends the statement
abbrev pub ends_statement : TokenKind → Bool
ends_statement Name = true
ends_statement Int = true
ends_statement Float = true
ends_statement Rune = true
ends_statement Text = true
ends_statement Context = true
ends_statement Break = true
ends_statement Continue = true
ends_statement Fallthrough = true
ends_statement Return = true
ends_statement OrReturn = true
ends_statement Dashes = true
ends_statement Caret = true
ends_statement Question = true
ends_statement CloseParen = true
ends_statement CloseBracket = true
ends_statement CloseBrace = true
ends_statement _ = false

-- the open brackets behind a token, the innermost last: a closing bracket closes the innermost, of
-- whatever kind, and nothing where none is open
abbrev pub open_behind : List TokenKind → TokenKind → List TokenKind
open_behind open' OpenParen = open' ++ OpenParen ∷ []
open_behind open' OpenBracket = open' ++ OpenBracket ∷ []
open_behind open' OpenBrace = open' ++ OpenBrace ∷ []
open_behind open' CloseParen = take (length open' - 1) open'
open_behind open' CloseBracket = take (length open' - 1) open'
open_behind open' CloseBrace = take (length open' - 1) open'
open_behind open' _ = open'

-- inside round and square brackets no newline ends a statement
abbrev pub joins_lines : Option TokenKind → Bool
joins_lines None = false
joins_lines (Some OpenParen) = true
joins_lines (Some OpenBracket) = true
joins_lines (Some _) = false

abbrev pub innermost : List TokenKind → Option TokenKind
innermost open' = slice_get open' (length open' - 1)

-- a semicolon that no byte writes
abbrev pub inserted : Place → ℕ → Token
inserted at from = record { kind = Semicolon; word = Plain; at = at; from = from; to = from }

-- the semicolon that a newline stands for, where one comes before the next token; the end of the text
-- counts as a newline
abbrev pub at_newline : Place → ℕ → List Piece → Option Token
at_newline at from [] = Some (inserted at from)
at_newline at from (blank w ∷ ps) = at_newline (behind at w) (from + length w) ps
at_newline at from (newline w ∷ ps) = Some (inserted at from)
at_newline at from (token k w ∷ ps) = None

abbrev pub is_else : TokenKind → Bool
is_else Else = true
is_else _ = false

-- the next token is `else`
abbrev pub else_follows : List Piece → Bool
else_follows [] = false
else_follows (blank w ∷ ps) = else_follows ps
else_follows (newline w ∷ ps) = else_follows ps
else_follows (token k w ∷ ps) = is_else k

-- the semicolon behind a token of kind k, if one is inserted: open' are the brackets that are open there
abbrev pub semicolon_behind : TokenKind → List TokenKind → Place → ℕ → List Piece → List Token
semicolon_behind k open' at from ps =
    if ends_statement k && (not (joins_lines (innermost open')) && not (else_follows ps)) then option_to_list (at_newline at from ps) else []

-- the tokens of pieces that begin at a place, after so many bytes, with these brackets open
abbrev pub tokens_of : List TokenKind → Place → ℕ → List Piece → List Token
tokens_of open' at from [] = []
tokens_of open' at from (blank w ∷ ps) = tokens_of open' (behind at w) (from + length w) ps
tokens_of open' at from (newline w ∷ ps) = tokens_of open' (behind at w) (from + length w) ps
tokens_of open' at from (token k w ∷ ps) =
    record { kind = k; word = word_of k w; at = at; from = from; to = from + length w }
    ∷ (semicolon_behind k (open_behind open' k) (behind at w) (from + length w) ps
    ++ tokens_of (open_behind open' k) (behind at w) (from + length w) ps)

-- how many bytes a byte order mark at the front of the text takes
abbrev pub mark_len : List ℕ → ℕ
mark_len text = if starts_with nat_eq text (239 ∷ 187 ∷ 191 ∷ []) then 3 else 0

-- where the first piece begins
abbrev pub start : FileId → List ℕ → Place
start file text = record { file = file; line = 1; column = 1 + mark_len text }

abbrev pub body : List ℕ → List ℕ
body text = drop (mark_len text) text

-- these are the tokens of the text, and this is the place just past it
pub record Lexes (file : FileId) (text : List ℕ) (tokens : List Token) (end : Place) : Type 0 where
  pub pieces : List Piece
  pub cut : IsCut false pieces []
  pub whole : body text ≡ spelled pieces
  pub tokens_are : tokens ≡ tokens_of [] (start file text) (mark_len text) pieces
  pub end_is : end ≡ behind (start file text) (body text)

-- the text is cut up to this place, and no piece stands there, though the text goes on
pub record IsStuck (file : FileId) (text : List ℕ) (at : Place) : Type 0 where
  pub pieces : List Piece
  pub rest : List ℕ
  pub cut : IsCut false pieces rest
  pub whole : body text ≡ spelled pieces ++ rest
  pub goes_on : rest ≢ []
  pub none : NoPiece (ends_in_number false pieces) rest
  pub place : at ≡ behind (start file text) (spelled pieces)
