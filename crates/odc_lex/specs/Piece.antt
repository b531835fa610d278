-- The piece at the front of a text, as the lexer tells it.
use Rattle.std.specs.Prelude.{◌≡◌, ℕ, ◌<◌, ◌≤◌, Bool, ◌==◌, List, length, take, drop, Option, Some, None, if◌then◌else◌}
use Rattle.std.specs.List.{list_any}
use Rattle.odc_syntax.specs.lexical.Pieces.{Piece, blank, newline, token, bytes_of, IsLongest, NoPiece}
use Rattle.odc_syntax.specs.lexical.Classes as classes
use Rattle.odc_lex.specs.declared.piece.Form.{Form}
use Rattle.odc_lex.specs.declared.piece.Form.TheVariants as forms
use Rattle.odc_lex.specs.declared.piece.Found.{Found}
use Rattle.odc_lex.specs.declared.piece.Shape.{Shape}
use Rattle.odc_lex.specs.declared.piece.Shape.TheVariants.{White, Newline, LineComment, BlockComment, Word, Number, Rune, Quoted, Raw, Directive, Sign}

abbrev pub class_told : Shape → classes.Class
class_told White = classes.white_class
class_told Newline = classes.newline_class
class_told LineComment = classes.line_comment_class
class_told BlockComment = classes.block_comment_class
class_told Word = classes.word_class
class_told Number = classes.number_class
class_told Rune = classes.rune_class
class_told Quoted = classes.quoted_class
class_told Raw = classes.raw_class
class_told Directive = classes.directive_class
class_told Sign = classes.sign_class

abbrev pub piece_of : Form → List ℕ → Piece
piece_of forms.Blank w = blank w
piece_of forms.Newline w = newline w
piece_of (forms.Token k) w = token k w

abbrev pub comment_form : List ℕ → Form
comment_form w = if list_any (λ b. b == 10) w then forms.Newline else forms.Blank

-- the first n bytes are the piece p, the longest that stands there
pub record IsPieceFront (behind_number : Bool) (text : List ℕ) (p : Piece) (n : ℕ) : Type 0 where
  pub within : n ≤ length text
  pub some : 0 < n
  pub bytes : bytes_of p ≡ take n text
  pub longest : IsLongest behind_number p (drop n text)

abbrev pub FindsPiece : Bool → List ℕ → Option Found → Type 0
FindsPiece behind_number text None = NoPiece behind_number text
FindsPiece behind_number text (Some found) = IsPieceFront behind_number text (piece_of found.form (take found.len text)) found.len
