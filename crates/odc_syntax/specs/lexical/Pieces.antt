-- The pieces that a text is cut into.
use Rattle.std.specs.Prelude.{◌≡◌, ℕ, ◌≤◌, Bool, true, false, ◌||◌, ◌==◌, ◌⊎◌, List, [], ◌∷◌, ◌++◌, length, if◌then◌else◌}
use Rattle.std.specs.List.{list_any}
use Rattle.odc_syntax.specs.declared.token.TokenKind.{TokenKind}
use Rattle.odc_syntax.specs.declared.token.TokenKind.TheVariants.{Int, Float, Rune, Text, Directive}
use Rattle.odc_syntax.specs.lexical.Words.{IsByte, Led}
use Rattle.odc_syntax.specs.lexical.Names.{IsWord, IsDirective, word_kind}
use Rattle.odc_syntax.specs.lexical.Numbers.{IsNumber}
use Rattle.odc_syntax.specs.lexical.Texts.{IsRune, IsQuoted, IsRaw}
use Rattle.odc_syntax.specs.lexical.Comments.{IsLineComment, IsBlockComment}
use Rattle.odc_syntax.specs.lexical.Signs.{IsSign}

-- A piece with its bytes: one that counts as white space, one that counts as a newline, or a token.
pub data Piece : Type 0 where
  blank : List ℕ → Piece
  newline : List ℕ → Piece
  token : TokenKind → List ℕ → Piece

abbrev pub bytes_of : Piece → List ℕ
bytes_of (blank w) = w
bytes_of (newline w) = w
bytes_of (token k w) = w

abbrev pub is_number_kind : TokenKind → Bool
is_number_kind Int = true
is_number_kind Float = true
is_number_kind _ = false

abbrev pub is_number : Piece → Bool
is_number (blank w) = false
is_number (newline w) = false
is_number (token k w) = is_number_kind k

-- space, tab and carriage return
abbrev pub is_white : ℕ → Bool
is_white b = b == 32 || b == 9 || b == 13

abbrev pub IsWhite : List ℕ → Type 0
IsWhite = Led (IsByte is_white) (IsByte is_white)

-- a comment that holds a newline counts as one
abbrev pub comment : List ℕ → Piece
comment w = if list_any (λ b. b == 10) w then newline w else blank w

-- `/` before `/` or `*` begins a comment
abbrev pub BeginsComment : List ℕ → List ℕ → Type 0
BeginsComment w rest = (w ≡ 47 ∷ []) × (b : ℕ) × (bs : List ℕ) × (rest ≡ b ∷ bs) × ((b ≡ 47) ⊎ (b ≡ 42))

-- p is a piece before rest, directly behind a number or not: no name or keyword stands directly
-- behind a number
pub data IsPiece (behind_number : Bool) (p : Piece) (rest : List ℕ) : Type 0 where
  white : (w : List ℕ) → IsWhite w → p ≡ blank w → IsPiece behind_number p rest
  line_end : p ≡ newline (10 ∷ []) → IsPiece behind_number p rest
  line_comment : (w : List ℕ) → IsLineComment w rest → p ≡ blank w → IsPiece behind_number p rest
  block_comment : (w : List ℕ) → IsBlockComment w → p ≡ comment w → IsPiece behind_number p rest
  word : (w : List ℕ) → IsWord w → behind_number ≡ false → p ≡ token (word_kind w) w → IsPiece behind_number p rest
  number : (k : TokenKind) (w : List ℕ) → IsNumber k w → p ≡ token k w → IsPiece behind_number p rest
  rune : (w : List ℕ) → IsRune w → p ≡ token Rune w → IsPiece behind_number p rest
  quoted : (w : List ℕ) → IsQuoted w → p ≡ token Text w → IsPiece behind_number p rest
  raw : (w : List ℕ) → IsRaw w → p ≡ token Text w → IsPiece behind_number p rest
  directive : (w : List ℕ) → IsDirective w → p ≡ token Directive w → IsPiece behind_number p rest
  sign : (k : TokenKind) (w : List ℕ) → IsSign k w → ¬ (BeginsComment w rest) → p ≡ token k w → IsPiece behind_number p rest

-- p is the longest piece at the front of its own bytes and rest
pub record IsLongest (behind_number : Bool) (p : Piece) (rest : List ℕ) : Type 0 where
  pub piece : IsPiece behind_number p rest
  pub longest : (q : Piece) (r : List ℕ) → IsPiece behind_number q r → bytes_of q ++ r ≡ bytes_of p ++ rest → length (bytes_of q) ≤ length (bytes_of p)

-- no piece stands at the front of the text
abbrev pub NoPiece : Bool → List ℕ → Type 0
NoPiece behind_number text = (q : Piece) (r : List ℕ) → IsPiece behind_number q r → bytes_of q ++ r ≡ text → ⊥

-- the bytes of pieces one after another
abbrev pub spelled : List Piece → List ℕ
spelled [] = []
spelled (p ∷ ps) = bytes_of p ++ spelled ps

-- each of the pieces is the longest at its place before rest
abbrev pub IsCut : Bool → List Piece → List ℕ → Type 0
IsCut behind_number [] rest = Unit {0}
IsCut behind_number (p ∷ ps) rest = IsLongest behind_number p (spelled ps ++ rest) × IsCut (is_number p) ps rest

-- whether the last of the pieces is a number
abbrev pub ends_in_number : Bool → List Piece → Bool
ends_in_number behind_number [] = behind_number
ends_in_number behind_number (p ∷ ps) = ends_in_number (is_number p) ps
