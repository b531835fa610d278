-- The forms that the language refuses though they are made of tokens: at which positions of a list of
-- tokens one begins, and its code. No position begins two of them.
use Rattle.std.specs.Prelude.{◌≡◌, ℕ, ◌+◌, ◌<◌, ◌≤◌, Bool, true, false, List, Option, Some, None, slice_get}
use Rattle.odc_text.specs.declared.code.Code.{Code}
use Rattle.odc_text.specs.declared.code.Code.TheVariants.{N01, N02, N03, N04, N05, N08, N09, N10, N11, N12, N14, N15, N16, N17, N18}
use Rattle.odc_syntax.specs.declared.token.Token.{Token}
use Rattle.odc_syntax.specs.declared.token.TokenKind.{TokenKind}
use Rattle.odc_syntax.specs.declared.token.TokenKind.TheVariants.{Name, Float, Text, Directive, Proc, Struct, Union, Context, Typeid, Matrix, Map, Transmute, AutoCast, BitSet, BitField, Using, Where, Foreign, Asm, When, OrElse, OrBreak, OrContinue, NotIn, OpenParen, OpenBracket, CloseBracket, OpenBrace, Colon, Caret, Question, Dollar, At, Ampersand, DotDot, HashPlus}
use Rattle.odc_syntax.specs.declared.token.Word.{Word}
use Rattle.odc_syntax.specs.declared.token.Word.TheVariants as word

abbrev pub kind_of : Option Token → Option TokenKind
kind_of None = None
kind_of (Some t) = Some t.kind

abbrev pub word_of : Option Token → Option Word
word_of None = None
word_of (Some t) = Some t.word

-- the token at position i is of this kind; says this
abbrev pub Stands : List Token → ℕ → TokenKind → Type 0
Stands ts i k = kind_of (slice_get ts i) ≡ Some k

abbrev pub Says : List Token → ℕ → Word → Type 0
Says ts i w = word_of (slice_get ts i) ≡ Some w

-- the directives of the language
abbrev pub is_directive : Word → Bool
is_directive word.Soa = true
is_directive word.Partial = true
is_directive word.Type = true
is_directive word.CallerLocation = true
is_directive _ = false

-- the conventions that a string behind `proc` may name
abbrev pub is_convention : Word → Bool
is_convention word.Odin = true
is_convention word.Contextless = true
is_convention _ = false

-- `$`, a name and `:` stand directly before position i
pub record BehindDollar (ts : List Token) (i : ℕ) : Type 0 where
  pub from : ℕ
  pub here : i ≡ from + 3
  pub dollar : Stands ts from Dollar
  pub name : Stands ts (from + 1) Name
  pub colon : Stands ts (from + 2) Colon

-- `[` stands directly before position i, and `]` directly behind it
pub record Bracketed (ts : List Token) (i : ℕ) : Type 0 where
  pub from : ℕ
  pub here : i ≡ from + 1
  pub open_ : Stands ts from OpenBracket
  pub close : Stands ts (i + 1) CloseBracket

-- a form that begins at position i, with its code
pub data Refused (ts : List Token) (i : ℕ) : Code → Type 0 where
  float : Stands ts i Float → Refused ts i N01
  matrix : Stands ts i Matrix → Refused ts i N02
  map : Stands ts i Map → Refused ts i N03
  typeid : Stands ts i Typeid → (BehindDollar ts i → ⊥) → Refused ts i N04
  transmute : Stands ts i Transmute → Refused ts i N05
  auto_cast : Stands ts i AutoCast → Refused ts i N05
  multi_pointer : Stands ts i OpenBracket → Stands ts (i + 1) Caret → Stands ts (i + 2) CloseBracket → Refused ts i N05
  bit_set : Stands ts i BitSet → Refused ts i N08
  bit_field : Stands ts i BitField → Refused ts i N08
  using : Stands ts i Using → Refused ts i N09
  directive : {w : Word} → Stands ts i Directive → Says ts i w → is_directive w ≡ false → Refused ts i N10
  where_ : Stands ts i Where → Refused ts i N11
  dot_dot : Stands ts i DotDot → Refused ts i N11
  proc_group : Stands ts i Proc → Stands ts (i + 1) OpenBrace → Refused ts i N11
  struct_params : Stands ts i Struct → Stands ts (i + 1) OpenParen → Refused ts i N11
  union_params : Stands ts i Union → Stands ts (i + 1) OpenParen → Refused ts i N11
  foreign : Stands ts i Foreign → Refused ts i N12
  asm : Stands ts i Asm → Refused ts i N12
  convention : {w : Word} → Stands ts i Proc → Stands ts (i + 1) Text → Says ts (i + 1) w → is_convention w ≡ false → Refused ts i N12
  soa_pointer : Stands ts i Directive → Says ts i word.Soa → Stands ts (i + 1) Caret → Refused ts i N14
  address_of_context : Stands ts i Ampersand → Stands ts (i + 1) Context → Refused ts i N15
  when : Stands ts i When → Refused ts i N16
  or_else : Stands ts i OrElse → Refused ts i N16
  or_break : Stands ts i OrBreak → Refused ts i N16
  or_continue : Stands ts i OrContinue → Refused ts i N16
  question : Stands ts i Question → (Bracketed ts i → ⊥) → Refused ts i N16
  at_sign : Stands ts i At → Refused ts i N17
  hash_plus : Stands ts i HashPlus → Refused ts i N17
  not_in : Stands ts i NotIn → Refused ts i N18

-- the first form that begins from position `from` on and before position `end`
pub record FirstRefused (ts : List Token) (from end at : ℕ) (code : Code) : Type 0 where
  pub low : from ≤ at
  pub high : at < end
  pub refused : Refused ts at code
  pub first : (i : ℕ) (c : Code) → from ≤ i → i < at → Refused ts i c → ⊥

-- none begins there
abbrev pub NoneRefused : List Token → ℕ → ℕ → Type 0
NoneRefused ts from end = (i : ℕ) (c : Code) → from ≤ i → i < end → Refused ts i c → ⊥
