-- Names and keywords. A name begins with `_` or a character of Unicode's class XID_Start, and goes on
-- with `_` and characters of XID_Continue.
use Rattle.std.specs.Prelude.{◌≡◌, ℕ, Bool, ◌||◌, ◌==◌, List, [], ◌∷◌, codes, if◌then◌else◌, bytes_eq}
use Prim.Native.String.{String}
use Rattle.unicode_ident.specs.Ident.{is_xid_start, is_xid_continue}
use Rattle.odc_syntax.specs.declared.token.TokenKind.{TokenKind}
use Rattle.odc_syntax.specs.declared.token.TokenKind.TheVariants.{Name, Package, Import, Proc, Struct, Union, Enum, Distinct, Dynamic, If, Else, For, In, Switch, Case, Return, Break, Continue, Fallthrough, Defer, Do, Cast, OrReturn, Context, Typeid, Matrix, Map, Transmute, AutoCast, BitSet, BitField, Using, Where, Foreign, Asm, When, OrElse, OrBreak, OrContinue, NotIn}
use Rattle.odc_syntax.specs.lexical.Words.{IsCharacter, Led}

abbrev pub starts_name : ℕ → Bool
starts_name c = is_xid_start c || c == 95

abbrev pub continues_name : ℕ → Bool
continues_name c = is_xid_continue c || c == 95

-- a name or a keyword
abbrev pub IsWord : List ℕ → Type 0
IsWord = Led (IsCharacter starts_name) (IsCharacter continues_name)

-- `#` and a name
pub record IsDirective (w : List ℕ) : Type 0 where
  pub name : List ℕ
  pub word : IsWord name
  pub bytes : w ≡ 35 ∷ name

-- a text that is always the same token
pub record Row : Type 0 where
  pub text : List ℕ
  pub kind : TokenKind

abbrev pub row : String → TokenKind → Row
row text kind = record { text = codes text; kind = kind }

-- the keywords; from `matrix` on the language refuses them
unfoldable pub keywords : List Row
keywords =
    row "package" Package
    ∷ row "import" Import
    ∷ row "proc" Proc
    ∷ row "struct" Struct
    ∷ row "union" Union
    ∷ row "enum" Enum
    ∷ row "distinct" Distinct
    ∷ row "dynamic" Dynamic
    ∷ row "if" If
    ∷ row "else" Else
    ∷ row "for" For
    ∷ row "in" In
    ∷ row "switch" Switch
    ∷ row "case" Case
    ∷ row "return" Return
    ∷ row "break" Break
    ∷ row "continue" Continue
    ∷ row "fallthrough" Fallthrough
    ∷ row "defer" Defer
    ∷ row "do" Do
    ∷ row "cast" Cast
    ∷ row "or_return" OrReturn
    ∷ row "context" Context
    ∷ row "typeid" Typeid
    ∷ row "matrix" Matrix
    ∷ row "map" Map
    ∷ row "transmute" Transmute
    ∷ row "auto_cast" AutoCast
    ∷ row "bit_set" BitSet
    ∷ row "bit_field" BitField
    ∷ row "using" Using
    ∷ row "where" Where
    ∷ row "foreign" Foreign
    ∷ row "asm" Asm
    ∷ row "when" When
    ∷ row "or_else" OrElse
    ∷ row "or_break" OrBreak
    ∷ row "or_continue" OrContinue
    ∷ row "not_in" NotIn
    ∷ []

-- the kind of the first row with this text, or Name
abbrev pub kind_among : List Row → List ℕ → TokenKind
kind_among [] w = Name
kind_among (r ∷ rs) w = if bytes_eq r.text w then r.kind else kind_among rs w

abbrev pub word_kind : List ℕ → TokenKind
word_kind w = kind_among keywords w
