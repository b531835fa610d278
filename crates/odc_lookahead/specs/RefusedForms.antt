-- What refused form may begin with a token, by the token itself.
use Rattle.std.specs.Prelude.{◌≡◌, ℕ, ◌+◌, false, List}
use Rattle.odc_text.specs.declared.code.Code.{Code}
use Rattle.odc_text.specs.declared.code.Code.TheVariants.{N01, N02, N03, N04, N05, N08, N09, N10, N11, N12, N14, N15, N16, N17, N18}
use Rattle.odc_syntax.specs.declared.token.Token.{Token}
use Rattle.odc_syntax.specs.declared.token.TokenKind.{TokenKind}
use Rattle.odc_syntax.specs.declared.token.TokenKind.TheVariants as kind
use Rattle.odc_syntax.specs.declared.token.Word.{Word}
use Rattle.odc_syntax.specs.declared.token.Word.TheVariants as word
use Rattle.odc_lookahead.specs.Refused.{Stands, Says, BehindDollar, Bracketed, is_convention}
use Rattle.odc_lookahead.specs.declared.refused.RefusedForm.{RefusedForm}
use Rattle.odc_lookahead.specs.declared.refused.RefusedForm.TheVariants.{Always, Before, Typeid, Bracket, Proc, Question, Nothing}

abbrev pub directive_form : Word → RefusedForm
directive_form word.Soa = Before kind.Caret N14
directive_form word.Partial = Nothing
directive_form word.Type = Nothing
directive_form word.CallerLocation = Nothing
directive_form _ = Always N10

abbrev pub form_of : Word → TokenKind → RefusedForm
form_of w kind.Float = Always N01
form_of w kind.Matrix = Always N02
form_of w kind.Map = Always N03
form_of w kind.Typeid = Typeid
form_of w kind.Transmute = Always N05
form_of w kind.AutoCast = Always N05
form_of w kind.OpenBracket = Bracket
form_of w kind.BitSet = Always N08
form_of w kind.BitField = Always N08
form_of w kind.Using = Always N09
form_of w kind.Directive = directive_form w
form_of w kind.Where = Always N11
form_of w kind.DotDot = Always N11
form_of w kind.Struct = Before kind.OpenParen N11
form_of w kind.Union = Before kind.OpenParen N11
form_of w kind.Proc = Proc
form_of w kind.Foreign = Always N12
form_of w kind.Asm = Always N12
form_of w kind.Ampersand = Before kind.Context N15
form_of w kind.When = Always N16
form_of w kind.OrElse = Always N16
form_of w kind.OrBreak = Always N16
form_of w kind.OrContinue = Always N16
form_of w kind.Question = Question
form_of w kind.At = Always N17
form_of w kind.HashPlus = Always N17
form_of w kind.NotIn = Always N18
form_of w _ = Nothing

abbrev pub refused_form : Token → RefusedForm
refused_form t = form_of t.word t.kind

-- a string that is no convention stands at this position
pub record Unconventional (ts : List Token) (i : ℕ) : Type 0 where
  pub text : Stands ts i kind.Text
  pub said : Word
  pub says : Says ts i said
  pub none : is_convention said ≡ false

-- what stands at this position, directly behind `proc`, and the code that it gives
pub data BehindProc (ts : List Token) (i : ℕ) : Code → Type 0 where
  group : Stands ts i kind.OpenBrace → BehindProc ts i N11
  text : Unconventional ts i → BehindProc ts i N12

-- `^` and `]` stand directly behind this position
pub record Pointed (ts : List Token) (i : ℕ) : Type 0 where
  pub caret : Stands ts (i + 1) kind.Caret
  pub close : Stands ts (i + 2) kind.CloseBracket

-- what a form at position i refuses
abbrev pub Refuses : List Token → ℕ → RefusedForm → Code → Type 0
Refuses ts i (Always d) c = c ≡ d
Refuses ts i (Before k d) c = (c ≡ d) × Stands ts (i + 1) k
Refuses ts i Typeid c = (c ≡ N04) × (BehindDollar ts i → ⊥)
Refuses ts i Bracket c = (c ≡ N05) × Pointed ts i
Refuses ts i Proc c = BehindProc ts (i + 1) c
Refuses ts i Question c = (c ≡ N16) × (Bracketed ts i → ⊥)
Refuses ts i Nothing c = ⊥
