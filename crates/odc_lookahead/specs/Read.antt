-- What the parse functions' results answer.
use Rattle.std.specs.Prelude.{◌≡◌, ℕ, Bool, false, List, [], ◌∷◌, length, Result, Ok, Err, Option, Some, None}
use Rattle.odc_syntax.specs.declared.token.Token.{Token}
use Rattle.odc_syntax.specs.declared.token.TokenKind.{TokenKind}
use Rattle.odc_syntax.specs.Derives.{StartsWithout}
use Rattle.odc_syntax.specs.Operators.{operator_of, level_of, prefix_of}
use Rattle.odc_syntax.specs.declared.tree.BinaryOp.{BinaryOp}
use Rattle.odc_syntax.specs.declared.tree.UnaryOp.{UnaryOp}
use Rattle.odc_syntax.specs.declared.token.TokenKind.TheVariants as kind
use Rattle.odc_lookahead.specs.declared.unary.UnaryForm.{UnaryForm}
use Rattle.odc_lookahead.specs.declared.unary.UnaryForm.TheVariants as form
use Rattle.odc_syntax.specs.declared.grammar.Level.{Level}
use Rattle.odc_lookahead.specs.declared.read.Read.{Read}
use Rattle.odc_lookahead.specs.declared.stop.Stop.{Stop}
use Rattle.odc_lookahead.specs.declared.stop.Stop.TheVariants as stop
use Rattle.odc_syntax.specs.declared.grammar.Mode.{Mode}
use Rattle.odc_lookahead.specs.Sets.{starts_suffix, continues}
use Rattle.odc_syntax.specs.declared.grammar.Level.TheVariants.{Or}
use Rattle.odc_lookahead.specs.Exact.{Answer, Yes, Syntax, Deep, NoMemory}
use Rattle.odc_lookahead.specs.declared.tokens.Fit.{Fit}
use Rattle.odc_lookahead.specs.declared.tokens.Fit.TheVariants as fit

abbrev pub refused : {V : Type 0} → Stop → Answer V
refused (stop.Syntax left) = Syntax left
refused (stop.Deep left) = Deep left
refused stop.Memory = NoMemory

-- what is read, or why nothing is, as an answer; `view` gives the clean form of the tree
abbrev pub seen : {A V : Type 0} → (A → V) → Result (Read A) Stop → Answer V
seen view (Ok r) = Yes (view r.tree) r.height r.rest.now
seen view (Err e) = refused e

-- why a token of this kind is not read from the front: it isn't there, or it is and nothing may follow
-- what was read before
pub record IsThere (k : TokenKind) (within : Fit) (ts : List Token) (left : ℕ) : Type 0 where
  pub first : Token
  pub rest : List Token
  pub is : ts ≡ first ∷ rest
  pub kind : first.kind ≡ k
  pub left_is : left ≡ length rest
  pub over : within ≡ fit.Over

abbrev pub NotExpected : TokenKind → Fit → List Token → Stop → Type 0
NotExpected k w ts (stop.Syntax left) = (left ≡ length ts) × StartsWithout k ts
NotExpected k w ts (stop.Deep left) = IsThere k w ts left
NotExpected k w ts stop.Memory = ⊥

-- a token of this kind stands first
abbrev pub StartsWith : TokenKind → List Token → Type 0
StartsWith k [] = ⊥
StartsWith k (t ∷ ts) = t.kind ≡ k

-- no operator of this level stands first
abbrev pub NoOperator : Level → List Token → Type 0
NoOperator l [] = Unit {0}
NoOperator l (t ∷ ts) = (op : BinaryOp) → operator_of t.kind ≡ Some op → level_of op ≡ l → ⊥

-- nothing that may stand behind an operand stands first
abbrev pub NoSuffix : Mode → List Token → Type 0
NoSuffix m [] = Unit {0}
NoSuffix m (t ∷ ts) = starts_suffix m t.kind ≡ false

-- nothing with which any expression may go on stands first
abbrev pub NothingGoesOn : Mode → List Token → Type 0
NothingGoesOn m [] = Unit {0}
NothingGoesOn m (t ∷ ts) = continues Or m t.kind ≡ false

-- how a unary expression begins
abbrev pub sign_form : Option UnaryOp → TokenKind → UnaryForm
sign_form (Some op) k = form.Sign op
sign_form None kind.Cast = form.Cast
sign_form None _ = form.Operand

abbrev pub unary_form : TokenKind → UnaryForm
unary_form k = sign_form (prefix_of k) k
