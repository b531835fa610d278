-- The clean form of statements in braces, and why no body is read where what stands before it is already
-- too deep.
use Rattle.std.specs.Prelude.{◌≡◌, ℕ, List, ◌∷◌, length, ◌⊎◌, Vec}
use Rattle.std.specs.declared.alloc.Global.{Global}
use Rattle.odc_syntax.specs.declared.token.Token.{Token}
use Rattle.odc_syntax.specs.declared.token.TokenKind.TheVariants as kind
use Rattle.odc_syntax.specs.Derives.{StartsWithout}
use Rattle.odc_syntax.specs.Tree as tree
use Rattle.odc_syntax.specs.View.{stmts}
use Rattle.odc_lookahead.specs.declared.read.Closed.{Closed}
use Rattle.odc_lookahead.specs.declared.stop.Stop.{Stop}
use Rattle.odc_lookahead.specs.declared.stop.Stop.TheVariants as stop

abbrev pub braces_of : Closed (Vec tree.Stmt Global) → tree.Stmts × (Token × Unit {0})
braces_of b = (stmts b.part.items, (b.close, tt))

-- a body begins with the first token, and so many are left behind it
pub record BodyStarts (ts : List Token) (left : ℕ) : Type 0 where
  pub first : Token
  pub rest : List Token
  pub is : ts ≡ first ∷ rest
  pub kind : (first.kind ≡ kind.OpenBrace) ⊎ (first.kind ≡ kind.Do)
  pub left_is : left ≡ length rest

abbrev pub BodyOver : List Token → Stop → Type 0
BodyOver ts (stop.Syntax left) = (left ≡ length ts) × (StartsWithout kind.OpenBrace ts × StartsWithout kind.Do ts)
BodyOver ts (stop.Deep left) = BodyStarts ts left
BodyOver ts stop.Memory = ⊥
