-- The tokens and trees of the worked cases.
use Rattle.std.specs.Prelude.{◌≡◌}
use Rattle.odc_syntax.specs.declared.token.Token.{Token}
use Rattle.odc_syntax.specs.declared.token.TokenKind.TheVariants as kind
use Rattle.odc_syntax.specs.declared.tree.BinaryOp.TheVariants as binary
use Rattle.odc_syntax.specs.Tree.{Expr, expr}
use Rattle.odc_syntax.specs.Tree as tree
use Rattle.odc_syntax.specs.Grammar.{operated}

abbrev pub named : Token → Expr
named t = expr t.at t.at (tree.name t)

-- `a < b < c`
pub record Compared (a x b y c : Token) : Type 0 where
  pub a_is : a.kind ≡ kind.Name
  pub b_is : b.kind ≡ kind.Name
  pub c_is : c.kind ≡ kind.Name
  pub x_is : x.kind ≡ kind.Less
  pub y_is : y.kind ≡ kind.Less

abbrev pub compared : Token → Token → Token → Expr
compared a x b = operated (named a) (record { at = x.at; op = binary.Less; right = named b })

-- `a - b - c`
pub record Subtracted (a x b y c : Token) : Type 0 where
  pub a_is : a.kind ≡ kind.Name
  pub b_is : b.kind ≡ kind.Name
  pub c_is : c.kind ≡ kind.Name
  pub x_is : x.kind ≡ kind.Minus
  pub y_is : y.kind ≡ kind.Minus

abbrev pub minus : Expr → Token → Token → Expr
minus v x b = operated v (record { at = x.at; op = binary.Subtract; right = named b })
