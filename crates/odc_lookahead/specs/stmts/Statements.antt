-- The clean forms of what the functions on statements give.
use Rattle.std.specs.Prelude.{◌≡◌, ℕ, List, [], ◌∷◌, Vec, Option}
use Rattle.std.specs.declared.alloc.Global.{Global}
use Rattle.odc_text.specs.declared.place.Place.{Place}
use Rattle.odc_syntax.specs.declared.token.Token.{Token}
use Rattle.odc_syntax.specs.Grammar as g
use Rattle.odc_syntax.specs.Tree.{Expr, Stmt}
use Rattle.odc_syntax.specs.Tree as tree
use Rattle.odc_syntax.specs.View.{expr, exprs, stmts}
use Rattle.odc_syntax.specs.Grammar.{placed}
use Rattle.odc_lookahead.specs.Exact.{Found, one}
use Rattle.odc_lookahead.specs.stmts.StatementSets.{continues_statement}

abbrev pub expr_list : Vec Expr Global → tree.Exprs
expr_list xs = exprs xs.items

abbrev pub stmt_list : Vec Stmt Global → tree.Stmts
stmt_list xs = stmts xs.items

-- the first of the expressions is this
abbrev pub BeginsWith : tree.Expr → List Expr → Type 0
BeginsWith e [] = ⊥
BeginsWith e (x ∷ xs) = expr x ≡ e

-- a block, a loop or a switch, and its place
abbrev pub labelled_part : ℕ → Place × g.Labelled → g.Sym
labelled_part c u = g.labelled_ c u.0 u.1

abbrev pub labelled_node : Option Token → Place × g.Labelled → tree.Stmt
labelled_node l v = tree.stmt (placed l v.0) (g.labelled l v.1)

-- it is read, and this statement is made of it
pub record LabelledRead (l : Option Token) (b : ℕ) (ts : List Token) (s : tree.Stmt) (n : ℕ) (rest : List Token) : Type 0 where
  pub value : Place × g.Labelled
  pub is : s ≡ labelled_node l value
  pub found : Found (one labelled_part) continues_statement b ts value n rest
