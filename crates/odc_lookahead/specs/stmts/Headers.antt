-- How the first parts of a header were read, whatever stands behind them.
use Rattle.std.specs.Prelude.{◌≡◌, ℕ, suc, ◌<◌, ◌≤◌, List, ◌∷◌, Some, ◌⊎◌}
use Rattle.odc_syntax.specs.declared.token.Token.{Token}
use Rattle.odc_syntax.specs.declared.token.TokenKind.{TokenKind}
use Rattle.odc_syntax.specs.declared.token.TokenKind.TheVariants as kind
use Rattle.odc_syntax.specs.declared.grammar.Mode.TheVariants as mode
use Rattle.odc_syntax.specs.declared.grammar.Level.TheVariants.{Or}
use Rattle.odc_syntax.specs.declared.tree.AssignOp.{AssignOp}
use Rattle.odc_syntax.specs.Derives.{StartsWithout}
use Rattle.odc_syntax.specs.Grammar as g
use Rattle.odc_syntax.specs.Operators.{assignment_of}
use Rattle.odc_syntax.specs.Tree as tree
use Rattle.odc_lookahead.specs.Exact.{Found, one}
use Rattle.odc_lookahead.specs.stmts.Runs.{Declares, Undeclared}
use Rattle.odc_lookahead.specs.Sets.{continues}
use Rattle.odc_lookahead.specs.stmts.StatementSets.{continues_declaration, continues_simple}

-- several names, behind which nothing is declared any more
pub record Listed (ts rest : List Token) : Type 0 where
  pub first : Token
  pub comma : Token
  pub others : List Token
  pub is : ts ≡ first ∷ comma ∷ others
  pub name : first.kind ≡ kind.Name
  pub kind : comma.kind ≡ kind.Comma
  pub run : Undeclared others rest

-- no name stands first, or one behind which neither a comma nor a `:` stands
pub data Single : List Token → List Token → Type 0 where
  unnamed : (ts : List Token) → StartsWithout kind.Name ts → Single ts ts
  named : (t : Token) (us : List Token) → t.kind ≡ kind.Name → StartsWithout kind.Comma us → StartsWithout kind.Colon us → Single (t ∷ us) us

-- an expression stands first
pub record HeadExpression (b : ℕ) (ts place : List Token) (v : tree.Expr) (n : ℕ) (rest : List Token) : Type 0 where
  pub some : 0 < b
  pub single : Single ts place
  pub found : Found (one (g.expression mode.Header)) (continues Or mode.Header) b ts v n rest

abbrev pub GoesOn : TokenKind → Type 0
GoesOn k = (k ≡ kind.Comma) ⊎ ((op : AssignOp) × (assignment_of k ≡ Some op))

-- what must be followed by `;` is read
pub data ClosedFrom (b : ℕ) (ts : List Token) : tree.Header → ℕ → List Token → Type 0 where
  declared : (place : List Token) (d : tree.Decl) (n : ℕ) (after : List Token) → 0 < b → Declares ts place → Found (one (g.declaration mode.Header)) (continues_declaration mode.Header) b ts d n after → ClosedFrom b ts (tree.decl_header d) n after
  listed : (place : List Token) (x : tree.Stmt) (n : ℕ) (after : List Token) → 1 < b → Listed ts place → Found (one (g.simple mode.Header)) (continues_simple mode.Header) b ts x n after → ClosedFrom b ts (tree.simple_header x) n after
  begun : (d : ℕ) (place : List Token) (v : tree.Expr) (n : ℕ) (rest : List Token) (t : Token) (us : List Token) (x : tree.Stmt) (m : ℕ) (after : List Token) → b ≡ suc d → HeadExpression b ts place v n rest → n ≤ d → rest ≡ t ∷ us → GoesOn t.kind →
      Found (one (g.simple mode.Header)) (continues_simple mode.Header) b ts x m after → ClosedFrom b ts (tree.simple_header x) m after

-- with its `;`
pub data ConditionFrom (b : ℕ) (ts : List Token) : tree.Header → ℕ → List Token → Type 0 where
  closed : (h : tree.Header) (n : ℕ) (rest : List Token) (t : Token) (us : List Token) → ClosedFrom b ts h n rest → n ≤ b → rest ≡ t ∷ us → t.kind ≡ kind.Semicolon → ConditionFrom b ts h n us
  evaluated : (d : ℕ) (place : List Token) (v : tree.Expr) (n : ℕ) (rest : List Token) (t : Token) (us : List Token) → b ≡ suc d → HeadExpression b ts place v n rest → n ≤ d → rest ≡ t ∷ us → t.kind ≡ kind.Semicolon →
      ConditionFrom b ts (tree.simple_header (tree.stmt (tree.first_of v) (tree.eval (tree.more_exprs v tree.no_exprs)))) (suc n) us
