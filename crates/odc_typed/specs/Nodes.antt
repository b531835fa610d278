-- How many nodes a procedure has: each expression, statement and variable is one.
use Rattle.std.specs.Prelude.{ℕ, ◌+◌, ◌≤◌, List, [], ◌∷◌}
use Rattle.odc_typed.specs.Tree.{Expr, const, local, binary, call, builtin, Exprs, none, more, Stmt, eval, declare, assign, choose, repeat, answer, Stmts, finish, follow, Proc}
use Rattle.odc_typed.specs.Frame.{variables}

abbrev mutual
  pub expr_nodes : Expr → ℕ
  expr_nodes (const at value) = 1
  expr_nodes (local at x) = 1
  expr_nodes (binary at op left right) = expr_nodes left + expr_nodes right + 1
  expr_nodes (call at f arguments) = exprs_nodes arguments + 1
  expr_nodes (builtin at which arguments) = exprs_nodes arguments + 1

  pub exprs_nodes : Exprs → ℕ
  exprs_nodes none = 0
  exprs_nodes (more e es) = expr_nodes e + exprs_nodes es

abbrev mutual
  pub stmt_nodes : Stmt → ℕ
  stmt_nodes (eval at value) = expr_nodes value + 1
  stmt_nodes (declare at x value) = expr_nodes value + 1
  stmt_nodes (assign at target value) = expr_nodes target + expr_nodes value + 1
  stmt_nodes (choose at condition body) = expr_nodes condition + stmts_nodes body + 1
  stmt_nodes (repeat at condition body) = expr_nodes condition + stmts_nodes body + 1
  stmt_nodes (answer at value) = expr_nodes value + 1

  pub stmts_nodes : Stmts → ℕ
  stmts_nodes finish = 0
  stmts_nodes (follow s ss) = stmt_nodes s + stmts_nodes ss

abbrev pub nodes : Proc → ℕ
nodes p = variables p + stmts_nodes p.body

-- no procedure has more than 20,000 nodes
abbrev pub NodesFit : List Proc → Type 0
NodesFit [] = Unit {0}
NodesFit (p ∷ ps) = (nodes p ≤ 20000) × NodesFit ps

-- the nodes of all procedures
abbrev pub all_nodes : List Proc → ℕ
all_nodes [] = 0
all_nodes (p ∷ ps) = nodes p + all_nodes ps
