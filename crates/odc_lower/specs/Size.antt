-- How many nodes a form has, how many steps it becomes, and how many temporaries they need.
use Rattle.std.specs.Prelude.{ℕ, ◌+◌, ◌^◌, ◌<◌, List, [], ◌∷◌, max}
use Rattle.odc_core.specs.Tree.{Expr, const, slot, address, procedure, load, unary, binary, compare, call, call_value, Exprs, none, more, Stmt, eval, store, copy, zero_bytes, choose, repeat, leave, answer, check, read, write, exit, Stmts, finish, follow, Proc}

-- ---- nodes

abbrev mutual
  pub expr_nodes : Expr → ℕ
  expr_nodes (const word) = 1
  expr_nodes (slot x) = 1
  expr_nodes (address n) = 1
  expr_nodes (procedure f) = 1
  expr_nodes (load width at) = expr_nodes at + 1
  expr_nodes (unary op operand) = expr_nodes operand + 1
  expr_nodes (binary op left right) = expr_nodes left + expr_nodes right + 1
  expr_nodes (compare op left right) = expr_nodes left + expr_nodes right + 1
  expr_nodes (call f arguments) = exprs_nodes arguments + 1
  expr_nodes (call_value target arguments marked) = expr_nodes target + exprs_nodes arguments + 1

  pub exprs_nodes : Exprs → ℕ
  exprs_nodes none = 0
  exprs_nodes (more e es) = expr_nodes e + exprs_nodes es

abbrev mutual
  pub stmt_nodes : Stmt → ℕ
  stmt_nodes (eval value) = expr_nodes value + 1
  stmt_nodes (store width to value) = expr_nodes to + expr_nodes value + 1
  stmt_nodes (copy to from size) = expr_nodes to + expr_nodes from + expr_nodes size + 1
  stmt_nodes (zero_bytes to size) = expr_nodes to + expr_nodes size + 1
  stmt_nodes (choose condition first second) = expr_nodes condition + stmts_nodes first + stmts_nodes second + 1
  stmt_nodes (repeat body) = stmts_nodes body + 1
  stmt_nodes (leave depth) = 1
  stmt_nodes (answer value) = expr_nodes value + 1
  stmt_nodes (check condition which place) = expr_nodes condition + 1
  stmt_nodes (read to size count) = expr_nodes to + expr_nodes size + expr_nodes count + 1
  stmt_nodes (write descriptor from size) = expr_nodes from + expr_nodes size + 1
  stmt_nodes (exit code) = expr_nodes code + 1

  pub stmts_nodes : Stmts → ℕ
  stmts_nodes finish = 0
  stmts_nodes (follow s ss) = stmt_nodes s + stmts_nodes ss

-- less than so many nodes and parameters, so that the steps and temporaries of each procedure can be counted
abbrev pub IsCountable : Proc → Type 0
IsCountable p = (stmts_nodes p.body < 2 ^ 24) × (p.parameters < 2 ^ 24)

abbrev pub AreCountable : List Proc → Type 0
AreCountable [] = Unit {0}
AreCountable (p ∷ ps) = IsCountable p × AreCountable ps

-- ---- steps; an expression becomes one for each node

-- the steps that move bytes, and those that zero them
abbrev pub copy_size : ℕ
copy_size = 45

abbrev pub zero_size : ℕ
zero_size = 17

abbrev mutual
  pub stmt_size : Stmt → ℕ
  stmt_size (eval value) = expr_nodes value
  stmt_size (store width to value) = expr_nodes to + expr_nodes value + 1
  stmt_size (copy to from size) = expr_nodes to + expr_nodes from + expr_nodes size + copy_size
  stmt_size (zero_bytes to size) = expr_nodes to + expr_nodes size + zero_size
  stmt_size (choose condition first second) = expr_nodes condition + stmts_size first + stmts_size second + 2
  stmt_size (repeat body) = stmts_size body + 2
  stmt_size (leave depth) = 1
  stmt_size (answer value) = expr_nodes value + 1
  stmt_size (check condition which place) = expr_nodes condition + 1
  stmt_size (read to size count) = expr_nodes to + expr_nodes size + expr_nodes count + 2
  stmt_size (write descriptor from size) = expr_nodes from + expr_nodes size + 1
  stmt_size (exit code) = expr_nodes code + 1

  pub stmts_size : Stmts → ℕ
  stmts_size finish = 0
  stmts_size (follow s ss) = stmt_size s + stmts_size ss

-- ---- temporaries, beside those that live all along

abbrev mutual
  pub expr_room : Expr → ℕ
  expr_room (const word) = 1
  expr_room (slot x) = 1
  expr_room (address n) = 1
  expr_room (procedure f) = 1
  expr_room (load width at) = expr_room at
  expr_room (unary op operand) = expr_room operand
  expr_room (binary op left right) = max (expr_room left) (expr_room right + 1)
  expr_room (compare op left right) = max (expr_room left) (expr_room right + 1)
  expr_room (call f arguments) = max 1 (exprs_room arguments)
  expr_room (call_value target arguments marked) = max (expr_room target) (exprs_room arguments + 1)

  -- each argument stays while the next ones are made
  pub exprs_room : Exprs → ℕ
  exprs_room none = 0
  exprs_room (more e es) = max (expr_room e) (exprs_room es + 1)

abbrev mutual
  pub stmt_room : Stmt → ℕ
  stmt_room (eval value) = expr_room value
  stmt_room (store width to value) = max (expr_room to) (expr_room value + 1)
  stmt_room (copy to from size) = max 6 (max (expr_room to) (max (expr_room from + 1) (expr_room size + 2)))
  stmt_room (zero_bytes to size) = max 6 (max (expr_room to) (expr_room size + 1))
  stmt_room (choose condition first second) = max (expr_room condition) (max (stmts_room first) (stmts_room second))
  stmt_room (repeat body) = stmts_room body
  stmt_room (leave depth) = 0
  stmt_room (answer value) = expr_room value
  stmt_room (check condition which place) = expr_room condition
  stmt_room (read to size count) = max 4 (max (expr_room to) (max (expr_room size + 1) (expr_room count + 2)))
  stmt_room (write descriptor from size) = max (expr_room from) (expr_room size + 1)
  stmt_room (exit code) = expr_room code

  pub stmts_room : Stmts → ℕ
  stmts_room finish = 0
  stmts_room (follow s ss) = max (stmt_room s) (stmts_room ss)
