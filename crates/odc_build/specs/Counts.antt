-- How many nodes of core code each kind of node of the source becomes.
use Rattle.std.specs.Prelude.{ℕ, zero, suc, ◌+◌, ◌*◌, List, [], ◌∷◌}
use Rattle.odc_typed.specs.declared.tree.BinaryOp.{BinaryOp}
use Rattle.odc_typed.specs.declared.tree.BinaryOp.TheVariants.{Add, Subtract, Multiply, Divide, Remainder, Less, Equal}
use Rattle.odc_typed.specs.declared.tree.Builtin.{Builtin}
use Rattle.odc_typed.specs.declared.tree.Builtin.TheVariants.{Println}
use Rattle.odc_typed.specs.declared.tree.Local.{Local}
use Rattle.odc_typed.specs.Tree.{Expr, const, local, binary, call, builtin, Exprs, none, more, Stmt, eval, declare, assign, choose, repeat, answer, Stmts, finish, follow, Proc}
use Rattle.odc_context.specs.Code.{count}

-- an operation on values that wait; a division checks its divisor
abbrev pub operation_count : BinaryOp → ℕ
operation_count Add = 7
operation_count Subtract = 7
operation_count Multiply = 7
operation_count Divide = 10
operation_count Remainder = 10
operation_count Less = 7
operation_count Equal = 7

-- a line of so many values
abbrev pub line_count : ℕ → ℕ
line_count zero = 24
line_count (suc n) = 80 * suc n

abbrev pub builtin_count : Builtin → ℕ → ℕ
builtin_count Println n = line_count n

abbrev mutual
  pub expr_count : Expr → ℕ
  expr_count (const at value) = 3
  expr_count (local at x) = 4
  expr_count (binary at op left right) = expr_count left + (expr_count right + operation_count op)
  expr_count (call at f arguments) = exprs_count arguments + (2 * count arguments + 3)
  expr_count (builtin at which arguments) = exprs_count arguments + builtin_count which (count arguments)

  pub exprs_count : Exprs → ℕ
  exprs_count none = 0
  exprs_count (more e es) = expr_count e + exprs_count es

-- a place that is assigned to
abbrev pub place_count : Expr → ℕ
place_count (local at x) = 4
place_count _ = 0

abbrev mutual
  pub stmt_count : Stmt → ℕ
  stmt_count (eval at value) = expr_count value
  stmt_count (declare at x value) = expr_count value + 4
  stmt_count (assign at target value) = expr_count value + place_count target
  stmt_count (choose at condition body) = expr_count condition + (stmts_count body + 3)
  stmt_count (repeat at condition body) = expr_count condition + (stmts_count body + 7)
  stmt_count (answer at value) = expr_count value + 7

  pub stmts_count : Stmts → ℕ
  stmts_count finish = 0
  stmts_count (follow s ss) = stmt_count s + stmts_count ss

-- a result begins with zero, and is answered at the end
abbrev pub result_count : List Local → ℕ
result_count [] = 0
result_count (r ∷ rs) = 6

abbrev pub proc_count : Proc → ℕ
proc_count p = stmts_count p.body + result_count p.results
