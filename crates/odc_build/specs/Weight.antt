-- How many instructions core code becomes.
use Rattle.std.specs.Prelude.{ℕ, ◌+◌, ◌*◌, List, [], ◌∷◌}
use Rattle.odc_core.specs.Well.{count}
use Rattle.odc_core.specs.Tree.{Expr, const, slot, address, procedure, load, unary, binary, compare, call, call_value, Exprs, none, more, Stmt, eval, store, copy, zero_bytes, choose, repeat, leave, answer, check, read, write, exit, Stmts, finish, follow}
use Rattle.odc_lower.specs.Plain.{Step, const_step, address_step, move_step, unary_step, binary_step, compare_step, load_step, store_step, jump_step, branch_step, call_step, call_value_step, return_step, check_step, system_step}
use Rattle.rv_emit.specs.Code.{named_size, compare_code, value_size, system_size}
use Rattle.std.specs.Prelude.{length}

-- the instructions of a plain step
abbrev pub plain_size : Step → ℕ
plain_size (const_step to word) = 16
plain_size (address_step to of) = named_size of + 6
plain_size (move_step to from) = 12
plain_size (unary_step to op operand) = 14
plain_size (binary_step to op left right) = 19
plain_size (compare_step to op left right) = 12 + (length (compare_code op) + 6)
plain_size (load_step to width a) = 13
plain_size (store_step width a value) = 13
plain_size (jump_step label) = 7
plain_size (branch_step condition label) = 14
plain_size (call_step to f arguments) = 13 + 8 * length arguments + 11
plain_size (call_value_step to target arguments marked) = value_size arguments marked
plain_size (return_step value) = 13
plain_size (check_step condition which at) = 13
plain_size (system_step asked) = system_size asked

abbrev pub plain_sizes : List Step → ℕ
plain_sizes [] = 0
plain_sizes (s ∷ ss) = plain_size s + plain_sizes ss

-- of core code that holds neither calls by value nor copies of bytes, at most
abbrev mutual
  pub expr_weight : Expr → ℕ
  expr_weight (const word) = 16
  expr_weight (slot x) = 11
  expr_weight (address n) = 10
  expr_weight (procedure f) = 10
  expr_weight (load width at) = expr_weight at + 13
  expr_weight (unary op operand) = expr_weight operand + 14
  expr_weight (binary op left right) = expr_weight left + expr_weight right + 19
  expr_weight (compare op left right) = expr_weight left + expr_weight right + 20
  expr_weight (call f arguments) = exprs_weight arguments + 8 * count arguments + 24
  expr_weight (call_value target arguments marked) = expr_weight target + exprs_weight arguments + 8 * count arguments + 62

  pub exprs_weight : Exprs → ℕ
  exprs_weight none = 0
  exprs_weight (more e es) = expr_weight e + exprs_weight es

abbrev mutual
  pub stmt_weight : Stmt → ℕ
  stmt_weight (eval value) = expr_weight value
  stmt_weight (store width to value) = expr_weight to + expr_weight value + 13
  stmt_weight (copy to from size) = expr_weight to + expr_weight from + expr_weight size + 760
  stmt_weight (zero_bytes to size) = expr_weight to + expr_weight size + 300
  stmt_weight (choose condition first second) = expr_weight condition + stmts_weight first + stmts_weight second + 21
  stmt_weight (repeat body) = stmts_weight body + 14
  stmt_weight (leave depth) = 7
  stmt_weight (answer value) = expr_weight value + 13
  stmt_weight (check condition which place) = expr_weight condition + 13
  stmt_weight (read to size taken) = expr_weight to + expr_weight size + expr_weight taken + 34
  stmt_weight (write descriptor from size) = expr_weight from + expr_weight size + 15
  stmt_weight (exit code) = expr_weight code + 8

  pub stmts_weight : Stmts → ℕ
  stmts_weight finish = 0
  stmts_weight (follow s ss) = stmt_weight s + stmts_weight ss
