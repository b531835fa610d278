-- The frame of a procedure: its size, from the nodes of its body, and where its variables lie.
use Rattle.std.specs.Prelude.{ℕ, ◌+◌, ◌*◌, ◌/◌, ◌^◌, ◌≤◌, List, [], ◌∷◌, length}
use Rattle.odc_typed.specs.declared.tree.Constant.{Constant}
use Rattle.odc_typed.specs.declared.tree.Constant.TheVariants.{Int, Bool as Truth}
use Rattle.odc_typed.specs.declared.tree.BinaryOp.{BinaryOp}
use Rattle.odc_typed.specs.declared.tree.BinaryOp.TheVariants.{Less, Equal}
use Rattle.odc_typed.specs.declared.tree.Builtin.{Builtin}
use Rattle.odc_typed.specs.declared.tree.Builtin.TheVariants.{Println}
use Rattle.odc_typed.specs.Tree.{Expr, const, local, binary, call, builtin, Exprs, none, more, Stmt, eval, declare, assign, choose, repeat, answer, Stmts, finish, follow, Proc}

-- the stack lies below this address, and the frame of `main` ends there
abbrev pub stack_end : ℕ
stack_end = 2 ^ 31

-- a size, rounded up
abbrev pub rounded : ℕ → ℕ
rounded n = (n + 7) / 8 * 8

abbrev pub rounded_16 : ℕ → ℕ
rounded_16 n = (n + 15) / 16 * 16

-- how many bytes a value of the expression has; a call without results has none
abbrev pub builtin_size : Builtin → ℕ
builtin_size Println = 0

abbrev pub operation_size : BinaryOp → ℕ
operation_size Less = 1
operation_size Equal = 1
operation_size op = 8

abbrev pub constant_size : Constant → ℕ
constant_size (Int value) = 8
constant_size (Truth value) = 1

abbrev pub value_size : Expr → ℕ
value_size (const at value) = constant_size value
value_size (local at x) = 8
value_size (binary at op left right) = operation_size op
value_size (call at f arguments) = 8
value_size (builtin at which arguments) = builtin_size which

-- What the nodes add: 128 for each, and twice the rounded size of each that is a value.
abbrev mutual
  pub expr_room : Expr → ℕ
  expr_room (const at value) = 128 + 2 * rounded (constant_size value)
  expr_room (local at x) = 128 + 2 * 8
  expr_room (binary at op left right) = 128 + 2 * rounded (operation_size op) + expr_room left + expr_room right
  expr_room (call at f arguments) = 128 + 2 * 8 + exprs_room arguments
  expr_room (builtin at which arguments) = 128 + 2 * rounded (builtin_size which) + exprs_room arguments

  pub exprs_room : Exprs → ℕ
  exprs_room none = 0
  exprs_room (more e es) = expr_room e + exprs_room es

-- a node that stands as a place is no value
abbrev pub place_room : Expr → ℕ
place_room (local at x) = 128
place_room e = expr_room e

abbrev mutual
  pub stmt_room : Stmt → ℕ
  stmt_room (eval at value) = 128 + expr_room value
  stmt_room (declare at x value) = 128 + expr_room value
  stmt_room (assign at target value) = 128 + place_room target + expr_room value
  stmt_room (choose at condition body) = 128 + expr_room condition + stmts_room body
  stmt_room (repeat at condition body) = 128 + expr_room condition + stmts_room body
  stmt_room (answer at value) = 128 + expr_room value

  pub stmts_room : Stmts → ℕ
  stmts_room finish = 0
  stmts_room (follow s ss) = stmt_room s + stmts_room ss

-- how many variables a procedure has
abbrev pub variables : Proc → ℕ
variables p = length p.parameters + length p.results + length p.locals

-- each variable is a node of eight bytes
abbrev pub frame : Proc → ℕ
frame p = rounded_16 (256 + (128 + 8) * variables p + stmts_room p.body)

-- no frame passes 16 MiB
abbrev pub FramesFit : List Proc → Type 0
FramesFit [] = Unit {0}
FramesFit (p ∷ ps) = (frame p ≤ 2 ^ 24) × FramesFit ps

-- where a variable lies in a frame with this low end: each has eight bytes, and eight more lie between
abbrev pub variable_place : ℕ → ℕ → ℕ
variable_place low x = low + 128 + (8 + 8) * x
