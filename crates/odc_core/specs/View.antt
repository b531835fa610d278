-- What the definitions see of a Rust tree.
use Rattle.std.specs.Prelude.{List, [], ◌∷◌, map, string_bytes}
use Rattle.odc_core.specs.declared.tree.CoreExpr.{CoreExpr, Row_of-CoreExpr, end_of-CoreExpr, more_of-CoreExpr}
use Rattle.odc_core.specs.declared.tree.CoreExpr.TheVariants.{Const, Slot, Address, Procedure, Load', Unary', Binary', Compare', Call', CallValue'}
use Rattle.odc_core.specs.declared.tree.CoreStmt.{CoreStmt, Row_of-CoreStmt, end_of-CoreStmt, more_of-CoreStmt}
use Rattle.odc_core.specs.declared.tree.CoreStmt.TheVariants.{Eval, Store, Copy, Zero, If', Loop', Leave, Return, Check, Read, Write, Exit}
use Rattle.odc_core.specs.declared.tree.CoreProcedure.{CoreProcedure}
use Rattle.odc_core.specs.declared.tree.CoreProgram.{CoreProgram}
use Rattle.odc_core.specs.Tree.{Expr, const, slot, address, procedure, load, unary, binary, compare, call, call_value, Exprs, none, more, Stmt, eval, store, copy, zero_bytes, choose, repeat, leave, answer, check, read, write, exit, Stmts, finish, follow, Proc, Whole}

abbrev mutual
  pub expr : CoreExpr → Expr
  expr (Const word) = const word
  expr (Slot x) = slot x
  expr (Address n) = address n
  expr (Procedure f) = procedure f
  expr (Load' width p at) = load width (expr at)
  expr (Unary' op p operand) = unary op (expr operand)
  expr (Binary' op p left q right) = binary op (expr left) (expr right)
  expr (Compare' op p left q right) = compare op (expr left) (expr right)
  expr (Call' f s r) = call f (row r)
  expr (CallValue' p target s r marked) = call_value (expr target) (row r) marked

  pub row : {m : _} → Row_of-CoreExpr m → Exprs
  row end_of-CoreExpr = none
  row (more_of-CoreExpr e r) = more (expr e) (row r)

abbrev pub exprs : List CoreExpr → Exprs
exprs [] = none
exprs (e ∷ es) = more (expr e) (exprs es)

abbrev mutual
  pub stmt : CoreStmt → Stmt
  stmt (Eval value) = eval (expr value)
  stmt (Store width to value) = store width (expr to) (expr value)
  stmt (Copy to from size) = copy (expr to) (expr from) (expr size)
  stmt (Zero to size) = zero_bytes (expr to) (expr size)
  stmt (If' condition s r t q) = choose (expr condition) (list r) (list q)
  stmt (Loop' s r) = repeat (list r)
  stmt (Leave depth) = leave depth
  stmt (Return value) = answer (expr value)
  stmt (Check condition which place) = check (expr condition) which place
  stmt (Read to size count) = read (expr to) (expr size) (expr count)
  stmt (Write descriptor from size) = write descriptor (expr from) (expr size)
  stmt (Exit code) = exit (expr code)

  pub list : {m : _} → Row_of-CoreStmt m → Stmts
  list end_of-CoreStmt = finish
  list (more_of-CoreStmt s r) = follow (stmt s) (list r)

abbrev pub stmts : List CoreStmt → Stmts
stmts [] = finish
stmts (s ∷ ss) = follow (stmt s) (stmts ss)

abbrev pub proc : CoreProcedure → Proc
proc p = record {
  name = string_bytes p.name;
  at = p.at;
  parameters = p.parameters;
  variables = p.variables.items;
  frame = p.frame;
  body = stmts p.body.items;
}

abbrev pub program : CoreProgram → Whole
program p = record {
  procedures = map proc p.procedures.items;
  addresses = p.addresses.items;
  store = p.store.items;
  store_size = p.store_size;
  main = p.main;
}
