-- What the definitions see of a Rust tree.
use Rattle.std.specs.Prelude.{List, [], ◌∷◌, map, string_bytes}
use Rattle.odc_text.specs.declared.place.Place.{Place}
use Rattle.odc_typed.specs.declared.tree.TExpr.{TExpr}
use Rattle.odc_typed.specs.declared.tree.ExprKind.{ExprKind, Row_of-TExpr, end_of-TExpr, more_of-TExpr}
use Rattle.odc_typed.specs.declared.tree.ExprKind.TheVariants.{Const, Local, Binary', Call', Builtin'}
use Rattle.odc_typed.specs.declared.tree.TStmt.{TStmt}
use Rattle.odc_typed.specs.declared.tree.StmtKind.{StmtKind, Row_of-TStmt, end_of-TStmt, more_of-TStmt}
use Rattle.odc_typed.specs.declared.tree.StmtKind.TheVariants.{Eval, Declare, Assign, If', Loop', Return}
use Rattle.odc_typed.specs.declared.tree.Procedure.{Procedure}
use Rattle.odc_typed.specs.declared.tree.Program.{Program}
use Rattle.odc_typed.specs.Tree.{Expr, const, local, binary, call, builtin, Exprs, none, more, Stmt, eval, declare, assign, choose, repeat, answer, Stmts, finish, follow, Proc, Whole}

abbrev mutual
  pub expr_kind : ExprKind → Place → Expr
  expr_kind (Const value) at = const at value
  expr_kind (Local x) at = local at x
  expr_kind (Binary' op p at' k q at'' l) at = binary at op (expr_kind k at') (expr_kind l at'')
  expr_kind (Call' f s r) at = call at f (row r)
  expr_kind (Builtin' which s r) at = builtin at which (row r)

  pub row : {m : _} → Row_of-TExpr m → Exprs
  row end_of-TExpr = none
  row (more_of-TExpr at k r) = more (expr_kind k at) (row r)

abbrev pub expr : TExpr → Expr
expr e = expr_kind e.kind e.at

abbrev pub exprs : List TExpr → Exprs
exprs [] = none
exprs (e ∷ es) = more (expr e) (exprs es)

abbrev mutual
  pub stmt_kind : StmtKind → Place → Stmt
  stmt_kind (Eval value) at = eval at (expr value)
  stmt_kind (Declare x value) at = declare at x (expr value)
  stmt_kind (Assign target value) at = assign at (expr target) (expr value)
  stmt_kind (If' condition s r) at = choose at (expr condition) (list r)
  stmt_kind (Loop' condition s r) at = repeat at (expr condition) (list r)
  stmt_kind (Return value) at = answer at (expr value)

  pub list : {m : _} → Row_of-TStmt m → Stmts
  list end_of-TStmt = finish
  list (more_of-TStmt at k r) = follow (stmt_kind k at) (list r)

abbrev pub stmt : TStmt → Stmt
stmt s = stmt_kind s.kind s.at

abbrev pub stmts : List TStmt → Stmts
stmts [] = finish
stmts (s ∷ ss) = follow (stmt s) (stmts ss)

abbrev pub proc : Procedure → Proc
proc p = record {
  name = string_bytes p.name;
  at = p.at;
  parameters = p.parameters.items;
  results = p.results.items;
  locals = p.locals.items;
  body = stmts p.body.items;
}

abbrev pub program : Program → Whole
program p = record { procedures = map proc p.procedures.items; main = p.main }
