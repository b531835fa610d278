-- The typed tree as the definitions see it.
use Rattle.std.specs.Prelude.{ℕ, List}
use Rattle.odc_text.specs.declared.place.Place.{Place}
use Rattle.odc_typed.specs.declared.tree.Constant.{Constant}
use Rattle.odc_typed.specs.declared.tree.BinaryOp.{BinaryOp}
use Rattle.odc_typed.specs.declared.tree.Builtin.{Builtin}
use Rattle.odc_typed.specs.declared.tree.Local.{Local}

mutual
  pub data Expr : Type 0 where
    const : (at : Place) (value : Constant) → Expr
    local : (at : Place) (x : ℕ) → Expr
    binary : (at : Place) (op : BinaryOp) (left right : Expr) → Expr
    call : (at : Place) (f : ℕ) (arguments : Exprs) → Expr
    builtin : (at : Place) (which : Builtin) (arguments : Exprs) → Expr

  pub data Exprs : Type 0 where
    none : Exprs
    more : (first : Expr) (rest : Exprs) → Exprs

mutual
  pub data Stmt : Type 0 where
    eval : (at : Place) (value : Expr) → Stmt
    declare : (at : Place) (x : ℕ) (value : Expr) → Stmt
    assign : (at : Place) (target value : Expr) → Stmt
    choose : (at : Place) (condition : Expr) (body : Stmts) → Stmt
    repeat : (at : Place) (condition : Expr) (body : Stmts) → Stmt
    answer : (at : Place) (value : Expr) → Stmt

  pub data Stmts : Type 0 where
    finish : Stmts
    follow : (first : Stmt) (rest : Stmts) → Stmts

pub record Proc : Type 0 where
  pub name : List ℕ
  pub at : Place
  pub parameters : List Local
  pub results : List Local
  pub locals : List Local
  pub body : Stmts

pub record Whole : Type 0 where
  pub procedures : List Proc
  pub main : ℕ
