-- Core code as the definitions see it.
use Rattle.std.specs.Prelude.{ℕ, Bool, List}
use Rattle.odc_text.specs.declared.check.Check.{Check}
use Rattle.odc_text.specs.declared.place.Place.{Place}
use Rattle.odc_core.specs.declared.tree.Width.{Width}
use Rattle.odc_core.specs.declared.tree.UnaryOp.{UnaryOp}
use Rattle.odc_core.specs.declared.tree.BinaryOp.{BinaryOp}
use Rattle.odc_core.specs.declared.tree.Comparison.{Comparison}
use Rattle.odc_core.specs.declared.tree.Descriptor.{Descriptor}
use Rattle.odc_core.specs.declared.tree.Variable.{Variable}

mutual
  pub data Expr : Type 0 where
    const : (word : ℕ) → Expr
    slot : (x : ℕ) → Expr
    address : (n : ℕ) → Expr
    procedure : (f : ℕ) → Expr
    load : (width : Width) (at : Expr) → Expr
    unary : (op : UnaryOp) (operand : Expr) → Expr
    binary : (op : BinaryOp) (left right : Expr) → Expr
    compare : (op : Comparison) (left right : Expr) → Expr
    call : (f : ℕ) (arguments : Exprs) → Expr
    call_value : (target : Expr) (arguments : Exprs) (marked : Bool) → Expr

  pub data Exprs : Type 0 where
    none : Exprs
    more : (first : Expr) (rest : Exprs) → Exprs

mutual
  pub data Stmt : Type 0 where
    eval : (value : Expr) → Stmt
    store : (width : Width) (to value : Expr) → Stmt
    copy : (to from size : Expr) → Stmt
    zero_bytes : (to size : Expr) → Stmt
    choose : (condition : Expr) (first second : Stmts) → Stmt
    repeat : (body : Stmts) → Stmt
    leave : (depth : ℕ) → Stmt
    answer : (value : Expr) → Stmt
    check : (condition : Expr) (which : Check) (place : Place) → Stmt
    read : (to size count : Expr) → Stmt
    write : (descriptor : Descriptor) (from size : Expr) → Stmt
    exit : (code : Expr) → Stmt

  pub data Stmts : Type 0 where
    finish : Stmts
    follow : (first : Stmt) (rest : Stmts) → Stmts

pub record Proc : Type 0 where
  pub name : List ℕ
  pub at : Place
  pub parameters : ℕ
  pub variables : List Variable
  pub frame : ℕ
  pub body : Stmts

pub record Whole : Type 0 where
  pub procedures : List Proc
  pub addresses : List ℕ
  pub store : List ℕ
  pub store_size : ℕ
  pub main : ℕ
