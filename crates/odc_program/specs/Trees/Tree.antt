-- The clean typed tree: what a program is.
use Rattle.std.specs.Prelude.{ℕ, Bool, List, [], ◌∷◌, get_or, Option}
use Rattle.odc_text.specs.declared.place.Place.{Place}
use Rattle.odc_program.specs.declared.ops.Constant.{Constant}
use Rattle.odc_program.specs.declared.ops.UnaryOp.{UnaryOp}
use Rattle.odc_program.specs.declared.ops.BinaryOp.{BinaryOp}
use Rattle.odc_program.specs.declared.ops.Builtin.{Builtin}
use Rattle.odc_program.specs.declared.ops.Taken.{Taken}

mutual
  pub data Expr : Type 0 where
    expr : (ty : ℕ) (at : Place) (kind : Kind) → Expr

  pub data Kind : Type 0 where
    const : (value : Constant) → Kind
    local : (x : ℕ) → Kind
    global_ : (g : ℕ) → Kind
    proc_value : (need : ℕ) → Kind
    context : Kind
    field : (base : Expr) (n : ℕ) → Kind
    deref : (base : Expr) → Kind
    index : (base : Expr) (place : Expr) → Kind
    cut : (base : Expr) (low : Maybe) (high : Maybe) → Kind
    column : (base : Expr) (n : ℕ) → Kind
    -- arguments in the order in which they are evaluated; where that is another than the order of the parameters, `order`
    -- has for each parameter which of them it takes, from 0 on
    call : (need : ℕ) (order : List ℕ) (arguments : Exprs) → Kind
    call_value : (marked : Bool) (callee : Expr) (arguments : Exprs) → Kind
    builtin : (which : Builtin) (order : List ℕ) (arguments : Exprs) → Kind
    or_return : (inner : Expr) (variant : Option ℕ) → Kind
    build : (home : Option ℕ) (parts : Parts) → Kind
    unary : (op : UnaryOp) (inner : Expr) → Kind
    binary : (op : BinaryOp) (left : Expr) (right : Expr) → Kind
    convert : (inner : Expr) → Kind
    inject : (variant : ℕ) (inner : Expr) → Kind
    assert_ : (variant : ℕ) (inner : Expr) → Kind
    test_ : (variant : ℕ) (inner : Expr) → Kind
    address_ : (inner : Expr) → Kind
    location : Kind
    help : (h : ℕ) (arguments : Exprs) → Kind

  pub data Exprs : Type 0 where
    none : Exprs
    more : (first : Expr) (rest : Exprs) → Exprs

  pub data Maybe : Type 0 where
    absent : Maybe
    present : (e : Expr) → Maybe

  -- parts of a built value: each at an offset
  pub data Parts : Type 0 where
    no_parts : Parts
    part : (offset : ℕ) (e : Expr) (rest : Parts) → Parts

-- left sides; `_` has no expression
pub data Lefts : Type 0 where
  no_lefts : Lefts
  left_ : (e : Expr) (rest : Lefts) → Lefts
  dropped : (rest : Lefts) → Lefts

-- right sides: one for each, or one of several parts
pub data Rights : Type 0 where
  nothing : Rights
  each : (es : Exprs) → Rights
  parted : (parts : List Taken) (e : Expr) → Rights

pub data Items : Type 0 where
  no_items : Items
  item : (e : Expr) (rest : Items) → Items
  span : (low : Expr) (high : Expr) (closed : Bool) (rest : Items) → Items

pub data Over : Type 0 where
  from_to : (low : Expr) (high : Expr) (closed : Bool) → Over
  through : (container : Expr) (by_place : Bool) → Over

mutual
  pub data Stmt : Type 0 where
    stmt : (at : Place) (kind : Form) → Stmt

  pub data Form : Type 0 where
    declare : (xs : List (Option ℕ)) (values : Rights) → Form
    assign : (lefts : Lefts) (values : Rights) → Form
    change : (op : BinaryOp) (target : Expr) (value : Expr) → Form
    eval : (e : Expr) → Form
    block : (label : ℕ) (body : Stmts) → Form
    if_ : (init : MaybeStmt) (condition : Expr) (body : Stmts) (other : Stmts) → Form
    loop : (label : ℕ) (init : MaybeStmt) (condition : Maybe) (post : MaybeStmt) (body : Stmts) → Form
    range : (label : ℕ) (over : Over) (x : Option ℕ) (k : Option ℕ) (body : Stmts) → Form
    switch : (label : ℕ) (init : MaybeStmt) (subject : Maybe) (cases : Cases) → Form
    type_switch : (label : ℕ) (subject : Expr) (cases : TypeCases) → Form
    defer : (s : Stmt) → Form
    return : (values : Rights) → Form
    break_ : (label : ℕ) → Form
    continue_ : (label : ℕ) → Form
    fallthrough : Form
    -- in helpers alone: at most so many turns, none of which counts as one
    counted : (bound : ℕ) (label : ℕ) (condition : Expr) (body : Stmts) → Form

  pub data MaybeStmt : Type 0 where
    no_stmt : MaybeStmt
    some_stmt : (s : Stmt) → MaybeStmt

  pub data Stmts : Type 0 where
    finish : Stmts
    follow : (first : Stmt) (rest : Stmts) → Stmts

  pub data Cases : Type 0 where
    no_cases : Cases
    one_case : (items : Items) (body : Stmts) (rest : Cases) → Cases
    default_case : (body : Stmts) (rest : Cases) → Cases

  pub data TypeCases : Type 0 where
    no_types : TypeCases
    type_case : (variants : List ℕ) (x : Option ℕ) (body : Stmts) (rest : TypeCases) → TypeCases
    default_type : (x : Option ℕ) (body : Stmts) (rest : TypeCases) → TypeCases

-- ---- what stands round a node
abbrev pub ty : Expr → ℕ
ty (expr t at k) = t

abbrev pub at_of : Expr → Place
at_of (expr t at k) = at

abbrev pub tys : Exprs → List ℕ
tys none = []
tys (more e es) = ty e ∷ tys es

-- what the parameters take, from what the arguments give
abbrev pub picked : {A : Type 0} → A → List A → List ℕ → List A
picked a xs [] = []
picked a xs (i ∷ is) = get_or xs i a ∷ picked a xs is

abbrev pub in_order : {A : Type 0} → A → List ℕ → List A → List A
in_order a [] xs = xs
in_order a (i ∷ is) xs = picked a xs (i ∷ is)
