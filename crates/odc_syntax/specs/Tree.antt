-- Trees: what a list of tokens derives. These are the trees of `tree.rt` without the memory that they
-- take.
use Rattle.std.specs.Prelude.{Bool, List, Option}
use Rattle.odc_text.specs.declared.place.Place.{Place}
use Rattle.odc_syntax.specs.declared.token.Token.{Token}
use Rattle.odc_syntax.specs.declared.tree.UnaryOp.{UnaryOp}
use Rattle.odc_syntax.specs.declared.tree.BinaryOp.{BinaryOp}
use Rattle.odc_syntax.specs.declared.tree.AssignOp.{AssignOp}
use Rattle.odc_syntax.specs.declared.tree.RangeNames.{RangeNames}
use Rattle.odc_syntax.specs.declared.tree.SwitchWord.{SwitchWord}

mutual
  -- the place of the first token that it is written with, and the place of its node
  pub data Expr : Type 0 where
    expr : (first at : Place) (kind : ExprKind) → Expr

  pub data ExprKind : Type 0 where
    name : (t : Token) → ExprKind
    int : (t : Token) → ExprKind
    rune : (t : Token) → ExprKind
    text : (t : Token) → ExprKind
    context : ExprKind
    dot : (t : Token) → ExprKind
    select : (e : Expr) (t : Token) → ExprKind
    assert : (e : Expr) (type : Type_) → ExprKind
    deref : (e : Expr) → ExprKind
    index : (e i : Expr) → ExprKind
    cut : (e : Expr) (low high : MaybeExpr) → ExprKind
    call : (e : Expr) (args : Args) → ExprKind
    or_return : (e : Expr) → ExprKind
    literal : (type : MaybeExpr) (args : Args) → ExprKind
    unary : (op : UnaryOp) (e : Expr) → ExprKind
    binary : (op : BinaryOp) (a b : Expr) → ExprKind
    cast : (type : Type_) (e : Expr) → ExprKind
    location : ExprKind
    type_tree : (type : Type_) → ExprKind
    proc_lit : (s : Signature) (body : Stmts) → ExprKind

  pub data MaybeExpr : Type 0 where
    no_expr : MaybeExpr
    some_expr : (e : Expr) → MaybeExpr

  pub data Exprs : Type 0 where
    no_exprs : Exprs
    more_exprs : (e : Expr) (rest : Exprs) → Exprs

  pub data Args : Type 0 where
    no_args : Args
    more_args : (name : Option Token) (value : Expr) (rest : Args) → Args

  -- the place of its first token
  pub data Type_ : Type 0 where
    type : (at : Place) (kind : TypeKind) → Type_

  pub data TypeKind : Type 0 where
    named : (t : Token) → TypeKind
    member : (t u : Token) → TypeKind
    dollar : (t : Token) → TypeKind
    pointer : (type : Type_) → TypeKind
    distinct : (type : Type_) → TypeKind
    proc : (s : Signature) → TypeKind
    array : (length : Length) (type : Type_) → TypeKind
    soa : (length : Length) (type : Type_) → TypeKind
    struct : (fields : Fields) → TypeKind
    union : (types : Types) → TypeKind
    enum : (type : MaybeType) (list : Enumerators) → TypeKind

  pub data MaybeType : Type 0 where
    no_type : MaybeType
    some_type : (type : Type_) → MaybeType

  pub data Types : Type 0 where
    no_types : Types
    more_types : (type : Type_) (rest : Types) → Types

  pub data Length : Type 0 where
    slice : Length
    dynamic : Length
    counted : Length
    parametric : (t : Token) → Length
    fixed : (e : Expr) → Length

  pub data Fields : Type 0 where
    no_fields : Fields
    more_fields : (names : List Token) (type : Type_) (rest : Fields) → Fields

  pub data Enumerators : Type 0 where
    no_enumerators : Enumerators
    more_enumerators : (name : Token) (value : MaybeExpr) (rest : Enumerators) → Enumerators

  -- the place of the word `proc`
  pub data Signature : Type 0 where
    signature : (at : Place) (convention : Option Token) (params : Params) (results : Results) → Signature

  pub data Results : Type 0 where
    no_results : Results
    one_result : (type : Type_) → Results
    list_results : (params : Params) → Results

  pub data Params : Type 0 where
    no_params : Params
    more_params : (p : Param) (rest : Params) → Params

  pub data Param : Type 0 where
    param : (dollar : Bool) (names : List Token) (type : ParamType) (default : MaybeExpr) → Param

  pub data ParamType : Type 0 where
    of_type : (type : Type_) → ParamType
    typeid : ParamType
    inferred : ParamType

  -- the place of an assignment is that of its operator, of another statement that of its first token
  pub data Stmt : Type 0 where
    stmt : (at : Place) (kind : StmtKind) → Stmt

  pub data StmtKind : Type 0 where
    declare : (d : Decl) → StmtKind
    assign : (places : Exprs) (op : AssignOp) (values : Exprs) → StmtKind
    eval : (es : Exprs) → StmtKind
    block : (label : Option Token) (body : Stmts) → StmtKind
    if_ : (header : Header) (condition : Expr) (body : Stmts) (else_ : Else) → StmtKind
    loop : (label : Option Token) (header : Header) (condition : MaybeExpr) (step : MaybeStmt) (body : Stmts) → StmtKind
    range : (label : Option Token) (names : RangeNames) (over : Span) (body : Stmts) → StmtKind
    switch : (label : Option Token) (word : SwitchWord) (header : Header) (value : MaybeExpr) (cases : Cases) → StmtKind
    type_switch : (label : Option Token) (word : SwitchWord) (name : Token) (value : Expr) (cases : Cases) → StmtKind
    defer : (s : Stmt) → StmtKind
    return : (values : Exprs) → StmtKind
    break : (label : Option Token) → StmtKind
    continue : (label : Option Token) → StmtKind
    fallthrough : StmtKind

  pub data MaybeStmt : Type 0 where
    no_stmt : MaybeStmt
    some_stmt : (s : Stmt) → MaybeStmt

  pub data Stmts : Type 0 where
    no_stmts : Stmts
    more_stmts : (s : Stmt) (rest : Stmts) → Stmts

  pub data Header : Type 0 where
    no_header : Header
    decl_header : (d : Decl) → Header
    simple_header : (s : Stmt) → Header

  pub data Else : Type 0 where
    no_else : Else
    else_if : (s : Stmt) → Else
    else_body : (body : Stmts) → Else

  pub data Span : Type 0 where
    span : (from : Expr) (to : SpanEnd) → Span

  pub data SpanEnd : Type 0 where
    alone : SpanEnd
    through : (e : Expr) → SpanEnd
    below : (e : Expr) → SpanEnd

  pub data Spans : Type 0 where
    no_spans : Spans
    more_spans : (s : Span) (rest : Spans) → Spans

  -- the place of the word `case`
  pub data Cases : Type 0 where
    no_cases : Cases
    more_cases : (at : Place) (items : Spans) (body : Stmts) (rest : Cases) → Cases

  -- the place of its first token
  pub data Decl : Type 0 where
    decl : (at : Place) (kind : DeclKind) → Decl

  pub data DeclKind : Type 0 where
    import : (name : Option Token) (path : Token) → DeclKind
    constant : (names : List Token) (type : MaybeType) (values : Exprs) → DeclKind
    variable : (names : List Token) (type : MaybeType) (value : Initial) → DeclKind

  pub data Initial : Type 0 where
    zeros : Initial
    dashes : Initial
    values : (es : Exprs) → Initial

pub data Decls : Type 0 where
  no_decls : Decls
  more_decls : (d : Decl) (rest : Decls) → Decls

-- the place of the first token that an expression, or the first of several, is written with
abbrev pub first_of : Expr → Place
first_of (expr first at kind) = first
