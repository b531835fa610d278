-- The clean form of each node, one level deep: children with a model are clean trees already.
-- Written by tools/trees.
use Rattle.std.specs.Prelude.{List, [], ◌∷◌, Option, Some, None}
use Rattle.odc_syntax.specs.declared.tree.Arg.{Arg}
use Rattle.odc_syntax.specs.declared.tree.Field.{Field}
use Rattle.odc_syntax.specs.declared.tree.Enumerator.{Enumerator}
use Rattle.odc_syntax.specs.declared.tree.Signature.{Signature}
use Rattle.odc_syntax.specs.declared.tree.Param.{Param}
use Rattle.odc_syntax.specs.declared.tree.Span.{Span}
use Rattle.odc_syntax.specs.declared.tree.Case.{Case}
use Rattle.odc_syntax.specs.declared.tree.ExprKind.{ExprKind}
use Rattle.odc_syntax.specs.declared.tree.ExprKind.TheVariants as expr_kinds
use Rattle.odc_syntax.specs.declared.tree.TypeKind.{TypeKind}
use Rattle.odc_syntax.specs.declared.tree.TypeKind.TheVariants as type_kinds
use Rattle.odc_syntax.specs.declared.tree.Length.{Length}
use Rattle.odc_syntax.specs.declared.tree.Length.TheVariants as lengths
use Rattle.odc_syntax.specs.declared.tree.Results.{Results}
use Rattle.odc_syntax.specs.declared.tree.Results.TheVariants as resultss
use Rattle.odc_syntax.specs.declared.tree.ParamType.{ParamType}
use Rattle.odc_syntax.specs.declared.tree.ParamType.TheVariants as param_types
use Rattle.odc_syntax.specs.declared.tree.StmtKind.{StmtKind}
use Rattle.odc_syntax.specs.declared.tree.StmtKind.TheVariants as stmt_kinds
use Rattle.odc_syntax.specs.declared.tree.Header.{Header}
use Rattle.odc_syntax.specs.declared.tree.Header.TheVariants as headers
use Rattle.odc_syntax.specs.declared.tree.Else.{Else}
use Rattle.odc_syntax.specs.declared.tree.Else.TheVariants as elses
use Rattle.odc_syntax.specs.declared.tree.SpanEnd.{SpanEnd}
use Rattle.odc_syntax.specs.declared.tree.SpanEnd.TheVariants as span_ends
use Rattle.odc_syntax.specs.declared.tree.DeclKind.{DeclKind}
use Rattle.odc_syntax.specs.declared.tree.DeclKind.TheVariants as decl_kinds
use Rattle.odc_syntax.specs.declared.tree.Initial.{Initial}
use Rattle.odc_syntax.specs.declared.tree.Initial.TheVariants as initials
use Rattle.odc_syntax.specs.Tree as tree

-- a node with a model is its own clean form
abbrev pub expr : tree.Expr → tree.Expr
expr x = x

abbrev pub type : tree.Type_ → tree.Type_
type x = x

abbrev pub stmt : tree.Stmt → tree.Stmt
stmt x = x

abbrev pub decl : tree.Decl → tree.Decl
decl x = x

abbrev pub maybe_expr : Option tree.Expr → tree.MaybeExpr
maybe_expr None = tree.no_expr
maybe_expr (Some x) = tree.some_expr x

abbrev pub maybe_type : Option tree.Type_ → tree.MaybeType
maybe_type None = tree.no_type
maybe_type (Some x) = tree.some_type x

abbrev pub maybe_stmt : Option tree.Stmt → tree.MaybeStmt
maybe_stmt None = tree.no_stmt
maybe_stmt (Some x) = tree.some_stmt x

abbrev pub exprs : List tree.Expr → tree.Exprs
exprs [] = tree.no_exprs
exprs (x ∷ xs) = tree.more_exprs x (exprs xs)

abbrev pub types : List tree.Type_ → tree.Types
types [] = tree.no_types
types (x ∷ xs) = tree.more_types x (types xs)

abbrev pub stmts : List tree.Stmt → tree.Stmts
stmts [] = tree.no_stmts
stmts (x ∷ xs) = tree.more_stmts x (stmts xs)

abbrev pub decls : List tree.Decl → tree.Decls
decls [] = tree.no_decls
decls (x ∷ xs) = tree.more_decls x (decls xs)

abbrev pub length : Length → tree.Length
length lengths.Slice = tree.slice
length lengths.Dynamic = tree.dynamic
length lengths.Counted = tree.counted
length (lengths.Dollar a0) = tree.parametric a0
length (lengths.Fixed a0) = tree.fixed a0

abbrev pub args : List Arg → tree.Args
args [] = tree.no_args
args (x ∷ xs) = tree.more_args x.name x.value (args xs)

abbrev pub fields : List Field → tree.Fields
fields [] = tree.no_fields
fields (x ∷ xs) = tree.more_fields x.names.items x.ty (fields xs)

abbrev pub enumerators : List Enumerator → tree.Enumerators
enumerators [] = tree.no_enumerators
enumerators (x ∷ xs) = tree.more_enumerators x.name (maybe_expr x.value) (enumerators xs)

abbrev pub param_kind : ParamType → tree.ParamType
param_kind (param_types.Type a0) = tree.of_type a0
param_kind param_types.Typeid = tree.typeid
param_kind param_types.Inferred = tree.inferred

abbrev pub param : Param → tree.Param
param x = tree.param x.dollar x.names.items (param_kind x.ty) (maybe_expr x.default)

abbrev pub params : List Param → tree.Params
params [] = tree.no_params
params (x ∷ xs) = tree.more_params (param x) (params xs)

abbrev pub result_kind : Results → tree.Results
result_kind resultss.None = tree.no_results
result_kind (resultss.One a0) = tree.one_result a0
result_kind (resultss.List a0) = tree.list_results (params a0.items)

abbrev pub signature : Signature → tree.Signature
signature x = tree.signature x.at x.convention (params x.params.items) (result_kind x.results)

abbrev pub expr_kind : ExprKind → tree.ExprKind
expr_kind (expr_kinds.Name a0) = tree.name a0
expr_kind (expr_kinds.Int a0) = tree.int a0
expr_kind (expr_kinds.Rune a0) = tree.rune a0
expr_kind (expr_kinds.Text a0) = tree.text a0
expr_kind expr_kinds.Context = tree.context
expr_kind (expr_kinds.Dot a0) = tree.dot a0
expr_kind (expr_kinds.Select a0 a1) = tree.select a0 a1
expr_kind (expr_kinds.Assert a0 a1) = tree.assert a0 a1
expr_kind (expr_kinds.Deref a0) = tree.deref a0
expr_kind (expr_kinds.Index a0 a1) = tree.index a0 a1
expr_kind (expr_kinds.Cut a0 a1 a2) = tree.cut a0 (maybe_expr a1) (maybe_expr a2)
expr_kind (expr_kinds.Call a0 a1) = tree.call a0 (args a1.items)
expr_kind (expr_kinds.OrReturn a0) = tree.or_return a0
expr_kind (expr_kinds.Literal a0 a1) = tree.literal (maybe_expr a0) (args a1.items)
expr_kind (expr_kinds.Unary a0 a1) = tree.unary a0 a1
expr_kind (expr_kinds.Binary a0 a1 a2) = tree.binary a0 a1 a2
expr_kind (expr_kinds.Cast a0 a1) = tree.cast a0 a1
expr_kind expr_kinds.Location = tree.location
expr_kind (expr_kinds.TypeTree a0) = tree.type_tree a0
expr_kind (expr_kinds.ProcLit a0 a1) = tree.proc_lit (signature a0.value) (stmts a1.items)

abbrev pub type_kind : TypeKind → tree.TypeKind
type_kind (type_kinds.Named a0) = tree.named a0
type_kind (type_kinds.Member a0 a1) = tree.member a0 a1
type_kind (type_kinds.Dollar a0) = tree.dollar a0
type_kind (type_kinds.Pointer a0) = tree.pointer a0
type_kind (type_kinds.Distinct a0) = tree.distinct a0
type_kind (type_kinds.Proc a0) = tree.proc (signature a0.value)
type_kind (type_kinds.Array a0 a1) = tree.array (length a0) a1
type_kind (type_kinds.Soa a0 a1) = tree.soa (length a0) a1
type_kind (type_kinds.Struct a0) = tree.struct (fields a0.items)
type_kind (type_kinds.Union a0) = tree.union (types a0.items)
type_kind (type_kinds.Enum a0 a1) = tree.enum (maybe_type a0) (enumerators a1.items)

abbrev pub end_kind : SpanEnd → tree.SpanEnd
end_kind span_ends.Alone = tree.alone
end_kind (span_ends.Through a0) = tree.through a0
end_kind (span_ends.Below a0) = tree.below a0

abbrev pub span_of : Span → tree.Span
span_of x = tree.span x.from (end_kind x.to)

abbrev pub spans : List Span → tree.Spans
spans [] = tree.no_spans
spans (x ∷ xs) = tree.more_spans (span_of x) (spans xs)

abbrev pub cases : List Case → tree.Cases
cases [] = tree.no_cases
cases (x ∷ xs) = tree.more_cases x.at (spans x.items.items) (stmts x.body.items) (cases xs)

abbrev pub header_of : Header → tree.Header
header_of headers.None = tree.no_header
header_of (headers.Decl a0) = tree.decl_header a0
header_of (headers.Simple a0) = tree.simple_header a0

abbrev pub else_of : Else → tree.Else
else_of elses.None = tree.no_else
else_of (elses.If a0) = tree.else_if a0
else_of (elses.Body a0) = tree.else_body (stmts a0.items)

abbrev pub initial_kind : Initial → tree.Initial
initial_kind initials.Zero = tree.zeros
initial_kind initials.Dashes = tree.dashes
initial_kind (initials.Values a0) = tree.values (exprs a0.items)

abbrev pub decl_kind : DeclKind → tree.DeclKind
decl_kind (decl_kinds.Import a0 a1) = tree.import a0 a1
decl_kind (decl_kinds.Constant a0 a1 a2) = tree.constant a0.items (maybe_type a1) (exprs a2.items)
decl_kind (decl_kinds.Variable a0 a1 a2) = tree.variable a0.items (maybe_type a1) (initial_kind a2)

abbrev pub stmt_kind : StmtKind → tree.StmtKind
stmt_kind (stmt_kinds.Declare a0) = tree.declare a0
stmt_kind (stmt_kinds.Assign a0 a1 a2) = tree.assign (exprs a0.items) a1 (exprs a2.items)
stmt_kind (stmt_kinds.Eval a0) = tree.eval (exprs a0.items)
stmt_kind (stmt_kinds.Block a0 a1) = tree.block a0 (stmts a1.items)
stmt_kind (stmt_kinds.If a0 a1 a2 a3) = tree.if_ (header_of a0) a1 (stmts a2.items) (else_of a3)
stmt_kind (stmt_kinds.Loop a0 a1 a2 a3 a4) = tree.loop a0 (header_of a1) (maybe_expr a2) (maybe_stmt a3) (stmts a4.items)
stmt_kind (stmt_kinds.Range a0 a1 a2 a3) = tree.range a0 a1 (span_of a2) (stmts a3.items)
stmt_kind (stmt_kinds.Switch a0 a1 a2 a3 a4) = tree.switch a0 a1 (header_of a2) (maybe_expr a3) (cases a4.items)
stmt_kind (stmt_kinds.TypeSwitch a0 a1 a2 a3 a4) = tree.type_switch a0 a1 a2 a3 (cases a4.items)
stmt_kind (stmt_kinds.Defer a0) = tree.defer a0
stmt_kind (stmt_kinds.Return a0) = tree.return (exprs a0.items)
stmt_kind (stmt_kinds.Break a0) = tree.break a0
stmt_kind (stmt_kinds.Continue a0) = tree.continue a0
stmt_kind stmt_kinds.Fallthrough = tree.fallthrough
