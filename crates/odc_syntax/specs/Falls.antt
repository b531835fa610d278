-- Each child is smaller than its parent.
-- Written by tools/trees.
use Rattle.std.specs.declared.alloc.Global.{Global}
use Rattle.odc_syntax.specs.declared.token.Token.{Token}
use Rattle.std.specs.Prelude.{◌≤◌, ◌+◌, Bool, List, [], ◌∷◌, Option, Some, None, Vec}
use Rattle.std.proofs.Common.{arith}
use denote.Param.Weighed.{most}
use Rattle.odc_syntax.specs.declared.tree.Arg.{Arg}
use Rattle.odc_syntax.specs.declared.tree.Field.{Field}
use Rattle.odc_syntax.specs.declared.tree.Enumerator.{Enumerator}
use Rattle.odc_syntax.specs.declared.tree.Signature.{Signature}
use Rattle.odc_syntax.specs.declared.tree.Param.{Param}
use Rattle.odc_syntax.specs.declared.tree.Span.{Span}
use Rattle.odc_syntax.specs.declared.tree.Case.{Case}
use Rattle.odc_syntax.specs.declared.tree.ExprKind.{ExprKind}
use Rattle.odc_syntax.specs.declared.tree.ExprKind.TheVariants as expr_kinds
use Rattle.odc_syntax.specs.declared.tree.TypeKind.{TypeKind}
use Rattle.odc_syntax.specs.declared.tree.TypeKind.TheVariants as type_kinds
use Rattle.odc_syntax.specs.declared.tree.Length.{Length}
use Rattle.odc_syntax.specs.declared.tree.Length.TheVariants as lengths
use Rattle.odc_syntax.specs.declared.tree.Results.{Results}
use Rattle.odc_syntax.specs.declared.tree.Results.TheVariants as resultss
use Rattle.odc_syntax.specs.declared.tree.ParamType.{ParamType}
use Rattle.odc_syntax.specs.declared.tree.ParamType.TheVariants as param_types
use Rattle.odc_syntax.specs.declared.tree.StmtKind.{StmtKind}
use Rattle.odc_syntax.specs.declared.tree.StmtKind.TheVariants as stmt_kinds
use Rattle.odc_syntax.specs.declared.tree.Header.{Header}
use Rattle.odc_syntax.specs.declared.tree.Header.TheVariants as headers
use Rattle.odc_syntax.specs.declared.tree.Else.{Else}
use Rattle.odc_syntax.specs.declared.tree.Else.TheVariants as elses
use Rattle.odc_syntax.specs.declared.tree.SpanEnd.{SpanEnd}
use Rattle.odc_syntax.specs.declared.tree.SpanEnd.TheVariants as span_ends
use Rattle.odc_syntax.specs.declared.tree.DeclKind.{DeclKind}
use Rattle.odc_syntax.specs.declared.tree.DeclKind.TheVariants as decl_kinds
use Rattle.odc_syntax.specs.declared.tree.Initial.{Initial}
use Rattle.odc_syntax.specs.declared.tree.Initial.TheVariants as initials
use Rattle.odc_syntax.specs.Tree as tree
use Rattle.odc_syntax.specs.declared.tree.Decl.TheDeep.{deep-ExprKind, deep-TypeKind, deep-Length, deep-Results, deep-ParamType, deep-StmtKind, deep-Header, deep-Else, deep-SpanEnd, deep-DeclKind, deep-Initial, deep-Arg, deep-Field, deep-Enumerator, deep-Signature, deep-Param, deep-Span, deep-Case}
use Rattle.odc_syntax.specs.Sizes.{expr_size, expr_kind_size, maybe_expr_size, exprs_size, args_size, type_size, type_kind_size, types_size, length_size, fields_size, enumerators_size, signature_size, results_size, params_size, param_size, param_type_size, stmt_size, stmt_kind_size, stmts_size, header_size, else_size, span_size, span_end_size, spans_size, cases_size, decl_kind_size, initial_size}
use Rattle.odc_syntax.specs.View.{maybe_expr, exprs, types, stmts, args, fields, enumerators, params, spans, cases, length, param_kind, param, result_kind, signature, expr_kind, type_kind, end_kind, span_of, header_of, else_of, initial_kind, decl_kind, stmt_kind}

exprs_fall : (xs : List tree.Expr) → most (λ y. expr_size y + 1) xs ≤ exprs_size (exprs xs) + 1
exprs_fall [] = omega arith
exprs_fall (x ∷ xs) = omega (arith, exprs_fall xs)

types_fall : (xs : List tree.Type_) → most (λ y. type_size y + 1) xs ≤ types_size (types xs) + 1
types_fall [] = omega arith
types_fall (x ∷ xs) = omega (arith, types_fall xs)

stmts_fall : (xs : List tree.Stmt) → most (λ y. stmt_size y + 1) xs ≤ stmts_size (stmts xs) + 1
stmts_fall [] = omega arith
stmts_fall (x ∷ xs) = omega (arith, stmts_fall xs)

length_falls : (k : Length) → deep-Length k ≤ length_size (length k) + 1
length_falls lengths.Slice = omega arith
length_falls lengths.Dynamic = omega arith
length_falls lengths.Counted = omega arith
length_falls (lengths.Dollar a0) = omega arith
length_falls (lengths.Fixed a0) = omega arith

args_fall : (xs : List Arg) → most deep-Arg xs ≤ args_size (args xs) + 1
args_fall [] = omega arith
args_fall (x ∷ xs) = omega (arith, args_fall xs)

fields_fall : (xs : List Field) → most deep-Field xs ≤ fields_size (fields xs) + 1
fields_fall [] = omega arith
fields_fall (x ∷ xs) = omega (arith, fields_fall xs)

enumerator_fields_fall : (name : Token) (value : Option tree.Expr) →
    deep-Enumerator record { name = name; value = value } ≤ maybe_expr_size (maybe_expr value) + 1
enumerator_fields_fall name None = omega arith
enumerator_fields_fall name (Some given) = omega arith

enumerators_fall : (xs : List Enumerator) → most deep-Enumerator xs ≤ enumerators_size (enumerators xs) + 1
enumerators_fall [] = omega arith
enumerators_fall (x ∷ xs) = omega (arith, enumerator_fields_fall x.name x.value, enumerators_fall xs)

param_kind_falls : (k : ParamType) → deep-ParamType k ≤ param_type_size (param_kind k) + 1
param_kind_falls (param_types.Type a0) = omega arith
param_kind_falls param_types.Typeid = omega arith
param_kind_falls param_types.Inferred = omega arith

param_fields_fall : (dollar : Bool) (names : Vec Token Global) (ty : ParamType) (default : Option tree.Expr) →
    deep-Param record { dollar = dollar; names = names; ty = ty; default = default } ≤ param_type_size (param_kind ty) + maybe_expr_size (maybe_expr default) + 1
param_fields_fall dollar names ty None = omega (arith, param_kind_falls ty)
param_fields_fall dollar names ty (Some given) = omega (arith, param_kind_falls ty)

param_falls : (x : Param) → deep-Param x ≤ param_size (param x) + 1
param_falls x = omega (arith, param_fields_fall x.dollar x.names x.ty x.default)

params_fall : (xs : List Param) → most deep-Param xs ≤ params_size (params xs) + 1
params_fall [] = omega arith
params_fall (x ∷ xs) = omega (arith, param_falls x, params_fall xs)

result_kind_falls : (k : Results) → deep-Results k ≤ results_size (result_kind k) + 1
result_kind_falls resultss.None = omega arith
result_kind_falls (resultss.One a0) = omega arith
result_kind_falls (resultss.List a0) = omega (arith, params_fall a0.items)

signature_falls : (x : Signature) → deep-Signature x ≤ signature_size (signature x) + 1
signature_falls x = omega (arith, params_fall x.params.items, result_kind_falls x.results)

pub expr_kind_falls : (k : ExprKind) → deep-ExprKind k ≤ expr_kind_size (expr_kind k) + 1
expr_kind_falls (expr_kinds.Name a0) = omega arith
expr_kind_falls (expr_kinds.Int a0) = omega arith
expr_kind_falls (expr_kinds.Rune a0) = omega arith
expr_kind_falls (expr_kinds.Text a0) = omega arith
expr_kind_falls expr_kinds.Context = omega arith
expr_kind_falls (expr_kinds.Dot a0) = omega arith
expr_kind_falls (expr_kinds.Select a0 a1) = omega arith
expr_kind_falls (expr_kinds.Assert a0 a1) = omega arith
expr_kind_falls (expr_kinds.Deref a0) = omega arith
expr_kind_falls (expr_kinds.Index a0 a1) = omega arith
expr_kind_falls (expr_kinds.Cut a0 None None) = omega arith
expr_kind_falls (expr_kinds.Cut a0 None (Some a2)) = omega arith
expr_kind_falls (expr_kinds.Cut a0 (Some a1) None) = omega arith
expr_kind_falls (expr_kinds.Cut a0 (Some a1) (Some a2)) = omega arith
expr_kind_falls (expr_kinds.Call a0 a1) = omega (arith, args_fall a1.items)
expr_kind_falls (expr_kinds.OrReturn a0) = omega arith
expr_kind_falls (expr_kinds.Literal None a1) = omega (arith, args_fall a1.items)
expr_kind_falls (expr_kinds.Literal (Some a0) a1) = omega (arith, args_fall a1.items)
expr_kind_falls (expr_kinds.Unary a0 a1) = omega arith
expr_kind_falls (expr_kinds.Binary a0 a1 a2) = omega arith
expr_kind_falls (expr_kinds.Cast a0 a1) = omega arith
expr_kind_falls expr_kinds.Location = omega arith
expr_kind_falls (expr_kinds.TypeTree a0) = omega arith
expr_kind_falls (expr_kinds.ProcLit a0 a1) = omega (arith, signature_falls a0.value, stmts_fall a1.items)

pub type_kind_falls : (k : TypeKind) → deep-TypeKind k ≤ type_kind_size (type_kind k) + 1
type_kind_falls (type_kinds.Named a0) = omega arith
type_kind_falls (type_kinds.Member a0 a1) = omega arith
type_kind_falls (type_kinds.Dollar a0) = omega arith
type_kind_falls (type_kinds.Pointer a0) = omega arith
type_kind_falls (type_kinds.Distinct a0) = omega arith
type_kind_falls (type_kinds.Proc a0) = omega (arith, signature_falls a0.value)
type_kind_falls (type_kinds.Array a0 a1) = omega (arith, length_falls a0)
type_kind_falls (type_kinds.Soa a0 a1) = omega (arith, length_falls a0)
type_kind_falls (type_kinds.Struct a0) = omega (arith, fields_fall a0.items)
type_kind_falls (type_kinds.Union a0) = omega (arith, types_fall a0.items)
type_kind_falls (type_kinds.Enum None a1) = omega (arith, enumerators_fall a1.items)
type_kind_falls (type_kinds.Enum (Some a0) a1) = omega (arith, enumerators_fall a1.items)

end_kind_falls : (k : SpanEnd) → deep-SpanEnd k ≤ span_end_size (end_kind k) + 1
end_kind_falls span_ends.Alone = omega arith
end_kind_falls (span_ends.Through a0) = omega arith
end_kind_falls (span_ends.Below a0) = omega arith

span_of_falls : (x : Span) → deep-Span x ≤ span_size (span_of x) + 1
span_of_falls x = omega (arith, end_kind_falls x.to)

spans_fall : (xs : List Span) → most deep-Span xs ≤ spans_size (spans xs) + 1
spans_fall [] = omega arith
spans_fall (x ∷ xs) = omega (arith, span_of_falls x, spans_fall xs)

cases_fall : (xs : List Case) → most deep-Case xs ≤ cases_size (cases xs) + 1
cases_fall [] = omega arith
cases_fall (x ∷ xs) = omega (arith, spans_fall x.items.items, stmts_fall x.body.items, cases_fall xs)

header_of_falls : (k : Header) → deep-Header k ≤ header_size (header_of k) + 1
header_of_falls headers.None = omega arith
header_of_falls (headers.Decl a0) = omega arith
header_of_falls (headers.Simple a0) = omega arith

else_of_falls : (k : Else) → deep-Else k ≤ else_size (else_of k) + 1
else_of_falls elses.None = omega arith
else_of_falls (elses.If a0) = omega arith
else_of_falls (elses.Body a0) = omega (arith, stmts_fall a0.items)

initial_kind_falls : (k : Initial) → deep-Initial k ≤ initial_size (initial_kind k) + 1
initial_kind_falls initials.Zero = omega arith
initial_kind_falls initials.Dashes = omega arith
initial_kind_falls (initials.Values a0) = omega (arith, exprs_fall a0.items)

pub decl_kind_falls : (k : DeclKind) → deep-DeclKind k ≤ decl_kind_size (decl_kind k) + 1
decl_kind_falls (decl_kinds.Import a0 a1) = omega arith
decl_kind_falls (decl_kinds.Constant a0 None a2) = omega (arith, exprs_fall a2.items)
decl_kind_falls (decl_kinds.Constant a0 (Some a1) a2) = omega (arith, exprs_fall a2.items)
decl_kind_falls (decl_kinds.Variable a0 None a2) = omega (arith, initial_kind_falls a2)
decl_kind_falls (decl_kinds.Variable a0 (Some a1) a2) = omega (arith, initial_kind_falls a2)

pub stmt_kind_falls : (k : StmtKind) → deep-StmtKind k ≤ stmt_kind_size (stmt_kind k) + 1
stmt_kind_falls (stmt_kinds.Declare a0) = omega arith
stmt_kind_falls (stmt_kinds.Assign a0 a1 a2) = omega (arith, exprs_fall a0.items, exprs_fall a2.items)
stmt_kind_falls (stmt_kinds.Eval a0) = omega (arith, exprs_fall a0.items)
stmt_kind_falls (stmt_kinds.Block a0 a1) = omega (arith, stmts_fall a1.items)
stmt_kind_falls (stmt_kinds.If a0 a1 a2 a3) = omega (arith, header_of_falls a0, stmts_fall a2.items, else_of_falls a3)
stmt_kind_falls (stmt_kinds.Loop a0 a1 None None a4) = omega (arith, header_of_falls a1, stmts_fall a4.items)
stmt_kind_falls (stmt_kinds.Loop a0 a1 None (Some a3) a4) = omega (arith, header_of_falls a1, stmts_fall a4.items)
stmt_kind_falls (stmt_kinds.Loop a0 a1 (Some a2) None a4) = omega (arith, header_of_falls a1, stmts_fall a4.items)
stmt_kind_falls (stmt_kinds.Loop a0 a1 (Some a2) (Some a3) a4) = omega (arith, header_of_falls a1, stmts_fall a4.items)
stmt_kind_falls (stmt_kinds.Range a0 a1 a2 a3) = omega (arith, span_of_falls a2, stmts_fall a3.items)
stmt_kind_falls (stmt_kinds.Switch a0 a1 a2 None a4) = omega (arith, header_of_falls a2, cases_fall a4.items)
stmt_kind_falls (stmt_kinds.Switch a0 a1 a2 (Some a3) a4) = omega (arith, header_of_falls a2, cases_fall a4.items)
stmt_kind_falls (stmt_kinds.TypeSwitch a0 a1 a2 a3 a4) = omega (arith, cases_fall a4.items)
stmt_kind_falls (stmt_kinds.Defer a0) = omega arith
stmt_kind_falls (stmt_kinds.Return a0) = omega (arith, exprs_fall a0.items)
stmt_kind_falls (stmt_kinds.Break a0) = omega arith
stmt_kind_falls (stmt_kinds.Continue a0) = omega arith
stmt_kind_falls stmt_kinds.Fallthrough = omega arith
