-- How many nodes a clean tree has, and cells of lists.
-- Written by tools/trees.
use Rattle.std.specs.Prelude.{ℕ, ◌+◌}
use Rattle.odc_syntax.specs.Tree as tree

abbrev mutual
  pub expr_size : tree.Expr → ℕ
  expr_size (tree.expr x0 x1 x2) = expr_kind_size x2 + 1

  pub expr_kind_size : tree.ExprKind → ℕ
  expr_kind_size (tree.name x0) = 0
  expr_kind_size (tree.int x0) = 0
  expr_kind_size (tree.rune x0) = 0
  expr_kind_size (tree.text x0) = 0
  expr_kind_size tree.context = 0
  expr_kind_size (tree.dot x0) = 0
  expr_kind_size (tree.select x0 x1) = expr_size x0
  expr_kind_size (tree.assert x0 x1) = expr_size x0 + type_size x1
  expr_kind_size (tree.deref x0) = expr_size x0
  expr_kind_size (tree.index x0 x1) = expr_size x0 + expr_size x1
  expr_kind_size (tree.cut x0 x1 x2) = expr_size x0 + (maybe_expr_size x1 + maybe_expr_size x2)
  expr_kind_size (tree.call x0 x1) = expr_size x0 + args_size x1
  expr_kind_size (tree.or_return x0) = expr_size x0
  expr_kind_size (tree.literal x0 x1) = maybe_expr_size x0 + args_size x1
  expr_kind_size (tree.unary x0 x1) = expr_size x1
  expr_kind_size (tree.binary x0 x1 x2) = expr_size x1 + expr_size x2
  expr_kind_size (tree.cast x0 x1) = type_size x0 + expr_size x1
  expr_kind_size tree.location = 0
  expr_kind_size (tree.type_tree x0) = type_size x0
  expr_kind_size (tree.proc_lit x0 x1) = signature_size x0 + stmts_size x1

  pub maybe_expr_size : tree.MaybeExpr → ℕ
  maybe_expr_size tree.no_expr = 0
  maybe_expr_size (tree.some_expr x0) = expr_size x0

  pub exprs_size : tree.Exprs → ℕ
  exprs_size tree.no_exprs = 0
  exprs_size (tree.more_exprs x0 x1) = expr_size x0 + (exprs_size x1 + 1)

  pub args_size : tree.Args → ℕ
  args_size tree.no_args = 0
  args_size (tree.more_args x0 x1 x2) = expr_size x1 + (args_size x2 + 1)

  pub type_size : tree.Type_ → ℕ
  type_size (tree.type x0 x1) = type_kind_size x1 + 1

  pub type_kind_size : tree.TypeKind → ℕ
  type_kind_size (tree.named x0) = 0
  type_kind_size (tree.member x0 x1) = 0
  type_kind_size (tree.dollar x0) = 0
  type_kind_size (tree.pointer x0) = type_size x0
  type_kind_size (tree.distinct x0) = type_size x0
  type_kind_size (tree.proc x0) = signature_size x0
  type_kind_size (tree.array x0 x1) = length_size x0 + type_size x1
  type_kind_size (tree.soa x0 x1) = length_size x0 + type_size x1
  type_kind_size (tree.struct x0) = fields_size x0
  type_kind_size (tree.union x0) = types_size x0
  type_kind_size (tree.enum x0 x1) = maybe_type_size x0 + enumerators_size x1

  pub maybe_type_size : tree.MaybeType → ℕ
  maybe_type_size tree.no_type = 0
  maybe_type_size (tree.some_type x0) = type_size x0

  pub types_size : tree.Types → ℕ
  types_size tree.no_types = 0
  types_size (tree.more_types x0 x1) = type_size x0 + (types_size x1 + 1)

  pub length_size : tree.Length → ℕ
  length_size tree.slice = 0
  length_size tree.dynamic = 0
  length_size tree.counted = 0
  length_size (tree.parametric x0) = 0
  length_size (tree.fixed x0) = expr_size x0

  pub fields_size : tree.Fields → ℕ
  fields_size tree.no_fields = 0
  fields_size (tree.more_fields x0 x1 x2) = type_size x1 + (fields_size x2 + 1)

  pub enumerators_size : tree.Enumerators → ℕ
  enumerators_size tree.no_enumerators = 0
  enumerators_size (tree.more_enumerators x0 x1 x2) = maybe_expr_size x1 + (enumerators_size x2 + 1)

  pub signature_size : tree.Signature → ℕ
  signature_size (tree.signature x0 x1 x2 x3) = params_size x2 + results_size x3

  pub results_size : tree.Results → ℕ
  results_size tree.no_results = 0
  results_size (tree.one_result x0) = type_size x0
  results_size (tree.list_results x0) = params_size x0

  pub params_size : tree.Params → ℕ
  params_size tree.no_params = 0
  params_size (tree.more_params x0 x1) = param_size x0 + (params_size x1 + 1)

  pub param_size : tree.Param → ℕ
  param_size (tree.param x0 x1 x2 x3) = param_type_size x2 + maybe_expr_size x3

  pub param_type_size : tree.ParamType → ℕ
  param_type_size (tree.of_type x0) = type_size x0
  param_type_size tree.typeid = 0
  param_type_size tree.inferred = 0

  pub stmt_size : tree.Stmt → ℕ
  stmt_size (tree.stmt x0 x1) = stmt_kind_size x1 + 1

  pub stmt_kind_size : tree.StmtKind → ℕ
  stmt_kind_size (tree.declare x0) = decl_size x0
  stmt_kind_size (tree.assign x0 x1 x2) = exprs_size x0 + exprs_size x2
  stmt_kind_size (tree.eval x0) = exprs_size x0
  stmt_kind_size (tree.block x0 x1) = stmts_size x1
  stmt_kind_size (tree.if_ x0 x1 x2 x3) = header_size x0 + (expr_size x1 + (stmts_size x2 + else_size x3))
  stmt_kind_size (tree.loop x0 x1 x2 x3 x4) = header_size x1 + (maybe_expr_size x2 + (maybe_stmt_size x3 + stmts_size x4))
  stmt_kind_size (tree.range x0 x1 x2 x3) = span_size x2 + stmts_size x3
  stmt_kind_size (tree.switch x0 x1 x2 x3 x4) = header_size x2 + (maybe_expr_size x3 + cases_size x4)
  stmt_kind_size (tree.type_switch x0 x1 x2 x3 x4) = expr_size x3 + cases_size x4
  stmt_kind_size (tree.defer x0) = stmt_size x0
  stmt_kind_size (tree.return x0) = exprs_size x0
  stmt_kind_size (tree.break x0) = 0
  stmt_kind_size (tree.continue x0) = 0
  stmt_kind_size tree.fallthrough = 0

  pub maybe_stmt_size : tree.MaybeStmt → ℕ
  maybe_stmt_size tree.no_stmt = 0
  maybe_stmt_size (tree.some_stmt x0) = stmt_size x0

  pub stmts_size : tree.Stmts → ℕ
  stmts_size tree.no_stmts = 0
  stmts_size (tree.more_stmts x0 x1) = stmt_size x0 + (stmts_size x1 + 1)

  pub header_size : tree.Header → ℕ
  header_size tree.no_header = 0
  header_size (tree.decl_header x0) = decl_size x0
  header_size (tree.simple_header x0) = stmt_size x0

  pub else_size : tree.Else → ℕ
  else_size tree.no_else = 0
  else_size (tree.else_if x0) = stmt_size x0
  else_size (tree.else_body x0) = stmts_size x0

  pub span_size : tree.Span → ℕ
  span_size (tree.span x0 x1) = expr_size x0 + span_end_size x1

  pub span_end_size : tree.SpanEnd → ℕ
  span_end_size tree.alone = 0
  span_end_size (tree.through x0) = expr_size x0
  span_end_size (tree.below x0) = expr_size x0

  pub spans_size : tree.Spans → ℕ
  spans_size tree.no_spans = 0
  spans_size (tree.more_spans x0 x1) = span_size x0 + (spans_size x1 + 1)

  pub cases_size : tree.Cases → ℕ
  cases_size tree.no_cases = 0
  cases_size (tree.more_cases x0 x1 x2 x3) = spans_size x1 + (stmts_size x2 + (cases_size x3 + 1))

  pub decl_size : tree.Decl → ℕ
  decl_size (tree.decl x0 x1) = decl_kind_size x1 + 1

  pub decl_kind_size : tree.DeclKind → ℕ
  decl_kind_size (tree.import x0 x1) = 0
  decl_kind_size (tree.constant x0 x1 x2) = maybe_type_size x1 + exprs_size x2
  decl_kind_size (tree.variable x0 x1 x2) = maybe_type_size x1 + initial_size x2

  pub initial_size : tree.Initial → ℕ
  initial_size tree.zeros = 0
  initial_size tree.dashes = 0
  initial_size (tree.values x0) = exprs_size x0
