-- How many nodes a clean tree has; a statement counts statements alone.
use Rattle.std.specs.Prelude.{ℕ, ◌+◌}
use Rattle.odc_program.specs.Trees.Tree as tree

abbrev mutual
  pub expr_size : tree.Expr → ℕ
  expr_size (tree.expr x0 x1 x2) = expr_kind_size x2 + 1

  pub expr_kind_size : tree.Kind → ℕ
  expr_kind_size (tree.const x0) = 0
  expr_kind_size (tree.local x0) = 0
  expr_kind_size (tree.global_ x0) = 0
  expr_kind_size (tree.proc_value x0) = 0
  expr_kind_size tree.context = 0
  expr_kind_size (tree.field x0 x1) = expr_size x0
  expr_kind_size (tree.deref x0) = expr_size x0
  expr_kind_size (tree.index x0 x1) = expr_size x0 + expr_size x1
  expr_kind_size (tree.cut x0 x1 x2) = expr_size x0 + (maybe_size x1 + maybe_size x2)
  expr_kind_size (tree.column x0 x1) = expr_size x0
  expr_kind_size (tree.call x0 x1 x2) = exprs_size x2
  expr_kind_size (tree.call_value x0 x1 x2) = expr_size x1 + exprs_size x2
  expr_kind_size (tree.builtin x0 x1 x2) = exprs_size x2
  expr_kind_size (tree.or_return x0 x1) = expr_size x0
  expr_kind_size (tree.build x0 x1) = parts_size x1
  expr_kind_size (tree.unary x0 x1) = expr_size x1
  expr_kind_size (tree.binary x0 x1 x2) = expr_size x1 + expr_size x2
  expr_kind_size (tree.convert x0) = expr_size x0
  expr_kind_size (tree.inject x0 x1) = expr_size x1
  expr_kind_size (tree.assert_ x0 x1) = expr_size x1
  expr_kind_size (tree.test_ x0 x1) = expr_size x1
  expr_kind_size (tree.address_ x0) = expr_size x0
  expr_kind_size tree.location = 0
  expr_kind_size (tree.help x0 x1) = exprs_size x1

  pub exprs_size : tree.Exprs → ℕ
  exprs_size tree.none = 0
  exprs_size (tree.more x0 x1) = expr_size x0 + (exprs_size x1 + 1)

  pub maybe_size : tree.Maybe → ℕ
  maybe_size tree.absent = 0
  maybe_size (tree.present x0) = expr_size x0

  pub parts_size : tree.Parts → ℕ
  parts_size tree.no_parts = 0
  parts_size (tree.part x0 x1 x2) = expr_size x1 + (parts_size x2 + 1)

abbrev mutual
  pub stmt_size : tree.Stmt → ℕ
  stmt_size (tree.stmt x0 x1) = stmt_kind_size x1 + 1

  pub stmt_kind_size : tree.Form → ℕ
  stmt_kind_size (tree.declare x0 x1) = 0
  stmt_kind_size (tree.assign x0 x1) = 0
  stmt_kind_size (tree.change x0 x1 x2) = 0
  stmt_kind_size (tree.eval x0) = 0
  stmt_kind_size (tree.block x0 x1) = stmts_size x1
  stmt_kind_size (tree.if_ x0 x1 x2 x3) = maybe_stmt_size x0 + (stmts_size x2 + stmts_size x3)
  stmt_kind_size (tree.loop x0 x1 x2 x3 x4) = maybe_stmt_size x1 + (maybe_stmt_size x3 + stmts_size x4)
  stmt_kind_size (tree.range x0 x1 x2 x3 x4) = stmts_size x4
  stmt_kind_size (tree.switch x0 x1 x2 x3) = maybe_stmt_size x1 + cases_size x3
  stmt_kind_size (tree.type_switch x0 x1 x2) = type_cases_size x2
  stmt_kind_size (tree.defer x0) = stmt_size x0
  stmt_kind_size (tree.return x0) = 0
  stmt_kind_size (tree.break_ x0) = 0
  stmt_kind_size (tree.continue_ x0) = 0
  stmt_kind_size tree.fallthrough = 0
  stmt_kind_size (tree.counted x0 x1 x2 x3) = stmts_size x3

  pub maybe_stmt_size : tree.MaybeStmt → ℕ
  maybe_stmt_size tree.no_stmt = 0
  maybe_stmt_size (tree.some_stmt x0) = stmt_size x0

  pub stmts_size : tree.Stmts → ℕ
  stmts_size tree.finish = 0
  stmts_size (tree.follow x0 x1) = stmt_size x0 + (stmts_size x1 + 1)

  pub cases_size : tree.Cases → ℕ
  cases_size tree.no_cases = 0
  cases_size (tree.one_case x0 x1 x2) = stmts_size x1 + (cases_size x2 + 1)
  cases_size (tree.default_case x0 x1) = stmts_size x0 + (cases_size x1 + 1)

  pub type_cases_size : tree.TypeCases → ℕ
  type_cases_size tree.no_types = 0
  type_cases_size (tree.type_case x0 x1 x2 x3) = stmts_size x2 + (type_cases_size x3 + 1)
  type_cases_size (tree.default_type x0 x1 x2) = stmts_size x1 + (type_cases_size x2 + 1)
