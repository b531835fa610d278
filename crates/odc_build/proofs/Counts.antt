-- The nodes of core code are counted exactly, by the kind of the node that they are made for.
use Rattle.std.proofs.Common.{◌≡◌, ℕ, zero, suc, ◌+◌, ◌*◌, List, [], ◌∷◌, arith, ap, ◌∙◌, refl}
use Rattle.odc_text.specs.declared.place.Place.{Place}
use Rattle.odc_typed.specs.declared.tree.BinaryOp.{BinaryOp}
use Rattle.odc_typed.specs.declared.tree.BinaryOp.TheVariants.{Add, Subtract, Multiply, Divide, Remainder, Less, Equal}
use Rattle.odc_typed.specs.declared.tree.Builtin.TheVariants.{Println}
use Rattle.odc_typed.specs.declared.tree.Local.{Local}
use Rattle.odc_typed.specs.Tree.{Expr, const, local, binary, call, builtin, Exprs, none, more, Stmt, eval, declare, assign, choose, repeat, answer, Stmts, finish, follow, Proc}
use Rattle.odc_core.specs.Tree.{Stmts as CoreStmts, finish as done, follow as then, Exprs as CoreExprs, choose as branch, call as called}
use Rattle.odc_context.specs.Code.{Own, join, one, put, wait, waits, held, all_waiting, print_code, values_code, line_code, newline_code, operation_code, builtin_code, count, expr_code, exprs_code, test_code, answer_code, place_code, stmt_code, stmts_code, begin_code, end_code, body_code, own_of}
use Rattle.odc_lower.specs.Size.{exprs_nodes as core_exprs, stmts_nodes as core_nodes}
use Rattle.odc_build.specs.Counts.{operation_count, line_count, expr_count, exprs_count, place_count, stmt_count, stmts_count, result_count, proc_count}

joined : (a b : CoreStmts) → core_nodes (join a b) ≡ core_nodes a + core_nodes b
joined done b = omega arith
joined (then s a) b = omega (arith, joined a b)

operation_counted : (o : Own) (d : ℕ) (at : Place) (op : BinaryOp) → core_nodes (operation_code o d at op) ≡ operation_count op
operation_counted o d at Add = refl
operation_counted o d at Subtract = refl
operation_counted o d at Multiply = refl
operation_counted o d at Divide = refl
operation_counted o d at Remainder = refl
operation_counted o d at Less = refl
operation_counted o d at Equal = refl

print_counted : (o : Own) (d b : ℕ) → core_nodes (print_code o d b) ≡ 80
print_counted o d b = refl

values_counted : (o : Own) (d n : ℕ) → core_nodes (values_code o d n) ≡ 80 * n
values_counted o d zero = refl
values_counted o d (suc zero) = print_counted o d 10
values_counted o d (suc (suc n)) =
    omega (arith, joined (print_code o d 32) (values_code o (d + 1) (suc n)), print_counted o d 32, values_counted o (d + 1) (suc n))

line_counted : (o : Own) (d n : ℕ) → core_nodes (line_code o d n) ≡ line_count n
line_counted o d zero = refl
line_counted o d (suc n) = values_counted o d (suc n)

waiting_counted : (o : Own) (d n : ℕ) → core_exprs (all_waiting o d n) ≡ 2 * n
waiting_counted o d zero = refl
waiting_counted o d (suc n) = omega (arith, waiting_counted o (d + 1) n)

mutual
  expr_counted : (o : Own) (d : ℕ) (e : Expr) → core_nodes (expr_code o d e) ≡ expr_count e
  expr_counted o d (const at value) = refl
  expr_counted o d (local at x) = refl
  expr_counted o d (binary at op left right) =
      omega (
        arith,
        joined (expr_code o d left) (join (expr_code o (d + 1) right) (operation_code o d at op)),
        joined (expr_code o (d + 1) right) (operation_code o d at op),
        expr_counted o d left,
        expr_counted o (d + 1) right,
        operation_counted o d at op,
      )
  expr_counted o d (call at f arguments) =
      let n : ℕ = count arguments in
      let last : CoreStmts = one (wait o d (called f (all_waiting o d n))) in
      let two : core_nodes last ≡ 2 * n + 3 = omega (arith, waiting_counted o d n) in
      omega (arith, joined (exprs_code o d arguments) last, two, exprs_counted o d arguments)
  expr_counted o d (builtin at Println arguments) =
      omega (arith, joined (exprs_code o d arguments) (line_code o d (count arguments)), exprs_counted o d arguments, line_counted o d (count arguments))

  exprs_counted : (o : Own) (d : ℕ) (es : Exprs) → core_nodes (exprs_code o d es) ≡ exprs_count es
  exprs_counted o d none = refl
  exprs_counted o d (more e es) = omega (arith, joined (expr_code o d e) (exprs_code o (d + 1) es), expr_counted o d e, exprs_counted o (d + 1) es)

place_counted : (o : Own) (e : Expr) → core_nodes (place_code o e) ≡ place_count e
place_counted o (const at value) = refl
place_counted o (local at x) = refl
place_counted o (binary at op left right) = refl
place_counted o (call at f arguments) = refl
place_counted o (builtin at which arguments) = refl

mutual
  stmt_counted : (o : Own) (s : Stmt) → core_nodes (stmt_code o s) ≡ stmt_count s
  stmt_counted o (eval at value) = expr_counted o 0 value
  stmt_counted o (declare at x value) = omega (arith, joined (expr_code o 0 value) (one (put x (waits o 0))), expr_counted o 0 value)
  stmt_counted o (assign at target value) = omega (arith, joined (expr_code o 0 value) (place_code o target), expr_counted o 0 value, place_counted o target)
  stmt_counted o (choose at condition body) =
      omega (arith, joined (expr_code o 0 condition) (one (branch (waits o 0) (stmts_code o body) done)), expr_counted o 0 condition, stmts_counted o body)
  stmt_counted o (repeat at condition body) =
      omega (arith, joined (expr_code o 0 condition) (join (test_code o) (stmts_code o body)), expr_counted o 0 condition, stmts_counted o body)
  stmt_counted o (answer at value) = omega (arith, joined (expr_code o 0 value) (answer_code o), expr_counted o 0 value)

  stmts_counted : (o : Own) (ss : Stmts) → core_nodes (stmts_code o ss) ≡ stmts_count ss
  stmts_counted o finish = refl
  stmts_counted o (follow s ss) = omega (arith, joined (stmt_code o s) (stmts_code o ss), stmt_counted o s, stmts_counted o ss)

ends_counted : (o : Own) (rs : List Local) → core_nodes (begin_code o rs) + core_nodes (end_code o rs) ≡ result_count rs
ends_counted o [] = refl
ends_counted o (r ∷ rs) = refl

pub proc_counted : (p : Proc) → core_nodes (body_code p) ≡ proc_count p
proc_counted p =
    let o : Own = own_of p in
    omega (
      arith,
      joined (begin_code o p.results) (join (stmts_code o p.body) (end_code o p.results)),
      joined (stmts_code o p.body) (end_code o p.results),
      stmts_counted o p.body,
      ends_counted o p.results,
    )
