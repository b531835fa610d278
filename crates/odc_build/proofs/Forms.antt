-- What the core code of a source program weighs, and how many nodes and temporaries it needs.
use Rattle.std.proofs.Common.{◌≡◌, ℕ, zero, suc, ◌+◌, ◌*◌, ◌≤◌, List, [], ◌∷◌, length, refl, arith, ap, lit≤}
use Rattle.odc_text.specs.declared.place.Place.{Place}
use Rattle.odc_typed.specs.declared.tree.Constant.TheVariants.{Int, Bool as Truth}
use Rattle.odc_typed.specs.declared.tree.BinaryOp.{BinaryOp as Operation}
use Rattle.odc_typed.specs.declared.tree.BinaryOp.TheVariants.{Add, Subtract, Multiply, Divide, Remainder, Less, Equal}
use Rattle.odc_typed.specs.declared.tree.Builtin.TheVariants.{Println}
use Rattle.odc_typed.specs.declared.tree.Local.{Local}
use Rattle.odc_typed.specs.Tree.{Expr, const, local, binary, call, builtin, Exprs, none, more, Stmt, eval, declare, assign, choose, repeat, answer, Stmts, finish, follow, Proc}
use Rattle.odc_typed.specs.Well.{Signature, Scope, IsInt, AreInts, IsCondition, IsCall, IsPlace, Around, IsWellStmt, AreWell, IsWellProc, around, first_scope, scope_after}
use Rattle.odc_typed.specs.Nodes.{expr_nodes, exprs_nodes, stmt_nodes, stmts_nodes}
use Rattle.odc_core.specs.Tree.{Stmts as CoreStmts, finish as done, follow as then, call as called, choose as branch, leave, answer as answered}
use Rattle.odc_core.specs.Well.{count as arguments_of}
use Rattle.odc_context.specs.Code.{Own, join, one, wait, waits, held, put, place_code, turn_code, all_waiting, print_code, values_code, line_code, operation_code, count, expr_code, exprs_code, stmt_code, stmts_code, begin_code, end_code, body_code, own_of}
use Rattle.odc_build.specs.Weight.{exprs_weight, stmts_weight}

pub weight_join : (a b : CoreStmts) → stmts_weight (join a b) ≡ stmts_weight a + stmts_weight b
weight_join done b = omega arith
weight_join (then s a) b = omega (arith, weight_join a b)

two : (a b : CoreStmts) (m n : ℕ) → stmts_weight a ≤ m → stmts_weight b ≤ n → stmts_weight (join a b) ≤ m + n
two a b m n p q = omega (arith, weight_join a b, p, q)

three : (a b c : CoreStmts) (m n k : ℕ) → stmts_weight a ≤ m → stmts_weight b ≤ n → stmts_weight c ≤ k → stmts_weight (join a (join b c)) ≤ m + n + k
three a b c m n k p q r = omega (arith, weight_join a (join b c), weight_join b c, p, q, r)

-- ---- printing

print_weight : (o : Own) (d b : ℕ) → stmts_weight (print_code o d b) ≤ 1132
print_weight o d b = lit≤ tt

values_weight : (o : Own) (d n : ℕ) → stmts_weight (values_code o d n) ≤ 1132 * n
values_weight o d zero = lit≤ tt
values_weight o d (suc zero) = print_weight o d 10
values_weight o d (suc (suc n)) =
    let all : stmts_weight (join (print_code o d 32) (values_code o (d + 1) (suc n))) ≤ 1132 + 1132 * suc n =
    two (print_code o d 32) (values_code o (d + 1) (suc n)) 1132 (1132 * suc n) (print_weight o d 32) (values_weight o (d + 1) (suc n)) in
    omega (arith, all)

line_weight : (o : Own) (d n : ℕ) → stmts_weight (line_code o d n) ≤ 1132 * n + 334
line_weight o d zero = lit≤ tt
line_weight o d (suc n) = omega (arith, values_weight o d (suc n))

-- ---- expressions

operation_weight : (o : Own) (d : ℕ) (at : Place) (op : Operation) → stmts_weight (operation_code o d at op) ≤ 128
operation_weight o d at Add = lit≤ tt
operation_weight o d at Subtract = lit≤ tt
operation_weight o d at Multiply = lit≤ tt
operation_weight o d at Divide = lit≤ tt
operation_weight o d at Remainder = lit≤ tt
operation_weight o d at Less = lit≤ tt
operation_weight o d at Equal = lit≤ tt

waiting_weight : (o : Own) (d n : ℕ) → exprs_weight (all_waiting o d n) ≡ 24 * n
waiting_weight o d zero = refl
waiting_weight o d (suc n) = omega (arith, waiting_weight o (d + 1) n)

waiting_count : (o : Own) (d n : ℕ) → arguments_of (all_waiting o d n) ≡ n
waiting_count o d zero = refl
waiting_count o d (suc n) = ap suc (waiting_count o (d + 1) n)

mutual
  expr_some : (e : Expr) → 1 ≤ expr_nodes e
  expr_some (const at value) = lit≤ tt
  expr_some (local at x) = lit≤ tt
  expr_some (binary at op left right) = omega arith
  expr_some (call at f arguments) = omega arith
  expr_some (builtin at which arguments) = omega arith

  counted : (es : Exprs) → count es ≤ exprs_nodes es
  counted none = lit≤ tt
  counted (more e es) = omega (arith, expr_some e, counted es)

-- Of the weight of each expression 32 are left over, which pay for handing over the value.
mutual
  int_weight : (ss : List Signature) (scope : Scope) (e : Expr) (o : Own) (d : ℕ) → IsInt ss scope e → stmts_weight (expr_code o d e) + 32 ≤ 130 * expr_nodes e
  int_weight ss scope (const at (Int z)) o d h = lit≤ tt
  int_weight ss scope (const at (Truth b)) o d h = absurd h
  int_weight ss scope (local at x) o d h = lit≤ tt
  int_weight ss scope (binary at op left right) o d h =
      let a : ℕ = stmts_weight (expr_code o d left) in
      let b : ℕ = stmts_weight (expr_code o (d + 1) right) in
      let all : stmts_weight (expr_code o d (binary at op left right)) ≤ a + b + 128 =
      three (expr_code o d left) (expr_code o (d + 1) right) (operation_code o d at op) a b 128 (omega arith) (omega arith) (operation_weight o d at op) in
      omega (arith, all, int_weight ss scope left o d h.1.0, int_weight ss scope right o (d + 1) h.1.1)
  int_weight ss scope (call at f arguments) o d h =
      let n : ℕ = count arguments in
      let last : CoreStmts = one (wait o d (called f (all_waiting o d n))) in
      let b : stmts_weight last ≤ 32 * n + 48 = omega (arith, waiting_weight o d n, waiting_count o d n) in
      let a : ℕ = stmts_weight (exprs_code o d arguments) in
      let all : stmts_weight (join (exprs_code o d arguments) last) ≤ a + (32 * n + 48) = two (exprs_code o d arguments) last a (32 * n + 48) (omega arith) b in
      omega (arith, all, ints_weight ss scope arguments o d h.1)
  int_weight ss scope (builtin at which arguments) o d h = absurd h

  ints_weight : (ss : List Signature) (scope : Scope) (es : Exprs) (o : Own) (d : ℕ) → AreInts ss scope es → stmts_weight (exprs_code o d es) + 32 * count es ≤ 130 * exprs_nodes es
  ints_weight ss scope none o d h = lit≤ tt
  ints_weight ss scope (more e es) o d h =
      omega (arith, weight_join (expr_code o d e) (exprs_code o (d + 1) es), int_weight ss scope e o d h.0, ints_weight ss scope es o (d + 1) h.1)

-- a condition
condition_weight : (ss : List Signature) (scope : Scope) (e : Expr) (o : Own) (d : ℕ) → IsCondition ss scope e → stmts_weight (expr_code o d e) + 32 ≤ 130 * expr_nodes e
condition_weight ss scope (const at (Int z)) o d h = absurd h
condition_weight ss scope (const at (Truth b)) o d h = lit≤ tt
condition_weight ss scope (local at x) o d h = absurd h
condition_weight ss scope (binary at op left right) o d h =
    let a : ℕ = stmts_weight (expr_code o d left) in
    let b : ℕ = stmts_weight (expr_code o (d + 1) right) in
    let all : stmts_weight (expr_code o d (binary at op left right)) ≤ a + b + 128 =
    three (expr_code o d left) (expr_code o (d + 1) right) (operation_code o d at op) a b 128 (omega arith) (omega arith) (operation_weight o d at op) in
    omega (arith, all, int_weight ss scope left o d h.1.0, int_weight ss scope right o (d + 1) h.1.1)
condition_weight ss scope (call at f arguments) o d h = absurd h
condition_weight ss scope (builtin at which arguments) o d h = absurd h

-- a call without results
call_weight : (ss : List Signature) (scope : Scope) (e : Expr) (o : Own) (d : ℕ) → IsCall ss scope e → stmts_weight (expr_code o d e) ≤ 1240 * expr_nodes e
call_weight ss scope (const at value) o d h = absurd h
call_weight ss scope (local at x) o d h = absurd h
call_weight ss scope (binary at op left right) o d h = absurd h
call_weight ss scope (call at f arguments) o d h = absurd h
call_weight ss scope (builtin at Println arguments) o d h =
    omega (arith, weight_join (exprs_code o d arguments) (line_code o d (count arguments)), line_weight o d (count arguments), ints_weight ss scope arguments o d h, counted arguments)

-- ---- statements

place_weight : (scope : Scope) (e : Expr) (o : Own) → IsPlace scope e → stmts_weight (place_code o e) ≤ 48
place_weight scope (const at value) o h = absurd h
place_weight scope (local at x) o h = lit≤ tt
place_weight scope (binary at op left right) o h = absurd h
place_weight scope (call at f arguments) o h = absurd h
place_weight scope (builtin at which arguments) o h = absurd h

mutual
  stmt_weight : (a : Around) (scope : Scope) (s : Stmt) (o : Own) → IsWellStmt a scope s → stmts_weight (stmt_code o s) ≤ 1240 * stmt_nodes s
  stmt_weight a scope (eval at value) o h = omega (arith, call_weight a.signatures scope value o 0 h)
  stmt_weight a scope (declare at x value) o h =
      omega (arith, weight_join (expr_code o 0 value) (one (put x (waits o 0))), int_weight a.signatures scope value o 0 h.1)
  stmt_weight a scope (assign at target value) o h =
      omega (arith, weight_join (expr_code o 0 value) (place_code o target), int_weight a.signatures scope value o 0 h.1, place_weight scope target o h.0)
  stmt_weight a scope (choose at condition body) o h =
      omega (arith, weight_join (expr_code o 0 condition) (one (branch (waits o 0) (stmts_code o body) done)), condition_weight a.signatures scope condition o 0 h.0, body_weight a scope body o h.1)
  stmt_weight a scope (repeat at condition body) o h =
      omega (arith, weight_join (expr_code o 0 condition) (then (branch (waits o 0) done (one (leave 0))) (then turn_code (stmts_code o body))), condition_weight a.signatures scope condition o 0 h.0, body_weight a scope body o h.1)
  stmt_weight a scope (answer at value) o h =
      omega (arith, weight_join (expr_code o 0 value) (then (put o.result (waits o 0)) (one (answered (held o.result)))), int_weight a.signatures scope value o 0 h.1)

  body_weight : (a : Around) (scope : Scope) (ss : Stmts) (o : Own) → AreWell a scope ss → stmts_weight (stmts_code o ss) ≤ 1240 * stmts_nodes ss
  body_weight a scope finish o h = lit≤ tt
  body_weight a scope (follow s ss) o h =
      omega (arith, weight_join (stmt_code o s) (stmts_code o ss), stmt_weight a scope s o h.0, body_weight a (scope_after scope s) ss o h.1)

-- ---- procedures

begin_weight : (o : Own) (rs : List Local) → stmts_weight (begin_code o rs) ≤ 40
begin_weight o [] = lit≤ tt
begin_weight o (r ∷ rs) = lit≤ tt

end_weight : (o : Own) (rs : List Local) → stmts_weight (end_code o rs) ≤ 37
end_weight o [] = lit≤ tt
end_weight o (r ∷ rs) = lit≤ tt

pub proc_weight : (ss : List Signature) (p : Proc) → IsWellProc ss p → stmts_weight (body_code p) ≤ 1240 * stmts_nodes p.body + 77
proc_weight ss p h =
    let o : Own = own_of p in
    let all : stmts_weight (body_code p) ≤ 40 + 1240 * stmts_nodes p.body + 37 =
    three (begin_code o p.results) (stmts_code o p.body) (end_code o p.results) 40 (1240 * stmts_nodes p.body) 37
    (begin_weight o p.results) (body_weight (around ss p) (first_scope (length p.parameters)) p.body o h.body) (end_weight o p.results) in
    omega (arith, all)
