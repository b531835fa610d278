-- The frames of a source program have room for the temporaries, and its procedures can be counted.
use Rattle.std.proofs.Common.{◌≡◌, ℕ, zero, suc, ◌+◌, ◌*◌, ◌≤◌, List, [], ◌∷◌, ◌++◌, length, sym, arith, ap, subst, lit≤}
use Rattle.std.specs.Prelude.{max}
use Rattle.odc_text.specs.declared.place.Place.{Place}
use Rattle.odc_typed.specs.declared.tree.BinaryOp.{BinaryOp as Operation}
use Rattle.odc_typed.specs.declared.tree.BinaryOp.TheVariants.{Add, Subtract, Multiply, Divide, Remainder, Less, Equal}
use Rattle.odc_typed.specs.declared.tree.Builtin.TheVariants.{Println}
use Rattle.odc_typed.specs.declared.tree.Local.{Local}
use Rattle.odc_typed.specs.Tree.{Expr, const, local, binary, call, builtin, Exprs, none, more, Stmt, eval, declare, assign, choose, repeat, answer, Stmts, finish, follow, Proc}
use Rattle.odc_typed.specs.Frame.{frame}
use Rattle.odc_core.specs.Tree.{Stmts as CoreStmts, finish as done, follow as then, call as called, choose as branch, leave, answer as answered}
use Rattle.odc_core.specs.declared.tree.Variable.{Variable}
use Rattle.odc_context.specs.Code.{Own, join, one, put, waits, wait, held, all_waiting, place_code, turn_code, words_from, printing, print_code, values_code, line_code, operation_code, count, depth_of, depth_of_all, stmt_depth, stmts_depth, expr_code, exprs_code, stmt_code, stmts_code, begin_code, end_code, body_code, own_of, variables_of, crossed}
use Rattle.odc_context.proofs.simulation.Values.{few}
use Rattle.odc_context.proofs.Procs.{stmts_fit}
use Rattle.odc_mid.specs.Tree.{Proc as MidProc}
use Rattle.odc_lower.specs.Size.{exprs_room, stmts_room}
use Rattle.odc_lower.specs.Plain.{PlainProc, plain_proc}
use Rattle.odc_lower.specs.Lowered.{lowered}
use Rattle.rv_emit.specs.Code.{variables_end}
use Rattle.rv_emit.specs.Layout.{HasSlots}

-- ---- temporaries

join_room : (a b : CoreStmts) (n : ℕ) → stmts_room a ≤ n → stmts_room b ≤ n → stmts_room (join a b) ≤ n
join_room done b n p q = q
join_room (then s a) b n p q = omega (arith, p, join_room a b n (omega (arith, p)) q)

print_room : (o : Own) (d b n : ℕ) → stmts_room (print_code o d b) ≤ 4 + n
print_room o d b n = omega arith

values_room : (o : Own) (d k n : ℕ) → stmts_room (values_code o d k) ≤ 4 + n
values_room o d zero n = omega arith
values_room o d (suc zero) n = print_room o d 10 n
values_room o d (suc (suc k)) n = join_room (print_code o d 32) (values_code o (d + 1) (suc k)) (4 + n) (print_room o d 32 n) (values_room o (d + 1) (suc k) n)

line_room : (o : Own) (d k n : ℕ) → stmts_room (line_code o d k) ≤ 4 + n
line_room o d zero n = omega arith
line_room o d (suc k) n = values_room o d (suc k) n

operation_room : (o : Own) (d : ℕ) (at : Place) (op : Operation) (n : ℕ) → stmts_room (operation_code o d at op) ≤ 4 + n
operation_room o d at Add n = omega arith
operation_room o d at Subtract n = omega arith
operation_room o d at Multiply n = omega arith
operation_room o d at Divide n = omega arith
operation_room o d at Remainder n = omega arith
operation_room o d at Less n = omega arith
operation_room o d at Equal n = omega arith

waiting_room : (o : Own) (d n : ℕ) → exprs_room (all_waiting o d n) ≤ n
waiting_room o d zero = lit≤ tt
waiting_room o d (suc n) = omega (arith, waiting_room o (d + 1) n)

mutual
  expr_temps : (o : Own) (d : ℕ) (e : Expr) → stmts_room (expr_code o d e) ≤ 4 + depth_of e
  expr_temps o d (const at value) = omega arith
  expr_temps o d (local at x) = omega arith
  expr_temps o d (binary at op left right) =
      let n : ℕ = 4 + depth_of (binary at op left right) in
      join_room (expr_code o d left) (join (expr_code o (d + 1) right) (operation_code o d at op)) n (omega (arith, expr_temps o d left))
      (join_room (expr_code o (d + 1) right) (operation_code o d at op) n (omega (arith, expr_temps o (d + 1) right)) (operation_room o d at op (depth_of (binary at op left right))))
  expr_temps o d (call at f arguments) =
      let n : ℕ = 4 + depth_of (call at f arguments) in
      let k : ℕ = count arguments in
      let last : CoreStmts = one (wait o d (called f (all_waiting o d k))) in
      join_room (exprs_code o d arguments) last n (omega (arith, exprs_temps o d arguments)) (omega (arith, waiting_room o d k, few arguments))
  expr_temps o d (builtin at Println arguments) =
      let n : ℕ = 4 + depth_of_all arguments in
      join_room (exprs_code o d arguments) (line_code o d (count arguments)) n (exprs_temps o d arguments) (line_room o d (count arguments) (depth_of_all arguments))

  exprs_temps : (o : Own) (d : ℕ) (es : Exprs) → stmts_room (exprs_code o d es) ≤ 4 + depth_of_all es
  exprs_temps o d none = omega arith
  exprs_temps o d (more e es) =
      join_room (expr_code o d e) (exprs_code o (d + 1) es) (4 + depth_of_all (more e es)) (omega (arith, expr_temps o d e)) (omega (arith, exprs_temps o (d + 1) es))

place_temps : (o : Own) (e : Expr) (n : ℕ) → stmts_room (place_code o e) ≤ 4 + n
place_temps o (const at value) n = omega arith
place_temps o (local at x) n = omega arith
place_temps o (binary at op left right) n = omega arith
place_temps o (call at f arguments) n = omega arith
place_temps o (builtin at which arguments) n = omega arith

mutual
  stmt_temps : (o : Own) (s : Stmt) → stmts_room (stmt_code o s) ≤ 4 + stmt_depth s
  stmt_temps o (eval at value) = expr_temps o 0 value
  stmt_temps o (declare at x value) = join_room (expr_code o 0 value) (one (put x (waits o 0))) (4 + depth_of value) (expr_temps o 0 value) (omega arith)
  stmt_temps o (assign at target value) = join_room (expr_code o 0 value) (place_code o target) (4 + depth_of value) (expr_temps o 0 value) (place_temps o target (depth_of value))
  stmt_temps o (choose at condition body) =
      join_room (expr_code o 0 condition) (one (branch (waits o 0) (stmts_code o body) done)) (4 + stmt_depth (choose at condition body))
      (omega (arith, expr_temps o 0 condition)) (omega (arith, stmts_temps o body))
  stmt_temps o (repeat at condition body) =
      let n : ℕ = 4 + stmt_depth (repeat at condition body) in
      let inner : CoreStmts = join (expr_code o 0 condition) (then (branch (waits o 0) done (one (leave 0))) (then turn_code (stmts_code o body))) in
      let all : stmts_room inner ≤ n =
      join_room (expr_code o 0 condition) (then (branch (waits o 0) done (one (leave 0))) (then turn_code (stmts_code o body))) n
      (omega (arith, expr_temps o 0 condition)) (omega (arith, stmts_temps o body)) in
      omega (arith, all)
  stmt_temps o (answer at value) =
      join_room (expr_code o 0 value) (then (put o.result (waits o 0)) (one (answered (held o.result)))) (4 + depth_of value) (expr_temps o 0 value) (omega arith)

  stmts_temps : (o : Own) (ss : Stmts) → stmts_room (stmts_code o ss) ≤ 4 + stmts_depth ss
  stmts_temps o finish = omega arith
  stmts_temps o (follow s ss) =
      join_room (stmt_code o s) (stmts_code o ss) (4 + stmts_depth (follow s ss)) (omega (arith, stmt_temps o s)) (omega (arith, stmts_temps o ss))

begin_temps : (o : Own) (rs : List Local) (n : ℕ) → stmts_room (begin_code o rs) ≤ 4 + n
begin_temps o [] n = omega arith
begin_temps o (r ∷ rs) n = omega arith

end_temps : (o : Own) (rs : List Local) (n : ℕ) → stmts_room (end_code o rs) ≤ 4 + n
end_temps o [] n = omega arith
end_temps o (r ∷ rs) n = omega arith

pub body_temps : (p : Proc) → stmts_room (body_code p) ≤ 4 + stmts_depth p.body
body_temps p =
    let o : Own = own_of p in
    let n : ℕ = stmts_depth p.body in
    join_room (begin_code o p.results) (join (stmts_code o p.body) (end_code o p.results)) (4 + n) (begin_temps o p.results n)
    (join_room (stmts_code o p.body) (end_code o p.results) (4 + n) (stmts_temps o p.body) (end_temps o p.results n))

-- ---- frames

pub variables_low : (x n : ℕ) → variables_end (words_from x n ++ printing) ≤ 128 + 16 * (x + n)
variables_low x zero = omega arith
variables_low x (suc n) = omega (arith, variables_low (x + 1) n)

-- what a procedure becomes has slots
pub slots : (p : Proc) (q : MidProc) → plain_proc q ≡ lowered (crossed p) → HasSlots q
slots p q e =
    let o : Own = own_of p in
    let same_variables : q.variables ≡ variables_of o = ap (λ (x : PlainProc). x.variables) e in
    let same_frame : q.frame ≡ frame p = ap (λ (x : PlainProc). x.frame) e in
    let same_temps : q.temporaries ≡ length p.parameters + max 1 (stmts_room (body_code p)) = ap (λ (x : PlainProc). x.temporaries) e in
    let ends : variables_end (variables_of o) ≤ 128 + 16 * (0 + (o.first + o.waiting)) = variables_low 0 (o.first + o.waiting) in
    let low : variables_end q.variables ≤ 128 + 16 * (0 + (o.first + o.waiting)) = subst (λ (vs : List Variable). variables_end vs ≤ 128 + 16 * (0 + (o.first + o.waiting))) (sym same_variables) ends in
    omega (arith, same_frame, same_temps, low, body_temps p, stmts_fit p.body)
