use Rattle.std.proofs.Common.{◌≡◌, List, arith, ap, ◌∙◌, sym, length, rules}
use Rattle.std.specs.Prelude.{max}
use Rattle.std.proofs.lemmas.Result.{on_ok_weaker}
use Rattle.odc_core.specs.declared.tree.CoreStmt.{CoreStmt}
use Rattle.odc_core.specs.Tree.{Stmts, choose as branch, repeat as loop, finish as done}
use Rattle.odc_core.specs.View.{stmts as core_stmts}
use Rattle.odc_typed.specs.declared.tree.TStmt.{the_lemmas}
use Rattle.odc_typed.specs.Tree.{Stmt, declare, assign, choose, repeat, answer}
use Rattle.odc_typed.specs.View.{expr, stmt, stmt_kind, stmts}
use Rattle.odc_typed.proofs.Views.{choice_is, loop_is}
use Rattle.odc_context.specs.Code.{join, one, put, waits, test_code, place_code, answer_code, expr_code, stmt_code, stmts_code, depth_of, stmt_depth, stmts_depth}
use Rattle.odc_context.specs.View.{own}
use Rattle.odc_context.proofs.Joins.{parts}
use Rattle.odc_context.proofs.Lists.{stmts_more, stmts_end}
use Rattle.odc_context.proofs.Sources.{stmts_depth_here, stmts_depth_left}
use Rattle.odc_context.proofs.statement.+statements.Goals as goal

pub emit_stmt-emit_stmts-requires : goal.emit_stmt-emit_stmts-requires
emit_stmt-emit_stmts-requires t c =
    let s = c.args.s.now in
    let depth : stmt_depth (stmt s) ≡ max (depth_of (expr c.in-If.condition)) (stmts_depth (stmts c.deref.result.now)) = ap stmt_depth (choice_is s.kind s.at c.in-If.condition c.in-If.body c.deref.result.now c.in-If.is c.deref.ensures.value) in
    (first_of (search (rules, the_lemmas), grind (arith, the_lemmas)), omega (arith, depth, c.requires))

pub emit_stmt-emit_stmts-requires-in-Loop : goal.emit_stmt-emit_stmts-requires-in-Loop
emit_stmt-emit_stmts-requires-in-Loop t c =
    let s = c.args.s.now in
    let depth : stmt_depth (stmt s) ≡ max (depth_of (expr c.in-Loop.condition)) (stmts_depth (stmts c.deref-in-Loop.result.now)) = ap stmt_depth (loop_is s.kind s.at c.in-Loop.condition c.in-Loop.body c.deref-in-Loop.result.now c.in-Loop.is c.deref-in-Loop.ensures.value) in
    (first_of (search (rules, the_lemmas), grind (arith, the_lemmas)), omega (arith, depth, c.requires))

pub emit_stmt-returns-in_ok-emit_expr-in-Declare : goal.emit_stmt-returns-in_ok-emit_expr-in-Declare
emit_stmt-returns-in_ok-emit_expr-in-Declare t c =
    let s = c.args.s.now in
    let o = own c.args.o in
    let is : stmt s ≡ declare s.at c.in-Declare.x (expr c.in-Declare.value) = ap (λ (k : _). stmt_kind k s.at) c.in-Declare.is in
    on_ok_weaker c.push_taken.result
    (λ h. parts c.args.code.now.items c.emit_expr-in-Declare.new.code.items c.push_taken.new.code.items (expr_code o 0 (expr c.in-Declare.value)) (one (put c.in-Declare.x (waits o 0))) c.in_ok-emit_expr-in-Declare.ensures h
    ∙ ap (λ (x : Stmt). join (core_stmts c.args.code.now.items) (stmt_code o x)) (sym is))
    c.push_taken.ensures

pub emit_stmt-returns-in_ok-emit_expr-in-Assign : goal.emit_stmt-returns-in_ok-emit_expr-in-Assign
emit_stmt-returns-in_ok-emit_expr-in-Assign t c =
    let s = c.args.s.now in
    let o = own c.args.o in
    let is : stmt s ≡ assign s.at (expr c.in-Assign.target) (expr c.in-Assign.value) = ap (λ (k : _). stmt_kind k s.at) c.in-Assign.is in
    on_ok_weaker c.push_place.result
    (λ h. parts c.args.code.now.items c.emit_expr-in-Assign.new.code.items c.push_place.new.code.items (expr_code o 0 (expr c.in-Assign.value)) (place_code o (expr c.in-Assign.target)) c.in_ok-emit_expr-in-Assign.ensures h
    ∙ ap (λ (x : Stmt). join (core_stmts c.args.code.now.items) (stmt_code o x)) (sym is))
    c.push_place.ensures

pub emit_stmt-returns-in_ok-emit_expr-in-Return : goal.emit_stmt-returns-in_ok-emit_expr-in-Return
emit_stmt-returns-in_ok-emit_expr-in-Return t c =
    let s = c.args.s.now in
    let o = own c.args.o in
    let is : stmt s ≡ answer s.at (expr c.in-Return.value) = ap (λ (k : _). stmt_kind k s.at) c.in-Return.is in
    on_ok_weaker c.push_answer.result
    (λ h. parts c.args.code.now.items c.emit_expr-in-Return.new.code.items c.push_answer.new.code.items (expr_code o 0 (expr c.in-Return.value)) (answer_code o) c.in_ok-emit_expr-in-Return.ensures h
    ∙ ap (λ (x : Stmt). join (core_stmts c.args.code.now.items) (stmt_code o x)) (sym is))
    c.push_answer.ensures

pub emit_stmt-returns-in_ok-emit_stmts-in-If : goal.emit_stmt-returns-in_ok-emit_stmts-in-If
emit_stmt-returns-in_ok-emit_stmts-in-If t c =
    let s = c.args.s.now in
    let o = own c.args.o in
    let condition = expr c.in-If.condition in
    let body = stmts c.deref.result.now in
    let is : stmt s ≡ choose s.at condition body = choice_is s.kind s.at c.in-If.condition c.in-If.body c.deref.result.now c.in-If.is c.deref.ensures.value in
    let inner = c.in_ok-emit_stmts-in-If.ensures ∙ ap (λ (xs : List CoreStmt). join (core_stmts xs) (stmts_code o body)) c.new-inner.ensures.items in
    on_ok_weaker c.push_if.result
    (λ h. parts c.args.code.now.items c.emit_expr-in-If.new.code.items c.push_if.new.code.items (expr_code o 0 condition) (one (branch (waits o 0) (stmts_code o body) done)) c.in_ok-emit_expr-in-If.ensures (h ∙ ap (λ (ss : Stmts). join (core_stmts c.emit_expr-in-If.new.code.items) (one (branch (waits o 0) ss done))) inner)
    ∙ ap (λ (x : Stmt). join (core_stmts c.args.code.now.items) (stmt_code o x)) (sym is))
    c.push_if.ensures

pub emit_stmt-returns-in_ok-emit_stmts-in-Loop : goal.emit_stmt-returns-in_ok-emit_stmts-in-Loop
emit_stmt-returns-in_ok-emit_stmts-in-Loop t c =
    let s = c.args.s.now in
    let o = own c.args.o in
    let condition = expr c.in-Loop.condition in
    let body = stmts c.deref-in-Loop.result.now in
    let is : stmt s ≡ repeat s.at condition body = loop_is s.kind s.at c.in-Loop.condition c.in-Loop.body c.deref-in-Loop.result.now c.in-Loop.is c.deref-in-Loop.ensures.value in
    let all : Stmts = join (expr_code o 0 condition) (join (test_code o) (stmts_code o body)) in
    let turn = parts c.new-turn.result.items c.emit_expr-in-Loop.new.code.items c.emit_stmts-in-Loop.new.code.items (expr_code o 0 condition) (join (test_code o) (stmts_code o body)) c.in_ok-emit_expr-in-Loop.ensures
    (parts c.emit_expr-in-Loop.new.code.items c.push_test.new.code.items c.emit_stmts-in-Loop.new.code.items (test_code o) (stmts_code o body) c.in_ok-push_test-in-Loop.ensures c.in_ok-emit_stmts-in-Loop.ensures)
    ∙ ap (λ (xs : List CoreStmt). join (core_stmts xs) all) c.new-turn.ensures.items in
    on_ok_weaker c.push_loop.result
    (λ h. h ∙ ap (λ (ss : Stmts). join (core_stmts c.args.code.now.items) (one (loop ss))) turn
    ∙ ap (λ (x : Stmt). join (core_stmts c.args.code.now.items) (stmt_code o x)) (sym is))
    c.push_loop.ensures

pub emit_stmts-emit_stmt-requires : goal.emit_stmts-emit_stmt-requires
emit_stmts-emit_stmt-requires t c =
    let here = stmts_depth_here c.args.ss.now c.loop-s.s-index c.s-item.result c.loop-s-test.true c.s-item.is in
    let left = stmts_depth_left c.args.ss.now c.loop-s.s-index in
    (first_of (search (rules, the_lemmas), grind (arith, the_lemmas)), omega (arith, here, left, c.requires))

pub emit_stmts-loop-s-preserved : goal.emit_stmts-loop-s-preserved
emit_stmts-loop-s-preserved t c =
    let o = own c.args.o in
    stmts_more c.args.ss.now c.loop-s.s-index c.s-item.result c.loop-s.code.items c.emit_stmt.new.code.items (join (core_stmts c.args.code.now.items) (stmts_code o (stmts c.args.ss.now))) o
    c.loop-s-test.true c.s-item.is c.loop-s.invariant c.in_ok-emit_stmt.ensures

pub emit_stmts-returns : goal.emit_stmts-returns
emit_stmts-returns t c =
    let o = own c.args.o in
    let end : c.loop-s.s-index ≡ length c.args.ss.now = omega (arith, c.loop-s-test.false, c.loop-s.auto.s-index-end) in
    sym (stmts_end c.args.ss.now c.loop-s.s-index c.loop-s.code.items o end) ∙ c.loop-s.invariant
