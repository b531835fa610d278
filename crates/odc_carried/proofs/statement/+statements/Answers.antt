use Rattle.std.proofs.Common.{◌≡◌, List, ap, ◌∙◌, sym, arith}
use Rattle.std.specs.Prelude.{Option}
use Rattle.std.proofs.lemmas.Result.{on_ok_weaker}
use Rattle.odc_program.specs.declared.tree.TStmtKind.{TStmtKind}
use Rattle.odc_program.specs.Trees.Tree.{Stmt, stmt, if_, loop}
use Rattle.odc_program.specs.Views.View.{maybe}
use Rattle.odc_program.specs.Views.StmtView.{maybe_stmt, stmt_kind, stmts}
use Rattle.odc_core.specs.declared.tree.CoreStmt.{CoreStmt}
use Rattle.odc_core.specs.Tree.{Expr as CoreExpr, Stmts as CoreStmts, choose, repeat, finish as done}
use Rattle.odc_core.specs.View.{stmts as core_stmts}
use Rattle.odc_carried.specs.Code.{join, one, before, value, maybe_code, stmt_code, stmts_code, turn_code}
use Rattle.odc_carried.specs.View.{shown}
use Rattle.odc_carried.proofs.emitting.Joins.{join_done, parts}
use Rattle.odc_carried.proofs.emitting.Forms.{other_form, stmts_more, stmts_end, turned}
use Rattle.odc_carried.proofs.emitting.Sources.{stmt_falls, ended}
use Rattle.odc_carried.proofs.statement.+statements.Goals as goal

pub emit_maybe-returns-in-None : goal.emit_maybe-returns-in-None
emit_maybe-returns-in-None t c =
    let old = core_stmts c.args.code.now.items in
    sym (ap (λ (s : Option Stmt). join old (maybe_code (shown c.args.o.now) (maybe_stmt s))) c.in-None.is ∙ join_done old)

pub emit_stmt-returns-in_ok-emit_stmts-in-If-2 : goal.emit_stmt-returns-in_ok-emit_stmts-in-If-2
emit_stmt-returns-in_ok-emit_stmts-in-If-2 t c =
    let o = shown c.args.o.now in
    let e = c.in-If.e in
    let init = maybe_stmt c.in-If.init in
    let body = stmts c.in-If.body.items in
    let other = stmts c.in-If.other.items in
    let old = core_stmts c.args.code.now.items in
    let is : c.args.s.now ≡ stmt c.s.inside.at (if_ init e body other) = sym c.s.view_is ∙ ap (λ (k : TStmtKind). stmt c.s.inside.at (stmt_kind k)) (sym c.deref.ensures ∙ c.in-If.is) in
    let first : core_stmts c.emit_stmts-in-If.new.code.items ≡ stmts_code o body =
    c.in_ok-emit_stmts-in-If.ensures ∙ ap (λ (xs : List CoreStmt). join (core_stmts xs) (stmts_code o (stmts c.as_slice-in-If.result.now))) c.new-first.ensures.items ∙ ap (λ (xs : List Stmt). stmts_code o (stmts xs)) c.as_slice-in-If.ensures.value in
    let second : core_stmts c.emit_stmts-in-If-2.new.code.items ≡ stmts_code o other =
    c.in_ok-emit_stmts-in-If-2.ensures ∙ ap (λ (xs : List CoreStmt). join (core_stmts xs) (stmts_code o (stmts c.as_slice-in-If-2.result.now))) c.new-second.ensures.items ∙ ap (λ (xs : List Stmt). stmts_code o (stmts xs)) c.as_slice-in-If-2.ensures.value in
    let here = core_stmts c.emit.new.code.items in
    on_ok_weaker c.push_choice.result
    (λ h. parts c.args.code.now.items c.emit_maybe.new.code.items c.push_choice.new.code.items (maybe_code o init) (join (before o 0 e) (one (choose (value o 0 e) (stmts_code o body) (stmts_code o other)))) c.in_ok-emit_maybe-in-If.ensures
    (parts c.emit_maybe.new.code.items c.emit.new.code.items c.push_choice.new.code.items (before o 0 e) (one (choose (value o 0 e) (stmts_code o body) (stmts_code o other))) c.in_ok-condition-in-If.ensures.code
    (h ∙ ap (λ (v : CoreExpr). join here (one (choose v (core_stmts c.emit_stmts-in-If.new.code.items) (core_stmts c.emit_stmts-in-If-2.new.code.items)))) c.in_ok-condition-in-If.ensures.value
    ∙ ap (λ (a : CoreStmts). join here (one (choose (value o 0 e) a (core_stmts c.emit_stmts-in-If-2.new.code.items)))) first
    ∙ ap (λ (b : CoreStmts). join here (one (choose (value o 0 e) (stmts_code o body) b))) second))
    ∙ ap (λ (s : Stmt). join old (stmt_code o s)) (sym is))
    c.push_choice.ensures

pub emit_stmt-returns-in_ok-emit_maybe-in-Loop-2 : goal.emit_stmt-returns-in_ok-emit_maybe-in-Loop-2
emit_stmt-returns-in_ok-emit_maybe-in-Loop-2 t c =
    let o = shown c.args.o.now in
    let e = maybe c.in-Loop.e in
    let init = maybe_stmt c.in-Loop.init in
    let post = maybe_stmt c.in-Loop.post in
    let body = stmts c.in-Loop.body.items in
    let old = core_stmts c.args.code.now.items in
    let is : c.args.s.now ≡ stmt c.s.inside.at (loop c.in-Loop.field-0 init e post body) = sym c.s.view_is ∙ ap (λ (k : TStmtKind). stmt c.s.inside.at (stmt_kind k)) (sym c.deref.ensures ∙ c.in-Loop.is) in
    let test : core_stmts c.emit_test.new.code.items ≡ turn_code o e done = c.in_ok-emit_test-in-Loop.ensures ∙ ap (λ (xs : List CoreStmt). join (core_stmts xs) (turn_code o e done)) c.new-turn.ensures.items in
    let turn : core_stmts c.emit_maybe-in-Loop-2.new.code.items ≡ turn_code o e (join (stmts_code o body) (maybe_code o post)) =
    parts c.emit_test.new.code.items c.emit_stmts-in-Loop.new.code.items c.emit_maybe-in-Loop-2.new.code.items (stmts_code o body) (maybe_code o post)
    (c.in_ok-emit_stmts-in-Loop.ensures ∙ ap (λ (xs : List Stmt). join (core_stmts c.emit_test.new.code.items) (stmts_code o (stmts xs))) c.as_slice-in-Loop.ensures.value) c.in_ok-emit_maybe-in-Loop-2.ensures
    ∙ ap (λ (a : CoreStmts). join a (join (stmts_code o body) (maybe_code o post))) test ∙ turned o e (join (stmts_code o body) (maybe_code o post)) in
    on_ok_weaker c.push_loop.result
    (λ h. parts c.args.code.now.items c.emit_maybe-in-Loop.new.code.items c.push_loop.new.code.items (maybe_code o init) (one (repeat (turn_code o e (join (stmts_code o body) (maybe_code o post))))) c.in_ok-emit_maybe-in-Loop.ensures
    (h ∙ ap (λ (ss : CoreStmts). join (core_stmts c.emit_maybe-in-Loop.new.code.items) (one (repeat ss))) turn)
    ∙ ap (λ (s : Stmt). join old (stmt_code o s)) (sym is))
    c.push_loop.ensures

pub emit_stmt-returns-in_default : goal.emit_stmt-returns-in_default
emit_stmt-returns-in_default t c =
    let o = shown c.args.o.now in
    let old = core_stmts c.args.code.now.items in
    let kind = c.deref.result.now in
    let is : c.args.s.now ≡ stmt c.s.inside.at (stmt_kind kind) = sym c.s.view_is ∙ ap (λ (k : TStmtKind). stmt c.s.inside.at (stmt_kind k)) (sym c.deref.ensures) in
    let none = other_form o kind c.in_default.not-Declare c.in_default.not-Assign c.in_default.not-Eval c.in_default.not-Block c.in_default.not-If c.in_default.not-Loop c.in_default.not-Return in
    sym (ap (λ (s : Stmt). join old (stmt_code o s)) is ∙ ap (join old) none ∙ join_done old)

pub emit_stmts-emit_stmt-requires : goal.emit_stmts-emit_stmt-requires
emit_stmts-emit_stmt-requires t c = (omega (arith, stmt_falls c.args.ss.now c.loop-s.s-index c.s-item.result c.loop-s-test.true c.s-item.is), tt)

pub emit_stmts-loop-s-preserved : goal.emit_stmts-loop-s-preserved
emit_stmts-loop-s-preserved t c =
    stmts_more c.args.ss.now c.loop-s.s-index c.s-item.result c.loop-s.code.items c.emit_stmt.new.code.items _ (shown c.args.o.now) c.loop-s-test.true c.s-item.is c.loop-s.invariant c.in_ok-emit_stmt.ensures

pub emit_stmts-returns : goal.emit_stmts-returns
emit_stmts-returns t c = stmts_end c.args.ss.now c.loop-s.s-index c.loop-s.code.items _ (shown c.args.o.now) (ended c.args.ss.now c.loop-s.s-index (omega (arith, c.loop-s-test.false))) c.loop-s.invariant
