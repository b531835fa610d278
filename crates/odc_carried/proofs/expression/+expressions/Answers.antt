use Rattle.std.proofs.Common.{◌≡◌, ℕ, ◌+◌, true, false, drop, ap, ◌∙◌, sym, arith}
use Rattle.std.specs.Prelude.{Vec}
use Rattle.std.specs.declared.alloc.Global.{Global}
use Rattle.std.proofs.lemmas.Result.{on_ok_weaker, IfOk-weaker}
use Rattle.odc_text.specs.declared.check.Check.TheVariants.{Division}
use Rattle.odc_program.specs.declared.tree.TExprKind.{TExprKind}
use Rattle.odc_program.specs.Trees.Tree.{Expr, Exprs, expr, const, local, binary, call}
use Rattle.odc_program.specs.Views.View.{expr_kind, exprs}
use Rattle.odc_core.specs.declared.tree.CoreExpr.{CoreExpr as Rust}
use Rattle.odc_core.specs.declared.tree.CoreStmt.{CoreStmt}
use Rattle.odc_core.specs.Tree.{Expr as CoreExpr, Exprs as CoreExprs, Stmts, finish, follow, check}
use Rattle.odc_core.specs.Tree.{call as core_call}
use Rattle.odc_core.specs.View.{expr as core_expr, exprs as core_exprs, stmts as core_stmts}
use Rattle.odc_carried.specs.Carried.{is_any_loud}
use Rattle.odc_carried.specs.Code.{needed_by, Way, nested, waiting, checking, way, join, one, wait, waits, before, before_by, befores, value, values}
use Rattle.odc_carried.specs.View.{shown}
use Rattle.odc_carried.specs.WayView.{shown_way}
use Rattle.odc_carried.proofs.emitting.Joins.{join_done, parts, always}
use Rattle.odc_carried.proofs.emitting.Operands.{nested_right, left_first, other_kind, waiting_code, waiting_values, last_code, last_values, befores_end, values_end}
use Rattle.odc_carried.proofs.emitting.Sources.{expr_falls, ended}
use Rattle.odc_carried.proofs.expression.+expressions.Goals as goal
use Rattle.odc_carried.proofs.expression.+expressions.Goals.{emit_arguments-then-i-until+in_ok-push_wait+in_ok-value_at+in_ok-push+in_ok-depth, emit_arguments-else-i-until+in_ok-push-2}

pub emit-returns-in-Const-clause-code : goal.emit-returns-in-Const-clause-code
emit-returns-in-Const-clause-code t c =
    let o = shown c.args.o.now in
    let old = core_stmts c.args.code.now.items in
    let is : c.args.e.now ≡ expr c.e.inside.ty.index c.e.inside.at (const c.in-Const.constant) = sym c.e.view_is ∙ ap (λ (k : TExprKind). expr c.e.inside.ty.index c.e.inside.at (expr_kind k)) (sym c.deref.ensures ∙ c.in-Const.is) in
    sym (ap (λ (x : Expr). join old (before o c.args.d x)) is ∙ join_done old)

pub emit-returns-in-Local-clause-code : goal.emit-returns-in-Local-clause-code
emit-returns-in-Local-clause-code t c =
    let o = shown c.args.o.now in
    let old = core_stmts c.args.code.now.items in
    let is : c.args.e.now ≡ expr c.e.inside.ty.index c.e.inside.at (local c.in-Local.x) = sym c.e.view_is ∙ ap (λ (k : TExprKind). expr c.e.inside.ty.index c.e.inside.at (expr_kind k)) (sym c.deref.ensures ∙ c.in-Local.is) in
    always c.word_in.result _ (sym (ap (λ (x : Expr). join old (before o c.args.d x)) is ∙ join_done old))

pub emit-returns-in_ok-value-in-Binary-clause-code : goal.emit-returns-in_ok-value-in-Binary-clause-code
emit-returns-in_ok-value-in-Binary-clause-code t c =
    let o = shown c.args.o.now in
    let d = c.args.d in
    let e = c.in-Binary.left in
    let f = c.in-Binary.right in
    let w : Way = way c.in-Binary.op f in
    let old = core_stmts c.args.code.now.items in
    let is : c.args.e.now ≡ expr c.e.inside.ty.index c.e.inside.at (binary c.in-Binary.op e f) = sym c.e.view_is ∙ ap (λ (k : TExprKind). expr c.e.inside.ty.index c.e.inside.at (expr_kind k)) (sym c.deref.ensures ∙ c.in-Binary.is) in
    let rest : CoreExpr → Stmts = λ v. before_by o d c.e.inside.at w finish v (before o (d + 1) f) (value o (d + 1) f) in
    on_ok_weaker c.emit_right.result
    (λ h. parts c.args.code.now.items c.emit-in-Binary.new.code.items c.emit_right.new.code.items (before o d e) (rest (value o d e)) c.in_ok-value-in-Binary.ensures.code (h ∙ ap (λ (v : CoreExpr). join (core_stmts c.emit-in-Binary.new.code.items) (rest v)) c.in_ok-value-in-Binary.ensures.value)
    ∙ ap (join old) (left_first o d c.e.inside.at w (before o d e) (value o d e) (before o (d + 1) f) (value o (d + 1) f))
    ∙ ap (λ (x : Expr). join old (before o d x)) (sym is))
    c.emit_right.ensures.code

pub emit-returns-in_ok-push_call-in-Call-clause-code : goal.emit-returns-in_ok-push_call-in-Call-clause-code
emit-returns-in_ok-push_call-in-Call-clause-code t c =
    let o = shown c.args.o.now in
    let d = c.args.d in
    let es = exprs c.in-Call.arguments.items in
    let old = core_stmts c.args.code.now.items in
    let is : c.args.e.now ≡ expr c.e.inside.ty.index c.e.inside.at (call c.in-Call.need c.in-Call.field-1.items es) = sym c.e.view_is ∙ ap (λ (k : TExprKind). expr c.e.inside.ty.index c.e.inside.at (expr_kind k)) (sym c.deref.ensures ∙ c.in-Call.is) in
    let f : ℕ = needed_by o c.in-Call.need in
    let same : exprs c.as_slice.result.now ≡ es = ap exprs c.as_slice.ensures.value in
    let called : core_stmts c.push_call.new.code.items ≡ join (core_stmts c.emit_arguments.new.code.items) (one (wait o d (core_call f (values o d es)))) =
    c.in_ok-push_call-in-Call.ensures
    ∙ ap (λ (g : ℕ). join (core_stmts c.emit_arguments.new.code.items) (one (wait o d (core_call g (core_exprs c.in_ok-values-in-Call.values.items))))) c.needed.ensures
    ∙ ap (λ (vs : CoreExprs). join (core_stmts c.emit_arguments.new.code.items) (one (wait o d (core_call f vs)))) (c.in_ok-values-in-Call.ensures.values ∙ ap (values o d) same) in
    always c.value_at.result _
    (parts c.args.code.now.items c.emit_arguments.new.code.items c.push_call.new.code.items (befores o d es) (one (wait o d (core_call f (values o d es)))) (c.in_ok-values-in-Call.ensures.code ∙ ap (λ (xs : Exprs). join old (befores o d xs)) same) called
    ∙ ap (λ (x : Expr). join old (before o d x)) (sym is))

pub emit-returns-in_default : goal.emit-returns-in_default
emit-returns-in_default t c =
    let o = shown c.args.o.now in
    let d = c.args.d in
    let old = core_stmts c.args.code.now.items in
    let kind = c.deref.result.now in
    let is : c.args.e.now ≡ expr c.e.inside.ty.index c.e.inside.at (expr_kind kind) = sym c.e.view_is ∙ ap (λ (k : TExprKind). expr c.e.inside.ty.index c.e.inside.at (expr_kind k)) (sym c.deref.ensures) in
    let other = other_kind o d c.e.inside.at kind c.in_default.not-Const c.in_default.not-Local c.in_default.not-Call c.in_default.not-Unary c.in_default.not-Binary in
    record {
      code = always c.value_at-in_default.result _ (sym (ap (λ (x : Expr). join old (before o d x)) is ∙ ap (join old) other.before ∙ join_done old));
      value = IfOk-weaker c.value_at-in_default.result _ _ (λ v e. e ∙ sym other.value ∙ ap (value o d) (sym is)) c.value_at-in_default.ensures;
    }

pub emit_arguments-emit-requires : goal.emit_arguments-emit-requires
emit_arguments-emit-requires t c = (omega (arith, expr_falls c.args.es.now c.loop-i.i c.index-es-i.result c.loop-i-test.true c.index-es-i.is), tt)

pub emit_arguments-loop-i-preserved : goal.emit_arguments-loop-i-preserved
emit_arguments-loop-i-preserved t c =
    let o = shown c.args.o.now in
    let es = c.args.es.now in
    let i = c.loop-i.i in
    let x = c.index-es-i.result in
    let k = c.loop-i.depth in
    let inside = c.loop-i-test.true in
    let here = c.index-es-i.is in
    elim c.if-i-until.branch [
      | emit_arguments-then-i-until+in_ok-push_wait+in_ok-value_at+in_ok-push+in_ok-depth w ↦
          let loud : is_any_loud (exprs (drop (i + 1) es)) ≡ true = c.loud_until-until.ensures.before (i + 1) w.if-i-until.true in
          let next = w.depth-is ∙ w.in_ok-depth.ensures in
          record {
            code = waiting_code o k es i x inside here c.loop-i.code.items c.emit.new.code.items c.if-i-until.code.items c.in_ok-value.value c.if-i-until.depth _ loud c.in_ok-value.ensures.code c.in_ok-value.ensures.value
                (ap (λ (v : Vec CoreStmt Global). core_stmts v.items) w.code-is ∙ w.in_ok-push_wait.ensures) next c.loop-i.invariant.code;
            values = waiting_values o k es i x inside here c.loop-i.values.items c.if-i-until.values.items w.in_ok-value_at.field-0 c.if-i-until.depth _ loud
                (ap (λ (v : Vec Rust Global). v.items) w.values-is ∙ w.in_ok-push.ensures.items) w.in_ok-value_at.ensures next c.loop-i.invariant.values;
          }
      | emit_arguments-else-i-until+in_ok-push-2 w ↦
          let quiet : is_any_loud (exprs (drop (i + 1) es)) ≡ false = c.loud_until-until.ensures.behind (i + 1) w.if-i-until.false in
          record {
            code = last_code o k es i x inside here c.loop-i.code.items c.if-i-until.code.items c.if-i-until.depth _ quiet
                (ap (λ (v : Vec CoreStmt Global). core_stmts v.items) w.code-is ∙ c.in_ok-value.ensures.code) c.loop-i.invariant.code;
            values = last_values o k es i x inside here c.loop-i.values.items c.if-i-until.values.items c.in_ok-value.value c.if-i-until.depth _ quiet
                (ap (λ (v : Vec Rust Global). v.items) w.values-is ∙ w.in_ok-push-2.ensures.items) c.in_ok-value.ensures.value w.depth-is c.loop-i.invariant.values;
          }
    ]

pub emit_arguments-returns-clause-code : goal.emit_arguments-returns-clause-code
emit_arguments-returns-clause-code t c = befores_end (shown c.args.o.now) c.loop-i.depth c.args.es.now c.loop-i.i c.loop-i.code.items _ (ended c.args.es.now c.loop-i.i (omega (arith, c.loop-i-test.false))) c.loop-i.invariant.code

pub emit_arguments-returns-clause-values : goal.emit_arguments-returns-clause-values
emit_arguments-returns-clause-values t c = values_end (shown c.args.o.now) c.loop-i.depth c.args.es.now c.loop-i.i c.loop-i.values.items _ (ended c.args.es.now c.loop-i.i (omega (arith, c.loop-i-test.false))) c.loop-i.invariant.values

pub emit_right-returns-in_ok-value-in-Nested-clause-code : goal.emit_right-returns-in_ok-value-in-Nested-clause-code
emit_right-returns-in_ok-value-in-Nested-clause-code t c =
    let o = shown c.args.o.now in
    let d = c.args.d in
    let f = c.args.right.now in
    let old = core_stmts c.args.code.now.items in
    let inner = c.in_ok-inner.inner in
    let w : way c.args.operator.op f ≡ nested = sym c.way_of.ensures ∙ ap shown_way c.in-Nested.is in
    always c.binary.result _
    (c.in_ok-value-in-Nested.ensures.code ∙ ap (join old) (nested_right o inner c.args.operator.op f w)
    ∙ ap (λ (y : Way). join old (before_by o d c.args.operator.at y finish (core_expr c.args.left) (before o (d + 1) f) (value o (d + 1) f))) (sym w))

pub emit_right-returns-in_ok-waiting-in-Waiting-clause-code : goal.emit_right-returns-in_ok-waiting-in-Waiting-clause-code
emit_right-returns-in_ok-waiting-in-Waiting-clause-code t c =
    let o = shown c.args.o.now in
    let d = c.args.d in
    let f = c.args.right.now in
    let v = core_expr c.args.left in
    let old = core_stmts c.args.code.now.items in
    let w : way c.args.operator.op f ≡ waiting = sym c.way_of.ensures ∙ ap shown_way c.in-Waiting.is in
    always c.binary-in-Waiting.result _
    (parts c.args.code.now.items c.push_wait.new.code.items c.emit-in-Waiting.new.code.items (one (wait o d v)) (before o (d + 1) f) c.in_ok-push_wait-in-Waiting.ensures (c.in_ok-value-in-Waiting.ensures.code ∙ ap (λ (n : ℕ). join (core_stmts c.push_wait.new.code.items) (before o n f)) c.in_ok-inner.ensures)
    ∙ ap (λ (y : Way). join old (before_by o d c.args.operator.at y finish v (before o (d + 1) f) (value o (d + 1) f))) (sym w))

pub emit_right-returns-in_ok-divisor-in-Checking-clause-code : goal.emit_right-returns-in_ok-divisor-in-Checking-clause-code
emit_right-returns-in_ok-divisor-in-Checking-clause-code t c =
    let o = shown c.args.o.now in
    let d = c.args.d in
    let f = c.args.right.now in
    let v = core_expr c.args.left in
    let old = core_stmts c.args.code.now.items in
    let inner = c.in_ok-inner.inner in
    let w : way c.args.operator.op f ≡ checking = sym c.way_of.ensures ∙ ap shown_way c.in-Checking.is in
    let divisor : ℕ → Stmts = λ n. follow (wait o n (value o n f)) (one (check (waits o n) Division c.args.operator.at)) in
    let last : core_stmts c.push_divisor.new.code.items ≡ join (core_stmts c.emit-in-Checking.new.code.items) (divisor inner) =
    c.in_ok-push_divisor-in-Checking.ensures ∙ ap (λ (y : CoreExpr). join (core_stmts c.emit-in-Checking.new.code.items) (follow (wait o inner y) (one (check (waits o inner) Division c.args.operator.at)))) c.in_ok-value-in-Checking.ensures.value in
    let both : core_stmts c.push_divisor.new.code.items ≡ join old (join (one (wait o d v)) (join (before o inner f) (divisor inner))) =
    parts c.args.code.now.items c.push_wait-in-Checking.new.code.items c.push_divisor.new.code.items (one (wait o d v)) (join (before o inner f) (divisor inner)) c.in_ok-push_wait-in-Checking.ensures
    (parts c.push_wait-in-Checking.new.code.items c.emit-in-Checking.new.code.items c.push_divisor.new.code.items (before o inner f) (divisor inner) c.in_ok-value-in-Checking.ensures.code last) in
    always c.binary-in-Checking.result _
    (both ∙ ap (λ (n : ℕ). join old (join (one (wait o d v)) (join (before o n f) (divisor n)))) c.in_ok-inner.ensures
    ∙ ap (λ (y : Way). join old (before_by o d c.args.operator.at y finish v (before o (d + 1) f) (value o (d + 1) f))) (sym w))
