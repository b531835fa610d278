use Rattle.std.proofs.Common.{◌≡◌, ◌+◌, arith, ap, ◌∙◌, sym, length, rules}
use Rattle.std.specs.Prelude.{max}
use Rattle.std.proofs.lemmas.Result.{on_ok_weaker}
use Rattle.odc_core.specs.Tree.{call as core_call}
use Rattle.odc_core.specs.View.{stmts}
use Rattle.odc_typed.specs.declared.tree.TExpr.{TExpr, the_lemmas}
use Rattle.odc_typed.specs.Tree.{Expr, binary, call, builtin}
use Rattle.odc_typed.specs.View.{expr, expr_kind, exprs}
use Rattle.odc_typed.proofs.Views.{call_is, builtin_is}
use Rattle.odc_context.specs.Code.{join, one, wait, all_waiting, operation_code, builtin_code, expr_code, exprs_code, count, depth_of, depth_of_all}
use Rattle.odc_context.specs.View.{own}
use Rattle.odc_context.proofs.Joins.{parts}
use Rattle.odc_context.proofs.Lists.{exprs_more, exprs_end}
use Rattle.odc_context.proofs.Sources.{depth_here, count_is}
use Rattle.odc_context.proofs.simulation.Values.{few}
use Rattle.odc_context.proofs.expression.+expressions.Goals as goal

pub emit_expr-emit_expr-requires : goal.emit_expr-emit_expr-requires
emit_expr-emit_expr-requires t c =
    let e = c.args.e.now in
    let depth : depth_of (expr e) ≡ max (depth_of (expr c.in-Binary.left.value)) (1 + depth_of (expr c.in-Binary.right.value)) = ap (λ (k : _). depth_of (expr_kind k e.at)) c.in-Binary.is in
    let same : depth_of (expr c.deref.result.now) ≡ depth_of (expr c.in-Binary.left.value) = ap (λ (x : TExpr). depth_of (expr x)) c.deref.ensures in
    (first_of (search (rules, the_lemmas), grind (arith, the_lemmas)), omega (arith, depth, same, c.requires))

pub emit_expr-emit_expr-requires-in-Binary : goal.emit_expr-emit_expr-requires-in-Binary
emit_expr-emit_expr-requires-in-Binary t c =
    let e = c.args.e.now in
    let depth : depth_of (expr e) ≡ max (depth_of (expr c.in-Binary.left.value)) (1 + depth_of (expr c.in-Binary.right.value)) = ap (λ (k : _). depth_of (expr_kind k e.at)) c.in-Binary.is in
    let same : depth_of (expr c.deref-in-Binary.result.now) ≡ depth_of (expr c.in-Binary.right.value) = ap (λ (x : TExpr). depth_of (expr x)) c.deref-in-Binary.ensures in
    (first_of (search (rules, the_lemmas), grind (arith, the_lemmas)), omega (arith, depth, same, c.requires))

pub emit_expr-returns-in_ok-emit_expr-in-Binary-2 : goal.emit_expr-returns-in_ok-emit_expr-in-Binary-2
emit_expr-returns-in_ok-emit_expr-in-Binary-2 t c =
    let e = c.args.e.now in
    let o = own c.args.o in
    let d = c.args.d in
    let left = expr c.deref.result.now in
    let right = expr c.deref-in-Binary.result.now in
    let is : expr e ≡ binary e.at c.in-Binary.op left right =
    ap (λ (k : _). expr_kind k e.at) c.in-Binary.is ∙ ap (λ (x : TExpr). binary e.at c.in-Binary.op (expr x) (expr c.in-Binary.right.value)) (sym c.deref.ensures) ∙ ap (λ (x : TExpr). binary e.at c.in-Binary.op left (expr x)) (sym c.deref-in-Binary.ensures) in
    on_ok_weaker c.emit_operation.result
    (λ h. parts c.args.code.now.items c.emit_expr.new.code.items c.emit_operation.new.code.items (expr_code o d left) (join (expr_code o (d + 1) right) (operation_code o d e.at c.in-Binary.op)) c.in_ok-emit_expr-in-Binary.ensures
    (parts c.emit_expr.new.code.items c.emit_expr-in-Binary.new.code.items c.emit_operation.new.code.items (expr_code o (d + 1) right) (operation_code o d e.at c.in-Binary.op) c.in_ok-emit_expr-in-Binary-2.ensures h)
    ∙ ap (λ (x : Expr). join (stmts c.args.code.now.items) (expr_code o d x)) (sym is))
    c.emit_operation.ensures

pub emit_expr-emit_exprs-requires : goal.emit_expr-emit_exprs-requires
emit_expr-emit_exprs-requires t c =
    let e = c.args.e.now in
    let is : expr e ≡ call e.at c.in-Call.procedure (exprs c.deref-in-Call.result.now) = call_is e.kind e.at c.in-Call.procedure c.in-Call.arguments c.deref-in-Call.result.now c.in-Call.is c.deref-in-Call.ensures.value in
    let depth : depth_of (expr e) ≡ max 1 (depth_of_all (exprs c.deref-in-Call.result.now)) = ap depth_of is in
    (first_of (search (rules, the_lemmas), grind (arith, the_lemmas)), omega (arith, depth, c.requires))

pub emit_expr-overflow_cast-len : goal.emit_expr-overflow_cast-len
emit_expr-overflow_cast-len t c =
    let e = c.args.e.now in
    let is : expr e ≡ call e.at c.in-Call.procedure (exprs c.deref-in-Call.result.now) = call_is e.kind e.at c.in-Call.procedure c.in-Call.arguments c.deref-in-Call.result.now c.in-Call.is c.deref-in-Call.ensures.value in
    let depth : depth_of (expr e) ≡ max 1 (depth_of_all (exprs c.deref-in-Call.result.now)) = ap depth_of is in
    let size : c.len.result ≡ count (exprs c.deref-in-Call.result.now) = c.len.ensures ∙ sym c.deref-in-Call.ensures.len ∙ sym (count_is c.deref-in-Call.result.now) in
    let some = few (exprs c.deref-in-Call.result.now) in
    omega (arith, depth, size, some, c.requires)

pub emit_expr-push_call-requires : goal.emit_expr-push_call-requires
emit_expr-push_call-requires t c =
    let e = c.args.e.now in
    let is : expr e ≡ call e.at c.in-Call.procedure (exprs c.deref-in-Call.result.now) = call_is e.kind e.at c.in-Call.procedure c.in-Call.arguments c.deref-in-Call.result.now c.in-Call.is c.deref-in-Call.ensures.value in
    let depth : depth_of (expr e) ≡ max 1 (depth_of_all (exprs c.deref-in-Call.result.now)) = ap depth_of is in
    let size : c.len.result ≡ count (exprs c.deref-in-Call.result.now) = c.len.ensures ∙ sym c.deref-in-Call.ensures.len ∙ sym (count_is c.deref-in-Call.result.now) in
    let some = few (exprs c.deref-in-Call.result.now) in
    omega (arith, depth, size, some, c.requires)

pub emit_expr-returns-in_ok-emit_exprs-in-Call : goal.emit_expr-returns-in_ok-emit_exprs-in-Call
emit_expr-returns-in_ok-emit_exprs-in-Call t c =
    let e = c.args.e.now in
    let is : expr e ≡ call e.at c.in-Call.procedure (exprs c.deref-in-Call.result.now) = call_is e.kind e.at c.in-Call.procedure c.in-Call.arguments c.deref-in-Call.result.now c.in-Call.is c.deref-in-Call.ensures.value in
    let o = own c.args.o in
    let d = c.args.d in
    let many = c.len.ensures ∙ sym c.deref-in-Call.ensures.len ∙ sym (count_is c.deref-in-Call.result.now) in
    on_ok_weaker c.push_call.result
    (λ h. parts c.args.code.now.items c.emit_exprs.new.code.items c.push_call.new.code.items (exprs_code o d (exprs c.deref-in-Call.result.now)) (one (wait o d (core_call c.in-Call.procedure (all_waiting o d (count (exprs c.deref-in-Call.result.now)))))) c.in_ok-emit_exprs-in-Call.ensures (h ∙ ap (λ (n : _). join (stmts c.emit_exprs.new.code.items) (one (wait o d (core_call c.in-Call.procedure (all_waiting o d n))))) many)
    ∙ ap (λ (x : Expr). join (stmts c.args.code.now.items) (expr_code o d x)) (sym is))
    c.push_call.ensures

pub emit_expr-emit_exprs-requires-in-Builtin : goal.emit_expr-emit_exprs-requires-in-Builtin
emit_expr-emit_exprs-requires-in-Builtin t c =
    let e = c.args.e.now in
    let is : expr e ≡ builtin e.at c.in-Builtin.which (exprs c.deref-in-Builtin.result.now) = builtin_is e.kind e.at c.in-Builtin.which c.in-Builtin.arguments c.deref-in-Builtin.result.now c.in-Builtin.is c.deref-in-Builtin.ensures.value in
    let depth : depth_of (expr e) ≡ depth_of_all (exprs c.deref-in-Builtin.result.now) = ap depth_of is in
    (first_of (search (rules, the_lemmas), grind (arith, the_lemmas)), omega (arith, depth, c.requires))

pub emit_expr-overflow_cast-len-in-Builtin : goal.emit_expr-overflow_cast-len-in-Builtin
emit_expr-overflow_cast-len-in-Builtin t c =
    let e = c.args.e.now in
    let is : expr e ≡ builtin e.at c.in-Builtin.which (exprs c.deref-in-Builtin.result.now) = builtin_is e.kind e.at c.in-Builtin.which c.in-Builtin.arguments c.deref-in-Builtin.result.now c.in-Builtin.is c.deref-in-Builtin.ensures.value in
    let depth : depth_of (expr e) ≡ depth_of_all (exprs c.deref-in-Builtin.result.now) = ap depth_of is in
    let size : c.len-in-Builtin.result ≡ count (exprs c.deref-in-Builtin.result.now) = c.len-in-Builtin.ensures ∙ sym c.deref-in-Builtin.ensures.len ∙ sym (count_is c.deref-in-Builtin.result.now) in
    let some = few (exprs c.deref-in-Builtin.result.now) in
    omega (arith, depth, size, some, c.requires)

pub emit_expr-push_builtin-requires : goal.emit_expr-push_builtin-requires
emit_expr-push_builtin-requires t c =
    let e = c.args.e.now in
    let is : expr e ≡ builtin e.at c.in-Builtin.which (exprs c.deref-in-Builtin.result.now) = builtin_is e.kind e.at c.in-Builtin.which c.in-Builtin.arguments c.deref-in-Builtin.result.now c.in-Builtin.is c.deref-in-Builtin.ensures.value in
    let depth : depth_of (expr e) ≡ depth_of_all (exprs c.deref-in-Builtin.result.now) = ap depth_of is in
    let size : c.len-in-Builtin.result ≡ count (exprs c.deref-in-Builtin.result.now) = c.len-in-Builtin.ensures ∙ sym c.deref-in-Builtin.ensures.len ∙ sym (count_is c.deref-in-Builtin.result.now) in
    let some = few (exprs c.deref-in-Builtin.result.now) in
    omega (arith, depth, size, some, c.requires)

pub emit_expr-returns-in_ok-emit_exprs-in-Builtin : goal.emit_expr-returns-in_ok-emit_exprs-in-Builtin
emit_expr-returns-in_ok-emit_exprs-in-Builtin t c =
    let e = c.args.e.now in
    let is : expr e ≡ builtin e.at c.in-Builtin.which (exprs c.deref-in-Builtin.result.now) = builtin_is e.kind e.at c.in-Builtin.which c.in-Builtin.arguments c.deref-in-Builtin.result.now c.in-Builtin.is c.deref-in-Builtin.ensures.value in
    let o = own c.args.o in
    let d = c.args.d in
    let many = c.len-in-Builtin.ensures ∙ sym c.deref-in-Builtin.ensures.len ∙ sym (count_is c.deref-in-Builtin.result.now) in
    on_ok_weaker c.push_builtin.result
    (λ h. parts c.args.code.now.items c.emit_exprs-in-Builtin.new.code.items c.push_builtin.new.code.items (exprs_code o d (exprs c.deref-in-Builtin.result.now)) (builtin_code o d c.in-Builtin.which (count (exprs c.deref-in-Builtin.result.now))) c.in_ok-emit_exprs-in-Builtin.ensures (h ∙ ap (λ (n : _). join (stmts c.emit_exprs-in-Builtin.new.code.items) (builtin_code o d c.in-Builtin.which n)) many)
    ∙ ap (λ (x : Expr). join (stmts c.args.code.now.items) (expr_code o d x)) (sym is))
    c.push_builtin.ensures

pub emit_exprs-emit_expr-requires : goal.emit_exprs-emit_expr-requires
emit_exprs-emit_expr-requires t c =
    let here = depth_here c.args.es.now c.loop-i.i c.index-es-i.result c.loop-i-test.true c.index-es-i.is in
    (first_of (search (rules, the_lemmas), grind (arith, the_lemmas)), omega (arith, here, c.loop-i.invariant.wait, c.requires))

pub emit_exprs-loop-i-preserved : goal.emit_exprs-loop-i-preserved
emit_exprs-loop-i-preserved t c =
    let o = own c.args.o in
    let here = depth_here c.args.es.now c.loop-i.i c.index-es-i.result c.loop-i-test.true c.index-es-i.is in
    record {
      code = exprs_more c.args.es.now c.loop-i.i c.args.d c.index-es-i.result c.loop-i.code.items c.emit_expr.new.code.items (join (stmts c.args.code.now.items) (exprs_code o c.args.d (exprs c.args.es.now))) o
          c.loop-i-test.true c.index-es-i.is c.loop-i.invariant.code c.in_ok-emit_expr.ensures;
      wait = omega (arith, here, c.loop-i.invariant.wait);
    }

pub emit_exprs-returns : goal.emit_exprs-returns
emit_exprs-returns t c =
    let o = own c.args.o in
    let end : c.loop-i.i ≡ length c.args.es.now = omega (arith, c.loop-i-test.false, c.loop-i.auto.i-end) in
    sym (exprs_end c.args.es.now c.loop-i.i (c.args.d + c.loop-i.i) c.loop-i.code.items o end) ∙ c.loop-i.invariant.code
