use Rattle.std.proofs.Common.{◌≡◌, ◌+◌, ◌∙◌, ap, sym, map, length, arith, rules}
use Rattle.std.proofs.lemmas.Result.{on_ok_weaker}
use Rattle.odc_core.specs.declared.tree.CoreExpr.{the_lemmas}
use Rattle.odc_core.specs.View.{expr, exprs}
use Rattle.odc_lower.specs.Plain.{plain}
use Rattle.odc_lower.specs.Size.{expr_nodes, exprs_nodes}
use Rattle.odc_lower.proofs.Emitted.{call_emitted, call_value_emitted, exprs_more}
use Rattle.odc_lower.proofs.Lists.{nodes_here, exprs_many}
use Rattle.odc_lower.proofs.Sizes.{expr_some}
use Rattle.odc_core.proofs.Views.{call_is, call_value_is}
use Rattle.odc_lower.proofs.expression.+expressions.Goals as goal

pub emit_expr-emit_exprs-requires : goal.emit_expr-emit_exprs-requires
emit_expr-emit_exprs-requires t c =
    let nodes : expr_nodes (expr c.args.e.now) ≡ exprs_nodes (exprs c.deref-in-Call.result.now) + 1 = ap expr_nodes (call_is c.args.e.now c.in-Call.f c.in-Call.arguments c.deref-in-Call.result.now c.in-Call.is c.deref-in-Call.ensures.value) in
    (first_of (search (rules, the_lemmas), grind (arith, the_lemmas)), omega (arith, nodes, c.requires))

pub emit_expr-overflow_cast-len : goal.emit_expr-overflow_cast-len
emit_expr-overflow_cast-len t c =
    let nodes : expr_nodes (expr c.args.e.now) ≡ exprs_nodes (exprs c.deref-in-Call.result.now) + 1 = ap expr_nodes (call_is c.args.e.now c.in-Call.f c.in-Call.arguments c.deref-in-Call.result.now c.in-Call.is c.deref-in-Call.ensures.value) in
    let many = exprs_many c.deref-in-Call.result.now in
    let size : c.len.result ≡ length c.deref-in-Call.result.now = c.len.ensures ∙ sym c.deref-in-Call.ensures.len in
    omega (arith, nodes, many, size, c.requires)

pub emit_expr-push_call-requires : goal.emit_expr-push_call-requires
emit_expr-push_call-requires t c =
    let nodes : expr_nodes (expr c.args.e.now) ≡ exprs_nodes (exprs c.deref-in-Call.result.now) + 1 = ap expr_nodes (call_is c.args.e.now c.in-Call.f c.in-Call.arguments c.deref-in-Call.result.now c.in-Call.is c.deref-in-Call.ensures.value) in
    let many = exprs_many c.deref-in-Call.result.now in
    let size : c.len.result ≡ length c.deref-in-Call.result.now = c.len.ensures ∙ sym c.deref-in-Call.ensures.len in
    omega (arith, nodes, many, size, c.requires)

pub emit_expr-returns-in_ok-emit_exprs-in-Call : goal.emit_expr-returns-in_ok-emit_exprs-in-Call
emit_expr-returns-in_ok-emit_exprs-in-Call t c =
    let many = exprs_many c.deref-in-Call.result.now in
    let size : c.len.result ≡ length c.deref-in-Call.result.now = c.len.ensures ∙ sym c.deref-in-Call.ensures.len in
    on_ok_weaker c.push_call.result (λ h. call_emitted (map plain c.args.steps.now.items) (map plain c.emit_exprs.new.steps.items) (map plain c.push_call.new.steps.items) c.args.d c.in-Call.f c.len.result (expr c.args.e.now) c.deref-in-Call.result.now
    (call_is c.args.e.now c.in-Call.f c.in-Call.arguments c.deref-in-Call.result.now c.in-Call.is c.deref-in-Call.ensures.value) size c.in_ok-emit_exprs-in-Call.ensures h) c.push_call.ensures

pub emit_expr-emit_exprs-requires-in-CallValue : goal.emit_expr-emit_exprs-requires-in-CallValue
emit_expr-emit_exprs-requires-in-CallValue t c =
    let nodes : expr_nodes (expr c.args.e.now) ≡ expr_nodes (expr c.deref-in-CallValue.result.now) + exprs_nodes (exprs c.deref-in-CallValue-2.result.now) + 1 = ap expr_nodes (call_value_is c.args.e.now c.in-CallValue.target c.in-CallValue.arguments c.in-CallValue.marked c.deref-in-CallValue.result.now c.deref-in-CallValue-2.result.now c.in-CallValue.is c.deref-in-CallValue.ensures c.deref-in-CallValue-2.ensures.value) in
    (first_of (search (rules, the_lemmas), grind (arith, the_lemmas)), omega (arith, nodes, c.requires))

pub emit_expr-overflow_cast-len-in-CallValue : goal.emit_expr-overflow_cast-len-in-CallValue
emit_expr-overflow_cast-len-in-CallValue t c =
    let nodes : expr_nodes (expr c.args.e.now) ≡ expr_nodes (expr c.deref-in-CallValue.result.now) + exprs_nodes (exprs c.deref-in-CallValue-2.result.now) + 1 = ap expr_nodes (call_value_is c.args.e.now c.in-CallValue.target c.in-CallValue.arguments c.in-CallValue.marked c.deref-in-CallValue.result.now c.deref-in-CallValue-2.result.now c.in-CallValue.is c.deref-in-CallValue.ensures c.deref-in-CallValue-2.ensures.value) in
    let many = exprs_many c.deref-in-CallValue-2.result.now in
    let size : c.len-in-CallValue.result ≡ length c.deref-in-CallValue-2.result.now = c.len-in-CallValue.ensures ∙ sym c.deref-in-CallValue-2.ensures.len in
    omega (arith, nodes, many, size, c.requires)

pub emit_expr-push_call_value-requires : goal.emit_expr-push_call_value-requires
emit_expr-push_call_value-requires t c =
    let nodes : expr_nodes (expr c.args.e.now) ≡ expr_nodes (expr c.deref-in-CallValue.result.now) + exprs_nodes (exprs c.deref-in-CallValue-2.result.now) + 1 = ap expr_nodes (call_value_is c.args.e.now c.in-CallValue.target c.in-CallValue.arguments c.in-CallValue.marked c.deref-in-CallValue.result.now c.deref-in-CallValue-2.result.now c.in-CallValue.is c.deref-in-CallValue.ensures c.deref-in-CallValue-2.ensures.value) in
    let many = exprs_many c.deref-in-CallValue-2.result.now in
    let size : c.len-in-CallValue.result ≡ length c.deref-in-CallValue-2.result.now = c.len-in-CallValue.ensures ∙ sym c.deref-in-CallValue-2.ensures.len in
    omega (arith, nodes, many, size, c.requires)

pub emit_expr-returns-in_ok-emit_exprs-in-CallValue : goal.emit_expr-returns-in_ok-emit_exprs-in-CallValue
emit_expr-returns-in_ok-emit_exprs-in-CallValue t c =
    let many = exprs_many c.deref-in-CallValue-2.result.now in
    let size : c.len-in-CallValue.result ≡ length c.deref-in-CallValue-2.result.now = c.len-in-CallValue.ensures ∙ sym c.deref-in-CallValue-2.ensures.len in
    on_ok_weaker c.push_call_value.result (λ h. call_value_emitted (map plain c.args.steps.now.items) (map plain c.emit_expr-in-CallValue.new.steps.items) (map plain c.emit_exprs-in-CallValue.new.steps.items) (map plain c.push_call_value.new.steps.items)
    c.args.d c.len-in-CallValue.result c.in-CallValue.marked (expr c.args.e.now) (expr c.deref-in-CallValue.result.now) c.deref-in-CallValue-2.result.now
    (call_value_is c.args.e.now c.in-CallValue.target c.in-CallValue.arguments c.in-CallValue.marked c.deref-in-CallValue.result.now c.deref-in-CallValue-2.result.now c.in-CallValue.is c.deref-in-CallValue.ensures c.deref-in-CallValue-2.ensures.value) size c.in_ok-emit_expr-in-CallValue.ensures c.in_ok-emit_exprs-in-CallValue.ensures h) c.push_call_value.ensures

pub emit_exprs-loop-i-preserved : goal.emit_exprs-loop-i-preserved
emit_exprs-loop-i-preserved t c =
    let nodes = nodes_here c.args.es.now c.loop-i.i c.index-es-i.result c.loop-i-test.true c.index-es-i.is in
    let some = expr_some (expr c.index-es-i.result) in
    record {
      code = exprs_more c.args.es.now c.loop-i.i c.args.d c.index-es-i.result _ _ _ c.loop-i-test.true c.index-es-i.is c.loop-i.invariant.code c.in_ok-emit_expr.ensures;
      nodes = omega (arith, nodes, some, c.loop-i.invariant.nodes);
    }
