use Rattle.std.proofs.Common.{◌≡◌, ◌+◌, arith, ap, rules}
use Rattle.odc_core.specs.declared.tree.CoreExpr.{the_lemmas}
use Rattle.odc_core.specs.View.{expr, exprs}
use Rattle.odc_lower.specs.Size.{expr_nodes, exprs_nodes}
use Rattle.odc_lower.proofs.Lists.{nodes_here}
use Rattle.odc_core.proofs.Views.{call_is, call_value_is}
use Rattle.odc_lower.proofs.size.+counts.Goals as goal

pub count-count_all-requires : goal.count-count_all-requires
count-count_all-requires t c =
    let nodes : expr_nodes (expr c.args.e.now) ≡ exprs_nodes (exprs c.deref.result.now) + 1 = ap expr_nodes (call_is c.args.e.now c.in-Call.field-0 c.in-Call.arguments c.deref.result.now c.in-Call.is c.deref.ensures.value) in
    (first_of (search (rules, the_lemmas), grind (arith, the_lemmas)), omega (arith, nodes, c.requires))

pub count-overflow_add-result : goal.count-overflow_add-result
count-overflow_add-result t c =
    let nodes : expr_nodes (expr c.args.e.now) ≡ exprs_nodes (exprs c.deref.result.now) + 1 = ap expr_nodes (call_is c.args.e.now c.in-Call.field-0 c.in-Call.arguments c.deref.result.now c.in-Call.is c.deref.ensures.value) in
    omega (arith, nodes, c.requires, c.count_all.ensures)

pub count-returns-in-Call : goal.count-returns-in-Call
count-returns-in-Call t c =
    let nodes : expr_nodes (expr c.args.e.now) ≡ exprs_nodes (exprs c.deref.result.now) + 1 = ap expr_nodes (call_is c.args.e.now c.in-Call.field-0 c.in-Call.arguments c.deref.result.now c.in-Call.is c.deref.ensures.value) in
    omega (arith, nodes, c.count_all.ensures)

pub count-count_all-requires-in-CallValue : goal.count-count_all-requires-in-CallValue
count-count_all-requires-in-CallValue t c =
    let nodes : expr_nodes (expr c.args.e.now) ≡ expr_nodes (expr c.deref-in-CallValue.result.now) + exprs_nodes (exprs c.deref-in-CallValue-2.result.now) + 1 = ap expr_nodes (call_value_is c.args.e.now c.in-CallValue.target c.in-CallValue.arguments c.in-CallValue.field-2 c.deref-in-CallValue.result.now c.deref-in-CallValue-2.result.now c.in-CallValue.is c.deref-in-CallValue.ensures c.deref-in-CallValue-2.ensures.value) in
    (first_of (search (rules, the_lemmas), grind (arith, the_lemmas)), omega (arith, nodes, c.requires))

pub count-overflow_add-result-in-CallValue : goal.count-overflow_add-result-in-CallValue
count-overflow_add-result-in-CallValue t c =
    let nodes : expr_nodes (expr c.args.e.now) ≡ expr_nodes (expr c.deref-in-CallValue.result.now) + exprs_nodes (exprs c.deref-in-CallValue-2.result.now) + 1 = ap expr_nodes (call_value_is c.args.e.now c.in-CallValue.target c.in-CallValue.arguments c.in-CallValue.field-2 c.deref-in-CallValue.result.now c.deref-in-CallValue-2.result.now c.in-CallValue.is c.deref-in-CallValue.ensures c.deref-in-CallValue-2.ensures.value) in
    omega (arith, nodes, c.requires, c.count.ensures, c.count_all-in-CallValue.ensures)

pub count-overflow_add-result-in-CallValue-2 : goal.count-overflow_add-result-in-CallValue-2
count-overflow_add-result-in-CallValue-2 t c =
    let nodes : expr_nodes (expr c.args.e.now) ≡ expr_nodes (expr c.deref-in-CallValue.result.now) + exprs_nodes (exprs c.deref-in-CallValue-2.result.now) + 1 = ap expr_nodes (call_value_is c.args.e.now c.in-CallValue.target c.in-CallValue.arguments c.in-CallValue.field-2 c.deref-in-CallValue.result.now c.deref-in-CallValue-2.result.now c.in-CallValue.is c.deref-in-CallValue.ensures c.deref-in-CallValue-2.ensures.value) in
    omega (arith, nodes, c.requires, c.count.ensures, c.count_all-in-CallValue.ensures)

pub count-returns-in-CallValue : goal.count-returns-in-CallValue
count-returns-in-CallValue t c =
    let nodes : expr_nodes (expr c.args.e.now) ≡ expr_nodes (expr c.deref-in-CallValue.result.now) + exprs_nodes (exprs c.deref-in-CallValue-2.result.now) + 1 = ap expr_nodes (call_value_is c.args.e.now c.in-CallValue.target c.in-CallValue.arguments c.in-CallValue.field-2 c.deref-in-CallValue.result.now c.deref-in-CallValue-2.result.now c.in-CallValue.is c.deref-in-CallValue.ensures c.deref-in-CallValue-2.ensures.value) in
    omega (arith, nodes, c.count.ensures, c.count_all-in-CallValue.ensures)

pub count_all-count-total-requires : goal.count_all-count-total-requires
count_all-count-total-requires t c =
    let here = nodes_here c.args.es.now c.loop-e.e-index c.e-item.result c.loop-e-test.true c.e-item.is in
    (first_of (search (rules, the_lemmas), grind (arith, the_lemmas)), omega (arith, here, c.loop-e.invariant, c.requires))

pub count_all-overflow_add-total : goal.count_all-overflow_add-total
count_all-overflow_add-total t c =
    let here = nodes_here c.args.es.now c.loop-e.e-index c.e-item.result c.loop-e-test.true c.e-item.is in
    omega (arith, here, c.loop-e.invariant, c.requires, c.count-total.ensures)

pub count_all-loop-e-preserved : goal.count_all-loop-e-preserved
count_all-loop-e-preserved t c =
    let here = nodes_here c.args.es.now c.loop-e.e-index c.e-item.result c.loop-e-test.true c.e-item.is in
    omega (arith, here, c.loop-e.invariant, c.count-total.ensures)
