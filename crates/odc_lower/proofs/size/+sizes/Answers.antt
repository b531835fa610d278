use Rattle.std.proofs.Common.{◌≡◌, ◌+◌, arith, ap, refl, rules}
use Rattle.odc_core.specs.declared.tree.CoreStmt.{the_lemmas}
use Rattle.odc_core.specs.View.{expr, stmt, stmts}
use Rattle.odc_lower.specs.Size.{expr_nodes, stmt_nodes, stmts_nodes, stmt_size, stmts_size}
use Rattle.odc_lower.proofs.Lists.{stmts_nodes_here, stmts_nodes_left, stmts_size_here}
use Rattle.odc_lower.proofs.Sizes.{stmts_size_small}
use Rattle.odc_core.proofs.Views.{choice_is, loop_is}
use Rattle.odc_lower.proofs.size.+sizes.Goals as goal

pub size-size_of_all-requires : goal.size-size_of_all-requires
size-size_of_all-requires t c =
    let nodes : stmt_nodes (stmt c.args.s.now) ≡ expr_nodes (expr c.in-If.condition) + stmts_nodes (stmts c.deref.result.now) + stmts_nodes (stmts c.in-If.second.items) + 1 = ap stmt_nodes (choice_is c.args.s.now c.in-If.condition c.in-If.first c.in-If.second c.deref.result.now c.in-If.second.items c.in-If.is c.deref.ensures.value refl) in
    (first_of (search (rules, the_lemmas), grind (arith, the_lemmas)), omega (arith, nodes, c.requires))

pub size-overflow_add-result-in-If : goal.size-overflow_add-result-in-If
size-overflow_add-result-in-If t c =
    let nodes : stmt_nodes (stmt c.args.s.now) ≡ expr_nodes (expr c.in-If.condition) + stmts_nodes (stmts c.deref.result.now) + stmts_nodes (stmts c.in-If.second.items) + 1 = ap stmt_nodes (choice_is c.args.s.now c.in-If.condition c.in-If.first c.in-If.second c.deref.result.now c.in-If.second.items c.in-If.is c.deref.ensures.value refl) in
    let one = stmts_size_small (stmts c.deref.result.now) in
    omega (arith, nodes, one, c.requires, c.count-in-If.ensures, c.size_of_all.ensures)

pub size-size_of_all-requires-in-If : goal.size-size_of_all-requires-in-If
size-size_of_all-requires-in-If t c =
    let e = choice_is c.args.s.now c.in-If.condition c.in-If.first c.in-If.second c.deref.result.now c.deref-in-If.result.now c.in-If.is c.deref.ensures.value c.deref-in-If.ensures.value in
    let nodes : stmt_nodes (stmt c.args.s.now) ≡ expr_nodes (expr c.in-If.condition) + stmts_nodes (stmts c.deref.result.now) + stmts_nodes (stmts c.deref-in-If.result.now) + 1 = ap stmt_nodes e in
    let size : stmt_size (stmt c.args.s.now) ≡ expr_nodes (expr c.in-If.condition) + stmts_size (stmts c.deref.result.now) + stmts_size (stmts c.deref-in-If.result.now) + 2 = ap stmt_size e in
    let one = stmts_size_small (stmts c.deref.result.now) in
    let two = stmts_size_small (stmts c.deref-in-If.result.now) in
    (first_of (search (rules, the_lemmas), grind (arith, the_lemmas)), omega (arith, nodes, c.requires))

pub size-overflow_add-result-in-If-2 : goal.size-overflow_add-result-in-If-2
size-overflow_add-result-in-If-2 t c =
    let e = choice_is c.args.s.now c.in-If.condition c.in-If.first c.in-If.second c.deref.result.now c.deref-in-If.result.now c.in-If.is c.deref.ensures.value c.deref-in-If.ensures.value in
    let nodes : stmt_nodes (stmt c.args.s.now) ≡ expr_nodes (expr c.in-If.condition) + stmts_nodes (stmts c.deref.result.now) + stmts_nodes (stmts c.deref-in-If.result.now) + 1 = ap stmt_nodes e in
    let size : stmt_size (stmt c.args.s.now) ≡ expr_nodes (expr c.in-If.condition) + stmts_size (stmts c.deref.result.now) + stmts_size (stmts c.deref-in-If.result.now) + 2 = ap stmt_size e in
    let one = stmts_size_small (stmts c.deref.result.now) in
    let two = stmts_size_small (stmts c.deref-in-If.result.now) in
    omega (arith, nodes, one, two, c.requires, c.count-in-If.ensures, c.size_of_all.ensures, c.size_of_all-in-If.ensures)

pub size-overflow_add-result-in-If-3 : goal.size-overflow_add-result-in-If-3
size-overflow_add-result-in-If-3 t c =
    let e = choice_is c.args.s.now c.in-If.condition c.in-If.first c.in-If.second c.deref.result.now c.deref-in-If.result.now c.in-If.is c.deref.ensures.value c.deref-in-If.ensures.value in
    let nodes : stmt_nodes (stmt c.args.s.now) ≡ expr_nodes (expr c.in-If.condition) + stmts_nodes (stmts c.deref.result.now) + stmts_nodes (stmts c.deref-in-If.result.now) + 1 = ap stmt_nodes e in
    let size : stmt_size (stmt c.args.s.now) ≡ expr_nodes (expr c.in-If.condition) + stmts_size (stmts c.deref.result.now) + stmts_size (stmts c.deref-in-If.result.now) + 2 = ap stmt_size e in
    let one = stmts_size_small (stmts c.deref.result.now) in
    let two = stmts_size_small (stmts c.deref-in-If.result.now) in
    omega (arith, nodes, one, two, c.requires, c.count-in-If.ensures, c.size_of_all.ensures, c.size_of_all-in-If.ensures)

pub size-returns-in-If : goal.size-returns-in-If
size-returns-in-If t c =
    let e = choice_is c.args.s.now c.in-If.condition c.in-If.first c.in-If.second c.deref.result.now c.deref-in-If.result.now c.in-If.is c.deref.ensures.value c.deref-in-If.ensures.value in
    let nodes : stmt_nodes (stmt c.args.s.now) ≡ expr_nodes (expr c.in-If.condition) + stmts_nodes (stmts c.deref.result.now) + stmts_nodes (stmts c.deref-in-If.result.now) + 1 = ap stmt_nodes e in
    let size : stmt_size (stmt c.args.s.now) ≡ expr_nodes (expr c.in-If.condition) + stmts_size (stmts c.deref.result.now) + stmts_size (stmts c.deref-in-If.result.now) + 2 = ap stmt_size e in
    let one = stmts_size_small (stmts c.deref.result.now) in
    let two = stmts_size_small (stmts c.deref-in-If.result.now) in
    omega (arith, size, c.count-in-If.ensures, c.size_of_all.ensures, c.size_of_all-in-If.ensures)

pub size-size_of_all-requires-in-Loop : goal.size-size_of_all-requires-in-Loop
size-size_of_all-requires-in-Loop t c =
    let e = loop_is c.args.s.now c.in-Loop.body c.deref-in-Loop.result.now c.in-Loop.is c.deref-in-Loop.ensures.value in
    let nodes : stmt_nodes (stmt c.args.s.now) ≡ stmts_nodes (stmts c.deref-in-Loop.result.now) + 1 = ap stmt_nodes e in
    let size : stmt_size (stmt c.args.s.now) ≡ stmts_size (stmts c.deref-in-Loop.result.now) + 2 = ap stmt_size e in
    let one = stmts_size_small (stmts c.deref-in-Loop.result.now) in
    (first_of (search (rules, the_lemmas), grind (arith, the_lemmas)), omega (arith, nodes, c.requires))

pub size-overflow_add-result-in-Loop : goal.size-overflow_add-result-in-Loop
size-overflow_add-result-in-Loop t c =
    let e = loop_is c.args.s.now c.in-Loop.body c.deref-in-Loop.result.now c.in-Loop.is c.deref-in-Loop.ensures.value in
    let nodes : stmt_nodes (stmt c.args.s.now) ≡ stmts_nodes (stmts c.deref-in-Loop.result.now) + 1 = ap stmt_nodes e in
    let size : stmt_size (stmt c.args.s.now) ≡ stmts_size (stmts c.deref-in-Loop.result.now) + 2 = ap stmt_size e in
    let one = stmts_size_small (stmts c.deref-in-Loop.result.now) in
    omega (arith, nodes, one, c.requires, c.size_of_all-in-Loop.ensures)

pub size-returns-in-Loop : goal.size-returns-in-Loop
size-returns-in-Loop t c =
    let e = loop_is c.args.s.now c.in-Loop.body c.deref-in-Loop.result.now c.in-Loop.is c.deref-in-Loop.ensures.value in
    let nodes : stmt_nodes (stmt c.args.s.now) ≡ stmts_nodes (stmts c.deref-in-Loop.result.now) + 1 = ap stmt_nodes e in
    let size : stmt_size (stmt c.args.s.now) ≡ stmts_size (stmts c.deref-in-Loop.result.now) + 2 = ap stmt_size e in
    let one = stmts_size_small (stmts c.deref-in-Loop.result.now) in
    omega (arith, size, c.size_of_all-in-Loop.ensures)

pub size_of_all-size-total-requires : goal.size_of_all-size-total-requires
size_of_all-size-total-requires t c =
    let nodes = stmts_nodes_here c.args.ss.now c.loop-s.s-index c.s-item.result c.loop-s-test.true c.s-item.is in
    let left = stmts_nodes_left c.args.ss.now c.loop-s.s-index in
    (first_of (search (rules, the_lemmas), grind (arith, the_lemmas)), omega (arith, nodes, left, c.requires))

pub size_of_all-overflow_add-total : goal.size_of_all-overflow_add-total
size_of_all-overflow_add-total t c =
    let here = stmts_size_here c.args.ss.now c.loop-s.s-index c.s-item.result c.loop-s-test.true c.s-item.is in
    omega (arith, here, c.loop-s.invariant, c.requires, c.size-total.ensures, stmts_size_small (stmts c.args.ss.now))

pub size_of_all-loop-s-preserved : goal.size_of_all-loop-s-preserved
size_of_all-loop-s-preserved t c =
    let here = stmts_size_here c.args.ss.now c.loop-s.s-index c.s-item.result c.loop-s-test.true c.s-item.is in
    omega (arith, here, c.loop-s.invariant, c.size-total.ensures)
