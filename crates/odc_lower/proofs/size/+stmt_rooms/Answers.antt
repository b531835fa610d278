use Rattle.std.proofs.Common.{◌≡◌, ◌+◌, arith, ap, refl, rules}
use Rattle.std.specs.Prelude.{max}
use Rattle.odc_core.specs.declared.tree.CoreStmt.{the_lemmas}
use Rattle.odc_core.specs.View.{expr, stmt, stmts}
use Rattle.odc_lower.specs.Size.{expr_nodes, stmt_nodes, stmts_nodes, expr_room, stmt_room, stmts_room}
use Rattle.odc_lower.proofs.Lists.{stmts_nodes_here, stmts_nodes_left, stmts_room_here}
use Rattle.odc_core.proofs.Views.{choice_is, loop_is}
use Rattle.odc_lower.proofs.size.+stmt_rooms.Goals as goal

pub stmt_needs-needs_of_all-requires : goal.stmt_needs-needs_of_all-requires
stmt_needs-needs_of_all-requires t c =
    let nodes : stmt_nodes (stmt c.args.s.now) ≡ expr_nodes (expr c.in-If.condition) + stmts_nodes (stmts c.deref.result.now) + stmts_nodes (stmts c.in-If.second.items) + 1 = ap stmt_nodes (choice_is c.args.s.now c.in-If.condition c.in-If.first c.in-If.second c.deref.result.now c.in-If.second.items c.in-If.is c.deref.ensures.value refl) in
    (first_of (search (rules, the_lemmas), grind (arith, the_lemmas)), omega (arith, nodes, c.requires))

pub stmt_needs-needs_of_all-requires-in-If : goal.stmt_needs-needs_of_all-requires-in-If
stmt_needs-needs_of_all-requires-in-If t c =
    let e = choice_is c.args.s.now c.in-If.condition c.in-If.first c.in-If.second c.deref.result.now c.deref-in-If.result.now c.in-If.is c.deref.ensures.value c.deref-in-If.ensures.value in
    let nodes : stmt_nodes (stmt c.args.s.now) ≡ expr_nodes (expr c.in-If.condition) + stmts_nodes (stmts c.deref.result.now) + stmts_nodes (stmts c.deref-in-If.result.now) + 1 = ap stmt_nodes e in
    let room : stmt_room (stmt c.args.s.now) ≡ max (expr_room (expr c.in-If.condition)) (max (stmts_room (stmts c.deref.result.now)) (stmts_room (stmts c.deref-in-If.result.now))) = ap stmt_room e in
    (first_of (search (rules, the_lemmas), grind (arith, the_lemmas)), omega (arith, nodes, c.requires))

pub stmt_needs-returns-in-If : goal.stmt_needs-returns-in-If
stmt_needs-returns-in-If t c =
    let e = choice_is c.args.s.now c.in-If.condition c.in-If.first c.in-If.second c.deref.result.now c.deref-in-If.result.now c.in-If.is c.deref.ensures.value c.deref-in-If.ensures.value in
    let nodes : stmt_nodes (stmt c.args.s.now) ≡ expr_nodes (expr c.in-If.condition) + stmts_nodes (stmts c.deref.result.now) + stmts_nodes (stmts c.deref-in-If.result.now) + 1 = ap stmt_nodes e in
    let room : stmt_room (stmt c.args.s.now) ≡ max (expr_room (expr c.in-If.condition)) (max (stmts_room (stmts c.deref.result.now)) (stmts_room (stmts c.deref-in-If.result.now))) = ap stmt_room e in
    omega (arith, room, c.room-in-If.ensures, c.needs_of_all.ensures, c.needs_of_all-in-If.ensures, c.max-in-If.ensures, c.max-in-If-2.ensures)

pub stmt_needs-needs_of_all-requires-in-Loop : goal.stmt_needs-needs_of_all-requires-in-Loop
stmt_needs-needs_of_all-requires-in-Loop t c =
    let e = loop_is c.args.s.now c.in-Loop.body c.deref-in-Loop.result.now c.in-Loop.is c.deref-in-Loop.ensures.value in
    let nodes : stmt_nodes (stmt c.args.s.now) ≡ stmts_nodes (stmts c.deref-in-Loop.result.now) + 1 = ap stmt_nodes e in
    let room : stmt_room (stmt c.args.s.now) ≡ stmts_room (stmts c.deref-in-Loop.result.now) = ap stmt_room e in
    (first_of (search (rules, the_lemmas), grind (arith, the_lemmas)), omega (arith, nodes, c.requires))

pub stmt_needs-returns-in-Loop : goal.stmt_needs-returns-in-Loop
stmt_needs-returns-in-Loop t c =
    let e = loop_is c.args.s.now c.in-Loop.body c.deref-in-Loop.result.now c.in-Loop.is c.deref-in-Loop.ensures.value in
    let nodes : stmt_nodes (stmt c.args.s.now) ≡ stmts_nodes (stmts c.deref-in-Loop.result.now) + 1 = ap stmt_nodes e in
    let room : stmt_room (stmt c.args.s.now) ≡ stmts_room (stmts c.deref-in-Loop.result.now) = ap stmt_room e in
    omega (arith, room, c.needs_of_all-in-Loop.ensures)

pub needs_of_all-stmt_needs-requires : goal.needs_of_all-stmt_needs-requires
needs_of_all-stmt_needs-requires t c =
    let nodes = stmts_nodes_here c.args.ss.now c.loop-s.s-index c.s-item.result c.loop-s-test.true c.s-item.is in
    let left = stmts_nodes_left c.args.ss.now c.loop-s.s-index in
    (first_of (search (rules, the_lemmas), grind (arith, the_lemmas)), omega (arith, nodes, left, c.requires))

pub needs_of_all-loop-s-preserved : goal.needs_of_all-loop-s-preserved
needs_of_all-loop-s-preserved t c =
    let here = stmts_room_here c.args.ss.now c.loop-s.s-index c.s-item.result c.loop-s-test.true c.s-item.is in
    omega (arith, here, c.loop-s.invariant, c.stmt_needs.ensures, c.max-most.ensures)
