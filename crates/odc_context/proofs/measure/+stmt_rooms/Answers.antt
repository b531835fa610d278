use Rattle.std.proofs.Common.{◌≡◌, ◌+◌, arith, ap, rules}
use Rattle.odc_typed.specs.declared.tree.TStmt.{the_lemmas}
use Rattle.odc_typed.specs.Frame.{expr_room, stmt_room, stmts_room}
use Rattle.odc_typed.specs.View.{expr, stmt, stmts}
use Rattle.odc_typed.proofs.Views.{choice_is, loop_is}
use Rattle.odc_context.proofs.Sources.{stmts_room_here}
use Rattle.odc_context.proofs.measure.+stmt_rooms.Goals as goal

pub room_in-room_in_all-requires : goal.room_in-room_in_all-requires
room_in-room_in_all-requires t c =
    let s = c.args.s.now in
    let room : stmt_room (stmt s) ≡ 128 + expr_room (expr c.in-If.condition) + stmts_room (stmts c.deref.result.now) = ap stmt_room (choice_is s.kind s.at c.in-If.condition c.in-If.body c.deref.result.now c.in-If.is c.deref.ensures.value) in
    (first_of (search (rules, the_lemmas), grind (arith, the_lemmas)), omega (arith, room, c.requires))

pub room_in-overflow_add-result-in-If-2 : goal.room_in-overflow_add-result-in-If-2
room_in-overflow_add-result-in-If-2 t c =
    let s = c.args.s.now in
    let room : stmt_room (stmt s) ≡ 128 + expr_room (expr c.in-If.condition) + stmts_room (stmts c.deref.result.now) = ap stmt_room (choice_is s.kind s.at c.in-If.condition c.in-If.body c.deref.result.now c.in-If.is c.deref.ensures.value) in
    omega (arith, room, c.requires, c.room-in-If.ensures, c.room_in_all.ensures)

pub room_in-returns-in-If : goal.room_in-returns-in-If
room_in-returns-in-If t c =
    let s = c.args.s.now in
    let room : stmt_room (stmt s) ≡ 128 + expr_room (expr c.in-If.condition) + stmts_room (stmts c.deref.result.now) = ap stmt_room (choice_is s.kind s.at c.in-If.condition c.in-If.body c.deref.result.now c.in-If.is c.deref.ensures.value) in
    omega (arith, room, c.room-in-If.ensures, c.room_in_all.ensures)

pub room_in-room_in_all-requires-in-Loop : goal.room_in-room_in_all-requires-in-Loop
room_in-room_in_all-requires-in-Loop t c =
    let s = c.args.s.now in
    let room : stmt_room (stmt s) ≡ 128 + expr_room (expr c.in-Loop.condition) + stmts_room (stmts c.deref-in-Loop.result.now) = ap stmt_room (loop_is s.kind s.at c.in-Loop.condition c.in-Loop.body c.deref-in-Loop.result.now c.in-Loop.is c.deref-in-Loop.ensures.value) in
    (first_of (search (rules, the_lemmas), grind (arith, the_lemmas)), omega (arith, room, c.requires))

pub room_in-overflow_add-result-in-Loop-2 : goal.room_in-overflow_add-result-in-Loop-2
room_in-overflow_add-result-in-Loop-2 t c =
    let s = c.args.s.now in
    let room : stmt_room (stmt s) ≡ 128 + expr_room (expr c.in-Loop.condition) + stmts_room (stmts c.deref-in-Loop.result.now) = ap stmt_room (loop_is s.kind s.at c.in-Loop.condition c.in-Loop.body c.deref-in-Loop.result.now c.in-Loop.is c.deref-in-Loop.ensures.value) in
    omega (arith, room, c.requires, c.room-in-Loop.ensures, c.room_in_all-in-Loop.ensures)

pub room_in-returns-in-Loop : goal.room_in-returns-in-Loop
room_in-returns-in-Loop t c =
    let s = c.args.s.now in
    let room : stmt_room (stmt s) ≡ 128 + expr_room (expr c.in-Loop.condition) + stmts_room (stmts c.deref-in-Loop.result.now) = ap stmt_room (loop_is s.kind s.at c.in-Loop.condition c.in-Loop.body c.deref-in-Loop.result.now c.in-Loop.is c.deref-in-Loop.ensures.value) in
    omega (arith, room, c.room-in-Loop.ensures, c.room_in_all-in-Loop.ensures)

pub room_in_all-room_in-total-requires : goal.room_in_all-room_in-total-requires
room_in_all-room_in-total-requires t c =
    let here = stmts_room_here c.args.ss.now c.loop-s.s-index c.s-item.result c.loop-s-test.true c.s-item.is in
    (first_of (search (rules, the_lemmas), grind (arith, the_lemmas)), omega (arith, here, c.loop-s.invariant, c.requires))

pub room_in_all-overflow_add-total : goal.room_in_all-overflow_add-total
room_in_all-overflow_add-total t c =
    let here = stmts_room_here c.args.ss.now c.loop-s.s-index c.s-item.result c.loop-s-test.true c.s-item.is in
    omega (arith, here, c.loop-s.invariant, c.requires, c.room_in-total.ensures)

pub room_in_all-loop-s-preserved : goal.room_in_all-loop-s-preserved
room_in_all-loop-s-preserved t c =
    let here = stmts_room_here c.args.ss.now c.loop-s.s-index c.s-item.result c.loop-s-test.true c.s-item.is in
    omega (arith, here, c.loop-s.invariant, c.room_in-total.ensures)
