use Rattle.std.proofs.Common.{◌≡◌, ◌+◌, ◌*◌, arith, ap, rules}
use Rattle.odc_typed.specs.declared.tree.TExpr.{the_lemmas}
use Rattle.odc_typed.specs.Frame.{rounded, builtin_size, expr_room, exprs_room}
use Rattle.odc_typed.specs.View.{expr, exprs}
use Rattle.odc_typed.proofs.Views.{call_is, builtin_is}
use Rattle.odc_context.proofs.Sources.{room_here}
use Rattle.odc_context.proofs.measure.+rooms.Goals as goal

pub room-room_of_each-requires : goal.room-room_of_each-requires
room-room_of_each-requires t c =
    let e = c.args.e.now in
    let room : expr_room (expr e) ≡ 144 + exprs_room (exprs c.deref-in-Call.result.now) = ap expr_room (call_is e.kind e.at c.in-Call.field-0 c.in-Call.arguments c.deref-in-Call.result.now c.in-Call.is c.deref-in-Call.ensures.value) in
    (first_of (search (rules, the_lemmas), grind (arith, the_lemmas)), omega (arith, room, c.requires))

pub room-overflow_add-result-in-Call : goal.room-overflow_add-result-in-Call
room-overflow_add-result-in-Call t c =
    let e = c.args.e.now in
    let room : expr_room (expr e) ≡ 144 + exprs_room (exprs c.deref-in-Call.result.now) = ap expr_room (call_is e.kind e.at c.in-Call.field-0 c.in-Call.arguments c.deref-in-Call.result.now c.in-Call.is c.deref-in-Call.ensures.value) in
    omega (arith, room, c.requires, c.room_of_value-in-Call.ensures, c.room_of_each.ensures)

pub room-returns-in-Call : goal.room-returns-in-Call
room-returns-in-Call t c =
    let e = c.args.e.now in
    let room : expr_room (expr e) ≡ 144 + exprs_room (exprs c.deref-in-Call.result.now) = ap expr_room (call_is e.kind e.at c.in-Call.field-0 c.in-Call.arguments c.deref-in-Call.result.now c.in-Call.is c.deref-in-Call.ensures.value) in
    omega (arith, room, c.room_of_value-in-Call.ensures, c.room_of_each.ensures)

pub room-room_of_each-requires-in-Builtin : goal.room-room_of_each-requires-in-Builtin
room-room_of_each-requires-in-Builtin t c =
    let e = c.args.e.now in
    let arm = c.in-Builtin in
    let room : expr_room (expr e) ≡ 128 + 2 * rounded (builtin_size c.in-Builtin.which) + exprs_room (exprs c.deref-in-Builtin.result.now) = ap expr_room (builtin_is e.kind e.at arm.which arm.arguments c.deref-in-Builtin.result.now arm.is c.deref-in-Builtin.ensures.value) in
    (first_of (search (rules, the_lemmas), grind (arith, the_lemmas)), omega (arith, room, c.requires))

pub room-overflow_add-result-in-Builtin : goal.room-overflow_add-result-in-Builtin
room-overflow_add-result-in-Builtin t c =
    let e = c.args.e.now in
    let arm = c.in-Builtin in
    let room : expr_room (expr e) ≡ 128 + 2 * rounded (builtin_size c.in-Builtin.which) + exprs_room (exprs c.deref-in-Builtin.result.now) = ap expr_room (builtin_is e.kind e.at arm.which arm.arguments c.deref-in-Builtin.result.now arm.is c.deref-in-Builtin.ensures.value) in
    omega (arith, room, c.requires, c.size_of_builtin.ensures, c.room_of_value-in-Builtin.ensures, c.room_of_each-in-Builtin.ensures)

pub room-returns-in-Builtin : goal.room-returns-in-Builtin
room-returns-in-Builtin t c =
    let e = c.args.e.now in
    let arm = c.in-Builtin in
    let room : expr_room (expr e) ≡ 128 + 2 * rounded (builtin_size c.in-Builtin.which) + exprs_room (exprs c.deref-in-Builtin.result.now) = ap expr_room (builtin_is e.kind e.at arm.which arm.arguments c.deref-in-Builtin.result.now arm.is c.deref-in-Builtin.ensures.value) in
    omega (arith, room, c.size_of_builtin.ensures, c.room_of_value-in-Builtin.ensures, c.room_of_each-in-Builtin.ensures)

pub room_of_each-room-total-requires : goal.room_of_each-room-total-requires
room_of_each-room-total-requires t c =
    let here = room_here c.args.es.now c.loop-e.e-index c.e-item.result c.loop-e-test.true c.e-item.is in
    (first_of (search (rules, the_lemmas), grind (arith, the_lemmas)), omega (arith, here, c.loop-e.invariant, c.requires))

pub room_of_each-overflow_add-total : goal.room_of_each-overflow_add-total
room_of_each-overflow_add-total t c =
    let here = room_here c.args.es.now c.loop-e.e-index c.e-item.result c.loop-e-test.true c.e-item.is in
    omega (arith, here, c.loop-e.invariant, c.requires, c.room-total.ensures)

pub room_of_each-loop-e-preserved : goal.room_of_each-loop-e-preserved
room_of_each-loop-e-preserved t c =
    let here = room_here c.args.es.now c.loop-e.e-index c.e-item.result c.loop-e-test.true c.e-item.is in
    omega (arith, here, c.loop-e.invariant, c.room-total.ensures)
