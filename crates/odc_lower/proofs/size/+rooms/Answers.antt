use Rattle.std.proofs.Common.{◌≡◌, ◌+◌, arith, ap, rules}
use Rattle.std.specs.Prelude.{max}
use Rattle.odc_core.specs.declared.tree.CoreExpr.{the_lemmas}
use Rattle.odc_core.specs.View.{expr, exprs}
use Rattle.odc_lower.specs.Size.{expr_nodes, exprs_nodes, expr_room, exprs_room}
use Rattle.odc_lower.proofs.Lists.{nodes_here, room_here, room_end}
use Rattle.odc_lower.proofs.Sizes.{expr_some, expr_room_small, expr_room_some, exprs_room_small}
use Rattle.odc_core.proofs.Views.{call_is, call_value_is}
use Rattle.odc_lower.proofs.size.+rooms.Goals as goal

pub room-room_of_all-requires : goal.room-room_of_all-requires
room-room_of_all-requires t c =
    let e = call_is c.args.e.now c.in-Call.field-0 c.in-Call.arguments c.deref.result.now c.in-Call.is c.deref.ensures.value in
    let nodes : expr_nodes (expr c.args.e.now) ≡ exprs_nodes (exprs c.deref.result.now) + 1 = ap expr_nodes e in
    let room : expr_room (expr c.args.e.now) ≡ max 1 (exprs_room (exprs c.deref.result.now)) = ap expr_room e in
    (first_of (search (rules, the_lemmas), grind (arith, the_lemmas)), omega (arith, nodes, c.requires))

pub room-returns-in-Call : goal.room-returns-in-Call
room-returns-in-Call t c =
    let e = call_is c.args.e.now c.in-Call.field-0 c.in-Call.arguments c.deref.result.now c.in-Call.is c.deref.ensures.value in
    let nodes : expr_nodes (expr c.args.e.now) ≡ exprs_nodes (exprs c.deref.result.now) + 1 = ap expr_nodes e in
    let room : expr_room (expr c.args.e.now) ≡ max 1 (exprs_room (exprs c.deref.result.now)) = ap expr_room e in
    omega (arith, room, c.room_of_all.ensures, c.max.ensures)

pub room-room_of_all-requires-in-CallValue : goal.room-room_of_all-requires-in-CallValue
room-room_of_all-requires-in-CallValue t c =
    let e = call_value_is c.args.e.now c.in-CallValue.target c.in-CallValue.arguments c.in-CallValue.field-2 c.deref-in-CallValue.result.now c.deref-in-CallValue-2.result.now c.in-CallValue.is c.deref-in-CallValue.ensures c.deref-in-CallValue-2.ensures.value in
    let nodes : expr_nodes (expr c.args.e.now) ≡ expr_nodes (expr c.deref-in-CallValue.result.now) + exprs_nodes (exprs c.deref-in-CallValue-2.result.now) + 1 = ap expr_nodes e in
    let room : expr_room (expr c.args.e.now) ≡ max (expr_room (expr c.deref-in-CallValue.result.now)) (exprs_room (exprs c.deref-in-CallValue-2.result.now) + 1) = ap expr_room e in
    let small = exprs_room_small (exprs c.deref-in-CallValue-2.result.now) in
    (first_of (search (rules, the_lemmas), grind (arith, the_lemmas)), omega (arith, nodes, c.requires))

pub room-overflow_add-room_of_all : goal.room-overflow_add-room_of_all
room-overflow_add-room_of_all t c =
    let e = call_value_is c.args.e.now c.in-CallValue.target c.in-CallValue.arguments c.in-CallValue.field-2 c.deref-in-CallValue.result.now c.deref-in-CallValue-2.result.now c.in-CallValue.is c.deref-in-CallValue.ensures c.deref-in-CallValue-2.ensures.value in
    let nodes : expr_nodes (expr c.args.e.now) ≡ expr_nodes (expr c.deref-in-CallValue.result.now) + exprs_nodes (exprs c.deref-in-CallValue-2.result.now) + 1 = ap expr_nodes e in
    let room : expr_room (expr c.args.e.now) ≡ max (expr_room (expr c.deref-in-CallValue.result.now)) (exprs_room (exprs c.deref-in-CallValue-2.result.now) + 1) = ap expr_room e in
    let small = exprs_room_small (exprs c.deref-in-CallValue-2.result.now) in
    omega (arith, nodes, small, c.requires, c.room_of_all-in-CallValue.ensures)

pub room-returns-in-CallValue : goal.room-returns-in-CallValue
room-returns-in-CallValue t c =
    let e = call_value_is c.args.e.now c.in-CallValue.target c.in-CallValue.arguments c.in-CallValue.field-2 c.deref-in-CallValue.result.now c.deref-in-CallValue-2.result.now c.in-CallValue.is c.deref-in-CallValue.ensures c.deref-in-CallValue-2.ensures.value in
    let nodes : expr_nodes (expr c.args.e.now) ≡ expr_nodes (expr c.deref-in-CallValue.result.now) + exprs_nodes (exprs c.deref-in-CallValue-2.result.now) + 1 = ap expr_nodes e in
    let room : expr_room (expr c.args.e.now) ≡ max (expr_room (expr c.deref-in-CallValue.result.now)) (exprs_room (exprs c.deref-in-CallValue-2.result.now) + 1) = ap expr_room e in
    let small = exprs_room_small (exprs c.deref-in-CallValue-2.result.now) in
    omega (arith, room, c.room.ensures, c.room_of_all-in-CallValue.ensures, c.max-in-CallValue.ensures)

pub room_of_all-overflow_add-room : goal.room_of_all-overflow_add-room
room_of_all-overflow_add-room t c =
    let here = room_here c.args.es.now c.loop-i.i c.index-es-i.result c.loop-i-test.true c.index-es-i.is in
    let nodes = nodes_here c.args.es.now c.loop-i.i c.index-es-i.result c.loop-i-test.true c.index-es-i.is in
    omega (arith, nodes, expr_room_small (expr c.index-es-i.result), c.room.ensures, c.loop-i.invariant.nodes, c.requires)

pub room_of_all-loop-i-preserved : goal.room_of_all-loop-i-preserved
room_of_all-loop-i-preserved t c =
    let here = room_here c.args.es.now c.loop-i.i c.index-es-i.result c.loop-i-test.true c.index-es-i.is in
    let nodes = nodes_here c.args.es.now c.loop-i.i c.index-es-i.result c.loop-i-test.true c.index-es-i.is in
    let some = expr_some (expr c.index-es-i.result) in
    let room_some = expr_room_some (expr c.index-es-i.result) in
    record {
      most = omega (arith, here, c.room.ensures, c.max-most.ensures, c.loop-i.invariant.most);
      nodes = omega (arith, nodes, some, c.loop-i.invariant.nodes);
      stay = omega (arith, room_some, c.room.ensures, c.max-most.ensures);
    }

pub room_of_all-returns : goal.room_of_all-returns
room_of_all-returns t c =
    let at_end = room_end c.args.es.now c.loop-i.i (omega arith) in
    omega (arith, at_end, c.loop-i.invariant.most, c.loop-i.invariant.stay)
