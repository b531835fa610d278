use Rattle.std.proofs.Common.{◌≡◌, ◌+◌, ◌≤◌, arith, ap, rules}
use Rattle.std.specs.Prelude.{max}
use Rattle.odc_typed.specs.declared.tree.TExpr.{the_lemmas}
use Rattle.odc_typed.specs.Frame.{expr_room, exprs_room}
use Rattle.odc_typed.specs.View.{expr, exprs}
use Rattle.odc_typed.proofs.Views.{call_is, builtin_is}
use Rattle.odc_context.specs.Code.{depth_of, depth_of_all}
use Rattle.odc_context.proofs.Sources.{room_here, room_left, depth_here, depth_end}
use Rattle.odc_context.proofs.Procs.{exprs_fit}
use Rattle.odc_context.proofs.measure.+depths.Goals as goal

pub depth-depth_of_each-requires : goal.depth-depth_of_each-requires
depth-depth_of_each-requires t c =
    let e = c.args.e.now in
    let room : expr_room (expr e) ≡ 144 + exprs_room (exprs c.deref-in-Call.result.now) = ap expr_room (call_is e.kind e.at c.in-Call.field-0 c.in-Call.arguments c.deref-in-Call.result.now c.in-Call.is c.deref-in-Call.ensures.value) in
    (first_of (search (rules, the_lemmas), grind (arith, the_lemmas)), omega (arith, room, c.requires))

pub depth-depth_of_each-requires-in-Builtin : goal.depth-depth_of_each-requires-in-Builtin
depth-depth_of_each-requires-in-Builtin t c =
    let e = c.args.e.now in
    let is = builtin_is e.kind e.at c.in-Builtin.field-0 c.in-Builtin.arguments c.deref-in-Builtin.result.now c.in-Builtin.is c.deref-in-Builtin.ensures.value in
    let room : exprs_room (exprs c.deref-in-Builtin.result.now) ≤ expr_room (expr e) = omega (arith, ap expr_room is) in
    (first_of (search (rules, the_lemmas), grind (arith, the_lemmas)), omega (arith, room, c.requires))

pub depth-returns-in-Call : goal.depth-returns-in-Call
depth-returns-in-Call t c =
    let e = c.args.e.now in
    let depth : depth_of (expr e) ≡ max 1 (depth_of_all (exprs c.deref-in-Call.result.now)) = ap depth_of (call_is e.kind e.at c.in-Call.field-0 c.in-Call.arguments c.deref-in-Call.result.now c.in-Call.is c.deref-in-Call.ensures.value) in
    omega (arith, depth, c.depth_of_each.ensures, c.max-in-Call.ensures)

pub depth-returns-in-Builtin : goal.depth-returns-in-Builtin
depth-returns-in-Builtin t c =
    let e = c.args.e.now in
    let depth : depth_of (expr e) ≡ depth_of_all (exprs c.deref-in-Builtin.result.now) = ap depth_of (builtin_is e.kind e.at c.in-Builtin.field-0 c.in-Builtin.arguments c.deref-in-Builtin.result.now c.in-Builtin.is c.deref-in-Builtin.ensures.value) in
    omega (arith, depth, c.depth_of_each-in-Builtin.ensures)

pub depth_of_each-depth-requires : goal.depth_of_each-depth-requires
depth_of_each-depth-requires t c =
    let here = room_here c.args.es.now c.loop-i.i c.index-es-i.result c.loop-i-test.true c.index-es-i.is in
    let left = room_left c.args.es.now c.loop-i.i in
    (first_of (search (rules, the_lemmas), grind (arith, the_lemmas)), omega (arith, here, left, c.requires))

pub depth_of_each-overflow_cast-i : goal.depth_of_each-overflow_cast-i
depth_of_each-overflow_cast-i t c =
    let fits = exprs_fit (exprs c.args.es.now) in
    omega (arith, fits, c.loop-i.invariant.most, c.loop-i.invariant.wait, c.requires)

pub depth_of_each-overflow_add-depth : goal.depth_of_each-overflow_add-depth
depth_of_each-overflow_add-depth t c =
    let fits = exprs_fit (exprs c.args.es.now) in
    let here = depth_here c.args.es.now c.loop-i.i c.index-es-i.result c.loop-i-test.true c.index-es-i.is in
    omega (arith, fits, here, c.depth.ensures, c.loop-i.invariant.most, c.requires)

pub depth_of_each-overflow_add-i : goal.depth_of_each-overflow_add-i
depth_of_each-overflow_add-i t c =
    let fits = exprs_fit (exprs c.args.es.now) in
    omega (arith, fits, c.loop-i.invariant.most, c.loop-i.invariant.wait, c.requires)

pub depth_of_each-loop-i-preserved : goal.depth_of_each-loop-i-preserved
depth_of_each-loop-i-preserved t c =
    let here = depth_here c.args.es.now c.loop-i.i c.index-es-i.result c.loop-i-test.true c.index-es-i.is in
    record {
      most = omega (arith, here, c.depth.ensures, c.max.ensures, c.max-most.ensures, c.loop-i.invariant.most);
      wait = omega (arith, c.max-most.ensures);
    }

pub depth_of_each-returns : goal.depth_of_each-returns
depth_of_each-returns t c =
    let end = depth_end c.args.es.now c.loop-i.i (omega (arith, c.loop-i-test.false, c.loop-i.auto.i-end)) in
    omega (arith, end, c.loop-i.invariant.most, c.loop-i.invariant.wait)
