use Rattle.std.proofs.Common.{◌≡◌, ◌+◌, arith, ap, rules}
use Rattle.std.specs.Prelude.{max}
use Rattle.odc_typed.specs.declared.tree.TStmt.{the_lemmas}
use Rattle.odc_typed.specs.Frame.{expr_room, stmt_room, stmts_room}
use Rattle.odc_typed.specs.View.{expr, stmt, stmts}
use Rattle.odc_typed.proofs.Views.{choice_is, loop_is}
use Rattle.odc_context.specs.Code.{depth_of, stmt_depth, stmts_depth}
use Rattle.odc_context.proofs.Sources.{stmts_room_here, stmts_room_left, stmts_depth_here}
use Rattle.odc_context.proofs.measure.+stmt_depths.Goals as goal

pub depth_in-depth_in_all-requires : goal.depth_in-depth_in_all-requires
depth_in-depth_in_all-requires t c =
    let s = c.args.s.now in
    let room : stmt_room (stmt s) ≡ 128 + expr_room (expr c.in-If.condition) + stmts_room (stmts c.deref.result.now) = ap stmt_room (choice_is s.kind s.at c.in-If.condition c.in-If.body c.deref.result.now c.in-If.is c.deref.ensures.value) in
    (first_of (search (rules, the_lemmas), grind (arith, the_lemmas)), omega (arith, room, c.requires))

pub depth_in-depth_in_all-requires-in-Loop : goal.depth_in-depth_in_all-requires-in-Loop
depth_in-depth_in_all-requires-in-Loop t c =
    let s = c.args.s.now in
    let room : stmt_room (stmt s) ≡ 128 + expr_room (expr c.in-Loop.condition) + stmts_room (stmts c.deref-in-Loop.result.now) = ap stmt_room (loop_is s.kind s.at c.in-Loop.condition c.in-Loop.body c.deref-in-Loop.result.now c.in-Loop.is c.deref-in-Loop.ensures.value) in
    (first_of (search (rules, the_lemmas), grind (arith, the_lemmas)), omega (arith, room, c.requires))

pub depth_in-returns-in-If : goal.depth_in-returns-in-If
depth_in-returns-in-If t c =
    let s = c.args.s.now in
    let depth : stmt_depth (stmt s) ≡ max (depth_of (expr c.in-If.condition)) (stmts_depth (stmts c.deref.result.now)) = ap stmt_depth (choice_is s.kind s.at c.in-If.condition c.in-If.body c.deref.result.now c.in-If.is c.deref.ensures.value) in
    omega (arith, depth, c.depth.ensures, c.depth_in_all.ensures, c.max.ensures)

pub depth_in-returns-in-Loop : goal.depth_in-returns-in-Loop
depth_in-returns-in-Loop t c =
    let s = c.args.s.now in
    let depth : stmt_depth (stmt s) ≡ max (depth_of (expr c.in-Loop.condition)) (stmts_depth (stmts c.deref-in-Loop.result.now)) = ap stmt_depth (loop_is s.kind s.at c.in-Loop.condition c.in-Loop.body c.deref-in-Loop.result.now c.in-Loop.is c.deref-in-Loop.ensures.value) in
    omega (arith, depth, c.depth-in-Loop.ensures, c.depth_in_all-in-Loop.ensures, c.max-in-Loop.ensures)

pub depth_in_all-depth_in-requires : goal.depth_in_all-depth_in-requires
depth_in_all-depth_in-requires t c =
    let here = stmts_room_here c.args.ss.now c.loop-s.s-index c.s-item.result c.loop-s-test.true c.s-item.is in
    let left = stmts_room_left c.args.ss.now c.loop-s.s-index in
    (first_of (search (rules, the_lemmas), grind (arith, the_lemmas)), omega (arith, here, left, c.requires))

pub depth_in_all-loop-s-preserved : goal.depth_in_all-loop-s-preserved
depth_in_all-loop-s-preserved t c =
    let here = stmts_depth_here c.args.ss.now c.loop-s.s-index c.s-item.result c.loop-s-test.true c.s-item.is in
    omega (arith, here, c.depth_in.ensures, c.max-most.ensures, c.loop-s.invariant)
