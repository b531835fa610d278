use Rattle.std.proofs.Common.{◌≡◌, ◌+◌, ◌*◌, ◌≤◌, drop, length}
use Rattle.odc_program.specs.Views.Sizes.{stmt_size, maybe_stmt_size, stmts_size}
use Rattle.odc_program.specs.Views.StmtView.{maybe_stmt, stmts}
use Rattle.odc_carried.specs.Code.{stmts_depth}
use Rattle.odc_carried.proofs.measure.+stmt_depths.Given as goal

abbrev pub decreases-depth_in : goal.decreases-depth_in
decreases-depth_in l = 2 * stmt_size l.s.now

abbrev pub decreases-depth_in_maybe : goal.decreases-depth_in_maybe
decreases-depth_in_maybe l = 2 * maybe_stmt_size (maybe_stmt l.s.now) + 1

abbrev pub decreases-depth_in_all : goal.decreases-depth_in_all
decreases-depth_in_all l = 2 * stmts_size (stmts l.ss.now)

-- the most of those from here on
abbrev pub invariant-depth_in_all-loop-i : goal.invariant-depth_in_all-loop-i
invariant-depth_in_all-loop-i l = record { inside : l.i ≤ length l.ss; most : l.most ≡ stmts_depth (stmts (drop l.i l.ss)) }

abbrev pub decreases-depth_in_all-loop-i : goal.decreases-depth_in_all-loop-i
decreases-depth_in_all-loop-i l = l.i
