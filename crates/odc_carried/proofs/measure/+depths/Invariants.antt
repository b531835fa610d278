use Rattle.std.proofs.Common.{◌≡◌, ◌*◌, ◌≤◌, drop, length}
use Rattle.odc_program.specs.Views.Sizes.{expr_size, exprs_size}
use Rattle.odc_program.specs.Views.View.{exprs}
use Rattle.odc_carried.specs.Code.{depths}
use Rattle.odc_carried.proofs.measure.+depths.Given as goal

abbrev pub decreases-depth : goal.decreases-depth
decreases-depth l = 2 * expr_size l.e.now

abbrev pub decreases-depth_of_each : goal.decreases-depth_of_each
decreases-depth_of_each l = 2 * exprs_size (exprs l.es.now)

-- the most of those from here on
abbrev pub invariant-depth_of_each-loop-i : goal.invariant-depth_of_each-loop-i
invariant-depth_of_each-loop-i l = record { inside : l.i ≤ length l.es; most : l.most ≡ depths (exprs (drop l.i l.es)) }

abbrev pub decreases-depth_of_each-loop-i : goal.decreases-depth_of_each-loop-i
decreases-depth_of_each-loop-i l = l.i
