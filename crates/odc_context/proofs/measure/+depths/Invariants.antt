use Rattle.std.proofs.Common.{◌≡◌, ◌+◌, ◌≤◌, drop}
use Rattle.std.specs.Prelude.{max}
use Rattle.odc_typed.specs.View.{exprs}
use Rattle.odc_context.specs.Code.{depth_of_all}
use Rattle.odc_context.proofs.measure.+depths.Given as goal

-- the most so far, and what the rest needs above those that wait, is what all need
abbrev pub invariant-depth_of_each-loop-i : goal.invariant-depth_of_each-loop-i
invariant-depth_of_each-loop-i l = record {
  most : max l.most (depth_of_all (exprs (drop l.i l.es)) + l.i) ≡ depth_of_all (exprs l.es);
  wait : l.i ≤ l.most;
}
