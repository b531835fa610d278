use Rattle.std.proofs.Common.{◌≡◌, ◌+◌, ◌^◌, ◌<◌, drop}
use Rattle.odc_program.specs.Typing.Frames.{lefts_weight}
use Rattle.odc_program.specs.Views.StmtView.{lefts}
use Rattle.odc_limits.specs.Sized.{capped}
use Rattle.odc_limits.specs.Weighed.{weight}
use Rattle.odc_limits.proofs.weigh_stmt.weigh_lefts.Given as goal

abbrev pub invariant-loop-left : goal.invariant-loop-left
invariant-loop-left l = (l.total < 2 ^ 64) × (capped (l.total + lefts_weight (weight l.scale.unit l.scale.rows.now) l.scale.unit (lefts (drop l.left-index l.list))) ≡ capped (lefts_weight (weight l.scale.unit l.scale.rows.now) l.scale.unit (lefts l.list)))
