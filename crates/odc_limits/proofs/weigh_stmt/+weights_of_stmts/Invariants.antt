use Rattle.std.proofs.Common.{◌≡◌, ◌+◌, ◌^◌, ◌<◌, ◌*◌, drop}
use Rattle.odc_program.specs.Typing.Frames.{stmts_weight, cases_weight, types_weight}
use Rattle.odc_program.specs.Views.StmtView.{maybe_stmt, stmts, cases, type_cases}
use Rattle.odc_program.specs.Views.Sizes.{stmt_size, maybe_stmt_size, stmts_size, cases_size, type_cases_size}
use Rattle.odc_limits.specs.Sized.{capped}
use Rattle.odc_limits.specs.Weighed.{weight}
use Rattle.odc_limits.proofs.weigh_stmt.+weights_of_stmts.Given as goal

abbrev pub decreases-weigh_stmt : goal.decreases-weigh_stmt
decreases-weigh_stmt l = 2 * stmt_size l.s.now

abbrev pub decreases-weigh_optional_stmt : goal.decreases-weigh_optional_stmt
decreases-weigh_optional_stmt l = 2 * maybe_stmt_size (maybe_stmt l.s.now) + 1

abbrev pub decreases-weigh_stmts : goal.decreases-weigh_stmts
decreases-weigh_stmts l = 2 * stmts_size (stmts l.list.now)

abbrev pub decreases-weigh_cases : goal.decreases-weigh_cases
decreases-weigh_cases l = 2 * cases_size (cases l.list.now)

abbrev pub decreases-weigh_type_cases : goal.decreases-weigh_type_cases
decreases-weigh_type_cases l = 2 * type_cases_size (type_cases l.list.now)

abbrev pub invariant-weigh_stmts-loop-s : goal.invariant-weigh_stmts-loop-s
invariant-weigh_stmts-loop-s l = (l.total < 2 ^ 64) × (capped (l.total + stmts_weight (weight l.scale.unit l.scale.rows.now) l.scale.unit (stmts (drop l.s-index l.list))) ≡ capped (stmts_weight (weight l.scale.unit l.scale.rows.now) l.scale.unit (stmts l.list)))

abbrev pub invariant-weigh_cases-loop-case : goal.invariant-weigh_cases-loop-case
invariant-weigh_cases-loop-case l = (l.total < 2 ^ 64) × (capped (l.total + cases_weight (weight l.scale.unit l.scale.rows.now) l.scale.unit (cases (drop l.case-index l.list))) ≡ capped (cases_weight (weight l.scale.unit l.scale.rows.now) l.scale.unit (cases l.list)))

abbrev pub invariant-weigh_type_cases-loop-case : goal.invariant-weigh_type_cases-loop-case
invariant-weigh_type_cases-loop-case l = (l.total < 2 ^ 64) × (capped (l.total + types_weight (weight l.scale.unit l.scale.rows.now) l.scale.unit (type_cases (drop l.case-index l.list))) ≡ capped (types_weight (weight l.scale.unit l.scale.rows.now) l.scale.unit (type_cases l.list)))
