use Rattle.std.proofs.Common.{◌≡◌, drop}
use Rattle.std.specs.Prelude.{max}
use Rattle.odc_typed.specs.View.{stmts}
use Rattle.odc_context.specs.Code.{stmts_depth}
use Rattle.odc_context.proofs.measure.+stmt_depths.Given as goal

-- the most so far, and what the rest needs, is what all need
abbrev pub invariant-depth_in_all-loop-s : goal.invariant-depth_in_all-loop-s
invariant-depth_in_all-loop-s l = max l.most (stmts_depth (stmts (drop l.s-index l.ss))) ≡ stmts_depth (stmts l.ss)
