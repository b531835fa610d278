use Rattle.std.proofs.Common.{◌≡◌, ◌+◌, ◌*◌, drop}
use Rattle.odc_program.specs.Views.ProgramView.{program}
use Rattle.odc_program.specs.Views.Sizes.{stmt_size, maybe_stmt_size, stmts_size}
use Rattle.odc_program.specs.Views.StmtView.{maybe_stmt, stmts}
use Rattle.odc_carried.specs.Carried as spec
use Rattle.odc_carried.specs.TableView.{head_in}
use Rattle.odc_carried.proofs.refused.+refused_statements.Given as goal

abbrev pub decreases-refused_stmt : goal.decreases-refused_stmt
decreases-refused_stmt l = 2 * stmt_size l.s.now

abbrev pub decreases-refused_maybe : goal.decreases-refused_maybe
decreases-refused_maybe l = 2 * maybe_stmt_size (maybe_stmt l.s.now) + 1

abbrev pub decreases-refused_stmts : goal.decreases-refused_stmts
decreases-refused_stmts l = 2 * stmts_size (stmts l.ss.now)

-- none of those so far
abbrev pub invariant-refused_stmts-loop-s : goal.invariant-refused_stmts-loop-s
invariant-refused_stmts-loop-s l = spec.refused_stmts (program l.w).tables (head_in l.w.procedures.items l.p) (stmts (drop l.s-index l.ss)) ≡ spec.refused_stmts (program l.w).tables (head_in l.w.procedures.items l.p) (stmts l.ss)
