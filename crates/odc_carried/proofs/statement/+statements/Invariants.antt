use Rattle.std.proofs.Common.{◌≡◌, ◌+◌, ◌*◌, drop}
use Rattle.odc_program.specs.Views.Sizes.{stmt_size, maybe_stmt_size, stmts_size}
use Rattle.odc_program.specs.Views.StmtView.{maybe_stmt, stmts}
use Rattle.odc_core.specs.View.{stmts as core_stmts}
use Rattle.odc_carried.specs.Code.{join, stmts_code}
use Rattle.odc_carried.specs.View.{shown}
use Rattle.odc_carried.proofs.statement.+statements.Given as goal

abbrev pub decreases-emit_stmt : goal.decreases-emit_stmt
decreases-emit_stmt l = 2 * stmt_size l.s.now

abbrev pub decreases-emit_maybe : goal.decreases-emit_maybe
decreases-emit_maybe l = 2 * maybe_stmt_size (maybe_stmt l.s.now) + 1

abbrev pub decreases-emit_stmts : goal.decreases-emit_stmts
decreases-emit_stmts l = 2 * stmts_size (stmts l.ss.now)

-- what is emitted, and the code of the statements that are left, is the code of all
abbrev pub invariant-emit_stmts-loop-s : goal.invariant-emit_stmts-loop-s
invariant-emit_stmts-loop-s l = join (core_stmts l.code.items) (stmts_code (shown l.o) (stmts (drop l.s-index l.ss))) ≡ join (core_stmts l.initial.code.items) (stmts_code (shown l.o) (stmts l.ss))
