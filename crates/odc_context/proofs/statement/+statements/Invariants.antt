use Rattle.std.proofs.Common.{◌≡◌, drop}
use Rattle.odc_core.specs.View.{stmts as core_stmts}
use Rattle.odc_typed.specs.View.{stmts}
use Rattle.odc_context.specs.Code.{join, stmts_code}
use Rattle.odc_context.specs.View.{own}
use Rattle.odc_context.proofs.statement.+statements.Given as goal

-- what is emitted, and the code of the statements that are left, is the code of all
abbrev pub invariant-emit_stmts-loop-s : goal.invariant-emit_stmts-loop-s
invariant-emit_stmts-loop-s l = join (core_stmts l.code.items) (stmts_code (own l.o) (stmts (drop l.s-index l.ss))) ≡ join (core_stmts l.initial.code.items) (stmts_code (own l.o) (stmts l.ss))
