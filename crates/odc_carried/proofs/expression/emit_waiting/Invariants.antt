use Rattle.std.proofs.Common.{◌≡◌, drop}
use Rattle.odc_program.specs.Views.View.{exprs}
use Rattle.odc_core.specs.View.{stmts}
use Rattle.odc_carried.specs.Code.{join, waits_all}
use Rattle.odc_carried.specs.View.{shown}
use Rattle.odc_carried.proofs.expression.emit_waiting.Given as goal

-- what is emitted, and what the expressions that are left make, is what all make
abbrev pub invariant-loop-e : goal.invariant-loop-e
invariant-loop-e l = join (stmts l.code.items) (waits_all (shown l.o) l.depth (exprs (drop l.e-index l.es))) ≡ join (stmts l.initial.code.items) (waits_all (shown l.o) l.d (exprs l.es))
