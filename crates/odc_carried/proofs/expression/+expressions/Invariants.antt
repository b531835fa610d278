use Rattle.std.proofs.Common.{◌≡◌, ◌+◌, ◌*◌, drop}
use Rattle.odc_program.specs.Views.View.{exprs}
use Rattle.odc_program.specs.Views.Sizes.{expr_size, exprs_size}
use Rattle.odc_core.specs.View.{exprs as core_exprs, stmts as core_stmts}
use Rattle.odc_carried.specs.Code.{join, befores, values}
use Rattle.odc_carried.specs.View.{shown}
use Rattle.odc_carried.proofs.emitting.Appended.{behind}
use Rattle.odc_carried.proofs.expression.+expressions.Given as goal

abbrev pub decreases-emit : goal.decreases-emit
decreases-emit l = 2 * expr_size l.e.now

abbrev pub decreases-emit_right : goal.decreases-emit_right
decreases-emit_right l = 2 * expr_size l.right.now + 1

abbrev pub decreases-emit_arguments : goal.decreases-emit_arguments
decreases-emit_arguments l = 2 * exprs_size (exprs l.es.now)

-- what is emitted, and what the arguments that are left make, is what all make
abbrev pub invariant-emit_arguments-loop-i : goal.invariant-emit_arguments-loop-i
invariant-emit_arguments-loop-i l = record {
  code : join (core_stmts l.code.items) (befores (shown l.o) l.depth (exprs (drop l.i l.es))) ≡ join (core_stmts l.initial.code.items) (befores (shown l.o) l.d (exprs l.es));
  values : behind (core_exprs l.values.items) (values (shown l.o) l.depth (exprs (drop l.i l.es))) ≡ values (shown l.o) l.d (exprs l.es);
}
