use Rattle.std.proofs.Common.{◌≡◌, ◌+◌, ◌≤◌, drop}
use Rattle.odc_core.specs.View.{stmts}
use Rattle.odc_typed.specs.View.{exprs}
use Rattle.odc_context.specs.Code.{join, exprs_code, depth_of_all}
use Rattle.odc_context.specs.View.{own}
use Rattle.odc_context.proofs.expression.+expressions.Given as goal

-- what is emitted, and the code of the expressions that are left, is the code of all
abbrev pub invariant-emit_exprs-loop-i : goal.invariant-emit_exprs-loop-i
invariant-emit_exprs-loop-i l = record {
  code : join (stmts l.code.items) (exprs_code (own l.o) (l.d + l.i) (exprs (drop l.i l.es))) ≡ join (stmts l.initial.code.items) (exprs_code (own l.o) l.d (exprs l.es));
  wait : l.i + depth_of_all (exprs (drop l.i l.es)) ≤ depth_of_all (exprs l.es);
}
