use Rattle.std.proofs.Common.{◌≡◌, ◌+◌, ◌≤◌, ◌++◌, drop, map}
use Rattle.odc_core.specs.View.{exprs}
use Rattle.odc_lower.specs.Plain.{plain}
use Rattle.odc_lower.specs.Size.{exprs_nodes}
use Rattle.odc_lower.specs.Code.{exprs_code}
use Rattle.odc_lower.proofs.expression.+expressions.Given as goal

-- what is emitted, and the steps of the expressions that are left, are the steps of all
abbrev pub invariant-emit_exprs-loop-i : goal.invariant-emit_exprs-loop-i
invariant-emit_exprs-loop-i l = record {
  code : map plain l.steps.items ++ exprs_code (l.d + l.i) (exprs (drop l.i l.es)) ≡ map plain l.initial.steps.items ++ exprs_code l.d (exprs l.es);
  nodes : l.i + exprs_nodes (exprs (drop l.i l.es)) ≤ exprs_nodes (exprs l.es);
}
