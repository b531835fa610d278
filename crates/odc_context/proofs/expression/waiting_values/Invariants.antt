use Rattle.std.proofs.Common.{◌≡◌}
use Rattle.odc_core.specs.View.{exprs}
use Rattle.odc_context.specs.Code.{all_waiting}
use Rattle.odc_context.specs.View.{own}
use Rattle.odc_context.proofs.expression.waiting_values.Given as goal

abbrev pub invariant-loop-i : goal.invariant-loop-i
invariant-loop-i l = exprs l.values.items ≡ all_waiting (own l.o) l.d l.i
