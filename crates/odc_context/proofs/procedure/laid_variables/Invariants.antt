use Rattle.std.proofs.Common.{◌≡◌}
use Rattle.odc_context.specs.Code.{words_from}
use Rattle.odc_context.proofs.procedure.laid_variables.Given as goal

abbrev pub invariant-loop-x : goal.invariant-loop-x
invariant-loop-x l = l.all.items ≡ words_from 0 l.x
