use Rattle.std.proofs.Common.{◌≡◌, ◌++◌, map}
use Rattle.odc_lower.specs.Plain.{plain}
use Rattle.odc_lower.specs.Code.{parameters_code}
use Rattle.odc_lower.proofs.procedure.emit_parameters.Given as goal

abbrev pub invariant-loop-i : goal.invariant-loop-i
invariant-loop-i l = map plain l.steps.items ≡ map plain l.initial.steps.items ++ parameters_code l.d 0 l.i
