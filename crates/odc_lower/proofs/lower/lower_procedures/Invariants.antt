use Rattle.std.proofs.Common.{◌≡◌, map, take}
use Rattle.odc_core.specs.View.{proc}
use Rattle.odc_mid.specs.View.{proc as mid_proc}
use Rattle.odc_lower.specs.Plain.{plain_proc}
use Rattle.odc_lower.specs.Lowered.{lowered}
use Rattle.odc_lower.proofs.lower.lower_procedures.Given as goal

abbrev pub invariant-loop-p : goal.invariant-loop-p
invariant-loop-p l = map plain_proc (map mid_proc l.all.items) ≡ map lowered (map proc (take l.p-index l.procedures))
