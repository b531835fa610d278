use Rattle.std.proofs.Common.{◌≡◌, map, take}
use Rattle.odc_core.specs.View.{proc as core_proc}
use Rattle.odc_typed.specs.View.{proc}
use Rattle.odc_context.specs.Code.{crossed}
use Rattle.odc_context.proofs.context.cross_procedures.Given as goal

abbrev pub invariant-loop-p : goal.invariant-loop-p
invariant-loop-p l = map core_proc l.all.items ≡ map crossed (map proc (take l.p-index l.procedures))
