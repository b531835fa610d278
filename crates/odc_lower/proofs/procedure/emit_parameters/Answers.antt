use Rattle.std.proofs.Common.{map}
use Rattle.odc_lower.specs.Plain.{plain}
use Rattle.odc_lower.proofs.Emitted.{parameter_emitted}
use Rattle.odc_lower.proofs.procedure.emit_parameters.Goals as goal

pub loop-i-preserved : goal.loop-i-preserved
loop-i-preserved c =
    parameter_emitted (map plain c.args.steps.now.items) (map plain c.loop-i.steps.items) (map plain c.push.new.steps.items) (map plain c.push-in-loop-i.new.steps.items) c.args.d c.loop-i.i
    c.loop-i.invariant c.in_ok-push.ensures c.in_ok-push-2.ensures
