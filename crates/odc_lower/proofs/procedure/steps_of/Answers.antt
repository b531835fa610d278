use Rattle.std.proofs.Common.{◌*◌, ap, arith, length}
use Rattle.odc_mid.specs.declared.tree.MidStep.{MidStep}
use Rattle.odc_core.specs.View.{proc, stmts}
use Rattle.odc_lower.specs.Size.{stmts_nodes}
use Rattle.odc_lower.specs.Code.{parameters_code}
use Rattle.odc_lower.proofs.Emitted.{grown, procedure_emitted}
use Rattle.odc_lower.proofs.Lengths.{parameters_length}
use Rattle.odc_lower.proofs.procedure.steps_of.Goals as goal

pub emit_stmts-requires-clause-place : goal.emit_stmts-requires-clause-place
emit_stmts-requires-clause-place c =
    let d = c.args.p.now.parameters in
    let l = grown c.new-steps.result.items c.emit_parameters.new.steps.items (parameters_code d 0 d) (2 * d) c.in_ok-emit_parameters.ensures (parameters_length d 0 d) in
    let none = ap (λ (xs : _). length {A = MidStep} xs) c.new-steps.ensures.items in
    let same = ap (λ (xs : _). stmts_nodes (stmts xs)) c.deref.ensures.value in
    omega (arith, l, none, same, c.requires.0, c.requires.1)

pub returns : goal.returns
returns c =
    procedure_emitted c.new-steps.result.items c.emit_parameters.new.steps.items c.emit_stmts.new.steps.items c.push.new.steps.items c.push-2.new.steps.items (proc c.args.p.now) (stmts c.deref.result.now)
    c.new-steps.ensures.items (ap stmts c.deref.ensures.value) c.in_ok-emit_parameters.ensures c.in_ok-emit_stmts.ensures c.in_ok-push.ensures c.in_ok-push-2.ensures
