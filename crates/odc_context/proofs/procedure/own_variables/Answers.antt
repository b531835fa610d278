use Rattle.std.proofs.Common.{ap, ◌∙◌, arith}
use Rattle.odc_typed.specs.View.{proc, stmts}
use Rattle.odc_context.specs.Code.{stmts_depth}
use Rattle.odc_context.proofs.Procs.{frame_room}
use Rattle.odc_context.proofs.procedure.own_variables.Goals as goal

pub invariant_of-result : goal.invariant_of-result
invariant_of-result c =
    let room = frame_room (proc c.args.p.now) in
    let depth = c.depth_in_all.ensures ∙ ap (λ (xs : _). stmts_depth (stmts xs)) c.deref.ensures.value in
    record { counted = omega (arith, room, depth, c.variables_in.ensures, c.requires) }
