use Rattle.std.proofs.Common.{List, map, ap, ◌∙◌, sym, arith}
use Rattle.odc_program.specs.declared.program.Procedure.{Procedure}
use Rattle.odc_program.specs.Views.Instances.{procedure, instance}
use Rattle.odc_program.specs.Views.ProgramView.{position_from}
use Rattle.odc_carried.proofs.emitting.Refusals.{need_at, need_past}
use Rattle.odc_carried.proofs.refused.needed.Goals as goal

pub returns-then-need-len : goal.returns-then-need-len
returns-then-need-len c =
    let n = c.index.result.now in
    c.position.ensures ∙ ap (λ (ps : List Procedure). position_from 0 (map procedure ps) (instance n.inst)) c.deref.ensures.value
    ∙ sym (need_at (map procedure c.args.w.now.procedures.items) c.args.p.now.needs.items c.args.need n (omega (arith, c.if-need-len.true, c.len.ensures)) c.index.ensures)

pub returns-else-need-len : goal.returns-else-need-len
returns-else-need-len c = sym (need_past (map procedure c.args.w.now.procedures.items) c.args.p.now.needs.items c.args.need (omega (arith, c.if-need-len.false, c.len.ensures)))
