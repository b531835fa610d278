use Rattle.std.proofs.Common.{ℕ, map, ap, ◌∙◌, sym, arith}
use Rattle.std.specs.Prelude.{slice_get}
use Rattle.odc_program.specs.Views.Instances.{procedure}
use Rattle.odc_program.specs.Views.ProgramView.{program}
use Rattle.odc_carried.specs.Carried.{takes}
use Rattle.odc_carried.proofs.emitting.Refusals.{head_at, head_past}
use Rattle.odc_carried.proofs.refused.can_call.Goals as goal

pub returns-then-f-len : goal.returns-then-f-len
returns-then-f-len c =
    let w = c.args.w.now in
    c.takes.ensures
    ∙ sym (ap (takes c.args.count c.args.results) (head_at (map procedure w.procedures.items) w.procedures.items c.needed-f.result c.index.result.now (omega (arith, c.if-f-len.true, c.len.ensures)) c.index.ensures))
    ∙ ap (λ (f : ℕ). takes c.args.count c.args.results (slice_get (program w).tables.procedures f)) c.needed-f.ensures

pub returns-else-f-len : goal.returns-else-f-len
returns-else-f-len c =
    let w = c.args.w.now in
    sym (ap (takes c.args.count c.args.results) (head_past (map procedure w.procedures.items) w.procedures.items c.needed-f.result (omega (arith, c.if-f-len.false, c.len.ensures))))
    ∙ ap (λ (f : ℕ). takes c.args.count c.args.results (slice_get (program w).tables.procedures f)) c.needed-f.ensures
