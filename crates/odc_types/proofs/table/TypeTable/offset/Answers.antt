use Rattle.std.proofs.Common.{ap, ◌∙◌}
use Rattle.odc_types.specs.Nodes.{nodes}
use Rattle.odc_types.specs.Layout.{layout_of}
use Rattle.odc_types.proofs.MeasureLemmas.{no_offset}
use Rattle.odc_types.proofs.table.TypeTable.offset.Goals as goal

pub unreachable-requires : goal.unreachable-requires
unreachable-requires c =
    let same = ap (λ ns. layout_of ns c.args.t.index) (ap nodes c.as_slice.ensures.value ∙ c.self.view_is) in
    no_offset (layout_of c.args.self.now c.args.t.index) c.args.field c.requires.sized c.requires.below c.requires.within (λ l e h. c.in-None.ensures l (same ∙ e) h)
