use Rattle.std.proofs.Common.{sym, ◌∙◌}
use Rattle.odc_types.specs.Nodes.{nodes}
use Rattle.odc_types.proofs.LayoutLaws.{fields_from}
use Rattle.odc_types.proofs.measure.fields_of.Goals as goal

pub returns-in-Some-fields_at-clause-ok : goal.returns-in-Some-fields_at-clause-ok
returns-in-Some-fields_at-clause-ok c =
    fields_from (nodes c.args.types.now) c.args.t.index c.in-Some.part.index (sym c.in-Some.ensures.is) ∙ sym c.in-Some-fields_at.ensures
