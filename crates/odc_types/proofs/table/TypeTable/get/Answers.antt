use Rattle.std.proofs.Common.{◌∙◌, sym, ap, subst, length, ◌≡◌, ◌<◌, Some, slice_get}
use Rattle.odc_types.specs.Nodes.{node}
use Rattle.odc_types.specs.Interned.{IsInterned}
use Rattle.odc_types.proofs.InternedLaws.{unfolds, node_at}
use Rattle.odc_types.proofs.LayoutLaws.{layout_unfolds}
use Rattle.odc_types.proofs.table.TypeTable.get.Goals as goal

at : (c : goal.After-index) → slice_get c.args.self.now c.args.t.index ≡ Some (node c.index.result.now)
at c =
    ap (λ ns. slice_get ns c.args.t.index) (sym c.self.view_is) ∙
    node_at c.self.inside.types.items c.args.t.index c.index.result.now (subst (λ ns. c.args.t.index < length ns) (sym c.self.view_is) c.requires) c.index.ensures

pub returns-clause-parts : goal.returns-clause-parts
returns-clause-parts c =
    let table : IsInterned c.self.inside.keys.keys c.args.self.now = subst (IsInterned c.self.inside.keys.keys) c.self.view_is c.self.invariant.interned in
    table.parts c.args.t.index (node c.index.result.now) (at c)

pub returns-clause-identity : goal.returns-clause-identity
returns-clause-identity c =
    let table : IsInterned c.self.inside.keys.keys c.args.self.now = subst (IsInterned c.self.inside.keys.keys) c.self.view_is c.self.invariant.interned in
    unfolds c.args.self.now table.whole c.args.t.index (node c.index.result.now) (at c)

pub returns-clause-layout : goal.returns-clause-layout
returns-clause-layout c = layout_unfolds c.args.self.now c.args.t.index (node c.index.result.now) (at c)
