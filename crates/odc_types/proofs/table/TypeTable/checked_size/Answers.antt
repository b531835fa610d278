use Rattle.std.proofs.Common.{ap, subst, ◌∙◌, Some, None}
use Rattle.odc_types.specs.Layout.{layout_of}
use Rattle.odc_types.specs.Clipped.{kept_at, AreKept}
use Rattle.odc_types.proofs.LayoutLaws.{none_measured, unheld}
use Rattle.odc_types.proofs.MeasuredLaws.{kept_measures}
use Rattle.odc_types.proofs.table.TypeTable.checked_size.Goals as goal

pub returns-in-None-clause-none_deeper : goal.returns-in-None-clause-none_deeper
returns-in-None-clause-none_deeper c =
    let extents = c.self.inside.kept.extents.items in
    let t = c.args.t.index in
    let kept : AreKept extents (layout_of c.args.self.now) = subst (λ ns. AreKept extents (layout_of ns)) c.self.view_is c.self.invariant.measured.kept in
    none_measured c.args.self.now t (kept_measures c.args.self.now extents t None kept (c.in-None.ensures ∙ ap (λ es. kept_at es t) c.as_slice.ensures.value))

pub returns-in-Some-clause-none_deeper : goal.returns-in-Some-clause-none_deeper
returns-in-Some-clause-none_deeper c =
    let extents = c.self.inside.kept.extents.items in
    let t = c.args.t.index in
    let kept : AreKept extents (layout_of c.args.self.now) = subst (λ ns. AreKept extents (layout_of ns)) c.self.view_is c.self.invariant.measured.kept in
    unheld c.args.self.now t c.in-Some.extent (kept_measures c.args.self.now extents t (Some c.in-Some.extent) kept (c.in-Some.ensures ∙ ap (λ es. kept_at es t) c.as_slice.ensures.value))
