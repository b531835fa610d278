use Rattle.std.proofs.Common.{◌+◌, Some, Option, map, arith, refl, sym, ◌∙◌, subst}
use Rattle.odc_types.specs.declared.ty.TyId.{TyId}
use Rattle.odc_types.specs.Layout.{Layout, round_up}
use Rattle.odc_types.proofs.MeasureLemmas.{IsOverlaying, overlay_begins, overlay_on, overlay_ends, part_at, mapped_below, mapped_past, ord_max_is, kept_part}
use Rattle.odc_types.proofs.measure.union_extent.Goals as goal

pub loop-variant-init : goal.loop-variant-init
loop-variant-init c = λ part k. overlay_begins (map (λ (v : TyId). part v.index) c.args.variants.now)

pub loop-variant-preserved : goal.loop-variant-preserved
loop-variant-preserved c = λ part k.
    let f : TyId → Option Layout = λ x. part x.index in
    let w = c.loop-variant.invariant part k in
    let deep = c.max-depth.ensures ∙ ord_max_is c.loop-variant.depth c.in-Some-kept.part.depth in
    subst (λ d. IsOverlaying (map f c.args.variants.now) (c.loop-variant.variant-index + 1) c.greater-widest.result d) (sym deep)
    (overlay_on (map f c.args.variants.now) c.loop-variant.variant-index c.loop-variant.widest c.loop-variant.depth w c.in-Some-kept.part
    (mapped_below f c.args.variants.now c.loop-variant.variant-index c.loop-variant-test.true)
    (part_at f c.args.variants.now c.loop-variant.variant-index _ c.loop-variant-test.true (Some c.in-Some-kept.part) (kept_part c.args.extents.now part k _ (Some c.in-Some-kept.part) c.in-Some-kept.ensures))
    c.greater-widest.result (λ s held. c.greater-widest.ensures w.most s w.held held))

pub returns-clause-ok : goal.returns-clause-ok
returns-clause-ok c = λ part k.
    let f : TyId → Option Layout = λ x. part x.index in
    let w = c.loop-variant.invariant part k in
    overlay_ends (map f c.args.variants.now) c.loop-variant.variant-index c.loop-variant.widest c.loop-variant.depth w _
    (mapped_past f c.args.variants.now c.loop-variant.variant-index c.loop-variant-test.false)
    (c.sum.ensures (round_up w.most 8) 8 (c.rounded.ensures w.most w.held) (refl, omega arith)) refl (c.deeper.ensures w.deep w.counted)
