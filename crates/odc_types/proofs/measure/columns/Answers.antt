use Rattle.std.proofs.Common.{◌+◌, max, Some, Option, map, sym, ◌∙◌, subst, arith, refl}
use Rattle.odc_types.specs.declared.ty.Field.{Field}
use Rattle.odc_types.specs.Layout.{Layout, column, round_up}
use Rattle.odc_types.proofs.MeasureLemmas.{IsWalking, walk_begins, walk_on, walk_ends, part_at, mapped_below, mapped_past, ord_max_is, kept_part, column_measured}
use Rattle.odc_types.proofs.measure.columns.Goals as goal

pub loop-field-init : goal.loop-field-init
loop-field-init c = (omega arith, λ part k. walk_begins (map (λ (x : Field). column part c.args.count x.ty.index) c.args.fields.now))

pub loop-field-preserved : goal.loop-field-preserved
loop-field-preserved c =
    let most = c.max-align.ensures ∙ ord_max_is c.loop-field.align c.column-wide.result.align in
    let deep = c.max-depth.ensures ∙ ord_max_is c.loop-field.depth c.column-wide.result.depth in
    let least = c.loop-field.invariant.0 in (
      omega (arith, most),
      λ part k.
          let f : Field → Option Layout = λ x. column part c.args.count x.ty.index in
          let w = c.loop-field.invariant.1 part k in
          let on = walk_on (map f c.args.fields.now) c.loop-field.field-index c.loop-field.end c.loop-field.align c.loop-field.depth w c.column-wide.result
          (mapped_below f c.args.fields.now c.loop-field.field-index c.loop-field-test.true)
          (part_at f c.args.fields.now c.loop-field.field-index _ c.loop-field-test.true (Some c.column-wide.result)
          (column_measured c.args.count part _ c.in-Some-kept.part c.column-wide.result (kept_part c.args.extents.now part k _ (Some c.in-Some-kept.part) c.in-Some-kept.ensures) c.column-wide.ensures))
          c.sum-end.result
          (λ s held. c.sum-end.ensures (round_up w.at c.column-wide.result.align) s (c.rounded.ensures w.at w.held) held) in
          subst (λ d. IsWalking (map f c.args.fields.now) (c.loop-field.field-index + 1) c.sum-end.result c.max-align.result d) (sym deep)
          (subst (λ al. IsWalking (map f c.args.fields.now) (c.loop-field.field-index + 1) c.sum-end.result al (max c.loop-field.depth c.column-wide.result.depth)) (sym most) on),
    )

pub returns-clause-ok : goal.returns-clause-ok
returns-clause-ok c = λ part k.
    let f : Field → Option Layout = λ x. column part c.args.count x.ty.index in
    let w = c.loop-field.invariant.1 part k in
    walk_ends (map f c.args.fields.now) c.loop-field.field-index c.loop-field.end c.loop-field.align c.loop-field.depth w _
    (mapped_past f c.args.fields.now c.loop-field.field-index c.loop-field-test.false) (c.rounded-2.ensures w.at w.held) refl (c.deeper.ensures w.deep w.counted)
