use Rattle.std.proofs.Common.{Some, Option, map}
use Rattle.odc_types.specs.declared.ty.Field.{Field}
use Rattle.odc_types.specs.Layout.{Layout, column, round_up}
use Rattle.odc_types.proofs.MeasureLemmas.{seek_begins, seek_on, seek_stops, seek_past, seek_here, part_at, part_missing, mapped_below, mapped_past, kept_part, kept_missing, column_measured, column_missing}
use Rattle.odc_types.proofs.measure.column_offset.Goals as goal

pub returns-in_default : goal.returns-in_default
returns-in_default c = λ part ls k all less.
    let f : Field → Option Layout = λ x. column part c.args.count x.ty.index in
    absurd (seek_stops (map f c.args.fields.now) c.loop-index.index c.loop-index.end c.args.at (c.loop-index.invariant part k)
    (mapped_below f c.args.fields.now c.loop-index.index c.loop-index-test.true)
    (part_missing f c.args.fields.now c.loop-index.index _ c.loop-index-test.true (column_missing c.args.count part _ (kept_missing c.args.extents.now part k _ c.in_default.ensures))) ls all less)

pub returns-then-index-at : goal.returns-then-index-at
returns-then-index-at c = λ part ls k all less.
    let f : Field → Option Layout = λ x. column part c.args.count x.ty.index in
    let s = c.loop-index.invariant part k in
    seek_here (map f c.args.fields.now) c.loop-index.index c.loop-index.end c.args.at s c.column-wide.result
    (mapped_below f c.args.fields.now c.loop-index.index c.loop-index-test.true)
    (part_at f c.args.fields.now c.loop-index.index _ c.loop-index-test.true (Some c.column-wide.result)
    (column_measured c.args.count part _ c.in-Some.part c.column-wide.result (kept_part c.args.extents.now part k _ (Some c.in-Some.part) c.in-Some.ensures) c.column-wide.ensures))
    c.if-index-at.true c.rounded-begin.result (c.rounded-begin.ensures s.at s.held) ls all less

pub loop-index-preserved : goal.loop-index-preserved
loop-index-preserved c = λ part k.
    let f : Field → Option Layout = λ x. column part c.args.count x.ty.index in
    let s = c.loop-index.invariant part k in
    seek_on (map f c.args.fields.now) c.loop-index.index c.loop-index.end c.args.at s c.column-wide.result
    (mapped_below f c.args.fields.now c.loop-index.index c.loop-index-test.true)
    (part_at f c.args.fields.now c.loop-index.index _ c.loop-index-test.true (Some c.column-wide.result)
    (column_measured c.args.count part _ c.in-Some.part c.column-wide.result (kept_part c.args.extents.now part k _ (Some c.in-Some.part) c.in-Some.ensures) c.column-wide.ensures))
    c.if-index-at.false c.sum-end.result
    (λ n held. c.sum-end.ensures (round_up s.at c.column-wide.result.align) n (c.rounded-begin.ensures s.at s.held) held)

pub loop-index-init : goal.loop-index-init
loop-index-init c = λ part k. seek_begins (map (λ (x : Field). column part c.args.count x.ty.index) c.args.fields.now) c.args.at

pub returns : goal.returns
returns c = λ part ls k all less.
    let f : Field → Option Layout = λ x. column part c.args.count x.ty.index in
    absurd (seek_past (map f c.args.fields.now) c.loop-index.index c.loop-index.end c.args.at (c.loop-index.invariant part k)
    (mapped_past f c.args.fields.now c.loop-index.index c.loop-index-test.false) ls all less)
