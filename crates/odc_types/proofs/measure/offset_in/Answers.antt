use Rattle.std.proofs.Common.{◌≡◌, ◌<◌, ◌≤◌, ◌^◌, Some, None, map, ap, sym, ◌∙◌, subst, Option}
use Rattle.std.specs.Option.{option_map}
use Rattle.odc_types.specs.declared.ty.Field.{Field}
use Rattle.odc_types.specs.declared.ty.Ty.TheVariants.{Struct}
use Rattle.odc_types.specs.Nodes.{node, nodes, soa}
use Rattle.odc_types.specs.Layout.{Layout, layout_of_node, all_of, column, struct, count_of, fields_in, begin_of}
use Rattle.odc_types.specs.Clipped.{IsHeld}
use Rattle.odc_types.proofs.MeasureLemmas.{struct_offset}
use Rattle.odc_types.proofs.BlockedLaws.{fieldless, fieldless_none}
use Rattle.odc_types.proofs.measure.offset_in.Goals as goal

pub returns-in-Some : goal.returns-in-Some
returns-in-Some c = λ part l k.
    let f : Field → Option Layout = λ x. column part None x.ty.index in
    let is = c.in-Struct.is ∙ ap (λ v. Struct c.in-Struct.name v) c.in-Some.is in
    let told = struct_offset (all_of (map f c.as_slice.result.now)) c.column_offset.result c.args.field (λ ls. c.column_offset.ensures part ls k) in
    let at_items = subst (λ fs. (l : Layout) → option_map struct (all_of (map f fs)) ≡ Some l → c.args.field < count_of (fields_in l) → IsHeld c.column_offset.result (begin_of 0 (fields_in l) c.args.field)) c.as_slice.ensures.value told in
    subst (λ y. (l : Layout) → layout_of_node (nodes c.args.types.now) part (node y) ≡ Some l → c.args.field < count_of (fields_in l) → IsHeld c.column_offset.result (begin_of 0 (fields_in l) c.args.field)) (sym is) at_items l

pub returns-in-Err : goal.returns-in-Err
returns-in-Err c = λ part l k e less.
    let types = nodes c.args.types.now in
    let of = c.in-Soa-Fixed-default.of in
    let none : None ≡ Some l = sym (fieldless types part c.in-Soa-Fixed-default.form of (fieldless_none types of.index c.in-Err.field-0.part.index c.in-Err.ensures.err)) ∙ ap (λ y. layout_of_node types part (node y)) (sym c.in-Soa-Fixed-default.is) ∙ e in
    cc
