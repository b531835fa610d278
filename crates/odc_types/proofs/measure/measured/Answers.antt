use Rattle.std.proofs.Common.{◌≡◌, ℕ, Option, Some, None, Contains, IfErr, unwrap_or, refl, sym, ap, ◌∙◌, subst}
use Rattle.odc_types.specs.declared.extent.Extent.{Extent}
use Rattle.odc_types.specs.declared.measure.Missing.{Missing}
use Rattle.odc_types.specs.declared.width.Width.{Width}
use Rattle.odc_types.specs.declared.width.Width.TheVariants as width
use Rattle.odc_types.specs.declared.ty.Ty.{Ty}
use Rattle.odc_types.specs.declared.ty.Ty.TheVariants.{Struct, Union, Enum, Distinct}
use Rattle.odc_types.specs.Nodes.{node, nodes}
use Rattle.odc_types.specs.Widths.{bytes_of}
use Rattle.odc_types.specs.Layout.{Layout, layout_of_node, integer_of, scalar}
use Rattle.odc_types.specs.Clipped.{IsExtent, IsMeasured, kept_at, AreKept}
use Rattle.odc_types.specs.Measured.{IsBlocked, part, types_of}
use Rattle.odc_types.proofs.MeasureLemmas.{err_as}
use Rattle.odc_types.proofs.HoldsLaws.{the_one}
use Rattle.odc_types.proofs.BlockedLaws.{blocked_by}
use Rattle.odc_types.proofs.measure.measured.Goals as goal

pub returns-in-Bool-clause-ok : goal.returns-in-Bool-clause-ok
returns-in-Bool-clause-ok c = λ part k. subst (λ y. IsMeasured (Some c.one.result) (layout_of_node (nodes c.args.types.now) part (node y))) (sym c.in-Bool.is) (c.one.ensures 1 refl)

pub returns-in-Int-clause-ok : goal.returns-in-Int-clause-ok
returns-in-Int-clause-ok c = λ part k.
    subst (λ y. IsMeasured (Some c.one-in-Int.result) (layout_of_node (nodes c.args.types.now) part (node y))) (sym c.in-Int.is)
    (subst (λ n. IsExtent c.one-in-Int.result (scalar n 1)) c.bytes.ensures.value (c.one-in-Int.ensures 1 refl))

pub returns-in-Rune-clause-ok : goal.returns-in-Rune-clause-ok
returns-in-Rune-clause-ok c = λ part k. subst (λ y. IsMeasured (Some c.one-in-Rune.result) (layout_of_node (nodes c.args.types.now) part (node y))) (sym c.in-Rune.is) (c.one-in-Rune.ensures 1 refl)

pub returns-in-RawPtr-clause-ok : goal.returns-in-RawPtr-clause-ok
returns-in-RawPtr-clause-ok c = λ part k. subst (λ y. IsMeasured (Some c.one-in-RawPtr.result) (layout_of_node (nodes c.args.types.now) part (node y))) (sym c.in-RawPtr.is) (c.one-in-RawPtr.ensures 1 refl)

pub returns-in-Text-clause-ok : goal.returns-in-Text-clause-ok
returns-in-Text-clause-ok c = λ part k. subst (λ y. IsMeasured (Some c.some_words.result) (layout_of_node (nodes c.args.types.now) part (node y))) (sym c.in-Text.is) (c.some_words.ensures 1 refl)

pub returns-in-Array-clause-err : goal.returns-in-Array-clause-err
returns-in-Array-clause-err c =
    let types = nodes c.args.types.now in
    let extents = c.args.extents.now in
    subst (λ y. IfErr c.array_extent.result (λ m. IsBlocked types extents c.args.t.index (node y) m.part.index)) (sym c.in-Array.is)
    (err_as c.array_extent.result (λ (m : Missing). (m.part ≡ c.in-Array.of) × (kept_at extents c.in-Array.of.index ≡ None)) _
    (λ m h. blocked_by types extents c.args.t.index _ m.part c.in-Array.of (the_one c.in-Array.of) h.0 h.1) c.array_extent.ensures.err)

pub returns-in-Soa-clause-err : goal.returns-in-Soa-clause-err
returns-in-Soa-clause-err c =
    let types = nodes c.args.types.now in
    let extents = c.args.extents.now in
    subst (λ y. IfErr c.container_extent.result (λ m. IsBlocked types extents c.args.t.index (node y) m.part.index)) (sym c.in-Soa.is)
    (err_as c.container_extent.result _ _ (λ m h. h c.args.t.index) c.container_extent.ensures.err)

pub returns-in-Some-clause-err : goal.returns-in-Some-clause-err
returns-in-Some-clause-err c =
    let types = nodes c.args.types.now in
    let extents = c.args.extents.now in
    subst (λ y. IfErr c.columns.result (λ m. IsBlocked types extents c.args.t.index (node y) m.part.index)) (sym (c.in-Struct.is ∙ ap (λ v. Struct c.in-Struct.name v) c.in-Some.is))
    (err_as c.columns.result (λ (m : Missing). Contains (types_of c.as_slice.result.now) m.part × (kept_at extents m.part.index ≡ None)) _
    (λ m h. part m.part (subst (λ fs. Contains (types_of fs) m.part) c.as_slice.ensures.value h.0) refl h.1) c.columns.ensures.err)

pub returns-in-Some-variants-clause-err : goal.returns-in-Some-variants-clause-err
returns-in-Some-variants-clause-err c =
    let types = nodes c.args.types.now in
    let extents = c.args.extents.now in
    subst (λ y. IfErr c.union_extent.result (λ m. IsBlocked types extents c.args.t.index (node y) m.part.index)) (sym (c.in-Union.is ∙ ap (λ v. Union c.in-Union.name v) c.in-Some-variants.is))
    (err_as c.union_extent.result (λ (m : Missing). Contains c.as_slice-in-Some-variants.result.now m.part × (kept_at extents m.part.index ≡ None)) _
    (λ m h. part m.part (subst (λ vs. Contains vs m.part) c.as_slice-in-Some-variants.ensures.value h.0) refl h.1) c.union_extent.ensures.err)

pub returns-in-Some-enumerators-clause-ok : goal.returns-in-Some-enumerators-clause-ok
returns-in-Some-enumerators-clause-ok c = λ part k.
    subst (λ y. IsMeasured (Some c.one-in-Some-enumerators.result) (layout_of_node (nodes c.args.types.now) part (node y))) (sym (c.in-Enum.is ∙ ap (λ v. Enum c.in-Enum.name c.in-Enum.base v) c.in-Some-enumerators.is))
    (subst (λ n. IsExtent c.one-in-Some-enumerators.result (scalar n 1)) (c.bytes-in-Some-enumerators.ensures.value ∙ ap bytes_of (c.unwrap_or.ensures ∙ or_int c.in-Enum.base)) (c.one-in-Some-enumerators.ensures 1 refl))
  where
    or_int : (o : Option Width) → unwrap_or o width.Int ≡ integer_of o
    or_int None = refl
    or_int (Some w) = refl

pub returns-in-Some-base-clause-err : goal.returns-in-Some-base-clause-err
returns-in-Some-base-clause-err c =
    let types = nodes c.args.types.now in
    let extents = c.args.extents.now in
    subst (λ y. IfErr c.distinct_extent.result (λ m. IsBlocked types extents c.args.t.index (node y) m.part.index)) (sym (c.in-Distinct.is ∙ ap (λ v. Distinct c.in-Distinct.name v) c.in-Some-base.is))
    (err_as c.distinct_extent.result (λ (m : Missing). (m.part ≡ c.in-Some-base.base) × (kept_at extents c.in-Some-base.base.index ≡ None)) _
    (λ m h. blocked_by types extents c.args.t.index _ m.part c.in-Some-base.base (the_one c.in-Some-base.base) h.0 h.1) c.distinct_extent.ensures.err)
