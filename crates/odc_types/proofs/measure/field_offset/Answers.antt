use Rattle.std.proofs.Common.{◌≡◌, ◌<◌, Some, None, Option, List, slice_get, ap, sym, ◌∙◌, subst, length, ℕ}
use Rattle.std.specs.Option.{option_map}
use Rattle.std.proofs.lemmas.Option.{slice_get-map}
use Rattle.odc_types.specs.declared.ty.Ty.{Ty}
use Rattle.odc_types.specs.Nodes.{node, nodes}
use Rattle.odc_types.specs.Layout.{Layout, layout_of, under_of, fields_in, begin_of, count_of}
use Rattle.odc_types.specs.Clipped.{IsHeld}
use Rattle.odc_types.proofs.LayoutLaws.{under_layout, under_nothing, layout_unfolds, under_found}
use Rattle.odc_types.proofs.measure.field_offset.Goals as goal

at : (types : List Ty) (t : ℕ) (ty : Ty) → Some ty ≡ slice_get types t → slice_get (nodes types) t ≡ Some (node ty)
at types t ty e = slice_get-map node types t ∙ ap (λ o. option_map node o) (sym e)

nothing_at : (types : List Ty) (t : ℕ) → None ≡ slice_get types t → slice_get (nodes types) t ≡ None
nothing_at types t e = slice_get-map node types t ∙ ap (λ o. option_map node o) (sym e)

pub returns-in_default : goal.returns-in_default
returns-in_default c = λ l e less.
    let none : None ≡ Some l = sym (under_nothing (nodes c.args.types.now) c.args.t.index (sym c.in_default.ensures.is)) ∙ e in
    cc

pub offset_in-requires : goal.offset_in-requires
offset_in-requires c = c.in-Some.ensures.plain (node c.in-Some-type_at.ty.now) (at c.args.types.now c.in-Some.plain.index c.in-Some-type_at.ty.now c.in-Some-type_at.ensures)

pub returns-in-Some-type_at : goal.returns-in-Some-type_at
returns-in-Some-type_at c = λ l e less.
    let types = nodes c.args.types.now in
    let u = under_layout types (length types) c.args.t.index c.in-Some.plain.index l (sym c.in-Some.ensures.is) e in
    let there = layout_unfolds types c.in-Some.plain.index (node c.in-Some-type_at.ty.now) (at c.args.types.now c.in-Some.plain.index c.in-Some-type_at.ty.now c.in-Some-type_at.ensures) in
    subst (λ fs. IsHeld c.offset_in.result (begin_of 0 fs c.args.field)) (sym u.2)
    (c.offset_in.ensures (layout_of types) u.0 c.requires (sym there ∙ u.1) (subst (λ fs. c.args.field < count_of fs) u.2 less))

pub returns-in-None : goal.returns-in-None
returns-in-None c = λ l e less.
    let types = nodes c.args.types.now in
    let m = under_found types c.args.t.index c.in-Some.plain.index (sym c.in-Some.ensures.is) in
    let none : None ≡ Some m.0 = sym (nothing_at c.args.types.now c.in-Some.plain.index c.in-None.ensures) ∙ m.1 in
    cc
