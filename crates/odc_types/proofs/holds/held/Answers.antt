use Rattle.std.proofs.Common.{◌≡◌, ◌++◌, ◌∷◌, [], ℕ, All, ◌<◌, Some, None, false, length, slice_get, map, replicate, sym, ap, ◌∙◌, subst, List, Option, take, ◌-◌, vec_len}
use Rattle.std.specs.Option.{option_map}
use Rattle.std.proofs.lemmas.List.{length-map, length-replicate}
use Rattle.std.proofs.lemmas.Option.{slice_get-map, slice_get_within}
use Rattle.odc_types.specs.declared.ty.Ty.{Ty}
use Rattle.odc_types.specs.declared.ty.TyId.{TyId}
use Rattle.odc_types.specs.Nodes.{Node, node, nodes}
use Rattle.odc_types.specs.Holds.{HasMarked, parts_in}
use Rattle.odc_types.proofs.HoldsLaws.{IsMarking, roots_marked, parts_marked, parts_below, all_marked, none_missing}
use Rattle.odc_types.proofs.holds.held.Goals as goal

at : (types : List Ty) (t : ℕ) (ty : Ty) → Some ty ≡ slice_get types t → slice_get (nodes types) t ≡ Some (node ty)
at types t ty e = slice_get-map node types t ∙ ap (λ o. option_map node o) (sym e)

pub loop-t-init : goal.loop-t-init
loop-t-init c =
    roots_marked (nodes c.args.types.now) c.args.roots.now (length c.args.types.now) c.mark_all.new.marks.items c.mark_all.new.todo.items (length-replicate (length c.args.types.now) false ∙ sym (length-map c.args.types.now node))
    (subst (λ before. HasMarked c.args.roots.now (replicate (length c.args.types.now) false) c.mark_all.new.marks.items before c.mark_all.new.todo.items) c.new-todo.ensures.items
    (subst (λ marks. HasMarked c.args.roots.now marks c.mark_all.new.marks.items c.new-todo.result.items c.mark_all.new.todo.items) (c.in_ok-marks.ensures.items_if_clones_equal (λ y same. same)) c.in_ok-mark_all.ensures))

pub mark_all-requires-in-Some-type_at : goal.mark_all-requires-in-Some-type_at
mark_all-requires-in-Some-type_at c =
    let count : length c.args.types.now ≡ length c.loop-t.marks.items = sym (c.loop-t.invariant.same ∙ length-map c.args.types.now node) in
    let parts : c.as_slice.result.now ≡ parts_in (node c.in-Some-type_at.ty.now) = c.as_slice.ensures.value ∙ c.in_ok-parts.ensures in
    subst (λ n. All (λ (t : TyId). t.index < n) c.as_slice.result.now) count
    (subst (All (λ (t : TyId). t.index < length c.args.types.now)) (sym parts)
    (parts_below (length c.args.types.now) (node c.in-Some-type_at.ty.now) (c.requires.parts c.in-Some.t.index (node c.in-Some-type_at.ty.now) (at c.args.types.now c.in-Some.t.index c.in-Some-type_at.ty.now c.in-Some-type_at.ensures))))

pub loop-t-preserved-in-Some-type_at : goal.loop-t-preserved-in-Some-type_at
loop-t-preserved-in-Some-type_at c =
    let parts : c.as_slice.result.now ≡ parts_in (node c.in-Some-type_at.ty.now) = c.as_slice.ensures.value ∙ c.in_ok-parts.ensures in
    parts_marked (nodes c.args.types.now) c.args.roots.now c.loop-t.marks.items c.mark_all-in-Some-type_at.new.marks.items c.pop.new.self.items c.mark_all-in-Some-type_at.new.todo.items c.in-Some.t (node c.in-Some-type_at.ty.now)
    (subst (IsMarking (nodes c.args.types.now) c.args.roots.now c.loop-t.marks.items) c.in-Some.ensures.items c.loop-t.invariant)
    (at c.args.types.now c.in-Some.t.index c.in-Some-type_at.ty.now c.in-Some-type_at.ensures)
    (subst (λ ts. HasMarked ts c.loop-t.marks.items c.mark_all-in-Some-type_at.new.marks.items c.pop.new.self.items c.mark_all-in-Some-type_at.new.todo.items) parts c.in_ok-mark_all-2.ensures)

nothing_there : (types : List Ty) (t : ℕ) → None ≡ slice_get types t → slice_get (nodes types) t ≡ None
nothing_there types t e = slice_get-map node types t ∙ ap (λ o. option_map node o) (sym e)

pub loop-t-preserved : goal.loop-t-preserved
loop-t-preserved c =
    absurd (none_missing (nodes c.args.types.now) c.args.roots.now c.loop-t.marks.items c.pop.new.self.items c.in-Some.t
    (subst (IsMarking (nodes c.args.types.now) c.args.roots.now c.loop-t.marks.items) c.in-Some.ensures.items c.loop-t.invariant)
    (nothing_there c.args.types.now c.in-Some.t.index c.in_default-type_at.ensures))

pub returns-clause-held : goal.returns-clause-held
returns-clause-held c =
    all_marked (nodes c.args.types.now) c.args.roots.now c.loop-t.marks.items (subst (IsMarking (nodes c.args.types.now) c.args.roots.now c.loop-t.marks.items) (empty c.loop-t.todo.items c.pop.new.self.items (vec_len c.loop-t.todo) c.in_default.ensures.cases.0 c.in_default.ensures.rest c.in_default.ensures.items) c.loop-t.invariant)
  where
    empty : (xs ys : List TyId) (n : ℕ) → n ≡ 0 → ys ≡ take (n - 1) xs → xs ≡ ys ++ [] → xs ≡ []
    empty xs ys n none rest all = all ∙ ap (λ l. l ++ []) (rest ∙ ap (λ k. take (k - 1) xs) none)
