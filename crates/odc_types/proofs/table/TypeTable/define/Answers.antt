use Rattle.std.proofs.Common.{ℕ, [], ◌≡◌, ◌<◌, ap, sym, ◌∙◌, subst, refl, arith, length, slice_get, slice_set, get_or, List}
use Rattle.std.proofs.lemmas.List.{map-set, length-map, length-set}
use Rattle.odc_types.specs.declared.ty.Ty.{Ty}
use Rattle.odc_types.specs.Nodes.{Node, node, nodes}
use Rattle.odc_types.specs.Identity.{identity_of}
use Rattle.odc_types.specs.Layout.{layout_of}
use Rattle.odc_types.specs.Parts.{HasPartsBelow, IsUndefined}
use Rattle.odc_types.specs.Measured.{IsTable, IsFounded, IsSound, IsSpreading, AreLonger, waiters_at}
use Rattle.odc_types.proofs.IdentityLaws.{identity_defined}
use Rattle.odc_types.proofs.LayoutLaws.{Grows, keeps_layout, grows_by_parts}
use Rattle.odc_types.proofs.TableLaws.{define_founded, define_sound, undefined_unkept, table_defined, table_kept, undefined_within, set_back}
use Rattle.odc_types.proofs.table.TypeTable.define.Goals as goal

changed : (items : List Ty) (t : ℕ) (x y : Ty) (now : List Node) → x ≡ y → nodes items ≡ now → nodes (slice_set items t x) ≡ slice_set now t (node y)
changed items t x y now e same = map-set node items t x ∙ ap (λ l. slice_set l t (node x)) same ∙ ap (λ n. slice_set now t (node n)) e

put_back : (items : List Ty) (t : ℕ) (x y : Ty) (now : List Node) → x ≡ get_or items t x → nodes items ≡ now → nodes (slice_set (slice_set items t y) t x) ≡ now
put_back items t x y now e same = ap nodes (set_back items t x y e) ∙ same

was_there : (items : List Ty) (t : ℕ) (x y : Ty) → x ≡ y → y ≡ get_or items t y → x ≡ get_or items t x
was_there items t x y e at = e ∙ at ∙ ap (λ z. get_or items t z) (sym e)

pub index_mut-requires-in-Err : goal.index_mut-requires-in-Err
index_mut-requires-in-Err c =
    let inside = undefined_within c.args.self.now c.args.t.index (node c.args.parts) c.requires.undefined in
    let count = ap (λ ns. length ns) (sym c.self.view_is) ∙ length-map c.self.inside.types.items node in
    omega (arith, c.self.inside.types.ok)

pub settle-requires-clause-founded : goal.settle-requires-clause-founded
settle-requires-clause-founded c =
    let kept = c.self.inside.kept in
    let t = subst (λ ns. IsTable c.self.inside.keys.keys ns kept.heights.items kept.extents.items kept.waiters.items) c.self.view_is c.self.invariant in
    let seen = ap nodes c.as_slice.ensures.value ∙ changed c.self.inside.types.items c.args.t.index c.replace-before.new.dest c.args.parts c.args.self.now c.replace-before.ensures.after c.self.view_is in
    subst (λ ns. IsFounded ns kept.heights.items) (sym seen) (define_founded c.self.inside.keys.keys c.args.self.now kept.heights.items kept.extents.items kept.waiters.items c.args.t.index (node c.args.parts) t c.requires.below c.requires.undefined)

pub settle-requires-clause-sound : goal.settle-requires-clause-sound
settle-requires-clause-sound c =
    let kept = c.self.inside.kept in
    let t = subst (λ ns. IsTable c.self.inside.keys.keys ns kept.heights.items kept.extents.items kept.waiters.items) c.self.view_is c.self.invariant in
    let seen = ap nodes c.as_slice.ensures.value ∙ changed c.self.inside.types.items c.args.t.index c.replace-before.new.dest c.args.parts c.args.self.now c.replace-before.ensures.after c.self.view_is in
    subst (λ ns. IsSound ns kept.extents.items) (sym seen) (define_sound c.self.inside.keys.keys c.args.self.now kept.heights.items kept.extents.items kept.waiters.items c.args.t.index (node c.args.parts) t c.requires.undefined)

pub settle-requires-clause-none : goal.settle-requires-clause-none
settle-requires-clause-none c =
    let kept = c.self.inside.kept in
    let t = subst (λ ns. IsTable c.self.inside.keys.keys ns kept.heights.items kept.extents.items kept.waiters.items) c.self.view_is c.self.invariant in
    undefined_unkept c.args.self.now kept.extents.items kept.waiters.items c.args.t.index (node c.args.parts) t.measured c.requires.undefined

pub invariant_of-self-in_default : goal.invariant_of-self-in_default
invariant_of-self-in_default c =
    let keys = c.self.inside.keys.keys in
    let kept = c.self.inside.kept in
    let new = c.settle.new.self in
    let t = subst (λ ns. IsTable keys ns kept.heights.items kept.extents.items kept.waiters.items) c.self.view_is c.self.invariant in
    let whole = changed c.self.inside.types.items c.args.t.index c.replace-before.new.dest c.args.parts c.args.self.now c.replace-before.ensures.after c.self.view_is in
    let seen = ap nodes c.as_slice.ensures.value ∙ whole in
    let goes = subst (λ ns. IsSpreading ns kept.extents.items kept.extents.items kept.waiters.items [] 0 c.args.t.index 0 (length (waiters_at kept.waiters.items c.args.t.index)) → IsSpreading ns kept.extents.items new.extents.items new.waiters.items new.fresh.items (length new.fresh.items) 0 0 0) seen c.in_default.ensures.ok in
    subst (λ ns. IsTable keys ns new.heights.items new.extents.items new.waiters.items) (sym whole)
    (table_defined keys c.args.self.now kept.heights.items new.heights.items kept.extents.items new.extents.items kept.waiters.items new.waiters.items new.fresh.items c.args.t.index (node c.args.parts) t c.requires.below c.requires.undefined (ap (λ v. v.items) c.settle.ensures.heights) c.settle.ensures.len goes)

pub invariant_of-self : goal.invariant_of-self
invariant_of-self c =
    let keys = c.self.inside.keys.keys in
    let kept = c.self.inside.kept in
    let new = c.forget.new.self in
    let back = put_back c.self.inside.types.items c.args.t.index c.replace-before.result c.replace-before.new.dest (nodes c.self.inside.types.items)
    (was_there c.self.inside.types.items c.args.t.index c.replace-before.result c.index_mut.result.now c.replace-before.ensures.value c.index_mut.ensures.value) refl in
    subst (λ ns. IsTable keys ns new.heights.items new.extents.items new.waiters.items) (sym back)
    (table_kept keys (nodes c.self.inside.types.items) kept.heights.items new.heights.items kept.extents.items new.extents.items kept.waiters.items new.waiters.items c.self.invariant
    (ap (λ v. v.items) (c.forget.ensures.heights ∙ c.settle.ensures.heights))
    (c.forget.ensures.same ∙ c.settle.ensures.told.same)
    (ap (λ v. length v.items) c.forget.ensures.waiters ∙ c.settle.ensures.len)
    (c.forget.ensures.kept kept.extents.items c.settle.ensures.told)
    (subst (λ ws. AreLonger kept.waiters.items ws) (sym (ap (λ v. v.items) c.forget.ensures.waiters)) c.settle.ensures.longer))

pub returns-clause-ok : goal.returns-clause-ok
returns-clause-ok c = changed c.self.inside.types.items c.args.t.index c.replace-before.new.dest c.args.parts c.args.self.now c.replace-before.ensures.after c.self.view_is

pub returns-clause-layouts : goal.returns-clause-layouts
returns-clause-layouts c = λ u sized.
    keeps_layout c.args.self.now _ (subst (λ ns. Grows c.args.self.now ns) (sym (returns-clause-ok c)) (grows_by_parts c.args.self.now c.args.t.index (node c.args.parts) c.requires.undefined)) u sized

pub returns-clause-identities : goal.returns-clause-identities
returns-clause-identities c = λ u inside.
    ap (λ ns. identity_of ns u) (returns-clause-ok c) ∙ identity_defined c.args.self.now c.args.t.index (node c.args.parts) c.requires.undefined u

pub returns-in-Err-clause-err : goal.returns-in-Err-clause-err
returns-in-Err-clause-err c =
    put_back c.self.inside.types.items c.args.t.index c.replace-before.result c.replace-before.new.dest c.args.self.now
    (was_there c.self.inside.types.items c.args.t.index c.replace-before.result c.index_mut.result.now c.replace-before.ensures.value c.index_mut.ensures.value) c.self.view_is

pub returns-in-Err-clause-identities : goal.returns-in-Err-clause-identities
returns-in-Err-clause-identities c = λ u inside. ap (λ ns. identity_of ns u) (returns-in-Err-clause-err c)

pub returns-in-Err-clause-layouts : goal.returns-in-Err-clause-layouts
returns-in-Err-clause-layouts c = λ u sized. ap (λ ns. layout_of ns u) (returns-in-Err-clause-err c)
