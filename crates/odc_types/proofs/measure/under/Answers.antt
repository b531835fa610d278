use Rattle.std.proofs.Common.{◌≡◌, ◌-◌, ◌<◌, ℕ, zero, suc, Option, Some, None, List, length, ap, sym, ◌∙◌, arith, slice_get, refl, subst}
use Rattle.std.specs.Option.{option_map}
use Rattle.std.proofs.lemmas.List.{length-map}
use Rattle.std.proofs.lemmas.Option.{slice_get-map}
use Rattle.odc_types.specs.declared.ty.Ty.{Ty}
use Rattle.odc_types.specs.declared.ty.TyId.{TyId}
use Rattle.odc_types.specs.Nodes as nodes
use Rattle.odc_types.specs.Nodes.{Node, node, nodes as nodes_of}
use Rattle.odc_types.specs.Layout.{under, under_of, under_at, IsPlain}
use Rattle.odc_types.specs.Measured.{IsBase}
use Rattle.odc_types.proofs.measure.under.Goals as goal

at : (types : List Ty) (t : ℕ) (ty : Ty) → Some ty ≡ slice_get types t → slice_get (nodes_of types) t ≡ Some (node ty)
at types t ty e = slice_get-map node types t ∙ ap (λ o. option_map node o) (sym e)

nothing_at : (types : List Ty) (t : ℕ) → None ≡ slice_get types t → slice_get (nodes_of types) t ≡ None
nothing_at types t e = slice_get-map node types t ∙ ap (λ o. option_map node o) (sym e)

down_base : (f : ℕ → Option ℕ) (t : ℕ) (n : Node) (b : TyId) → IsBase n b → under_at f t (Some n) ≡ f b.index
down_base f t (nodes.distinct name (Some c)) b is = ap (λ (x : TyId). f x.index) is
down_base f t n b is = absurd is

plain_end : (f : ℕ → Option ℕ) (t : ℕ) (n : Node) → IsPlain n → under_at f t (Some n) ≡ Some t
plain_end f t (nodes.distinct name (Some c)) p = absurd p
plain_end f t (nodes.distinct name None) p = refl
plain_end f t n p = refl

down : (types : List Node) (k t b : ℕ) (n : Node) (o : Option ℕ) → 0 < k → slice_get types t ≡ Some n → ((f : ℕ → Option ℕ) → under_at f t (Some n) ≡ f b) → under types k t ≡ o → under types (k - 1) b ≡ o
down types zero t b n o positive at is e = absurd (omega arith)
down types (suc k) t b n o positive at is e =
    ap (λ j. under types j b) (omega arith) ∙ sym (is (under types k)) ∙ ap (λ m. under_at (under types k) t m) (sym at) ∙ e

ends : (types : List Node) (k t : ℕ) (n : Node) (o : Option ℕ) → 0 < k → slice_get types t ≡ Some n → IsPlain n → under types k t ≡ o → Some t ≡ o
ends types zero t n o positive at plain e = absurd (omega arith)
ends types (suc k) t n o positive at plain e = sym (plain_end (under types k) t n plain) ∙ ap (λ m. under_at (under types k) t m) (sym at) ∙ e

nothing : (types : List Node) (k t : ℕ) (o : Option ℕ) → slice_get types t ≡ None → under types k t ≡ o → None ≡ o
nothing types zero t o at e = e
nothing types (suc k) t o at e = ap (λ m. under_at (under types k) t m) (sym at) ∙ e

pub loop-init : goal.loop-init
loop-init c = ap (λ k. under (nodes_of c.args.types.now) k c.args.t.index) (omega arith)

pub loop-preserved : goal.loop-preserved
loop-preserved c =
    let types = nodes_of c.args.types.now in
    let count : length (nodes_of c.args.types.now) ≡ length c.args.types.now = length-map c.args.types.now node in
    let less = c.loop-test.true in
    let n = node c.in-Some.ty.now in
    let b = c.in-Some-base_of.base in
    ap (λ k. under types k b.index) (omega arith) ∙
    down types (length types - c.loop.counter) c.loop.t.index b.index n _ (omega arith) (at c.args.types.now c.loop.t.index c.in-Some.ty.now c.in-Some.ensures) (λ f. down_base f c.loop.t.index n b c.in-Some-base_of.ensures.some) c.loop.invariant

pub returns-in_default-clause-is : goal.returns-in_default-clause-is
returns-in_default-clause-is c = nothing (nodes_of c.args.types.now) _ c.loop.t.index _ (nothing_at c.args.types.now c.loop.t.index c.in_default.ensures) c.loop.invariant

pub returns-in-None-clause-is : goal.returns-in-None-clause-is
returns-in-None-clause-is c =
    let count : length (nodes_of c.args.types.now) ≡ length c.args.types.now = length-map c.args.types.now node in
    let less = c.loop-test.true in
    ends (nodes_of c.args.types.now) _ c.loop.t.index (node c.in-Some.ty.now) _ (omega arith) (at c.args.types.now c.loop.t.index c.in-Some.ty.now c.in-Some.ensures) c.in-None.ensures.none c.loop.invariant

pub returns-in-None-clause-plain : goal.returns-in-None-clause-plain
returns-in-None-clause-plain c = λ n found.
    let both : Some (node c.in-Some.ty.now) ≡ Some n = sym (at c.args.types.now c.loop.t.index c.in-Some.ty.now c.in-Some.ensures) ∙ found in
    let same : node c.in-Some.ty.now ≡ n = cc in
    subst IsPlain same c.in-None.ensures.none

pub returns-clause-is : goal.returns-clause-is
returns-clause-is c =
    let types = nodes_of c.args.types.now in
    let count : length (nodes_of c.args.types.now) ≡ length c.args.types.now = length-map c.args.types.now node in
    let past = c.loop-test.false in
    let none_left : length types - c.loop.counter ≡ 0 = omega arith in
    ap (λ k. under types k c.loop.t.index) (sym none_left) ∙ c.loop.invariant
