use Rattle.std.proofs.Common.{ℕ, zero, suc, ◌≡◌, ◌<◌, ◌++◌, ◌∷◌, [], ◌⊎◌, length, slice_get, Some, List, Result, Ok, Err, IfOk, OnErr, ap, ◌∙◌, inl, inr}
use Rattle.std.specs.declared.alloc.AllocError.{AllocError}
use Rattle.odc_types.specs.declared.ty.TyId.{TyId}
use Rattle.odc_types.specs.Nodes.{Node, node}
use Rattle.types_tests.proofs.tests.add_on.Goals as goal

get_front : {A : Type 0} (xs ys : List A) (t : ℕ) (x : A) → slice_get xs t ≡ Some x → slice_get (xs ++ ys) t ≡ Some x
get_front [] ys t x e = cc
get_front (y ∷ xs) ys zero x e = e
get_front (y ∷ xs) ys (suc t) x e = get_front xs ys t x e

first : (r : Result TyId AllocError) (old new : List Node) (m : Node) → IfOk r (λ id. (id.index < length old × (new ≡ old)) ⊎ ((id.index ≡ length old) × (new ≡ old ++ (m ∷ [])))) → OnErr r (new ≡ old) → (n : Node) → slice_get old 0 ≡ Some n → slice_get new 0 ≡ Some n
first (Ok id) old new m added err n e =
    elim added [
      | inl same ↦ ap (λ ns. slice_get ns 0) same.1 ∙ e
      | inr more ↦ ap (λ ns. slice_get ns 0) more.1 ∙ get_front old (m ∷ []) 0 n e
    ]
first (Err x) old new m added err n e = ap (λ ns. slice_get ns 0) err ∙ e

pub returns-clause-first : goal.returns-clause-first
returns-clause-first c = first c.add.result c.args.table.now c.add.new.self (node c.args.t) c.add.ensures.added c.add.ensures.err
