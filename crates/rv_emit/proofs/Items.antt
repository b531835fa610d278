-- The procedure that is emitted next.
use Rattle.std.proofs.Common.{◌≡◌, ℕ, zero, suc, ◌+◌, ◌*◌, ◌^◌, ◌<◌, ◌≤◌, List, [], ◌∷◌, ◌++◌, length, map, drop, get_or, arith, ap, ◌∙◌, sym, subst, refl, append_assoc}
use Rattle.std.specs.Prelude.{Some, slice_get}
use Rattle.std.proofs.Math.Seq.{drop-cons}
use Rattle.odc_mid.specs.declared.tree.MidProcedure.{MidProcedure}
use Rattle.odc_mid.specs.declared.tree.MidProgram.{MidProgram}
use Rattle.odc_mid.specs.Tree.{Proc}
use Rattle.odc_mid.specs.View.{proc, program}
use Rattle.odc_mid.specs.Well.{IsWell}
use Rattle.rv_emit.specs.Code.{proc_size}
use Rattle.rv_emit.specs.Blocks.{bare, block, block_of}
use Rattle.rv_emit.specs.declared.unlinked.Block.{Block as BlockType}
use Rattle.rv_emit.specs.Layout.{AllHaveSlots, IsShort, AllCanEmit}
use Rattle.rv_emit.proofs.Placed.{well_proc}
use Rattle.rv_emit.proofs.Able.{block_inside, proc_can}

found_item : (ps : List MidProcedure) (f : ℕ) (q : MidProcedure) → f < length ps → q ≡ get_or ps f q → slice_get (map proc ps) f ≡ Some (proc q)
found_item [] f q h e = absurd (omega arith)
found_item (x ∷ ps) zero q h e = ap (λ y. Some (proc y)) (sym e)
found_item (x ∷ ps) (suc f) q h e = found_item ps f q (omega arith) e

pub found_of : (p : MidProgram) (ps : List MidProcedure) → ps ≡ p.procedures.items → (f : ℕ) (q : MidProcedure) → f < length ps → q ≡ get_or ps f q → slice_get (program p).procedures f ≡ Some (proc q)
found_of p ps same f q h e =
    let P : List MidProcedure → Type 0 = λ xs. slice_get (map proc xs) f ≡ Some (proc q) in
    subst P same (found_item ps f q h e)

module _ (p : MidProgram) (well : IsWell (program p)) (slots : AllHaveSlots (program p).procedures) (short : IsShort (program p)) (f : ℕ) (q : MidProcedure) (found : slice_get (program p).procedures f ≡ Some (proc q)) where
  pub item_can : AllCanEmit (bare (proc q)) (length q.steps.items) q.steps.items
  item_can = proc_can (program p) well slots short f (proc q) found

  pub item_frame : q.frame ≤ 2 ^ 24
  item_frame = (well_proc (program p) (program p).procedures f (proc q) well.procedures found).fits

  pub item_low : 4 * proc_size (proc q) < 2 ^ 31
  item_low = omega (arith, short, block_inside (program p).procedures f (proc q) found)

-- ---- one more block

drop_here : (ps : List MidProcedure) (f : ℕ) (p : MidProcedure) → f < length ps → p ≡ get_or ps f p → drop f ps ≡ p ∷ drop (f + 1) ps
drop_here ps f p h e =
    let next : suc f ≡ f + 1 = omega arith in
    drop-cons ps f p h ∙ ap (λ y. y ∷ drop (suc f) ps) (sym e) ∙ ap (λ (n : ℕ). p ∷ drop n ps) next

map_last : (xs : List BlockType) (b : BlockType) → map block (xs ++ b ∷ []) ≡ map block xs ++ block b ∷ []
map_last [] b = refl
map_last (x ∷ xs) b = ap (λ ys. block x ∷ ys) (map_last xs b)

pub block_more : (list list' : List BlockType) (b : BlockType) (ps xs : List MidProcedure) (f : ℕ) (q : MidProcedure) → xs ≡ ps → f < length xs → q ≡ get_or xs f q → list' ≡ list ++ b ∷ [] → block b ≡ block_of (proc q) →
    map block list ++ map block_of (map proc (drop f ps)) ≡ map block_of (map proc ps) → map block list' ++ map block_of (map proc (drop (f + 1) ps)) ≡ map block_of (map proc ps)
block_more list list' b ps xs f q same h e grown is so_far =
    let P : List MidProcedure → Type 0 = λ ys. (f < length ys) × (q ≡ get_or ys f q) in
    let here = subst P same (h, e) in
    let rest = map block_of (map proc (drop (f + 1) ps)) in
    ap (λ ys. map block ys ++ rest) grown
    ∙ ap (λ ys. ys ++ rest) (map_last list b)
    ∙ append_assoc (map block list) (block b ∷ []) rest
    ∙ ap (λ y. map block list ++ (y ∷ rest)) is
    ∙ ap (λ ys. map block list ++ map block_of (map proc ys)) (sym (drop_here ps f q here.0 here.1))
    ∙ so_far
