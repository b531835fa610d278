-- One more of the others.
use Rattle.std.proofs.Common.{◌≡◌, ℕ, ◌+◌, List, [], ◌∷◌, ◌++◌, take, map, add-one, ap, ◌∙◌, sym, subst}
use Rattle.std.proofs.Math.Seq.{take-suc}
use Rattle.rv_table.specs.State.{Area}
use Rattle.rv_table.specs.Areas.{shape, IsApartFrom}
use Rattle.rv_machine.proofs.Fixed.{apart_more}
use Rattle.rv_machine.proofs.memory.is_apart_from.Goals as goal

pub loop-other-preserved : goal.loop-other-preserved
loop-other-preserved c =
    let others = c.args.others.now in
    let i = c.loop-other.other-index in
    let x = c.other-item.result in
    let next : take (i + 1) others ≡ take i others ++ x ∷ [] =
    ap (λ (n : ℕ). take n others) (add-one i) ∙ take-suc others i x c.loop-other-test.true ∙ ap (λ (y : Area). take i others ++ y ∷ []) (sym c.other-item.is) in
    let P : List Area → Type 0 = λ xs. IsApartFrom (shape c.args.region.now) (map shape xs) in
    subst P (sym next) (apart_more c.args.region.now (take i others) x c.loop-other.invariant (c.is_apart.ensures c.if-not-is_apart.false))
