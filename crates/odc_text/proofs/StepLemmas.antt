-- A run by steps: an ended one stays as it is, and what one configuration leads to.
use Rattle.std.specs.Prelude.{◌≡◌, ℕ, zero, suc, ◌≤◌, refl}
use Rattle.std.proofs.Common.{ap, arith}
use Rattle.odc_text.specs.Steps.{After, on, over, Stand, one_more, stood_after, stood, IsOver}

pub after_stays : {C : Type 0} (f g : C → Stand C) (a : After C) → ((d : C) → IsOver (f d).end → g d ≡ f d) → IsOver (stood_after f a).end → stood_after g a ≡ stood_after f a
after_stays f g (on next) same o = ap one_more (same next o)
after_stays f g (over end last) same o = refl

pub stood_stays : {C : Type 0} (step : C → After C) (n m : ℕ) (c : C) → n ≤ m → IsOver (stood step n c).end → stood step m c ≡ stood step n c
stood_stays step zero m c le o = absurd o
stood_stays step (suc n) zero c le o = absurd (omega arith)
stood_stays step (suc n) (suc m) c le o = after_stays (stood step n) (stood step m) (step c) (λ d. stood_stays step n m d (omega arith)) o
