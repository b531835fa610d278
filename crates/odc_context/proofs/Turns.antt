-- Turns of a loop of core code, as parts of runs: the loop's fuel falls with its turns, the body's doesn't.
use Rattle.std.proofs.Common.{◌≡◌, ℕ, suc, ◌+◌, ◌-◌, ◌<◌, ◌≤◌, arith, ap, ◌∙◌, refl}
use Rattle.odc_text.specs.Run.{Log}
use Rattle.odc_core.specs.Memory.{Memory}
use Rattle.odc_core.specs.Run.{State, Res, then_by, Flow, falls, leaves, after_turn, turns}
use Rattle.odc_context.proofs.Runs.{Fueled, from, as_told, Runs}

-- what is left of a loop after so many turns
abbrev pub rest_of : ℕ → Fueled Flow → Fueled Flow
rest_of i body n = turns (n - i) (body n)

-- a turn begins
pub begins : (i n left : ℕ) (body : Fueled Flow) (c : State) (m : Memory) (l : Log ℕ ℕ) → i < n → rest_of i body n (from c m l (suc left)) ≡ then_by (body n (from (record c { cost = c.cost + 1 }) m l left)) (λ flow. after_turn flow (rest_of (suc i) body n))
begins i n left body c m l h =
    let one_more : n - i ≡ suc (n - suc i) = omega arith in
    ap (λ (q : ℕ). turns q (body n) (from c m l (suc left))) one_more

pub runs_again : (i j : ℕ) (body : Fueled Flow) (m m' m'' : Memory) (l l' l'' : Log ℕ ℕ) (b x b' x' : ℕ) (flow : Flow) → i ≤ j → Runs j body m l b x falls m' l' →
    Runs (suc j) (rest_of (suc i) body) m' l' b' x' flow m'' l'' → Runs j (rest_of i body) m l (b + b' + 1) (x + x' + 1) flow m'' l''
runs_again i j body m m' m'' l l' l'' b x b' x' flow h r q = record {
  is = λ n k c g.
      let more : k + (b + b' + 1) ≡ suc ((k + b') + b) = omega arith in
      ap (λ (left : ℕ). rest_of i body n (from c m l left)) more
      ∙ begins i n ((k + b') + b) body c m l (omega arith)
      ∙ ap (λ (s : Res Flow). then_by s (λ f. after_turn f (rest_of (suc i) body n))) (r.is n (k + b') (record c { cost = c.cost + 1 }) (omega arith))
      ∙ q.is n k (record c { cost = c.cost + 1 + x }) (omega arith)
      ∙ as_told flow c m'' l'' k k _ _ refl (omega arith);
}

pub runs_out : (i j : ℕ) (body : Fueled Flow) (m m' : Memory) (l l' : Log ℕ ℕ) (b x : ℕ) → i ≤ j → Runs j body m l b x (leaves 0) m' l' →
    Runs j (rest_of i body) m l (b + 1) (x + 1) falls m' l'
runs_out i j body m m' l l' b x h r = record {
  is = λ n k c g.
      let more : k + (b + 1) ≡ suc (k + b) = omega arith in
      ap (λ (left : ℕ). rest_of i body n (from c m l left)) more
      ∙ begins i n (k + b) body c m l (omega arith)
      ∙ ap (λ (s : Res Flow). then_by s (λ f. after_turn f (rest_of (suc i) body n))) (r.is n k (record c { cost = c.cost + 1 }) (omega arith))
      ∙ as_told falls c m' l' k k _ _ refl (omega arith);
}

-- all of a loop is what is left after no turn
pub all_turns : (j : ℕ) (body : Fueled Flow) (m m' : Memory) (l l' : Log ℕ ℕ) (b x : ℕ) (flow : Flow) → Runs j (rest_of 0 body) m l b x flow m' l' → Runs j (λ n. turns n (body n)) m l b x flow m' l'
all_turns j body m m' l l' b x flow r = record {
  is = λ n k c g. let same : n ≡ n - 0 = omega arith in ap (λ (q : ℕ). turns q (body n) (from c m l (k + b))) same ∙ r.is n k c g;
}
