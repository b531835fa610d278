-- Turns of a loop of core code, as parts of runs: the loop's fuel falls with its turns, the body's doesn't.
use Rattle.std.proofs.Common.{◌≡◌, ℕ, suc, ◌+◌, ◌-◌, ◌<◌, ◌≤◌, arith, ap, ◌∙◌, refl}
use Rattle.odc_core.specs.Run.{Res, then_by, Flow, falls, leaves, after_turn, turns}
use Rattle.odc_carried.proofs.Runs.{Face, at, Fueled, as_told, Runs}

-- what is left of a loop after so many turns
abbrev pub rest_of : ℕ → Fueled Flow → Fueled Flow
rest_of i body n = turns (n - i) (body n)

-- a turn begins
pub begins : (i n left c : ℕ) (body : Fueled Flow) (h : Face) → i < n → rest_of i body n (at h (suc left) c) ≡ then_by (body n (at h left (c + 1))) (λ flow. after_turn flow (rest_of (suc i) body n))
begins i n left c body h less =
    let one_more : n - i ≡ suc (n - suc i) = omega arith in
    ap (λ (q : ℕ). turns q (body n) (at h (suc left) c)) one_more

pub runs_again : (i j : ℕ) (body : Fueled Flow) {h h' h'' : Face} {b x b' x' : ℕ} {flow : Flow} → i ≤ j → Runs j body h b x falls h' → Runs (suc j) (rest_of (suc i) body) h' b' x' flow h'' → Runs j (rest_of i body) h (b + b' + 1) (x + x' + 1) flow h''
runs_again i j body {h} {h'} {h''} {b} {x} {b'} {x'} {flow} le r q = record {
  is = λ n k c g.
      let more : k + (b + b' + 1) ≡ suc ((k + b') + b) = omega arith in
      ap (λ (left : ℕ). rest_of i body n (at h left c)) more
      ∙ begins i n ((k + b') + b) c body h (omega arith)
      ∙ ap (λ (s : Res Flow). then_by s (λ f. after_turn f (rest_of (suc i) body n))) (r.is n (k + b') (c + 1) (omega arith))
      ∙ q.is n k (c + 1 + x) (omega arith)
      ∙ as_told flow h'' k k _ _ refl (omega arith);
}

pub runs_out : (i j : ℕ) (body : Fueled Flow) {h h' : Face} {b x : ℕ} → i ≤ j → Runs j body h b x (leaves 0) h' → Runs j (rest_of i body) h (b + 1) (x + 1) falls h'
runs_out i j body {h} {h'} {b} {x} le r = record {
  is = λ n k c g.
      let more : k + (b + 1) ≡ suc (k + b) = omega arith in
      ap (λ (left : ℕ). rest_of i body n (at h left c)) more
      ∙ begins i n (k + b) c body h (omega arith)
      ∙ ap (λ (s : Res Flow). then_by s (λ f. after_turn f (rest_of (suc i) body n))) (r.is n k (c + 1) (omega arith))
      ∙ as_told falls h' k k _ _ refl (omega arith);
}

-- all of a loop is what is left after no turn
pub all_turns : (j : ℕ) (body : Fueled Flow) {h h' : Face} {b x : ℕ} {flow : Flow} → Runs j (rest_of 0 body) h b x flow h' → Runs j (λ n. turns n (body n)) h b x flow h'
all_turns j body {h} {h'} {b} {x} {flow} r = record {
  is = λ n k c g. let same : n ≡ n - 0 = omega arith in ap (λ (q : ℕ). turns q (body n) (at h (k + b) c)) same ∙ r.is n k c g;
}
