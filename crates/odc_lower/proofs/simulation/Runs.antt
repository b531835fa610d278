-- One configuration leads to another in an exact number of steps.
use Rattle.std.proofs.Common.{◌≡◌, ℕ, suc, ◌+◌, arith, ap, ◌∙◌, refl}
use Rattle.odc_text.specs.Steps.{After, on, Stand, stood, stood_after}

module _ {C : Type 0} where
  abbrev pub later : ℕ → Stand C → Stand C
  later d s = record { end = s.end; last = s.last; steps = s.steps + d }

  same_steps : (s : Stand C) (m n : ℕ) → m ≡ n → (let r : Stand C = record { end = s.end; last = s.last; steps = m } in r) ≡ record { end = s.end; last = s.last; steps = n }
  same_steps s m n e = ap (λ (k : ℕ). let r : Stand C = record { end = s.end; last = s.last; steps = k } in r) e

  pub record Leads (step : C → After C) (c : C) (d : ℕ) (c' : C) : Type 0 where
    pub by : (k j : ℕ) → j ≡ k + d → stood step j c ≡ later d (stood step k c')

  pub none_leads : (step : C → After C) (c : C) → Leads step c 0 c
  none_leads step c = record {
    by = λ k j e.
        let same : j ≡ k = omega arith in
        ap (λ (i : ℕ). stood step i c) same ∙ same_steps (stood step k c) (stood step k c).steps ((stood step k c).steps + 0) (omega arith);
  }

  pub one_leads : (step : C → After C) (c c' : C) → step c ≡ on c' → Leads step c 1 c'
  one_leads step c c' e = record {
    by = λ k j same.
        let next : j ≡ suc k = omega arith in
        ap (λ (i : ℕ). stood step i c) next ∙ ap (stood_after (stood step k)) e;
  }

  pub leads_on : (step : C → After C) (c : C) (d : ℕ) (c' : C) (e : ℕ) (c'' : C) → Leads step c d c' → Leads step c' e c'' → Leads step c (d + e) c''
  leads_on step c d c' e c'' a b = record {
    by = λ k j same.
        a.by (k + e) j (omega arith) ∙ ap (later d) (b.by k (k + e) refl)
        ∙ same_steps (stood step k c'') ((stood step k c'').steps + e + d) ((stood step k c'').steps + (d + e)) (omega arith);
  }

  -- one step, and then the rest
  pub step_on : (step : C → After C) (c c' : C) (e : ℕ) (c'' : C) → step c ≡ on c' → Leads step c' e c'' → Leads step c (1 + e) c''
  step_on step c c' e c'' first rest = leads_on step c 1 c' e c'' (one_leads step c c' first) rest

  pub leads_as : (step : C → After C) (c : C) (d e : ℕ) (c' : C) → d ≡ e → Leads step c d c' → Leads step c e c'
  leads_as step c d e c' same a = record { by = λ k j f. a.by k j (omega arith) ∙ same_steps (stood step k c') ((stood step k c').steps + d) ((stood step k c').steps + e) (omega arith) }
