-- Fronts of a text that are put together.
use Rattle.std.proofs.Common.{◌≡◌, ℕ, suc, ◌+◌, ◌<◌, ◌≤◌, ◌⊎◌, List, [], ◌∷◌, ◌++◌, length, take, drop, Option, Some, None, refl, sym, ◌∙◌, ap, subst, inl, ⊎_elim, append_assoc, take-append-drop, arith, length-drop}
use Rattle.std.proofs.Math.Seq.{take-add}
use Rattle.std.proofs.lemmas.List.{drop-drop}
use Rattle.std.specs.Option.{unwrap_or}
use Rattle.odc_syntax.specs.lexical.Words.{Run, Led, Then}
use Rattle.odc_syntax.specs.lexical.Longest.{Begins, Absent, Best, IsWholeRun, IsFront, FindsFront, Never}
use Rattle.odc_syntax.specs.lexical.Numbers.{Optional}
use Rattle.odc_syntax.specs.lexical.Texts.{IsBetween}
use Rattle.odc_syntax.proofs.Longest.{AreUnits, run_best, led_best, then_best, optional_some, cancel, take_join}

pub drop_join : (text : List ℕ) (m n : ℕ) → drop n (drop m text) ≡ drop (m + n) text
drop_join text m n = drop-drop n m text

within_join : (text : List ℕ) (m n : ℕ) → m ≤ length text → n ≤ length (drop m text) → m + n ≤ length text
within_join text m n l k = omega (arith, k, length-drop m text)

-- the front of a text in two parts
best_at : {P N : List ℕ → Type 0} (text : List ℕ) (m n : ℕ) → Best P N (take m text ++ take n (drop m text)) (drop n (drop m text)) → Best P N (take (m + n) text) (drop (m + n) text)
best_at {P} {N} text m n best = subst (λ r. Best P N (take (m + n) text) r) (drop_join text m n) (subst (λ w. Best P N w (drop n (drop m text))) (take_join text m n) best)

pub then_front : {P Q N M : List ℕ → Type 0} (text : List ℕ) (m n : ℕ) → IsFront P N text m → IsFront Q M (drop m text) n → ((v s : List ℕ) → Q v → N (v ++ s) → v ≡ []) → IsFront (Then P Q) (λ s. N s ⊎ M s) text (m + n)
then_front {P} {Q} {N} {M} text m n front back apart = record {
  within = within_join text m n front.within back.within;
  best = best_at text m n (then_best (subst (λ r. Best P N (take m text) r) (sym (take-append-drop n (drop m text))) front.best) back.best apart);
}

module _ {F U : List ℕ → Type 0} (firsts : AreUnits F) (units : AreUnits U) where
  pub led_front : (text : List ℕ) (m n : ℕ) → (m ≤ length text) × F (take m text) → IsWholeRun U (drop m text) n → IsFront (Led F U) (Begins U) text (m + n)
  led_front text m n first run = record {
    within = within_join text m n first.0 run.within;
    best = best_at text m n (led_best firsts units first.1 run.run run.over);
  }

pub led_absent : {F U : List ℕ → Type 0} (text : List ℕ) → Absent F text → Absent (Led F U) text
led_absent text absent v s is e = absent is.lead (is.rest ++ s) is.first (sym (append_assoc is.lead is.rest s) ∙ ap (λ x. x ++ s) (sym is.bytes) ∙ e)

pub run_front : {U : List ℕ → Type 0} (units : AreUnits U) (text : List ℕ) (n : ℕ) → IsWholeRun U text n → IsFront (Run U) (Begins U) text n
run_front units text n run = record { within = run.within; best = run_best units run.run run.over }

pub unit_front : {U : List ℕ → Type 0} (units : AreUnits U) (text : List ℕ) (n : ℕ) → (n ≤ length text) × U (take n text) → IsFront U Never text n
unit_front units text n is = record {
  within = is.0;
  best = record { is = is.1; only = λ v s other e. inl (units.apart v (take n text) s (drop n text) other is.1 e) };
}

pub optional_front : {P N : List ℕ → Type 0} (text : List ℕ) (found : Option ℕ) → ((v : List ℕ) → P v → 0 < length v) → FindsFront P N text found → IsFront (Optional P) (λ s. Begins P s ⊎ N s) text (unwrap_or found 0)
optional_front {P} {N} text (Some n) nonempty front = record { within = front.within; best = optional_some front.best nonempty }
optional_front {P} {N} text None nonempty absent = record {
  within = omega arith;
  best = record { is = inl refl; only = λ v s other e. ⊎_elim (λ empty. inl empty) (λ is. absurd (absent v s is e)) other };
}

-- what is found between two signs
inside_of : {I : List ℕ → Type 0} (sign : ℕ) (t v s : List ℕ) (is : IsBetween sign I v) → v ++ s ≡ sign ∷ t → is.inside ++ sign ∷ s ≡ t
inside_of sign t v s is e =
    let spelled : sign ∷ ((is.inside ++ sign ∷ []) ++ s) ≡ sign ∷ t = ap (λ x. x ++ s) (sym is.bytes) ∙ e in
    let tails : (is.inside ++ sign ∷ []) ++ s ≡ t = cc in
    sym (append_assoc is.inside (sign ∷ []) s) ∙ tails

module _ {I N : List ℕ → Type 0} (sign : ℕ) (closed : (s : List ℕ) → N (sign ∷ s) → ⊥) where
  pub between_front : (text t r : List ℕ) (n : ℕ) → text ≡ sign ∷ t → IsFront I N t n → drop n t ≡ sign ∷ r → IsFront (IsBetween sign I) Never text (n + 2)
  between_front text t r n e front rest = record {
    within = omega (arith, ap length e, front.within, ap length rest, length-drop n t);
    best = record {
      is = record { inside = take n t; is_inside = front.best.is; bytes = bytes };
      only = λ v s is same.
          let spelled = inside_of sign t v s is (same ∙ take-append-drop (n + 2) text ∙ e) in
          ⊎_elim
          (λ equal. inl (is.bytes ∙ ap (λ q. sign ∷ (q ++ sign ∷ [])) equal ∙ sym bytes))
          (λ shorter. absurd (closed s shorter.1))
          (front.best.only is.inside (sign ∷ s) is.is_inside (spelled ∙ sym (take-append-drop n t)));
    };
  } where
    bytes : take (n + 2) text ≡ sign ∷ (take n t ++ sign ∷ [])
    bytes =
        let more : take (n + 1) t ≡ take n t ++ take 1 (drop n t) = take-add n 1 t in
        let last : take 1 (drop n t) ≡ sign ∷ [] = ap (take 1) rest in
        let k : n + 2 ≡ suc (n + 1) = omega arith in
        ap (take (n + 2)) e ∙ ap (λ j. take j (sign ∷ t)) k ∙ ap (λ x. sign ∷ x) (more ∙ ap (λ x. take n t ++ x) last)

  pub between_open : (text t : List ℕ) (n : ℕ) → text ≡ sign ∷ t → IsFront I N t n → ((r : List ℕ) → drop n t ≡ sign ∷ r → ⊥) → Absent (IsBetween sign I) text
  between_open text t n e front open' v s is same =
      let spelled = inside_of sign t v s is (same ∙ e) in
      ⊎_elim
      (λ equal. open' s (cancel (take n t) (drop n t) (sign ∷ s) (take-append-drop n t ∙ sym spelled ∙ ap (λ q. q ++ sign ∷ s) equal)))
      (λ shorter. closed s shorter.1)
      (front.best.only is.inside (sign ∷ s) is.is_inside (spelled ∙ sym (take-append-drop n t)))

pub between_absent : {I : List ℕ → Type 0} (sign : ℕ) (text t : List ℕ) → text ≡ sign ∷ t → Absent I t → Absent (IsBetween sign I) text
between_absent sign text t e absent v s is same =
    let spelled : sign ∷ ((is.inside ++ sign ∷ []) ++ s) ≡ sign ∷ t = ap (λ x. x ++ s) (sym is.bytes) ∙ same ∙ e in
    let tails : (is.inside ++ sign ∷ []) ++ s ≡ t = cc in
    absent is.inside (sign ∷ s) is.is_inside (sym (append_assoc is.inside (sign ∷ []) s) ∙ tails)

-- neither stands where the text doesn't begin with the sign
pub between_elsewhere : {I : List ℕ → Type 0} (sign : ℕ) (text : List ℕ) → ((t : List ℕ) → text ≡ sign ∷ t → ⊥) → Absent (IsBetween sign I) text
between_elsewhere sign text elsewhere v s is same = elsewhere ((is.inside ++ sign ∷ []) ++ s) (sym same ∙ ap (λ x. x ++ s) is.bytes)
