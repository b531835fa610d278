-- When a word at the front of a text is the longest of its form, and how that carries over to words
-- that are put together.
use Rattle.std.proofs.Common.{take, drop, append-nil, length-drop, ◌≡◌, ℕ, ◌+◌, ◌<◌, ◌≤◌, ◌⊎◌, List, [], ◌∷◌, ◌++◌, length, refl, sym, ◌∙◌, ap, subst, inl, inr, ⊎_elim, append_assoc, arith, length-append}
use Rattle.std.proofs.Math.Seq.{take-add}
use Rattle.std.specs.List.{AllByRecursion}
use Rattle.odc_syntax.specs.lexical.Words.{Run, Led, Then, joined}
use Rattle.odc_syntax.specs.lexical.Longest.{Begins, Absent, Best}
use Rattle.odc_syntax.specs.lexical.Numbers.{Optional}

-- no unit is empty, and no two of them begin one text
pub record AreUnits (U : List ℕ → Type 0) : Type 0 where
  pub nonempty : (u : List ℕ) → U u → 0 < length u
  pub apart : (u v r s : List ℕ) → U u → U v → u ++ r ≡ v ++ s → u ≡ v

pub cancel : (u r s : List ℕ) → u ++ r ≡ u ++ s → r ≡ s
cancel [] r s e = e
cancel (b ∷ bs) r s e = cancel bs r s (cc)

pub cancel_along : (u v r s : List ℕ) → u ≡ v → u ++ r ≡ v ++ s → r ≡ s
cancel_along u v r s same e = cancel v r s (ap (λ x. x ++ r) (sym same) ∙ e)

-- words of one text with equal lengths are equal
pub same_length : (v w s r : List ℕ) → v ++ s ≡ w ++ r → length v ≡ length w → v ≡ w
same_length [] [] s r e l = refl
same_length [] (c ∷ w) s r e l = absurd (omega arith)
same_length (b ∷ v) [] s r e l = absurd (omega arith)
same_length (b ∷ v) (c ∷ w) s r e l =
    let heads : b ≡ c = cc in
    let tails : v ++ s ≡ w ++ r = cc in
    let rest : v ≡ w = same_length v w s r tails (omega arith) in
    cc

longer : (u v w : List ℕ) → length v < length w → length (u ++ v) < length (u ++ w)
longer u v w l = omega (arith, length-append u v, length-append u w)

module _ {U : List ℕ → Type 0} (units : AreUnits U) where
  run_only : (us vs : List (List ℕ)) (r s : List ℕ) → AllByRecursion U us → AllByRecursion U vs → Absent U r → joined vs ++ s ≡ joined us ++ r → (joined vs ≡ joined us) ⊎ ((length (joined vs) < length (joined us)) × Begins U s)
  run_only [] [] r s all every absent e = inl refl
  run_only (u ∷ us) [] r s all every absent e =
      inr (
        omega (arith, units.nonempty u all.0, length-append u (joined us)),
        record { word = u; rest = joined us ++ r; is = all.0; bytes = e ∙ append_assoc u (joined us) r },
      )
  run_only [] (v ∷ vs) r s all every absent e = absurd (absent v (joined vs ++ s) every.0 (sym (append_assoc v (joined vs) s) ∙ e))
  run_only (u ∷ us) (v ∷ vs) r s all every absent e =
      let regrouped : v ++ (joined vs ++ s) ≡ u ++ (joined us ++ r) = sym (append_assoc v (joined vs) s) ∙ e ∙ append_assoc u (joined us) r in
      let same : v ≡ u = units.apart v u (joined vs ++ s) (joined us ++ r) every.0 all.0 regrouped in
      let rests : joined vs ++ s ≡ joined us ++ r = cancel_along v u (joined vs ++ s) (joined us ++ r) same regrouped in
      ⊎_elim
      (λ equal. inl ((λ i. same i ++ equal i)))
      (λ shorter. inr (omega (arith, shorter.0, ap length same, length-append v (joined vs), length-append u (joined us)), shorter.1))
      (run_only us vs r s all.1 every.1 absent rests)

  pub run_best : {w r : List ℕ} → Run U w → Absent U r → Best (Run U) (Begins U) w r
  run_best {w} {r} run absent = record {
    is = run;
    only = λ v s other e.
        let spelled : joined other.units ++ s ≡ joined run.units ++ r = ap (λ x. x ++ s) (sym other.bytes) ∙ e ∙ ap (λ x. x ++ r) run.bytes in
        ⊎_elim
        (λ equal. inl (other.bytes ∙ equal ∙ sym run.bytes))
        (λ shorter. inr (omega (arith, shorter.0, ap length other.bytes, ap length run.bytes), shorter.1))
        (run_only run.units other.units r s run.each other.each absent spelled);
  }

-- what follows the parts of a word that is put together
module _ {P Q N M : List ℕ → Type 0} where
  pub then_best : {u w r : List ℕ} → Best P N u (w ++ r) → Best Q M w r → ((v s : List ℕ) → Q v → N (v ++ s) → v ≡ []) → Best (Then P Q) (λ s. N s ⊎ M s) (u ++ w) r
  then_best {u} {w} {r} front back apart = record {
    is = record { front = u; back = w; first = front.is; second = back.is; bytes = refl };
    only = λ v s both e.
        let spelled : both.front ++ (both.back ++ s) ≡ u ++ (w ++ r) = sym (append_assoc both.front both.back s) ∙ ap (λ x. x ++ s) (sym both.bytes) ∙ e ∙ append_assoc u w r in
        ⊎_elim
        (λ same.
        ⊎_elim
        (λ equal. inl (both.bytes ∙ (λ i. same i ++ equal i)))
        (λ shorter. inr (omega (arith, shorter.0, ap length same, ap length both.bytes, length-append both.front both.back, length-append u w), inr shorter.1))
        (back.only both.back s both.second (cancel_along both.front u (both.back ++ s) (w ++ r) same spelled)))
        (λ cut.
        let empty : both.back ≡ [] = apart both.back s both.second cut.1 in
        inr (
          omega (arith, cut.0, ap length empty, ap length both.bytes, length-append both.front both.back, length-append u w),
          inl (subst (λ x. N (x ++ s)) empty cut.1),
        ))
        (front.only both.front (both.back ++ s) both.first spelled);
  }

-- a part that may be left out
module _ {P N : List ℕ → Type 0} where
  pub optional_some : {w r : List ℕ} → Best P N w r → ((v : List ℕ) → P v → 0 < length v) → Best (Optional P) (λ s. Begins P s ⊎ N s) w r
  optional_some {w} {r} best nonempty = record {
    is = inr best.is;
    only = λ v s other e.
        ⊎_elim
        (λ empty.
        inr (
          omega (arith, nonempty w best.is, ap length empty),
          inl (record { word = w; rest = r; is = best.is; bytes = subst (λ x. x ++ s ≡ w ++ r) empty e }),
        ))
        (λ is.
        ⊎_elim
        (λ same. inl same)
        (λ shorter. inr (shorter.0, inr shorter.1))
        (best.only v s is e))
        other;
  }

  pub optional_none : {r : List ℕ} → Absent P r → Best (Optional P) N [] r
  optional_none {r} absent = record {
    is = inl refl;
    only = λ v s other e. ⊎_elim (λ empty. inl empty) (λ is. absurd (absent v s is e)) other;
  }

-- a first unit, and a run
module _ {F U : List ℕ → Type 0} (firsts : AreUnits F) (units : AreUnits U) where
  pub led_best : {u w r : List ℕ} → F u → Run U w → Absent U r → Best (Led F U) (Begins U) (u ++ w) r
  led_best {u} {w} {r} first run absent = record {
    is = record { lead = u; rest = w; first = first; run = run; bytes = refl };
    only = λ v s other e.
        let spelled : other.lead ++ (other.rest ++ s) ≡ u ++ (w ++ r) = sym (append_assoc other.lead other.rest s) ∙ ap (λ x. x ++ s) (sym other.bytes) ∙ e ∙ append_assoc u w r in
        let same : other.lead ≡ u = firsts.apart other.lead u (other.rest ++ s) (w ++ r) other.first first spelled in
        ⊎_elim
        (λ equal. inl (other.bytes ∙ (λ i. same i ++ equal i)))
        (λ shorter. inr (omega (arith, shorter.0, ap length same, ap length other.bytes, length-append other.lead other.rest, length-append u w), shorter.1))
        ((run_best units run absent).only other.rest s other.run (cancel_along other.lead u (other.rest ++ s) (w ++ r) same spelled));
  }

-- the front of a text begins one way only
pub best_longest : {P N : List ℕ → Type 0} {w r : List ℕ} → Best P N w r → (v s : List ℕ) → P v → v ++ s ≡ w ++ r → length v ≤ length w
best_longest best v s is e = ⊎_elim (λ same. omega (arith, ap length same)) (λ shorter. omega (arith, shorter.0)) (best.only v s is e)

-- a front and the front of what follows it
pub take_join : (text : List ℕ) (m n : ℕ) → take m text ++ take n (drop m text) ≡ take (m + n) text
take_join text m n = sym (take-add m n text)

-- one more unit at the end of a run
joined-push : (us : List (List ℕ)) (u : List ℕ) → joined (us ++ u ∷ []) ≡ joined us ++ u
joined-push [] u = append-nil u
joined-push (x ∷ us) u = ap (λ w. x ++ w) (joined-push us u) ∙ sym (append_assoc x (joined us) u)

each-push : (U : List ℕ → Type 0) (us : List (List ℕ)) (u : List ℕ) → AllByRecursion U us → U u → AllByRecursion U (us ++ u ∷ [])
each-push U [] u each is = (is, tt)
each-push U (x ∷ us) u each is = (each.0, each-push U us u each.1 is)

pub run_none : {U : List ℕ → Type 0} → Run U []
run_none = record { units = []; each = tt; bytes = refl }

pub run_push : {U : List ℕ → Type 0} {w : List ℕ} (u : List ℕ) → Run U w → U u → Run U (w ++ u)
run_push {U} u run is = record {
  units = run.units ++ u ∷ [];
  each = each-push U run.units u run.each is;
  bytes = ap (λ x. x ++ u) run.bytes ∙ sym (joined-push run.units u);
}

-- a run that was read up to at, and a unit behind it
pub run_more : {U : List ℕ → Type 0} (text : List ℕ) (at n : ℕ) → at ≤ length text → Run U (take at text) → (n ≤ length (drop at text)) × U (take n (drop at text)) → (at + n ≤ length text) × Run U (take (at + n) text)
run_more {U} text at n within run unit = (
  omega (arith, unit.0, length-drop at text),
  subst (Run U) (take_join text at n) (run_push (take n (drop at text)) run unit.1),
)
