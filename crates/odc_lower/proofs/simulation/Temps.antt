-- Temporaries: what is held in them, and what a step leaves as it was.
use Rattle.std.proofs.Common.{◌≡◌, ℕ, suc, ◌+◌, ◌<◌, ◌≤◌, List, [], ◌∷◌, length, map, ap, ◌∙◌, subst, refl, arith}
use Rattle.std.specs.Prelude.{get_or}
use Rattle.std.proofs.lemmas.Bool.Decides.{nat_tests}
use Rattle.odc_mid.specs.Run.{set}
use Rattle.odc_lower.specs.Code.{temps_from}

pub set_same : (to word : ℕ) (temps : ℕ → ℕ) → set to word temps to ≡ word
set_same to word temps = grind (arith, nat_tests)

pub set_other : (to word : ℕ) (temps : ℕ → ℕ) (t : ℕ) → (t ≡ to → ⊥) → set to word temps t ≡ temps t
set_other to word temps t other = grind (arith, nat_tests)

pub set_below : (to word : ℕ) (temps : ℕ → ℕ) (t : ℕ) → t < to → set to word temps t ≡ temps t
set_below to word temps t low = set_other to word temps t (λ e. omega arith)

-- the words are held by the temporaries from `d` on
abbrev pub AreHeld : (ℕ → ℕ) → ℕ → List ℕ → Type 0
AreHeld temps d [] = Unit {0}
AreHeld temps d (v ∷ vs) = (temps d ≡ v) × AreHeld temps (d + 1) vs

pub held_words : (temps : ℕ → ℕ) (d : ℕ) (vs : List ℕ) → AreHeld temps d vs → map temps (temps_from d (length vs)) ≡ vs
held_words temps d [] h = refl
held_words temps d (v ∷ vs) h =
    ap (λ (x : ℕ). x ∷ map temps (temps_from (d + 1) (length vs))) h.0 ∙ ap (λ (xs : List ℕ). v ∷ xs) (held_words temps (d + 1) vs h.1)

-- temporaries that hold the same from `d` on hold the words too
pub held_kept : (temps temps' : ℕ → ℕ) (d : ℕ) (vs : List ℕ) → ((t : ℕ) → d ≤ t → t < d + length vs → temps' t ≡ temps t) → AreHeld temps d vs → AreHeld temps' d vs
held_kept temps temps' d [] same h = tt
held_kept temps temps' d (v ∷ vs) same h = (same d (omega arith) (omega arith) ∙ h.0, held_kept temps temps' (d + 1) vs (λ t low high. same t (omega arith) (omega arith)) h.1)

-- the words that are handed in
pub held_first : (vs : List ℕ) (temps : ℕ → ℕ) (d : ℕ) → ((t : ℕ) → temps (d + t) ≡ get_or vs t 0) → AreHeld temps d vs
held_first [] temps d h = tt
held_first (v ∷ vs) temps d h =
    let first : d + 0 ≡ d = omega arith in (
      subst (λ (x : ℕ). temps x ≡ v) first (h 0),
      held_first vs temps (d + 1) (λ t. let next : d + suc t ≡ d + 1 + t = omega arith in subst (λ (x : ℕ). temps x ≡ get_or vs t 0) next (h (suc t))),
    )
