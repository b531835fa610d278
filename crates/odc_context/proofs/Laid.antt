-- How the variables of a frame are laid: the own words one after another, those of printing below them.
use Rattle.std.proofs.Common.{◌≡◌, ℕ, zero, suc, ◌+◌, ◌*◌, ◌%◌, ◌<◌, ◌≤◌, inl, inr, List, [], ◌∷◌, ◌++◌, length, arith, lit≤, ap, ◌∙◌, sym, refl}
use Rattle.odc_core.specs.declared.tree.Variable.{Variable}
use Rattle.odc_core.specs.Well.{ApartFrom, AreLaid, AreParameters}
use Rattle.odc_typed.specs.Frame.{rounded_16}
use Rattle.odc_context.specs.Code.{word_at, words_from, printing}

-- how many there are
pub words_length : (x n : ℕ) → length (words_from x n ++ printing) ≡ n + 3
words_length x zero = refl
words_length x (suc n) = let rest : length (words_from (x + 1) n ++ printing) ≡ n + 3 = words_length (x + 1) n in omega arith

-- a word lies above the variables of printing, and below each later word
above_printing : (x : ℕ) → ApartFrom (word_at x) printing
above_printing x = (inr (omega arith), (inr (omega arith), (inr (omega arith), tt)))

word_apart : (x y n : ℕ) → x < y → ApartFrom (word_at x) (words_from y n ++ printing)
word_apart x y zero less = above_printing x
word_apart x y (suc n) less = (inl (omega arith), word_apart x (y + 1) n (omega arith))

printing_laid : (frame : ℕ) → 128 ≤ frame → AreLaid frame printing
printing_laid frame room = (
  (lit≤ tt, omega arith),
  (
    (inl (lit≤ tt), (inl (lit≤ tt), tt)),
    (
      (lit≤ tt, omega arith),
      (
        (inl (lit≤ tt), tt),
        ((lit≤ tt, omega arith), (tt, tt)),
      ),
    ),
  ),
)

pub words_laid : (frame x n : ℕ) → 128 + 16 * (x + n) ≤ frame → AreLaid frame (words_from x n ++ printing)
words_laid frame x zero room = printing_laid frame (omega arith)
words_laid frame x (suc n) room = ((omega arith, omega arith), (word_apart x (x + 1) n (omega arith), words_laid frame (x + 1) n (omega arith)))

-- the first words may be parameters
pub words_parameters : (k x n : ℕ) → k ≤ n → AreParameters k (words_from x n ++ printing)
words_parameters zero x n few = tt
words_parameters (suc k) x zero few = absurd (omega arith)
words_parameters (suc k) x (suc n) few = (refl, words_parameters k (x + 1) n (omega arith))

pub rounded_even : (n : ℕ) → rounded_16 n % 16 ≡ 0
rounded_even n = omega arith

-- one more word
pub words_more : (x n : ℕ) → words_from x (n + 1) ≡ words_from x n ++ (word_at (x + n) ∷ [])
words_more x zero = let same : x ≡ x + 0 = omega arith in ap (λ (k : ℕ). word_at k ∷ []) same
words_more x (suc n) =
    let next : suc n + 1 ≡ suc (n + 1) = omega arith in
    let last : x + 1 + n ≡ x + suc n = omega arith in
    ap (words_from x) next ∙ ap (λ (vs : List Variable). word_at x ∷ vs) (words_more (x + 1) n ∙ ap (λ (k : ℕ). words_from (x + 1) n ++ (word_at k ∷ [])) last)

pub word_behind : (before behind : List Variable) (n : ℕ) → before ≡ words_from 0 n → behind ≡ before ++ (word_at n ∷ []) → behind ≡ words_from 0 (n + 1)
word_behind before behind n told grown =
    let same : n ≡ 0 + n = omega arith in
    grown ∙ ap (λ (vs : List Variable). vs ++ (word_at n ∷ [])) told ∙ ap (λ (k : ℕ). words_from 0 n ++ (word_at k ∷ [])) same ∙ sym (words_more 0 n)
