-- What numbers unfold to, level by level: as many levels as there are types are enough.
use Rattle.std.proofs.Common.{◌≡◌, ℕ, zero, suc, ◌+◌, ◌-◌, ◌<◌, ◌≤◌, Option, Some, None, refl, sym, ◌∙◌, ap, arith, ◌⊎◌, inl, inr}
use Rattle.std.proofs.lemmas.Bool.{cases_lt}
use Rattle.std.proofs.Math.Path.{fun_ext}

-- what the first gives, the second gives too
pub record Extends {A B : Type 0} (f g : A → Option B) : Type 0 where
  pub keeps : (a : A) (b : B) → f a ≡ Some b → g a ≡ Some b

-- one more level keeps what is known, numbers past n stay unknown, and a level that changed nothing is followed by none that does
pub record IsUnfolding {A : Type 0} (n : ℕ) (level : ℕ → ℕ → Option A) : Type 0 where
  pub deeper : (k : ℕ) → Extends (level k) (level (suc k))
  pub outside : (k t : ℕ) → n ≤ t → level k t ≡ None
  pub next : (k : ℕ) → level k ≡ level (suc k) → level (suc k) ≡ level (suc (suc k))

-- more levels change nothing that is known
pub lift : {A : Type 0} (n : ℕ) (level : ℕ → ℕ → Option A) → IsUnfolding n level → (t : ℕ) (l : A) (d k j : ℕ) → j ≡ k + d → level k t ≡ Some l → level j t ≡ Some l
lift n level u t l zero k j e h = let same : k ≡ j = omega arith in ap (λ i. level i t) (sym same) ∙ h
lift n level u t l (suc d) k j e h = lift n level u t l d (suc k) j (omega arith) ((u.deeper k).keeps t l h)

some_count : {A : Type 0} → Option A → ℕ
some_count None = 0
some_count (Some l) = 1

-- how many numbers below n are known
counted : {A : Type 0} → (ℕ → Option A) → ℕ → ℕ
counted f zero = 0
counted f (suc n) = counted f n + some_count (f n)

some_count_small : {A : Type 0} (o : Option A) → some_count o ≤ 1
unfolding some_count
some_count_small None = omega arith
some_count_small (Some l) = omega arith

counted_below : {A : Type 0} (f : ℕ → Option A) (n : ℕ) → counted f n ≤ n
unfolding counted
counted_below f zero = omega arith
counted_below f (suc n) = let h = counted_below f n in let s = some_count_small (f n) in omega arith

same_or_more : {A : Type 0} (o o' : Option A) → ((l : A) → o ≡ Some l → o' ≡ Some l) → (o ≡ o') ⊎ (some_count o < some_count o')
unfolding some_count
same_or_more None None k = inl refl
same_or_more None (Some l) k = inr (omega arith)
same_or_more (Some l) o' k = inl (sym (k l refl))

no_less : {A : Type 0} (o o' : Option A) → ((l : A) → o ≡ Some l → o' ≡ Some l) → some_count o ≤ some_count o'
no_less o o' k = elim (same_or_more o o' k) [ inl same ↦ (let e = ap (λ o. some_count o) same in omega arith) | inr gain ↦ omega arith ]

counted_grows : {A : Type 0} (f g : ℕ → Option A) → Extends f g → (n : ℕ) → counted f n ≤ counted g n
unfolding counted
counted_grows f g k zero = omega arith
counted_grows f g k (suc n) = let h = counted_grows f g k n in let s = no_less (f n) (g n) (k.keeps n) in omega arith

AgreeTo : {A : Type 0} → (ℕ → Option A) → (ℕ → Option A) → ℕ → Type 0
AgreeTo f g n = (t : ℕ) → t < n → f t ≡ g t

agree_next : {A : Type 0} (f g : ℕ → Option A) (n : ℕ) → AgreeTo f g n → f n ≡ g n → AgreeTo f g (suc n)
unfolding AgreeTo
agree_next f g n h e t less = elim (cases_lt t n) [ inl below ↦ h t below | inr above ↦ (let same : t ≡ n = omega arith in ap f same ∙ e ∙ ap g (sym same)) ]

gains : {A : Type 0} (f g : ℕ → Option A) → Extends f g → (n : ℕ) → AgreeTo f g n ⊎ (counted f n < counted g n)
unfolding counted AgreeTo
gains f g k zero = inl (λ t less. absurd (omega arith))
gains {A} f g k (suc n) = gains_by f g k n (gains f g k n) (same_or_more (f n) (g n) (k.keeps n))
  where
    gains_by : (f g : ℕ → Option A) → Extends f g → (n : ℕ) → AgreeTo f g n ⊎ (counted f n < counted g n) → (f n ≡ g n) ⊎ (some_count (f n) < some_count (g n)) → AgreeTo f g (suc n) ⊎ (counted f (suc n) < counted g (suc n))
    gains_by f g k n (inl agree) (inl same) = inl (agree_next f g n agree same)
    gains_by f g k n (inl agree) (inr gain) = let h = counted_grows f g k n in inr (omega arith)
    gains_by f g k n (inr less) here = let s = no_less (f n) (g n) (k.keeps n) in inr (omega arith)

-- from some level on, further levels tell nothing new
Settled : {A : Type 0} → (ℕ → ℕ → Option A) → ℕ → Type 0
Settled level k = level k ≡ level (suc k)

settled_next : {A : Type 0} (n : ℕ) (level : ℕ → ℕ → Option A) → IsUnfolding n level → (k : ℕ) → Settled level k → Settled level (suc k)
unfolding Settled
settled_next n level u k e = u.next k e

settled_after : {A : Type 0} (n : ℕ) (level : ℕ → ℕ → Option A) → IsUnfolding n level → (d k j : ℕ) → j ≡ k + d → Settled level k → level k ≡ level j
unfolding Settled
settled_after n level u zero k j e s = ap (λ i. level i) (omega arith)
settled_after n level u (suc d) k j e s = s ∙ settled_after n level u d (suc k) j (omega arith) (settled_next n level u k s)

agree_settles : {A : Type 0} (n : ℕ) (level : ℕ → ℕ → Option A) → IsUnfolding n level → (k : ℕ) → AgreeTo (level k) (level (suc k)) n → Settled level k
unfolding Settled AgreeTo
agree_settles n level u k agree = fun_ext (λ t. elim (cases_lt t n) [ inl below ↦ agree t below | inr past ↦ u.outside k t past ∙ sym (u.outside (suc k) t past) ])

-- after k levels nothing new is told, or k numbers are known
settles : {A : Type 0} (n : ℕ) (level : ℕ → ℕ → Option A) → IsUnfolding n level → (k : ℕ) → ((i : ℕ) × (i ≤ k) × Settled level i) ⊎ (k ≤ counted (level k) n)
settles n level u zero = inr (omega arith)
settles n level u (suc k) = elim (settles n level u k) [
  | inl s ↦ inl (s.0, omega (arith, s.1), s.2)
  | inr many ↦ elim (gains (level k) (level (suc k)) (u.deeper k) n) [
    | inl agree ↦ inl (k, omega arith, agree_settles n level u k agree)
    | inr gain ↦ inr (omega arith)
  ]
]

settles_in_time : {A : Type 0} (n : ℕ) (level : ℕ → ℕ → Option A) → IsUnfolding n level → (i : ℕ) × (i ≤ n) × Settled level i
settles_in_time n level u = elim (settles n level u n) [
  | inl s ↦ s
  | inr many ↦ elim (gains (level n) (level (suc n)) (u.deeper n) n) [
    | inl agree ↦ (n, omega arith, agree_settles n level u n agree)
    | inr gain ↦ (let most = counted_below (level (suc n)) n in absurd (omega arith))
  ]
]

-- n levels are enough
pub enough_levels : {A : Type 0} (n : ℕ) (level : ℕ → ℕ → Option A) → IsUnfolding n level → (k t : ℕ) (l : A) → level k t ≡ Some l → level n t ≡ Some l
enough_levels {A} n level u k t l e = enough_by (settles_in_time n level u)
  where
    enough_by : ((i : ℕ) × (i ≤ n) × Settled level i) → level n t ≡ Some l
    enough_by s = elim (cases_lt k s.0) [
      | inl before ↦ (let within = s.1 in lift n level u t l (n - k) k n (omega arith) e)
      | inr after ↦ (let within = s.1 in
          let to_k = settled_after n level u (k - s.0) s.0 k (omega arith) s.2 in
          let to_all = settled_after n level u (n - s.0) s.0 n (omega arith) s.2 in
          ap (λ (f : ℕ → Option A). f t) (sym to_all ∙ to_k) ∙ e)
    ]

-- what is told at the last level is what one more level tells
pub last_level : {A : Type 0} (n : ℕ) (level : ℕ → ℕ → Option A) → IsUnfolding n level → level n ≡ level (suc n)
last_level n level u =
    let s = settles_in_time n level u in
    let within = s.1 in
    sym (settled_after n level u (n - s.0) s.0 n (omega arith) s.2) ∙ settled_after n level u (suc n - s.0) s.0 (suc n) (omega arith) s.2
