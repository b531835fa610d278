-- Lists of source expressions and statements, from a position on.
use Rattle.std.proofs.Common.{◌≡◌, ℕ, zero, suc, ◌+◌, ◌<◌, ◌≤◌, Bool, true, false, List, [], ◌∷◌, length, drop, get_or, ap, ◌∙◌, sym, refl, arith}
use Rattle.std.specs.Prelude.{◌||◌}
use Rattle.std.proofs.Math.Seq.{drop-cons, drop-length}
use Rattle.odc_program.specs.Trees.Tree.{Expr, Stmt}
use Rattle.odc_program.specs.Views.Sizes.{expr_size, exprs_size, stmt_size, stmts_size}
use Rattle.odc_program.specs.Views.View.{exprs}
use Rattle.odc_program.specs.Views.StmtView.{stmts}
use Rattle.odc_carried.specs.Carried.{is_loud, is_any_loud}

pub drop_here : {A : Type 0} (xs : List A) (i : ℕ) (x : A) → i < length xs → x ≡ get_or xs i x → drop i xs ≡ x ∷ drop (i + 1) xs
drop_here xs i x h e =
    let next : suc i ≡ i + 1 = omega arith in
    drop-cons xs i x h ∙ ap (λ y. y ∷ drop (suc i) xs) (sym e) ∙ ap (λ (n : ℕ). x ∷ drop n xs) next

pub expr_falls : (xs : List Expr) (i : ℕ) (x : Expr) → i < length xs → x ≡ get_or xs i x → expr_size x < exprs_size (exprs xs)
expr_falls [] i x h e = absurd (omega (arith, h))
expr_falls (y ∷ xs) zero x h e = let s : expr_size x ≡ expr_size y = ap expr_size e in omega (arith, s)
expr_falls (y ∷ xs) (suc i) x h e = let rest : expr_size x < exprs_size (exprs xs) = expr_falls xs i x (omega (arith, h)) e in omega (arith, rest)

pub stmt_falls : (xs : List Stmt) (i : ℕ) (x : Stmt) → i < length xs → x ≡ get_or xs i x → stmt_size x < stmts_size (stmts xs)
stmt_falls [] i x h e = absurd (omega (arith, h))
stmt_falls (y ∷ xs) zero x h e = let s : stmt_size x ≡ stmt_size y = ap stmt_size e in omega (arith, s)
stmt_falls (y ∷ xs) (suc i) x h e = let rest : stmt_size x < stmts_size (stmts xs) = stmt_falls xs i x (omega (arith, h)) e in omega (arith, rest)

-- ---- where a list has a loud expression
or_right : (a b : Bool) → b ≡ true → (a || b) ≡ true
or_right true b e = refl
or_right false b e = e

or_left : (a b : Bool) → a ≡ true → (a || b) ≡ true
or_left true b e = refl
or_left false b e = absurd (cc)

neither : (a b : Bool) → a ≡ false → b ≡ false → (a || b) ≡ false
neither true b e g = absurd (cc)
neither false b e g = g

pub loud_here : (xs : List Expr) (i : ℕ) (x : Expr) → i < length xs → x ≡ get_or xs i x → is_any_loud (exprs (drop i xs)) ≡ (is_loud x || is_any_loud (exprs (drop (i + 1) xs)))
loud_here xs i x h e = ap (λ (ys : List Expr). is_any_loud (exprs ys)) (drop_here xs i x h e)

loud_in : (xs : List Expr) (k : ℕ) → is_any_loud (exprs (drop k xs)) ≡ true → is_any_loud (exprs xs) ≡ true
loud_in xs zero e = e
loud_in [] (suc k) e = absurd (cc)
loud_in (x ∷ xs) (suc k) e = or_right (is_loud x) (is_any_loud (exprs xs)) (loud_in xs k e)

loud_before : (xs : List Expr) (j k : ℕ) → j ≤ k → is_any_loud (exprs (drop k xs)) ≡ true → is_any_loud (exprs (drop j xs)) ≡ true
loud_before [] j k h e = absurd (none k e)
  where
    none : (n : ℕ) → is_any_loud (exprs (drop n [])) ≡ true → ⊥
    none zero g = cc
    none (suc n) g = cc
loud_before (x ∷ xs) zero k h e = loud_in (x ∷ xs) k e
loud_before (x ∷ xs) (suc j) zero h e = absurd (omega (arith, h))
loud_before (x ∷ xs) (suc j) (suc k) h e = loud_before xs j k (omega (arith, h)) e

quiet_behind : (xs : List Expr) (j k : ℕ) → j ≤ k → is_any_loud (exprs (drop j xs)) ≡ false → is_any_loud (exprs (drop k xs)) ≡ false
quiet_behind xs j k h e = by (is_any_loud (exprs (drop k xs))) refl
  where
    by : (b : Bool) → is_any_loud (exprs (drop k xs)) ≡ b → is_any_loud (exprs (drop k xs)) ≡ false
    by false g = g
    by true g = let t : is_any_loud (exprs (drop j xs)) ≡ true = loud_before xs j k h g in absurd (cc)

pub quiet_at_end : (xs : List Expr) (n : ℕ) → n ≡ length xs → is_any_loud (exprs (drop n xs)) ≡ false
quiet_at_end xs n e = ap (λ (k : ℕ). is_any_loud (exprs (drop k xs))) e ∙ ap (λ (ys : List Expr). is_any_loud (exprs ys)) (drop-length xs)

module _ (xs : List Expr) (until i : ℕ) (x : Expr) (before : i + 1 ≡ until) (h : i < length xs) (e : x ≡ get_or xs i x) where
  pub until_here : is_loud x ≡ true → (k : ℕ) → k < until → is_any_loud (exprs (drop k xs)) ≡ true
  until_here loud k less = loud_before xs k i (omega (arith, less, before)) (loud_here xs i x h e ∙ or_left (is_loud x) (is_any_loud (exprs (drop (i + 1) xs))) loud)

  pub until_before : is_any_loud (exprs (drop until xs)) ≡ false → is_loud x ≡ false → is_any_loud (exprs (drop i xs)) ≡ false
  until_before quiet silent = loud_here xs i x h e ∙ neither (is_loud x) (is_any_loud (exprs (drop (i + 1) xs))) silent (ap (λ (k : ℕ). is_any_loud (exprs (drop k xs))) before ∙ quiet)

pub behind_until : (xs : List Expr) (until : ℕ) → is_any_loud (exprs (drop until xs)) ≡ false → (k : ℕ) → until ≤ k → is_any_loud (exprs (drop k xs)) ≡ false
behind_until xs until quiet k h = quiet_behind xs until k h quiet

pub ended : {A : Type 0} (xs : List A) (n : ℕ) → length xs ≤ n → drop n xs ≡ []
ended [] zero h = refl
ended [] (suc n) h = refl
ended (x ∷ xs) zero h = absurd (omega (arith, h))
ended (x ∷ xs) (suc n) h = ended xs n (omega (arith, h))
