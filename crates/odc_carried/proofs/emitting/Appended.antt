-- What the emitting loops have appended so far, and what is left.
use Rattle.std.proofs.Common.{◌≡◌, ℕ, zero, suc, ◌+◌, ◌-◌, ◌<◌, ◌≤◌, List, [], ◌∷◌, ◌++◌, ap, ◌∙◌, refl, arith}
use Rattle.odc_core.specs.declared.tree.CoreStmt.{CoreStmt}
use Rattle.odc_core.specs.declared.tree.CoreExpr.{CoreExpr as Tree}
use Rattle.odc_core.specs.Tree.{Stmts}
use Rattle.odc_core.specs.Tree.{Exprs as CoreExprs, none as no_more, more as another}
use Rattle.odc_core.specs.View.{expr, exprs, stmts}
use Rattle.odc_carried.specs.Code.{Around, join, print_code, values_code}
use Rattle.odc_carried.proofs.emitting.Joins.{join_assoc, join_done}

-- ---- printed values

pub values_begin : (xs : List CoreStmt) (o : Around) (d n : ℕ) → join (stmts xs) (values_code o (d + 0) (n - 0)) ≡ join (stmts xs) (values_code o d n)
values_begin xs o d n =
    let a : d + 0 ≡ d = omega arith in
    let b : n - 0 ≡ n = omega arith in
    ap (λ (k : ℕ). join (stmts xs) (values_code o k (n - 0))) a ∙ ap (λ (k : ℕ). join (stmts xs) (values_code o d k)) b

pub values_end : (xs : List CoreStmt) (o : Around) (d n i : ℕ) → n ≤ i → join (stmts xs) (values_code o d (n - i)) ≡ stmts xs
values_end xs o d n i h =
    let none : n - i ≡ 0 = omega (arith, h) in
    ap (λ (k : ℕ). join (stmts xs) (values_code o d k)) none ∙ join_done (stmts xs)

value_before : (xs ys : List CoreStmt) (o : Around) (d behind k : ℕ) → (0 < k → behind ≡ 32) → (k ≡ 0 → behind ≡ 10) → stmts ys ≡ join (stmts xs) (print_code o d behind) →
    join (stmts ys) (values_code o (d + 1) k) ≡ join (stmts xs) (values_code o d (suc k))
value_before xs ys o d behind zero parted last e = join_done (stmts ys) ∙ e ∙ ap (λ (b : ℕ). join (stmts xs) (print_code o d b)) (last refl)
value_before xs ys o d behind (suc k) parted last e =
    let some : 0 < suc k = omega arith in
    ap (λ (b : Stmts). join b (values_code o (d + 1) (suc k))) (e ∙ ap (λ (b : ℕ). join (stmts xs) (print_code o d b)) (parted some))
    ∙ join_assoc (stmts xs) (print_code o d 32) (values_code o (d + 1) (suc k))

pub values_more : (xs ys : List CoreStmt) (all : Stmts) (o : Around) (d n i behind : ℕ) → i < n → (0 < n - i - 1 → behind ≡ 32) → (n - i - 1 ≡ 0 → behind ≡ 10) → stmts ys ≡ join (stmts xs) (print_code o (d + i) behind) →
    join (stmts xs) (values_code o (d + i) (n - i)) ≡ all → join (stmts ys) (values_code o (d + (i + 1)) (n - (i + 1))) ≡ all
values_more xs ys all o d n i behind h parted last e told =
    let a : d + (i + 1) ≡ d + i + 1 = omega arith in
    let b : n - (i + 1) ≡ n - i - 1 = omega arith in
    let c : suc (n - i - 1) ≡ n - i = omega (arith, h) in
    ap (λ (k : ℕ). join (stmts ys) (values_code o k (n - (i + 1)))) a ∙ ap (λ (k : ℕ). join (stmts ys) (values_code o (d + i + 1) k)) b
    ∙ value_before xs ys o (d + i) behind (n - i - 1) parted last e
    ∙ ap (λ (k : ℕ). join (stmts xs) (values_code o (d + i) k)) c ∙ told

-- ---- values that are handed to a call
abbrev pub behind : CoreExprs → CoreExprs → CoreExprs
behind no_more ys = ys
behind (another x xs) ys = another x (behind xs ys)

pub behind_none : (xs : CoreExprs) → behind xs no_more ≡ xs
behind_none no_more = refl
behind_none (another x xs) = ap (another x) (behind_none xs)

pub one_behind : (xs : List Tree) (x : Tree) (ys : CoreExprs) → behind (exprs (xs ++ x ∷ [])) ys ≡ behind (exprs xs) (another (expr x) ys)
one_behind [] x ys = refl
one_behind (z ∷ xs) x ys = ap (another (expr z)) (one_behind xs x ys)
