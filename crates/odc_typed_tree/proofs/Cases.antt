-- Cases that are copied one by one.
use Rattle.std.proofs.Common.{◌≡◌, ℕ, zero, suc, ◌+◌, ◌<◌, ◌≤◌, List, [], ◌∷◌, ◌++◌, length, sym, ◌∙◌, ap, refl, subst, arith}
use Rattle.std.specs.Prelude.{get_or, take}
use Rattle.odc_program.specs.declared.tree.Case.{Case}
use Rattle.odc_program.specs.declared.tree.TypeCase.{TypeCase}
use Rattle.odc_program.specs.Trees.Tree as tree
use Rattle.odc_program.specs.Views.StmtView.{stmts, cases, type_cases, with_case, with_type}
use Rattle.odc_typed_tree.specs.Joined.{with_cases, with_type_cases}

pub cases_joined : (xs : List Case) → cases xs ≡ with_cases xs tree.no_cases
cases_joined [] = refl
cases_joined (x ∷ xs) = ap (with_case x.items (stmts x.body.items)) (cases_joined xs)

appended : (xs ys : List Case) (rest : tree.Cases) → with_cases (xs ++ ys) rest ≡ with_cases xs (with_cases ys rest)
appended [] ys rest = refl
appended (x ∷ xs) ys rest = ap (with_case x.items (stmts x.body.items)) (appended xs ys rest)

taken : (xs : List Case) (i : ℕ) (x : Case) → i < length xs → x ≡ get_or xs i x → (rest : tree.Cases) → with_cases (take (i + 1) xs) rest ≡ with_cases (take i xs) (with_cases (x ∷ []) rest)
taken [] i x k h rest = absurd (omega (arith, k))
taken (y ∷ xs) zero x k h rest = subst (λ (z : Case). with_cases (take (0 + 1) (y ∷ xs)) rest ≡ with_cases (z ∷ []) rest) (sym h) refl
taken (y ∷ xs) (suc i) x k h rest = rw (suc_plus i) (ap (with_case y.items (stmts y.body.items)) (taken xs i x (omega (arith, k)) h rest))
  where
    suc_plus : (i : ℕ) → suc i + 1 ≡ suc (i + 1)
    suc_plus i = omega arith

-- the next case, and a copy of it
pub case_copied : (xs copies : List Case) (i : ℕ) (x copy : Case) → i < length xs → x ≡ get_or xs i x → ((rest : tree.Cases) → with_cases copies rest ≡ with_cases (take i xs) rest) → ((rest : tree.Cases) → with_cases (copy ∷ []) rest ≡ with_cases (x ∷ []) rest) →
    (rest : tree.Cases) → with_cases (copies ++ copy ∷ []) rest ≡ with_cases (take (i + 1) xs) rest
case_copied xs copies i x copy k h before now rest = appended copies (copy ∷ []) rest ∙ ap (with_cases copies) (now rest) ∙ before (with_cases (x ∷ []) rest) ∙ sym (taken xs i x k h rest)

pub types_joined : (xs : List TypeCase) → type_cases xs ≡ with_type_cases xs tree.no_types
types_joined [] = refl
types_joined (x ∷ xs) = ap (with_type x.variants x.local (stmts x.body.items)) (types_joined xs)

types_appended : (xs ys : List TypeCase) (rest : tree.TypeCases) → with_type_cases (xs ++ ys) rest ≡ with_type_cases xs (with_type_cases ys rest)
types_appended [] ys rest = refl
types_appended (x ∷ xs) ys rest = ap (with_type x.variants x.local (stmts x.body.items)) (types_appended xs ys rest)

types_taken : (xs : List TypeCase) (i : ℕ) (x : TypeCase) → i < length xs → x ≡ get_or xs i x → (rest : tree.TypeCases) → with_type_cases (take (i + 1) xs) rest ≡ with_type_cases (take i xs) (with_type_cases (x ∷ []) rest)
types_taken [] i x k h rest = absurd (omega (arith, k))
types_taken (y ∷ xs) zero x k h rest = subst (λ (z : TypeCase). with_type_cases (take (0 + 1) (y ∷ xs)) rest ≡ with_type_cases (z ∷ []) rest) (sym h) refl
types_taken (y ∷ xs) (suc i) x k h rest = rw (suc_plus i) (ap (with_type y.variants y.local (stmts y.body.items)) (types_taken xs i x (omega (arith, k)) h rest))
  where
    suc_plus : (i : ℕ) → suc i + 1 ≡ suc (i + 1)
    suc_plus i = omega arith

pub type_copied : (xs copies : List TypeCase) (i : ℕ) (x copy : TypeCase) → i < length xs → x ≡ get_or xs i x → ((rest : tree.TypeCases) → with_type_cases copies rest ≡ with_type_cases (take i xs) rest) → ((rest : tree.TypeCases) → with_type_cases (copy ∷ []) rest ≡ with_type_cases (x ∷ []) rest) →
    (rest : tree.TypeCases) → with_type_cases (copies ++ copy ∷ []) rest ≡ with_type_cases (take (i + 1) xs) rest
type_copied xs copies i x copy k h before now rest = types_appended copies (copy ∷ []) rest ∙ ap (with_type_cases copies) (now rest) ∙ before (with_type_cases (x ∷ []) rest) ∙ sym (types_taken xs i x k h rest)

pub all_taken : (xs : List Case) (i : ℕ) → length xs ≤ i → (rest : tree.Cases) → with_cases (take i xs) rest ≡ with_cases xs rest
all_taken [] zero h rest = refl
all_taken [] (suc i) h rest = refl
all_taken (x ∷ xs) zero h rest = absurd (omega (arith, h))
all_taken (x ∷ xs) (suc i) h rest = ap (with_case x.items (stmts x.body.items)) (all_taken xs i (omega (arith, h)) rest)

pub all_types_taken : (xs : List TypeCase) (i : ℕ) → length xs ≤ i → (rest : tree.TypeCases) → with_type_cases (take i xs) rest ≡ with_type_cases xs rest
all_types_taken [] zero h rest = refl
all_types_taken [] (suc i) h rest = refl
all_types_taken (x ∷ xs) zero h rest = absurd (omega (arith, h))
all_types_taken (x ∷ xs) (suc i) h rest = ap (with_type x.variants x.local (stmts x.body.items)) (all_types_taken xs i (omega (arith, h)) rest)
