-- An element of a list is smaller than the list.
use Rattle.std.proofs.Common.{◌≡◌, ℕ, zero, suc, ◌+◌, ◌<◌, List, [], ◌∷◌, length, sym, subst, arith}
use Rattle.std.specs.declared.alloc.Global.{Global}
use Rattle.std.specs.Prelude.{get_or, Option, Some, None, Vec}
use Rattle.odc_program.specs.declared.tree.BuildPart.{BuildPart}
use Rattle.odc_program.specs.declared.tree.CaseItem.{CaseItem}
use Rattle.odc_program.specs.declared.tree.Case.{Case}
use Rattle.odc_program.specs.declared.tree.TypeCase.{TypeCase}
use Rattle.odc_program.specs.Trees.Tree as tree
use Rattle.odc_program.specs.Views.View.{exprs, parts}
use Rattle.odc_program.specs.Views.StmtView.{stmts, cases, type_cases, with_case, with_type}
use Rattle.odc_program.specs.Views.Sizes.{expr_size, exprs_size, parts_size, stmt_size, stmts_size, cases_size, type_cases_size}

pub expr_falls : (xs : List tree.Expr) (i : ℕ) (x : tree.Expr) → i < length xs → x ≡ get_or xs i x → expr_size x < exprs_size (exprs xs)
expr_falls [] i x k h = omega (arith, k)
expr_falls (y ∷ xs) zero x k h = subst (λ (z : tree.Expr). expr_size z < exprs_size (exprs (y ∷ xs))) (sym h) (omega arith)
expr_falls (y ∷ xs) (suc i) x k h = omega (arith, expr_falls xs i x (omega (arith, k)) h)

pub part_falls : (xs : List BuildPart) (i : ℕ) (x : BuildPart) → i < length xs → x ≡ get_or xs i x → expr_size x.value < parts_size (parts xs)
part_falls [] i x k h = omega (arith, k)
part_falls (y ∷ xs) zero x k h = subst (λ (z : BuildPart). expr_size z.value < parts_size (parts (y ∷ xs))) (sym h) (omega arith)
part_falls (y ∷ xs) (suc i) x k h = omega (arith, part_falls xs i x (omega (arith, k)) h)

pub stmt_falls : (xs : List tree.Stmt) (i : ℕ) (x : tree.Stmt) → i < length xs → x ≡ get_or xs i x → stmt_size x < stmts_size (stmts xs)
stmt_falls [] i x k h = omega (arith, k)
stmt_falls (y ∷ xs) zero x k h = subst (λ (z : tree.Stmt). stmt_size z < stmts_size (stmts (y ∷ xs))) (sym h) (omega arith)
stmt_falls (y ∷ xs) (suc i) x k h = omega (arith, stmt_falls xs i x (omega (arith, k)) h)

case_size : (is : Option (Vec CaseItem Global)) (body : tree.Stmts) (rest : tree.Cases) → stmts_size body + cases_size rest < cases_size (with_case is body rest)
case_size None body rest = omega arith
case_size (Some is) body rest = omega arith

pub case_falls : (xs : List Case) (i : ℕ) (x : Case) → i < length xs → x ≡ get_or xs i x → stmts_size (stmts x.body.items) < cases_size (cases xs)
case_falls [] i x k h = omega (arith, k)
case_falls (y ∷ xs) zero x k h = subst (λ (z : Case). stmts_size (stmts z.body.items) < cases_size (cases (y ∷ xs))) (sym h) (omega (arith, case_size y.items (stmts y.body.items) (cases xs)))
case_falls (y ∷ xs) (suc i) x k h = omega (arith, case_size y.items (stmts y.body.items) (cases xs), case_falls xs i x (omega (arith, k)) h)

type_size : (vs : Option (Vec ℕ Global)) (n : Option ℕ) (body : tree.Stmts) (rest : tree.TypeCases) → stmts_size body + type_cases_size rest < type_cases_size (with_type vs n body rest)
type_size None n body rest = omega arith
type_size (Some vs) n body rest = omega arith

pub type_case_falls : (xs : List TypeCase) (i : ℕ) (x : TypeCase) → i < length xs → x ≡ get_or xs i x → stmts_size (stmts x.body.items) < type_cases_size (type_cases xs)
type_case_falls [] i x k h = omega (arith, k)
type_case_falls (y ∷ xs) zero x k h = subst (λ (z : TypeCase). stmts_size (stmts z.body.items) < type_cases_size (type_cases (y ∷ xs))) (sym h) (omega (arith, type_size y.variants y.local (stmts y.body.items) (type_cases xs)))
type_case_falls (y ∷ xs) (suc i) x k h = omega (arith, type_size y.variants y.local (stmts y.body.items) (type_cases xs), type_case_falls xs i x (omega (arith, k)) h)
