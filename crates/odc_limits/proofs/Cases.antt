-- What the cases of a type switch weigh.
use Rattle.std.proofs.Common.{◌≡◌, ℕ, zero, suc, ◌+◌, ◌<◌, Bool, List, [], ◌∷◌, length, sym, subst, refl, arith}
use Rattle.std.specs.declared.alloc.Global.{Global}
use Rattle.std.specs.Prelude.{get_or, drop, Option, Some, None, Vec}
use Rattle.odc_program.specs.declared.tree.TypeCase.{TypeCase}
use Rattle.odc_program.specs.Trees.Tree.{Stmts, TypeCases}
use Rattle.odc_program.specs.Typing.Frames.{stmts_weight, types_weight}
use Rattle.odc_program.specs.Views.StmtView.{stmts, type_cases, with_type}

module _ (w : Bool → ℕ → ℕ) (s : ℕ) where
  type_weight : (vs : Option (Vec ℕ Global)) (x : Option ℕ) (body : Stmts) (rest : TypeCases) → types_weight w s (with_type vs x body rest) ≡ stmts_weight w s body + types_weight w s rest
  type_weight None x body rest = refl
  type_weight (Some vs) x body rest = refl

  -- the next case weighs its body, and what is left the rest
  pub next_type : (xs : List TypeCase) (i : ℕ) (x : TypeCase) → i < length xs → x ≡ get_or xs i x → types_weight w s (type_cases (drop i xs)) ≡ stmts_weight w s (stmts x.body.items) + types_weight w s (type_cases (drop (i + 1) xs))
  next_type [] i x k h = absurd (omega (arith, k))
  next_type (y ∷ xs) zero x k h = subst (λ (z : TypeCase). types_weight w s (type_cases (y ∷ xs)) ≡ stmts_weight w s (stmts z.body.items) + types_weight w s (type_cases xs)) (sym h) (type_weight y.variants y.local (stmts y.body.items) (type_cases xs))
  next_type (y ∷ xs) (suc i) x k h = rw (suc_plus i) (next_type xs i x (omega (arith, k)) h)
    where
      suc_plus : (i : ℕ) → suc i + 1 ≡ suc (i + 1)
      suc_plus i = omega arith
