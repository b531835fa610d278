-- What is counted over lists of source expressions and statements, from a position on.
use Rattle.std.proofs.Common.{◌≡◌, ℕ, zero, suc, ◌+◌, ◌<◌, ◌≤◌, List, [], ◌∷◌, length, drop, get_or, ap, ◌∙◌, sym, arith}
use Rattle.std.specs.Prelude.{max}
use Rattle.std.proofs.Math.Seq.{drop-cons, drop-length}
use Rattle.odc_typed.specs.declared.tree.TExpr.{TExpr}
use Rattle.odc_typed.specs.declared.tree.TStmt.{TStmt}
use Rattle.odc_typed.specs.Tree.{more, follow}
use Rattle.odc_typed.specs.Frame.{expr_room, exprs_room, stmt_room, stmts_room}
use Rattle.odc_typed.specs.View.{expr, exprs, stmt, stmts}
use Rattle.odc_context.specs.Code.{count, depth_of, depth_of_all, stmt_depth, stmts_depth}

pub drop_here : {A : Type 0} (xs : List A) (i : ℕ) (x : A) → i < length xs → x ≡ get_or xs i x → drop i xs ≡ x ∷ drop (i + 1) xs
drop_here xs i x h e =
    let next : suc i ≡ i + 1 = omega arith in
    drop-cons xs i x h ∙ ap (λ y. y ∷ drop (suc i) xs) (sym e) ∙ ap (λ (n : ℕ). x ∷ drop n xs) next

module _ (xs : List TExpr) (i : ℕ) (x : TExpr) (inside : i < length xs) (here : x ≡ get_or xs i x) where
  pub exprs_here : exprs (drop i xs) ≡ more (expr x) (exprs (drop (i + 1) xs))
  exprs_here = ap exprs (drop_here xs i x inside here)

  pub room_here : exprs_room (exprs (drop i xs)) ≡ expr_room (expr x) + exprs_room (exprs (drop (i + 1) xs))
  room_here = ap exprs_room exprs_here

  pub depth_here : depth_of_all (exprs (drop i xs)) ≡ max (depth_of (expr x)) (1 + depth_of_all (exprs (drop (i + 1) xs)))
  depth_here = ap depth_of_all exprs_here

module _ (xs : List TStmt) (i : ℕ) (x : TStmt) (inside : i < length xs) (here : x ≡ get_or xs i x) where
  pub stmts_here : stmts (drop i xs) ≡ follow (stmt x) (stmts (drop (i + 1) xs))
  stmts_here = ap stmts (drop_here xs i x inside here)

  pub stmts_room_here : stmts_room (stmts (drop i xs)) ≡ stmt_room (stmt x) + stmts_room (stmts (drop (i + 1) xs))
  stmts_room_here = ap stmts_room stmts_here

  pub stmts_depth_here : stmts_depth (stmts (drop i xs)) ≡ max (stmt_depth (stmt x)) (stmts_depth (stmts (drop (i + 1) xs)))
  stmts_depth_here = ap stmts_depth stmts_here

-- nothing is behind the end
pub depth_end : (xs : List TExpr) (i : ℕ) → i ≡ length xs → depth_of_all (exprs (drop i xs)) ≡ 0
depth_end xs i e = ap (λ (n : ℕ). depth_of_all (exprs (drop n xs))) e ∙ ap (λ (ys : List TExpr). depth_of_all (exprs ys)) (drop-length xs)

-- what is left is no more than all
pub room_left : (xs : List TExpr) (i : ℕ) → exprs_room (exprs (drop i xs)) ≤ exprs_room (exprs xs)
room_left xs zero = omega arith
room_left [] (suc i) = omega arith
room_left (x ∷ xs) (suc i) = omega (arith, room_left xs i)

pub stmts_room_left : (xs : List TStmt) (i : ℕ) → stmts_room (stmts (drop i xs)) ≤ stmts_room (stmts xs)
stmts_room_left xs zero = omega arith
stmts_room_left [] (suc i) = omega arith
stmts_room_left (x ∷ xs) (suc i) = omega (arith, stmts_room_left xs i)

pub depth_left : (xs : List TExpr) (i : ℕ) → depth_of_all (exprs (drop i xs)) ≤ depth_of_all (exprs xs)
depth_left xs zero = omega arith
depth_left [] (suc i) = omega arith
depth_left (x ∷ xs) (suc i) = omega (arith, depth_left xs i)

pub stmts_depth_left : (xs : List TStmt) (i : ℕ) → stmts_depth (stmts (drop i xs)) ≤ stmts_depth (stmts xs)
stmts_depth_left xs zero = omega arith
stmts_depth_left [] (suc i) = omega arith
stmts_depth_left (x ∷ xs) (suc i) = omega (arith, stmts_depth_left xs i)

pub count_is : (xs : List TExpr) → count (exprs xs) ≡ length xs
count_is [] = omega arith
count_is (x ∷ xs) = ap suc (count_is xs)
