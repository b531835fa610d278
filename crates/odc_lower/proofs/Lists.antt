-- What is counted over lists of expressions and of statements, from a position on.
use Rattle.std.proofs.Common.{◌≡◌, ℕ, zero, suc, ◌+◌, ◌<◌, ◌≤◌, List, [], ◌∷◌, length, drop, get_or, ap, ◌∙◌, sym, arith}
use Rattle.std.specs.Prelude.{max}
use Rattle.std.proofs.Math.Seq.{drop-cons, drop-length}
use Rattle.odc_core.specs.declared.tree.CoreExpr.{CoreExpr}
use Rattle.odc_core.specs.declared.tree.CoreStmt.{CoreStmt}
use Rattle.odc_core.specs.Tree.{more, follow}
use Rattle.odc_core.specs.View.{expr, exprs, stmt, stmts}
use Rattle.odc_lower.proofs.Sizes.{expr_some}
use Rattle.odc_lower.specs.Size.{expr_nodes, exprs_nodes, stmt_nodes, stmts_nodes, stmt_size, stmts_size, expr_room, exprs_room, stmt_room, stmts_room}

pub drop_here : {A : Type 0} (xs : List A) (i : ℕ) (x : A) → i < length xs → x ≡ get_or xs i x → drop i xs ≡ x ∷ drop (i + 1) xs
drop_here xs i x h e =
    let next : suc i ≡ i + 1 = omega arith in
    drop-cons xs i x h ∙ ap (λ y. y ∷ drop (suc i) xs) (sym e) ∙ ap (λ (n : ℕ). x ∷ drop n xs) next

module _ (xs : List CoreExpr) (i : ℕ) (x : CoreExpr) (inside : i < length xs) (here : x ≡ get_or xs i x) where
  pub exprs_here : exprs (drop i xs) ≡ more (expr x) (exprs (drop (i + 1) xs))
  exprs_here = ap exprs (drop_here xs i x inside here)

  pub nodes_here : exprs_nodes (exprs (drop i xs)) ≡ expr_nodes (expr x) + exprs_nodes (exprs (drop (i + 1) xs))
  nodes_here = ap exprs_nodes exprs_here

  pub room_here : exprs_room (exprs (drop i xs)) ≡ max (expr_room (expr x)) (exprs_room (exprs (drop (i + 1) xs)) + 1)
  room_here = ap exprs_room exprs_here

module _ (xs : List CoreStmt) (i : ℕ) (x : CoreStmt) (inside : i < length xs) (here : x ≡ get_or xs i x) where
  pub stmts_here : stmts (drop i xs) ≡ follow (stmt x) (stmts (drop (i + 1) xs))
  stmts_here = ap stmts (drop_here xs i x inside here)

  pub stmts_nodes_here : stmts_nodes (stmts (drop i xs)) ≡ stmt_nodes (stmt x) + stmts_nodes (stmts (drop (i + 1) xs))
  stmts_nodes_here = ap stmts_nodes stmts_here

  pub stmts_size_here : stmts_size (stmts (drop i xs)) ≡ stmt_size (stmt x) + stmts_size (stmts (drop (i + 1) xs))
  stmts_size_here = ap stmts_size stmts_here

  pub stmts_room_here : stmts_room (stmts (drop i xs)) ≡ max (stmt_room (stmt x)) (stmts_room (stmts (drop (i + 1) xs)))
  stmts_room_here = ap stmts_room stmts_here

-- nothing is behind the end
pub nodes_end : (xs : List CoreExpr) (i : ℕ) → i ≡ length xs → exprs_nodes (exprs (drop i xs)) ≡ 0
nodes_end xs i e = ap (λ (n : ℕ). exprs_nodes (exprs (drop n xs))) e ∙ ap (λ (ys : List CoreExpr). exprs_nodes (exprs ys)) (drop-length xs)

pub room_end : (xs : List CoreExpr) (i : ℕ) → i ≡ length xs → exprs_room (exprs (drop i xs)) ≡ 0
room_end xs i e = ap (λ (n : ℕ). exprs_room (exprs (drop n xs))) e ∙ ap (λ (ys : List CoreExpr). exprs_room (exprs ys)) (drop-length xs)

pub stmts_size_end : (xs : List CoreStmt) (i : ℕ) → i ≡ length xs → stmts_size (stmts (drop i xs)) ≡ 0
stmts_size_end xs i e = ap (λ (n : ℕ). stmts_size (stmts (drop n xs))) e ∙ ap (λ (ys : List CoreStmt). stmts_size (stmts ys)) (drop-length xs)

pub stmts_room_end : (xs : List CoreStmt) (i : ℕ) → i ≡ length xs → stmts_room (stmts (drop i xs)) ≡ 0
stmts_room_end xs i e = ap (λ (n : ℕ). stmts_room (stmts (drop n xs))) e ∙ ap (λ (ys : List CoreStmt). stmts_room (stmts ys)) (drop-length xs)

-- there are at least as many nodes as expressions
pub exprs_many : (xs : List CoreExpr) → length xs ≤ exprs_nodes (exprs xs)
exprs_many [] = omega arith
exprs_many (x ∷ xs) = omega (arith, exprs_many xs, expr_some (expr x))

-- the statements from a position on have no more nodes than all
pub stmts_nodes_left : (xs : List CoreStmt) (i : ℕ) → stmts_nodes (stmts (drop i xs)) ≤ stmts_nodes (stmts xs)
stmts_nodes_left xs zero = omega arith
stmts_nodes_left [] (suc i) = omega arith
stmts_nodes_left (x ∷ xs) (suc i) = omega (arith, stmts_nodes_left xs i)
