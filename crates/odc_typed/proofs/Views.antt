-- What a view sees of a variant that holds a list.
use Rattle.std.proofs.Common.{◌≡◌, ℕ, List, ap, ◌∙◌, sym, refl}
use mathlib.Core.Former.{Count}
use Rattle.std.specs.declared.alloc.Global.{Global}
use Rattle.std.specs.Prelude.{Vec}
use Rattle.odc_text.specs.declared.place.Place.{Place}
use Rattle.odc_typed.specs.declared.tree.TExpr.{TExpr}
use Rattle.odc_typed.specs.declared.tree.Builtin.{Builtin as Which}
use Rattle.odc_typed.specs.declared.tree.ExprKind.{ExprKind, Row_of-TExpr, end_of-TExpr, more_of-TExpr, items-the_row-TExpr, items_hidden-the_row-TExpr-0}
use Rattle.odc_typed.specs.declared.tree.ExprKind.TheVariants.{Call', Builtin'}
use Rattle.odc_typed.specs.declared.tree.ExprKind.TheViews.{Call, Builtin}
use Rattle.odc_typed.specs.declared.tree.TStmt.{TStmt}
use Rattle.odc_typed.specs.declared.tree.StmtKind.{StmtKind, Row_of-TStmt, end_of-TStmt, more_of-TStmt, items-the_row-TStmt, items_hidden-the_row-TStmt-0}
use Rattle.odc_typed.specs.declared.tree.StmtKind.TheVariants.{If', Loop'}
use Rattle.odc_typed.specs.declared.tree.StmtKind.TheViews.{If, Loop}
use Rattle.odc_typed.specs.Tree.{call, builtin, more, choose, repeat, follow}
use Rattle.odc_typed.specs.View.{expr_kind, expr, row, exprs, stmt_kind, list, stmts}

exprs_row : (n : _) (r : Row_of-TExpr n) → row r ≡ exprs (items-the_row-TExpr n r)
exprs_row n end_of-TExpr = refl
exprs_row n (more_of-TExpr at k r) = ap (more (expr_kind k at)) (exprs_row _ r)

abbrev row_of : ExprKind → (n : Count) × Row_of-TExpr n
row_of (Call' f s r) = (_, r)
row_of (Builtin' which s r) = (_, r)
row_of _ = (_, end_of-TExpr)

pub expr_kind-Builtin : (which : Which) (xs : Vec TExpr Global) (at : Place) → expr_kind (Builtin which xs) at ≡ builtin at which (exprs xs.items)
expr_kind-Builtin which xs at = let r = row_of (Builtin which xs) in ap (builtin at which) (exprs_row r.0 r.1 ∙ ap exprs (items_hidden-the_row-TExpr-0 xs))

pub expr_kind-Call : (f : ℕ) (xs : Vec TExpr Global) (at : Place) → expr_kind (Call f xs) at ≡ call at f (exprs xs.items)
expr_kind-Call f xs at = let r = row_of (Call f xs) in ap (call at f) (exprs_row r.0 r.1 ∙ ap exprs (items_hidden-the_row-TExpr-0 xs))

list_row : (n : _) (r : Row_of-TStmt n) → list r ≡ stmts (items-the_row-TStmt n r)
list_row n end_of-TStmt = refl
list_row n (more_of-TStmt at k r) = ap (follow (stmt_kind k at)) (list_row _ r)

abbrev body_row : StmtKind → (n : Count) × Row_of-TStmt n
body_row (If' condition s r) = (_, r)
body_row (Loop' condition s r) = (_, r)
body_row _ = (_, end_of-TStmt)

pub stmt_kind-If : (condition : TExpr) (xs : Vec TStmt Global) (at : Place) → stmt_kind (If condition xs) at ≡ choose at (expr condition) (stmts xs.items)
stmt_kind-If condition xs at = let r = body_row (If condition xs) in ap (choose at (expr condition)) (list_row r.0 r.1 ∙ ap stmts (items_hidden-the_row-TStmt-0 xs))

pub stmt_kind-Loop : (condition : TExpr) (xs : Vec TStmt Global) (at : Place) → stmt_kind (Loop condition xs) at ≡ repeat at (expr condition) (stmts xs.items)
stmt_kind-Loop condition xs at = let r = body_row (Loop condition xs) in ap (repeat at (expr condition)) (list_row r.0 r.1 ∙ ap stmts (items_hidden-the_row-TStmt-0 xs))

-- ---- the same where a list has been read out of its vector

pub call_is : (k : ExprKind) (at : Place) (f : ℕ) (xs : Vec TExpr Global) (ys : List TExpr) → k ≡ Call f xs → ys ≡ xs.items → expr_kind k at ≡ call at f (exprs ys)
call_is k at f xs ys is same = ap (λ (x : ExprKind). expr_kind x at) is ∙ expr_kind-Call f xs at ∙ ap (λ (zs : List TExpr). call at f (exprs zs)) (sym same)

pub builtin_is : (k : ExprKind) (at : Place) (which : Which) (xs : Vec TExpr Global) (ys : List TExpr) → k ≡ Builtin which xs → ys ≡ xs.items → expr_kind k at ≡ builtin at which (exprs ys)
builtin_is k at which xs ys is same = ap (λ (x : ExprKind). expr_kind x at) is ∙ expr_kind-Builtin which xs at ∙ ap (λ (zs : List TExpr). builtin at which (exprs zs)) (sym same)

pub choice_is : (k : StmtKind) (at : Place) (condition : TExpr) (xs : Vec TStmt Global) (ys : List TStmt) → k ≡ If condition xs → ys ≡ xs.items → stmt_kind k at ≡ choose at (expr condition) (stmts ys)
choice_is k at condition xs ys is same = ap (λ (x : StmtKind). stmt_kind x at) is ∙ stmt_kind-If condition xs at ∙ ap (λ (zs : List TStmt). choose at (expr condition) (stmts zs)) (sym same)

pub loop_is : (k : StmtKind) (at : Place) (condition : TExpr) (xs : Vec TStmt Global) (ys : List TStmt) → k ≡ Loop condition xs → ys ≡ xs.items → stmt_kind k at ≡ repeat at (expr condition) (stmts ys)
loop_is k at condition xs ys is same = ap (λ (x : StmtKind). stmt_kind x at) is ∙ stmt_kind-Loop condition xs at ∙ ap (λ (zs : List TStmt). repeat at (expr condition) (stmts zs)) (sym same)
