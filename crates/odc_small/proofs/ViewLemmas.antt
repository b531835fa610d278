-- What a view sees of a statement that holds a list.
use Rattle.std.proofs.Common.{◌≡◌, ap, ◌∙◌, refl}
use mathlib.Core.Former.{Count}
use Rattle.std.specs.declared.alloc.Global.{Global}
use Rattle.std.specs.Prelude.{Vec}
use Rattle.odc_text.specs.declared.place.Place.{Place}
use Rattle.odc_typed.specs.declared.tree.TExpr.{TExpr}
use Rattle.odc_typed.specs.declared.tree.TStmt.{TStmt}
use Rattle.odc_typed.specs.declared.tree.StmtKind.{StmtKind, Row_of-TStmt, end_of-TStmt, more_of-TStmt, items-the_row-TStmt, items_hidden-the_row-TStmt-0}
use Rattle.odc_typed.specs.declared.tree.StmtKind.TheVariants.{If', Loop'}
use Rattle.odc_typed.specs.declared.tree.StmtKind.TheViews.{If, Loop}
use Rattle.odc_typed.specs.Tree.{follow, choose, repeat}
use Rattle.odc_typed.specs.View.{expr, stmt_kind, list, stmts}

stmts_row : (n : _) (r : Row_of-TStmt n) → list r ≡ stmts (items-the_row-TStmt n r)
stmts_row n end_of-TStmt = refl
stmts_row n (more_of-TStmt at k r) = ap (follow (stmt_kind k at)) (stmts_row _ r)

abbrev row_of : StmtKind → (n : Count) × Row_of-TStmt n
row_of (If' e s r) = (_, r)
row_of (Loop' e s r) = (_, r)
row_of _ = (_, end_of-TStmt)

pub stmt_kind-If : (e : TExpr) (xs : Vec TStmt Global) (at : Place) → stmt_kind (If e xs) at ≡ choose at (expr e) (stmts xs.items)
stmt_kind-If e xs at = let r = row_of (If e xs) in ap (choose at (expr e)) (stmts_row r.0 r.1 ∙ ap stmts (items_hidden-the_row-TStmt-0 xs))

pub stmt_kind-Loop : (e : TExpr) (xs : Vec TStmt Global) (at : Place) → stmt_kind (Loop e xs) at ≡ repeat at (expr e) (stmts xs.items)
stmt_kind-Loop e xs at = let r = row_of (Loop e xs) in ap (repeat at (expr e)) (stmts_row r.0 r.1 ∙ ap stmts (items_hidden-the_row-TStmt-0 xs))
