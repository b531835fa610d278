-- What a view sees of a variant that holds a list.
use Rattle.std.proofs.Common.{◌≡◌, ℕ, List, ap, ◌∙◌, sym, refl}
use mathlib.Core.Former.{Count}
use Rattle.std.specs.declared.alloc.Global.{Global}
use Rattle.std.specs.Prelude.{Vec, Bool, Box}
use Rattle.odc_core.specs.declared.tree.CoreExpr.{CoreExpr, Row_of-CoreExpr, end_of-CoreExpr, more_of-CoreExpr, items-the_row-CoreExpr, items_hidden-the_row-CoreExpr-0}
use Rattle.odc_core.specs.declared.tree.CoreExpr.TheVariants.{Call', CallValue'}
use Rattle.odc_core.specs.declared.tree.CoreExpr.TheViews.{Call, CallValue}
use Rattle.odc_core.specs.declared.tree.CoreStmt.{CoreStmt, Row_of-CoreStmt, end_of-CoreStmt, more_of-CoreStmt, items-the_row-CoreStmt, items_hidden-the_row-CoreStmt-0}
use Rattle.odc_core.specs.declared.tree.CoreStmt.TheVariants.{If', Loop'}
use Rattle.odc_core.specs.declared.tree.CoreStmt.TheViews.{If, Loop}
use Rattle.odc_core.specs.Tree.{call, call_value, Exprs, more, choose, repeat, follow, Stmts}
use Rattle.odc_core.specs.View.{expr, row, exprs, stmt, list, stmts}

exprs_row : (n : _) (r : Row_of-CoreExpr n) → row r ≡ exprs (items-the_row-CoreExpr n r)
exprs_row n end_of-CoreExpr = refl
exprs_row n (more_of-CoreExpr e r) = ap (more (expr e)) (exprs_row _ r)

abbrev row_of : CoreExpr → (n : Count) × Row_of-CoreExpr n
row_of (Call' f s r) = (_, r)
row_of (CallValue' p target s r marked) = (_, r)
row_of _ = (_, end_of-CoreExpr)

pub expr-Call : (f : ℕ) (xs : Vec CoreExpr Global) → expr (Call f xs) ≡ call f (exprs xs.items)
expr-Call f xs = let r = row_of (Call f xs) in ap (call f) (exprs_row r.0 r.1 ∙ ap exprs (items_hidden-the_row-CoreExpr-0 xs))

list_row : (n : _) (r : Row_of-CoreStmt n) → list r ≡ stmts (items-the_row-CoreStmt n r)
list_row n end_of-CoreStmt = refl
list_row n (more_of-CoreStmt s r) = ap (follow (stmt s)) (list_row _ r)

abbrev loop_row : CoreStmt → (n : Count) × Row_of-CoreStmt n
loop_row (Loop' s r) = (_, r)
loop_row _ = (_, end_of-CoreStmt)

pub stmt-Loop : (xs : Vec CoreStmt Global) → stmt (Loop xs) ≡ repeat (stmts xs.items)
stmt-Loop xs = let r = loop_row (Loop xs) in ap repeat (list_row r.0 r.1 ∙ ap stmts (items_hidden-the_row-CoreStmt-0 xs))

pub expr-CallValue : (b : Box CoreExpr Global) (xs : Vec CoreExpr Global) (marked : Bool) → expr (CallValue b xs marked) ≡ call_value (expr b.value) (exprs xs.items) marked
expr-CallValue b xs marked = let r = row_of (CallValue b xs marked) in ap (λ (es : Exprs). call_value (expr b.value) es marked) (exprs_row r.0 r.1 ∙ ap exprs (items_hidden-the_row-CoreExpr-0 xs))

abbrev first_row : CoreStmt → (n : Count) × Row_of-CoreStmt n
first_row (If' e s r t q) = (_, r)
first_row _ = (_, end_of-CoreStmt)

abbrev second_row : CoreStmt → (n : Count) × Row_of-CoreStmt n
second_row (If' e s r t q) = (_, q)
second_row _ = (_, end_of-CoreStmt)

pub stmt-If : (e : CoreExpr) (xs ys : Vec CoreStmt Global) → stmt (If e xs ys) ≡ choose (expr e) (stmts xs.items) (stmts ys.items)
stmt-If e xs ys =
    let r = first_row (If e xs ys) in
    let q = second_row (If e xs ys) in
    ap (λ (ss : Stmts). choose (expr e) ss (list q.1)) (list_row r.0 r.1 ∙ ap stmts (items_hidden-the_row-CoreStmt-0 xs))
    ∙ ap (λ (ss : Stmts). choose (expr e) (stmts xs.items) ss) (list_row q.0 q.1 ∙ ap stmts (items_hidden-the_row-CoreStmt-0 ys))

-- ---- the same where a list has been read out of its vector

pub call_is : (e : CoreExpr) (f : ℕ) (xs : Vec CoreExpr Global) (ys : List CoreExpr) → e ≡ Call f xs → ys ≡ xs.items → expr e ≡ call f (exprs ys)
call_is e f xs ys is same = ap expr is ∙ expr-Call f xs ∙ ap (λ (zs : List CoreExpr). call f (exprs zs)) (sym same)

pub call_value_is : (e : CoreExpr) (b : Box CoreExpr Global) (xs : Vec CoreExpr Global) (marked : Bool) (target : CoreExpr) (ys : List CoreExpr) → e ≡ CallValue b xs marked → target ≡ b.value → ys ≡ xs.items →
    expr e ≡ call_value (expr target) (exprs ys) marked
call_value_is e b xs marked target ys is to same =
    ap expr is ∙ expr-CallValue b xs marked ∙ ap (λ (zs : List CoreExpr). call_value (expr b.value) (exprs zs) marked) (sym same)
    ∙ ap (λ (x : CoreExpr). call_value (expr x) (exprs ys) marked) (sym to)

pub choice_is : (s : CoreStmt) (e : CoreExpr) (xs ys : Vec CoreStmt Global) (first second : List CoreStmt) → s ≡ If e xs ys → first ≡ xs.items → second ≡ ys.items →
    stmt s ≡ choose (expr e) (stmts first) (stmts second)
choice_is s e xs ys first second is one two =
    ap stmt is ∙ stmt-If e xs ys ∙ ap (λ (zs : List CoreStmt). choose (expr e) (stmts zs) (stmts ys.items)) (sym one)
    ∙ ap (λ (zs : List CoreStmt). choose (expr e) (stmts first) (stmts zs)) (sym two)

pub loop_is : (s : CoreStmt) (xs : Vec CoreStmt Global) (body : List CoreStmt) → s ≡ Loop xs → body ≡ xs.items → stmt s ≡ repeat (stmts body)
loop_is s xs body is same = ap stmt is ∙ stmt-Loop xs ∙ ap (λ (zs : List CoreStmt). repeat (stmts zs)) (sym same)
