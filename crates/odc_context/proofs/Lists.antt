-- What the emitting loops have appended so far, and what is left.
use Rattle.std.proofs.Common.{◌≡◌, ℕ, zero, suc, ◌+◌, ◌-◌, ◌<◌, ◌≤◌, List, [], ◌∷◌, ◌++◌, length, drop, get_or, ap, ◌∙◌, sym, refl, arith}
use Rattle.std.proofs.Math.Seq.{drop-length}
use Rattle.odc_typed.specs.declared.tree.TExpr.{TExpr}
use Rattle.odc_text.specs.declared.place.Place.{Place}
use Rattle.odc_typed.specs.declared.tree.ExprKind.{ExprKind}
use Rattle.odc_typed.specs.declared.tree.Local.{Local as Result}
use Rattle.odc_typed.specs.declared.tree.ExprKind.TheVariants.{Const, Local, Binary', Call', Builtin'}
use Rattle.odc_typed.specs.declared.tree.TStmt.{TStmt}
use Rattle.odc_typed.specs.Tree.{Exprs as SourceExprs, Stmts as SourceStmts}
use Rattle.odc_typed.specs.View.{expr_kind, expr as source_expr, exprs as source_exprs, stmt as source_stmt, stmts as source_stmts}
use Rattle.odc_core.specs.declared.tree.CoreStmt.{CoreStmt}
use Rattle.odc_core.specs.declared.tree.CoreExpr.{CoreExpr as Tree}
use Rattle.odc_core.specs.Tree.{Expr as CoreExpr, Exprs as CoreExprs, none as nothing, more as another, Stmts, finish}
use Rattle.odc_core.specs.View.{expr, exprs, stmts}
use Rattle.odc_context.specs.Code.{Own, join, print_code, values_code, waits, all_waiting, expr_code, exprs_code, place_code, stmt_code, stmts_code, begin_code, end_code}
use Rattle.odc_context.proofs.Joins.{join_assoc, join_done}
use Rattle.odc_context.proofs.Sources.{exprs_here, stmts_here}

-- ---- printed values

pub values_begin : (xs : List CoreStmt) (o : Own) (d n : ℕ) → join (stmts xs) (values_code o (d + 0) (n - 0)) ≡ join (stmts xs) (values_code o d n)
values_begin xs o d n =
    let a : d + 0 ≡ d = omega arith in
    let b : n - 0 ≡ n = omega arith in
    ap (λ (k : ℕ). join (stmts xs) (values_code o k (n - 0))) a ∙ ap (λ (k : ℕ). join (stmts xs) (values_code o d k)) b

pub values_end : (xs : List CoreStmt) (o : Own) (d n i : ℕ) → n ≤ i → join (stmts xs) (values_code o d (n - i)) ≡ stmts xs
values_end xs o d n i h =
    let none : n - i ≡ 0 = omega (arith, h) in
    ap (λ (k : ℕ). join (stmts xs) (values_code o d k)) none ∙ join_done (stmts xs)

value_before : (xs ys : List CoreStmt) (o : Own) (d behind k : ℕ) → (0 < k → behind ≡ 32) → (k ≡ 0 → behind ≡ 10) → stmts ys ≡ join (stmts xs) (print_code o d behind) →
    join (stmts ys) (values_code o (d + 1) k) ≡ join (stmts xs) (values_code o d (suc k))
value_before xs ys o d behind zero parted last e = join_done (stmts ys) ∙ e ∙ ap (λ (b : ℕ). join (stmts xs) (print_code o d b)) (last refl)
value_before xs ys o d behind (suc k) parted last e =
    let some : 0 < suc k = omega arith in
    ap (λ (b : Stmts). join b (values_code o (d + 1) (suc k))) (e ∙ ap (λ (b : ℕ). join (stmts xs) (print_code o d b)) (parted some))
    ∙ join_assoc (stmts xs) (print_code o d 32) (values_code o (d + 1) (suc k))

pub values_more : (xs ys : List CoreStmt) (all : Stmts) (o : Own) (d n i behind : ℕ) → i < n → (0 < n - i - 1 → behind ≡ 32) → (n - i - 1 ≡ 0 → behind ≡ 10) → stmts ys ≡ join (stmts xs) (print_code o (d + i) behind) →
    join (stmts xs) (values_code o (d + i) (n - i)) ≡ all → join (stmts ys) (values_code o (d + (i + 1)) (n - (i + 1))) ≡ all
values_more xs ys all o d n i behind h parted last e told =
    let a : d + (i + 1) ≡ d + i + 1 = omega arith in
    let b : n - (i + 1) ≡ n - i - 1 = omega arith in
    let c : suc (n - i - 1) ≡ n - i = omega (arith, h) in
    ap (λ (k : ℕ). join (stmts ys) (values_code o k (n - (i + 1)))) a ∙ ap (λ (k : ℕ). join (stmts ys) (values_code o (d + i + 1) k)) b
    ∙ value_before xs ys o (d + i) behind (n - i - 1) parted last e
    ∙ ap (λ (k : ℕ). join (stmts xs) (values_code o (d + i) k)) c ∙ told

-- ---- values that are handed to a call

abbrev snoc : CoreExprs → CoreExpr → CoreExprs
snoc nothing e = another e nothing
snoc (another x es) e = another x (snoc es e)

exprs_snoc : (xs : List Tree) (x : Tree) → exprs (xs ++ x ∷ []) ≡ snoc (exprs xs) (expr x)
exprs_snoc [] x = refl
exprs_snoc (y ∷ xs) x = ap (another (expr y)) (exprs_snoc xs x)

waiting_snoc : (o : Own) (d n : ℕ) → all_waiting o d (n + 1) ≡ snoc (all_waiting o d n) (waits o (d + n))
waiting_snoc o d zero = let same : d ≡ d + 0 = omega arith in ap (λ (k : ℕ). another (waits o k) nothing) same
waiting_snoc o d (suc n) =
    let next : suc n + 1 ≡ suc (n + 1) = omega arith in
    let last : d + 1 + n ≡ d + suc n = omega arith in
    ap (all_waiting o d) next ∙ ap (another (waits o d)) (waiting_snoc o (d + 1) n ∙ ap (λ (k : ℕ). snoc (all_waiting o (d + 1) n) (waits o k)) last)

pub waiting_more : (xs ys : List Tree) (x : Tree) (o : Own) (d i : ℕ) → exprs xs ≡ all_waiting o d i → ys ≡ xs ++ x ∷ [] → expr x ≡ waits o (d + i) → exprs ys ≡ all_waiting o d (i + 1)
waiting_more xs ys x o d i told grown e =
    ap exprs grown ∙ exprs_snoc xs x ∙ ap (λ (es : CoreExprs). snoc es (expr x)) told ∙ ap (snoc (all_waiting o d i)) e ∙ sym (waiting_snoc o d i)

-- ---- the code of expressions that stand behind each other

pub exprs_more : (es : List TExpr) (i d : ℕ) (x : TExpr) (xs ys : List CoreStmt) (all : Stmts) (o : Own) → i < length es → x ≡ get_or es i x →
    join (stmts xs) (exprs_code o (d + i) (source_exprs (drop i es))) ≡ all → stmts ys ≡ join (stmts xs) (expr_code o (d + i) (source_expr x)) →
    join (stmts ys) (exprs_code o (d + (i + 1)) (source_exprs (drop (i + 1) es))) ≡ all
exprs_more es i d x xs ys all o h e told grown =
    let next : d + (i + 1) ≡ d + i + 1 = omega arith in
    let rest : Stmts = exprs_code o (d + i + 1) (source_exprs (drop (i + 1) es)) in
    ap (λ (k : ℕ). join (stmts ys) (exprs_code o k (source_exprs (drop (i + 1) es)))) next
    ∙ ap (λ (a : Stmts). join a rest) grown
    ∙ join_assoc (stmts xs) (expr_code o (d + i) (source_expr x)) rest
    ∙ ap (λ (ss : SourceExprs). join (stmts xs) (exprs_code o (d + i) ss)) (sym (exprs_here es i x h e))
    ∙ told

pub exprs_end : (es : List TExpr) (i d : ℕ) (xs : List CoreStmt) (o : Own) → i ≡ length es → join (stmts xs) (exprs_code o d (source_exprs (drop i es))) ≡ stmts xs
exprs_end es i d xs o e =
    ap (λ (n : ℕ). join (stmts xs) (exprs_code o d (source_exprs (drop n es)))) e
    ∙ ap (λ (ys : List TExpr). join (stmts xs) (exprs_code o d (source_exprs ys))) (drop-length es) ∙ join_done (stmts xs)

-- ---- the code of statements that stand behind each other

pub stmts_more : (ss : List TStmt) (i : ℕ) (x : TStmt) (xs ys : List CoreStmt) (all : Stmts) (o : Own) → i < length ss → x ≡ get_or ss i x →
    join (stmts xs) (stmts_code o (source_stmts (drop i ss))) ≡ all → stmts ys ≡ join (stmts xs) (stmt_code o (source_stmt x)) →
    join (stmts ys) (stmts_code o (source_stmts (drop (i + 1) ss))) ≡ all
stmts_more ss i x xs ys all o h e told grown =
    let rest : Stmts = stmts_code o (source_stmts (drop (i + 1) ss)) in
    ap (λ (a : Stmts). join a rest) grown
    ∙ join_assoc (stmts xs) (stmt_code o (source_stmt x)) rest
    ∙ ap (λ (s : SourceStmts). join (stmts xs) (stmts_code o s)) (sym (stmts_here ss i x h e))
    ∙ told

pub stmts_end : (ss : List TStmt) (i : ℕ) (xs : List CoreStmt) (o : Own) → i ≡ length ss → join (stmts xs) (stmts_code o (source_stmts (drop i ss))) ≡ stmts xs
stmts_end ss i xs o e =
    ap (λ (n : ℕ). join (stmts xs) (stmts_code o (source_stmts (drop n ss)))) e
    ∙ ap (λ (ys : List TStmt). join (stmts xs) (stmts_code o (source_stmts ys))) (drop-length ss) ∙ join_done (stmts xs)

-- what is no variable is no place
pub place_none : (k : ExprKind) (at : Place) (o : Own) → ((x : ℕ) → k ≡ Local x → ⊥) → place_code o (expr_kind k at) ≡ finish
place_none (Local x) at o h = absurd (h x refl)
place_none (Const value) at o h = refl
place_none (Binary' op p at' k q at'' l) at o h = refl
place_none (Call' f s r) at o h = refl
place_none (Builtin' which s r) at o h = refl

-- ---- without a result nothing begins and nothing is answered at the end

pub begin_none : (o : Own) (results : List Result) (xs : List CoreStmt) → length results < 1 → stmts xs ≡ join (stmts xs) (begin_code o results)
begin_none o [] xs h = sym (join_done (stmts xs))
begin_none o (r ∷ rs) xs h = absurd (omega arith)

pub end_none : (o : Own) (results : List Result) (xs : List CoreStmt) → length results < 1 → stmts xs ≡ join (stmts xs) (end_code o results)
end_none o [] xs h = sym (join_done (stmts xs))
end_none o (r ∷ rs) xs h = absurd (omega arith)
