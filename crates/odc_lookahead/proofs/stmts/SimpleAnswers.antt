-- Assignments and expressions: the answers in the words of the lists that are read.
use Rattle.std.proofs.Common.{◌≡◌, ℕ, suc, ◌+◌, ◌<◌, ◌≤◌, max, List, [], ◌∷◌, ◌++◌, length, refl, sym, ◌∙◌, ap, subst, arith}
use Rattle.odc_syntax.specs.declared.token.Token.{Token}
use Rattle.odc_syntax.specs.declared.tree.AssignOp.{AssignOp}
use Rattle.odc_syntax.specs.Tree.{Expr, first_of}
use Rattle.odc_syntax.specs.declared.grammar.Mode.{Mode}
use Rattle.odc_syntax.specs.Tree as tree
use Rattle.odc_syntax.specs.View.{expr, exprs}
use Rattle.odc_syntax.specs.Grammar.{later}
use Rattle.odc_syntax.specs.Grammar as g
use Rattle.odc_lookahead.specs.declared.stop.Stop.{Stop}
use Rattle.odc_lookahead.specs.Exact.{one, Exact, Found, TooDeep}
use Rattle.odc_lookahead.specs.Read.{refused}
use Rattle.odc_lookahead.specs.stmts.Statements.{BeginsWith}
use Rattle.odc_lookahead.specs.stmts.StatementSets.{continues_exprs, continues_simple, NoAssignment}
use Rattle.odc_lookahead.proofs.reading.Answering.{answer_is}
use Rattle.odc_lookahead.proofs.stmts.SimpleLemmas.{Assigns, eval_found, assign_deep, assign_refused, assign_found}

pub begins_last : (e : tree.Expr) (xs : List Expr) (y : Expr) → BeginsWith e xs → BeginsWith e (xs ++ y ∷ [])
begins_last e [] y h = absurd h
begins_last e (x ∷ xs) y h = h

pub begins_more : (e : tree.Expr) (xs ys : List Expr) (y : Expr) → BeginsWith e xs → ys ≡ xs ++ y ∷ [] → BeginsWith e ys
begins_more e xs ys y h more = subst (λ (l : List Expr). BeginsWith e l) (sym more) (begins_last e xs y h)

pub begins_alone : (x : Expr) (xs : List Expr) → xs ≡ x ∷ [] → BeginsWith (expr x) xs
begins_alone x xs e = subst (λ (l : List Expr). BeginsWith (expr x) l) (sym e) refl

pub eval_answer : (m : Mode) (b : ℕ) (ts : List Token) (first : Expr) (xs : List Expr) (n : ℕ) (rest : List Token) (s : tree.Stmt) (top : ℕ) → BeginsWith (expr first) xs → Found (one (g.exprs m)) (continues_exprs m) b ts (exprs xs) n rest → NoAssignment rest →
    s ≡ tree.stmt (first_of first) (tree.eval (exprs xs)) → top ≡ n + 1 → Found (one (g.simple m)) (continues_simple m) (suc b) ts s top rest
eval_answer m b ts first [] n rest s top begins found none made high = absurd begins
eval_answer m b ts first (x ∷ xs) n rest s top begins found none made high =
    answer_is (ap (λ (e : tree.Expr). tree.stmt (first_of e) (tree.eval (exprs (x ∷ xs)))) begins ∙ sym made) (omega (arith, high)) (eval_found m b ts (expr x) (exprs xs) n rest (record { found = found }) none)

pub assign_over : (m : Mode) (b : ℕ) (ts : List Token) (first : Expr) (xs : List Expr) (n : ℕ) (rest : List Token) (t : Token) (op : AssignOp) (us : List Token) → BeginsWith (expr first) xs → Found (one (g.exprs m)) (continues_exprs m) b ts (exprs xs) n rest → Assigns rest t op us → b < n →
    TooDeep (one (g.simple m)) (continues_simple m) (suc b) ts (length us)
assign_over m b ts first [] n rest t op us begins found a over = absurd begins
assign_over m b ts first (x ∷ xs) n rest t op us begins found a over = assign_deep m b ts (expr x) (exprs xs) n rest t op us (record { found = found }) a over

pub values_refused : (m i : Mode) (b : ℕ) (ts : List Token) (first : Expr) (xs : List Expr) (n : ℕ) (rest : List Token) (t : Token) (op : AssignOp) (us : List Token) (stop : Stop) → i ≡ later m → BeginsWith (expr first) xs → Found (one (g.exprs m)) (continues_exprs m) b ts (exprs xs) n rest →
    Assigns rest t op us → n ≤ b → Exact (one (g.exprs i)) (continues_exprs i) b us (refused stop) → Exact (one (g.simple m)) (continues_simple m) (suc b) ts (refused stop)
values_refused m i b ts first [] n rest t op us stop f begins found a within h = absurd begins
values_refused m i b ts first (x ∷ xs) n rest t op us stop f begins found a within h = assign_refused m i b ts (expr x) (exprs xs) n rest t op us stop f (record { found = found }) a within h

pub assign_answer : (m i : Mode) (b : ℕ) (ts : List Token) (first : Expr) (xs : List Expr) (n : ℕ) (rest : List Token) (t : Token) (op : AssignOp) (us : List Token) (vs : List Expr) (k : ℕ) (after : List Token) (s : tree.Stmt) (top : ℕ) → i ≡ later m → BeginsWith (expr first) xs →
    Found (one (g.exprs m)) (continues_exprs m) b ts (exprs xs) n rest → Assigns rest t op us → n ≤ b → Found (one (g.exprs i)) (continues_exprs i) b us (exprs vs) k after → s ≡ tree.stmt t.at (tree.assign (exprs xs) op (exprs vs)) → top ≡ max n k + 1 →
    Found (one (g.simple m)) (continues_simple m) (suc b) ts s top after
assign_answer m i b ts first [] n rest t op us vs k after s top f begins found a within values made high = absurd begins
assign_answer m i b ts first (x ∷ xs) n rest t op us vs k after s top f begins found a within values made high =
    answer_is (sym made) (omega (arith, high)) (assign_found m i b ts (expr x) (exprs xs) n rest t op us (exprs vs) k (suc (max n k)) after f (record { found = found }) a within values refl)
