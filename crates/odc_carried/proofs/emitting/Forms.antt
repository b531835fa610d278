-- The code of forms, by what stands alone in them.
use Rattle.std.proofs.Common.{◌≡◌, ℕ, ◌+◌, ◌<◌, List, [], ◌∷◌, length, drop, get_or, ap, ◌∙◌, sym, refl, arith}
use Rattle.std.specs.Prelude.{Option, Some, None}
use Rattle.odc_program.specs.Trees.Tree.{Expr, expr, local, none, more, Lefts, no_lefts, left_, Rights, nothing, each, Stmt, Maybe}
use Rattle.odc_program.specs.declared.tree.TExprKind.{TExprKind}
use Rattle.odc_program.specs.declared.tree.TExprKind.TheVariants as k
use Rattle.odc_program.specs.declared.tree.TStmtKind.{TStmtKind}
use Rattle.odc_program.specs.declared.tree.TStmtKind.TheVariants as s
use Rattle.odc_program.specs.declared.tree.Rights.{Rights as RustRights}
use Rattle.odc_program.specs.declared.tree.Rights.TheVariants as v
use Rattle.odc_program.specs.Views.View.{exprs, expr_kind}
use Rattle.odc_program.specs.Views.StmtView.{lefts, rights, stmt_kind, stmts}
use Rattle.odc_core.specs.declared.tree.CoreStmt.{CoreStmt}
use Rattle.odc_core.specs.View.{stmts as core_stmts}
use Rattle.odc_core.specs.Tree.{Stmts as CoreStmts, answer as answered, finish as done}
use Rattle.odc_carried.specs.Carried.{count}
use Rattle.odc_carried.specs.Code.{Around, join, one, put_code, declare_code, assign_code, return_code, result_code, before, form_code, stmt_code, stmts_code, turn_code, condition_before}
use Rattle.odc_carried.specs.Single.{named, target, only}
use Rattle.odc_carried.proofs.emitting.Joins.{join_assoc, join_done, parts}
use Rattle.odc_carried.proofs.emitting.Sources.{drop_here}

pub count_is : (es : List Expr) → count (exprs es) ≡ length es
count_is [] = refl
count_is (e ∷ es) = let rest : count (exprs es) ≡ length es = count_is es in omega (arith, rest)

-- ---- what stands alone
pub named_none : (xs : List (Option ℕ)) → (length xs ≡ 1 → ⊥) → named xs ≡ None
named_none [] h = refl
named_none (x ∷ []) h = absurd (h refl)
named_none (Some x ∷ y ∷ xs) h = refl
named_none (None ∷ y ∷ xs) h = refl

pub only_none : (es : List Expr) → (length es ≡ 1 → ⊥) → only (each (exprs es)) ≡ None
only_none [] h = refl
only_none (e ∷ []) h = absurd (h refl)
only_none (e ∷ f ∷ es) h = refl

pub only_one : (es : List Expr) (e : Expr) → es ≡ e ∷ [] → only (each (exprs es)) ≡ Some e
only_one es e is = ap (λ (xs : List Expr). only (each (exprs xs))) is

pub target_none : (ls : List (Option Expr)) → ((e : Expr) → ls ≡ Some e ∷ [] → ⊥) → target (lefts ls) ≡ None
target_none [] h = refl
target_none (None ∷ ls) h = refl
target_none (Some e ∷ []) h = absurd (h e refl)
target_none (Some (expr t at (local x)) ∷ None ∷ ls) h = refl
target_none (Some (expr t at (local x)) ∷ Some f ∷ ls) h = refl
target_none (Some (expr t at _) ∷ None ∷ ls) h = refl
target_none (Some (expr t at _) ∷ Some f ∷ ls) h = refl

pub kind_none : (t : ℕ) (at : _) (kind : TExprKind) → ((x : ℕ) → kind ≡ k.Local x → ⊥) → target (left_ (expr t at (expr_kind kind)) no_lefts) ≡ None
kind_none t at (k.Local x) h = absurd (h x refl)
kind_none t at _ h = refl

-- ---- forms
pub declare_none : (o : Around) (xs : List (Option ℕ)) (vs : Rights) → named xs ≡ None → declare_code o xs vs ≡ done
declare_none o (Some x ∷ []) vs h = absurd (cc)
declare_none o xs vs h = refl

pub declare_zero : (o : Around) (xs : List (Option ℕ)) (x : ℕ) (vs : Rights) → named xs ≡ Some x → declare_code o xs vs ≡ declare_code o (Some x ∷ []) vs
declare_zero o (Some y ∷ []) x vs h = let same : y ≡ x = cc in ap (λ (z : ℕ). declare_code o (Some z ∷ []) vs) same
declare_zero o xs x vs h = absurd (cc)

pub declare_one : (o : Around) (xs : List (Option ℕ)) (x : ℕ) (vs : Rights) (e : Expr) → named xs ≡ Some x → only vs ≡ Some e → declare_code o xs vs ≡ put_code o x e
declare_one o (Some y ∷ []) x (each (more f none)) e h g =
    let same : y ≡ x = cc in
    let one : f ≡ e = cc in
    ap (λ (z : ℕ). put_code o z f) same ∙ ap (put_code o x) one
declare_one o xs x vs e h g = absurd (cc)

pub declare_many : (o : Around) (xs : List (Option ℕ)) (vs : Rights) → (vs ≡ nothing → ⊥) → only vs ≡ None → declare_code o xs vs ≡ done
declare_many o (Some x ∷ []) nothing h g = absurd (h refl)
declare_many o (Some x ∷ []) (each (more e none)) h g = absurd (cc)
declare_many o xs vs h g = refl

pub assign_none : (o : Around) (ls : Lefts) (vs : Rights) → target ls ≡ None → assign_code o ls vs ≡ done
assign_none o (left_ (expr t at (local x)) no_lefts) vs h = absurd (cc)
assign_none o ls vs h = refl

pub assign_one : (o : Around) (ls : Lefts) (x : ℕ) (vs : Rights) (e : Expr) → target ls ≡ Some x → only vs ≡ Some e → assign_code o ls vs ≡ put_code o x e
assign_one o (left_ (expr t at (local y)) no_lefts) x (each (more f none)) e h g =
    let same : y ≡ x = cc in
    let one : f ≡ e = cc in
    ap (λ (z : ℕ). put_code o z f) same ∙ ap (put_code o x) one
assign_one o ls x vs e h g = absurd (cc)

pub assign_many : (o : Around) (ls : Lefts) (vs : Rights) → only vs ≡ None → assign_code o ls vs ≡ done
assign_many o (left_ (expr t at (local x)) no_lefts) (each (more e none)) g = absurd (cc)
assign_many o ls vs g = refl

pub return_one : (o : Around) (vs : Rights) (e : Expr) → only vs ≡ Some e → return_code o vs ≡ join (put_code o o.result e) (one (answered (result_code o o.results)))
return_one o (each (more f none)) e g = let one' : f ≡ e = cc in ap (λ (x : Expr). return_code o (each (more x none))) one' ∙ sym (join_assoc (before o 0 e) _ (one (answered (result_code o o.results))))
return_one o vs e g = absurd (cc)

pub return_none : (o : Around) (vs : Rights) → only vs ≡ None → return_code o vs ≡ one (answered (result_code o o.results))
return_none o (each (more e none)) g = absurd (cc)
return_none o vs g = refl

-- ---- what was appended for the value that stands alone, or for none
module _ (o : Around) (vs : Rights) (old new : List CoreStmt) (x : ℕ) (one_put : (e : Expr) → only vs ≡ Some e → core_stmts new ≡ join (core_stmts old) (put_code o x e)) (same : only vs ≡ None → core_stmts new ≡ core_stmts old) where
  pub assigned_by : (ls : Lefts) → target ls ≡ Some x → core_stmts new ≡ join (core_stmts old) (assign_code o ls vs)
  assigned_by ls is = by (only vs) refl
    where
      by : (q : Option Expr) → only vs ≡ q → core_stmts new ≡ join (core_stmts old) (assign_code o ls vs)
      by (Some e) g = one_put e g ∙ ap (join (core_stmts old)) (sym (assign_one o ls x vs e is g))
      by None g = same g ∙ sym (ap (join (core_stmts old)) (assign_many o ls vs g) ∙ join_done (core_stmts old))

  pub declared_by : (xs : List (Option ℕ)) → (vs ≡ nothing → ⊥) → named xs ≡ Some x → core_stmts new ≡ join (core_stmts old) (declare_code o xs vs)
  declared_by xs some is = by (only vs) refl
    where
      by : (q : Option Expr) → only vs ≡ q → core_stmts new ≡ join (core_stmts old) (declare_code o xs vs)
      by (Some e) g = one_put e g ∙ ap (join (core_stmts old)) (sym (declare_one o xs x vs e is g))
      by None g = same g ∙ sym (ap (join (core_stmts old)) (declare_many o xs vs some g) ∙ join_done (core_stmts old))

  pub returned_by : (last : List CoreStmt) → x ≡ o.result → core_stmts last ≡ join (core_stmts new) (one (answered (result_code o o.results))) → core_stmts last ≡ join (core_stmts old) (return_code o vs)
  returned_by last is e = by (only vs) refl
    where
      by : (q : Option Expr) → only vs ≡ q → core_stmts last ≡ join (core_stmts old) (return_code o vs)
      by (Some v) g =
          parts old new last (put_code o o.result v) (one (answered (result_code o o.results))) (one_put v g ∙ ap (λ (y : ℕ). join (core_stmts old) (put_code o y v)) is) e
          ∙ ap (join (core_stmts old)) (sym (return_one o vs v g))
      by None g = e ∙ ap (λ (a : CoreStmts). join a (one (answered (result_code o o.results)))) (same g) ∙ ap (join (core_stmts old)) (sym (return_none o vs g))

-- right sides that aren't none
pub some_rights : (vs : RustRights) → (vs ≡ v.None → ⊥) → rights vs ≡ nothing → ⊥
some_rights v.None h e = h refl
some_rights (v.Each es) h e = cc
some_rights (v.Parted ts f) h e = cc

-- a statement of a form that makes no code
pub other_form : (o : Around) (kind : TStmtKind) → ((a : _) (b : _) → kind ≡ s.Declare a b → ⊥) → ((a : _) (b : _) → kind ≡ s.Assign a b → ⊥) → ((e : _) → kind ≡ s.Eval e → ⊥) → ((l : _) (b : _) → kind ≡ s.Block l b → ⊥) → ((i : _) (e : _) (a : _) (b : _) → kind ≡ s.If i e a b → ⊥) → ((l : _) (i : _) (e : _) (p : _) (b : _) → kind ≡ s.Loop l i e p b → ⊥) → ((a : _) → kind ≡ s.Return a → ⊥) → form_code o (stmt_kind kind) ≡ done
other_form o (s.Declare a b) h1 h2 h3 h4 h5 h6 h7 = absurd (h1 a b refl)
other_form o (s.Assign a b) h1 h2 h3 h4 h5 h6 h7 = absurd (h2 a b refl)
other_form o (s.Eval e) h1 h2 h3 h4 h5 h6 h7 = absurd (h3 e refl)
other_form o (s.Block l b) h1 h2 h3 h4 h5 h6 h7 = absurd (h4 l b refl)
other_form o (s.If i e a b) h1 h2 h3 h4 h5 h6 h7 = absurd (h5 i e a b refl)
other_form o (s.Loop l i e p b) h1 h2 h3 h4 h5 h6 h7 = absurd (h6 l i e p b refl)
other_form o (s.Return a) h1 h2 h3 h4 h5 h6 h7 = absurd (h7 a refl)
other_form o _ h1 h2 h3 h4 h5 h6 h7 = refl

-- ---- the code of statements that stand behind each other
pub stmts_more : (ss : List Stmt) (i : ℕ) (x : Stmt) (old new : List CoreStmt) (all : CoreStmts) (o : Around) → i < length ss → x ≡ get_or ss i x →
    join (core_stmts old) (stmts_code o (stmts (drop i ss))) ≡ all → core_stmts new ≡ join (core_stmts old) (stmt_code o x) →
    join (core_stmts new) (stmts_code o (stmts (drop (i + 1) ss))) ≡ all
stmts_more ss i x old new all o h e told grown =
    let rest : CoreStmts = stmts_code o (stmts (drop (i + 1) ss)) in
    ap (λ (a : CoreStmts). join a rest) grown
    ∙ join_assoc (core_stmts old) (stmt_code o x) rest
    ∙ ap (λ (xs : List Stmt). join (core_stmts old) (stmts_code o (stmts xs))) (sym (drop_here ss i x h e))
    ∙ told

pub stmts_end : (ss : List Stmt) (i : ℕ) (old : List CoreStmt) (all : CoreStmts) (o : Around) → drop i ss ≡ [] → join (core_stmts old) (stmts_code o (stmts (drop i ss))) ≡ all → core_stmts old ≡ all
stmts_end ss i old all o e told = sym (ap (λ (xs : List Stmt). join (core_stmts old) (stmts_code o (stmts xs))) e ∙ join_done (core_stmts old)) ∙ told

-- the test of a loop, and the rest of a turn behind it
pub turned : (o : Around) (e : Maybe) (rest : CoreStmts) → join (turn_code o e done) rest ≡ turn_code o e rest
turned o e rest = join_assoc (condition_before o e) _ rest
