-- Operands and arguments, as the code of expressions puts them together.
use Rattle.std.proofs.Common.{◌≡◌, ℕ, ◌+◌, ◌<◌, Bool, true, false, List, [], ◌∷◌, ◌++◌, length, drop, get_or, ap, ◌∙◌, sym, refl}
use Rattle.std.specs.Prelude.{◌||◌}
use Rattle.odc_text.specs.declared.place.Place.{Place}
use Rattle.odc_program.specs.declared.ops.BinaryOp.{BinaryOp}
use Rattle.odc_program.specs.declared.ops.BinaryOp.TheVariants as op
use Rattle.odc_program.specs.declared.tree.TExprKind.{TExprKind}
use Rattle.odc_program.specs.declared.tree.TExprKind.TheVariants as k
use Rattle.odc_program.specs.Trees.Tree.{Expr, expr, Kind, const, local, unary, binary, Exprs, none, more}
use Rattle.odc_program.specs.Views.View.{expr_kind, exprs}
use Rattle.odc_core.specs.declared.tree.CoreStmt.{CoreStmt}
use Rattle.odc_core.specs.declared.tree.CoreExpr.{CoreExpr as Rust}
use Rattle.odc_core.specs.Tree.{Expr as CoreExpr, Exprs as CoreExprs, more as another, Stmts as CoreStmts, finish as done, follow as then}
use Rattle.odc_core.specs.View.{expr as core_expr, exprs as core_exprs, stmts as core_stmts}
use Rattle.odc_carried.specs.Carried.{is_connective, checks, is_loud, is_any_loud}
use Rattle.odc_carried.specs.Code.{Around, Way, nested, waiting, checking, both, either, way_by, way_of, way, join, one, wait, waits, before, before_kind, before_by, value, value_kind, befores, values, argument_before, argument_values, waits_all}
use Rattle.odc_carried.proofs.Quiet.{or_false}
use Rattle.odc_carried.proofs.emitting.Joins.{join_assoc, join_done, parts}
use Rattle.odc_carried.proofs.emitting.Appended.{behind, behind_none, one_behind}
use Rattle.odc_carried.proofs.emitting.Sources.{drop_here}

-- ---- what isn't loud has nothing that runs before
way_nested : (o1 : BinaryOp) (l c : Bool) → is_connective o1 ≡ false → l ≡ false → c ≡ false → way_of o1 l c ≡ nested
way_nested op.AndAlso l c e f g = absurd (cc)
way_nested op.OrElse l c e f g = absurd (cc)
way_nested o1 l c e f g = ap (λ (x : Bool). way_by x c) f ∙ ap (way_by false) g

mutual
  before_quiet : (o : Around) (d : ℕ) (e : Expr) → is_loud e ≡ false → before o d e ≡ done
  before_quiet o d (expr t at k) e = kind_quiet o d at k e

  kind_quiet : (o : Around) (d : ℕ) (at : Place) (k : Kind) → is_loud (expr 0 at k) ≡ false → before_kind o d at k ≡ done
  kind_quiet o d at (const c) h = refl
  kind_quiet o d at (local x) h = refl
  kind_quiet o d at (unary u e) h = before_quiet o d e h
  kind_quiet o d at (binary o1 e f) h =
      let first = or_false (is_connective o1 || checks o1 f) (is_loud e || is_loud f) h in
      let whole = or_false (is_connective o1) (checks o1 f) first.0 in
      let parts = or_false (is_loud e) (is_loud f) first.1 in
      ap (λ (w : Way). before_by o d at w (before o d e) (value o d e) (before o (d + 1) f) (value o (d + 1) f)) (way_nested o1 (is_loud f) (checks o1 f) whole.0 parts.1 whole.1) ∙ before_quiet o d e parts.0
  kind_quiet o d at _ h = absurd (cc)

pub befores_quiet : (o : Around) (d : ℕ) (es : Exprs) → is_any_loud es ≡ false → befores o d es ≡ done
befores_quiet o d none h = refl
befores_quiet o d (more e es) h =
    let both = or_false (is_loud e) (is_any_loud es) h in
    ap (λ (b : Bool). argument_before o d b (before o d e) (value o d e) (befores o (d + 1) es)) both.1 ∙ before_quiet o d e both.0

-- ---- operators
nested_is_quiet : (o1 : BinaryOp) (l c : Bool) → way_of o1 l c ≡ nested → l ≡ false
nested_is_quiet op.AndAlso l c e = absurd (cc)
nested_is_quiet op.OrElse l c e = absurd (cc)
nested_is_quiet o1 true true e = absurd (cc)
nested_is_quiet o1 true false e = absurd (cc)
nested_is_quiet o1 false c e = refl

-- the right operand of a nested operator
pub nested_right : (o : Around) (d : ℕ) (o1 : BinaryOp) (f : Expr) → way o1 f ≡ nested → before o d f ≡ done
nested_right o d o1 f e = before_quiet o d f (nested_is_quiet o1 (is_loud f) (checks o1 f) e)

-- what the left operand runs before comes first
pub left_first : (o : Around) (d : ℕ) (at : Place) (w : Way) (a : CoreStmts) (v : CoreExpr) (b : CoreStmts) (c : CoreExpr) → join a (before_by o d at w done v b c) ≡ before_by o d at w a v b c
left_first o d at nested a v b c = join_done a
left_first o d at waiting a v b c = refl
left_first o d at checking a v b c = refl
left_first o d at both a v b c = refl
left_first o d at either a v b c = refl

-- ---- kinds that the road doesn't carry, and those that wait
pub record Other (o : Around) (d : ℕ) (at : Place) (kind : Kind) : Type 0 where
  pub before : before_kind o d at kind ≡ done
  pub value : value_kind o d kind ≡ waits o d

pub other_kind : (o : Around) (d : ℕ) (at : Place) (kind : TExprKind) → ((c : _) → kind ≡ k.Const c → ⊥) → ((x : _) → kind ≡ k.Local x → ⊥) → ((n : _) (order : _) (es : _) → kind ≡ k.Call n order es → ⊥) → ((u : _) (e : _) → kind ≡ k.Unary u e → ⊥) → ((o1 : _) (e : _) (f : _) → kind ≡ k.Binary o1 e f → ⊥) → Other o d at (expr_kind kind)
other_kind o d at (k.Const c) a b g h i = absurd (a c refl)
other_kind o d at (k.Local x) a b g h i = absurd (b x refl)
other_kind o d at (k.Call n order es) a b g h i = absurd (g n order es refl)
other_kind o d at (k.Unary u e) a b g h i = absurd (h u e refl)
other_kind o d at (k.Binary o1 e f) a b g h i = absurd (i o1 e f refl)
other_kind o d at _ a b g h i = record { before = refl; value = refl }

-- ---- arguments, from a position on
module _ (o : Around) (k : ℕ) (xs : List Expr) (i : ℕ) (x : Expr) (inside : i < length xs) (here : x ≡ get_or xs i x) where
  abbrev rest : Exprs
  rest = exprs (drop (i + 1) xs)

  are_here : exprs (drop i xs) ≡ more x rest
  are_here = ap exprs (drop_here xs i x inside here)

  -- a loud one follows
  waits_before : is_any_loud rest ≡ true → befores o k (exprs (drop i xs)) ≡ join (before o k x) (then (wait o k (value o k x)) (befores o (k + 1) rest))
  waits_before loud = ap (befores o k) are_here ∙ ap (λ (b : Bool). argument_before o k b (before o k x) (value o k x) (befores o (k + 1) rest)) loud

  waits_value : is_any_loud rest ≡ true → values o k (exprs (drop i xs)) ≡ another (waits o k) (values o (k + 1) rest)
  waits_value loud = ap (values o k) are_here ∙ ap (λ (b : Bool). argument_values o k b (value o k x) (values o (k + 1) rest) (values o k rest)) loud

  last_before : is_any_loud rest ≡ false → befores o k (exprs (drop i xs)) ≡ before o k x
  last_before quiet = ap (befores o k) are_here ∙ ap (λ (b : Bool). argument_before o k b (before o k x) (value o k x) (befores o (k + 1) rest)) quiet

  last_value : is_any_loud rest ≡ false → values o k (exprs (drop i xs)) ≡ another (value o k x) (values o k rest)
  last_value quiet = ap (values o k) are_here ∙ ap (λ (b : Bool). argument_values o k b (value o k x) (values o (k + 1) rest) (values o k rest)) quiet

  pub waiting_code : (before_it with_it after_it : List CoreStmt) (v : Rust) (k' : ℕ) (all : CoreStmts) → is_any_loud rest ≡ true → core_stmts with_it ≡ join (core_stmts before_it) (before o k x) → core_expr v ≡ value o k x → core_stmts after_it ≡ join (core_stmts with_it) (one (wait o k (core_expr v))) → k' ≡ k + 1 →
      join (core_stmts before_it) (befores o k (exprs (drop i xs))) ≡ all → join (core_stmts after_it) (befores o k' rest) ≡ all
  waiting_code before_it with_it after_it v k' all loud e f g next told =
      ap (λ (d : ℕ). join (core_stmts after_it) (befores o d rest)) next
      ∙ ap (λ (a : CoreStmts). join a (befores o (k + 1) rest)) (parts before_it with_it after_it (before o k x) (one (wait o k (value o k x))) e (g ∙ ap (λ (y : CoreExpr). join (core_stmts with_it) (one (wait o k y))) f))
      ∙ join_assoc (core_stmts before_it) (join (before o k x) (one (wait o k (value o k x)))) (befores o (k + 1) rest)
      ∙ ap (join (core_stmts before_it)) (join_assoc (before o k x) (one (wait o k (value o k x))) (befores o (k + 1) rest) ∙ sym (waits_before loud))
      ∙ told

  pub waiting_values : (before_it after_it : List Rust) (v : Rust) (k' : ℕ) (all : CoreExprs) → is_any_loud rest ≡ true → after_it ≡ before_it ++ v ∷ [] → core_expr v ≡ waits o k → k' ≡ k + 1 →
      behind (core_exprs before_it) (values o k (exprs (drop i xs))) ≡ all → behind (core_exprs after_it) (values o k' rest) ≡ all
  waiting_values before_it after_it v k' all loud e f next told =
      ap (λ (d : ℕ). behind (core_exprs after_it) (values o d rest)) next
      ∙ ap (λ (ys : List Rust). behind (core_exprs ys) (values o (k + 1) rest)) e ∙ one_behind before_it v (values o (k + 1) rest)
      ∙ ap (λ (y : CoreExpr). behind (core_exprs before_it) (another y (values o (k + 1) rest))) f
      ∙ ap (behind (core_exprs before_it)) (sym (waits_value loud)) ∙ told

  pub last_code : (before_it after_it : List CoreStmt) (k' : ℕ) (all : CoreStmts) → is_any_loud rest ≡ false → core_stmts after_it ≡ join (core_stmts before_it) (before o k x) →
      join (core_stmts before_it) (befores o k (exprs (drop i xs))) ≡ all → join (core_stmts after_it) (befores o k' rest) ≡ all
  last_code before_it after_it k' all quiet e told =
      ap (join (core_stmts after_it)) (befores_quiet o k' rest quiet) ∙ join_done (core_stmts after_it) ∙ e ∙ ap (join (core_stmts before_it)) (sym (last_before quiet)) ∙ told

  pub last_values : (before_it after_it : List Rust) (v : Rust) (k' : ℕ) (all : CoreExprs) → is_any_loud rest ≡ false → after_it ≡ before_it ++ v ∷ [] → core_expr v ≡ value o k x → k' ≡ k →
      behind (core_exprs before_it) (values o k (exprs (drop i xs))) ≡ all → behind (core_exprs after_it) (values o k' rest) ≡ all
  last_values before_it after_it v k' all quiet e f same told =
      ap (λ (d : ℕ). behind (core_exprs after_it) (values o d rest)) same
      ∙ ap (λ (ys : List Rust). behind (core_exprs ys) (values o k rest)) e ∙ one_behind before_it v (values o k rest)
      ∙ ap (λ (y : CoreExpr). behind (core_exprs before_it) (another y (values o k rest))) f
      ∙ ap (behind (core_exprs before_it)) (sym (last_value quiet)) ∙ told

  -- all wait
  pub all_waiting_code : (before_it with_it after_it : List CoreStmt) (v : Rust) (k' : ℕ) (all : CoreStmts) → core_stmts with_it ≡ join (core_stmts before_it) (before o k x) → core_expr v ≡ value o k x → core_stmts after_it ≡ join (core_stmts with_it) (one (wait o k (core_expr v))) → k' ≡ k + 1 →
      join (core_stmts before_it) (waits_all o k (exprs (drop i xs))) ≡ all → join (core_stmts after_it) (waits_all o k' rest) ≡ all
  all_waiting_code before_it with_it after_it v k' all e f g next told =
      ap (λ (d : ℕ). join (core_stmts after_it) (waits_all o d rest)) next
      ∙ ap (λ (a : CoreStmts). join a (waits_all o (k + 1) rest)) (parts before_it with_it after_it (before o k x) (one (wait o k (value o k x))) e (g ∙ ap (λ (y : CoreExpr). join (core_stmts with_it) (one (wait o k y))) f))
      ∙ join_assoc (core_stmts before_it) (join (before o k x) (one (wait o k (value o k x)))) (waits_all o (k + 1) rest)
      ∙ ap (join (core_stmts before_it)) (join_assoc (before o k x) (one (wait o k (value o k x))) (waits_all o (k + 1) rest) ∙ sym (ap (waits_all o k) are_here))
      ∙ told

-- ---- nothing is left at the end
pub befores_end : (o : Around) (k : ℕ) (xs : List Expr) (n : ℕ) (code : List CoreStmt) (all : CoreStmts) → drop n xs ≡ [] → join (core_stmts code) (befores o k (exprs (drop n xs))) ≡ all → core_stmts code ≡ all
befores_end o k xs n code all e told = sym (ap (λ (ys : List Expr). join (core_stmts code) (befores o k (exprs ys))) e ∙ join_done (core_stmts code)) ∙ told

pub values_end : (o : Around) (k : ℕ) (xs : List Expr) (n : ℕ) (vs : List Rust) (all : CoreExprs) → drop n xs ≡ [] → behind (core_exprs vs) (values o k (exprs (drop n xs))) ≡ all → core_exprs vs ≡ all
values_end o k xs n vs all e told = sym (ap (λ (ys : List Expr). behind (core_exprs vs) (values o k (exprs ys))) e ∙ behind_none (core_exprs vs)) ∙ told

pub waits_end : (o : Around) (k : ℕ) (xs : List Expr) (n : ℕ) (code : List CoreStmt) (all : CoreStmts) → drop n xs ≡ [] → join (core_stmts code) (waits_all o k (exprs (drop n xs))) ≡ all → core_stmts code ≡ all
waits_end o k xs n code all e told = sym (ap (λ (ys : List Expr). join (core_stmts code) (waits_all o k (exprs ys))) e ∙ join_done (core_stmts code)) ∙ told
