-- The statements of a well activation stray nowhere.
use Rattle.std.proofs.Common.{◌≡◌, ℕ, zero, suc, ◌+◌, ◌<◌, Bool, true, false, List, [], ◌∷◌, length, arith, ap, ◌∙◌, sym, subst, refl}
use Rattle.std.specs.Prelude.{◌==◌, ◌&&◌, ◌||◌, Option, Some, None, slice_get}
use Rattle.std.proofs.lemmas.Bool.Decides.{nat_tests}
use Rattle.odc_text.specs.declared.place.Place.{Place}
use Rattle.odc_program.specs.States.Bytes.{Value, zeros}
use Rattle.odc_program.specs.States.Run.{then_by, pure, ◌>>=◌, ◌>>>◌}
use Rattle.odc_program.specs.States.State.{State, Do, shape_of, Spot, Env, Context, Calls, local_in, begin_local}
use Rattle.odc_program.specs.Kinds.Expressions.{values_of, truth_of}
use Rattle.odc_program.specs.Runs.Statements.{Left, Part, falls, returns, left_by, scoped, stepped, ticked, run_declare, run_assign, run_return, begin_each, store_each, results_from, choose, turns, seen}
use Rattle.odc_program.specs.Runs.Source.{rights_of, places_of, condition_of, exec, form_of, maybe, execs, later}
use Rattle.odc_program.specs.Trees.Tree.{Expr, expr, local, none, more, Maybe, absent, present, Lefts, no_lefts, left_, nothing, each, Stmt, stmt, Form, declare, assign, eval, block, if_, loop, return, defer, MaybeStmt, no_stmt, some_stmt, Stmts, finish, follow, ty}
use Rattle.odc_program.specs.Trees.Program.{Local, Head, Tables}
use Rattle.odc_program.specs.Typing.WellTypes.{has, is_there, is_truth}
use Rattle.odc_program.specs.Typing.Well as well
use Rattle.odc_program.specs.Typing.Well.{Ways, breaking, looping, is_new, begins_names, names_declared, behind, behind_maybe, has_path, declares, well_rights, well_left, well_lefts, well_expr, well_exprs, rights_types, can_change, well_condition, is_simple, well_stmt, well_form, well_maybe, well_stmts}
use Rattle.odc_carried.specs.Carried.{type_in, is_int, is_int_local, names_int, refused_int, refused_ints, refused_truth, refused_condition, refused_stmt, refused_form, refused_maybe, refused_stmts, and_then}
use Rattle.odc_carried.proofs.Quiet.{IntType, int_type, and_true}
use Rattle.odc_carried.proofs.Evals.{passed, passed_both}
use Rattle.odc_carried.proofs.Ties.{local_found}
use Rattle.odc_carried.proofs.steady.Outcomes.{IsWord, AreWords, Onward, onward_as, Steady, steady_from, steady_then}
use Rattle.odc_carried.proofs.steady.Actions.{Activation, env, Ready, ready_on, plain_zeros, Safe, Any, safe_then, safe_pure, safe_tick, safe_write, begin_word}
use Rattle.odc_carried.proofs.steady.Exprs.{CallsSafe, kind_well, ints_safe, eval_safe, test_safe}
use Rattle.odc_carried.proofs.steady.Parts.{Sure, Goes, goes_sure, sure_goes, sure_left, sure_scoped, sure_block, sure_stepped, sure_headed, sure_choose, sure_turns}

length_zeros : (n : ℕ) → length (zeros n) ≡ n
length_zeros zero = refl
length_zeros (suc n) = ap suc (length_zeros n)

pub zeros_word : (n : ℕ) → n ≡ 8 → IsWord (zeros n)
zeros_word n e = record { long = length_zeros n ∙ e; plain = plain_zeros n }

-- a variable that is named as an integer
pub named_int : (tables : Tables) (p : Head) (x : ℕ) → names_int tables p x ≡ true → IntType tables (local_in p x).ty
named_int tables p x e = by (slice_get p.locals x) refl e
  where
    by : (l : Option Local) → slice_get p.locals x ≡ l → is_int_local tables l ≡ true → IntType tables (local_in p x).ty
    by None found e = absurd (cc)
    by (Some l) found e = let P : Local → Type 0 = λ k. IntType tables k.ty in subst P (sym (local_found p.locals x l (record { ty = 0; place = 0 }) found)) (int_type tables l.ty e)

one_refused : (tables : Tables) (p : Head) (e : Expr) → refused_int tables p e ≡ None → refused_ints tables p (more e none) ≡ None
one_refused tables p e r = ap (λ (o : Option Place). and_then o None) r

-- what has begun stays begun
names_keep : (xs : List (Option ℕ)) (w : Ways) (x : ℕ) → has x w.begun ≡ true → has x (begins_names xs w).begun ≡ true
names_keep [] w x h = h
names_keep (None ∷ xs) w x h = names_keep xs w x h
names_keep (Some y ∷ xs) w x h = names_keep xs (record w { begun = y ∷ w.begun }) x (either_true (x == y) h)
  where
    either_true : (q : Bool) → has x w.begun ≡ true → (q || has x w.begun) ≡ true
    either_true true h = refl
    either_true false h = h

pub behind_keeps : (s : Stmt) (w : Ways) (x : ℕ) → has x w.begun ≡ true → has x (behind s w).begun ≡ true
behind_keeps (stmt at (assign lefts values)) w x h = h
behind_keeps (stmt at (declare xs values)) w x h = names_keep xs w x h
behind_keeps (stmt at (defer s)) w x h = names_keep (names_declared s) w x h
behind_keeps (stmt at _) w x h = h

not_later : (tables : Tables) (p : Head) (n : ℕ) (calls : Calls) (e : Env) (s : Stmt) → refused_stmt tables p s ≡ None → later n calls e s ≡ None
not_later tables p n calls e (stmt at (defer s)) r = absurd (cc)
not_later tables p n calls e (stmt at _) r = refl

module _ (a : Activation) (calls : Calls) (follows : CallsSafe a.tables calls) (E : Env) (n : ℕ) (c0 : Context) where
  -- the parameters and results have begun
  abbrev pub HasAll : Ways → Type 0
  HasAll w = (x : ℕ) → x < a.proc.parameters + a.proc.results → has x w.begun ≡ true

  -- ---- declarations
  begin_part : (xs : List ℕ) (x : ℕ) (v : Value) (c : Context) → IsWord v → (s : State) → Ready a xs s → Steady (λ (l : Left) t. Ready a (x ∷ xs) t) s (then_by (then_by (begin_local (env a c0) x v s) (λ _. begin_each (env a c0) [] [])) (λ _. left_by falls c))
  begin_part xs x v c word s r =
      let R : State → Type 0 = λ t. Ready a (x ∷ xs) t in
      let same : (t : State) → R t → Onward t t = λ t now. record { plain = now.plain; serial = omega arith; live = λ f k at y less e. e } in
      steady_then (λ (u : Unit {0}) t. R t) (λ (l : Left) t. R t) s (then_by (begin_local (env a c0) x v s) (λ _. begin_each (env a c0) [] [])) (λ _. left_by falls c)
      (steady_then (λ (u : Unit {0}) t. R t) (λ (u : Unit {0}) t. R t) s (begin_local (env a c0) x v s) (λ _. begin_each (env a c0) [] []) (begin_word a xs c0 x v word s r) (λ u t on now. record { by = (same t now, now) }))
      (λ u t on now. record { by = (same t now, now) })

  declare_zero : (xs : List ℕ) (x : ℕ) → names_int a.tables a.proc x ≡ true → Goes a xs (x ∷ xs) (λ c. run_declare (env a c0) (Some x ∷ []) (rights_of calls (env a c) nothing) c)
  declare_zero xs x names = record { by = λ c s r. begin_part xs x (zeros (type_in a.tables (local_in a.proc x).ty).size) c (zeros_word (type_in a.tables (local_in a.proc x).ty).size (named_int a.tables a.proc x names).size) s r }

  declare_value : (w : Ways) (x : ℕ) (e : Expr) → refused_int a.tables a.proc e ≡ None → well_exprs w E (more e none) ≡ true → Goes a w.begun (x ∷ w.begun) (λ c. run_declare (env a c0) (Some x ∷ []) (rights_of calls (env a c) (each (more e none))) c)
  declare_value w x e r h = record {
    by = λ c s ready.
        steady_then (λ vs t. AreWords vs × (length vs ≡ 1)) (λ (l : Left) t. Ready a (x ∷ w.begun) t) s (values_of calls (env a c) (more e none) s) (λ vs. begin_each (env a c0) (Some x ∷ []) vs >>> left_by falls c)
        ((ints_safe a calls follows c w E (more e none) (one_refused a.tables a.proc e r) h).by s ready) (λ vs t on k. one c vs t (ready_on a w.begun s t ready on) k.0 k.1);
  }
    where
      one : (c : Context) (vs : List Value) (t : State) → Ready a w.begun t → AreWords vs → length vs ≡ 1 → Steady (λ (l : Left) u. Ready a (x ∷ w.begun) u) t ((begin_each (env a c0) (Some x ∷ []) vs >>> left_by falls c) t)
      one c [] t ready words long = absurd (omega arith)
      one c (v ∷ []) t ready words long = begin_part w.begun x v c words.0 t ready
      one c (v ∷ u ∷ vs) t ready words long = absurd (omega arith)

  -- ---- assignments
  assign_value : (w : Ways) (at : Place) (x t : ℕ) (at' : Place) (e : Expr) → has x w.begun ≡ true → refused_int a.tables a.proc e ≡ None → well_exprs w E (more e none) ≡ true →
      Sure a w.begun (λ c. run_assign at (env a c0) (rights_of calls (env a c) (each (more e none))) (places_of calls (env a c) (left_ (expr t at' (local x)) no_lefts)) c)
  assign_value w at x t at' e begun r h c =
      let places : Do (List (Option Spot)) = places_of calls (env a c) (left_ (expr t at' (local x)) no_lefts) in
      safe_then a w.begun (Any a w.begun) (λ vs. places >>= (λ ss. store_each at (env a c0) ss vs c >>= left_by falls)) (ints_safe a calls follows c w E (more e none) (one_refused a.tables a.proc e r) h) (λ vs k. one vs k.0 k.1)
    where
      stored : (v : Value) → IsWord v → Safe a w.begun (Any a w.begun) (store_each at (env a c0) (Some ((env a c).storage x) ∷ []) (v ∷ []) c >>= left_by falls)
      stored v word =
          let any : Context → Type 0 = Any a w.begun in
          safe_then a w.begun (Any a w.begun) (left_by falls)
          (safe_then a w.begun any (store_each at (env a c0) [] []) (safe_then a w.begun any (λ _. pure c) (safe_write a w.begun at x v begun word) (λ _ _. safe_pure a w.begun any c tt)) (λ d _. safe_pure a w.begun any d tt))
          (λ d _. sure_left a w.begun falls d)

      one : (vs : List Value) → AreWords vs → length vs ≡ 1 → Safe a w.begun (Any a w.begun) (places_of calls (env a c) (left_ (expr t at' (local x)) no_lefts) >>= (λ ss. store_each at (env a c0) ss vs c >>= left_by falls))
      one [] words long = absurd (omega arith)
      one (v ∷ []) words long = safe_tick a w.begun (store_each at (env a c0) (Some ((env a c).storage x) ∷ []) (v ∷ []) c >>= left_by falls) (stored v words.0)
      one (v ∷ u ∷ vs) words long = absurd (omega arith)

  -- ---- returns
  return_nothing : (xs : List ℕ) (at : Place) → Sure a xs (λ c. run_return at (env a c0) (rights_of calls (env a c) nothing) c)
  return_nothing xs at c = sure_left a xs returns c

  return_value : (w : Ways) (at : Place) (e : Expr) → has a.proc.parameters w.begun ≡ true → refused_int a.tables a.proc e ≡ None → well_exprs w E (more e none) ≡ true →
      Sure a w.begun (λ c. run_return at (env a c0) (rights_of calls (env a c) (each (more e none))) c)
  return_value w at e begun r h c =
      safe_then a w.begun (Any a w.begun) (λ vs. results_from at (env a c0) a.proc.parameters vs >>> left_by returns c) (ints_safe a calls follows c w E (more e none) (one_refused a.tables a.proc e r) h) (λ vs k. one vs k.0 k.1)
    where
      one : (vs : List Value) → AreWords vs → length vs ≡ 1 → Safe a w.begun (Any a w.begun) (results_from at (env a c0) a.proc.parameters vs >>> left_by returns c)
      one [] words long = absurd (omega arith)
      one (v ∷ []) words long =
          let none : Context = None in
          safe_then a w.begun (Any a w.begun) (λ _. left_by returns c)
          (safe_then a w.begun (Any a w.begun) (λ _. results_from at (env a c0) (a.proc.parameters + 1) [])
          (safe_then a w.begun (Any a w.begun) (λ c. pure tt) (safe_then a w.begun (Any a w.begun) (λ _. pure none) (safe_write a w.begun at a.proc.parameters v begun words.0) (λ _ _. safe_pure a w.begun (Any a w.begun) none tt)) (λ _ _. safe_pure a w.begun (Any a w.begun) tt tt))
          (λ _ _. safe_pure a w.begun (Any a w.begun) tt tt))
          (λ _ _. sure_left a w.begun returns c)
      one (v ∷ u ∷ vs) words long = absurd (omega arith)

  condition_safe : (w : Ways) (e : Maybe) (c : Context) → refused_condition a.tables a.proc e ≡ None → well_condition w E e ≡ true → Safe a w.begun (Any a w.begun) (condition_of calls (env a c) e)
  condition_safe w absent c r h = safe_pure a w.begun (Any a w.begun) true tt
  condition_safe w (present e) c r h = test_safe a calls follows c w E e r (and_true (is_truth (shape_of E (ty e))) (well_expr w E e) h).1

  left_begun : (w : Ways) (t : ℕ) (at : Place) (x u : ℕ) → well_lefts w E (left_ (expr t at (local x)) no_lefts) (u ∷ []) ≡ true → has x w.begun ≡ true
  left_begun w t at x u h =
      let e : Expr = expr t at (local x) in
      let p = and_true (can_change w E e) (well_expr w E e) (and_true (can_change w E e && well_expr w E e) true (and_true (t == u) ((can_change w E e && well_expr w E e) && true) h).1).0 in
      (and_true (is_there (slice_get E.proc.locals x) (λ l. l.ty == t)) (has x w.begun) (kind_well a calls follows c0 w E t at (local x) p.1)).1

  maybe_keeps : (x : MaybeStmt) (w : Ways) → HasAll w → HasAll (behind_maybe x w)
  maybe_keeps no_stmt w all = all
  maybe_keeps (some_stmt s) w all = λ y less. behind_keeps s w y (all y less)

  ticked_goes : (xs ys : List ℕ) (m : Part) → Goes a xs ys m → Goes a xs ys (ticked m)
  ticked_goes xs ys m p = record { by = λ c s r. let t : State = record s { cost = s.cost + 1 } in let on : Onward s t = onward_as s t r.plain refl refl in steady_from (λ l u. Ready a ys u) s t (m c t) on (p.by c t (ready_on a xs s t r on)) }

  not_deferred : (xs : List ℕ) (s : Stmt) (rest : Part) → refused_stmt a.tables a.proc s ≡ None → Sure a xs (stepped None (exec n calls (env a c0) s) rest) → Sure a xs (stepped (later n calls (env a c0) s) (exec n calls (env a c0) s) rest)
  not_deferred xs s rest r p = let P : Option Part → Type 0 = λ o. Sure a xs (stepped o (exec n calls (env a c0) s) rest) in subst P (sym (not_later a.tables a.proc n calls (env a c0) s r)) p

  -- ---- statements
  mutual
    pub exec_goes : (w : Ways) (x : Stmt) → HasAll w → refused_stmt a.tables a.proc x ≡ None → well_stmt w E x ≡ true → Goes a w.begun (behind x w).begun (exec n calls (env a c0) x)
    exec_goes w (stmt at k) all r h = ticked_goes w.begun (behind (stmt at k) w).begun (form_of n calls (env a c0) at k) (form_goes w at k all r (and_true (has_path E at) (well_form w E k) h).1)

    form_goes : (w : Ways) (at : Place) (k : Form) → HasAll w → refused_form a.tables a.proc at k ≡ None → well_form w E k ≡ true → Goes a w.begun (behind (stmt at k) w).begun (form_of n calls (env a c0) at k)
    form_goes w at (declare (Some x ∷ []) nothing) all r h = declare_zero w.begun x (passed (names_int a.tables a.proc x) at None r).0
    form_goes w at (declare (Some x ∷ []) (each (more e none))) all r h =
        let p = passed (names_int a.tables a.proc x) at (refused_int a.tables a.proc e) r in
        declare_value w x e p.1 (and_true (declares E (Some x ∷ []) (each (more e none))) (well_exprs w E (more e none)) h).1
    form_goes w at (assign (left_ (expr t at' (local x)) no_lefts) (each (more e none))) all r h =
        let p = passed (is_int a.tables t && names_int a.tables a.proc x) at (refused_int a.tables a.proc e) r in
        let lefts : Lefts = left_ (expr t at' (local x)) no_lefts in
        let q = and_true (well_lefts w E lefts (ty e ∷ [])) (well_exprs w E (more e none)) h in
        goes_sure a w.begun (form_of n calls (env a c0) at (assign lefts (each (more e none)))) (assign_value w at x t at' e (left_begun w t at' x (ty e) q.0) p.1 q.1)
    form_goes w at (eval e) all r h = goes_sure a w.begun (form_of n calls (env a c0) at (eval e)) (λ c. safe_then a w.begun (Any a w.begun) (λ v. left_by falls c) (eval_safe a calls follows c w E e r h) (λ v _. sure_left a w.begun falls c))
    form_goes w at (block l body) all r h =
        goes_sure a w.begun (form_of n calls (env a c0) at (block l body)) (sure_block a w.begun l (execs n calls (env a c0) body) (stmts_sure (breaking l w) body all r (and_true (is_new l w) (well_stmts (breaking l w) E body) h).1))
    form_goes w at (if_ init e body other) all r h =
        let v : Ways = behind_maybe init w in
        let rest : Bool = well_stmts v E body && well_stmts v E other in
        let p = passed_both (refused_maybe a.tables a.proc init) (and_then (refused_truth a.tables a.proc e) (and_then (refused_stmts a.tables a.proc body) (refused_stmts a.tables a.proc other))) r in
        let q = passed_both (refused_truth a.tables a.proc e) (and_then (refused_stmts a.tables a.proc body) (refused_stmts a.tables a.proc other)) p.1 in
        let both = passed_both (refused_stmts a.tables a.proc body) (refused_stmts a.tables a.proc other) q.1 in
        let x = and_true (well_maybe w E init) (is_truth (shape_of E (ty e)) && (well_expr v E e && rest)) h in
        let y = and_true (well_expr v E e) rest (and_true (is_truth (shape_of E (ty e))) (well_expr v E e && rest) x.1).1 in
        let z = and_true (well_stmts v E body) (well_stmts v E other) y.1 in
        let again : HasAll v = maybe_keeps init w all in
        let test : Context → Do Bool = seen (env a c0) (λ env. truth_of calls env e) in
        goes_sure a w.begun (form_of n calls (env a c0) at (if_ init e body other))
        (sure_headed a w.begun v.begun (maybe n calls (env a c0) init) (choose test (scoped (execs n calls (env a c0) body)) (scoped (execs n calls (env a c0) other))) (maybe_goes w init all p.0 x.0)
        (sure_choose a v.begun test (scoped (execs n calls (env a c0) body)) (scoped (execs n calls (env a c0) other)) (λ c. test_safe a calls follows c v E e q.0 y.0)
        (sure_scoped a v.begun (execs n calls (env a c0) body) (stmts_sure v body again both.0 z.0)) (sure_scoped a v.begun (execs n calls (env a c0) other) (stmts_sure v other again both.1 z.1))))
    form_goes w at (loop l init e post body) all r h =
        let v : Ways = behind_maybe init w in
        let p = passed_both (refused_maybe a.tables a.proc init) (and_then (refused_condition a.tables a.proc e) (and_then (refused_maybe a.tables a.proc post) (refused_stmts a.tables a.proc body))) r in
        let q = passed_both (refused_condition a.tables a.proc e) (and_then (refused_maybe a.tables a.proc post) (refused_stmts a.tables a.proc body)) p.1 in
        let both = passed_both (refused_maybe a.tables a.proc post) (refused_stmts a.tables a.proc body) q.1 in
        let rest : Bool = well_maybe v E post && well_stmts (looping l v) E body in
        let x = and_true (well_maybe w E init) (well_condition v E e && rest) (and_true (is_new l w) (well_maybe w E init && (well_condition v E e && rest)) h).1 in
        let y = and_true (well_condition v E e) rest x.1 in
        let z = and_true (well_maybe v E post) (well_stmts (looping l v) E body) y.1 in
        let again : HasAll v = maybe_keeps init w all in
        let test : Context → Do Bool = seen (env a c0) (λ env. condition_of calls env e) in
        goes_sure a w.begun (form_of n calls (env a c0) at (loop l init e post body))
        (sure_headed a w.begun v.begun (maybe n calls (env a c0) init) (turns n l test (scoped (execs n calls (env a c0) body)) (maybe n calls (env a c0) post)) (maybe_goes w init all p.0 x.0)
        (sure_turns a v.begun n l test (scoped (execs n calls (env a c0) body)) (maybe n calls (env a c0) post) (λ c. condition_safe v e c q.0 y.0)
        (sure_scoped a v.begun (execs n calls (env a c0) body) (stmts_sure (looping l v) body again both.1 z.1))
        (sure_goes a v.begun (behind_maybe post v).begun (maybe n calls (env a c0) post) (maybe_goes v post again both.0 z.0))))
    form_goes w at (return nothing) all r h = goes_sure a w.begun (form_of n calls (env a c0) at (return nothing)) (return_nothing w.begun at)
    form_goes w at (return (each (more e none))) all r h =
        let p = passed (a.proc.results == 1) at (refused_int a.tables a.proc e) r in
        let test : (a.proc.results == 1) ≡ true = p.0 in
        let x = and_true (well.returns E (each (more e none))) (well_exprs w E (more e none)) (and_true w.returns (well.returns E (each (more e none)) && well_exprs w E (more e none)) h).1 in
        goes_sure a w.begun (form_of n calls (env a c0) at (return (each (more e none)))) (return_value w at e (all a.proc.parameters (let single : a.proc.results ≡ 1 = grind (arith, nat_tests) in omega arith)) p.1 x.1)
    form_goes w at k all r h = absurd (cc)

    maybe_goes : (w : Ways) (x : MaybeStmt) → HasAll w → refused_maybe a.tables a.proc x ≡ None → well_maybe w E x ≡ true → Goes a w.begun (behind_maybe x w).begun (maybe n calls (env a c0) x)
    maybe_goes w no_stmt all r h = goes_sure a w.begun (left_by falls) (sure_left a w.begun falls)
    maybe_goes w (some_stmt s) all r h = exec_goes w s all r (and_true (is_simple s) (well_stmt w E s) h).1

    pub stmts_sure : (w : Ways) (xs : Stmts) → HasAll w → refused_stmts a.tables a.proc xs ≡ None → well_stmts w E xs ≡ true → Sure a w.begun (execs n calls (env a c0) xs)
    stmts_sure w finish all r h = sure_left a w.begun falls
    stmts_sure w (follow s xs) all r h =
        let both = passed_both (refused_stmt a.tables a.proc s) (refused_stmts a.tables a.proc xs) r in
        let x = and_true (well_stmt w E s) (well_stmts (behind s w) E xs) h in
        not_deferred w.begun s (execs n calls (env a c0) xs) both.0
        (sure_stepped a w.begun (behind s w).begun (exec n calls (env a c0) s) (execs n calls (env a c0) xs) (exec_goes w s all both.0 x.0) (stmts_sure (behind s w) xs (λ y less. behind_keeps s w y (all y less)) both.1 x.1))
