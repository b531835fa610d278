-- The code of statements does what the source does with them.
use Rattle.std.proofs.Common.{◌≡◌, ℕ, ◌+◌, ◌-◌, ◌*◌, ◌≤◌, inr, Bool, true, false, List, [], ◌∷◌, arith, ap, ◌∙◌, subst, refl, lit≤}
use Rattle.std.specs.Prelude.{Option, Some, None, ◌==◌, ◌&&◌, ◌||◌, max, slice_get}
use Rattle.std.proofs.lemmas.Bool.Decides.{nat_tests}
use Rattle.odc_text.specs.declared.place.Place.{Place}
use Rattle.odc_program.specs.declared.ops.Builtin.TheVariants as b
use Rattle.odc_program.specs.States.Bytes.{Value}
use Rattle.odc_program.specs.States.Run.{Res, ok, then_by, pure}
use Rattle.odc_program.specs.States.State.{State, Leave, Do, Calls, Context, Base, is}
use Rattle.odc_program.specs.Kinds.Places.{value_in, as_read}
use Rattle.odc_program.specs.Kinds.Calling.{handed}
use Rattle.odc_program.specs.Kinds.Expressions.{value_of, values_of, truth_of}
use Rattle.odc_program.specs.Runs.Statements.{Left, left_by, Part, run_eval, stepped, caught, scoped, choose, seen}
use Rattle.odc_program.specs.Runs.Statements.{falls as left_falls, returns}
use Rattle.odc_program.specs.Runs.Statements.{turns as source_turns}
use Rattle.odc_program.specs.Runs.Source.{exec, form_of, execs, maybe, later_form, condition_of}
use Rattle.odc_program.specs.Trees.Tree.{Expr, expr, call, builtin, local, Exprs, none, more, Maybe, absent, present, no_lefts, left_, nothing, each, Stmt, stmt, Form, declare, assign, eval, block, if_, loop, return, MaybeStmt, no_stmt, some_stmt, Stmts, finish, follow, at_of, defer}
use Rattle.odc_program.specs.Trees.Program.{Shape, several}
use Rattle.odc_core.specs.Tree.{Stmts as CoreStmts, finish as done, follow as next, repeat, choose as branch, answer as answered}
use Rattle.odc_core.specs.Run.{Flow, falls, turns, pure as core_pure, spend}
use Rattle.odc_carried.specs.Carried.{type_in, is_int, is_nothing, is_empty_shape, names_int, refused_int, refused_ints, refused_truth, refused_eval, refused_condition, refused_stmt, refused_form, refused_maybe, refused_stmts, and_then, can_call, needed, count, takes}
use Rattle.odc_carried.specs.Code.{join, one, before, before_kind, befores, value, depths, values, waits_all, line_code, put_code, result_code, eval_code, eval_depth, condition_before, condition_value, turn_code, stmt_code, form_code, maybe_code, stmts_code, stmt_depth, form_depth, maybe_depth, stmts_depth, condition_depth}
use Rattle.odc_carried.specs.Tied.{Site, o, env}
use Rattle.odc_carried.proofs.Runs.{Face, runs_pure, runs_spend}
use Rattle.odc_carried.proofs.Sims.{rate, Sim, sim_runs, sim_act, sim_behind, sim_later, sim_richer, sim_result, sim_weaker}
use Rattle.odc_carried.proofs.Values.{Val}
use Rattle.odc_carried.proofs.Ties.{Facts}
use Rattle.odc_carried.proofs.Frame.{ex}
use Rattle.odc_carried.proofs.Quiet.{costing, int_type, and_true}
use Rattle.odc_carried.proofs.Evals.{passed, passed_both, assoc3, int_read}
use Rattle.odc_carried.proofs.Codes.{Ready, ready_cost}
use Rattle.odc_carried.proofs.Arguments.{CallsFollow, call_step}
use Rattle.odc_carried.proofs.Exprs.{then_same, code_int, code_ints, code_truth}
use Rattle.odc_carried.proofs.Stmts.{int_local, Results, Done}
use Rattle.odc_carried.proofs.Simple.{declare_sim, zero_sim, assign_sim, answer_sim, return_sim}
use Rattle.odc_carried.proofs.Lists.{one_sim, done_on, join_sim, caught_sim, scoped_sim, labelled_sim, headed_sim, choice_sim}
use Rattle.odc_carried.proofs.Turns.{rest_of}
use Rattle.odc_carried.proofs.Loops.{Above, Cond, cond_absent, cond_present, loop_sim}

module _ (S : Site) (F : Facts S) (calls : Calls) (follows : CallsFollow S F (λ f vs c low. calls.call f (pure tt) vs c low)) (results : Results S F) (c0 : Context)
    (prints : (c : Context) (t : ℕ) (at : Place) (es : Exprs) → is_nothing S.tables t ≡ true → refused_ints S.tables S.proc es ≡ None → depths es ≤ (o S).waiting → (j : ℕ) (s : State) (h : Face) → Ready S F s h →
    Sim S.entries (Done S F h) j 0 0 (ex S (join (waits_all (o S) 0 es) (line_code (o S) 0 (count es)))) s h (run_eval (value_of calls (env S c) (expr t at (builtin b.Println [] es))) c s)) where
  join_done : (a : CoreStmts) → join a done ≡ a
  join_done done = refl
  join_done (next x a) = ap (next x) (join_done a)

  unjoin : {A : Type 0} (Q : A → State → Flow → Face → Type 0) (j b g : ℕ) (a : CoreStmts) (s : State) (h : Face) (r : Res Leave State A) → Sim S.entries Q j b g (ex S (join a done)) s h r → Sim S.entries Q j b g (ex S a) s h r
  unjoin Q j b g a s h r x = let P : CoreStmts → Type 0 = λ y. Sim S.entries Q j b g (ex S y) s h r in subst P (join_done a) x

  none_sim : (j : ℕ) (c : Context) (s : State) (h : Face) → Ready S F s h → Sim S.entries (Done S F h) j 0 0 (ex S done) s h (left_by left_falls c s)
  none_sim j c s h ready = sim_runs S.entries (Done S F h) j 0 0 (ex S done) s h h (record { flow = left_falls; context = c }) 0 0 falls (runs_pure j falls h) ready.told ready.told (lit≤ tt) (record { left = tt; ready = ready; above = λ i far. refl })

  -- told from an earlier face
  moved : (h0 h : Face) (j : ℕ) (a : CoreStmts) (t : State) (r : Res Leave State Left) → Above S F h0 h → Sim S.entries (Done S F h) j 0 0 (ex S a) t h r → Sim S.entries (Done S F h0) j 0 0 (ex S a) t h r
  moved h0 h j a t r above x = sim_weaker S.entries (Done S F h) (Done S F h0) j 0 0 (ex S a) t h r (λ v u flow h' d. done_on S F h0 h v u flow h' above d) x

  -- ---- a call by itself
  call_alone : (c : Context) (t : ℕ) (at : Place) (need results' : ℕ) (es : Exprs) (reads : (v : Value) (w : ℕ) (u : State) → (results' ≡ 1 → Val S.entries 8 v w) → (results' ≡ 0 → v ≡ []) → value_in (env S c) at t (is v) u ≡ ok v u) →
      takes (count es) results' (slice_get S.tables.procedures (needed S.proc need)) ≡ true → refused_ints S.tables S.proc es ≡ None → max 1 (depths es) ≤ (o S).waiting → (j : ℕ) (s : State) (h : Face) → Ready S F s h →
      Sim S.entries (Done S F h) j 0 0 (ex S (before_kind (o S) 0 at (call need [] es))) s h (run_eval (value_of calls (env S c) (expr t at (call need [] es))) c s)
  call_alone c t at need results' es reads found r fit j s h ready =
      let s1 : State = costing s (s.cost + 1) in
      let proc : ℕ = needed S.proc need in
      let ctx : Context = handed (env S c) proc in
      let m2 : Do (List Value) = values_of calls (env S c) es in
      let G : Value → Do Base = λ v. pure (is v) in
      let H : Base → Do Value = value_in (env S c) at t in
      let f : Value → Do Left = λ v. left_by left_falls c in
      let K : Value → Do Left = λ v. (λ u. then_by (H (is v) u) f) in
      let code : CoreStmts = before_kind (o S) 0 at (call need [] es) in
      let whole : Res Leave State Left = then_by (m2 s1) (λ vs. (λ u. then_by (calls.call proc (pure tt) vs ctx S.low u) K)) in
      sim_result S.entries
      (assoc3 (m2 s1) (λ vs. (λ u. then_by (calls.call proc (pure tt) vs ctx S.low u) G)) H f
      ∙ then_same (m2 s1) (λ vs. (λ u. then_by (then_by (then_by (calls.call proc (pure tt) vs ctx S.low u) G) H) f)) (λ vs. (λ u. then_by (calls.call proc (pure tt) vs ctx S.low u) K)) (λ vs u. assoc3 (calls.call proc (pure tt) vs ctx S.low u) G H f))
      (sim_later S.entries (Done S F h) j 0 0 1 (ex S code) s s1 h refl (omega arith) whole
      (sim_richer S.entries (Done S F h) j (0 + 4) (0 + rate * 1) 0 (ex S code) s1 h whole (omega arith)
      (unjoin (Done S F h) j (0 + 4) 0 code s1 h whole
      (call_step S F (λ f vs c low. calls.call f (pure tt) vs c low) follows proc results' 0 (count es) ctx (omega arith) found (befores (o S) 0 es) (values (o S) 0 es) m2 (code_ints S F calls follows c es 0 r (omega arith)) done (Done S F h) j 0 0 s1 h K (ready_cost S F s h (s.cost + 1) ready)
      (λ v u w h' val none there ready' alike fewer.
      sim_result S.entries (ap (λ (r : Res Leave State Value). then_by r f) (reads v w u val none))
      (sim_runs S.entries (Done S F h) j 0 0 (ex S done) u h' h' (record { flow = left_falls; context = c }) 0 0 falls (runs_pure j falls h') ready'.told ready'.told (lit≤ tt)
      (record { left = tt; ready = ready'; above = λ i far. alike.by i (inr far) })))))))

  nothing_read : (c : Context) (t : ℕ) (at : Place) → is_nothing S.tables t ≡ true → (v : Value) (u : State) → v ≡ [] → value_in (env S c) at t (is v) u ≡ ok v u
  nothing_read c t at e v u empty = by (type_in S.tables t).shape e
    where
      by : (k : Shape) → is_empty_shape k ≡ true → as_read at k v u ≡ ok v u
      by (several []) e = refl
      by _ e = absurd (cc)

  eval_sim : (e : Expr) (c : Context) → refused_eval S.tables S.proc e ≡ None → eval_depth e ≤ (o S).waiting → (j : ℕ) (s : State) (h : Face) → Ready S F s h →
      Sim S.entries (Done S F h) j 0 0 (ex S (eval_code (o S) e)) s h (run_eval (value_of calls (env S c) e) c s)
  eval_sim (expr t at (call need [] es)) c r fit j s h ready =
      let p = passed ((is_nothing S.tables t && can_call S.tables S.proc need (count es) 0) || (is_int S.tables t && can_call S.tables S.proc need (count es) 1)) at (refused_ints S.tables S.proc es) r in
      by (is_nothing S.tables t && can_call S.tables S.proc need (count es) 0) refl p.0 p.1
    where
      by : (q : Bool) → (is_nothing S.tables t && can_call S.tables S.proc need (count es) 0) ≡ q → (q || (is_int S.tables t && can_call S.tables S.proc need (count es) 1)) ≡ true → refused_ints S.tables S.proc es ≡ None →
          Sim S.entries (Done S F h) j 0 0 (ex S (before_kind (o S) 0 at (call need [] es))) s h (run_eval (value_of calls (env S c) (expr t at (call need [] es))) c s)
      by true e f g =
          let both = and_true (is_nothing S.tables t) (can_call S.tables S.proc need (count es) 0) e in
          call_alone c t at need 0 es (λ v w u one none. nothing_read c t at both.0 v u (none refl)) both.1 g fit j s h ready
      by false e f g =
          let both = and_true (is_int S.tables t) (can_call S.tables S.proc need (count es) 1) f in
          call_alone c t at need 1 es (λ v w u one none. int_read S c u h t at v u (int_type S.tables t both.0)) both.1 g fit j s h ready
  eval_sim (expr t at (builtin b.Println [] es)) c r fit j s h ready =
      let p = passed (is_nothing S.tables t) at (refused_ints S.tables S.proc es) r in
      prints c t at es p.0 p.1 fit j s h ready
  eval_sim _ c r fit j s h ready = absurd (cc)

  -- ---- loops
  cond_of : (e : Maybe) (c : Context) → refused_condition S.tables S.proc e ≡ None → condition_depth e ≤ (o S).waiting → Cond S F (condition_before (o S) e) (condition_value (o S) e) (condition_of calls (env S c) e)
  cond_of absent c r fit = cond_absent S F
  cond_of (present e) c r fit = cond_present S F (at_of e) (before (o S) 0 e) (value (o S) 0 e) (value_of calls (env S c) e) (code_truth S F calls follows c e 0 r (omega arith))

  loop_node : (j : ℕ) (h0 : Face) (T : CoreStmts) (t : State) (h : Face) (r : Res Leave State Left) → Sim S.entries (Done S F h0) j 4 0 (rest_of 0 (ex S T)) t h r → Sim S.entries (Done S F h0) j 5 0 (ex S (one (repeat T))) t h r
  loop_node j h0 T t h r x =
      one_sim S F (Done S F h0) j 5 0 (repeat T) t h r
      (sim_behind S.entries (Done S F h0) (Done S F h0) j 4 1 0 (λ n. turns n (ex S T n)) (λ flow n. spend (core_pure flow)) t h r
      (sim_act S.entries (Done S F h0) j 4 0 (rest_of 0 (ex S T)) (λ n. turns n (ex S T n)) (λ n q. let same : n ≡ n - 0 = omega arith in ap (λ (k : ℕ). turns k (ex S T n) q) same) t h r x)
      (λ v u flow h' d. record { word = flow; face = h'; budget = 1; runs = runs_spend (λ n. core_pure flow) (runs_pure j flow h'); told = λ z. z; holds = d }))

  not_later : (at : Place) (k : Form) → refused_form S.tables S.proc at k ≡ None → later_form S.fuel calls (env S c0) k ≡ None
  not_later at (defer x) r = absurd (cc)
  not_later at _ r = refl

  -- ---- statements
  mutual
    pub exec_sim : (x : Stmt) → refused_stmt S.tables S.proc x ≡ None → stmt_depth x ≤ (o S).waiting → (j : ℕ) (c : Context) (s : State) (h : Face) → Ready S F s h → Sim S.entries (Done S F h) j 0 0 (ex S (stmt_code (o S) x)) s h (exec S.fuel calls (env S c0) x c s)
    exec_sim (stmt at k) r fit j c s h ready =
        let s1 : State = costing s (s.cost + 1) in
        sim_later S.entries (Done S F h) j 0 0 1 (ex S (form_code (o S) k)) s s1 h refl (omega arith) (form_of S.fuel calls (env S c0) at k c s1)
        (sim_richer S.entries (Done S F h) j 40 (0 + rate * 1) 0 (ex S (form_code (o S) k)) s1 h (form_of S.fuel calls (env S c0) at k c s1) (omega arith)
        (form_sim at k r fit j c s1 h (ready_cost S F s h (s.cost + 1) ready)))

    form_sim : (at : Place) (k : Form) → refused_form S.tables S.proc at k ≡ None → form_depth k ≤ (o S).waiting → (j : ℕ) (c : Context) (s : State) (h : Face) → Ready S F s h → Sim S.entries (Done S F h) j 40 0 (ex S (form_code (o S) k)) s h (form_of S.fuel calls (env S c0) at k c s)
    form_sim at (declare (Some x ∷ []) nothing) r fit j c s h ready = zero_sim S F calls c0 c x (int_local S x (passed (names_int S.tables S.proc x) at None r).0) j s h ready
    form_sim at (declare (Some x ∷ []) (each (more e none))) r fit j c s h ready =
        let p = passed (names_int S.tables S.proc x) at (refused_int S.tables S.proc e) r in
        sim_richer S.entries (Done S F h) j 0 40 0 (ex S (put_code (o S) x e)) s h (form_of S.fuel calls (env S c0) at (declare (Some x ∷ []) (each (more e none))) c s) (omega arith)
        (declare_sim S F calls c0 c x (int_local S x p.0) e (code_int S F calls follows c e 0 p.1 (omega arith)) j s h ready)
    form_sim at (assign (left_ (expr t at' (local x)) no_lefts) (each (more e none))) r fit j c s h ready =
        let p = passed (is_int S.tables t && names_int S.tables S.proc x) at (refused_int S.tables S.proc e) r in
        let both = and_true (is_int S.tables t) (names_int S.tables S.proc x) p.0 in
        sim_richer S.entries (Done S F h) j 0 40 0 (ex S (put_code (o S) x e)) s h (form_of S.fuel calls (env S c0) at (assign (left_ (expr t at' (local x)) no_lefts) (each (more e none))) c s) (omega arith)
        (assign_sim S F calls c0 c x (int_local S x both.1) at at' t e (code_int S F calls follows c e 0 p.1 (omega arith)) j s h ready)
    form_sim at (eval e) r fit j c s h ready =
        sim_richer S.entries (Done S F h) j 0 40 0 (ex S (eval_code (o S) e)) s h (run_eval (value_of calls (env S c) e) c s) (omega arith) (eval_sim e c r fit j s h ready)
    form_sim at (block l body) r fit j c s h ready =
        labelled_sim S F j 40 l h (ex S (stmts_code (o S) body)) c s h (scoped (execs S.fuel calls (env S c0) body))
        (scoped_sim S F j 40 h (ex S (stmts_code (o S) body)) c s h (execs S.fuel calls (env S c0) body)
        (sim_richer S.entries (Done S F h) j 0 40 0 (ex S (stmts_code (o S) body)) s h (execs S.fuel calls (env S c0) body c s) (omega arith) (stmts_sim body r fit j c s h ready)))
    form_sim at (if_ init e body other) r fit j c s h ready =
        let p = passed_both (refused_maybe S.tables S.proc init) (and_then (refused_truth S.tables S.proc e) (and_then (refused_stmts S.tables S.proc body) (refused_stmts S.tables S.proc other))) r in
        let q = passed_both (refused_truth S.tables S.proc e) (and_then (refused_stmts S.tables S.proc body) (refused_stmts S.tables S.proc other)) p.1 in
        let both = passed_both (refused_stmts S.tables S.proc body) (refused_stmts S.tables S.proc other) q.1 in
        sim_richer S.entries (Done S F h) j (0 + 0) 40 0 (ex S (form_code (o S) (if_ init e body other))) s h (form_of S.fuel calls (env S c0) at (if_ init e body other) c s) (omega arith)
        (headed_sim S F j 0 0 h (maybe_code (o S) init) (join (before (o S) 0 e) (one (branch (value (o S) 0 e) (stmts_code (o S) body) (stmts_code (o S) other)))) c s h (maybe S.fuel calls (env S c0) init)
        (choose (seen (env S c0) (λ env. truth_of calls env e)) (scoped (execs S.fuel calls (env S c0) body)) (scoped (execs S.fuel calls (env S c0) other))) (maybe_sim init p.0 (omega arith) j c s h ready)
        (λ t h' d ready' above fewer.
        choice_sim S F (at_of e) (before (o S) 0 e) (value (o S) 0 e) (value_of calls (env S d) e) (code_truth S F calls follows d e 0 q.0 (omega arith)) j 0 h (stmts_code (o S) body) (stmts_code (o S) other)
        (scoped (execs S.fuel calls (env S c0) body) d) (scoped (execs S.fuel calls (env S c0) other) d) t h' ready' above
        (λ u h'' ready'' above' fewer'. scoped_sim S F j 0 h (ex S (stmts_code (o S) body)) d u h'' (execs S.fuel calls (env S c0) body) (moved h h'' j (stmts_code (o S) body) u (execs S.fuel calls (env S c0) body d u) above' (stmts_sim body both.0 (omega arith) j d u h'' ready'')))
        (λ u h'' ready'' above' fewer'. scoped_sim S F j 0 h (ex S (stmts_code (o S) other)) d u h'' (execs S.fuel calls (env S c0) other) (moved h h'' j (stmts_code (o S) other) u (execs S.fuel calls (env S c0) other d u) above' (stmts_sim other both.1 (omega arith) j d u h'' ready'')))))
    form_sim at (loop l init e post body) r fit j c s h ready =
        let p = passed_both (refused_maybe S.tables S.proc init) (and_then (refused_condition S.tables S.proc e) (and_then (refused_maybe S.tables S.proc post) (refused_stmts S.tables S.proc body))) r in
        let q = passed_both (refused_condition S.tables S.proc e) (and_then (refused_maybe S.tables S.proc post) (refused_stmts S.tables S.proc body)) p.1 in
        let both = passed_both (refused_maybe S.tables S.proc post) (refused_stmts S.tables S.proc body) q.1 in
        let T : CoreStmts = turn_code (o S) e (join (stmts_code (o S) body) (maybe_code (o S) post)) in
        let test : Context → Do Bool = seen (env S c0) (λ env. condition_of calls env e) in
        sim_richer S.entries (Done S F h) j (0 + 5) 40 0 (ex S (form_code (o S) (loop l init e post body))) s h (form_of S.fuel calls (env S c0) at (loop l init e post body) c s) (omega arith)
        (headed_sim S F j 0 5 h (maybe_code (o S) init) (one (repeat T)) c s h (maybe S.fuel calls (env S c0) init) (source_turns S.fuel l test (scoped (execs S.fuel calls (env S c0) body)) (maybe S.fuel calls (env S c0) post)) (maybe_sim init p.0 (omega arith) j c s h ready)
        (λ t h' d ready' above fewer.
        loop_node j h T t h' (source_turns S.fuel l test (scoped (execs S.fuel calls (env S c0) body)) (maybe S.fuel calls (env S c0) post) d t)
        (loop_sim S F l (condition_before (o S) e) (condition_value (o S) e) test (scoped (execs S.fuel calls (env S c0) body)) (maybe S.fuel calls (env S c0) post) (stmts_code (o S) body) (maybe_code (o S) post)
        (λ d. cond_of e d q.0 (omega arith))
        (λ j d u h'' ready''. scoped_sim S F j 0 h'' (ex S (stmts_code (o S) body)) d u h'' (execs S.fuel calls (env S c0) body) (stmts_sim body both.1 (omega arith) j d u h'' ready''))
        (λ j d u h'' ready''. maybe_sim post both.0 (omega arith) j d u h'' ready'')
        S.fuel 0 j h d t h' (omega arith) ready'.few ready' above)))
    form_sim at (return nothing) r fit j c s h ready =
        sim_richer S.entries (Done S F h) j 4 40 0 (ex S (one (answered (result_code (o S) S.proc.results)))) s h (left_by returns c s) (lit≤ tt) (answer_sim S F calls c0 c results j h s h ready (λ k far. refl))
    form_sim at (return (each (more e none))) r fit j c s h ready =
        let p = passed (S.proc.results == 1) at (refused_int S.tables S.proc e) r in
        let test : (S.proc.results == 1) ≡ true = p.0 in
        let single : S.proc.results ≡ 1 = grind (arith, nat_tests) in
        return_sim S F calls c0 c results at e single (code_int S F calls follows c e 0 p.1 (omega arith)) j s h ready
    form_sim at k r fit j c s h ready = absurd (cc)

    pub maybe_sim : (x : MaybeStmt) → refused_maybe S.tables S.proc x ≡ None → maybe_depth x ≤ (o S).waiting → (j : ℕ) (c : Context) (s : State) (h : Face) → Ready S F s h → Sim S.entries (Done S F h) j 0 0 (ex S (maybe_code (o S) x)) s h (maybe S.fuel calls (env S c0) x c s)
    maybe_sim no_stmt r fit j c s h ready = none_sim j c s h ready
    maybe_sim (some_stmt x) r fit j c s h ready = exec_sim x r fit j c s h ready

    pub stmts_sim : (xs : Stmts) → refused_stmts S.tables S.proc xs ≡ None → stmts_depth xs ≤ (o S).waiting → (j : ℕ) (c : Context) (s : State) (h : Face) → Ready S F s h → Sim S.entries (Done S F h) j 0 0 (ex S (stmts_code (o S) xs)) s h (execs S.fuel calls (env S c0) xs c s)
    stmts_sim finish r fit j c s h ready = none_sim j c s h ready
    stmts_sim (follow (stmt at k) xs) r fit j c s h ready =
        let both = passed_both (refused_stmt S.tables S.proc (stmt at k)) (refused_stmts S.tables S.proc xs) r in
        sim_result S.entries (ap (λ (q : Option Part). stepped q (exec S.fuel calls (env S c0) (stmt at k)) (execs S.fuel calls (env S c0) xs) c s) (not_later at k both.0))
        (join_sim S F j 0 0 h (stmt_code (o S) (stmt at k)) (stmts_code (o S) xs) s h (caught (exec S.fuel calls (env S c0) (stmt at k)) c s) (execs S.fuel calls (env S c0) xs)
        (caught_sim S F j 0 h (ex S (stmt_code (o S) (stmt at k))) c s h (exec S.fuel calls (env S c0) (stmt at k) c s) (exec_sim (stmt at k) both.0 (omega arith) j c s h ready))
        (λ t h' d ready' above fewer. moved h h' j (stmts_code (o S) xs) t (execs S.fuel calls (env S c0) xs d t) above (stmts_sim xs both.1 (omega arith) j d t h' ready')))
