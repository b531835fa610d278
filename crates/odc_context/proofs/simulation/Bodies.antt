-- Returns, loops, and all statements.
use Rattle.std.proofs.Common.{◌≡◌, ℕ, ◌+◌, ◌-◌, ◌<◌, ◌≤◌, Bool, List, map, arith, ap, ◌∙◌, sym, subst, refl, lit≤}
use Rattle.std.specs.Prelude.{Option, Some}
use Rattle.odc_text.specs.declared.place.Place.{Place}
use Rattle.odc_text.specs.Run.{Log}
use Rattle.odc_typed.specs.declared.tree.Builtin.TheVariants.{Println}
use Rattle.odc_typed.specs.Tree.{Expr, const, local, binary, call, builtin}
use Rattle.odc_typed.specs.Bytes.{Value, bytes_of}
use Rattle.odc_typed.specs.Memory.{Memory as Blocks}
use Rattle.odc_typed.specs.Frame.{variable_place}
use Rattle.odc_typed.specs.Well.{IsInt, Signature, Scope}
use Rattle.odc_typed.specs.Source.{State, Res, ok, then_by, Calls, Env, block_of, value_of}
use Rattle.odc_core.specs.Tree.{Stmts, finish, follow}
use Rattle.odc_core.specs.Words.{bytes_of as numbers_of}
use Rattle.odc_core.specs.Memory.{Memory, put}
use Rattle.odc_core.specs.Run.{Flow, falls, leaves, answers, after, World, spend, pure, ◌>>=◌}
use Rattle.odc_context.specs.Code.{Own, offset_of, word_at, join, one, held, waits, expr_code, depth_of}
use Rattle.odc_context.proofs.Runs.{Fueled, Runs, runs_pure, runs_then, runs_node, runs_spend}
use Rattle.odc_context.proofs.Sims.{read, Sim, sim_runs, seq, sim_tick, sim_richer, sim_act, sim_behind, sim_result, sim_weaker}
use Rattle.odc_context.proofs.Touched.{WordAt, word_variable}
use Rattle.odc_context.proofs.Frame.{env_at, ev, ex, ex1, exec_join, r_held, r_follow, r_none, r_one}
use Rattle.odc_context.proofs.Ties.{Holds, Floor, stays_on}
use Rattle.odc_context.proofs.simulation.Exprs.{Fits, Ready, Live, live_on}
use Rattle.odc_context.proofs.simulation.Nodes.{alone, CallsFollow}
use Rattle.odc_context.proofs.simulation.Values.{depth_some}
use Rattle.odc_typed.specs.Source.{truth_of, exec, Flow as Left, falls as left_falls}
use Rattle.odc_typed.specs.Well.{IsCondition}
use Rattle.odc_context.proofs.Turns.{rest_of}
use Rattle.odc_context.specs.Code.{stmt_code, stmts_code, turn_code, stmt_depth, stmts_depth}
use Rattle.odc_context.specs.Code.{put as set}
use Rattle.odc_context.proofs.Ties.{stored_word}
use Rattle.odc_core.specs.Tree.{choose as branch, repeat as loop, leave, answer as answered}
use Rattle.odc_core.specs.Run.{turns}
use Rattle.odc_typed.specs.Tree.{Stmt as Source, eval, declare, assign, choose, repeat, answer, Stmts as Sources, finish as ended, follow as before}
use Rattle.odc_typed.specs.Memory.{put as block_put}
use Rattle.odc_typed.specs.Source.{exec_all, turns_while, write_at, with_memory, address_of, returns}
use Rattle.odc_typed.specs.Source.{after as left_after}
use Rattle.odc_typed.specs.Well.{Around, IsWellStmt, AreWell, scope_after}
use Rattle.odc_context.proofs.simulation.Stmts.{Done, Result, result_on, ready_now, into_runs, changed, value_then}
use Rattle.odc_context.proofs.Ties.{put_holds}
use Rattle.odc_context.proofs.simulation.Forms.{declare_sim, assign_sim, print_sim}
use Rattle.odc_context.proofs.simulation.Loops.{choose_sim}
use Rattle.odc_context.proofs.simulation.Turning.{Alive, loop_sim}

-- the scope behind statements
abbrev pub scope_behind : Scope → Sources → Scope
scope_behind scope ended = scope
scope_behind scope (before st ss) = scope_behind (scope_after scope st) ss

-- a condition waits
condition_some : (ss : List Signature) (scope : Scope) (e : Expr) → IsCondition ss scope e → 0 < depth_of e
condition_some ss scope (const at value) h = omega arith
condition_some ss scope (local at x) h = absurd h
condition_some ss scope (binary at op left right) h = omega arith
condition_some ss scope (call at f arguments) h = absurd h
condition_some ss scope (builtin at which arguments) h = absurd h

module _ (entries : ℕ → ℕ) (n : ℕ) (world : World) (at : Place) (o : Own) (env : Env) (size : ℕ) (src0 : Blocks) (outer : ℕ → Bool) (fits : Fits env.low size o) (floor : Floor env size src0) where
  abbrev low : ℕ
  low = env.low

  module _ (a : Around) (calls : Calls) (calls_follow : CallsFollow entries n world at o env size src0 outer fits floor a.signatures calls) (all : a.variables ≡ o.first) (result_is : env.result ≡ o.result) (result_below : 0 < a.results → env.result < o.first) where
    -- ---- `return`

    answer_sim : (j : ℕ) (scope : Scope) (at' : Place) (value : Expr) (s : State) (m : Memory) (l : Log ℕ ℕ) → 0 < a.results → IsInt a.signatures scope value → depth_of value ≤ o.waiting → Live entries n world at o env size src0 outer fits floor scope s.memory → Result entries n world at o env size src0 outer fits floor a.results s.memory →
        Ready entries n world at o env size src0 outer fits floor s.memory s.memory s.serial s.left m → map (read entries) s.log ≡ l →
        Sim entries (Done entries n world at o env size src0 outer fits floor scope s.memory m) j 0 0 (ex j world at low o outer (stmt_code o (answer at' value))) s m l (exec n calls env (answer at' value) s)
    answer_sim j scope at' value s m l has h fit live result ready logs =
        let s1 : State = record s { cost = s.cost + 1 } in
        let x : ℕ = env.result in
        let b = block_of env x in
        let Q : Left → State → Flow → Memory → Type 0 = Done entries n world at o env size src0 outer fits floor scope s.memory m in
        let tail : Stmts = follow (set o.result (waits o 0)) (one (answered (held o.result))) in
        let f : Value → State → Res Left = λ v. (λ t. then_by (write_at at' (address_of env x) v t) (λ _. (λ u. ok returns u))) in
        sim_tick entries Q j 0 (ex j world at low o outer (join (expr_code o 0 value) tail)) m l 0 s (then_by (value_of calls env value s1) f)
        (value_then entries n world at o env size src0 outer fits floor a.signatures calls calls_follow j (0 + 100) 0 scope value tail Q s1 m l f h fit (record { by = live.by }) (record { tied = ready.tied; newer = ready.newer; few = ready.few; stays = ready.stays }) logs
        (λ v t m' l' y logs'.
        let w : ℕ = y.word in
        let below : x < o.first = result_below has in
        let now_live : t.memory.size b ≡ Some 8 = y.ready.stays.by b 8 (result.by has) in
        let after' : State = record t { memory = block_put t.memory b 0 (bytes_of 8 w); cost = t.cost + 1 } in
        let m2 : Memory = put m' (variable_place env.low x) (numbers_of 8 w) in
        let is : f (bytes_of 8 w) t ≡ ok returns after' = ap (λ (q : Option Blocks). then_by {B = Left} (with_memory at' 8 q t) (λ _. (λ u. ok returns u))) (stored_word t.memory b w now_live) in
        let d : Done entries n world at o env size src0 outer fits floor scope s.memory m left_falls after' falls m2 = changed entries n world at o env size src0 outer fits floor j x w scope s.memory m m' t (t.cost + 1) below y.small now_live y.ready (live_on entries n world at o env size src0 outer fits floor scope s.memory t.memory y.ready.stays live) y.others in
        let room : variable_place env.low o.first ≤ env.low + size = omega (arith, fits.room) in
        let holds : Holds after'.memory m2 b w = put_holds env o.first size src0 t.memory t.serial m' x w floor room below y.small y.ready.tied now_live in
        let into : Runs j (ex1 j world at low o outer (set o.result (waits o 0))) m' l' 4 6 falls m2 l' =
        (let K : ℕ → Type 0 = λ q. Runs j (ex1 j world at low o outer (set q (waits o 0))) m' l' 4 6 falls m2 l' in subst K result_is (into_runs entries n world at o env size src0 outer fits floor j x w m' l' below (omega (arith, depth_some a.signatures scope value h)) y.small y.waits)) in
        let same : variable_place low x ≡ low + offset_of x = omega arith in
        let there : WordAt m2 (low + offset_of o.result) w = (let K : ℕ → Type 0 = λ q. WordAt m2 (low + offset_of q) w in let M : ℕ → Type 0 = λ q. WordAt m2 q w in subst K result_is (subst M same holds.core)) in
        let r : Runs j (ev j world at low o outer (held o.result)) m2 l' 2 3 w m2 l' =
        r_held j world at low o outer o.result (word_at o.result) w m2 l' (word_variable o o.result (omega (arith, result_is, below))) (lit≤ tt) y.small there in
        let gives : Runs j (ex1 j world at low o outer (answered (held o.result))) m2 l' (2 + 0 + 1) (3 + 0 + 1) (answers w) m2 l' =
        runs_node j (λ i. ev j world at low o outer (held o.result) i >>= (λ q. pure (answers q))) m2 l' (2 + 0) (3 + 0) (answers w) m2 l'
        (runs_then j (ev j world at low o outer (held o.result)) (λ q i. pure (answers q)) m2 l' 2 3 w m2 l' 0 0 (answers w) m2 l' r (runs_pure j (answers w) m2 l')) in
        let P : Value → Type 0 = λ q. Sim entries Q j (0 + 100 + 40) 0 (ex j world at low o outer tail) t m' l' (f q t) in
        subst P (sym y.value)
        (sim_result entries Q j (0 + 100 + 40) 0 (ex j world at low o outer tail) t m' l' (f (bytes_of 8 w) t) (ok returns after') is
        (record {
          by = record {
            word = answers w;
            memory = m2;
            log = l';
            budget = 4 + (2 + 0 + 1);
            cost = 6 + (3 + 0 + 1);
            runs = r_follow j world at low o outer (set o.result (waits o 0)) (one (answered (held o.result))) m' m2 m2 l' l' l' 4 6 (2 + 0 + 1) (3 + 0 + 1) (answers w) into
                (r_one j world at low o outer (answered (held o.result)) m2 m2 l' l' (2 + 0 + 1) (3 + 0 + 1) (answers w) gives);
            holds = record { left = record { holds = holds }; ready = d.ready; above = d.above };
            logs = logs';
            cheap = omega arith;
            turns = omega arith;
            fewer = omega arith;
            taken = refl;
          };
        }))))

    -- ---- `for`

    repeat_sim : (j : ℕ) (scope inner : Scope) (at' : Place) (e : Expr) (code : Stmts) (body : State → Res Left) → IsCondition a.signatures scope e → depth_of e ≤ o.waiting →
        ((j' : ℕ) (t : State) (m' : Memory) (l' : Log ℕ ℕ) → Alive entries n world at o env size src0 outer fits floor a.results scope t.memory → Ready entries n world at o env size src0 outer fits floor t.memory t.memory t.serial t.left m' → map (read entries) t.log ≡ l' →
        Sim entries (Done entries n world at o env size src0 outer fits floor inner t.memory m') j' 0 0 (ex j' world at low o outer code) t m' l' (body t)) → (s : State) (m : Memory) (l : Log ℕ ℕ) → Live entries n world at o env size src0 outer fits floor scope s.memory → Result entries n world at o env size src0 outer fits floor a.results s.memory → Ready entries n world at o env size src0 outer fits floor s.memory s.memory s.serial s.left m → map (read entries) s.log ≡ l →
        Sim entries (Done entries n world at o env size src0 outer fits floor scope s.memory m) j 0 0 (ex j world at low o outer (one (loop (join (expr_code o 0 e) (follow (branch (waits o 0) finish (one (leave 0))) (follow turn_code code)))))) s m l
        (turns_while n (truth_of calls env at' e) body (record s { cost = s.cost + 1 }))
    repeat_sim j scope inner at' e code body h fit k s m l live result ready logs =
        let s1 : State = record s { cost = s.cost + 1 } in
        let B : Stmts = join (expr_code o 0 e) (follow (branch (waits o 0) finish (one (leave 0))) (follow turn_code code)) in
        let whole : Fueled Flow = ex j world at low o outer B in
        let Q : Left → State → Flow → Memory → Type 0 = Done entries n world at o env size src0 outer fits floor scope s.memory m in
        let some : 0 < o.waiting = omega (arith, condition_some a.signatures scope e h) in
        let r : Res Left = turns_while n (truth_of calls env at' e) body s1 in
        let loop0 : Sim entries Q j 1 0 (rest_of 0 whole) s1 m l r =
        loop_sim entries n world at o env size src0 outer fits floor a.signatures calls calls_follow a.results scope inner at' e code body h fit some k n 0 j s.memory m s1 m l (omega arith) ready.few (record { live = record { by = live.by }; result = record { by = result.by } })
        (record { tied = ready.tied; newer = ready.newer; few = ready.few; stays = ready.stays }) (λ x far. refl) logs in
        let loop1 = sim_act entries Q j 1 0 (rest_of 0 whole) (λ i. turns i (whole i)) (λ i c. let same : i ≡ i - 0 = omega arith in ap (λ (q : ℕ). turns q (whole i) c) same) s1 m l r loop0 in
        let loop2 = sim_behind entries Q Q j 1 1 0 (λ i. turns i (whole i)) (λ v i. spend (pure v)) s1 m l r loop1
        (λ v t' w m'' x. record { word = w; memory = m''; budget = 1; runs = (λ q. runs_spend j (λ i. pure w) m'' q 0 0 w m'' q (runs_pure j w m'' q)); holds = x }) in
        sim_tick entries Q j 0 (ex j world at low o outer (one (loop B))) m l 0 s r
        (sim_richer entries Q j 0 (ex j world at low o outer (one (loop B))) m l (1 + 1) (0 + 100) s1 r (lit≤ tt)
        (sim_act entries Q j (1 + 1) 0 (ex1 j world at low o outer (loop B)) (ex j world at low o outer (one (loop B))) (λ i c. alone (ex1 j world at low o outer (loop B) i c)) s1 m l r loop2))

    -- what comes behind a statement
    onward : (j : ℕ) (scope behind : Scope) (code : Stmts) (rest : State → Res Left) (s : State) (m : Memory) (v : Left) (t : State) (flow : Flow) (m' : Memory) (l' : Log ℕ ℕ) → Done entries n world at o env size src0 outer fits floor scope s.memory m v t flow m' → map (read entries) t.log ≡ l' →
        (Live entries n world at o env size src0 outer fits floor scope t.memory → Sim entries (Done entries n world at o env size src0 outer fits floor behind t.memory m') j 0 0 (ex j world at low o outer code) t m' l' (rest t)) →
        Sim entries (Done entries n world at o env size src0 outer fits floor behind s.memory m) j (0 + 0) 0 (λ i. after flow (ex j world at low o outer code i)) t m' l' (left_after v rest t)
    onward j scope behind code rest s m left_falls t falls m' l' d logs k =
        sim_weaker entries (Done entries n world at o env size src0 outer fits floor behind t.memory m') (Done entries n world at o env size src0 outer fits floor behind s.memory m) j 0 0 (ex j world at low o outer code) t m' l' (rest t)
        (λ v t' w m'' x. record {
          left = x.left;
          ready = record { tied = x.ready.tied; newer = x.ready.newer; few = x.ready.few; stays = stays_on s.memory t.memory t'.memory d.ready.stays x.ready.stays };
          above = λ y far. x.above y far ∙ d.above y far;
        })
        (k d.left.live)
    onward j scope behind code rest s m left_falls t (leaves q) m' l' d logs k = absurd d.left
    onward j scope behind code rest s m left_falls t (answers w) m' l' d logs k = absurd d.left
    onward j scope behind code rest s m returns t falls m' l' d logs k = absurd d.left
    onward j scope behind code rest s m returns t (leaves q) m' l' d logs k = absurd d.left
    onward j scope behind code rest s m returns t (answers w) m' l' d logs k =
        sim_runs entries (Done entries n world at o env size src0 outer fits floor behind s.memory m) j (0 + 0) 0 (λ i. pure (answers w)) t m' l' returns 0 0 (answers w) m' (runs_pure j (answers w) m' l') logs (lit≤ tt)
        (record { left = d.left; ready = d.ready; above = d.above })

    -- ---- all statements

    mutual
      pub stmt_sim : (st : Source) (j : ℕ) (scope : Scope) (s : State) (m : Memory) (l : Log ℕ ℕ) → IsWellStmt a scope st → stmt_depth st ≤ o.waiting → Live entries n world at o env size src0 outer fits floor scope s.memory → Result entries n world at o env size src0 outer fits floor a.results s.memory →
          Ready entries n world at o env size src0 outer fits floor s.memory s.memory s.serial s.left m → map (read entries) s.log ≡ l →
          Sim entries (Done entries n world at o env size src0 outer fits floor (scope_after scope st) s.memory m) j 0 0 (ex j world at low o outer (stmt_code o st)) s m l (exec n calls env st s)
      stmt_sim (eval at' (const at'' value)) j scope s m l h fit live result ready logs = absurd h
      stmt_sim (eval at' (local at'' x)) j scope s m l h fit live result ready logs = absurd h
      stmt_sim (eval at' (binary at'' op left right)) j scope s m l h fit live result ready logs = absurd h
      stmt_sim (eval at' (call at'' f arguments)) j scope s m l h fit live result ready logs = absurd h
      stmt_sim (eval at' (builtin at'' Println es)) j scope s m l h fit live result ready logs = print_sim entries n world at o env size src0 outer fits floor a.signatures calls calls_follow j scope at' at'' es s m l h fit live ready logs
      stmt_sim (declare at' x value) j scope s m l h fit live result ready logs =
          declare_sim entries n world at o env size src0 outer fits floor a.signatures calls calls_follow j scope at' x value s m l (omega (arith, h.0.1, all)) h.1 fit live ready logs
      stmt_sim (assign at' (const at'' value') value) j scope s m l h fit live result ready logs = absurd h.0
      stmt_sim (assign at' (binary at'' op left right) value) j scope s m l h fit live result ready logs = absurd h.0
      stmt_sim (assign at' (call at'' f arguments) value) j scope s m l h fit live result ready logs = absurd h.0
      stmt_sim (assign at' (builtin at'' which es) value) j scope s m l h fit live result ready logs = absurd h.0
      stmt_sim (assign at' (local at'' x) value) j scope s m l h fit live result ready logs =
          assign_sim entries n world at o env size src0 outer fits floor a.signatures calls calls_follow j scope at' at'' x value s m l h.0 h.1 fit live ready logs
      stmt_sim (choose at' e body) j scope s m l h fit live result ready logs =
          choose_sim entries n world at o env size src0 outer fits floor a.signatures calls calls_follow j scope at' e (stmts_code o body) s m l (scope_behind scope body) (exec_all n calls env body) h.0 (omega arith) (omega (arith, condition_some a.signatures scope e h.0)) live ready logs
          (λ t m' l' live' stays ready' logs'. stmts_sim body j scope t m' l' h.1 (omega arith) live' (result_on entries n world at o env size src0 outer fits floor a.results s.memory t.memory stays result) ready' logs')
      stmt_sim (repeat at' e body) j scope s m l h fit live result ready logs =
          repeat_sim j scope (scope_behind scope body) at' e (stmts_code o body) (exec_all n calls env body) h.0 (omega arith)
          (λ j' t m' l' alive ready' logs'. stmts_sim body j' scope t m' l' h.1 (omega arith) alive.live alive.result ready' logs') s m l live result ready logs
      stmt_sim (answer at' value) j scope s m l h fit live result ready logs = answer_sim j scope at' value s m l h.0 h.1 fit live result ready logs

      pub stmts_sim : (ss : Sources) (j : ℕ) (scope : Scope) (s : State) (m : Memory) (l : Log ℕ ℕ) → AreWell a scope ss → stmts_depth ss ≤ o.waiting → Live entries n world at o env size src0 outer fits floor scope s.memory → Result entries n world at o env size src0 outer fits floor a.results s.memory →
          Ready entries n world at o env size src0 outer fits floor s.memory s.memory s.serial s.left m → map (read entries) s.log ≡ l →
          Sim entries (Done entries n world at o env size src0 outer fits floor (scope_behind scope ss) s.memory m) j 0 0 (ex j world at low o outer (stmts_code o ss)) s m l (exec_all n calls env ss s)
      stmts_sim ended j scope s m l h fit live result ready logs =
          sim_runs entries (Done entries n world at o env size src0 outer fits floor scope s.memory m) j 0 0 (ex j world at low o outer finish) s m l left_falls 0 0 falls m (r_none j world at low o outer m l) logs (lit≤ tt)
          (record { left = record { live = live }; ready = ready; above = λ x far. refl })
      stmts_sim (before st ss) j scope s m l h fit live result ready logs =
          let R : Left → State → Flow → Memory → Type 0 = Done entries n world at o env size src0 outer fits floor (scope_after scope st) s.memory m in
          let Q : Left → State → Flow → Memory → Type 0 = Done entries n world at o env size src0 outer fits floor (scope_behind (scope_after scope st) ss) s.memory m in
          let first : Fueled Flow = ex j world at low o outer (stmt_code o st) in
          let rest : Fueled Flow = ex j world at low o outer (stmts_code o ss) in
          let f : Left → State → Res Left = λ flow. left_after flow (exec_all n calls env ss) in
          sim_act entries Q j (0 + 0) 0 (λ i. first i >>= (λ flow. after flow (rest i))) (ex j world at low o outer (join (stmt_code o st) (stmts_code o ss)))
          (λ i q. exec_join i (env_at world at low o outer) (stmt_code o st) (stmts_code o ss) q) s m l (then_by (exec n calls env st s) f)
          (seq entries R Q j 0 0 0 0 first (λ flow i. after flow (rest i)) s m l (exec n calls env st s) f
          (stmt_sim st j scope s m l h.0 (omega arith) live result ready logs)
          (λ v t flow m' l' d logs' fewer.
          onward j (scope_after scope st) (scope_behind (scope_after scope st) ss) (stmts_code o ss) (exec_all n calls env ss) s m v t flow m' l' d logs'
          (λ live'. stmts_sim ss j (scope_after scope st) t m' l' h.1 (omega arith) live' (result_on entries n world at o env size src0 outer fits floor a.results s.memory t.memory d.ready.stays result) (ready_now entries n world at o env size src0 outer fits floor s.memory t.memory t.serial t.left m' d.ready) logs')))
