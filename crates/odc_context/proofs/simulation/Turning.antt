-- Loops.
use Rattle.std.proofs.Common.{◌≡◌, ℕ, zero, suc, ◌+◌, ◌<◌, ◌≤◌, inr, Bool, true, false, List, map, arith, ap, ◌∙◌, sym, subst, refl, lit<, lit≤}
use Rattle.std.specs.Prelude.{if◌then◌else◌}
use Rattle.std.proofs.Math.Nat.{add-zero}
use Rattle.odc_text.specs.declared.place.Place.{Place}
use Rattle.odc_text.specs.Run.{Log}
use Rattle.odc_typed.specs.Tree.{Expr}
use Rattle.odc_typed.specs.Bytes.{Value}
use Rattle.odc_typed.specs.Memory.{Memory as Blocks}
use Rattle.odc_typed.specs.Well.{Signature, Scope}
use Rattle.odc_typed.specs.Source.{State, Res, ok, stop, then_by, Calls, Env, value_of}
use Rattle.odc_core.specs.Tree.{Stmts, finish, follow}
use Rattle.odc_core.specs.Memory.{Memory}
use Rattle.odc_core.specs.Run.{Flow, falls, leaves, answers, after, World, spend, pure, ◌>>=◌}
use Rattle.odc_core.specs.Run.{State as CoreState, Res as CoreRes, stop as halt, then_by as onto}
use Rattle.odc_context.specs.Code.{Own, offset_of, join, one, waits, expr_code, depth_of}
use Rattle.odc_context.proofs.Runs.{Fueled, from, to, Runs, runs_pure, runs_then, runs_spend}
use Rattle.odc_context.proofs.Sims.{read, Sim, sim_runs, seq, sim_richer, sim_act, sim_before, sim_result}
use Rattle.odc_context.proofs.Touched.{WordAt}
use Rattle.odc_context.proofs.Frame.{env_at, ev, ex, ex1, exec_join, r_none, r_one}
use Rattle.odc_context.proofs.Ties.{Floor, Stays, stays_on}
use Rattle.odc_context.proofs.simulation.Exprs.{Fits, Ready, Live, live_on, r_waits}
use Rattle.odc_context.proofs.simulation.Nodes.{CallsFollow}
use Rattle.rv_table.specs.Words.{flag}
use Rattle.odc_typed.specs.Bytes.{number_of}
use Rattle.odc_typed.specs.Source.{bool_bytes, truth_of, read_bool, Flow as Left, falls as left_falls}
use Rattle.odc_typed.specs.Well.{IsCondition}
use Rattle.odc_context.proofs.simulation.Conditions.{Tested, condition_sim}
use Rattle.odc_context.proofs.Sims.{sim_spent, Spends, Begins, sim_turn, onto_onto, then_then}
use Rattle.odc_context.proofs.Turns.{rest_of, begins}
use Rattle.odc_context.specs.Code.{turn_code}
use Rattle.odc_context.proofs.Frame.{r_choose, r_leave}
use Rattle.odc_core.specs.Tree.{choose as branch, leave}
use Rattle.odc_core.specs.Run.{after_turn}
use Rattle.odc_typed.specs.Source.{turns_while, turn, returns}
use Rattle.odc_typed.specs.Source.{after as left_after}
use Rattle.odc_text.specs.Run.{going}
use Rattle.odc_context.proofs.simulation.Stmts.{Done, Result, result_on, ready_now}
use Rattle.odc_context.proofs.simulation.Forms.{bool_read}

module _ (entries : ℕ → ℕ) (n : ℕ) (world : World) (at : Place) (o : Own) (env : Env) (size : ℕ) (src0 : Blocks) (outer : ℕ → Bool) (fits : Fits env.low size o) (floor : Floor env size src0) where
  abbrev low : ℕ
  low = env.low

  -- the variables in scope are live, and the result where there is one
  pub record Alive (results : ℕ) (scope : Scope) (now : Blocks) : Type 0 where
    pub live : Live entries n world at o env size src0 outer fits floor scope now
    pub result : Result entries n world at o env size src0 outer fits floor results now

  pub alive_on : (results : ℕ) (scope : Scope) (a b : Blocks) → Stays a b → Alive results scope a → Alive results scope b
  alive_on results scope a b stays alive = record { live = live_on entries n world at o env size src0 outer fits floor scope a b stays alive.live; result = result_on entries n world at o env size src0 outer fits floor results a b stays alive.result }

  module _ (ss : List Signature) (calls : Calls) (calls_follow : CallsFollow entries n world at o env size src0 outer fits floor ss calls) (results : ℕ) (scope inner : Scope) (at' : Place) (e : Expr) (code : Stmts) (body : State → Res Left) (h : IsCondition ss scope e) (fit : depth_of e ≤ o.waiting) (some : 0 < o.waiting)
      (body_sim : (j : ℕ) (t : State) (m' : Memory) (l' : Log ℕ ℕ) → Alive results scope t.memory → Ready entries n world at o env size src0 outer fits floor t.memory t.memory t.serial t.left m' → map (read entries) t.log ≡ l' →
      Sim entries (Done entries n world at o env size src0 outer fits floor inner t.memory m') j 0 0 (ex j world at env.low o outer code) t m' l' (body t)) where
    -- the turn's code
    abbrev tail : Stmts
    tail = follow (branch (waits o 0) finish (one (leave 0))) (follow turn_code code)

    abbrev turn_stmts : Stmts
    turn_stmts = join (expr_code o 0 e) tail

    abbrev whole : ℕ → Fueled Flow
    whole j = ex j world at low o outer turn_stmts

    -- behind the condition: the rest of the turn, and the turns behind it
    abbrev onward : ℕ → ℕ → Stmts → Fueled Flow
    onward j i code' n' = λ s. onto (ex j world at low o outer code' n' s) (λ flow. after_turn flow (rest_of (suc i) (whole j) n'))

    -- where the condition is false, the loop is left
    out_sim : (j i b : ℕ) (src : Blocks) (m0 : Memory) (t : State) (m' : Memory) (l' : Log ℕ ℕ) → 40 ≤ b → WordAt m' (env.low + offset_of (o.first + 0)) (flag false) → Ready entries n world at o env size src0 outer fits floor src t.memory t.serial t.left m' → Alive results scope t.memory → ((x : ℕ) → env.low + size ≤ x → m' x ≡ m0 x) →
        map (read entries) t.log ≡ l' → Sim entries (Done entries n world at o env size src0 outer fits floor scope src m0) j b 0 (onward j i tail) t m' l' (ok left_falls t)
    out_sim j i b src m0 t m' l' enough there ready live above logs =
        let W : Runs j (ev j world at low o outer (waits o 0)) m' l' 2 3 0 m' l' = r_waits entries n world at o env size src0 outer fits floor j 0 0 m' l' some (lit< tt) there in
        let c : Runs j (ex1 j world at low o outer (branch (waits o 0) finish (one (leave 0)))) m' l' (2 + 1 + 1) (3 + 1 + 1) (leaves 0) m' l' =
        r_choose j world at low o outer (waits o 0) finish (one (leave 0)) m' m' l' l' 2 3 1 1 0 (leaves 0) W (r_one j world at low o outer (leave 0) m' m' l' l' 1 1 (leaves 0) (r_leave j world at low o outer 0 m' l')) in
        let d : Runs j (ex j world at low o outer tail) m' l' (4 + 0) (5 + 0) (leaves 0) m' l' =
        runs_then j (ex1 j world at low o outer (branch (waits o 0) finish (one (leave 0)))) (λ f n'. after f (ex j world at low o outer (follow turn_code code) n')) m' l' 4 5 (leaves 0) m' l' 0 0 (leaves 0) m' l' c (runs_pure j (leaves 0) m' l') in
        let r : Runs j (onward j i tail) m' l' (4 + 0 + 0) (5 + 0 + 0) falls m' l' =
        runs_then j (ex j world at low o outer tail) (λ f n'. after_turn f (rest_of (suc i) (whole j) n')) m' l' (4 + 0) (5 + 0) (leaves 0) m' l' 0 0 falls m' l' d (runs_pure j falls m' l') in
        sim_runs entries (Done entries n world at o env size src0 outer fits floor scope src m0) j b 0 (onward j i tail) t m' l' left_falls (4 + 0 + 0) (5 + 0 + 0) falls m' r logs (omega arith)
        (record { left = record { live = live.live }; ready = ready; above = above })

    -- the turn begins
    abbrev begun_turn : ℕ → ℕ → Fueled Flow
    begun_turn j i n' = λ s. onto (onto (spend (pure falls) s) (λ f. after f (ex j world at low o outer code n'))) (λ flow. after_turn flow (rest_of (suc i) (whole j) n'))

    turn_begins : (j i : ℕ) (m : Memory) (l : Log ℕ ℕ) → Begins entries j (onward j i (follow turn_code code)) (begun_turn j i) m l
    turn_begins j i m l = record {
      stands = λ q c g. refl;
      steps = λ q k budget c g.
          let more : k + (budget + 1) ≡ suc (k + budget) = omega arith in
          (q, omega arith, ap (λ (left : ℕ). onward j i (follow turn_code code) q (from c m l left)) more);
    }

    -- the turn and the turns behind it
    begun_sim : (j i g' : ℕ) (src : Blocks) (m0 : Memory) (t : State) (m' : Memory) (l' : Log ℕ ℕ) (go_on : State → Res Left) → Ready entries n world at o env size src0 outer fits floor src t.memory t.serial t.left m' → Alive results scope t.memory → ((x : ℕ) → env.low + size ≤ x → m' x ≡ m0 x) →
        map (read entries) t.log ≡ l' →
        ((t' : State) (m'' : Memory) (l'' : Log ℕ ℕ) → Alive results scope t'.memory → Ready entries n world at o env size src0 outer fits floor src t'.memory t'.serial t'.left m'' → ((x : ℕ) → env.low + size ≤ x → m'' x ≡ m0 x) → map (read entries) t'.log ≡ l'' → t'.left ≤ t.left →
        Sim entries (Done entries n world at o env size src0 outer fits floor scope src m0) j 1 0 (rest_of (suc i) (whole j)) t' m'' l'' (go_on t')) →
        Sim entries (Done entries n world at o env size src0 outer fits floor scope src m0) j 99 0 (begun_turn j i) t m' l' (then_by (body t) (λ flow. left_after flow go_on))
    begun_sim j i g' src m0 t m' l' go_on ready live above logs k =
        let Q : Left → State → Flow → Memory → Type 0 = Done entries n world at o env size src0 outer fits floor scope src m0 in
        let D : Left → State → Flow → Memory → Type 0 = Done entries n world at o env size src0 outer fits floor inner t.memory m' in
        let f : Left → State → Res Left = λ flow. left_after flow go_on in
        let r : Res Left = then_by (body t) f in
        let tailed : Flow → Fueled Flow = λ flow n'. after_turn flow (rest_of (suc i) (whole j) n') in
        let spending : Fueled Flow = λ n'. spend (pure falls) in
        let later : Flow → Fueled Flow = λ y n'. (λ s. onto (after y (ex j world at low o outer code n') s) (λ flow. tailed flow n')) in
        let body_part : Sim entries Q j (0 + 1) 0 (later falls) t m' l' r =
        seq entries D Q j 0 1 0 0 (ex j world at low o outer code) tailed t m' l' (body t) f (body_sim j t m' l' live (ready_now entries n world at o env size src0 outer fits floor src t.memory t.serial t.left m' ready) logs)
        (λ v t' w m'' l'' d logs' fewer. behind_turn v w t' m'' l'' d logs' fewer) in
        sim_richer entries Q j 0 (begun_turn j i) m' l' (1 + 1) 99 t r (lit≤ tt)
        (sim_act entries Q j (1 + 1) 0 (λ n'. spending n' >>= (λ y. later y n')) (begun_turn j i) (λ n' c. onto_onto entries (spend (pure falls) c) (λ y. after y (ex j world at low o outer code n')) (λ flow. tailed flow n')) t m' l' r
        (sim_before entries Q j (1 + 1) 1 0 spending later t m' l' r (0 + 1) (0 + 1) falls (runs_spend j (λ n'. pure falls) m' l' 0 0 falls m' l' (runs_pure j falls m' l')) (lit≤ tt) (let P : ℕ → Type 0 = λ q. Sim entries Q j q 0 (later falls) t m' l' r in subst P refl body_part)))
      where
        behind_turn : (v : Left) (w : Flow) (t' : State) (m'' : Memory) (l'' : Log ℕ ℕ) → Done entries n world at o env size src0 outer fits floor inner t.memory m' v t' w m'' → map (read entries) t'.log ≡ l'' → t'.left ≤ t.left →
            Sim entries (Done entries n world at o env size src0 outer fits floor scope src m0) j (1 + 0) 0 (λ n'. after_turn w (rest_of (suc i) (whole j) n')) t' m'' l'' (left_after v go_on t')
        behind_turn left_falls falls t' m'' l'' d logs' fewer =
            k t' m'' l'' (alive_on results scope t.memory t'.memory d.ready.stays live)
            (record { tied = d.ready.tied; newer = d.ready.newer; few = d.ready.few; stays = stays_on src t.memory t'.memory ready.stays d.ready.stays })
            (λ x far. d.above x far ∙ above x far) logs' fewer
        behind_turn left_falls (leaves q) t' m'' l'' d logs' fewer = absurd d.left
        behind_turn left_falls (answers w) t' m'' l'' d logs' fewer = absurd d.left
        behind_turn returns falls t' m'' l'' d logs' fewer = absurd d.left
        behind_turn returns (leaves q) t' m'' l'' d logs' fewer = absurd d.left
        behind_turn returns (answers w) t' m'' l'' d logs' fewer =
            sim_runs entries (Done entries n world at o env size src0 outer fits floor scope src m0) j (1 + 0) 0 (λ n'. pure (answers w)) t' m'' l'' returns 0 0 (answers w) m'' (runs_pure j (answers w) m'' l'') logs' (lit≤ tt)
            (record {
              left = d.left;
              ready = record { tied = d.ready.tied; newer = d.ready.newer; few = d.ready.few; stays = stays_on src t.memory t'.memory ready.stays d.ready.stays };
              above = λ x far. d.above x far ∙ above x far;
            })

    -- a turn, by what the source does where the condition is true
    iteration : (i j : ℕ) (src : Blocks) (m0 : Memory) (s : State) (m : Memory) (l : Log ℕ ℕ) (f : State → Res Left) → i ≤ j → Alive results scope s.memory → Ready entries n world at o env size src0 outer fits floor src s.memory s.serial s.left m → ((x : ℕ) → env.low + size ≤ x → m x ≡ m0 x) →
        map (read entries) s.log ≡ l →
        ((t : State) (m' : Memory) (l' : Log ℕ ℕ) → t.left ≤ s.left → Alive results scope t.memory → Ready entries n world at o env size src0 outer fits floor src t.memory t.serial t.left m' → ((x : ℕ) → env.low + size ≤ x → m' x ≡ m0 x) → map (read entries) t.log ≡ l' →
        Sim entries (Done entries n world at o env size src0 outer fits floor scope src m0) (suc j) 0 0 (onward (suc j) i (follow turn_code code)) t m' l' (f t)) →
        Sim entries (Done entries n world at o env size src0 outer fits floor scope src m0) j 1 0 (rest_of i (whole j)) s m l (then_by (truth_of calls env at' e s) (λ b. (λ t. (if b then f else (λ u. ok left_falls u)) t)))
    iteration i j src m0 s m l f le live ready above logs k =
        let j1 : ℕ = suc j in
        let Q : Left → State → Flow → Memory → Type 0 = Done entries n world at o env size src0 outer fits floor scope src m0 in
        let V : Value → State → Flow → Memory → Type 0 = Tested entries n world at o env size src0 outer fits floor s.memory m in
        let r : Res Value = value_of calls env e s in
        let rb : Value → State → Res Bool = λ v. (λ t. read_bool at' (number_of v) t) in
        let f' : Bool → State → Res Left = λ b. (λ t. (if b then f else (λ u. ok left_falls u)) t) in
        let g : Value → State → Res Left = λ v. (λ t. then_by (rb v t) f') in
        let inner_act : Fueled Flow = onward j1 i turn_stmts in
        let first : Fueled Flow = ex j1 world at low o outer (expr_code o 0 e) in
        let shaped : Flow → Fueled Flow = λ flow n'. (λ t. onto (after flow (ex j1 world at low o outer tail n') t) (λ fl. after_turn fl (rest_of (suc i) (whole j1) n'))) in
        let spends : Spends entries j (rest_of i (whole j)) inner_act m l = record {
          steps = λ q k' budget c h'.
              let more_left : k' + (budget + 1) ≡ suc (k' + budget) = omega arith in
              ap (λ (left : ℕ). rest_of i (whole j) q (from c m l left)) more_left ∙ begins i q (k' + budget) (whole j) c m l (omega arith);
        } in
        sim_spent entries Q j 0 0 (rest_of i (whole j)) inner_act s m l (then_by (then_by r rb) f') spends
        (sim_result entries Q j1 0 0 inner_act s m l (then_by (then_by r rb) f') (then_by r g) (then_then entries r rb f')
        (sim_act entries Q j1 0 0 (λ n'. first n' >>= (λ flow. shaped flow n')) inner_act
        (λ n' c. ap (λ (q : CoreRes Flow). onto q (λ fl. after_turn fl (rest_of (suc i) (whole j1) n'))) (exec_join n' (env_at world at low o outer) (expr_code o 0 e) tail c)
        ∙ onto_onto entries (first n' c) (λ flow. after flow (ex j1 world at low o outer tail n')) (λ fl. after_turn fl (rest_of (suc i) (whole j1) n')))
        s m l (then_by r g)
        (seq entries V Q j1 0 0 40 0 first shaped s m l r g
        (condition_sim entries n world at o env size src0 outer fits floor ss calls calls_follow j1 scope e s m l h fit live.live (ready_now entries n world at o env size src0 outer fits floor src s.memory s.serial s.left m ready) logs)
        (λ v t flow m' l' x logs' fewer.
        let F : Flow → Type 0 = λ y. Sim entries Q j1 (0 + 40) 0 (shaped y) t m' l' (g v t) in
        let S : Value → Type 0 = λ q. Sim entries Q j1 (0 + 40) 0 (shaped falls) t m' l' (g q t) in
        subst F (sym x.falls) (subst S (sym x.value)
        (sim_result entries Q j1 (0 + 40) 0 (shaped falls) t m' l' (g (bool_bytes x.test) t) (f' x.test t) (ap (λ (q : Res Bool). then_by q f') (bool_read at' x.test t))
        (by x.test t m' l' fewer x.waits
        (record { tied = x.ready.tied; newer = x.ready.newer; few = x.ready.few; stays = stays_on src s.memory t.memory ready.stays x.ready.stays })
        (alive_on results scope s.memory t.memory x.ready.stays live) (λ y far. x.others y (inr far) ∙ above y far) logs')))))))
      where
        by : (b : Bool) (t : State) (m' : Memory) (l' : Log ℕ ℕ) → t.left ≤ s.left → WordAt m' (env.low + offset_of (o.first + 0)) (flag b) → Ready entries n world at o env size src0 outer fits floor src t.memory t.serial t.left m' → Alive results scope t.memory → ((x : ℕ) → env.low + size ≤ x → m' x ≡ m0 x) →
            map (read entries) t.log ≡ l' → Sim entries (Done entries n world at o env size src0 outer fits floor scope src m0) (suc j) (0 + 40) 0 (onward (suc j) i tail) t m' l' ((if b then f else (λ u. ok left_falls u)) t)
        by false t m' l' fewer there ready' live' above' logs' = out_sim (suc j) i (0 + 40) src m0 t m' l' (lit≤ tt) there ready' live' above' logs'
        by true t m' l' fewer there ready' live' above' logs' =
            let j1 : ℕ = suc j in
            let Q : Left → State → Flow → Memory → Type 0 = Done entries n world at o env size src0 outer fits floor scope src m0 in
            let W : Runs j1 (ev j1 world at low o outer (waits o 0)) m' l' 2 3 1 m' l' = r_waits entries n world at o env size src0 outer fits floor j1 0 1 m' l' some (lit< tt) there in
            let c : Runs j1 (ex1 j1 world at low o outer (branch (waits o 0) finish (one (leave 0)))) m' l' (2 + 0 + 1) (3 + 0 + 1) falls m' l' =
            r_choose j1 world at low o outer (waits o 0) finish (one (leave 0)) m' m' l' l' 2 3 0 0 1 falls W (r_none j1 world at low o outer m' l') in
            let rest : Stmts = follow turn_code code in
            let later : Flow → Fueled Flow = λ y n'. (λ q. onto (after y (ex j1 world at low o outer rest n') q) (λ fl. after_turn fl (rest_of (suc i) (whole j1) n'))) in
            sim_act entries Q j1 (0 + 40) 0 (λ n'. ex1 j1 world at low o outer (branch (waits o 0) finish (one (leave 0))) n' >>= (λ y. later y n')) (onward j1 i tail)
            (λ n' q. onto_onto entries (ex1 j1 world at low o outer (branch (waits o 0) finish (one (leave 0))) n' q) (λ y. after y (ex j1 world at low o outer rest n')) (λ fl. after_turn fl (rest_of (suc i) (whole j1) n')))
            t m' l' (f t)
            (sim_before entries Q j1 (0 + 40) 0 0 (ex1 j1 world at low o outer (branch (waits o 0) finish (one (leave 0)))) later t m' l' (f t) (2 + 0 + 1) (3 + 0 + 1) falls c (lit≤ tt)
            (k t m' l' fewer live' ready' above' logs'))

    -- the loop, and what is left of it behind i turns
    pub loop_sim : (k i j : ℕ) (src : Blocks) (m0 : Memory) (s : State) (m : Memory) (l : Log ℕ ℕ) → i ≤ j → s.left ≤ k → Alive results scope s.memory → Ready entries n world at o env size src0 outer fits floor src s.memory s.serial s.left m → ((x : ℕ) → env.low + size ≤ x → m x ≡ m0 x) →
        map (read entries) s.log ≡ l → Sim entries (Done entries n world at o env size src0 outer fits floor scope src m0) j 1 0 (rest_of i (whole j)) s m l (turns_while k (truth_of calls env at' e) body s)
    loop_sim zero i j src m0 s m l le less live ready above logs =
        iteration i j src m0 s m l (λ t. stop going t) le live ready above logs
        (λ t m' l' fewer live' ready' above' logs'. record {
          by = record {
            memory = m';
            log = l';
            budget = 0;
            cost = 0;
            is = λ q c g. (turn_begins (suc j) i m' l').stands q c (omega arith) ∙ same_cost c m' l';
            logs = logs';
            late = omega (arith, fewer);
            taken = refl;
          };
        })
      where
        same_cost : (c : CoreState) (m' : Memory) (l' : Log ℕ ℕ) → (let q : CoreRes Flow = halt going (from c m' l' 0) in q) ≡ halt going (to c m' l' 0 0)
        same_cost c m' l' = ap (λ (x : ℕ). let q : CoreRes Flow = halt going (record c { memory = m'; log = l'; left = 0; cost = x }) in q) (sym (add-zero c.cost))
    loop_sim (suc k) i j src m0 s m l le less live ready above logs =
        let test : State → Res Bool = truth_of calls env at' e in
        let turns_left : State → Res Left = turns_while k (truth_of calls env at' e) body in
        let f : State → Res Left = λ u. then_by (body u) (λ flow. left_after flow (turns_while k (truth_of calls env at' e) body)) in
        iteration i j src m0 s m l (turn f) le live ready above logs
        (λ t m' l' fewer live' ready' above' logs'.
        sim_turn entries (Done entries n world at o env size src0 outer fits floor scope src m0) (suc j) 0 0 (onward (suc j) i (follow turn_code code)) (begun_turn (suc j) i) m' l' (turn_begins (suc j) i m' l') t f logs'
        (λ left e'.
        let u : State = record t { left = left; cost = t.cost + 1 } in
        begun_sim (suc j) i 0 src m0 u m' l' (turns_while k (truth_of calls env at' e) body)
        (record { tied = ready'.tied; newer = ready'.newer; few = omega (arith, ready'.few, e'); stays = ready'.stays }) (record { live = record { by = live'.live.by }; result = record { by = live'.result.by } }) above' logs'
        (λ t' m'' l'' live'' ready'' above'' logs'' fewer'. loop_sim k (suc i) (suc j) src m0 t' m'' l'' (omega arith) (omega (arith, fewer, fewer', e')) live'' ready'' above'' logs'')))
