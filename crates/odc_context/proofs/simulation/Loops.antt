-- Conditions, loops and returns.
use Rattle.std.proofs.Common.{◌≡◌, ℕ, ◌+◌, ◌^◌, ◌<◌, ◌≤◌, inr, Bool, true, false, List, map, arith, ap, ◌∙◌, sym, subst, lit<, lit≤}
use Rattle.std.specs.Prelude.{◌==◌, if◌then◌else◌}
use Rattle.odc_text.specs.declared.place.Place.{Place}
use Rattle.odc_text.specs.Run.{checked, Log}
use Rattle.odc_typed.specs.Tree.{Expr}
use Rattle.odc_typed.specs.Bytes.{Value}
use Rattle.odc_typed.specs.Memory.{Memory as Blocks}
use Rattle.odc_typed.specs.Well.{Signature, Scope}
use Rattle.odc_typed.specs.Source.{State, Res, ok, stop, then_by, Calls, Env, value_of}
use Rattle.odc_core.specs.Tree.{Stmts, finish}
use Rattle.odc_core.specs.Memory.{Memory}
use Rattle.odc_core.specs.Run.{Flow, falls, leaves, answers, World, spend, pure, ◌>>=◌}
use Rattle.odc_context.specs.Code.{Own, offset_of, join, one, waits, expr_code, depth_of}
use Rattle.odc_context.proofs.Runs.{Fueled, Runs, runs_pure, runs_spend}
use Rattle.odc_context.proofs.Sims.{read, Sim, sim_runs, sim_tick, sim_act, sim_before, sim_behind, sim_result, sim_weaker}
use Rattle.odc_context.proofs.Touched.{WordAt}
use Rattle.odc_context.proofs.Frame.{ev, ex, ex1, r_none}
use Rattle.odc_context.proofs.Ties.{Floor, Stays, stays_on}
use Rattle.odc_context.proofs.simulation.Exprs.{Fits, Ready, Zone, Live, live_on, join_sim, r_waits}
use Rattle.odc_context.proofs.simulation.Nodes.{alone, CallsFollow}
use Rattle.odc_context.proofs.simulation.Values.{kept}
use Rattle.rv_table.specs.Words.{flag}
use Rattle.odc_typed.specs.Bytes.{number_of}
use Rattle.odc_typed.specs.Source.{bool_bytes, truth_of, read_bool, Flow as Left, falls as left_falls}
use Rattle.odc_typed.specs.Well.{IsCondition}
use Rattle.odc_context.proofs.simulation.Conditions.{Tested, condition_sim}
use Rattle.odc_context.proofs.Sims.{then_then}
use Rattle.odc_core.specs.Tree.{choose as branch}
use Rattle.odc_typed.specs.Source.{returns}
use Rattle.odc_text.specs.Run.{going, exited, strayed, trapped}
use Rattle.odc_context.proofs.simulation.Stmts.{AreLeft, Done, ready_now}
use Rattle.odc_context.proofs.simulation.Forms.{bool_read}

-- less is kept than could be
pub spare_less : (entries : ℕ → ℕ) {A B : Type 0} (R : A → State → B → Memory → Type 0) (j g g' c b : ℕ) (act : Fueled B) (s : State) (m : Memory) (l : Log ℕ ℕ) (r : Res A) → g' ≤ g → b ≤ c → Sim entries R j b g act s m l r → Sim entries R j c g' act s m l r
spare_less entries R j g g' c b act s m l (ok v t) h k x = record {
  by = record {
    word = x.by.word;
    memory = x.by.memory;
    log = x.by.log;
    budget = x.by.budget;
    cost = x.by.cost;
    runs = x.by.runs;
    holds = x.by.holds;
    logs = x.by.logs;
    cheap = omega (arith, x.by.cheap);
    turns = x.by.turns;
    fewer = x.by.fewer;
    taken = x.by.taken;
  };
}
spare_less entries R j g g' c b act s m l (stop (checked which at) t) h k x =
    record { by = record { memory = x.by.memory; log = x.by.log; budget = x.by.budget; cost = x.by.cost; is = x.by.is; logs = x.by.logs; cheap = omega (arith, x.by.cheap); taken = x.by.taken } }
spare_less entries R j g g' c b act s m l (stop going t) h k x = record { by = x.by }
spare_less entries R j g g' c b act s m l (stop (exited code) t) h k x = record { by = x.by }
spare_less entries R j g g' c b act s m l (stop (strayed at) t) h k x = record { by = x.by }
spare_less entries R j g g' c b act s m l (stop (trapped pc) t) h k x = record { by = x.by }

module _ (entries : ℕ → ℕ) (n : ℕ) (world : World) (at : Place) (o : Own) (env : Env) (size : ℕ) (src0 : Blocks) (outer : ℕ → Bool) (fits : Fits env.low size o) (floor : Floor env size src0) where
  abbrev low : ℕ
  low = env.low

  -- what a part inside leaves, told of what is around it
  pub done_around : (scope inner : Scope) (src src' : Blocks) (m m' : Memory) (v : Left) (t : State) (flow : Flow) (m'' : Memory) → Live entries n world at o env size src0 outer fits floor scope src' → Stays src src' → ((x : ℕ) → env.low + size ≤ x → m' x ≡ m x) → Done entries n world at o env size src0 outer fits floor inner src' m' v t flow m'' →
      Done entries n world at o env size src0 outer fits floor scope src m v t flow m''
  done_around scope inner src src' m m' v t flow m'' live stays above d = record {
    left = by v flow d.left;
    ready = record { tied = d.ready.tied; newer = d.ready.newer; few = d.ready.few; stays = stays_on src src' t.memory stays d.ready.stays };
    above = λ x far. d.above x far ∙ above x far;
  }
    where
      by : (v : Left) (flow : Flow) → AreLeft entries n world at o env size src0 outer fits floor inner v flow t.memory m'' → AreLeft entries n world at o env size src0 outer fits floor scope v flow t.memory m''
      by left_falls falls f = record { live = live_on entries n world at o env size src0 outer fits floor scope src' t.memory d.ready.stays live }
      by left_falls (leaves q) f = absurd f
      by left_falls (answers w) f = absurd f
      by returns falls f = absurd f
      by returns (leaves q) f = absurd f
      by returns (answers w) f = f

  module _ (ss : List Signature) (calls : Calls) (calls_follow : CallsFollow entries n world at o env size src0 outer fits floor ss calls) where
    -- a condition's code and what goes on with its truth value
    pub test_then : (j b g : ℕ) (scope : Scope) (at' : Place) (e : Expr) (tail : Stmts) (Q : Left → State → Flow → Memory → Type 0) (s : State) (m : Memory) (l : Log ℕ ℕ) (f : Bool → State → Res Left) → IsCondition ss scope e → depth_of e ≤ o.waiting →
        Live entries n world at o env size src0 outer fits floor scope s.memory → Ready entries n world at o env size src0 outer fits floor s.memory s.memory s.serial s.left m → map (read entries) s.log ≡ l →
        ((b' : Bool) (t : State) (m' : Memory) (l' : Log ℕ ℕ) → WordAt m' (env.low + offset_of (o.first + 0)) (flag b') → Ready entries n world at o env size src0 outer fits floor s.memory t.memory t.serial t.left m' → ((x : ℕ) → Zone entries n world at o env size src0 outer fits floor 0 x → m' x ≡ m x) → map (read entries) t.log ≡ l' →
        Sim entries Q j (b + 40) g (ex j world at low o outer tail) t m' l' (f b' t)) →
        Sim entries Q j b g (ex j world at low o outer (join (expr_code o 0 e) tail)) s m l (then_by (truth_of calls env at' e s) f)
    test_then j b g scope at' e tail Q s m l f h fit live ready logs k =
        let V : Value → State → Flow → Memory → Type 0 = Tested entries n world at o env size src0 outer fits floor s.memory m in
        let act : Fueled Flow = ex j world at low o outer (join (expr_code o 0 e) tail) in
        let rb : Value → State → Res Bool = λ v. (λ t. read_bool at' (number_of v) t) in
        let g' : Value → State → Res Left = λ v. (λ t. then_by (rb v t) f) in
        let r : Res Value = value_of calls env e s in
        let P : ℕ → Type 0 = λ q. Sim entries Q j q g act s m l (then_by (then_by r rb) f) in
        let none : 0 + b ≡ b = omega arith in
        subst P none
        (sim_result entries Q j (0 + b) g act s m l (then_by (then_by r rb) f) (then_by r g') (then_then entries r rb f)
        (join_sim entries n world at o env size src0 outer fits floor j V Q 0 b 40 g (expr_code o 0 e) tail s m l r g' (condition_sim entries n world at o env size src0 outer fits floor ss calls calls_follow j scope e s m l h fit live ready logs) (λ v t flow m' x. x.falls)
        (λ v t m' l' x logs'.
        let S : Value → Type 0 = λ q. Sim entries Q j (b + 40) g (ex j world at low o outer tail) t m' l' (g' q t) in
        subst S (sym x.value)
        (sim_result entries Q j (b + 40) g (ex j world at low o outer tail) t m' l' (g' (bool_bytes x.test) t) (f x.test t) (ap (λ (q : Res Bool). then_by q f) (bool_read at' x.test t))
        (k x.test t m' l' x.waits x.ready x.others logs')))))

    pub flag_small : (b : Bool) → flag b < 2 ^ 64
    flag_small true = lit< tt
    flag_small false = lit< tt

    -- ---- `if`

    pub choose_sim : (j : ℕ) (scope : Scope) (at' : Place) (e : Expr) (code : Stmts) (s : State) (m : Memory) (l : Log ℕ ℕ) (inner : Scope) (body : State → Res Left) → IsCondition ss scope e → depth_of e ≤ o.waiting → 0 < o.waiting →
        Live entries n world at o env size src0 outer fits floor scope s.memory → Ready entries n world at o env size src0 outer fits floor s.memory s.memory s.serial s.left m → map (read entries) s.log ≡ l →
        ((t : State) (m' : Memory) (l' : Log ℕ ℕ) → Live entries n world at o env size src0 outer fits floor scope t.memory → Stays s.memory t.memory → Ready entries n world at o env size src0 outer fits floor t.memory t.memory t.serial t.left m' → map (read entries) t.log ≡ l' →
        Sim entries (Done entries n world at o env size src0 outer fits floor inner t.memory m') j 0 0 (ex j world at low o outer code) t m' l' (body t)) →
        Sim entries (Done entries n world at o env size src0 outer fits floor scope s.memory m) j 0 0 (ex j world at low o outer (join (expr_code o 0 e) (one (branch (waits o 0) code finish)))) s m l
        (then_by (truth_of calls env at' e (record s { cost = s.cost + 1 })) (λ b. (λ t. (if b then body else (λ u. ok left_falls u)) t)))
    choose_sim j scope at' e code s m l inner body h fit some live ready logs k =
        let s1 : State = record s { cost = s.cost + 1 } in
        let Q : Left → State → Flow → Memory → Type 0 = Done entries n world at o env size src0 outer fits floor scope s.memory m in
        let tail : Stmts = one (branch (waits o 0) code finish) in
        let f : Bool → State → Res Left = λ b. (λ t. (if b then body else (λ u. ok left_falls u)) t) in
        sim_tick entries Q j 0 (ex j world at low o outer (join (expr_code o 0 e) tail)) m l 0 s (then_by (truth_of calls env at' e s1) f)
        (test_then j (0 + 100) 0 scope at' e tail Q s1 m l f h fit (record { by = live.by }) (record { tied = ready.tied; newer = ready.newer; few = ready.few; stays = ready.stays }) logs
        (λ b t m' l' word ready' others logs'.
        let live' : Live entries n world at o env size src0 outer fits floor scope t.memory = live_on entries n world at o env size src0 outer fits floor scope s.memory t.memory ready'.stays live in
        let W : Runs j (ev j world at low o outer (waits o 0)) m' l' 2 3 (flag b) m' l' = r_waits entries n world at o env size src0 outer fits floor j 0 (flag b) m' l' some (flag_small b) word in
        let more : ℕ → Fueled Flow = λ v i. if v == 0 then ex j world at low o outer finish i else ex j world at low o outer code i in
        let inside : Sim entries Q j 3 3 (more (flag b)) t m' l' (f b t) = by b t m' l' live' ready' others logs' in
        let sim1 = sim_before entries Q j 6 3 3 (ev j world at low o outer (waits o 0)) more t m' l' (f b t) 2 3 (flag b) W (lit≤ tt) inside in
        let sim2 = sim_behind entries Q Q j 6 1 3 (λ i. ev j world at low o outer (waits o 0) i >>= (λ v. more v i)) (λ v i. spend (pure v)) t m' l' (f b t) sim1
        (λ v t' w m'' x. record { word = w; memory = m''; budget = 1; runs = (λ q. runs_spend j (λ i. pure w) m'' q 0 0 w m'' q (runs_pure j w m'' q)); holds = x }) in
        spare_less entries Q j 3 0 (0 + 100 + 40) 7 (ex j world at low o outer tail) t m' l' (f b t) (lit≤ tt) (lit≤ tt)
        (sim_act entries Q j 7 3 (ex1 j world at low o outer (branch (waits o 0) code finish)) (ex j world at low o outer tail) (λ i c. alone (ex1 j world at low o outer (branch (waits o 0) code finish) i c)) t m' l' (f b t) sim2)))
      where
        by : (b : Bool) (t : State) (m' : Memory) (l' : Log ℕ ℕ) → Live entries n world at o env size src0 outer fits floor scope t.memory → Ready entries n world at o env size src0 outer fits floor s.memory t.memory t.serial t.left m' → ((x : ℕ) → Zone entries n world at o env size src0 outer fits floor 0 x → m' x ≡ m x) → map (read entries) t.log ≡ l' →
            Sim entries (Done entries n world at o env size src0 outer fits floor scope s.memory m) j 3 3 (λ i. if (flag b) == 0 then ex j world at low o outer finish i else ex j world at low o outer code i) t m' l' ((if b then body else (λ u. ok left_falls u)) t)
        by true t m' l' live' ready' others logs' =
            kept entries (Done entries n world at o env size src0 outer fits floor scope s.memory m) j 0 3 3 (lit≤ tt) (ex j world at low o outer code) t m' l' (body t)
            (sim_weaker entries (Done entries n world at o env size src0 outer fits floor inner t.memory m') (Done entries n world at o env size src0 outer fits floor scope s.memory m) j 0 0 (ex j world at low o outer code) t m' l' (body t)
            (λ v t' w m'' d. done_around scope inner s.memory t.memory m m' v t' w m'' live' ready'.stays (λ x far. others x (inr far)) d)
            (k t m' l' live' ready'.stays (ready_now entries n world at o env size src0 outer fits floor s.memory t.memory t.serial t.left m' ready') logs'))
        by false t m' l' live' ready' others logs' =
            sim_runs entries (Done entries n world at o env size src0 outer fits floor scope s.memory m) j 3 3 (ex j world at low o outer finish) t m' l' left_falls 0 0 falls m' (r_none j world at low o outer m' l') logs' (lit≤ tt)
            (record { left = record { live = live' }; ready = ready'; above = λ x far. others x (inr far) })
