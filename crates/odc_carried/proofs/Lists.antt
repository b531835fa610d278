-- Statements in a row, blocks and conditions.
use Rattle.std.proofs.Common.{◌≡◌, ℕ, ◌+◌, ◌≤◌, inr, Bool, true, false, arith, ap, ◌∙◌, refl}
use Rattle.std.specs.Prelude.{if◌then◌else◌}
use Rattle.odc_text.specs.declared.place.Place.{Place}
use Rattle.rv_table.specs.Words.{flag}
use Rattle.odc_program.specs.States.Bytes.{Value, truth_bytes}
use Rattle.odc_program.specs.States.Run.{Res, ok, stop, then_by}
use Rattle.odc_program.specs.States.State.{State, Leave, ends, back, Do, Context}
use Rattle.odc_program.specs.Kinds.Places.{read_truth}
use Rattle.odc_program.specs.Runs.Statements.{Left, Part, after_falls, caught_by, scoped, labelled, stopped_at, headed}
use Rattle.odc_program.specs.Runs.Statements.{Flow as LeftFlow, falls as left_falls, breaks, continues, passes, returns}
use Rattle.odc_core.specs.Tree.{Expr as CoreExpr, choose as branch, Stmts}
use Rattle.odc_core.specs.Run.{Flow, falls, leaves, answers, after, pure, ◌>>=◌}
use Rattle.odc_core.specs.Run.{Res as CoreRes, ok as fine, stop as halt, then_by as onto}
use Rattle.odc_carried.specs.Code.{join, one}
use Rattle.odc_carried.specs.Tied.{Site, cenv}
use Rattle.odc_carried.proofs.Runs.{Face, Fueled, runs_pure}
use Rattle.odc_carried.proofs.Sims.{Sim, seq, sim_runs, sim_act, sim_map, sim_richer, sim_result, then_then}
use Rattle.odc_carried.proofs.Ties.{Facts}
use Rattle.odc_carried.proofs.Frame.{exec_join, ex1, ex}
use Rattle.odc_carried.proofs.Quiet.{Quiet, quiet_as, IsTruth}
use Rattle.odc_carried.proofs.Codes.{Ready, Codes}
use Rattle.odc_carried.proofs.Branches.{branch_true, branch_false}
use Rattle.odc_carried.proofs.Stmts.{AreLeft, Done}

-- a single statement's run is that of the statement
pub alone : (r : CoreRes Flow) → onto r (λ f. after f (pure falls)) ≡ r
alone (fine falls t) = refl
alone (fine (leaves d) t) = refl
alone (fine (answers w) t) = refl
alone (halt e t) = refl

module _ (S : Site) (F : Facts S) where
  pub one_sim : {A : Type 0} (Q : A → State → Flow → Face → Type 0) (j b g : ℕ) (x : _) (s : State) (h : Face) (r : Res Leave State A) → Sim S.entries Q j b g (ex1 S x) s h r → Sim S.entries Q j b g (ex S (one x)) s h r
  one_sim Q j b g x s h r sim = sim_act S.entries Q j b g (ex1 S x) (ex S (one x)) (λ n c. alone (ex1 S x n c)) s h r sim

  -- ---- what lies above the frame stays
  pub done_on : (h0 h : Face) (v : Left) (t : State) (flow : Flow) (h' : Face) → ((i : ℕ) → S.low + S.proc.frame ≤ i → h.memory i ≡ h0.memory i) → Done S F h v t flow h' → Done S F h0 v t flow h'
  done_on h0 h v t flow h' above d = record { left = d.left; ready = d.ready; above = λ i far. d.above i far ∙ above i far }

  -- ---- one after another
  pub join_sim : (j b1 b2 : ℕ) (h0 : Face) (a c : Stmts) (s : State) (h : Face) (r : Res Leave State Left) (rest : Part) → Sim S.entries (Done S F h0) j b1 0 (ex S a) s h r →
      ((t : State) (h' : Face) (d : Context) → Ready S F t h' → ((i : ℕ) → S.low + S.proc.frame ≤ i → h'.memory i ≡ h0.memory i) → t.left ≤ s.left → Sim S.entries (Done S F h0) j b2 0 (ex S c) t h' (rest d t)) →
      Sim S.entries (Done S F h0) j (b1 + b2) 0 (ex S (join a c)) s h (then_by r (λ l. after_falls rest l.flow l.context))
  join_sim j b1 b2 h0 a c s h r rest sim k =
      sim_act S.entries (Done S F h0) j (b1 + b2) 0 (λ n. ex S a n >>= (λ flow. after flow (ex S c n))) (ex S (join a c)) (λ n q. exec_join n (cenv S) a c q) s h (then_by r (λ l. after_falls rest l.flow l.context))
      (seq S.entries (Done S F h0) (Done S F h0) j b1 b2 0 0 (ex S a) (λ flow n. after flow (ex S c n)) s h r (λ l. after_falls rest l.flow l.context) sim
      (λ v t flow h' d told fewer. by v.flow v.context flow t h' d.left d.ready d.above fewer))
    where
      by : (f : LeftFlow) (d : Context) (flow : Flow) (t : State) (h' : Face) → AreLeft S F f flow t → Ready S F t h' → ((i : ℕ) → S.low + S.proc.frame ≤ i → h'.memory i ≡ h0.memory i) → t.left ≤ s.left → Sim S.entries (Done S F h0) j (b2 + 0) 0 (λ n. after flow (ex S c n)) t h' (after_falls rest f d t)
      by left_falls d falls t h' l ready above fewer = sim_richer S.entries (Done S F h0) j b2 (b2 + 0) 0 (ex S c) t h' (rest d t) (omega arith) (k t h' d ready above fewer)
      by returns d (answers w) t h' l ready above fewer =
          sim_runs S.entries (Done S F h0) j (b2 + 0) 0 (λ n. pure (answers w)) t h' h' (record { flow = returns; context = d }) 0 0 (answers w) (runs_pure j (answers w) h') ready.told ready.told (omega arith) (record { left = l; ready = ready; above = above })
      by left_falls d (leaves q) t h' l ready above fewer = absurd l
      by left_falls d (answers w) t h' l ready above fewer = absurd l
      by returns d falls t h' l ready above fewer = absurd l
      by returns d (leaves q) t h' l ready above fewer = absurd l
      by (breaks x) d flow t h' l ready above fewer = absurd l
      by (continues x) d flow t h' l ready above fewer = absurd l
      by passes d flow t h' l ready above fewer = absurd l

  -- `or_return` doesn't stand here
  pub caught_sim : (j b : ℕ) (h0 : Face) (act : Fueled Flow) (c : Context) (s : State) (h : Face) (r : Res Leave State Left) → Sim S.entries (Done S F h0) j b 0 act s h r → Sim S.entries (Done S F h0) j b 0 act s h (caught_by c r)
  caught_sim j b h0 act c s h (ok v t) x = x
  caught_sim j b h0 act c s h (stop (ends e) t) x = x
  caught_sim j b h0 act c s h (stop back t) x = absurd x.by

  pub scoped_sim : (j b : ℕ) (h0 : Face) (act : Fueled Flow) (c : Context) (s : State) (h : Face) (m : Part) → Sim S.entries (Done S F h0) j b 0 act s h (m c s) → Sim S.entries (Done S F h0) j b 0 act s h (scoped m c s)
  scoped_sim j b h0 act c s h m x = sim_map S.entries (Done S F h0) (Done S F h0) j b 0 act s h (m c s) (λ l. record { flow = l.flow; context = c }) (λ v t flow h' d. record { left = d.left; ready = d.ready; above = d.above }) x

  pub labelled_sim : (j b l : ℕ) (h0 : Face) (act : Fueled Flow) (c : Context) (s : State) (h : Face) (m : Part) → Sim S.entries (Done S F h0) j b 0 act s h (m c s) → Sim S.entries (Done S F h0) j b 0 act s h (labelled l m c s)
  labelled_sim j b l h0 act c s h m x =
      sim_map S.entries (Done S F h0) (Done S F h0) j b 0 act s h (m c s) (λ r. record { flow = stopped_at l r.flow; context = r.context })
      (λ v t flow h' d. record { left = by v.flow flow t d.left; ready = d.ready; above = d.above }) x
    where
      by : (f : LeftFlow) (flow : Flow) (t : State) → AreLeft S F f flow t → AreLeft S F (stopped_at l f) flow t
      by left_falls flow t e = e
      by returns flow t e = e
      by (breaks k) flow t e = absurd e
      by (continues k) flow t e = absurd e
      by passes flow t e = absurd e

  -- a header before what sees its context
  pub headed_sim : (j b1 b2 : ℕ) (h0 : Face) (a body : Stmts) (c : Context) (s : State) (h : Face) (init m : Part) → Sim S.entries (Done S F h0) j b1 0 (ex S a) s h (init c s) →
      ((t : State) (h' : Face) (d : Context) → Ready S F t h' → ((i : ℕ) → S.low + S.proc.frame ≤ i → h'.memory i ≡ h0.memory i) → t.left ≤ s.left → Sim S.entries (Done S F h0) j b2 0 (ex S body) t h' (m d t)) →
      Sim S.entries (Done S F h0) j (b1 + b2) 0 (ex S (join a body)) s h (headed init m c s)
  headed_sim j b1 b2 h0 a body c s h init m x k =
      scoped_sim j (b1 + b2) h0 (ex S (join a body)) c s h (λ c. (λ s. then_by (init c s) (λ l. after_falls m l.flow l.context))) (join_sim j b1 b2 h0 a body s h (init c s) m x k)

  -- ---- a choice between two lists
  truth_read_back : (at : Place) (b : Bool) (t : State) → read_truth at (truth_bytes b) t ≡ ok b t
  truth_read_back at true t = refl
  truth_read_back at false t = refl

  pub choice_sim : (at : Place) (before : Stmts) (value : CoreExpr) (m : Do Value) → Codes S F IsTruth before value 0 m → (j b : ℕ) (h0 : Face) (first second : Stmts) (then1 else1 : Do Left) (s : State) (h : Face) → Ready S F s h → ((i : ℕ) → S.low + S.proc.frame ≤ i → h.memory i ≡ h0.memory i) →
      ((t : State) (h' : Face) → Ready S F t h' → ((i : ℕ) → S.low + S.proc.frame ≤ i → h'.memory i ≡ h0.memory i) → t.left ≤ s.left → Sim S.entries (Done S F h0) j b 0 (ex S first) t h' (then1 t)) →
      ((t : State) (h' : Face) → Ready S F t h' → ((i : ℕ) → S.low + S.proc.frame ≤ i → h'.memory i ≡ h0.memory i) → t.left ≤ s.left → Sim S.entries (Done S F h0) j b 0 (ex S second) t h' (else1 t)) →
      Sim S.entries (Done S F h0) j b 0 (ex S (join before (one (branch value first second)))) s h (then_by (then_by (m s) (read_truth at)) (λ c. if c then then1 else else1))
  choice_sim at before value m codes j b h0 first second then1 else1 s h ready above on off =
      sim_result S.entries (then_then S.entries (m s) (read_truth at) (λ c. if c then then1 else else1))
      (codes.by (one (branch value first second)) (Done S F h0) j b 0 s h (λ v. (λ t. then_by (read_truth at v t) (λ c. if c then then1 else else1))) ready
      (λ v t w L h' holds q ready' alike fewer.
      let c : Bool = holds.b in
      let far : (i : ℕ) → S.low + S.proc.frame ≤ i → h'.memory i ≡ h0.memory i = λ i k. alike.by i (inr k) ∙ above i k in
      let qc : Quiet S value h' (flag c) L = quiet_as S value h' w (flag c) L holds.word q in
      sim_result S.entries (ap (λ (z : Value). then_by (read_truth at z t) (λ c. if c then then1 else else1)) holds.value ∙ ap (λ (r : Res Leave State Bool). then_by r (λ c. if c then then1 else else1)) (truth_read_back at c t))
      (sim_richer S.entries (Done S F h0) j (b + L + 1) (b + (L + 8)) 0 (ex S (one (branch value first second))) t h' ((if c then then1 else else1) t) (omega arith)
      (one_sim (Done S F h0) j (b + L + 1) 0 (branch value first second) t h' ((if c then then1 else else1) t) (by c t h' L qc (on t h' ready' far fewer) (off t h' ready' far fewer))))))
    where
      by : (c : Bool) (t : State) (h' : Face) (L : ℕ) → Quiet S value h' (flag c) L → Sim S.entries (Done S F h0) j b 0 (ex S first) t h' (then1 t) → Sim S.entries (Done S F h0) j b 0 (ex S second) t h' (else1 t) →
          Sim S.entries (Done S F h0) j (b + L + 1) 0 (ex1 S (branch value first second)) t h' ((if c then then1 else else1) t)
      by true t h' L q y n = branch_true S F (Done S F h0) j b 0 value first second t h' 1 L q (then1 t) refl y
      by false t h' L q y n = branch_false S F (Done S F h0) j b 0 value first second t h' 0 L q (else1 t) refl n
