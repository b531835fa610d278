-- Loops.
use Rattle.std.proofs.Common.{◌≡◌, ℕ, zero, suc, ◌+◌, ◌-◌, ◌<◌, ◌≤◌, inr, Bool, true, false, arith, ap, ◌∙◌, sym, refl, lit<, lit≤}
use Rattle.std.specs.Prelude.{Option, Some, None, ◌==◌, if◌then◌else◌}
use Rattle.odc_text.specs.declared.place.Place.{Place}
use Rattle.odc_text.specs.Run.{going}
use Rattle.rv_table.specs.Words.{flag}
use Rattle.odc_program.specs.States.Bytes.{Value, truth_bytes}
use Rattle.odc_program.specs.States.Run.{Res, ok, stop, then_by}
use Rattle.odc_program.specs.States.State.{State, Leave, ends, Do, Context, turn, turn_from}
use Rattle.odc_program.specs.Kinds.Places.{read_truth}
use Rattle.odc_program.specs.Runs.Statements.{Left, left_by, Part, after_falls, goes_on, next_turn, run_turn}
use Rattle.odc_program.specs.Runs.Statements.{turns as source_turns}
use Rattle.odc_program.specs.Runs.Statements.{Flow as LeftFlow, falls as left_falls, breaks, continues, passes, returns}
use Rattle.odc_core.specs.Tree.{Expr as CoreExpr, const as word, choose as branch, leave, Stmts, finish, follow}
use Rattle.odc_core.specs.Run.{Flow, falls, leaves, answers, after, after_turn, turns, pure, spend, ◌>>=◌}
use Rattle.odc_core.specs.Run.{State as CoreState, Res as CoreRes, ok as fine, stop as halt, then_by as onto}
use Rattle.odc_carried.specs.Code.{join, one}
use Rattle.odc_carried.specs.Tied.{Site, cenv}
use Rattle.odc_carried.proofs.Runs.{Face, at as standing, Fueled, runs_pure, runs_then}
use Rattle.odc_carried.proofs.Sims.{Sim, seq, sim_runs, sim_first, sim_act, sim_turn, sim_out, sim_leads, sim_richer, sim_result, then_then, onto_onto}
use Rattle.odc_carried.proofs.Ties.{Facts}
use Rattle.odc_carried.proofs.Frame.{exec_join, ev, ex1, ex, r_one, r_choose, r_leave}
use Rattle.odc_carried.proofs.Quiet.{Quiet, quiet_const, quiet_as, IsTruth}
use Rattle.odc_carried.proofs.Codes.{Ready, Codes}
use Rattle.odc_carried.proofs.Stmts.{AreLeft, Gave, Done}
use Rattle.odc_carried.proofs.Turns.{rest_of, begins}

-- ---- a turn of the source by itself: whether another one may follow
pub data Turned : Type 0 where
  again : (c : Context) → Turned
  ended : (l : Left) → Turned

abbrev behind_post : LeftFlow → Context → Do Turned
behind_post left_falls c t = ok (again c) t
behind_post f c t = ok (ended (record { flow = f; context = c })) t

abbrev behind_body : Option LeftFlow → Part → Context → Do Turned
behind_body None post c t = then_by (post c t) (λ q. behind_post q.flow q.context)
behind_body (Some f) post c t = ok (ended (record { flow = f; context = c })) t

abbrev turn_run : ℕ → Part → Part → Context → Do Turned
turn_run l body post c t = then_by (body c t) (λ r. behind_body (goes_on l r.flow) post r.context)

-- with so much fuel
abbrev begun : ℕ → ℕ → Part → Part → Context → Do Turned
begun zero l body post c t = stop (ends going) t
begun (suc n) l body post c t = turn (turn_run l body post c) t

abbrev pub turned : ℕ → ℕ → (Context → Do Bool) → Part → Part → Context → Do Turned
turned n l test body post c t = then_by (test c t) (λ b. if b then begun n l body post c else (λ u. ok (ended (record { flow = left_falls; context = c })) u))

abbrev on_by : Part → Turned → Do Left
on_by next (again c) t = next c t
on_by next (ended l) t = ok l t

-- the turns behind it, with less fuel
abbrev pub fewer_turns : ℕ → ℕ → (Context → Do Bool) → Part → Part → Part
fewer_turns zero l test body post c t = stop (ends going) t
fewer_turns (suc n) l test body post c t = source_turns n l test body post c t

behind_post_is : (next : Part) (r : Res Leave State Left) → then_by r (λ q. after_falls next q.flow q.context) ≡ then_by (then_by r (λ q. behind_post q.flow q.context)) (on_by next)
behind_post_is next (stop why t) = refl
behind_post_is next (ok v t) = by v.flow v.context
  where
    by : (f : LeftFlow) (c : Context) → after_falls next f c t ≡ then_by (behind_post f c t) (on_by next)
    by left_falls c = refl
    by (breaks k) c = refl
    by (continues k) c = refl
    by passes c = refl
    by returns c = refl

behind_body_is : (l : ℕ) (post next : Part) (r : Res Leave State Left) →
    then_by r (λ r. next_turn (goes_on l r.flow) (λ d. (λ t. then_by (post d t) (λ q. after_falls next q.flow q.context))) r.context) ≡ then_by (then_by r (λ r. behind_body (goes_on l r.flow) post r.context)) (on_by next)
behind_body_is l post next (stop why t) = refl
behind_body_is l post next (ok v t) = by (goes_on l v.flow) v.context
  where
    by : (f : Option LeftFlow) (c : Context) → next_turn f (λ d. (λ t. then_by (post d t) (λ q. after_falls next q.flow q.context))) c t ≡ then_by (behind_body f post c t) (on_by next)
    by None c = behind_post_is next (post c t)
    by (Some f) c = refl

pub turns_is : (n l : ℕ) (test : Context → Do Bool) (body post : Part) (c : Context) (t : State) → source_turns n l test body post c t ≡ then_by (turned n l test body post c t) (on_by (fewer_turns n l test body post))
turns_is zero l test body post c t = by (test c t)
  where
    by : (r : Res Leave State Bool) → then_by r (λ b. if b then (λ u. stop (ends going) u) else left_by left_falls c) ≡ then_by (then_by r (λ b. if b then begun zero l body post c else (λ u. ok (ended (record { flow = left_falls; context = c })) u))) (on_by (fewer_turns zero l test body post))
    by (ok true u) = refl
    by (ok false u) = refl
    by (stop why u) = refl
turns_is (suc n) l test body post c t = by (test c t)
  where
    inside : (left : ℕ) (u : State) → then_by (turn_from left u) (λ _. (λ t. then_by (body c t) (λ r. next_turn (goes_on l r.flow) (λ d. (λ t. then_by (post d t) (λ q. after_falls (source_turns n l test body post) q.flow q.context))) r.context))) ≡
        then_by (then_by (turn_from left u) (λ _. turn_run l body post c)) (on_by (source_turns n l test body post))
    inside zero u = refl
    inside (suc left) u = behind_body_is l post (source_turns n l test body post) (body c (record u { left = left; cost = u.cost + 1 }))

    by : (r : Res Leave State Bool) → then_by r (λ b. if b then run_turn l body post (source_turns n l test body post) c else left_by left_falls c) ≡
        then_by (then_by r (λ b. if b then begun (suc n) l body post c else (λ u. ok (ended (record { flow = left_falls; context = c })) u))) (on_by (fewer_turns (suc n) l test body post))
    by (ok true u) = inside u.left u
    by (ok false u) = refl
    by (stop why u) = refl

module _ (S : Site) (F : Facts S) where
  abbrev pub Above : Face → Face → Type 0
  Above h0 h = (i : ℕ) → S.low + S.proc.frame ≤ i → h.memory i ≡ h0.memory i

  -- how a turn is left, on both sides: the loop is left where its condition is false, or with the procedure
  abbrev EndLeft : LeftFlow → Flow → State → Type 0
  EndLeft left_falls (leaves zero) t = Unit {0}
  EndLeft returns (answers w) t = Gave S F w t
  EndLeft _ _ t = ⊥

  abbrev TurnLeft : Turned → Flow → State → Type 0
  TurnLeft (again c) falls t = Unit {0}
  TurnLeft (again c) _ t = ⊥
  TurnLeft (ended l) flow t = EndLeft l.flow flow t

  abbrev IsAgain : Turned → Type 0
  IsAgain (again c) = Unit {0}
  IsAgain (ended l) = ⊥

  -- `m` turns were left before it
  pub record TurnDone (m : ℕ) (h0 : Face) (v : Turned) (t : State) (flow : Flow) (h : Face) : Type 0 where
    pub left : TurnLeft v flow t
    pub ready : Ready S F t h
    pub above : Above h0 h
    pub less : IsAgain v → t.left < m

  module _ (l : ℕ) (before : Stmts) (value : CoreExpr) (test : Context → Do Bool) (body post : Part) (B P : Stmts)
      (body_sim : (j : ℕ) (c : Context) (t : State) (h : Face) → Ready S F t h → Sim S.entries (Done S F h) j 0 0 (ex S B) t h (body c t))
      (post_sim : (j : ℕ) (c : Context) (t : State) (h : Face) → Ready S F t h → Sim S.entries (Done S F h) j 0 0 (ex S P) t h (post c t)) where
    -- the code of a turn
    abbrev pub code : Stmts
    code = join before (follow (branch value finish (one (leave 0))) (join B P))

    -- behind the condition: the body and what stands behind it
    body_part : (m j b : ℕ) (h0 : Face) (c : Context) (t : State) (h : Face) → Ready S F t h → Above h0 h → t.left < m → Sim S.entries (TurnDone m h0) j b b (ex S (join B P)) t h (turn_run l body post c t)
    body_part m j b h0 c t h ready above short =
        sim_act S.entries (TurnDone m h0) j b b (λ n. ex S B n >>= (λ flow. after flow (ex S P n))) (ex S (join B P)) (λ n q. exec_join n (cenv S) B P q) t h (turn_run l body post c t)
        (sim_richer S.entries (TurnDone m h0) j (0 + b) b b (λ n. ex S B n >>= (λ flow. after flow (ex S P n))) t h (turn_run l body post c t) (omega arith)
        (seq S.entries (Done S F h) (TurnDone m h0) j 0 b 0 b (ex S B) (λ flow n. after flow (ex S P n)) t h (body c t) (λ r. behind_body (goes_on l r.flow) post r.context) (body_sim j c t h ready)
        (λ v u flow h' d told fewer. by v.flow v.context flow u h' d.left d.ready (λ i far. d.above i far ∙ above i far) (omega (arith, fewer, short)))))
      where
        behind : (f : LeftFlow) (d : Context) (flow : Flow) (u : State) (h' : Face) → AreLeft S F f flow u → Ready S F u h' → Above h0 h' → u.left < m → Sim S.entries (TurnDone m h0) j (b + 0) b (λ n. pure flow) u h' (behind_post f d u)
        behind left_falls d falls u h' e r a less = sim_runs S.entries (TurnDone m h0) j (b + 0) b (λ n. pure falls) u h' h' (again d) 0 0 falls (runs_pure j falls h') r.told r.told (omega arith) (record { left = tt; ready = r; above = a; less = λ x. less })
        behind returns d (answers w) u h' e r a less = sim_runs S.entries (TurnDone m h0) j (b + 0) b (λ n. pure (answers w)) u h' h' (ended (record { flow = returns; context = d })) 0 0 (answers w) (runs_pure j (answers w) h') r.told r.told (omega arith) (record { left = e; ready = r; above = a; less = λ x. less })
        behind left_falls d (leaves q) u h' e r a less = absurd e
        behind left_falls d (answers w) u h' e r a less = absurd e
        behind returns d falls u h' e r a less = absurd e
        behind returns d (leaves q) u h' e r a less = absurd e
        behind (breaks k) d flow u h' e r a less = absurd e
        behind (continues k) d flow u h' e r a less = absurd e
        behind passes d flow u h' e r a less = absurd e

        pure_behind : (r : CoreRes Flow) → onto r (λ f. pure f) ≡ r
        pure_behind (fine v q) = refl
        pure_behind (halt e q) = refl

        by : (f : LeftFlow) (d : Context) (flow : Flow) (u : State) (h' : Face) → AreLeft S F f flow u → Ready S F u h' → Above h0 h' → u.left < m → Sim S.entries (TurnDone m h0) j (b + 0) b (λ n. after flow (ex S P n)) u h' (behind_body (goes_on l f) post d u)
        by left_falls d falls u h' e r a less =
            sim_act S.entries (TurnDone m h0) j (b + 0) b (λ n. ex S P n >>= (λ flow. pure flow)) (ex S P) (λ n q. sym (pure_behind (ex S P n q))) u h' (then_by (post d u) (λ q. behind_post q.flow q.context))
            (sim_richer S.entries (TurnDone m h0) j (0 + b) (b + 0) b (λ n. ex S P n >>= (λ flow. pure flow)) u h' (then_by (post d u) (λ q. behind_post q.flow q.context)) (omega arith)
            (seq S.entries (Done S F h') (TurnDone m h0) j 0 b 0 b (ex S P) (λ flow n. pure flow) u h' (post d u) (λ q. behind_post q.flow q.context) (post_sim j d u h' r)
            (λ v u' flow h'' x told fewer. behind v.flow v.context flow u' h'' x.left x.ready (λ i far. x.above i far ∙ a i far) (omega (arith, fewer, less)))))
        by returns d (answers w) u h' e r a less = sim_runs S.entries (TurnDone m h0) j (b + 0) b (λ n. pure (answers w)) u h' h' (ended (record { flow = returns; context = d })) 0 0 (answers w) (runs_pure j (answers w) h') r.told r.told (omega arith) (record { left = e; ready = r; above = a; less = λ x. less })
        by left_falls d (leaves q) u h' e r a less = absurd e
        by left_falls d (answers w) u h' e r a less = absurd e
        by returns d falls u h' e r a less = absurd e
        by returns d (leaves q) u h' e r a less = absurd e
        by (breaks k) d flow u h' e r a less = absurd e
        by (continues k) d flow u h' e r a less = absurd e
        by passes d flow u h' e r a less = absurd e

    -- ---- where the condition is known
    abbrev chosen : Stmts
    chosen = follow (branch value finish (one (leave 0))) (join B P)

    -- the turn begins where the choice ends
    abbrev ticked : Flow → CoreState → CoreRes Flow
    ticked f q = spend (pure f) q

    abbrev behind_choice : ℕ → Fueled Flow
    behind_choice v n q = onto (onto ((if v == 0 then ex S (one (leave 0)) n else ex S finish n) q) ticked) (λ f. after f (ex S (join B P) n))

    chosen_is : (n : ℕ) (q : CoreState) → ex S chosen n q ≡ onto (ev S value n q) (λ v. behind_choice v n)
    chosen_is n q =
        ap (λ (r : CoreRes Flow). onto r (λ f. after f (ex S (join B P) n))) (onto_onto S.entries (ev S value n q) (λ v. if v == 0 then ex S (one (leave 0)) n else ex S finish n) ticked)
        ∙ onto_onto S.entries (ev S value n q) (λ v. (λ t. onto ((if v == 0 then ex S (one (leave 0)) n else ex S finish n) t) ticked)) (λ f. after f (ex S (join B P) n))

    on_true : (n m : ℕ) (j b : ℕ) (h0 : Face) (c : Context) (t : State) (h : Face) (L : ℕ) → t.left ≤ n → t.left ≤ m → Quiet S value h 1 L → Ready S F t h → Above h0 h → Sim S.entries (TurnDone m h0) j (b + L) 4 (ex S chosen) t h (begun n l body post c t)
    on_true n m j b h0 c t h L few limit q ready above =
        sim_act S.entries (TurnDone m h0) j (b + L) 4 (λ n q. onto (ev S value n q) (λ v. behind_choice v n)) (ex S chosen) chosen_is t h (begun n l body post c t)
        (sim_first S.entries (TurnDone m h0) j (b + L) b 4 (ev S value) behind_choice t h h refl refl refl (begun n l body post c t) q.budget q.cost 1 (q.runs j) (omega (arith, q.cheap)) (by n few))
      where
        by : (n : ℕ) → t.left ≤ n → Sim S.entries (TurnDone m h0) j b 4 (behind_choice 1) t h (begun n l body post c t)
        by zero few = sim_out S.entries (TurnDone m h0) j b 4 (behind_choice 1) t h ready.told (λ n k le. refl) few
        by (suc n) few =
            sim_turn S.entries (TurnDone m h0) j j b 4 4 1 1 (behind_choice 1) (ex S (join B P)) t h (turn_run l body post c) ready.told (λ n k le. refl)
            (record { to = λ n k x le. let more : k + 1 ≡ suc k = omega arith in record { fuel = n; enough = omega arith; is = ap (λ (left : ℕ). behind_choice 1 n (standing h left x)) more } }) (lit≤ tt) (omega arith)
            (λ left e.
            let u : State = record t { left = left; cost = t.cost + 1 } in
            body_part m j 4 h0 c u h (record { now = record { tied = record { byte = ready.now.tied.byte; sane = ready.now.tied.sane }; since = ready.now.since; kept = ready.now.kept; fresh = ready.now.fresh }; newer = ready.newer; few = omega (arith, ready.few, e); told = record { logs = ready.told.logs; input = ready.told.input; taken = ready.told.taken }; answer = ready.answer }) above (omega (arith, e, limit)))

    on_false : (m j b : ℕ) (h0 : Face) (c : Context) (t : State) (h : Face) (L : ℕ) → Quiet S value h 0 L → Ready S F t h → Above h0 h → Sim S.entries (TurnDone m h0) j (b + (L + 8)) 4 (ex S chosen) t h (ok (ended (record { flow = left_falls; context = c })) t)
    on_false m j b h0 c t h L q ready above =
        sim_runs S.entries (TurnDone m h0) j (b + (L + 8)) 4 (ex S chosen) t h h (ended (record { flow = left_falls; context = c })) (q.budget + 1 + 1 + 0) (q.cost + 1 + 1 + 0) (leaves 0)
        (runs_then (ex1 S (branch value finish (one (leave 0)))) (λ f n. after f (ex S (join B P) n)) (r_choose S j value finish (one (leave 0)) (q.runs j) (r_one S j (leave 0) (r_leave S j 0 h))) (runs_pure j (leaves 0) h))
        ready.told ready.told (omega (arith, q.cheap)) (record { left = tt; ready = ready; above = above; less = λ x. absurd x })

  -- ---- conditions of loops: one that isn't there holds
  pub record Cond (before : Stmts) (value : CoreExpr) (m : Do Bool) : Type 1 where
    pub by : {A : Type 0} (tail : Stmts) (Q : A → State → Flow → Face → Type 0) (j b g : ℕ) (s : State) (h : Face) (f : Bool → Do A) → Ready S F s h →
        ((t : State) (L : ℕ) (h' : Face) → Quiet S value h' 1 L → Ready S F t h' → Above h h' → t.left ≤ s.left → Sim S.entries Q j (b + L) g (ex S tail) t h' (f true t)) →
        ((t : State) (L : ℕ) (h' : Face) → Quiet S value h' 0 L → Ready S F t h' → Above h h' → t.left ≤ s.left → Sim S.entries Q j (b + (L + 8)) g (ex S tail) t h' (f false t)) →
        Sim S.entries Q j (b + 1) g (ex S (join before tail)) s h (then_by (m s) f)

  pub cond_absent : Cond finish (word 1) (λ s. ok true s)
  cond_absent = record { by = λ tail Q j b g s h f ready on off. on s 1 h (quiet_const S 1 h (lit< tt)) ready (λ i far. refl) (omega arith) }

  cond_read : (at : Place) (b : Bool) (t : State) → read_truth at (truth_bytes b) t ≡ ok b t
  cond_read at true t = refl
  cond_read at false t = refl

  pub cond_present : (at : Place) (before : Stmts) (value : CoreExpr) (m : Do Value) → Codes S F IsTruth before value 0 m → Cond before value (λ s. then_by (m s) (read_truth at))
  cond_present at before value m codes = record {
    by = λ tail Q j b g s h f ready on off.
        sim_result S.entries (then_then S.entries (m s) (read_truth at) f)
        (sim_richer S.entries Q j b (b + 1) g (ex S (join before tail)) s h (then_by (m s) (λ v. (λ t. then_by (read_truth at v t) f))) (omega arith)
        (codes.by tail Q j b g s h (λ v. (λ t. then_by (read_truth at v t) f)) ready
        (λ v t w L h' holds q ready' alike fewer.
        sim_result S.entries (ap (λ (z : Value). then_by (read_truth at z t) f) holds.value ∙ ap (λ (r : Res Leave State Bool). then_by r f) (cond_read at holds.b t))
        (either_way Q j b g tail f t L h' holds.b (quiet_as S value h' w (flag holds.b) L holds.word q) ready' (λ q. on t L h' q ready' (λ i far. alike.by i (inr far)) fewer) (λ q. off t L h' q ready' (λ i far. alike.by i (inr far)) fewer)))));
  }
    where
      either_way : {A : Type 0} (Q : A → State → Flow → Face → Type 0) (j b g : ℕ) (tail : Stmts) (f : Bool → Do A) (t : State) (L : ℕ) (h' : Face) (c : Bool) → Quiet S value h' (flag c) L → Ready S F t h' →
          (Quiet S value h' 1 L → Sim S.entries Q j (b + L) g (ex S tail) t h' (f true t)) → (Quiet S value h' 0 L → Sim S.entries Q j (b + (L + 8)) g (ex S tail) t h' (f false t)) → Sim S.entries Q j (b + (L + 8)) g (ex S tail) t h' (f c t)
      either_way Q j b g tail f t L h' true q ready' on off = sim_richer S.entries Q j (b + L) (b + (L + 8)) g (ex S tail) t h' (f true t) (omega arith) (on q)
      either_way Q j b g tail f t L h' false q ready' on off = off q

  -- ---- the loop
  module _ (l : ℕ) (before : Stmts) (value : CoreExpr) (test : Context → Do Bool) (body post : Part) (B P : Stmts) (cond : (c : Context) → Cond before value (test c))
      (body_sim : (j : ℕ) (c : Context) (t : State) (h : Face) → Ready S F t h → Sim S.entries (Done S F h) j 0 0 (ex S B) t h (body c t))
      (post_sim : (j : ℕ) (c : Context) (t : State) (h : Face) → Ready S F t h → Sim S.entries (Done S F h) j 0 0 (ex S P) t h (post c t)) where
    abbrev turn_code : Stmts
    turn_code = join before (follow (branch value finish (one (leave 0))) (join B P))

    turn_sim : (n j : ℕ) (h0 : Face) (c : Context) (t : State) (h : Face) → t.left ≤ n → Ready S F t h → Above h0 h → Sim S.entries (TurnDone t.left h0) j 3 4 (ex S turn_code) t h (turned n l test body post c t)
    turn_sim n j h0 c t h few ready above =
        (cond c).by (follow (branch value finish (one (leave 0))) (join B P)) (TurnDone t.left h0) j 2 4 t h (λ b. if b then begun n l body post c else (λ u. ok (ended (record { flow = left_falls; context = c })) u)) ready
        (λ u L h' q ready' above' fewer. on_true l before value test body post B P body_sim post_sim n t.left j 2 h0 c u h' L (omega (arith, few, fewer)) fewer q ready' (λ i far. above' i far ∙ above i far))
        (λ u L h' q ready' above' fewer. on_false l before value test body post B P body_sim post_sim t.left j 2 h0 c u h' L q ready' (λ i far. above' i far ∙ above i far))

    none_left : (m : ℕ) (f : Fueled Flow) (q c : ℕ) (h : Face) → turns m (f q) (standing h 0 c) ≡ halt going (standing h 0 c)
    none_left zero f q c h = refl
    none_left (suc m) f q c h = refl

    -- the turns behind one
    abbrev Next : ℕ → ℕ → ℕ → Face → State → Type 0
    Next n i j h0 t = (d : Context) (u : State) (h' : Face) → u.left < t.left → Ready S F u h' → Above h0 h' → Sim S.entries (Done S F h0) (suc j) 4 0 (rest_of (suc i) (ex S turn_code)) u h' (fewer_turns n l test body post d u)

    behind : (n i j : ℕ) (h0 : Face) (t : State) (v : Turned) (u : State) (fl : Flow) (h' : Face) → TurnLeft v fl u → Ready S F u h' → Above h0 h' → (IsAgain v → u.left < t.left) → Next n i j h0 t →
        Sim S.entries (Done S F h0) (suc j) (0 + 4) 0 (λ q. after_turn fl (rest_of (suc i) (ex S turn_code) q)) u h' (on_by (fewer_turns n l test body post) v u)
    behind n i j h0 t (again d) u falls h' e r a fewer k = k d u h' (fewer tt) r a
    behind n i j h0 t (again d) u (leaves q) h' e r a fewer k = absurd e
    behind n i j h0 t (again d) u (answers w) h' e r a fewer k = absurd e
    behind n i j h0 t (ended v) u fl h' e r a fewer k = by v.flow v.context fl e
      where
        by : (f : LeftFlow) (d : Context) (fl : Flow) → EndLeft f fl u → Sim S.entries (Done S F h0) (suc j) (0 + 4) 0 (λ q. after_turn fl (rest_of (suc i) (ex S turn_code) q)) u h' (let r : Res Leave State Left = ok (record { flow = f; context = d }) u in r)
        by left_falls d (leaves zero) e = sim_runs S.entries (Done S F h0) (suc j) (0 + 4) 0 (λ q. pure falls) u h' h' (record { flow = left_falls; context = d }) 0 0 falls (runs_pure (suc j) falls h') r.told r.told (lit≤ tt) (record { left = tt; ready = r; above = a })
        by left_falls d (leaves (suc q)) e = absurd e
        by left_falls d falls e = absurd e
        by left_falls d (answers w) e = absurd e
        by returns d (answers w) e = sim_runs S.entries (Done S F h0) (suc j) (0 + 4) 0 (λ q. pure (answers w)) u h' h' (record { flow = returns; context = d }) 0 0 (answers w) (runs_pure (suc j) (answers w) h') r.told r.told (lit≤ tt) (record { left = e; ready = r; above = a })
        by returns d falls e = absurd e
        by returns d (leaves q) e = absurd e
        by (breaks k) d fl e = absurd e
        by (continues k) d fl e = absurd e
        by passes d fl e = absurd e

    -- a turn, and those behind it
    one_more : (n i j : ℕ) (h0 : Face) (c : Context) (t : State) (h : Face) → i ≤ j → t.left ≤ n → Ready S F t h → Above h0 h → Next n i j h0 t → Sim S.entries (Done S F h0) j 4 0 (rest_of i (ex S turn_code)) t h (source_turns n l test body post c t)
    one_more n i j h0 c t h le few ready above next =
        sim_result S.entries (turns_is n l test body post c t)
        (sim_leads S.entries (Done S F h0) j (suc j) 4 3 0 1 1 (rest_of i (ex S turn_code)) (λ q s. onto (ex S turn_code q s) (λ fl. after_turn fl (rest_of (suc i) (ex S turn_code) q))) t t h h
        (record {
          to = λ q k x fuel.
              let more : k + 1 ≡ suc k = omega arith in
              record { fuel = q; enough = omega arith; is = ap (λ (left : ℕ). rest_of i (ex S turn_code) q (standing h left x)) more ∙ begins i q k x (ex S turn_code) h (omega arith) };
        }) (omega arith) (omega arith) (omega arith) (λ u z. inr z) (then_by (turned n l test body post c t) (on_by (fewer_turns n l test body post)))
        (seq S.entries (TurnDone t.left h0) (Done S F h0) (suc j) 3 0 4 0 (ex S turn_code) (λ fl q. after_turn fl (rest_of (suc i) (ex S turn_code) q)) t h (turned n l test body post c t) (on_by (fewer_turns n l test body post))
        (turn_sim n (suc j) h0 c t h few ready above)
        (λ v u fl h' d told fewer. behind n i j h0 t v u fl h' d.left d.ready d.above d.less next)))

    pub loop_sim : (n i j : ℕ) (h0 : Face) (c : Context) (t : State) (h : Face) → i ≤ j → t.left ≤ n → Ready S F t h → Above h0 h → Sim S.entries (Done S F h0) j 4 0 (rest_of i (ex S turn_code)) t h (source_turns n l test body post c t)
    loop_sim zero i j h0 c t h le few ready above =
        one_more zero i j h0 c t h le few ready above
        (λ d u h' fewer r a. sim_out S.entries (Done S F h0) (suc j) 4 0 (rest_of (suc i) (ex S turn_code)) u h' r.told (λ q x e. none_left (q - suc i) (ex S turn_code) q x h') (omega (arith, few, fewer)))
    loop_sim (suc n) i j h0 c t h le few ready above =
        one_more (suc n) i j h0 c t h le few ready above
        (λ d u h' fewer r a. loop_sim n (suc i) (suc j) h0 d u h' (omega arith) (omega (arith, few, fewer)) r a)
