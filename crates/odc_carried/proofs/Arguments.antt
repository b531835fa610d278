-- Arguments, and the call behind them.
use Rattle.std.proofs.Common.{◌≡◌, ℕ, suc, ◌+◌, ◌*◌, ◌<◌, ◌≤◌, ◌⊎◌, inl, inr, true, List, [], ◌∷◌, length, arith, ap, ◌∙◌, sym, subst, refl, lit≤}
use Rattle.std.specs.Prelude.{None, slice_get}
use Rattle.odc_text.specs.declared.place.Place.{Place}
use Rattle.odc_text.specs.Run.{strayed}
use Rattle.odc_program.specs.States.Bytes.{Value}
use Rattle.odc_program.specs.States.Run.{Res, ok, stop, then_by}
use Rattle.odc_program.specs.States.State.{State, Leave, ends, Do, Context}
use Rattle.odc_core.specs.Tree.{Expr as CoreExpr, Exprs, none, more, call as called, slot as place, Stmts, finish, follow}
use Rattle.odc_core.specs.Words.{bytes_of}
use Rattle.odc_core.specs.Memory.{all_in}
use Rattle.odc_core.specs.Frames.{touched_in}
use Rattle.odc_core.specs.Run.{Flow, falls, after, pure, spend, ◌>>=◌, values_of, calls_of, store_bytes}
use Rattle.odc_carried.specs.Carried.{takes}
use Rattle.odc_carried.specs.Code.{join, one, waits, wait, wait_at, wait_variable, variables_of}
use Rattle.odc_carried.specs.Tied.{Tied, Site, o, cenv}
use Rattle.odc_carried.proofs.Runs.{Face, Fueled, Runs, runs_pure, runs_then, runs_spend, runs_store}
use Rattle.odc_carried.proofs.Sims.{rate, Sim, seq, sim_first, sim_behind, sim_later, sim_richer, sim_result, then_then}
use Rattle.odc_carried.proofs.Values.{Val}
use Rattle.odc_carried.proofs.Ties.{Facts}
use Rattle.odc_carried.proofs.Frame.{WordAt, ev, ex1, ex, r_slot, wait_found, part_touched}
use Rattle.odc_carried.proofs.Quiet.{Quiet, costing, Evaluated}
use Rattle.odc_carried.proofs.Codes.{join_assoc, Ready, Alike, alike_same, alike_on, ready_cost, waited, slot, waited_ready, waited_alike, waited_there, quiet_waits, still_waits, step_wait, rejoin, Codes}

-- values and their words
abbrev pub AreVals : (ℕ → ℕ) → List Value → List ℕ → Type 0
AreVals entries [] [] = Unit {0}
AreVals entries (v ∷ vs) (w ∷ ws) = Val entries 8 v w × AreVals entries vs ws
AreVals entries _ _ = ⊥

pub vals_length : (entries : ℕ → ℕ) (vs : List Value) (ws : List ℕ) → AreVals entries vs ws → length vs ≡ length ws
vals_length entries [] [] h = refl
vals_length entries [] (w ∷ ws) h = absurd h
vals_length entries (v ∷ vs) [] h = absurd h
vals_length entries (v ∷ vs) (w ∷ ws) h = ap suc (vals_length entries vs ws h.1)

-- arguments that change nothing
pub record QuietAll (S : Site) (es : Exprs) (h : Face) (ws : List ℕ) (limit : ℕ) : Type 0 where
  pub budget : ℕ
  pub cost : ℕ
  pub runs : (j : ℕ) → Runs j (λ n. values_of (calls_of S.world n) (cenv S) es) h budget cost ws h
  pub cheap : cost ≤ limit

pub quiet_none : (S : Site) (h : Face) → QuietAll S none h [] 0
quiet_none S h = record { budget = 0; cost = 0; runs = λ j. runs_pure j [] h; cheap = lit≤ tt }

pub quiet_more : (S : Site) (e : CoreExpr) (es : Exprs) (h : Face) (w L M : ℕ) (ws : List ℕ) → Quiet S e h w L → QuietAll S es h ws M → QuietAll S (more e es) h (w ∷ ws) (L + M)
quiet_more S e es h w L M ws q qs = record {
  budget = q.budget + (qs.budget + 0);
  cost = q.cost + (qs.cost + 0);
  runs = λ j.
      runs_then (ev S e) (λ v n. values_of (calls_of S.world n) (cenv S) es >>= (λ vs. pure (v ∷ vs))) (q.runs j)
      (runs_then (λ n. values_of (calls_of S.world n) (cenv S) es) (λ vs n. pure (w ∷ vs)) (qs.runs j) (runs_pure j (w ∷ ws) h));
  cheap = omega (arith, q.cheap, qs.cheap);
}

-- what the source gives for arguments that change nothing
pub record GaveAll (S : Site) (n : ℕ) (es : Exprs) (s : State) (h : Face) (r : Res Leave State (List Value)) : Type 0 where
  pub values : List Value
  pub words : List ℕ
  pub cost : ℕ
  pub paid : ℕ
  pub is : r ≡ ok values (costing s cost)
  pub enough : s.cost + paid ≤ cost
  pub holds : AreVals S.entries values words
  pub counted : length words ≡ n
  pub quiet : QuietAll S es h words (2 * paid)

pub record WentAll (s : State) (r : Res Leave State (List Value)) : Type 0 where
  pub place : Place
  pub cost : ℕ
  pub is : r ≡ stop (ends (strayed place)) (costing s cost)

abbrev pub EvaluatedAll : Site → ℕ → Exprs → State → Face → Res Leave State (List Value) → Type 0
EvaluatedAll S n es s h r = GaveAll S n es s h r ⊎ WentAll s r

-- one more of them
pub evaluated_more : (S : Site) (n : ℕ) (e : CoreExpr) (es : Exprs) (s : State) (h : Face) (r : Res Leave State Value) (m : Do (List Value)) → Evaluated S (Val S.entries 8) e s h r → ((cost : ℕ) → EvaluatedAll S n es (costing s cost) h (m (costing s cost))) →
    EvaluatedAll S (n + 1) (more e es) s h (then_by r (λ v. (λ t. then_by (m t) (λ vs. (λ u. ok (v ∷ vs) u)))))
evaluated_more S n e es s h r m (inr x) rest = inr (record { place = x.place; cost = x.cost; is = ap (λ (q : Res Leave State Value). then_by q (λ v. (λ t. then_by (m t) (λ vs. (λ u. ok (v ∷ vs) u))))) x.is })
evaluated_more S n e es s h r m (inl x) rest = elim (rest x.cost) [
  | inl y ↦ inl (record {
    values = x.value ∷ y.values;
    words = x.word ∷ y.words;
    cost = y.cost;
    paid = x.paid + y.paid;
    is = ap (λ (q : Res Leave State Value). then_by q (λ v. (λ t. then_by (m t) (λ vs. (λ u. ok (v ∷ vs) u))))) x.is ∙ ap (λ (q : Res Leave State (List Value)). then_by q (λ vs. (λ u. ok (x.value ∷ vs) u))) y.is;
    enough = omega (arith, x.enough, y.enough);
    holds = (x.holds, y.holds);
    counted = omega (arith, y.counted);
    quiet = (let q : QuietAll S (more e es) h (x.word ∷ y.words) (2 * x.paid + 2 * y.paid) = quiet_more S e es h x.word (2 * x.paid) (2 * y.paid) y.words x.quiet y.quiet in
        record { budget = q.budget; cost = q.cost; runs = q.runs; cheap = omega (arith, q.cheap) });
  })
  | inr y ↦ inr (record { place = y.place; cost = y.cost; is = ap (λ (q : Res Leave State Value). then_by q (λ v. (λ t. then_by (m t) (λ vs. (λ u. ok (v ∷ vs) u))))) x.is ∙ ap (λ (q : Res Leave State (List Value)). then_by q (λ vs. (λ u. ok (x.value ∷ vs) u))) y.is })
]

module _ (S : Site) (F : Facts S) where
  -- ---- code that ends with several values
  pub record CodesAll (n : ℕ) (before : Stmts) (values : Exprs) (d : ℕ) (m : Do (List Value)) : Type 1 where
    pub by : {A : Type 0} (tail : Stmts) (Q : A → State → Flow → Face → Type 0) (j b g : ℕ) (s : State) (h : Face) (f : List Value → Do A) → Ready S F s h →
        ((vs : List Value) (t : State) (ws : List ℕ) (L : ℕ) (h' : Face) → AreVals S.entries vs ws → length ws ≡ n → QuietAll S values h' ws L → Ready S F t h' → Alike S F d h h' → t.left ≤ s.left → Sim S.entries Q j (b + L) g (ex S tail) t h' (f vs t)) →
        Sim S.entries Q j b g (ex S (join before tail)) s h (then_by (m s) f)

  pub codes_none : (d : ℕ) → CodesAll 0 finish none d (λ s. ok [] s)
  codes_none d = record {
    by = λ tail Q j b g s h f ready k.
        sim_richer S.entries Q j (b + 0) b g (ex S tail) s h (f [] s) (omega arith) (k [] s [] 0 h tt refl (quiet_none S h) ready (alike_same S F d h) (omega arith));
  }

  module _ (n : ℕ) (a b2 : Stmts) (x : CoreExpr) (xs : Exprs) (d : ℕ) (m1 : Do Value) (m2 : Do (List Value)) (first : Codes S F (Val S.entries 8) a x d m1) where
    abbrev both : Do (List Value)
    both s = then_by (m1 s) (λ v. (λ t. then_by (m2 t) (λ vs. (λ u. ok (v ∷ vs) u))))

    -- the first one waits
    pub codes_waiting : d < (o S).waiting → CodesAll n b2 xs (d + 1) m2 → CodesAll (n + 1) (join a (follow (wait (o S) d x) b2)) (more (waits (o S) d) xs) d (λ s. then_by (m1 s) (λ v. (λ t. then_by (m2 t) (λ vs. (λ u. ok (v ∷ vs) u)))))
    codes_waiting inside rest = record {
      by = λ tail Q j b g s h f ready k.
          let then' : Stmts = follow (wait (o S) d x) (join b2 tail) in
          let body : Value → Do _ = λ v. (λ t. then_by (then_by (m2 t) (λ vs. (λ u. ok (v ∷ vs) u))) f) in
          rejoin S F Q j b g (join (join a (follow (wait (o S) d x) b2)) tail) (join a then') s h (then_by (both s) f) (join_assoc a (follow (wait (o S) d x) b2) tail)
          (sim_result S.entries (then_then S.entries (m1 s) (λ v. (λ t. then_by (m2 t) (λ vs. (λ u. ok (v ∷ vs) u)))) f)
          (first.by then' Q j b g s h body ready
          (λ v t w L h' isv qx ready' alike fewer.
          let h1 : Face = waited S F d w h' in
          sim_richer S.entries Q j (b + 5 + (L + 3)) (b + (L + 8)) g (ex S then') t h' (body v t) (omega arith)
          (step_wait S F Q j (b + 5) g d w L x (join b2 tail) t h' (body v t) inside qx
          (sim_result S.entries (then_then S.entries (m2 t) (λ vs. (λ u. ok (v ∷ vs) u)) f)
          (rest.by tail Q j (b + 5) g t h1 (λ vs. (λ u. f (v ∷ vs) u)) (waited_ready S F d w inside t h' ready')
          (λ vs t' ws M h'' are counted qs ready'' alike'' fewer''.
          let there : WordAt h''.memory (slot S F d) w = still_waits S F d (d + 1) w h1 h'' (omega arith) alike'' (waited_there S F d w inside t h' ready') in
          sim_richer S.entries Q j (b + (3 + M)) (b + 5 + M) g (ex S tail) t' h'' (f (v ∷ vs) t') (omega arith)
          (k (v ∷ vs) t' (w ∷ ws) (3 + M) h'' (isv, are) (omega (arith, counted)) (quiet_more S (waits (o S) d) xs h'' w 3 M ws (quiet_waits S F d w h'' inside isv.small there) qs) ready''
          (alike_on S F d d h h' h'' (omega arith) alike (alike_on S F d (d + 1) h' h1 h'' (omega arith) (waited_alike S F d w inside t h' ready') alike'')) (omega (arith, fewer, fewer''))))))))));
    }

    -- those behind it change nothing
    pub codes_nested : ((s : State) (h : Face) → Tied S.entries s.memory h.memory → EvaluatedAll S n xs s h (m2 s)) → CodesAll (n + 1) a (more x xs) d (λ s. then_by (m1 s) (λ v. (λ t. then_by (m2 t) (λ vs. (λ u. ok (v ∷ vs) u)))))
    codes_nested rest = record {
      by = λ tail Q j b g s h f ready k.
          let body : Value → Do _ = λ v. (λ t. then_by (then_by (m2 t) (λ vs. (λ u. ok (v ∷ vs) u))) f) in
          sim_result S.entries (then_then S.entries (m1 s) (λ v. (λ t. then_by (m2 t) (λ vs. (λ u. ok (v ∷ vs) u)))) f)
          (first.by tail Q j b g s h body ready
          (λ v t w L h' isv qx ready' alike fewer.
          elim (rest t h' ready'.now.tied) [
            | inl y ↦ (let u : State = costing t y.cost in
                sim_result S.entries (ap (λ (q : Res Leave State (List Value)). then_by (then_by q (λ vs. (λ u. ok (v ∷ vs) u))) f) y.is)
                (sim_later S.entries Q j (b + (L + 8)) g y.paid (ex S tail) t u h' refl y.enough (f (v ∷ y.values) u)
                (sim_richer S.entries Q j (b + (L + 2 * y.paid)) (b + (L + 8) + rate * y.paid) g (ex S tail) u h' (f (v ∷ y.values) u) (omega arith)
                (k (v ∷ y.values) u (w ∷ y.words) (L + 2 * y.paid) h' (isv, y.holds) (omega (arith, y.counted)) (quiet_more S x xs h' w L (2 * y.paid) y.words qx y.quiet) (ready_cost S F t h' y.cost ready') alike fewer))))
            | inr y ↦ sim_result S.entries (ap (λ (q : Res Leave State (List Value)). then_by (then_by q (λ vs. (λ u. ok (v ∷ vs) u))) f) y.is) (record { by = inr (ready_cost S F t h' y.cost ready').told })
          ]));
    }

  -- ---- calls
  -- what a call leaves: memory from the caller's low end on is as it was
  pub record Called (results : ℕ) (h0 : Face) (v : Value) (t : State) (w : ℕ) (h : Face) : Type 0 where
    pub value : results ≡ 1 → Val S.entries 8 v w
    pub nothing : results ≡ 0 → v ≡ []
    pub ready : Ready S F t h
    pub above : (i : ℕ) → S.low ≤ i → h.memory i ≡ h0.memory i

  -- each call of the core run does what the source's does
  pub record CallsFollow (call : ℕ → List Value → Context → ℕ → Do Value) : Type 0 where
    pub by : (j f results : ℕ) (c : Context) (vs : List Value) (ws : List ℕ) (s : State) (h : Face) → takes (length ws) results (slice_get S.tables.procedures f) ≡ true → AreVals S.entries vs ws → Ready S F s h →
        Sim S.entries (Called results h) j 0 0 (λ i. calls_of S.world i None f ws (touched_in S.outer S.low (variables_of (o S))) S.low) s h (call f vs c S.low s)

  -- what a call leaves, once its answer waits
  pub record Answered (results d : ℕ) (h0 : Face) (v : Value) (t : State) (flow : Flow) (h : Face) : Type 0 where
    pub word : ℕ
    pub value : results ≡ 1 → Val S.entries 8 v word
    pub nothing : results ≡ 0 → v ≡ []
    pub falls : flow ≡ falls
    pub there : WordAt h.memory (slot S F d) word
    pub ready : Ready S F t h
    pub alike : Alike S F d h0 h

  call_waits : (call : ℕ → List Value → Context → ℕ → Do Value) → CallsFollow call → (j f results d : ℕ) (c : Context) (es : Exprs) (L : ℕ) (vs : List Value) (ws : List ℕ) (s : State) (h : Face) → d < (o S).waiting →
      takes (length ws) results (slice_get S.tables.procedures f) ≡ true → AreVals S.entries vs ws → QuietAll S es h ws L → Ready S F s h →
      Sim S.entries (Answered results d h) j (1 + (L + 1 + 1) + 1) 0 (ex1 S (wait (o S) d (called f es))) s h (call f vs c S.low s)
  call_waits call follows j f results d c es L vs ws s h inside takes' are q ready =
      let at0 : ℕ = S.low + (wait_variable (o S).low d).offset in
      let r : Res Leave State Value = call f vs c S.low s in
      let act0 : Fueled ℕ = λ i. calls_of S.world i None f ws (touched_in S.outer S.low (variables_of (o S))) S.low in
      let C : Value → State → ℕ → Face → Type 0 = Called results h in
      let args : Fueled (List ℕ) = λ i. values_of (calls_of S.world i) (cenv S) es in
      let sim1 = sim_first S.entries C j L 0 0 args (λ vs i. calls_of S.world i None f vs (touched_in S.outer S.low (variables_of (o S))) S.low) s h h refl refl refl r q.budget q.cost ws (q.runs j) (omega (arith, q.cheap)) (follows.by j f results c vs ws s h takes' are ready) in
      let sim2 = sim_behind S.entries C C j L 1 0 (λ i. args i >>= (λ vs. calls_of S.world i None f vs (touched_in S.outer S.low (variables_of (o S))) S.low)) (λ v i. spend (pure v)) s h r sim1
      (λ v t w h' x. record { word = w; face = h'; budget = 1; runs = runs_spend (λ i. pure w) (runs_pure j w h'); told = λ y. y; holds = x }) in
      let A : Value → State → Flow → Face → Type 0 = Answered results d h in
      let store_last : ℕ → Fueled Flow = λ v i. store_bytes (cenv S) at0 (bytes_of 8 v) >>= (λ _. pure falls) in
      let touched : all_in (touched_in S.outer S.low (variables_of (o S))) at0 8 ≡ true = part_touched S.outer S.low (variables_of (o S)) (wait_at (o S) d) (wait_variable (o S).low d) at0 8 (wait_found S d inside) (omega arith) (omega arith) in
      let sim3 = sim_behind S.entries C A j (L + 1) 1 0 (ev S (called f es)) store_last s h r sim2
      (λ v t w h' x.
      let h1 : Face = waited S F d w h' in
      record {
        word = falls;
        face = h1;
        budget = 0 + 0;
        runs = runs_then (λ i. store_bytes (cenv S) at0 (bytes_of 8 w)) (λ _ i. pure falls) (runs_store j (cenv S) at0 (bytes_of 8 w) h' touched) (runs_pure j falls h1);
        told = λ y. record { logs = y.logs; input = y.input; taken = y.taken };
        holds = record {
          word = w;
          value = x.value;
          nothing = x.nothing;
          falls = refl;
          there = waited_there S F d w inside t h' x.ready;
          ready = waited_ready S F d w inside t h' x.ready;
          alike = alike_on S F d d h h' h1 (omega arith) (record { by = λ i zone. x.above i (elim zone [ inl a ↦ a.0 | inr a ↦ omega arith ]) }) (waited_alike S F d w inside t h' x.ready);
        };
      }) in
      let sim4 = sim_first S.entries A j (1 + (L + 1 + 1)) (L + 1 + 1) 0 (ev S (place (wait_at (o S) d))) (λ a i. ev S (called f es) i >>= (λ v. store_bytes (cenv S) a (bytes_of 8 v) >>= (λ _. pure falls))) s h h refl refl refl r 1 1 at0
      (r_slot S j (wait_at (o S) d) (wait_variable (o S).low d) h (wait_found S d inside)) (omega arith) sim3 in
      sim_behind S.entries A A j (1 + (L + 1 + 1)) 1 0 (λ i. ev S (place (wait_at (o S) d)) i >>= (λ a. ev S (called f es) i >>= (λ v. store_bytes (cenv S) a (bytes_of 8 v) >>= (λ _. pure falls)))) (λ v i. spend (pure v)) s h r sim4
      (λ v t w h' x. record { word = w; face = h'; budget = 1; runs = runs_spend (λ i. pure w) (runs_pure j w h'); told = λ y. y; holds = x })

  -- the call behind its arguments
  module _ (call : ℕ → List Value → Context → ℕ → Do Value) (follows : CallsFollow call) (f results d n : ℕ) (c : Context) (inside : d < (o S).waiting) (found : takes n results (slice_get S.tables.procedures f) ≡ true) (b2 : Stmts) (xs : Exprs) (m2 : Do (List Value)) (all : CodesAll n b2 xs d m2) where
    pub call_step : {A : Type 0} (tail : Stmts) (Q : A → State → Flow → Face → Type 0) (j b g : ℕ) (s : State) (h : Face) (K : Value → Do A) → Ready S F s h →
        ((v : Value) (t : State) (w : ℕ) (h' : Face) → (results ≡ 1 → Val S.entries 8 v w) → (results ≡ 0 → v ≡ []) → WordAt h'.memory (slot S F d) w → Ready S F t h' → Alike S F d h h' → t.left ≤ s.left → Sim S.entries Q j b g (ex S tail) t h' (K v t)) →
        Sim S.entries Q j (b + 4) g (ex S (join (join b2 (one (wait (o S) d (called f xs)))) tail)) s h (then_by (m2 s) (λ vs. (λ t. then_by (call f vs c S.low t) K)))
    call_step tail Q j b g s h K ready k =
        let stmt = wait (o S) d (called f xs) in
        let rest : Stmts = follow stmt tail in
        rejoin S F Q j (b + 4) g (join (join b2 (one stmt)) tail) (join b2 rest) s h (then_by (m2 s) (λ vs. (λ t. then_by (call f vs c S.low t) K))) (join_assoc b2 (one stmt) tail)
        (all.by rest Q j (b + 4) g s h (λ vs. (λ t. then_by (call f vs c S.low t) K)) ready
        (λ vs t ws L h' are counted qs ready' alike fewer.
        let N : ℕ → Type 0 = λ y. takes y results (slice_get S.tables.procedures f) ≡ true in
        sim_richer S.entries Q j (1 + (L + 1 + 1) + 1 + b) (b + 4 + L) g (ex S rest) t h' (then_by (call f vs c S.low t) K) (omega arith)
        (seq S.entries (Answered results d h') Q j (1 + (L + 1 + 1) + 1) b 0 g (ex1 S stmt) (λ flow i. after flow (ex S tail i)) t h' (call f vs c S.low t) K
        (call_waits call follows j f results d c xs L vs ws t h' inside (subst N (sym counted) found) are qs ready')
        (λ v t' flow h'' x told fewer'.
        let P : Flow → Type 0 = λ fl. Sim S.entries Q j (b + 0) g (λ i. after fl (ex S tail i)) t' h'' (K v t') in
        subst P (sym x.falls)
        (sim_richer S.entries Q j b (b + 0) g (ex S tail) t' h'' (K v t') (omega arith)
        (k v t' x.word h'' x.value x.nothing x.there x.ready (alike_on S F d d h h' h'' (omega arith) alike x.alike) (omega (arith, fewer, fewer'))))))))
