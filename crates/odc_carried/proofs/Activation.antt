-- An activation of a procedure.
use Rattle.std.proofs.Common.{◌≡◌, ℕ, zero, suc, ◌+◌, ◌*◌, ◌<◌, ◌≤◌, inl, inr, Bool, false, List, [], ◌∷◌, ◌++◌, length, map, arith, ap, ◌∙◌, sym, subst, refl, lit≤}
use Rattle.std.specs.Prelude.{Option, Some, None, slice_get, if◌then◌else◌}
use Rattle.std.proofs.lemmas.Bool.Decides.{nat_tests}
use Rattle.std.proofs.lemmas.List.{append-nil}
use Rattle.std.proofs.Math.Nat.{add-zero}
use Rattle.odc_program.specs.States.Bytes.{Block, to, Value, zeros}
use Rattle.odc_program.specs.States.Memory.{Memory, load, open_block, close}
use Rattle.odc_program.specs.States.Run.{Res, ok, stop, then_by, moved}
use Rattle.odc_program.specs.States.State.{State, Leave, Do, Calls, Context, known, read_at, begin_block, local_in}
use Rattle.odc_program.specs.Kinds.Places.{as_read}
use Rattle.odc_program.specs.Runs.Statements.{Left, left_by, Part, scoped}
use Rattle.odc_program.specs.Runs.Statements.{Flow as LeftFlow, falls as left_falls, breaks, continues, passes, returns}
use Rattle.odc_program.specs.Runs.Source.{begin_parameters, begin_results, answers, end_activation, activation}
use Rattle.odc_program.specs.Trees.Program.{Shape, whole, Local}
use Rattle.odc_core.specs.declared.tree.Variable.{Variable}
use Rattle.odc_core.specs.Tree.{const as word, answer as answered, Stmts}
use Rattle.odc_core.specs.Words.{bytes_of}
use Rattle.odc_core.specs.Memory.{put, forgotten, lies}
use Rattle.odc_core.specs.Memory.{Memory as Flat}
use Rattle.odc_core.specs.Frames.{with_arguments}
use Rattle.odc_core.specs.Run.{Flow, falls, leaves, answers as gives, after, answered as word_of, pure as core_pure, ◌>>=◌}
use Rattle.odc_core.specs.Run.{Res as CoreRes, then_by as onto}
use Rattle.odc_carried.specs.Carried.{type_in}
use Rattle.odc_carried.specs.Code.{join, one, put as set, variable_of, own_variables, variables_of, result_code, begin_code}
use Rattle.odc_carried.specs.Places.{place_of, byte_at}
use Rattle.odc_carried.specs.Tied.{size_of, Site, o, env, cenv}
use Rattle.odc_carried.proofs.Runs.{Face, at, with_memory, Fueled, runs_pure}
use Rattle.odc_carried.proofs.Sims.{rate, Told, Sim, sim_leads, seq, sim_runs, sim_first, sim_act, sim_later, sim_richer, sim_result, sim_weaker, then_then, onto_onto}
use Rattle.odc_carried.proofs.Values.{Val}
use Rattle.odc_carried.proofs.Ties.{Facts, at_self, Now, block, block_found, local_found}
use Rattle.odc_carried.proofs.Writes.{name, now_open}
use Rattle.odc_carried.proofs.Frame.{put_away, exec_join, local_variable, ex1, ex, r_set, r_const}
use Rattle.odc_carried.proofs.Quiet.{costing}
use Rattle.odc_carried.proofs.Codes.{Ready}
use Rattle.odc_carried.proofs.Arguments.{AreVals}
use Rattle.odc_carried.proofs.Stmts.{IntLocal, Results, AreLeft, Gave, Done, sane_of}
use Rattle.odc_carried.proofs.Simple.{answer_any}

abbrev nothing_more : Do (Unit {0})
nothing_more u = ok tt u

-- ---- the memory in which an activation begins
lies_not : (a n x : ℕ) → a + n ≤ x → lies a n x ≡ false
lies_not a n x far = grind (arith, nat_tests)

pub forgotten_above : (m : Flat) (low frame i : ℕ) → low + frame ≤ i → forgotten m low frame i ≡ m i
forgotten_above m low frame i far = ap (λ (b : Bool). if b then None else m i) (lies_not low frame i far)

-- nothing of the activation has begun
pub now_begun : (S S' : Site) (F' : Facts S') (src : Memory) (m : Flat) → S'.start ≡ src → S'.entries ≡ S.entries → Now S src S'.serial m → Now S' src (S'.serial + 1) (forgotten m S'.low S'.proc.frame)
now_begun S S' F' src m is same t = record {
  tied = record {
    byte = λ b s h e i small.
        let far : S'.low + S'.proc.frame ≤ place_of b = F'.floor.above b s h (ap (λ (q : Memory). q.size b) is ∙ e) in
        forgotten_above m S'.low S'.proc.frame (place_of b + i) (omega arith) ∙ t.tied.byte b s h e i small ∙ ap (λ (f : ℕ → ℕ). Some (byte_at f (src.byte b i))) (sym same);
    sane = λ b s h e i small. let P : (ℕ → ℕ) → Type 0 = λ f. byte_at f (src.byte b i) < 256 in subst P (sym same) (t.tied.sane b s h e i small);
  };
  since = λ b s h e. inl (ap (λ (q : Memory). q.size b) is ∙ e);
  kept = λ b s h e. ap (λ (q : Memory). q.size b) (sym is) ∙ e;
  fresh = λ b s h e. omega (arith, t.fresh b s h e);
}

module _ (S : Site) (F : Facts S) where
  -- ---- parameters
  -- the locals from a position on
  pub record Rest (x : ℕ) (ls : List Local) : Type 0 where
    pub is : (i : ℕ) (l : Local) → slice_get ls i ≡ Some l → slice_get S.proc.locals (x + i) ≡ Some l

  abbrev pub AreInts : ℕ → List Local → Type 0
  AreInts zero ls = Unit {0}
  AreInts (suc n) [] = ⊥
  AreInts (suc n) (l ∷ ls) = (size_of S.tables l ≡ 8) × AreInts n ls

  pub record Given (c : Context) (x : ℕ) (vs : List Value) (s : State) (m m' : Flat) : Type 0 where
    pub memory : Memory
    pub cost : ℕ
    pub is : begin_parameters (env S c) x vs s ≡ ok tt (record s { memory = memory; cost = cost })
    pub dear : s.cost ≤ cost
    pub now : Now S memory s.serial m'
    pub above : (i : ℕ) → S.low + S.proc.frame ≤ i → m' i ≡ m i

  pub given : (c : Context) (x : ℕ) (ls : List Local) (vs : List Value) (ws : List ℕ) (s : State) (m : Flat) (own : List Variable) → Rest x ls → AreInts (length ws) ls → AreVals S.entries vs ws → S.serial < s.serial → Now S s.memory s.serial m →
      Given c x vs s m (with_arguments S.low (map (variable_of S.tables) ls ++ own) ws m)
  given c x ls [] [] s m own rest ints are newer now = record { memory = s.memory; cost = s.cost; is = refl; dear = omega arith; now = let P : Flat → Type 0 = λ q. Now S s.memory s.serial q in subst P (sym (none_left (map (variable_of S.tables) ls ++ own))) now; above = λ i far. ap (λ (q : Flat). q i) (none_left (map (variable_of S.tables) ls ++ own)) }
    where
      none_left : (us : List Variable) → with_arguments S.low us [] m ≡ m
      none_left [] = refl
      none_left (u ∷ us) = refl
  given c x ls [] (w ∷ ws) s m own rest ints are newer now = absurd are
  given c x ls (v ∷ vs) [] s m own rest ints are newer now = absurd are
  given c x [] (v ∷ vs) (w ∷ ws) s m own rest ints are newer now = absurd ints
  given c x (l ∷ ls) (v ∷ vs) (w ∷ ws) s m own rest ints are newer now =
      let none : x + 0 ≡ x = omega arith in
      let found : slice_get S.proc.locals x ≡ Some l = ap (slice_get S.proc.locals) (sym none) ∙ rest.is 0 l refl in
      let val : Val S.entries 8 v w = are.0 in
      let m1 : Flat = put m (S.low + l.place) (bytes_of 8 w) in
      let s1 : State = record s { cost = s.cost + moved (length v); memory = open_block s.memory (name S x l) v } in
      let now1 : Now S s1.memory s.serial m1 =
      (let P : List ℕ → Type 0 = λ bs. Now S s1.memory s.serial (put m (S.low + l.place) bs) in subst P val.is (now_open S F s.memory s.serial m x l found v (sane_of S.entries v 8 w val.is) now (val.long ∙ sym ints.0) newer)) in
      let next : Given c (x + 1) vs s1 m1 (with_arguments S.low (map (variable_of S.tables) ls ++ own) ws m1) =
      given c (x + 1) ls vs ws s1 m1 own (record { is = λ i k e. let sum : x + 1 + i ≡ x + suc i = omega arith in ap (slice_get S.proc.locals) sum ∙ rest.is (suc i) k e }) ints.1 are.1 newer now1 in
      let end : l.place + size_of S.tables l + 8 ≤ S.proc.frame = F.laid.high x l found in
      record {
        memory = next.memory;
        cost = next.cost;
        is = ap (λ (b : Block). begin_parameters (env S c) (x + 1) vs (record s { cost = s.cost + moved (length v); memory = open_block s.memory b v })) (block_found S x l found) ∙ next.is;
        dear = omega (arith, next.dear);
        now = next.now;
        above = λ i far. next.above i far ∙ put_away m (S.low + l.place) w i (inr (omega (arith, end, ints.0)));
      }

  -- ---- the end: what is answered, and the blocks of the activation end
  pub record Returned (h0 : Face) (v : Value) (t : State) (w : ℕ) (h : Face) : Type 0 where
    pub value : S.proc.results ≡ 1 → Val S.entries 8 v w
    pub nothing : S.proc.results ≡ 0 → v ≡ []
    pub inner : Memory
    pub closed : t.memory ≡ close inner S.serial
    pub now : Now S inner t.serial h.memory
    pub newer : S.serial < t.serial
    pub few : t.left ≤ S.fuel
    pub told : Told S.entries t h
    pub above : (i : ℕ) → S.low + S.proc.frame ≤ i → h.memory i ≡ h0.memory i

  module _ (results : Results S F) (c : Context) where
    -- what is answered once the body is left
    abbrev ending : Do Value
    ending t = then_by (answers (env S c) S.proc.parameters S.proc.results t) (end_activation S.serial)

    answers_sim : (j : ℕ) (h0 : Face) (w : ℕ) (t : State) (h : Face) → Gave S F w t → Ready S F t h → ((i : ℕ) → S.low + S.proc.frame ≤ i → h.memory i ≡ h0.memory i) → Sim S.entries (Returned h0) j 0 0 (λ n. core_pure w) t h (ending t)
    answers_sim j h0 w t h gave ready above = by S.proc.results refl
      where
        done : (v : Value) (u : State) → u.left ≡ t.left → t.cost ≤ u.cost → u.serial ≡ t.serial → u.memory ≡ close t.memory S.serial → Told S.entries u h → (S.proc.results ≡ 1 → Val S.entries 8 v w) → (S.proc.results ≡ 0 → v ≡ []) → Sim S.entries (Returned h0) j 0 0 (λ n. core_pure w) t h (ok v u)
        done v u left cost serial memory told val none =
            sim_later S.entries (Returned h0) j 0 0 0 (λ n. core_pure w) t u h left (omega (arith, cost)) (ok v u)
            (sim_runs S.entries (Returned h0) j (0 + rate * 0) 0 (λ n. core_pure w) u h h v 0 0 w (runs_pure j w h) told told (omega arith)
            (record {
              value = val;
              nothing = none;
              inner = t.memory;
              closed = memory;
              now = let P : ℕ → Type 0 = λ k. Now S t.memory k h.memory in subst P (sym serial) ready.now;
              newer = omega (arith, ready.newer, serial);
              few = omega (arith, ready.few, left);
              told = told;
              above = above;
            }))

        by : (n : ℕ) → S.proc.results ≡ n → Sim S.entries (Returned h0) j 0 0 (λ n. core_pure w) t h (ending t)
        by zero e =
            let none : S.proc.results ≡ 1 → Val S.entries 8 [] w = λ one. absurd (omega (arith, one, e)) in
            sim_result S.entries (ap (λ (k : ℕ). then_by (answers (env S c) S.proc.parameters k t) (end_activation S.serial)) e)
            (done [] (record t { memory = close t.memory S.serial }) refl (omega arith) refl refl (record { logs = ready.told.logs; input = ready.told.input; taken = ready.told.taken }) none (λ z. refl))
        by (suc n) e =
            let single : S.proc.results ≡ 1 = omega (arith, results.few, e) in
            let i : IntLocal S S.proc.parameters = results.is_int single in
            let b : Block = block S S.proc.parameters in
            let loads : load t.memory b 0 8 ≡ Some gave.value = gave.there single in
            let size : (type_in S.tables (local_in S.proc S.proc.parameters).ty).size ≡ 8 = ap (λ (l : Local). size_of S.tables l) (local_found S.proc.locals S.proc.parameters i.l (record { ty = 0; place = 0 }) i.found) ∙ i.size in
            let K : Value → Do Value = λ v. (λ u. then_by (ok (v ++ []) u) (end_activation S.serial)) in
            let whole_shape : (type_in S.tables (local_in S.proc S.proc.parameters).ty).shape ≡ whole i.kind.width = ap (λ (l : Local). (type_in S.tables l.ty).shape) (local_found S.proc.locals S.proc.parameters i.l (record { ty = 0; place = 0 }) i.found) ∙ i.kind.shape in
            let shape : Shape = (type_in S.tables (local_in S.proc S.proc.parameters).ty).shape in
            sim_result S.entries
            (ap (λ (k : ℕ). then_by (answers (env S c) S.proc.parameters k t) (end_activation S.serial)) single
            ∙ ap (λ (k : ℕ). then_by (then_by (then_by (read_at S.proc.at (to b 0) k t) (as_read S.proc.at shape)) (λ v. (λ u. ok (v ++ []) u))) (end_activation S.serial)) size
            ∙ ap (λ (q : Option Value). then_by (then_by (then_by (known S.proc.at q (costing t (t.cost + 1))) (as_read S.proc.at shape)) (λ v. (λ u. ok (v ++ []) u))) (end_activation S.serial)) loads
            ∙ ap (λ (r : Res Leave State Value). then_by (then_by r (λ v. (λ u. ok (v ++ []) u))) (end_activation S.serial)) (ap (λ (k : Shape). as_read S.proc.at k gave.value (costing t (t.cost + 1))) whole_shape)
            ∙ ap (λ (v : Value). let r : Res Leave State Value = ok v (record t { cost = t.cost + 1; memory = close t.memory S.serial }) in r) (append-nil gave.value))
            (done gave.value (record t { cost = t.cost + 1; memory = close t.memory S.serial }) refl (omega arith) refl refl (record { logs = ready.told.logs; input = ready.told.input; taken = ready.told.taken }) (λ one. gave.is one) (λ z. absurd (omega (arith, z, single))))

    -- ---- the body and the answer
    abbrev pub rest_act : Stmts → Fueled ℕ
    rest_act code n q = onto (ex S code n q) (λ flow. core_pure (word_of flow))

    -- an answer that came, and where it stands
    record Stood (h0 : Face) (v : Left) (t : State) (flow : Flow) (h : Face) : Type 0 where
      pub word : ℕ
      pub is : flow ≡ gives word
      pub gave : Gave S F word t
      pub ready : Ready S F t h
      pub above : (i : ℕ) → S.low + S.proc.frame ≤ i → h.memory i ≡ h0.memory i

    module _ (body : Part) (code : Stmts) (body_sim : (j : ℕ) (t : State) (h : Face) → Ready S F t h → Sim S.entries (Done S F h) j 0 0 (ex S code) t h (body c t)) (calls : Calls) where
      abbrev end : Stmts
      end = one (answered (result_code (o S) S.proc.results))

      -- behind the body
      behind_act : Flow → Fueled ℕ
      behind_act flow n q = onto (after flow (ex S end n) q) (λ flow. core_pure (word_of flow))

      falls_sim : (j : ℕ) (h0 : Face) (u : State) (h : Face) → Ready S F u h → ((i : ℕ) → S.low + S.proc.frame ≤ i → h.memory i ≡ h0.memory i) → Sim S.entries (Returned h0) j 4 0 (behind_act falls) u h (ending u)
      unfolding behind_act
      falls_sim j h0 u h ready above =
          seq S.entries (Stood h0) (Returned h0) j 4 0 0 0 (ex S end) (λ flow n. core_pure (word_of flow)) u h (left_by returns c u) (λ l. ending)
          (answer_any S F calls c c results (Stood h0) j u h ready (λ w gave. record { word = w; is = refl; gave = gave; ready = ready; above = above }))
          (λ v u' flow h' x told fewer.
          let P : Flow → Type 0 = λ fl. Sim S.entries (Returned h0) j (0 + 0) 0 (λ n. core_pure (word_of fl)) u' h' (ending u') in
          subst P (sym x.is) (answers_sim j h0 x.word u' h' x.gave x.ready x.above))

      rest_sim : (j : ℕ) (t : State) (h : Face) → Ready S F t h → Sim S.entries (Returned h) j 4 0 (rest_act (join code end)) t h (then_by (scoped body c t) (λ l. ending))
      unfolding behind_act
      rest_sim j t h ready =
          sim_result S.entries (then_then S.entries (body c t) (λ l. left_by l.flow c) (λ l. ending))
          (sim_act S.entries (Returned h) j 4 0 (λ n. ex S code n >>= (λ flow. behind_act flow n)) (rest_act (join code end))
          (λ n q. ap (λ (r : CoreRes Flow). onto r (λ flow. core_pure (word_of flow))) (exec_join n (cenv S) code end q) ∙ onto_onto S.entries (ex S code n q) (λ flow. after flow (ex S end n)) (λ flow. core_pure (word_of flow))) t h (then_by (body c t) (λ l. ending))
          (seq S.entries (Done S F h) (Returned h) j 0 4 0 0 (ex S code) behind_act t h (body c t) (λ l. ending) (body_sim j t h ready)
          (λ v u flow h' d told fewer. by v.flow flow u h' d.left d.ready d.above)))
        where
          by : (f : LeftFlow) (flow : Flow) (u : State) (h' : Face) → AreLeft S F f flow u → Ready S F u h' → ((i : ℕ) → S.low + S.proc.frame ≤ i → h'.memory i ≡ h.memory i) → Sim S.entries (Returned h) j (4 + 0) 0 (behind_act flow) u h' (ending u)
          by left_falls falls u h' e r above = falls_sim j h u h' r above
          by returns (gives w) u h' e r above = sim_richer S.entries (Returned h) j 0 (4 + 0) 0 (λ n. core_pure w) u h' (ending u) (lit≤ tt) (answers_sim j h w u h' e r above)
          by left_falls (leaves q) u h' e r above = absurd e
          by left_falls (gives w) u h' e r above = absurd e
          by returns falls u h' e r above = absurd e
          by returns (leaves q) u h' e r above = absurd e
          by (breaks k) flow u h' e r above = absurd e
          by (continues k) flow u h' e r above = absurd e
          by passes flow u h' e r above = absurd e

      -- ---- the result begins
      abbrev pub begin_act : ℕ → Fueled ℕ
      begin_act n = rest_act (join (begin_code (o S) n) (join code end))

      abbrev begun_run : ℕ → Do Value
      begun_run n t = then_by (begin_results (env S c) S.proc.parameters n t) (λ _. (λ u. then_by (scoped body c u) (λ l. ending)))

      begin_sim : (j : ℕ) (t : State) (h : Face) → Now S t.memory t.serial h.memory → S.serial < t.serial → t.left ≤ S.fuel → Told S.entries t h → Sim S.entries (Returned h) j 8 0 (begin_act S.proc.results) t h (begun_run S.proc.results t)
      begin_sim j t h now newer few told = by S.proc.results refl
        where
          by : (n : ℕ) → S.proc.results ≡ n → Sim S.entries (Returned h) j 8 0 (begin_act S.proc.results) t h (begun_run S.proc.results t)
          by zero e =
              let P : ℕ → Type 0 = λ n. Sim S.entries (Returned h) j 8 0 (begin_act n) t h (begun_run n t) in
              subst P (sym e) (sim_richer S.entries (Returned h) j 4 8 0 (rest_act (join code end)) t h (then_by (scoped body c t) (λ l. ending)) (lit≤ tt)
              (rest_sim j t h (record { now = now; newer = newer; few = few; told = told; answer = λ one. absurd (omega (arith, one, e)) })))
          by (suc n) e =
              let single : S.proc.results ≡ 1 = omega (arith, results.few, e) in
              let i : IntLocal S S.proc.parameters = results.is_int single in
              let x : ℕ = S.proc.parameters in
              let v : Value = zeros 8 in
              let m1 : Flat = put h.memory (S.low + i.l.place) (bytes_of 8 0) in
              let h1 : Face = with_memory h m1 in
              let t1 : State = record t { cost = t.cost + moved 8; memory = open_block t.memory (name S x i.l) v } in
              let now1 : Now S t1.memory t.serial m1 = now_open S F t.memory t.serial h.memory x i.l i.found v (sane_of S.entries v 8 0 refl) now (sym i.size) newer in
              let end' : i.l.place + size_of S.tables i.l + 8 ≤ S.proc.frame = F.laid.high x i.l i.found in
              let zero_size : (type_in S.tables (local_in S.proc x).ty).size ≡ 8 = ap (λ (l : Local). size_of S.tables l) (local_found S.proc.locals x i.l (record { ty = 0; place = 0 }) i.found) ∙ i.size in
              let answer : t1.memory.size (block S x) ≡ Some 8 = ap t1.memory.size (block_found S x i.l i.found) ∙ at_self (name S x i.l) (Some 8) t.memory.size in
              let ready : Ready S F t1 h1 = record { now = now1; newer = newer; few = few; told = record { logs = told.logs; input = told.input; taken = told.taken }; answer = λ _. answer } in
              let stmt = set (o S).result (word 0) in
              let K : State → Res Leave State Value = λ u. then_by (scoped body c u) (λ l. ending) in
              let P : ℕ → Type 0 = λ n. Sim S.entries (Returned h) j 8 0 (begin_act n) t h (begun_run n t) in
              subst P (sym single)
              (sim_result S.entries
              (ap (λ (k : ℕ). then_by (then_by (begin_block (block S x) (zeros k) t) (λ _. nothing_more)) (λ _. K)) zero_size
              ∙ ap (λ (b : Block). K (record t { cost = t.cost + moved 8; memory = open_block t.memory b v })) (block_found S x i.l i.found))
              (sim_later S.entries (Returned h) j 8 0 0 (begin_act 1) t t1 h refl (omega arith) (K t1)
              (sim_act S.entries (Returned h) j (8 + rate * 0) 0 (λ n. ex1 S stmt n >>= (λ flow. (λ q. onto (after flow (ex S (join code end) n) q) (λ flow. core_pure (word_of flow))))) (begin_act 1)
              (λ n q. onto_onto S.entries (ex1 S stmt n q) (λ flow. after flow (ex S (join code end) n)) (λ flow. core_pure (word_of flow))) t1 h (K t1)
              (sim_first S.entries (Returned h) j (8 + rate * 0) 4 0 (ex1 S stmt) (λ flow n. (λ q. onto (after flow (ex S (join code end) n) q) (λ flow. core_pure (word_of flow)))) t1 h h1 refl refl refl (K t1) 3 4 falls
              (r_set S j x (variable_of S.tables i.l) (word 0) (local_variable S x i.l i.found) (omega (arith, i.size)) (r_const S j 0 h)) (lit≤ tt)
              (sim_weaker S.entries (Returned h1) (Returned h) j 4 0 (rest_act (join code end)) t1 h1 (K t1)
              (λ v u w h' r. record { value = r.value; nothing = r.nothing; inner = r.inner; closed = r.closed; now = r.now; newer = r.newer; few = r.few; told = r.told; above = λ k far. r.above k far ∙ put_away h.memory (S.low + i.l.place) 0 k (inr (omega (arith, end', i.size))) })
              (rest_sim j t1 h1 ready))))))

      -- ---- all of it
      regroup : (r : Res Leave State (Unit {0})) → then_by (then_by (then_by r (λ _. scoped body c)) (λ l. answers (env S c) S.proc.parameters S.proc.results)) (end_activation S.serial) ≡ then_by r (λ _. (λ u. then_by (scoped body c u) (λ l. ending)))
      regroup (stop why t) = refl
      regroup (ok x t) = then_then S.entries (scoped body c t) (λ l. answers (env S c) S.proc.parameters S.proc.results) (end_activation S.serial)

      pub activation_sim : (j : ℕ) (vs : List Value) (ws : List ℕ) (t : State) (h : Face) → AreVals S.entries vs ws → AreInts (length ws) S.proc.locals → S.serial < t.serial → t.left ≤ S.fuel → Told S.entries t h → Now S t.memory t.serial (forgotten h.memory S.low S.proc.frame) →
          (act : Fueled ℕ) → ((n k x : ℕ) → act n (at h k x) ≡ begin_act S.proc.results n (at (with_memory h (with_arguments S.low (variables_of (o S)) ws (forgotten h.memory S.low S.proc.frame))) k x)) →
          Sim S.entries (Returned h) j 8 0 act t h (activation body vs (env S c) t)
      activation_sim j vs ws t h are ints newer few told now act same =
          let m0 : Flat = forgotten h.memory S.low S.proc.frame in
          let m1 : Flat = with_arguments S.low (variables_of (o S)) ws m0 in
          let g : Given c 0 vs t m0 m1 = given c 0 S.proc.locals vs ws t m0 (own_variables (o S).low (o S).waiting) (record { is = λ i l e. let none : 0 + i ≡ i = omega arith in ap (slice_get S.proc.locals) none ∙ e }) ints are newer now in
          let h1 : Face = with_memory h m1 in
          let t1 : State = record t { memory = g.memory; cost = g.cost } in
          let whole : Res Leave State Value = begun_run S.proc.results t1 in
          sim_result S.entries
          (ap (λ (r : Res Leave State (Unit {0})). then_by (then_by (then_by (then_by r (λ _. begin_results (env S c) S.proc.parameters S.proc.results)) (λ _. scoped body c)) (λ l. answers (env S c) S.proc.parameters S.proc.results)) (end_activation S.serial)) g.is
          ∙ regroup (begin_results (env S c) S.proc.parameters S.proc.results t1))
          (sim_later S.entries (Returned h) j 8 0 0 act t t1 h refl (omega (arith, g.dear)) whole
          (sim_leads S.entries (Returned h) j j (8 + rate * 0) 8 0 0 0 act (begin_act S.proc.results) t1 t1 h h1
          (record { to = λ n k x le. record { fuel = n; enough = omega arith; is = same n (k + 0) x ∙ ap (λ (q : ℕ). begin_act S.proc.results n (at h1 q x)) (add-zero k) ∙ ap (λ (q : ℕ). begin_act S.proc.results n (at h1 k q)) (sym (add-zero x)) } })
          (omega arith) (omega arith) (omega arith) (λ u z. inr (record { logs = z.logs; input = z.input; taken = z.taken })) whole
          (sim_weaker S.entries (Returned h1) (Returned h) j 8 0 (begin_act S.proc.results) t1 h1 whole
          (λ v u w h' r. record { value = r.value; nothing = r.nothing; inner = r.inner; closed = r.closed; now = r.now; newer = r.newer; few = r.few; told = r.told; above = λ k far. r.above k far ∙ g.above k far ∙ forgotten_above h.memory S.low S.proc.frame k far })
          (begin_sim j t1 h1 g.now newer few (record { logs = told.logs; input = told.input; taken = told.taken })))))
