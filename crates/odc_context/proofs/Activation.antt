-- An activation of a procedure.
use Rattle.std.proofs.Common.{◌≡◌, ℕ, zero, suc, ◌+◌, ◌-◌, ◌*◌, ◌^◌, ◌<◌, ◌≤◌, inl, inr, Bool, false, List, [], ◌∷◌, ◌++◌, length, map, arith, ap, ◌∙◌, sym, subst, refl, lit<, lit≤}
use Rattle.std.specs.Prelude.{Option, Some, None, if◌then◌else◌}
use Rattle.std.proofs.lemmas.Bool.Decides.{nat_tests}
use Rattle.odc_text.specs.Run.{Log}
use Rattle.odc_typed.specs.Tree.{Proc}
use Rattle.odc_typed.specs.Bytes.{Value, bytes_of}
use Rattle.odc_typed.specs.Memory.{Memory as Blocks}
use Rattle.odc_typed.specs.Frame.{variable_place}
use Rattle.odc_typed.specs.Well.{Signature, Scope, InScope}
use Rattle.odc_typed.specs.Source.{State, Res, ok, then_by, Calls, Env, block_of, read_found}
use Rattle.odc_core.specs.Tree.{Stmts, follow}
use Rattle.odc_core.specs.Tree.{const as word}
use Rattle.odc_core.specs.Words.{bytes_of as numbers_of}
use Rattle.odc_core.specs.Memory.{Memory, put}
use Rattle.odc_core.specs.Run.{Flow, falls, leaves, answers, after, World, calls_of, pure, ◌>>=◌}
use Rattle.odc_core.specs.Run.{Res as CoreRes, then_by as onto}
use Rattle.odc_context.specs.Code.{Own, offset_of, word_at, join, one, held, count}
use Rattle.odc_context.proofs.Runs.{Fueled, Runs, runs_pure, runs_then, runs_node}
use Rattle.odc_context.proofs.Sims.{read, Sim, seq, sim_act, sim_result}
use Rattle.odc_context.proofs.Touched.{WordAt, word_apart, put_away, word_variable}
use Rattle.odc_context.proofs.Frame.{env_at, ev, ex, ex1, exec_join, r_const, r_held, r_set, r_one}
use Rattle.odc_context.proofs.Ties.{Floor, Tied, stays_same, loaded_word}
use Rattle.odc_context.proofs.simulation.Texts.{AreSmall, values}
use Rattle.odc_context.proofs.simulation.Exprs.{Fits, Ready, Live}
use Rattle.odc_context.proofs.simulation.Nodes.{CallsFollow}
use Rattle.odc_context.proofs.simulation.Values.{few}
use Rattle.odc_typed.specs.Bytes.{Block}
use Rattle.odc_typed.specs.Source.{Flow as Left, falls as left_falls}
use Rattle.odc_context.proofs.Sims.{onto_onto}
use Rattle.odc_context.specs.Code.{stmts_code}
use Rattle.odc_context.specs.Code.{put as set}
use Rattle.odc_context.proofs.Ties.{tied_open, opened, open_stays}
use Rattle.odc_core.specs.Tree.{answer as answered}
use Rattle.odc_typed.specs.Memory.{open_block}
use Rattle.odc_typed.specs.Source.{exec_all, returns}
use Rattle.odc_typed.specs.Place.{place_of}
use Rattle.odc_context.proofs.simulation.Stmts.{Gave, Done, Result, result_on}
use Rattle.odc_context.proofs.simulation.Bodies.{scope_behind, stmts_sim}
use Rattle.odc_context.proofs.Sims.{sim_from}
use Rattle.odc_context.specs.Code.{words_from, printing, own_of, begin_code, end_code, body_code, crossed}
use Rattle.odc_typed.specs.declared.tree.Local.{Local}
use Rattle.odc_typed.specs.Frame.{frame}
use Rattle.odc_typed.specs.Memory.{close}
use Rattle.odc_typed.specs.Source.{begin_results, answer_of, end_of, env_of, body_run}
use Rattle.odc_typed.specs.Well.{first_scope, around, IsWellProc}
use Rattle.odc_core.specs.Memory.{forgotten, lies}
use Rattle.odc_core.specs.Frames.{with_arguments}
use Rattle.odc_core.specs.declared.tree.Variable.{Variable}
use Rattle.odc_context.proofs.Procs.{Begun, begin_arguments}
use Rattle.odc_context.proofs.Sims.{sim_later, sim_first}
use Rattle.odc_core.specs.Run.{body_run as core_body}
use Rattle.odc_core.specs.Run.{answered as word_of}

-- arguments change nothing above the variables
arguments_far : (low : ℕ) (ws : List ℕ) (k q x : ℕ) (m : Memory) → length ws ≤ q → low + offset_of (k + q) ≤ x → with_arguments low (words_from k q ++ printing) ws m x ≡ m x
arguments_far low [] k q x m few far = none_left (words_from k q ++ printing)
  where
    none_left : (vs : List Variable) → with_arguments low vs [] m x ≡ m x
    none_left [] = refl
    none_left (v ∷ vs) = refl
arguments_far low (w ∷ ws) k zero x m few far = absurd (omega arith)
arguments_far low (w ∷ ws) k (suc q) x m few far =
    arguments_far low ws (k + 1) q x (put m (low + offset_of k) (numbers_of 8 w)) (omega arith) (omega arith) ∙ put_away m (low + offset_of k) w x (inr (omega arith))

-- the scope of parameters
in_first : (k x : ℕ) → InScope (first_scope k) x → x < k
in_first zero x h = absurd h
in_first (suc k) x (inl e) = omega (arith, e)
in_first (suc k) x (inr h) = let below : x < k = in_first k x h in omega arith

module _ (entries : ℕ → ℕ) (n : ℕ) (world : World) (ss : List Signature) (p : Proc) (base serial0 : ℕ) (src : Blocks) (outer : ℕ → Bool) (fits : Fits (base - frame p) (frame p) (own_of p)) (floor : Floor (env_of p base serial0) (frame p) src)
    (top : frame p ≤ base) (calls : Calls) (calls_follow : CallsFollow entries n world p.at (own_of p) (env_of p base serial0) (frame p) src outer fits floor ss calls) (well : IsWellProc ss p) where
  abbrev o : Own
  o = own_of p

  abbrev env : Env
  env = env_of p base serial0

  abbrev low : ℕ
  low = base - frame p

  -- what an activation leaves: its answer, and memory with its blocks ended
  pub record Returned (m : Memory) (v : Value) (t : State) (w : ℕ) (m' : Memory) : Type 0 where
    pub value : length p.results ≡ 1 → (w < 2 ^ 64) × (v ≡ bytes_of 8 w)
    pub before' : Blocks
    pub closed : t.memory ≡ close before' serial0
    pub tied : Tied env o.first src before' t.serial m'
    pub newer : serial0 < t.serial
    pub few : t.left ≤ n
    pub above : (x : ℕ) → base ≤ x → m' x ≡ m x

  -- the answer is read, and the blocks end
  abbrev ends : List Local → Left → State → Res Value
  ends rs fl = λ u. then_by (answer_of env p.at rs u) (λ v. end_of serial0 v)

  answer_act : List Local → ℕ → Flow → Fueled ℕ
  answer_act rs j flow i = λ q. onto (after flow (ex j world p.at low o outer (end_code o rs) i) q) (λ f. pure (word_of f))

  -- memory above the frame
  far_above : (x : ℕ) → base ≤ x → low + frame p ≤ x
  far_above x h = omega (arith, top)

  module _ (j : ℕ) (m0 : Memory) where
    answer_falls : (rs : List Local) → rs ≡ p.results → (start : Blocks) (t : State) (m m' : Memory) (l' : Log ℕ ℕ) → Ready entries n world p.at (own_of p) (env_of p base serial0) (frame p) src outer fits floor start t.memory t.serial t.left m' → Result entries n world p.at (own_of p) (env_of p base serial0) (frame p) src outer fits floor (length rs) t.memory → ((x : ℕ) → base ≤ x → m' x ≡ m0 x) → map (read entries) t.log ≡ l' →
        Sim entries (Returned m0) j 0 0 (answer_act rs j falls) t m' l' (ends rs left_falls t)
    unfolding answer_act
    answer_falls [] is start t m m' l' ready result above logs =
        let u : State = record t { memory = close t.memory serial0 } in
        record {
          by = record {
            word = 0;
            memory = m';
            log = l';
            budget = 0;
            cost = 0;
            runs = runs_pure j 0 m' l';
            holds = record { value = (λ one. let none : length p.results ≡ 0 = ap length (sym is) in absurd (omega (arith, one, none))); before' = t.memory; closed = refl; tied = ready.tied; newer = ready.newer; few = ready.few; above = above };
            logs = logs;
            cheap = omega arith;
            turns = omega arith;
            fewer = omega arith;
            taken = refl;
          };
        }
    answer_falls (r ∷ rs) is start t m m' l' ready result above logs =
        let b = block_of env env.result in
        let live : t.memory.size b ≡ Some 8 = result.by (omega arith) in
        let word = ready.tied.words b 8 live in
        let w : ℕ = word.0 in
        let u : State = record t { memory = close t.memory serial0; cost = t.cost + 1 } in
        let same : variable_place low env.result ≡ low + offset_of o.result = omega arith in
        let there : WordAt m' (low + offset_of o.result) w = (let M : ℕ → Type 0 = λ q. WordAt m' q w in subst M same word.1.core) in
        let below : env.result < o.first = (let count : length p.results ≡ suc (length rs) = ap length (sym is) in omega (arith, count)) in
        let reads : Runs j (ev j world p.at low o outer (held o.result)) m' l' 2 3 w m' l' =
        r_held j world p.at low o outer o.result (word_at o.result) w m' l' (word_variable o o.result (omega (arith, below))) (lit≤ tt) word.1.small there in
        let gives : Runs j (ex1 j world p.at low o outer (answered (held o.result))) m' l' (2 + 0 + 1) (3 + 0 + 1) (answers w) m' l' =
        runs_node j (λ i. ev j world p.at low o outer (held o.result) i >>= (λ q. pure (answers q))) m' l' (2 + 0) (3 + 0) (answers w) m' l'
        (runs_then j (ev j world p.at low o outer (held o.result)) (λ q i. pure (answers q)) m' l' 2 3 w m' l' 0 0 (answers w) m' l' reads (runs_pure j (answers w) m' l')) in
        let e : ends (r ∷ rs) left_falls t ≡ ok (bytes_of 8 w) u = ap (λ (q : Option Value). then_by (read_found p.at 8 q t) (λ v. end_of serial0 v)) (loaded_word t.memory m' b w word.1) in
        sim_result entries (Returned m0) j 0 0 (answer_act (r ∷ rs) j falls) t m' l' (ends (r ∷ rs) left_falls t) (ok (bytes_of 8 w) u) e
        (record {
          by = record {
            word = w;
            memory = m';
            log = l';
            budget = 2 + 0 + 1 + 0;
            cost = 3 + 0 + 1 + 0;
            runs = runs_then j (ex j world p.at low o outer (one (answered (held o.result)))) (λ f i. pure (word_of f)) m' l' (2 + 0 + 1) (3 + 0 + 1) (answers w) m' l' 0 0 w m' l'
                (r_one j world p.at low o outer (answered (held o.result)) m' m' l' l' (2 + 0 + 1) (3 + 0 + 1) (answers w) gives) (runs_pure j w m' l');
            holds = record { value = (λ one. (word.1.small, refl)); before' = t.memory; closed = refl; tied = ready.tied; newer = ready.newer; few = ready.few; above = above };
            logs = logs;
            cheap = omega arith;
            turns = omega arith;
            fewer = omega arith;
            taken = refl;
          };
        })

    answer_returns : (rs : List Local) → rs ≡ p.results → (start : Blocks) (t : State) (w : ℕ) (m' : Memory) (l' : Log ℕ ℕ) → Ready entries n world p.at (own_of p) (env_of p base serial0) (frame p) src outer fits floor start t.memory t.serial t.left m' → Gave entries n world p.at (own_of p) (env_of p base serial0) (frame p) src outer fits floor w t.memory m' → ((x : ℕ) → base ≤ x → m' x ≡ m0 x) → map (read entries) t.log ≡ l' →
        Sim entries (Returned m0) j 0 0 (answer_act rs j (answers w)) t m' l' (ends rs returns t)
    unfolding answer_act
    answer_returns [] is start t w m' l' ready gave above logs =
        record {
          by = record {
            word = w;
            memory = m';
            log = l';
            budget = 0;
            cost = 0;
            runs = runs_pure j w m' l';
            holds = record { value = (λ one. let none : length p.results ≡ 0 = ap length (sym is) in absurd (omega (arith, one, none))); before' = t.memory; closed = refl; tied = ready.tied; newer = ready.newer; few = ready.few; above = above };
            logs = logs;
            cheap = omega arith;
            turns = omega arith;
            fewer = omega arith;
            taken = refl;
          };
        }
    answer_returns (r ∷ rs) is start t w m' l' ready gave above logs =
        let b = block_of env env.result in
        let u : State = record t { memory = close t.memory serial0; cost = t.cost + 1 } in
        let e : ends (r ∷ rs) returns t ≡ ok (bytes_of 8 w) u = ap (λ (q : Option Value). then_by (read_found p.at 8 q t) (λ v. end_of serial0 v)) (loaded_word t.memory m' b w gave.holds) in
        sim_result entries (Returned m0) j 0 0 (answer_act (r ∷ rs) j (answers w)) t m' l' (ends (r ∷ rs) returns t) (ok (bytes_of 8 w) u) e
        (record {
          by = record {
            word = w;
            memory = m';
            log = l';
            budget = 0;
            cost = 0;
            runs = runs_pure j w m' l';
            holds = record { value = (λ one. (gave.holds.small, refl)); before' = t.memory; closed = refl; tied = ready.tied; newer = ready.newer; few = ready.few; above = above };
            logs = logs;
            cheap = omega arith;
            turns = omega arith;
            fewer = omega arith;
            taken = refl;
          };
        })

    -- the statements and the answer
    abbrev rest_act : Fueled ℕ
    rest_act i = λ q. onto (ex j world p.at low o outer (join (stmts_code o p.body) (end_code o p.results)) i q) (λ f. pure (word_of f))

    abbrev rest_run : State → Res Value
    rest_run = λ t. then_by (exec_all n calls env p.body t) (ends p.results)

    behind : (t : State) (m : Memory) (v : Left) (t' : State) (flow : Flow) (m' : Memory) (l' : Log ℕ ℕ) (scope : Scope) → Result entries n world p.at (own_of p) (env_of p base serial0) (frame p) src outer fits floor (length p.results) t.memory → ((x : ℕ) → base ≤ x → m x ≡ m0 x) → Done entries n world p.at (own_of p) (env_of p base serial0) (frame p) src outer fits floor scope t.memory m v t' flow m' → map (read entries) t'.log ≡ l' →
        Sim entries (Returned m0) j (0 + 0) 0 (answer_act p.results j flow) t' m' l' (ends p.results v t')
    behind t m left_falls t' falls m' l' scope result above d logs =
        answer_falls p.results refl t.memory t' m m' l' d.ready (result_on entries n world p.at (own_of p) (env_of p base serial0) (frame p) src outer fits floor (length p.results) t.memory t'.memory d.ready.stays result) (λ x far. d.above x (far_above x far) ∙ above x far) logs
    behind t m left_falls t' (leaves q) m' l' scope result above d logs = absurd d.left
    behind t m left_falls t' (answers w) m' l' scope result above d logs = absurd d.left
    behind t m returns t' falls m' l' scope result above d logs = absurd d.left
    behind t m returns t' (leaves q) m' l' scope result above d logs = absurd d.left
    behind t m returns t' (answers w) m' l' scope result above d logs =
        answer_returns p.results refl t.memory t' w m' l' d.ready d.left (λ x far. d.above x (far_above x far) ∙ above x far) logs

    rest_sim : (t : State) (m : Memory) (l : Log ℕ ℕ) → Live entries n world p.at (own_of p) (env_of p base serial0) (frame p) src outer fits floor (first_scope (length p.parameters)) t.memory → Result entries n world p.at (own_of p) (env_of p base serial0) (frame p) src outer fits floor (length p.results) t.memory → Ready entries n world p.at (own_of p) (env_of p base serial0) (frame p) src outer fits floor t.memory t.memory t.serial t.left m → ((x : ℕ) → base ≤ x → m x ≡ m0 x) →
        map (read entries) t.log ≡ l → Sim entries (Returned m0) j 0 0 rest_act t m l (rest_run t)
    unfolding answer_act
    rest_sim t m l live result ready above logs =
        let scope : Scope = first_scope (length p.parameters) in
        let R : Left → State → Flow → Memory → Type 0 = Done entries n world p.at (own_of p) (env_of p base serial0) (frame p) src outer fits floor (scope_behind scope p.body) t.memory m in
        let first : Fueled Flow = ex j world p.at low o outer (stmts_code o p.body) in
        sim_act entries (Returned m0) j (0 + 0) 0 (λ i. first i >>= (λ flow. answer_act p.results j flow i)) rest_act
        (λ i q. ap (λ (r : CoreRes Flow). onto r (λ f. pure (word_of f))) (exec_join i (env_at world p.at low o outer) (stmts_code o p.body) (end_code o p.results) q)
        ∙ onto_onto entries (first i q) (λ flow. after flow (ex j world p.at low o outer (end_code o p.results) i)) (λ f. pure (word_of f)))
        t m l (rest_run t)
        (seq entries R (Returned m0) j 0 0 0 0 first (λ flow i. answer_act p.results j flow i) t m l (exec_all n calls env p.body t) (ends p.results)
        (stmts_sim entries n world p.at (own_of p) (env_of p base serial0) (frame p) src outer fits floor (around ss p) calls calls_follow refl refl (λ h. omega (arith, h)) p.body j scope t m l well.body (omega arith) live result ready logs)
        (λ v t' flow m' l' d logs' fewer. behind t m v t' flow m' l' (scope_behind scope p.body) result above d logs'))

    -- ---- the whole activation

    -- the parameters are in scope
    scope_live : (k : ℕ) (now : Blocks) → k ≤ o.first → ((x : ℕ) → x < k → now.size (block_of env x) ≡ Some 8) → Live entries n world p.at (own_of p) (env_of p base serial0) (frame p) src outer fits floor (first_scope k) now
    scope_live k now few live = record { by = λ x h. let below : x < k = in_first k x h in (omega arith, live x below) }

    -- the frame is forgotten, and what lies above it isn't
    tied_forgotten : (now : Blocks) (serial : ℕ) (m : Memory) → Tied env o.first src now serial m → ((b : Block) (s : ℕ) → now.size b ≡ Some s → src.size b ≡ Some s) → Tied env o.first src now serial (forgotten m low (frame p))
    tied_forgotten now serial m t old = record {
      words = λ b s e.
          let w = t.words b s e in
          let far : low + frame p ≤ place_of b = floor.above b s (old b s e) in
          (w.0, record { small = w.1.small; live = w.1.live; source = w.1.source; core = word_apart m (forgotten m low (frame p)) (place_of b) w.0 (λ x from to. forgotten_above x (omega arith)) w.1.core });
      since = t.since;
      kept = t.kept;
      fresh = t.fresh;
    }
      where
        forgotten_above : (x : ℕ) → low + frame p ≤ x → forgotten m low (frame p) x ≡ m x
        forgotten_above x h = let out_of : lies low (frame p) x ≡ false = grind (arith, nat_tests) in ap (λ (c : Bool). if c then None else m x) out_of

    -- a result begins, where there is one
    start_sim : (rs : List Local) → rs ≡ p.results → (t : State) (m : Memory) (l : Log ℕ ℕ) → ((x : ℕ) → x < length p.parameters → t.memory.size (block_of env x) ≡ Some 8) → Tied env o.first src t.memory t.serial m → serial0 < t.serial → t.left ≤ n →
        ((x : ℕ) → base ≤ x → m x ≡ m0 x) → map (read entries) t.log ≡ l →
        Sim entries (Returned m0) j 0 0 (λ i. (λ q. onto (ex j world p.at low o outer (join (begin_code o rs) (join (stmts_code o p.body) (end_code o p.results))) i q) (λ f. pure (word_of f)))) t m l (then_by (begin_results env rs t) (λ _. rest_run))
    start_sim [] is t m l live tied newer few above logs =
        let none : length p.results ≡ 0 = ap length (sym is) in
        rest_sim t m l (scope_live (length p.parameters) t.memory (omega arith) live) (record { by = λ h. absurd (omega (arith, none)) })
        (record { tied = tied; newer = newer; few = few; stays = stays_same t.memory }) above logs
    start_sim (r ∷ rs) is t m l live tied newer few above logs =
        let some : length p.results ≡ suc (length rs) = ap length (sym is) in
        let x : ℕ = env.result in
        let below : x < o.first = omega (arith, some) in
        let room : variable_place env.low o.first ≤ env.low + frame p = omega (arith, fits.room) in
        let b = block_of env x in
        let u : State = record t { memory = open_block t.memory b (bytes_of 8 0); cost = t.cost + 1 } in
        let same : variable_place low x ≡ low + offset_of x = omega arith in
        let m1 : Memory = put m (low + offset_of x) (numbers_of 8 0) in
        let tail : Stmts = join (stmts_code o p.body) (end_code o p.results) in
        let tied' : Tied env o.first src u.memory u.serial m1 =
        (let K : ℕ → Type 0 = λ q. Tied env o.first src u.memory u.serial (put m q (numbers_of 8 0)) in subst K same (tied_open env o.first (frame p) src t.memory t.serial m x 0 floor room below (lit< tt) tied newer)) in
        let live' : (y : ℕ) → y < length p.parameters → u.memory.size (block_of env y) ≡ Some 8 = λ y h. open_stays env o.first (frame p) src t.memory t.serial m x 0 floor room below (lit< tt) tied (block_of env y) (live y h) in
        let result : Result entries n world p.at (own_of p) (env_of p base serial0) (frame p) src outer fits floor (length p.results) u.memory = record { by = λ h. opened env o.first (frame p) src t.memory t.serial m x 0 floor room below (lit< tt) tied } in
        let away : (y : ℕ) → base ≤ y → m1 y ≡ m0 y = λ y h. put_away m (low + offset_of x) 0 y (inr (omega (arith, fits.room, top))) ∙ above y h in
        let rest' : Sim entries (Returned m0) j 0 0 rest_act u m1 l (rest_run u) =
        rest_sim u m1 l (scope_live (length p.parameters) u.memory (omega arith) live') result (record { tied = tied'; newer = newer; few = few; stays = stays_same u.memory }) away logs in
        let zeroed : Runs j (ex1 j world p.at low o outer (set o.result (word 0))) m l 3 4 falls m1 l =
        r_set j world p.at low o outer o.result (word_at o.result) (word 0) m m l l 1 1 0 (word_variable o o.result (omega (arith, below))) (lit≤ tt) (r_const j world p.at low o outer 0 m l) in
        let later : Flow → Fueled ℕ = λ flow i. (λ q. onto (after flow (ex j world p.at low o outer tail i) q) (λ f. pure (word_of f))) in
        sim_later entries (Returned m0) j 0 0 1 (λ i. (λ q. onto (ex j world p.at low o outer (follow (set o.result (word 0)) tail) i q) (λ f. pure (word_of f)))) t u m l refl (omega arith) refl (rest_run u)
        (sim_act entries (Returned m0) j (0 + 100 * 1) 0 (λ i. ex1 j world p.at low o outer (set o.result (word 0)) i >>= (λ flow. later flow i)) (λ i. (λ q. onto (ex j world p.at low o outer (follow (set o.result (word 0)) tail) i q) (λ f. pure (word_of f))))
        (λ i q. onto_onto entries (ex1 j world p.at low o outer (set o.result (word 0)) i q) (λ flow. after flow (ex j world p.at low o outer tail i)) (λ f. pure (word_of f))) u m l (rest_run u)
        (sim_first entries (Returned m0) j (0 + 100 * 1) 0 0 (ex1 j world p.at low o outer (set o.result (word 0))) later u m m1 l (rest_run u) 3 4 falls zeroed (lit≤ tt) rest'))

  pub activation_sim : (j : ℕ) (s : State) (m : Memory) (l : Log ℕ ℕ) (ws : List ℕ) → AreSmall ws → length ws ≡ length p.parameters → Tied env o.first src s.memory s.serial m →
      ((b : Block) (q : ℕ) → s.memory.size b ≡ Some q → src.size b ≡ Some q) → serial0 < s.serial → s.left ≤ n → map (read entries) s.log ≡ l →
      Sim entries (Returned m) j 0 0 (λ i. core_body world i (calls_of world i) (crossed p) ws outer base) s m l (body_run n calls p (values ws) env s)
  activation_sim j s m l ws small count tied old newer few logs =
      let mf : Memory = forgotten m low (frame p) in
      let q : ℕ = o.first + o.waiting in
      let b : Begun env o (frame p) src s.serial floor fits newer 0 ws s (with_arguments low (words_from 0 q ++ printing) ws mf) =
      begin_arguments env o (frame p) src s.serial floor fits newer ws 0 q s mf (omega (arith, count)) (omega arith) (omega (arith, count)) small (tied_forgotten j m s.memory s.serial m tied old) (λ x h. absurd (omega arith)) in
      let m1 : Memory = with_arguments low (words_from 0 q ++ printing) ws mf in
      let t : State = record s { memory = b.after'; cost = s.cost + length ws } in
      let R : Value → State → ℕ → Memory → Type 0 = Returned m in
      let act : Fueled ℕ = λ i. (λ c. onto (ex j world p.at low o outer (body_code p) i c) (λ f. pure (word_of f))) in
      let r : Res Value = then_by (begin_results env p.results t) (λ _. rest_run j m) in
      let is : body_run n calls p (values ws) env s ≡ r = ap (λ (x : Res (Unit {0})). then_by x (λ _. (λ u. then_by (begin_results env p.results u) (λ _. rest_run j m)))) b.is in
      sim_from entries R j 0 0 act (λ i. core_body world i (calls_of world i) (crossed p) ws outer base) s m m1 l (λ i k c. refl) (body_run n calls p (values ws) env s)
      (sim_result entries R j 0 0 act s m1 l (body_run n calls p (values ws) env s) r is
      (sim_later entries R j 0 0 0 act s t m1 l refl (omega arith) refl r
      (let P : ℕ → Type 0 = λ x. Sim entries R j x 0 act t m1 l r in
      subst P refl (start_sim j m p.results refl t m1 l (λ x h. b.live x (omega (arith, count))) b.tied newer few (λ x far. arguments_above x far) logs))))
    where
      arguments_above : (x : ℕ) → base ≤ x → with_arguments low (words_from 0 (o.first + o.waiting) ++ printing) ws (forgotten m low (frame p)) x ≡ m x
      arguments_above x far =
          let out_of : lies low (frame p) x ≡ false = grind (arith, nat_tests) in
          let far' : low + offset_of (0 + (o.first + o.waiting)) ≤ x = omega (arith, fits.room) in
          arguments_far low ws 0 (o.first + o.waiting) x (forgotten m low (frame p)) (omega (arith, count)) far' ∙ ap (λ (c : Bool). if c then None else m x) out_of
