-- Declarations, assignments and returns, as the source runs them.
use Rattle.std.proofs.Common.{◌≡◌, ℕ, zero, suc, ◌+◌, ◌*◌, ◌≤◌, ◌⊎◌, inl, inr, Bool, true, false, List, [], ◌∷◌, length, map, arith, ap, ◌∙◌, sym, subst, refl, lit<, lit≤}
use Rattle.std.specs.Prelude.{Option, Some, None, if◌then◌else◌}
use Rattle.std.proofs.lemmas.List.{length-map}
use Rattle.std.proofs.Math.Nat.{add-zero}
use Rattle.odc_text.specs.declared.place.Place.{Place}
use Rattle.odc_text.specs.Run.{strayed}
use Rattle.rv_table.specs.Bytes.{run}
use Rattle.odc_program.specs.States.Bytes.{Block, variable, to, Value, zeros}
use Rattle.odc_program.specs.States.Memory.{stretch, fits, load, store, put, open_block}
use Rattle.odc_program.specs.States.Run.{Res, ok, stop, then_by, moved}
use Rattle.odc_program.specs.States.State.{State, Leave, ends, Do, spot, keep, write_to, begin_block, Context, Calls, local_in}
use Rattle.odc_program.specs.Kinds.Expressions.{value_of, values_of}
use Rattle.odc_program.specs.Runs.Statements.{Left, left_by, run_declare, run_assign, run_return, begin_each, store_each, results_from}
use Rattle.odc_program.specs.Runs.Statements.{falls as left_falls, returns}
use Rattle.odc_program.specs.Runs.Source.{rights_of, places_of}
use Rattle.odc_program.specs.Trees.Tree.{Expr, expr, local, none, more, each, nothing, left_, no_lefts}
use Rattle.odc_program.specs.Trees.Program.{Local}
use Rattle.odc_core.specs.Tree.{Expr as CoreExpr, const as word, answer as answered, Stmts, finish, follow}
use Rattle.odc_core.specs.Words.{number_of as word_of}
use Rattle.odc_core.specs.Run.{Flow, falls, answers, after, pure as done, then_by as onto}
use Rattle.odc_carried.specs.Carried.{type_in}
use Rattle.odc_carried.specs.Code.{join, one, held, put as set, put_code, return_code, before, value, variable_of, result_code}
use Rattle.odc_carried.specs.Places.{place_of, bytes_at}
use Rattle.odc_carried.specs.Tied.{size_of, Site, o, env}
use Rattle.odc_carried.proofs.Runs.{Face, runs_pure, runs_then, runs_node}
use Rattle.odc_carried.proofs.Sims.{rate, Sim, sim_runs, sim_first, sim_later, sim_richer, sim_result, then_then}
use Rattle.odc_carried.proofs.Values.{Val, eight_bytes}
use Rattle.odc_carried.proofs.Ties.{Facts, Loaded, loaded_from, block, block_found, local_found}
use Rattle.odc_carried.proofs.Writes.{name}
use Rattle.odc_carried.proofs.Frame.{WordAt, local_variable, ev, ex1, ex, r_set, r_one}
use Rattle.odc_carried.proofs.Quiet.{Quiet, quiet_const, quiet_held, costing}
use Rattle.odc_carried.proofs.Codes.{Ready, Alike, Codes}
use Rattle.odc_carried.proofs.Stmts.{IntLocal, Results, Gave, Done, stored, opened, changed, set_sim, stays_above}
use Rattle.odc_carried.proofs.Evals.{sane_bytes}
use Rattle.odc_carried.proofs.Exprs.{then_same}

-- a value of eight bytes that is written
write_eight : (at : Place) (b : Block) (v : Value) (t : State) → length v ≡ 8 → write_to at (to b 0) v t ≡ keep at (store t.memory b 0 v) (costing t (t.cost + moved (length v)))
write_eight at b [] t e = absurd (cc)
write_eight at b (x ∷ v) t e = refl

zero_size : (S : Site) (x : ℕ) (i : IntLocal S x) → (type_in S.tables (local_in S.proc x).ty).size ≡ 8
zero_size S x i = ap (λ (l : Local). size_of S.tables l) (local_found S.proc.locals x i.l (record { ty = 0; place = 0 }) i.found) ∙ i.size

module _ (S : Site) (F : Facts S) (calls : Calls) (c0 c : Context) where
  -- what lies above the frame
  pub above_alike : (h0 h : Face) (d : ℕ) → Alike S F d h0 h → (k : ℕ) → S.low + S.proc.frame ≤ k → h.memory k ≡ h0.memory k
  above_alike h0 h d a k far = a.by k (inr far)

  -- one value
  pub one_value : (e : Expr) (s : State) {A : Type 0} (f : List Value → Do A) → then_by (values_of calls (env S c) (more e none) s) f ≡ then_by (value_of calls (env S c) e s) (λ v. (λ t. f (v ∷ []) t))
  one_value e s f = then_then S.entries (value_of calls (env S c) e s) (λ v. (λ t. ok (v ∷ []) t)) f

  module _ (x : ℕ) (i : IntLocal S x) where
    begun_state : Value → State → State
    begun_state v t = record t { cost = t.cost + moved (length v); memory = open_block t.memory (name S x i.l) v }

    pub declare_sim : (e : Expr) → Codes S F (Val S.entries 8) (before (o S) 0 e) (value (o S) 0 e) 0 (value_of calls (env S c) e) → (j : ℕ) (s : State) (h : Face) → Ready S F s h →
        Sim S.entries (Done S F h) j 0 0 (ex S (put_code (o S) x e)) s h (run_declare (env S c0) (Some x ∷ []) (rights_of calls (env S c) (each (more e none))) c s)
    unfolding begun_state
    declare_sim e codes j s h ready =
        sim_result S.entries (one_value e s (λ vs. (λ t. then_by (begin_each (env S c0) (Some x ∷ []) vs t) (λ _. left_by left_falls c))))
        (codes.by (one (set x (value (o S) 0 e))) (Done S F h) j 0 0 s h (λ v. (λ t. then_by (begin_each (env S c0) (Some x ∷ []) (v ∷ []) t) (λ _. left_by left_falls c))) ready
        (λ v t w L h' isv q ready' alike fewer.
        let u : State = begun_state v t in
        let r' : Ready S F u (stored S F (S.low + i.l.place) w h') = opened S F x i v w isv t h' (t.cost + moved (length v)) ready' in
        sim_result S.entries (ap (λ (b : Block). let r : Res Leave State Left = ok (record { flow = left_falls; context = c }) (record t { cost = t.cost + moved (length v); memory = open_block t.memory b v }) in r) (block_found S x i.l i.found))
        (sim_later S.entries (Done S F h) j (0 + (L + 8)) 0 0 (ex S (one (set x (value (o S) 0 e)))) t u h' refl (omega arith) (ok (record { flow = left_falls; context = c }) u)
        (sim_richer S.entries (Done S F h) j (L + 8) (0 + (L + 8) + rate * 0) 0 (ex S (one (set x (value (o S) 0 e)))) u h' (ok (record { flow = left_falls; context = c }) u) (omega arith)
        (set_sim S F x i j h h' (value (o S) 0 e) w L q c u (record { logs = ready'.told.logs; input = ready'.told.input; taken = ready'.told.taken }) r' (above_alike h h' 0 alike) v isv)))))

    -- a variable that begins with zeros
    pub zero_sim : (j : ℕ) (s : State) (h : Face) → Ready S F s h → Sim S.entries (Done S F h) j 40 0 (ex S (one (set x (word 0)))) s h (run_declare (env S c0) (Some x ∷ []) (rights_of calls (env S c) nothing) c s)
    unfolding begun_state
    zero_sim j s h ready =
        let v : Value = zeros 8 in
        let u : State = begun_state v s in
        let isv : Val S.entries 8 v 0 = record { long = refl; is = refl; small = lit< tt } in
        let r' : Ready S F u (stored S F (S.low + i.l.place) 0 h) = opened S F x i v 0 isv s h (s.cost + moved 8) ready in
        sim_result S.entries
        (ap (λ (k : ℕ). then_by (begin_block (block S x) (zeros k) s) (λ _. left_by left_falls c)) (zero_size S x i)
        ∙ ap (λ (b : Block). let r : Res Leave State Left = ok (record { flow = left_falls; context = c }) (record s { cost = s.cost + moved 8; memory = open_block s.memory b v }) in r) (block_found S x i.l i.found))
        (sim_later S.entries (Done S F h) j 40 0 0 (ex S (one (set x (word 0)))) s u h refl (omega arith) (ok (record { flow = left_falls; context = c }) u)
        (sim_richer S.entries (Done S F h) j (1 + 8) (40 + rate * 0) 0 (ex S (one (set x (word 0)))) u h (ok (record { flow = left_falls; context = c }) u) (lit≤ tt)
        (set_sim S F x i j h h (word 0) 0 1 (quiet_const S 0 h (lit< tt)) c u (record { logs = ready.told.logs; input = ready.told.input; taken = ready.told.taken }) r' (λ k far. refl) v isv)))

  -- ---- assignments
  -- what a write of eight bytes to a variable does
  pub record Wrote (at : Place) (b : Block) (v : Value) (t : State) : Type 0 where
    pub s : ℕ
    pub live : t.memory.size b ≡ Some s
    pub is : write_to at (to b 0) v t ≡ ok tt (record t { cost = t.cost + moved (length v); memory = put t.memory b 0 v })

  wrote : (at : Place) (f serial a x : ℕ) (v : Value) (t : State) → length v ≡ 8 → Wrote at (variable f serial a x) v t ⊎ (write_to at (to (variable f serial a x) 0) v t ≡ stop (ends (strayed at)) (costing t (t.cost + moved (length v))))
  wrote at f serial a x v t long = by (t.memory.size (variable f serial a x)) refl
    where
      first : write_to at (to (variable f serial a x) 0) v t ≡ keep at (if fits (t.memory.size (variable f serial a x)) 0 8 then Some (put t.memory (variable f serial a x) 0 v) else None) (costing t (t.cost + moved (length v)))
      first =
          write_eight at (variable f serial a x) v t long
          ∙ ap (λ (n : ℕ). keep at (if fits (t.memory.size (variable f serial a x)) 0 n then Some (put t.memory (variable f serial a x) 0 v) else None) (costing t (t.cost + moved (length v)))) long

      inside : (s : ℕ) → t.memory.size (variable f serial a x) ≡ Some s → (q : Bool) → fits (Some s) 0 8 ≡ q → Wrote at (variable f serial a x) v t ⊎ (write_to at (to (variable f serial a x) 0) v t ≡ stop (ends (strayed at)) (costing t (t.cost + moved (length v))))
      inside s e true q = inl (record {
        s = s;
        live = e;
        is = first ∙ ap (λ (o1 : Option ℕ). keep at (if fits o1 0 8 then Some (put t.memory (variable f serial a x) 0 v) else None) (costing t (t.cost + moved (length v)))) e
            ∙ ap (λ (p : Bool). keep at (if p then Some (put t.memory (variable f serial a x) 0 v) else None) (costing t (t.cost + moved (length v)))) q;
      })
      inside s e false q = inr (first ∙ ap (λ (o1 : Option ℕ). keep at (if fits o1 0 8 then Some (put t.memory (variable f serial a x) 0 v) else None) (costing t (t.cost + moved (length v)))) e
          ∙ ap (λ (p : Bool). keep at (if p then Some (put t.memory (variable f serial a x) 0 v) else None) (costing t (t.cost + moved (length v)))) q)

      by : (o1 : Option ℕ) → t.memory.size (variable f serial a x) ≡ o1 → Wrote at (variable f serial a x) v t ⊎ (write_to at (to (variable f serial a x) 0) v t ≡ stop (ends (strayed at)) (costing t (t.cost + moved (length v))))
      by None e = inr (first ∙ ap (λ (o1 : Option ℕ). keep at (if fits o1 0 8 then Some (put t.memory (variable f serial a x) 0 v) else None) (costing t (t.cost + moved (length v)))) e)
      by (Some s) e = inside s e (fits (Some s) 0 8) refl

  module _ (x : ℕ) (i : IntLocal S x) where
    -- the value of an expression is written to the variable, and what comes behind
    pub write_sim : {A : Type 0} (Q : A → State → Flow → Face → Type 0) (at : Place) (e : Expr) (tail : Stmts) → Codes S F (Val S.entries 8) (before (o S) 0 e) (value (o S) 0 e) 0 (value_of calls (env S c) e) → (j b g k : ℕ) (s : State) (h : Face) (f : Unit {0} → Do A) → Ready S F s h →
        ((t : State) (v : Value) (w : ℕ) (h' : Face) → Val S.entries 8 v w → Ready S F t (stored S F (S.low + i.l.place) w h') → Alike S F 0 h h' → Sim S.entries Q j b g (ex S tail) t (stored S F (S.low + i.l.place) w h') (f tt t)) →
        Sim S.entries Q j b g (ex S (join (before (o S) 0 e) (follow (set x (value (o S) 0 e)) tail))) s h (then_by (value_of calls (env S c) e s) (λ v. (λ t. then_by (write_to at (to (block S x) 0) v (costing t (t.cost + k))) f)))
    write_sim Q at e tail codes j b g k s h f ready next =
        codes.by (follow (set x (value (o S) 0 e)) tail) Q j b g s h (λ v. (λ t. then_by (write_to at (to (block S x) 0) v (costing t (t.cost + k))) f)) ready
        (λ v t w L h' isv q ready' alike fewer.
        let t1 : State = costing t (t.cost + k) in
        let to_name = ap (λ (y : Block). then_by (write_to at (to y 0) v t1) f) (block_found S x i.l i.found) in
        elim (wrote at S.number S.serial (S.low + i.l.place) (0 + x) v t1 isv.long) [
          | inr strays ↦ sim_result S.entries (to_name ∙ ap (λ (r : Res Leave State (Unit {0})). then_by r f) strays)
              (record { by = inr (record { logs = ready'.told.logs; input = ready'.told.input; taken = ready'.told.taken }) })
          | inl y ↦ (let u : State = record t1 { cost = t1.cost + moved (length v); memory = put t1.memory (name S x i.l) 0 v } in
              let r' : Ready S F u (stored S F (S.low + i.l.place) w h') = changed S F x i v w isv t h' y.s (t1.cost + moved (length v)) y.live ready' in
              sim_result S.entries (to_name ∙ ap (λ (r : Res Leave State (Unit {0})). then_by r f) y.is)
              (sim_later S.entries Q j (b + (L + 8)) g 0 (ex S (follow (set x (value (o S) 0 e)) tail)) t u h' refl (omega arith) (f tt u)
              (sim_first S.entries Q j (b + (L + 8) + rate * 0) b g (ex1 S (set x (value (o S) 0 e))) (λ flow n. after flow (ex S tail n)) u h' (stored S F (S.low + i.l.place) w h') refl refl refl (f tt u) (q.budget + 2) (q.cost + 3) falls
              (r_set S j x (variable_of S.tables i.l) (value (o S) 0 e) (local_variable S x i.l i.found) (omega (arith, i.size)) (q.runs j)) (omega (arith, q.cheap))
              (next u v w h' isv r' alike))))
        ])

    pub assign_sim : (at at' : Place) (t' : ℕ) (e : Expr) → Codes S F (Val S.entries 8) (before (o S) 0 e) (value (o S) 0 e) 0 (value_of calls (env S c) e) → (j : ℕ) (s : State) (h : Face) → Ready S F s h →
        Sim S.entries (Done S F h) j 0 0 (ex S (put_code (o S) x e)) s h (run_assign at (env S c0) (rights_of calls (env S c) (each (more e none))) (places_of calls (env S c) (left_ (expr t' at' (local x)) no_lefts)) c s)
    assign_sim at at' t' e codes j s h ready =
        let f : Unit {0} → Do Left = λ _. left_by left_falls c in
        sim_result S.entries
        (one_value e s (λ vs. (λ t. then_by (places_of calls (env S c) (left_ (expr t' at' (local x)) no_lefts) t) (λ ss. (λ t1. then_by (store_each at (env S c0) ss vs c t1) (left_by left_falls)))))
        ∙ then_same (value_of calls (env S c) e s) _ (λ v. (λ t. then_by (write_to at (to (block S x) 0) v (costing t (t.cost + 1))) f)) (λ v t. stored_then at v (costing t (t.cost + 1))))
        (write_sim (Done S F h) at e finish codes j 0 0 1 s h f ready
        (λ t v w h' isv ready' alike.
        sim_runs S.entries (Done S F h) j 0 0 (ex S finish) t (stored S F (S.low + i.l.place) w h') (stored S F (S.low + i.l.place) w h') (record { flow = left_falls; context = c }) 0 0 falls
        (runs_pure j falls (stored S F (S.low + i.l.place) w h')) ready'.told ready'.told (lit≤ tt)
        (record { left = tt; ready = ready'; above = λ k far. stays_above S F x i v w isv h' k far ∙ above_alike h h' 0 alike k far })))
      where
        stored_then : (at : Place) (v : Value) (t : State) → then_by (store_each at (env S c0) (Some (spot (to (block S x) 0)) ∷ []) (v ∷ []) c t) (left_by left_falls) ≡ then_by (write_to at (to (block S x) 0) v t) (λ _. left_by left_falls c)
        stored_then at v t = by (write_to at (to (block S x) 0) v t)
          where
            by : (r : Res Leave State (Unit {0})) → then_by (then_by (then_by r (λ _. (λ u. ok c u))) (λ d. (λ u. ok d u))) (left_by left_falls) ≡ then_by r (λ _. left_by left_falls c)
            by (ok y u) = refl
            by (stop why u) = refl

  abbrev nothing_left : Do Context
  nothing_left u = ok None u

  abbrev all_done : Do (Unit {0})
  all_done u = ok tt u

  -- ---- answers
  module _ (results : Results S F) where
    -- what is loaded of a live variable
    pub record Stands (i : IntLocal S S.proc.parameters) (t : State) (h : Face) : Type 0 where
      pub value : Value
      pub word : ℕ
      pub loaded : load t.memory (block S S.proc.parameters) 0 8 ≡ Some value
      pub val : Val S.entries 8 value word
      pub there : WordAt h.memory (S.low + i.l.place) word

    stands : (i : IntLocal S S.proc.parameters) (t : State) (h : Face) → t.memory.size (block S S.proc.parameters) ≡ Some 8 → Ready S F t h → Stands i t h
    stands i t h live ready =
        let b : Block = block S S.proc.parameters in
        let v : Value = stretch (t.memory.byte b) 0 8 in
        let loads : load t.memory b 0 8 ≡ Some v = ap (λ (n : Option ℕ). if fits n 0 8 then Some v else None) live in
        let l8 : Loaded S.entries h.memory b (t.memory.size b) 8 v = loaded_from S.entries t.memory h.memory b 7 v tt ready.now.tied loads in
        let bytes = eight_bytes (bytes_at S.entries v) (simp length-map l8.long) (sane_bytes S.entries v l8.sane) in
        let placed : place_of b ≡ S.low + i.l.place = ap place_of (block_found S S.proc.parameters i.l i.found) in
        record {
          value = v;
          word = word_of (bytes_at S.entries v);
          loaded = loads;
          val = record { long = l8.long; is = bytes.0; small = bytes.1 };
          there = ap (λ (a : ℕ). run h.memory a 8) (sym placed) ∙ l8.there ∙ ap (map Some) bytes.0;
        }

    -- the result is answered as it stands
    pub answer_any : (Q : Left → State → Flow → Face → Type 0) (j : ℕ) (t : State) (h : Face) → Ready S F t h → ((w : ℕ) → Gave S F w t → Q (record { flow = returns; context = c }) t (answers w) h) →
        Sim S.entries Q j 4 0 (ex S (one (answered (result_code (o S) S.proc.results)))) t h (left_by returns c t)
    answer_any Q j t h ready holds = by S.proc.results refl
      where
        answers_runs : (e : CoreExpr) (w L : ℕ) → Quiet S e h w L → L ≤ 3 → Gave S F w t → Sim S.entries Q j 4 0 (ex S (one (answered e))) t h (left_by returns c t)
        answers_runs e w L q few gave =
            sim_runs S.entries Q j 4 0 (ex S (one (answered e))) t h h (record { flow = returns; context = c }) (q.budget + 0 + 1) (q.cost + 0 + 1) (answers w)
            (r_one S j (answered e) (runs_node (λ n. (λ t1. onto (ev S e n t1) (λ v. done (answers v)))) (runs_then (ev S e) (λ v n. done (answers v)) (q.runs j) (runs_pure j (answers w) h))))
            ready.told ready.told (omega (arith, q.cheap)) (holds w gave)

        by : (n : ℕ) → S.proc.results ≡ n → Sim S.entries Q j 4 0 (ex S (one (answered (result_code (o S) S.proc.results)))) t h (left_by returns c t)
        by zero e =
            let P : ℕ → Type 0 = λ n. Sim S.entries Q j 4 0 (ex S (one (answered (result_code (o S) n)))) t h (left_by returns c t) in
            subst P (sym e) (answers_runs (word 0) 0 1 (quiet_const S 0 h (lit< tt)) (lit≤ tt) (record { value = []; there = λ one. absurd (omega (arith, one, e)); is = λ one. absurd (omega (arith, one, e)) }))
        by (suc n) e =
            let single : S.proc.results ≡ 1 = omega (arith, results.few, e) in
            let i : IntLocal S S.proc.parameters = results.is_int single in
            let x : Stands i t h = stands i t h (ready.answer single) ready in
            let P : ℕ → Type 0 = λ n. Sim S.entries Q j 4 0 (ex S (one (answered (result_code (o S) n)))) t h (left_by returns c t) in
            subst P (sym single) (answers_runs (held S.proc.parameters) x.word 3 (quiet_held S S.proc.parameters (variable_of S.tables i.l) x.word h (local_variable S S.proc.parameters i.l i.found) (omega (arith, i.size)) x.val.small x.there) (lit≤ tt)
            (record { value = x.value; there = λ _. x.loaded; is = λ _. x.val }))

    pub answer_sim : (j : ℕ) (h0 : Face) (t : State) (h : Face) → Ready S F t h → ((k : ℕ) → S.low + S.proc.frame ≤ k → h.memory k ≡ h0.memory k) →
        Sim S.entries (Done S F h0) j 4 0 (ex S (one (answered (result_code (o S) S.proc.results)))) t h (left_by returns c t)
    answer_sim j h0 t h ready above = answer_any (Done S F h0) j t h ready (λ w gave. record { left = gave; ready = ready; above = above })

    -- a value for the result
    pub return_sim : (at : Place) (e : Expr) → S.proc.results ≡ 1 → Codes S F (Val S.entries 8) (before (o S) 0 e) (value (o S) 0 e) 0 (value_of calls (env S c) e) → (j : ℕ) (s : State) (h : Face) → Ready S F s h →
        Sim S.entries (Done S F h) j 40 0 (ex S (return_code (o S) (each (more e none)))) s h (run_return at (env S c0) (rights_of calls (env S c) (each (more e none))) c s)
    return_sim at e single codes j s h ready =
        let i : IntLocal S S.proc.parameters = results.is_int single in
        let tail : Stmts = one (answered (result_code (o S) S.proc.results)) in
        let f : Unit {0} → Do Left = λ _. left_by returns c in
        sim_result S.entries
        (one_value e s (λ vs. (λ t. then_by (results_from at (env S c0) S.proc.parameters vs t) (λ _. left_by returns c)))
        ∙ then_same (value_of calls (env S c) e s) _ (λ v. (λ t. then_by (write_to at (to (block S S.proc.parameters) 0) v (costing t (t.cost + 0))) f)) (λ v t. stored_then at v t))
        (write_sim S.proc.parameters i (Done S F h) at e tail codes j 40 0 0 s h f ready
        (λ t v w h' isv ready' alike.
        sim_richer S.entries (Done S F h) j 4 40 0 (ex S tail) t (stored S F (S.low + i.l.place) w h') (left_by returns c t) (lit≤ tt)
        (answer_sim j h t (stored S F (S.low + i.l.place) w h') ready' (λ k far. stays_above S F S.proc.parameters i v w isv h' k far ∙ above_alike h h' 0 alike k far))))
      where
        stored_then : (at : Place) (v : Value) (t : State) → then_by (results_from at (env S c0) S.proc.parameters (v ∷ []) t) (λ _. left_by returns c) ≡ then_by (write_to at (to (block S S.proc.parameters) 0) v (costing t (t.cost + 0))) (λ _. left_by returns c)
        stored_then at v t = by (write_to at (to (block S S.proc.parameters) 0) v t) ∙ ap (λ (k : ℕ). then_by (write_to at (to (block S S.proc.parameters) 0) v (costing t k)) (λ _. left_by returns c)) (sym (add-zero t.cost))
          where
            by : (r : Res Leave State (Unit {0})) → then_by (then_by (then_by (then_by r (λ _. nothing_left)) (λ d. all_done)) (λ _. all_done)) (λ _. left_by returns c) ≡ then_by r (λ _. left_by returns c)
            by (ok y u) = refl
            by (stop why u) = refl
