-- The core code of a call and of lists of arguments does what the source run does.
use Rattle.std.proofs.Common.{◌≡◌, ℕ, suc, ◌+◌, ◌*◌, ◌<◌, ◌≤◌, inl, inr, Bool, true, List, [], ◌∷◌, length, map, arith, ◌∙◌, sym, subst, refl}
use Rattle.std.specs.Prelude.{Some, None, slice_get}
use Rattle.odc_text.specs.declared.place.Place.{Place}
use Rattle.odc_text.specs.Run.{Log}
use Rattle.odc_typed.specs.Bytes.{Value}
use Rattle.odc_typed.specs.Memory.{Memory as Blocks}
use Rattle.odc_typed.specs.Well.{Signature}
use Rattle.odc_typed.specs.Source.{State, Res, Calls, Env}
use Rattle.odc_core.specs.Tree.{slot}
use Rattle.odc_core.specs.Tree.{call as called, Exprs as CoreExprs, more as another}
use Rattle.odc_core.specs.Words.{bytes_of as numbers_of}
use Rattle.odc_core.specs.Memory.{Memory, put, all_in}
use Rattle.odc_core.specs.Frames.{touched_in}
use Rattle.odc_core.specs.Run.{Flow, falls, World, calls_of, spend, pure, ◌>>=◌, store_bytes}
use Rattle.odc_core.specs.Run.{values_of as core_values}
use Rattle.odc_context.specs.Code.{Own, offset_of, word_at, variables_of, one, waits, wait, all_waiting}
use Rattle.odc_context.proofs.Runs.{Fueled, Runs, runs_pure, runs_as, runs_then, runs_spend, runs_store}
use Rattle.odc_context.proofs.Sims.{read, Sim, sim_richer, sim_act, sim_before, sim_behind}
use Rattle.odc_context.proofs.Touched.{word_variable, part_touched}
use Rattle.odc_context.proofs.Frame.{env_at, ev, ex, ex1, r_slot}
use Rattle.odc_context.proofs.Ties.{Floor, stays_on, stays_same}
use Rattle.odc_context.proofs.simulation.Texts.{AreSmall, values}
use Rattle.odc_context.proofs.simulation.Exprs.{Fits, Ready, Zone, Valued, waited, r_waits}
use Rattle.odc_context.proofs.simulation.Nodes.{alone, Called, CallsFollow, AllWait}

module _ (entries : ℕ → ℕ) (n : ℕ) (world : World) (at : Place) (o : Own) (env : Env) (size : ℕ) (src0 : Blocks) (outer : ℕ → Bool) (fits : Fits env.low size o) (floor : Floor env size src0) where
  abbrev low : ℕ
  low = env.low

  -- the words that wait, as arguments
  arguments_run : (j d : ℕ) (ws : List ℕ) (m : Memory) (l : Log ℕ ℕ) → d + length ws ≤ o.waiting → AreSmall ws → AllWait entries n world at o env size src0 outer fits floor m d ws →
      Runs j (λ i. core_values (calls_of world i) (env_at world at low o outer) (all_waiting o d (length ws))) m l (2 * length ws) (3 * length ws) ws m l
  arguments_run j d [] m l inside small waits' = runs_pure j [] m l
  arguments_run j d (w ∷ ws) m l inside small waits' =
      let k : ℕ = length ws in
      let args : CoreExprs = all_waiting o (d + 1) k in
      let rest = arguments_run j (d + 1) ws m l (omega arith) small.1 waits'.1 in
      runs_as j (λ i. core_values (calls_of world i) (env_at world at low o outer) (another (waits o d) args)) m l (2 + (2 * k + 0)) (2 * suc k) (3 + (3 * k + 0)) (3 * suc k) (w ∷ ws) m l (omega arith) (omega arith)
      (runs_then j (ev j world at low o outer (waits o d)) (λ v i. core_values (calls_of world i) (env_at world at low o outer) args >>= (λ vs. pure (v ∷ vs))) m l 2 3 w m l (2 * k + 0) (3 * k + 0) (w ∷ ws) m l
      (r_waits entries n world at o env size src0 outer fits floor j d w m l (omega arith) small.0 waits'.0)
      (runs_then j (λ i. core_values (calls_of world i) (env_at world at low o outer) args) (λ vs i. pure (w ∷ vs)) m l (2 * k) (3 * k) ws m l 0 0 (w ∷ ws) m l rest (runs_pure j (w ∷ ws) m l)))

  -- the call, whose answer comes to wait
  pub call_runs : (ss : List Signature) (calls : Calls) → CallsFollow entries n world at o env size src0 outer fits floor ss calls → (j d f : ℕ) (ws : List ℕ) (src : Blocks) (m0 : Memory) (t : State) (m : Memory) (l : Log ℕ ℕ) →
      slice_get ss f ≡ Some (record { parameters = length ws; results = 1 }) → d < o.waiting → d + length ws ≤ o.waiting → AreSmall ws → AllWait entries n world at o env size src0 outer fits floor m d ws →
      Ready entries n world at o env size src0 outer fits floor src t.memory t.serial t.left m → ((x : ℕ) → Zone entries n world at o env size src0 outer fits floor d x → m x ≡ m0 x) → map (read entries) t.log ≡ l →
      Sim entries (Valued entries n world at o env size src0 outer fits floor src m0 d) j (3 * length ws + 4) 0 (ex j world at low o outer (one (wait o d (called f (all_waiting o d (length ws)))))) t m l (calls f (values ws) env.low t)
  call_runs ss calls calls_follow j d f ws src m0 t m l signature inside fit small waits' ready others logs =
      let k : ℕ = length ws in
      let args : CoreExprs = all_waiting o d k in
      let slot_is : ℕ = low + offset_of (o.first + d) in
      let r : Res Value = calls f (values ws) env.low t in
      let cenv = env_at world at low o outer in
      let act0 : Fueled ℕ = λ i. calls_of world i None f ws (touched_in outer low (variables_of o)) low in
      let C : Value → State → ℕ → Memory → Type 0 = Called entries n world at o env size src0 outer fits floor t.memory m in
      let now : Ready entries n world at o env size src0 outer fits floor t.memory t.memory t.serial t.left m = record { tied = ready.tied; newer = ready.newer; few = ready.few; stays = stays_same t.memory } in
      let sim0 : Sim entries C j 0 0 act0 t m l r = calls_follow.by j f k signature ws small refl t m l now logs in
      let sim1 = sim_before entries C j (3 * k) 0 0 (λ i. core_values (calls_of world i) cenv args) (λ vs i. calls_of world i None f vs (touched_in outer low (variables_of o)) low) t m l r (2 * k) (3 * k) ws
      (arguments_run j d ws m l fit small waits') (omega arith) sim0 in
      let sim2 = sim_behind entries C C j (3 * k) 1 0 (λ i. core_values (calls_of world i) cenv args >>= (λ vs. calls_of world i None f vs (touched_in outer low (variables_of o)) low)) (λ v i. spend (pure v)) t m l r sim1
      (λ v t' w m' x. record { word = w; memory = m'; budget = 1; runs = (λ l'. runs_spend j (λ i. pure w) m' l' 0 0 w m' l' (runs_pure j w m' l')); holds = x }) in
      let V : Value → State → Flow → Memory → Type 0 = Valued entries n world at o env size src0 outer fits floor src m0 d in
      let store_last : ℕ → Fueled Flow = λ v i. store_bytes cenv slot_is (numbers_of 8 v) >>= (λ _. pure falls) in
      let touched : all_in (touched_in outer low (variables_of o)) slot_is 8 ≡ true =
      part_touched outer low (variables_of o) (o.first + d) (word_at (o.first + d)) slot_is 8 (word_variable o (o.first + d) (omega arith)) (omega arith) (omega arith) in
      let sim3 = sim_behind entries C V j (3 * k + 1) 1 0 (ev j world at low o outer (called f args)) store_last t m l r sim2
      (λ v t' w m' x.
      let P : Value → Type 0 = λ y. Valued entries n world at o env size src0 outer fits floor src m0 d y t' falls (put m' slot_is (numbers_of 8 w)) in
      let ready' : Ready entries n world at o env size src0 outer fits floor src t'.memory t'.serial t'.left m' = record { tied = x.ready.tied; newer = x.ready.newer; few = x.ready.few; stays = stays_on src t.memory t'.memory ready.stays x.ready.stays } in
      record {
        word = falls;
        memory = put m' slot_is (numbers_of 8 w);
        budget = 0 + 0;
        runs = (λ l'. runs_then j (λ i. store_bytes cenv slot_is (numbers_of 8 w)) (λ _ i. pure falls) m' l' 0 1 tt (put m' slot_is (numbers_of 8 w)) l' 0 0 falls (put m' slot_is (numbers_of 8 w)) l'
            (runs_store j cenv slot_is (numbers_of 8 w) m' l' touched) (runs_pure j falls (put m' slot_is (numbers_of 8 w)) l'));
        holds = subst P (sym x.value) (waited entries n world at o env size src0 outer fits floor src t'.memory t'.serial t'.left m0 m' d w t' inside ready'
            (λ q zone. x.above q (elim zone [ inl a ↦ omega (arith, a.0) | inr a ↦ omega arith ]) ∙ others q zone) x.small);
      }) in
      let sim4 = sim_before entries V j (1 + (3 * k + 1 + 1)) (3 * k + 1 + 1) 0 (ev j world at low o outer (slot (o.first + d))) (λ a i. ev j world at low o outer (called f args) i >>= (λ v. store_bytes cenv a (numbers_of 8 v) >>= (λ _. pure falls))) t m l r 1 1 slot_is
      (r_slot j world at low o outer (o.first + d) (word_at (o.first + d)) m l (word_variable o (o.first + d) (omega arith))) (omega arith) sim3 in
      let sim5 = sim_behind entries V V j (1 + (3 * k + 1 + 1)) 1 0 (λ i. ev j world at low o outer (slot (o.first + d)) i >>= (λ a. ev j world at low o outer (called f args) i >>= (λ v. store_bytes cenv a (numbers_of 8 v) >>= (λ _. pure falls)))) (λ v i. spend (pure v)) t m l r sim4
      (λ v t' w m' x. record { word = w; memory = m'; budget = 1; runs = (λ l'. runs_spend j (λ i. pure w) m' l' 0 0 w m' l' (runs_pure j w m' l')); holds = x }) in
      sim_richer entries V j 0 (ex j world at low o outer (one (wait o d (called f args)))) m l (1 + (3 * k + 1 + 1) + 1) (3 * k + 4) t r (omega arith)
      (sim_act entries V j (1 + (3 * k + 1 + 1) + 1) 0 (ex1 j world at low o outer (wait o d (called f args))) (ex j world at low o outer (one (wait o d (called f args))))
      (λ i c. alone (ex1 j world at low o outer (wait o d (called f args)) i c)) t m l r sim5)
