-- The core code of an expression does what the source run does with it.
use Rattle.std.proofs.Common.{◌≡◌, ℕ, suc, ◌+◌, ◌*◌, ◌<◌, ◌≤◌, inl, Bool, List, [], ◌∷◌, length, map, arith, ap, ◌∙◌, sym, subst, refl, lit≤}
use Rattle.std.specs.Prelude.{Some, slice_get}
use Rattle.odc_text.specs.declared.place.Place.{Place}
use Rattle.odc_text.specs.Run.{Log}
use Rattle.odc_typed.specs.declared.tree.Constant.TheVariants.{Int, Bool as Truth}
use Rattle.odc_typed.specs.Tree.{Expr, const, local, binary, call, builtin, Exprs, none, more}
use Rattle.odc_typed.specs.Bytes.{Value, bytes_of}
use Rattle.odc_typed.specs.Memory.{Memory as Blocks}
use Rattle.odc_typed.specs.Well.{IsInt, AreInts, Signature, Scope}
use Rattle.odc_typed.specs.Source.{State, Res, ok, stop, then_by, Calls, Env, value_of, values_of}
use Rattle.odc_core.specs.Tree.{Stmts, finish}
use Rattle.odc_core.specs.Tree.{call as called}
use Rattle.odc_core.specs.Memory.{Memory}
use Rattle.odc_core.specs.Run.{Flow, falls, World}
use Rattle.odc_context.specs.Code.{Own, offset_of, join, one, wait, all_waiting, expr_code, exprs_code, count, depth_of, depth_of_all}
use Rattle.odc_context.proofs.Runs.{Fueled}
use Rattle.odc_context.proofs.Sims.{read, Sim, sim_runs, sim_tick, sim_richer}
use Rattle.odc_context.proofs.Touched.{word_apart}
use Rattle.odc_context.proofs.Frame.{ex, r_none}
use Rattle.odc_context.proofs.Ties.{Floor, stays_on, stays_same}
use Rattle.odc_context.proofs.simulation.Texts.{values}
use Rattle.odc_context.proofs.simulation.Exprs.{Fits, Ready, Valued, Live, live_on, join_sim}
use Rattle.odc_context.proofs.simulation.Nodes.{CallsFollow, Listed, zone_less, const_sim, local_sim, binary_sim}
use Rattle.odc_context.proofs.simulation.Calling.{call_runs}
use Rattle.odc_context.proofs.Sims.{sim_map}

-- each argument waits
pub few : (es : Exprs) → count es ≤ depth_of_all es
few none = lit≤ tt
few (more e es) = let rest : count es ≤ depth_of_all es = few es in omega arith

-- a value waits
pub depth_some : (ss : List Signature) (scope : Scope) (e : Expr) → IsInt ss scope e → 1 ≤ depth_of e
depth_some ss scope (const at value) h = lit≤ tt
depth_some ss scope (local at x) h = lit≤ tt
depth_some ss scope (binary at op left right) h = omega arith
depth_some ss scope (call at f arguments) h = omega arith
depth_some ss scope (builtin at which arguments) h = absurd h

-- credit that isn't used is kept
pub kept : (entries : ℕ → ℕ) {A B : Type 0} (R : A → State → B → Memory → Type 0) (j b g c : ℕ) → b + g ≤ c → (act : Fueled B) (s : State) (m : Memory) (l : Log ℕ ℕ) (r : Res A) → Sim entries R j b 0 act s m l r → Sim entries R j c g act s m l r
kept entries {A} {B} R j b g c h act s m l r x =
    let P : Res A → Type 0 = λ q. Sim entries R j (b + g) (0 + g) act s m l q in
    let Q : ℕ → Type 0 = λ q. Sim entries R j (b + g) q act s m l r in
    let none : 0 + g ≡ g = omega arith in
    sim_richer entries R j g act m l (b + g) c s r h
    (subst Q none (subst P (same_result r) (sim_map entries R R j b 0 g act s m l r (λ v. v) x (λ v t w m' y. y))))
  where
    same_result : (q : Res A) → then_by q (λ v t. ok v t) ≡ q
    same_result (ok v t) = refl
    same_result (stop e t) = refl

module _ (entries : ℕ → ℕ) (n : ℕ) (world : World) (at : Place) (o : Own) (env : Env) (size : ℕ) (src0 : Blocks) (outer : ℕ → Bool) (fits : Fits env.low size o) (floor : Floor env size src0) where
  -- the call behind its arguments
  pub called_back : (ss : List Signature) (calls : Calls) → CallsFollow entries n world at o env size src0 outer fits floor ss calls → (j : ℕ) (f k d : ℕ) (s : State) (m : Memory) (t : State) (m' : Memory) (l' : Log ℕ ℕ) (vs : List Value) →
      Listed entries n world at o env size src0 outer fits floor s.memory m d k vs t falls m' → slice_get ss f ≡ Some (record { parameters = k; results = 1 }) → d < o.waiting → d + k ≤ o.waiting → map (read entries) t.log ≡ l' →
      Sim entries (Valued entries n world at o env size src0 outer fits floor s.memory m d) j (100 + 40 * k) 40 (ex j world at env.low o outer (one (wait o d (called f (all_waiting o d k))))) t m' l' (calls f vs env.low t)
  called_back ss calls calls_follow j f k d s m t m' l' vs x signature inside fit logs =
      let R : Value → State → Flow → Memory → Type 0 = Valued entries n world at o env size src0 outer fits floor s.memory m d in
      let ws : List ℕ = x.words in
      let S : ℕ → Type 0 = λ q. slice_get ss f ≡ Some (record { parameters = q; results = 1 }) in
      let A : ℕ → Type 0 = λ q. Sim entries R j (100 + 40 * q) 40 (ex j world at env.low o outer (one (wait o d (called f (all_waiting o d q))))) t m' l' (calls f vs env.low t) in
      let V : List Value → Type 0 = λ y. Sim entries R j (100 + 40 * length ws) 40 (ex j world at env.low o outer (one (wait o d (called f (all_waiting o d (length ws)))))) t m' l' (calls f y env.low t) in
      subst A x.counted (subst V (sym x.value)
      (kept entries R j (3 * length ws + 4) 40 (100 + 40 * length ws) (omega arith) (ex j world at env.low o outer (one (wait o d (called f (all_waiting o d (length ws)))))) t m' l' (calls f (values ws) env.low t)
      (call_runs entries n world at o env size src0 outer fits floor ss calls calls_follow j d f ws s.memory m t m' l' (subst S (sym x.counted) signature) inside (omega (arith, x.counted)) x.small x.waits x.ready (λ q zone. x.others q zone) logs)))

  -- one more argument
  pub listed_more : (j k d : ℕ) (s : State) (m : Memory) (t : State) (m' : Memory) (l' : Log ℕ ℕ) (v : Value) (x : Valued entries n world at o env size src0 outer fits floor s.memory m d v t falls m') (act : Fueled Flow) (r : Res (List Value)) →
      Sim entries (Listed entries n world at o env size src0 outer fits floor t.memory m' (d + 1) k) j 0 (40 * k) act t m' l' r →
      Sim entries (Listed entries n world at o env size src0 outer fits floor s.memory m d (suc k)) j (0 + 40) (40 * suc k) act t m' l' (then_by r (λ vs. (λ u. ok (v ∷ vs) u)))
  listed_more j k d s m t m' l' v x act r sim =
      let P : ℕ → Type 0 = λ g. Sim entries (Listed entries n world at o env size src0 outer fits floor s.memory m d (suc k)) j (0 + 40) g act t m' l' (then_by r (λ vs. (λ u. ok (v ∷ vs) u))) in
      let more_spare : 40 * k + 40 ≡ 40 * suc k = omega arith in
      subst P more_spare
      (sim_map entries (Listed entries n world at o env size src0 outer fits floor t.memory m' (d + 1) k) (Listed entries n world at o env size src0 outer fits floor s.memory m d (suc k)) j 0 (40 * k) 40 act t m' l' r (λ vs. v ∷ vs) sim
      (λ vs t' flow m'' y. record {
        words = x.word ∷ y.words;
        small = (x.small, y.small);
        value = ap (λ (a : Value). a ∷ vs) x.value ∙ ap (λ (as' : List Value). bytes_of 8 x.word ∷ as') y.value;
        counted = ap suc y.counted;
        falls = y.falls;
        waits = (word_apart m' m'' (env.low + offset_of (o.first + d)) x.word (λ q from to. y.others q (inl (omega arith, omega arith))) x.waits, y.waits);
        ready = record { tied = y.ready.tied; newer = y.ready.newer; few = y.ready.few; stays = stays_on s.memory t.memory t'.memory x.ready.stays y.ready.stays };
        others = λ q zone. y.others q (zone_less entries n world at o env size src0 outer fits floor d (d + 1) q (omega arith) zone) ∙ x.others q zone;
      }))

module _ (entries : ℕ → ℕ) (n : ℕ) (world : World) (at : Place) (o : Own) (env : Env) (size : ℕ) (src0 : Blocks) (outer : ℕ → Bool) (fits : Fits env.low size o) (floor : Floor env size src0) where
  abbrev low : ℕ
  low = env.low

  module _ (ss : List Signature) (calls : Calls) (calls_follow : CallsFollow entries n world at o env size src0 outer fits floor ss calls) (j : ℕ) (scope : Scope) where
    mutual
      pub expr_sim : (e : Expr) (d : ℕ) (s : State) (m : Memory) (l : Log ℕ ℕ) → IsInt ss scope e → d + depth_of e ≤ o.waiting → Live entries n world at o env size src0 outer fits floor scope s.memory →
          Ready entries n world at o env size src0 outer fits floor s.memory s.memory s.serial s.left m → map (read entries) s.log ≡ l →
          Sim entries (Valued entries n world at o env size src0 outer fits floor s.memory m d) j 0 40 (ex j world at low o outer (expr_code o d e)) s m l (value_of calls env e s)
      expr_sim (const at' (Int z)) d s m l h fit live ready logs = const_sim entries n world at o env size src0 outer fits floor j at' z d s m l h (omega arith) ready logs calls
      expr_sim (const at' (Truth b)) d s m l h fit live ready logs = absurd h
      expr_sim (local at' x) d s m l h fit live ready logs = local_sim entries n world at o env size src0 outer fits floor j at' x d scope s m l h (omega arith) live ready logs calls
      expr_sim (binary at' op left right) d s m l h fit live ready logs =
          binary_sim entries n world at o env size src0 outer fits floor j at' op left right d s m l calls h.0 (omega (arith, depth_some ss scope right h.1.1)) logs
          (λ c. expr_sim left d (record s { cost = c }) m l h.1.0 (omega arith) (record { by = live.by }) (record { tied = ready.tied; newer = ready.newer; few = ready.few; stays = ready.stays }) logs)
          (λ t m' l' ready' logs'. expr_sim right (d + 1) t m' l' h.1.1 (omega arith) (live_on entries n world at o env size src0 outer fits floor scope s.memory t.memory ready'.stays live)
          (record { tied = ready'.tied; newer = ready'.newer; few = ready'.few; stays = stays_same t.memory }) logs')
      expr_sim (call at' f arguments) d s m l h fit live ready logs =
          let k : ℕ = count arguments in
          let s1 : State = record s { cost = s.cost + 1 } in
          let R : Value → State → Flow → Memory → Type 0 = Valued entries n world at o env size src0 outer fits floor s.memory m d in
          let L : List Value → State → Flow → Memory → Type 0 = Listed entries n world at o env size src0 outer fits floor s.memory m d k in
          let tail : Stmts = one (wait o d (called f (all_waiting o d k))) in
          let act : Fueled Flow = ex j world at low o outer (join (exprs_code o d arguments) tail) in
          let g : List Value → State → Res Value = λ vs. (λ t. calls f vs env.low t) in
          sim_tick entries R j 40 act m l 0 s (then_by (values_of calls env arguments s1) g)
          (join_sim entries n world at o env size src0 outer fits floor j L R 0 100 (40 * k) 40 (exprs_code o d arguments) tail s1 m l (values_of calls env arguments s1) g
          (exprs_sim arguments d s1 m l h.1 (omega arith) (record { by = live.by }) (record { tied = ready.tied; newer = ready.newer; few = ready.few; stays = ready.stays }) logs)
          (λ vs t flow m' x. x.falls)
          (λ vs t m' l' x logs'.
          called_back entries n world at o env size src0 outer fits floor ss calls calls_follow j f k d s m t m' l' vs x h.0 (omega arith) (omega (arith, few arguments)) logs'))
      expr_sim (builtin at' which arguments) d s m l h fit live ready logs = absurd h

      pub exprs_sim : (es : Exprs) (d : ℕ) (s : State) (m : Memory) (l : Log ℕ ℕ) → AreInts ss scope es → d + depth_of_all es ≤ o.waiting → Live entries n world at o env size src0 outer fits floor scope s.memory →
          Ready entries n world at o env size src0 outer fits floor s.memory s.memory s.serial s.left m → map (read entries) s.log ≡ l →
          Sim entries (Listed entries n world at o env size src0 outer fits floor s.memory m d (count es)) j 0 (40 * count es) (ex j world at low o outer (exprs_code o d es)) s m l (values_of calls env es s)
      exprs_sim none d s m l h fit live ready logs =
          sim_runs entries (Listed entries n world at o env size src0 outer fits floor s.memory m d 0) j 0 (40 * 0) (ex j world at low o outer finish) s m l [] 0 0 falls m (r_none j world at low o outer m l) logs (lit≤ tt)
          (record { words = []; small = tt; value = refl; counted = refl; falls = refl; waits = tt; ready = ready; others = λ x zone. refl })
      exprs_sim (more e es) d s m l h fit live ready logs =
          let k : ℕ = count es in
          let R : Value → State → Flow → Memory → Type 0 = Valued entries n world at o env size src0 outer fits floor s.memory m d in
          let L : List Value → State → Flow → Memory → Type 0 = Listed entries n world at o env size src0 outer fits floor s.memory m d (suc k) in
          let g : Value → State → Res (List Value) = λ v. (λ t. then_by (values_of calls env es t) (λ vs. (λ u. ok (v ∷ vs) u))) in
          join_sim entries n world at o env size src0 outer fits floor j R L 0 0 40 (40 * suc k) (expr_code o d e) (exprs_code o (d + 1) es) s m l (value_of calls env e s) g
          (expr_sim e d s m l h.0 (omega arith) live ready logs)
          (λ v t flow m' x. x.falls)
          (λ v t m' l' x logs'.
          listed_more entries n world at o env size src0 outer fits floor j k d s m t m' l' v x (ex j world at low o outer (exprs_code o (d + 1) es)) (values_of calls env es t)
          (exprs_sim es (d + 1) t m' l' h.1 (omega arith) (live_on entries n world at o env size src0 outer fits floor scope s.memory t.memory x.ready.stays live) (record { tied = x.ready.tied; newer = x.ready.newer; few = x.ready.few; stays = stays_same t.memory }) logs'))
