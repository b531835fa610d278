-- Every call of the core run does what the call of the source does.
use Rattle.std.proofs.Common.{◌≡◌, ℕ, zero, suc, ◌+◌, ◌-◌, ◌^◌, ◌<◌, ◌≤◌, Bool, true, false, List, [], ◌∷◌, length, map, arith, ap, ◌∙◌, sym, subst, refl}
use Rattle.std.specs.Prelude.{Option, Some, None, slice_get, if◌then◌else◌}
use Rattle.std.proofs.Math.Nat.{add-zero}
use Rattle.std.proofs.lemmas.Bool.Decides.{nat_tests}
use Rattle.odc_text.specs.declared.place.Place.{Place}
use Rattle.odc_text.specs.Run.{checked, Log}
use Rattle.odc_typed.specs.Tree.{Proc}
use Rattle.odc_typed.specs.Bytes.{Value}
use Rattle.odc_typed.specs.Memory.{Memory as Blocks}
use Rattle.odc_typed.specs.Well.{Signature}
use Rattle.odc_typed.specs.Source.{State, Res, stop, Env}
use Rattle.odc_core.specs.Memory.{Memory}
use Rattle.odc_core.specs.Frames.{touched_in}
use Rattle.odc_core.specs.Run.{World, calls_of}
use Rattle.odc_core.specs.Run.{State as CoreState, Res as CoreRes, stop as halt}
use Rattle.odc_context.specs.Code.{Own, variables_of, one, count}
use Rattle.odc_context.proofs.Runs.{Fueled, from, to}
use Rattle.odc_context.proofs.Sims.{read, Sim, sim_richer, sim_act, sim_weaker}
use Rattle.odc_context.proofs.Ties.{Floor, Tied, Stays}
use Rattle.odc_context.proofs.simulation.Texts.{AreSmall, values}
use Rattle.odc_context.proofs.simulation.Exprs.{Fits, Ready}
use Rattle.odc_context.proofs.simulation.Nodes.{Called, CallsFollow}
use Rattle.odc_context.proofs.simulation.Values.{few}
use Rattle.odc_context.proofs.Sims.{Begins, sim_turn}
use Rattle.odc_text.specs.Run.{going}
use Rattle.odc_context.proofs.Ties.{floor_below, tied_start, tied_back, stays_back}
use Rattle.odc_context.specs.Code.{own_of, crossed}
use Rattle.odc_typed.specs.Frame.{frame}
use Rattle.odc_typed.specs.Memory.{close}
use Rattle.odc_typed.specs.Source.{env_of, body_run, numbered}
use Rattle.odc_typed.specs.Well.{IsWellProc, signatures}
use Rattle.odc_context.proofs.Procs.{frame_fits}
use Rattle.odc_context.proofs.Sims.{sim_later}
use Rattle.odc_core.specs.Run.{body_run as core_body}
use Rattle.odc_context.proofs.Activation.{Returned, activation_sim}
use Rattle.odc_typed.specs.Source.{calls_of as source_calls, enter as source_enter, has_room as source_room}
use Rattle.odc_typed.specs.Well.{AllWell}
use Rattle.odc_core.specs.Run.{enter as core_enter}
use Rattle.odc_core.specs.Frames.{has_room}
use Rattle.odc_core.specs.Tree.{Proc as CoreProc}
use Rattle.odc_text.specs.declared.check.Check.TheVariants.{Stack}

-- ---- what is found

pub mapped_get : (ps : List Proc) (f : ℕ) (p : Proc) → slice_get ps f ≡ Some p → slice_get (map crossed ps) f ≡ Some (crossed p)
mapped_get [] f p e = cc
mapped_get (q ∷ ps) zero p e = let same : q ≡ p = cc in ap (λ (x : Proc). Some (crossed x)) same
mapped_get (q ∷ ps) (suc f) p e = mapped_get ps f p e

-- the procedure of a signature
record Signed (ps : List Proc) (f k r : ℕ) : Type 0 where
  pub p : Proc
  pub is : slice_get ps f ≡ Some p
  pub parameters : length p.parameters ≡ k
  pub results : length p.results ≡ r

signed : (ps : List Proc) (f k r : ℕ) → slice_get (signatures ps) f ≡ Some (record { parameters = k; results = r }) → Signed ps f k r
signed [] f k r e = cc
signed (q ∷ ps) zero k r e = record { p = q; is = refl; parameters = ap (λ (x : Option Signature). parameters_of x) e; results = ap (λ (x : Option Signature). results_of x) e }
  where
    parameters_of : Option Signature → ℕ
    parameters_of (Some x) = x.parameters
    parameters_of None = 0

    results_of : Option Signature → ℕ
    results_of (Some x) = x.results
    results_of None = 0
signed (q ∷ ps) (suc f) k r e = let rest : Signed ps f k r = signed ps f k r e in record { p = rest.p; is = rest.is; parameters = rest.parameters; results = rest.results }

pub well_at : (ss : List Signature) (ps : List Proc) (f : ℕ) (p : Proc) → AllWell ss ps → slice_get ps f ≡ Some p → IsWellProc ss p
well_at ss [] f p h e = cc
well_at ss (q ∷ ps) zero p h e = let same : q ≡ p = cc in subst (IsWellProc ss) same h.0
well_at ss (q ∷ ps) (suc f) p h e = well_at ss ps f p h.1 e

-- both sides make the same stack check
pub room_same : (base size : ℕ) → base ≤ 2 ^ 31 → source_room base size ≡ has_room base size
room_same base size h = by (has_room base size) refl
  where
    by : (b : Bool) → has_room base size ≡ b → source_room base size ≡ b
    by true e = let fits : 0x7800_0000 + size ≤ base = grind (arith, nat_tests) in grind (arith, nat_tests)
    by false e = let over : base < 0x7800_0000 + size = grind (arith, nat_tests) in grind (arith, nat_tests)

pub room_fits : (base size : ℕ) → has_room base size ≡ true → 0x7800_0000 + size ≤ base
room_fits base size e = grind (arith, nat_tests)

module _ (entries : ℕ → ℕ) (ps : List Proc) (all_well : AllWell (signatures ps) ps) where
  abbrev world : World
  world = record { entries = entries; procedures = map crossed ps; addresses = [] }

  abbrev ss : List Signature
  ss = signatures ps

  -- nothing is left of the bound
  none_begun : (f : ℕ) (ws : List ℕ) (outer : ℕ → Bool) (base i : ℕ) (c : CoreState) (m : Memory) (l : Log ℕ ℕ) → calls_of world i None f ws outer base (from c m l 0) ≡ halt going (from c m l 0)
  none_begun f ws outer base zero c m l = refl
  none_begun f ws outer base (suc i) c m l = refl

  same_cost : (c : CoreState) (m : Memory) (l : Log ℕ ℕ) → (let q : CoreRes ℕ = halt going (from c m l 0) in q) ≡ halt going (to c m l 0 0)
  same_cost c m l = ap (λ (x : ℕ). let q : CoreRes ℕ = halt going (record c { memory = m; log = l; left = 0; cost = x }) in q) (sym (add-zero c.cost))

  call_begins : (j f : ℕ) (ws : List ℕ) (outer : ℕ → Bool) (base : ℕ) (m : Memory) (l : Log ℕ ℕ) →
      Begins entries j (λ i. calls_of world i None f ws outer base) (λ i. core_enter world i (calls_of world i) (slice_get (map crossed ps) f) ws outer base) m l
  call_begins j f ws outer base m l = record {
    stands = λ q c h. none_begun f ws outer base q c m l;
    steps = λ q k budget c h. by q k budget c h;
  }
    where
      by : (q k budget : ℕ) (c : CoreState) → j + (k + (budget + 1)) ≤ q →
          (q' : ℕ) × (j + (k + budget) ≤ q') × (calls_of world q None f ws outer base (from c m l (k + (budget + 1))) ≡ core_enter world q' (calls_of world q') (slice_get (map crossed ps) f) ws outer base (from (record c { cost = c.cost + 1 }) m l (k + budget)))
      by zero k budget c h = absurd (omega arith)
      by (suc q) k budget c h =
          let more_left : k + (budget + 1) ≡ suc (k + budget) = omega arith in
          (q, omega arith, ap (λ (left : ℕ). calls_of world (suc q) None f ws outer base (from c m l left)) more_left)

  room : (n : ℕ) → ((at : Place) (o : Own) (env : Env) (size : ℕ) (src0 : Blocks) (outer : ℕ → Bool) (fits : Fits env.low size o) (floor : Floor env size src0) → CallsFollow entries n world at o env size src0 outer fits floor (signatures ps) (source_calls ps n)) → (at : Place) (o : Own) (env : Env) (size : ℕ) (src0 : Blocks) (outer : ℕ → Bool) (fits : Fits env.low size o) (floor : Floor env size src0) (j : ℕ) (p : Proc) (ws : List ℕ) (s : State) (left : ℕ) (m : Memory) (l : Log ℕ ℕ) →
      IsWellProc (signatures ps) p → AreSmall ws → length ws ≡ length p.parameters → length p.results ≡ 1 → left ≤ n → Ready entries (suc n) world at o env size src0 outer fits floor s.memory s.memory s.serial s.left m → map (read entries) s.log ≡ l →
      (b : Bool) → has_room env.low (frame p) ≡ b →
      Sim entries (Called entries (suc n) world at o env size src0 outer fits floor s.memory m) j (0 + 99) 0
      (λ i. core_enter world i (calls_of world i) (Some (crossed p)) ws (touched_in outer env.low (variables_of o)) env.low) (record s { left = left; cost = s.cost + 1 }) m l
      (source_enter n (source_calls ps n) (Some p) (values ws) env.low (record s { left = left; cost = s.cost + 1 }))
  room n below at o env size src0 outer fits floor j p ws s left m l well small count one few ready logs false e =
      let outer' : ℕ → Bool = touched_in outer env.low (variables_of o) in
      let u : State = record s { left = left; cost = s.cost + 1 } in
      let R : Value → State → ℕ → Memory → Type 0 = Called entries (suc n) world at o env size src0 outer fits floor s.memory m in
      let high : env.low ≤ 2 ^ 31 = omega (arith, fits.top) in
      let P : Bool → Type 0 = λ b. Sim entries R j (0 + 99) 0 (λ i. core_enter world i (calls_of world i) (Some (crossed p)) ws outer' env.low) u m l
      ((if b then numbered (λ serial. body_run n (source_calls ps n) p (values ws) (env_of p env.low serial)) else (λ t. stop (checked Stack p.at) t)) u) in
      subst P (sym (room_same env.low (frame p) high ∙ e))
      (record {
        by = record {
          memory = m;
          log = l;
          budget = 0;
          cost = 0;
          is = λ i k c h.
              let none_more : k + 0 ≡ k = omega arith in
              let K : ℕ → Type 0 = λ x. (if has_room env.low (frame p) then core_body world i (calls_of world i) (crossed p) ws outer' env.low else (λ t. halt (checked Stack p.at) t)) (from c m l (k + 0)) ≡ halt (checked Stack p.at) (record c { memory = m; log = l; left = k; cost = x }) in
              ap (λ (b : Bool). (if b then core_body world i (calls_of world i) (crossed p) ws outer' env.low else (λ t. halt (checked Stack p.at) t)) (from c m l (k + 0))) e
              ∙ ap (λ (x : ℕ). let q : CoreRes ℕ = halt (checked Stack p.at) (from c m l x) in q) none_more
              ∙ ap (λ (x : ℕ). let q : CoreRes ℕ = halt (checked Stack p.at) (record c { memory = m; log = l; left = k; cost = x }) in q) (sym (add-zero c.cost));
          logs = logs;
          cheap = omega arith;
          taken = refl;
        };
      })
  room n below at o env size src0 outer fits floor j p ws s left m l well small count one few ready logs true e =
      let base : ℕ = env.low in
      let outer' : ℕ → Bool = touched_in outer env.low (variables_of o) in
      let u : State = record s { left = left; cost = s.cost + 1 } in
      let u1 : State = record u { serial = s.serial + 1 } in
      let R : Value → State → ℕ → Memory → Type 0 = Called entries (suc n) world at o env size src0 outer fits floor s.memory m in
      let high : base ≤ 2 ^ 31 = omega (arith, fits.top) in
      let low_enough : 0x7800_0000 + frame p ≤ base = room_fits base (frame p) e in
      let env' : Env = env_of p base s.serial in
      let o' : Own = own_of p in
      let fits' : Fits (base - frame p) (frame p) o' = frame_fits p base low_enough high in
      let next : env'.low + frame p ≡ env.low = omega (arith, low_enough) in
      let floor' : Floor env' (frame p) s.memory = floor_below env env' o.first size (frame p) src0 s.memory m floor next ready.tied in
      let tied' : Tied env' o'.first s.memory s.memory (s.serial + 1) m = tied_start env env' o.first o'.first src0 s.memory m ready.newer ready.tied in
      let follows : CallsFollow entries n world p.at o' env' (frame p) s.memory outer' fits' floor' ss (source_calls ps n) = below p.at o' env' (frame p) s.memory outer' fits' floor' in
      let A : Value → State → ℕ → Memory → Type 0 = Returned entries n world ss p base s.serial s.memory outer' fits' floor' (omega (arith, low_enough)) (source_calls ps n) follows well m in
      let r : Res Value = body_run n (source_calls ps n) p (values ws) env' u1 in
      let body_act : Fueled ℕ = λ i. core_body world i (calls_of world i) (crossed p) ws outer' base in
      let act : Fueled ℕ = λ i. core_enter world i (calls_of world i) (Some (crossed p)) ws outer' base in
      let inner : Sim entries A j 0 0 body_act u1 m l r =
      activation_sim entries n world ss p base s.serial s.memory outer' fits' floor' (omega (arith, low_enough)) (source_calls ps n) follows well j u1 m l ws small count tied' (λ b q x. x) (omega arith) few logs in
      let P : Bool → Type 0 = λ b. Sim entries R j (0 + 99) 0 act u m l ((if b then numbered (λ serial. body_run n (source_calls ps n) p (values ws) (env_of p base serial)) else (λ t. stop (checked Stack p.at) t)) u) in
      subst P (sym (room_same base (frame p) high ∙ e))
      (sim_act entries R j (0 + 99) 0 body_act act (λ i c. ap (λ (b : Bool). (if b then body_act i else (λ t. halt (checked Stack p.at) t)) c) e) u m l r
      (sim_richer entries R j 0 body_act m l 0 (0 + 99) u r (omega arith)
      (sim_later entries R j 0 0 0 body_act u u1 m l refl (omega arith) refl r
      (sim_weaker entries A R j 0 0 body_act u1 m l r
      (λ v t w m' x.
      let back : Tied env o.first src0 (close x.before' s.serial) t.serial m' = tied_back env env' o.first o'.first (frame p) src0 s.memory x.before' t.serial m m' floor' x.newer ready.tied x.tied in
      let stays : Stays s.memory (close x.before' s.serial) = stays_back env' o'.first (frame p) s.memory x.before' t.serial m' floor' x.tied in
      let T : Blocks → Type 0 = λ q. Tied env o.first src0 q t.serial m' in
      let Y : Blocks → Type 0 = λ q. Stays s.memory q in
      record {
        small = (x.value one).0;
        value = (x.value one).1;
        ready = record { tied = subst T (sym x.closed) back; newer = omega (arith, ready.newer, x.newer); few = omega (arith, x.few); stays = subst Y (sym x.closed) stays };
        above = x.above;
      }) inner))))

  -- every call of the core run does what the source's call does
  pub all_calls : (n : ℕ) (at : Place) (o : Own) (env : Env) (size : ℕ) (src0 : Blocks) (outer : ℕ → Bool) (fits : Fits env.low size o) (floor : Floor env size src0) →
      CallsFollow entries n world at o env size src0 outer fits floor (signatures ps) (source_calls ps n)
  all_calls zero at o env size src0 outer fits floor = record {
    by = λ j f k signature ws small count s m l ready logs. record {
      by = record {
        memory = m;
        log = l;
        budget = 0;
        cost = 0;
        is = λ i c h. none_begun f ws (touched_in outer env.low (variables_of o)) env.low i c m l ∙ same_cost c m l;
        logs = logs;
        late = omega (arith, ready.few);
        taken = refl;
      };
    };
  }
  all_calls (suc n) at o env size src0 outer fits floor = record {
    by = λ j f k signature ws small count s m l ready logs.
        let outer' : ℕ → Bool = touched_in outer env.low (variables_of o) in
        let found : Signed ps f k 1 = signed ps f k 1 signature in
        let p : Proc = found.p in
        let R : Value → State → ℕ → Memory → Type 0 = Called entries (suc n) world at o env size src0 outer fits floor s.memory m in
        sim_turn entries R j 0 0 (λ i. calls_of world i None f ws outer' env.low) (λ i. core_enter world i (calls_of world i) (slice_get (map crossed ps) f) ws outer' env.low) m l (call_begins j f ws outer' env.low m l) s
        (source_enter n (source_calls ps n) (slice_get ps f) (values ws) env.low) logs
        (λ left e.
        let u : State = record s { left = left; cost = s.cost + 1 } in
        let S : Option Proc → Type 0 = λ q. Sim entries R j (0 + 99) 0 (λ i. core_enter world i (calls_of world i) (slice_get (map crossed ps) f) ws outer' env.low) u m l (source_enter n (source_calls ps n) q (values ws) env.low u) in
        let C : Option CoreProc → Type 0 = λ q. Sim entries R j (0 + 99) 0 (λ i. core_enter world i (calls_of world i) q ws outer' env.low) u m l (source_enter n (source_calls ps n) (Some p) (values ws) env.low u) in
        subst S (sym found.is) (subst C (sym (mapped_get ps f p found.is))
        (room n (λ at2 o2 env2 size2 src2 outer2 fits2 floor2. all_calls n at2 o2 env2 size2 src2 outer2 fits2 floor2) at o env size src0 outer fits floor j p ws s left m l (well_at ss ps f p all_well found.is) small (count ∙ sym found.parameters) found.results (omega (arith, ready.few, e)) ready logs
        (has_room env.low (frame p)) refl)));
  }
