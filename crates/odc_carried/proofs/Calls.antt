-- Calls, by the fuel of the source.
use Rattle.std.proofs.Common.{◌≡◌, ℕ, zero, suc, ◌+◌, ◌-◌, ◌*◌, ◌^◌, ◌<◌, ◌≤◌, Bool, true, false, List, [], ◌∷◌, length, take, arith, ap, ◌∙◌, sym, subst, refl, lit≤}
use Rattle.std.specs.Prelude.{Option, Some, None, ◌==◌, ◌&&◌, nat_le, slice_get, if◌then◌else◌}
use Rattle.std.proofs.lemmas.Bool.Decides.{nat_tests}
use Rattle.std.proofs.Math.Nat.{add-zero}
use Rattle.odc_text.specs.declared.place.Place.{Place}
use Rattle.odc_text.specs.declared.check.Check.TheVariants.{Stack}
use Rattle.odc_text.specs.Run.{checked, going}
use Rattle.odc_program.specs.declared.ops.Builtin.TheVariants as b
use Rattle.odc_program.specs.States.Bytes.{Value}
use Rattle.odc_program.specs.States.Memory.{Memory}
use Rattle.odc_program.specs.States.Run.{Res, pure}
use Rattle.odc_program.specs.States.State.{State, Leave, Do, Calls, Context, fail}
use Rattle.odc_program.specs.Kinds.Expressions.{value_of}
use Rattle.odc_program.specs.Runs.Statements.{run_eval}
use Rattle.odc_program.specs.Runs.Source.{execs, helps, activation, numbered, fits_stack, entered, enter, call_of, env_of}
use Rattle.odc_program.specs.Trees.Tree.{expr, builtin, Exprs}
use Rattle.odc_program.specs.Trees.Program.{Local, Head, Body, Tables, Program}
use Rattle.odc_core.specs.Tree.{Proc}
use Rattle.odc_core.specs.Frames.{touched_in, has_room}
use Rattle.odc_core.specs.Memory.{forgotten}
use Rattle.odc_core.specs.Run.{World, calls_of, body_run}
use Rattle.odc_core.specs.Run.{enter as core_enter, stop as halt}
use Rattle.odc_core.specs.Run.{Res as CoreRes}
use Rattle.odc_carried.specs.Carried.{is_int, is_nothing, are_ints, is_head, no_helpers, refused_procedure, refused_stmts, refused_ints, takes, count}
use Rattle.odc_carried.specs.Code.{join, variables_of, waits_all, line_code, depths, stmts_code, crossed, crossed_all}
use Rattle.odc_carried.specs.Tied.{IsLaid, HasRoom, Site, o, env}
use Rattle.odc_carried.proofs.Runs.{Face, at, Fueled}
use Rattle.odc_carried.proofs.Sims.{rate, Told, Sim, Arrives, Leads, sim_act, sim_turn, sim_out, sim_later, sim_richer, sim_weaker}
use Rattle.odc_carried.proofs.Ties.{Facts, Floor, Now, block}
use Rattle.odc_carried.proofs.Writes.{floor_below, now_back, still_live}
use Rattle.odc_carried.proofs.Quiet.{IntType, int_type, and_true}
use Rattle.odc_carried.proofs.Evals.{passed}
use Rattle.odc_carried.proofs.Codes.{Ready}
use Rattle.odc_carried.proofs.Frame.{ex}
use Rattle.odc_carried.proofs.Arguments.{AreVals, Called, CallsFollow}
use Rattle.odc_carried.proofs.Stmts.{Results, Done}
use Rattle.odc_carried.proofs.Bodies.{stmts_sim}
use Rattle.odc_carried.proofs.Activation.{now_begun, AreInts, Returned, activation_sim}

-- ---- what is asked of each procedure
pub record Good (tables : Tables) (p : Head) (q : Body) : Type 0 where
  pub laid : IsLaid tables p
  pub room : HasRoom tables p q
  pub carried : refused_procedure tables p q ≡ None

pub record AllGood (tables : Tables) (ps : List Head) (qs : List Body) : Type 0 where
  pub body : (f : ℕ) (p : Head) → slice_get ps f ≡ Some p → (q : Body) × (slice_get qs f ≡ Some q)
  pub good : (f : ℕ) (p : Head) (q : Body) → slice_get ps f ≡ Some p → slice_get qs f ≡ Some q → Good tables p q

pub crossed_get : (tables : Tables) (ps : List Head) (qs : List Body) (f : ℕ) (p : Head) (q : Body) → slice_get ps f ≡ Some p → slice_get qs f ≡ Some q → slice_get (crossed_all tables ps qs) f ≡ Some (crossed tables p q)
crossed_get tables [] qs f p q e g = absurd (cc)
crossed_get tables (x ∷ ps) [] f p q e g = absurd (cc)
crossed_get tables (x ∷ ps) (y ∷ qs) zero p q e g =
    let one : x ≡ p = cc in
    let two : y ≡ q = cc in
    ap (λ (k : Head). Some (crossed tables k y)) one ∙ ap (λ (k : Body). Some (crossed tables p k)) two
crossed_get tables (x ∷ ps) (y ∷ qs) (suc f) p q e g = crossed_get tables ps qs f p q e g

-- the procedure that is called
pub record Found (parameters results : ℕ) (o1 : Option Head) : Type 0 where
  pub p : Head
  pub is : o1 ≡ Some p
  pub parameters' : p.parameters ≡ parameters
  pub results' : p.results ≡ results

pub found : (parameters results : ℕ) (o1 : Option Head) → takes parameters results o1 ≡ true → Found parameters results o1
found parameters results (Some p) e =
    let both = and_true (p.parameters == parameters) (p.results == results) e in
    let one : (p.parameters == parameters) ≡ true = both.0 in
    let two : (p.results == results) ≡ true = both.1 in
    record { p = p; is = refl; parameters' = grind (arith, nat_tests); results' = grind (arith, nat_tests) }
found parameters results None e = absurd (cc)

-- both sides make the same stack check
pub room_same : (base size : ℕ) → base ≤ 2 ^ 31 → fits_stack base size ≡ has_room base size
room_same base size h = by (has_room base size) refl
  where
    by : (b : Bool) → has_room base size ≡ b → fits_stack base size ≡ b
    by true e = let fits : 0x7800_0000 + size ≤ base = grind (arith, nat_tests) in grind (arith, nat_tests)
    by false e = let over : base < 0x7800_0000 + size = grind (arith, nat_tests) in grind (arith, nat_tests)

pub room_fits : (base size : ℕ) → has_room base size ≡ true → 0x7800_0000 + size ≤ base
room_fits base size e = grind (arith, nat_tests)

-- ---- the first locals of a procedure are integers
first_ints : (S : Site) (F : Facts S) (n k : ℕ) (ls : List Local) → n ≤ k → k ≤ length ls → are_ints S.tables (take k ls) ≡ true → AreInts S F n ls
first_ints S F zero k ls le some e = tt
first_ints S F (suc n) zero ls le some e = absurd (omega arith)
first_ints S F (suc n) (suc k) [] le some e = absurd (omega arith)
first_ints S F (suc n) (suc k) (l ∷ ls) le some e =
    let both = and_true (is_int S.tables l.ty) (are_ints S.tables (take k ls)) e in
    ((int_type S.tables l.ty both.0).size, first_ints S F n k ls (omega arith) (omega arith) both.1)

int_at : (S : Site) (x k : ℕ) (ls : List Local) → x < k → k ≤ length ls → are_ints S.tables (take k ls) ≡ true → (l : Local) × (slice_get ls x ≡ Some l) × IntType S.tables l.ty
int_at S x zero ls less some e = absurd (omega arith)
int_at S x (suc k) [] less some e = absurd (omega arith)
int_at S zero (suc k) (l ∷ ls) less some e = let both = and_true (is_int S.tables l.ty) (are_ints S.tables (take k ls)) e in (l, refl, int_type S.tables l.ty both.0)
int_at S (suc x) (suc k) (l ∷ ls) less some e = let both = and_true (is_int S.tables l.ty) (are_ints S.tables (take k ls)) e in int_at S x k ls (omega arith) (omega arith) both.1

module _ (S : Site) (F : Facts S) (head : is_head S.tables S.proc ≡ true) where
  abbrev k : ℕ
  k = S.proc.parameters + S.proc.results

  parts : (S.proc.results ≤ 1) × (S.proc.parameters + S.proc.results ≤ length S.proc.locals) × (are_ints S.tables (take (S.proc.parameters + S.proc.results) S.proc.locals) ≡ true)
  parts =
      let first = and_true (nat_le S.proc.results 1) (nat_le k (length S.proc.locals) && are_ints S.tables (take k S.proc.locals)) head in
      let second = and_true (nat_le k (length S.proc.locals)) (are_ints S.tables (take k S.proc.locals)) first.1 in
      let one : nat_le S.proc.results 1 ≡ true = first.0 in
      let two : nat_le k (length S.proc.locals) ≡ true = second.0 in
      (grind (arith, nat_tests), grind (arith, nat_tests), second.1)

  pub results_of : Results S F
  results_of = record {
    few = parts.0;
    is_int = λ one.
        let i = int_at S S.proc.parameters k S.proc.locals (omega (arith, one)) parts.1 parts.2 in
        record { l = i.0; found = i.1; size = i.2.size; kind = i.2 };
  }

  pub parameters_of : (n : ℕ) → n ≡ S.proc.parameters → AreInts S F n S.proc.locals
  parameters_of n e = first_ints S F n k S.proc.locals (omega (arith, e)) parts.1 parts.2

-- printed lines
pub record PrintsFollow : Type 0 where
  pub by : (S : Site) (F : Facts S) (calls : Calls) → CallsFollow S F (λ f vs c low. calls.call f (pure tt) vs c low) → (c : Context) (t : ℕ) (at : Place) (es : Exprs) → is_nothing S.tables t ≡ true → refused_ints S.tables S.proc es ≡ None → depths es ≤ (o S).waiting → (j : ℕ) (s : State) (h : Face) → Ready S F s h →
      Sim S.entries (Done S F h) j 0 0 (ex S (join (waits_all (o S) 0 es) (line_code (o S) 0 (count es)))) s h (run_eval (value_of calls (env S c) (expr t at (builtin b.Println [] es))) c s)

module _ (prints : PrintsFollow) (entries : ℕ → ℕ) (P : Program) (good : AllGood P.tables P.tables.procedures P.bodies) where
  abbrev pub world : World
  world = record { entries = entries; procedures = crossed_all P.tables P.tables.procedures P.bodies; addresses = [] }

  abbrev pub site : ℕ → ℕ → Head → Body → ℕ → ℕ → Memory → (ℕ → Bool) → Site
  site n f p q serial low start outer = record { entries = entries; fuel = n; world = world; tables = P.tables; proc = p; body = q; number = f; serial = serial; low = low; start = start; outer = outer }

  -- nothing is left of the bound
  none_begun : (f : ℕ) (ws : List ℕ) (outer : ℕ → Bool) (base i x : ℕ) (h : Face) → calls_of world i None f ws outer base (at h 0 x) ≡ halt going (at h 0 x)
  none_begun f ws outer base zero x h = refl
  none_begun f ws outer base (suc i) x h = refl

  call_leads : (j f : ℕ) (ws : List ℕ) (outer : ℕ → Bool) (base : ℕ) (h : Face) → Leads entries j j (λ i. calls_of world i None f ws outer base) (λ i. core_enter world i (calls_of world i) (slice_get world.procedures f) ws outer base) h h 1 1
  call_leads j f ws outer base h = record { to = by }
    where
      by : (n k c : ℕ) → j + (k + 1) ≤ n → Arrives entries j (calls_of world n None f ws outer base (at h (k + 1) c)) (λ i. core_enter world i (calls_of world i) (slice_get world.procedures f) ws outer base) h k (c + 1)
      by zero k c le = absurd (omega arith)
      by (suc n) k c le =
          let more : k + 1 ≡ suc k = omega arith in
          record { fuel = n; enough = omega arith; is = ap (λ (left : ℕ). calls_of world (suc n) None f ws outer base (at h left c)) more }

  -- an activation, by what its calls do
  module _ (n f : ℕ) (p : Head) (q : Body) (serial base : ℕ) (start : Memory) (outer : ℕ → Bool) (low_enough : 0x7800_0000 + p.frame ≤ base) (is_p : slice_get P.tables.procedures f ≡ Some p) (is_q : slice_get P.bodies f ≡ Some q) (F : Facts (site n f p q serial (base - p.frame) start outer))
      (calls : Calls) (follows : CallsFollow (site n f p q serial (base - p.frame) start outer) F (λ g vs c low. calls.call g (pure tt) vs c low)) where
    abbrev S : Site
    S = site n f p q serial (base - p.frame) start outer

    checks : (is_head P.tables p && no_helpers q.helpers ≡ true) × (refused_stmts P.tables p q.stmts ≡ None)
    checks = passed (is_head P.tables p && no_helpers q.helpers) p.at (refused_stmts P.tables p q.stmts) (good.good f p q is_p is_q).carried

    head : is_head P.tables p ≡ true
    head = (and_true (is_head P.tables p) (no_helpers q.helpers) checks.0).0

    results : Results S F
    results = results_of S F head

    pub run_sim : (j : ℕ) (c : Context) (vs : List Value) (ws : List ℕ) (t : State) (h : Face) → AreVals entries vs ws → length ws ≡ p.parameters → serial < t.serial → t.left ≤ n → Told entries t h → Now S t.memory t.serial (forgotten h.memory (base - p.frame) p.frame) →
        Sim entries (Returned S F h) j 8 0 (λ i. body_run world i (calls_of world i) (crossed P.tables p q) ws outer base) t h (activation (execs n calls (env S c) q.stmts) vs (env S c) t)
    run_sim j c vs ws t h are counted newer few told now =
        activation_sim S F results c (execs n calls (env S c) q.stmts) (stmts_code (o S) q.stmts)
        (λ j t h ready. stmts_sim S F calls follows results c (λ c t at es a b d j s h r. prints.by S F calls follows c t at es a b d j s h r) q.stmts checks.1 (omega arith) j c t h ready)
        calls j vs ws t h are (parameters_of S F head (length ws) counted) newer few told now (λ i. body_run world i (calls_of world i) (crossed P.tables p q) ws outer base) (λ i k x. refl)

  -- the facts of a called activation
  called_facts : (n f : ℕ) (p : Head) (q : Body) (serial base : ℕ) (start : Memory) (outer : ℕ → Bool) → slice_get P.tables.procedures f ≡ Some p → slice_get P.bodies f ≡ Some q → 0x7800_0000 + p.frame ≤ base → base ≤ 2 ^ 31 → Floor (base - p.frame) p.frame serial start → Facts (site n f p q serial (base - p.frame) start outer)
  called_facts n f p q serial base start outer is_p is_q low high floor =
      let g : Good P.tables p q = good.good f p q is_p is_q in
      record { laid = g.laid; room = g.room; floor = floor; bottom = omega arith; top = omega arith }

  module _ (n f : ℕ) (p : Head) (q : Body) (serial low : ℕ) (start : Memory) (outer : ℕ → Bool) (F : Facts (site (suc n) f p q serial low start outer))
      (below : (g : ℕ) (p : Head) (q : Body) (serial low : ℕ) (start : Memory) (outer : ℕ → Bool) (F : Facts (site n g p q serial low start outer)) → CallsFollow (site n g p q serial low start outer) F (λ g vs c low. call_of P n g (pure tt) vs c low)) where
    -- behind the turn: the stack check, and the procedure
    inside : (j g results : ℕ) (c : Context) (vs : List Value) (ws : List ℕ) (s : State) (left : ℕ) (h : Face) (fp : Found (length ws) results (slice_get P.tables.procedures g)) (q' : Body) → slice_get P.bodies g ≡ Some q' → AreVals entries vs ws → left ≤ n → Ready (site (suc n) f p q serial low start outer) F s h →
        (t : Bool) → has_room low fp.p.frame ≡ t →
        Sim entries (Called (site (suc n) f p q serial low start outer) F results h) j 20 0 (λ i. core_enter world i (calls_of world i) (Some (crossed P.tables fp.p q')) ws (touched_in outer low (variables_of (o (site (suc n) f p q serial low start outer)))) low)
        (record s { left = left; cost = s.cost + 1 }) h (entered n (record { call = call_of P n; help = helps n [] }) P.tables g fp.p q' vs c low (record s { left = left; cost = s.cost + 1 }))
    inside j g results c vs ws s left h fp q' is_q are few ready false e =
        let S : Site = site (suc n) f p q serial low start outer in
        let outer' : ℕ → Bool = touched_in outer low (variables_of (o S)) in
        let u : State = record s { left = left; cost = s.cost + 1 } in
        let R : Value → State → ℕ → Face → Type 0 = Called S F results h in
        let run : Do Value = numbered (λ serial. activation (execs n (record { call = call_of P n; help = helps n q'.helpers }) (env_of P.tables fp.p g serial (low - fp.p.frame) c) q'.stmts) vs (env_of P.tables fp.p g serial (low - fp.p.frame) c)) in
        let K : Bool → Type 0 = λ b. Sim entries R j 20 0 (λ i. core_enter world i (calls_of world i) (Some (crossed P.tables fp.p q')) ws outer' low) u h ((if b then run else fail Stack fp.p.at) u) in
        subst K (sym (room_same low fp.p.frame (omega (arith, F.top)) ∙ e))
        (record {
          by = record {
            face = h;
            budget = 0;
            cost = 0;
            is = λ i k x le.
                ap (λ (b : Bool). (if b then body_run world i (calls_of world i) (crossed P.tables fp.p q') ws outer' low else (λ t. halt (checked Stack fp.p.at) t)) (at h (k + 0) x)) e
                ∙ ap (λ (y : ℕ). let r : CoreRes ℕ = halt (checked Stack fp.p.at) (at h y x) in r) (add-zero k)
                ∙ ap (λ (y : ℕ). let r : CoreRes ℕ = halt (checked Stack fp.p.at) (at h k y) in r) (sym (add-zero x));
            told = record { logs = ready.told.logs; input = ready.told.input; taken = ready.told.taken };
            cheap = omega arith;
          };
        })
    inside j g results c vs ws s left h fp q' is_q are few ready true e =
        let S : Site = site (suc n) f p q serial low start outer in
        let outer' : ℕ → Bool = touched_in outer low (variables_of (o S)) in
        let u : State = record s { left = left; cost = s.cost + 1 } in
        let u1 : State = record u { serial = s.serial + 1 } in
        let R : Value → State → ℕ → Face → Type 0 = Called S F results h in
        let calls : Calls = record { call = call_of P n; help = helps n q'.helpers } in
        let low_enough : 0x7800_0000 + fp.p.frame ≤ low = room_fits low fp.p.frame e in
        let next : low - fp.p.frame + fp.p.frame ≡ low = omega (arith, low_enough) in
        let floor' : Floor (low - fp.p.frame) fp.p.frame s.serial s.memory = floor_below S F (low - fp.p.frame) fp.p.frame s.serial s.memory h.memory next ready.now in
        let F' : Facts (site n g fp.p q' s.serial (low - fp.p.frame) s.memory outer') = called_facts n g fp.p q' s.serial low s.memory outer' fp.is is_q low_enough (omega (arith, F.top)) floor' in
        let S' : Site = site n g fp.p q' s.serial (low - fp.p.frame) s.memory outer' in
        let follows : CallsFollow S' F' (λ g vs c low. calls.call g (pure tt) vs c low) = below g fp.p q' s.serial (low - fp.p.frame) s.memory outer' F' in
        let act : Fueled ℕ = λ i. core_enter world i (calls_of world i) (Some (crossed P.tables fp.p q')) ws outer' low in
        let body_act : Fueled ℕ = λ i. body_run world i (calls_of world i) (crossed P.tables fp.p q') ws outer' low in
        let r : Res Leave State Value = activation (execs n calls (env S' c) q'.stmts) vs (env S' c) u1 in
        let now' : Now S' s.memory (s.serial + 1) (forgotten h.memory (low - fp.p.frame) fp.p.frame) = now_begun S S' F' s.memory h.memory refl refl ready.now in
        let inner : Sim entries (Returned S' F' h) j 8 0 body_act u1 h r =
        run_sim n g fp.p q' s.serial low s.memory outer' low_enough fp.is is_q F' calls follows j c vs ws u1 h are (sym fp.parameters') (omega arith) few (record { logs = ready.told.logs; input = ready.told.input; taken = ready.told.taken }) now' in
        let run : Do Value = numbered (λ serial. activation (execs n calls (env_of P.tables fp.p g serial (low - fp.p.frame) c) q'.stmts) vs (env_of P.tables fp.p g serial (low - fp.p.frame) c)) in
        let K : Bool → Type 0 = λ b. Sim entries R j 20 0 act u h ((if b then run else fail Stack fp.p.at) u) in
        subst K (sym (room_same low fp.p.frame (omega (arith, F.top)) ∙ e))
        (sim_act entries R j 20 0 body_act act (λ i x. ap (λ (b : Bool). (if b then body_act i else (λ t. halt (checked Stack fp.p.at) t)) x) e) u h r
        (sim_later entries R j 20 0 0 body_act u u1 h refl (omega arith) r
        (sim_richer entries R j 8 (20 + rate * 0) 0 body_act u1 h r (lit≤ tt)
        (sim_weaker entries (Returned S' F' h) R j 8 0 body_act u1 h r
        (λ v t w h' x. record {
          value = λ one. x.value (fp.results' ∙ one);
          nothing = λ none. x.nothing (fp.results' ∙ none);
          ready = record {
            now = let T : Memory → Type 0 = λ y. Now S y t.serial h'.memory in subst T (sym x.closed) (now_back S S' F' s.memory x.inner t.serial h.memory h'.memory refl refl x.newer ready.now x.now);
            newer = omega (arith, ready.newer, x.newer);
            few = omega (arith, x.few);
            told = x.told;
            answer = λ one. ap (λ (y : Memory). y.size (block S S.proc.parameters)) x.closed ∙ still_live S S' F' s.memory x.inner t.serial h'.memory (block S S.proc.parameters) 8 refl tt (ready.answer one) x.now;
          };
          above = λ i far. x.above i (omega (arith, next, far));
        }) inner))))

  -- every call of the core run does what the source's does
  pub all_calls : (n f : ℕ) (p : Head) (q : Body) (serial low : ℕ) (start : Memory) (outer : ℕ → Bool) (F : Facts (site n f p q serial low start outer)) → CallsFollow (site n f p q serial low start outer) F (λ g vs c low. call_of P n g (pure tt) vs c low)
  all_calls zero f p q serial low start outer F = record {
    by = λ j g results c vs ws s h takes' are ready.
        sim_out entries (Called (site zero f p q serial low start outer) F results h) j 0 0 (λ i. calls_of world i None g ws (touched_in outer low (variables_of (o (site zero f p q serial low start outer)))) low) s h ready.told
        (λ i x le. none_begun g ws (touched_in outer low (variables_of (o (site zero f p q serial low start outer)))) low i x h) ready.few;
  }
  all_calls (suc n) f p q serial low start outer F = record {
    by = λ j g results c vs ws s h takes' are ready.
        let S : Site = site (suc n) f p q serial low start outer in
        let outer' : ℕ → Bool = touched_in outer low (variables_of (o S)) in
        let R : Value → State → ℕ → Face → Type 0 = Called S F results h in
        let fp : Found (length ws) results (slice_get P.tables.procedures g) = found (length ws) results (slice_get P.tables.procedures g) takes' in
        let body = good.body g fp.p fp.is in
        let calls : Calls = record { call = call_of P n; help = helps n [] } in
        sim_turn entries R j j 0 20 0 1 1 (λ i. calls_of world i None g ws outer' low) (λ i. core_enter world i (calls_of world i) (slice_get world.procedures g) ws outer' low) s h
        (λ u. enter n calls P.tables g (slice_get P.tables.procedures g) (slice_get P.bodies g) vs c low u) ready.told
        (λ i x le. none_begun g ws outer' low i x h) (call_leads j g ws outer' low h) (lit≤ tt) (lit≤ tt)
        (λ left e.
        let u : State = record s { left = left; cost = s.cost + 1 } in
        let A : Option Proc → Type 0 = λ x. Sim entries R j 20 0 (λ i. core_enter world i (calls_of world i) x ws outer' low) u h (enter n calls P.tables g (slice_get P.tables.procedures g) (slice_get P.bodies g) vs c low u) in
        let B : Option Head → Type 0 = λ x. Sim entries R j 20 0 (λ i. core_enter world i (calls_of world i) (Some (crossed P.tables fp.p body.0)) ws outer' low) u h (enter n calls P.tables g x (slice_get P.bodies g) vs c low u) in
        let C : Option Body → Type 0 = λ x. Sim entries R j 20 0 (λ i. core_enter world i (calls_of world i) (Some (crossed P.tables fp.p body.0)) ws outer' low) u h (enter n calls P.tables g (Some fp.p) x vs c low u) in
        subst A (sym (crossed_get P.tables P.tables.procedures P.bodies g fp.p body.0 fp.is body.1)) (subst B (sym fp.is) (subst C (sym body.1)
        (inside n f p q serial low start outer F (λ g p q serial low start outer F. all_calls n g p q serial low start outer F) j g results c vs ws s left h fp body.0 body.1 are (omega (arith, ready.few, e)) ready (has_room low fp.p.frame) refl))));
  }
