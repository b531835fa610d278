-- Printed lines.
use Rattle.std.proofs.Common.{◌≡◌, ℕ, suc, ◌+◌, ◌<◌, ◌≤◌, ◌⊎◌, inl, inr, Bool, true, List, [], ◌∷◌, ◌++◌, length, map, arith, ap, ◌∙◌, sym, subst, refl, lit<, append_assoc, length-append}
use Rattle.std.specs.Prelude.{ℤ, None}
use Rattle.std.specs.Int.{w64, cast_signed}
use Rattle.std.proofs.lemmas.List.{map-append}
use Rattle.odc_text.specs.declared.place.Place.{Place}
use Rattle.odc_text.specs.Run.{out, Log}
use Rattle.odc_program.specs.States.Bytes.{Pointer, Value, int_of}
use Rattle.odc_program.specs.States.Run.{Res, ok, stop, then_by, pure}
use Rattle.odc_program.specs.States.State.{State, Leave, Do, Calls, Context, Base, is, known}
use Rattle.odc_program.specs.Kinds.Printing.{print, int_text, print_value, print_shaped, print_rest}
use Rattle.odc_program.specs.Kinds.Expressions.{value_of, values_of}
use Rattle.odc_program.specs.Runs.Statements.{Left}
use Rattle.odc_program.specs.Trees.Tree.{Exprs, none, more, tys}
use Rattle.odc_program.specs.Trees.Program.{Shape}
use Rattle.odc_core.specs.Memory.{Memory}
use Rattle.odc_core.specs.Tree.{Stmts, finish, follow}
use Rattle.odc_core.specs.Run.{Flow, after}
use Rattle.odc_core.specs.Run.{Res as CoreRes, then_by as onto}
use Rattle.odc_carried.specs.Carried.{type_in, refused_int, refused_ints, count}
use Rattle.odc_carried.specs.Code.{join, wait, before, value, depths, waits_all, print_code, values_code}
use Rattle.odc_carried.specs.Tied.{Site, o, env, cenv}
use Rattle.odc_carried.proofs.Runs.{Face, at as standing}
use Rattle.odc_carried.proofs.Sims.{read, Told, Sim, sim_leads, sim_richer, sim_result, then_then}
use Rattle.odc_carried.proofs.Values.{Val, val_int}
use Rattle.odc_carried.proofs.Ties.{Facts, now_alike}
use Rattle.odc_carried.proofs.Frame.{WordAt, word_apart, ex, exec_join}
use Rattle.odc_carried.proofs.Quiet.{IntType}
use Rattle.odc_carried.proofs.Evals.{passed_both, type_of}
use Rattle.odc_carried.proofs.Codes.{Ready, Alike, alike_same, alike_on, waited, slot, waited_ready, waited_alike, waited_there, still_waits, step_known, step_wait, rejoin, join_assoc}
use Rattle.odc_carried.proofs.Arguments.{AreVals, CallsFollow}
use Rattle.odc_carried.proofs.Exprs.{code_int}
use Rattle.odc_carried.proofs.Stmts.{Done}
use Rattle.odc_carried.proofs.Printing.{ba, na, IsLow}
use Rattle.odc_carried.proofs.Print.{Printed, print_runs}

-- a log of bytes is read as it is
read_out : (entries : ℕ → ℕ) (log : Log Pointer ℕ) (l : Log ℕ ℕ) (bytes : List ℕ) → map (read entries) log ≡ l → map (read entries) (log ++ map out bytes) ≡ l ++ map out bytes
read_out entries log l bytes e = map-append (read entries) log (map out bytes) ∙ ap (λ (x : Log ℕ ℕ). x ++ map (read entries) (map out bytes)) e ∙ ap (λ (x : Log ℕ ℕ). l ++ x) (outs bytes)
  where
    outs : (bs : List ℕ) → map (read entries) (map out bs) ≡ map out bs
    outs [] = refl
    outs (b ∷ bs) = ap (λ (x : Log ℕ ℕ). out b ∷ x) (outs bs)

-- a state in which this was printed
abbrev pub printed : State → List ℕ → State
printed s text = record s { log = s.log ++ map out text; cost = s.cost + length text }

join_done : (a : Stmts) → join a finish ≡ a
join_done finish = refl
join_done (follow x a) = ap (follow x) (join_done a)

module _ (S : Site) (F : Facts S) (calls : Calls) (follows : CallsFollow S F (λ f vs c low. calls.call f (pure tt) vs c low)) (c : Context) where
  -- words that wait from a depth on
  abbrev pub AllWait : ℕ → Face → List ℕ → Type 0
  AllWait d h [] = Unit {0}
  AllWait d h (w ∷ ws) = WordAt h.memory (slot S F d) w × AllWait (d + 1) h ws

  pub wait_all_sim : (es : Exprs) (d : ℕ) → refused_ints S.tables S.proc es ≡ None → d + depths es ≤ (o S).waiting → {A : Type 0} (tail : Stmts) (Q : A → State → Flow → Face → Type 0) (j b g : ℕ) (s : State) (h : Face) (f : List Value → Do A) → Ready S F s h →
      ((vs : List Value) (t : State) (ws : List ℕ) (h' : Face) → AreVals S.entries vs ws → length ws ≡ count es → AllWait d h' ws → Ready S F t h' → Alike S F d h h' → Sim S.entries Q j b g (ex S tail) t h' (f vs t)) →
      Sim S.entries Q j b g (ex S (join (waits_all (o S) d es) tail)) s h (then_by (values_of calls (env S c) es s) f)
  wait_all_sim none d r fit tail Q j b g s h f ready k = k [] s [] h tt refl tt ready (alike_same S F d h)
  wait_all_sim (more e es) d r fit tail Q j b g s h f ready k =
      let both = passed_both (refused_int S.tables S.proc e) (refused_ints S.tables S.proc es) r in
      let inside : d < (o S).waiting = omega arith in
      let a : Stmts = before (o S) d e in
      let x = value (o S) d e in
      let next : Stmts = follow (wait (o S) d x) (join (waits_all (o S) (d + 1) es) tail) in
      let m2 : Do (List Value) = values_of calls (env S c) es in
      let body : Value → Do _ = λ v. (λ t. then_by (then_by (m2 t) (λ vs. (λ u. ok (v ∷ vs) u))) f) in
      rejoin S F Q j b g (join (join a (follow (wait (o S) d x) (waits_all (o S) (d + 1) es))) tail) (join a next) s h (then_by (values_of calls (env S c) (more e es) s) f) (join_assoc a (follow (wait (o S) d x) (waits_all (o S) (d + 1) es)) tail)
      (sim_result S.entries (then_then S.entries (value_of calls (env S c) e s) (λ v. (λ t. then_by (m2 t) (λ vs. (λ u. ok (v ∷ vs) u)))) f)
      ((code_int S F calls follows c e d both.0 (omega arith)).by next Q j b g s h body ready
      (λ v t w L h' isv q ready' alike fewer.
      let h1 : Face = waited S F d w h' in
      sim_richer S.entries Q j (b + (L + 3)) (b + (L + 8)) g (ex S next) t h' (body v t) (omega arith)
      (step_wait S F Q j b g d w L x (join (waits_all (o S) (d + 1) es) tail) t h' (body v t) inside q
      (sim_result S.entries (then_then S.entries (m2 t) (λ vs. (λ u. ok (v ∷ vs) u)) f)
      (wait_all_sim es (d + 1) both.1 (omega arith) tail Q j b g t h1 (λ vs. (λ u. f (v ∷ vs) u)) (waited_ready S F d w inside t h' ready')
      (λ vs t' ws h'' are counted waits' ready'' alike''.
      k (v ∷ vs) t' (w ∷ ws) h'' (isv, are) (omega (arith, counted)) (still_waits S F d (d + 1) w h1 h'' (omega arith) alike'' (waited_there S F d w inside t h' ready'), waits') ready''
      (alike_on S F d d h h' h'' (omega arith) alike (alike_on S F d (d + 1) h' h1 h'' (omega arith) (waited_alike S F d w inside t h' ready') alike'')))))))))

  pub is_low : IsLow S
  is_low = record { some = omega (arith, F.bottom); small = omega (arith, F.top, F.room) }

  -- ---- a text that is printed
  abbrev pub after_text : Face → Memory → List ℕ → Face
  after_text h m text = record { memory = m; log = h.log ++ map out text; input = h.input; taken = h.taken }

  printed_told : (u : State) (h : Face) (m : Memory) (text : List ℕ) → Told S.entries u h → Told S.entries (printed u text) (after_text h m text)
  printed_told u h m text told = record { logs = read_out S.entries u.log h.log text told.logs; input = told.input; taken = told.taken }

  pub printed_ready : (u : State) (h : Face) (m : Memory) (text : List ℕ) → ((x : ℕ) → (x < ba S) ⊎ (na S + 8 ≤ x) → m x ≡ h.memory x) → Ready S F u h → Ready S F (printed u text) (after_text h m text)
  printed_ready u h m text others r = record {
    now = now_alike S F u.memory u.serial h.memory m (λ i zone. others i (elim zone [ inl a ↦ inl (omega (arith, a.1)) | inr a ↦ inr (omega (arith, F.room)) ])) r.now;
    newer = r.newer;
    few = r.few;
    told = printed_told u h m text r.told;
    answer = r.answer;
  }

  -- both sides print it, and go on
  module _ {A : Type 0} (Q : A → State → Flow → Face → Type 0) (j b : ℕ) where
    pub print_step : (ss tail : Stmts) (u : State) (h : Face) (text : List ℕ) → Ready S F u h → (p : Printed j S h.input h.taken is_low ss h.memory h.log text) → (r : Res Leave State A) →
        Sim S.entries Q j b 0 (ex S tail) (printed u text) (after_text h p.memory text) r → Sim S.entries Q j b 0 (ex S (join ss tail)) u h r
    print_step ss tail u h text ready p r sim =
        let h2 : Face = after_text h p.memory text in
        let told2 : Told S.entries (printed u text) h2 = printed_told u h p.memory text ready.told in
        sim_leads S.entries Q j j b b 0 p.budget p.cost (ex S (join ss tail)) (ex S tail) u (printed u text) h h2
        (record {
          to = λ n k x le. record {
            fuel = n;
            enough = omega arith;
            is = exec_join n (cenv S) ss tail (standing h (k + p.budget) x) ∙ ap (λ (q : CoreRes Flow). onto q (λ f. after f (ex S tail n))) (p.runs.is n k x le);
          };
        }) (omega arith) (omega arith) (omega (arith, p.cheap))
        (λ t told. inl (record {
          face = h2;
          budget = p.halts.budget;
          cost = p.halts.cost;
          is = λ n x le. exec_join n (cenv S) ss tail (standing h p.halts.budget x) ∙ ap (λ (q : CoreRes Flow). onto q (λ f. after f (ex S tail n))) (p.halts.is n x le);
          told = told;
        })) r sim

  -- ---- values
  abbrev pub AreIntTypes : List ℕ → Type 0
  AreIntTypes [] = Unit {0}
  AreIntTypes (t ∷ ts) = IntType S.tables t × AreIntTypes ts

  pub int_types : (es : Exprs) → refused_ints S.tables S.proc es ≡ None → AreIntTypes (tys es)
  int_types none r = tt
  int_types (more e es) r = let both = passed_both (refused_int S.tables S.proc e) (refused_ints S.tables S.proc es) r in (type_of S c e both.0, int_types es both.1)

  value_printed : (at : Place) (t : ℕ) → IntType S.tables t → (v : Value) (u : State) → print_value (env S c) at t v u ≡ then_by (known at (int_of true 8 v) u) (λ z. print (int_text z))
  value_printed at t i v u =
      ap (λ (k : Shape). print_shaped at (type_in S.tables t).size k v u) i.shape
      ∙ ap (λ (b : Bool). then_by (known at (int_of b (type_in S.tables t).size v) u) (λ z. print (int_text z))) i.signed
      ∙ ap (λ (n : ℕ). then_by (known at (int_of true n v) u) (λ z. print (int_text z))) i.size

  printed_twice : (u : State) (a b : List ℕ) → printed (printed u a) b ≡ printed u (a ++ b)
  printed_twice u a b =
      let one : u.log ++ map out a ++ map out b ≡ u.log ++ map out (a ++ b) = append_assoc u.log (map out a) (map out b) ∙ ap (λ (l : Log Pointer ℕ). u.log ++ l) (sym (map-append out a b)) in
      let two : u.cost + length a + length b ≡ u.cost + length (a ++ b) = omega (arith, length-append a b) in
      ap (λ (l : Log Pointer ℕ). let s : State = record u { log = l; cost = u.cost + length a + length b } in s) one ∙ ap (λ (k : ℕ). let s : State = record u { log = u.log ++ map out (a ++ b); cost = k } in s) two

  abbrev pub done_base : Do Base
  done_base u = ok (is []) u

  abbrev pub newline : Do (Unit {0})
  newline u = print (10 ∷ []) u

  all_wait_on : (d : ℕ) (h h' : Face) (ws : List ℕ) → ((x : ℕ) → na S + 8 ≤ x → h'.memory x ≡ h.memory x) → AllWait d h ws → AllWait d h' ws
  all_wait_on d h h' [] same a = tt
  all_wait_on d h h' (w ∷ ws) same a = (word_apart h.memory h'.memory (slot S F d) w (λ x from to. same x (omega arith)) a.0, all_wait_on (d + 1) h h' ws same a.1)

  module _ (at : Place) (h0 : Face) (j : ℕ) (K : Base → Do Left) (end : (u : State) (h : Face) → Ready S F u h → ((i : ℕ) → S.low + S.proc.frame ≤ i → h.memory i ≡ h0.memory i) → Sim S.entries (Done S F h0) j 0 0 (ex S finish) u h (K (is []) u)) where
    pub unjoin : (a : Stmts) (u : State) (h : Face) (r : Res Leave State Left) → Sim S.entries (Done S F h0) j 0 0 (ex S (join a finish)) u h r → Sim S.entries (Done S F h0) j 0 0 (ex S a) u h r
    unjoin a u h r x = let P : Stmts → Type 0 = λ y. Sim S.entries (Done S F h0) j 0 0 (ex S y) u h r in subst P (join_done a) x

    -- what stands behind a value
    abbrev pub rest_run : List ℕ → List Value → Do Left
    rest_run ts vs u = then_by (then_by (then_by (print_rest (env S c) at ts vs u) (λ _. newline)) (λ _. done_base)) K

    abbrev pub from_value : ℕ → Value → List ℕ → List Value → Do Left
    from_value t v ts vs u = then_by (then_by (then_by (then_by (print_value (env S c) at t v u) (λ _. print_rest (env S c) at ts vs)) (λ _. newline)) (λ _. done_base)) K

    regroup : (r : Res Leave State (Unit {0})) (ts : List ℕ) (vs : List Value) → then_by (then_by (then_by (then_by r (λ _. print_rest (env S c) at ts vs)) (λ _. newline)) (λ _. done_base)) K ≡ then_by r (λ _. rest_run ts vs)
    regroup (ok x u) ts vs = refl
    regroup (stop why u) ts vs = refl

    pub above_on : (h h' : Face) → ((x : ℕ) → (x < ba S) ⊎ (na S + 8 ≤ x) → h'.memory x ≡ h.memory x) → ((i : ℕ) → S.low + S.proc.frame ≤ i → h.memory i ≡ h0.memory i) → (i : ℕ) → S.low + S.proc.frame ≤ i → h'.memory i ≡ h0.memory i
    above_on h h' others above i far = others i (inr (omega (arith, F.room, far))) ∙ above i far

    -- a value, a byte behind it, and what follows
    value_sim : (d w behind : ℕ) (t : ℕ) (v : Value) (ts : List ℕ) (vs : List Value) (tail : Stmts) (u : State) (h : Face) → d < (o S).waiting → behind < 256 → IntType S.tables t → Val S.entries 8 v w → WordAt h.memory (slot S F d) w → Ready S F u h →
        (g : Do Left) → ((u : State) → rest_run ts vs u ≡ g (printed u (behind ∷ []))) →
        ((u' : State) (h' : Face) → ((x : ℕ) → (x < ba S) ⊎ (na S + 8 ≤ x) → h'.memory x ≡ h.memory x) → Ready S F u' h' → Sim S.entries (Done S F h0) j 0 0 (ex S tail) u' h' (g u')) →
        Sim S.entries (Done S F h0) j 0 0 (ex S (join (print_code (o S) d behind) tail)) u h (from_value t v ts vs u)
    value_sim d w behind t v ts vs tail u h inside byte i val there ready g is_g next =
        let act = ex S (join (print_code (o S) d behind) tail) in
        sim_result S.entries (regroup (print_value (env S c) at t v u) ts vs ∙ ap (λ (r : Res Leave State (Unit {0})). then_by r (λ _. rest_run ts vs)) (value_printed at t i v u) ∙ then_then S.entries (known at (int_of true 8 v) u) (λ z. print (int_text z)) (λ _. rest_run ts vs))
        (step_known S F (Done S F h0) j 0 0 act at (int_of true 8 v) u h (λ z. (λ u1. then_by (print (int_text z) u1) (λ _. rest_run ts vs))) ready.told
        (λ z ez.
        let same : z ≡ cast_signed w64 w = val_int S.entries v w z val ez in
        let text : List ℕ = int_text (cast_signed w64 w) ++ (behind ∷ []) in
        let p = print_runs j S h.input h.taken is_low h.memory h.log d w behind inside val.small there byte in
        let u2 : State = printed u text in
        let h2 : Face = after_text h p.memory text in
        sim_result S.entries
        (ap (λ (y : ℤ). rest_run ts vs (printed u (int_text y))) same ∙ is_g (printed u (int_text (cast_signed w64 w))) ∙ ap g (printed_twice u (int_text (cast_signed w64 w)) (behind ∷ [])))
        (print_step (Done S F h0) j 0 (print_code (o S) d behind) tail u h text ready p (g u2)
        (next u2 h2 p.others (printed_ready u h p.memory text p.others ready)))))

    pub values_sim : (t : ℕ) (v : Value) (w : ℕ) (ts : List ℕ) (vs : List Value) (ws : List ℕ) (d : ℕ) (u : State) (h : Face) → length ts ≡ length vs → d + suc (length ws) ≤ (o S).waiting → IntType S.tables t → AreIntTypes ts → Val S.entries 8 v w → AreVals S.entries vs ws → WordAt h.memory (slot S F d) w → AllWait (d + 1) h ws → Ready S F u h →
        ((i : ℕ) → S.low + S.proc.frame ≤ i → h.memory i ≡ h0.memory i) → Sim S.entries (Done S F h0) j 0 0 (ex S (values_code (o S) d (suc (length ws)))) u h (from_value t v ts vs u)
    values_sim t v w [] [] [] d u h long fit i is' val are there waits' ready above =
        unjoin (print_code (o S) d 10) u h (from_value t v [] [] u)
        (value_sim d w 10 t v [] [] finish u h (omega arith) (lit< tt) i val there ready (λ u. K (is []) u) (λ u. refl) (λ u' h' others ready'. end u' h' ready' (above_on h h' others above)))
    values_sim t v w (t2 ∷ ts) (v2 ∷ vs) (w2 ∷ ws) d u h long fit i is' val are there waits' ready above =
        value_sim d w 32 t v (t2 ∷ ts) (v2 ∷ vs) (values_code (o S) (d + 1) (suc (length ws))) u h (omega arith) (lit< tt) i val there ready (from_value t2 v2 ts vs) (λ u. refl)
        (λ u' h' others ready'.
        let on : AllWait (d + 1) h' (w2 ∷ ws) = all_wait_on (d + 1) h h' (w2 ∷ ws) (λ x far. others x (inr far)) waits' in
        values_sim t2 v2 w2 ts vs ws (d + 1) u' h' (omega (arith, long)) (omega arith) is'.0 is'.1 are.0 are.1 on.0 on.1 ready' (above_on h h' others above))
    values_sim t v w [] [] (w2 ∷ ws) d u h long fit i is' val are there waits' ready above = absurd are
    values_sim t v w [] (v2 ∷ vs) ws d u h long fit i is' val are there waits' ready above = absurd (omega (arith, long))
    values_sim t v w (t2 ∷ ts) [] ws d u h long fit i is' val are there waits' ready above = absurd (omega (arith, long))
    values_sim t v w (t2 ∷ ts) (v2 ∷ vs) [] d u h long fit i is' val are there waits' ready above = absurd are
