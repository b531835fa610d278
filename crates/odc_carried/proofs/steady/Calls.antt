-- Activations, calls and whole programs stray nowhere.
use Rattle.std.proofs.Common.{◌≡◌, ℕ, zero, suc, ◌+◌, ◌-◌, ◌<◌, ◌≤◌, Bool, true, false, List, [], ◌∷◌, ◌++◌, length, take, get_or, arith, sym, subst, refl}
use Rattle.std.specs.Prelude.{◌==◌, ◌&&◌, ◌||◌, nat_le, Option, Some, None, slice_get, if◌then◌else◌}
use Rattle.std.proofs.lemmas.Bool.Decides.{nat_tests}
use Rattle.std.proofs.lemmas.List.{append-nil}
use Rattle.odc_text.specs.declared.place.Place.{Place}
use Rattle.odc_text.specs.declared.check.Check.TheVariants as check
use Rattle.odc_text.specs.Run.{HasStrayed}
use Rattle.odc_program.specs.States.Bytes.{global, literal, variable, Value, zeros, numbers, to}
use Rattle.odc_program.specs.States.Memory.{Memory, empty, open_block}
use Rattle.odc_program.specs.States.Run.{Res, ok, stop, then_by, pure, ◌>>=◌, ◌>>>◌}
use Rattle.odc_program.specs.States.State.{State, Leave, ends, back, Do, turn_from, begin_local, local_in, read_at, fail, Env, Context, Calls, first_context}
use Rattle.odc_program.specs.Kinds.Places.{as_read}
use Rattle.odc_program.specs.Runs.Statements.{Part, Left, scoped}
use Rattle.odc_program.specs.Runs.Source.{execs, begin_parameters, begin_results, answer_at, answers, end_activation, body_run, activation, env_of, helps, entered, enter, fits_stack, numbered, calls_of, with_globals, with_literals, first_memory, first_state, ran, ending, source, stack_end}
use Rattle.odc_program.specs.Trees.Program.{Shape, Local, Head, Tables, Body, Global, Literal, Program}
use Rattle.odc_program.specs.Typing.WellTypes.{has, is_there, every}
use Rattle.odc_program.specs.Typing.Well.{Ways, numbers_below, in_procedure, heads_of, begins_once, leaves_room, well_helpers, helper_rooms, well_head, well_body, well_procedures, well_stmts, well_tables, is_main, outer_head}
use Rattle.odc_carried.specs.Carried.{type_in, is_int, are_ints, no_helpers, is_head, refused_stmts, refused_procedure, refused_procedures, refused, is_none}
use Rattle.odc_carried.specs.Crossing.{CanCross, NeverAstray}
use Rattle.odc_carried.proofs.Quiet.{IntType, int_type, and_true}
use Rattle.odc_carried.proofs.Evals.{passed, passed_both}
use Rattle.odc_carried.proofs.steady.Outcomes.{IsWord, AreWords, Plain, Onward, onward_as, Steady, steady_from, steady_behind, steady_then}
use Rattle.odc_carried.proofs.steady.Actions.{Activation, env, block, Ready, Safe, safe_then, safe_pure, safe_read, begin_word}
use Rattle.odc_carried.proofs.steady.Exprs.{IsAnswer, CallsSafe}
use Rattle.odc_carried.proofs.steady.Parts.{Sure, goes_sure, sure_scoped}
use Rattle.odc_carried.proofs.steady.Stmts.{zeros_word, stmts_sure}

-- ---- the first locals
pub below_has : (n x : ℕ) → x < n → has x (numbers_below n) ≡ true
below_has zero x less = absurd (omega arith)
below_has (suc n) x less = by (x == n) refl (λ below. below_has n x below)
  where
    by : (q : Bool) → (x == n) ≡ q → (x < n → has x (numbers_below n) ≡ true) → (q || has x (numbers_below n)) ≡ true
    by true e rest = refl
    by false e rest = let below : x < n = grind (arith, nat_tests) in rest below

first_int : (tables : Tables) (ls : List Local) (k x : ℕ) (d : Local) → x < k → k ≤ length ls → are_ints tables (take k ls) ≡ true → IntType tables (get_or ls x d).ty
first_int tables ls zero x d less some e = absurd (omega arith)
first_int tables [] (suc k) x d less some e = absurd (omega arith)
first_int tables (l ∷ ls) (suc k) zero d less some e = int_type tables l.ty (and_true (is_int tables l.ty) (are_ints tables (take k ls)) e).0
first_int tables (l ∷ ls) (suc k) (suc x) d less some e = first_int tables ls k x d (omega arith) (omega arith) (and_true (is_int tables l.ty) (are_ints tables (take k ls)) e).1

-- ---- activations
module _ (a : Activation) (c : Context) where
  parameters_begin : (x m : ℕ) (vs : List Value) → x + length vs ≡ m → AreWords vs → (s : State) → Ready a (numbers_below x) s → Steady (λ (u : Unit {0}) t. Ready a (numbers_below m) t) s (begin_parameters (env a c) x vs s)
  parameters_begin x m [] e words s r =
      let same : x ≡ m = omega arith in
      let P : ℕ → Type 0 = λ k. Ready a (numbers_below k) s in
      record { by = (onward_as s s r.plain refl refl, subst P same r) }
  parameters_begin x m (v ∷ vs) e words s r =
      steady_then (λ (u : Unit {0}) t. Ready a (x ∷ numbers_below x) t) (λ (u : Unit {0}) t. Ready a (numbers_below m) t) s (begin_local (env a c) x v s) (λ _. begin_parameters (env a c) (x + 1) vs) (begin_word a (numbers_below x) c x v words.0 s r)
      (λ u t on now.
      let next : suc x ≡ x + 1 = omega arith in
      let P : ℕ → Type 0 = λ k. Ready a (numbers_below k) t in
      parameters_begin (x + 1) m vs (omega arith) words.1 t (subst P next now))

  results_begin : (x n m : ℕ) → x + n ≡ m → ((y : ℕ) → y < m → IntType a.tables (local_in a.proc y).ty) → (s : State) → Ready a (numbers_below x) s → Steady (λ (u : Unit {0}) t. Ready a (numbers_below m) t) s (begin_results (env a c) x n s)
  results_begin x zero m e ints s r =
      let same : x ≡ m = omega arith in
      let P : ℕ → Type 0 = λ k. Ready a (numbers_below k) s in
      record { by = (onward_as s s r.plain refl refl, subst P same r) }
  results_begin x (suc n) m e ints s r =
      let size : ℕ = (type_in a.tables (local_in a.proc x).ty).size in
      steady_then (λ (u : Unit {0}) t. Ready a (x ∷ numbers_below x) t) (λ (u : Unit {0}) t. Ready a (numbers_below m) t) s (begin_local (env a c) x (zeros size) s) (λ _. begin_results (env a c) (x + 1) n)
      (begin_word a (numbers_below x) c x (zeros size) (zeros_word size (ints x (omega arith)).size) s r)
      (λ u t on now.
      let next : suc x ≡ x + 1 = omega arith in
      let P : ℕ → Type 0 = λ k. Ready a (numbers_below k) t in
      results_begin (x + 1) n m (omega arith) ints t (subst P next now))

  answer_safe : (xs : List ℕ) (x : ℕ) → IntType a.tables (local_in a.proc x).ty → has x xs ≡ true → Safe a xs IsWord (answer_at (env a c) x)
  answer_safe xs x i begun =
      let N : ℕ → Type 0 = λ n. Safe a xs IsWord (read_at a.proc.at (to (block a x) 0) n) in
      let t : ℕ = (local_in a.proc x).ty in
      let M : (v : Value) → Shape → Type 0 = λ v s. Safe a xs IsWord (as_read a.proc.at s v) in
      safe_then a xs IsWord (as_read a.proc.at (type_in a.tables t).shape) (subst N (sym i.size) (safe_read a xs a.proc.at x begun)) (λ v h. subst (M v) (sym i.shape) (safe_pure a xs IsWord v h))

  answers_safe : (xs : List ℕ) (x n : ℕ) → n ≤ 1 → (n ≡ 1 → IntType a.tables (local_in a.proc x).ty × (has x xs ≡ true)) → Safe a xs (IsAnswer n) (answers (env a c) x n)
  answers_safe xs x zero few k = safe_pure a xs (IsAnswer 0) [] (λ e. absurd (omega arith))
  answers_safe xs x (suc zero) few k =
      let one = k refl in
      let P : Value → Type 0 = IsWord in
      safe_then a xs (IsAnswer 1) (λ v. answers (env a c) (x + 1) zero >>= (λ vs. pure (v ++ vs))) (answer_safe xs x one.0 one.1) (λ v h. safe_pure a xs (IsAnswer 1) (v ++ []) (λ e. subst P (sym (append-nil v)) h))
  answers_safe xs x (suc (suc n)) few k = absurd (omega arith)

-- ---- a procedure of the program
-- what the tests say of its body
pub record Good (tables : Tables) (p : Head) (q : Body) : Type 0 where
  pub number : ℕ
  pub carried : refused_procedure tables p q ≡ None
  pub well : well_body (env_of tables p number 0 0 None) q ≡ true

good_at : (tables : Tables) (ps : List Head) (qs : List Body) (number f : ℕ) (p : Head) (q : Body) → refused_procedures tables ps qs ≡ None → well_procedures tables number ps qs ≡ true → slice_get ps f ≡ Some p → slice_get qs f ≡ Some q → Good tables p q
good_at tables [] qs number f p q r h is_p is_q = absurd (cc)
good_at tables (y ∷ ps) [] number f p q r h is_p is_q = absurd (cc)
good_at tables (y ∷ ps) (z ∷ qs) number f p q r h is_p is_q =
    let e : Env = env_of tables y number 0 0 None in
    let here = passed_both (refused_procedure tables y z) (refused_procedures tables ps qs) r in
    let first = and_true (well_head e y && well_body e z) (well_procedures tables (number + 1) ps qs) h in
    by f is_p is_q (record { number = number; carried = here.0; well = (and_true (well_head e y) (well_body e z) first.0).1 }) (λ g is_p is_q. good_at tables ps qs (number + 1) g p q here.1 first.1 is_p is_q)
  where
    by : (f : ℕ) → slice_get (y ∷ ps) f ≡ Some p → slice_get (z ∷ qs) f ≡ Some q → Good tables y z → ((g : ℕ) → slice_get ps g ≡ Some p → slice_get qs g ≡ Some q → Good tables p q) → Good tables p q
    by zero is_p is_q here rest =
        let one : y ≡ p = cc in
        let two : z ≡ q = cc in
        let P : Head → Type 0 = λ k. Good tables k z in
        let Q : Body → Type 0 = λ k. Good tables p k in
        subst Q two (subst P one here)
    by (suc g) is_p is_q here rest = rest g is_p is_q

-- its variables end with it, and with them none of an older activation
ended : (s t : State) (v : Value) (n : ℕ) → Onward s t → IsAnswer n v → Steady (λ v u. IsAnswer n v) s (end_activation s.serial v t)
ended s t v n on h = record {
  by = (
    record {
      plain = record { byte = on.plain.byte };
      serial = on.serial;
      live = λ f k at x less e. older (s.serial == k) f k at x less (on.live f k at x less e) refl;
    },
    h,
  );
}
  where
    older : (q : Bool) → (f k at x : ℕ) → k < s.serial → t.memory.size (variable f k at x) ≡ Some 8 → (s.serial == k) ≡ q → (if q then None else t.memory.size (variable f k at x)) ≡ Some 8
    older true f k at x less e same = absurd (let test : (s.serial == k) ≡ true = same in let one : s.serial ≡ k = grind (arith, nat_tests) in omega arith)
    older false f k at x less e same = e

module _ (tables : Tables) (p : Head) (q : Body) (good : Good tables p q) where
  abbrev size : ℕ
  size = p.parameters + p.results

  head : (p.results ≤ 1) × ((x : ℕ) → x < p.parameters + p.results → IntType tables (local_in p x).ty)
  head =
      let checks = passed (is_head tables p && no_helpers q.helpers) p.at (refused_stmts tables p q.stmts) good.carried in
      let fits = (and_true (is_head tables p) (no_helpers q.helpers) checks.0).0 in
      let first = and_true (nat_le p.results 1) (nat_le size (length p.locals) && are_ints tables (take size p.locals)) fits in
      let second = and_true (nat_le size (length p.locals)) (are_ints tables (take size p.locals)) first.1 in
      let one : nat_le p.results 1 ≡ true = first.0 in
      let two : nat_le size (length p.locals) ≡ true = second.0 in
      let some : size ≤ length p.locals = grind (arith, nat_tests) in
      (grind (arith, nat_tests), λ x less. first_int tables p.locals size x (record { ty = 0; place = 0 }) less some second.1)

  body_sure : (f serial low n : ℕ) (calls : Calls) → CallsSafe tables calls → (c : Context) →
      (let a : Activation = record { tables = tables; proc = p; number = f; serial = serial; low = low } in Sure a (numbers_below (p.parameters + p.results)) (execs n calls (env a c) q.stmts))
  body_sure f serial low n calls follows c =
      let a : Activation = record { tables = tables; proc = p; number = f; serial = serial; low = low } in
      let w : Ways = in_procedure (heads_of q.helpers) p in
      let e : Env = env_of tables p good.number 0 0 None in
      let rest : Bool = leaves_room e q.helpers && (well_helpers e q.helpers && every (λ n. nat_le n 128) (helper_rooms q.helpers)) in
      let checks = passed (is_head tables p && no_helpers q.helpers) p.at (refused_stmts tables p q.stmts) good.carried in
      let x = and_true (begins_once p q.stmts) (well_stmts w e q.stmts && rest) good.well in
      let y = and_true (well_stmts w e q.stmts) rest x.1 in
      stmts_sure a calls follows e n c w q.stmts (λ x less. below_has size x less) checks.1 y.0

  -- from the state behind its serial number
  body_steady : (f low n : ℕ) (calls : Calls) → CallsSafe tables calls → (c : Context) (vs : List Value) → length vs ≡ p.parameters → AreWords vs → (s : State) → Plain s.memory →
      (let a : Activation = record { tables = tables; proc = p; number = f; serial = s.serial; low = low } in
      Steady (λ v t. IsAnswer p.results v) (record s { serial = s.serial + 1 }) (body_run (execs n calls (env a c) q.stmts) vs (env a c) (record s { serial = s.serial + 1 })))
  body_steady f low n calls follows c vs long words s plain =
      let a : Activation = record { tables = tables; proc = p; number = f; serial = s.serial; low = low } in
      let u : State = record s { serial = s.serial + 1 } in
      let xs : List ℕ = numbers_below size in
      let body : Part = execs n calls (env a c) q.stmts in
      let none : Ready a [] u = record { plain = plain; older = omega arith; live = λ x h. absurd (cc) } in
      let R : ℕ → State → Type 0 = λ k t. Ready a (numbers_below k) t in
      let begun : Steady (λ (o : Unit {0}) t. R size t) u ((begin_parameters (env a c) 0 vs >>> begin_results (env a c) p.parameters p.results) u) =
      steady_then (λ (o : Unit {0}) t. R p.parameters t) (λ (o : Unit {0}) t. R size t) u (begin_parameters (env a c) 0 vs u) (λ _. begin_results (env a c) p.parameters p.results)
      (parameters_begin a c 0 p.parameters vs (omega arith) words u none) (λ o t on now. results_begin a c p.parameters p.results size refl head.1 t now) in
      let ran : Steady (λ (l : Left) t. R size t) u ((begin_parameters (env a c) 0 vs >>> begin_results (env a c) p.parameters p.results >>> scoped body c) u) =
      steady_then (λ (o : Unit {0}) t. R size t) (λ (l : Left) t. R size t) u ((begin_parameters (env a c) 0 vs >>> begin_results (env a c) p.parameters p.results) u) (λ _. scoped body c) begun
      (λ o t on now. (goes_sure a xs (scoped body) (sure_scoped a xs body (body_sure f s.serial low n calls follows c))).by c t now) in
      steady_then (λ (l : Left) t. R size t) (λ v t. IsAnswer p.results v) u ((begin_parameters (env a c) 0 vs >>> begin_results (env a c) p.parameters p.results >>> scoped body c) u) (λ l. answers (env a c) p.parameters p.results) ran
      (λ l t on now. (answers_safe a c xs p.parameters p.results head.0 (λ one. (head.1 p.parameters (omega arith), below_has size p.parameters (omega arith)))).by t now)

  -- the activation, its serial number, and how it begins
  abbrev running : ℕ → ℕ → Calls → List Value → Context → ℕ → ℕ → Do Value
  running n f calls vs c base serial =
      activation (execs n (record { call = calls.call; help = helps n q.helpers }) (env_of tables p f serial (base - p.frame) c) q.stmts) vs (env_of tables p f serial (base - p.frame) c)

  numbered_steady : (n f : ℕ) (calls : Calls) → CallsSafe tables calls → (vs : List Value) (c : Context) (base : ℕ) → length vs ≡ p.parameters → AreWords vs → (s : State) → Plain s.memory →
      Steady (λ v t. IsAnswer p.results v) s (numbered (running n f calls vs c base) s)
  numbered_steady n f calls follows vs c base long words s plain =
      let u : State = record s { serial = s.serial + 1 } in
      let a : Activation = record { tables = tables; proc = p; number = f; serial = s.serial; low = base - p.frame } in
      let inner : Calls = record { call = calls.call; help = helps n q.helpers } in
      let r : Res Leave State Value = body_run (execs n inner (env a c) q.stmts) vs (env a c) u in
      let on : Onward s u = record { plain = plain; serial = omega arith; live = λ f k at x less e. e } in
      steady_behind (λ v t. IsAnswer p.results v) (λ v t. IsAnswer p.results v) s r (end_activation s.serial)
      (steady_from (λ v t. IsAnswer p.results v) s u r on (body_steady f (base - p.frame) n inner (record { by = follows.by }) c vs long words s plain)) (λ v t on h. ended s t v p.results on h)

  entered_steady : (n f : ℕ) (calls : Calls) → CallsSafe tables calls → (vs : List Value) (c : Context) (base : ℕ) → length vs ≡ p.parameters → AreWords vs → (s : State) → Plain s.memory →
      Steady (λ v t. IsAnswer p.results v) s (entered n calls tables f p q vs c base s)
  entered_steady n f calls follows vs c base long words s plain = by (fits_stack base p.frame)
    where
      by : (b : Bool) → Steady (λ v t. IsAnswer p.results v) s ((if b then numbered (running n f calls vs c base) else fail check.Stack p.at) s)
      by true = numbered_steady n f calls follows vs c base long words s plain
      by false = record { by = λ h. h }

-- ---- calls
module _ (P : Program) (all : refused P ≡ None) (well : well_procedures P.tables 0 P.tables.procedures P.bodies ≡ true) where
  enter_steady : (n f : ℕ) (calls : Calls) → CallsSafe P.tables calls → (p : Head) → slice_get P.tables.procedures f ≡ Some p → (vs : List Value) (c : Context) (base : ℕ) → length vs ≡ p.parameters → AreWords vs → (s : State) → Plain s.memory →
      Steady (λ v t. IsAnswer p.results v) s (enter n calls P.tables f (slice_get P.tables.procedures f) (slice_get P.bodies f) vs c base s)
  enter_steady n f calls follows p found vs c base long words s plain =
      let M : Option Head → Type 0 = λ o. Steady (λ v t. IsAnswer p.results v) s (enter n calls P.tables f o (slice_get P.bodies f) vs c base s) in
      subst M (sym found) (by (slice_get P.bodies f) refl)
    where
      by : (o : Option Body) → slice_get P.bodies f ≡ o → Steady (λ v t. IsAnswer p.results v) s (enter n calls P.tables f (Some p) o vs c base s)
      by None e = record { by = λ h. h }
      by (Some q) e = entered_steady P.tables p q (good_at P.tables P.tables.procedures P.bodies 0 f p q all well found e) n f calls follows vs c base long words s plain

  call_steady : (n : ℕ) → CallsSafe P.tables (calls_of P n) → (f : ℕ) (p : Head) (vs : List Value) (c : Context) (base : ℕ) (s : State) → slice_get P.tables.procedures f ≡ Some p → length vs ≡ p.parameters → AreWords vs → Plain s.memory →
      (left : ℕ) → Steady (λ v t. IsAnswer p.results v) s (then_by (turn_from left s) (λ _. pure tt >>> enter n (calls_of P n) P.tables f (slice_get P.tables.procedures f) (slice_get P.bodies f) vs c base))
  call_steady n follows f p vs c base s found long words plain zero = record { by = λ h. h }
  call_steady n follows f p vs c base s found long words plain (suc left) =
      let t : State = record s { left = left; cost = s.cost + 1 } in
      steady_from (λ v t. IsAnswer p.results v) s t (enter n (calls_of P n) P.tables f (slice_get P.tables.procedures f) (slice_get P.bodies f) vs c base t) (onward_as s t plain refl refl)
      (enter_steady n f (calls_of P n) follows p found vs c base long words t plain)

  calls_safe : (n : ℕ) → CallsSafe P.tables (calls_of P n)
  calls_safe zero = record { by = λ f p vs c base s found long words plain. record { by = λ h. h } }
  calls_safe (suc n) = record { by = λ f p vs c base s found long words plain. call_steady n (calls_safe n) f p vs c base s found long words plain s.left }

-- ---- whole programs
globals_plain : (n : ℕ) (gs : List Global) (m : Memory) → Plain m → Plain (with_globals n gs m)
globals_plain n [] m h = h
globals_plain n (g ∷ gs) m h = globals_plain (n + 1) gs (open_block m (global g.at n) g.first) (record { byte = λ f k at x i. h.byte f k at x i })

literals_plain : (n : ℕ) (ls : List Literal) (m : Memory) → Plain m → Plain (with_literals n ls m)
literals_plain n [] m h = h
literals_plain n (l ∷ ls) m h = literals_plain (n + 1) ls (open_block m (literal l.at n) (numbers l.bytes)) (record { byte = λ f k at x i. h.byte f k at x i })

first_plain : (P : Program) → Plain (first_memory P)
first_plain P =
    let none : Plain empty = record { byte = λ f k at x i. tt } in
    let told = literals_plain 0 P.tables.literals (with_globals 0 P.tables.globals empty) (globals_plain 0 P.tables.globals empty none) in
    record { byte = λ f k at x i. told.byte f k at x i }

strays_not : (n : ℕ) (s : State) (r : Res Leave State Value) → Steady (λ v t. IsAnswer n v) s r → HasStrayed (ending r).end → ⊥
strays_not n s (ok v t) h e = e
strays_not n s (stop (ends end) t) h e = h.by e
strays_not n s (stop back t) h e = h.by

none_refused : (o : Option Place) → is_none o ≡ true → o ≡ None
none_refused None e = refl
none_refused (Some at) e = absurd (cc)

program_parts : (P : Program) → CanCross P → (well_procedures P.tables 0 P.tables.procedures P.bodies ≡ true) × (is_there (slice_get P.tables.procedures P.main) is_main ≡ true)
program_parts P can =
    let e : Env = env_of P.tables outer_head 0 0 0 None in
    let x = and_true (well_tables e) (well_procedures P.tables 0 P.tables.procedures P.bodies && is_there (slice_get P.tables.procedures P.main) is_main) can.well in
    and_true (well_procedures P.tables 0 P.tables.procedures P.bodies) (is_there (slice_get P.tables.procedures P.main) is_main) x.1

pub never_astray : NeverAstray
never_astray P can input n = let parts = program_parts P can in by parts.0 (slice_get P.tables.procedures P.main) refl parts.1
  where
    by : well_procedures P.tables 0 P.tables.procedures P.bodies ≡ true → (o : Option Head) → slice_get P.tables.procedures P.main ≡ o → is_there o is_main ≡ true → HasStrayed (source P input n).end → ⊥
    by wells None found e = absurd (cc)
    by wells (Some p) found e =
        let x = and_true p.has_context ((p.parameters == 0) && (p.results == 0)) e in
        let y = and_true (p.parameters == 0) (p.results == 0) x.1 in
        let test : (p.parameters == 0) ≡ true = y.0 in
        let nothing : 0 ≡ p.parameters = grind (arith, nat_tests) in
        let all : refused P ≡ None = none_refused (refused P) can.carried in
        let s : State = first_state P input n in
        strays_not p.results s (ran P input n) (enter_steady P all wells n P.main (calls_of P n) (calls_safe P all wells n) p found [] (Some (first_context P.tables)) stack_end nothing tt s (first_plain P))
