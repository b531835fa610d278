-- The source run: statements by recursion on the tree, calls by recursion on fuel, and a whole program.
use Rattle.std.specs.Prelude.{ℕ, zero, suc, ◌+◌, ◌-◌, ◌^◌, Bool, true, false, nat_le, if◌then◌else◌, List, [], ◌∷◌, ◌++◌, length, Option, Some, None, slice_get}
use Rattle.odc_text.specs.declared.place.Place.{Place}
use Rattle.odc_text.specs.declared.check.Check.TheVariants as check
use Rattle.odc_text.specs.Run.{End, exited, going, Ending}
use Rattle.odc_program.specs.States.Run.{Res, ok, stop, pure, halt, ◌>>=◌, ◌>>>◌}
use Rattle.odc_program.specs.States.Bytes.{global, literal, Pointer, Value, numbers, zeros}
use Rattle.odc_program.specs.States.Memory.{Memory, empty, open_block, open_zeros}
use Rattle.odc_program.specs.Trees.Tree.{Maybe, absent, present, Lefts, no_lefts, left_, dropped, Rights, each, parted, nothing, Items, no_items, item, span, Over, from_to, through, Stmt, stmt, Form, declare, assign, change, eval, block, if_, loop, range, switch, type_switch, defer, return, break_, continue_, fallthrough, counted, MaybeStmt, no_stmt, some_stmt, Stmts, finish, follow, Cases, no_cases, one_case, default_case, TypeCases, no_types, type_case, default_type, ty, at_of}
use Rattle.odc_program.specs.Trees.Program.{Global, Literal, Head, Tables, Helper, Body, Program, array, slice, dynamic, soa_array, soa_slice, soa_dynamic, Shape}
use Rattle.odc_program.specs.States.State.{State, Leave, ends, back, Do, turn, next_serial, close_all, close_behind, fail, Spot, Context, Env, in_context_of, Calls, first_context, own_storage, begin_local, size_of, shape_of, local_of}
use Rattle.odc_program.specs.Kinds.Places.{as_spot, as_left, as_read, read_truth, read_spot}
use Rattle.odc_program.specs.Kinds.Calling.{taken_parts}
use Rattle.odc_program.specs.Kinds.Builtins.{heap_block, heap_size, temp_block, temp_size}
use Rattle.odc_program.specs.Kinds.Expressions.{base_of, value_of, values_of, truth_of}
use Rattle.odc_program.specs.Runs.Statements.{falls, breaks, continues, passes, Part, left_by, scoped, stepped, run_declare, run_assign, run_change, run_eval, run_block, run_if, run_loop, run_counted, run_span, run_through, Test, tried, run_switch, item_holds, span_holds, tag_test, named_body, run_type_switch, run_return, ticked, seen}

-- ---- what statements ask of expressions
abbrev pub rights_of : Calls → Env → Rights → Do (List Value)
rights_of calls env (each es) = values_of calls env es
rights_of calls env (parted ts e) = value_of calls env e >>= taken_parts env ts
rights_of calls env nothing = pure []

abbrev pub places_of : Calls → Env → Lefts → Do (List (Option Spot))
places_of calls env no_lefts = pure []
places_of calls env (left_ e es) = as_left (at_of e) (base_of calls env e) >>= (λ s. places_of calls env es >>= (λ ss. pure (Some s ∷ ss)))
places_of calls env (dropped es) = places_of calls env es >>= (λ ss. pure (None ∷ ss))

abbrev pub condition_of : Calls → Env → Maybe → Do Bool
condition_of calls env absent = pure true
condition_of calls env (present e) = truth_of calls env e

abbrev pub subject_of : Calls → Env → Maybe → Do (Option Value)
subject_of calls env absent = pure None
subject_of calls env (present e) = value_of calls env e >>= (λ v. pure (Some v))

abbrev pub items_test : Calls → Env → Items → Test
items_test calls env no_items v = pure false
items_test calls env (item e is) v = tried (item_holds env (at_of e) (ty e) (value_of calls env e) (read_truth (at_of e)) v) (items_test calls env is v)
items_test calls env (span e f closed is) v = tried (span_holds env (at_of e) (ty e) closed (value_of calls env e) (value_of calls env f) v) (items_test calls env is v)

abbrev pub tests_of : Calls → Env → Cases → List (Option Test)
tests_of calls env no_cases = []
tests_of calls env (one_case is body rest) = Some (items_test calls env is) ∷ tests_of calls env rest
tests_of calls env (default_case body rest) = None ∷ tests_of calls env rest

abbrev pub type_tests : Env → Place → ℕ → TypeCases → List (Option Test)
type_tests env at t no_types = []
type_tests env at t (type_case variants x body rest) = Some (tag_test env at t variants) ∷ type_tests env at t rest
type_tests env at t (default_type x body rest) = None ∷ type_tests env at t rest

-- the type of a container's elements
abbrev pub element_type : Shape → ℕ
element_type (array e n) = e
element_type (slice e) = e
element_type (dynamic e) = e
element_type (soa_array e n) = e
element_type (soa_slice e) = e
element_type (soa_dynamic e) = e
element_type _ = 0

abbrev pub run_over : Calls → Env → Place → ℕ → Over → Option ℕ → Option ℕ → (Env → Part) → Part
run_over calls env at l (from_to e f closed) x y body c = run_span env at (ty e) l x y closed (value_of calls (in_context_of env c) e) (value_of calls (in_context_of env c) f) body c
run_over calls env at l (through e by_place) x y body c =
    run_through env at (at_of e) (ty e) (element_type (shape_of env (ty e))) l x y by_place (base_of calls (in_context_of env c) e) body c

-- ---- statements; n bounds the turns of each loop
abbrev mutual
  pub exec : ℕ → Calls → Env → Stmt → Part
  exec n calls env (stmt at k) = ticked (form_of n calls env at k)

  pub form_of : ℕ → Calls → Env → Place → Form → Part
  form_of n calls env at (declare xs values) c = run_declare env xs (rights_of calls (in_context_of env c) values) c
  form_of n calls env at (assign lefts values) c = run_assign at env (rights_of calls (in_context_of env c) values) (places_of calls (in_context_of env c) lefts) c
  form_of n calls env at (change o e f) c = run_change at (at_of e) (in_context_of env c) o (ty e) (ty f) (as_spot (at_of e) (base_of calls (in_context_of env c) e)) (value_of calls (in_context_of env c) f) c
  form_of n calls env at (eval e) c = run_eval (value_of calls (in_context_of env c) e) c
  form_of n calls env at (block l body) c = run_block l (execs n calls env body) c
  form_of n calls env at (if_ init e body other) c = run_if (maybe n calls env init) (seen env (λ env. truth_of calls env e)) (execs n calls env body) (execs n calls env other) c
  form_of n calls env at (loop l init e post body) c = run_loop n l (maybe n calls env init) (seen env (λ env. condition_of calls env e)) (maybe n calls env post) (execs n calls env body) c
  form_of n calls env at (range l over x y body) c = run_over calls env at l over x y (λ env. execs n calls env body) c
  form_of n calls env at (switch l init e cases) c = run_switch l (maybe n calls env init) (seen env (λ env. subject_of calls env e)) (λ c. tests_of calls (in_context_of env c) cases) (bodies n calls env cases) c
  form_of n calls env at (type_switch l e cases) c = run_type_switch l (seen env (λ env. value_of calls env e)) (type_tests env at (ty e) cases) (type_bodies n calls env at cases) c
  -- a deferred statement that is itself a `defer` runs at once
  form_of n calls env at (defer s) c = exec n calls env s c
  form_of n calls env at (return values) c = run_return at env (rights_of calls (in_context_of env c) values) c
  form_of n calls env at (break_ l) c = left_by (breaks l) c
  form_of n calls env at (continue_ l) c = left_by (continues l) c
  form_of n calls env at fallthrough c = left_by passes c
  form_of n calls env at (counted bound l e body) c = run_counted bound l (seen env (λ env. truth_of calls env e)) (scoped (execs n calls env body)) c

  pub maybe : ℕ → Calls → Env → MaybeStmt → Part
  maybe n calls env no_stmt = left_by falls
  maybe n calls env (some_stmt s) = exec n calls env s

  -- a deferred statement as it is run at the end of its scope
  pub later : ℕ → Calls → Env → Stmt → Option Part
  later n calls env (stmt at k) = later_form n calls env k

  pub later_form : ℕ → Calls → Env → Form → Option Part
  later_form n calls env (defer s) = Some (exec n calls env s)
  later_form n calls env _ = None

  pub execs : ℕ → Calls → Env → Stmts → Part
  execs n calls env finish c = left_by falls c
  execs n calls env (follow s ss) c = stepped (later n calls env s) (exec n calls env s) (execs n calls env ss) c

  pub bodies : ℕ → Calls → Env → Cases → List Part
  bodies n calls env no_cases = []
  bodies n calls env (one_case is body rest) = scoped (execs n calls env body) ∷ bodies n calls env rest
  bodies n calls env (default_case body rest) = scoped (execs n calls env body) ∷ bodies n calls env rest

  pub type_bodies : ℕ → Calls → Env → Place → TypeCases → List (Value → Part)
  type_bodies n calls env at no_types = []
  type_bodies n calls env at (type_case variants x body rest) = named_body env at x (execs n calls env body) ∷ type_bodies n calls env at rest
  type_bodies n calls env at (default_type x body rest) = named_body env at x (execs n calls env body) ∷ type_bodies n calls env at rest

-- ---- procedures: parameters begin with the arguments, results with zeros; results are answered as they stand
abbrev pub begin_parameters : Env → ℕ → List Value → Do (Unit {0})
begin_parameters env x [] = pure tt
begin_parameters env x (v ∷ vs) = begin_local env x v >>> begin_parameters env (x + 1) vs

abbrev pub begin_results : Env → ℕ → ℕ → Do (Unit {0})
begin_results env x zero = pure tt
begin_results env x (suc n) = begin_local env x (zeros (size_of env (local_of env x).ty)) >>> begin_results env (x + 1) n

abbrev pub answer_at : Env → ℕ → Do Value
answer_at env x = read_spot env env.proc.at (env.storage x) (size_of env (local_of env x).ty) >>= as_read env.proc.at (shape_of env (local_of env x).ty)

abbrev pub answers : Env → ℕ → ℕ → Do Value
answers env x zero = pure []
answers env x (suc n) = answer_at env x >>= (λ v. answers env (x + 1) n >>= (λ vs. pure (v ++ vs)))

abbrev pub end_activation : ℕ → Value → Do Value
end_activation serial v = close_all serial >>> pure v

abbrev pub body_run : Part → List Value → Env → Do Value
body_run body vs env =
    begin_parameters env 0 vs >>> begin_results env env.proc.parameters env.proc.results >>>
    scoped body env.context >>= (λ l. answers env env.proc.parameters env.proc.results)

-- the blocks of an activation end behind its body
abbrev pub activation : Part → List Value → Env → Do Value
activation body vs env = body_run body vs env >>= end_activation env.serial

abbrev pub env_of : Tables → Head → ℕ → ℕ → ℕ → Context → Env
env_of tables p f serial low c = record { tables = tables; proc = p; number = f; serial = serial; low = low; shift = 0; storage = own_storage p f serial low 0; context = c }

-- ---- helpers: no turn, no serial number, no frame, no stack check and no context; their blocks end with them
abbrev pub help_low : Env → ℕ
help_low env = env.low + env.proc.frame - 128

abbrev pub help_shift : Env → ℕ
help_shift env = env.shift + length env.proc.locals

abbrev pub env_in : Env → Head → Env
env_in env q = record { tables = env.tables; proc = q; number = env.number; serial = env.serial; low = help_low env; shift = help_shift env; storage = own_storage q env.number env.serial (help_low env) (help_shift env); context = None }

abbrev pub end_help : Env → Value → Do Value
end_help env v = close_behind env.serial env.low >>> pure v

abbrev pub helper_run : Part → List Value → Env → Do Value
helper_run body vs env = body_run body vs env >>= end_help env

abbrev pub no_call : ℕ → Do (Unit {0}) → List Value → Context → ℕ → Do Value
no_call f entry vs c base = halt (ends going)

-- a helper calls those behind it alone
abbrev pub helps : ℕ → List Helper → ℕ → List Value → Env → Do Value
helps n [] h vs env = halt (ends going)
helps n (x ∷ xs) zero vs env = helper_run (execs n (record { call = no_call; help = helps n xs }) (env_in env x.head) x.body) vs (env_in env x.head)
helps n (x ∷ xs) (suc h) vs env = helps n xs h vs env

-- ---- calls
abbrev pub numbered : {A : Type 0} → (ℕ → Do A) → Do A
numbered m = next_serial >>= m

-- the stack lies below this address, and the frame of `main` ends there
abbrev pub stack_end : ℕ
stack_end = 2 ^ 31

abbrev pub stack_size : ℕ
stack_size = 2 ^ 27

abbrev pub fits_stack : ℕ → ℕ → Bool
fits_stack base size = nat_le (stack_end - base + size) stack_size

abbrev pub entered : ℕ → Calls → Tables → ℕ → Head → Body → List Value → Context → ℕ → Do Value
entered n calls tables f p body vs c base =
    if fits_stack base p.frame
    then numbered (λ serial. activation (execs n (record { call = calls.call; help = helps n body.helpers }) (env_of tables p f serial (base - p.frame) c) body.stmts) vs (env_of tables p f serial (base - p.frame) c))
    else fail check.Stack p.at

abbrev pub enter : ℕ → Calls → Tables → ℕ → Option Head → Option Body → List Value → Context → ℕ → Do Value
enter n calls tables f (Some p) (Some body) vs c base = entered n calls tables f p body vs c base
enter n calls tables f _ _ vs c base = halt (ends going)

-- the turn, what comes between it and the stack check, and the body
abbrev pub call_of : Program → ℕ → ℕ → Do (Unit {0}) → List Value → Context → ℕ → Do Value
call_of p zero f entry vs c base = halt (ends going)
call_of p (suc n) f entry vs c base =
    turn (entry >>> enter n (record { call = call_of p n; help = helps n [] }) p.tables f (slice_get p.tables.procedures f) (slice_get p.bodies f) vs c base)

abbrev pub calls_of : Program → ℕ → Calls
calls_of p n = record { call = call_of p n; help = helps n [] }

-- ---- whole programs
abbrev pub with_globals : ℕ → List Global → Memory → Memory
with_globals n [] m = m
with_globals n (g ∷ gs) m = with_globals (n + 1) gs (open_block m (global g.at n) g.first)

abbrev pub with_literals : ℕ → List Literal → Memory → Memory
with_literals n [] m = m
with_literals n (l ∷ ls) m = with_literals (n + 1) ls (open_block m (literal l.at n) (numbers l.bytes))

abbrev pub with_regions : Memory → Memory
with_regions m = open_zeros (open_zeros m heap_block heap_size) temp_block temp_size

abbrev pub first_memory : Program → Memory
first_memory p = with_regions (with_literals 0 p.tables.literals (with_globals 0 p.tables.globals empty))

abbrev pub first_state : Program → List ℕ → ℕ → State
first_state p input bound = record { memory = first_memory p; log = []; input = input; taken = 0; left = bound; cost = 0; serial = 0 }

-- `main`, from any state
abbrev pub main_run : Program → ℕ → Do Value
main_run p n = enter n (calls_of p n) p.tables p.main (slice_get p.tables.procedures p.main) (slice_get p.bodies p.main) [] (Some (first_context p.tables)) stack_end

abbrev pub ending_at : End → State → Ending Pointer ℕ
ending_at end s = record { end = end; log = s.log; taken = s.taken; cost = s.cost }

-- a program that returns from `main` has exited with 0
abbrev pub ending : Res Leave State Value → Ending Pointer ℕ
ending (ok v s) = ending_at (exited 0) s
ending (stop (ends e) s) = ending_at e s
ending (stop back s) = ending_at going s

abbrev pub left_in : Res Leave State Value → ℕ
left_in (ok v s) = s.left
left_in (stop w s) = s.left

abbrev pub ran : Program → List ℕ → ℕ → Res Leave State Value
ran p input bound = main_run p bound (first_state p input bound)

-- what a program does on an input in so many turns
abbrev pub source : Program → List ℕ → ℕ → Ending Pointer ℕ
source p input bound = ending (ran p input bound)

-- the turns that it took
abbrev pub turns_taken : Program → List ℕ → ℕ → ℕ
turns_taken p input bound = bound - left_in (ran p input bound)
