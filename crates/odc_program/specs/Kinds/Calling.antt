-- Calls of procedures, of helpers and of allocators; values of several parts; `or_return`.
use Rattle.std.specs.Prelude.{ℕ, ◌+◌, ◌-◌, ◌==◌, Bool, true, false, if◌then◌else◌, List, [], ◌∷◌, ◌++◌, drop, get_or, Option, Some, None, slice_get}
use Rattle.odc_text.specs.declared.place.Place.{Place}
use Rattle.odc_text.specs.declared.check.Check.TheVariants as check
use Rattle.odc_text.specs.Run.{call}
use Rattle.odc_program.specs.declared.ops.Taken.{Taken}
use Rattle.odc_program.specs.States.Run.{pure, halt, ◌>>=◌, ◌>>>◌}
use Rattle.odc_program.specs.States.Bytes.{Pointer, nil, Value, number_of, int_of, pointer_of, procedure_of, piece}
use Rattle.odc_program.specs.Trees.Tree.{in_order}
use Rattle.odc_program.specs.Trees.Program.{Shape, truth, names, variants, procedure, several}
use Rattle.odc_program.specs.States.State.{Do, back, spend, leave_behind, stray, known, fail, is_live, Base, is, Context, Env, Calls, size_of, shape_of, base_type}
use Rattle.odc_program.specs.Kinds.Places.{context_value, read_truth, store_spot, gives, procedure_at}
use Rattle.odc_program.specs.Kinds.Operators.{same_pointer, put_in}

-- ---- calls
abbrev pub handed : Env → ℕ → Context
handed env f = elim (slice_get env.tables.procedures f) [ None ↦ None | Some p ↦ if p.has_context then env.context else None ]

abbrev pub run_call : Calls → Env → ℕ → List ℕ → Do (List Value) → Do Base
run_call calls env need order arguments =
    arguments >>= (λ vs. gives (calls.call (procedure_at env need) (pure tt) (in_order [] order vs) (handed env (procedure_at env need)) env.low))

abbrev pub run_help : Calls → Env → ℕ → Do (List Value) → Do Base
run_help calls env h arguments = arguments >>= (λ vs. gives (calls.help h vs env))

-- an allocator call hands over the first context where there is none
abbrev pub context_or_first : Env → Context
context_or_first env = Some (context_value env)

abbrev pub log_call : Place → ℕ → Pointer → Pointer → List Value → Do (Unit {0})
log_call at f given old (d ∷ mode ∷ size ∷ align ∷ o ∷ old_size ∷ rest) =
    known at (int_of false 1 mode) >>= (λ m. known at (int_of true 8 size) >>= (λ s. known at (int_of true 8 align) >>= (λ a. known at (int_of true 8 old_size) >>= (λ z.
    leave_behind (call (record { procedure = f; given = given; mode = m; size = s; align = a; old = old; old_size = z }) ∷ [])))))
log_call at f given old _ = stray at

abbrev pub log_asked : Place → ℕ → List Value → Do (Unit {0})
log_asked at f vs =
    known at (pointer_of (get_or vs 0 [])) >>= (λ given. known at (pointer_of (get_or vs 4 [])) >>= (λ old. log_call at f given old vs))

abbrev pub ask : Calls → Env → Place → ℕ → List Value → Do Value
ask calls env at f vs = calls.call f (log_asked at f vs) vs (context_or_first env) env.low

abbrev pub type_of_procedure : Env → ℕ → ℕ
type_of_procedure env f = elim (slice_get env.tables.procedures f) [ None ↦ 0 | Some p ↦ p.ty ]

-- a procedure that has the type of the value, both without `distinct`
abbrev pub has_type : Env → ℕ → ℕ → Bool
has_type env f t = base_type env (type_of_procedure env f) == base_type env t

abbrev pub call_by : Calls → Env → Place → Bool → List Value → ℕ → Do Value
call_by calls env at true vs f = ask calls env at f vs
call_by calls env at false vs f = calls.call f (pure tt) vs (handed env f) env.low

abbrev pub call_found : Calls → Env → Place → Bool → ℕ → List Value → Option ℕ → Do Value
call_found calls env at marked t vs None = fail check.Nil at
call_found calls env at marked t vs (Some f) = if has_type env f t then call_by calls env at marked vs f else stray at

-- the callee, the arguments, and then what the callee is
abbrev pub run_call_value : Calls → Env → Place → Bool → ℕ → Do Value → Do (List Value) → Do Base
run_call_value calls env at marked t callee arguments =
    callee >>= (λ c. arguments >>= (λ vs. known at (procedure_of c) >>= (λ f. gives (call_found calls env at marked t vs f))))

-- ---- the parts of a value of several
abbrev pub parts_of : Env → List ℕ → Value → List Value
parts_of env [] v = []
parts_of env (t ∷ ts) v = piece 0 (size_of env t) v ∷ parts_of env ts (drop (size_of env t) v)

abbrev pub types_of : ℕ → Shape → List ℕ
types_of t (several ts) = ts
types_of t _ = t ∷ []

-- a part as it is taken: a variant becomes a union there
abbrev pub taken_part : Env → ℕ → Option ℕ → Value → Do Value
taken_part env into None v = pure v
taken_part env into (Some variant) v = put_in env into variant v

abbrev pub taken_parts : Env → List Taken → Value → Do (List Value)
taken_parts env [] v = pure []
taken_parts env (t ∷ ts) v =
    taken_part env t.into.index t.variant (piece 0 (size_of env t.from.index) v) >>= (λ w. taken_parts env ts (drop (size_of env t.from.index) v) >>= (λ ws. pure (w ∷ ws)))

abbrev pub joined : List Value → Value
joined [] = []
joined (v ∷ vs) = v ++ joined vs

abbrev pub last_or : {A : Type 0} → A → List A → A
last_or a [] = a
last_or a (b ∷ bs) = last_or b bs

abbrev pub before_last : {A : Type 0} → A → List A → List A
before_last a [] = []
before_last a (b ∷ bs) = a ∷ before_last b bs

abbrev pub all_but_last : List Value → List Value
all_but_last [] = []
all_but_last (v ∷ vs) = before_last v vs

-- ---- results
abbrev pub store_result : Place → Env → ℕ → Value → Do (Unit {0})
store_result at env r v = store_spot at env (env.storage r) v None >>= (λ c. pure tt)

abbrev pub last_result : Env → ℕ
last_result env = env.proc.parameters + env.proc.results - 1

abbrev pub last_result_type : Env → ℕ
last_result_type env = (get_or env.proc.locals (last_result env) (record { ty = 0; place = 0 })).ty

-- ---- `or_return`: it goes on where the last part is true or nil, and an enum is nil where it is 0
abbrev pub is_nil_pointer : Place → Value → Do Bool
is_nil_pointer at v = known at (pointer_of v) >>= (λ p. is_live at p >>> spend 1 >>> pure (same_pointer p nil))

abbrev pub is_zero : Place → Value → Do Bool
is_zero at v = known at (number_of v) >>= (λ n. spend 1 >>> pure (n == 0))

abbrev pub is_no_procedure : Place → Value → Do Bool
is_no_procedure at v = known at (procedure_of v) >>= (λ f. spend 1 >>> pure (elim f [ None ↦ true | Some g ↦ false ]))

abbrev pub goes_on : Place → Shape → Value → Do Bool
goes_on at truth v = read_truth at v
goes_on at (names s es) v = is_zero at v
goes_on at (variants tag ts) v = is_zero at (piece tag 8 v)
goes_on at (procedure odin ps rs) v = is_no_procedure at v
goes_on at _ v = is_nil_pointer at (piece 0 8 v)

abbrev pub or_leave : Env → Place → Option ℕ → List Value → Bool → Do Base
or_leave env at variant vs true = pure (is (joined (all_but_last vs)))
or_leave env at variant vs false = taken_part env (last_result_type env) variant (last_or [] vs) >>= store_result at env (last_result env) >>> halt back

abbrev pub or_parts : Env → Place → Option ℕ → List ℕ → List Value → Do Base
or_parts env at variant ts vs = goes_on at (shape_of env (last_or 0 ts)) (last_or [] vs) >>= or_leave env at variant vs

abbrev pub run_or_return : Env → Place → ℕ → Option ℕ → Do Value → Do Base
run_or_return env at t variant m = m >>= (λ v. or_parts env at variant (types_of t (shape_of env t)) (parts_of env (types_of t (shape_of env t)) v))
