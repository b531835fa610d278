-- How statements are left, and the kinds of statements: one combinator a kind, over what its parts do.
use Rattle.std.specs.Prelude.{ℕ, zero, suc, ◌+◌, ◌==◌, ◌&&◌, Bool, true, false, int_lt, int_le, if◌then◌else◌, ℤ, pos, ◌+ℤ◌, ◌-ℤ◌, List, [], ◌∷◌, drop, Option, Some, None}
use Rattle.odc_text.specs.declared.place.Place.{Place}
use Rattle.odc_text.specs.Run.{going}
use Rattle.odc_program.specs.declared.ops.BinaryOp.{BinaryOp}
use Rattle.odc_program.specs.declared.ops.BinaryOp.TheVariants as op
use Rattle.odc_program.specs.States.Run.{Res, ok, stop, pure, halt, ◌>>=◌, ◌>>>◌}
use Rattle.odc_program.specs.States.Bytes.{Value, zeros, int_bytes}
use Rattle.odc_program.specs.States.State.{State, Leave, ends, back, Do, spend, tick, turn, Spot, Base, lies, is, Context, Env, in_context_of, begin_local, begin_maybe, alias, local_of, size_of}
use Rattle.odc_program.specs.Kinds.Places.{read_spot, value_in, store_spot, gives, whole_of, natural, element, elements_of}
use Rattle.odc_program.specs.Kinds.Operators.{operate, tag_of, held}
use Rattle.odc_program.specs.Kinds.Calling.{store_result}

pub data Flow : Type 0 where
  falls : Flow
  breaks : (label : ℕ) → Flow
  continues : (label : ℕ) → Flow
  -- `fallthrough`
  passes : Flow
  returns : Flow

-- how a statement was left, and the context behind it
pub record Left : Type 0 where
  pub flow : Flow
  pub context : Context

-- a statement, or several, from a context
abbrev pub Part : Type 0
Part = Context → Do Left

abbrev pub left_by : Flow → Part
left_by f c = pure (record { flow = f; context = c })

-- ---- scopes
-- the context is again what it was
abbrev pub scoped : Part → Part
scoped m c = m c >>= (λ l. left_by l.flow c)

-- `or_return` in a statement leaves it as `return` does
abbrev pub caught_by : Context → Res Leave State Left → Res Leave State Left
caught_by c (ok l s) = ok l s
caught_by c (stop (ends e) s) = stop (ends e) s
caught_by c (stop back s) = ok (record { flow = returns; context = c }) s

abbrev pub caught : Part → Part
caught m c s = caught_by c (m c s)

-- what follows, where a statement falls through to it
abbrev pub after_falls : Part → Flow → Part
after_falls m falls c = m c
after_falls m f c = left_by f c

-- A deferred statement runs once the rest of its scope is left, however that is; the context that it leaves is that of
-- those deferred before it.
abbrev pub finally : Part → Part → Part
finally rest deferred c = rest c >>= (λ l. caught deferred l.context >>= (λ k. left_by l.flow k.context))

-- a statement and the rest of its scope, given what is deferred where it is a `defer`
abbrev pub stepped : Option Part → Part → Part → Part
stepped (Some deferred) m rest c = tick (finally rest deferred c)
stepped None m rest c = caught m c >>= (λ l. after_falls rest l.flow l.context)

-- ---- declarations and assignments
-- variables without values begin as zeros
abbrev pub begin_each : Env → List (Option ℕ) → List Value → Do (Unit {0})
begin_each env (x ∷ xs) (v ∷ vs) = begin_maybe env x v >>> begin_each env xs vs
begin_each env (Some x ∷ xs) [] = begin_local env x (zeros (size_of env (local_of env x).ty)) >>> begin_each env xs []
begin_each env (None ∷ xs) [] = begin_each env xs []
begin_each env [] vs = pure tt

abbrev pub run_declare : Env → List (Option ℕ) → Do (List Value) → Part
run_declare env xs values c = values >>= (λ vs. begin_each env xs vs >>> left_by falls c)

-- the places are found first, and then the values stored
abbrev pub store_each : Place → Env → List (Option Spot) → List Value → Context → Do Context
store_each at env (Some s ∷ ss) (v ∷ vs) c = store_spot at env s v c >>= store_each at env ss vs
store_each at env (None ∷ ss) (v ∷ vs) c = store_each at env ss vs c
store_each at env _ _ c = pure c

abbrev pub run_assign : Place → Env → Do (List Value) → Do (List (Option Spot)) → Part
run_assign at env values places c = values >>= (λ vs. places >>= (λ ss. store_each at env ss vs c >>= left_by falls))

-- `a op= b`: the place once, what stands there, which is read at the place of a, b, and the result
abbrev pub run_change : (at from : Place) → Env → BinaryOp → ℕ → ℕ → Do Spot → Do Value → Part
run_change at from env o t u target value c =
    target >>= (λ p. read_spot env from p (size_of env t) >>= (λ v. value >>= (λ w. operate env at o t u v w >>= (λ x. store_spot at env p x c >>= left_by falls))))

abbrev pub run_eval : Do Value → Part
run_eval m c = m >>= (λ v. left_by falls c)

-- ---- blocks and conditions
-- a `break` of this label ends here
abbrev pub stopped_at : ℕ → Flow → Flow
stopped_at l (breaks k) = if k == l then falls else breaks k
stopped_at l f = f

abbrev pub labelled : ℕ → Part → Part
labelled l m c = m c >>= (λ r. left_by (stopped_at l r.flow) r.context)

abbrev pub run_block : ℕ → Part → Part
run_block l body = labelled l (scoped body)

-- a statement in a header: what follows sees its context
abbrev pub headed : Part → Part → Part
headed init m = scoped (λ c. init c >>= (λ l. after_falls m l.flow l.context))

abbrev pub choose : (Context → Do Bool) → Part → Part → Part
choose test body other c = test c >>= (λ b. if b then body c else other c)

abbrev pub run_if : Part → (Context → Do Bool) → Part → Part → Part
run_if init test body other = headed init (choose test (scoped body) (scoped other))

-- ---- loops
-- how the turn of a loop with this label was left: it goes on, or the loop is left so
abbrev pub goes_on : ℕ → Flow → Option Flow
goes_on l falls = None
goes_on l (continues k) = if k == l then None else Some (continues k)
goes_on l (breaks k) = if k == l then Some falls else Some (breaks k)
goes_on l passes = Some passes
goes_on l returns = Some returns

abbrev pub next_turn : Option Flow → Part → Part
next_turn None m c = m c
next_turn (Some f) m c = left_by f c

abbrev pub run_turn : ℕ → Part → Part → Part → Part
run_turn l body post next c =
    turn (body c >>= (λ r. next_turn (goes_on l r.flow) (λ d. post d >>= (λ q. after_falls next q.flow q.context)) r.context))

abbrev pub turns : ℕ → ℕ → (Context → Do Bool) → Part → Part → Part
turns zero l test body post c = test c >>= (λ b. if b then halt (ends going) else left_by falls c)
turns (suc n) l test body post c = test c >>= (λ b. if b then run_turn l body post (turns n l test body post) c else left_by falls c)

abbrev pub run_loop : ℕ → ℕ → Part → (Context → Do Bool) → Part → Part → Part
run_loop n l init test post body = headed init (turns n l test (scoped body) post)

-- at most so many turns, none of which counts as one
abbrev pub run_counted : ℕ → ℕ → (Context → Do Bool) → Part → Part
run_counted zero l test body c = left_by falls c
run_counted (suc n) l test body c = test c >>= (λ b. if b then (body c >>= (λ r. next_turn (goes_on l r.flow) (run_counted n l test body) c)) else left_by falls c)

-- the turns of a loop over so many things; `given` names the next one before its turn, `body` stores it in it
abbrev pub each_turn : ℕ → ℕ → ℕ → (ℕ → Do Base) → (ℕ → Base → Part) → Part
each_turn l zero k given body c = left_by falls c
each_turn l (suc n) k given body c =
    given k >>= (λ b. turn (body k b c >>= (λ r. next_turn (goes_on l r.flow) (each_turn l n (k + 1) given body) c)))

abbrev pub range_count : ℤ → ℤ → Bool → ℕ
range_count low high true = natural ((high -ℤ low) +ℤ pos 1)
range_count low high false = natural (high -ℤ low)

-- a body, given what its names stand for
abbrev pub begun : Env → Option ℕ → Option ℕ → (Env → Part) → Bool → ℕ → Base → Part
begun env x y body true k (lies s) c = begin_maybe env y (int_bytes 8 (pos k)) >>> scoped (body (alias env x s)) c
begun env x y body by_place k (is v) c = begin_maybe env x v >>> begin_maybe env y (int_bytes 8 (pos k)) >>> scoped (body env) c
begun env x y body by_place k b c = left_by falls c

-- both ends are read once
abbrev pub run_span : Env → Place → ℕ → ℕ → Option ℕ → Option ℕ → Bool → Do Value → Do Value → (Env → Part) → Part
run_span env at t l x y closed low high body c =
    low >>= (λ v. high >>= (λ w. whole_of env at t v >>= (λ a. whole_of env at t w >>= (λ b.
    each_turn l (range_count a b closed) 0 (λ k. pure (is (int_bytes (size_of env t) (a +ℤ pos k)))) (begun env x y body false) c))))

-- by value each element is read just before its turn, as the type of the elements
abbrev pub element_read : Env → Place → Bool → ℕ → Base → Do Base
element_read env at true e b = pure b
element_read env at false e b = gives (value_in env at e b)

-- the header is read at the container's place
abbrev pub run_through : Env → (at from : Place) → ℕ → ℕ → ℕ → Option ℕ → Option ℕ → Bool → Do Base → (Env → Part) → Part
run_through env at from t e l x y by_place container body c =
    container >>= (λ b. elements_of env from t b >>= (λ es.
    each_turn l (natural es.count) 0 (λ k. element at (pos k) es >>= element_read env at by_place e) (begun env x y body by_place) c))

-- ---- switches: which case is taken, and the bodies from there on
abbrev pub Test : Type 0
Test = Option Value → Do Bool

-- a case item that is tried
abbrev pub tried : Do Bool → Do Bool → Do Bool
tried m n = spend 1 >>> m >>= (λ b. if b then pure true else n)

-- the first case whose test holds, else the one that is the default
abbrev pub picked : ℕ → Option ℕ → Option Value → List (Option Test) → Do (Option ℕ)
picked k default_ v [] = pure default_
picked k default_ v (None ∷ ts) = picked (k + 1) (Some k) v ts
picked k default_ v (Some t ∷ ts) = t v >>= (λ b. if b then pure (Some k) else picked (k + 1) default_ v ts)

-- bodies from one on: `fallthrough` goes to the next
abbrev pub behind_case : Part → Flow → Part
behind_case next passes c = next c
behind_case next f c = left_by f c

abbrev pub bodies_from : List Part → Part
bodies_from [] c = left_by falls c
bodies_from (m ∷ ms) c = m c >>= (λ r. behind_case (bodies_from ms) r.flow c)

abbrev pub taken_case : List Part → Option ℕ → Part
taken_case bodies None c = left_by falls c
taken_case bodies (Some k) c = bodies_from (drop k bodies) c

abbrev pub run_cases : ℕ → (Context → Do (Option Value)) → List (Option Test) → List Part → Part
run_cases l subject tests bodies = labelled l (λ c. subject c >>= (λ v. picked 0 None v tests >>= (λ k. taken_case bodies k c)))

abbrev pub run_switch : ℕ → Part → (Context → Do (Option Value)) → (Context → List (Option Test)) → List Part → Part
run_switch l init subject tests bodies = headed init (λ c. run_cases l subject (tests c) bodies c)

-- an item holds where it equals the subject, or, where there is none, is true
abbrev pub item_holds : Env → Place → ℕ → Do Value → (Value → Do Bool) → Option Value → Do Bool
item_holds env at t m truth None = m >>= truth
item_holds env at t m truth (Some v) = m >>= (λ w. operate env at op.Equal t t v w >>= truth)

abbrev pub in_span : Env → Place → ℕ → Bool → Value → Value → Value → Do Bool
in_span env at t closed low high v =
    whole_of env at t low >>= (λ a. whole_of env at t high >>= (λ b. whole_of env at t v >>= (λ z. spend 2 >>> pure (int_le a z && (if closed then int_le z b else int_lt z b)))))

abbrev pub span_holds : Env → Place → ℕ → Bool → Do Value → Do Value → Option Value → Do Bool
span_holds env at t closed m n None = pure false
span_holds env at t closed m n (Some v) = m >>= (λ a. n >>= (λ b. in_span env at t closed a b v))

-- a type switch: the variants of a case, and its body from the union's value
abbrev pub one_of : ℕ → List ℕ → Do Bool
one_of k [] = pure false
one_of k (t ∷ ts) = tried (spend 1 >>> pure (k == t)) (one_of k ts)

abbrev pub tag_test : Env → Place → ℕ → List ℕ → Test
tag_test env at t variants None = pure false
tag_test env at t variants (Some v) = tag_of env at t v >>= (λ k. one_of k variants)

-- the name of a case stands for what the union holds, or for the union
abbrev pub named_body : Env → Place → Option ℕ → Part → Value → Part
named_body env at None body v c = scoped body c
named_body env at (Some x) body v c = held env at (local_of env x).ty v >>= (λ w. begin_local env x w >>> scoped body c)

abbrev pub each_from : List (Value → Part) → Value → List Part
each_from [] v = []
each_from (b ∷ bs) v = b v ∷ each_from bs v

abbrev pub run_type_switch : ℕ → (Context → Do Value) → List (Option Test) → List (Value → Part) → Part
run_type_switch l subject tests bodies = labelled l (λ c. subject c >>= (λ v. picked 0 None (Some v) tests >>= (λ k. taken_case (each_from bodies v) k c)))

-- ---- leaving
abbrev pub results_from : Place → Env → ℕ → List Value → Do (Unit {0})
results_from at env r [] = pure tt
results_from at env r (v ∷ vs) = store_result at env r v >>> results_from at env (r + 1) vs

-- the results are stored first
abbrev pub run_return : Place → Env → Do (List Value) → Part
run_return at env values c = values >>= (λ vs. results_from at env env.proc.parameters vs >>> left_by returns c)

abbrev pub ticked : Part → Part
ticked m c = tick (m c)

-- what an expression gives from a context
abbrev pub seen : {A : Type 0} → Env → (Env → Do A) → Context → Do A
seen env m c = m (in_context_of env c)
