-- Calls and `or_return` keep what the primitives keep.
use Rattle.std.proofs.Common.{ℕ, Bool, true, false, List, [], ◌∷◌}
use Rattle.std.specs.Prelude.{Option, Some, None, if◌then◌else◌, ◌==◌, get_or}
use Rattle.odc_text.specs.declared.place.Place.{Place}
use Rattle.odc_program.specs.declared.ops.Taken.{Taken}
use Rattle.odc_text.specs.declared.check.Check.{Check}
use Rattle.odc_text.specs.declared.check.Check.TheVariants as check
use Rattle.odc_program.specs.States.Run.{pure, ◌>>=◌}
use Rattle.odc_program.specs.States.Bytes.{Pointer, nil, Value, number_of, int_of, pointer_of, procedure_of, piece}
use Rattle.odc_program.specs.Trees.Tree.{in_order}
use Rattle.odc_program.specs.Trees.Program as q
use Rattle.odc_program.specs.States.State as s
use Rattle.odc_program.specs.Kinds.Places as p
use Rattle.odc_program.specs.Kinds.Operators as o
use Rattle.odc_program.specs.Kinds.Calling as c
use Rattle.odc_program_laws.proofs.Alike as a
use Rattle.odc_program_laws.proofs.PlacesAlike as pl
use Rattle.odc_program_laws.proofs.OperatorsAlike as ol

module _ (In : Place → Type 0) (S : s.State → s.State → Type 0) (Stops : s.Leave → s.State → a.Tail → Type 0) (r : a.Alike In S Stops) where
  abbrev pub Same : {A : Type 0} → s.Do A → s.Do A → Type 0
  Same m n = a.Like S Stops m n

  thens : {A B : Type 0} {m n : s.Do A} {f g : A → s.Do B} → Same m n → ((x : A) → Same (f x) (g x)) → Same (m >>= f) (n >>= g)
  thens h k = a.thens In S Stops r h k

  pures : {A : Type 0} (x : A) → Same (pure x) (pure x)
  pures x = a.pures In S Stops r x

  knowns : {A : Type 0} (at : a.Within In) (o : Option A) → Same (s.known at.place o) (s.known at.place o)
  knowns at o = a.knowns In S Stops r at o

  strays : {A : Type 0} (at : a.Within In) → Same {A = A} (s.stray at.place) (s.stray at.place)
  strays at = a.strays In S Stops r at

  fails : {A : Type 0} (c : Check) (at : a.Within In) → Same {A = A} (s.fail c at.place) (s.fail c at.place)
  fails c at = a.fails In S Stops r c at

  ifs : {A : Type 0} (b : Bool) {m n m' n' : s.Do A} → Same m m' → Same n n' → Same (if b then m else n) (if b then m' else n')
  ifs b h k = a.ifs In S Stops r b h k

  pub calls_by_name : (x y : s.Calls) → a.SameCalls S Stops x y → (env : s.Env) (need : ℕ) (order : List ℕ) {m n : s.Do (List Value)} → Same m n → Same (c.run_call x env need order m) (c.run_call y env need order n)
  calls_by_name x y k env need order h = thens h (λ vs. a.givens In S Stops r (k.by (p.procedure_at env need) (pure tt) (pure tt) (in_order [] order vs) (c.handed env (p.procedure_at env need)) env.low (pures tt)))

  pub helpers : (x y : s.Calls) → a.SameCalls S Stops x y → (env : s.Env) (i : ℕ) {m n : s.Do (List Value)} → Same m n → Same (c.run_help x env i m) (c.run_help y env i n)
  helpers x y k env i h = thens h (λ vs. a.givens In S Stops r (k.helps i vs env))

  log_entries : (at : a.Within In) (f : ℕ) (given old : Pointer) (vs : List Value) → Same (c.log_call at.place f given old vs) (c.log_call at.place f given old vs)
  log_entries at f given old (d ∷ mode ∷ size ∷ align ∷ z ∷ old_size ∷ rest) =
      thens (knowns at (int_of false 1 mode)) (λ m. thens (knowns at (int_of true 8 size)) (λ n. thens (knowns at (int_of true 8 align)) (λ x. thens (knowns at (int_of true 8 old_size)) (λ y. r.tells _))))
  log_entries at f given old [] = strays at
  log_entries at f given old (d ∷ []) = strays at
  log_entries at f given old (d ∷ mode ∷ []) = strays at
  log_entries at f given old (d ∷ mode ∷ size ∷ []) = strays at
  log_entries at f given old (d ∷ mode ∷ size ∷ align ∷ []) = strays at
  log_entries at f given old (d ∷ mode ∷ size ∷ align ∷ z ∷ []) = strays at

  pub asks : (x y : s.Calls) → a.SameCalls S Stops x y → (env : s.Env) (at : a.Within In) (f : ℕ) (vs : List Value) → Same (c.ask x env at.place f vs) (c.ask y env at.place f vs)
  asks x y k env at f vs = k.by f (c.log_asked at.place f vs) (c.log_asked at.place f vs) vs (c.context_or_first env) env.low
      (thens (knowns at (pointer_of (get_or vs 0 []))) (λ d. thens (knowns at (pointer_of (get_or vs 4 []))) (λ z. log_entries at f d z vs)))

  calls_by : (x y : s.Calls) → a.SameCalls S Stops x y → (env : s.Env) (at : a.Within In) (marked : Bool) (vs : List Value) (f : ℕ) → Same (c.call_by x env at.place marked vs f) (c.call_by y env at.place marked vs f)
  calls_by x y k env at true vs f = asks x y k env at f vs
  calls_by x y k env at false vs f = k.by f (pure tt) (pure tt) vs (c.handed env f) env.low (pures tt)

  calls_found : (x y : s.Calls) → a.SameCalls S Stops x y → (env : s.Env) (at : a.Within In) (marked : Bool) (t : ℕ) (vs : List Value) (f : Option ℕ) → Same (c.call_found x env at.place marked t vs f) (c.call_found y env at.place marked t vs f)
  calls_found x y k env at marked t vs None = fails check.Nil at
  calls_found x y k env at marked t vs (Some f) = ifs (c.has_type env f t) (calls_by x y k env at marked vs f) (strays at)

  pub calls_by_value : (x y : s.Calls) → a.SameCalls S Stops x y → (env : s.Env) (at : a.Within In) (marked : Bool) (t : ℕ) {m n : s.Do Value} {i j : s.Do (List Value)} → Same m n → Same i j →
      Same (c.run_call_value x env at.place marked t m i) (c.run_call_value y env at.place marked t n j)
  calls_by_value x y k env at marked t h g = thens h (λ v. thens g (λ vs. thens (knowns at (procedure_of v)) (λ f. a.givens In S Stops r (calls_found x y k env at marked t vs f))))

  -- ---- parts of a value of several
  takens : (env : s.Env) (t : ℕ) (variant : Option ℕ) (v : Value) → Same (c.taken_part env t variant v) (c.taken_part env t variant v)
  takens env t None v = pures v
  takens env t (Some variant) v = ol.puts In S Stops r env t variant v

  pub parts_taken : (env : s.Env) (ts : List Taken) (v : Value) → Same (c.taken_parts env ts v) (c.taken_parts env ts v)
  parts_taken env [] v = pures []
  parts_taken env (t ∷ ts) v = thens (takens env t.into.index t.variant _) (λ w. thens (parts_taken env ts _) (λ ws. pures (w ∷ ws)))

  -- ---- results and `or_return`
  pub results_stored : (at : a.Within In) (env : s.Env) (i : ℕ) (v : Value) → Same (c.store_result at.place env i v) (c.store_result at.place env i v)
  results_stored at env i v = thens (pl.spot_stores In S Stops r at env (env.storage i) v None) (λ d. pures tt)

  nil_tests : (at : a.Within In) (v : Value) → Same (c.is_nil_pointer at.place v) (c.is_nil_pointer at.place v)
  nil_tests at v = thens (knowns at (pointer_of v)) (λ x. thens (thens (a.alive In S Stops r at x) (λ _. r.spends 1)) (λ _. pures (o.same_pointer x nil)))

  zero_tests : (at : a.Within In) (v : Value) → Same (c.is_zero at.place v) (c.is_zero at.place v)
  zero_tests at v = thens (knowns at (number_of v)) (λ n. thens (r.spends 1) (λ _. pures (n == 0)))

  procedure_tests : (at : a.Within In) (v : Value) → Same (c.is_no_procedure at.place v) (c.is_no_procedure at.place v)
  procedure_tests at v = thens (knowns at (procedure_of v)) (λ f. thens (r.spends 1) (λ _. pures (elim f [ None ↦ true | Some g ↦ false ])))

  goings : (at : a.Within In) (x : q.Shape) (v : Value) → Same (c.goes_on at.place x v) (c.goes_on at.place x v)
  goings at q.truth v = pl.truths In S Stops r at v
  goings at (q.names width es) v = zero_tests at v
  goings at (q.variants tag ts) v = zero_tests at (piece tag 8 v)
  goings at (q.procedure odin ps rs) v = procedure_tests at v
  goings at _ v = nil_tests at (piece 0 8 v)

  leavings : (env : s.Env) (at : a.Within In) (variant : Option ℕ) (vs : List Value) (b : Bool) → Same (c.or_leave env at.place variant vs b) (c.or_leave env at.place variant vs b)
  leavings env at variant vs true = pures _
  leavings env at variant vs false = thens (thens (takens env (c.last_result_type env) variant (c.last_or [] vs)) (λ v. results_stored at env (c.last_result env) v)) (λ _. a.halted In S Stops r s.back tt)

  pub or_returns : (env : s.Env) (at : a.Within In) (t : ℕ) (variant : Option ℕ) {m n : s.Do Value} → Same m n → Same (c.run_or_return env at.place t variant m) (c.run_or_return env at.place t variant n)
  or_returns env at t variant h = thens h (λ v. thens (goings at (s.shape_of env (c.last_or 0 (c.types_of t (s.shape_of env t)))) (c.last_or [] (c.parts_of env (c.types_of t (s.shape_of env t)) v)))
      (λ b. leavings env at variant (c.parts_of env (c.types_of t (s.shape_of env t)) v) b))
