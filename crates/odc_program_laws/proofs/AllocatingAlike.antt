-- Built-in procedures that call allocators keep what the primitives keep.
use Rattle.std.proofs.Common.{ℕ, zero, suc, Bool, true, false, List, [], ◌∷◌}
use Rattle.std.specs.Prelude.{ℤ, pos, negsuc, Option, Some, None, if◌then◌else◌, ◌+◌, ◌*◌, ◌-◌, ◌==◌, ◌++◌, nat_le, nat_lt, length, min, max, drop}
use Rattle.odc_text.specs.declared.place.Place.{Place}
use Rattle.odc_text.specs.declared.check.Check.{Check}
use Rattle.odc_text.specs.declared.check.Check.TheVariants as check
use Rattle.odc_program.specs.States.Run.{pure, ◌>>=◌}
use Rattle.odc_program.specs.States.Bytes.{Pointer, nil, Value, number_of, zeros, int_bytes, int_of, pointer_of, procedure_of, piece}
use Rattle.odc_program.specs.Kinds.Layouts as l
use Rattle.odc_program.specs.States.State as s
use Rattle.odc_program.specs.Kinds.Places as p
use Rattle.odc_program.specs.Kinds.Operators as o
use Rattle.odc_program.specs.Kinds.Calling as c
use Rattle.odc_program.specs.Kinds.Builtins as i
use Rattle.odc_program.specs.Kinds.Allocating as g
use Rattle.odc_program_laws.proofs.Alike as a
use Rattle.odc_program_laws.proofs.PlacesAlike as pl
use Rattle.odc_program_laws.proofs.CallsAlike as cl
use Rattle.odc_program_laws.proofs.BuiltinsAlike as bl

module _ (In : Place → Type 0) (S : s.State → s.State → Type 0) (Stops : s.Leave → s.State → a.Tail → Type 0) (r : a.Alike In S Stops) where
  abbrev pub Same : {A : Type 0} → s.Do A → s.Do A → Type 0
  Same m n = a.Like S Stops m n

  thens : {A B : Type 0} {m n : s.Do A} {f g : A → s.Do B} → Same m n → ((x : A) → Same (f x) (g x)) → Same (m >>= f) (n >>= g)
  thens h k = a.thens In S Stops r h k

  pures : {A : Type 0} (x : A) → Same (pure x) (pure x)
  pures x = a.pures In S Stops r x

  knowns : {A : Type 0} (at : a.Within In) (o : Option A) → Same (s.known at.place o) (s.known at.place o)
  knowns at o = a.knowns In S Stops r at o

  strays : {A : Type 0} (at : a.Within In) → Same {A = A} (s.stray at.place) (s.stray at.place)
  strays at = a.strays In S Stops r at

  fails : {A : Type 0} (c : Check) (at : a.Within In) → Same {A = A} (s.fail c at.place) (s.fail c at.place)
  fails c at = a.fails In S Stops r c at

  ifs : {A : Type 0} (b : Bool) {m n m' n' : s.Do A} → Same m m' → Same n n' → Same (if b then m else n) (if b then m' else n')
  ifs b h k = a.ifs In S Stops r b h k

  truths : (at : a.Within In) (v : Value) → Same (p.read_truth at.place v) (p.read_truth at.place v)
  truths at v = pl.truths In S Stops r at v

  reads : (at : a.Within In) (x : Pointer) (n : ℕ) → Same (s.read_at at.place x n) (s.read_at at.place x n)
  reads at x n = a.reads In S Stops r at x n

  writes : (at : a.Within In) (x : Pointer) (v : Value) → Same (s.write_to at.place x v) (s.write_to at.place x v)
  writes at x v = a.writes In S Stops r at x v

  behinds : (at : a.Within In) (x : Pointer) (d : ℕ) → Same (s.behind at.place x d) (s.behind at.place x d)
  behinds at x d = a.behinds In S Stops r at x d

  -- ---- one call
  answers_by : (at : a.Within In) (n : ℕ) (v : Value) (e : ℕ) → Same (g.answered_by at.place n v e) (g.answered_by at.place n v e)
  answers_by at zero v e = pures _
  answers_by at (suc n) v zero = thens (knowns at (int_of true 8 (piece 8 8 v))) (λ k. pures _)
  answers_by at (suc n) v (suc e) = pures _

  answers_of : (at : a.Within In) (n : ℕ) (v : Option Value) → Same (g.answer_of at.place n v) (g.answer_of at.place n v)
  answers_of at n None = pures _
  answers_of at n (Some v) = thens (knowns at (number_of (piece 16 1 v))) (λ e. answers_by at n v e)

  asks_found : (x y : s.Calls) → a.SameCalls S Stops x y → (env : s.Env) (at : a.Within In) (vs : List Value) (f : Option ℕ) → Same (g.ask_found x env at.place vs f) (g.ask_found y env at.place vs f)
  asks_found x y k env at vs None = pures _
  asks_found x y k env at vs (Some f) = ifs (c.has_type env f env.tables.allocator) (thens (cl.asks In S Stops r x y k env at f vs) (λ v. pures _)) (strays at)

  asks_raw : (x y : s.Calls) → a.SameCalls S Stops x y → (env : s.Env) (at : a.Within In) (al : Value) (mode n z : ℕ) (old : Value) (m : ℕ) → Same (g.ask_raw x env at.place al mode n z old m) (g.ask_raw y env at.place al mode n z old m)
  asks_raw x y k env at al mode n z old m = thens (knowns at (procedure_of (piece 0 8 al))) (λ f. asks_found x y k env at (g.call_parts env at.place al mode n z old m) f)

  asks : (x y : s.Calls) → a.SameCalls S Stops x y → (env : s.Env) (at : a.Within In) (al : Value) (mode n z : ℕ) (old : Value) (m : ℕ) → Same (g.ask_allocator x env at.place al mode n z old m) (g.ask_allocator y env at.place al mode n z old m)
  asks x y k env at al mode n z old m = thens (asks_raw x y k env at al mode n z old m) (λ v. answers_of at n v)

  allocates : (x y : s.Calls) → a.SameCalls S Stops x y → (env : s.Env) (at : a.Within In) (al : Value) (n z : ℕ) → Same (g.allocate x env at.place al n z) (g.allocate y env at.place al n z)
  allocates x y k env at al zero z = pures _
  allocates x y k env at al (suc n) z = asks x y k env at al 0 (suc n) z (zeros 8) 0

  -- ---- lengths and addresses
  counts : (at : a.Within In) (x : l.Layout) (z : ℤ) → Same (g.checked_count at.place x z) (g.checked_count at.place x z)
  counts at x (pos n) = ifs (g.fits_limit x n) (pures n) (fails check.Length at)
  counts at x (negsuc n) = fails check.Length at

  room_checks : (at : a.Within In) (x : l.Layout) (n : ℕ) (z : ℤ) → Same (g.checked_room at.place x n z) (g.checked_room at.place x n z)
  room_checks at x n z = thens (counts at x z) (λ k. ifs (nat_le n k) (pures k) (fails check.Length at))

  column_places : (at : a.Within In) (x : Pointer) (cs : List l.Column) → Same (g.column_addresses at.place x cs) (g.column_addresses at.place x cs)
  column_places at x [] = pures []
  column_places at x (c ∷ cs) = thens (behinds at x c.start) (λ y. thens (column_places at x cs) (λ v. pures _))

  places_in : (at : a.Within In) (x : l.Layout) (n : ℕ) (v : Value) → Same (g.addresses_in at.place x n v) (g.addresses_in at.place x n v)
  places_in at x n v = thens (knowns at (pointer_of v)) (λ y. column_places at y (l.columns_of n x))

  ints : (at : a.Within In) (v : Value) → Same (g.int_arg at.place v) (g.int_arg at.place v)
  ints at v = knowns at (int_of true 8 v)

  -- ---- new and make
  pub news : (x y : s.Calls) → a.SameCalls S Stops x y → (env : s.Env) (at : a.Within In) (t : ℕ) (vs : List Value) → Same (g.run_new x env at.place t vs) (g.run_new y env at.place t vs)
  news x y k env at t vs = thens (allocates x y k env at (g.allocator_in env vs) (s.size_of env (i.target_of env (g.value_type_of env t))) (s.align_of env (i.target_of env (g.value_type_of env t)))) (λ z. pures _)

  mades : (env : s.Env) (at : a.Within In) (t n m : ℕ) (al : Value) (z : g.Answer) → Same (g.made env at.place t n m al z) (g.made env at.place t n m al z)
  mades env at t n m al z = ifs (z.error == 0) (thens (places_in at (l.layout_of env (g.value_type_of env t)) m z.memory) (λ v. pures _)) (pures _)

  makes_with : (x y : s.Calls) → a.SameCalls S Stops x y → (env : s.Env) (at : a.Within In) (t : ℕ) (al : Value) (n m : ℕ) → Same (g.make_with x env at.place t al n m) (g.make_with y env at.place t al n m)
  makes_with x y k env at t al n m = thens (allocates x y k env at al (l.storage_size m (l.layout_of env (g.value_type_of env t))) (l.layout_of env (g.value_type_of env t)).align) (λ z. mades env at t n m al z)

  makes_slice : (x y : s.Calls) → a.SameCalls S Stops x y → (env : s.Env) (at : a.Within In) (t : ℕ) (vs : List Value) → Same (g.make_slice x env at.place t vs) (g.make_slice y env at.place t vs)
  makes_slice x y k env at t vs = thens (ints at (i.arg vs 0)) (λ z. thens (counts at (l.layout_of env (g.value_type_of env t)) z) (λ n. makes_with x y k env at t (g.allocator_in env (drop 1 vs)) n n))

  makes_dynamic : (x y : s.Calls) → a.SameCalls S Stops x y → (env : s.Env) (at : a.Within In) (t : ℕ) (vs : List Value) → Same (g.make_dynamic x env at.place t vs) (g.make_dynamic y env at.place t vs)
  makes_dynamic x y k env at t [] = makes_with x y k env at t (g.context_allocator env) 0 0
  makes_dynamic x y k env at t (v ∷ []) = thens (ints at v) (λ z. thens (counts at (l.layout_of env (g.value_type_of env t)) z) (λ n. makes_with x y k env at t (g.context_allocator env) n n))
  makes_dynamic x y k env at t (v ∷ w ∷ rest) =
      thens (ints at v) (λ z. thens (ints at w) (λ z'. thens (counts at (l.layout_of env (g.value_type_of env t)) z) (λ n. thens (room_checks at (l.layout_of env (g.value_type_of env t)) n z') (λ m.
      makes_with x y k env at t (g.allocator_in env rest) n m))))

  makes_by : (x y : s.Calls) → a.SameCalls S Stops x y → (env : s.Env) (at : a.Within In) (t : ℕ) (b : Bool) (vs : List Value) → Same (g.make_by x env at.place t b vs) (g.make_by y env at.place t b vs)
  makes_by x y k env at t true vs = makes_dynamic x y k env at t vs
  makes_by x y k env at t false vs = makes_slice x y k env at t vs

  pub makes : (x y : s.Calls) → a.SameCalls S Stops x y → (env : s.Env) (at : a.Within In) (t : ℕ) (vs : List Value) → Same (g.run_make x env at.place t vs) (g.run_make y env at.place t vs)
  makes x y k env at t vs = makes_by x y k env at t (g.is_dynamic (s.shape_of env (g.value_type_of env t))) vs

  -- ---- growth
  owns_from : (at : a.Within In) (x : l.Layout) (y : Pointer) (v : Value) (n m : Option ℕ) → Same (g.own_from at.place x y v n m) (g.own_from at.place x y v n m)
  owns_from at x y v (Some n) (Some m) = ifs (g.sound_lengths x n m) (pures _) (fails check.Length at)
  owns_from at x y v None m = strays at
  owns_from at x y v (Some n) None = strays at

  owns_in : (at : a.Within In) (x : l.Layout) (y : Pointer) (v : Value) → Same (g.own_in at.place x y v) (g.own_in at.place x y v)
  owns_in at x y v = owns_from at x y v (number_of (piece (l.address_bytes x) 8 v)) (number_of (piece (l.address_bytes x + 8) 8 v))

  owns : (at : a.Within In) (x : l.Layout) (w : Value) → Same (g.own_of at.place x w) (g.own_of at.place x w)
  owns at x w = thens (bl.pointeds In S Stops r at w) (λ y. thens (reads at y (l.address_bytes x + 32)) (λ v. owns_in at x y v))

  allocators : (env : s.Env) (at : a.Within In) (own : g.Own) → Same (g.allocator_of env at.place own) (g.allocator_of env at.place own)
  allocators env at own = thens (knowns at (procedure_of (piece 0 8 own.allocator))) (λ f. pures _)

  growns : (at : a.Within In) (x : l.Layout) (n : ℕ) (z : g.Answer) → Same (g.grown_to at.place x n z) (g.grown_to at.place x n z)
  growns at x n z = ifs (z.error == 0) (thens (places_in at x n z.memory) (λ v. pures _)) (pures _)

  resizes_plain : (x y : s.Calls) → a.SameCalls S Stops x y → (env : s.Env) (at : a.Within In) (z : l.Layout) (own : g.Own) (al : Value) (n m : ℕ) → Same (g.resize_plain x env at.place z own al n m) (g.resize_plain y env at.place z own al n m)
  resizes_plain x y k env at z own al zero m = pures _
  resizes_plain x y k env at z own al (suc n) zero = asks x y k env at al 0 (suc n) z.align (zeros 8) 0
  resizes_plain x y k env at z own al (suc n) (suc m) = asks x y k env at al 3 (suc n) z.align (piece 0 8 own.starts) (suc m)

  columns_copied : (at : a.Within In) (n : ℕ) (cs : List l.Cell) (v w : Value) → Same (g.copy_columns at.place n cs v w) (g.copy_columns at.place n cs v w)
  columns_copied at n [] v w = pures tt
  columns_copied at n (c ∷ cs) v w =
      thens (thens (r.spends 1) (λ _. knowns at (pointer_of (piece 0 8 v)))) (λ y. thens (knowns at (pointer_of (piece 0 8 w))) (λ z. thens (bl.byte_moves In S Stops r at y z (n * c.size)) (λ _. columns_copied at n cs (drop 8 v) (drop 8 w))))

  frees_old : (x y : s.Calls) → a.SameCalls S Stops x y → (env : s.Env) (at : a.Within In) (own : g.Own) (al : Value) (n : ℕ) → Same (g.free_old x env at.place own al n) (g.free_old y env at.place own al n)
  frees_old x y k env at own al zero = pures tt
  frees_old x y k env at own al (suc n) = thens (asks_raw x y k env at al 1 0 0 (piece 0 8 own.starts) (suc n)) (λ v. pures tt)

  moves_over : (x y : s.Calls) → a.SameCalls S Stops x y → (env : s.Env) (at : a.Within In) (z : l.Layout) (own : g.Own) (al : Value) (w : g.Grown) → Same (g.moved_over x env at.place z own al w) (g.moved_over y env at.place z own al w)
  moves_over x y k env at z own al w = ifs (w.error == 0) (thens (thens (columns_copied at own.room z.cells w.starts own.starts) (λ _. frees_old x y k env at own al (l.storage_size own.room z))) (λ _. pures w)) (pures w)

  grows_by : (x y : s.Calls) → a.SameCalls S Stops x y → (env : s.Env) (at : a.Within In) (z : l.Layout) (own : g.Own) (n : ℕ) (al : Value) → Same (g.grow_by x env at.place z own n al) (g.grow_by y env at.place z own n al)
  grows_by x y k env at z own n al = ifs z.columns
      (thens (thens (allocates x y k env at al (l.storage_size n z) z.align) (λ w. growns at z n w)) (λ w. moves_over x y k env at z own al w))
      (thens (resizes_plain x y k env at z own al (l.storage_size n z) (l.storage_size own.room z)) (λ w. growns at z n w))

  owns_written : (at : a.Within In) (own : g.Own) (n m : ℕ) (al : Value) (w : g.Grown) → Same (g.write_own at.place own n m al w) (g.write_own at.place own n m al w)
  owns_written at own n m al w = ifs (w.error == 0) (thens (writes at own.place (w.starts ++ g.own_words n m al)) (λ _. pures w)) (pures w)

  grows : (x y : s.Calls) → a.SameCalls S Stops x y → (env : s.Env) (at : a.Within In) (z : l.Layout) (own : g.Own) (n m : ℕ) → Same (g.grow x env at.place z own n m) (g.grow y env at.place z own n m)
  grows x y k env at z own n m = thens (counts at z (pos m)) (λ _. thens (allocators env at own) (λ al. thens (grows_by x y k env at z own m al) (λ w. owns_written at own n m al w)))

  -- ---- append
  cells_put : (at : a.Within In) (c : l.Cell) (x : Pointer) (n : ℕ) (vs : List Value) → Same (g.put_cell at.place c x n vs) (g.put_cell at.place c x n vs)
  cells_put at c x n [] = pures tt
  cells_put at c x n (v ∷ vs) = thens (behinds at x (n * c.size)) (λ y. thens (writes at y (piece c.offset c.size v)) (λ _. cells_put at c x (n + 1) vs))

  elements_put : (at : a.Within In) (x : l.Layout) (n : ℕ) (cs : List l.Cell) (v : Value) (vs : List Value) → Same (g.put_cells at.place x n cs v vs) (g.put_cells at.place x n cs v vs)
  elements_put at x n [] v vs = pures tt
  elements_put at x n (c ∷ cs) v vs = thens (thens (bl.touches In S Stops r x) (λ _. knowns at (pointer_of (piece 0 8 v)))) (λ y. thens (cells_put at c y n vs) (λ _. elements_put at x n cs (drop 8 v) vs))

  appendeds : (env : s.Env) (at : a.Within In) (t : ℕ) (x : l.Layout) (own : g.Own) (vs : List Value) (w : g.Grown) → Same (g.appended env at.place t x own vs w) (g.appended env at.place t x own vs w)
  appendeds env at t x own vs w = ifs (w.error == 0) (thens (elements_put at x own.count x.cells w.starts vs) (λ _. pures (g.with_error (s.shape_of env t) (int_bytes 8 (pos (length vs))) 0))) (pures _)

  lengthens : (at : a.Within In) (x : l.Layout) (own : g.Own) (n : ℕ) → Same (g.lengthened at.place x own n) (g.lengthened at.place x own n)
  lengthens at x own n = thens (bl.lengths_written In S Stops r at x own.place n) (λ _. pures (record { starts = own.starts; error = 0 }))

  rooms_made : (x y : s.Calls) → a.SameCalls S Stops x y → (env : s.Env) (at : a.Within In) (z : l.Layout) (own : g.Own) (n : ℕ) → Same (g.make_room x env at.place z own n) (g.make_room y env at.place z own n)
  rooms_made x y k env at z own n = ifs (nat_le (own.count + n) own.room) (lengthens at z own (own.count + n)) (grows x y k env at z own (own.count + n) (2 * own.room + max 8 n))

  pub appends : (x y : s.Calls) → a.SameCalls S Stops x y → (env : s.Env) (at : a.Within In) (t : ℕ) (ts : List ℕ) (vs : List Value) → Same (g.run_append x env at.place t ts vs) (g.run_append y env at.place t ts vs)
  appends x y k env at t ts vs = thens (owns at (l.layout_of env (i.target_of env (i.arg_type ts 0))) (i.arg vs 0)) (λ own.
      thens (rooms_made x y k env at (l.layout_of env (i.target_of env (i.arg_type ts 0))) own (length (drop 1 vs))) (λ w. appendeds env at t (l.layout_of env (i.target_of env (i.arg_type ts 0))) own (drop 1 vs) w))

  -- ---- reserve and resize
  pub reserves : (x y : s.Calls) → a.SameCalls S Stops x y → (env : s.Env) (at : a.Within In) (ts : List ℕ) (vs : List Value) → Same (g.run_reserve x env at.place ts vs) (g.run_reserve y env at.place ts vs)
  reserves x y k env at ts vs = thens (ints at (i.arg vs 1)) (λ z. thens (counts at (l.layout_of env (i.target_of env (i.arg_type ts 0))) z) (λ n. thens (owns at (l.layout_of env (i.target_of env (i.arg_type ts 0))) (i.arg vs 0)) (λ own.
      thens (ifs (nat_le n own.room) (pures _) (grows x y k env at (l.layout_of env (i.target_of env (i.arg_type ts 0))) own own.count n)) (λ w. pures _))))

  cells_zeroed : (at : a.Within In) (x : l.Layout) (d n : ℕ) (cs : List l.Cell) (v : Value) → Same (g.zero_cells at.place x d n cs v) (g.zero_cells at.place x d n cs v)
  cells_zeroed at x d n [] v = pures tt
  cells_zeroed at x d n (c ∷ cs) v = thens (thens (bl.touches In S Stops r x) (λ _. knowns at (pointer_of (piece 0 8 v)))) (λ y. thens (behinds at y (d * c.size)) (λ z. thens (writes at z (zeros (n * c.size))) (λ _. cells_zeroed at x d n cs (drop 8 v))))

  zeroeds : (at : a.Within In) (x : l.Layout) (own : g.Own) (n : ℕ) (v : Value) → Same (g.zeroed at.place x own n v) (g.zeroed at.place x own n v)
  zeroeds at x own n v = ifs (nat_lt own.count (min n own.room)) (cells_zeroed at x own.count (min n own.room - own.count) x.cells v) (pures tt)

  pub resizes : (x y : s.Calls) → a.SameCalls S Stops x y → (env : s.Env) (at : a.Within In) (ts : List ℕ) (vs : List Value) → Same (g.run_resize x env at.place ts vs) (g.run_resize y env at.place ts vs)
  resizes x y k env at ts vs = thens (ints at (i.arg vs 1)) (λ z. thens (counts at (l.layout_of env (i.target_of env (i.arg_type ts 0))) z) (λ n. thens (owns at (l.layout_of env (i.target_of env (i.arg_type ts 0))) (i.arg vs 0)) (λ own.
      thens (ifs (nat_le n own.room) (lengthens at (l.layout_of env (i.target_of env (i.arg_type ts 0))) own n) (grows x y k env at (l.layout_of env (i.target_of env (i.arg_type ts 0))) own n n)) (λ w.
      ifs (w.error == 0) (thens (zeroeds at (l.layout_of env (i.target_of env (i.arg_type ts 0))) own n w.starts) (λ _. pures (s.is (int_bytes 1 (pos 0))))) (pures _)))))

  -- ---- delete and free
  frees_found : (x y : s.Calls) → a.SameCalls S Stops x y → (env : s.Env) (at : a.Within In) (al old : Value) (n : ℕ) (b : Bool) → Same (g.free_found x env at.place al old n b) (g.free_found y env at.place al old n b)
  frees_found x y k env at al old n true = pures _
  frees_found x y k env at al old n false = thens (asks x y k env at al 1 0 0 old n) (λ z. pures _)

  frees_at : (x y : s.Calls) → a.SameCalls S Stops x y → (env : s.Env) (at : a.Within In) (al old : Value) (n : ℕ) → Same (g.free_at x env at.place al old n) (g.free_at y env at.place al old n)
  frees_at x y k env at al old n = thens (knowns at (pointer_of old)) (λ z. thens (thens (a.alive In S Stops r at z) (λ _. r.spends 1)) (λ _. frees_found x y k env at al old n (o.same_pointer z nil)))

  deletes_by : (x y : s.Calls) → a.SameCalls S Stops x y → (env : s.Env) (at : a.Within In) (b : Bool) (z : l.Layout) (vs : List Value) → Same (g.delete_by x env at.place b z vs) (g.delete_by y env at.place b z vs)
  deletes_by x y k env at true z vs = thens (owns_in at z nil (i.arg vs 0)) (λ own. frees_at x y k env at own.allocator (piece 0 8 own.starts) (l.storage_size own.room z))
  deletes_by x y k env at false z vs = thens (ints at (i.length_word z (i.arg vs 0))) (λ w. thens (counts at z w) (λ n. frees_at x y k env at (g.allocator_in env (drop 1 vs)) (piece 0 8 (i.arg vs 0)) (l.storage_size n z)))

  pub deletes : (x y : s.Calls) → a.SameCalls S Stops x y → (env : s.Env) (at : a.Within In) (ts : List ℕ) (vs : List Value) → Same (g.run_delete x env at.place ts vs) (g.run_delete y env at.place ts vs)
  deletes x y k env at ts vs = deletes_by x y k env at (g.is_dynamic (s.shape_of env (i.arg_type ts 0))) (l.layout_of env (i.arg_type ts 0)) vs

  pub frees : (x y : s.Calls) → a.SameCalls S Stops x y → (env : s.Env) (at : a.Within In) (ts : List ℕ) (vs : List Value) → Same (g.run_free x env at.place ts vs) (g.run_free y env at.place ts vs)
  frees x y k env at ts vs = frees_at x y k env at (g.allocator_in env (drop 1 vs)) (i.arg vs 0) (g.pointed_size env (s.shape_of env (i.arg_type ts 0)))

  pub all_freed : (x y : s.Calls) → a.SameCalls S Stops x y → (env : s.Env) (at : a.Within In) (vs : List Value) → Same (g.run_free_all x env at.place vs) (g.run_free_all y env at.place vs)
  all_freed x y k env at vs = thens (asks x y k env at (g.allocator_in env vs) 2 0 0 (zeros 8) 0) (λ z. pures _)
