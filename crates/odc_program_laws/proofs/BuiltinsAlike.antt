-- Built-in procedures that call no allocator keep what the primitives keep.
use Rattle.std.proofs.Common.{ℕ, zero, suc, Bool, true, List, [], ◌∷◌}
use Rattle.std.specs.Prelude.{◌||◌, ℤ, pos, Option, if◌then◌else◌, ◌+◌, ◌*◌, ◌-◌, ◌&&◌, int_le, int_lt, ◌-ℤ◌, length, map, drop}
use Rattle.std.specs.Ordering.{int_eq}
use Rattle.odc_text.specs.declared.place.Place.{Place}
use Rattle.odc_text.specs.declared.check.Check.{Check}
use Rattle.odc_text.specs.declared.check.Check.TheVariants as check
use Rattle.odc_text.specs.Run.{err, exited}
use Rattle.odc_program.specs.States.Run.{pure, ◌>>=◌}
use Rattle.odc_program.specs.States.Bytes.{Pointer, nil, to, Value, number_of, numbers, residue, int_bytes, int_of, pointer_of, piece}
use Rattle.odc_program.specs.Trees.Program as q
use Rattle.odc_program.specs.Kinds.Layouts as l
use Rattle.odc_program.specs.States.State as s
use Rattle.odc_program.specs.Kinds.Places as p
use Rattle.odc_program.specs.Kinds.Printing as w
use Rattle.odc_program.specs.Kinds.Builtins as i
use Rattle.odc_program_laws.proofs.Alike as a
use Rattle.odc_program_laws.proofs.PlacesAlike as pl
use Rattle.odc_program_laws.proofs.OperatorsAlike as ol

module _ (In : Place → Type 0) (S : s.State → s.State → Type 0) (Stops : s.Leave → s.State → a.Tail → Type 0) (r : a.Alike In S Stops) where
  abbrev pub Same : {A : Type 0} → s.Do A → s.Do A → Type 0
  Same m n = a.Like S Stops m n

  thens : {A B : Type 0} {m n : s.Do A} {f g : A → s.Do B} → Same m n → ((x : A) → Same (f x) (g x)) → Same (m >>= f) (n >>= g)
  thens h k = a.thens In S Stops r h k

  pures : {A : Type 0} (x : A) → Same (pure x) (pure x)
  pures x = a.pures In S Stops r x

  knowns : {A : Type 0} (at : a.Within In) (o : Option A) → Same (s.known at.place o) (s.known at.place o)
  knowns at o = a.knowns In S Stops r at o

  strays : {A : Type 0} (at : a.Within In) → Same {A = A} (s.stray at.place) (s.stray at.place)
  strays at = a.strays In S Stops r at

  fails : {A : Type 0} (c : Check) (at : a.Within In) → Same {A = A} (s.fail c at.place) (s.fail c at.place)
  fails c at = a.fails In S Stops r c at

  ifs : {A : Type 0} (b : Bool) {m n m' n' : s.Do A} → Same m m' → Same n n' → Same (if b then m else n) (if b then m' else n')
  ifs b h k = a.ifs In S Stops r b h k

  truths : (at : a.Within In) (v : Value) → Same (p.read_truth at.place v) (p.read_truth at.place v)
  truths at v = pl.truths In S Stops r at v

  reads : (at : a.Within In) (x : Pointer) (n : ℕ) → Same (s.read_at at.place x n) (s.read_at at.place x n)
  reads at x n = a.reads In S Stops r at x n

  writes : (at : a.Within In) (x : Pointer) (v : Value) → Same (s.write_to at.place x v) (s.write_to at.place x v)
  writes at x v = a.writes In S Stops r at x v

  behinds : (at : a.Within In) (x : Pointer) (d : ℕ) → Same (s.behind at.place x d) (s.behind at.place x d)
  behinds at x d = a.behinds In S Stops r at x d

  pub prints_all : (env : s.Env) (at : a.Within In) (ts : List ℕ) (vs : List Value) → Same (i.run_print env at.place ts vs) (i.run_print env at.place ts vs)
  prints_all env at ts vs = thens (ol.print_alls In S Stops r env at ts vs) (λ _. pures (s.is []))

  pub prints_line : (env : s.Env) (at : a.Within In) (ts : List ℕ) (vs : List Value) → Same (i.run_println env at.place ts vs) (i.run_println env at.place ts vs)
  prints_line env at ts vs = thens (thens (ol.print_alls In S Stops r env at ts vs) (λ _. ol.prints In S Stops r (10 ∷ []))) (λ _. pures (s.is []))

  pub asserts_true : (at : a.Within In) (vs : List Value) → Same (i.run_assert_true at.place vs) (i.run_assert_true at.place vs)
  asserts_true at vs = thens (truths at (i.arg vs 0)) (λ b. ifs b (pures (s.is [])) (fails check.Assert at))

  complains : (bytes : List ℕ) → Same (i.complain bytes) (i.complain bytes)
  complains bytes = thens (r.spends (length bytes)) (λ _. r.tells (map err bytes))

  pub panics : (at : a.Within In) (vs : List Value) → Same (i.run_panic at.place vs) (i.run_panic at.place vs)
  panics at vs = thens (ol.texts_read In S Stops r at (i.arg vs 0)) (λ bytes. thens (thens (complains bytes) (λ _. complains (10 ∷ []))) (λ _. fails check.Panic at))

  -- ---- files
  inputs_read : (env : s.Env) (at : a.Within In) (t : ℕ) (x : Pointer) (n : ℕ) → Same (i.read_input env at.place t x n) (i.read_input env at.place t x n)
  inputs_read env at t x n = thens (thens (a.has_rooms In S Stops r at x n) (λ _. r.inputs n)) (λ bytes. thens (writes at x (numbers bytes)) (λ _. pures (i.file_answer env t (length bytes) 0)))

  pub files_read : (env : s.Env) (at : a.Within In) (t : ℕ) (vs : List Value) → Same (i.run_read env at.place t vs) (i.run_read env at.place t vs)
  files_read env at t vs = thens (knowns at (int_of true 8 (i.arg vs 0))) (λ fd. ifs (int_eq fd (pos 0))
      (thens (knowns at (pointer_of (piece 0 8 (i.arg vs 1)))) (λ x. thens (knowns at (number_of (piece 8 8 (i.arg vs 1)))) (λ n. inputs_read env at t x n)))
      (pures _))

  writtens : (env : s.Env) (at : a.Within In) (t : ℕ) (f : List ℕ → s.Do (Unit {0})) → ((bytes : List ℕ) → Same (f bytes) (f bytes)) → (v : Value) → Same (i.written env at.place t f v) (i.written env at.place t f v)
  writtens env at t f h v = thens (ol.texts_read In S Stops r at v) (λ bytes. thens (h bytes) (λ _. pures (i.file_answer env t (length bytes) 0)))

  pub files_written : (env : s.Env) (at : a.Within In) (t : ℕ) (vs : List Value) → Same (i.run_write env at.place t vs) (i.run_write env at.place t vs)
  files_written env at t vs = thens (knowns at (int_of true 8 (i.arg vs 0))) (λ fd. ifs (int_eq fd (pos 1)) (writtens env at t w.print (λ bytes. ol.prints In S Stops r bytes) (i.arg vs 1))
      (ifs (int_eq fd (pos 2)) (writtens env at t i.complain complains (i.arg vs 1)) (pures _)))

  pub exits : (at : a.Within In) (vs : List Value) → Same (i.run_exit at.place vs) (i.run_exit at.place vs)
  exits at vs = thens (knowns at (int_of true 8 (i.arg vs 0))) (λ z. a.halted In S Stops r (s.ends (exited (residue 256 z))) tt)

  -- ---- containers and integers
  lengths_read : (env : s.Env) (at : a.Within In) (x : l.Layout) (b : s.Base) → Same (i.read_length env at.place x b) (i.read_length env at.place x b)
  lengths_read env at x b = thens (pl.read_bases In S Stops r env at (l.address_bytes x + 8) b) (λ v. pures (i.length_of x v))

  length_ins : (env : s.Env) (at : a.Within In) (x : l.Layout) (y : q.Shape) (b : s.Base) → Same (i.length_in env at.place x y b) (i.length_in env at.place x y b)
  length_ins env at x (q.array e n) b = pures _
  length_ins env at x (q.soa_array e n) b = pures _
  length_ins env at x _ b = lengths_read env at x b

  pub lens : (env : s.Env) (at : a.Within In) (ts : List ℕ) {m n : s.Do s.Base} → Same m n → Same (i.run_len env at.place ts m) (i.run_len env at.place ts n)
  lens env at ts h = thens h (length_ins env at (l.layout_of env (i.arg_type ts 0)) (s.shape_of env (i.arg_type ts 0)))

  pub lessers : (env : s.Env) (at : a.Within In) (b : Bool) (t : ℕ) (vs : List Value) → Same (i.run_lesser env at.place b t vs) (i.run_lesser env at.place b t vs)
  lessers env at b t vs = thens (pl.wholes In S Stops r env at t (i.arg vs 0)) (λ y. thens (pl.wholes In S Stops r env at t (i.arg vs 1)) (λ z. thens (r.spends 1) (λ _. pures (s.is (if int_lt (if b then z else y) (if b then y else z) then i.arg vs 0 else i.arg vs 1)))))

  pub absolutes : (env : s.Env) (at : a.Within In) (t : ℕ) (vs : List Value) → Same (i.run_abs env at.place t vs) (i.run_abs env at.place t vs)
  absolutes env at t vs = thens (pl.wholes In S Stops r env at t (i.arg vs 0)) (λ z. pures _)

  pub byte_slices : (at : a.Within In) (vs : List Value) → Same (i.run_byte_slice at.place vs) (i.run_byte_slice at.place vs)
  byte_slices at vs = thens (knowns at (int_of true 8 (i.arg vs 1))) (λ n. ifs (int_lt n (pos 0) || int_lt (pos i.length_limit) n) (fails check.Length at) (pures _))

  -- ---- elements
  pub touches : (x : l.Layout) → Same (i.touched x) (i.touched x)
  touches x = r.spends _

  pub byte_moves : (at : a.Within In) (x y : Pointer) (n : ℕ) → Same (i.move_bytes at.place x y n) (i.move_bytes at.place x y n)
  byte_moves at x y n = thens (reads at y n) (λ v. writes at x v)

  cell_copies : (at : a.Within In) (x : l.Layout) (n : ℕ) (cs : List l.Cell) (v w : Value) → Same (i.copy_cells at.place x n cs v w) (i.copy_cells at.place x n cs v w)
  cell_copies at x n [] v w = pures tt
  cell_copies at x n (c ∷ cs) v w =
      thens (thens (touches x) (λ _. knowns at (pointer_of (piece 0 8 v)))) (λ y. thens (knowns at (pointer_of (piece 0 8 w))) (λ z. thens (byte_moves at y z (n * c.size)) (λ _. cell_copies at x n cs (drop 8 v) (drop 8 w))))

  lesser_copies : (at : a.Within In) (x : l.Layout) (v w : Value) (n : ℤ) → Same (i.copy_lesser at.place x v w n) (i.copy_lesser at.place x v w n)
  lesser_copies at x v w n = thens (cell_copies at x (p.natural n) x.cells v w) (λ _. pures (s.is (int_bytes 8 n)))

  pub copies : (env : s.Env) (at : a.Within In) (ts : List ℕ) (vs : List Value) → Same (i.run_copy env at.place ts vs) (i.run_copy env at.place ts vs)
  copies env at ts vs =
      thens (knowns at (int_of true 8 (i.length_word (l.layout_of env (i.arg_type ts 0)) (i.arg vs 0)))) (λ y. thens (knowns at (int_of true 8 (i.length_word (l.layout_of env (i.arg_type ts 0)) (i.arg vs 1)))) (λ z.
      lesser_copies at (l.layout_of env (i.arg_type ts 0)) (i.arg vs 0) (i.arg vs 1) (i.lesser y z)))

  array_tests : (at : a.Within In) (x : Pointer) → Same (i.array_at at.place x) (i.array_at at.place x)
  array_tests at nil = fails check.Nil at
  array_tests at (to b o) = pures (to b o)

  pub pointeds : (at : a.Within In) (v : Value) → Same (i.pointed at.place v) (i.pointed at.place v)
  pointeds at v = thens (knowns at (pointer_of v)) (λ x. array_tests at x)

  pub lengths_written : (at : a.Within In) (x : l.Layout) (y : Pointer) (n : ℕ) → Same (i.write_length at.place x y n) (i.write_length at.place x y n)
  lengths_written at x y n = thens (behinds at y (l.address_bytes x)) (λ z. writes at z (int_bytes 8 (pos n)))

  pub clears : (env : s.Env) (at : a.Within In) (ts : List ℕ) (vs : List Value) → Same (i.run_clear env at.place ts vs) (i.run_clear env at.place ts vs)
  clears env at ts vs = thens (pointeds at (i.arg vs 0)) (λ x. thens (lengths_written at (l.layout_of env (i.target_of env (i.arg_type ts 0))) x 0) (λ _. pures (s.is [])))

  popped_ones : (env : s.Env) (at : a.Within In) (t n : ℕ) (x : Pointer) (es : p.Elements) → Same (i.popped env at.place t n x es) (i.popped env at.place t n x es)
  popped_ones env at t n x es = thens (pl.element_found In S Stops r at (es.count -ℤ pos 1) es) (λ b. thens (pl.read_bases In S Stops r env at n b) (λ v. thens (lengths_written at (l.layout_of env t) x (p.natural (es.count -ℤ pos 1))) (λ _. pures (s.is v))))

  pub pops : (env : s.Env) (at : a.Within In) (ts : List ℕ) (vs : List Value) → Same (i.run_pop env at.place ts vs) (i.run_pop env at.place ts vs)
  pops env at ts vs =
      thens (pointeds at (i.arg vs 0)) (λ x. thens (pl.elements In S Stops r env at (i.target_of env (i.arg_type ts 0)) (s.lies (s.spot x)))
      (λ es. popped_ones env at (i.target_of env (i.arg_type ts 0)) (l.layout_of env (i.target_of env (i.arg_type ts 0))).size x es))

  shifts_in : (at : a.Within In) (d e n size : ℕ) (v : Value) → Same (i.shift_cell at.place d e n size v) (i.shift_cell at.place d e n size v)
  shifts_in at d e zero size v = pures tt
  shifts_in at d e (suc n) size v = thens (knowns at (pointer_of (piece 0 8 v))) (λ y. thens (behinds at y (e * size)) (λ z. thens (behinds at y (d * size)) (λ z'. byte_moves at z' z (suc n * size))))

  cell_shifts : (at : a.Within In) (x : l.Layout) (d e n : ℕ) (cs : List l.Cell) (v : Value) → Same (i.shift_cells at.place x d e n cs v) (i.shift_cells at.place x d e n cs v)
  cell_shifts at x d e n [] v = pures tt
  cell_shifts at x d e n (c ∷ cs) v = thens (thens (touches x) (λ _. shifts_in at d e n c.size v)) (λ _. cell_shifts at x d e n cs (drop 8 v))

  removes_at : (at : a.Within In) (x : l.Layout) (b : Bool) (y : Pointer) (n k : ℕ) (v : Value) → Same (i.remove_at at.place x b y n k v) (i.remove_at at.place x b y n k v)
  removes_at at x b y n k v =
      thens (thens (ifs b (cell_shifts at x k (k + 1) (n - 1 - k) x.cells v) (cell_shifts at x k (n - 1) 1 x.cells v)) (λ _. lengths_written at x y (n - 1))) (λ _. pures (s.is []))

  removes_found : (at : a.Within In) (x : l.Layout) (b : Bool) (y : Pointer) (v : Value) (n k : ℤ) → Same (i.remove_found at.place x b y v n k) (i.remove_found at.place x b y v n k)
  removes_found at x b y v n k = ifs (int_le (pos 0) k && int_lt k n) (removes_at at x b y (p.natural n) (p.natural k) v) (fails check.Index at)

  removes_from : (at : a.Within In) (x : l.Layout) (b : Bool) (y : Pointer) (w : Value) → Same (i.remove_from at.place x b y w) (i.remove_from at.place x b y w)
  removes_from at x b y w = thens (reads at y (l.address_bytes x + 8)) (λ v. thens (knowns at (int_of true 8 (i.length_word x v))) (λ n. thens (knowns at (int_of true 8 w)) (λ k. removes_found at x b y v n k)))

  pub removes : (env : s.Env) (at : a.Within In) (b : Bool) (ts : List ℕ) (vs : List Value) → Same (i.run_remove env at.place b ts vs) (i.run_remove env at.place b ts vs)
  removes env at b ts vs = thens (pointeds at (i.arg vs 0)) (λ x. removes_from at (l.layout_of env (i.target_of env (i.arg_type ts 0))) b x (i.arg vs 1))
