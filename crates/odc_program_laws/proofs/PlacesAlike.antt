-- Reading, writing and the kinds of nodes that stand for places keep what the primitives keep.
use Rattle.std.proofs.Common.{ℕ, zero, suc, Bool, true, List, [], ◌∷◌}
use Rattle.std.specs.Prelude.{ℤ, pos, Option, Some, None, if◌then◌else◌, ◌+◌, ◌*◌, ◌==◌, ◌&&◌, ◌++◌, not, int_le, int_lt, ◌-ℤ◌, length, drop, get_or}
use Rattle.odc_text.specs.declared.place.Place.{Place}
use Rattle.odc_text.specs.declared.check.Check.{Check}
use Rattle.odc_text.specs.declared.check.Check.TheVariants as check
use Rattle.odc_types.specs.Widths.{is_signed}
use Rattle.odc_program.specs.States.Run.{pure, ◌>>=◌, moved}
use Rattle.odc_program.specs.States.Bytes.{Pointer, nil, to, Value, number_of, zeros, int_bytes, int_of, truth_bytes, pointer_bytes, pointer_of, piece, patched}
use Rattle.odc_program.specs.Trees.Program as q
use Rattle.odc_program.specs.Kinds.Layouts as l
use Rattle.odc_program.specs.States.State as s
use Rattle.odc_program.specs.Kinds.Places as p
use Rattle.odc_program_laws.proofs.Alike as a

module _ (In : Place → Type 0) (S : s.State → s.State → Type 0) (Stops : s.Leave → s.State → a.Tail → Type 0) (r : a.Alike In S Stops) where
  abbrev pub Same : {A : Type 0} → s.Do A → s.Do A → Type 0
  Same m n = a.Like S Stops m n

  thens : {A B : Type 0} {m n : s.Do A} {f g : A → s.Do B} → Same m n → ((x : A) → Same (f x) (g x)) → Same (m >>= f) (n >>= g)
  thens h k = a.thens In S Stops r h k

  pures : {A : Type 0} (x : A) → Same (pure x) (pure x)
  pures x = a.pures In S Stops r x

  knowns : {A : Type 0} (at : a.Within In) (o : Option A) → Same (s.known at.place o) (s.known at.place o)
  knowns at o = a.knowns In S Stops r at o

  strays : {A : Type 0} (at : a.Within In) → Same {A = A} (s.stray at.place) (s.stray at.place)
  strays at = a.strays In S Stops r at

  fails : {A : Type 0} (c : Check) (at : a.Within In) → Same {A = A} (s.fail c at.place) (s.fail c at.place)
  fails c at = a.fails In S Stops r c at

  ifs : {A : Type 0} (b : Bool) {m n m' n' : s.Do A} → Same m m' → Same n n' → Same (if b then m else n) (if b then m' else n')
  ifs b h k = a.ifs In S Stops r b h k

  -- ---- reading and writing
  pieces_read : (at : a.Within In) (n : ℕ) (ps : List s.Piece) → Same (p.read_pieces at.place n ps) (p.read_pieces at.place n ps)
  pieces_read at n [] = pures (zeros n)
  pieces_read at n (x ∷ ps) = thens (thens (r.spends 1) (λ _. a.behinds In S Stops r at x.start x.move)) (λ b. thens (a.reads In S Stops r at b x.size) (λ v. thens (pieces_read at n ps) (λ w. pures (patched x.offset v w))))

  pub read_spots : (env : s.Env) (at : a.Within In) (x : s.Spot) (n : ℕ) → Same (p.read_spot env at.place x n) (p.read_spot env at.place x n)
  read_spots env at (s.spot b) n = a.reads In S Stops r at b n
  read_spots env at (s.in_context o) n = thens (r.spends (moved n)) (λ _. pures (piece o n (p.context_value env)))
  read_spots env at (s.rows ps) n = pieces_read at n ps

  plain_reads : (env : s.Env) (at : a.Within In) (n : ℕ) (b : s.Base) → Same (p.read_plain env at.place n b) (p.read_plain env at.place n b)
  plain_reads env at n (s.lies x) = read_spots env at x n
  plain_reads env at n (s.is v) = pures v
  plain_reads env at n (s.views b t k) = strays at

  pub read_bases : (env : s.Env) (at : a.Within In) (n : ℕ) (b : s.Base) → Same (p.read_base env at.place n b) (p.read_base env at.place n b)
  read_bases env at n (s.lies x) = read_spots env at x n
  read_bases env at n (s.is v) = pures v
  read_bases env at n (s.views b t k) = thens (plain_reads env at (l.address_bytes (l.layout_of env t) + 8) b) (λ v. pures (p.view_of k (length (l.layout_of env t).cells) v))

  pub truths : (at : a.Within In) (v : Value) → Same (p.read_truth at.place v) (p.read_truth at.place v)
  truths at v = thens (knowns at (number_of v)) (λ n. pures (not (n == 0)))

  pub as_reads : (at : a.Within In) (x : q.Shape) (v : Value) → Same (p.as_read at.place x v) (p.as_read at.place x v)
  as_reads at q.truth v = thens (truths at v) (λ b. pures (truth_bytes b))
  as_reads at _ v = pures v

  pub value_ins : (env : s.Env) (at : a.Within In) (t : ℕ) (b : s.Base) → Same (p.value_in env at.place t b) (p.value_in env at.place t b)
  value_ins env at t b = thens (read_bases env at (s.size_of env t) b) (λ v. as_reads at (s.shape_of env t) v)

  pub values : (env : s.Env) (at : a.Within In) (t : ℕ) {m n : s.Do s.Base} → Same m n → Same (p.as_value env at.place t m) (p.as_value env at.place t n)
  values env at t h = thens h (λ b. value_ins env at t b)

  pieces_written : (at : a.Within In) (v : Value) (ps : List s.Piece) → Same (p.write_pieces at.place v ps) (p.write_pieces at.place v ps)
  pieces_written at v [] = pures tt
  pieces_written at v (x ∷ ps) = thens (thens (r.spends 1) (λ _. a.behinds In S Stops r at x.start x.move)) (λ b. thens (a.writes In S Stops r at b (piece x.offset x.size v)) (λ _. pieces_written at v ps))

  pub spot_stores : (at : a.Within In) (env : s.Env) (x : s.Spot) (v : Value) (c : s.Context) → Same (p.store_spot at.place env x v c) (p.store_spot at.place env x v c)
  spot_stores at env (s.spot b) v c = thens (a.writes In S Stops r at b v) (λ _. pures c)
  spot_stores at env (s.in_context o) v c = thens (r.spends (moved (length v))) (λ _. pures (Some (patched o v (p.context_value (s.in_context_of env c)))))
  spot_stores at env (s.rows ps) v c = thens (pieces_written at v ps) (λ _. pures c)

  base_spots : (at : a.Within In) (b : s.Base) → Same (p.spot_of_base at.place b) (p.spot_of_base at.place b)
  base_spots at (s.lies x) = pures x
  base_spots at (s.is v) = strays at
  base_spots at (s.views b t k) = strays at

  pub as_spots : (at : a.Within In) {m n : s.Do s.Base} → Same m n → Same (p.as_spot at.place m) (p.as_spot at.place n)
  as_spots at h = thens h (λ b. base_spots at b)

  pieces_found : (at : a.Within In) (ps : List s.Piece) → Same (p.found_pieces at.place ps) (p.found_pieces at.place ps)
  pieces_found at [] = pures []
  pieces_found at (x ∷ ps) = thens (a.behinds In S Stops r at x.start x.move) (λ b. thens (pieces_found at ps) (λ qs. pures _))

  founds : (at : a.Within In) (x : s.Spot) → Same (p.found at.place x) (p.found at.place x)
  founds at (s.spot b) = pures (s.spot b)
  founds at (s.in_context o) = pures (s.in_context o)
  founds at (s.rows ps) = thens (pieces_found at ps) (λ qs. pures (s.rows qs))

  pub as_lefts : (at : a.Within In) {m n : s.Do s.Base} → Same m n → Same (p.as_left at.place m) (p.as_left at.place n)
  as_lefts at h = thens (as_spots at h) (λ x. founds at x)

  -- ---- fields and dereferences
  spot_behinds : (at : a.Within In) (x : s.Spot) (d : ℕ) → Same (p.spot_behind at.place x d) (p.spot_behind at.place x d)
  spot_behinds at (s.spot b) d = thens (a.behinds In S Stops r at b d) (λ q. pures (s.spot q))
  spot_behinds at (s.in_context o) d = pures (s.in_context (o + d))
  spot_behinds at (s.rows ps) d = strays at

  pub base_behinds : (at : a.Within In) (n d : ℕ) (b : s.Base) → Same (p.base_behind at.place n d b) (p.base_behind at.place n d b)
  base_behinds at n d (s.lies x) = thens {m = p.spot_behind at.place x d} (spot_behinds at x d) (λ q. pures (s.lies q))
  base_behinds at n d (s.is v) = pures (s.is (piece d n v))
  base_behinds at n d (s.views b t k) = strays at

  piece_spots : (at : a.Within In) (x : s.Piece) → Same (p.piece_spot at.place x) (p.piece_spot at.place x)
  piece_spots at x = thens (thens (r.spends 1) (λ _. a.behinds In S Stops r at x.start x.move)) (λ b. pures (s.lies (s.spot b)))

  field_ofs : (at : a.Within In) (n d k : ℕ) (b : s.Base) → Same (p.field_of at.place n d k b) (p.field_of at.place n d k b)
  field_ofs at n d k (s.lies (s.rows ps)) = piece_spots at (get_or ps k p.no_piece)
  field_ofs at n d k (s.lies (s.spot b)) = base_behinds at n d (s.lies (s.spot b))
  field_ofs at n d k (s.lies (s.in_context o)) = base_behinds at n d (s.lies (s.in_context o))
  field_ofs at n d k (s.is v) = base_behinds at n d (s.is v)
  field_ofs at n d k (s.views b t j) = base_behinds at n d (s.views b t j)

  pub fields : (env : s.Env) (at : a.Within In) (t base_ty k : ℕ) {m n : s.Do s.Base} → Same m n → Same (p.run_field env at.place t base_ty k m) (p.run_field env at.place t base_ty k n)
  fields env at t base_ty k h = thens h (λ b. field_ofs at (s.size_of env t) (p.part_offset k (s.shape_of env base_ty)) k b)

  not_nils : (at : a.Within In) (n : ℕ) (x : Pointer) → Same (p.not_nil at.place n x) (p.not_nil at.place n x)
  not_nils at zero x = pures (s.lies (s.spot x))
  not_nils at (suc n) nil = fails check.Nil at
  not_nils at (suc n) (to b o) = pures (s.lies (s.spot (to b o)))

  pub derefs : (env : s.Env) (at : a.Within In) (t : ℕ) {m n : s.Do Value} → Same m n → Same (p.run_deref env at.place t m) (p.run_deref env at.place t n)
  derefs env at t h = thens h (λ v. thens (knowns at (pointer_of v)) (λ x. not_nils at (s.size_of env t) x))

  -- ---- containers
  starts : (at : a.Within In) (cs : List l.Cell) (v : Value) → Same (p.starts_of at.place cs v) (p.starts_of at.place cs v)
  starts at [] v = pures []
  starts at (c ∷ cs) v = thens (knowns at (pointer_of (piece 0 8 v))) (λ x. thens (starts at cs (drop 8 v)) (λ ps. pures (record { offset = c.offset; size = c.size; start = x; move = 0 } ∷ ps)))

  headers : (at : a.Within In) (size : ℕ) (v : Value) → Same (p.header_of at.place size v) (p.header_of at.place size v)
  headers at size v = thens (knowns at (pointer_of (piece 0 8 v))) (λ x. thens (knowns at (int_of true 8 (piece 8 8 v))) (λ n. pures _))

  column_headers : (at : a.Within In) (x : l.Layout) (v : Value) → Same (p.columns_header at.place x v) (p.columns_header at.place x v)
  column_headers at x v = thens (starts at x.cells v) (λ ps. thens (knowns at (int_of true 8 (piece (l.address_bytes x) 8 v))) (λ n. pures _))

  fixed : (at : a.Within In) (x : l.Layout) (n : ℕ) (b : s.Base) → Same (p.fixed_columns at.place x n b) (p.fixed_columns at.place x n b)
  fixed at x n (s.lies (s.spot b)) = pures _
  fixed at x n (s.lies (s.in_context o)) = strays at
  fixed at x n (s.lies (s.rows ps)) = strays at
  fixed at x n (s.is v) = pures _
  fixed at x n (s.views b t k) = strays at

  element_ins : (env : s.Env) (at : a.Within In) (t : ℕ) (x : q.Shape) (b : s.Base) → Same (p.elements_in env at.place t x b) (p.elements_in env at.place t x b)
  element_ins env at t (q.array e n) b = pures _
  element_ins env at t (q.soa_array e n) b = fixed at (l.layout_of env t) n b
  element_ins env at t (q.slice e) b = thens (read_bases env at 16 b) (λ v. headers at (s.size_of env e) v)
  element_ins env at t (q.dynamic e) b = thens (read_bases env at 16 b) (λ v. headers at (s.size_of env e) v)
  element_ins env at t q.text b = thens (read_bases env at 16 b) (λ v. headers at 1 v)
  element_ins env at t (q.soa_slice e) b = thens (read_bases env at (l.address_bytes (l.layout_of env t) + 8) b) (λ v. column_headers at (l.layout_of env t) v)
  element_ins env at t (q.soa_dynamic e) b = thens (read_bases env at (l.address_bytes (l.layout_of env t) + 8) b) (λ v. column_headers at (l.layout_of env t) v)
  element_ins env at t _ b = strays at

  pub elements : (env : s.Env) (at : a.Within In) (t : ℕ) (b : s.Base) → Same (p.elements_of env at.place t b) (p.elements_of env at.place t b)
  elements env at t b = element_ins env at t (s.shape_of env t) b

  wholes_by : (at : a.Within In) (size : ℕ) (x : q.Shape) (v : Value) → Same (p.whole_by at.place size x v) (p.whole_by at.place size x v)
  wholes_by at size (q.whole width) v = knowns at (int_of (is_signed width) size v)
  wholes_by at size q.rune v = knowns at (int_of true size v)
  wholes_by at size (q.names width es) v = knowns at (int_of (is_signed width) size v)
  wholes_by at size _ v = strays at

  pub wholes : (env : s.Env) (at : a.Within In) (t : ℕ) (v : Value) → Same (p.whole_of env at.place t v) (p.whole_of env at.place t v)
  wholes env at t v = wholes_by at (s.size_of env t) (s.shape_of env t) v

  stored : (at : a.Within In) (i : ℕ) (x : p.Store) → Same (p.element_in at.place i x) (p.element_in at.place i x)
  stored at i (p.in_row first size) = base_behinds at size (i * size) first
  stored at i (p.in_value n cs v) = thens (r.spends (length cs)) (λ _. pures (s.is (p.gathered n i cs v)))
  stored at i (p.in_pieces ps) = pures _

  pub element_found : (at : a.Within In) (i : ℤ) (es : p.Elements) → Same (p.element at.place i es) (p.element at.place i es)
  element_found at i es = ifs (int_le (pos 0) i && int_lt i es.count) (stored at (p.natural i) es.store) (fails check.Index at)

  pub indices : (env : s.Env) (at : a.Within In) (base_ty index_ty : ℕ) {m n : s.Do s.Base} {k j : s.Do Value} → Same m n → Same k j → Same (p.run_index env at.place base_ty index_ty m k) (p.run_index env at.place base_ty index_ty n j)
  indices env at base_ty index_ty h g = thens h (λ b. thens g (λ v. thens (wholes env at index_ty v) (λ i. thens (elements env at base_ty b) (λ es. element_found at i es))))

  -- ---- slices and columns
  sliced_spots : (at : a.Within In) (d : ℕ) (x : s.Spot) → Same (p.sliced_spot at.place d x) (p.sliced_spot at.place d x)
  sliced_spots at d (s.spot b) = thens (a.behinds In S Stops r at b d) (λ q. pures (pointer_bytes q))
  sliced_spots at d (s.in_context o) = strays at
  sliced_spots at d (s.rows ps) = strays at

  slices_of : (at : a.Within In) (i : ℕ) (ps : List s.Piece) → Same (p.sliced_pieces at.place i ps) (p.sliced_pieces at.place i ps)
  slices_of at i [] = pures []
  slices_of at i (x ∷ ps) = thens (thens (r.spends 1) (λ _. a.behinds In S Stops r at x.start (x.move + i * x.size))) (λ q. thens (slices_of at i ps) (λ v. pures (pointer_bytes q ++ v)))

  slices : (at : a.Within In) (i : ℕ) (x : p.Store) → Same (p.sliced at.place i x) (p.sliced at.place i x)
  slices at i (p.in_row first size) = thens (base_spots at first) (λ x. sliced_spots at (i * size) x)
  slices at i (p.in_pieces ps) = slices_of at i ps
  slices at i (p.in_value n cs v) = strays at

  slice_values : (at : a.Within In) (low high : ℤ) (es : p.Elements) → Same (p.slice_bytes at.place low high es) (p.slice_bytes at.place low high es)
  slice_values at low high es = ifs (int_le (pos 0) low && int_le low high && int_le high es.count) (thens (slices at (p.natural low) es.store) (λ v. pures (s.is (v ++ int_bytes 8 (high -ℤ low))))) (fails check.Slice at)

  pub cuts : (env : s.Env) (at : a.Within In) (base_ty : ℕ) {m n : s.Do s.Base} {k j k' j' : s.Do (Option ℤ)} → Same m n → Same k j → Same k' j' → Same (p.run_cut env at.place base_ty m k k') (p.run_cut env at.place base_ty n j j')
  cuts env at base_ty h g g' =
      thens h (λ b. thens g (λ low. thens g' (λ high. thens (elements env at base_ty b) (λ es. slice_values at (p.bound_or (pos 0) low) (p.bound_or es.count high) es))))

  pub bounds : (env : s.Env) (at : a.Within In) (t : ℕ) {m n : s.Do Value} → Same m n → Same (p.bound env at.place t m) (p.bound env at.place t n)
  bounds env at t h = thens h (λ v. thens (wholes env at t v) (λ z. pures _))

  column_ins : (env : s.Env) (at : a.Within In) (n t k : ℕ) (x : q.Shape) (b : s.Base) → Same (p.column_in env at.place n t k x b) (p.column_in env at.place n t k x b)
  column_ins env at n t k (q.soa_array e count) b = base_behinds at n (get_or (l.columns_of count (l.layout_of env t)) k p.no_column).start b
  column_ins env at n t k _ b = pures (s.views b t k)

  pub columns : (env : s.Env) (at : a.Within In) (t base_ty k : ℕ) {m n : s.Do s.Base} → Same m n → Same (p.run_column env at.place t base_ty k m) (p.run_column env at.place t base_ty k n)
  columns env at t base_ty k h = thens h (λ b. thens (r.spends 1) (λ _. column_ins env at (s.size_of env t) base_ty k (s.shape_of env base_ty) b))

  address_spots : (at : a.Within In) (x : s.Spot) → Same (p.address_of_spot at.place x) (p.address_of_spot at.place x)
  address_spots at (s.spot b) = pures _
  address_spots at (s.in_context o) = strays at
  address_spots at (s.rows ps) = strays at

  pub addresses : (at : a.Within In) {m n : s.Do s.Base} → Same m n → Same (p.run_address at.place m) (p.run_address at.place n)
  addresses at h = thens (as_spots at h) (λ x. address_spots at x)

  -- ---- built values
  placings : (env : s.Env) (t : ℕ) (x : q.Shape) (y : ℕ) (v : Value) → Same (p.placed env t x y v) (p.placed env t x y v)
  placings env t (q.slice e) y v = thens (a.local_begins In S Stops r env y v) (λ _. pures (s.is (pointer_bytes (to (s.block_of env y) 0) ++ int_bytes 8 (pos (p.count_in (s.shape_of env (s.local_of env y).ty))))))
  placings env t _ y v = thens (a.local_begins In S Stops r env y v) (λ _. pures (s.lies (s.spot (to (s.block_of env y) 0))))

  homes : (env : s.Env) (t : ℕ) (home : Option ℕ) (v : Value) → Same (p.at_home env t home v) (p.at_home env t home v)
  homes env t None v = pures (s.is v)
  homes env t (Some x) v = placings env t (s.shape_of env t) x v

  pub builds : (env : s.Env) (t : ℕ) (home : Option ℕ) {m n : s.Do Value} → Same m n → Same (p.run_build env t home m) (p.run_build env t home n)
  builds env t home h = thens h (λ v. homes env t home v)

  pub nothing_built : (env : s.Env) (t : ℕ) → Same (p.no_parts_of env t) (p.no_parts_of env t)
  nothing_built env t = thens (r.spends (moved (s.size_of env t))) (λ _. pures (zeros (s.size_of env t)))

  pub parts : (env : s.Env) (t d : ℕ) {m n k j : s.Do Value} → Same m n → Same k j → Same (p.run_part env t d m k) (p.run_part env t d n j)
  parts env t d h g = thens h (λ v. thens (thens (r.spends (moved (length v))) (λ _. g)) (λ w. pures (p.with_part env t (s.shape_of env t) d v w)))
