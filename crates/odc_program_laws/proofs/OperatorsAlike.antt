-- Operators, conversions, unions and printing keep what the primitives keep.
use Rattle.std.proofs.Common.{ℕ, Bool, true, false, List, [], ◌∷◌}
use Rattle.std.specs.Prelude.{ℤ, pos, Option, if◌then◌else◌, ◌==◌, ◌&&◌, ◌++◌, int_div, int_rem, length, map, min}
use Rattle.std.specs.Ordering.{int_eq}
use Rattle.odc_text.specs.declared.place.Place.{Place}
use Rattle.odc_text.specs.declared.check.Check.{Check}
use Rattle.odc_text.specs.declared.check.Check.TheVariants as check
use Rattle.odc_text.specs.Run.{out}
use Rattle.odc_types.specs.Widths.{is_signed}
use Rattle.odc_program.specs.declared.ops.UnaryOp.{UnaryOp}
use Rattle.odc_program.specs.declared.ops.UnaryOp.TheVariants as un
use Rattle.odc_program.specs.declared.ops.BinaryOp.{BinaryOp}
use Rattle.odc_program.specs.declared.ops.BinaryOp.TheVariants as op
use Rattle.odc_program.specs.States.Run.{pure, ◌>>=◌, moved}
use Rattle.odc_program.specs.States.Bytes.{Value, number_of, zeros, int_bytes, int_of, truth_bytes, pointer_of, procedure_of, piece}
use Rattle.odc_program.specs.Trees.Program as q
use Rattle.odc_program.specs.States.State as s
use Rattle.odc_program.specs.Kinds.Places as p
use Rattle.odc_program.specs.Kinds.Operators as o
use Rattle.odc_program.specs.Kinds.Printing as w
use Rattle.odc_program_laws.proofs.Alike as a
use Rattle.odc_program_laws.proofs.PlacesAlike as pl

module _ (In : Place → Type 0) (S : s.State → s.State → Type 0) (Stops : s.Leave → s.State → a.Tail → Type 0) (r : a.Alike In S Stops) where
  abbrev pub Same : {A : Type 0} → s.Do A → s.Do A → Type 0
  Same m n = a.Like S Stops m n

  thens : {A B : Type 0} {m n : s.Do A} {f g : A → s.Do B} → Same m n → ((x : A) → Same (f x) (g x)) → Same (m >>= f) (n >>= g)
  thens h k = a.thens In S Stops r h k

  pures : {A : Type 0} (x : A) → Same (pure x) (pure x)
  pures x = a.pures In S Stops r x

  knowns : {A : Type 0} (at : a.Within In) (o : Option A) → Same (s.known at.place o) (s.known at.place o)
  knowns at o = a.knowns In S Stops r at o

  strays : {A : Type 0} (at : a.Within In) → Same {A = A} (s.stray at.place) (s.stray at.place)
  strays at = a.strays In S Stops r at

  fails : {A : Type 0} (c : Check) (at : a.Within In) → Same {A = A} (s.fail c at.place) (s.fail c at.place)
  fails c at = a.fails In S Stops r c at

  ifs : {A : Type 0} (b : Bool) {m n m' n' : s.Do A} → Same m m' → Same n n' → Same (if b then m else n) (if b then m' else n')
  ifs b h k = a.ifs In S Stops r b h k

  truths : (at : a.Within In) (v : Value) → Same (p.read_truth at.place v) (p.read_truth at.place v)
  truths at v = pl.truths In S Stops r at v

  wholes : (env : s.Env) (at : a.Within In) (t : ℕ) (v : Value) → Same (p.whole_of env at.place t v) (p.whole_of env at.place t v)
  wholes env at t v = pl.wholes In S Stops r env at t v

  unary_values : (env : s.Env) (at : a.Within In) (t : ℕ) (x : UnaryOp) (v : Value) → Same (o.unary_value env at.place t x v) (o.unary_value env at.place t x v)
  unary_values env at t un.Plus v = pures (s.is v)
  unary_values env at t un.Negate v = thens (wholes env at t v) (λ z. pures _)
  unary_values env at t un.Complement v = thens (wholes env at t v) (λ z. pures _)
  unary_values env at t un.Not v = thens (truths at v) (λ b. pures _)

  pub unaries : (env : s.Env) (at : a.Within In) (t : ℕ) (x : UnaryOp) {m n : s.Do Value} → Same m n → Same (o.run_unary env at.place t x m) (o.run_unary env at.place t x n)
  unaries env at t x h = thens h (λ v. unary_values env at t x v)

  -- ---- two operands
  divides : (at : a.Within In) (size : ℕ) (z y : ℤ) → Same (o.divided at.place size z y) (o.divided at.place size z y)
  divides at size z y = ifs (int_eq y (pos 0)) (fails check.Division at) (pures (int_bytes size z))

  compares : (n : ℕ) (b : Bool) → Same (o.compared n b) (o.compared n b)
  compares n b = thens (r.spends (moved n)) (λ _. pures (truth_bytes b))

  calculates : (at : a.Within In) (x : BinaryOp) (n : ℕ) (y z : ℤ) → Same (o.calculate at.place x n y z) (o.calculate at.place x n y z)
  calculates at op.Add n y z = pures _
  calculates at op.Subtract n y z = pures _
  calculates at op.Multiply n y z = pures _
  calculates at op.Divide n y z = divides at n (int_div y z) z
  calculates at op.Remainder n y z = divides at n (int_rem y z) z
  calculates at op.Modulo n y z = divides at n (o.modulo y z) z
  calculates at op.And n y z = pures _
  calculates at op.AndNot n y z = pures _
  calculates at op.Or n y z = pures _
  calculates at op.Xor n y z = pures _
  calculates at op.ShiftLeft n y z = pures _
  calculates at op.ShiftRight n y z = pures _
  calculates at op.AndAlso n y z = strays at
  calculates at op.OrElse n y z = strays at
  calculates at op.Equal n y z = compares n _
  calculates at op.Unequal n y z = compares n _
  calculates at op.Less n y z = compares n _
  calculates at op.Greater n y z = compares n _
  calculates at op.AtMost n y z = compares n _
  calculates at op.AtLeast n y z = compares n _

  address_values : (at : a.Within In) (x : BinaryOp) (v w : Value) → Same (o.addresses_by at.place x v w) (o.addresses_by at.place x v w)
  address_values at x v w = thens (knowns at (pointer_of v)) (λ y. thens (knowns at (pointer_of w)) (λ z. thens (thens (a.alive In S Stops r at y) (λ _. a.alive In S Stops r at z)) (λ _. compares 8 (o.says x (o.same_pointer y z) false))))

  pub texts_read : (at : a.Within In) (v : Value) → Same (o.read_text at.place v) (o.read_text at.place v)
  texts_read at v = thens (knowns at (pointer_of (piece 0 8 v))) (λ x. thens (knowns at (number_of (piece 8 8 v))) (λ n. thens (a.reads In S Stops r at x n) (λ bytes. knowns at (o.plain_numbers bytes))))

  texts : (at : a.Within In) (x : BinaryOp) (v w : Value) → Same (o.texts_by at.place x v w) (o.texts_by at.place x v w)
  texts at x v w = thens (texts_read at v) (λ y. thens (texts_read at w) (λ z. compares (min (length y) (length z)) (o.says x (o.same_text y z) (o.text_before y z))))

  numbers_by : (at : a.Within In) (x : BinaryOp) (size : ℕ) (y z : Option ℤ) → Same (o.wholes_by at.place x size y z) (o.wholes_by at.place x size y z)
  numbers_by at x size y z = thens (knowns at y) (λ y. thens (knowns at z) (λ z. calculates at x size y z))

  by_shapes : (env : s.Env) (at : a.Within In) (x : BinaryOp) (size : ℕ) (y : q.Shape) (v w : Value) → Same (o.by_shape env at.place x size y v w) (o.by_shape env at.place x size y v w)
  by_shapes env at x size (q.whole width) v w = numbers_by at x size (int_of (is_signed width) size v) (int_of (is_signed width) size w)
  by_shapes env at x size q.rune v w = numbers_by at x size (int_of true size v) (int_of true size w)
  by_shapes env at x size (q.names width es) v w = numbers_by at x size (int_of (is_signed width) size v) (int_of (is_signed width) size w)
  by_shapes env at x size q.truth v w = numbers_by at x size (int_of false size v) (int_of false size w)
  by_shapes env at x size q.text v w = texts at x v w
  by_shapes env at x size q.raw v w = address_values at x v w
  by_shapes env at x size (q.address t) v w = address_values at x v w
  by_shapes env at x size (q.slice t) v w = address_values at x (piece 0 8 v) (piece 0 8 w)
  by_shapes env at x size (q.dynamic t) v w = address_values at x (piece 0 8 v) (piece 0 8 w)
  by_shapes env at x size (q.soa_slice t) v w = address_values at x (piece 0 8 v) (piece 0 8 w)
  by_shapes env at x size (q.soa_dynamic t) v w = address_values at x (piece 0 8 v) (piece 0 8 w)
  by_shapes env at x size (q.variants tag ts) v w = numbers_by at x 8 (int_of false 8 (piece tag 8 v)) (int_of false 8 (piece tag 8 w))
  by_shapes env at x size (q.procedure odin ps rs) v w = thens (knowns at (procedure_of v)) (λ f. thens (knowns at (procedure_of w)) (λ g. compares 8 (o.says x (o.same_procedure f g) false)))
  by_shapes env at x size _ v w = strays at

  shifts_by : (env : s.Env) (at : a.Within In) (x : BinaryOp) (t u : ℕ) (v w : Value) → Same (o.shift_by env at.place x t u v w) (o.shift_by env at.place x t u v w)
  shifts_by env at x t u v w = thens (wholes env at t v) (λ y. thens (wholes env at u w) (λ z. pures _))

  pub operates : (env : s.Env) (at : a.Within In) (x : BinaryOp) (t u : ℕ) (v w : Value) → Same (o.operate env at.place x t u v w) (o.operate env at.place x t u v w)
  operates env at op.Add t u v w = by_shapes env at op.Add (s.size_of env t) (s.shape_of env t) v w
  operates env at op.Subtract t u v w = by_shapes env at op.Subtract (s.size_of env t) (s.shape_of env t) v w
  operates env at op.Multiply t u v w = by_shapes env at op.Multiply (s.size_of env t) (s.shape_of env t) v w
  operates env at op.Divide t u v w = by_shapes env at op.Divide (s.size_of env t) (s.shape_of env t) v w
  operates env at op.Remainder t u v w = by_shapes env at op.Remainder (s.size_of env t) (s.shape_of env t) v w
  operates env at op.Modulo t u v w = by_shapes env at op.Modulo (s.size_of env t) (s.shape_of env t) v w
  operates env at op.And t u v w = by_shapes env at op.And (s.size_of env t) (s.shape_of env t) v w
  operates env at op.AndNot t u v w = by_shapes env at op.AndNot (s.size_of env t) (s.shape_of env t) v w
  operates env at op.Or t u v w = by_shapes env at op.Or (s.size_of env t) (s.shape_of env t) v w
  operates env at op.Xor t u v w = by_shapes env at op.Xor (s.size_of env t) (s.shape_of env t) v w
  operates env at op.ShiftLeft t u v w = shifts_by env at op.ShiftLeft t u v w
  operates env at op.ShiftRight t u v w = shifts_by env at op.ShiftRight t u v w
  operates env at op.AndAlso t u v w = by_shapes env at op.AndAlso (s.size_of env t) (s.shape_of env t) v w
  operates env at op.OrElse t u v w = by_shapes env at op.OrElse (s.size_of env t) (s.shape_of env t) v w
  operates env at op.Equal t u v w = by_shapes env at op.Equal (s.size_of env t) (s.shape_of env t) v w
  operates env at op.Unequal t u v w = by_shapes env at op.Unequal (s.size_of env t) (s.shape_of env t) v w
  operates env at op.Less t u v w = by_shapes env at op.Less (s.size_of env t) (s.shape_of env t) v w
  operates env at op.Greater t u v w = by_shapes env at op.Greater (s.size_of env t) (s.shape_of env t) v w
  operates env at op.AtMost t u v w = by_shapes env at op.AtMost (s.size_of env t) (s.shape_of env t) v w
  operates env at op.AtLeast t u v w = by_shapes env at op.AtLeast (s.size_of env t) (s.shape_of env t) v w

  both : (env : s.Env) (at : a.Within In) (x : BinaryOp) (t u : ℕ) {m n k j : s.Do Value} → Same m n → Same k j →
      Same (m >>= (λ v. k >>= (λ w. o.operate env at.place x t u v w))) (n >>= (λ v. j >>= (λ w. o.operate env at.place x t u v w)))
  both env at x t u h g = thens h (λ v. thens g (λ w. operates env at x t u v w))

  pub binaries : (env : s.Env) (at : a.Within In) (x : BinaryOp) (t u : ℕ) {m n k j : s.Do Value} → Same m n → Same k j → Same (o.run_binary env at.place x t u m k) (o.run_binary env at.place x t u n j)
  binaries env at op.Add t u h g = both env at op.Add t u h g
  binaries env at op.Subtract t u h g = both env at op.Subtract t u h g
  binaries env at op.Multiply t u h g = both env at op.Multiply t u h g
  binaries env at op.Divide t u h g = both env at op.Divide t u h g
  binaries env at op.Remainder t u h g = both env at op.Remainder t u h g
  binaries env at op.Modulo t u h g = both env at op.Modulo t u h g
  binaries env at op.And t u h g = both env at op.And t u h g
  binaries env at op.AndNot t u h g = both env at op.AndNot t u h g
  binaries env at op.Or t u h g = both env at op.Or t u h g
  binaries env at op.Xor t u h g = both env at op.Xor t u h g
  binaries env at op.ShiftLeft t u h g = both env at op.ShiftLeft t u h g
  binaries env at op.ShiftRight t u h g = both env at op.ShiftRight t u h g
  binaries env at op.AndAlso t u h g = thens h (λ v. thens (truths at v) (λ b. ifs b g (pures (truth_bytes false))))
  binaries env at op.OrElse t u h g = thens h (λ v. thens (truths at v) (λ b. ifs b (pures (truth_bytes true)) g))
  binaries env at op.Equal t u h g = both env at op.Equal t u h g
  binaries env at op.Unequal t u h g = both env at op.Unequal t u h g
  binaries env at op.Less t u h g = both env at op.Less t u h g
  binaries env at op.Greater t u h g = both env at op.Greater t u h g
  binaries env at op.AtMost t u h g = both env at op.AtMost t u h g
  binaries env at op.AtLeast t u h g = both env at op.AtLeast t u h g

  -- ---- conversions and unions
  conversions : (env : s.Env) (at : a.Within In) (u t : ℕ) (b : Bool) (v : Value) → Same (o.converted env at.place u t b v) (o.converted env at.place u t b v)
  conversions env at u t true v = thens (wholes env at u v) (λ z. pures _)
  conversions env at u t false v = pures (s.is v)

  pub converts : (env : s.Env) (at : a.Within In) (u t : ℕ) {m n : s.Do Value} → Same m n → Same (o.run_convert env at.place u t m) (o.run_convert env at.place u t n)
  converts env at u t h = thens h (λ v. conversions env at u t (o.IsWhole (s.shape_of env u) && o.IsWhole (s.shape_of env t)) v)

  pub puts : (env : s.Env) (t variant : ℕ) (v : Value) → Same (o.put_in env t variant v) (o.put_in env t variant v)
  puts env t variant v = thens (r.spends _) (λ _. pures (o.injected env t variant v))

  pub injects : (env : s.Env) (t variant : ℕ) {m n : s.Do Value} → Same m n → Same (o.run_inject env t variant m) (o.run_inject env t variant n)
  injects env t variant h = a.givens In S Stops r (thens h (λ v. puts env t variant v))

  pub tags : (env : s.Env) (at : a.Within In) (t : ℕ) (v : Value) → Same (o.tag_of env at.place t v) (o.tag_of env at.place t v)
  tags env at t v = knowns at (number_of (piece (o.tag_offset (s.shape_of env t)) 8 v))

  pub helds : (env : s.Env) (at : a.Within In) (t : ℕ) (v : Value) → Same (o.held env at.place t v) (o.held env at.place t v)
  helds env at t v = pl.as_reads In S Stops r at (s.shape_of env t) (piece 0 (s.size_of env t) v)

  holdings : (env : s.Env) (at : a.Within In) (t variant : ℕ) (v : Value) → Same (o.holds env at.place t variant v) (o.holds env at.place t variant v)
  holdings env at t variant v = thens (tags env at t v) (λ k. thens (r.spends 1) (λ _. pures (k == variant)))

  outcomes : (env : s.Env) (at : a.Within In) (t : ℕ) (v : Value) (b : Bool) → Same (o.asserted env at.place t v b) (o.asserted env at.place t v b)
  outcomes env at t v true = helds env at t v
  outcomes env at t v false = fails check.Assertion at

  pairs : (env : s.Env) (at : a.Within In) (t : ℕ) (v : Value) (b : Bool) → Same (o.tested env at.place t v b) (o.tested env at.place t v b)
  pairs env at t v true = thens (helds env at t v) (λ w. pures _)
  pairs env at t v false = thens (r.spends (moved (s.size_of env t))) (λ _. pures (zeros (s.size_of env t) ++ truth_bytes false))

  pub asserts : (env : s.Env) (at : a.Within In) (union_ty t variant : ℕ) {m n : s.Do Value} → Same m n → Same (o.run_assert env at.place union_ty t variant m) (o.run_assert env at.place union_ty t variant n)
  asserts env at union_ty t variant h = a.givens In S Stops r (thens h (λ v. thens (holdings env at union_ty variant v) (λ b. outcomes env at t v b)))

  pub tests : (env : s.Env) (at : a.Within In) (union_ty t variant : ℕ) {m n : s.Do Value} → Same m n → Same (o.run_test env at.place union_ty t variant m) (o.run_test env at.place union_ty t variant n)
  tests env at union_ty t variant h = a.givens In S Stops r (thens h (λ v. thens (holdings env at union_ty variant v) (λ b. pairs env at (o.first_type (s.shape_of env t)) v b)))

  -- ---- printing
  pub prints : (bytes : List ℕ) → Same (w.print bytes) (w.print bytes)
  prints bytes = thens (r.spends (length bytes)) (λ _. r.tells (map out bytes))

  names : (es : List q.Enumerator) (z : ℤ) → Same (w.print_name es z) (w.print_name es z)
  names [] z = prints (w.int_text z)
  names (e ∷ es) z = thens (r.spends 1) (λ _. ifs (int_eq e.value z) (prints e.name) (names es z))

  shapes : (at : a.Within In) (n : ℕ) (x : q.Shape) (v : Value) → Same (w.print_shaped at.place n x v) (w.print_shaped at.place n x v)
  shapes at n q.truth v = thens (truths at v) (λ b. prints (w.truth_text b))
  shapes at n (q.whole width) v = thens (knowns at (int_of (is_signed width) n v)) (λ z. prints (w.int_text z))
  shapes at n q.rune v = thens (knowns at (int_of true n v)) (λ z. prints (w.rune_text z))
  shapes at n (q.names width es) v = thens (knowns at (int_of (is_signed width) n v)) (λ z. names es z)
  shapes at n q.text v = thens (texts_read at v) (λ bytes. prints bytes)
  shapes at n _ v = strays at

  print_rests : (env : s.Env) (at : a.Within In) (ts : List ℕ) (vs : List Value) → Same (w.print_rest env at.place ts vs) (w.print_rest env at.place ts vs)
  print_rests env at [] vs = pures tt
  print_rests env at (x ∷ ts) [] = pures tt
  print_rests env at (x ∷ ts) (v ∷ vs) = thens (thens (prints (32 ∷ [])) (λ _. shapes at (s.size_of env x) (s.shape_of env x) v)) (λ _. print_rests env at ts vs)

  pub print_alls : (env : s.Env) (at : a.Within In) (ts : List ℕ) (vs : List Value) → Same (w.print_all env at.place ts vs) (w.print_all env at.place ts vs)
  print_alls env at [] vs = pures tt
  print_alls env at (x ∷ ts) [] = pures tt
  print_alls env at (x ∷ ts) (v ∷ vs) = thens (shapes at (s.size_of env x) (s.shape_of env x) v) (λ _. print_rests env at ts vs)
