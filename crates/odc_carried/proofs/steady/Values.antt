-- Values that stray nowhere: operators on integers and truth values, and values as they are read and printed.
use Rattle.std.proofs.Common.{◌≡◌, ℕ, zero, suc, ◌+◌, ◌*◌, ◌/◌, ◌^◌, Bool, true, false, List, [], ◌∷◌, length, ap, ◌∙◌, sym, subst, refl}
use Rattle.std.specs.Prelude.{ℤ, pos, ◌-ℤ◌, ◌==◌, ◌||◌, not, int_div, int_rem, Some, option_map, map, if◌then◌else◌}
use Rattle.std.specs.Ordering.{int_eq}
use Rattle.odc_text.specs.declared.place.Place.{Place}
use Rattle.odc_text.specs.declared.check.Check.TheVariants as check
use Rattle.odc_text.specs.Run.{out}
use Rattle.odc_types.specs.Widths.{is_signed}
use Rattle.odc_program.specs.declared.ops.Constant.TheVariants as con
use Rattle.odc_program.specs.declared.ops.UnaryOp.TheVariants as un
use Rattle.odc_program.specs.declared.ops.BinaryOp.{BinaryOp}
use Rattle.odc_program.specs.declared.ops.BinaryOp.TheVariants as op
use Rattle.odc_program.specs.States.Bytes.{to, number, of_address, of_procedure, Value, bytes_of, number_of, after_byte, residue, int_bytes, signed_of, int_of, truth_bytes}
use Rattle.odc_program.specs.States.Run.{pure, ◌>>=◌, moved}
use Rattle.odc_program.specs.States.State.{Do, known, tick, leave_behind, fail, read_at, spot, Base, lies, is, views, Context}
use Rattle.odc_program.specs.Kinds.Places.{read_truth, as_read, value_in, as_value, gives, run_local, run_const, whole_by, whole_of}
use Rattle.odc_program.specs.Kinds.Operators.{run_unary, unary_value, compared, calculate, by_shape, wholes_by, run_binary}
use Rattle.odc_program.specs.Kinds.Printing.{print, int_text, print_shaped, print_value, print_rest, print_all}
use Rattle.odc_program.specs.Trees.Program.{Shape, several, Tables}
use Rattle.odc_program.specs.Typing.WellTypes.{has}
use Rattle.odc_carried.specs.Carried.{type_in, is_nothing, is_empty_shape, is_plain, is_quotient, is_comparison, is_connective}
use Rattle.odc_carried.proofs.Quiet.{IntType, BoolType}
use Rattle.odc_carried.proofs.steady.Outcomes.{ArePlain, IsWord, AreWords}
use Rattle.odc_carried.proofs.steady.Actions.{Activation, env, block, Safe, Any, safe_then, safe_pure, safe_spend, safe_tell, safe_tick, safe_fail, safe_known, safe_if, safe_read}

-- ---- bytes of numbers
pub plain_number : (v : Value) → ArePlain v → (n : ℕ) × (number_of v ≡ Some n)
plain_number [] h = (0, refl)
plain_number (number n ∷ v) h = let k = plain_number v h.1 in (n + 256 * k.0, ap (after_byte n) k.1)
plain_number (of_address b o k ∷ v) h = absurd h.0
plain_number (of_procedure f k ∷ v) h = absurd h.0

pub plain_int : (signed : Bool) (size : ℕ) (v : Value) → ArePlain v → (z : ℤ) × (int_of signed size v ≡ Some z)
plain_int true size v h = let k = plain_number v h in (signed_of size k.0, ap (option_map (signed_of size)) k.1)
plain_int false size v h = let k = plain_number v h in (pos k.0, ap (option_map (λ n. pos n)) k.1)

bytes_plain : (n v : ℕ) → ArePlain (bytes_of n v)
bytes_plain zero v = tt
bytes_plain (suc n) v = (tt, bytes_plain n (v / 256))

length_bytes : (n v : ℕ) → length (bytes_of n v) ≡ n
length_bytes zero v = refl
length_bytes (suc n) v = ap suc (length_bytes n (v / 256))

pub int_word : (n : ℕ) (z : ℤ) → n ≡ 8 → IsWord (int_bytes n z)
int_word n z e = record { long = length_bytes n (residue (2 ^ 64) z) ∙ e; plain = bytes_plain n (residue (2 ^ 64) z) }

pub truth_plain : (b : Bool) → ArePlain (truth_bytes b)
truth_plain b = (tt, tt)

-- what a node gives, where that is a value
abbrev pub Gives : (Value → Type 0) → Base → Type 0
Gives P (is v) = P v
Gives P (lies s) = ⊥
Gives P (views b t k) = ⊥

abbrev pub AreIntTypes : Tables → List ℕ → Type 0
AreIntTypes tables [] = Unit {0}
AreIntTypes tables (t ∷ ts) = IntType tables t × AreIntTypes tables ts

module _ (a : Activation) (xs : List ℕ) (c : Context) where
  pub safe_gives : {P : Value → Type 0} (m : Do Value) → Safe a xs P m → Safe a xs (Gives P) (gives m)
  safe_gives {P} m p = safe_then a xs (Gives P) (λ v. pure (is v)) p (λ v h. safe_pure a xs (Gives P) (is v) h)

  -- ---- numbers that are read
  pub safe_truth : (at : Place) (v : Value) → ArePlain v → Safe a xs (Any a xs) (read_truth at v)
  safe_truth at v h =
      let k = plain_number v h in
      safe_then a xs (Any a xs) (λ n. pure (not (n == 0))) (safe_known a xs (Any a xs) at (number_of v) k.0 k.1 tt) (λ n _. safe_pure a xs (Any a xs) (not (n == 0)) tt)

  pub safe_whole : (at : Place) (t : ℕ) (v : Value) → IntType a.tables t → ArePlain v → Safe a xs (Any a xs) (whole_of (env a c) at t v)
  safe_whole at t v i h =
      let size : ℕ = (type_in a.tables t).size in
      let k = plain_int (is_signed i.width) size v h in
      let M : Shape → Type 0 = λ s. Safe a xs (Any a xs) (whole_by at size s v) in
      subst M (sym i.shape) (safe_known a xs (Any a xs) at (int_of (is_signed i.width) size v) k.0 k.1 tt)

  -- ---- operators on two integers
  int_result : (o : BinaryOp) (at : Place) (y z : ℤ) → (is_plain o || is_quotient o) ≡ true → Safe a xs IsWord (calculate at o 8 y z)
  int_result op.Add at y z e = safe_pure a xs IsWord _ (int_word 8 _ refl)
  int_result op.Subtract at y z e = safe_pure a xs IsWord _ (int_word 8 _ refl)
  int_result op.Multiply at y z e = safe_pure a xs IsWord _ (int_word 8 _ refl)
  int_result op.Divide at y z e = safe_if a xs IsWord (fail check.Division at) (pure (int_bytes 8 (int_div y z))) (int_eq z (pos 0)) (safe_fail a xs IsWord check.Division at) (safe_pure a xs IsWord _ (int_word 8 _ refl))
  int_result op.Remainder at y z e = safe_if a xs IsWord (fail check.Division at) (pure (int_bytes 8 (int_rem y z))) (int_eq z (pos 0)) (safe_fail a xs IsWord check.Division at) (safe_pure a xs IsWord _ (int_word 8 _ refl))
  int_result o at y z e = absurd (cc)

  safe_compared : (n : ℕ) (b : Bool) → Safe a xs ArePlain (compared n b)
  safe_compared n b = safe_then a xs ArePlain (λ _. pure (truth_bytes b)) (safe_spend a xs (moved n)) (λ _ _. safe_pure a xs ArePlain (truth_bytes b) (truth_plain b))

  truth_result : (o : BinaryOp) (at : Place) (y z : ℤ) → is_comparison o ≡ true → Safe a xs ArePlain (calculate at o 8 y z)
  truth_result op.Equal at y z e = safe_compared 8 _
  truth_result op.Unequal at y z e = safe_compared 8 _
  truth_result op.Less at y z e = safe_compared 8 _
  truth_result op.Greater at y z e = safe_compared 8 _
  truth_result op.AtMost at y z e = safe_compared 8 _
  truth_result op.AtLeast at y z e = safe_compared 8 _
  truth_result o at y z e = absurd (cc)

  operated : (P : Value → Type 0) (o : BinaryOp) (at : Place) (t : ℕ) (v w : Value) → IntType a.tables t → ArePlain v → ArePlain w → ((y z : ℤ) → Safe a xs P (calculate at o 8 y z)) →
      Safe a xs P (by_shape (env a c) at o (type_in a.tables t).size (type_in a.tables t).shape v w)
  operated P o at t v w i p q k =
      let M : Shape → Type 0 = λ s. Safe a xs P (by_shape (env a c) at o (type_in a.tables t).size s v w) in
      let y = plain_int (is_signed i.width) 8 v p in
      let z = plain_int (is_signed i.width) 8 w q in
      let N : ℕ → Type 0 = λ n. Safe a xs P (wholes_by at o n (int_of (is_signed i.width) n v) (int_of (is_signed i.width) n w)) in
      subst M (sym i.shape) (subst N (sym i.size)
      (safe_then a xs P (λ y. known at (int_of (is_signed i.width) 8 w) >>= (λ z. calculate at o 8 y z)) (safe_known a xs (Any a xs) at (int_of (is_signed i.width) 8 v) y.0 y.1 tt)
      (λ y _. safe_then a xs P (λ z. calculate at o 8 y z) (safe_known a xs (Any a xs) at (int_of (is_signed i.width) 8 w) z.0 z.1 tt) (λ z _. k y z))))

  module _ (at : Place) (t : ℕ) (m n : Do Value) (i : IntType a.tables t) (p : Safe a xs IsWord m) (q : Safe a xs IsWord n) where
    both_operands : (P : Value → Type 0) (o : BinaryOp) → ((y z : ℤ) → Safe a xs P (calculate at o 8 y z)) →
        Safe a xs P (m >>= (λ v. n >>= (λ w. by_shape (env a c) at o (type_in a.tables t).size (type_in a.tables t).shape v w)))
    both_operands P o k =
        safe_then a xs P (λ v. n >>= (λ w. by_shape (env a c) at o (type_in a.tables t).size (type_in a.tables t).shape v w)) p
        (λ v x. safe_then a xs P (λ w. by_shape (env a c) at o (type_in a.tables t).size (type_in a.tables t).shape v w) q (λ w y. operated P o at t v w i x.plain y.plain k))

    pub int_binary : (o : BinaryOp) (u : ℕ) → (is_plain o || is_quotient o) ≡ true → Safe a xs IsWord (run_binary (env a c) at o t u m n)
    int_binary op.Add u e = both_operands IsWord op.Add (λ y z. int_result op.Add at y z refl)
    int_binary op.Subtract u e = both_operands IsWord op.Subtract (λ y z. int_result op.Subtract at y z refl)
    int_binary op.Multiply u e = both_operands IsWord op.Multiply (λ y z. int_result op.Multiply at y z refl)
    int_binary op.Divide u e = both_operands IsWord op.Divide (λ y z. int_result op.Divide at y z refl)
    int_binary op.Remainder u e = both_operands IsWord op.Remainder (λ y z. int_result op.Remainder at y z refl)
    int_binary o u e = absurd (cc)

    pub compare_binary : (o : BinaryOp) (u : ℕ) → is_comparison o ≡ true → Safe a xs ArePlain (run_binary (env a c) at o t u m n)
    compare_binary op.Equal u e = both_operands ArePlain op.Equal (λ y z. truth_result op.Equal at y z refl)
    compare_binary op.Unequal u e = both_operands ArePlain op.Unequal (λ y z. truth_result op.Unequal at y z refl)
    compare_binary op.Less u e = both_operands ArePlain op.Less (λ y z. truth_result op.Less at y z refl)
    compare_binary op.Greater u e = both_operands ArePlain op.Greater (λ y z. truth_result op.Greater at y z refl)
    compare_binary op.AtMost u e = both_operands ArePlain op.AtMost (λ y z. truth_result op.AtMost at y z refl)
    compare_binary op.AtLeast u e = both_operands ArePlain op.AtLeast (λ y z. truth_result op.AtLeast at y z refl)
    compare_binary o u e = absurd (cc)

  pub connect_binary : (o : BinaryOp) (at : Place) (t u : ℕ) (m n : Do Value) → is_connective o ≡ true → Safe a xs ArePlain m → Safe a xs ArePlain n → Safe a xs ArePlain (run_binary (env a c) at o t u m n)
  connect_binary op.AndAlso at t u m n e p q =
      safe_then a xs ArePlain (λ v. read_truth at v >>= (λ b. if b then n else pure (truth_bytes false))) p
      (λ v x. safe_then a xs ArePlain (λ b. if b then n else pure (truth_bytes false)) (safe_truth at v x) (λ b _. safe_if a xs ArePlain n (pure (truth_bytes false)) b q (safe_pure a xs ArePlain (truth_bytes false) (truth_plain false))))
  connect_binary op.OrElse at t u m n e p q =
      safe_then a xs ArePlain (λ v. read_truth at v >>= (λ b. if b then pure (truth_bytes true) else n)) p
      (λ v x. safe_then a xs ArePlain (λ b. if b then pure (truth_bytes true) else n) (safe_truth at v x) (λ b _. safe_if a xs ArePlain (pure (truth_bytes true)) n b (safe_pure a xs ArePlain (truth_bytes true) (truth_plain true)) q))
  connect_binary o at t u m n e p q = absurd (cc)

  -- ---- values as they are read
  read_int : (at : Place) (t : ℕ) (P : Value → Type 0) (v : Value) → IntType a.tables t → P v → Safe a xs P (as_read at (type_in a.tables t).shape v)
  read_int at t P v i h = let M : Shape → Type 0 = λ s. Safe a xs P (as_read at s v) in subst M (sym i.shape) (safe_pure a xs P v h)

  int_in : (at : Place) (t : ℕ) (P : Value → Type 0) (b : Base) → IntType a.tables t → Gives P b → Safe a xs P (value_in (env a c) at t b)
  int_in at t P (is v) i h = safe_then a xs P (as_read at (type_in a.tables t).shape) (safe_pure a xs P v h) (λ v h. read_int at t P v i h)
  int_in at t P (lies s) i h = absurd h
  int_in at t P (views b u k) i h = absurd h

  pub int_value : (at : Place) (t : ℕ) (P : Value → Type 0) (m : Do Base) → IntType a.tables t → Safe a xs (Gives P) m → Safe a xs P (as_value (env a c) at t (tick m))
  int_value at t P m i p = safe_then a xs P (value_in (env a c) at t) (safe_tick a xs m p) (λ b h. int_in at t P b i h)

  truth_in : (at : Place) (t : ℕ) (b : Base) → BoolType a.tables t → Gives ArePlain b → Safe a xs ArePlain (value_in (env a c) at t b)
  truth_in at t (is v) i h =
      let M : Shape → Type 0 = λ s. Safe a xs ArePlain (as_read at s v) in
      safe_then a xs ArePlain (as_read at (type_in a.tables t).shape) (safe_pure a xs (λ w. v ≡ w) v refl)
      (λ w e. let N : Value → Type 0 = λ w. Safe a xs ArePlain (as_read at (type_in a.tables t).shape w) in
      subst N e (subst M (sym i.shape) (safe_then a xs ArePlain (λ b. pure (truth_bytes b)) (safe_truth at v h) (λ b _. safe_pure a xs ArePlain (truth_bytes b) (truth_plain b)))))
  truth_in at t (lies s) i h = absurd h
  truth_in at t (views b u k) i h = absurd h

  pub truth_value : (at : Place) (t : ℕ) (m : Do Base) → BoolType a.tables t → Safe a xs (Gives ArePlain) m → Safe a xs ArePlain (as_value (env a c) at t (tick m))
  truth_value at t m i p = safe_then a xs ArePlain (value_in (env a c) at t) (safe_tick a xs m p) (λ b h. truth_in at t b i h)

  -- of an expression without values
  nothing_in : (at : Place) (t : ℕ) (P : Value → Type 0) (b : Base) → is_nothing a.tables t ≡ true → Gives P b → Safe a xs (Any a xs) (value_in (env a c) at t b)
  nothing_in at t P (is v) e h = safe_then a xs (Any a xs) (as_read at (type_in a.tables t).shape) (safe_pure a xs (Any a xs) v tt) (λ v _. by v (type_in a.tables t).shape e)
    where
      by : (v : Value) (s : Shape) → is_empty_shape s ≡ true → Safe a xs (Any a xs) (as_read at s v)
      by v (several []) e = safe_pure a xs (Any a xs) v tt
      by v _ e = absurd (cc)
  nothing_in at t P (lies s) e h = absurd h
  nothing_in at t P (views b u k) e h = absurd h

  pub nothing_value : (at : Place) (t : ℕ) (P : Value → Type 0) (m : Do Base) → is_nothing a.tables t ≡ true → Safe a xs (Gives P) m → Safe a xs (Any a xs) (as_value (env a c) at t (tick m))
  nothing_value at t P m e p = safe_then a xs (Any a xs) (value_in (env a c) at t) (safe_tick a xs m p) (λ b h. nothing_in at t P b e h)

  -- a variable that has begun
  pub local_value : (at : Place) (t x : ℕ) → IntType a.tables t → has x xs ≡ true → Safe a xs IsWord (as_value (env a c) at t (tick (run_local (env a c) x)))
  local_value at t x i begun =
      let N : ℕ → Type 0 = λ n. Safe a xs IsWord (read_at at (to (block a x) 0) n) in
      safe_tick a xs (value_in (env a c) at t (lies (spot (to (block a x) 0))))
      (safe_then a xs IsWord (as_read at (type_in a.tables t).shape) (subst N (sym i.size) (safe_read a xs at x begun)) (λ v h. read_int at t IsWord v i h))

  pub const_value : (t : ℕ) (z : ℤ) → IntType a.tables t → Safe a xs (Gives IsWord) (run_const (env a c) t (con.Int z))
  const_value t z i = safe_pure a xs (Gives IsWord) (is (int_bytes (type_in a.tables t).size z)) (int_word (type_in a.tables t).size z i.size)

  -- ---- one operand
  pub plus_value : (at : Place) (t : ℕ) (m : Do Value) → Safe a xs IsWord m → Safe a xs (Gives IsWord) (run_unary (env a c) at t un.Plus m)
  plus_value at t m p = safe_then a xs (Gives IsWord) (unary_value (env a c) at t un.Plus) p (λ v h. safe_pure a xs (Gives IsWord) (is v) h)

  pub negate_value : (at : Place) (t : ℕ) (m : Do Value) → IntType a.tables t → Safe a xs IsWord m → Safe a xs (Gives IsWord) (run_unary (env a c) at t un.Negate m)
  negate_value at t m i p =
      safe_then a xs (Gives IsWord) (unary_value (env a c) at t un.Negate) p
      (λ v h. safe_then a xs (Gives IsWord) (λ z. pure (is (int_bytes (type_in a.tables t).size (pos 0 -ℤ z)))) (safe_whole at t v i h.plain)
      (λ z _. safe_pure a xs (Gives IsWord) (is (int_bytes (type_in a.tables t).size (pos 0 -ℤ z))) (int_word (type_in a.tables t).size (pos 0 -ℤ z) i.size)))

  pub not_value : (at : Place) (t : ℕ) (m : Do Value) → Safe a xs ArePlain m → Safe a xs (Gives ArePlain) (run_unary (env a c) at t un.Not m)
  not_value at t m p =
      safe_then a xs (Gives ArePlain) (unary_value (env a c) at t un.Not) p
      (λ v h. safe_then a xs (Gives ArePlain) (λ b. pure (is (truth_bytes (not b)))) (safe_truth at v h) (λ b _. safe_pure a xs (Gives ArePlain) (is (truth_bytes (not b))) (truth_plain (not b))))

  -- ---- printed integers
  pub safe_print : (bytes : List ℕ) → Safe a xs (Any a xs) (print bytes)
  safe_print bytes = safe_then a xs (Any a xs) (λ _. leave_behind (map out bytes)) (safe_spend a xs (length bytes)) (λ _ _. safe_tell a xs (map out bytes))

  print_int : (at : Place) (t : ℕ) (v : Value) → IntType a.tables t → ArePlain v → Safe a xs (Any a xs) (print_value (env a c) at t v)
  print_int at t v i h =
      let size : ℕ = (type_in a.tables t).size in
      let k = plain_int (is_signed i.width) size v h in
      let M : Shape → Type 0 = λ s. Safe a xs (Any a xs) (print_shaped at size s v) in
      subst M (sym i.shape) (safe_then a xs (Any a xs) (λ z. print (int_text z)) (safe_known a xs (Any a xs) at (int_of (is_signed i.width) size v) k.0 k.1 tt) (λ z _. safe_print (int_text z)))

  print_more : (at : Place) (ts : List ℕ) (vs : List Value) → AreIntTypes a.tables ts → AreWords vs → Safe a xs (Any a xs) (print_rest (env a c) at ts vs)
  print_more at [] vs i h = safe_pure a xs (Any a xs) tt tt
  print_more at (t ∷ ts) [] i h = safe_pure a xs (Any a xs) tt tt
  print_more at (t ∷ ts) (v ∷ vs) i h =
      safe_then a xs (Any a xs) (λ _. print_rest (env a c) at ts vs)
      (safe_then a xs (Any a xs) (λ _. print_value (env a c) at t v) (safe_print (32 ∷ [])) (λ _ _. print_int at t v i.0 h.0.plain))
      (λ _ _. print_more at ts vs i.1 h.1)

  pub print_ints : (at : Place) (ts : List ℕ) (vs : List Value) → AreIntTypes a.tables ts → AreWords vs → Safe a xs (Any a xs) (print_all (env a c) at ts vs)
  print_ints at [] vs i h = safe_pure a xs (Any a xs) tt tt
  print_ints at (t ∷ ts) [] i h = safe_pure a xs (Any a xs) tt tt
  print_ints at (t ∷ ts) (v ∷ vs) i h = safe_then a xs (Any a xs) (λ _. print_rest (env a c) at ts vs) (print_int at t v i.0 h.0.plain) (λ _ _. print_more at ts vs i.1 h.1)
