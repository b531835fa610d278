-- Operators, conversions and unions.
use Rattle.std.specs.Prelude.{ℕ, zero, suc, ◌+◌, ◌-◌, ◌*◌, ◌/◌, ◌%◌, ◌^◌, ◌==◌, ◌&&◌, ◌||◌, not, Bool, true, false, nat_le, nat_lt, int_lt, int_div, int_rem, if◌then◌else◌, ℤ, pos, negsuc, ◌+ℤ◌, ◌-ℤ◌, ◌*ℤ◌, List, [], ◌∷◌, ◌++◌, length, min, Option, Some, None}
use Rattle.std.specs.Ordering.{int_eq}
use Rattle.odc_text.specs.declared.place.Place.{Place}
use Rattle.odc_text.specs.declared.check.Check.TheVariants as check
use Rattle.odc_types.specs.Widths.{is_signed}
use Rattle.odc_program.specs.declared.ops.UnaryOp.{UnaryOp}
use Rattle.odc_program.specs.declared.ops.UnaryOp.TheVariants as un
use Rattle.odc_program.specs.declared.ops.BinaryOp.{BinaryOp}
use Rattle.odc_program.specs.declared.ops.BinaryOp.TheVariants as op
use Rattle.odc_program.specs.States.Run.{pure, ◌>>=◌, ◌>>>◌, moved}
use Rattle.odc_program.specs.States.Bytes.{number, Pointer, nil, to, Value, number_of, zeros, residue, int_bytes, int_of, truth_bytes, pointer_of, procedure_of, piece, same}
use Rattle.odc_program.specs.Trees.Program.{Shape, truth, whole, rune, names, text, raw, address, slice, dynamic, soa_slice, soa_dynamic, variants, procedure, several}
use Rattle.odc_program.specs.States.State.{Do, spend, stray, known, fail, read_at, is_live, Base, is, Env, size_of, shape_of}
use Rattle.odc_program.specs.Kinds.Places.{read_truth, as_read, gives, whole_of}

-- ---- one operand
abbrev pub complement : ℤ → ℤ
complement z = (pos 0 -ℤ z) -ℤ pos 1

abbrev pub unary_value : Env → Place → ℕ → UnaryOp → Value → Do Base
unary_value env at t un.Plus v = pure (is v)
unary_value env at t un.Negate v = whole_of env at t v >>= (λ z. pure (is (int_bytes (size_of env t) (pos 0 -ℤ z))))
unary_value env at t un.Complement v = whole_of env at t v >>= (λ z. pure (is (int_bytes (size_of env t) (complement z))))
unary_value env at t un.Not v = read_truth at v >>= (λ b. pure (is (truth_bytes (not b))))

abbrev pub run_unary : Env → Place → ℕ → UnaryOp → Do Value → Do Base
run_unary env at t o m = m >>= unary_value env at t o

-- ---- arithmetic; a result is wrapped by being stored in its bytes
abbrev pub divided : Place → ℕ → ℤ → ℤ → Do Value
divided at size z y = if int_eq y (pos 0) then fail check.Division at else pure (int_bytes size z)

-- the remainder with the sign of the divisor
abbrev pub modulo : ℤ → ℤ → ℤ
modulo y (pos m) = pos (residue m y)
modulo y (negsuc m) = pos 0 -ℤ pos (residue (m + 1) (pos 0 -ℤ y))

-- bit by bit
abbrev pub bits_by : (ℕ → ℕ → ℕ) → ℕ → ℕ → ℕ → ℕ
bits_by f zero a b = 0
bits_by f (suc k) a b = f (a % 2) (b % 2) + 2 * bits_by f k (a / 2) (b / 2)

abbrev pub bits : (ℕ → ℕ → ℕ) → ℕ → ℤ → ℤ → Value
bits f size y z = int_bytes size (pos (bits_by f (8 * size) (residue (2 ^ (8 * size)) y) (residue (2 ^ (8 * size)) z)))

abbrev pub both_bits : ℕ → ℕ → ℕ
both_bits a b = a * b

abbrev pub first_alone : ℕ → ℕ → ℕ
first_alone a b = a * (1 - b)

abbrev pub any_bit : ℕ → ℕ → ℕ
any_bit a b = a + b - a * b

abbrev pub other_bit : ℕ → ℕ → ℕ
other_bit a b = (a + b) % 2

abbrev pub shifted_left : ℕ → ℤ → ℕ → ℤ
shifted_left size y n = if nat_le (8 * size) n then pos 0 else (y *ℤ pos (2 ^ n))

abbrev pub shifted_right : ℕ → ℤ → ℕ → ℤ
shifted_right size (pos y) n = if nat_le (8 * size) n then pos 0 else pos (y / 2 ^ n)
shifted_right size (negsuc y) n = if nat_le (8 * size) n then negsuc 0 else negsuc (y / 2 ^ n)

-- a shift by so many bits; a negative count shifts by none
abbrev pub shifted : BinaryOp → ℕ → ℤ → ℤ → Value
shifted op.ShiftLeft size y (pos n) = int_bytes size (shifted_left size y n)
shifted op.ShiftRight size y (pos n) = int_bytes size (shifted_right size y n)
shifted _ size y z = int_bytes size y

-- ---- comparisons
abbrev pub IsOrder : BinaryOp → Bool
IsOrder op.Less = true
IsOrder op.Greater = true
IsOrder op.AtMost = true
IsOrder op.AtLeast = true
IsOrder _ = false

-- what a comparison says of two things, given whether they are equal and whether the first comes first
abbrev pub says : BinaryOp → Bool → Bool → Bool
says op.Equal equal before = equal
says op.Unequal equal before = not equal
says op.Less equal before = before
says op.Greater equal before = not (equal || before)
says op.AtMost equal before = equal || before
says op.AtLeast equal before = not before
says _ equal before = false

abbrev pub compared : ℕ → Bool → Do Value
compared n b = spend (moved n) >>> pure (truth_bytes b)

abbrev pub calculate : Place → BinaryOp → ℕ → ℤ → ℤ → Do Value
calculate at op.Add n y z = pure (int_bytes n (y +ℤ z))
calculate at op.Subtract n y z = pure (int_bytes n (y -ℤ z))
calculate at op.Multiply n y z = pure (int_bytes n (y *ℤ z))
calculate at op.Divide n y z = divided at n (int_div y z) z
calculate at op.Remainder n y z = divided at n (int_rem y z) z
calculate at op.Modulo n y z = divided at n (modulo y z) z
calculate at op.And n y z = pure (bits both_bits n y z)
calculate at op.AndNot n y z = pure (bits first_alone n y z)
calculate at op.Or n y z = pure (bits any_bit n y z)
calculate at op.Xor n y z = pure (bits other_bit n y z)
calculate at op.ShiftLeft n y z = pure (shifted op.ShiftLeft n y z)
calculate at op.ShiftRight n y z = pure (shifted op.ShiftRight n y z)
calculate at op.AndAlso n y z = stray at
calculate at op.OrElse n y z = stray at
calculate at o n y z = compared n (says o (int_eq y z) (int_lt y z))

abbrev pub same_pointer : Pointer → Pointer → Bool
same_pointer nil nil = true
same_pointer nil (to b o) = false
same_pointer (to b o) nil = false
same_pointer (to b o) (to c p) = same b c && (o == p)

abbrev pub equal_pointers : Place → BinaryOp → Pointer → Pointer → Do Value
equal_pointers at o p q = is_live at p >>> is_live at q >>> compared 8 (says o (same_pointer p q) false)

abbrev pub addresses_by : Place → BinaryOp → Value → Value → Do Value
addresses_by at o v w = known at (pointer_of v) >>= (λ p. known at (pointer_of w) >>= (λ q. equal_pointers at o p q))

abbrev pub same_procedure : Option ℕ → Option ℕ → Bool
same_procedure None None = true
same_procedure (Some f) (Some g) = f == g
same_procedure _ _ = false

-- texts: bytes of both are read, and compared as far as both go
abbrev pub plain_numbers : Value → Option (List ℕ)
plain_numbers [] = Some []
plain_numbers (number n ∷ vs) = elim (plain_numbers vs) [ None ↦ None | Some ns ↦ Some (n ∷ ns) ]
plain_numbers (_ ∷ vs) = None

abbrev pub same_text : List ℕ → List ℕ → Bool
same_text [] [] = true
same_text (a ∷ x) (b ∷ y) = (a == b) && same_text x y
same_text _ _ = false

abbrev pub text_before : List ℕ → List ℕ → Bool
text_before [] [] = false
text_before [] (b ∷ y) = true
text_before (a ∷ x) [] = false
text_before (a ∷ x) (b ∷ y) = nat_lt a b || ((a == b) && text_before x y)

abbrev pub read_text : Place → Value → Do (List ℕ)
read_text at v = known at (pointer_of (piece 0 8 v)) >>= (λ p. known at (number_of (piece 8 8 v)) >>= (λ l. read_at at p l >>= (λ bytes. known at (plain_numbers bytes))))

abbrev pub texts_by : Place → BinaryOp → Value → Value → Do Value
texts_by at o v w = read_text at v >>= (λ x. read_text at w >>= (λ y. compared (min (length x) (length y)) (says o (same_text x y) (text_before x y))))

abbrev pub wholes_by : Place → BinaryOp → ℕ → Option ℤ → Option ℤ → Do Value
wholes_by at o size y z = known at y >>= (λ y. known at z >>= (λ z. calculate at o size y z))

abbrev pub tag_offset : Shape → ℕ
tag_offset (variants tag tys) = tag
tag_offset _ = 0

-- two values of a shape; a slice, a dynamic array and a union are compared with nil alone, by their address or tag
abbrev pub by_shape : Env → Place → BinaryOp → ℕ → Shape → Value → Value → Do Value
by_shape env at o size (whole width) v w = wholes_by at o size (int_of (is_signed width) size v) (int_of (is_signed width) size w)
by_shape env at o size rune v w = wholes_by at o size (int_of true size v) (int_of true size w)
by_shape env at o size (names width es) v w = wholes_by at o size (int_of (is_signed width) size v) (int_of (is_signed width) size w)
by_shape env at o size truth v w = wholes_by at o size (int_of false size v) (int_of false size w)
by_shape env at o size text v w = texts_by at o v w
by_shape env at o size raw v w = addresses_by at o v w
by_shape env at o size (address t) v w = addresses_by at o v w
by_shape env at o size (slice t) v w = addresses_by at o (piece 0 8 v) (piece 0 8 w)
by_shape env at o size (dynamic t) v w = addresses_by at o (piece 0 8 v) (piece 0 8 w)
by_shape env at o size (soa_slice t) v w = addresses_by at o (piece 0 8 v) (piece 0 8 w)
by_shape env at o size (soa_dynamic t) v w = addresses_by at o (piece 0 8 v) (piece 0 8 w)
by_shape env at o size (variants tag ts) v w = wholes_by at o 8 (int_of false 8 (piece tag 8 v)) (int_of false 8 (piece tag 8 w))
by_shape env at o size (procedure odin ps rs) v w = known at (procedure_of v) >>= (λ f. known at (procedure_of w) >>= (λ g. compared 8 (says o (same_procedure f g) false)))
by_shape env at o size _ v w = stray at

-- the count of a shift has a type of its own
abbrev pub shift_by : Env → Place → BinaryOp → ℕ → ℕ → Value → Value → Do Value
shift_by env at o t u v w = whole_of env at t v >>= (λ y. whole_of env at u w >>= (λ z. pure (shifted o (size_of env t) y z)))

abbrev pub operate : Env → Place → BinaryOp → ℕ → ℕ → Value → Value → Do Value
operate env at op.ShiftLeft t u v w = shift_by env at op.ShiftLeft t u v w
operate env at op.ShiftRight t u v w = shift_by env at op.ShiftRight t u v w
operate env at o t u v w = by_shape env at o (size_of env t) (shape_of env t) v w

-- the right side of `&&` and `||` only where it is needed; `t` and `u` are the operands' types
abbrev pub run_binary : Env → Place → BinaryOp → ℕ → ℕ → Do Value → Do Value → Do Value
run_binary env at op.AndAlso t u m n = m >>= (λ v. read_truth at v >>= (λ b. if b then n else pure (truth_bytes false)))
run_binary env at op.OrElse t u m n = m >>= (λ v. read_truth at v >>= (λ b. if b then pure (truth_bytes true) else n))
run_binary env at o t u m n = m >>= (λ v. n >>= (λ w. operate env at o t u v w))

-- ---- conversions: numbers are wrapped, all else keeps its bytes
abbrev pub IsWhole : Shape → Bool
IsWhole (whole s) = true
IsWhole rune = true
IsWhole (names s es) = true
IsWhole _ = false

abbrev pub converted : Env → Place → ℕ → ℕ → Bool → Value → Do Base
converted env at u t true v = whole_of env at u v >>= (λ z. pure (is (int_bytes (size_of env t) z)))
converted env at u t false v = pure (is v)

abbrev pub run_convert : Env → Place → ℕ → ℕ → Do Value → Do Base
run_convert env at u t m = m >>= converted env at u t (IsWhole (shape_of env u) && IsWhole (shape_of env t))

-- ---- unions
abbrev pub union_bytes : ℕ → ℕ → Value → Value
union_bytes offset variant v = v ++ zeros (offset - length v) ++ int_bytes 8 (pos variant)

abbrev pub injected : Env → ℕ → ℕ → Value → Value
injected env t variant v = union_bytes (tag_offset (shape_of env t)) variant v

-- the value is moved to its place, the bytes between it and the tag are zeroed, and the tag is moved
abbrev pub put_in : Env → ℕ → ℕ → Value → Do Value
put_in env t variant v =
    spend (moved (length v) + moved (tag_offset (shape_of env t) - length v) + 1) >>> pure (injected env t variant v)

abbrev pub run_inject : Env → ℕ → ℕ → Do Value → Do Base
run_inject env t variant m = gives (m >>= put_in env t variant)

abbrev pub tag_of : Env → Place → ℕ → Value → Do ℕ
tag_of env at t v = known at (number_of (piece (tag_offset (shape_of env t)) 8 v))

-- what a union holds, read as a value of its variant
abbrev pub held : Env → Place → ℕ → Value → Do Value
held env at t v = as_read at (shape_of env t) (piece 0 (size_of env t) v)

-- whether a union holds a variant: its tag is compared
abbrev pub holds : Env → Place → ℕ → ℕ → Value → Do Bool
holds env at t variant v = tag_of env at t v >>= (λ k. spend 1 >>> pure (k == variant))

abbrev pub asserted : Env → Place → ℕ → Value → Bool → Do Value
asserted env at t v true = held env at t v
asserted env at t v false = fail check.Assertion at

abbrev pub run_assert : Env → Place → ℕ → ℕ → ℕ → Do Value → Do Base
run_assert env at union_ty t variant m = gives (m >>= (λ v. holds env at union_ty variant v >>= asserted env at t v))

abbrev pub first_type : Shape → ℕ
first_type (several (t ∷ ts)) = t
first_type _ = 0

-- what the union holds, and true; or zeros and false
abbrev pub tested : Env → Place → ℕ → Value → Bool → Do Value
tested env at t v true = held env at t v >>= (λ w. pure (w ++ truth_bytes true))
tested env at t v false = spend (moved (size_of env t)) >>> pure (zeros (size_of env t) ++ truth_bytes false)

abbrev pub run_test : Env → Place → ℕ → ℕ → ℕ → Do Value → Do Base
run_test env at union_ty t variant m = gives (m >>= (λ v. holds env at union_ty variant v >>= tested env at (first_type (shape_of env t)) v))
