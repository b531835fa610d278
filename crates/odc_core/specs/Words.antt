-- The operations of core and mid code on words, which are those of the instructions.
use Rattle.std.specs.Prelude.{ℕ, ◌+◌, ◌-◌, ◌*◌, ◌/◌, ◌%◌, ◌^◌, ◌==◌, not, nat_lt, bit_and, bit_or, bit_xor, List, [], ◌∷◌, zero, suc}
use Rattle.std.specs.Int.{w64}
use Rattle.rv_table.specs.Words.{plus, minus, flag, extended, signed_below, shifted_left, shifted_right, shifted_signed, quotient, remainder, quotient_unsigned, remainder_unsigned}
use Rattle.odc_core.specs.declared.tree.Width.{Width}
use Rattle.odc_core.specs.declared.tree.Width.TheVariants.{Byte, Half, Word, Double}
use Rattle.odc_core.specs.declared.tree.UnaryOp.{UnaryOp}
use Rattle.odc_core.specs.declared.tree.UnaryOp.TheVariants.{Complement, SignByte, SignHalf, SignWord}
use Rattle.odc_core.specs.declared.tree.BinaryOp.{BinaryOp}
use Rattle.odc_core.specs.declared.tree.BinaryOp.TheVariants.{Add, Subtract, Multiply, Divide, DivideUnsigned, Remainder, RemainderUnsigned, And, Or, Xor, ShiftLeft, ShiftRight, ShiftRightSigned}
use Rattle.odc_core.specs.declared.tree.Comparison.{Comparison}
use Rattle.odc_core.specs.declared.tree.Comparison.TheVariants.{Equal, Different, Less, Below}

abbrev pub width_size : Width → ℕ
width_size Byte = 1
width_size Half = 2
width_size Word = 4
width_size Double = 8

abbrev pub unary_word : UnaryOp → ℕ → ℕ
unary_word Complement a = 2 ^ 64 - 1 - a
unary_word SignByte a = extended 8 (a % 2 ^ 8)
unary_word SignHalf a = extended 16 (a % 2 ^ 16)
unary_word SignWord a = extended 32 (a % 2 ^ 32)

abbrev pub binary_word : BinaryOp → ℕ → ℕ → ℕ
binary_word Add a b = plus a b
binary_word Subtract a b = minus a b
binary_word Multiply a b = a * b % 2 ^ 64
binary_word Divide a b = quotient w64 a b
binary_word DivideUnsigned a b = quotient_unsigned 64 a b
binary_word Remainder a b = remainder w64 a b
binary_word RemainderUnsigned a b = remainder_unsigned a b
binary_word And a b = bit_and a b
binary_word Or a b = bit_or a b
binary_word Xor a b = bit_xor a b
binary_word ShiftLeft a b = shifted_left 64 a (b % 64)
binary_word ShiftRight a b = shifted_right a (b % 64)
binary_word ShiftRightSigned a b = shifted_signed 64 a (b % 64)

abbrev pub compare_words : Comparison → ℕ → ℕ → ℕ
compare_words Equal a b = flag (a == b)
compare_words Different a b = flag (not (a == b))
compare_words Less a b = flag (signed_below a b)
compare_words Below a b = flag (nat_lt a b)

-- the number that bytes are, the lowest first
abbrev pub number_of : List ℕ → ℕ
number_of [] = 0
number_of (b ∷ bs) = b + 256 * number_of bs

-- the lowest n bytes of a number, the lowest first
abbrev pub bytes_of : ℕ → ℕ → List ℕ
bytes_of zero v = []
bytes_of (suc n) v = v % 256 ∷ bytes_of n (v / 256)
