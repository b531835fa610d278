-- What the operators give on integers.
use Rattle.std.specs.Prelude.{◌≡◌, ◌≢◌, ℤ, pos, negsuc, ◌+ℤ◌, ◌-ℤ◌, ◌*ℤ◌, Bool, true, false, not, int_lt, int_div, int_rem, FitsSigned, if◌then◌else◌}
use Rattle.std.specs.Ordering.{int_eq}
use Rattle.std.specs.Int.{w128, int_bit_and, int_bit_or, int_bit_xor, int_bit_not, is_negative}
use Rattle.odc_constants.specs.declared.fold.Arithmetic.{Arithmetic}
use Rattle.odc_constants.specs.declared.fold.Arithmetic.TheVariants.{Add, Subtract, Multiply, Divide, Remainder, Modulo, And, AndNot, Or, Xor}
use Rattle.odc_constants.specs.declared.fold.Comparison.{Comparison}
use Rattle.odc_constants.specs.declared.fold.Comparison.TheVariants.{Equal, Unequal, Less, Greater, AtMost, AtLeast}

-- the remainder that has the sign of the divisor, from the one that has the sign of the dividend
abbrev pub with_sign_of : ℤ → ℤ → ℤ
with_sign_of b rest = if int_eq rest (pos 0) then rest else if is_negative rest then (if is_negative b then rest else rest +ℤ b) else (if is_negative b then rest +ℤ b else rest)

-- the exact result; of division by 0 there is none
abbrev pub exact : Arithmetic → ℤ → ℤ → ℤ
exact Add a b = a +ℤ b
exact Subtract a b = a -ℤ b
exact Multiply a b = a *ℤ b
exact Divide a b = int_div a b
exact Remainder a b = int_rem a b
exact Modulo a b = with_sign_of b (int_rem a b)
exact And a b = int_bit_and w128 a b
exact AndNot a b = int_bit_and w128 a (int_bit_not w128 b)
exact Or a b = int_bit_or w128 a b
exact Xor a b = int_bit_xor w128 a b

abbrev pub divides : Arithmetic → Bool
divides Divide = true
divides Remainder = true
divides Modulo = true
divides _ = false

-- the operator has a result on these, and that is a constant
pub record IsFolded (op : Arithmetic) (a b : ℤ) : Type 0 where
  pub divisor : divides op ≡ true → b ≢ pos 0
  pub fits : FitsSigned w128 (exact op a b)

abbrev pub compared : Comparison → ℤ → ℤ → Bool
compared Equal a b = int_eq a b
compared Unequal a b = not (int_eq a b)
compared Less a b = int_lt a b
compared Greater a b = int_lt b a
compared AtMost a b = not (int_lt b a)
compared AtLeast a b = not (int_lt a b)

-- what is left of a number of which every bit is shifted out to the right
abbrev pub shifted_out : ℤ → ℤ
shifted_out (pos n) = pos 0
shifted_out (negsuc n) = negsuc 0
