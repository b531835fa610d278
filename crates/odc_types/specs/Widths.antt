-- The integer types: how many bytes a value has, which numbers are values, and which value a number wraps to.
use Rattle.std.specs.Prelude.{ℕ, ◌^◌, ◌*◌, ◌-◌, ℤ, pos, ◌-ℤ◌, ◌≤ℤ◌, Bool, true, false, ◌&&◌, if◌then◌else◌}
use Rattle.std.specs.Int.{int_rem_euclid}
use Rattle.std.specs.Prelude.{int_le}
use Rattle.odc_types.specs.declared.width.Width.{Width}
use Rattle.odc_types.specs.declared.width.Width.TheVariants.{Int, Uint, I8, I16, I32, I64, U8, U16, U32, U64}

-- how many bytes a value has
abbrev pub bytes_of : Width → ℕ
bytes_of Int = 8
bytes_of Uint = 8
bytes_of I8 = 1
bytes_of I16 = 2
bytes_of I32 = 4
bytes_of I64 = 8
bytes_of U8 = 1
bytes_of U16 = 2
bytes_of U32 = 4
bytes_of U64 = 8

abbrev pub bits_of : Width → ℕ
bits_of w = 8 * bytes_of w

-- whether there are negative values
abbrev pub is_signed : Width → Bool
is_signed Int = true
is_signed Uint = false
is_signed I8 = true
is_signed I16 = true
is_signed I32 = true
is_signed I64 = true
is_signed U8 = false
is_signed U16 = false
is_signed U32 = false
is_signed U64 = false

-- the least and the greatest value
abbrev pub least : Width → ℤ
least w = if is_signed w then pos 0 -ℤ pos (2 ^ (bits_of w - 1)) else pos 0

abbrev pub greatest : Width → ℤ
greatest w = if is_signed w then pos (2 ^ (bits_of w - 1) - 1) else pos (2 ^ bits_of w - 1)

pub record IsValue (w : Width) (z : ℤ) : Type 0 where
  pub low : least w ≤ℤ z
  pub high : z ≤ℤ greatest w

-- the number that the lowest bits of z stand for in two's complement
abbrev pub wrapped : Width → ℤ → ℤ
wrapped w z =
    let rest : ℤ = int_rem_euclid z (pos (2 ^ bits_of w)) in
    if is_signed w && int_le (pos (2 ^ (bits_of w - 1))) rest then rest -ℤ pos (2 ^ bits_of w) else rest
