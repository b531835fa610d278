-- The bit fields of an instruction word.
use Rattle.std.specs.Prelude.{◌≡◌, ℕ, ◌+◌, ◌-◌, ◌*◌, ◌/◌, ◌%◌, ◌^◌, ◌<◌, ℤ, pos, negsuc, nat_lt, if◌then◌else◌}

-- the bits hi down to lo of a word
abbrev pub bits : ℕ → ℕ → ℕ → ℕ
bits hi lo word = word / 2 ^ lo % 2 ^ (hi - lo + 1)

-- the two's complement number that these `size` bits are
abbrev pub signed : ℕ → ℕ → ℤ
signed size n = if nat_lt n (2 ^ (size - 1)) then pos n else negsuc (2 ^ size - 1 - n)

-- the `size` bits of a number in two's complement
abbrev pub unsigned : ℕ → ℤ → ℕ
unsigned size (pos n) = n
unsigned size (negsuc n) = 2 ^ size - 1 - n

-- the number fits `size` bits in two's complement
abbrev pub FitsBits : ℕ → ℤ → Type 0
FitsBits size (pos n) = n < 2 ^ (size - 1)
FitsBits size (negsuc n) = n < 2 ^ (size - 1)

-- the same, and it is even
abbrev pub FitsEven : ℕ → ℤ → Type 0
FitsEven size (pos n) = (n < 2 ^ (size - 1)) × (n % 2 ≡ 0)
FitsEven size (negsuc n) = (n < 2 ^ (size - 1)) × (n % 2 ≡ 1)

-- ---- immediates that are cut into several fields

abbrev pub store_bits : ℕ → ℕ
store_bits word = bits 31 25 word * 2 ^ 5 + bits 11 7 word

abbrev pub branch_bits : ℕ → ℕ
branch_bits word = bits 31 31 word * 2 ^ 12 + bits 7 7 word * 2 ^ 11 + bits 30 25 word * 2 ^ 5 + bits 11 8 word * 2

abbrev pub jump_bits : ℕ → ℕ
jump_bits word = bits 31 31 word * 2 ^ 20 + bits 19 12 word * 2 ^ 12 + bits 20 20 word * 2 ^ 11 + bits 30 21 word * 2

-- the word of the six fields of the format R
abbrev pub joined : ℕ → ℕ → ℕ → ℕ → ℕ → ℕ → ℕ
joined opcode rd funct3 rs1 rs2 funct7 = opcode + rd * 2 ^ 7 + funct3 * 2 ^ 12 + rs1 * 2 ^ 15 + rs2 * 2 ^ 20 + funct7 * 2 ^ 25
