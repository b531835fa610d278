-- Where the blocks of the source lie, and what their bytes are there.
use Rattle.std.specs.Prelude.{ℕ, ◌+◌, ◌/◌, ◌%◌, ◌^◌, List, map}
use Rattle.odc_program.specs.States.Bytes.{Block, global, literal, region, variable, Pointer, nil, to, Byte, number, of_address, of_procedure, Value}

abbrev pub place_of : Block → ℕ
place_of (global at n) = at
place_of (literal at n) = at
place_of (region at n) = at
place_of (variable f serial at x) = at

-- an address as a number
abbrev pub address_at : Pointer → ℕ
address_at nil = 0
address_at (to b o) = place_of b + o

-- byte k of a word
abbrev pub piece_of : ℕ → ℕ → ℕ
piece_of k w = w / 256 ^ k % 256

-- a byte of the source on the machine, where procedures have these words
abbrev pub byte_at : (ℕ → ℕ) → Byte → ℕ
byte_at entries (number n) = n
byte_at entries (of_address b o k) = piece_of k (place_of b + o)
byte_at entries (of_procedure f k) = piece_of k (entries f)

abbrev pub bytes_at : (ℕ → ℕ) → Value → List ℕ
bytes_at entries v = map (byte_at entries) v
