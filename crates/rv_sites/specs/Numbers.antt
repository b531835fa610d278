-- Numbers in bytes, the lowest byte first.
use Rattle.std.specs.Prelude.{ℕ, List, take}
use Rattle.std.specs.Int.{w16, w32, w64, from_le_bytes, to_le_bytes}

-- the bytes of a number
abbrev pub le16 : ℕ → List ℕ
le16 n = to_le_bytes w16 n

abbrev pub le32 : ℕ → List ℕ
le32 n = to_le_bytes w32 n

abbrev pub le64 : ℕ → List ℕ
le64 n = to_le_bytes w64 n

-- the number of the first bytes
abbrev pub number16 : List ℕ → ℕ
number16 bytes = from_le_bytes w16 (take 2 bytes)

abbrev pub number32 : List ℕ → ℕ
number32 bytes = from_le_bytes w32 (take 4 bytes)

abbrev pub number64 : List ℕ → ℕ
number64 bytes = from_le_bytes w64 (take 8 bytes)
