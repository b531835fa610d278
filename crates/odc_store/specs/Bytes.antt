-- The bytes of the source, and how they are kept: a list of numbers, and beside it a list that says of a front of them
-- what each is a piece of. The number of a piece is its position in the address or the procedure's value.
use Rattle.std.specs.Prelude.{ℕ, zero, suc, ◌+◌, ◌-◌, List, [], ◌∷◌, ◌++◌, take, drop, length, replicate, Option, Some, None, nat_lt, if◌then◌else◌}
use Rattle.odc_store.specs.declared.bytes.Address.{Address}
use Rattle.odc_store.specs.declared.bytes.Origin.{Origin}
use Rattle.odc_store.specs.declared.bytes.Origin.TheVariants as origin
use Rattle.odc_store.specs.declared.bytes.SourceByte.{SourceByte}
use Rattle.odc_store.specs.declared.bytes.SourceByte.TheVariants.{Number, AddressPiece, ProcedurePiece}

-- the byte that a number and its mark stand for
abbrev pub byte : ℕ → Option Origin → SourceByte
byte n None = Number n
byte n (Some (origin.Address a)) = AddressPiece a n
byte n (Some (origin.Procedure p)) = ProcedurePiece p n

-- a number without a mark is a number
abbrev pub joined : List ℕ → List (Option Origin) → List SourceByte
joined [] ms = []
joined (n ∷ ns) [] = Number n ∷ joined ns []
joined (n ∷ ns) (m ∷ ms) = byte n m ∷ joined ns ms

abbrev pub numbers : List ℕ → List SourceByte
numbers ns = joined ns []

-- n pieces of an address or a procedure, from a position on
abbrev pub pieces : (ℕ → SourceByte) → ℕ → ℕ → List SourceByte
pieces piece k zero = []
pieces piece k (suc n) = piece k ∷ pieces piece (k + 1) n

-- the eight bytes of an address
abbrev pub address_bytes : Address → List SourceByte
address_bytes a = pieces (AddressPiece a) 0 8

-- the eight bytes of a procedure's value
abbrev pub procedure_bytes : ℕ → List SourceByte
procedure_bytes p = pieces (ProcedurePiece p) 0 8

-- the bytes with others in the place of some of them
abbrev pub patched : ℕ → List SourceByte → List SourceByte → List SourceByte
patched from vs bytes = take from bytes ++ vs ++ drop (from + length vs) bytes

-- ---- what becomes of marks

abbrev pub overwritten : {A : Type 0} → ℕ → List A → List A → List A
overwritten from part xs = take from xs ++ part ++ drop (from + length part) xs

-- marks from a position on are these; where the list is too short for that, bytes that are numbers are added
abbrev pub marked : ℕ → List (Option Origin) → List (Option Origin) → List (Option Origin)
marked from [] ms = ms
marked from (m ∷ part) ms = overwritten from (m ∷ part) (ms ++ replicate (from + length (m ∷ part) - length ms) None)

abbrev pub lesser : ℕ → ℕ → ℕ
lesser a b = if nat_lt a b then a else b

abbrev pub cleared_to : ℕ → ℕ → List (Option Origin) → List (Option Origin)
cleared_to from end ms = if nat_lt from end then take from ms ++ replicate (end - from) None ++ drop end ms else ms

-- the marks between two positions are gone
abbrev pub cleared : ℕ → ℕ → List (Option Origin) → List (Option Origin)
cleared from until ms = cleared_to from (lesser (length ms) until) ms

-- the marks between two positions, as far as there are any
abbrev pub between : ℕ → ℕ → List (Option Origin) → List (Option Origin)
between from until ms = if nat_lt from (length ms) then take (lesser (length ms) until - from) (drop from ms) else []
