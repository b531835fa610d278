-- How the elements of a container lie: one behind another, or one column for each field of a record.
use Rattle.std.specs.Prelude.{ℕ, ◌+◌, ◌-◌, ◌*◌, ◌%◌, Bool, true, false, List, [], ◌∷◌, length}
use Rattle.odc_program.specs.Trees.Program.{Part, Shape, text, slice, dynamic, soa_array, soa_slice, soa_dynamic, fields}
use Rattle.odc_program.specs.States.State.{Env, size_of, align_of, shape_of}

-- a field of an element
pub record Cell : Type 0 where
  pub offset : ℕ
  pub size : ℕ
  pub align : ℕ

-- the elements of a container; plain ones have one cell
pub record Layout : Type 0 where
  pub columns : Bool
  pub size : ℕ
  pub align : ℕ
  pub cells : List Cell

abbrev pub parts_in : Shape → List Part
parts_in (fields ps) = ps
parts_in _ = []

abbrev pub cells_of : Env → List Part → List Cell
cells_of env [] = []
cells_of env (p ∷ ps) = record { offset = p.offset; size = size_of env p.ty; align = align_of env p.ty } ∷ cells_of env ps

abbrev pub plain : ℕ → ℕ → Layout
plain size align = record { columns = false; size = size; align = align; cells = record { offset = 0; size = size; align = align } ∷ [] }

abbrev pub in_columns : Env → ℕ → Layout
in_columns env t = record { columns = true; size = size_of env t; align = align_of env t; cells = cells_of env (parts_in (shape_of env t)) }

abbrev pub layout_by : Env → Shape → Layout
layout_by env text = plain 1 1
layout_by env (slice e) = plain (size_of env e) (align_of env e)
layout_by env (dynamic e) = plain (size_of env e) (align_of env e)
layout_by env (soa_array t n) = in_columns env t
layout_by env (soa_slice t) = in_columns env t
layout_by env (soa_dynamic t) = in_columns env t
layout_by env _ = plain 0 1

abbrev pub layout_of : Env → ℕ → Layout
layout_of env t = layout_by env (shape_of env t)

-- n, rounded up to a multiple of a
abbrev pub round_up : ℕ → ℕ → ℕ
round_up n a = n + (a - n % a) % a

-- a column of a storage: its field's offset and size in a record, and where it begins
pub record Column : Type 0 where
  pub offset : ℕ
  pub size : ℕ
  pub start : ℕ

-- the columns of so many elements, in field order, each at a multiple of its alignment
abbrev pub columns_from : ℕ → ℕ → List Cell → List Column
columns_from n at [] = []
columns_from n at (c ∷ cs) = record { offset = c.offset; size = c.size; start = round_up at c.align } ∷ columns_from n (round_up at c.align + n * c.size) cs

abbrev pub columns_of : ℕ → Layout → List Column
columns_of n l = columns_from n 0 l.cells

-- the size of a storage of so many elements: the end of its last column
abbrev pub end_from : ℕ → ℕ → List Cell → ℕ
end_from n at [] = at
end_from n at (c ∷ cs) = end_from n (round_up at c.align + n * c.size) cs

abbrev pub storage_size : ℕ → Layout → ℕ
storage_size n l = end_from n 0 l.cells

-- how many addresses a header begins with, and the bytes of them
abbrev pub address_bytes : Layout → ℕ
address_bytes l = 8 * length l.cells
