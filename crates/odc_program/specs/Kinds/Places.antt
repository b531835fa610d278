-- Reading and writing, names, and the kinds of nodes that stand for places or make values of their parts.
use Rattle.std.specs.Prelude.{ℕ, zero, suc, ◌+◌, ◌*◌, ◌==◌, ◌&&◌, not, Bool, true, int_le, int_lt, if◌then◌else◌, ℤ, pos, negsuc, ◌-ℤ◌, List, [], ◌∷◌, ◌++◌, length, get_or, drop, Option, Some, None}
use Rattle.odc_text.specs.declared.place.Place.{Place}
use Rattle.odc_text.specs.declared.check.Check.TheVariants as check
use Rattle.odc_types.specs.Widths.{is_signed}
use Rattle.odc_program.specs.declared.ops.Constant.{Constant}
use Rattle.odc_program.specs.declared.ops.Constant.TheVariants as con
use Rattle.odc_program.specs.States.Run.{pure, ◌>>=◌, ◌>>>◌, moved}
use Rattle.odc_program.specs.States.Bytes.{global, literal, Pointer, nil, to, Value, number_of, zeros, int_bytes, int_of, truth_bytes, pointer_bytes, pointer_of, procedure_bytes, piece, patched}
use Rattle.odc_program.specs.Trees.Program.{Global, Literal, Shape, truth, whole, rune, names, text, array, slice, dynamic, soa_array, soa_slice, soa_dynamic, fields}
use Rattle.odc_program.specs.States.State.{Do, spend, stray, known, fail, read_at, write_to, behind, begin_local, Piece, Spot, spot, in_context, rows, Base, lies, is, views, Context, Env, in_context_of, first_context, size_of, shape_of, local_of, block_of}
use Rattle.odc_program.specs.Kinds.Layouts.{Cell, Column, Layout, layout_of, columns_of, address_bytes}

abbrev pub context_value : Env → Value
context_value env = elim env.context [ Some v ↦ v | None ↦ first_context env.tables ]

-- ---- reading: a record in columns has zero padding
abbrev pub patch_with : ℕ → Value → Do Value → Do Value
patch_with d v m = m >>= (λ w. pure (patched d v w))

abbrev pub read_pieces : Place → ℕ → List Piece → Do Value
read_pieces at n [] = pure (zeros n)
read_pieces at n (p ∷ ps) = spend 1 >>> behind at p.start p.move >>= (λ a. read_at at a p.size >>= (λ v. patch_with p.offset v (read_pieces at n ps)))

abbrev pub read_spot : Env → Place → Spot → ℕ → Do Value
read_spot env at (spot p) n = read_at at p n
read_spot env at (in_context o) n = spend (moved n) >>> pure (piece o n (context_value env))
read_spot env at (rows ps) n = read_pieces at n ps

-- the address of column k, and the length
abbrev pub view_of : ℕ → ℕ → Value → Value
view_of k f v = piece (8 * k) 8 v ++ piece (8 * f) 8 v

abbrev pub read_plain : Env → Place → ℕ → Base → Do Value
read_plain env at n (lies s) = read_spot env at s n
read_plain env at n (is v) = pure v
read_plain env at n (views b t k) = stray at

abbrev pub read_view : Env → Place → ℕ → ℕ → Base → Do Value
read_view env at t k b = read_plain env at (address_bytes (layout_of env t) + 8) b >>= (λ v. pure (view_of k (length (layout_of env t).cells) v))

abbrev pub read_base : Env → Place → ℕ → Base → Do Value
read_base env at n (lies s) = read_spot env at s n
read_base env at n (is v) = pure v
read_base env at n (views b t k) = read_view env at t k b

abbrev pub read_truth : Place → Value → Do Bool
read_truth at v = known at (number_of v) >>= (λ n. pure (not (n == 0)))

-- a truth value is 0 or 1 once it is read
abbrev pub as_read : Place → Shape → Value → Do Value
as_read at truth v = read_truth at v >>= (λ b. pure (truth_bytes b))
as_read at _ v = pure v

abbrev pub value_in : Env → Place → ℕ → Base → Do Value
value_in env at t b = read_base env at (size_of env t) b >>= as_read at (shape_of env t)

abbrev pub as_value : Env → Place → ℕ → Do Base → Do Value
as_value env at t m = m >>= value_in env at t

-- ---- writing
abbrev pub write_pieces : Place → Value → List Piece → Do (Unit {0})
write_pieces at v [] = pure tt
write_pieces at v (p ∷ ps) = spend 1 >>> behind at p.start p.move >>= (λ a. write_to at a (piece p.offset p.size v) >>> write_pieces at v ps)

abbrev pub store_spot : Place → Env → Spot → Value → Context → Do Context
store_spot at env (spot p) v c = write_to at p v >>> pure c
store_spot at env (in_context o) v c = spend (moved (length v)) >>> pure (Some (patched o v (context_value (in_context_of env c))))
store_spot at env (rows ps) v c = write_pieces at v ps >>> pure c

-- ---- a base as a place
abbrev pub spot_of_base : Place → Base → Do Spot
spot_of_base at (lies s) = pure s
spot_of_base at _ = stray at

abbrev pub as_spot : Place → Do Base → Do Spot
as_spot at m = m >>= spot_of_base at

-- the columns of an element that is assigned are found with its place
abbrev pub found_pieces : Place → List Piece → Do (List Piece)
found_pieces at [] = pure []
found_pieces at (p ∷ ps) =
    behind at p.start p.move >>= (λ a. found_pieces at ps >>= (λ qs. pure (record { offset = p.offset; size = p.size; start = a; move = 0 } ∷ qs)))

abbrev pub found : Place → Spot → Do Spot
found at (spot p) = pure (spot p)
found at (in_context o) = pure (in_context o)
found at (rows ps) = found_pieces at ps >>= (λ qs. pure (rows qs))

abbrev pub as_left : Place → Do Base → Do Spot
as_left at m = as_spot at m >>= found at

abbrev pub gives : Do Value → Do Base
gives m = m >>= (λ v. pure (is v))

-- ---- names and constants
abbrev pub run_local : Env → ℕ → Do Base
run_local env x = pure (lies (env.storage x))

abbrev pub nowhere : Place
nowhere = record { file = record { number = 0 }; line = 0; column = 0 }

abbrev pub no_global : Global
no_global = record { place = nowhere; at = 0; ty = 0; first = [] }

abbrev pub global_at : Env → ℕ → ℕ
global_at env g = (get_or env.tables.globals g no_global).at

abbrev pub run_global : Env → ℕ → Do Base
run_global env g = pure (lies (spot (to (global (global_at env g) g) 0)))

abbrev pub run_context : Do Base
run_context = pure (lies (in_context 0))

abbrev pub procedure_at : Env → ℕ → ℕ
procedure_at env need = get_or env.proc.needs need 0

abbrev pub run_proc_value : Env → ℕ → Do Base
run_proc_value env need = pure (is (procedure_bytes (procedure_at env need)))

abbrev pub no_literal : Literal
no_literal = record { place = nowhere; at = 0; bytes = [] }

abbrev pub literal_at : Env → ℕ → ℕ
literal_at env n = (get_or env.tables.literals n no_literal).at

abbrev pub text_bytes : Env → ℕ → ℕ → Value
text_bytes env n l = pointer_bytes (to (literal (literal_at env n) n) 0) ++ int_bytes 8 (pos l)

abbrev pub constant_value : Env → ℕ → Constant → Value
constant_value env t (con.Int z) = int_bytes (size_of env t) z
constant_value env t (con.Bool b) = truth_bytes b
constant_value env t (con.Text n l) = text_bytes env n l
constant_value env t con.Nil = zeros (size_of env t)

abbrev pub run_const : Env → ℕ → Constant → Do Base
run_const env t c = pure (is (constant_value env t c))

-- a place of the source: file, line, column and the procedure's name
abbrev pub whole_literal : Env → ℕ → Value
whole_literal env n = text_bytes env n (length (get_or env.tables.literals n no_literal).bytes)

abbrev pub location_value : Env → Place → Value
location_value env at =
    whole_literal env (env.tables.files + at.file.number) ++ int_bytes 4 (pos at.line) ++ int_bytes 4 (pos at.column) ++ whole_literal env env.proc.literal

abbrev pub run_location : Env → Place → Do Base
run_location env at = pure (is (location_value env at))

-- ---- fields and dereferences
abbrev pub spot_behind : Place → Spot → ℕ → Do Spot
spot_behind at (spot p) d = behind at p d >>= (λ q. pure (spot q))
spot_behind at (in_context o) d = pure (in_context (o + d))
spot_behind at (rows ps) d = stray at

abbrev pub base_behind : Place → ℕ → ℕ → Base → Do Base
base_behind at n d (lies s) = spot_behind at s d >>= (λ q. pure (lies q))
base_behind at n d (is v) = pure (is (piece d n v))
base_behind at n d (views b t k) = stray at

abbrev pub part_offset : ℕ → Shape → ℕ
part_offset k (fields ps) = (get_or ps k (record { offset = 0; ty = 0 })).offset
part_offset k _ = 0

-- the field of a record in columns is in one of them
abbrev pub piece_spot : Place → Piece → Do Base
piece_spot at p = spend 1 >>> behind at p.start p.move >>= (λ a. pure (lies (spot a)))

abbrev pub no_piece : Piece
no_piece = record { offset = 0; size = 0; start = nil; move = 0 }

abbrev pub field_of : Place → ℕ → ℕ → ℕ → Base → Do Base
field_of at n d k (lies (rows ps)) = piece_spot at (get_or ps k no_piece)
field_of at n d k b = base_behind at n d b

abbrev pub run_field : Env → Place → ℕ → ℕ → ℕ → Do Base → Do Base
run_field env at t base_ty k m = m >>= field_of at (size_of env t) (part_offset k (shape_of env base_ty)) k

abbrev pub not_nil : Place → ℕ → Pointer → Do Base
not_nil at zero p = pure (lies (spot p))
not_nil at (suc n) nil = fail check.Nil at
not_nil at (suc n) (to b o) = pure (lies (spot (to b o)))

abbrev pub run_deref : Env → Place → ℕ → Do Value → Do Base
run_deref env at t m = m >>= (λ v. known at (pointer_of v) >>= not_nil at (size_of env t))

-- ---- containers
-- where the elements are: in a row; in columns of a value; or in columns, each so far behind an address
pub data Store : Type 0 where
  in_row : (first : Base) (size : ℕ) → Store
  in_value : (size : ℕ) (columns : List Column) (v : Value) → Store
  in_pieces : (starts : List Piece) → Store

pub record Elements : Type 0 where
  pub count : ℤ
  pub store : Store

abbrev pub starts_behind : Pointer → List Column → List Piece
starts_behind p [] = []
starts_behind p (c ∷ cs) = record { offset = c.offset; size = c.size; start = p; move = c.start } ∷ starts_behind p cs

-- the addresses of columns, one for each cell
abbrev pub starts_of : Place → List Cell → Value → Do (List Piece)
starts_of at [] v = pure []
starts_of at (c ∷ cs) v = known at (pointer_of (piece 0 8 v)) >>= (λ p. starts_of at cs (drop 8 v) >>= (λ ps. pure (record { offset = c.offset; size = c.size; start = p; move = 0 } ∷ ps)))

abbrev pub row_of : ℕ → Pointer → Store
row_of size p = in_row (lies (spot p)) size

abbrev pub header_of : Place → ℕ → Value → Do Elements
header_of at size v = known at (pointer_of (piece 0 8 v)) >>= (λ p. known at (int_of true 8 (piece 8 8 v)) >>= (λ n. pure (record { count = n; store = row_of size p })))

abbrev pub columns_header : Place → Layout → Value → Do Elements
columns_header at l v = starts_of at l.cells v >>= (λ ps. known at (int_of true 8 (piece (address_bytes l) 8 v)) >>= (λ n. pure (record { count = n; store = in_pieces ps })))

abbrev pub fixed_columns : Place → Layout → ℕ → Base → Do Elements
fixed_columns at l n (lies (spot p)) = pure (record { count = pos n; store = in_pieces (starts_behind p (columns_of n l)) })
fixed_columns at l n (is v) = pure (record { count = pos n; store = in_value l.size (columns_of n l) v })
fixed_columns at l n _ = stray at

-- what a base of this shape contains; an array is not read for it, a header is
abbrev pub elements_in : Env → Place → ℕ → Shape → Base → Do Elements
elements_in env at t (array e n) b = pure (record { count = pos n; store = in_row b (size_of env e) })
elements_in env at t (soa_array e n) b = fixed_columns at (layout_of env t) n b
elements_in env at t (slice e) b = read_base env at 16 b >>= header_of at (size_of env e)
elements_in env at t (dynamic e) b = read_base env at 16 b >>= header_of at (size_of env e)
elements_in env at t text b = read_base env at 16 b >>= header_of at 1
elements_in env at t (soa_slice e) b = read_base env at (address_bytes (layout_of env t) + 8) b >>= columns_header at (layout_of env t)
elements_in env at t (soa_dynamic e) b = read_base env at (address_bytes (layout_of env t) + 8) b >>= columns_header at (layout_of env t)
elements_in env at t _ b = stray at

abbrev pub elements_of : Env → Place → ℕ → Base → Do Elements
elements_of env at t b = elements_in env at t (shape_of env t) b

abbrev pub whole_by : Place → ℕ → Shape → Value → Do ℤ
whole_by at size (whole width) v = known at (int_of (is_signed width) size v)
whole_by at size rune v = known at (int_of true size v)
whole_by at size (names width es) v = known at (int_of (is_signed width) size v)
whole_by at size _ v = stray at

abbrev pub whole_of : Env → Place → ℕ → Value → Do ℤ
whole_of env at t v = whole_by at (size_of env t) (shape_of env t) v

abbrev pub natural : ℤ → ℕ
natural (pos n) = n
natural (negsuc n) = 0

abbrev pub moved_by : ℕ → List Piece → List Piece
moved_by i [] = []
moved_by i (p ∷ ps) = record { offset = p.offset; size = p.size; start = p.start; move = p.move + i * p.size } ∷ moved_by i ps

-- element i of a value in columns
abbrev pub gathered : ℕ → ℕ → List Column → Value → Value
gathered n i [] v = zeros n
gathered n i (c ∷ cs) v = patched c.offset (piece (c.start + i * c.size) c.size v) (gathered n i cs v)

abbrev pub element_in : Place → ℕ → Store → Do Base
element_in at i (in_row first size) = base_behind at size (i * size) first
element_in at i (in_value n cs v) = spend (length cs) >>> pure (is (gathered n i cs v))
element_in at i (in_pieces ps) = pure (lies (rows (moved_by i ps)))

abbrev pub element : Place → ℤ → Elements → Do Base
element at i es = if int_le (pos 0) i && int_lt i es.count then element_in at (natural i) es.store else fail check.Index at

-- the base, then the index, then the header
abbrev pub run_index : Env → Place → ℕ → ℕ → Do Base → Do Value → Do Base
run_index env at base_ty index_ty base place =
    base >>= (λ b. place >>= (λ v. whole_of env at index_ty v >>= (λ i. elements_of env at base_ty b >>= element at i)))

-- ---- slices
abbrev pub sliced_spot : Place → ℕ → Spot → Do Value
sliced_spot at d (spot p) = behind at p d >>= (λ q. pure (pointer_bytes q))
sliced_spot at d _ = stray at

abbrev pub sliced_pieces : Place → ℕ → List Piece → Do Value
sliced_pieces at i [] = pure []
sliced_pieces at i (p ∷ ps) = spend 1 >>> behind at p.start (p.move + i * p.size) >>= (λ q. sliced_pieces at i ps >>= (λ v. pure (pointer_bytes q ++ v)))

-- the addresses of what is left behind so many elements
abbrev pub sliced : Place → ℕ → Store → Do Value
sliced at i (in_row first size) = spot_of_base at first >>= sliced_spot at (i * size)
sliced at i (in_pieces ps) = sliced_pieces at i ps
sliced at i (in_value n cs v) = stray at

abbrev pub slice_bytes : Place → ℤ → ℤ → Elements → Do Base
slice_bytes at low high es =
    if int_le (pos 0) low && int_le low high && int_le high es.count
    then (sliced at (natural low) es.store >>= (λ v. pure (is (v ++ int_bytes 8 (high -ℤ low)))))
    else fail check.Slice at

abbrev pub bound_or : ℤ → Option ℤ → ℤ
bound_or z (Some b) = b
bound_or z None = z

abbrev pub run_cut : Env → Place → ℕ → Do Base → Do (Option ℤ) → Do (Option ℤ) → Do Base
run_cut env at base_ty base low high =
    base >>= (λ b. low >>= (λ l. high >>= (λ h. elements_of env at base_ty b >>= (λ es. slice_bytes at (bound_or (pos 0) l) (bound_or es.count h) es))))

abbrev pub bound : Env → Place → ℕ → Do Value → Do (Option ℤ)
bound env at t m = m >>= (λ v. whole_of env at t v >>= (λ z. pure (Some z)))

-- ---- columns: of an array the place or value itself, of a slice a slice that is read where it is used
abbrev pub no_column : Column
no_column = record { offset = 0; size = 0; start = 0 }

abbrev pub column_in : Env → Place → ℕ → ℕ → ℕ → Shape → Base → Do Base
column_in env at n t k (soa_array e count) b = base_behind at n (get_or (columns_of count (layout_of env t)) k no_column).start b
column_in env at n t k _ b = pure (views b t k)

abbrev pub run_column : Env → Place → ℕ → ℕ → ℕ → Do Base → Do Base
run_column env at t base_ty k m = m >>= (λ b. spend 1 >>> column_in env at (size_of env t) base_ty k (shape_of env base_ty) b)

-- ---- addresses
abbrev pub address_of_spot : Place → Spot → Do Base
address_of_spot at (spot p) = pure (is (pointer_bytes p))
address_of_spot at _ = stray at

abbrev pub run_address : Place → Do Base → Do Base
run_address at m = as_spot at m >>= address_of_spot at

-- ---- built values: zeros, then each part in its place; one with storage of its own lies there
abbrev pub count_in : Shape → ℕ
count_in (array e n) = n
count_in _ = 0

abbrev pub placed : Env → ℕ → Shape → ℕ → Value → Do Base
placed env t (slice e) x v = begin_local env x v >>> pure (is (pointer_bytes (to (block_of env x) 0) ++ int_bytes 8 (pos (count_in (shape_of env (local_of env x).ty)))))
placed env t _ x v = begin_local env x v >>> pure (lies (spot (to (block_of env x) 0)))

abbrev pub at_home : Env → ℕ → Option ℕ → Value → Do Base
at_home env t None v = pure (is v)
at_home env t (Some x) v = placed env t (shape_of env t) x v

-- the type that is built: of a slice with storage of its own, that of the storage
abbrev pub home_type : Env → ℕ → Option ℕ → ℕ
home_type env t None = t
home_type env t (Some x) = (local_of env x).ty

abbrev pub no_parts_of : Env → ℕ → Do Value
no_parts_of env t = spend (moved (size_of env t)) >>> pure (zeros (size_of env t))

-- a record as element i of columns
abbrev pub scattered : ℕ → List Column → Value → Value → Value
scattered i [] v w = w
scattered i (c ∷ cs) v w = patched (c.start + i * c.size) (piece c.offset c.size v) (scattered i cs v w)

-- a part at an offset, or, in a `#soa` array, as an element
abbrev pub with_part : Env → ℕ → Shape → ℕ → Value → Value → Value
with_part env t (soa_array e n) d v w = scattered d (columns_of n (layout_of env t)) v w
with_part env t _ d v w = patched d v w

-- the parts in order; each is moved to its place
abbrev pub run_part : Env → ℕ → ℕ → Do Value → Do Value → Do Value
run_part env t d m rest = m >>= (λ v. spend (moved (length v)) >>> rest >>= (λ w. pure (with_part env t (shape_of env t) d v w)))

abbrev pub run_build : Env → ℕ → Option ℕ → Do Value → Do Base
run_build env t home parts = parts >>= at_home env t home
