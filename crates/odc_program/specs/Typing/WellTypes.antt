-- Tables of types as a program must have them, and what nodes ask of types.
use Rattle.std.specs.Prelude.{ℕ, zero, suc, ◌++◌, ◌+◌, ◌-◌, ◌*◌, ◌^◌, ◌==◌, ◌&&◌, ◌||◌, not, Bool, true, false, nat_lt, int_le, int_lt, if◌then◌else◌, ℤ, pos, ◌-ℤ◌, List, [], ◌∷◌, length, max, Option, Some, None, slice_get}
use Rattle.odc_program.specs.declared.ops.Constant.{Constant}
use Rattle.odc_program.specs.declared.ops.Constant.TheVariants as con
use Rattle.odc_text.specs.declared.place.Place.{Place}
use Rattle.odc_types.specs.declared.width.Width.{Width}
use Rattle.odc_types.specs.declared.width.Width.TheVariants as width
use Rattle.odc_types.specs.Widths as widths
use Rattle.odc_program.specs.Trees.Program.{Part, Enumerator, Shape, truth, whole, rune, text, raw, address, array, slice, dynamic, soa_array, soa_slice, soa_dynamic, fields, variants, names, procedure, several, Name, Ty}
use Rattle.odc_program.specs.States.State.{Env, ty_of, size_of, align_of, shape_of, base_type}
use Rattle.odc_program.specs.Kinds.Layouts.{parts_in, round_up, storage_size, in_columns}
use Rattle.odc_program.specs.Kinds.Calling.{types_of}

-- ---- lists
abbrev pub same_list : List ℕ → List ℕ → Bool
same_list [] [] = true
same_list (a ∷ x) (b ∷ y) = (a == b) && same_list x y
same_list _ _ = false

abbrev pub every : {A : Type 0} → (A → Bool) → List A → Bool
every f [] = true
every f (a ∷ x) = f a && every f x

abbrev pub has : ℕ → List ℕ → Bool
has n [] = false
has n (a ∷ x) = (n == a) || has n x

abbrev pub once : List ℕ → Bool
once [] = true
once (a ∷ x) = not (has a x) && once x

abbrev pub below : ℕ → ℕ → Bool
below n k = nat_lt k n

abbrev pub is_there : {A : Type 0} → Option A → (A → Bool) → Bool
is_there None f = false
is_there (Some a) f = f a

-- ---- integer types
-- `int` and `uint` are other types than `i64` and `u64`
abbrev pub number_of : Width → ℕ
number_of width.Int = 0
number_of width.Uint = 1
number_of width.I8 = 2
number_of width.I16 = 3
number_of width.I32 = 4
number_of width.I64 = 5
number_of width.U8 = 6
number_of width.U16 = 7
number_of width.U32 = 8
number_of width.U64 = 9

abbrev pub same_width : Width → Width → Bool
same_width v w = number_of v == number_of w

-- ---- kinds of types
abbrev pub is_whole : Shape → Bool
is_whole (whole w) = true
is_whole rune = true
is_whole _ = false

abbrev pub is_integer : Shape → Bool
is_integer (whole w) = true
is_integer _ = false

abbrev pub is_number : Shape → Bool
is_number (whole w) = true
is_number rune = true
is_number (names w es) = true
is_number _ = false

abbrev pub is_truth : Shape → Bool
is_truth truth = true
is_truth _ = false

abbrev pub is_text : Shape → Bool
is_text text = true
is_text _ = false

abbrev pub is_raw : Shape → Bool
is_raw raw = true
is_raw _ = false

abbrev pub is_pointer : Shape → Bool
is_pointer raw = true
is_pointer (address t) = true
is_pointer _ = false

abbrev pub is_dynamic : Shape → Bool
is_dynamic (dynamic e) = true
is_dynamic (soa_dynamic e) = true
is_dynamic _ = false

abbrev pub is_slice : Shape → Bool
is_slice (slice e) = true
is_slice (soa_slice e) = true
is_slice _ = false

abbrev pub has_nil : Shape → Bool
has_nil (variants tag ts) = true
has_nil (procedure odin ps rs) = true
has_nil s = is_pointer s || (is_dynamic s || is_slice s)

abbrev pub is_printed : Shape → Bool
is_printed truth = true
is_printed text = true
is_printed s = is_number s

abbrev pub is_signed : Shape → Bool
is_signed (whole w) = widths.is_signed w
is_signed (names w es) = widths.is_signed w
is_signed _ = true

abbrev pub is_none : {A : Type 0} → Option A → Bool
is_none None = true
is_none (Some a) = false

abbrev pub is_width : Width → Shape → Bool
is_width v (whole w) = same_width v w
is_width v _ = false

-- an integer type of the language, and not a distinct one
abbrev pub is_integer_of : Width → Env → ℕ → Bool
is_integer_of w env t = is_width w (shape_of env t) && is_none (ty_of env t).name

abbrev pub is_int : Env → ℕ → Bool
is_int env t = is_integer_of width.Int env t

abbrev pub is_byte : Env → ℕ → Bool
is_byte env t = is_integer_of width.U8 env t

abbrev pub is_slice_of : ℕ → Shape → Bool
is_slice_of e (slice f) = e == f
is_slice_of e _ = false

abbrev pub is_columns_of : ℕ → Shape → Bool
is_columns_of e (soa_slice f) = e == f
is_columns_of e _ = false

abbrev pub is_array_of : ℕ → ℕ → Shape → Bool
is_array_of e n (array f m) = (e == f) && (n == m)
is_array_of e n _ = false

abbrev pub points_to : ℕ → Shape → Bool
points_to t (address u) = t == u
points_to t _ = false

abbrev pub byte_slice_in : Env → Shape → Bool
byte_slice_in env (slice e) = is_byte env e
byte_slice_in env _ = false

abbrev pub is_byte_slice : Env → ℕ → Bool
is_byte_slice env t = byte_slice_in env (shape_of env t)

-- the error of an allocator
abbrev pub is_error : Env → ℕ → Bool
is_error env t = is_number (shape_of env t) && (not (is_whole (shape_of env t)) && (size_of env t == 1))

-- ---- the types that allocators need: a location, their procedures, an allocator, and a context
abbrev pub is_location_shape : Env → Shape → Bool
is_location_shape env (fields (p ∷ l ∷ c ∷ n ∷ [])) =
    (is_text (shape_of env p.ty) && (is_integer_of width.I32 env l.ty && (is_integer_of width.I32 env c.ty && is_text (shape_of env n.ty)))) &&
    same_list (p.offset ∷ l.offset ∷ c.offset ∷ n.offset ∷ []) (0 ∷ 16 ∷ 20 ∷ 24 ∷ [])
is_location_shape env _ = false

-- a path, a line, a column and a name
abbrev pub is_location : Env → ℕ → Bool
is_location env t = is_location_shape env (shape_of env t)

abbrev pub is_small : Env → ℕ → Bool
is_small env t = is_number (shape_of env t) && (size_of env t == 1)

abbrev pub asks_and_answers : Env → Shape → Bool
asks_and_answers env (procedure true (d ∷ mode ∷ size ∷ align ∷ old ∷ old_size ∷ at ∷ []) (memory ∷ error ∷ [])) =
    (is_raw (shape_of env d) && (is_small env mode && (is_int env size && (is_int env align && (is_raw (shape_of env old) && (is_int env old_size && is_location env at)))))) &&
    (is_byte_slice env memory && is_error env error)
asks_and_answers env _ = false

-- the table's type of allocator procedures is one
abbrev pub has_allocators : Env → Bool
has_allocators env = asks_and_answers env (shape_of env env.tables.allocator)

abbrev pub is_asked : Env → ℕ → Bool
is_asked env t = (base_type env t == base_type env env.tables.allocator) && has_allocators env

abbrev pub is_allocator_shape : Env → Shape → Bool
is_allocator_shape env (fields (p ∷ q ∷ [])) = is_asked env p.ty && is_raw (shape_of env q.ty)
is_allocator_shape env _ = false

abbrev pub is_allocator : Env → ℕ → Bool
is_allocator env t = is_allocator_shape env (shape_of env t)

abbrev pub is_context_shape : Env → Shape → Bool
is_context_shape env (fields (a ∷ b ∷ p ∷ i ∷ [])) =
    (is_allocator env a.ty && (is_allocator env b.ty && (is_raw (shape_of env p.ty) && is_int env i.ty))) && same_list (a.offset ∷ b.offset ∷ p.offset ∷ i.offset ∷ []) (0 ∷ 16 ∷ 32 ∷ 40 ∷ [])
is_context_shape env _ = false

-- two allocators, a pointer and an `int`
abbrev pub is_context : Env → ℕ → Bool
is_context env t = is_context_shape env (shape_of env t)

abbrev pub element_in : Shape → Option ℕ
element_in (array e n) = Some e
element_in (slice e) = Some e
element_in (dynamic e) = Some e
element_in (soa_array e n) = Some e
element_in (soa_slice e) = Some e
element_in (soa_dynamic e) = Some e
element_in _ = None

-- variants count from 1
abbrev pub variant_in : Shape → ℕ → Option ℕ
variant_in (variants tag ts) (suc n) = slice_get ts n
variant_in _ n = None

abbrev pub is_variant : Env → ℕ → ℕ → ℕ → Bool
is_variant env union_ty n t = is_there (variant_in (shape_of env union_ty) n) (λ u. u == t)

-- the values of an expression: none, one, or several
abbrev pub values_in : Env → ℕ → List ℕ
values_in env t = types_of t (shape_of env t)

abbrev pub gives_nothing : Env → ℕ → Bool
gives_nothing env t = same_list (values_in env t) []

-- ---- constants
abbrev pub in_range : Bool → ℕ → ℤ → Bool
in_range true size z = int_le (pos 0 -ℤ pos (2 ^ (8 * size - 1))) z && int_lt z (pos (2 ^ (8 * size - 1)))
in_range false size z = int_le (pos 0) z && int_lt z (pos (2 ^ (8 * size)))

abbrev pub well_constant : Env → ℕ → Constant → Bool
well_constant env t (con.Int z) = is_number (shape_of env t) && in_range (is_signed (shape_of env t)) (size_of env t) z
well_constant env t (con.Bool b) = is_truth (shape_of env t)
well_constant env t (con.Text n l) = is_text (shape_of env t) && is_there (slice_get env.tables.literals n) (λ x. length x.bytes == l)
well_constant env t con.Nil = has_nil (shape_of env t)

-- ---- rows of the table: sizes and alignments by their parts
abbrev pub fields_end : Env → ℕ → List Part → Option ℕ
fields_end env at [] = Some at
fields_end env at (p ∷ ps) = if round_up at (align_of env p.ty) == p.offset then fields_end env (p.offset + size_of env p.ty) ps else None

abbrev pub greatest : Env → ℕ → List Part → ℕ
greatest env n [] = n
greatest env n (p ∷ ps) = greatest env (max n (align_of env p.ty)) ps

abbrev pub widest : Env → ℕ → List ℕ → ℕ
widest env n [] = n
widest env n (t ∷ ts) = widest env (max n (size_of env t)) ts

abbrev pub types_of_parts : List Part → List ℕ
types_of_parts [] = []
types_of_parts (p ∷ ps) = p.ty ∷ types_of_parts ps

abbrev pub all_sizes : Env → ℕ → List ℕ → ℕ
all_sizes env n [] = n
all_sizes env n (t ∷ ts) = all_sizes env (n + size_of env t) ts

abbrev pub sized : Ty → ℕ → ℕ → Bool
sized r size align = (r.size == size) && (r.align == align)

-- a type of the table that values have
abbrev pub is_several : Shape → Bool
is_several (several ts) = true
is_several _ = false

abbrev pub is_value_type : Env → ℕ → Bool
is_value_type env t = nat_lt t (length env.tables.types) && not (is_several (shape_of env t))

abbrev pub known : Env → List ℕ → Bool
known env ts = every (is_value_type env) ts

-- what a `#soa` container may be over: a struct of 1 to 16 fields
abbrev pub is_record : Shape → Bool
is_record (fields ps) = nat_lt 0 (length ps) && nat_lt (length ps) 17
is_record _ = false

abbrev pub well_shape : Env → Ty → Shape → Bool
well_shape env r truth = sized r 1 1
well_shape env r (whole w) = sized r (widths.bytes_of w) (widths.bytes_of w)
well_shape env r rune = sized r 4 4
well_shape env r text = sized r 16 8
well_shape env r raw = sized r 8 8
well_shape env r (address t) = sized r 8 8 && known env (t ∷ [])
well_shape env r (array e n) = sized r (n * size_of env e) (align_of env e) && known env (e ∷ [])
well_shape env r (slice e) = sized r 16 8 && known env (e ∷ [])
well_shape env r (dynamic e) = sized r 40 8 && known env (e ∷ [])
well_shape env r (soa_array t n) = is_record (shape_of env t) && sized r (round_up (storage_size n (in_columns env t)) (align_of env t)) (align_of env t)
well_shape env r (soa_slice t) = is_record (shape_of env t) && sized r (8 * length (parts_in (shape_of env t)) + 8) 8
well_shape env r (soa_dynamic t) = is_record (shape_of env t) && sized r (8 * length (parts_in (shape_of env t)) + 32) 8
well_shape env r (fields ps) = known env (types_of_parts ps) && is_there (fields_end env 0 ps) (λ n. sized r (round_up n (greatest env 1 ps)) (greatest env 1 ps))
well_shape env r (variants tag ts) = known env ts && ((tag == round_up (widest env 0 ts) 8) && sized r (tag + 8) 8)
well_shape env r (names w es) = sized r (widths.bytes_of w) (widths.bytes_of w) && every (λ e. in_range (widths.is_signed w) (widths.bytes_of w) e.value) es
well_shape env r (procedure odin ps rs) = sized r 8 8 && (known env ps && known env rs)
well_shape env r (several ts) = known env ts && (not (length ts == 1) && sized r (all_sizes env 0 ts) 8)

-- ---- when two rows have one shape
abbrev pub same_parts : List Part → List Part → Bool
same_parts [] [] = true
same_parts (p ∷ ps) (q ∷ qs) = (p.offset == q.offset) && ((p.ty == q.ty) && same_parts ps qs)
same_parts _ _ = false

abbrev pub same_names : List Enumerator → List Enumerator → Bool
same_names [] [] = true
same_names (a ∷ x) (b ∷ y) = int_le a.value b.value && (int_le b.value a.value && (same_list a.name b.name && same_names x y))
same_names _ _ = false

abbrev pub same_truth : Bool → Bool → Bool
same_truth true x = x
same_truth false x = not x

abbrev pub same_shape : Shape → Shape → Bool
same_shape truth truth = true
same_shape (whole v) (whole w) = same_width v w
same_shape rune rune = true
same_shape text text = true
same_shape raw raw = true
same_shape (address t) (address u) = t == u
same_shape (array e n) (array f m) = (e == f) && (n == m)
same_shape (slice e) (slice f) = e == f
same_shape (dynamic e) (dynamic f) = e == f
same_shape (soa_array e n) (soa_array f m) = (e == f) && (n == m)
same_shape (soa_slice e) (soa_slice f) = e == f
same_shape (soa_dynamic e) (soa_dynamic f) = e == f
same_shape (fields ps) (fields qs) = same_parts ps qs
same_shape (variants tag ts) (variants at us) = (tag == at) && same_list ts us
same_shape (names v es) (names w fs) = same_width v w && same_names es fs
same_shape (procedure odin ps rs) (procedure other qs ss) = same_truth odin other && (same_list ps qs && same_list rs ss)
same_shape (several ts) (several us) = same_list ts us
same_shape _ _ = false

-- a distinct type has the size, the alignment and the shape of its base, which is not distinct
abbrev pub well_base : Env → Ty → Bool
well_base env r = nat_lt r.base (length env.tables.types) && ((base_type env r.base == r.base) && (sized r (size_of env r.base) (align_of env r.base) && same_shape r.shape (shape_of env r.base)))

-- ---- what tells types from each other: a struct, union, enum or distinct type its name, and every other its shape
abbrev pub has_name : Shape → Bool
has_name (fields ps) = true
has_name (variants tag ts) = true
has_name (names w es) = true
has_name _ = false

abbrev pub same_place : Place → Place → Bool
same_place a b = (a.file.number == b.file.number) && ((a.line == b.line) && (a.column == b.column))

abbrev pub same_ints : List ℤ → List ℤ → Bool
same_ints [] [] = true
same_ints (a ∷ x) (b ∷ y) = int_le a b && (int_le b a && same_ints x y)
same_ints _ _ = false

abbrev pub same_name : Name → Name → Bool
same_name a b = same_place a.at b.at && (same_list a.types b.types && same_ints a.numbers b.numbers)

abbrev pub same_by : Option Name → Option Name → Bool → Bool
same_by (Some a) (Some b) shapes = same_name a b
same_by None None shapes = shapes
same_by _ _ shapes = false

-- whether two rows are of one type
abbrev pub same_type : Ty → Ty → Bool
same_type r q = same_by r.name q.name (same_shape r.shape q.shape)

abbrev pub each_once : List Ty → Bool
each_once [] = true
each_once (r ∷ rs) = every (λ q. not (same_type r q)) rs && each_once rs

-- the instance around a type is of types of the table, and its place in a file that is there
abbrev pub well_name : Env → Bool → Option Name → Bool
well_name env wanted None = not wanted
well_name env wanted (Some n) = wanted && (known env n.types && nat_lt n.at.file.number (length env.tables.paths))

-- ---- a type holds itself only behind a pointer, and one without a name not even there; n bounds the levels
abbrev pub held_in : Shape → List ℕ
held_in (array e n) = e ∷ []
held_in (soa_array e n) = e ∷ []
held_in (fields ps) = types_of_parts ps
held_in (variants tag ts) = ts
held_in (several ts) = ts
held_in _ = []

abbrev pub ends_by : Env → ℕ → ℕ → Bool
ends_by env zero t = false
ends_by env (suc n) t = every (ends_by env n) (held_in (shape_of env t))

abbrev pub parts_named_in : Shape → List ℕ
parts_named_in (address e) = e ∷ []
parts_named_in (array e n) = e ∷ []
parts_named_in (slice e) = e ∷ []
parts_named_in (dynamic e) = e ∷ []
parts_named_in (soa_array e n) = e ∷ []
parts_named_in (soa_slice e) = e ∷ []
parts_named_in (soa_dynamic e) = e ∷ []
parts_named_in (procedure odin ps rs) = ps ++ rs
parts_named_in (several ts) = ts
parts_named_in _ = []

abbrev pub is_told_by : Env → ℕ → ℕ → Bool
is_told_by env zero t = false
is_told_by env (suc n) t = not (is_none (ty_of env t).name) || every (is_told_by env n) (parts_named_in (shape_of env t))

abbrev pub is_finite : Env → ℕ → Bool
is_finite env t = ends_by env (length env.tables.types) t && is_told_by env (length env.tables.types) t

abbrev pub well_row : Env → ℕ → Ty → Bool
well_row env n r = well_shape env r r.shape && (well_base env r && (is_finite env n && well_name env (has_name r.shape || not (r.base == n)) r.name))

-- the rows from a number on
abbrev pub well_rows : Env → ℕ → List Ty → Bool
well_rows env n [] = true
well_rows env n (r ∷ rs) = well_row env n r && well_rows env (n + 1) rs
