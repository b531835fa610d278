-- Built-in procedures that call no allocator, and those of `core:os`.
use Rattle.std.specs.Prelude.{ℕ, zero, suc, ◌||◌, ◌+◌, ◌-◌, ◌*◌, ◌^◌, ◌&&◌, Bool, true, int_lt, int_le, if◌then◌else◌, ℤ, pos, ◌-ℤ◌, List, [], ◌∷◌, ◌++◌, length, map, drop, get_or}
use Rattle.std.specs.Ordering.{int_eq}
use Rattle.odc_text.specs.declared.place.Place.{Place}
use Rattle.odc_text.specs.declared.check.Check.TheVariants as check
use Rattle.odc_text.specs.Run.{exited, err}
use Rattle.odc_program.specs.States.Run.{pure, halt, ◌>>=◌, ◌>>>◌}
use Rattle.odc_program.specs.States.Bytes.{Block, region, Pointer, nil, to, Value, number_of, numbers, residue, int_bytes, int_of, pointer_bytes, pointer_of, piece}
use Rattle.odc_program.specs.Trees.Program.{Shape, address, array, soa_array}
use Rattle.odc_program.specs.States.State.{Do, ends, spend, leave_behind, known, fail, read_at, write_to, behind, has_room, take_input, Base, is, lies, spot, Env, size_of, shape_of}
use Rattle.odc_program.specs.Kinds.Layouts.{Cell, Layout, layout_of, address_bytes}
use Rattle.odc_program.specs.Kinds.Places.{read_truth, whole_of, natural, Elements, elements_of, element, read_base}
use Rattle.odc_program.specs.Kinds.Operators.{read_text}
use Rattle.odc_program.specs.Kinds.Printing.{print, print_all}

abbrev pub arg : List Value → ℕ → Value
arg vs k = get_or vs k []

abbrev pub arg_type : List ℕ → ℕ → ℕ
arg_type ts k = get_or ts k 0

-- ---- printing and stopping
abbrev pub run_print : Env → Place → List ℕ → List Value → Do Base
run_print env at ts vs = print_all env at ts vs >>> pure (is [])

abbrev pub run_println : Env → Place → List ℕ → List Value → Do Base
run_println env at ts vs = print_all env at ts vs >>> print (10 ∷ []) >>> pure (is [])

abbrev pub run_assert_true : Place → List Value → Do Base
run_assert_true at vs = read_truth at (arg vs 0) >>= (λ b. if b then pure (is []) else fail check.Assert at)

abbrev pub complain : List ℕ → Do (Unit {0})
complain bytes = spend (length bytes) >>> leave_behind (map err bytes)

abbrev pub run_panic : Place → List Value → Do Base
run_panic at vs = read_text at (arg vs 0) >>= (λ bytes. complain bytes >>> complain (10 ∷ []) >>> fail check.Panic at)

-- ---- files
abbrev pub file_answer : Env → ℕ → ℕ → ℕ → Base
file_answer env t n error = is (int_bytes 8 (pos n) ++ int_bytes (size_of env t - 8) (pos error))

-- the bytes that are there, up to the length; all of the room must be there
abbrev pub read_input : Env → Place → ℕ → Pointer → ℕ → Do Base
read_input env at t p n = has_room at p n >>> take_input n >>= (λ bytes. write_to at p (numbers bytes) >>> pure (file_answer env t (length bytes) 0))

abbrev pub run_read : Env → Place → ℕ → List Value → Do Base
run_read env at t vs =
    known at (int_of true 8 (arg vs 0)) >>= (λ fd. if int_eq fd (pos 0)
    then (known at (pointer_of (piece 0 8 (arg vs 1))) >>= (λ p. known at (number_of (piece 8 8 (arg vs 1))) >>= (λ n. read_input env at t p n)))
    else pure (file_answer env t 0 1))

abbrev pub written : Env → Place → ℕ → (List ℕ → Do (Unit {0})) → Value → Do Base
written env at t tell data_ = read_text at data_ >>= (λ bytes. tell bytes >>> pure (file_answer env t (length bytes) 0))

abbrev pub run_write : Env → Place → ℕ → List Value → Do Base
run_write env at t vs =
    known at (int_of true 8 (arg vs 0)) >>= (λ fd. if int_eq fd (pos 1) then written env at t print (arg vs 1)
    else (if int_eq fd (pos 2) then written env at t complain (arg vs 1) else pure (file_answer env t 0 1)))

abbrev pub run_exit : Place → List Value → Do Base
run_exit at vs = known at (int_of true 8 (arg vs 0)) >>= (λ z. halt (ends (exited (residue 256 z))))

-- ---- sizes and addresses of containers; `len` doesn't read an array, and of a header it takes the one word
abbrev pub length_of : Layout → Value → Base
length_of l v = is (piece (address_bytes l) 8 v)

abbrev pub read_length : Env → Place → Layout → Base → Do Base
read_length env at l b = read_base env at (address_bytes l + 8) b >>= (λ v. pure (length_of l v))

abbrev pub length_in : Env → Place → Layout → Shape → Base → Do Base
length_in env at l (array e n) b = pure (is (int_bytes 8 (pos n)))
length_in env at l (soa_array e n) b = pure (is (int_bytes 8 (pos n)))
length_in env at l s b = read_length env at l b

abbrev pub run_len : Env → Place → List ℕ → Do Base → Do Base
run_len env at ts m = m >>= length_in env at (layout_of env (arg_type ts 0)) (shape_of env (arg_type ts 0))

abbrev pub run_cap : Env → List ℕ → List Value → Do Base
run_cap env ts vs = pure (is (piece (address_bytes (layout_of env (arg_type ts 0)) + 8) 8 (arg vs 0)))

abbrev pub run_raw_data : List Value → Do Base
run_raw_data vs = pure (is (piece 0 8 (arg vs 0)))

-- ---- integers
abbrev pub run_lesser : Env → Place → Bool → ℕ → List Value → Do Base
run_lesser env at greater t vs =
    whole_of env at t (arg vs 0) >>= (λ y. whole_of env at t (arg vs 1) >>= (λ z. spend 1 >>> pure (is (if int_lt (if greater then z else y) (if greater then y else z) then arg vs 0 else arg vs 1))))

abbrev pub run_abs : Env → Place → ℕ → List Value → Do Base
run_abs env at t vs = whole_of env at t (arg vs 0) >>= (λ z. pure (is (int_bytes (size_of env t) (if int_lt z (pos 0) then (pos 0 -ℤ z) else z))))

-- ---- regions and raw memory
abbrev pub heap_size : ℕ
heap_size = 2 ^ 24

abbrev pub temp_size : ℕ
temp_size = 2 ^ 20

abbrev pub heap_block : Block
heap_block = region 1610612736 0

abbrev pub temp_block : Block
temp_block = region 1744830464 1

abbrev pub run_region : Block → ℕ → Do Base
run_region b n = pure (is (pointer_bytes (to b 0) ++ int_bytes 8 (pos n)))

-- the most elements or bytes
abbrev pub length_limit : ℕ
length_limit = 2 ^ 62

abbrev pub run_byte_slice : Place → List Value → Do Base
run_byte_slice at vs = known at (int_of true 8 (arg vs 1)) >>= (λ n. if int_lt n (pos 0) || int_lt (pos length_limit) n then fail check.Length at else pure (is (arg vs 0 ++ arg vs 1)))

-- ---- elements of dynamic arrays and slices, column by column
-- a column of its own costs one
abbrev pub touched : Layout → Do (Unit {0})
touched l = spend (if l.columns then 1 else 0)

-- bytes from one address to another, as if through a copy
abbrev pub move_bytes : Place → Pointer → Pointer → ℕ → Do (Unit {0})
move_bytes at p q n = read_at at q n >>= (λ v. write_to at p v)

abbrev pub copy_cells : Place → Layout → ℕ → List Cell → Value → Value → Do (Unit {0})
copy_cells at l n [] v w = pure tt
copy_cells at l n (c ∷ cs) v w =
    touched l >>> known at (pointer_of (piece 0 8 v)) >>= (λ p. known at (pointer_of (piece 0 8 w)) >>= (λ q. move_bytes at p q (n * c.size) >>> copy_cells at l n cs (drop 8 v) (drop 8 w)))

abbrev pub lesser : ℤ → ℤ → ℤ
lesser y z = if int_lt y z then y else z

abbrev pub copy_lesser : Place → Layout → Value → Value → ℤ → Do Base
copy_lesser at l v w n = copy_cells at l (natural n) l.cells v w >>> pure (is (int_bytes 8 n))

abbrev pub length_word : Layout → Value → Value
length_word l v = piece (address_bytes l) 8 v

abbrev pub run_copy : Env → Place → List ℕ → List Value → Do Base
run_copy env at ts vs =
    known at (int_of true 8 (length_word (layout_of env (arg_type ts 0)) (arg vs 0))) >>= (λ y. known at (int_of true 8 (length_word (layout_of env (arg_type ts 0)) (arg vs 1))) >>= (λ z.
    copy_lesser at (layout_of env (arg_type ts 0)) (arg vs 0) (arg vs 1) (lesser y z)))

abbrev pub target_in : Shape → ℕ
target_in (address t) = t
target_in _ = 0

abbrev pub target_of : Env → ℕ → ℕ
target_of env t = target_in (shape_of env t)

-- a pointer to a dynamic array
abbrev pub array_at : Place → Pointer → Do Pointer
array_at at nil = fail check.Nil at
array_at at (to b o) = pure (to b o)

abbrev pub pointed : Place → Value → Do Pointer
pointed at v = known at (pointer_of v) >>= array_at at

abbrev pub write_length : Place → Layout → Pointer → ℕ → Do (Unit {0})
write_length at l p n = behind at p (address_bytes l) >>= (λ q. write_to at q (int_bytes 8 (pos n)))

abbrev pub run_clear : Env → Place → List ℕ → List Value → Do Base
run_clear env at ts vs = pointed at (arg vs 0) >>= (λ p. write_length at (layout_of env (target_of env (arg_type ts 0))) p 0 >>> pure (is []))

-- the last element, read before the length is written
abbrev pub popped : Env → Place → ℕ → ℕ → Pointer → Elements → Do Base
popped env at t n p es =
    element at (es.count -ℤ pos 1) es >>= (λ b. read_base env at n b >>= (λ v. write_length at (layout_of env t) p (natural (es.count -ℤ pos 1)) >>> pure (is v)))

abbrev pub run_pop : Env → Place → List ℕ → List Value → Do Base
run_pop env at ts vs =
    pointed at (arg vs 0) >>= (λ p. elements_of env at (target_of env (arg_type ts 0)) (lies (spot p)) >>=
    popped env at (target_of env (arg_type ts 0)) (layout_of env (target_of env (arg_type ts 0))).size p)

-- n elements from one index of a column to another; no address is made for none
abbrev pub shift_cell : Place → ℕ → ℕ → ℕ → ℕ → Value → Do (Unit {0})
shift_cell at to_ from zero size v = pure tt
shift_cell at to_ from (suc n) size v =
    known at (pointer_of (piece 0 8 v)) >>= (λ p. behind at p (from * size) >>= (λ q. behind at p (to_ * size) >>= (λ r. move_bytes at r q (suc n * size))))

abbrev pub shift_cells : Place → Layout → ℕ → ℕ → ℕ → List Cell → Value → Do (Unit {0})
shift_cells at l to_ from n [] v = pure tt
shift_cells at l to_ from n (c ∷ cs) v = touched l >>> shift_cell at to_ from n c.size v >>> shift_cells at l to_ from n cs (drop 8 v)

abbrev pub remove_at : Place → Layout → Bool → Pointer → ℕ → ℕ → Value → Do Base
remove_at at l ordered p n i v =
    (if ordered then shift_cells at l i (i + 1) (n - 1 - i) l.cells v else shift_cells at l i (n - 1) 1 l.cells v) >>> write_length at l p (n - 1) >>> pure (is [])

abbrev pub remove_found : Place → Layout → Bool → Pointer → Value → ℤ → ℤ → Do Base
remove_found at l ordered p v n i =
    if int_le (pos 0) i && int_lt i n then remove_at at l ordered p (natural n) (natural i) v else fail check.Index at

abbrev pub remove_from : Place → Layout → Bool → Pointer → Value → Do Base
remove_from at l ordered p w =
    read_at at p (address_bytes l + 8) >>= (λ v. known at (int_of true 8 (length_word l v)) >>= (λ n. known at (int_of true 8 w) >>= (λ i. remove_found at l ordered p v n i)))

abbrev pub run_remove : Env → Place → Bool → List ℕ → List Value → Do Base
run_remove env at ordered ts vs = pointed at (arg vs 0) >>= (λ p. remove_from at (layout_of env (target_of env (arg_type ts 0))) ordered p (arg vs 1))
