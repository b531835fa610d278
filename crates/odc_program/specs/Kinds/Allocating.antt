-- The built-in procedures that call allocators: which one, with what, and what follows each answer.
use Rattle.std.specs.Prelude.{ℕ, zero, suc, ◌+◌, ◌-◌, ◌*◌, ◌==◌, ◌&&◌, Bool, true, false, nat_le, nat_lt, int_lt, if◌then◌else◌, ℤ, pos, negsuc, List, [], ◌∷◌, ◌++◌, length, max, min, drop, Option, Some, None}
use Rattle.odc_text.specs.declared.place.Place.{Place}
use Rattle.odc_text.specs.declared.check.Check.TheVariants as check
use Rattle.odc_program.specs.States.Run.{pure, ◌>>=◌, ◌>>>◌}
use Rattle.odc_program.specs.States.Bytes.{Pointer, nil, Value, number_of, zeros, int_bytes, int_of, pointer_bytes, pointer_of, procedure_of, piece}
use Rattle.odc_program.specs.Trees.Program.{Shape, several, address, dynamic, soa_dynamic}
use Rattle.odc_program.specs.States.State.{Do, spend, stray, known, fail, read_at, write_to, behind, is_live, Base, is, Env, Calls, size_of, align_of, shape_of}
use Rattle.odc_program.specs.Kinds.Layouts.{Cell, Column, Layout, layout_of, columns_of, storage_size, address_bytes}
use Rattle.odc_program.specs.Kinds.Places.{context_value, location_value}
use Rattle.odc_program.specs.Kinds.Operators.{same_pointer}
use Rattle.odc_program.specs.Kinds.Calling.{ask, has_type}
use Rattle.odc_program.specs.Kinds.Builtins.{length_limit, arg, arg_type, touched, move_bytes, length_word, target_of, pointed, write_length}

-- ---- one call
-- what an allocator answers: memory, and an error that isn't 0
pub record Answer : Type 0 where
  pub memory : Value
  pub error : ℕ

-- fewer bytes than asked are want of memory
abbrev pub length_checked : ℕ → Value → ℤ → Answer
length_checked size v n = record { memory = piece 0 8 v; error = (if int_lt n (pos size) then 1 else 0) }

abbrev pub answered_by : Place → ℕ → Value → ℕ → Do Answer
answered_by at zero v e = pure (record { memory = piece 0 8 v; error = e })
answered_by at (suc n) v zero = known at (int_of true 8 (piece 8 8 v)) >>= (λ k. pure (length_checked (suc n) v k))
answered_by at (suc n) v (suc e) = pure (record { memory = piece 0 8 v; error = suc e })

abbrev pub answered : Place → ℕ → Value → Do Answer
answered at size v = known at (number_of (piece 16 1 v)) >>= answered_by at size v

-- an allocator without a procedure answers so, without a call
abbrev pub not_implemented : Answer
not_implemented = record { memory = zeros 8; error = 4 }

abbrev pub call_parts : Env → Place → Value → ℕ → ℕ → ℕ → Value → ℕ → List Value
call_parts env at allocator mode size align old old_size =
    piece 8 8 allocator ∷ int_bytes 1 (pos mode) ∷ int_bytes 8 (pos size) ∷ int_bytes 8 (pos align) ∷ old ∷ int_bytes 8 (pos old_size) ∷ location_value env at ∷ []

-- the value that an allocator answers, None where there is no procedure
abbrev pub ask_found : Calls → Env → Place → List Value → Option ℕ → Do (Option Value)
ask_found calls env at vs None = pure None
ask_found calls env at vs (Some g) = if has_type env g env.tables.allocator then (ask calls env at g vs >>= (λ v. pure (Some v))) else stray at

abbrev pub ask_raw : Calls → Env → Place → Value → ℕ → ℕ → ℕ → Value → ℕ → Do (Option Value)
ask_raw calls env at allocator mode size align old old_size =
    known at (procedure_of (piece 0 8 allocator)) >>= ask_found calls env at (call_parts env at allocator mode size align old old_size)

abbrev pub answer_of : Place → ℕ → Option Value → Do Answer
answer_of at size None = pure not_implemented
answer_of at size (Some v) = answered at size v

abbrev pub ask_allocator : Calls → Env → Place → Value → ℕ → ℕ → ℕ → Value → ℕ → Do Answer
ask_allocator calls env at allocator mode size align old old_size = ask_raw calls env at allocator mode size align old old_size >>= answer_of at size

-- memory for new elements; nothing is asked for no bytes
abbrev pub allocate : Calls → Env → Place → Value → ℕ → ℕ → Do Answer
allocate calls env at allocator zero align = pure (record { memory = zeros 8; error = 0 })
allocate calls env at allocator (suc n) align = ask_allocator calls env at allocator 0 (suc n) align (zeros 8) 0

-- ---- what a built-in gives: a value and an error, the value alone, or the error alone
abbrev pub with_error : Shape → Value → ℕ → Base
with_error (several ts) v e = is (v ++ int_bytes 1 (pos e))
with_error _ v e = is v

abbrev pub value_type : Env → ℕ → Shape → ℕ
value_type env t (several (u ∷ us)) = u
value_type env t _ = t

abbrev pub value_type_of : Env → ℕ → ℕ
value_type_of env t = value_type env t (shape_of env t)

abbrev pub error_alone : ℕ → Do Base
error_alone e = pure (is (int_bytes 1 (pos e)))

-- the allocator that is given, or the context's
abbrev pub context_allocator : Env → Value
context_allocator env = piece 0 16 (context_value env)

abbrev pub allocator_in : Env → List Value → Value
allocator_in env [] = context_allocator env
allocator_in env (a ∷ rest) = a

-- ---- lengths
-- not more elements or bytes than any container may have
abbrev pub fits_limit : Layout → ℕ → Bool
fits_limit l n = nat_le n length_limit && nat_le (storage_size n l) length_limit

abbrev pub checked_count : Place → Layout → ℤ → Do ℕ
checked_count at l (pos n) = if fits_limit l n then pure n else fail check.Length at
checked_count at l (negsuc n) = fail check.Length at

abbrev pub checked_room : Place → Layout → ℕ → ℤ → Do ℕ
checked_room at l n c = checked_count at l c >>= (λ k. if nat_le n k then pure k else fail check.Length at)

-- ---- addresses of columns in a storage
abbrev pub column_addresses : Place → Pointer → List Column → Do Value
column_addresses at p [] = pure []
column_addresses at p (c ∷ cs) = behind at p c.start >>= (λ q. column_addresses at p cs >>= (λ v. pure (pointer_bytes q ++ v)))

abbrev pub addresses_in : Place → Layout → ℕ → Value → Do Value
addresses_in at l n memory = known at (pointer_of memory) >>= (λ p. column_addresses at p (columns_of n l))

-- ---- new and make
abbrev pub made_new : Env → ℕ → Answer → Do Base
made_new env t a = pure (with_error (shape_of env t) (if a.error == 0 then a.memory else zeros 8) a.error)

abbrev pub run_new : Calls → Env → Place → ℕ → List Value → Do Base
run_new calls env at t vs =
    allocate calls env at (allocator_in env vs) (size_of env (target_of env (value_type_of env t))) (align_of env (target_of env (value_type_of env t))) >>= made_new env t

-- the words behind the addresses: a length, and for a dynamic array capacity and allocator
abbrev pub own_words : ℕ → ℕ → Value → Value
own_words n c allocator = int_bytes 8 (pos n) ++ int_bytes 8 (pos c) ++ allocator

abbrev pub is_dynamic : Shape → Bool
is_dynamic (dynamic e) = true
is_dynamic (soa_dynamic e) = true
is_dynamic _ = false

abbrev pub words_by : Bool → ℕ → ℕ → Value → Value
words_by true n c allocator = own_words n c allocator
words_by false n c allocator = int_bytes 8 (pos n)

abbrev pub made : Env → Place → ℕ → ℕ → ℕ → Value → Answer → Do Base
made env at t n c allocator a =
    if a.error == 0
    then (addresses_in at (layout_of env (value_type_of env t)) c a.memory >>= (λ v. pure (with_error (shape_of env t) (v ++ words_by (is_dynamic (shape_of env (value_type_of env t))) n c allocator) 0)))
    else pure (with_error (shape_of env t) (zeros (size_of env (value_type_of env t))) a.error)

abbrev pub make_with : Calls → Env → Place → ℕ → Value → ℕ → ℕ → Do Base
make_with calls env at t allocator n c =
    allocate calls env at allocator (storage_size c (layout_of env (value_type_of env t))) (layout_of env (value_type_of env t)).align >>= made env at t n c allocator

abbrev pub int_arg : Place → Value → Do ℤ
int_arg at v = known at (int_of true 8 v)

abbrev pub make_slice : Calls → Env → Place → ℕ → List Value → Do Base
make_slice calls env at t vs =
    int_arg at (arg vs 0) >>= (λ z. checked_count at (layout_of env (value_type_of env t)) z >>= (λ n. make_with calls env at t (allocator_in env (drop 1 vs)) n n))

-- the length is 0 where none is given, and the capacity is the length
abbrev pub make_dynamic : Calls → Env → Place → ℕ → List Value → Do Base
make_dynamic calls env at t [] = make_with calls env at t (context_allocator env) 0 0
make_dynamic calls env at t (n ∷ []) =
    int_arg at n >>= (λ z. checked_count at (layout_of env (value_type_of env t)) z >>= (λ k. make_with calls env at t (context_allocator env) k k))
make_dynamic calls env at t (n ∷ c ∷ rest) =
    int_arg at n >>= (λ z. int_arg at c >>= (λ y. checked_count at (layout_of env (value_type_of env t)) z >>= (λ k. checked_room at (layout_of env (value_type_of env t)) k y >>= (λ r.
    make_with calls env at t (allocator_in env rest) k r))))

abbrev pub make_by : Calls → Env → Place → ℕ → Bool → List Value → Do Base
make_by calls env at t true vs = make_dynamic calls env at t vs
make_by calls env at t false vs = make_slice calls env at t vs

abbrev pub run_make : Calls → Env → Place → ℕ → List Value → Do Base
run_make calls env at t vs = make_by calls env at t (is_dynamic (shape_of env (value_type_of env t))) vs

-- ---- growth: own words read once, written last
pub record Own : Type 0 where
  pub place : Pointer
  -- the addresses of its columns
  pub starts : Value
  pub count : ℕ
  pub room : ℕ
  pub allocator : Value

-- a length and a capacity that a container may have
abbrev pub sound_lengths : Layout → ℕ → ℕ → Bool
sound_lengths l n c = nat_le n c && fits_limit l c

abbrev pub own_from : Place → Layout → Pointer → Value → Option ℕ → Option ℕ → Do Own
own_from at l p v (Some n) (Some c) =
    if sound_lengths l n c then pure (record { place = p; starts = piece 0 (address_bytes l) v; count = n; room = c; allocator = piece (address_bytes l + 16) 16 v }) else fail check.Length at
own_from at l p v _ _ = stray at

abbrev pub own_in : Place → Layout → Pointer → Value → Do Own
own_in at l p v = own_from at l p v (number_of (piece (address_bytes l) 8 v)) (number_of (piece (address_bytes l + 8) 8 v))

abbrev pub own_of : Place → Layout → Value → Do Own
own_of at l w = pointed at w >>= (λ p. read_at at p (address_bytes l + 32) >>= own_in at l p)

-- the kept allocator; the context's where its procedure is nil
abbrev pub allocator_by : Env → Own → Option ℕ → Value
allocator_by env own None = context_allocator env
allocator_by env own (Some f) = own.allocator

abbrev pub allocator_of : Env → Place → Own → Do Value
allocator_of env at own = known at (procedure_of (piece 0 8 own.allocator)) >>= (λ f. pure (allocator_by env own f))

-- what a growth leaves: the addresses of the new columns, or an error
pub record Grown : Type 0 where
  pub starts : Value
  pub error : ℕ

abbrev pub grown_to : Place → Layout → ℕ → Answer → Do Grown
grown_to at l c a =
    if a.error == 0 then (addresses_in at l c a.memory >>= (λ v. pure (record { starts = v; error = 0 }))) else pure (record { starts = []; error = a.error })

-- a plain array is resized, where it has bytes
abbrev pub resize_plain : Calls → Env → Place → Layout → Own → Value → ℕ → ℕ → Do Answer
resize_plain calls env at l own allocator zero old = pure (record { memory = zeros 8; error = 0 })
resize_plain calls env at l own allocator (suc n) zero = ask_allocator calls env at allocator 0 (suc n) l.align (zeros 8) 0
resize_plain calls env at l own allocator (suc n) (suc old) = ask_allocator calls env at allocator 3 (suc n) l.align (piece 0 8 own.starts) (suc old)

-- whole columns, in field order
abbrev pub copy_columns : Place → ℕ → List Cell → Value → Value → Do (Unit {0})
copy_columns at n [] v w = pure tt
copy_columns at n (c ∷ cs) v w =
    spend 1 >>> known at (pointer_of (piece 0 8 v)) >>= (λ p. known at (pointer_of (piece 0 8 w)) >>= (λ q. move_bytes at p q (n * c.size) >>> copy_columns at n cs (drop 8 v) (drop 8 w)))

-- the old memory is given back where it has bytes; the answer isn't read
abbrev pub free_old : Calls → Env → Place → Own → Value → ℕ → Do (Unit {0})
free_old calls env at own allocator zero = pure tt
free_old calls env at own allocator (suc n) = ask_raw calls env at allocator 1 0 0 (piece 0 8 own.starts) (suc n) >>= (λ v. pure tt)

abbrev pub moved_over : Calls → Env → Place → Layout → Own → Value → Grown → Do Grown
moved_over calls env at l own allocator g =
    if g.error == 0 then (copy_columns at own.room l.cells g.starts own.starts >>> free_old calls env at own allocator (storage_size own.room l) >>> pure g) else pure g

abbrev pub grow_columns : Calls → Env → Place → Layout → Own → ℕ → Value → Do Grown
grow_columns calls env at l own c allocator =
    allocate calls env at allocator (storage_size c l) l.align >>= grown_to at l c >>= moved_over calls env at l own allocator

abbrev pub grow_plain : Calls → Env → Place → Layout → Own → ℕ → Value → Do Grown
grow_plain calls env at l own c allocator =
    resize_plain calls env at l own allocator (storage_size c l) (storage_size own.room l) >>= grown_to at l c

abbrev pub grow_by : Calls → Env → Place → Layout → Own → ℕ → Value → Do Grown
grow_by calls env at l own c allocator = if l.columns then grow_columns calls env at l own c allocator else grow_plain calls env at l own c allocator

-- the own words with this length, where it has grown; they are as before on an error
abbrev pub write_own : Place → Own → ℕ → ℕ → Value → Grown → Do Grown
write_own at own n c allocator g =
    if g.error == 0 then (write_to at own.place (g.starts ++ own_words n c allocator) >>> pure g) else pure g

abbrev pub grow : Calls → Env → Place → Layout → Own → ℕ → ℕ → Do Grown
grow calls env at l own n c =
    checked_count at l (pos c) >>= (λ k. allocator_of env at own >>= (λ allocator. grow_by calls env at l own c allocator >>= write_own at own n c allocator))

-- ---- append
-- each column gets its part of the new elements
abbrev pub put_cell : Place → Cell → Pointer → ℕ → List Value → Do (Unit {0})
put_cell at c p n [] = pure tt
put_cell at c p n (v ∷ vs) = behind at p (n * c.size) >>= (λ q. write_to at q (piece c.offset c.size v) >>> put_cell at c p (n + 1) vs)

abbrev pub put_cells : Place → Layout → ℕ → List Cell → Value → List Value → Do (Unit {0})
put_cells at l n [] starts vs = pure tt
put_cells at l n (c ∷ cs) starts vs =
    touched l >>> known at (pointer_of (piece 0 8 starts)) >>= (λ p. put_cell at c p n vs >>> put_cells at l n cs (drop 8 starts) vs)

abbrev pub appended : Env → Place → ℕ → Layout → Own → List Value → Grown → Do Base
appended env at t l own vs g =
    if g.error == 0
    then (put_cells at l own.count l.cells g.starts vs >>> pure (with_error (shape_of env t) (int_bytes 8 (pos (length vs))) 0))
    else pure (with_error (shape_of env t) (zeros 8) g.error)

-- without a growth only the length is written
abbrev pub lengthened : Place → Layout → Own → ℕ → Do Grown
lengthened at l own n = write_length at l own.place n >>> pure (record { starts = own.starts; error = 0 })

abbrev pub make_room : Calls → Env → Place → Layout → Own → ℕ → Do Grown
make_room calls env at l own k =
    if nat_le (own.count + k) own.room then lengthened at l own (own.count + k) else grow calls env at l own (own.count + k) (2 * own.room + max 8 k)

abbrev pub append_to : Calls → Env → Place → ℕ → Layout → Value → List Value → Do Base
append_to calls env at t l w vs = own_of at l w >>= (λ own. make_room calls env at l own (length vs) >>= appended env at t l own vs)

abbrev pub run_append : Calls → Env → Place → ℕ → List ℕ → List Value → Do Base
run_append calls env at t ts vs = append_to calls env at t (layout_of env (target_of env (arg_type ts 0))) (arg vs 0) (drop 1 vs)

-- ---- reserve and resize
abbrev pub reserve_room : Calls → Env → Place → Layout → Own → ℕ → Do Grown
reserve_room calls env at l own n = if nat_le n own.room then pure (record { starts = own.starts; error = 0 }) else grow calls env at l own own.count n

abbrev pub reserve_in : Calls → Env → Place → Layout → Value → Value → Do Base
reserve_in calls env at l w v = int_arg at v >>= (λ z. checked_count at l z >>= (λ n. own_of at l w >>= (λ own. reserve_room calls env at l own n >>= (λ g. error_alone g.error))))

abbrev pub run_reserve : Calls → Env → Place → List ℕ → List Value → Do Base
run_reserve calls env at ts vs = reserve_in calls env at (layout_of env (target_of env (arg_type ts 0))) (arg vs 0) (arg vs 1)

-- elements that the array had room for before are zeroed
abbrev pub zero_cells : Place → Layout → ℕ → ℕ → List Cell → Value → Do (Unit {0})
zero_cells at l from n [] starts = pure tt
zero_cells at l from n (c ∷ cs) starts =
    touched l >>> known at (pointer_of (piece 0 8 starts)) >>= (λ p. behind at p (from * c.size) >>= (λ q. write_to at q (zeros (n * c.size)) >>> zero_cells at l from n cs (drop 8 starts)))

abbrev pub zeroed : Place → Layout → Own → ℕ → Value → Do (Unit {0})
zeroed at l own n starts = if nat_lt own.count (min n own.room) then zero_cells at l own.count (min n own.room - own.count) l.cells starts else pure tt

abbrev pub resized : Place → Layout → Own → ℕ → Grown → Do Base
resized at l own n g = if g.error == 0 then (zeroed at l own n g.starts >>> error_alone 0) else error_alone g.error

abbrev pub resize_room : Calls → Env → Place → Layout → Own → ℕ → Do Grown
resize_room calls env at l own n = if nat_le n own.room then lengthened at l own n else grow calls env at l own n n

abbrev pub resize_in : Calls → Env → Place → Layout → Value → Value → Do Base
resize_in calls env at l w v = int_arg at v >>= (λ z. checked_count at l z >>= (λ n. own_of at l w >>= (λ own. resize_room calls env at l own n >>= resized at l own n)))

abbrev pub run_resize : Calls → Env → Place → List ℕ → List Value → Do Base
run_resize calls env at ts vs = resize_in calls env at (layout_of env (target_of env (arg_type ts 0))) (arg vs 0) (arg vs 1)

-- ---- delete and free
abbrev pub free_found : Calls → Env → Place → Value → Value → ℕ → Bool → Do Base
free_found calls env at allocator old n true = error_alone 0
free_found calls env at allocator old n false = ask_allocator calls env at allocator 1 0 0 old n >>= (λ a. error_alone a.error)

-- memory is given back where its address isn't nil
abbrev pub free_at : Calls → Env → Place → Value → Value → ℕ → Do Base
free_at calls env at allocator old n =
    known at (pointer_of old) >>= (λ p. is_live at p >>> spend 1 >>> free_found calls env at allocator old n (same_pointer p nil))

abbrev pub delete_dynamic : Calls → Env → Place → Layout → Value → Do Base
delete_dynamic calls env at l v = own_in at l nil v >>= (λ own. free_at calls env at own.allocator (piece 0 8 own.starts) (storage_size own.room l))

abbrev pub delete_slice : Calls → Env → Place → Layout → Value → Value → Do Base
delete_slice calls env at l v allocator =
    int_arg at (length_word l v) >>= (λ z. checked_count at l z >>= (λ n. free_at calls env at allocator (piece 0 8 v) (storage_size n l)))

abbrev pub delete_by : Calls → Env → Place → Bool → Layout → List Value → Do Base
delete_by calls env at true l vs = delete_dynamic calls env at l (arg vs 0)
delete_by calls env at false l vs = delete_slice calls env at l (arg vs 0) (allocator_in env (drop 1 vs))

abbrev pub run_delete : Calls → Env → Place → List ℕ → List Value → Do Base
run_delete calls env at ts vs = delete_by calls env at (is_dynamic (shape_of env (arg_type ts 0))) (layout_of env (arg_type ts 0)) vs

-- what a pointer points to; nothing is known of a raw one
abbrev pub pointed_size : Env → Shape → ℕ
pointed_size env (address t) = size_of env t
pointed_size env _ = 0

abbrev pub run_free : Calls → Env → Place → List ℕ → List Value → Do Base
run_free calls env at ts vs = free_at calls env at (allocator_in env (drop 1 vs)) (arg vs 0) (pointed_size env (shape_of env (arg_type ts 0)))

abbrev pub run_free_all : Calls → Env → Place → List Value → Do Base
run_free_all calls env at vs = ask_allocator calls env at (allocator_in env vs) 2 0 0 (zeros 8) 0 >>= (λ a. error_alone a.error)
