-- Small programs: containers in columns, built-in procedures on dynamic arrays, and allocators.
use Rattle.std.specs.Prelude.{ℕ, ◌++◌, ℤ, pos, negsuc, true, false, List, [], ◌∷◌, Some, None, codes}
use Rattle.odc_program.specs.declared.ops.Builtin.TheVariants as b
use Rattle.odc_program.specs.States.Bytes.{Value, numbers, zeros, int_bytes}
use Rattle.odc_program.specs.Trees.Tree as t
use Rattle.odc_program.specs.Trees.Program.{Global, Program}
use Rattle.odc_program.specs.Rows.Writing.{glob_of, taken, Failing, Contextless, Int, IntPointer, ContextType, IntArray, Byte_, ByteSlice_, Buffer, Allocator, IntError, Error, Three, I64, Raw, Rec, SoaThree, SoaArray, AllocatorProc, IntSlice, Nothing, ToIntArray, ToSoaArray, IntColumn, SliceError, num, of_type, str, nil_of, loc, glob, node, args, calls, field, elem, rec_of, st, block_of, show, let_, zero, set, call, do_, give, at_place, Proc, proc, main, program, with_all, three, buffer, address_of, allocator_of, refuser, lit}

-- ---- columns
-- two elements stored, two swapped, columns and fields read: 5, twice 15, 29 and 26
abbrev pub rec_at : ℕ → t.Expr
rec_at n = elem Rec 60 (loc SoaThree 0) (num n)

abbrev pub in_columns : Program
in_columns = program (main (at_place SoaThree 128 ∷ []) []
    (zero 0 ∷ set (rec_at 0) (rec_of 1 2) ∷ set (rec_at 1) (rec_of 7 9) ∷
    st (t.assign (t.left_ (rec_at 0) (t.left_ (rec_at 2) t.no_lefts)) (t.each (args (rec_at 2 ∷ rec_at 0 ∷ [])))) ∷
    show (elem I64 61 (node IntColumn 62 (t.column (loc SoaThree 0) 1)) (num 1) ∷ field Byte_ (rec_at 0) 0 ∷ field I64 (rec_at 2) 1 ∷ []) ∷ []) ∷ [])

-- `for &e in v { e.b = 4 }` and `for e in v` over three elements: 5; 2 and three times 7; 2 and three times 14
abbrev pub loops_in_columns : Program
loops_in_columns = program (main (at_place SoaThree 128 ∷ at_place Rec 168 ∷ at_place Rec 192 ∷ []) []
    (zero 0 ∷
    st (t.range 1 (t.through (loc SoaThree 0) true) (Some 1) None (block_of (set (field I64 (loc Rec 1) 1) (of_type I64 (pos 4)) ∷ []))) ∷
    st (t.range 2 (t.through (loc SoaThree 0) false) (Some 2) None (block_of (show (field I64 (loc Rec 2) 1 ∷ []) ∷ []))) ∷ []) ∷ [])

-- ---- dynamic arrays over storage of a global; procedure 1 is the kept allocator where there is one
abbrev pub array_over : ℕ → ℕ → t.Parts → t.Expr
array_over n c rest = node IntArray 20 (t.build None (t.part 0 (address_of IntPointer (glob Three 0)) (t.part 8 (num n) (t.part 16 (num c) rest))))

abbrev pub kept : ℕ → t.Parts
kept d = t.part d (node AllocatorProc 21 (t.proc_value 0)) t.no_parts

abbrev pub a : t.Expr
a = loc IntArray 0

abbrev pub to_a : t.Expr
to_a = address_of ToIntArray a

abbrev pub element : ℕ → t.Expr
element n = elem Int 61 a (num n)

abbrev pub len : t.Expr
len = calls Int b.Len 62 (a ∷ [])

abbrev pub cap : t.Expr
cap = calls Int b.Cap 63 (a ∷ [])

-- three elements, then a statement, then what is printed: 19 for the declaration
abbrev pub on_three : List t.Expr → t.Expr → Program
on_three printed e = with_all (three ∷ []) [] None (main (at_place IntArray 128 ∷ []) [] (let_ 0 (array_over 3 3 t.no_parts) ∷ do_ e ∷ show printed ∷ []) ∷ [])

-- 12 and 26
abbrev pub removes : Program
removes = on_three (element 0 ∷ element 1 ∷ len ∷ []) (calls Nothing b.OrderedRemove 70 (to_a ∷ num 0 ∷ []))

-- 10 and 26
abbrev pub removes_unordered : Program
removes_unordered = on_three (element 0 ∷ element 1 ∷ len ∷ []) (calls Nothing b.UnorderedRemove 70 (to_a ∷ num 0 ∷ []))

-- 8 and 17
abbrev pub pops : Program
pops = on_three (len ∷ element 1 ∷ []) (calls Int b.Pop 70 (to_a ∷ []))

-- 5 and 8
abbrev pub clears : Program
clears = on_three (len ∷ []) (calls Nothing b.Clear 70 (to_a ∷ []))

-- an element that isn't there: 7 up to the check
abbrev pub removes_none : Program
removes_none = on_three [] (calls Nothing b.OrderedRemove 70 (to_a ∷ num 3 ∷ []))

-- a length that shrinks and grows again within the capacity: elements behind the old length are zeroed: 19, 13 and 19
abbrev pub resizes : Program
resizes = with_all (three ∷ []) [] None (main (at_place IntArray 128 ∷ []) []
    (let_ 0 (array_over 1 3 t.no_parts) ∷ do_ (calls Error b.Resize 70 (to_a ∷ num 3 ∷ [])) ∷ show (element 0 ∷ element 2 ∷ []) ∷ []) ∷ [])

-- an append to an array without storage asks for eight elements: 14, 46 and 16
abbrev pub appends : Program
appends = with_all (buffer ∷ []) [] None (
    main (at_place IntArray 128 ∷ []) (1 ∷ [])
    (let_ 0 (node IntArray 20 (t.build None (kept 24))) ∷ do_ (calls IntError b.Append 51 (to_a ∷ num 7 ∷ num 9 ∷ [])) ∷ show (len ∷ element 1 ∷ []) ∷ []) ∷
    allocator_of 0 ∷ [])

-- one to a full array of three asks for twice the capacity and eight: 21, 44 and 26
abbrev pub grows : Program
grows = with_all (three ∷ buffer ∷ []) [] None (
    main (at_place IntArray 128 ∷ []) (1 ∷ [])
    (let_ 0 (array_over 3 3 (kept 24)) ∷ do_ (calls IntError b.Append 51 (to_a ∷ num 5 ∷ [])) ∷ show (len ∷ cap ∷ element 3 ∷ []) ∷ []) ∷
    allocator_of 1 ∷ [])

-- one without memory leaves the array as it is: 21, 34 and 17
abbrev pub cannot_grow : Program
cannot_grow = with_all (three ∷ []) [] None (
    main (at_place IntArray 128 ∷ []) (1 ∷ [])
    (let_ 0 (array_over 3 3 (kept 24)) ∷ do_ (calls IntError b.Append 51 (to_a ∷ num 5 ∷ [])) ∷ show (len ∷ cap ∷ []) ∷ []) ∷
    refuser ∷ [])

-- one within the capacity asks no allocator: 19, 12 and 16
abbrev pub appends_within : Program
appends_within = with_all (three ∷ []) [] None (main (at_place IntArray 128 ∷ []) []
    (let_ 0 (array_over 1 3 t.no_parts) ∷ do_ (calls IntError b.Append 51 (to_a ∷ num 5 ∷ [])) ∷ show (len ∷ element 1 ∷ []) ∷ []) ∷ [])

-- `reserve(&a, 4)` of a full array of three: 21, 43 and 17
abbrev pub reserves : Program
reserves = with_all (three ∷ buffer ∷ []) [] None (
    main (at_place IntArray 128 ∷ []) (1 ∷ [])
    (let_ 0 (array_over 3 3 (kept 24)) ∷ do_ (calls Error b.Reserve 51 (to_a ∷ num 4 ∷ [])) ∷ show (len ∷ cap ∷ []) ∷ []) ∷
    allocator_of 1 ∷ [])

-- `delete(a)`: 21, 8, 1 and 28
abbrev pub deletes : Program
deletes = with_all (three ∷ buffer ∷ []) [] None (
    main (at_place IntArray 128 ∷ []) (1 ∷ []) (let_ 0 (array_over 3 3 (kept 24)) ∷ do_ (calls Error b.Delete 70 (a ∷ [])) ∷ []) ∷
    allocator_of 1 ∷ [])

-- ---- dynamic arrays in columns
abbrev pub d : t.Expr
d = loc SoaArray 0

abbrev pub to_d : t.Expr
to_d = address_of ToSoaArray d

abbrev pub b_of : ℕ → t.Expr
b_of n = elem Int 61 (node IntSlice 62 (t.column d 1)) (num n)

abbrev pub append_rec : t.Stmt
append_rec = do_ (calls IntError b.Append 51 (to_d ∷ rec_of 7 9 ∷ []))

abbrev pub soa_len : t.Expr
soa_len = calls Int b.Len 62 (d ∷ [])

abbrev pub soa_cap : t.Expr
soa_cap = calls Int b.Cap 63 (d ∷ [])

-- the first append asks for eight records in columns: 16, 57 and 30
abbrev pub soa_appends : Program
soa_appends = with_all (buffer ∷ []) [] None (
    main (at_place SoaArray 128 ∷ []) (1 ∷ [])
    (let_ 0 (node SoaArray 20 (t.build None (kept 32))) ∷ append_rec ∷ show (b_of 0 ∷ soa_len ∷ soa_cap ∷ []) ∷ []) ∷
    allocator_of 0 ∷ [])

-- a storage of eight records: `u8` from 1 on in the first column, `i64` from 11 on in the second
abbrev pub longs : List ℤ → Value
longs [] = []
longs (z ∷ zs) = int_bytes 8 z ++ longs zs

abbrev pub eight : Global
eight = glob_of Buffer (numbers (1 ∷ 2 ∷ 3 ∷ 4 ∷ 5 ∷ 6 ∷ 7 ∷ 8 ∷ []) ++ longs (pos 11 ∷ pos 12 ∷ pos 13 ∷ pos 14 ∷ pos 15 ∷ pos 16 ∷ pos 17 ∷ pos 18 ∷ []) ++ zeros 184)

abbrev pub a_of : ℕ → t.Expr
a_of n = field Byte_ (elem Rec 60 d (num n)) 0

-- one to a full array of eight asks for 24, copies both columns and gives the old storage back: 28, 103 and 77
abbrev pub soa_grows : Program
soa_grows = with_all (eight ∷ buffer ∷ []) [] None (
    main (at_place SoaArray 128 ∷ []) (1 ∷ [])
    (let_ 0 (node SoaArray 20 (t.build None (t.part 0 (address_of IntPointer (glob Buffer 0)) (t.part 8 (address_of IntPointer (elem Byte_ 23 (glob Buffer 0) (num 8))) (t.part 16 (num 8) (t.part 24 (num 8) (kept 32))))))) ∷
    append_rec ∷ show (b_of 8 ∷ b_of 0 ∷ b_of 7 ∷ a_of 0 ∷ a_of 7 ∷ soa_len ∷ soa_cap ∷ []) ∷ []) ∷
    allocator_of 1 ∷ [])

-- ---- the context's allocator
-- `p := new(int); p^ = 5; println(p^)`: 31, 6 and 8
abbrev pub news : Program
news = with_all (buffer ∷ []) [] (Some 1) (
    main (at_place IntPointer 128 ∷ []) []
    (let_ 0 (calls IntPointer b.New 20 []) ∷ set (node Int 21 (t.deref (loc IntPointer 0))) (num 5) ∷ show (node Int 21 (t.deref (loc IntPointer 0)) ∷ []) ∷ []) ∷
    allocator_of 0 ∷ [])

-- `p := new(int); free(p)`: 31, and 5 and 28
abbrev pub frees : Program
frees = with_all (buffer ∷ []) [] (Some 1) (
    main (at_place IntPointer 128 ∷ []) [] (let_ 0 (calls IntPointer b.New 20 []) ∷ do_ (calls Error b.Free 21 (loc IntPointer 0 ∷ [])) ∷ []) ∷
    allocator_of 0 ∷ [])

-- `s := make([]int, 2); println(len(s)); delete(s)`: 33, 8, and 6 and 28
abbrev pub makes : Program
makes = with_all (buffer ∷ []) [] (Some 1) (
    main (at_place IntSlice 128 ∷ []) []
    (let_ 0 (calls IntSlice b.Make 20 (num 2 ∷ [])) ∷ show (calls Int b.Len 62 (loc IntSlice 0 ∷ []) ∷ []) ∷ do_ (calls Error b.Delete 21 (loc IntSlice 0 ∷ [])) ∷ []) ∷
    allocator_of 0 ∷ [])

-- `free_all()`: 2 and 28
abbrev pub frees_all : Program
frees_all = with_all (buffer ∷ []) [] (Some 1) (main [] [] (do_ (calls Error b.FreeAll 20 []) ∷ []) ∷ allocator_of 0 ∷ [])

-- `s := a[:]; for x in s { println(x) }`: 5, 4 and three times 10
abbrev pub over_slice : Program
over_slice = with_all (three ∷ []) [] None (main (at_place IntSlice 128 ∷ at_place Int 152 ∷ []) []
    (let_ 0 (node IntSlice 39 (t.cut (glob Three 0) t.absent t.absent)) ∷
    st (t.range 1 (t.through (loc IntSlice 0) false) (Some 1) None (block_of (show (loc Int 1 ∷ []) ∷ []))) ∷ []) ∷ [])

-- a negative length stops: 3
abbrev pub negative : Program
negative = program (main [] [] (do_ (calls IntSlice b.Make 20 (of_type Int (negsuc 0) ∷ [])) ∷ []) ∷ [])

-- a negative room stops before the array is asked, though that is nil: 4
abbrev pub negative_room : Program
negative_room = program (main [] [] (do_ (calls Error b.Reserve 20 (nil_of ToIntArray ∷ of_type Int (negsuc 0) ∷ [])) ∷ []) ∷ [])

-- and a slice of raw memory that is too long: 4
abbrev pub too_long : Program
too_long = program (main [] [] (do_ (calls ByteSlice_ b.ByteSlice 20 (nil_of Raw ∷ num 4611686018427387905 ∷ [])) ∷ []) ∷ [])

-- an allocator without a procedure answers without a call: 6, and 4 + 5 + 21
abbrev pub none_there : Program
none_there = program (main (at_place IntSlice 128 ∷ at_place Error 152 ∷ []) []
    (st (t.declare (Some 0 ∷ Some 1 ∷ []) (t.parted (taken IntSlice ∷ taken Error ∷ []) (calls SliceError b.Make 20 (num 4 ∷ [])))) ∷
    show (loc Error 1 ∷ []) ∷ []) ∷ [])

-- `f` sets the context's allocator to one without memory, defers twice, and leaves by `or_return`: 60 and 20
abbrev pub out_of_memory : Program
out_of_memory = program (
    main (at_place Error 128 ∷ []) (1 ∷ []) (let_ 0 (call Error 0 []) ∷ show (loc Error 0 ∷ []) ∷ []) ∷
    proc Failing 0 1 (at_place Error 128 ∷ at_place IntSlice 144 ∷ []) (2 ∷ []) (
    set (field Allocator (node ContextType 1 t.context) 0) (node Allocator 20 (t.build None (t.part 0 (node AllocatorProc 21 (t.proc_value 0)) (t.part 8 (nil_of Raw) t.no_parts)))) ∷
    st (t.defer (show (num 1 ∷ []))) ∷ st (t.defer (show (num 2 ∷ []))) ∷
    let_ 1 (node IntSlice 70 (t.or_return (calls SliceError b.Make 71 (num 4 ∷ [])) None)) ∷
    show (calls Int b.Len 72 (loc IntSlice 1 ∷ []) ∷ []) ∷ st (t.return t.nothing) ∷ []) ∷
    refuser ∷ [])

-- a contextless procedure asks the first context's allocator, whatever its caller's context is: 8, 4, 34 and 16
abbrev pub contextless : Proc → Proc
contextless p = record { head = record p.head { has_context = false }; body = p.body }

abbrev pub without_context : Program
without_context = with_all [] [] (Some 2) (
    main [] (1 ∷ []) (set (field Allocator (node ContextType 1 t.context) 0) (node Allocator 20 (t.build None t.no_parts)) ∷ show (call Error 0 [] ∷ []) ∷ []) ∷
    contextless (proc Contextless 0 1 (at_place Error 128 ∷ at_place Error 144 ∷ []) [] (
    st (t.declare (None ∷ Some 1 ∷ []) (t.parted (taken IntSlice ∷ taken Error ∷ []) (calls SliceError b.Make 20 (num 1 ∷ [])))) ∷
    give (loc Error 1 ∷ []) ∷ [])) ∷
    refuser ∷ [])

-- `copy(buf[0:2], "xyz")` moves the lesser length: 20
abbrev pub copies : Program
copies = with_all (buffer ∷ []) (lit (codes "xyz") ∷ []) None (main [] []
    (show (calls Int b.Copy 20 (node ByteSlice_ 30 (t.cut (glob Buffer 0) (t.present (num 0)) (t.present (num 2))) ∷ str 0 3 ∷ []) ∷ elem Byte_ 31 (glob Buffer 0) (num 1) ∷ []) ∷ []) ∷ [])

-- a slice past its end stops at its bracket: 5
abbrev pub cut_too_far : Program
cut_too_far = with_all (buffer ∷ []) [] None (main [] [] (do_ (node ByteSlice_ 30 (t.cut (glob Buffer 0) (t.present (num 2)) (t.present (num 257)))) ∷ []) ∷ [])
