-- Small programs: what allocators are asked and answer, regions, and memory that is raw.
use Rattle.std.specs.Prelude.{ℕ, pos, true, [], ◌∷◌, Some, None, replicate}
use Rattle.odc_program.specs.declared.ops.BinaryOp.TheVariants as op
use Rattle.odc_program.specs.declared.ops.Builtin.TheVariants as b
use Rattle.odc_program.specs.States.Bytes.{numbers}
use Rattle.odc_program.specs.Trees.Tree as t
use Rattle.odc_program.specs.Trees.Program.{Global, Program}
use Rattle.odc_program.specs.Rows.Writing.{Allocator, ContextType, SoaArray, ToSoaArray, SoaSlice, LongSlice, Either, Bool_, I64, Rec, IntError, Nothing, rec_of, field, bin, zero, program, taken, Answered, Location, BytePointer, PointerError, FileAnswer, Int, IntPointer, IntArray, Byte_, ByteSlice_, Buffer, Error, Raw, AllocatorProc, num, of_type, nil_of, loc, glob, node, args, calls, elem, st, show, let_, set, do_, at_place, Proc, main, with_all, three, buffer, glob_of, address_of, allocator_of, short_of}
use Rattle.odc_program.specs.Rows.Third.{array_over, kept, a, to_a, element, len, cap}

-- memory that isn't zero
abbrev pub ones : Global
ones = glob_of Buffer (numbers (replicate 256 1))

-- `resize(&a, 5)` of an array of one, with room for three: the second and third element are zeroed, those behind are what the
-- allocator answered: 21, 45 and 49
abbrev pub resizes : Program
resizes = with_all (three ∷ ones ∷ []) [] None (
    main (at_place IntArray 128 ∷ []) (1 ∷ [])
    (let_ 0 (array_over 1 3 (kept 24)) ∷ do_ (calls Error b.Resize 70 (to_a ∷ num 5 ∷ [])) ∷ show (len ∷ cap ∷ element 2 ∷ element 3 ∷ []) ∷ []) ∷
    allocator_of 1 ∷ [])

-- `p, e := new(int); println(e)` where the allocator answers seven bytes: 2 + 28 + 1 + 1, and 4 + 2 + 14
abbrev pub answers_less : Program
answers_less = with_all (buffer ∷ []) [] (Some 1) (
    main (at_place IntPointer 128 ∷ at_place Error 144 ∷ []) []
    (st (t.declare (Some 0 ∷ Some 1 ∷ []) (t.parted (taken IntPointer ∷ taken Error ∷ []) (calls PointerError b.New 20 []))) ∷ show (loc Error 1 ∷ []) ∷ []) ∷
    short_of 0 ∷ [])

-- an allocator whose frame doesn't fit: the call stands in the log: 3
abbrev pub no_stack : Program
no_stack = with_all (buffer ∷ []) [] (Some 1) (main [] [] (do_ (calls Error b.FreeAll 20 []) ∷ []) ∷ large (allocator_of 0) ∷ [])
  where
    large : Proc → Proc
    large p = record p { head = record p.head { frame = 134217728 } }

-- an allocator is asked for ever: 1, and 3 up to the first call
abbrev pub asks_for_ever : Program
asks_for_ever = with_all (buffer ∷ []) [] (Some 1) (main [] []
    (st (t.loop 1 t.no_stmt t.absent t.no_stmt (t.follow (do_ (calls Error b.FreeAll 20 [])) t.finish)) ∷ []) ∷ allocator_of 0 ∷ [])

-- a call of an allocator through a value: 38 and 3, and 17
abbrev pub marked : Program
marked = with_all (buffer ∷ []) [] None (
    main (at_place ByteSlice_ 128 ∷ at_place Error 152 ∷ []) (1 ∷ [])
    (st (t.declare (Some 0 ∷ Some 1 ∷ []) (t.parted (taken ByteSlice_ ∷ taken Error ∷ []) (node Answered 20 (t.call_value true (node AllocatorProc 21 (t.proc_value 0))
    (args (nil_of Raw ∷ of_type Byte_ (pos 0) ∷ num 16 ∷ num 8 ∷ nil_of Raw ∷ num 0 ∷ node Location 7 t.location ∷ [])))))) ∷
    show (calls Int b.Len 62 (loc ByteSlice_ 0 ∷ []) ∷ loc Error 1 ∷ []) ∷ []) ∷
    allocator_of 0 ∷ [])

-- ---- regions and raw memory
abbrev pub byte_at : ℕ → t.Expr
byte_at n = elem Byte_ 31 (loc ByteSlice_ 0) (num n)

abbrev pub set_byte : ℕ → ℕ → t.Stmt
set_byte n z = set (byte_at n) (of_type Byte_ (pos z))

-- `r := heap_region(); r[3] = 7; println(r[3], r[4], len(r)); println(len(temp_region()))`: 4, 8, 31 and 12
abbrev pub regions : Program
regions = with_all [] [] None (main (at_place ByteSlice_ 128 ∷ []) []
    (let_ 0 (calls ByteSlice_ b.HeapRegion 20 []) ∷ set_byte 3 7 ∷ show (byte_at 3 ∷ byte_at 4 ∷ calls Int b.Len 62 (loc ByteSlice_ 0 ∷ []) ∷ []) ∷
    show (calls Int b.Len 62 (calls ByteSlice_ b.TempRegion 20 [] ∷ []) ∷ []) ∷ []) ∷ [])

-- `s := byte_slice(&buf[n], length)`: 9
abbrev pub raw_slice : ℕ → ℕ → t.Stmt
raw_slice n length = let_ 0 (calls ByteSlice_ b.ByteSlice 20 (address_of BytePointer (elem Byte_ 23 (glob Buffer 0) (num n)) ∷ num length ∷ []))

-- `s := byte_slice(&buf[4], 3); s[2] = 9; println(buf[6], len(s))`: 9, 8 and 14
abbrev pub slices_raw : Program
slices_raw = with_all (buffer ∷ []) [] None (main (at_place ByteSlice_ 128 ∷ []) []
    (raw_slice 4 3 ∷ set_byte 2 9 ∷ show (elem Byte_ 31 (glob Buffer 0) (num 6) ∷ calls Int b.Len 62 (loc ByteSlice_ 0 ∷ []) ∷ []) ∷ []) ∷ [])

-- `os.read(0, byte_slice(&buf[250], 10))`: the room isn't there, and no input is taken, however much there is: 9 and 6
abbrev pub reads_outside : Program
reads_outside = with_all (buffer ∷ []) [] None (main (at_place ByteSlice_ 128 ∷ []) []
    (raw_slice 250 10 ∷ do_ (calls FileAnswer b.Read 20 (num 0 ∷ loc ByteSlice_ 0 ∷ [])) ∷ []) ∷ [])

-- ---- built-in procedures on what `make` gives, each as typing gives it
abbrev pub of_context : t.Expr
of_context = field Allocator (node ContextType 1 t.context) 0

abbrev pub records : t.Expr
records = loc SoaArray 1

abbrev pub to_records : t.Expr
to_records = address_of ToSoaArray records

abbrev pub built_ins : Program
built_ins = program (main (at_place IntArray 128 ∷ at_place SoaArray 176 ∷ at_place IntPointer 232 ∷ at_place Either 248 ∷ at_place SoaSlice 280 ∷ []) [] (
    let_ 0 (calls IntArray b.Make 20 (num 0 ∷ num 2 ∷ [])) ∷ let_ 1 (calls SoaArray b.Make 20 []) ∷ let_ 2 (calls IntPointer b.New 20 (of_context ∷ [])) ∷
    do_ (calls IntError b.Append 21 (to_a ∷ num 7 ∷ num 8 ∷ [])) ∷ do_ (calls Int b.Append 21 (to_records ∷ rec_of 1 2 ∷ [])) ∷
    do_ (calls Int b.Pop 22 (to_a ∷ [])) ∷ do_ (calls Rec b.Pop 22 (to_records ∷ [])) ∷ do_ (calls Nothing b.Clear 23 (to_a ∷ [])) ∷
    do_ (calls Nothing b.OrderedRemove 24 (to_records ∷ num 0 ∷ [])) ∷ do_ (calls Nothing b.UnorderedRemove 25 (to_a ∷ num 0 ∷ [])) ∷
    do_ (calls Error b.Reserve 26 (to_a ∷ num 9 ∷ [])) ∷ do_ (calls Error b.Resize 27 (to_records ∷ num 9 ∷ [])) ∷
    zero 3 ∷ show (bin Bool_ op.Equal 28 (loc Either 3) (nil_of Either) ∷ []) ∷
    let_ 4 (node SoaSlice 29 (t.cut records (t.present (num 1)) t.absent)) ∷ show (elem I64 30 (node LongSlice 31 (t.column (loc SoaSlice 4) 1)) (num 0) ∷ []) ∷
    do_ (calls Raw b.RawData 32 (a ∷ [])) ∷ do_ (calls Error b.Delete 33 (a ∷ [])) ∷ do_ (calls Error b.Delete 33 (records ∷ [])) ∷
    do_ (calls Error b.Free 34 (loc IntPointer 2 ∷ of_context ∷ [])) ∷ do_ (calls Error b.FreeAll 35 (of_context ∷ [])) ∷ []) ∷ [])
