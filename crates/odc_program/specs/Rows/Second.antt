-- Small programs: loops, switches, calls, helpers, operators, texts and files.
use Rattle.std.specs.Prelude.{ℕ, pos, negsuc, true, false, List, [], ◌∷◌, Some, None, codes}
use Rattle.odc_program.specs.declared.ops.UnaryOp.TheVariants as un
use Rattle.odc_program.specs.declared.ops.BinaryOp.TheVariants as op
use Rattle.odc_program.specs.declared.ops.Builtin.TheVariants as b
use Rattle.odc_program.specs.States.Bytes.{zeros}
use Rattle.odc_program.specs.Trees.Tree as t
use Rattle.odc_program.specs.Trees.Program.{Head, Helper, Program}
use Rattle.odc_program.specs.Rows.Writing.{path, plain_instance, taken, AllocatorProc, Subtracting, Teller, Failing, Pointing, Truthful, BytePointer, BoolPointer, RecPointer, Bools, BoolsPointer, Raw, lit, Int, Bool_, Text, IntPointer, Either, Plain, Byte_, ByteSlice_, Buffer, Location, Error, Three, Rune, FileAnswer, FileError, IntBool, TextBool, IntProc, IntSlice, Nothing, I32, Rec, at, num, of_type, bool, str, loc, glob, node, args, calls, bin, field, elem, rec_of, context_index, st, block_of, show, let_, zero, set, call, do_, give, at_place, proc, main, types, program, saying, with_all, three, buffer, address_of, telling, glob_of}

-- ---- loops
abbrev pub ten_twenty_thirty : t.Expr
ten_twenty_thirty = node Three 20 (t.build None (t.part 0 (num 10) (t.part 8 (num 20) (t.part 16 (num 30) t.no_parts))))

abbrev pub element : ℕ → t.Expr
element n = elem Int 61 (loc Three 0) (num n)

-- `for &v, k in xs { v += k }`: 14 for the declaration, 2, three times 8, and 23
abbrev pub by_place : Program
by_place = program (main (at_place Three 128 ∷ at_place Int 160 ∷ at_place Int 176 ∷ []) []
    (let_ 0 ten_twenty_thirty ∷
    st (t.range 1 (t.through (loc Three 0) true) (Some 1) (Some 2) (block_of (st (t.change op.Add (loc Int 1) (loc Int 2)) ∷ []))) ∷
    show (element 0 ∷ element 1 ∷ element 2 ∷ []) ∷ []) ∷ [])

-- `for x in a { a[2] = 9; println(x) }`: 14, 2, twice 16 and 15
abbrev pub live : Program
live = program (main (at_place Three 128 ∷ at_place Int 160 ∷ []) []
    (let_ 0 ten_twenty_thirty ∷
    st (t.range 1 (t.through (loc Three 0) false) (Some 1) None (block_of (set (element 2) (num 9) ∷ show (loc Int 1 ∷ []) ∷ []))) ∷ []) ∷ [])

-- `for i := 0; i < 2; i += 1 { println(i) }`: 1, 3, three times 5, twice 12
abbrev pub counted : Program
counted = program (main (at_place Int 128 ∷ []) []
    (st (t.loop 1 (t.some_stmt (let_ 0 (num 0))) (t.present (bin Bool_ op.Less 20 (loc Int 0) (num 2))) (t.some_stmt (st (t.change op.Add (loc Int 0) (num 1)))) (block_of (show (loc Int 0 ∷ []) ∷ []))) ∷ []) ∷ [])

-- `for {}`
abbrev pub endless : Program
endless = program (main [] [] (st (t.loop 1 t.no_stmt t.absent t.no_stmt t.finish) ∷ []) ∷ [])

-- ---- switches
-- a default in the middle, `fallthrough`, a span, and a `break` out of the loop around
abbrev pub switched : Program
switched = program (main [] []
    (st (t.loop 1 t.no_stmt t.absent t.no_stmt (block_of (
    st (t.switch 2 t.no_stmt (t.present (num 2))
    (t.one_case (t.item (num 1) t.no_items) (block_of (show (num 1 ∷ []) ∷ []))
    (t.default_case (block_of (show (num 9 ∷ []) ∷ []))
    (t.one_case (t.item (num 2) t.no_items) (block_of (show (num 2 ∷ []) ∷ st t.fallthrough ∷ []))
    (t.one_case (t.span (num 7) (num 9) true t.no_items) (block_of (show (num 3 ∷ []) ∷ st (t.break_ 1) ∷ []))
    t.no_cases))))) ∷
    show (num 8 ∷ []) ∷ []))) ∷ []) ∷ [])

-- `switch 9 { case 1..<9: println(1); case 9..=9: println(2) }`: 1, 1, twice 1 + 2 + 2, and 5
abbrev pub spans : Program
spans = program (main [] []
    (st (t.switch 2 t.no_stmt (t.present (num 9))
    (t.one_case (t.span (num 1) (num 9) false t.no_items) (block_of (show (num 1 ∷ []) ∷ []))
    (t.one_case (t.span (num 9) (num 9) true t.no_items) (block_of (show (num 2 ∷ []) ∷ [])) t.no_cases))) ∷ []) ∷ [])

-- a `#partial` type switch on a union that holds an integer: 9, 5, 2, 1 and 6
abbrev pub variant : Program
variant = program (main (at_place Either 128 ∷ at_place Int 160 ∷ []) []
    (let_ 0 (node Either 1 (t.inject 1 (num 5))) ∷
    st (t.type_switch 3 (loc Either 0) (t.default_type None (block_of []) (t.type_case (1 ∷ []) (Some 1) (block_of (show (loc Int 1 ∷ []) ∷ [])) t.no_types))) ∷ []) ∷ [])

-- a default that stands before the other cases is taken when none of them is: 9, 5, 2 and 5
abbrev pub default_first : Program
default_first = program (main (at_place Either 128 ∷ []) []
    (let_ 0 (node Either 1 (t.inject 1 (num 5))) ∷
    st (t.type_switch 3 (loc Either 0) (t.default_type None (block_of (show (num 9 ∷ []) ∷ [])) (t.type_case (2 ∷ []) None (block_of (show (num 2 ∷ []) ∷ [])) t.no_types))) ∷ []) ∷ [])

-- `v, ok := u.(int)` and `s, ok := u.(string)`: 9, 9, 13, 12 and 14
abbrev pub tested : Program
tested = program (main (at_place Either 128 ∷ at_place Int 160 ∷ at_place Bool_ 176 ∷ at_place Text 192 ∷ at_place Bool_ 216 ∷ []) []
    (let_ 0 (node Either 1 (t.inject 1 (num 7))) ∷
    st (t.declare (Some 1 ∷ Some 2 ∷ []) (t.parted (taken Int ∷ taken Bool_ ∷ []) (node IntBool 1 (t.test_ 1 (loc Either 0))))) ∷
    show (loc Int 1 ∷ loc Bool_ 2 ∷ []) ∷
    st (t.declare (Some 3 ∷ Some 4 ∷ []) (t.parted (taken Text ∷ taken Bool_ ∷ []) (node TextBool 1 (t.test_ 2 (loc Either 0))))) ∷
    show (loc Text 3 ∷ loc Bool_ 4 ∷ []) ∷ []) ∷ [])

-- ---- calls
-- results are stored, then changed by deferred statements, the last first, and then answered: 4, 22 and 2
abbrev pub answered : Program
answered = program (
    main [] (1 ∷ []) (show (call Int 0 [] ∷ []) ∷ []) ∷
    proc Teller 0 1 (at_place Int 128 ∷ []) [] (
    st (t.defer (st (t.change op.Add (loc Int 0) (num 5)))) ∷
    st (t.loop 1 t.no_stmt t.absent t.no_stmt (block_of (st (t.defer (st (t.change op.Multiply (loc Int 0) (num 3)))) ∷ give (bin Int op.Add 30 (loc Int 0) (num 1) ∷ []) ∷ []))) ∷ []) ∷ [])

-- `sub(y = f(), x = g())` with `sub` answering `x - y`: its arguments in the order of the text, each to its parameter: 5,
-- 12 for each argument, and 13
abbrev pub named : Program
named = program (
    main [] (1 ∷ 2 ∷ 3 ∷ []) (show (node Int 8 (t.call 0 (1 ∷ 0 ∷ []) (args (call Int 1 [] ∷ call Int 2 [] ∷ []))) ∷ []) ∷ []) ∷
    proc Subtracting 2 1 (at_place Int 128 ∷ at_place Int 144 ∷ at_place Int 160 ∷ []) [] (give (bin Int op.Subtract 30 (loc Int 0) (loc Int 1) ∷ []) ∷ []) ∷
    telling 4 10 ∷ telling 5 3 ∷ [])

-- a call through nil: its argument is evaluated first
abbrev pub nil_called : Program
nil_called = program (
    main (at_place IntProc 128 ∷ []) (1 ∷ []) (zero 0 ∷ do_ (node Int 77 (t.call_value false (loc IntProc 0) (args (call Int 0 [] ∷ [])))) ∷ []) ∷ telling 4 1 ∷ [])

-- a call through a value of another type: its argument is evaluated, then it strays without a turn
abbrev pub wrong_type : Program
wrong_type = program (
    main [] (1 ∷ []) (do_ (node Int 77 (t.call_value false (node Plain 1 (t.proc_value 0)) (args (call Int 0 [] ∷ [])))) ∷ []) ∷ telling 4 1 ∷ [])

-- `a[f()] = g()`: the right side, then the place: 4, 28 and 8
abbrev pub sides : Program
sides = program (
    main (at_place Three 128 ∷ []) (1 ∷ 2 ∷ []) (zero 0 ∷ set (elem Int 38 (loc Three 0) (call Int 0 [])) (call Int 1 []) ∷ show (element 0 ∷ []) ∷ []) ∷
    telling 1 0 ∷ telling 2 5 ∷ [])

-- `s[f()]`, where f changes s: its header is read behind the call: 4, 13, 2, 1 and 3
abbrev pub header_later : Program
header_later = with_all (three ∷ glob_of IntSlice (zeros 16) ∷ []) [] None (
    main [] (1 ∷ []) (show (elem Int 38 (glob IntSlice 1) (call Int 0 []) ∷ []) ∷ []) ∷
    proc Teller 0 1 (at_place Int 128 ∷ []) [] (
    set (glob IntSlice 1) (node IntSlice 39 (t.cut (glob Three 0) t.absent t.absent)) ∷ give (num 2 ∷ []) ∷ []) ∷ [])

-- endless recursion with frames of 16 MiB stops in the eighth call
abbrev pub deep : Program
deep = record {
  tables = record { types = types; globals = []; literals = lit path ∷ lit (codes "f") ∷ []; procedures = head 0 4096 3 ∷ head 1 16777216 6 ∷ []; paths = path ∷ []; files = 0; heap = None; temp = None; allocator = AllocatorProc };
  bodies = body ∷ body ∷ [];
  main = 0;
}
  where
    head : ℕ → ℕ → ℕ → Head
    head i frame n = record { instance = plain_instance i; name = codes "main.f"; at = at n; literal = 1; has_context = true; ty = Plain; parameters = 0; results = 0; locals = []; frame = frame; needs = 1 ∷ [] }

    body : Rattle.odc_program.specs.Trees.Program.Body
    body = record { stmts = block_of (do_ (call Nothing 0 []) ∷ []); helpers = [] }

-- `or_return` out of nested scopes: their deferred statements run, one changes the context for the next, and the outer
-- scope has its own again: 46 and 20
abbrev pub set_index : ℕ → t.Stmt
set_index n = set context_index (num n)

abbrev pub left_early : Program
left_early = program (
    main (at_place Error 128 ∷ []) (1 ∷ []) (let_ 0 (call Error 0 []) ∷ show (loc Error 0 ∷ []) ∷ []) ∷
    proc Failing 0 1 (at_place Error 128 ∷ at_place Error 144 ∷ []) [] (
    st (t.defer (show (context_index ∷ []))) ∷ set_index 5 ∷
    st (t.block 1 (block_of (
    st (t.defer (show (num 2 ∷ context_index ∷ []))) ∷
    st (t.defer (set_index 9)) ∷
    let_ 1 (of_type Error (pos 1)) ∷
    do_ (node Nothing 70 (t.or_return (loc Error 1) None)) ∷
    show (num 77 ∷ []) ∷ []))) ∷
    show (num 88 ∷ []) ∷ []) ∷ [])

-- ---- helpers take no turns
abbrev pub with_helper : Helper → List t.Stmt → Program
with_helper h body = record {
  tables = record { types = types; globals = []; literals = lit path ∷ lit (codes "f") ∷ []; procedures = record { instance = plain_instance 0; name = codes "main.f"; at = at 9; literal = 1; has_context = true; ty = Plain; parameters = 0; results = 0; locals = []; frame = 4096; needs = [] } ∷ []; paths = path ∷ []; files = 0; heap = None; temp = None; allocator = AllocatorProc };
  bodies = record { stmts = block_of body; helpers = h ∷ [] } ∷ [];
  main = 0;
}

abbrev pub helper : List t.Stmt → Helper
helper body = record {
  head = record { instance = plain_instance 0; name = codes "main.f"; at = at 9; literal = 1; has_context = false; ty = Plain; parameters = 1; results = 0; locals = at_place Int 0 ∷ at_place Int 16 ∷ []; frame = 160; needs = [] };
  body = block_of body;
}

abbrev pub call_help : ℕ → t.Stmt
call_help n = do_ (node Nothing 8 (t.help 0 (args (num n ∷ []))))

-- it prints a number and the next one: 20 and 21
abbrev pub helped : Program
helped = with_helper (helper (let_ 1 (bin Int op.Add 30 (loc Int 0) (num 1)) ∷ show (loc Int 0 ∷ loc Int 1 ∷ []) ∷ [])) (call_help 7 ∷ call_help 9 ∷ [])

-- it counts down in a loop of at most so many turns: 4, 1, 16 for a turn, and 5 for the test that ends it
abbrev pub counts_down : ℕ → Program
counts_down bound = with_helper (helper (st (t.counted bound 1 (bin Bool_ op.Greater 20 (loc Int 0) (num 0)) (block_of (show (loc Int 0 ∷ []) ∷ st (t.change op.Subtract (loc Int 0) (num 1)) ∷ []))) ∷ [])) (call_help 2 ∷ [])

-- ---- operators
-- neither right side is evaluated
abbrev pub short : Program
short = program (main [] (1 ∷ []) (show (bin Bool_ op.AndAlso 20 (bool false) (call Bool_ 0 []) ∷ bin Bool_ op.OrElse 21 (bool true) (call Bool_ 0 []) ∷ []) ∷ []) ∷
    proc Truthful 0 1 (at_place Bool_ 128 ∷ []) [] (give (bool true ∷ []) ∷ []) ∷ [])

-- `1 << 3, -8 >> 1, 6 &~ 2, 6 ~ 3, 6 | 1, 6 & 3, ~0`: 2, six times 3, 2 and 16
abbrev pub bits : Program
bits = program (main [] [] (show (
    bin Int op.ShiftLeft 20 (num 1) (num 3) ∷ bin Int op.ShiftRight 20 (of_type Int (negsuc 7)) (num 1) ∷ bin Int op.AndNot 20 (num 6) (num 2) ∷
    bin Int op.Xor 20 (num 6) (num 3) ∷ bin Int op.Or 20 (num 6) (num 1) ∷ bin Int op.And 20 (num 6) (num 3) ∷ node Int 20 (t.unary un.Complement (num 0)) ∷ []) ∷ []) ∷ [])

-- shifts by the width and more: `1 << 64, -1 >> 64, 1 >> 99`: 2, three times 3 and 7
abbrev pub wide_shifts : Program
wide_shifts = program (main [] [] (show (
    bin Int op.ShiftLeft 20 (num 1) (num 64) ∷ bin Int op.ShiftRight 20 (of_type Int (negsuc 0)) (num 64) ∷ bin Int op.ShiftRight 20 (num 1) (num 99) ∷ []) ∷ []) ∷ [])

-- `"ab" < "b", "a" == "a", "a" > "ab"`: 2, three times 6 and 16
abbrev pub texts : Program
texts = saying (codes "ab" ∷ codes "b" ∷ codes "a" ∷ []) (main [] [] (show (
    bin Bool_ op.Less 20 (str 0 2) (str 1 1) ∷ bin Bool_ op.Equal 20 (str 2 1) (str 2 1) ∷ bin Bool_ op.Greater 20 (str 2 1) (str 0 2) ∷ []) ∷ []) ∷ [])

-- `x := 300; println('é', u8(x))`: 3 and 12
abbrev pub converted : Program
converted = program (main (at_place Int 128 ∷ []) [] (let_ 0 (num 300) ∷ show (of_type Rune (pos 233) ∷ node Byte_ 20 (t.convert (loc Int 0)) ∷ []) ∷ []) ∷ [])

-- `min(3, 5), max(3, 5), abs(-4)`: 2, twice 4, 2 and 6
abbrev pub extremes : Program
extremes = program (main [] [] (show (calls Int b.Min 20 (num 3 ∷ num 5 ∷ []) ∷ calls Int b.Max 20 (num 3 ∷ num 5 ∷ []) ∷ calls Int b.Abs 20 (of_type Int (negsuc 3) ∷ []) ∷ []) ∷ []) ∷ [])

-- a byte of 2 read as a truth value is `true`, and equal to `true`: 3, 5 and 23
abbrev pub truth : Program
truth = program (main (at_place Byte_ 128 ∷ at_place BoolPointer 144 ∷ []) []
    (let_ 0 (of_type Byte_ (pos 2)) ∷ let_ 1 (node BoolPointer 20 (t.convert (address_of BytePointer (loc Byte_ 0)))) ∷
    show (node Bool_ 21 (t.deref (loc BoolPointer 1)) ∷ bin Bool_ op.Equal 22 (node Bool_ 21 (t.deref (loc BoolPointer 1))) (bool true) ∷ []) ∷ []) ∷ [])

-- such a byte as the element of an array, in a loop by value: 3, 5, 4 and 12
abbrev pub truth_element : Program
truth_element = program (main (at_place Byte_ 128 ∷ at_place BoolsPointer 144 ∷ at_place Bool_ 160 ∷ []) []
    (let_ 0 (of_type Byte_ (pos 2)) ∷ let_ 1 (node BoolsPointer 20 (t.convert (address_of BytePointer (loc Byte_ 0)))) ∷
    st (t.range 1 (t.through (node Bools 21 (t.deref (loc BoolsPointer 1))) false) (Some 2) None (block_of (show (node Byte_ 22 (t.deref (node BytePointer 23 (t.convert (address_of BoolPointer (loc Bool_ 2))))) ∷ []) ∷ []))) ∷ []) ∷ [])

-- the padding of a built value is zero: its first eight bytes are those of the field: 10, 5 and 8
abbrev pub padded : Program
padded = program (main (at_place Rec 128 ∷ at_place IntPointer 152 ∷ []) []
    (let_ 0 (rec_of 1 2) ∷ let_ 1 (node IntPointer 20 (t.convert (address_of RecPointer (loc Rec 0)))) ∷ show (node Int 21 (t.deref (loc IntPointer 1)) ∷ []) ∷ []) ∷ [])

-- the line of a location: 2, 2 and 2
abbrev pub located : Program
located = program (main [] [] (show (field I32 (node Location 7 t.location) 1 ∷ []) ∷ []) ∷ [])

-- `print(1, true)` ends no line: 2, 2 and 6
abbrev pub prints : Program
prints = program (main [] [] (do_ (calls Nothing b.Print 20 (num 1 ∷ bool true ∷ [])) ∷ []) ∷ [])

-- ---- stopping and files
abbrev pub deferred_one : t.Stmt
deferred_one = st (t.defer (show (num 1 ∷ [])))

-- `os.exit(300)` runs no deferred statement
abbrev pub exits : Program
exits = program (main [] [] (deferred_one ∷ do_ (calls Nothing b.Exit 20 (num 300 ∷ [])) ∷ []) ∷ [])

abbrev pub panics : Program
panics = saying (codes "no" ∷ []) (main [] [] (deferred_one ∷ do_ (calls Nothing b.Panic 20 (str 0 2 ∷ [])) ∷ []) ∷ [])

abbrev pub asserts : Program
asserts = program (main [] [] (do_ (calls Nothing b.Assert 20 (bool false ∷ [])) ∷ []) ∷ [])

abbrev pub part_of_buffer : t.Expr → t.Expr
part_of_buffer n = node ByteSlice_ 30 (t.cut (glob Buffer 0) (t.present (num 0)) (t.present n))

-- `os.write(2, buf[0:2])` goes to the second descriptor: 7, 1 and 2
abbrev pub complains : Program
complains = with_all (buffer ∷ []) [] None (main [] [] (do_ (calls FileAnswer b.Write 20 (num 2 ∷ part_of_buffer (num 2) ∷ [])) ∷ []) ∷ [])

-- `n, e := os.read(0, buf[0:4]); os.write(1, buf[0:n]); println(n)`: 10, 11 and 6
abbrev pub copies_input : Program
copies_input = with_all (buffer ∷ []) [] None (main (at_place Int 128 ∷ at_place FileError 144 ∷ []) []
    (st (t.declare (Some 0 ∷ Some 1 ∷ []) (t.parted (taken Int ∷ taken FileError ∷ []) (calls FileAnswer b.Read 20 (num 0 ∷ part_of_buffer (num 4) ∷ [])))) ∷
    do_ (calls FileAnswer b.Write 21 (num 1 ∷ part_of_buffer (loc Int 0) ∷ [])) ∷ show (loc Int 0 ∷ []) ∷ []) ∷ [])

-- a variable is read through its address behind its procedure: 13, 5 and 6
abbrev pub dangling : Program
dangling = program (
    main (at_place IntPointer 128 ∷ []) (1 ∷ []) (let_ 0 (call IntPointer 0 []) ∷ show (num 1 ∷ []) ∷ show (node Int 41 (t.deref (loc IntPointer 0)) ∷ []) ∷ []) ∷
    proc Pointing 0 1 (at_place IntPointer 128 ∷ at_place Int 144 ∷ []) [] (let_ 1 (num 5) ∷ give (address_of IntPointer (loc Int 1) ∷ []) ∷ []) ∷ [])

-- a write to the bytes of a literal, through a pointer, strays at the assignment: 5 and 6
abbrev pub writes_literal : Program
writes_literal = saying (codes "a" ∷ []) (main (at_place BytePointer 128 ∷ []) []
    (let_ 0 (node BytePointer 20 (t.convert (calls Raw b.RawData 21 (str 0 1 ∷ [])))) ∷ set (node Byte_ 22 (t.deref (loc BytePointer 0))) (of_type Byte_ (pos 98)) ∷ []) ∷ [])
