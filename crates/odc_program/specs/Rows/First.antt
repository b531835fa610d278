-- Small programs: arithmetic, checks, deferred statements, context and unions.
use Rattle.std.specs.Prelude.{ℕ, pos, negsuc, false, [], ◌∷◌, Some, None, codes}
use Rattle.odc_program.specs.declared.ops.BinaryOp.TheVariants as op
use Rattle.odc_program.specs.Trees.Tree as t
use Rattle.odc_program.specs.Trees.Program.{Program}
use Rattle.odc_program.specs.Rows.Writing.{Int, Bool_, Either, Nothing, I8, I64, Three, num, of_type, str, loc, node, bin, elem, context_index, st, block_of, show, let_, zero, set, call, do_, when, at_place, proc, main, Plain, program, saying}

-- `x: i8 = 127; x += 1`: 3, 5 and 9
abbrev pub wraps : Program
wraps = program (main (at_place I8 128 ∷ []) []
    (let_ 0 (of_type I8 (pos 127)) ∷ st (t.change op.Add (loc I8 0) (of_type I8 (pos 1))) ∷ show (loc I8 0 ∷ []) ∷ []) ∷ [])

-- `a % b, a %% b, c / d`: four times 3, and 2 + 3 * 5 + 26
abbrev pub divides : Program
divides = program (main (at_place Int 128 ∷ at_place Int 144 ∷ at_place I64 160 ∷ at_place I64 176 ∷ []) []
    (let_ 0 (of_type Int (negsuc 6)) ∷ let_ 1 (num 3) ∷ let_ 2 (of_type I64 (negsuc 9223372036854775807)) ∷ let_ 3 (of_type I64 (negsuc 0)) ∷
    show (bin Int op.Remainder 10 (loc Int 0) (loc Int 1) ∷ bin Int op.Modulo 11 (loc Int 0) (loc Int 1) ∷ bin I64 op.Divide 12 (loc I64 2) (loc I64 3) ∷ []) ∷ []) ∷ [])

-- `a: [3]int; i := 3; println(1); a[i] = 7`: 4, 3, 5, and 6 up to the check
abbrev pub past_the_end : Program
past_the_end = program (main (at_place Three 128 ∷ at_place Int 160 ∷ []) []
    (zero 0 ∷ let_ 1 (num 3) ∷ show (num 1 ∷ []) ∷ set (elem Int 38 (loc Three 0) (loc Int 1)) (num 7) ∷ []) ∷ [])

-- `z := 0; defer println(1 / z); println("a")`: 3, 1, 6, and 6 up to the check
abbrev pub late_check : Program
late_check = saying (codes "a" ∷ []) (main (at_place Int 128 ∷ []) []
    (let_ 0 (num 0) ∷ st (t.defer (show (bin Int op.Divide 30 (num 1) (loc Int 0) ∷ []))) ∷ show (str 0 1 ∷ []) ∷ []) ∷ [])

-- `context.user_index = 456; show(); { context.user_index = 123; show() }; show()`: 5 for a change, 12 for a call, 1 for the block
abbrev pub restored : Program
restored = program (
    main [] (1 ∷ []) (set context_index (num 456) ∷ do_ (call Nothing 0 []) ∷ st (t.block 1 (block_of (set context_index (num 123) ∷ do_ (call Nothing 0 []) ∷ []))) ∷ do_ (call Nothing 0 []) ∷ []) ∷
    proc Plain 0 0 [] [] (show (context_index ∷ []) ∷ []) ∷ [])

abbrev pub is_int : t.Expr → ℕ → t.Expr
is_int e n = bin Bool_ op.Equal 20 e (num n)

-- deferred statements of a loop body, which is left by its end, by `continue`, and by `leave`
abbrev pub defers_in_loop : t.Form → Program
defers_in_loop leave = program (main (at_place Int 128 ∷ []) []
    (st (t.range 7 (t.from_to (num 0) (num 3) false) (Some 0) None (block_of (
    st (t.defer (show (loc Int 0 ∷ []))) ∷
    when (is_int (loc Int 0) 1) (st (t.continue_ 7) ∷ []) ∷
    when (is_int (loc Int 0) 2) (st leave ∷ []) ∷
    show (bin Int op.Add 21 (loc Int 0) (num 10) ∷ []) ∷ []))) ∷ []) ∷ [])

-- a type switch on a nil union, and an assertion on it: 4, 5 + 2 + 3 + 9, and 8 up to the check
abbrev pub nil_union : Program
nil_union = saying (codes "none" ∷ []) (main (at_place Either 128 ∷ at_place Int 160 ∷ at_place Either 176 ∷ []) []
    (zero 0 ∷
    st (t.type_switch 3 (loc Either 0) (t.type_case (1 ∷ []) (Some 1) (block_of (show (num 1 ∷ []) ∷ []))
    (t.default_type (Some 2) (block_of (show (str 0 4 ∷ []) ∷ [])) t.no_types))) ∷
    show (node Int 110 (t.assert_ 1 (loc Either 0)) ∷ []) ∷ []) ∷ [])
