-- Small programs: the order in which parts are evaluated, and how often.
use Rattle.std.specs.Prelude.{false, [], ◌∷◌, Some, None}
use Rattle.odc_program.specs.declared.ops.BinaryOp.TheVariants as op
use Rattle.odc_program.specs.States.Bytes.{zeros}
use Rattle.odc_program.specs.Trees.Tree as t
use Rattle.odc_program.specs.Trees.Program.{Program}
use Rattle.odc_program.specs.Rows.Writing.{taken, taken_as, Bool_, Either, IntBool, Teller, Three, ToIntProc, IntProc, Int, num, loc, glob, node, args, elem, st, block_of, show, let_, zero, set, call, do_, give, at_place, proc, main, program, with_all, glob_of, telling}

-- a call through a pointer that is nil: its arguments aren't evaluated: 2, and 5 up to the check
abbrev pub callee_first : Program
callee_first = program (
    main (at_place ToIntProc 128 ∷ []) (1 ∷ []) (zero 0 ∷ do_ (node Int 77 (t.call_value false (node IntProc 60 (t.deref (loc ToIntProc 0))) (args (call Int 0 [] ∷ [])))) ∷ []) ∷
    telling 4 1 ∷ [])

-- `a[f()] += 5`, whose place is found once: 4; 1, 1 + 1 + 12, 1, 1 and 1; and 8
abbrev pub finds_once : Program
finds_once = program (
    main (at_place Three 128 ∷ []) (1 ∷ []) (zero 0 ∷ st (t.change op.Add (elem Int 38 (loc Three 0) (call Int 0 [])) (num 5)) ∷ show (elem Int 61 (loc Three 0) (num 2) ∷ []) ∷ []) ∷
    telling 4 2 ∷ [])

-- `x += f()`, where f makes x 10 and answers 5: x is read before: 1 + 1 + 1 + 11 + 1, and 6
abbrev pub reads_first : Program
reads_first = with_all (glob_of Int (zeros 8) ∷ []) [] None (
    main [] (1 ∷ []) (st (t.change op.Add (glob Int 0) (call Int 0 [])) ∷ show (glob Int 0 ∷ []) ∷ []) ∷
    proc Teller 0 1 (at_place Int 128 ∷ []) [] (set (glob Int 0) (num 10) ∷ give (num 5 ∷ []) ∷ []) ∷ [])

-- `for i in 0..<n { n = 0; println(i) }` with n of 2: the ends are read once: 3, 4 and twice 12
abbrev pub ends_once : Program
ends_once = program (main (at_place Int 128 ∷ at_place Int 144 ∷ []) []
    (let_ 0 (num 2) ∷ st (t.range 1 (t.from_to (num 0) (loc Int 0) false) (Some 1) None (block_of (set (loc Int 0) (num 0) ∷ show (loc Int 1 ∷ []) ∷ []))) ∷ []) ∷ [])

-- `v, ok = u.(int)`, where v is a union too: 9, 4, 2, 16 and 10
abbrev pub becomes_variant : Program
becomes_variant = program (main (at_place Either 128 ∷ at_place Either 160 ∷ at_place Bool_ 192 ∷ []) []
    (let_ 0 (node Either 1 (t.inject 1 (num 7))) ∷ zero 1 ∷ zero 2 ∷
    st (t.assign (t.left_ (loc Either 1) (t.left_ (loc Bool_ 2) t.no_lefts)) (t.parted (taken_as Int Either 1 ∷ taken Bool_ ∷ []) (node IntBool 1 (t.test_ 1 (loc Either 0))))) ∷
    show (node Int 110 (t.assert_ 1 (loc Either 1)) ∷ []) ∷ []) ∷ [])
