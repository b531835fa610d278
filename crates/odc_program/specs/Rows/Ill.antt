-- Small programs that aren't well, each for one reason.
use Rattle.std.specs.Prelude.{ℕ, suc, ◌+◌, ◌++◌, pos, Bool, true, false, List, [], ◌∷◌, length, Option, Some, None, codes}
use Rattle.odc_types.specs.declared.width.Width.TheVariants as width
use Rattle.odc_program.specs.declared.ops.BinaryOp.TheVariants as op
use Rattle.odc_program.specs.declared.ops.Builtin.TheVariants as b
use Rattle.odc_program.specs.Trees.Tree as t
use Rattle.odc_program.specs.Trees.Program.{Part, Program, Ty, Global, Head, whole, address, soa_slice, fields, several, names}
use Rattle.odc_program.specs.States.Bytes.{literal, to, pointer_bytes, int_bytes}
use Rattle.odc_program.specs.Rows.Third.{contextless}
use Rattle.odc_program.specs.Rows.Second.{with_helper, helper, call_help}
use Rattle.odc_program.specs.Rows.Writing.{TakesThree, Proc, three, Contextless, ContextType, SoaThree, RecPointer, IntBool, nil_of, named, glob_of, lit, with_name, entry, field_at, IntPointer, IntProc, Three, Either, address_of, refuser, with_all, Subtracting, args, Error, Int, Text, Byte_, Nothing, Plain, Teller, num, of_type, bool, str, loc, elem, call, do_, give, let_, set, show, at_place, proc, main, program, saying, Bool_, Rune, IntSlice, Rec, Location, types, at, node, calls, bin, st, block_of, zero, one, words}

-- two variables with no eight bytes between them
abbrev pub too_near : Program
too_near = program (main (at_place Int 128 ∷ at_place Int 136 ∷ []) [] [] ∷ [])

-- a variable that reaches the end of its frame
abbrev pub past_frame : Program
past_frame = program (main (at_place Int 4088 ∷ []) [] [] ∷ [])

-- a truth value for an integer
abbrev pub mistyped : Program
mistyped = program (main (at_place Int 128 ∷ []) [] (let_ 0 (bool true) ∷ []) ∷ [])

-- a variable that isn't there
abbrev pub unknown : Program
unknown = program (main (at_place Int 128 ∷ []) [] (show (loc Int 1 ∷ []) ∷ []) ∷ [])

-- one need twice
abbrev pub needs_twice : Program
needs_twice = program (main [] (1 ∷ 1 ∷ []) [] ∷ proc Plain 0 0 [] [] [] ∷ [])

-- a need that isn't there
abbrev pub needs_none : Program
needs_none = program (main [] (5 ∷ []) [] ∷ [])

-- an argument too many
abbrev pub too_many : Program
too_many = program (main [] (1 ∷ []) (do_ (call Nothing 0 (num 1 ∷ [])) ∷ []) ∷ proc Plain 0 0 [] [] [] ∷ [])

-- a `main` with a result
abbrev pub main_answers : Program
main_answers = program (proc Teller 0 1 (at_place Int 128 ∷ []) [] (give (num 1 ∷ []) ∷ []) ∷ [])

-- a byte of a string is assigned
abbrev pub changes_text : Program
changes_text = saying (codes "a" ∷ []) (main (at_place Text 128 ∷ []) [] (let_ 0 (str 0 1) ∷ set (elem Byte_ 20 (loc Text 0) (num 0)) (of_type Byte_ (Rattle.std.specs.Prelude.pos 98)) ∷ []) ∷ [])

-- ---- statements where they can't stand
-- the last case goes on to a next one
abbrev pub falls_out : Program
falls_out = program (main [] [] (st (t.switch 2 t.no_stmt (t.present (num 2)) (t.one_case (t.item (num 1) t.no_items) (block_of (st t.fallthrough ∷ [])) t.no_cases)) ∷ []) ∷ [])

-- a deferred statement returns
abbrev pub returns_late : Program
returns_late = program (main [] [] (st (t.defer (give [])) ∷ []) ∷ [])

-- a deferred statement leaves the loop around it
abbrev pub breaks_late : Program
breaks_late = program (main [] [] (st (t.loop 1 t.no_stmt t.absent t.no_stmt (block_of (st (t.defer (st (t.break_ 1))) ∷ []))) ∷ []) ∷ [])

-- a loop that takes no turns, outside a helper
abbrev pub counts_itself : Program
counts_itself = program (main [] [] (st (t.counted 3 1 (bool true) (block_of [])) ∷ []) ∷ [])

-- a helper that asks the context
abbrev pub helper_allocates : Program
helper_allocates = with_helper (helper (do_ (calls Error b.FreeAll 20 []) ∷ [])) (call_help 7 ∷ [])

-- ---- operands of a wrong kind
-- two slices are compared
abbrev pub compares_slices : Program
compares_slices = program (main (at_place IntSlice 128 ∷ []) [] (zero 0 ∷ show (bin Bool_ op.Equal 20 (loc IntSlice 0) (loc IntSlice 0) ∷ []) ∷ []) ∷ [])

-- bits are moved by a count that may be negative
abbrev pub signed_count : Program
signed_count = program (main (at_place Int 128 ∷ []) [] (zero 0 ∷ show (bin Int op.ShiftLeft 20 (num 1) (loc Int 0) ∷ []) ∷ []) ∷ [])

-- the lesser of two runes
abbrev pub lesser_rune : Program
lesser_rune = program (main [] [] (show (calls Rune b.Min 20 (of_type Rune (pos 97) ∷ of_type Rune (pos 98) ∷ []) ∷ []) ∷ []) ∷ [])

-- a record is built in a variable of another type
abbrev pub built_elsewhere : Program
built_elsewhere = program (main (at_place Int 128 ∷ at_place Rec 144 ∷ []) [] (let_ 1 (node Rec 20 (t.build (Some 0) t.no_parts)) ∷ []) ∷ [])

-- a location in a file that isn't there
abbrev pub located_nowhere : Program
located_nowhere = program (main (at_place Location 128 ∷ []) [] (let_ 0 (t.expr Location (record { file = record { number = 9 }; line = 4; column = 1 }) t.location) ∷ []) ∷ [])

-- an argument goes to two parameters
abbrev pub taken_twice : Program
taken_twice = program (
    main [] (1 ∷ []) (show (node Int 8 (t.call 0 (1 ∷ 1 ∷ []) (args (num 1 ∷ num 2 ∷ []))) ∷ []) ∷ []) ∷
    proc Subtracting 2 1 (at_place Int 128 ∷ at_place Int 144 ∷ at_place Int 160 ∷ []) [] (give (loc Int 0 ∷ []) ∷ []) ∷ [])

-- ---- tables
abbrev pub with_types : List Ty → Program
with_types more = record empty { tables = record empty.tables { types = types ++ more } }
  where
    empty : Program
    empty = program (main [] [] [] ∷ [])

-- a distinct `int` without a sign
abbrev pub distinct_of_another : Program
distinct_of_another = with_types (with_name 90 (one 8 Int (whole width.Uint)) ∷ [])

-- a second pointer to `int`
abbrev pub pointer_twice : Program
pointer_twice = with_types (words 1 (length types) (address Int) ∷ [])

-- two distinct pointers to `int`, which may stand beside it
abbrev pub distinct_pointer : Program
distinct_pointer = with_types (with_name 90 (words 1 IntPointer (address Int)) ∷ with_name 91 (words 1 IntPointer (address Int)) ∷ [])

-- a distinct type without a name
abbrev pub unnamed : Program
unnamed = with_types (words 1 IntPointer (address Int) ∷ [])

-- an `i64` with a name
abbrev pub named_integer : Program
named_integer = with_types (with_name 90 (one 2 (length types) (whole width.I16)) ∷ [])

-- two distinct types of one name
abbrev pub one_name : Program
one_name = with_types (with_name 90 (words 1 IntPointer (address Int)) ∷ with_name 90 (one 8 Int (whole width.Int)) ∷ [])

-- a record of 17 fields in columns
abbrev pub bytes_from : ℕ → ℕ → List Part
bytes_from at ℕ.zero = []
bytes_from at (suc n) = field_at at Byte_ ∷ bytes_from (at + 1) n

abbrev pub in_columns_of : ℕ → Program
in_columns_of n = with_types (with_name 90 (entry n 1 (length types) (fields (bytes_from 0 n))) ∷ words (n + 1) (length types + 1) (soa_slice (length types)) ∷ [])

-- a variable lies where the helper's do
abbrev pub over_helper : Program
over_helper = lying (with_helper (helper []) (call_help 7 ∷ []))
  where
    lying_in : List Head → List Head
    lying_in [] = []
    lying_in (h ∷ hs) = record h { locals = at_place Int 4000 ∷ [] } ∷ hs

    lying : Program → Program
    lying p = record p { tables = record p.tables { procedures = lying_in p.tables.procedures } }

-- ---- labels, variables and switches
-- a loop with the label of the one around it
abbrev pub one_label : Program
one_label = program (main [] [] (st (t.block 1 (block_of (st (t.loop 1 t.no_stmt t.absent t.no_stmt (block_of [])) ∷ []))) ∷ []) ∷ [])

-- a variable is read in its own declaration
abbrev pub too_early : Program
too_early = program (main (at_place Int 128 ∷ []) [] (let_ 0 (loc Int 0) ∷ []) ∷ [])

-- one that is declared by a deferred statement is read: a program, which strays
abbrev pub declared_late : Program
declared_late = program (main (at_place Int 128 ∷ []) [] (st (t.defer (let_ 0 (num 1))) ∷ show (loc Int 0 ∷ []) ∷ []) ∷ [])

-- and behind the scope of its declaration
abbrev pub too_late : Program
too_late = program (main (at_place Int 128 ∷ []) [] (st (t.block 1 (block_of (let_ 0 (num 1) ∷ []))) ∷ show (loc Int 0 ∷ []) ∷ []) ∷ [])

-- a switch over an error that tries 0 and a span of two constants
abbrev pub over_errors : ℕ → t.Cases → Program
over_errors high rest = program (main (at_place Error 128 ∷ []) []
    (zero 0 ∷ st (t.switch 2 t.no_stmt (t.present (loc Error 0)) (t.one_case (t.item (of_type Error (pos 0)) t.no_items) (block_of []) (t.one_case (t.span (of_type Error (pos 1)) (of_type Error (pos high)) true t.no_items) (block_of []) rest))) ∷ []) ∷ [])

-- a type switch that has no case for strings
abbrev pub over_variants : t.TypeCases → Program
over_variants rest = program (main (at_place Either 128 ∷ at_place Int 160 ∷ []) []
    (zero 0 ∷ st (t.type_switch 3 (loc Either 0) (t.type_case (1 ∷ []) (Some 1) (block_of []) rest)) ∷ []) ∷ [])

abbrev pub with_parameter : t.Stmt → Program
with_parameter s = program (
    main [] (1 ∷ []) (do_ (call Int 0 (num 1 ∷ [])) ∷ []) ∷
    proc IntProc 1 1 (at_place Int 128 ∷ at_place Int 144 ∷ at_place IntPointer 160 ∷ []) [] (s ∷ give (loc Int 0 ∷ []) ∷ []) ∷ [])

-- a parameter is assigned, and has its address taken
abbrev pub parameter_assigned : Program
parameter_assigned = with_parameter (set (loc Int 0) (num 2))

abbrev pub parameter_addressed : Program
parameter_addressed = with_parameter (let_ 2 (address_of IntPointer (loc Int 0)))

-- a result is assigned
abbrev pub result_assigned : Program
result_assigned = with_parameter (set (loc Int 1) (num 2))

-- a name of a loop is assigned, of one by place where it says so
abbrev pub turn_assigned : Bool → Program
turn_assigned by_place = program (main (at_place Three 128 ∷ at_place Int 160 ∷ []) []
    (zero 0 ∷ st (t.range 1 (t.through (loc Three 0) by_place) (Some 1) None (block_of (set (loc Int 1) (num 2) ∷ []))) ∷ []) ∷ [])

-- ---- procedures and files
-- two procedures are one instance
abbrev pub instance_twice : Program
instance_twice = both (program (main [] [] [] ∷ proc Plain 0 0 [] [] [] ∷ []))
  where
    one_in : List Head → List Head
    one_in [] = []
    one_in (h ∷ hs) = h ∷ h ∷ []

    both : Program → Program
    both p = record p { tables = record p.tables { procedures = one_in p.tables.procedures } }

-- the literal of a file holds something else
abbrev pub other_path : Program
other_path = moved (program (main (at_place Location 128 ∷ []) [] (let_ 0 (node Location 7 t.location) ∷ []) ∷ []))
  where
    moved : Program → Program
    moved p = record p { tables = record p.tables { files = 1 } }

-- a statement in a file that isn't there
abbrev pub stands_nowhere : Program
stands_nowhere = program (main [] [] (t.stmt (record { file = record { number = 1 }; line = 4; column = 1 }) (t.block 1 t.finish) ∷ []) ∷ [])

-- ---- the allocator procedures of the runtime library
abbrev pub with_title : List ℕ → Proc
with_title name = record { head = record refuser.head { name = name }; body = refuser.body }

abbrev pub with_runtime : Option ℕ → Program
with_runtime temp = kept (with_all [] [] (Some 1) (main [] [] [] ∷ with_title (codes "runtime.heap_allocator_proc") ∷ with_title (codes "runtime.temp_allocator_proc") ∷ []))
  where
    kept : Program → Program
    kept p = record p { tables = record p.tables { temp = temp } }

-- ---- contexts
-- a contextless procedure assigns a context, or a part of one that it hasn't
abbrev pub assigns_context : List t.Stmt → Program
assigns_context body = program (
    main [] (1 ∷ []) (do_ (call Error 0 []) ∷ []) ∷
    contextless (proc Contextless 0 1 (at_place Error 128 ∷ at_place ContextType 144 ∷ []) [] body) ∷ [])

abbrev pub set_context : t.Stmt
set_context = set (node ContextType 1 t.context) (loc ContextType 1)

-- ---- helpers
-- a helper calls a procedure through a value
abbrev pub helper_calls : Program
helper_calls = with_helper (helper (do_ (node Error 8 (t.call_value false (nil_of Contextless) t.none)) ∷ [])) (call_help 7 ∷ [])

-- a variable ends where a helper's begins
abbrev pub touches_helper : ℕ → Program
touches_helper place = lying (with_helper (helper []) (call_help 7 ∷ []))
  where
    lying_in : List Head → List Head
    lying_in [] = []
    lying_in (h ∷ hs) = record h { locals = at_place Int place ∷ [] } ∷ hs

    lying : Program → Program
    lying p = record p { tables = record p.tables { procedures = lying_in p.tables.procedures } }

-- ---- allocators
-- the type of allocator procedures is another, where one is asked
abbrev pub asks_another : ℕ → Program
asks_another ty = other (program (main [] [] (do_ (calls Error b.FreeAll 20 []) ∷ []) ∷ []))
  where
    other : Program → Program
    other p = record p { tables = record p.tables { allocator = ty } }

-- a marked call of another procedure
abbrev pub marked_other : Program
marked_other = program (main [] (1 ∷ []) (do_ (node Nothing 8 (t.call_value true (node Plain 1 (t.proc_value 0)) t.none)) ∷ []) ∷ proc Plain 0 0 [] [] [] ∷ [])

-- ---- variables
-- one declared twice, one that is a result, and one of a loop that is a parameter
abbrev pub declared_twice : Program
declared_twice = program (main (at_place Int 128 ∷ []) [] (let_ 0 (num 1) ∷ let_ 0 (num 2) ∷ []) ∷ [])

abbrev pub result_declared : Program
result_declared = with_parameter (let_ 1 (num 2))

abbrev pub parameter_runs : Program
parameter_runs = with_parameter (st (t.range 1 (t.from_to (num 0) (num 2) false) (Some 0) None (block_of [])))

-- the address of an element of a container in columns
abbrev pub element_addressed : Program
element_addressed = program (main (at_place SoaThree 128 ∷ at_place Rec 168 ∷ at_place RecPointer 192 ∷ []) []
    (zero 0 ∷ st (t.range 1 (t.through (loc SoaThree 0) true) (Some 1) None (block_of (let_ 2 (address_of RecPointer (loc Rec 1)) ∷ []))) ∷ []) ∷ [])

-- ---- parts, cases and headers
-- two parts at one offset
abbrev pub part_twice : Program
part_twice = program (main (at_place Rec 128 ∷ []) [] (let_ 0 (node Rec 1 (t.build None (t.part 0 (of_type Byte_ (pos 1)) (t.part 0 (of_type Byte_ (pos 2)) t.no_parts)))) ∷ []) ∷ [])

-- two default cases
abbrev pub default_twice : Program
default_twice = over_errors 4 (t.default_case t.finish (t.default_case t.finish t.no_cases))

-- a deferred statement in a header
abbrev pub header_defers : Program
header_defers = program (main [] [] (st (t.if_ (t.some_stmt (st (t.defer (show (num 1 ∷ []))))) (bool true) t.finish t.finish) ∷ []) ∷ [])

-- ---- types that values can't have, or that don't end
-- several values that are one, a variable of several, an enumerator that doesn't fit, a struct in itself, and a pointer to
-- itself
abbrev pub several_of_one : Program
several_of_one = with_types (entry 8 8 (length types) (several (Int ∷ [])) ∷ [])

abbrev pub variable_of_several : Program
variable_of_several = program (main (at_place IntBool 128 ∷ []) [] [] ∷ [])

abbrev pub too_great : Program
too_great = with_types (with_name 90 (one 1 (length types) (names width.U8 (named 256 (codes "A") ∷ []))) ∷ [])

abbrev pub holds_itself : Program
holds_itself = with_types (with_name 90 (words 1 (length types) (fields (field_at 0 (length types) ∷ []))) ∷ [])

abbrev pub points_to_itself : Program
points_to_itself = with_types (words 1 (length types) (address (length types)) ∷ [])

-- a struct that points to itself, which may stand
abbrev pub linked : Program
linked = with_types (with_name 90 (words 1 (length types) (fields (field_at 0 (length types + 1) ∷ []))) ∷ words 1 (length types + 1) (address (length types)) ∷ [])

-- a global that names a literal that isn't there
abbrev pub global_of : ℕ → Program
global_of n = with_all (glob_of Text (pointer_bytes (to (literal 1342177280 n) 0) ++ int_bytes 8 (pos 1)) ∷ []) (lit (codes "a") ∷ []) None (main [] [] [] ∷ [])

-- ---- things of one place
-- two globals, and two procedures, in one column; and a path twice
abbrev pub in_one_place : Program → Program
in_one_place p = record p { tables = record p.tables { globals = here p.tables.globals } }
  where
    here : List Global → List Global
    here [] = []
    here (g ∷ gs) = g ∷ g ∷ gs

abbrev pub global_twice : Program
global_twice = in_one_place (with_all (three ∷ []) [] None (main [] [] [] ∷ []))

abbrev pub text_twice : Program
text_twice = moved (program (main [] [] [] ∷ proc Plain 0 0 [] [] [] ∷ []))
  where
    same_place : List Head → List Head
    same_place (g ∷ h ∷ hs) = g ∷ record h { at = g.at } ∷ hs
    same_place hs = hs

    moved : Program → Program
    moved p = record p { tables = record p.tables { procedures = same_place p.tables.procedures } }

abbrev pub path_twice : Program
path_twice = doubled (program (main [] [] [] ∷ []))
  where
    doubled : Program → Program
    doubled p = record p { tables = record p.tables { paths = p.tables.paths ++ p.tables.paths } }

-- a helper assigns a context
abbrev pub helper_context : Program
helper_context = with_helper (helper (set (node ContextType 1 t.context) (node ContextType 1 (t.build None t.no_parts)) ∷ [])) (call_help 7 ∷ [])

-- a switch over a union, whose only item is nil
abbrev pub over_union : t.Cases → Program
over_union rest = program (main (at_place Either 128 ∷ []) [] (zero 0 ∷ st (t.switch 2 t.no_stmt (t.present (loc Either 0)) (t.one_case (t.item (nil_of Either) t.no_items) (block_of []) rest)) ∷ []) ∷ [])

-- a parameter that is an array is cut
abbrev pub parameter_cut : Program
parameter_cut = program (main [] [] [] ∷ proc TakesThree 1 0 (at_place Three 128 ∷ at_place IntSlice 160 ∷ []) [] (let_ 1 (node IntSlice 39 (t.cut (loc Three 0) t.absent t.absent)) ∷ []) ∷ [])
