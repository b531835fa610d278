-- What a Rust program shows: its tables, with the addresses of globals and literals.
use Rattle.std.specs.Prelude.{ℕ, zero, suc, ◌+◌, ◌*◌, ◌/◌, ◌==◌, ◌&&◌, ℤ, Bool, true, false, if◌then◌else◌, List, [], ◌∷◌, ◌++◌, Option, Some, None, map, length, string_bytes}
use Rattle.std.specs.Option.{option_map}
use Rattle.std.specs.Ordering.{int_eq}
use Rattle.odc_text.specs.declared.place.Place.{Place}
use Rattle.odc_types.specs.declared.ty.TypePlace.{TypePlace}
use Rattle.odc_types.specs.declared.ty.TypeName.{TypeName}
use Rattle.odc_program.specs.declared.ops.Constant.{Constant}
use Rattle.odc_program.specs.declared.program.EnumeratorRow.{EnumeratorRow}
use Rattle.odc_program.specs.declared.program.FieldRow.{FieldRow}
use Rattle.odc_program.specs.declared.program.TypeKind.{TypeKind}
use Rattle.odc_program.specs.declared.program.TypeKind.TheVariants as k
use Rattle.odc_program.specs.declared.program.TypeRow.{TypeRow}
use Rattle.odc_program.specs.declared.program.GlobalVariable.{GlobalVariable as RustGlobal}
use Rattle.odc_program.specs.declared.program.Literal.{Literal as RustLiteral}
use Rattle.odc_program.specs.declared.program.Program.{Program as RustProgram}
use Rattle.odc_program.specs.States.Bytes.{Value, zeros}
use Rattle.odc_program.specs.Trees.Program.{Part, Enumerator, Shape, truth, whole, rune, text, raw, address, array, slice, dynamic, soa_array, soa_slice, soa_dynamic, fields, variants, names, procedure, several, Name, Ty, Head, Global, Literal, Tables, Program}
use Rattle.odc_program.specs.States.State.{Env, spot, size_of}
use Rattle.odc_program.specs.Kinds.Places.{nowhere, constant_value}
use Rattle.odc_program.specs.Kinds.Operators.{injected}
use Rattle.odc_program.specs.Views.Instances as i

-- ---- types
abbrev pub enumerator : EnumeratorRow → Enumerator
enumerator e = record { value = e.value; name = string_bytes e.name }

abbrev pub part : FieldRow → Part
part f = record { offset = f.offset; ty = f.ty.index }

abbrev pub shape : TypeKind → Shape
shape k.Bool = truth
shape (k.Int width) = whole width
shape k.Rune = rune
shape k.Text = text
shape k.RawPtr = raw
shape (k.Ptr t) = address t.index
shape (k.Array t n) = array t.index n
shape (k.Slice t) = slice t.index
shape (k.Dyn t) = dynamic t.index
shape (k.SoaArray t n) = soa_array t.index n
shape (k.SoaSlice t) = soa_slice t.index
shape (k.SoaDyn t) = soa_dynamic t.index
shape (k.Struct fs) = fields (map part fs.items)
shape (k.Union tag ts) = variants tag (map (λ t. t.index) ts.items)
shape (k.Enum width es) = names width (map enumerator es.items)
shape (k.Proc c ps rs) = procedure (i.has_context c) (map (λ t. t.index) ps.items) (map (λ t. t.index) rs.items)
shape (k.Several ts) = several (map (λ t. t.index) ts.items)

abbrev pub place : TypePlace → Place
place p = record { file = record { number = p.file }; line = p.line; column = p.column }

abbrev pub name : TypeName → Name
name n = record { at = place n.at; types = map (λ t. t.index) n.types.items; numbers = n.numbers.items }

abbrev pub ty : TypeRow → Ty
ty r = record { size = r.size; align = r.align; base = r.base.index; name = option_map name r.name; shape = shape r.kind }

-- ---- procedures: a need is the position of the first procedure that is its instance
abbrev pub same_numbers : List ℕ → List ℕ → Bool
same_numbers [] [] = true
same_numbers (a ∷ x) (b ∷ y) = (a == b) && same_numbers x y
same_numbers _ _ = false

abbrev pub same_ints : List ℤ → List ℤ → Bool
same_ints [] [] = true
same_ints (a ∷ x) (b ∷ y) = int_eq a b && same_ints x y
same_ints _ _ = false

abbrev pub same_instance : i.Instance → i.Instance → Bool
same_instance a b = (a.proc == b.proc) && (same_numbers a.types b.types && same_ints a.numbers b.numbers)

abbrev pub position_from : ℕ → List i.Procedure → i.Instance → ℕ
position_from n [] a = n
position_from n (p ∷ ps) a = if same_instance p.instance a then n else position_from (n + 1) ps a

abbrev pub positions : List i.Procedure → List i.Need → List ℕ
positions ps [] = []
positions ps (n ∷ ns) = position_from 0 ps n.instance ∷ positions ps ns

abbrev pub head : List i.Procedure → i.Procedure → Head
head ps p = record {
  instance = p.instance;
  name = p.name;
  at = p.at;
  literal = p.literal;
  has_context = p.has_context;
  ty = p.ty;
  parameters = length p.parameters;
  results = length p.results;
  locals = p.parameters ++ p.results ++ p.locals;
  frame = p.frame;
  needs = positions ps p.needs;
}

-- ---- the store: globals and then literals, each at the first multiple of 16 that is at least 8 behind the one before
abbrev pub store_start : ℕ
store_start = 1342177280

abbrev pub next_address : ℕ → ℕ → ℕ
next_address at size = (at + size + 23) / 16 * 16

-- tables of types alone, to make the values that globals start with
abbrev pub types_alone : List Ty → List Literal → Tables
types_alone ts ls = record { types = ts; globals = []; literals = ls; procedures = []; paths = []; files = 0; heap = None; temp = None; allocator = 0 }

abbrev pub outside : Tables → Head → Env
outside tables p = record { tables = tables; proc = p; number = 0; serial = 0; low = 0; shift = 0; storage = λ x. spot Rattle.odc_program.specs.States.Bytes.nil; context = None }

abbrev pub first_value : Env → ℕ → Option Constant → Option ℕ → Value
first_value env t None variant = zeros (size_of env t)
first_value env t (Some c) None = constant_value env t c
first_value env t (Some c) (Some variant) = injected env t variant (constant_value env (variant_type env t variant) c)
  where
    nth : ℕ → List ℕ → ℕ
    nth zero ts = 0
    nth (suc n) [] = 0
    nth (suc zero) (t ∷ ts) = t
    nth (suc (suc n)) (t ∷ ts) = nth (suc n) ts

    variant_in : Shape → ℕ → ℕ
    variant_in (variants tag ts) n = nth n ts
    variant_in _ n = 0

    variant_type : Env → ℕ → ℕ → ℕ
    variant_type env t n = variant_in (Rattle.odc_program.specs.States.State.shape_of env t) n

abbrev pub globals_from : Env → ℕ → List RustGlobal → List Global
globals_from env at [] = []
globals_from env at (g ∷ gs) = record { place = g.at; at = at; ty = g.ty.index; first = first_value env g.ty.index g.first g.variant } ∷ globals_from env (next_address at (size_of env g.ty.index)) gs

abbrev pub behind_globals : Env → ℕ → List RustGlobal → ℕ
behind_globals env at [] = at
behind_globals env at (g ∷ gs) = behind_globals env (next_address at (size_of env g.ty.index)) gs

abbrev pub literals_from : ℕ → List RustLiteral → List Literal
literals_from at [] = []
literals_from at (l ∷ ls) = record { place = l.at; at = at; bytes = l.bytes.items } ∷ literals_from (next_address at (length l.bytes.items)) ls

abbrev pub no_head : Head
no_head = record { instance = record { proc = 0; types = []; numbers = [] }; name = []; at = nowhere; literal = 0; has_context = false; ty = 0; parameters = 0; results = 0; locals = []; frame = 0; needs = [] }

abbrev pub with_procedures : RustProgram → List Ty → List i.Procedure → List Literal → List Global → Program
with_procedures p ts ps ls gs = record {
  tables = record { types = ts; globals = gs; literals = ls; procedures = map (head ps) ps; paths = p.paths.items; files = p.runtime.files; heap = p.runtime.heap; temp = p.runtime.temp; allocator = p.runtime.allocator.index };
  bodies = map (λ q. q.body) ps;
  main = p.main;
}

abbrev pub with_literals : RustProgram → List Ty → List Literal → Program
with_literals p ts ls = with_procedures p ts (map i.procedure p.procedures.items) ls (globals_from (outside (types_alone ts ls) no_head) store_start p.globals.items)

abbrev pub program : RustProgram → Program
program p = with_literals p (map ty p.types.items) (literals_from (behind_globals (outside (types_alone (map ty p.types.items) []) no_head) store_start p.globals.items) p.literals.items)
