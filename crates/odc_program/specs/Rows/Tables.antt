-- A small table of types, and its rows.
use Rattle.std.specs.Prelude.{ℕ, zero, suc, ◌+◌, pos, true, List, [], ◌∷◌, Some, None, codes, length}
use Rattle.odc_types.specs.declared.width.Width.TheVariants as width
use Rattle.odc_types.specs.declared.ty.TyId.{TyId}
use Rattle.odc_types.specs.declared.ty.Convention.TheVariants as convention
use Rattle.odc_types.specs.declared.ty.SoaForm.TheVariants as form
use Rattle.odc_types.specs.Nodes as n
use Rattle.odc_types.specs.Nodes.{Node}
use Rattle.odc_program.specs.Trees.Program.{Ty, Head, Program, whole, address, fields, variants, names, soa_slice, procedure}
use Rattle.odc_program.specs.Views.TableRows.{rows_of}
use Rattle.odc_program.specs.Rows.Writing.{one, words, field_at, named, with_name, main, program}

abbrev pub id : ℕ → TyId
id t = record { index = t }

-- a name in column c of the second line
abbrev pub told : ℕ → n.Name
told c = record { at = record { file = 0; line = 2; column = c }; types = []; numbers = [] }

-- names of enumerators by their numbers
abbrev pub bytes_of : ℕ → List ℕ
bytes_of zero = codes "A"
bytes_of (suc k) = codes "B"

-- `int`, `u8`, `struct {a: u8, b: int}`, a pointer to it, `distinct int`, `distinct` of that, `enum u8 {A, B}`,
-- `union {int, ^S}`, `#soa[]S`, `proc(int) -> int` and `proc()`
abbrev pub nodes : List Node
nodes =
    n.integer width.Int ∷ n.integer width.U8 ∷
    n.struct (told 1) (Some (record { name = 0; ty = id 1 } ∷ record { name = 1; ty = id 0 } ∷ [])) ∷ n.pointer (id 2) ∷
    n.distinct (told 2) (Some (id 0)) ∷ n.distinct (told 3) (Some (id 4)) ∷
    n.enum (told 4) (Some width.U8) (Some (record { name = 0; value = pos 0 } ∷ record { name = 1; value = pos 1 } ∷ [])) ∷
    n.union (told 5) (Some (id 0 ∷ id 3 ∷ [])) ∷ n.soa form.Slice (id 2) ∷
    n.procedure convention.Odin (record { name = 0; ty = id 0; optional = Rattle.std.specs.Prelude.false } ∷ []) (id 0 ∷ []) ∷ n.procedure convention.Odin [] [] ∷ []

abbrev pub rows : List Ty
rows =
    one 8 0 (whole width.Int) ∷ one 1 1 (whole width.U8) ∷
    with_name 1 (words 2 2 (fields (field_at 0 1 ∷ field_at 8 0 ∷ []))) ∷ words 1 3 (address 2) ∷
    with_name 2 (one 8 0 (whole width.Int)) ∷ with_name 3 (one 8 0 (whole width.Int)) ∷
    with_name 4 (one 1 6 (names width.U8 (named 0 (codes "A") ∷ named 1 (codes "B") ∷ []))) ∷
    with_name 5 (words 2 7 (variants 8 (0 ∷ 3 ∷ []))) ∷ words 3 8 (soa_slice 2) ∷
    words 1 9 (procedure true (0 ∷ []) (0 ∷ [])) ∷ words 1 10 (procedure true [] []) ∷ []

-- a program over these rows
abbrev pub over_rows : Program
over_rows = over (program (main [] [] [] ∷ []))
  where
    of_plain : List Head → List Head
    of_plain [] = []
    of_plain (h ∷ hs) = record h { ty = 10 } ∷ hs

    over : Program → Program
    over p = record p { tables = record p.tables { types = rows_of bytes_of nodes; procedures = of_plain p.tables.procedures } }
