-- The rows of a program from the table of types of a checker: one for each type, in the table's order, with the sizes,
-- alignments and offsets that the table answers. `text` gives the bytes of a name by its number.
use Rattle.std.specs.Prelude.{ℕ, zero, suc, ◌+◌, ◌-◌, List, [], ◌∷◌, Option, Some, None, map, length, slice_get}
use Rattle.odc_types.specs.declared.ty.TyId.{TyId}
use Rattle.odc_types.specs.declared.ty.Field.{Field}
use Rattle.odc_types.specs.declared.ty.Enumerator.{Enumerator as RustEnumerator}
use Rattle.odc_types.specs.declared.ty.SoaForm.{SoaForm}
use Rattle.odc_types.specs.declared.ty.SoaForm.TheVariants as form
use Rattle.odc_types.specs.Nodes as n
use Rattle.odc_types.specs.Nodes.{Node}
use Rattle.odc_types.specs.Layout.{size_of, align_of, offset_of, integer_of}
use Rattle.odc_program.specs.Trees.Program.{Part, Enumerator, Shape, truth, whole, rune, text, raw, address, array, slice, dynamic, soa_array, soa_slice, soa_dynamic, fields, variants, names, procedure, several, Name, Ty}
use Rattle.odc_program.specs.Views.Instances.{has_context}
use Rattle.odc_program.specs.Views.ProgramView.{place}

abbrev pub indices : List TyId → List ℕ
indices ts = map (λ t. t.index) ts

-- the fields of a struct, by their positions
abbrev pub parts_from : List Node → ℕ → ℕ → List Field → List Part
parts_from types t i [] = []
parts_from types t i (f ∷ fs) = record { offset = offset_of types t i; ty = f.ty.index } ∷ parts_from types t (i + 1) fs

abbrev pub enumerators : (ℕ → List ℕ) → List RustEnumerator → List Enumerator
enumerators bytes [] = []
enumerators bytes (e ∷ es) = record { value = e.value; name = bytes e.name } ∷ enumerators bytes es

abbrev pub columns : SoaForm → ℕ → Shape
columns (form.Fixed count) t = soa_array t count
columns form.Slice t = soa_slice t
columns form.Dyn t = soa_dynamic t

-- the shape of a type that isn't distinct; a type without its parts has none
abbrev pub shape_of_node : (ℕ → List ℕ) → List Node → ℕ → Node → Shape
shape_of_node bytes types t n.truth = truth
shape_of_node bytes types t (n.integer w) = whole w
shape_of_node bytes types t n.rune = rune
shape_of_node bytes types t n.text = text
shape_of_node bytes types t n.rawptr = raw
shape_of_node bytes types t (n.pointer to) = address to.index
shape_of_node bytes types t (n.array count of) = array of.index count
shape_of_node bytes types t (n.slice of) = slice of.index
shape_of_node bytes types t (n.dynamic of) = dynamic of.index
shape_of_node bytes types t (n.soa f of) = columns f of.index
shape_of_node bytes types t (n.struct name (Some fs)) = fields (parts_from types t 0 fs)
shape_of_node bytes types t (n.union name (Some vs)) = variants (size_of types t - 8) (indices vs)
shape_of_node bytes types t (n.enum name base (Some es)) = names (integer_of base) (enumerators bytes es)
shape_of_node bytes types t (n.procedure convention ps rs) = procedure (has_context convention) (map (λ p. p.ty.index) ps) (indices rs)
shape_of_node bytes types t _ = several []

-- what a distinct type stands for, itself not distinct; k bounds the steps
abbrev pub behind_node : (ℕ → ℕ) → ℕ → Option Node → ℕ
behind_node behind t (Some (n.distinct name (Some b))) = behind b.index
behind_node behind t _ = t

abbrev pub behind : List Node → ℕ → ℕ → ℕ
behind types zero t = t
behind types (suc k) t = behind_node (behind types k) t (slice_get types t)

abbrev pub base_in : List Node → ℕ → ℕ
base_in types t = behind types (length types) t

abbrev pub shape_at : (ℕ → List ℕ) → List Node → ℕ → Option Node → Shape
shape_at bytes types t None = several []
shape_at bytes types t (Some node) = shape_of_node bytes types t node

abbrev pub name_of : n.Name → Name
name_of m = record { at = place m.at; types = indices m.types; numbers = m.numbers }

abbrev pub name_at : Option n.Name → Option Name
name_at None = None
name_at (Some m) = Some (name_of m)

abbrev pub row_of : (ℕ → List ℕ) → List Node → ℕ → Node → Ty
row_of bytes types t node = record { size = size_of types t; align = align_of types t; base = base_in types t; name = name_at (n.name_in node); shape = shape_at bytes types (base_in types t) (slice_get types (base_in types t)) }

abbrev pub rows_from : (ℕ → List ℕ) → List Node → ℕ → List Node → List Ty
rows_from bytes types t [] = []
rows_from bytes types t (node ∷ nodes) = row_of bytes types t node ∷ rows_from bytes types (t + 1) nodes

abbrev pub rows_of : (ℕ → List ℕ) → List Node → List Ty
rows_of bytes types = rows_from bytes types 0 types
