-- The key of a type: its kind, the numbers that it says itself, and the parts that count. Two types have one key where their
-- roots and their parts are the same.
use Rattle.std.specs.Prelude.{◌≡◌, ℤ, pos, List, [], ◌∷◌}
use Rattle.odc_types.specs.declared.width.Width.{Width}
use Rattle.odc_types.specs.declared.width.Width.TheVariants.{Int, Uint, I8, I16, I32, I64, U8, U16, U32, U64}
use Rattle.odc_types.specs.declared.ty.Convention.{Convention}
use Rattle.odc_types.specs.declared.ty.Convention.TheVariants.{Odin, Contextless}
use Rattle.odc_types.specs.declared.ty.SoaForm.TheVariants.{Fixed, Slice, Dyn}
use Rattle.odc_types.specs.declared.key.Kind.{Kind}
use Rattle.odc_types.specs.declared.key.Kind.TheVariants as kind
use Rattle.odc_types.specs.declared.key.Key.{Key}
use Rattle.odc_types.specs.Nodes.{Node}
use Rattle.odc_types.specs.Identity.{Root, truth, integer, rune, text, rawptr, pointer, array, slice, dynamic, soa, named, procedure, root_of, counted}

abbrev pub width_number : Width → ℤ
width_number Int = pos 0
width_number Uint = pos 1
width_number I8 = pos 2
width_number I16 = pos 3
width_number I32 = pos 4
width_number I64 = pos 5
width_number U8 = pos 6
width_number U16 = pos 7
width_number U32 = pos 8
width_number U64 = pos 9

abbrev pub kind_of_proc : Convention → Kind
kind_of_proc Odin = kind.Proc
kind_of_proc Contextless = kind.Contextless

abbrev pub kind_of : Root → Kind
kind_of truth = kind.Bool
kind_of (integer w) = kind.Int
kind_of rune = kind.Rune
kind_of text = kind.Text
kind_of rawptr = kind.RawPtr
kind_of pointer = kind.Ptr
kind_of (array n) = kind.Array
kind_of slice = kind.Slice
kind_of dynamic = kind.Dyn
kind_of (soa (Fixed n)) = kind.SoaFixed
kind_of (soa Slice) = kind.SoaSlice
kind_of (soa Dyn) = kind.SoaDyn
kind_of (named at ns) = kind.Named
kind_of (procedure convention n) = kind_of_proc convention

abbrev pub numbers_of : Root → List ℤ
numbers_of (integer w) = width_number w ∷ []
numbers_of (array n) = pos n ∷ []
numbers_of (soa (Fixed n)) = pos n ∷ []
numbers_of (named at ns) = pos at.file ∷ (pos at.line ∷ (pos at.column ∷ ns))
numbers_of (procedure convention n) = pos n ∷ []
numbers_of _ = []

pub record IsKeyOf (k : Key) (n : Node) : Type 0 where
  pub kind : k.kind ≡ kind_of (root_of n)
  pub numbers : k.numbers.items ≡ numbers_of (root_of n)
  pub parts : k.parts.items ≡ counted n

-- two keys say the same
pub record IsSameKey (a b : Key) : Type 0 where
  pub kind : a.kind ≡ b.kind
  pub numbers : a.numbers.items ≡ b.numbers.items
  pub parts : a.parts.items ≡ b.parts.items
