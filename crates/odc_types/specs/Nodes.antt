-- A type of a table: its kind, and the numbers of its parts.
use Rattle.std.specs.Prelude.{ℕ, ℤ, List, Option, Some, None, map}
use Rattle.odc_types.specs.declared.width.Width.{Width}
use Rattle.odc_types.specs.declared.ty.TyId.{TyId}
use Rattle.odc_types.specs.declared.ty.TypePlace.{TypePlace}
use Rattle.odc_types.specs.declared.ty.TypeName.{TypeName}
use Rattle.odc_types.specs.declared.ty.Field.{Field}
use Rattle.odc_types.specs.declared.ty.Enumerator.{Enumerator}
use Rattle.odc_types.specs.declared.ty.Param.{Param}
use Rattle.odc_types.specs.declared.ty.Convention.{Convention}
use Rattle.odc_types.specs.declared.ty.SoaForm.{SoaForm}
use Rattle.odc_types.specs.declared.ty.Ty.{Ty}
use Rattle.odc_types.specs.declared.ty.Ty.TheVariants.{Bool, Int, Rune, Text, RawPtr, Ptr, Array, Slice, Dyn, Soa, Struct, Union, Enum, Distinct, Proc}

-- the place of a named type's text, and the instance around it
pub record Name : Type 0 where
  pub at : TypePlace
  pub types : List TyId
  pub numbers : List ℤ

pub data Node : Type 0 where
  truth : Node
  integer : (width : Width) → Node
  rune : Node
  text : Node
  rawptr : Node
  pointer : (to : TyId) → Node
  array : (count : ℕ) (of : TyId) → Node
  slice : (of : TyId) → Node
  dynamic : (of : TyId) → Node
  soa : (form : SoaForm) (of : TyId) → Node
  struct : (name : Name) (fields : Option (List Field)) → Node
  union : (name : Name) (variants : Option (List TyId)) → Node
  enum : (name : Name) (base : Option Width) (enumerators : Option (List Enumerator)) → Node
  distinct : (name : Name) (base : Option TyId) → Node
  procedure : (convention : Convention) (params : List Param) (results : List TyId) → Node

abbrev pub name_of : TypeName → Name
name_of n = record { at = n.at; types = n.types.items; numbers = n.numbers.items }

-- the node that a value of the program stands for
abbrev pub node : Ty → Node
node Bool = truth
node (Int width) = integer width
node Rune = rune
node Text = text
node RawPtr = rawptr
node (Ptr to) = pointer to
node (Array count of) = array count of
node (Slice of) = slice of
node (Dyn of) = dynamic of
node (Soa form of) = soa form of
node (Struct name None) = struct (name_of name) None
node (Struct name (Some fields)) = struct (name_of name) (Some fields.items)
node (Union name None) = union (name_of name) None
node (Union name (Some variants)) = union (name_of name) (Some variants.items)
node (Enum name base None) = enum (name_of name) base None
node (Enum name base (Some enumerators)) = enum (name_of name) base (Some enumerators.items)
node (Distinct name base) = distinct (name_of name) base
node (Proc convention params results) = procedure convention params.items results.items

abbrev pub nodes : List Ty → List Node
nodes types = map node types

-- the name of a struct, union, enum or distinct type
abbrev pub name_in : Node → Option Name
name_in (struct name fields) = Some name
name_in (union name variants) = Some name
name_in (enum name base enumerators) = Some name
name_in (distinct name base) = Some name
name_in _ = None
