-- When two types are one. The identity of a type is a tree: at its root what the type itself says, and below it the
-- identities of the parts that count. A struct, union, enum or distinct type is told from others by the place of its
-- text and the instance around it, and by nothing that it holds. Other types are told by their parts, procedure types by
-- convention, parameters and results, without names and without which arguments may be left out.
use Rattle.std.specs.Prelude.{◌<◌, ℕ, zero, suc, ℤ, List, [], ◌∷◌, ◌++◌, Option, Some, None, map, length, slice_get}
use Rattle.odc_types.specs.declared.width.Width.{Width}
use Rattle.odc_types.specs.declared.ty.TyId.{TyId}
use Rattle.odc_types.specs.declared.ty.TypePlace.{TypePlace}
use Rattle.odc_types.specs.declared.ty.Convention.{Convention}
use Rattle.odc_types.specs.declared.ty.SoaForm.{SoaForm}
use Rattle.odc_types.specs.Nodes as nodes
use Rattle.odc_types.specs.Nodes.{Node, Name}

pub data Root : Type 0 where
  truth : Root
  integer : (width : Width) → Root
  rune : Root
  text : Root
  rawptr : Root
  pointer : Root
  array : (count : ℕ) → Root
  slice : Root
  dynamic : Root
  soa : (form : SoaForm) → Root
  named : (at : TypePlace) (numbers : List ℤ) → Root
  procedure : (convention : Convention) (params : ℕ) → Root

mutual
  pub data Identity : Type 0 where
    tree : (root : Root) (parts : Identities) → Identity
    unknown : Identity  -- of a number that is in no table

  pub data Identities : Type 0 where
    none : Identities
    more : (first : Identity) (rest : Identities) → Identities

abbrev pub root_of : Node → Root
root_of nodes.truth = truth
root_of (nodes.integer w) = integer w
root_of nodes.rune = rune
root_of nodes.text = text
root_of nodes.rawptr = rawptr
root_of (nodes.pointer to) = pointer
root_of (nodes.array count of) = array count
root_of (nodes.slice of) = slice
root_of (nodes.dynamic of) = dynamic
root_of (nodes.soa form of) = soa form
root_of (nodes.struct name fields) = named name.at name.numbers
root_of (nodes.union name variants) = named name.at name.numbers
root_of (nodes.enum name base enumerators) = named name.at name.numbers
root_of (nodes.distinct name base) = named name.at name.numbers
root_of (nodes.procedure convention params results) = procedure convention (length params)

-- the parts that count
abbrev pub counted : Node → List TyId
counted nodes.truth = []
counted (nodes.integer w) = []
counted nodes.rune = []
counted nodes.text = []
counted nodes.rawptr = []
counted (nodes.pointer to) = to ∷ []
counted (nodes.array count of) = of ∷ []
counted (nodes.slice of) = of ∷ []
counted (nodes.dynamic of) = of ∷ []
counted (nodes.soa form of) = of ∷ []
counted (nodes.struct name fields) = name.types
counted (nodes.union name variants) = name.types
counted (nodes.enum name base enumerators) = name.types
counted (nodes.distinct name base) = name.types
counted (nodes.procedure convention params results) = map (λ p. p.ty) params ++ results

abbrev pub all_of : (ℕ → Identity) → List TyId → Identities
all_of part [] = none
all_of part (t ∷ ts) = more (part t.index) (all_of part ts)

abbrev pub identity_of_node : (ℕ → Identity) → Node → Identity
identity_of_node part n = tree (root_of n) (all_of part (counted n))

abbrev pub identity_at : (ℕ → Identity) → Option Node → Identity
identity_at part None = unknown
identity_at part (Some n) = identity_of_node part n

-- a type unfolded so many levels deep
abbrev pub identity : List Node → ℕ → ℕ → Identity
identity types zero t = unknown
identity types (suc k) t = identity_at (identity types k) (slice_get types t)

-- the parts that count were added before the type itself, so it unfolds in as many levels as there are types
abbrev pub identity_of : List Node → ℕ → Identity
identity_of types t = identity types (length types) t

-- nothing in the tree is unknown
abbrev mutual
  pub IsWhole : Identity → Type 0
  IsWhole unknown = ⊥
  IsWhole (tree root parts) = AreWhole parts

  pub AreWhole : Identities → Type 0
  AreWhole none = Unit {0}
  AreWhole (more i is) = IsWhole i × AreWhole is

-- each type of a table has an identity that is known to its leaves
pub record IsWholeTable (types : List Node) : Type 0 where
  pub whole : (t : ℕ) → t < length types → IsWhole (identity_of types t)
