-- What a type holds: its parts and theirs, at any depth, also behind a pointer, slice, dynamic array or procedure type. The
-- instance around a named type is no part of it.
use Rattle.std.specs.Prelude.{◌≡◌, ℕ, ◌+◌, ◌≤◌, ◌++◌, ◌⊎◌, Bool, true, List, [], ◌∷◌, Option, Some, None, Contains, length, map, slice_get, sum_by}
use Rattle.odc_types.specs.declared.ty.TyId.{TyId}
use Rattle.odc_types.specs.Nodes.{Node, pointer, array, slice, dynamic, soa, struct, union, distinct, procedure}

-- the parts that a type names itself
abbrev pub parts_in : Node → List TyId
parts_in (pointer to) = to ∷ []
parts_in (array count of) = of ∷ []
parts_in (slice of) = of ∷ []
parts_in (dynamic of) = of ∷ []
parts_in (soa form of) = of ∷ []
parts_in (struct name (Some fields)) = map (λ f. f.ty) fields
parts_in (union name (Some variants)) = variants
parts_in (distinct name (Some base)) = base ∷ []
parts_in (procedure convention params results) = map (λ p. p.ty) params ++ results
parts_in _ = []

-- the first is the second, or holds it
pub data IsOrHolds (types : List Node) : TyId → TyId → Type 0 where
  itself : (t : TyId) → IsOrHolds types t t
  part : (t u p : TyId) (n : Node) → slice_get types t.index ≡ Some n → Contains (parts_in n) p → IsOrHolds types p u → IsOrHolds types t u

-- one of these types is this one, or holds it
pub record IsHeldBy (types : List Node) (roots : List TyId) (u : TyId) : Type 0 where
  pub root : TyId
  pub listed : Contains roots root
  pub holds : IsOrHolds types root u

-- a type's mark is set
abbrev pub IsMarked : List Bool → TyId → Type 0
IsMarked marks t = slice_get marks t.index ≡ Some true

abbrev pub lack : Bool → ℕ
lack true = 0
lack _ = 1

-- how many types have no mark
abbrev pub unmarked : List Bool → ℕ
unmarked marks = sum_by lack marks

-- types were marked, and those that had no mark were put on a list
pub record HasMarked (ts : List TyId) (old new : List Bool) (before after : List TyId) : Type 0 where
  pub same : length new ≡ length old
  pub marked : (t : TyId) → Contains ts t → IsMarked new t
  pub kept : (t : TyId) → IsMarked old t → IsMarked new t
  pub known : (t : TyId) → IsMarked new t → IsMarked old t ⊎ (Contains ts t × Contains after t)
  pub waits : (t : TyId) → Contains before t → Contains after t
  pub listed : (t : TyId) → Contains after t → Contains before t ⊎ IsMarked new t
  pub fewer : unmarked new + length after ≤ unmarked old + length before
