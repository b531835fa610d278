-- A table that has each type once.
use Rattle.std.specs.Prelude.{◌≡◌, ℕ, List, [], ◌∷◌, Some, length, slice_get}
use Rattle.odc_types.specs.declared.key.Key.{Key}
use Rattle.odc_types.specs.Nodes.{Node}
use Rattle.odc_types.specs.Parts.{HasPartsBelow}
use Rattle.odc_types.specs.Identity.{root_of, counted, IsWholeTable}
use Rattle.odc_types.specs.Keys.{IsKeyOf}

-- two types say the same and have the same parts, by their numbers
pub record HaveOneKey (m n : Node) : Type 0 where
  pub root : root_of m ≡ root_of n
  pub parts : counted m ≡ counted n

-- no type of the table has this key
pub record IsFresh (types : List Node) (n : Node) : Type 0 where
  pub none : (i : ℕ) (m : Node) → slice_get types i ≡ Some m → HaveOneKey m n → ⊥

-- the table has the type at an index
pub record IsAt (types : List Node) (i : ℕ) (n : Node) : Type 0 where
  pub node : Node
  pub at : slice_get types i ≡ Some node
  pub one : HaveOneKey node n

-- the keys of types, one by one
abbrev pub AreKeysOf : List Key → List Node → Type 0
AreKeysOf [] [] = Unit {0}
AreKeysOf [] (n ∷ ns) = ⊥
AreKeysOf (k ∷ ks) [] = ⊥
AreKeysOf (k ∷ ks) (n ∷ ns) = IsKeyOf k n × AreKeysOf ks ns

pub record IsInterned (keys : List Key) (types : List Node) : Type 0 where
  -- each identity is known to its leaves
  pub whole : IsWholeTable types
  -- every part of every type is in the table
  pub parts : (i : ℕ) (n : Node) → slice_get types i ≡ Some n → HasPartsBelow (length types) n
  -- no two types have one key
  pub apart : (i j : ℕ) (m n : Node) → slice_get types i ≡ Some m → slice_get types j ≡ Some n → HaveOneKey m n → i ≡ j
  -- and the keys are kept
  pub keyed : AreKeysOf keys types
