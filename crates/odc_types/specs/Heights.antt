-- How many levels a type has behind a pointer, slice, dynamic array or procedure type, where a named type counts as one.
use Rattle.std.specs.Prelude.{◌≡◌, ◌<◌, ℕ, suc, max, min, List, length, get_or}
use Rattle.odc_types.specs.Nodes.{Node}
use Rattle.odc_types.specs.Identity.{Root, named, Identity, Identities, tree, unknown, none, more, identity_of, identity_of_node}

-- the levels of the parts that count
abbrev pub beneath : Root → ℕ → ℕ
beneath (named at numbers) n = 0
beneath _ n = n

abbrev mutual
  pub height : Identity → ℕ
  height unknown = 0
  height (tree root parts) = suc (beneath root (highest parts))

  pub highest : Identities → ℕ
  highest none = 0
  highest (more i is) = max (height i) (highest is)

unfoldable pub height_of_node : List Node → Node → ℕ
height_of_node types n = height (identity_of_node (identity_of types) n)

-- levels are counted up to 201, one more than a type may have
abbrev pub clipped : ℕ → ℕ
clipped n = min n 201

-- the heights that are kept
pub record AreHeights (types : List Node) (heights : List ℕ) : Type 0 where
  pub same : length heights ≡ length types
  pub each : (t : ℕ) → t < length types → get_or heights t 0 ≡ clipped (height (identity_of types t))
