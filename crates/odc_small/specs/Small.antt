-- Constants that are small: of so many integers of the grammar.
use Rattle.std.specs.Prelude.{◌≢◌, ℕ, ◌*◌, ℤ, pos, neg_ℤ, ◌<ℤ◌, Option, Some, None}
use Rattle.odc_typed.specs.Tree.{Expr}
use Rattle.odc_small.specs.declared.grammar.Scale.{Scale}
use Rattle.odc_small.specs.declared.grammar.Scale.TheVariants.{Times, Over, Rest}
use Rattle.odc_small.specs.Typing.{constant_of}

abbrev pub Below : ℕ → ℤ → Type 0
Below bound z = (neg_ℤ (pos bound) <ℤ z) × (z <ℤ pos bound)

abbrev pub ValueBelow : ℕ → Option ℤ → Type 0
ValueBelow bound (Some z) = Below bound z
ValueBelow bound None = Unit {0}

-- a constant that is the sum of so many integers
pub record IsSmall (count : ℕ) (e : Expr) : Type 0 where
  pub below : ValueBelow (count * 1000000000) (constant_of e)

-- a constant that divides isn't 0
abbrev pub MayScaleBy : Scale → Option ℤ → Type 0
MayScaleBy Times v = Unit {0}
MayScaleBy Over v = v ≢ Some (pos 0)
MayScaleBy Rest v = v ≢ Some (pos 0)
