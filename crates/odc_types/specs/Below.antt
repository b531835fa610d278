-- Numbers of types in a table.
use Rattle.std.specs.Prelude.{ℕ, ◌<◌, List, [], ◌∷◌}
use Rattle.odc_types.specs.declared.ty.TyId.{TyId}

-- the numbers in a list are those of types in a table of so many
abbrev pub AreBelow : ℕ → List TyId → Type 0
AreBelow n [] = Unit {0}
AreBelow n (t ∷ ts) = (t.index < n) × AreBelow n ts
