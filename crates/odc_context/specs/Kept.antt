-- What the step to core code keeps.
use Rattle.std.specs.Prelude.{ℕ, List}
use Rattle.odc_text.specs.Run.{entry_by}
use Rattle.odc_text.specs.Follow.{KeepsOn}
use Rattle.odc_typed.specs.Place.{number_at}
use Rattle.odc_typed.specs.Source.{source}
use Rattle.odc_typed.specs.Tree.{Whole}
use Rattle.odc_core.specs.Run.{core}
use Rattle.odc_core.specs.Tree.{Whole as CoreWhole}

-- on every input, and whatever the words of the procedures, the core run keeps the source run, at a
-- hundred times its cost; an address becomes the number where its block lies
abbrev pub IsKept : Whole → CoreWhole → Type 0
IsKept p q = (entries : ℕ → ℕ) (input : List ℕ) → KeepsOn 100 0 (entry_by number_at entries) (source p) (core entries q) input
