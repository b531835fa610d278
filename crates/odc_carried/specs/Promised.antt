-- What the core code that `cross` makes keeps of a program that can cross.
use Rattle.std.specs.Prelude.{ℕ, List}
use Rattle.odc_text.specs.Run.{entry_by}
use Rattle.odc_text.specs.Follow.{KeepsOn}
use Rattle.odc_program.specs.Trees.Program.{Program}
use Rattle.odc_program.specs.Runs.Source.{source}
use Rattle.odc_core.specs.Tree.{Whole}
use Rattle.odc_core.specs.Run.{core}
use Rattle.odc_carried.specs.Places.{address_at}

-- on every input, and whatever the words of the procedures, the core run keeps the source run, at 64 times its cost and a
-- little more
abbrev pub IsKept : Program → Whole → Type 0
IsKept p q = (entries : ℕ → ℕ) (input : List ℕ) → KeepsOn 64 8 (entry_by address_at entries) (source p) (core entries q) input
