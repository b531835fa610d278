-- Sums that stay at the greatest number of 64 bits, and sizes by a table of types alone.
use Rattle.std.specs.Prelude.{ℕ, ◌-◌, ◌^◌, List, [], map, min}
use Rattle.odc_program.specs.declared.program.TypeRow.{TypeRow}
use Rattle.odc_program.specs.States.State.{Env}
use Rattle.odc_program.specs.Views.ProgramView.{ty, types_alone, no_head, outside}

abbrev pub capped : ℕ → ℕ
capped n = min n (2 ^ 64 - 1)

-- surroundings that have these types, and nothing else
abbrev pub table : List TypeRow → Env
table rows = outside (types_alone (map ty rows) []) no_head
