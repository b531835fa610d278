-- What the definitions see of the tables of a program.
use Rattle.std.specs.Prelude.{List, [], map}
use Rattle.odc_program.specs.declared.program.TypeRow.{TypeRow}
use Rattle.odc_program.specs.declared.program.Procedure.{Procedure}
use Rattle.odc_program.specs.Trees.Program.{Tables, Head}
use Rattle.odc_program.specs.Views.Instances.{procedure}
use Rattle.odc_program.specs.Views.ProgramView.{ty, types_alone, head}

-- tables of these types alone
abbrev pub typed : List TypeRow → Tables
typed rows = types_alone (map ty rows) []

-- a procedure's head among all procedures
abbrev pub head_in : List Procedure → Procedure → Head
head_in all p = head (map procedure all) (procedure p)
