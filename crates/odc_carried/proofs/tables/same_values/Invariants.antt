use Rattle.std.proofs.Common.{◌≡◌, drop}
use Rattle.odc_program.specs.Views.ProgramView.{same_ints}
use Rattle.odc_carried.proofs.tables.same_values.Given as goal

-- what is left tells
abbrev pub invariant-loop-i : goal.invariant-loop-i
invariant-loop-i l = same_ints (drop l.i l.a) (drop l.i l.b) ≡ same_ints l.a l.b
