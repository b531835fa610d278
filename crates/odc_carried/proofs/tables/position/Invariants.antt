use Rattle.std.proofs.Common.{◌≡◌, drop, map}
use Rattle.odc_program.specs.Views.Instances.{instance, procedure}
use Rattle.odc_program.specs.Views.ProgramView.{position_from}
use Rattle.odc_carried.proofs.tables.position.Given as goal

-- none of those so far
abbrev pub invariant-loop-i : goal.invariant-loop-i
invariant-loop-i l = position_from l.i (map procedure (drop l.i l.procedures)) (instance l.inst) ≡ position_from 0 (map procedure l.procedures) (instance l.inst)
