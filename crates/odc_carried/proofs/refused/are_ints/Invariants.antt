use Rattle.std.proofs.Common.{◌≡◌, drop, map}
use Rattle.odc_program.specs.Views.Instances.{local}
use Rattle.odc_program.specs.Views.ProgramView.{program}
use Rattle.odc_carried.specs.Carried as spec
use Rattle.odc_carried.proofs.refused.are_ints.Given as goal

-- all of those so far
abbrev pub invariant-loop-l : goal.invariant-loop-l
invariant-loop-l l = spec.are_ints (program l.w).tables (map local (drop l.l-index l.locals)) ≡ spec.are_ints (program l.w).tables (map local l.locals)
