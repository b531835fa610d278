use Rattle.std.proofs.Common.{◌≡◌, drop, map}
use Rattle.odc_types.specs.declared.ty.TyId.{TyId}
use Rattle.odc_program.specs.Views.ProgramView.{same_numbers}
use Rattle.odc_carried.proofs.tables.same_types.Given as goal

-- what is left tells
abbrev pub invariant-loop-i : goal.invariant-loop-i
invariant-loop-i l = same_numbers (map (λ (t : TyId). t.index) (drop l.i l.a)) (map (λ (t : TyId). t.index) (drop l.i l.b)) ≡ same_numbers (map (λ (t : TyId). t.index) l.a) (map (λ (t : TyId). t.index) l.b)
