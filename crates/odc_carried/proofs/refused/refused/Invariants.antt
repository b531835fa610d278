use Rattle.std.proofs.Common.{◌≡◌, drop, map}
use Rattle.odc_program.specs.Views.Instances.{procedure, Procedure}
use Rattle.odc_program.specs.Views.ProgramView.{program, head}
use Rattle.odc_carried.specs.Carried as spec
use Rattle.odc_carried.proofs.refused.refused.Given as goal

-- none of those so far
abbrev pub invariant-loop-q : goal.invariant-loop-q
invariant-loop-q l = spec.refused_procedures (program l.p).tables (map (head (map procedure l.p.procedures.items)) (map procedure (drop l.q-index l.p.procedures.items))) (map (λ (q : Procedure). q.body) (map procedure (drop l.q-index l.p.procedures.items))) ≡ spec.refused (program l.p)
