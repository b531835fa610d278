use Rattle.std.proofs.Common.{◌≡◌, map, take}
use Rattle.odc_program.specs.Views.Instances.{procedure, Procedure}
use Rattle.odc_program.specs.Views.ProgramView.{head}
use Rattle.odc_core.specs.View.{proc as core_proc}
use Rattle.odc_carried.specs.Code.{crossed_all}
use Rattle.odc_carried.specs.TableView.{typed}
use Rattle.odc_carried.proofs.cross.cross_procedures.Given as goal

abbrev pub invariant-loop-p : goal.invariant-loop-p
invariant-loop-p l = map core_proc l.all.items ≡ crossed_all (typed l.types) (map (head (map procedure l.procedures)) (map procedure (take l.p-index l.procedures))) (map (λ (q : Procedure). q.body) (map procedure (take l.p-index l.procedures)))
