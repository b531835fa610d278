use Rattle.std.proofs.Common.{map, ap, ◌∙◌}
use Rattle.odc_program.specs.Views.Instances.{procedure}
use Rattle.odc_core.specs.View.{proc as core_proc}
use Rattle.odc_carried.specs.TableView.{typed}
use Rattle.odc_carried.proofs.emitting.Lists.{become_more, map_end}
use Rattle.odc_carried.proofs.cross.cross_procedures.Goals as goal

pub loop-p-preserved : goal.loop-p-preserved
loop-p-preserved c =
    become_more (typed c.args.types.now) (map procedure c.args.procedures.now) c.args.procedures.now c.loop-p.p-index c.p-item.result (map core_proc c.loop-p.all.items) (map core_proc c.push.new.self.items) (core_proc c.in_ok-cross_procedure.field-0)
    c.loop-p-test.true c.p-item.is c.loop-p.invariant (ap (map core_proc) c.in_ok-push.ensures.items ∙ map_end core_proc c.loop-p.all.items c.in_ok-cross_procedure.field-0) c.in_ok-cross_procedure.ensures
