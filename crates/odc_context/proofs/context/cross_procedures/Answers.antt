use Rattle.odc_context.proofs.Programs.{frame_at}
use Rattle.odc_context.proofs.context.cross_procedures.Goals as goal

pub cross_procedure-requires : goal.cross_procedure-requires
cross_procedure-requires c = frame_at c.args.procedures.now c.loop-p.p-index c.p-item.result c.requires c.loop-p-test.true c.p-item.is
