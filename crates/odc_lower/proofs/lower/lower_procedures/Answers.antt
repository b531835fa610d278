use Rattle.odc_lower.proofs.Emitted.{countable_at}
use Rattle.odc_lower.proofs.lower.lower_procedures.Goals as goal

pub lower_procedure-requires : goal.lower_procedure-requires
lower_procedure-requires c = countable_at c.args.procedures.now c.loop-p.p-index c.p-item.result c.requires c.loop-p-test.true c.p-item.is
