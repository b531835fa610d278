use Rattle.odc_context.proofs.Laid.{word_behind}
use Rattle.odc_context.proofs.procedure.laid_variables.Goals as goal

pub loop-x-preserved : goal.loop-x-preserved
loop-x-preserved c = word_behind c.loop-x.all.items c.push.new.self.items c.loop-x.x c.loop-x.invariant c.in_ok-push.ensures.items
