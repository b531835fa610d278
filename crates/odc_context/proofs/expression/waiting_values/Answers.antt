use Rattle.odc_context.specs.View.{own}
use Rattle.odc_context.proofs.Lists.{waiting_more}
use Rattle.odc_context.proofs.expression.waiting_values.Goals as goal

pub loop-i-preserved : goal.loop-i-preserved
loop-i-preserved c =
    waiting_more c.loop-i.values.items c.push.new.self.items c.in_ok-value_at.field-0 (own c.args.o) c.args.d c.loop-i.i c.loop-i.invariant c.in_ok-push.ensures.items c.in_ok-value_at.ensures
