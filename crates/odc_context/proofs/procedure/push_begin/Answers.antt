use Rattle.odc_context.specs.View.{own}
use Rattle.odc_context.proofs.Lists.{begin_none}
use Rattle.odc_context.proofs.procedure.push_begin.Goals as goal

pub returns-in-empty : goal.returns-in-empty
returns-in-empty c = begin_none (own c.args.o) c.args.results.now c.args.code.now.items c.in-empty.len_below
