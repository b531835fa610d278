use Rattle.std.proofs.Common.{sym}
use Rattle.odc_carried.proofs.emitting.Lists.{types_differ}
use Rattle.odc_carried.proofs.tables.same_types.Goals as goal

pub returns-then-a-b : goal.returns-then-a-b
returns-then-a-b c = sym (types_differ c.args.a.now c.args.b.now c.if-a-b.true)
