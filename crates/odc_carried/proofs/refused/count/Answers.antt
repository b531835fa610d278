use Rattle.std.proofs.Common.{sym}
use Rattle.odc_carried.proofs.emitting.Forms.{count_is}
use Rattle.odc_carried.proofs.refused.count.Goals as goal

pub returns : goal.returns
returns c = sym (count_is c.args.es.now)
