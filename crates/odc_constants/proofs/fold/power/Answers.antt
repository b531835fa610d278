use Rattle.odc_constants.proofs.Shifts.{power_is}
use Rattle.odc_constants.proofs.fold.power.Goals as goal

pub returns : goal.returns
returns c = power_is c.args.count c.requires
