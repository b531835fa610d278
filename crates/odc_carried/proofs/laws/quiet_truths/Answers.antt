use Rattle.odc_carried.proofs.Tell.{quiet_truths}
use Rattle.odc_carried.proofs.laws.quiet_truths.Goals as goal

pub returns : goal.returns
returns c = quiet_truths
