use Rattle.odc_carried.proofs.Tell.{quiet_integers}
use Rattle.odc_carried.proofs.laws.quiet_integers.Goals as goal

pub returns : goal.returns
returns c = quiet_integers
