use Rattle.std.proofs.Common.{arith}
use Rattle.odc_build.proofs.Rooms.{body_temps}
use Rattle.odc_build.proofs.laws.temporaries_are_bounded.Goals as goal

pub returns : goal.returns
returns c = λ p. omega (arith, body_temps p)
