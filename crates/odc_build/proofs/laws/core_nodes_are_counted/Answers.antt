use Rattle.odc_build.proofs.Counts.{proc_counted}
use Rattle.odc_build.proofs.laws.core_nodes_are_counted.Goals as goal

pub returns : goal.returns
returns c = λ p. proc_counted p
