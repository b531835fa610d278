use Rattle.odc_program_laws.proofs.Strays as l
use Rattle.odc_program_laws.proofs.strays_at_nodes.Goals as goal

pub returns : goal.returns
returns c = λ p input n at e. l.strays_within p input n at e
