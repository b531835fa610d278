use Rattle.odc_program_laws.proofs.Stays as l
use Rattle.odc_program_laws.proofs.stopped_stays.Goals as goal

pub returns : goal.returns
returns c = λ p input n m e h. l.stopped_stays p input n m e h
