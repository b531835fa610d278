use Rattle.odc_program_laws.proofs.Grows as l
use Rattle.odc_program_laws.proofs.only_grows.Goals as goal

pub returns : goal.returns
returns c = λ p n u. l.only_grows p n u
