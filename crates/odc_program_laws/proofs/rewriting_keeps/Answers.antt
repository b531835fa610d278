use Rattle.odc_program_laws.proofs.Blind as l
use Rattle.odc_program_laws.proofs.rewriting_keeps.Goals as goal

pub returns : goal.returns
returns c = λ rule keeps p input n. l.rewriting_keeps rule keeps p input n
