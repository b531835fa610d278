use Rattle.odc_carried.proofs.ProcWells.{are_kept}
use Rattle.odc_carried.proofs.laws.core_code_keeps.Goals as goal

pub returns : goal.returns
returns c = are_kept
