use Rattle.odc_carried.proofs.ProcWells.{are_well}
use Rattle.odc_carried.proofs.laws.core_code_is_well.Goals as goal

pub returns : goal.returns
returns c = are_well
