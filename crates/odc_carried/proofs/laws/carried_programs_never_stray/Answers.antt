use Rattle.odc_carried.proofs.steady.Calls.{never_astray}
use Rattle.odc_carried.proofs.laws.carried_programs_never_stray.Goals as goal

pub returns : goal.returns
returns c = never_astray
