use Rattle.odc_typed.specs.Well.{signatures}
use Rattle.odc_build.proofs.Limits.{all_become, all_small}
use Rattle.odc_build.proofs.laws.instructions_are_bounded.Goals as goal

pub returns : goal.returns
returns c = λ p q well lowered. all_small (signatures p.procedures) q.procedures p.procedures well.procedures (all_become q.procedures p.procedures lowered.procedures)
