use Rattle.std.proofs.Common.{arith}
use Rattle.odc_context.specs.Code.{body_code}
use Rattle.odc_build.proofs.Weights.{stmts_nodes_weigh}
use Rattle.odc_build.proofs.Forms.{proc_weight}
use Rattle.odc_build.proofs.laws.core_nodes_are_bounded.Goals as goal

pub returns : goal.returns
returns c = λ ss p well. omega (arith, stmts_nodes_weigh (body_code p), proc_weight ss p well)
