use Rattle.std.proofs.Common.{◌+◌, arith}
use Rattle.odc_typed.specs.Frame.{variables}
use Rattle.odc_context.specs.Code.{stmts_depth}
use Rattle.odc_build.proofs.Rooms.{variables_low}
use Rattle.odc_build.proofs.laws.variables_are_bounded.Goals as goal

pub returns : goal.returns
returns c = λ p. omega (arith, variables_low 0 (variables p + stmts_depth p.body))
