use Rattle.std.proofs.Common.{arith}
use Rattle.odc_program.specs.Views.StmtView.{stmts}
use Rattle.odc_limits.proofs.Frames.{counted, how_many}
use Rattle.odc_limits.proofs.frame.nodes.Goals as goal

pub returns : goal.returns
returns c = λ p h. omega (arith, c.saturating_add.ensures, c.saturating_add-2.ensures, c.saturating_add-3.ensures, c.weigh_stmts.ensures, counted (stmts c.args.body.now), how_many p c.args.variables.now h)
