use Rattle.std.proofs.Common.{List, refl}
use Rattle.std.specs.Prelude.{Option}
use Rattle.odc_program.specs.Trees.Tree as tree
use Rattle.odc_program.specs.Typing.Frames.{lefts_weight}
use Rattle.odc_program.specs.Views.StmtView.{lefts}
use Rattle.odc_limits.specs.Weighed.{weight}
use Rattle.odc_limits.proofs.Rest.{walked}
use Rattle.odc_limits.proofs.weigh_stmt.weigh_lefts.Goals as goal

pub returns : goal.returns
returns c = walked (λ (xs : List (Option tree.Expr)). lefts_weight (weight c.args.scale.now.unit c.args.scale.now.rows.now) c.args.scale.now.unit (lefts xs)) c.args.list.now c.loop-left.left-index c.loop-left.total refl c.loop-left-test.false c.loop-left.invariant.0
    c.loop-left.invariant.1
