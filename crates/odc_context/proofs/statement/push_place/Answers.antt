use Rattle.std.proofs.Common.{ap, ◌∙◌, sym}
use Rattle.odc_core.specs.View.{stmts}
use Rattle.odc_core.specs.Tree.{Stmts}
use Rattle.odc_context.specs.Code.{join}
use Rattle.odc_context.specs.View.{own}
use Rattle.odc_context.proofs.Joins.{join_done}
use Rattle.odc_context.proofs.Lists.{place_none}
use Rattle.odc_context.proofs.statement.push_place.Goals as goal

pub returns-in_default : goal.returns-in_default
returns-in_default c =
    let target = c.args.target.now in
    let before = stmts c.args.code.now.items in
    sym (ap (λ (ss : Stmts). join before ss) (place_none target.kind target.at (own c.args.o) c.in_default.not-Local) ∙ join_done before)
