use Rattle.std.proofs.Common.{ap, ◌∙◌}
use Rattle.std.proofs.lemmas.Result.{on_ok_weaker}
use Rattle.odc_core.specs.Tree.{Expr}
use Rattle.odc_core.specs.View.{stmts}
use Rattle.odc_core.proofs.Views.{expr-Call}
use Rattle.odc_carried.specs.Code.{join, one, wait}
use Rattle.odc_carried.specs.View.{shown}
use Rattle.odc_carried.proofs.expression.push_call.Goals as goal

pub returns : goal.returns
returns c =
    let o = shown c.args.o.now in
    on_ok_weaker c.push_wait.result (λ h. h ∙ ap (λ (e : Expr). join (stmts c.args.code.now.items) (one (wait o c.args.d e))) (expr-Call c.args.procedure c.args.arguments)) c.push_wait.ensures
