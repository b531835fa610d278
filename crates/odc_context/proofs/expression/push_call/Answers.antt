use Rattle.std.proofs.Common.{ap, ◌∙◌}
use Rattle.std.proofs.lemmas.Result.{on_ok_weaker}
use Rattle.odc_core.specs.Tree.{Expr, Exprs, call}
use Rattle.odc_core.specs.View.{stmts}
use Rattle.odc_core.proofs.Views.{expr-Call}
use Rattle.odc_context.specs.Code.{join, one, wait}
use Rattle.odc_context.specs.View.{own}
use Rattle.odc_context.proofs.expression.push_call.Goals as goal

pub returns : goal.returns
returns c =
    let o = own c.args.o in
    let is = expr-Call c.args.procedure c.in_ok-arguments.arguments ∙ ap (λ (es : Exprs). call c.args.procedure es) c.in_ok-arguments.ensures in
    on_ok_weaker c.push_wait.result (λ h. h ∙ ap (λ (e : Expr). join (stmts c.args.code.now.items) (one (wait o c.args.d e))) is) c.push_wait.ensures
