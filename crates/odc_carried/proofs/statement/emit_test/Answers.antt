use Rattle.std.proofs.Common.{ap, ◌∙◌}
use Rattle.std.proofs.lemmas.Result.{on_ok_weaker}
use Rattle.odc_program.specs.Views.View.{maybe}
use Rattle.odc_core.specs.Tree.{Expr as CoreExpr, choose, leave, finish}
use Rattle.odc_core.specs.View.{stmts}
use Rattle.odc_carried.specs.Code.{join, one, condition_before, condition_value}
use Rattle.odc_carried.specs.View.{shown}
use Rattle.odc_carried.proofs.emitting.Joins.{parts}
use Rattle.odc_carried.proofs.statement.emit_test.Goals as goal

pub returns : goal.returns
returns c =
    let o = shown c.args.o.now in
    let e = maybe c.args.e.now in
    on_ok_weaker c.push_test.result
    (λ h. parts c.args.code.now.items c.emit_condition.new.code.items c.push_test.new.code.items (condition_before o e) (one (choose (condition_value o e) finish (one (leave 0)))) c.in_ok-condition.ensures.code (h ∙ ap (λ (y : CoreExpr). join (stmts c.emit_condition.new.code.items) (one (choose y finish (one (leave 0))))) c.in_ok-condition.ensures.value))
    c.push_test.ensures
