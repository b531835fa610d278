use Rattle.std.proofs.Common.{List, ap, ◌∙◌}
use Rattle.std.proofs.lemmas.Result.{on_ok_weaker}
use Rattle.odc_core.specs.declared.tree.CoreStmt.{CoreStmt}
use Rattle.odc_core.specs.Tree.{Expr, Stmts, choose, leave, finish}
use Rattle.odc_core.specs.View.{stmts}
use Rattle.odc_context.specs.Code.{join, one, waits, turn_code}
use Rattle.odc_context.specs.View.{own}
use Rattle.odc_context.proofs.Joins.{parts}
use Rattle.odc_context.proofs.statement.push_test.Goals as goal

pub returns : goal.returns
returns c =
    let o = own c.args.o in
    let before = stmts c.args.code.now.items in
    let left : List CoreStmt = c.push.new.code.items in
    let told = c.in_ok-push_choice.ensures
    ∙ ap (λ (e : Expr). join before (one (choose e (stmts c.new.result.items) (stmts left)))) c.in_ok-condition.ensures
    ∙ ap (λ (xs : List CoreStmt). join before (one (choose (waits o 0) (stmts xs) (stmts left)))) c.new.ensures.items
    ∙ ap (λ (ss : Stmts). join before (one (choose (waits o 0) finish ss))) (c.in_ok-push.ensures ∙ ap (λ (xs : List CoreStmt). join (stmts xs) (one (leave 0))) c.new-left.ensures.items) in
    on_ok_weaker c.push-2.result
    (λ h. parts c.args.code.now.items c.push_choice.new.code.items c.push-2.new.code.items (one (choose (waits o 0) finish (one (leave 0)))) (one turn_code) told h)
    c.push-2.ensures
