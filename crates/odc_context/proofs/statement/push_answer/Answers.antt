use Rattle.std.proofs.lemmas.Result.{on_ok_weaker}
use Rattle.odc_core.specs.Tree.{answer}
use Rattle.odc_context.specs.Code.{one, put, held, waits}
use Rattle.odc_context.specs.View.{own}
use Rattle.odc_context.proofs.Joins.{parts}
use Rattle.odc_context.proofs.statement.push_answer.Goals as goal

pub returns : goal.returns
returns c =
    let o = own c.args.o in
    on_ok_weaker c.push_result.result
    (λ h. parts c.args.code.now.items c.push_taken.new.code.items c.push_result.new.code.items (one (put o.result (waits o 0))) (one (answer (held o.result))) c.in_ok-push_taken.ensures h)
    c.push_result.ensures
