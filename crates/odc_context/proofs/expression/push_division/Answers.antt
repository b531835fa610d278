use Rattle.std.proofs.lemmas.Result.{on_ok_weaker}
use Rattle.std.proofs.Common.{◌+◌}
use Rattle.odc_text.specs.declared.check.Check.TheVariants.{Division}
use Rattle.odc_core.specs.Tree.{binary, check}
use Rattle.odc_context.specs.Code.{one, waits, wait}
use Rattle.odc_context.specs.View.{own}
use Rattle.odc_context.proofs.Joins.{parts}
use Rattle.odc_context.proofs.expression.push_division.Goals as goal

pub returns : goal.returns
returns c =
    let o = own c.args.o in
    let d = c.args.d in
    on_ok_weaker c.push_operation.result
    (λ h. parts c.args.code.now.items c.push_check.new.code.items c.push_operation.new.code.items (one (check (waits o (d + 1)) Division c.args.at)) (one (wait o d (binary c.args.op (waits o d) (waits o (d + 1))))) c.in_ok-push_check.ensures h)
    c.push_operation.ensures
