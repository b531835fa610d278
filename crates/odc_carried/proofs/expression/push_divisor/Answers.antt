use Rattle.std.proofs.lemmas.Result.{on_ok_weaker}
use Rattle.odc_text.specs.declared.check.Check.TheVariants.{Division}
use Rattle.odc_core.specs.Tree.{check}
use Rattle.odc_core.specs.View.{expr}
use Rattle.odc_carried.specs.Code.{one, wait, waits}
use Rattle.odc_carried.specs.View.{shown}
use Rattle.odc_carried.proofs.emitting.Joins.{parts}
use Rattle.odc_carried.proofs.expression.push_divisor.Goals as goal

pub returns : goal.returns
returns c =
    let o = shown c.args.o.now in
    on_ok_weaker c.push_check.result
    (λ h. parts c.args.code.now.items c.push_wait.new.code.items c.push_check.new.code.items (one (wait o c.args.d (expr c.args.divisor))) (one (check (waits o c.args.d) Division c.args.at)) c.in_ok-push_wait.ensures h)
    c.push_check.ensures
