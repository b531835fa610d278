use Rattle.std.proofs.Common.{ℕ, ◌+◌, ap, ◌∙◌, sym}
use Rattle.odc_core.specs.View.{stmts}
use Rattle.odc_carried.specs.Code.{join, print_code, values_code}
use Rattle.odc_carried.specs.View.{shown}
use Rattle.odc_carried.proofs.emitting.Appended.{values_more, values_end}
use Rattle.odc_carried.proofs.line.push_values.Goals as goal

pub loop-i-preserved : goal.loop-i-preserved
loop-i-preserved c =
    let o = shown c.args.o.now in
    values_more c.loop-i.code.items c.push_value.new.code.items (join (stmts c.args.code.now.items) (values_code o c.args.d c.args.count)) o c.args.d c.args.count c.loop-i.i c.separator.result
    c.loop-i-test.true c.separator.ensures.parted c.separator.ensures.last (c.in_ok-push_value.ensures ∙ ap (λ (k : ℕ). join (stmts c.loop-i.code.items) (print_code o k c.separator.result)) c.in_ok-depth.ensures) c.loop-i.invariant

pub returns : goal.returns
returns c = sym (values_end c.loop-i.code.items (shown c.args.o.now) (c.args.d + c.loop-i.i) c.args.count c.loop-i.i c.loop-i-test.false) ∙ c.loop-i.invariant
