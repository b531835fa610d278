use Rattle.std.proofs.Common.{arith}
use Rattle.odc_carried.specs.View.{shown}
use Rattle.odc_carried.proofs.emitting.Operands.{all_waiting_code, waits_end}
use Rattle.odc_carried.proofs.emitting.Sources.{ended}
use Rattle.odc_carried.proofs.expression.emit_waiting.Goals as goal

pub loop-e-preserved : goal.loop-e-preserved
loop-e-preserved c =
    all_waiting_code (shown c.args.o.now) c.loop-e.depth c.args.es.now c.loop-e.e-index c.e-item.result c.loop-e-test.true c.e-item.is c.loop-e.code.items c.emit.new.code.items c.push_wait.new.code.items c.in_ok-value.value c.in_ok-depth.depth _
    c.in_ok-value.ensures.code c.in_ok-value.ensures.value c.in_ok-push_wait.ensures c.in_ok-depth.ensures c.loop-e.invariant

pub returns : goal.returns
returns c = waits_end (shown c.args.o.now) c.loop-e.depth c.args.es.now c.loop-e.e-index c.loop-e.code.items _ (ended c.args.es.now c.loop-e.e-index (omega (arith, c.loop-e-test.false))) c.loop-e.invariant
