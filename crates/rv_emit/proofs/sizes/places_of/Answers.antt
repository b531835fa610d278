use Rattle.std.proofs.Common.{◌+◌, ◌*◌, arith}
use Rattle.rv_emit.specs.Code.{enter_size, size_before}
use Rattle.rv_emit.proofs.Tables.{table_more, size_next_of, size_fits_of}
use Rattle.rv_emit.proofs.sizes.places_of.Goals as goal

pub step_size-requires : goal.step_size-requires
step_size-requires c = omega (arith, size_fits_of c.args.q.now.steps.items c.deref-step-items.result.now c.deref-step-items.ensures.value c.loop-step.step-index c.step-item.result c.loop-step-test.true c.step-item.is, c.requires.low)

pub overflow_mul-next : goal.overflow_mul-next
overflow_mul-next c =
    omega (arith, c.step_size.ensures, size_fits_of c.args.q.now.steps.items c.deref-step-items.result.now c.deref-step-items.ensures.value c.loop-step.step-index c.step-item.result c.loop-step-test.true c.step-item.is, c.requires.low)

pub overflow_add-next : goal.overflow_add-next
overflow_add-next c =
    omega (arith, c.loop-step.invariant.1, c.step_size.ensures, size_fits_of c.args.q.now.steps.items c.deref-step-items.result.now c.deref-step-items.ensures.value c.loop-step.step-index c.step-item.result c.loop-step-test.true c.step-item.is, c.requires.low)

pub loop-step-preserved : goal.loop-step-preserved
loop-step-preserved c =
    let xs = c.args.q.now.steps.items in (
      table_more _ _ c.loop-step.step-index c.loop-step.next (λ i. 0 + 4 * (enter_size + size_before xs i)) c.loop-step.invariant.0 c.loop-step.invariant.1 c.in_ok-push.ensures.items,
      omega (arith, c.loop-step.invariant.1, c.step_size.ensures, size_next_of xs c.deref-step-items.result.now c.deref-step-items.ensures.value c.loop-step.step-index c.step-item.result c.loop-step-test.true c.step-item.is),
    )
