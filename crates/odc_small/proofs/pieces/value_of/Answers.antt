use Rattle.std.proofs.Common.{◌+◌, ◌*◌, ◌∙◌, ap, arith}
use Rattle.odc_small.proofs.DigitLemmas.{value_step}
use Rattle.odc_small.proofs.pieces.value_of.Goals as goal

pub overflow_mul-value : goal.overflow_mul-value
overflow_mul-value c =
    let s = value_step c.args.digits.now c.loop-digit.digit-index c.loop-digit.value c.requires.digits c.requires.short c.loop-digit-test.true c.loop-digit.invariant in
    omega (arith, s.fits)

pub overflow_sub-digit : goal.overflow_sub-digit
overflow_sub-digit c =
    (value_step c.args.digits.now c.loop-digit.digit-index c.loop-digit.value c.requires.digits c.requires.short c.loop-digit-test.true c.loop-digit.invariant).digit

pub overflow_add-value : goal.overflow_add-value
overflow_add-value c =
    let s = value_step c.args.digits.now c.loop-digit.digit-index c.loop-digit.value c.requires.digits c.requires.short c.loop-digit-test.true c.loop-digit.invariant in
    omega (arith, s.fits, c.from.ensures)

pub loop-digit-preserved : goal.loop-digit-preserved
loop-digit-preserved c =
    let s = value_step c.args.digits.now c.loop-digit.digit-index c.loop-digit.value c.requires.digits c.requires.short c.loop-digit-test.true c.loop-digit.invariant in
    ap (λ z. c.loop-digit.value * 10 + z) c.from.ensures ∙ s.value
