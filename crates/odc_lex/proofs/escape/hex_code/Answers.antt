use Rattle.std.proofs.Common.{arith, length-take}
use Rattle.odc_lex.proofs.EscapeLemmas.{hex_small}
use Rattle.odc_lex.proofs.escape.hex_code.Goals as goal

pub overflow_mul-code : goal.overflow_mul-code
overflow_mul-code c =
    omega (arith, hex_small c.loop-d.code c.digit_value-value.result c.loop-d.d-index c.args.digits c.loop-d.invariant.small c.if-value-ge16.false (omega (arith, length-take c.args.digits c.args.text.now)) (omega arith))

pub overflow_add-code : goal.overflow_add-code
overflow_add-code c =
    omega (arith, hex_small c.loop-d.code c.digit_value-value.result c.loop-d.d-index c.args.digits c.loop-d.invariant.small c.if-value-ge16.false (omega (arith, length-take c.args.digits c.args.text.now)) (omega arith))
