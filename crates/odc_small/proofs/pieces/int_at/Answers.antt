use Rattle.std.proofs.Common.{sym, subst}
use Rattle.odc_small.specs.Forms.{FoundAt}
use Rattle.odc_small.specs.Reading.{ints}
use Rattle.odc_small.proofs.DigitLemmas.{plain_found, none_plain}
use Rattle.odc_small.proofs.pieces.int_at.Goals as goal

pub returns-then-is_plain : goal.returns-then-is_plain
returns-then-is_plain c =
    let p = c.split_digits.result in
    subst (λ n. FoundAt ints c.args.bytes.now n p.1.now) (sym c.value_of.ensures)
    (plain_found c.args.bytes.now p.0.now p.1.now c.split_digits.ensures.digits c.split_digits.ensures.rest c.split_digits.ensures.whole (c.is_plain.ensures.0 c.if-is_plain.true))

pub returns-else-is_plain : goal.returns-else-is_plain
returns-else-is_plain c =
    let p = c.split_digits.result in
    none_plain c.args.bytes.now p.0.now p.1.now c.split_digits.ensures.digits c.split_digits.ensures.rest c.split_digits.ensures.whole
    (λ plain. let t = c.is_plain.ensures.1 plain in let f = c.if-is_plain.false in cc)
