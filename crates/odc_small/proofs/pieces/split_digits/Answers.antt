use Rattle.std.proofs.Common.{take, get_or, subst, sym, arith}
use Rattle.std.specs.Str.Parse.{AllDigits}
use Rattle.std.proofs.lemmas.List.{take_more}
use Rattle.odc_small.proofs.DigitLemmas.{digits_push}
use Rattle.odc_small.proofs.pieces.split_digits.Goals as goal

pub loop-end-preserved : goal.loop-end-preserved
loop-end-preserved c =
    let bytes = c.args.bytes.now in
    let at = c.loop-end.end in
    record {
      within = omega arith;
      digits = subst (AllDigits 10) (sym (take_more bytes at 0 c.loop-end-test.true))
          (digits_push (take at bytes) (get_or bytes at 0) c.loop-end.invariant.digits c.if-is_ascii_digit.ensures.cases);
    }
