use Rattle.odc_lex.proofs.NumberFronts.{fraction_front, exponent_front, tail_from}
use Rattle.odc_lex.proofs.number.tail_len.Goals as goal

pub returns : goal.returns
returns c =
    tail_from c.args.text.now c.unwrap_or-fraction.result c.unwrap_or-exponent.result c.unit_letter_len.result
    (fraction_front _ _ _ c.fraction_len.ensures c.unwrap_or-fraction.ensures)
    (exponent_front _ _ _ c.exponent_len.ensures c.unwrap_or-exponent.ensures)
    c.unit_letter_len.ensures
