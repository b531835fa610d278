use Rattle.odc_lex.proofs.NumberFronts.{exponent_found, exponent_lost, exponent_none}
use Rattle.odc_lex.proofs.number.exponent_len.Goals as goal

pub returns-in-Some-signed_digits_len : goal.returns-in-Some-signed_digits_len
returns-in-Some-signed_digits_len c = exponent_found _ _ _ c.in-Some.ensures c.in-Some-signed_digits_len.ensures

pub returns-in-None-signed_digits_len : goal.returns-in-None-signed_digits_len
returns-in-None-signed_digits_len c = exponent_lost _ _ c.in-Some.ensures c.in-None-signed_digits_len.ensures

pub returns-in-None : goal.returns-in-None
returns-in-None c = exponent_none _ c.in-None.ensures
