use Rattle.odc_lex.proofs.NumberFronts.{signed_found, signed_lost}
use Rattle.odc_lex.proofs.number.signed_digits_len.Goals as goal

pub returns-in-Some : goal.returns-in-Some
returns-in-Some c = signed_found _ _ _ _ c.byte_len.ensures c.unwrap_or-sign.ensures c.in-Some.ensures

pub returns-in-None : goal.returns-in-None
returns-in-None c = signed_lost _ _ _ c.byte_len.ensures c.unwrap_or-sign.ensures c.in-None.ensures
