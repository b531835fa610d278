use Rattle.std.proofs.Common.{arith, rules}
use Rattle.odc_lex.proofs.NumberFronts.{based_found, based_lost, based_unknown}
use Rattle.odc_lex.proofs.number.based_len.Goals as goal

pub returns-in-Some-based_digits_len : goal.returns-in-Some-based_digits_len
returns-in-Some-based_digits_len c = based_found _ (omega arith) (search rules) _ _ c.in-Some.ensures.some c.in-Some-based_digits_len.ensures

pub returns-in-None-based_digits_len : goal.returns-in-None-based_digits_len
returns-in-None-based_digits_len c = based_lost _ (omega arith) (search rules) _ c.in-Some.ensures.some c.in-None-based_digits_len.ensures

pub returns-in-None : goal.returns-in-None
returns-in-None c = based_unknown _ (omega arith) (search rules) c.in-None.ensures.none
