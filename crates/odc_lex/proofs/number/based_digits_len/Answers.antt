use Rattle.odc_lex.proofs.NumberFronts.{based_digits_found, based_digits_lost}
use Rattle.odc_lex.proofs.number.based_digits_len.Goals as goal

pub returns-in-Some : goal.returns-in-Some
returns-in-Some c = based_digits_found _ _ _ _ c.requires c.run_len-skipped.ensures c.in-Some.ensures

pub returns-in-None : goal.returns-in-None
returns-in-None c = based_digits_lost _ _ _ c.requires c.run_len-skipped.ensures c.in-None.ensures
