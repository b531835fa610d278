use Rattle.odc_lex.proofs.NumberFronts.{fraction_found}
use Rattle.odc_lex.proofs.number.fraction_len.Goals as goal

pub returns-in-Some : goal.returns-in-Some
returns-in-Some c = fraction_found _ _ c.if-not-begins_with.ensures.yes c.in-Some.ensures
