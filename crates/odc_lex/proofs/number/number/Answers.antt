use Rattle.odc_lex.proofs.NumberFronts.{based_number_front, at_rest}
use Rattle.odc_lex.proofs.number.number.Goals as goal

pub returns-in-Some-clause-some : goal.returns-in-Some-clause-some
returns-in-Some-clause-some c = based_number_front _ _ _ _ c.in-Some.ensures (at_rest c.args.text.now c.in-Some.digits _ c.unit_letter_len-tail.ensures) c.kind.ensures
