use Rattle.odc_lex.proofs.NumberFronts.{decimal_front, no_number, at_rest}
use Rattle.odc_lex.proofs.number.decimal.Goals as goal

pub returns-in-Some-clause-some : goal.returns-in-Some-clause-some
returns-in-Some-clause-some c = decimal_front _ _ _ _ c.requires c.in-Some.ensures (at_rest c.args.text.now c.in-Some.digits _ c.tail_len-tail.ensures) c.kind.ensures

pub returns-in-None-clause-none : goal.returns-in-None-clause-none
returns-in-None-clause-none c = no_number _ c.requires c.in-None.ensures
