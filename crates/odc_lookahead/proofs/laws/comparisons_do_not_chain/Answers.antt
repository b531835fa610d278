use Rattle.odc_lookahead.proofs.faults.Worked.{two_compare, comparisons_do_not_chain}
use Rattle.odc_lookahead.proofs.laws.comparisons_do_not_chain.Goals as goal

pub returns-clause-front : goal.returns-clause-front
returns-clause-front c = two_compare

pub returns-clause-whole : goal.returns-clause-whole
returns-clause-whole c = comparisons_do_not_chain
