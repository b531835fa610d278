use Rattle.odc_lookahead.proofs.faults.Worked.{differences_derive, differences_group_to_the_left}
use Rattle.odc_lookahead.proofs.laws.differences_group_to_the_left.Goals as goal

pub returns-clause-is : goal.returns-clause-is
returns-clause-is c = differences_derive

pub returns-clause-only : goal.returns-clause-only
returns-clause-only c = differences_group_to_the_left
