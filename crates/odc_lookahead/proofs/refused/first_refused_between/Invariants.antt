use Rattle.odc_lookahead.specs.Refused.{NoneRefused}
use Rattle.odc_lookahead.proofs.refused.first_refused_between.Given as goal

abbrev pub invariant-loop-at : goal.invariant-loop-at
invariant-loop-at l = NoneRefused l.tokens l.from l.at
