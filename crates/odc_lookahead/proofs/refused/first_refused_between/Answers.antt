use Rattle.std.proofs.Common.{arith}
use Rattle.odc_lookahead.proofs.faults.RefusedLemmas.{one_more, first_one, none_up_to}
use Rattle.odc_lookahead.proofs.refused.first_refused_between.Goals as goal

pub loop-at-init : goal.loop-at-init
loop-at-init c = λ i k low high r. absurd (omega arith)

pub loop-at-preserved : goal.loop-at-preserved
loop-at-preserved c = one_more c.args.tokens.now c.args.from c.loop-at.at c.loop-at.invariant c.in_default.ensures.none

pub returns-in-Some-clause-some : goal.returns-in-Some-clause-some
returns-in-Some-clause-some c =
    first_one c.args.tokens.now c.args.from c.args.end c.loop-at.at c.in-Some.code c.loop-at.auto.at c.loop-at-test.true c.loop-at.invariant c.in-Some.ensures.some

pub returns-clause-none : goal.returns-clause-none
returns-clause-none c = none_up_to c.args.tokens.now c.args.from c.args.end c.loop-at.at c.loop-at-test.false c.loop-at.invariant
