use Rattle.std.proofs.Common.{arith}
use Rattle.std.proofs.lemmas.Grind.{common_steps}
use Rattle.odc_limits.proofs.Following.{all_lie, one_further}
use Rattle.odc_limits.proofs.places.place_variables.Goals as goal

pub loop-ty-preserved : goal.loop-ty-preserved
loop-ty-preserved c = (grind (arith, common_steps), λ env types. one_further env c.args.rows.now c.args.at c.loop-ty.end c.next_place-end.result c.loop-ty.locals.items c.push.new.self.items _ types c.in_ok-push.ensures.items c.next_place-end.ensures (c.loop-ty.invariant.1 env types))

pub returns-clause-end : goal.returns-clause-end
returns-clause-end c = λ env types. (all_lie env c.args.at c.loop-ty.end c.loop-ty.locals.items c.args.types.now (grind (arith, common_steps)) (c.loop-ty.invariant.1 env types)).0

pub returns-clause-places : goal.returns-clause-places
returns-clause-places c = λ env types. (all_lie env c.args.at c.loop-ty.end c.loop-ty.locals.items c.args.types.now (grind (arith, common_steps)) (c.loop-ty.invariant.1 env types)).1
