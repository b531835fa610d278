use Rattle.odc_parse_expr.proofs.LoopFronts.{one_goes, one_stays, one_empty}
use Rattle.odc_parse_expr.specs.LoopForms.{refers}
use Rattle.odc_parse_expr.proofs.loops.one_over.Goals as goal

pub returns-then-goes_one : goal.returns-then-goes_one
returns-then-goes_one c = one_goes (refers c.args.sign) c.args.tokens.now c.in-Some.next c.in-Some.rest.now c.goes_one.result c.in-Some.ensures.some c.goes_one.ensures c.if-goes_one.true

pub returns-else-goes_one : goal.returns-else-goes_one
returns-else-goes_one c = one_stays (refers c.args.sign) c.args.tokens.now c.in-Some.next c.in-Some.rest.now c.goes_one.result c.in-Some.ensures.some c.goes_one.ensures c.if-goes_one.false

pub returns-in-None : goal.returns-in-None
returns-in-None c = one_empty (refers c.args.sign) c.args.tokens.now c.in-None.ensures.none
