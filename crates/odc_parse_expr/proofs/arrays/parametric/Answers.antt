use Rattle.odc_lookahead.proofs.types.ArrayAnswers.{parametric_unnamed, parametric_refused, parametric_answer}
use Rattle.odc_parse_expr.proofs.arrays.parametric.Goals as goal

pub returns-in-Err-clause-exact : goal.returns-in-Err-clause-exact
returns-in-Err-clause-exact c = λ i is e b. parametric_unnamed c.args.used b c.args.token c.args.tokens.now c.args.behind.now c.in-Err.error i is e c.in-Err.ensures.refused

pub returns-in-Ok-expect-clause-exact : goal.returns-in-Ok-expect-clause-exact
returns-in-Ok-expect-clause-exact c = λ i is e b.
    parametric_answer c.args.used b c.args.token c.in-Ok.found.0 c.in-Ok-expect.close c.args.tokens.now c.args.behind.now c.in-Ok.found.1.now c.in-Ok-expect.rest.now i is e c.in-Ok.ensures.is c.in-Ok.ensures.kind c.in-Ok-expect.ensures.is c.in-Ok-expect.ensures.kind

pub returns-in-Err-expect-clause-exact : goal.returns-in-Err-expect-clause-exact
returns-in-Err-expect-clause-exact c = λ i is e b.
    parametric_refused c.args.used b c.args.token c.in-Ok.found.0 c.args.tokens.now c.args.behind.now c.in-Ok.found.1.now c.in-Err-expect.error i is e c.in-Ok.ensures.is c.in-Ok.ensures.kind c.in-Err-expect.ensures.refused
