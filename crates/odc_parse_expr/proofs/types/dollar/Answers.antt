use Rattle.odc_lookahead.proofs.expr.TypeStarts.{built_kind}
use Rattle.odc_lookahead.proofs.types.TypeAnswers.{dollar_answer, dollar_refused}
use Rattle.odc_parse_expr.proofs.types.dollar.Goals as goal

pub returns-in_ok-dollar-in-Ok-clause-exact : goal.returns-in_ok-dollar-in-Ok-clause-exact
returns-in_ok-dollar-in-Ok-clause-exact c = λ e b.
    let k = built_kind c.args.used c.args.token _ e in
    dollar_answer c.args.used b c.args.token c.in-Ok.name c.args.behind.now c.in-Ok.rest.now _ k.1 k.0 c.in-Ok.ensures.is c.in-Ok.ensures.kind c.in_ok-dollar-in-Ok.ensures

pub returns-in-Err-clause-exact : goal.returns-in-Err-clause-exact
returns-in-Err-clause-exact c = λ e b.
    let k = built_kind c.args.used c.args.token _ e in
    dollar_refused c.args.used b c.args.token c.args.behind.now c.in-Err.error k.1 k.0 c.in-Err.ensures.refused
