use Rattle.odc_lookahead.specs.stmts.Headers.{unnamed}
use Rattle.odc_lookahead.proofs.stmts.RunExits.{run_listed, run_alone}
use Rattle.odc_parse_expr.proofs.runs.names_in.Goals as goal

pub returns-in-Ok : goal.returns-in-Ok
returns-in-Ok c = (c.in-Ok._rest.now, c.in-Ok.ensures.declares)

pub returns-in-Some-strip : goal.returns-in-Some-strip
returns-in-Some-strip c =
    (c.in-Err._rest.now, run_listed c.args.tokens.now c.in-Err._rest.now c.in-Some.behind.now c.in-Some-strip._found.1.now c.in-Some._name c.in-Some-strip._found.0 c.in-Err.ensures.undeclared c.in-Some.ensures.is c.in-Some.ensures.kind c.in-Some-strip.ensures.is c.in-Some-strip.ensures.kind)

pub returns-in-None-strip : goal.returns-in-None-strip
returns-in-None-strip c = (c.in-Some.behind.now, run_alone c.args.tokens.now c.in-Err._rest.now c.in-Some.behind.now c.in-Some._name c.in-Err.ensures.undeclared c.in-Some.ensures.is c.in-Some.ensures.kind c.in-None-strip.ensures.none)

pub returns-in-None : goal.returns-in-None
returns-in-None c = (c.args.tokens.now, unnamed c.args.tokens.now c.in-None.ensures.none)
