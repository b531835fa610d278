use Rattle.odc_parse_expr.proofs.LoopFronts.{begins_brace, begins_do}
use Rattle.odc_parse_expr.proofs.loops.begins_body.Goals as goal

pub returns-in-Some : goal.returns-in-Some
returns-in-Some c = begins_brace c.args.tokens.now c.in-Some._found.0 c.in-Some._found.1.now c.in-Some.ensures.is c.in-Some.ensures.kind

pub returns-in-Some-strip : goal.returns-in-Some-strip
returns-in-Some-strip c = begins_do c.args.tokens.now c.in-Some-strip._found.0 c.in-Some-strip._found.1.now c.in-Some-strip.ensures.is c.in-Some-strip.ensures.kind

pub returns-in-None-strip : goal.returns-in-None-strip
returns-in-None-strip c = (c.in-None.ensures.none, c.in-None-strip.ensures.none)
