use Rattle.odc_parse_expr.proofs.LoopFronts.{signed_named}
use Rattle.odc_parse_expr.specs.LoopForms.{refers}
use Rattle.odc_parse_expr.proofs.loops.front_of.Goals as goal

pub returns-in-Some : goal.returns-in-Some
returns-in-Some c = c.behind_name.ensures c.args.tokens.now (signed_named (refers c.signed-sign.result.0) c.args.tokens.now c.signed-sign.result.1.now c.in-Some.name c.in-Some.behind.now c.signed-sign.ensures c.in-Some.ensures.is) c.in-Some.ensures.kind

pub returns-in-None : goal.returns-in-None
returns-in-None c = c.unnamed.ensures c.args.tokens.now c.signed-sign.result.1.now c.signed-sign.ensures c.in-None.ensures.none
