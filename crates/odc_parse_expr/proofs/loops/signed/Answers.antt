use Rattle.odc_lookahead.specs.stmts.LoopStarts.{plain}
use Rattle.odc_parse_expr.proofs.LoopFronts.{signed_first}
use Rattle.odc_parse_expr.proofs.loops.signed.Goals as goal

pub returns-in-Some : goal.returns-in-Some
returns-in-Some c = signed_first c.args.tokens.now c.in-Some._sign c.in-Some.rest.now c.in-Some.ensures.is c.in-Some.ensures.kind

pub returns-in-None : goal.returns-in-None
returns-in-None c = plain c.args.tokens.now c.in-None.ensures.none
