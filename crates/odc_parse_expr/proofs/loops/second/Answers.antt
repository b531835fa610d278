use Rattle.odc_syntax.specs.declared.token.TokenKind.TheVariants as kind
use Rattle.odc_parse_expr.proofs.LoopFronts.{name_before, unnamed_before, other_before}
use Rattle.odc_parse_expr.proofs.loops.second.Goals as goal

pub returns-in-Some-strip-clause-is : goal.returns-in-Some-strip-clause-is
returns-in-Some-strip-clause-is c = name_before kind.In c.args.tokens.now c.in-Some.behind.now c.in-Some-strip.rest.now c.in-Some.name c.in-Some-strip._in c.in-Some.ensures.is c.in-Some.ensures.kind c.in-Some-strip.ensures.is c.in-Some-strip.ensures.kind

pub returns-in-None-strip-clause-none : goal.returns-in-None-strip-clause-none
returns-in-None-strip-clause-none c = other_before kind.In c.args.tokens.now c.in-Some.behind.now c.in-Some.name c.in-Some.ensures.is c.in-None-strip.ensures.none

pub returns-in-None-clause-none : goal.returns-in-None-clause-none
returns-in-None-clause-none c = unnamed_before kind.In c.args.tokens.now c.in-None.ensures.none
