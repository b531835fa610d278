use Rattle.std.proofs.Common.{sym, subst}
use Rattle.odc_syntax.specs.declared.tree.RangeNames.{RangeNames}
use Rattle.odc_lookahead.specs.stmts.LoopStarts.{Ranged}
use Rattle.odc_parse_expr.proofs.LoopFronts.{range_one, range_two, more_front, one_front}
use Rattle.odc_parse_expr.specs.LoopForms.{refers}
use Rattle.odc_parse_expr.proofs.loops.behind_name.Goals as goal

pub returns-in-Some : goal.returns-in-Some
returns-in-Some c = λ ts z e.
    subst (λ (v : RangeNames). Ranged ts v c.in-Some.rest.now) (sym c.variables.ensures)
    (range_one (refers c.args.sign) ts c.args.name c.in-Some._in c.args.tokens.now c.in-Some.rest.now z e c.in-Some.ensures.is c.in-Some.ensures.kind)

pub returns-in-Some-second : goal.returns-in-Some-second
returns-in-Some-second c = λ ts z e.
    subst (λ (v : RangeNames). Ranged ts v c.in-Some-second.rest.now) (sym c.variables-in-Some-second.ensures)
    (range_two (refers c.args.sign) ts c.args.name c.in-Some-strip._comma c.in-Some-second.other c.args.tokens.now c.in-Some-strip.last.now c.in-Some-second.rest.now z e c.in-Some-strip.ensures.is c.in-Some-strip.ensures.kind c.in-Some-second.ensures.is)

pub returns-in-None-second : goal.returns-in-None-second
returns-in-None-second c = λ ts z e. more_front (refers c.args.sign) ts c.args.name c.in-Some-strip._comma c.args.tokens.now c.in-Some-strip.last.now z e c.in-Some-strip.ensures.is c.in-Some-strip.ensures.kind c.in-None-second.ensures.none

pub returns-in-None-strip : goal.returns-in-None-strip
returns-in-None-strip c = λ ts z e. one_front (refers c.args.sign) ts c.args.name c.args.tokens.now z e c.in-None-strip.ensures.none c.in-None.ensures.none
