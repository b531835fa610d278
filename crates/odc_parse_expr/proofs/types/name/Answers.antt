use Rattle.std.proofs.Common.{◌∙◌, suc, refl, sym}
use Rattle.odc_syntax.specs.Grammar as g
use Rattle.odc_lookahead.specs.declared.end.End.TheVariants.{Sure, BeforeDot}
use Rattle.odc_lookahead.specs.Exact.{one}
use Rattle.odc_lookahead.specs.Sets.{nothing_continues}
use Rattle.odc_lookahead.proofs.types.NameTypes.{name_alone, name_member, name_broken, name_open}
use Rattle.odc_lookahead.proofs.types.TypeAnswers.{as_answer}
use Rattle.odc_parse_expr.proofs.types.name.Goals as goal

pub returns-in_ok-named-in-None-clause-exact : goal.returns-in_ok-named-in-None-clause-exact
returns-in_ok-named-in-None-clause-exact c = λ e b.
    as_answer c.args.used (one (g.type_ c.args.used)) nothing_continues (suc b) _ _ _ 1 1 c.args.behind.now Sure (sym c.in_ok-named-in-None.ensures) refl (name_alone c.args.used b c.args.token c.args.behind.now e c.in-None.ensures.none)

pub returns-in_ok-member-in-Some-strip-clause-exact : goal.returns-in_ok-member-in-Some-strip-clause-exact
returns-in_ok-member-in-Some-strip-clause-exact c = λ e b.
    as_answer c.args.used (one (g.type_ c.args.used)) nothing_continues (suc b) _ _ _ 1 1 c.in-Some-strip.after.now Sure (sym c.in_ok-member-in-Some-strip.ensures) refl
    (name_member c.args.used b c.args.token c.in-Some._dot c.in-Some-strip.second c.args.behind.now c.in-Some.rest.now c.in-Some-strip.after.now e c.in-Some.ensures.is c.in-Some.ensures.kind c.in-Some-strip.ensures.is c.in-Some-strip.ensures.kind)

pub returns-in_ok-named-in-None-strip-clause-exact : goal.returns-in_ok-named-in-None-strip-clause-exact
returns-in_ok-named-in-None-strip-clause-exact c = λ e b.
    as_answer c.args.used (one (g.type_ c.args.used)) nothing_continues (suc b) _ _ _ 1 1 c.args.behind.now BeforeDot (sym c.in_ok-named-in-None-strip.ensures) refl
    (name_open c.args.used b c.args.token c.in-Some._dot c.args.behind.now c.in-Some.rest.now (sym c.ends_operand.ensures ∙ c.if-ends_operand.true) e c.in-Some.ensures.is c.in-Some.ensures.kind c.in-None-strip.ensures.none)

pub returns-else-ends_operand-clause-exact : goal.returns-else-ends_operand-clause-exact
returns-else-ends_operand-clause-exact c = λ e b.
    name_broken c.args.used b c.args.token c.in-Some._dot c.args.behind.now c.in-Some.rest.now (sym c.ends_operand.ensures ∙ c.if-ends_operand.false) e c.in-Some.ensures.is c.in-Some.ensures.kind c.in-None-strip.ensures.none
