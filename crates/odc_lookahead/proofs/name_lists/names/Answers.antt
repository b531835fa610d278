use Rattle.std.proofs.Common.{arith, ap, length}
use Rattle.odc_lookahead.proofs.separated.NamesAnswers.{names_start, names_unnamed, names_again, names_end, names_refused}
use Rattle.odc_lookahead.proofs.name_lists.names.Goals as goal

pub names-init : goal.names-init
names-init c = record { led = λ b. names_start b c.args.tokens.now c.new-list.result.items c.new-list.ensures.items; short = omega arith }

pub returns-in-None-clause-exact : goal.returns-in-None-clause-exact
returns-in-None-clause-exact c = λ b. names_unnamed b c.args.tokens.now c.names.list.items c.names.rest.now (c.names.invariant.led b) c.in-None.ensures.none

pub names-preserved : goal.names-preserved
names-preserved c = record {
  led = λ b.
      names_again b c.args.tokens.now c.names.list.items _ c.names.rest.now c.in-Some.found.0 c.in-Some-strip._comma c.in-Some.found.1.now c.in-Some-strip.after.now
      (c.names.invariant.led b) c.in-Some.ensures.is c.in-Some.ensures.kind c.in-Some-strip.ensures.is c.in-Some-strip.ensures.kind c.in_ok-list.ensures;
  short = let a = ap length c.in-Some.ensures.is in let b = ap length c.in-Some-strip.ensures.is in let s = c.names.invariant.short in omega (arith, a, b, s);
}

pub returns-in-Ok-clause-exact : goal.returns-in-Ok-clause-exact
returns-in-Ok-clause-exact c = λ b.
    names_end b c.args.tokens.now c.names.list.items _ c.names.rest.now c.in-Some.found.0 c.in-Ok.colon c.in-Some.found.1.now c.in-Ok.after.now
    (c.names.invariant.led b) c.in-Some.ensures.is c.in-Some.ensures.kind c.in-Ok.ensures.is c.in-Ok.ensures.kind c.in_ok-list.ensures

pub returns-in-Err-clause-exact : goal.returns-in-Err-clause-exact
returns-in-Err-clause-exact c = λ b.
    names_refused b c.args.tokens.now c.names.list.items c.names.rest.now c.in-Some.found.0 c.in-Some.found.1.now c.in-Err.error
    (c.names.invariant.led b) c.in-Some.ensures.is c.in-Some.ensures.kind c.in-None-strip.ensures.none c.in-Err.ensures.refused
