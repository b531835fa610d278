use Rattle.std.proofs.Common.{arith, ap, length}
use Rattle.odc_lookahead.proofs.separated.NameLemmas.{names_start, names_again, names_answer, names_refused}
use Rattle.odc_parse_expr.proofs.declaration.names.Goals as goal

pub names-init : goal.names-init
names-init c = record { led = λ b. names_start b c.args.tokens.now c.new-names.result.items c.new-names.ensures.items; short = omega arith }

pub names-preserved : goal.names-preserved
names-preserved c = record {
  led = λ b.
      names_again b c.args.tokens.now c.names.names.items c.in_ok-names.names.items c.names.rest.now c.in-Ok.found.0 c.in-Some._comma c.in-Ok.found.1.now c.in-Some.after.now (c.names.invariant.led b) c.in-Ok.ensures.is c.in-Ok.ensures.kind c.in-Some.ensures.is
      c.in-Some.ensures.kind c.in_ok-names.ensures;
  short = let named = ap length c.in-Ok.ensures.is in let parted = ap length c.in-Some.ensures.is in let before = c.names.invariant.short in omega (arith, named, parted, before);
}

pub returns-in-Err-clause-refused : goal.returns-in-Err-clause-refused
returns-in-Err-clause-refused c = λ b. names_refused b c.args.tokens.now c.names.names.items c.names.rest.now c.in-Err.error (c.names.invariant.led b) c.in-Err.ensures.refused

pub returns-in-None-clause-found : goal.returns-in-None-clause-found
returns-in-None-clause-found c = λ b.
    names_answer b c.args.tokens.now c.names.names.items c.in_ok-names.names.items c.names.rest.now c.in-Ok.found.0 c.in-Ok.found.1.now (c.names.invariant.led b) c.in-Ok.ensures.is c.in-Ok.ensures.kind c.in-None.ensures.none c.in_ok-names.ensures
