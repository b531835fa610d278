use Rattle.odc_lookahead.specs.stmts.RunBounds.{item}
use Rattle.odc_lookahead.proofs.separated.LastItems.{run_goes_on, unnamed_item, last_name}
use Rattle.odc_parse_expr.proofs.run_bounds.last_item.Goals as goal

pub names-init : goal.names-init
names-init c = record { run = item c.args.tokens.now }

pub names-preserved : goal.names-preserved
names-preserved c = record { run = run_goes_on c.args.tokens.now c.names.rest.now c.in-Some.behind.now c.in-Some-strip.after.now c.in-Some._name c.in-Some-strip._comma c.names.invariant.run c.in-Some.ensures.is c.in-Some.ensures.kind c.in-Some-strip.ensures.is c.in-Some-strip.ensures.kind }

pub returns-in-None-clause-run : goal.returns-in-None-clause-run
returns-in-None-clause-run c = c.names.invariant.run

pub returns-in-None-clause-alone : goal.returns-in-None-clause-alone
returns-in-None-clause-alone c = unnamed_item c.names.rest.now c.in-None.ensures.none

pub returns-in-None-strip-clause-run : goal.returns-in-None-strip-clause-run
returns-in-None-strip-clause-run c = c.names.invariant.run

pub returns-in-None-strip-clause-alone : goal.returns-in-None-strip-clause-alone
returns-in-None-strip-clause-alone c = last_name c.names.rest.now c.in-Some.behind.now c.in-Some._name c.in-Some.ensures.is c.in-None-strip.ensures.none
