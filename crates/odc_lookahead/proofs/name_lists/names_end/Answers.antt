use Rattle.odc_lookahead.specs.stmts.Runs.{unnamed}
use Rattle.odc_lookahead.proofs.stmts.RunExits.{run_declared, run_declares, run_again, run_ended}
use Rattle.odc_lookahead.proofs.name_lists.names_end.Goals as goal

pub names-init : goal.names-init
names-init c = record { declares = λ at d. d; undeclared = λ at d. d }

pub names-preserved : goal.names-preserved
names-preserved c = record {
  declares = λ at d.
      c.names.invariant.declares at
      (run_declares c.names.rest.now c.in-Some.behind.now c.in-Some-strip-2.after.now at c.in-Some._name c.in-Some-strip-2._comma c.in-Some.ensures.is c.in-Some.ensures.kind c.in-Some-strip-2.ensures.is c.in-Some-strip-2.ensures.kind d);
  undeclared = λ at d.
      c.names.invariant.undeclared at
      (run_again c.names.rest.now c.in-Some.behind.now c.in-Some-strip-2.after.now at c.in-Some._name c.in-Some-strip-2._comma c.in-Some.ensures.is c.in-Some.ensures.kind c.in-Some-strip-2.ensures.is c.in-Some-strip-2.ensures.kind d);
}

pub returns-in-None-clause-undeclared : goal.returns-in-None-clause-undeclared
returns-in-None-clause-undeclared c = c.names.invariant.undeclared c.names.rest.now (unnamed c.names.rest.now c.in-None.ensures.none)

pub returns-in-Some-strip-clause-declares : goal.returns-in-Some-strip-clause-declares
returns-in-Some-strip-clause-declares c =
    c.names.invariant.declares c.in-Some-strip.after.now
    (run_declared c.names.rest.now c.in-Some.behind.now c.in-Some-strip.after.now c.in-Some._name c.in-Some-strip._colon c.in-Some.ensures.is c.in-Some.ensures.kind c.in-Some-strip.ensures.is c.in-Some-strip.ensures.kind)

pub returns-in-None-strip-clause-undeclared : goal.returns-in-None-strip-clause-undeclared
returns-in-None-strip-clause-undeclared c =
    c.names.invariant.undeclared c.in-Some.behind.now
    (run_ended c.names.rest.now c.in-Some.behind.now c.in-Some._name c.in-Some.ensures.is c.in-Some.ensures.kind c.in-None-strip.ensures.none c.in_default.ensures.none)
