use Rattle.std.proofs.Common.{arith, ◌∷◌, ◌-◌, refl, sym}
use Rattle.odc_lookahead.specs.declared.statement_form.StatementForm.TheVariants as form
use Rattle.odc_lookahead.proofs.reading.Answering.{answer_is}
use Rattle.odc_lookahead.proofs.reading.Depths.{found_depth}
use Rattle.odc_lookahead.proofs.stmts.LeavingLemmas.{continue_label, continue_alone}
use Rattle.odc_lookahead.proofs.stmts.StatementBounds.{statement_zero}
use Rattle.odc_parse_expr.proofs.statement.continues.Goals as goal

pub returns-then-depth-eq0-clause-exact : goal.returns-then-depth-eq0-clause-exact
returns-then-depth-eq0-clause-exact c = λ f. statement_zero c.args.depth form.Continue (c.args.token ∷ c.args.behind.now) c.args.token c.args.behind.now c.if-depth-eq0.true refl f (λ e. cc)

pub returns-in_ok-s-in-Some-clause-exact : goal.returns-in_ok-s-in-Some-clause-exact
returns-in_ok-s-in-Some-clause-exact c = λ f.
    found_depth (c.args.depth - 1) (omega arith)
    (answer_is (sym c.in_ok-s-in-Some.ensures) refl (continue_label (c.args.depth - 1) c.args.token c.args.behind.now c.in-Some.name c.in-Some.rest.now f c.in-Some.ensures.is c.in-Some.ensures.kind))

pub returns-in_ok-leaf-in-None-clause-exact : goal.returns-in_ok-leaf-in-None-clause-exact
returns-in_ok-leaf-in-None-clause-exact c = λ f.
    found_depth (c.args.depth - 1) (omega arith)
    (answer_is (sym c.in_ok-leaf-in-None.ensures) refl (continue_alone (c.args.depth - 1) c.args.token c.args.behind.now f c.in-None.ensures.none))
