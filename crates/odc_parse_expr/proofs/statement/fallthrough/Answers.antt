use Rattle.std.proofs.Common.{arith, ◌∷◌, ◌-◌, refl, sym}
use Rattle.odc_lookahead.specs.declared.statement_form.StatementForm.TheVariants as form
use Rattle.odc_lookahead.proofs.reading.Answering.{answer_is}
use Rattle.odc_lookahead.proofs.reading.Depths.{found_depth}
use Rattle.odc_lookahead.proofs.stmts.StatementLemmas.{fallthrough_answer}
use Rattle.odc_lookahead.proofs.stmts.StatementBounds.{statement_zero}
use Rattle.odc_parse_expr.proofs.statement.fallthrough.Goals as goal

pub returns-then-depth-eq0-clause-exact : goal.returns-then-depth-eq0-clause-exact
returns-then-depth-eq0-clause-exact c = λ f. statement_zero c.args.depth form.Fallthrough (c.args.token ∷ c.args.behind.now) c.args.token c.args.behind.now c.if-depth-eq0.true refl f (λ e. cc)

pub returns-clause-exact : goal.returns-clause-exact
returns-clause-exact c = λ f.
    found_depth (c.args.depth - 1) (omega arith)
    (answer_is (sym c.in_ok-leaf.ensures) refl (fallthrough_answer (c.args.depth - 1) c.args.token c.args.behind.now f))
