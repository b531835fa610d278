use Rattle.std.proofs.Common.{ap, sym, ◌∙◌}
use Rattle.odc_typed.specs.View.{expr, stmts}
use Rattle.odc_small.specs.declared.grammar.Keyword.{Keyword}
use Rattle.odc_small.specs.Typing.{nested}
use Rattle.odc_small.proofs.ViewLemmas.{stmt_kind-If, stmt_kind-Loop}
use Rattle.odc_small.proofs.lines.nested.Goals as goal

pub returns-in-If : goal.returns-in-If
returns-in-If c =
    stmt_kind-If c.args.condition c.args.body c.args.place ∙ ap (λ (w : Keyword). nested w c.args.place (expr c.args.condition) (stmts c.args.body.items)) (sym c.in-If.is)

pub returns-in-For : goal.returns-in-For
returns-in-For c =
    stmt_kind-Loop c.args.condition c.args.body c.args.place ∙ ap (λ (w : Keyword). nested w c.args.place (expr c.args.condition) (stmts c.args.body.items)) (sym c.in-For.is)
