use Rattle.std.proofs.Common.{ap, ◌∙◌, sym}
use Rattle.std.specs.Prelude.{Option}
use Rattle.odc_program.specs.Trees.Tree.{Expr}
use Rattle.odc_program.specs.Views.View.{maybe}
use Rattle.odc_core.specs.View.{stmts}
use Rattle.odc_carried.specs.Code.{join, condition_before}
use Rattle.odc_carried.specs.View.{shown}
use Rattle.odc_carried.proofs.emitting.Joins.{join_done}
use Rattle.odc_carried.proofs.statement.emit_condition.Goals as goal

pub returns-in-None-clause-code : goal.returns-in-None-clause-code
returns-in-None-clause-code c =
    let old = stmts c.args.code.now.items in
    sym (ap (λ (e : Option Expr). join old (condition_before (shown c.args.o.now) (maybe e))) c.in-None.is ∙ join_done old)
