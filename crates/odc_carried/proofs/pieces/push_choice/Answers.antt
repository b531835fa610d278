use Rattle.std.proofs.Common.{ap, ◌∙◌}
use Rattle.std.proofs.lemmas.Result.{on_ok_weaker}
use Rattle.odc_core.specs.Tree.{Stmt}
use Rattle.odc_core.specs.View.{stmts}
use Rattle.odc_core.proofs.Views.{stmt-If}
use Rattle.odc_carried.specs.Code.{join, one}
use Rattle.odc_carried.proofs.pieces.push_choice.Goals as goal

pub returns : goal.returns
returns c = on_ok_weaker c.push.result (λ h. h ∙ ap (λ (s : Stmt). join (stmts c.args.code.now.items) (one s)) (stmt-If c.args.condition c.args.first c.args.second)) c.push.ensures
