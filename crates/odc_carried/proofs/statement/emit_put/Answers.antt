use Rattle.std.proofs.Common.{ap, ◌∙◌}
use Rattle.std.proofs.lemmas.Result.{on_ok_weaker}
use Rattle.odc_core.specs.Tree.{Expr as CoreExpr}
use Rattle.odc_core.specs.View.{stmts}
use Rattle.odc_carried.specs.Code.{join, one, put, before, value}
use Rattle.odc_carried.specs.View.{shown}
use Rattle.odc_carried.proofs.emitting.Joins.{parts}
use Rattle.odc_carried.proofs.statement.emit_put.Goals as goal

pub returns : goal.returns
returns c =
    let o = shown c.args.o.now in
    let e = c.args.e.now in
    on_ok_weaker c.push_set.result
    (λ h. parts c.args.code.now.items c.emit.new.code.items c.push_set.new.code.items (before o 0 e) (one (put c.args.x (value o 0 e))) c.in_ok-value.ensures.code (h ∙ ap (λ (y : CoreExpr). join (stmts c.emit.new.code.items) (one (put c.args.x y))) c.in_ok-value.ensures.value))
    c.push_set.ensures
