use Rattle.std.proofs.Common.{ap, ◌∙◌, sym}
use Rattle.odc_program.specs.Views.StmtView.{lefts, rights}
use Rattle.odc_core.specs.View.{stmts}
use Rattle.odc_carried.specs.Code.{join}
use Rattle.odc_carried.specs.View.{shown}
use Rattle.odc_carried.proofs.emitting.Joins.{join_done, on_ok_both}
use Rattle.odc_carried.proofs.emitting.Forms.{assigned_by, assign_none}
use Rattle.odc_carried.proofs.statement.emit_assign.Goals as goal

pub returns-in-Some : goal.returns-in-Some
returns-in-Some c =
    let o = shown c.args.o.now in
    on_ok_both c.emit_only.result c.emit_only.ensures.one c.emit_only.ensures.none
    (λ one none. assigned_by o (rights c.args.values.now) c.args.code.now.items c.emit_only.new.code.items c.in-Some.x one none (lefts c.args.targets.now) (sym c.target.ensures ∙ c.in-Some.is))

pub returns-in-None : goal.returns-in-None
returns-in-None c =
    let o = shown c.args.o.now in
    let old = stmts c.args.code.now.items in
    sym (ap (join old) (assign_none o (lefts c.args.targets.now) (rights c.args.values.now) (sym c.target.ensures ∙ c.in-None.is)) ∙ join_done old)
