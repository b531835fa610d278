use Rattle.std.proofs.Common.{ap, ◌∙◌, sym}
use Rattle.odc_program.specs.Views.StmtView.{rights}
use Rattle.odc_core.specs.View.{stmts}
use Rattle.odc_carried.specs.Code.{join}
use Rattle.odc_carried.specs.View.{shown}
use Rattle.odc_carried.proofs.emitting.Joins.{join_done, on_ok_both}
use Rattle.odc_carried.proofs.emitting.Forms.{declared_by, declare_none, some_rights}
use Rattle.odc_carried.proofs.statement.emit_declare.Goals as goal

pub returns-in_default : goal.returns-in_default
returns-in_default c =
    let o = shown c.args.o.now in
    on_ok_both c.emit_only.result c.emit_only.ensures.one c.emit_only.ensures.none
    (λ one none. declared_by o (rights c.args.values.now) c.args.code.now.items c.emit_only.new.code.items c.in-Some.x one none c.args.names.now (some_rights c.args.values.now c.in_default.not-None) (sym c.named.ensures ∙ c.in-Some.is))

pub returns-in-None : goal.returns-in-None
returns-in-None c =
    let o = shown c.args.o.now in
    let old = stmts c.args.code.now.items in
    sym (ap (join old) (declare_none o c.args.names.now (rights c.args.values.now) (sym c.named.ensures ∙ c.in-None.is)) ∙ join_done old)
