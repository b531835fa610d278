use Rattle.std.proofs.Common.{refl}
use Rattle.std.proofs.lemmas.Result.{on_ok_weaker}
use Rattle.odc_program.specs.Views.StmtView.{rights}
use Rattle.odc_carried.specs.View.{shown}
use Rattle.odc_carried.proofs.emitting.Forms.{returned_by}
use Rattle.odc_carried.proofs.statement.emit_return.Goals as goal

pub returns : goal.returns
returns c =
    let o = shown c.args.o.now in
    on_ok_weaker c.push_answer.result
    (λ h. returned_by o (rights c.args.values.now) c.args.code.now.items c.emit_only.new.code.items o.result (λ e g. c.in_ok-emit_only.ensures.one e g) (λ g. c.in_ok-emit_only.ensures.none g) c.push_answer.new.code.items refl h)
    c.push_answer.ensures
