use Rattle.std.proofs.Common.{ℕ, ap, ◌∙◌, sym}
use Rattle.std.proofs.lemmas.Result.{on_ok_weaker}
use Rattle.odc_program.specs.Views.View.{exprs}
use Rattle.odc_core.specs.View.{stmts}
use Rattle.odc_carried.specs.Carried.{count}
use Rattle.odc_carried.specs.Code.{join, waits_all, line_code}
use Rattle.odc_carried.specs.View.{shown}
use Rattle.odc_carried.proofs.emitting.Joins.{parts}
use Rattle.odc_carried.proofs.emitting.Forms.{count_is}
use Rattle.odc_carried.proofs.statement.emit_line.Goals as goal

pub returns : goal.returns
returns c =
    let o = shown c.args.o.now in
    let es = exprs c.args.es.now in
    on_ok_weaker c.push_line.result
    (λ h. parts c.args.code.now.items c.emit_waiting.new.code.items c.push_line.new.code.items (waits_all o 0 es) (line_code o 0 (count es)) c.in_ok-emit_waiting.ensures (h ∙ ap (λ (n : ℕ). join (stmts c.emit_waiting.new.code.items) (line_code o 0 n)) (c.in_ok-count.ensures ∙ sym (count_is c.args.es.now))))
    c.push_line.ensures
