use Rattle.std.proofs.lemmas.Result.{on_ok_weaker}
use Rattle.std.proofs.Common.{ℕ, ap, ◌∙◌}
use Rattle.odc_core.specs.declared.tree.BinaryOp.TheVariants.{Add}
use Rattle.odc_core.specs.Tree.{const, slot, binary}
use Rattle.odc_core.specs.View.{stmts}
use Rattle.odc_carried.specs.Code.{join, one, put, front, text_code, write_code, pointer_at, buffer_at}
use Rattle.odc_carried.specs.View.{shown}
use Rattle.odc_carried.proofs.emitting.Joins.{parts}
use Rattle.odc_carried.proofs.line.push_value.Goals as goal

pub returns : goal.returns
returns c =
    let o = shown c.args.o.now in
    let d = c.args.d in
    on_ok_weaker c.push_written.result
    (λ h. parts c.args.code.now.items c.push_empty.new.code.items c.push_written.new.code.items (one (put (pointer_at o) (binary Add (slot (buffer_at o)) (const 32)))) (join (front o (const c.args.behind)) (join (text_code o d) (one (write_code o)))) c.in_ok-push_empty.ensures
    (parts c.push_empty.new.code.items c.push_byte.new.code.items c.push_written.new.code.items (front o (const c.args.behind)) (join (text_code o d) (one (write_code o))) (c.in_ok-push_byte.ensures ∙ ap (λ (n : ℕ). join (stmts c.push_empty.new.code.items) (front o (const n))) c.from.ensures)
    (parts c.push_byte.new.code.items c.push_text.new.code.items c.push_written.new.code.items (text_code o d) (one (write_code o)) c.in_ok-push_text.ensures h)))
    c.push_written.ensures
