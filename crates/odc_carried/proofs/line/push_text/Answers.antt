use Rattle.std.proofs.lemmas.Result.{on_ok_weaker}
use Rattle.std.proofs.Common.{ℕ, ap, ◌∙◌}
use Rattle.odc_core.specs.declared.tree.BinaryOp.TheVariants.{Subtract}
use Rattle.odc_core.specs.declared.tree.Comparison.TheVariants.{Less}
use Rattle.odc_core.specs.Tree.{Expr, const, binary, compare, choose, repeat, finish}
use Rattle.odc_core.specs.View.{expr, stmts}
use Rattle.odc_carried.specs.Code.{join, one, put, waits, front, digit_code, number_at}
use Rattle.odc_carried.specs.View.{shown}
use Rattle.odc_carried.proofs.emitting.Joins.{parts}
use Rattle.odc_carried.proofs.line.push_text.Goals as goal

pub returns : goal.returns
returns c =
    let o = shown c.args.o.now in
    let d = c.args.d in
    on_ok_weaker c.push_sign.result
    (λ h. parts c.args.code.now.items c.push_set.new.code.items c.push_sign.new.code.items (one (put (number_at o) (waits o d))) (join (one (choose (compare Less (waits o d) (const 0)) (one (put (number_at o) (binary Subtract (const 0) (waits o d)))) finish)) (join (one (repeat (digit_code o))) (one (choose (compare Less (waits o d) (const 0)) (front o (const 45)) finish)))) (c.in_ok-push_set.ensures ∙ ap (λ (n : ℕ). join (stmts c.args.code.now.items) (one (put n (expr c.in_ok-value.value)))) c.number.ensures ∙ ap (λ (x : Expr). join (stmts c.args.code.now.items) (one (put (number_at o) x))) c.in_ok-value.ensures)
    (parts c.push_set.new.code.items c.push_magnitude.new.code.items c.push_sign.new.code.items (one (choose (compare Less (waits o d) (const 0)) (one (put (number_at o) (binary Subtract (const 0) (waits o d)))) finish)) (join (one (repeat (digit_code o))) (one (choose (compare Less (waits o d) (const 0)) (front o (const 45)) finish))) c.in_ok-push_magnitude.ensures
    (parts c.push_magnitude.new.code.items c.push_digits.new.code.items c.push_sign.new.code.items (one (repeat (digit_code o))) (one (choose (compare Less (waits o d) (const 0)) (front o (const 45)) finish)) c.in_ok-push_digits.ensures h)))
    c.push_sign.ensures
