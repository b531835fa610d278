use Rattle.std.proofs.lemmas.Result.{on_ok_weaker}
use Rattle.std.proofs.Common.{ap, ◌∙◌}
use Rattle.odc_core.specs.declared.tree.BinaryOp.TheVariants.{Add, DivideUnsigned, RemainderUnsigned}
use Rattle.odc_core.specs.Tree.{Expr, const, binary, choose, leave, finish}
use Rattle.odc_core.specs.View.{stmts}
use Rattle.odc_carried.specs.Code.{join, one, put, held, front, number_at}
use Rattle.odc_carried.specs.View.{shown}
use Rattle.odc_carried.proofs.emitting.Joins.{parts}
use Rattle.odc_carried.proofs.line.push_digit.Goals as goal

pub returns : goal.returns
returns c =
    let o = shown c.args.o.now in
    on_ok_weaker c.push_last.result
    (λ h. parts c.args.code.now.items c.push_byte.new.code.items c.push_last.new.code.items (front o (binary Add (binary RemainderUnsigned (held (number_at o)) (const 10)) (const 48))) (join (one (put (number_at o) (binary DivideUnsigned (held (number_at o)) (const 10)))) (one (choose (held (number_at o)) finish (one (leave 0))))) (c.in_ok-push_byte.ensures ∙ ap (λ (x : Expr). join (stmts c.args.code.now.items) (front o x)) c.in_ok-digit.ensures)
    (parts c.push_byte.new.code.items c.push_shorter.new.code.items c.push_last.new.code.items (one (put (number_at o) (binary DivideUnsigned (held (number_at o)) (const 10)))) (one (choose (held (number_at o)) finish (one (leave 0)))) c.in_ok-push_shorter.ensures h))
    c.push_last.ensures
