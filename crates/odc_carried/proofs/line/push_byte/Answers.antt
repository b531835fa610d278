use Rattle.std.proofs.lemmas.Result.{on_ok_weaker}
use Rattle.odc_core.specs.declared.tree.Width.TheVariants.{Byte}
use Rattle.odc_core.specs.declared.tree.BinaryOp.TheVariants.{Subtract}
use Rattle.odc_core.specs.Tree.{const, binary, store}
use Rattle.odc_core.specs.View.{expr}
use Rattle.odc_carried.specs.Code.{one, put, held, pointer_at}
use Rattle.odc_carried.specs.View.{shown}
use Rattle.odc_carried.proofs.emitting.Joins.{parts}
use Rattle.odc_carried.proofs.line.push_byte.Goals as goal

pub returns : goal.returns
returns c =
    let o = shown c.args.o.now in
    let e = expr c.args.byte in
    on_ok_weaker c.push_first.result
    (λ h. parts c.args.code.now.items c.push_room.new.code.items c.push_first.new.code.items (one (put (pointer_at o) (binary Subtract (held (pointer_at o)) (const 1)))) (one (store Byte (held (pointer_at o)) e)) c.in_ok-push_room.ensures h)
    c.push_first.ensures
