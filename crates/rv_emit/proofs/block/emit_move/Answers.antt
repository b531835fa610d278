use Rattle.std.proofs.lemmas.Result.{on_ok_weaker}
use Rattle.rv_emit.proofs.Appends.{two_appended}
use Rattle.rv_emit.proofs.block.emit_move.Goals as goal

pub returns : goal.returns
returns c = on_ok_weaker c.store_slot.result (λ h. two_appended c.args.code.now.items _ _ _ _ c.in_ok-load_slot.ensures h) c.store_slot.ensures
