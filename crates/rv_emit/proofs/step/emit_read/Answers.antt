use Rattle.std.proofs.lemmas.Result.{on_ok_weaker}
use Rattle.rv_emit.proofs.Appends.{four_appended}
use Rattle.rv_emit.proofs.step.emit_read.Goals as goal

pub returns : goal.returns
returns c = on_ok_weaker c.store_slot.result (λ h. four_appended c.args.code.now.items _ _ _ _ _ _ _ _ c.in_ok-load_slot.ensures c.in_ok-load_slot-2.ensures c.in_ok-emit_service.ensures h) c.store_slot.ensures
