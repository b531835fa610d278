use Rattle.std.proofs.lemmas.Result.{on_ok_weaker}
use Rattle.rv_emit.proofs.Appends.{two_appended}
use Rattle.rv_emit.proofs.emit.emit_return.Goals as goal

pub returns : goal.returns
returns c = on_ok_weaker c.emit_leave.result (λ h. two_appended c.args.code.now.items _ _ _ _ c.in_ok-load_slot.ensures h) c.emit_leave.ensures
