use Rattle.std.proofs.lemmas.Result.{on_ok_weaker}
use Rattle.rv_emit.proofs.Appends.{four_appended}
use Rattle.rv_emit.proofs.emit.emit_guard.Goals as goal

pub returns : goal.returns
returns c = on_ok_weaker c.emit_choice.result (λ h. four_appended c.args.code.now.items _ _ _ _ _ _ _ _ c.in_ok-emit_number.ensures c.in_ok-push.ensures.items c.in_ok-emit_number-2.ensures h) c.emit_choice.ensures
