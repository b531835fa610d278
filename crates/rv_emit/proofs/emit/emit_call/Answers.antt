use Rattle.std.proofs.lemmas.Result.{on_ok_weaker}
use Rattle.rv_emit.proofs.Appends.{three_appended}
use Rattle.rv_emit.proofs.emit.emit_call.Goals as goal

pub returns : goal.returns
returns c = on_ok_weaker c.emit_link.result (λ h. three_appended c.args.code.now.items _ _ _ _ _ _ c.in_ok-emit_pass.ensures c.in_ok-emit_number.ensures h) c.emit_link.ensures
