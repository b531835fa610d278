use Rattle.std.proofs.Common.{◌++◌, ◌∙◌, ap, ℕ}
use Rattle.std.proofs.lemmas.Result.{on_ok_weaker}
use Rattle.odc_mid.specs.View.{proc}
use Rattle.rv_emit.specs.Code.{named_code, store_slot}
use Rattle.rv_emit.specs.Blocks.{bare}
use Rattle.rv_emit.proofs.Appends.{two_appended}
use Rattle.rv_emit.proofs.step.emit_address.Goals as goal

pub returns : goal.returns
returns c =
    let old = c.args.code.now.items in
    let named = named_code (bare (proc c.args.q.now)) c.args.of in
    on_ok_weaker c.store_slot.result
    (λ h. two_appended old _ _ _ _ c.in_ok-emit_named.ensures h ∙ ap (λ (frame : ℕ). old ++ (named ++ store_slot frame 6 c.args.to)) c.from-frame.ensures) c.store_slot.ensures
