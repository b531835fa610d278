use Rattle.std.proofs.Common.{◌++◌, ◌∙◌, ap}
use Rattle.std.proofs.lemmas.Result.{on_ok_weaker}
use Rattle.rv_emit.proofs.Appends.{six_appended, registers_six}
use Rattle.rv_emit.proofs.emit.emit_registers.Goals as goal

pub returns-in_ok-load_slot-in-len6-5 : goal.returns-in_ok-load_slot-in-len6-5
returns-in_ok-load_slot-in-len6-5 c =
    let old = c.args.code.now.items in
    on_ok_weaker c.load_slot-in-len6-5.result
    (λ h.
    six_appended old _ _ _ _ _ _ _ _ _ _ _ _ c.in_ok-load_slot-in-len6.ensures c.in_ok-load_slot-in-len6-2.ensures c.in_ok-load_slot-in-len6-3.ensures c.in_ok-load_slot-in-len6-4.ensures
    c.in_ok-load_slot-in-len6-5.ensures h
    ∙ ap (λ l. old ++ l) (registers_six c.args.frame c.args.arguments.now c.in-len6.len_at_least c.in-len6.len_below)) c.load_slot-in-len6-5.ensures
