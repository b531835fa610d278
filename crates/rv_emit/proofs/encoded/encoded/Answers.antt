use Rattle.std.proofs.Common.{◌∙◌, ◌++◌, ap}
use Rattle.rv_emit.proofs.Encoding.{fit_at}
use Rattle.rv_emit.proofs.Encoding.{encoded_more}
use Rattle.rv_emit.proofs.encoded.encoded.Goals as goal

pub encode-requires : goal.encode-requires
encode-requires c = fit_at c.args.code.now c.loop-inst.inst-index _ c.requires c.loop-inst-test.true

pub loop-inst-preserved : goal.loop-inst-preserved
loop-inst-preserved c = encoded_more _ _ c.args.code.now c.loop-inst.inst-index c.encode.result _ c.loop-inst-test.true c.loop-inst.invariant c.encode.type_inv c.encode.ensures.back (c.in_ok-extend_from_slice.ensures.items ∙ ap (λ b. c.loop-inst.text.items ++ b) c.to_le_bytes.ensures)
