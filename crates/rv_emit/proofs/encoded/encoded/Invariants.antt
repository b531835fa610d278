use Rattle.std.proofs.Common.{take}
use Rattle.rv_emit.specs.Encoded.{IsEncoded}
use Rattle.rv_emit.proofs.encoded.encoded.Given as goal

abbrev pub invariant-loop-inst : goal.invariant-loop-inst
invariant-loop-inst l = IsEncoded l.text.items (take l.inst-index l.code)
