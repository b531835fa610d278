use Rattle.std.proofs.Common.{◌≡◌, take}
use Rattle.odc_small.specs.Names.{names_of}
use Rattle.odc_small.proofs.text.names_of.Given as goal

abbrev pub invariant-loop-signature : goal.invariant-loop-signature
invariant-loop-signature l = l.names.items ≡ names_of (take l.signature-index l.signatures)
