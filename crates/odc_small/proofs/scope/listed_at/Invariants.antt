use Rattle.std.proofs.Common.{◌≡◌, ◌+◌, drop}
use Rattle.odc_small.specs.Names.{arity_of, position_of}
use Rattle.odc_small.proofs.scope.listed_at.Given as goal

abbrev pub invariant-loop-signature : goal.invariant-loop-signature
invariant-loop-signature l = record {
  count : l.position ≡ l.signature-index;
  arity : arity_of l.name (drop l.signature-index l.signatures) ≡ arity_of l.name l.signatures;
  told : l.position + position_of l.name (drop l.signature-index l.signatures) ≡ position_of l.name l.signatures;
}
