use Rattle.std.proofs.Common.{length, map}
use Rattle.odc_typed.specs.View.{proc}
use Rattle.odc_small.specs.View.{callable}
use Rattle.odc_small.proofs.TextLemmas.{FuncsSoFar}
use Rattle.odc_small.proofs.text.funcs_at.Given as goal

abbrev pub invariant-procedures : goal.invariant-procedures
invariant-procedures l = FuncsSoFar (callable l.callable) l.line l.bytes l.rest (map proc l.procedures.items) l.signatures.items

abbrev pub decreases-procedures : goal.decreases-procedures
decreases-procedures l = length l.rest
