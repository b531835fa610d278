use Rattle.std.proofs.Common.{length}
use Rattle.odc_small.proofs.ParameterLemmas.{MoreSoFar}
use Rattle.odc_small.proofs.funcs.more_at.Given as goal

abbrev pub invariant-names : goal.invariant-names
invariant-names l = MoreSoFar l.first l.bytes l.names.items l.rest

abbrev pub decreases-names : goal.decreases-names
decreases-names l = length l.rest
