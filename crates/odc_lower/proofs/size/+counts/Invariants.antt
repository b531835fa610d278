use Rattle.std.proofs.Common.{◌≡◌, ◌+◌, drop}
use Rattle.odc_core.specs.View.{exprs}
use Rattle.odc_lower.specs.Size.{exprs_nodes}
use Rattle.odc_lower.proofs.size.+counts.Given as goal

-- what is counted, and what the rest has, is the whole
abbrev pub invariant-count_all-loop-e : goal.invariant-count_all-loop-e
invariant-count_all-loop-e l = l.total + exprs_nodes (exprs (drop l.e-index l.es)) ≡ exprs_nodes (exprs l.es)
