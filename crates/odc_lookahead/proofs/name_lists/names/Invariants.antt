use Rattle.std.proofs.Common.{ℕ, ◌≤◌, length}
use Rattle.odc_lookahead.proofs.separated.NamesAnswers.{NamesAt}
use Rattle.odc_lookahead.proofs.name_lists.names.Given as goal

abbrev pub invariant-names : goal.invariant-names
invariant-names l = record {
  led : (b : ℕ) → NamesAt b l.tokens l.list.items l.rest;
  short : length l.rest ≤ length l.tokens;
}

abbrev pub decreases-names : goal.decreases-names
decreases-names l = length l.rest
