use Rattle.std.proofs.Common.{ℕ, ◌≤◌, length}
use Rattle.odc_lookahead.proofs.separated.NameLemmas.{NamesAt}
use Rattle.odc_parse_expr.proofs.declaration.names.Given as goal

abbrev pub invariant-names : goal.invariant-names
invariant-names l = record {
  led : (b : ℕ) → NamesAt b l.tokens l.names.items l.rest;
  short : length l.rest ≤ length l.tokens;
}

abbrev pub decreases-names : goal.decreases-names
decreases-names l = length l.rest
