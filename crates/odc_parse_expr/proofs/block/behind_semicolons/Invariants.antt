use Rattle.std.proofs.Common.{length, ◌≤◌, List}
use Rattle.odc_syntax.specs.declared.token.Token.{Token}
use Rattle.odc_lookahead.specs.stmts.Runs.{Skips}
use Rattle.odc_parse_expr.proofs.block.behind_semicolons.Given as goal

abbrev pub invariant-skip : goal.invariant-skip
invariant-skip l = record {
  skips : (at : List Token) → Skips l.rest at → Skips l.tokens at;
  short : length l.rest ≤ length l.tokens;
}

abbrev pub decreases-skip : goal.decreases-skip
decreases-skip l = length l.rest
