use Rattle.std.proofs.Common.{length}
use Rattle.odc_lookahead.specs.stmts.RunBounds.{Run}
use Rattle.odc_parse_expr.proofs.run_bounds.last_item.Given as goal

abbrev pub invariant-names : goal.invariant-names
invariant-names l = record { run : Run l.tokens l.rest }

abbrev pub decreases-names : goal.decreases-names
decreases-names l = length l.rest
