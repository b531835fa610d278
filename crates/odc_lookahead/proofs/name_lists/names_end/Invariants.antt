use Rattle.std.proofs.Common.{length, List}
use Rattle.odc_syntax.specs.declared.token.Token.{Token}
use Rattle.odc_lookahead.specs.stmts.Runs.{Declares, Undeclared}
use Rattle.odc_lookahead.proofs.name_lists.names_end.Given as goal

abbrev pub invariant-names : goal.invariant-names
invariant-names l = record {
  declares : (at : List Token) → Declares l.rest at → Declares l.tokens at;
  undeclared : (at : List Token) → Undeclared l.rest at → Undeclared l.tokens at;
}

abbrev pub decreases-names : goal.decreases-names
decreases-names l = length l.rest
