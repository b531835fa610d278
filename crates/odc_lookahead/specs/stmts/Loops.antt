-- What may stand behind `for`.
use Rattle.std.specs.Prelude.{[], ◌∷◌}
use Rattle.odc_syntax.specs.declared.token.Token.{Token}
use Rattle.odc_syntax.specs.declared.token.TokenKind.TheVariants as kind
use Rattle.odc_syntax.specs.declared.grammar.Mode.TheVariants as mode
use Rattle.odc_syntax.specs.declared.tree.RangeNames.{RangeNames}
use Rattle.odc_syntax.specs.Tree.{MaybeExpr, MaybeStmt, Stmts, Span}
use Rattle.odc_syntax.specs.Tree as tree
use Rattle.odc_syntax.specs.Grammar.{tok, Labelled}
use Rattle.odc_syntax.specs.Grammar as g
use Rattle.odc_lookahead.specs.Exact.{Part}
use Rattle.odc_lookahead.specs.stmts.Clauses.{Clause, declared, assigned, alone, clause_then}

-- the condition, its `;`, what is done behind the body, and the body
abbrev pub Steps : Type 0
Steps = MaybeExpr × (Token × (MaybeStmt × Stmts))

abbrev pub body_alone : Part Steps
body_alone c u = g.body c u.1.1.1 ∷ []

abbrev pub steps_line : Part Steps
steps_line c u = g.maybe_expr mode.Header c u.0 ∷ tok kind.Semicolon u.1.0 ∷ g.maybe_simple c u.1.1.0 ∷ g.body c u.1.1.1 ∷ []

-- behind the condition and its `;`
abbrev pub after_line : Part (MaybeStmt × Stmts)
after_line c u = g.maybe_simple c u.0 ∷ g.body c u.1 ∷ []

pub data Looped : Type 0 where
  ever : (ss : Stmts) → Looped
  clause : (k : Clause) (u : Steps) → Looped
  stepped : (t : Token) (u : Steps) → Looped
  ranged : (vs : RangeNames) (i : Token) (x : Span) (ss : Stmts) → Looped

abbrev pub looped_line : Part Looped
looped_line c (ever ss) = g.body c ss ∷ []
looped_line c (clause k u) = clause_then body_alone steps_line c (k, u)
looped_line c (stepped t u) = tok kind.Semicolon t ∷ steps_line c u
looped_line c (ranged vs i x ss) = g.variables vs ∷ tok kind.In i ∷ g.span_ mode.Header c x ∷ g.body c ss ∷ []

abbrev pub clause_loop : Clause → Steps → Labelled
clause_loop (declared d t) u = g.loop (tree.decl_header d) u.0 u.1.1.0 u.1.1.1
clause_loop (assigned x t) u = g.loop (tree.simple_header x) u.0 u.1.1.0 u.1.1.1
clause_loop (alone e) u = g.loop tree.no_header (tree.some_expr e) tree.no_stmt u.1.1.1

abbrev pub looped : Looped → Labelled
looped (ever ss) = g.loop tree.no_header tree.no_expr tree.no_stmt ss
looped (clause k u) = clause_loop k u
looped (stepped t u) = g.loop tree.no_header u.0 u.1.1.0 u.1.1.1
looped (ranged vs i x ss) = g.range vs x ss
