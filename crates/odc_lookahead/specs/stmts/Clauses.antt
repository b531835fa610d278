-- What may stand at the start of a header.
use Rattle.std.specs.Prelude.{◌∷◌}
use Rattle.odc_syntax.specs.declared.token.Token.{Token}
use Rattle.odc_syntax.specs.declared.token.TokenKind.TheVariants as kind
use Rattle.odc_syntax.specs.declared.grammar.Mode.TheVariants as mode
use Rattle.odc_syntax.specs.Tree.{Expr, Stmt, Decl}
use Rattle.odc_syntax.specs.Grammar.{tok}
use Rattle.odc_syntax.specs.Grammar as g
use Rattle.odc_lookahead.specs.Exact.{Part}

-- a declaration or a simple statement with its `;`, or an expression alone
pub data Clause : Type 0 where
  declared : (d : Decl) (t : Token) → Clause
  assigned : (x : Stmt) (t : Token) → Clause
  alone : (e : Expr) → Clause

-- with what stands behind it: behind an expression, and behind a `;`
abbrev pub clause_then : {U : Type 0} → Part U → Part U → Part (Clause × U)
clause_then bare closed c (declared d t, u) = g.declaration mode.Header c d ∷ tok kind.Semicolon t ∷ closed c u
clause_then bare closed c (assigned x t, u) = g.simple mode.Header c x ∷ tok kind.Semicolon t ∷ closed c u
clause_then bare closed c (alone e, u) = g.expression mode.Header c e ∷ bare c u
