-- Parts of blocks and bodies that functions read of their own.
use Rattle.odc_syntax.specs.declared.token.Token.{Token}
use Rattle.odc_syntax.specs.declared.token.TokenKind.TheVariants as kind
use Rattle.odc_syntax.specs.Tree.{Expr, Header, Stmts}
use Rattle.odc_syntax.specs.declared.grammar.Mode.TheVariants as mode
use Rattle.odc_syntax.specs.Grammar as g
use Rattle.odc_lookahead.specs.Exact.{Part, then_, done, token}

-- statements up to the closing brace
abbrev pub braces_line : Part (Stmts × (Token × Unit {0}))
braces_line = then_ g.stmts (then_ (token kind.CloseBrace) done)

-- what stands before the condition, and the condition
abbrev pub head_line : Part (Header × (Expr × Unit {0}))
head_line = then_ g.header (then_ (g.expression mode.Header) done)
