-- Parts of productions that functions read of their own.
use Rattle.std.specs.Prelude.{◌≡◌, ◌∷◌, [], Option, ◌⊎◌}
use Rattle.odc_syntax.specs.declared.token.Token.{Token}
use Rattle.odc_syntax.specs.declared.token.TokenKind.{TokenKind}
use Rattle.odc_syntax.specs.declared.token.TokenKind.TheVariants as kind
use Rattle.odc_syntax.specs.declared.grammar.Mode.TheVariants.{Free}
use Rattle.odc_syntax.specs.Tree.{Expr, MaybeExpr, Args}
use Rattle.odc_syntax.specs.Grammar as g
use Rattle.odc_lookahead.specs.Exact.{Part, then_, done, token}

-- an argument
abbrev pub arg_item : Part (Option Token × Expr)
arg_item c v = g.arg c v.0 v.1 ∷ []

-- arguments up to the closing token
abbrev pub arguments : TokenKind → Part (Args × (Token × Unit {0}))
arguments close = then_ g.args (then_ (token close) done)

abbrev pub ClosesArguments : TokenKind → Type 0
ClosesArguments k = (k ≡ kind.CloseParen) ⊎ (k ≡ kind.CloseBrace)

-- the high end of a cut, up to the closing bracket
abbrev pub high_line : Part (MaybeExpr × (Token × Unit {0}))
high_line = then_ (g.maybe_expr Free) (then_ (token kind.CloseBracket) done)
