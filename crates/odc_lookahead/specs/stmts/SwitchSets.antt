-- Which kinds of tokens go on with values of cases and with cases.
use Rattle.std.specs.Prelude.{◌≡◌, Bool, true, false, ◌||◌, List, [], ◌∷◌}
use Rattle.odc_syntax.specs.declared.token.Token.{Token}
use Rattle.odc_syntax.specs.declared.token.TokenKind.{TokenKind}
use Rattle.odc_syntax.specs.declared.token.TokenKind.TheVariants.{CloseBrace, Comma, DotDotEqual, DotDotLess, OpenBrace}
use Rattle.odc_syntax.specs.declared.grammar.Mode.{Mode}
use Rattle.odc_syntax.specs.declared.grammar.Mode.TheVariants.{Free}
use Rattle.odc_syntax.specs.declared.grammar.Level.TheVariants as level
use Rattle.odc_lookahead.specs.Sets.{starts_expression, continues}
use Rattle.odc_lookahead.specs.stmts.StatementSets.{continues_head}

-- what may go on with a value or the values from it on
abbrev pub continues_span : Mode → TokenKind → Bool
continues_span m DotDotEqual = true
continues_span m DotDotLess = true
continues_span m k = continues level.Or m k

-- what may go on with the values of a case, of which there is one
abbrev pub continues_items : TokenKind → Bool
continues_items Comma = true
continues_items k = continues_span Free k

-- what may begin or go on with the values of a case
abbrev pub begins_items : TokenKind → Bool
begins_items k = starts_expression Free k || continues_items k

-- cases end before a closing brace
abbrev pub continues_cases : TokenKind → Bool
continues_cases CloseBrace = false
continues_cases k = true

-- what stands before cases ends before an opening brace
abbrev pub before_cases : TokenKind → Bool
before_cases OpenBrace = false
before_cases k = true

-- nothing that goes on with the start of a header stands first
abbrev pub EndsHead : List Token → Type 0
EndsHead [] = Unit {0}
EndsHead (t ∷ ts) = continues_head t.kind ≡ false
