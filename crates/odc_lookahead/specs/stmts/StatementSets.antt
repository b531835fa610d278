-- Which kinds of tokens go on with expression lists, statements and declarations.
use Rattle.std.specs.Prelude.{◌≡◌, Bool, true, false, ◌||◌, List, [], ◌∷◌, Option, Some, None}
use Rattle.odc_syntax.specs.declared.token.Token.{Token}
use Rattle.odc_syntax.specs.declared.token.TokenKind.{TokenKind}
use Rattle.odc_syntax.specs.declared.token.TokenKind.TheVariants.{Assign, Case, CloseBrace, Colon, Comma, Else, Semicolon}
use Rattle.odc_syntax.specs.declared.grammar.Mode.{Mode}
use Rattle.odc_syntax.specs.declared.grammar.Mode.TheVariants.{Header}
use Rattle.odc_syntax.specs.declared.grammar.Level.TheVariants as level
use Rattle.odc_syntax.specs.declared.tree.AssignOp.{AssignOp}
use Rattle.odc_syntax.specs.Operators.{assignment_of}
use Rattle.odc_lookahead.specs.Sets.{continues}

abbrev pub is_assignment : Option AssignOp → Bool
is_assignment (Some op) = true
is_assignment None = false

-- what may go on with expressions between commas
abbrev pub continues_exprs : Mode → TokenKind → Bool
continues_exprs m Comma = true
continues_exprs m k = continues level.Or m k

-- what may go on with an assignment or with expressions alone
abbrev pub continues_simple : Mode → TokenKind → Bool
continues_simple m k = continues_exprs m k || is_assignment (assignment_of k)

-- what may go on with a declaration
abbrev pub continues_declaration : Mode → TokenKind → Bool
continues_declaration m Colon = true
continues_declaration m Assign = true
continues_declaration m k = continues_exprs m k

-- A statement ends before these tokens and no others.
abbrev pub continues_statement : TokenKind → Bool
continues_statement Semicolon = false
continues_statement CloseBrace = false
continues_statement Else = false
continues_statement Case = false
continues_statement k = true

-- statements end before these
abbrev pub continues_statements : TokenKind → Bool
continues_statements CloseBrace = false
continues_statements Case = false
continues_statements k = true

-- no operator of an assignment stands first
abbrev pub NoAssignment : List Token → Type 0
NoAssignment [] = Unit {0}
NoAssignment (t ∷ ts) = assignment_of t.kind ≡ None

-- nothing that goes on with an assignment or with expressions stands first
abbrev pub EndsSimple : Mode → List Token → Type 0
EndsSimple m [] = Unit {0}
EndsSimple m (t ∷ ts) = continues_simple m t.kind ≡ false

-- what may go on with what stands before a body: a `;`, and what goes on with a declaration, an
-- assignment or expressions
abbrev pub continues_head : TokenKind → Bool
continues_head Semicolon = true
continues_head Colon = true
continues_head k = continues_simple Header k

-- what may stand behind the first expression of a simple statement in a header
abbrev pub continues_clause : TokenKind → Bool
continues_clause Comma = true
continues_clause Semicolon = true
continues_clause k = is_assignment (assignment_of k)

-- none of it stands first
abbrev pub EndsClause : List Token → Type 0
EndsClause [] = Unit {0}
EndsClause (t ∷ ts) = continues_clause t.kind ≡ false
