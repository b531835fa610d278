-- What the functions on `if` and on headers have read.
use Rattle.std.specs.Prelude.{◌≡◌, ℕ, ◌≤◌, max, List, ◌∷◌}
use Rattle.odc_text.specs.declared.place.Place.{Place}
use Rattle.odc_syntax.specs.declared.token.Token.{Token}
use Rattle.odc_syntax.specs.declared.token.TokenKind.TheVariants as kind
use Rattle.odc_syntax.specs.Grammar as g
use Rattle.odc_syntax.specs.Tree as tree
use Rattle.odc_syntax.specs.View.{expr, header_of}
use Rattle.odc_parse_expr.specs.declared.conditional.Head.{Head}
use Rattle.odc_parse_expr.specs.declared.runs.NamesEnd.{NamesEnd}
use Rattle.odc_parse_expr.specs.declared.runs.NamesEnd.TheVariants as names
use Rattle.odc_lookahead.specs.stmts.BodyParts.{head_line}
use Rattle.odc_lookahead.specs.Exact.{Found, one}
use Rattle.odc_lookahead.specs.stmts.Headers.{Single, Listed}
use Rattle.odc_lookahead.specs.stmts.Runs.{Declares}
use Rattle.odc_lookahead.specs.stmts.StatementSets.{continues_statement, continues_head}

abbrev pub head_of : Head → tree.Header × (tree.Expr × Unit {0})
head_of h = (header_of h.header, (expr h.condition, tt))

abbrev pub NamesIn : List Token → NamesEnd → Type 0
NamesIn ts names.Declared = (rest : List Token) × Declares ts rest
NamesIn ts names.Listed = (rest : List Token) × Listed ts rest
NamesIn ts names.Single = (rest : List Token) × Single ts rest

-- an `if` is read up to its body
pub record IfRead (b : ℕ) (ts : List Token) (at : Place) (head : tree.Header × (tree.Expr × Unit {0})) (block : tree.Stmts) (height : ℕ) (us : List Token) : Type 0 where
  pub first : Token
  pub behind : List Token
  pub is : ts ≡ first ∷ behind
  pub kind : first.kind ≡ kind.If
  pub place : at ≡ first.at
  pub n : ℕ
  pub m : ℕ
  pub body : List Token
  pub head_found : Found head_line continues_head b behind head n body
  pub within : n ≤ b
  pub body_found : Found (one g.body) continues_statement b body block m us
  pub height_is : height ≡ max n m
