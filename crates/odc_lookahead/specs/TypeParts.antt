-- Parts of types that functions read of their own.
use Rattle.std.specs.Prelude.{◌≡◌, ℕ, Bool, true, false, List, [], ◌∷◌, Option, Some, None, Result, Ok, Err, Vec}
use Rattle.odc_text.specs.declared.place.Place.{Place}
use Rattle.odc_syntax.specs.declared.token.Token.{Token}
use Rattle.odc_syntax.specs.declared.token.TokenKind.{TokenKind}
use Rattle.odc_syntax.specs.declared.token.TokenKind.TheVariants as kind
use Rattle.odc_syntax.specs.declared.token.Word.TheVariants as word
use Rattle.odc_syntax.specs.declared.grammar.Use.{Use}
use Rattle.odc_syntax.specs.declared.grammar.Use.TheVariants.{Plain, Parameter, Operand, OperandEnd}
use Rattle.odc_syntax.specs.Tree.{Type_, Fields, Types, Enumerators, Params, Length}
use Rattle.odc_syntax.specs.Tree as tree
use Rattle.odc_syntax.specs.Grammar as g
use Rattle.odc_syntax.specs.Derives.{StartsWithout}
use Rattle.odc_lookahead.specs.declared.shape.Shape.{Shape}
use Rattle.odc_lookahead.specs.declared.shape.Shape.TheVariants.{Array, Soa}
use Rattle.odc_lookahead.specs.Exact.{Part, then_, done, token, Answer, Yes}
use Rattle.odc_lookahead.specs.Read.{refused}
use Rattle.odc_lookahead.specs.declared.stop.Stop.{Stop}
use Rattle.std.specs.declared.alloc.Global.{Global}
use Rattle.std.specs.Borrow.{Bor}
use Rattle.odc_syntax.specs.declared.tree.Enumerator.{Enumerator}
use Rattle.odc_syntax.specs.View.{maybe_expr}

-- lists up to their closing tokens
abbrev pub fields_line : Use → Part (Fields × (Token × Unit {0}))
fields_line u = then_ (g.fields u) (then_ (token kind.CloseBrace) done)

abbrev pub types_line : Use → Part (Types × (Token × Unit {0}))
types_line u = then_ (g.types u) (then_ (token kind.CloseBrace) done)

abbrev pub enumerators_line : Part (Enumerators × (Token × Unit {0}))
enumerators_line = then_ g.enumerators (then_ (token kind.CloseBrace) done)

abbrev pub params_line : Use → Part (Params × (Token × Unit {0}))
params_line u = then_ (g.params u) (then_ (token kind.CloseParen) done)

-- what stands in the square brackets of a type, up to the closing one
abbrev pub length_line : Use → Part (Length × (Token × Unit {0}))
length_line u = then_ (g.length u) (then_ (token kind.CloseBracket) done)

-- a type with square brackets has been read up to what stands in them
pub record BracketFirst (at : Place) (ts us : List Token) : Type 0 where
  pub bracket : Token
  pub is : ts ≡ bracket ∷ us
  pub kind : bracket.kind ≡ kind.OpenBracket
  pub place : bracket.at ≡ at

pub record WordFirst (at : Place) (ts us : List Token) : Type 0 where
  pub directive : Token
  pub bracket : Token
  pub is : ts ≡ directive ∷ bracket ∷ us
  pub directive_kind : directive.kind ≡ kind.Directive
  pub says : directive.word ≡ word.Soa
  pub bracket_kind : bracket.kind ≡ kind.OpenBracket
  pub place : directive.at ≡ at

abbrev pub Bracketed : Shape → Place → List Token → List Token → Type 0
Bracketed Array at ts us = BracketFirst at ts us
Bracketed Soa at ts us = WordFirst at ts us

abbrev pub shaped : Shape → Length → Type_ → tree.TypeKind
shaped Array n t = tree.array n t
shaped Soa n t = tree.soa n t

-- a `?` in its brackets is followed by these tokens
pub record Questioned (shape : Shape) (at : Place) (ts us : List Token) : Type 0 where
  pub question : Token
  pub kind : question.kind ≡ kind.Question
  pub bracketed : Bracketed shape at ts (question ∷ us)

abbrev pub opens_brace : TokenKind → Bool
opens_brace kind.OpenBrace = true
opens_brace _ = false

abbrev pub starts_brace : List Token → Bool
starts_brace [] = false
starts_brace (t ∷ ts) = opens_brace t.kind

-- the elements of `[?]T` are counted: those of the literal that follows
abbrev pub counts : Use → List Token → Bool
counts Plain rest = false
counts Parameter rest = false
counts Operand rest = starts_brace rest
counts OperandEnd rest = false

-- names between commas, up to a colon
abbrev pub names_line : Part (List Token × (Token × Unit {0}))
names_line c v = g.names v.0 ∷ g.tok kind.Colon v.1.0 ∷ []

-- a field, and an enumerator
abbrev pub field_item : Use → Part (List Token × (Token × Type_))
field_item u c v = g.names v.0 ∷ g.tok kind.Colon v.1.0 ∷ g.type_ u c v.1.1 ∷ []

abbrev pub enumerator : Enumerator → Token × tree.MaybeExpr
enumerator x = (x.name, maybe_expr x.value)

abbrev pub enumerator_item : Part (Token × tree.MaybeExpr)
enumerator_item c v = g.tok kind.Name v.0 ∷ g.given c v.1 ∷ []

-- Parameters up to the closing parenthesis, where all that are given have names, and where none has.
abbrev pub named_params : Use → ℕ → Params → Token → List g.Sym
named_params u c tree.no_params k = g.tok kind.CloseParen k ∷ []
named_params u c (tree.more_params p ps) k = g.named_param u c p ∷ g.more_named u c ps ∷ g.tok kind.CloseParen k ∷ []

abbrev pub bare_params : Use → ℕ → Params → Token → List g.Sym
bare_params u c tree.no_params k = g.tok kind.CloseParen k ∷ []
bare_params u c (tree.more_params p ps) k = g.bare_param u c p ∷ g.more_bare u c ps ∷ g.tok kind.CloseParen k ∷ []

abbrev pub named_line : Use → Part (Params × (Token × Unit {0}))
named_line u c v = named_params u c v.0 v.1.0

abbrev pub bare_line : Use → Part (Params × (Token × Unit {0}))
bare_line u c v = bare_params u c v.0 v.1.0

-- the string behind `proc`, if one stands there, and the tokens behind it
pub record Called (ts : List Token) (t : Token) (us : List Token) : Type 0 where
  pub is : ts ≡ t ∷ us
  pub kind : t.kind ≡ kind.Text

pub record Uncalled (ts us : List Token) : Type 0 where
  pub is : us ≡ ts
  pub none : StartsWithout kind.Text ts

abbrev pub Convention : List Token → Option Token → List Token → Type 0
Convention ts None us = Uncalled ts us
Convention ts (Some t) us = Called ts t us

-- names with their colon
abbrev pub named_by : Result (Vec Token Global × Token × Bor (List Token)) Stop → Answer (List Token × (Token × Unit {0}))
named_by (Ok r) = Yes (r.0.items, (r.1, tt)) 0 r.2.now
named_by (Err e) = refused e

-- the type of an enum, if it is given, up to the opening brace
abbrev pub base_line : Use → Part (tree.MaybeType × (Token × Unit {0}))
base_line u = then_ (g.maybe_type u) (then_ (token kind.OpenBrace) done)

-- a type, and what the names before it are given by default
abbrev pub typed_line : Use → Part (Type_ × tree.MaybeExpr)
typed_line u c v = g.type_ u c v.0 ∷ g.given c v.1 ∷ []
