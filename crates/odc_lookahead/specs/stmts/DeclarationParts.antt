-- Parts of declarations that functions read of their own.
use Rattle.std.specs.Prelude.{◌≡◌, ℕ, Bool, true, false, List, [], ◌∷◌}
use Rattle.odc_text.specs.declared.place.Place.{Place}
use Rattle.odc_syntax.specs.declared.token.Token.{Token}
use Rattle.odc_syntax.specs.declared.token.TokenKind.{TokenKind}
use Rattle.odc_syntax.specs.declared.token.TokenKind.TheVariants as kind
use Rattle.odc_syntax.specs.declared.grammar.Mode.{Mode}
use Rattle.odc_syntax.specs.declared.grammar.Use.TheVariants.{Plain}
use Rattle.odc_syntax.specs.Tree.{Type_, MaybeType, Exprs, Initial, Decl, decl}
use Rattle.odc_syntax.specs.Tree as tree
use Rattle.odc_syntax.specs.Grammar.{Sym, tok}
use Rattle.odc_syntax.specs.Grammar as g
use Rattle.odc_syntax.specs.Derives.{StartsWithout}
use Rattle.odc_lookahead.specs.Exact.{Part, one, Found}
use Rattle.odc_lookahead.specs.Sets.{nothing_continues}

abbrev pub name_list : ℕ → List Token → Sym
name_list c ns = g.names ns

-- a comma alone goes on with names
abbrev pub continues_names : TokenKind → Bool
continues_names kind.Comma = true
continues_names k = false

-- what stands behind the names of a declaration and their `:`
pub data Declared : Type 0 where
  constant : (ty : MaybeType) (d : Token) (es : Exprs) → Declared
  inferred : (a : Token) (es : Exprs) → Declared
  typed : (ty : Type_) (i : Initial) → Declared

abbrev pub declared_line : Mode → Part Declared
declared_line m c (constant ty d es) = g.maybe_type Plain c ty ∷ tok kind.Colon d ∷ g.exprs m c es ∷ []
declared_line m c (inferred a es) = tok kind.Assign a ∷ g.exprs m c es ∷ []
declared_line m c (typed ty i) = g.type_ Plain c ty ∷ g.initial m c i ∷ []

abbrev pub declared_node : Place → List Token → Declared → Decl
declared_node at ns (constant ty d es) = decl at (tree.constant ns ty es)
declared_node at ns (inferred a es) = decl at (tree.variable ns tree.no_type (tree.values es))
declared_node at ns (typed ty i) = decl at (tree.variable ns (tree.some_type ty) i)

-- what stands behind their type
pub data BehindType : Type 0 where
  valued : (d : Token) (es : Exprs) → BehindType
  begun : (i : Initial) → BehindType

abbrev pub behind_type_line : Mode → Part BehindType
behind_type_line m c (valued d es) = tok kind.Colon d ∷ g.exprs m c es ∷ []
behind_type_line m c (begun i) = g.initial m c i ∷ []

abbrev pub with_type : Type_ → BehindType → Declared
with_type ty (valued d es) = constant (tree.some_type ty) d es
with_type ty (begun i) = typed ty i

-- names and `:` are read
pub record Headed (b : ℕ) (ts : List Token) (at : Place) (ns us : List Token) : Type 0 where
  pub first : Token
  pub behind : List Token
  pub is : ts ≡ first ∷ behind
  pub place : at ≡ first.at
  pub rest : List Token
  pub found : Found (one name_list) continues_names b ts ns 0 rest
  pub colon : Token
  pub rest_is : rest ≡ colon ∷ us
  pub kind : colon.kind ≡ kind.Colon

-- and a type
pub record Typed (b : ℕ) (ts : List Token) (at : Place) (ns : List Token) (ty : Type_) (n : ℕ) (us : List Token) : Type 0 where
  pub start : List Token
  pub headed : Headed b ts at ns start
  pub no_assign : StartsWithout kind.Assign start
  pub no_colon : StartsWithout kind.Colon start
  pub found : Found (one (g.type_ Plain)) nothing_continues b start ty n us
