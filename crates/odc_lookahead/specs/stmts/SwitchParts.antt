-- What stands between `switch` and its cases, and the cases in their braces.
use Rattle.std.specs.Prelude.{◌≡◌, true, false, List, [], ◌∷◌}
use Rattle.odc_text.specs.declared.place.Place.{Place}
use Rattle.odc_syntax.specs.declared.token.Token.{Token}
use Rattle.odc_syntax.specs.declared.token.TokenKind.TheVariants as kind
use Rattle.odc_syntax.specs.declared.token.Word.TheVariants as word
use Rattle.odc_syntax.specs.declared.grammar.Mode.TheVariants as mode
use Rattle.odc_syntax.specs.declared.tree.Case.{Case}
use Rattle.odc_syntax.specs.declared.tree.SwitchWord.{SwitchWord}
use Rattle.odc_syntax.specs.View.{spans, stmts}
use Rattle.odc_syntax.specs.Tree.{Header, Expr, MaybeExpr, Cases}
use Rattle.odc_syntax.specs.Tree as tree
use Rattle.odc_syntax.specs.Grammar.{tok, Labelled}
use Rattle.odc_syntax.specs.Grammar as g
use Rattle.odc_lookahead.specs.Exact.{Part, one, then_, done, token}
use Rattle.odc_lookahead.specs.stmts.Clauses.{Clause, declared, assigned, alone}

-- the cases in their braces
abbrev pub CasesIn : Type 0
CasesIn = Token × (Cases × (Token × Unit {0}))

abbrev pub cases_line : Part CasesIn
cases_line = then_ (token kind.OpenBrace) (then_ g.cases (then_ (token kind.CloseBrace) done))

-- a case in front of others
abbrev pub with_case : Case → Cases → Cases
with_case x l = tree.more_cases x.at (spans x.items.items) (stmts x.body.items) l

-- what stands before the cases: a declaration or a simple statement with its `;` if there is one, and the
-- value if there is one; or a name, `in` and the value
pub data SwitchHead : Type 0 where
  by_value : (h : Header) (e : MaybeExpr) → SwitchHead
  by_type : (n i : Token) (e : Expr) → SwitchHead

abbrev pub switch_head : Part SwitchHead
switch_head c (by_value h e) = g.header c h ∷ g.maybe_expr mode.Header c e ∷ []
switch_head c (by_type n i e) = tok kind.Name n ∷ tok kind.In i ∷ g.expression mode.Header c e ∷ []

abbrev pub switched : SwitchWord → SwitchHead → Cases → Labelled
switched w (by_value h e) cs = g.switch w h e cs
switched w (by_type n i e) cs = g.type_switch w n e cs

-- behind an expression at the start of the header, and behind a `;`
abbrev pub value_read : Part MaybeExpr
value_read c e = []

abbrev pub value_line : Part MaybeExpr
value_line = one (g.maybe_expr mode.Header)

abbrev pub clause_head : Clause × MaybeExpr → SwitchHead
clause_head (declared d t, e) = by_value (tree.decl_header d) e
clause_head (assigned x t, e) = by_value (tree.simple_header x) e
clause_head (alone x, e) = by_value tree.no_header (tree.some_expr x)

-- no name with `in` stands first
abbrev pub NotTyped : List Token → Type 0
NotTyped ts = (n i : Token) (us : List Token) → ts ≡ n ∷ i ∷ us → n.kind ≡ kind.Name → i.kind ≡ kind.In → ⊥

abbrev pub plain_word : Token → SwitchWord
plain_word t = record { at = t.at; partial = false }

abbrev pub partial_word : Token → SwitchWord
partial_word t = record { at = t.at; partial = true }

-- `switch` is read, or `#partial switch`
pub data WordRead : List Token → Place → SwitchWord → List Token → Type 0 where
  plain : (t : Token) (us : List Token) → t.kind ≡ kind.Switch → WordRead (t ∷ us) t.at (plain_word t) us
  partial : (p t : Token) (us : List Token) → p.kind ≡ kind.Directive → p.word ≡ word.Partial → t.kind ≡ kind.Switch → WordRead (p ∷ t ∷ us) p.at (partial_word t) us

-- `#partial` does not stand first
abbrev pub NotPartial : List Token → Type 0
NotPartial ts = (p : Token) (us : List Token) → ts ≡ p ∷ us → p.kind ≡ kind.Directive → p.word ≡ word.Partial → ⊥
