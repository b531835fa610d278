-- Names with commas at the start of a header where too few levels are left for expressions: why the last
-- item, behind the last comma, is not read.
use Rattle.std.specs.Prelude.{◌≡◌, Bool, true, false, List, [], ◌∷◌, length}
use Rattle.odc_syntax.specs.declared.token.Token.{Token}
use Rattle.odc_syntax.specs.declared.token.TokenKind.{TokenKind}
use Rattle.odc_syntax.specs.declared.token.TokenKind.TheVariants as kind
use Rattle.odc_syntax.specs.declared.grammar.Mode.TheVariants.{Header}
use Rattle.odc_syntax.specs.declared.grammar.Level.TheVariants.{Or}
use Rattle.odc_syntax.specs.Derives.{StartsWithout}
use Rattle.odc_syntax.specs.Grammar as g
use Rattle.odc_lookahead.specs.declared.stop.Stop.{Stop}
use Rattle.odc_lookahead.specs.declared.stop.Stop.TheVariants as stop
use Rattle.odc_lookahead.specs.Exact.{Exact, one}
use Rattle.odc_lookahead.specs.Read.{refused}
use Rattle.odc_lookahead.specs.Sets.{continues}
use Rattle.odc_lookahead.specs.stmts.StatementSets.{continues_simple}

-- names, each with its comma, before the last item
pub data Run : List Token → List Token → Type 0 where
  item : (ts : List Token) → Run ts ts
  again : (t c : Token) (us last : List Token) → t.kind ≡ kind.Name → c.kind ≡ kind.Comma → Run us last → Run (t ∷ c ∷ us) last

-- what may go on with a simple statement of a header, and its `;`
abbrev pub continues_closed : TokenKind → Bool
continues_closed kind.Semicolon = true
continues_closed k = continues_simple Header k

-- none of it stands first
abbrev pub EndsClosed : List Token → Type 0
EndsClosed [] = Unit {0}
EndsClosed (t ∷ ts) = continues_closed t.kind ≡ false

-- why the last item is not read
pub data LastOver (last : List Token) : Stop → Type 0 where
  unread : (e : Stop) → StartsWithout kind.Name last → Exact (one (g.expression Header)) (continues Or Header) 0 last (refused e) → LastOver last e
  ended : (t : Token) (us : List Token) → last ≡ t ∷ us → t.kind ≡ kind.Name → EndsClosed us → LastOver last (stop.Syntax (length us))
  over : (t x : Token) (us : List Token) → last ≡ t ∷ x ∷ us → t.kind ≡ kind.Name → continues_closed x.kind ≡ true → LastOver last (stop.Deep (length us))

-- why a run of names is not read
pub record RunOver (ts : List Token) (e : Stop) : Type 0 where
  pub last : List Token
  pub run : Run ts last
  pub alone : (t c : Token) (us : List Token) → last ≡ t ∷ c ∷ us → t.kind ≡ kind.Name → c.kind ≡ kind.Comma → ⊥
  pub over : LastOver last e
