-- Names with commas up to the last item.
use Rattle.std.proofs.Common.{◌≡◌, true, List, ◌∷◌, length, sym, ◌∙◌, ap, subst}
use Rattle.odc_syntax.specs.declared.token.Token.{Token}
use Rattle.odc_syntax.specs.declared.token.TokenKind.TheVariants as kind
use Rattle.odc_syntax.specs.Derives.{StartsWithout}
use Rattle.odc_lookahead.specs.declared.stop.Stop.TheVariants as stop
use Rattle.odc_lookahead.specs.stmts.RunBounds.{Run, item, again, LastOver, over, continues_closed}

run_more : {ts : List Token} (t c : Token) (us : List Token) → Run ts (t ∷ c ∷ us) → t.kind ≡ kind.Name → c.kind ≡ kind.Comma → Run ts us
run_more t c us (item _) e f = again t c us us e f (item us)
run_more t c us (again u d vs _ i j run) e f = again u d vs us i j (run_more t c us run e f)

pub run_goes_on : (ts rest behind after : List Token) (t c : Token) → Run ts rest → rest ≡ t ∷ behind → t.kind ≡ kind.Name → behind ≡ c ∷ after → c.kind ≡ kind.Comma → Run ts after
run_goes_on ts rest behind after t c run is e then' f = run_more t c after (subst (λ (l : List Token). Run ts (t ∷ l)) then' (subst (λ (l : List Token). Run ts l) is run)) e f

pub unnamed_item : (rest : List Token) → StartsWithout kind.Name rest → (t c : Token) (us : List Token) → rest ≡ t ∷ c ∷ us → t.kind ≡ kind.Name → c.kind ≡ kind.Comma → ⊥
unnamed_item rest f t c us is e k = let g : StartsWithout kind.Name (t ∷ c ∷ us) = subst (λ (l : List Token). StartsWithout kind.Name l) is f in g e

pub last_name : (rest behind : List Token) (n : Token) → rest ≡ n ∷ behind → StartsWithout kind.Comma behind → (t c : Token) (us : List Token) → rest ≡ t ∷ c ∷ us → t.kind ≡ kind.Name → c.kind ≡ kind.Comma → ⊥
last_name rest behind n is f t c us e i k =
    let both : n ∷ behind ≡ t ∷ c ∷ us = sym is ∙ e in
    let same : behind ≡ c ∷ us = cc in
    let g : StartsWithout kind.Comma (c ∷ us) = subst (λ (l : List Token). StartsWithout kind.Comma l) same f in
    g k

-- the last item is a name before what goes on with it
pub over_at : (ts behind rest : List Token) (t x : Token) → ts ≡ t ∷ behind → t.kind ≡ kind.Name → behind ≡ x ∷ rest → continues_closed x.kind ≡ true → LastOver ts (stop.Deep (length rest))
over_at ts behind rest t x is e then' on = over t x rest (is ∙ ap (λ (l : List Token). t ∷ l) then') e on
