-- Names at the start of a statement: what a look at them answers.
use Rattle.std.proofs.Common.{◌≡◌, true, false, List, [], ◌∷◌, sym, ◌∙◌, ap, subst}
use Rattle.odc_syntax.specs.declared.token.Token.{Token}
use Rattle.odc_syntax.specs.declared.token.TokenKind.TheVariants as kind
use Rattle.odc_syntax.specs.Derives.{StartsWithout}
use Rattle.odc_lookahead.specs.stmts.Headers.{Listed, Single}
use Rattle.odc_lookahead.specs.stmts.Headers as headers
use Rattle.odc_lookahead.specs.stmts.Runs.{Declares, Undeclared, Skips, is_labelled, Labels, NotLabelled}
use Rattle.odc_lookahead.specs.stmts.Runs as runs

both : (ts us vs : List Token) (t c : Token) → ts ≡ t ∷ us → us ≡ c ∷ vs → ts ≡ t ∷ c ∷ vs
both ts us vs t c is then' = is ∙ ap (λ (l : List Token). t ∷ l) then'

pub run_declared : (ts us vs : List Token) (t k : Token) → ts ≡ t ∷ us → t.kind ≡ kind.Name → us ≡ k ∷ vs → k.kind ≡ kind.Colon → Declares ts vs
run_declared ts us vs t k is e then' f = subst (λ (l : List Token). Declares l vs) (sym (both ts us vs t k is then')) (runs.named t k vs e f)

pub run_declares : (ts us vs rest : List Token) (t c : Token) → ts ≡ t ∷ us → t.kind ≡ kind.Name → us ≡ c ∷ vs → c.kind ≡ kind.Comma → Declares vs rest → Declares ts rest
run_declares ts us vs rest t c is e then' f d = subst (λ (l : List Token). Declares l rest) (sym (both ts us vs t c is then')) (runs.listed t c vs rest e f d)

pub run_again : (ts us vs rest : List Token) (t c : Token) → ts ≡ t ∷ us → t.kind ≡ kind.Name → us ≡ c ∷ vs → c.kind ≡ kind.Comma → Undeclared vs rest → Undeclared ts rest
run_again ts us vs rest t c is e then' f d = subst (λ (l : List Token). Undeclared l rest) (sym (both ts us vs t c is then')) (runs.again t c vs rest e f d)

pub run_ended : (ts us : List Token) (t : Token) → ts ≡ t ∷ us → t.kind ≡ kind.Name → StartsWithout kind.Comma us → StartsWithout kind.Colon us → Undeclared ts us
run_ended ts us t is e f k = subst (λ (l : List Token). Undeclared l us) (sym is) (runs.ended t us e f k)

-- what names at the start of a header are
pub run_single : (ts us : List Token) (t : Token) → ts ≡ t ∷ us → t.kind ≡ kind.Name → StartsWithout kind.Comma us → StartsWithout kind.Colon us → Single ts us
run_single ts us t is e f k = subst (λ (l : List Token). Single l us) (sym is) (headers.named t us e f k)

-- behind a first name and a comma
others_undeclared : {ts rest : List Token} → Undeclared ts rest → (t c : Token) (vs : List Token) → ts ≡ t ∷ c ∷ vs → t.kind ≡ kind.Name → c.kind ≡ kind.Comma → Undeclared vs rest
others_undeclared (runs.unnamed ts f) t c vs is e k = absurd (subst (λ (l : List Token). StartsWithout kind.Name l) is f e)
others_undeclared (runs.ended u us e' f g) t c vs is e k = let same : us ≡ c ∷ vs = cc in absurd (subst (λ (l : List Token). StartsWithout kind.Comma l) same f k)
others_undeclared (runs.again u d us rest e' f h) t c vs is e k = let same : us ≡ vs = cc in subst (λ (l : List Token). Undeclared l rest) same h

pub run_listed : (ts rest us vs : List Token) (t c : Token) → Undeclared ts rest → ts ≡ t ∷ us → t.kind ≡ kind.Name → us ≡ c ∷ vs → c.kind ≡ kind.Comma → Listed ts rest
run_listed ts rest us vs t c d is e then' f =
    let all = both ts us vs t c is then' in
    record { first = t; comma = c; others = vs; is = all; name = e; kind = f; run = others_undeclared d t c vs all e f }

-- no `:` behind a name that is not declared
no_colon_behind : {ts rest : List Token} → Undeclared ts rest → (t : Token) (us : List Token) → ts ≡ t ∷ us → t.kind ≡ kind.Name → StartsWithout kind.Comma us → StartsWithout kind.Colon us
no_colon_behind (runs.unnamed ts f) t us is e k = absurd (subst (λ (l : List Token). StartsWithout kind.Name l) is f e)
no_colon_behind (runs.ended u vs e' f g) t us is e k = let same : vs ≡ us = cc in subst (λ (l : List Token). StartsWithout kind.Colon l) same g
no_colon_behind (runs.again u d vs rest e' f h) t us is e k = let same : us ≡ d ∷ vs = cc in absurd (subst (λ (l : List Token). StartsWithout kind.Comma l) same k f)

pub run_alone : (ts rest us : List Token) (t : Token) → Undeclared ts rest → ts ≡ t ∷ us → t.kind ≡ kind.Name → StartsWithout kind.Comma us → Single ts us
run_alone ts rest us t d is e f = run_single ts us t is e f (no_colon_behind d t us is e f)

-- semicolons
pub skips_one : (ts us rest : List Token) (t : Token) → ts ≡ t ∷ us → t.kind ≡ kind.Semicolon → Skips us rest → Skips ts rest
skips_one ts us rest t is e k = subst (λ (l : List Token). Skips l rest) (sym is) (runs.one t us rest e k)

-- labels
pub labels_at : (ts us vs ws : List Token) (t k f : Token) → ts ≡ t ∷ us → t.kind ≡ kind.Name → us ≡ k ∷ vs → k.kind ≡ kind.Colon → vs ≡ f ∷ ws → is_labelled f ≡ true → Labels ts t vs
labels_at ts us vs ws t k f is e then' g last l = record { colon = k; first = f; behind = ws; is = both ts us vs t k is then'; name = e; kind = g; rest_is = last; labelled = l }

pub unlabelled_unnamed : (ts : List Token) → StartsWithout kind.Name ts → NotLabelled ts
unlabelled_unnamed ts none = λ t k f us is e g l. absurd (subst (λ (l : List Token). StartsWithout kind.Name l) is none e)

pub unlabelled_alone : (ts us : List Token) (t : Token) → ts ≡ t ∷ us → StartsWithout kind.Colon us → NotLabelled ts
unlabelled_alone ts us t is none = λ u k f vs all e g l. let same : us ≡ k ∷ f ∷ vs = cc in absurd (subst (λ (l : List Token). StartsWithout kind.Colon l) same none g)

pub unlabelled_end : (ts us vs : List Token) (t k : Token) → ts ≡ t ∷ us → us ≡ k ∷ vs → vs ≡ [] → NotLabelled ts
unlabelled_end ts us vs t k is then' end = λ u j f ws all e g l. let bad : t ∷ k ∷ [] ≡ u ∷ j ∷ f ∷ ws = cc in cc

pub unlabelled_other : (ts us vs ws : List Token) (t k f : Token) → ts ≡ t ∷ us → us ≡ k ∷ vs → vs ≡ f ∷ ws → is_labelled f ≡ false → NotLabelled ts
unlabelled_other ts us vs ws t k f is then' last other = λ u j h xs all e g l. let same : f ≡ h = cc in let bad : false ≡ true = sym other ∙ ap is_labelled same ∙ l in cc
