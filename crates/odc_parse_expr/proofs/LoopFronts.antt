-- What stands first behind `for`: which function reads on, and at which bound.
use Rattle.std.proofs.Common.{◌≡◌, ℕ, ◌<◌, ◌≤◌, Bool, true, false, List, [], ◌∷◌, length, refl, sym, ap, subst, arith, None, Some, ◌⊎◌, inl, inr}
use Rattle.odc_syntax.specs.declared.token.Token.{Token}
use Rattle.odc_syntax.specs.declared.token.TokenKind.{TokenKind}
use Rattle.odc_syntax.specs.declared.token.TokenKind.TheVariants as kind
use Rattle.odc_syntax.specs.declared.grammar.Mode.TheVariants.{Header}
use Rattle.odc_syntax.specs.declared.grammar.Level.TheVariants.{Or}
use Rattle.odc_syntax.specs.declared.tree.RangeNames.{RangeNames}
use Rattle.odc_syntax.specs.Derives.{StartsWithout}
use Rattle.odc_syntax.specs.Grammar as g
use Rattle.odc_parse_expr.specs.declared.loops.Sign.{Sign}
use Rattle.odc_parse_expr.specs.declared.loops.Front.{Front}
use Rattle.odc_parse_expr.specs.declared.loops.Front.TheVariants as front
use Rattle.odc_lookahead.specs.declared.stop.Stop.{Stop}
use Rattle.odc_lookahead.specs.declared.stop.Stop.TheVariants as stop
use Rattle.odc_lookahead.specs.Exact.{one, Exact}
use Rattle.odc_parse_expr.specs.LoopForms.{refers, BodyFirst, FrontIs, LoopStart}
use Rattle.odc_lookahead.specs.stmts.LoopStarts as start
use Rattle.odc_lookahead.specs.stmts.LoopStarts.{Signed, plain, signed, Ranged, OneName, MoreNames, Unranged, asks, cost, list_cost, OneOver, MoreOver, NameBefore, NoNameBefore, EndsOne, goes_one}
use Rattle.odc_lookahead.specs.Read.{refused}
use Rattle.odc_lookahead.specs.stmts.RunBounds.{LastOver}
use Rattle.odc_lookahead.specs.Sets.{starts_suffix, continues}
use Rattle.odc_lookahead.specs.stmts.Statements.{labelled_part}
use Rattle.odc_lookahead.specs.stmts.StatementSets.{continues_statement}
use Rattle.odc_lookahead.proofs.loops.LoopLemmas.{for_at}
use Rattle.odc_lookahead.proofs.loops.LoopBounds as low

-- a loop that is neither a body nor `;`
pub record Clauses (t : Token) (ts : List Token) : Type 0 where
  pub is_for : t.kind ≡ kind.For
  pub no_brace : StartsWithout kind.OpenBrace ts
  pub no_do : StartsWithout kind.Do ts
  pub no_semicolon : StartsWithout kind.Semicolon ts

abbrev starting : {t : Token} {ts place : List Token} → Clauses t ts → Unranged ts place → LoopStart t ts place
starting c z = record { is_for = c.is_for; no_brace = c.no_brace; no_do = c.no_do; no_semicolon = c.no_semicolon; unranged = z }

front_at : (b : ℕ) {t : Token} {ts place : List Token} → Clauses t ts → Unranged ts place → low.LoopFront b (t ∷ ts) t.at ts place
front_at b {t} {ts} c z = record { led = for_at b (t ∷ ts) t ts refl c.is_for; no_brace = c.no_brace; no_do = c.no_do; no_semicolon = c.no_semicolon; unranged = z }

front_is : (ts rest : List Token) (f h : Front) → f ≡ h → FrontIs ts f rest → FrontIs ts h rest
front_is ts rest f h e z = subst (λ (x : Front). FrontIs ts x rest) e z

pub front_range : (ts rest : List Token) (f : Front) (names : RangeNames) → f ≡ front.Range names → FrontIs ts f rest → Ranged ts names rest
front_range ts rest f names e z = front_is ts rest f (front.Range names) e z

-- too few levels are left
pub one_low : (b : ℕ) (t : Token) (ts rest : List Token) (f : Front) (r : Sign) (e : Stop) → Clauses t ts → f ≡ front.One r → FrontIs ts f rest → b < cost (refers r) → OneOver (refers r) rest e → Exact (one labelled_part) continues_statement b (t ∷ ts) (refused e)
one_low b t ts rest f r e c is z few o = let y = front_is ts rest f (front.One r) is z in low.one_over b (t ∷ ts) t.at ts rest (refers r) e (front_at b c (start.one_name (refers r) rest y)) y few o

pub more_low : (b : ℕ) (t : Token) (ts last : List Token) (f : Front) (r : Sign) (e : Stop) → Clauses t ts → f ≡ front.More r → FrontIs ts f last → b < list_cost (refers r) → MoreOver (refers r) last e → Exact (one labelled_part) continues_statement b (t ∷ ts) (refused e)
more_low b t ts last f r e c is z few o = low.more_over b (t ∷ ts) t.at ts last (refers r) e (for_at b (t ∷ ts) t ts refl c.is_for) c.no_brace c.no_do c.no_semicolon (front_is ts last f (front.More r) is z) few o

pub address_low : (b : ℕ) (t : Token) (ts rest : List Token) (f : Front) (e : Stop) → b ≡ 0 → Clauses t ts → f ≡ front.Address → FrontIs ts f rest → Exact (one (g.unary Header)) (starts_suffix Header) 0 rest (refused e) → Exact (one labelled_part) continues_statement b (t ∷ ts) (refused e)
address_low b t ts rest f e zero' c is z h =
    let y = front_is ts rest f front.Address is z in
    subst (λ (k : ℕ). Exact (one labelled_part) continues_statement k (t ∷ ts) (refused e)) (sym zero') (low.address_over (t ∷ ts) t.at ts rest e (front_at 0 c (start.address rest y.0 y.1)) y.0 h)

pub other_low : (b : ℕ) (t : Token) (ts rest : List Token) (f : Front) (e : Stop) → b ≡ 0 → Clauses t ts → f ≡ front.Other → FrontIs ts f rest → Exact (one (g.expression Header)) (continues Or Header) 0 ts (refused e) → Exact (one labelled_part) continues_statement b (t ∷ ts) (refused e)
other_low b t ts rest f e zero' c is z h =
    let y = front_is ts rest f front.Other is z in
    subst (λ (k : ℕ). Exact (one labelled_part) continues_statement k (t ∷ ts) (refused e)) (sym zero') (low.other_over (t ∷ ts) t.at ts e (front_at 0 c (start.other y.0 y.1)) y.0 h)

-- enough are left
abbrev Reads : ℕ → Token → List Token → Type 0 → Type 0
Reads b t ts X = (place : List Token) → (s : LoopStart t ts place) → asks s.unranged ≤ b → asks s.unranged ≤ 2 → X

cost_few : (r : Bool) → cost r ≤ 2
cost_few true = omega arith
cost_few false = omega arith

pub one_reads : {X : Type 0} (b : ℕ) (t : Token) (ts rest : List Token) (f : Front) (r : Sign) → Clauses t ts → f ≡ front.One r → FrontIs ts f rest → cost (refers r) ≤ b → Reads b t ts X → X
one_reads b t ts rest f r c is z enough reads = reads rest (starting c (start.one_name (refers r) rest (front_is ts rest f (front.One r) is z))) enough (cost_few (refers r))

pub address_reads : {X : Type 0} (b : ℕ) (t : Token) (ts rest : List Token) (f : Front) → Clauses t ts → f ≡ front.Address → FrontIs ts f rest → 0 < b → Reads b t ts X → X
address_reads b t ts rest f c is z enough reads = let y = front_is ts rest f front.Address is z in reads rest (starting c (start.address rest y.0 y.1)) enough (omega arith)

pub other_reads : {X : Type 0} (b : ℕ) (t : Token) (ts rest : List Token) (f : Front) → Clauses t ts → f ≡ front.Other → FrontIs ts f rest → 0 < b → Reads b t ts X → X
other_reads b t ts rest f c is z enough reads = let y = front_is ts rest f front.Other is z in reads ts (starting c (start.other y.0 y.1)) enough (omega arith)

-- where variables end behind a comma
record Place (r : Bool) (ts : List Token) : Type 0 where
  place : List Token
  unranged : Unranged ts place
  asks_is : asks unranged ≡ list_cost r

is_name : (k : TokenKind) → (k ≡ kind.Name) ⊎ (k ≡ kind.Name → ⊥)
is_name kind.Name = inl refl
is_name _ = inr (λ e. cc)

second_in : {r : Bool} {ts : List Token} (us : List Token) (t : Token) (z : MoreNames r ts (t ∷ us)) → t.kind ≡ kind.Name → StartsWithout kind.In us
second_in [] t z e = tt
second_in (i ∷ us) t z e = λ k. z.no_in t i us refl e k

place_by : {r : Bool} {ts : List Token} (t : Token) (us : List Token) → MoreNames r ts (t ∷ us) → (t.kind ≡ kind.Name) ⊎ (t.kind ≡ kind.Name → ⊥) → Place r ts
place_by {r} t us z (inl e) = record { place = us; unranged = start.pair r t us z e (second_in us t z e); asks_is = refl }
place_by {r} t us z (inr f) = record { place = t ∷ us; unranged = start.more r (t ∷ us) z f; asks_is = refl }

more_at : {r : Bool} {ts : List Token} (last : List Token) → MoreNames r ts last → Place r ts
more_at {r} [] z = record { place = []; unranged = start.more r [] z tt; asks_is = refl }
more_at (t ∷ us) z = place_by t us z (is_name t.kind)

pub more_reads : {X : Type 0} (b : ℕ) (t : Token) (ts last : List Token) (f : Front) (r : Sign) → Clauses t ts → f ≡ front.More r → FrontIs ts f last → refers r ≡ false → list_cost (refers r) ≤ b → Reads b t ts X → X
more_reads b t ts last f r c is z plain' enough reads =
    let y = more_at last (front_is ts last f (front.More r) is z) in
    let e = y.asks_is in
    let k : list_cost (refers r) ≡ 1 = ap list_cost plain' in
    reads y.place (starting c y.unranged) (omega (arith, e, enough)) (omega (arith, e, k))

pub list_reads : {X : Type 0} (b : ℕ) (t : Token) (ts last : List Token) (f : Front) (r : Sign) → Clauses t ts → f ≡ front.More r → FrontIs ts f last → refers r ≡ true → list_cost (refers r) ≤ b → ((place last : List Token) → LoopStart t ts place → MoreNames true ts last → 2 < b → X) → X
list_reads b t ts last f r c is z sign enough reads =
    let m = front_is ts last f (front.More r) is z in
    let y = more_at last m in
    let k : list_cost (refers r) ≡ 3 = ap list_cost sign in
    reads y.place last (starting c y.unranged) (subst (λ (x : Bool). MoreNames x ts last) sign m) (omega (arith, k, enough))

-- what `front` and its parts find
other_by : {ts rest : List Token} → Signed false ts rest → StartsWithout kind.Name rest → StartsWithout kind.Name ts × StartsWithout kind.Ampersand ts
other_by (plain ts n) f = (f, n)

pub other_front : (r : Bool) (ts rest : List Token) → r ≡ false → Signed r ts rest → StartsWithout kind.Name rest → StartsWithout kind.Name ts × StartsWithout kind.Ampersand ts
other_front r ts rest e z f = other_by (subst (λ (x : Bool). Signed x ts rest) e z) f

pub address_front : (r : Bool) (ts rest : List Token) → r ≡ true → Signed r ts rest → StartsWithout kind.Name rest → Signed true ts rest × StartsWithout kind.Name rest
address_front r ts rest e z f = (subst (λ (x : Bool). Signed x ts rest) e z, f)

pub signed_named : (r : Bool) (ts us : List Token) (v : Token) (vs : List Token) → Signed r ts us → us ≡ v ∷ vs → Signed r ts (v ∷ vs)
signed_named r ts us v vs z is = subst (λ (l : List Token). Signed r ts l) is z

pub range_one : (r : Bool) (ts : List Token) (v i : Token) (us rest : List Token) → Signed r ts (v ∷ us) → v.kind ≡ kind.Name → us ≡ i ∷ rest → i.kind ≡ kind.In → Ranged ts (record { by_reference = r; first = v; second = None }) rest
range_one r ts v i us rest z e is f = start.one r v i rest (subst (λ (l : List Token). Signed r ts (v ∷ l)) is z) e f

pub range_two : (r : Bool) (ts : List Token) (v c w : Token) (us last rest : List Token) → Signed r ts (v ∷ us) → v.kind ≡ kind.Name → us ≡ c ∷ last → c.kind ≡ kind.Comma → NameBefore kind.In last w rest → Ranged ts (record { by_reference = r; first = v; second = Some w }) rest
range_two r ts v c w us last rest z e is f n =
    let y = subst (λ (l : List Token). Signed r ts (v ∷ l)) is z in
    start.two r v c w n.next rest (subst (λ (l : List Token). Signed r ts (v ∷ c ∷ l)) n.is y) e f n.is_name n.is_next

pub more_front : (r : Bool) (ts : List Token) (v c : Token) (us last : List Token) → Signed r ts (v ∷ us) → v.kind ≡ kind.Name → us ≡ c ∷ last → c.kind ≡ kind.Comma → NoNameBefore kind.In last → MoreNames r ts last
more_front r ts v c us last z e is f n = record { name = v; comma = c; signed = subst (λ (l : List Token). Signed r ts (v ∷ l)) is z; is_name = e; is_comma = f; no_in = n }

pub one_front : (r : Bool) (ts : List Token) (v : Token) (us : List Token) → Signed r ts (v ∷ us) → v.kind ≡ kind.Name → StartsWithout kind.Comma us → StartsWithout kind.In us → OneName r ts us
one_front r ts v us z e f k = record { name = v; signed = z; is_name = e; no_comma = f; no_in = k }

pub signed_first : (ts : List Token) (t : Token) (rest : List Token) → ts ≡ t ∷ rest → t.kind ≡ kind.Ampersand → Signed true ts rest
signed_first ts t rest is e = subst (λ (l : List Token). Signed true l rest) (sym is) (signed t rest e)

-- a name before a token
pub name_before : (k : TokenKind) (ts us rest : List Token) (t x : Token) → ts ≡ t ∷ us → t.kind ≡ kind.Name → us ≡ x ∷ rest → x.kind ≡ k → NameBefore k ts t rest
name_before k ts us rest t x is e then' f = record { next = x; is = subst (λ (l : List Token). ts ≡ t ∷ l) then' is; is_name = e; is_next = f }

pub unnamed_before : (k : TokenKind) (ts : List Token) → StartsWithout kind.Name ts → NoNameBefore k ts
unnamed_before k ts f t c us is e i = let z : StartsWithout kind.Name (t ∷ c ∷ us) = subst (λ (l : List Token). StartsWithout kind.Name l) is f in z e

tail_is : {t u : Token} {us vs : List Token} → t ∷ us ≡ u ∷ vs → us ≡ vs
tail_is e = cc

pub other_before : (k : TokenKind) (ts us : List Token) (n : Token) → ts ≡ n ∷ us → StartsWithout k us → NoNameBefore k ts
other_before k ts us n is f t c vs e i j =
    let same : us ≡ c ∷ vs = tail_is (subst (λ (l : List Token). l ≡ t ∷ c ∷ vs) is e) in
    let z : StartsWithout k (c ∷ vs) = subst (λ (l : List Token). StartsWithout k l) same f in
    z j

-- why nothing is read behind it
pub one_goes : (r : Bool) (ts : List Token) (x : Token) (us : List Token) (a : Bool) → ts ≡ x ∷ us → a ≡ goes_one r x.kind → a ≡ true → OneOver r ts (stop.Deep (length us))
one_goes r ts x us a is e on = start.over x us is (subst (λ (b : Bool). b ≡ true) e on)

pub one_stays : (r : Bool) (ts : List Token) (x : Token) (us : List Token) (a : Bool) → ts ≡ x ∷ us → a ≡ goes_one r x.kind → a ≡ false → OneOver r ts (stop.Syntax (length ts))
one_stays r ts x us a is e off = start.ended (subst (λ (l : List Token). EndsOne r l) (sym is) (subst (λ (b : Bool). b ≡ false) e off))

pub one_empty : (r : Bool) (ts : List Token) → ts ≡ [] → OneOver r ts (stop.Syntax 0)
one_empty r ts is = subst (λ (l : List Token). OneOver r l (stop.Syntax 0)) (sym is) (start.ended tt)

pub more_last : (r : Bool) (ts : List Token) (e : Stop) → (r ≡ false → NoNameBefore kind.Colon ts) → LastOver ts e → MoreOver r ts e
more_last r ts e none o = start.closed e none o

pub more_colon : (r : Bool) (ts rest : List Token) (t : Token) → r ≡ false → NameBefore kind.Colon ts t rest → MoreOver r ts (stop.Deep (length rest))
more_colon r ts rest t plain' n = start.colon t n.next rest plain' n.is n.is_name n.is_next

-- a body
pub begins_brace : (ts : List Token) (t : Token) (us : List Token) → ts ≡ t ∷ us → t.kind ≡ kind.OpenBrace → BodyFirst ts
begins_brace ts t us is e = record { first = t; rest = us; is = is; kind = inl e }

pub begins_do : (ts : List Token) (t : Token) (us : List Token) → ts ≡ t ∷ us → t.kind ≡ kind.Do → BodyFirst ts
begins_do ts t us is e = record { first = t; rest = us; is = is; kind = inr e }
