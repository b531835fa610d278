-- A part that may be left out, where the next token shows that it is not.
use Rattle.std.proofs.Common.{◌≡◌, ℕ, suc, ◌*◌, ◌<◌, ◌≤◌, max, Bool, true, List, [], ◌∷◌, ◌++◌, length, refl, ap, arith}
use Rattle.odc_syntax.specs.declared.token.Token.{Token}
use Rattle.odc_syntax.specs.declared.token.TokenKind.{TokenKind}
use Rattle.odc_syntax.specs.Grammar.{Sym}
use Rattle.odc_syntax.specs.Derives.{Reach}
use Rattle.odc_lookahead.specs.declared.stop.Stop.{Stop}
use Rattle.odc_lookahead.specs.declared.stop.Stop.TheVariants as stop
use Rattle.odc_lookahead.specs.Exact.{size, Clear, Part, one, then_, Exact, Found}
use Rattle.odc_lookahead.specs.Read.{refused}
use Rattle.odc_lookahead.proofs.reading.Opening.{First}
use Rattle.odc_lookahead.proofs.reading.Leading.{Rises, Led}
use Rattle.odc_lookahead.proofs.reading.Answering.{Stepped}
use Rattle.odc_lookahead.proofs.reading.Deciding.{stop_limit, leads_here, leads_less, leads_part, leads_part_refused, leads_led}

-- there is a first token, and its kind is among these
pub record Starts (among : TokenKind → Bool) (ts : List Token) : Type 0 where
  pub first : Token
  pub behind : List Token
  pub is : ts ≡ first ∷ behind
  pub starts : among first.kind ≡ true

pub starts_by : (among : TokenKind → Bool) (ts : List Token) → First among ts → Starts among ts
starts_by among [] f = absurd f
starts_by among (t ∷ ts) f = record { first = t; behind = ts; is = refl; starts = f }

-- how what a part begins with is known
abbrev pub OpensBy : {W : Type 0} → (ℕ → W → Sym) → (TokenKind → Bool) → List Token → Type 0
OpensBy {W} y among rest = (c : ℕ) (w : W) (s s' : List Sym) (ts' : List Token) → Reach s' ts' (y c w ∷ s) rest → size s' ts' ≤ 2 * length rest → First among rest

abbrev pub Turns : {U W X : Type 0} → (TokenKind → Bool) → (TokenKind → Bool) → Part U → (ℕ → W → Sym) → Part X → (W × X → U) → List Token → Type 0
Turns {U} {W} {X} among cont line y h i rest = (t : Token) (vs : List Token) → rest ≡ t ∷ vs → among t.kind ≡ true → (c : ℕ) (u : U) (s s' : List Sym) (ts' : List Token) → Clear cont s → Reach s' ts' (line c u ++ s) rest → size s' ts' ≤ suc (2 * length vs) →
    Stepped (then_ y h) i c u s s' ts' rest

abbrev pub Into : {U W X : Type 0} → Part U → (ℕ → W → Sym) → Part X → (W × X → U) → List Token → Type 0
Into {U} {W} {X} line y h i rest = (c : ℕ) (w : W × X) (s : List Sym) → Reach (then_ y h c w ++ s) rest (line c (i w) ++ s) rest

-- it is read
pub optional_found : {V U W X : Type 0} {p : Part V} {cont : TokenKind → Bool} {up : ℕ → ℕ} {b : ℕ} {ts : List Token} {line : Part U} {f : U → V} {n : ℕ} {rest : List Token} (among : TokenKind → Bool) (y : ℕ → W → Sym) {cont' : TokenKind → Bool} (h : Part X) (i : W × X → U) (sample : W × X)
    {v : W} {m : ℕ} {after : List Token} → Rises up → Led p cont up b ts line f n rest → n ≤ b → Into line y h i rest → Turns among cont line y h i rest → OpensBy y among rest →
    Found (one y) cont' b rest v m after → length after < length rest → ((c : ℕ) (u : X) (s : List Sym) → Clear cont s → Clear cont' (h c u ++ s)) → Led p cont up b ts h (λ x. f (i (v, x))) (max n m) after
optional_found {V} {U} {W} {X} {rest = rest} among y h i sample {v = v} {m = m} {after = after} rises l within into turns opens found shorter clears =
    let r = found.reads m (omega arith) [] in
    let z = starts_by among rest (opens m v [] [] after r (omega (arith, shorter))) in
    let longer : length rest ≡ suc (length z.behind) = ap length z.is in
    let leads = leads_here (suc (2 * length z.behind)) (then_ y h) i sample (omega (arith, longer)) into (λ c u s s' ts' clear r k. turns z.first z.behind z.is z.starts c u s s' ts' clear r k) l in
    leads_led (omega arith) (leads_part rises within (omega arith) (leads_less {less = 2 * length after} (omega (arith, shorter, longer)) leads) found clears)

-- it isn't
pub stop_shows : {W : Type 0} (y : ℕ → W → Sym) (cont : TokenKind → Bool) (among : TokenKind → Bool) (b : ℕ) (rest : List Token) (e : Stop) → OpensBy y among rest → Exact (one y) cont b rest (refused e) → (e ≡ stop.Syntax (length rest) → ⊥) → (e ≡ stop.Memory → ⊥) →
    First among rest × (suc (stop_limit e) ≤ 2 * length rest)
stop_shows y cont among b rest (stop.Syntax left) opens h elsewhere memory =
    let short = h.short in
    let apart : left ≡ length rest → ⊥ = λ e. elsewhere (ap stop.Syntax e) in
    let less : suc left ≤ length rest = strictly short apart in
    let a = h.comes.at b (omega arith) in
    let z = a.before [] in
    let is = z.rest_is in
    let most = at_most z.pending z.rest in
    (opens b a.value [] z.pending z.rest z.reach (omega (arith, less, is, most)), omega (arith, less))
  where
    strictly : {k n : ℕ} → k ≤ n → (k ≡ n → ⊥) → suc k ≤ n
    strictly le ne = grind (arith, le, ne)

    at_most : (s : List Sym) (ts : List Token) → size s ts ≤ suc (2 * length ts)
    at_most [] ts = omega arith
    at_most (x ∷ s) ts = omega arith
stop_shows y cont among b rest (stop.Deep left) opens h elsewhere memory =
    let short = h.short in
    let a = h.deeper.at h.depth (omega arith) in
    let z = a.before [] in
    let is = z.rest_is in
    let most = at_most z.pending z.rest in
    (opens h.depth a.value [] z.pending z.rest z.reach (omega (arith, short, is, most)), omega (arith, short))
  where
    at_most : (s : List Sym) (ts : List Token) → size s ts ≤ suc (2 * length ts)
    at_most [] ts = omega arith
    at_most (x ∷ s) ts = omega arith
stop_shows y cont among b rest stop.Memory opens h elsewhere memory = absurd (memory refl)

pub optional_refused : {V U W X : Type 0} {p : Part V} {cont : TokenKind → Bool} {up : ℕ → ℕ} {b : ℕ} {ts : List Token} {line : Part U} {f : U → V} {n : ℕ} {rest : List Token} (among : TokenKind → Bool) (y : ℕ → W → Sym) (cont' : TokenKind → Bool) (h : Part X) (i : W × X → U) (sample : W × X)
    (e : Stop) → Rises up → Led p cont up b ts line f n rest → n ≤ b → Into line y h i rest → Turns among cont line y h i rest → OpensBy y among rest →
    Exact (one y) cont' b rest (refused e) → (e ≡ stop.Syntax (length rest) → ⊥) → ((c : ℕ) (u : X) (s : List Sym) → Clear cont s → Clear cont' (h c u ++ s)) → Exact p cont (up b) ts (refused e)
optional_refused {V} {U} {W} {X} {p} {cont} {up} {b} {ts} {line} {f} {n} {rest} among y cont' h i sample e rises l within into turns opens refusal elsewhere clears = by_stop e refusal elsewhere
  where
    by_limit : (e : Stop) → Exact (one y) cont' b rest (refused e) → First among rest × (suc (stop_limit e) ≤ 2 * length rest) → Exact p cont (up b) ts (refused e)
    by_limit e refusal shows =
        let z = starts_by among rest shows.0 in
        let far = shows.1 in
        let longer : length rest ≡ suc (length z.behind) = ap length z.is in
        let leads = leads_here (suc (2 * length z.behind)) (then_ y h) i sample (omega (arith, longer)) into (λ c u s s' ts' clear r k. turns z.first z.behind z.is z.starts c u s s' ts' clear r k) l in
        leads_part_refused y cont' h e rises within (omega (arith, far, longer)) leads refusal clears

    by_stop : (e : Stop) → Exact (one y) cont' b rest (refused e) → (e ≡ stop.Syntax (length rest) → ⊥) → Exact p cont (up b) ts (refused e)
    by_stop (stop.Syntax left) refusal elsewhere = by_limit (stop.Syntax left) refusal (stop_shows y cont' among b rest (stop.Syntax left) opens refusal elsewhere (λ e. cc))
    by_stop (stop.Deep left) refusal elsewhere = by_limit (stop.Deep left) refusal (stop_shows y cont' among b rest (stop.Deep left) opens refusal elsewhere (λ e. cc))
    by_stop stop.Memory refusal elsewhere = tt
