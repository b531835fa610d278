-- The forms of sums over atoms that stand in one way at most: each text begins with one at most, and what
-- the reader finds is that one.
use Rattle.std.proofs.Common.{◌≡◌, ◌≢◌, ◌<◌, ◌≤◌, ℕ, List, ◌∷◌, ◌++◌, length, sym, ap, subst, append_assoc, arith}
use Rattle.std.specs.Char.{IsAsciiDigit}
use Rattle.odc_small.specs.Forms.{Form, FoundAt, NoneAt, NoDigitFirst, many, both}
use Rattle.odc_small.specs.Grammar.{Factor, Mul, Term, Sum, Atom, Leads, MayScale, number_of, sign_spelling, scale_spelling, mul_spelling, term_spelling, factor_spelling, factors_over, muls_over, terms_over, sums_over}
use Rattle.odc_small.specs.Reading.{scales, signs}
use Rattle.odc_small.specs.declared.grammar.Sign.{Sign}
use Rattle.odc_small.specs.declared.grammar.Sign.TheVariants.{Plus, Minus}
use Rattle.odc_small.specs.declared.grammar.Scale.{Scale}
use Rattle.odc_small.specs.declared.grammar.Scale.TheVariants.{Times, Over, Rest}
use Rattle.odc_small.proofs.FormLemmas.{Unique, Follows, Meets, many_unique, ends_after, both_found, both_unique, none_first, none_second}
use Rattle.odc_small.proofs.PieceLemmas.{heads, seconds, scales_unique, signs_unique}

-- atoms with this spelling, of which these belong
abbrev pub atoms_as : {S : Type 0} → (Atom S → List ℕ) → (Atom S → Type 0) → Form (Atom S)
atoms_as spelling Is = record { spelling = spelling; Is = Is; Ends = NoDigitFirst }

abbrev pub factor_of : {A : Type 0} → Scale × A → Factor A
factor_of p = record { scale = p.0; atom = p.1 }

abbrev pub mul_of : {A : Type 0} → A × List (Factor A) → Mul A
mul_of p = record { first = p.0; more = p.1 }

abbrev pub term_of : {A : Type 0} → Sign × Mul A → Term A
term_of p = record { sign = p.0; mul = p.1 }

abbrev pub sum_of : {A : Type 0} → Mul A × List (Term A) → Sum A
sum_of p = record { first = p.0; more = p.1 }

space_ends : (r : List ℕ) → NoDigitFirst (32 ∷ r)
space_ends r digit = omega (arith, digit.0)

scale_longer : (s : Scale) (m : List ℕ) → 0 < length (scale_spelling s ++ m)
scale_longer Times m = omega arith
scale_longer Over m = omega arith
scale_longer Rest m = omega arith

sign_longer : (s : Sign) (m : List ℕ) → 0 < length (sign_spelling s ++ m)
sign_longer Plus m = omega arith
sign_longer Minus m = omega arith

scale_ends : (s : Scale) (r : List ℕ) → NoDigitFirst (scale_spelling s ++ r)
scale_ends Times r = space_ends (42 ∷ 32 ∷ r)
scale_ends Over r = space_ends (47 ∷ 32 ∷ r)
scale_ends Rest r = space_ends (37 ∷ 32 ∷ r)

-- a scale begins with a space
scale_first : (s : Scale) (b : ℕ) (r x y : List ℕ) → b ∷ r ≡ (scale_spelling s ++ x) ++ y → b ≡ 32
scale_first Times b r x y e = heads b 32 _ _ e
scale_first Over b r x y e = heads b 32 _ _ e
scale_first Rest b r x y e = heads b 32 _ _ e

sign_first : (s : Sign) (b : ℕ) (r x y : List ℕ) → b ∷ r ≡ (sign_spelling s ++ x) ++ y → b ≡ 32
sign_first Plus b r x y e = heads b 32 _ _ e
sign_first Minus b r x y e = heads b 32 _ _ e

-- a byte that is neither a scale nor a sign
abbrev pub IsOther : ℕ → Type 0
IsOther b = (b ≢ 42) × (b ≢ 47) × (b ≢ 37)

scale_second : (s : Scale) (b : ℕ) (r x y : List ℕ) → IsOther b → 32 ∷ b ∷ r ≡ (scale_spelling s ++ x) ++ y → ⊥
scale_second Times b r x y off e = off.0 (seconds 32 32 b 42 r (32 ∷ (x ++ y)) e)
scale_second Over b r x y off e = off.1 (seconds 32 32 b 47 r (32 ∷ (x ++ y)) e)
scale_second Rest b r x y off e = off.2 (seconds 32 32 b 37 r (32 ∷ (x ++ y)) e)

sign_second : (s : Sign) (b : ℕ) (r x y : List ℕ) → b ≢ 43 → b ≢ 45 → 32 ∷ b ∷ r ≡ (sign_spelling s ++ x) ++ y → ⊥
sign_second Plus b r x y off also e = off (seconds 32 32 b 43 r (32 ∷ (x ++ y)) e)
sign_second Minus b r x y off also e = also (seconds 32 32 b 45 r (32 ∷ (x ++ y)) e)

plus_other : IsOther 43
plus_other = (λ e. omega (arith, e), λ e. omega (arith, e), λ e. omega (arith, e))

minus_other : IsOther 45
minus_other = (λ e. omega (arith, e), λ e. omega (arith, e), λ e. omega (arith, e))

module _ {S : Type 0} (spelling : Atom S → List ℕ) (Is : Atom S → Type 0) where
  abbrev pub these : Form (Atom S)
  these = atoms_as spelling Is

  abbrev pub factors : Form (Factor (Atom S))
  factors = factors_over these

  abbrev pub muls : Form (Mul (Atom S))
  muls = muls_over these

  abbrev pub terms : Form (Term (Atom S))
  terms = terms_over these

  abbrev pub sums : Form (Sum (Atom S))
  sums = sums_over these

  as_factor : (bytes rest : List ℕ) (f : Factor (Atom S)) → FoundAt factors bytes f rest → FoundAt (both scales these) bytes (f.scale, f.atom) rest
  as_factor bytes rest f found = record { is = (tt, found.is.0); ends = found.ends; whole = found.whole }

  pub factor_found : (bytes mid rest : List ℕ) (scale : Scale) (a : Atom S) → FoundAt scales bytes scale mid → FoundAt these mid a rest
      → MayScale scale (number_of a) → FoundAt factors bytes (record { scale = scale; atom = a }) rest
  factor_found bytes mid rest scale a f g may =
      let parts = both_found scales these bytes mid rest scale a f g in
      record { is = (g.is, may); ends = parts.ends; whole = parts.whole }

  pub factor_none_scale : (bytes : List ℕ) → NoneAt scales bytes → NoneAt factors bytes
  factor_none_scale bytes off f rest found = none_first scales these (λ _ _ _ _. tt) bytes off (f.scale, f.atom) rest (as_factor bytes rest f found)

  pub factor_none_atom : (bytes mid : List ℕ) (scale : Scale) → FoundAt scales bytes scale mid → NoneAt these mid → NoneAt factors bytes
  factor_none_atom bytes mid scale f off g rest found =
      none_second scales these (λ _ _ _ _. tt) scales_unique bytes mid scale f off (g.scale, g.atom) rest (as_factor bytes rest g found)

  -- no factor and no product begins with such bytes
  no_factor : (b : ℕ) (r : List ℕ) → b ≢ 32 → NoneAt factors (b ∷ r)
  no_factor b r off f rest found = off (scale_first f.scale b r (spelling f.atom) rest found.whole)

  no_scale : (b : ℕ) (r : List ℕ) → IsOther b → NoneAt factors (32 ∷ b ∷ r)
  no_scale b r off f rest found = scale_second f.scale b r (spelling f.atom) rest off found.whole

  no_term : (b : ℕ) (r : List ℕ) → b ≢ 32 → NoneAt terms (b ∷ r)
  no_term b r off t rest found = off (sign_first t.sign b r (mul_spelling these t.mul) rest found.whole)

  no_sign : (b : ℕ) (r : List ℕ) → b ≢ 43 → b ≢ 45 → NoneAt terms (32 ∷ b ∷ r)
  no_sign b r off also t rest found = sign_second t.sign b r (mul_spelling these t.mul) rest off also found.whole

  -- what ends a sum
  pub ends_sum : (b : ℕ) (r : List ℕ) → b ≢ 32 → ¬ IsAsciiDigit b → sums.Ends (b ∷ r)
  ends_sum b r off digit = ((digit, no_factor b r off), no_term b r off)

  pub space_ends_sum : (b : ℕ) (r : List ℕ) → IsOther b → b ≢ 43 → b ≢ 45 → sums.Ends (32 ∷ b ∷ r)
  space_ends_sum b r other off also = ((space_ends (b ∷ r), no_scale b r other), no_sign b r off also)

  pub factors_follow : Follows factors
  factors_follow f r is = subst NoDigitFirst (sym (append_assoc (scale_spelling f.scale) (spelling f.atom) r)) (scale_ends f.scale (spelling f.atom ++ r))

  pub factor_longer : (f : Factor (Atom S)) → 0 < length (factor_spelling these f)
  factor_longer f = scale_longer f.scale (spelling f.atom)

  sign_ends : (s : Sign) (r : List ℕ) → muls.Ends (sign_spelling s ++ r)
  sign_ends Plus r = (space_ends (43 ∷ 32 ∷ r), no_scale 43 (32 ∷ r) plus_other)
  sign_ends Minus r = (space_ends (45 ∷ 32 ∷ r), no_scale 45 (32 ∷ r) minus_other)

  pub terms_follow : Follows terms
  terms_follow t r is = subst muls.Ends (sym (append_assoc (sign_spelling t.sign) (mul_spelling these t.mul) r)) (sign_ends t.sign (mul_spelling these t.mul ++ r))

  pub term_longer : (t : Term (Atom S)) → 0 < length (term_spelling these t)
  term_longer t = sign_longer t.sign (mul_spelling these t.mul)

  module _ (one : Unique these) where
    pub factors_unique : Unique factors
    factors_unique bytes f g r s p q =
        let same = both_unique scales these (λ _ _ _ _. tt) scales_unique one bytes (f.scale, f.atom) (g.scale, g.atom) r s (as_factor bytes r f p) (as_factor bytes s g q) in
        (ap (λ (p : Scale × Atom S). factor_of p) same.0, same.1)

    pub factor_none_zero : (bytes mid rest : List ℕ) (scale : Scale) (a : Atom S) → FoundAt scales bytes scale mid → FoundAt these mid a rest
        → ¬ MayScale scale (number_of a) → NoneAt factors bytes
    factor_none_zero bytes mid rest scale a f g off h r found =
        let same = both_unique scales these (λ _ _ _ _. tt) scales_unique one bytes (scale, a) (h.scale, h.atom) rest r (both_found scales these bytes mid rest scale a f g) (as_factor bytes r h found) in
        off (subst (λ (p : Scale × Atom S). MayScale p.0 (number_of p.1)) (sym same.0) found.is.1)

    -- ---- products

    abbrev mul_parts : Form (Atom S × List (Factor (Atom S)))
    mul_parts = both these (many factors)

    mul_meets : Meets these (many factors)
    mul_meets more rest all ends = ends_after factors factors_unique factors_follow more rest all ends.0

    mul_parts_unique : Unique mul_parts
    mul_parts_unique = both_unique these (many factors) mul_meets one (many_unique factors factors_unique factors_follow)

    as_mul_parts : (bytes rest : List ℕ) (m : Mul (Atom S)) → FoundAt muls bytes m rest → FoundAt mul_parts bytes (m.first, m.more) rest
    as_mul_parts bytes rest m f = record { is = (f.is.first, f.is.more); ends = f.ends; whole = f.whole }

    pub mul_found : (bytes mid rest : List ℕ) (first : Atom S) (more : List (Factor (Atom S))) → FoundAt these bytes first mid → FoundAt (many factors) mid more rest
        → Leads (number_of first) more → length more ≤ 7 → FoundAt muls bytes (record { first = first; more = more }) rest
    mul_found bytes mid rest first more f g leads short =
        let parts = both_found these (many factors) bytes mid rest first more f g in
        record { is = record { first = parts.is.0; more = parts.is.1; leads = leads; short = short }; ends = parts.ends; whole = parts.whole }

    pub mul_none_first : (bytes : List ℕ) → NoneAt these bytes → NoneAt muls bytes
    mul_none_first bytes off m rest f = none_first these (many factors) mul_meets bytes off (m.first, m.more) rest (as_mul_parts bytes rest m f)

    pub mul_none_lead : (bytes mid rest : List ℕ) (first : Atom S) (more : List (Factor (Atom S))) → FoundAt these bytes first mid → FoundAt (many factors) mid more rest
        → (Leads (number_of first) more → length more ≤ 7 → ⊥) → NoneAt muls bytes
    mul_none_lead bytes mid rest first more f g off m r found =
        let same = mul_parts_unique bytes (first, more) (m.first, m.more) rest r (both_found these (many factors) bytes mid rest first more f g) (as_mul_parts bytes r m found) in
        off (subst (λ (p : Atom S × List (Factor (Atom S))). Leads (number_of p.0) p.1) (sym same.0) found.is.leads)
        (subst (λ (p : Atom S × List (Factor (Atom S))). length p.1 ≤ 7) (sym same.0) found.is.short)

    pub muls_unique : Unique muls
    muls_unique bytes m n r s f g =
        let same = mul_parts_unique bytes (m.first, m.more) (n.first, n.more) r s (as_mul_parts bytes r m f) (as_mul_parts bytes s n g) in
        (ap (λ (p : Atom S × List (Factor (Atom S))). mul_of p) same.0, same.1)

    -- ---- further products

    as_term : (bytes rest : List ℕ) (t : Term (Atom S)) → FoundAt terms bytes t rest → FoundAt (both signs muls) bytes (t.sign, t.mul) rest
    as_term bytes rest t f = record { is = (tt, f.is); ends = f.ends; whole = f.whole }

    pub term_found : (bytes mid rest : List ℕ) (sign : Sign) (m : Mul (Atom S)) → FoundAt signs bytes sign mid → FoundAt muls mid m rest
        → FoundAt terms bytes (record { sign = sign; mul = m }) rest
    term_found bytes mid rest sign m f g =
        let parts = both_found signs muls bytes mid rest sign m f g in
        record { is = g.is; ends = parts.ends; whole = parts.whole }

    pub terms_unique : Unique terms
    terms_unique bytes t u r s f g =
        let same = both_unique signs muls (λ _ _ _ _. tt) signs_unique muls_unique bytes (t.sign, t.mul) (u.sign, u.mul) r s (as_term bytes r t f) (as_term bytes s u g) in
        (ap (λ (p : Sign × Mul (Atom S)). term_of p) same.0, same.1)

    pub term_none_sign : (bytes : List ℕ) → NoneAt signs bytes → NoneAt terms bytes
    term_none_sign bytes off t rest f = none_first signs muls (λ _ _ _ _. tt) bytes off (t.sign, t.mul) rest (as_term bytes rest t f)

    pub term_none_mul : (bytes mid : List ℕ) (sign : Sign) → FoundAt signs bytes sign mid → NoneAt muls mid → NoneAt terms bytes
    term_none_mul bytes mid sign f off t rest g =
        none_second signs muls (λ _ _ _ _. tt) signs_unique bytes mid sign f off (t.sign, t.mul) rest (as_term bytes rest t g)

    -- ---- sums

    abbrev sum_parts : Form (Mul (Atom S) × List (Term (Atom S)))
    sum_parts = both muls (many terms)

    sum_meets : Meets muls (many terms)
    sum_meets more rest all ends = ends_after terms terms_unique terms_follow more rest all ends.0

    sum_parts_unique : Unique sum_parts
    sum_parts_unique = both_unique muls (many terms) sum_meets muls_unique (many_unique terms terms_unique terms_follow)

    as_sum_parts : (bytes rest : List ℕ) (s : Sum (Atom S)) → FoundAt sums bytes s rest → FoundAt sum_parts bytes (s.first, s.more) rest
    as_sum_parts bytes rest s f = record { is = (f.is.first, f.is.more); ends = f.ends; whole = f.whole }

    pub sum_found : (bytes mid rest : List ℕ) (first : Mul (Atom S)) (more : List (Term (Atom S))) → FoundAt muls bytes first mid → FoundAt (many terms) mid more rest
        → length more ≤ 7 → FoundAt sums bytes (record { first = first; more = more }) rest
    sum_found bytes mid rest first more f g short =
        let parts = both_found muls (many terms) bytes mid rest first more f g in
        record { is = record { first = parts.is.0; more = parts.is.1; short = short }; ends = parts.ends; whole = parts.whole }

    pub sum_none_first : (bytes : List ℕ) → NoneAt muls bytes → NoneAt sums bytes
    sum_none_first bytes off s rest f = none_first muls (many terms) sum_meets bytes off (s.first, s.more) rest (as_sum_parts bytes rest s f)

    pub sum_none_long : (bytes mid rest : List ℕ) (first : Mul (Atom S)) (more : List (Term (Atom S))) → FoundAt muls bytes first mid → FoundAt (many terms) mid more rest
        → 7 < length more → NoneAt sums bytes
    sum_none_long bytes mid rest first more f g long s r found =
        let same = sum_parts_unique bytes (first, more) (s.first, s.more) rest r (both_found muls (many terms) bytes mid rest first more f g) (as_sum_parts bytes r s found) in
        let short : length more ≤ 7 = subst (λ (p : Mul (Atom S) × List (Term (Atom S))). length p.1 ≤ 7) (sym same.0) found.is.short in
        omega arith

    pub sums_unique : Unique sums
    sums_unique bytes t u r s f g =
        let same = sum_parts_unique bytes (t.first, t.more) (u.first, u.more) r s (as_sum_parts bytes r t f) (as_sum_parts bytes s u g) in
        (ap (λ (p : Mul (Atom S) × List (Term (Atom S))). sum_of p) same.0, same.1)
