-- Names between commas, up to a colon.
use Rattle.std.proofs.Common.{◌≡◌, ℕ, ◌*◌, ◌≤◌, true, false, List, [], ◌∷◌, ◌++◌, length, refl, sym, ◌∙◌, ap, subst, arith, append_assoc}
use Rattle.odc_syntax.specs.declared.token.Token.{Token}
use Rattle.odc_syntax.specs.declared.token.TokenKind.{TokenKind}
use Rattle.odc_syntax.specs.declared.token.TokenKind.TheVariants as kind
use Rattle.odc_syntax.specs.Grammar.{Sym, tok, Rule}
use Rattle.odc_syntax.specs.Grammar as g
use Rattle.odc_syntax.specs.Derives.{Reach, here, read, write, StartsWithout}
use Rattle.odc_lookahead.specs.declared.stop.Stop.{Stop}
use Rattle.odc_lookahead.specs.declared.stop.Stop.TheVariants as stop
use Rattle.odc_lookahead.specs.Exact.{size, Part, done, Exact, Found, Broken}
use Rattle.odc_lookahead.specs.Read.{refused, NotExpected}
use Rattle.odc_lookahead.specs.Sets.{nothing_continues}
use Rattle.odc_lookahead.specs.TypeParts.{names_line}
use Rattle.odc_lookahead.proofs.reading.Opening.{reach_opens, StartsWith}
use Rattle.odc_lookahead.proofs.reading.Reaching.{behind_token, behind_part}
use Rattle.odc_lookahead.proofs.reading.Leading.{same_depth, Led, led_done, first_is, without, at_rest}
use Rattle.odc_lookahead.proofs.reading.Answering.{Stepped, led_step, led_stuck}
use Rattle.odc_lookahead.proofs.reading.LineLemmas.{led_blocked}
use Rattle.odc_lookahead.proofs.reading.Samples as sample
use Rattle.odc_lookahead.specs.declared.tokens.Fit.TheVariants as fit

-- what is left of the names: a first one, and those behind it
abbrev pub Names : Type 0
Names = (Token × List Token) × (Token × Unit {0})

unfoldable pub more_names : Part Names
more_names c v = g.names (v.0.0 ∷ v.0.1) ∷ tok kind.Colon v.1.0 ∷ []

abbrev pub with_names : List Token → Names → List Token × (Token × Unit {0})
with_names xs v = (xs ++ v.0.0 ∷ v.0.1, v.1)

-- what has been read of the names
abbrev pub NamesAt : ℕ → List Token → List Token → List Token → Type 0
NamesAt b ts xs rest = Led names_line nothing_continues (λ n. n) b ts more_names (with_names xs) 0 rest

record FirstName (ns : List Token) : Type 0 where
  pub first : Token
  pub others : List Token
  pub is : ns ≡ first ∷ others

has_first : {ns : List Token} {p : List Sym} → Rule (g.names ns) p → FirstName ns
has_first (g.names_one {t = t}) = record { first = t; others = []; is = refl }
has_first (g.names_more {t = t} {u = u} {ts = ts}) = record { first = t; others = u ∷ ts; is = refl }

start_led : (b : ℕ) (ts : List Token) → NamesAt b ts [] ts
unfolding more_names
start_led b ts = record {
  short = omega arith;
  sample = ((sample.token, []), (sample.token, tt));
  comes = record { at = λ c h. record { value = (sample.token ∷ [], (sample.token, tt)); before = λ s. record { pending = _; rest = ts; rest_is = refl; reach = here } } };
  reads = λ c u h s. here;
  only = λ c w s s' ts' clear r h.
      let z = has_first (behind_part tt r h).rule in
      record {
        at = c;
        value = ((z.first, z.others), w.1);
        bound = refl;
        whole = ap (λ (l : List Token). (l, w.1)) z.is;
        deep = omega arith;
        reach = subst (λ (l : List Token). Reach s' ts' (g.names l ∷ tok kind.Colon w.1.0 ∷ s) ts) z.is r;
      };
}

pub names_start : (b : ℕ) (ts xs : List Token) → xs ≡ [] → NamesAt b ts xs ts
names_start b ts xs e = subst (λ (l : List Token). NamesAt b ts l ts) (sym e) (start_led b ts)

first_of_both : {t t' : Token} {us us' : List Token} → t ∷ us ≡ t' ∷ us' → t' ≡ t
first_of_both e = cc

rest_of_both : {t t' : Token} {us us' : List Token} → t ∷ us ≡ t' ∷ us' → us' ≡ us
rest_of_both e = cc

pub not_first : (k : TokenKind) (ts : List Token) → StartsWithout k ts → StartsWith k ts → ⊥
not_first k [] none on = on
not_first k (t ∷ ts) none on = none on

-- no name stands here
pub names_unnamed : (b : ℕ) (ts xs rest : List Token) → NamesAt b ts xs rest → StartsWithout kind.Name rest → Broken names_line nothing_continues b ts (length rest)
unfolding more_names
names_unnamed b ts xs rest led none = led_stuck (λ c u s s' ts' clear r h. not_first kind.Name rest none (reach_opens r h)) led

-- a name and a comma
again_by : {ns : List Token} {p : List Sym} (rule : Rule (g.names ns) p) (n c : Token) (after : List Token) → c.kind ≡ kind.Comma → (k : Token) (s s' : List Sym) (ts' : List Token) → Reach s' ts' (p ++ (tok kind.Colon k ∷ s)) (n ∷ c ∷ after) →
    size s' ts' ≤ 2 * length after → (b : ℕ) (u : Names) → ns ≡ u.0.0 ∷ u.0.1 → k ≡ u.1.0 → Stepped {U = Names} more_names (λ v. ((n, v.0.0 ∷ v.0.1), v.1)) b u s s' ts' after
unfolding more_names
again_by g.names_one n c after e k s s' ts' r h b u is same =
    let z = behind_token r (omega (arith, h)) in
    let bad : c.kind ≡ kind.Colon = reach_opens (at_rest z) (omega (arith, h)) in
    cc
again_by (g.names_more {t = t} {u = x} {ts = xs}) n c after e k s s' ts' r h b u is same =
    let z = behind_token r (omega (arith, h)) in
    let y = behind_token (at_rest z) (omega (arith, h)) in
    record {
      by = ((x, xs), (k, tt));
      is = λ i. (((first_of_both is ∙ first_is z.is) i, (rest_of_both is) i), (sym same i, tt));
      reach = at_rest y;
    }

names_again_led : (b : ℕ) (ts xs : List Token) (n c : Token) (after : List Token) → NamesAt b ts xs (n ∷ c ∷ after) → n.kind ≡ kind.Name → c.kind ≡ kind.Comma →
    Led names_line nothing_continues (λ n. n) b ts more_names (λ v. with_names xs ((n, v.0.0 ∷ v.0.1), v.1)) 0 after
unfolding more_names
names_again_led b ts xs n c after led e k =
    led_step after more_names (λ v. ((n, v.0.0 ∷ v.0.1), v.1)) ((sample.token, []), (sample.token, tt)) same_depth (omega arith) (omega arith) (λ c v s. write _ g.names_more (read e (read k here)))
    (λ c' u s s' ts' clear r h. let z = behind_part tt r (omega (arith, h)) in again_by z.rule n c after k u.1.0 s s' ts' z.reach h c' u refl refl) led

regroup : (b : ℕ) (ts xs : List Token) (n : Token) (after : List Token) → Led names_line nothing_continues (λ n. n) b ts more_names (λ v. with_names xs ((n, v.0.0 ∷ v.0.1), v.1)) 0 after → NamesAt b ts (xs ++ n ∷ []) after
regroup b ts xs n after led =
    subst (λ (f : Names → List Token × (Token × Unit {0})). Led names_line nothing_continues (λ n. n) b ts more_names f 0 after)
    (λ i. λ v. ((sym (append_assoc xs (n ∷ []) (v.0.0 ∷ v.0.1))) i, v.1)) led

pub names_again : (b : ℕ) (ts xs ys rest : List Token) (n c : Token) (us after : List Token) → NamesAt b ts xs rest → rest ≡ n ∷ us → n.kind ≡ kind.Name → us ≡ c ∷ after → c.kind ≡ kind.Comma → ys ≡ xs ++ n ∷ [] → NamesAt b ts ys after
names_again b ts xs ys rest n c us after led is e second k more =
    subst (λ (l : List Token). NamesAt b ts l after) (sym more)
    (regroup b ts xs n after (names_again_led b ts xs n c after (subst (λ (l : List Token). NamesAt b ts xs l) (is ∙ ap (λ (l : List Token). n ∷ l) second) led) e k))

-- a name and the colon
end_by : {ns : List Token} {p : List Sym} (rule : Rule (g.names ns) p) (n c : Token) (after : List Token) → c.kind ≡ kind.Colon → (k : Token) (s s' : List Sym) (ts' : List Token) → Reach s' ts' (p ++ (tok kind.Colon k ∷ s)) (n ∷ c ∷ after) →
    size s' ts' ≤ 2 * length after → (b : ℕ) (u : Names) → ns ≡ u.0.0 ∷ u.0.1 → k ≡ u.1.0 → Stepped {U = Names} done (λ v. ((n, []), (c, tt))) b u s s' ts' after
unfolding done
end_by g.names_one n c after e k s s' ts' r h b u is same =
    let z = behind_token r (omega (arith, h)) in
    let y = behind_token (at_rest z) (omega (arith, h)) in
    record { by = tt; is = λ i. (((first_of_both is ∙ first_is z.is) i, (rest_of_both is) i), ((sym same ∙ first_is y.is) i, tt)); reach = at_rest y }
end_by g.names_more n c after e k s s' ts' r h b u is same =
    let z = behind_token r (omega (arith, h)) in
    let bad : c.kind ≡ kind.Comma = reach_opens (at_rest z) (omega (arith, h)) in
    cc

names_end_led : (b : ℕ) (ts xs : List Token) (n c : Token) (after : List Token) → NamesAt b ts xs (n ∷ c ∷ after) → n.kind ≡ kind.Name → c.kind ≡ kind.Colon →
    Led names_line nothing_continues (λ n. n) b ts done (λ v. (xs ++ n ∷ [], (c, tt))) 0 after
unfolding more_names done
names_end_led b ts xs n c after led e k =
    led_step after done (λ v. ((n, []), (c, tt))) tt same_depth (omega arith) (omega arith) (λ c v s. write _ g.names_one (read e (read k here)))
    (λ c' u s s' ts' clear r h. let z = behind_part tt r (omega (arith, h)) in end_by z.rule n c after k u.1.0 s s' ts' z.reach h c' u refl refl) led

pub names_end : (b : ℕ) (ts xs ys rest : List Token) (n c : Token) (us after : List Token) → NamesAt b ts xs rest → rest ≡ n ∷ us → n.kind ≡ kind.Name → us ≡ c ∷ after → c.kind ≡ kind.Colon → ys ≡ xs ++ n ∷ [] →
    Found names_line nothing_continues b ts (ys, (c, tt)) 0 after
names_end b ts xs ys rest n c us after led is e second k more =
    subst (λ (l : List Token). Found names_line nothing_continues b ts (l, (c, tt)) 0 after) (sym more)
    (led_done same_depth (names_end_led b ts xs n c after (subst (λ (l : List Token). NamesAt b ts xs l) (is ∙ ap (λ (l : List Token). n ∷ l) second) led) e k))

-- a name, and neither behind it
neither : {ns : List Token} {p : List Sym} (rule : Rule (g.names ns) p) (n : Token) (us : List Token) → StartsWithout kind.Comma us → StartsWithout kind.Colon us → (k : Token) (s s' : List Sym) (ts' : List Token) → Reach s' ts' (p ++ (tok kind.Colon k ∷ s)) (n ∷ us) →
    size s' ts' ≤ 2 * length us → ⊥
neither g.names_one n us f o k s s' ts' r h = let z = behind_token r (omega (arith, h)) in let y = behind_token (at_rest z) h in without kind.Colon _ _ us y.is y.kind o
neither g.names_more n us f o k s s' ts' r h = let z = behind_token r (omega (arith, h)) in let y = behind_token (at_rest z) h in without kind.Comma _ _ us y.is y.kind f

neither_broken : (b : ℕ) (ts xs : List Token) (n : Token) (us : List Token) → NamesAt b ts xs (n ∷ us) → n.kind ≡ kind.Name → StartsWithout kind.Comma us → StartsWithout kind.Colon us → Broken names_line nothing_continues b ts (length us)
unfolding more_names
neither_broken b ts xs n us led e f o =
    led_blocked us ((n, []), (sample.token, tt)) same_depth (omega arith) (omega arith) (λ c s. (_, write _ g.names_one (read e here)))
    (λ c u s s' ts' clear r h. let z = behind_part tt r (omega (arith, h)) in neither z.rule n us f o u.1.0 s s' ts' z.reach h) led

pub names_refused : (b : ℕ) (ts xs rest : List Token) (n : Token) (us : List Token) (stop : Stop) → NamesAt b ts xs rest → rest ≡ n ∷ us → n.kind ≡ kind.Name → StartsWithout kind.Comma us → NotExpected kind.Colon fit.Within us stop →
    Exact names_line nothing_continues b ts (refused stop)
names_refused b ts xs rest n us (stop.Syntax left) led is e f h =
    subst (λ (k : ℕ). Broken names_line nothing_continues b ts k) (sym h.0) (neither_broken b ts xs n us (subst (λ (l : List Token). NamesAt b ts xs l) is led) e f h.1)
names_refused b ts xs rest n us (stop.Deep left) led is e f h = let bad : fit.Within ≡ fit.Over = h.over in cc
names_refused b ts xs rest n us stop.Memory led is e f h = elim h [ ]
