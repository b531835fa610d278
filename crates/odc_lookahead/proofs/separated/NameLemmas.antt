-- Names between commas.
use Rattle.std.proofs.Common.{◌≡◌, ℕ, suc, ◌*◌, ◌≤◌, true, List, [], ◌∷◌, ◌++◌, length, refl, sym, ◌∙◌, ap, subst, arith, append_assoc}
use Rattle.odc_syntax.specs.declared.token.Token.{Token}
use Rattle.odc_syntax.specs.declared.token.TokenKind.TheVariants as kind
use Rattle.odc_syntax.specs.Grammar.{Sym, tok, Rule, names_one, names_more}
use Rattle.odc_syntax.specs.Grammar as g
use Rattle.odc_syntax.specs.Derives.{Reach, here, read, write, StartsWithout}
use Rattle.odc_lookahead.specs.declared.stop.Stop.{Stop}
use Rattle.odc_lookahead.specs.declared.stop.Stop.TheVariants as stop
use Rattle.odc_lookahead.specs.Exact.{size, Clear, one, ComesWith, ComesAt, Comes, done, Exact, Found, Broken}
use Rattle.odc_lookahead.specs.Read.{refused, NotExpected}
use Rattle.odc_lookahead.specs.stmts.DeclarationParts.{name_list, continues_names}
use Rattle.odc_lookahead.proofs.reading.Reaching.{behind_part, behind_token}
use Rattle.odc_lookahead.proofs.reading.Leading.{same_depth, Pending, Led, led_done, first_is, without, at_rest}
use Rattle.odc_lookahead.proofs.reading.Answering.{led_step, led_stuck, Stepped, answer_is}
use Rattle.odc_lookahead.proofs.reading.Samples as sample
use Rattle.odc_lookahead.specs.declared.tokens.Fit.TheVariants as fit

-- names of which there is a first
abbrev pub some_names : ℕ → Token × List Token → Sym
some_names c u = g.names (u.0 ∷ u.1)

-- names that were read, in front of others
abbrev onto_names : List Token → Token × List Token → List Token
onto_names xs u = xs ++ u.0 ∷ u.1

-- what has been read of a list of names
abbrev pub NamesAt : ℕ → List Token → List Token → List Token → Type 0
NamesAt b ts xs rest = Led (one name_list) continues_names (λ n. n) b ts (one some_names) (onto_names xs) 0 rest

start_by : {s' : List Sym} {ts' : List Token} (ts : List Token) (c : ℕ) (w : List Token) (p : List Sym) → Rule (g.names w) p → (s : List Sym) → Reach s' ts' (g.names w ∷ s) ts → Pending (λ n. n) (one some_names) (onto_names []) 0 ts c w s s' ts'
start_by ts c w p (names_one {t = t}) s r = record { at = c; value = (t, []); bound = refl; whole = refl; deep = omega arith; reach = r }
start_by ts c w p (names_more {t = t} {u = u} {ts = us}) s r = record { at = c; value = (t, u ∷ us); bound = refl; whole = refl; deep = omega arith; reach = r }

pub names_start : (b : ℕ) (ts xs : List Token) → xs ≡ [] → NamesAt b ts xs ts
names_start b ts xs is = subst (λ (l : List Token). NamesAt b ts l ts) (sym is) (record {
  short = omega arith;
  sample = (sample.token, []);
  comes = record { at = λ c h. record { value = sample.token ∷ []; before = λ s. record { pending = g.names (sample.token ∷ []) ∷ s; rest = ts; rest_is = refl; reach = here } } };
  reads = λ c u h s. here;
  only = λ c w s s' ts' clear r h. let z = behind_part tt r h in start_by ts c w z.as_symbols z.rule s r;
})

-- a name and a comma
comma_by : {s' : List Sym} {ts' : List Token} (t k : Token) (us : List Token) → k.kind ≡ kind.Comma → (c : ℕ) (u : Token × List Token) (p : List Sym) → Rule (g.names (u.0 ∷ u.1)) p → (s : List Sym) → Clear continues_names s → Reach s' ts' (p ++ s) (t ∷ k ∷ us) →
    size s' ts' ≤ 2 * length us → Stepped (one some_names) (λ u. (t, u.0 ∷ u.1)) c u s s' ts' us
comma_by t k us e c u p names_one s clear r h =
    let z = behind_token r (omega (arith, h)) in
    absurd (clear.stops k us _ _ (ap continues_names e) (at_rest z) (omega (arith, h)))
comma_by t k us e c u p (names_more {t = x} {u = y} {ts = l}) s clear r h =
    let z = behind_token r (omega (arith, h)) in
    let v = behind_token (at_rest z) (omega (arith, h)) in
    record { by = (y, l); is = ap (λ (x : Token). (x, y ∷ l)) (first_is z.is); reach = at_rest v }

pub names_again : (b : ℕ) (ts xs ys : List Token) (rest : List Token) (t k : Token) (behind us : List Token) → NamesAt b ts xs rest → rest ≡ t ∷ behind → t.kind ≡ kind.Name → behind ≡ k ∷ us → k.kind ≡ kind.Comma → ys ≡ xs ++ t ∷ [] → NamesAt b ts ys us
names_again b ts xs ys rest t k behind us led is e then' f more =
    subst (λ (l : List Token). NamesAt b ts l us) (sym more)
    (subst (λ (f : Token × List Token → List Token). Led (one name_list) continues_names (λ n. n) b ts (one some_names) f 0 us) (λ i. λ u. (sym (append_assoc xs (t ∷ []) (u.0 ∷ u.1))) i)
    (led_step us (one some_names) (λ u. (t, u.0 ∷ u.1)) (sample.token, []) same_depth (omega arith) (omega arith)
    (λ c w s. write _ (names_more {t = t} {c = k}) (read e (read f here)))
    (λ c u s s' ts' clear r h. let z = behind_part tt r (omega (arith, h)) in comma_by t k us f c u z.as_symbols z.rule s clear z.reach h)
    (subst (λ (l : List Token). NamesAt b ts xs l) (is ∙ ap (λ (l : List Token). t ∷ l) then') led)))

-- a name, and no comma
end_by : {s' : List Sym} {ts' : List Token} (t : Token) (us : List Token) → StartsWithout kind.Comma us → (c : ℕ) (u : Token × List Token) (p : List Sym) → Rule (g.names (u.0 ∷ u.1)) p → (s : List Sym) → Reach s' ts' (p ++ s) (t ∷ us) →
    size s' ts' ≤ 2 * length us → Stepped done (λ x. (t, [])) c u s s' ts' us
unfolding done
end_by t us open' c u p names_one s r h = let z = behind_token r (omega (arith, h)) in record { by = tt; is = ap (λ (x : Token). (x, [])) (first_is z.is); reach = at_rest z }
end_by t us open' c u p names_more s r h =
    let z = behind_token r (omega (arith, h)) in
    let y = behind_token (at_rest z) h in
    absurd (without kind.Comma _ _ us y.is y.kind open')

pub names_answer : (b : ℕ) (ts xs ys : List Token) (rest : List Token) (t : Token) (us : List Token) → NamesAt b ts xs rest → rest ≡ t ∷ us → t.kind ≡ kind.Name → StartsWithout kind.Comma us → ys ≡ xs ++ t ∷ [] → Found (one name_list) continues_names b ts ys 0 us
unfolding done
names_answer b ts xs ys rest t us led is e open' more =
    answer_is (sym more) refl
    (led_done same_depth
    (led_step us done (λ x. (t, [])) tt same_depth (omega arith) (omega arith) (λ c w s. write _ names_one (read e here))
    (λ c u s s' ts' clear r h. let z = behind_part tt r (omega (arith, h)) in end_by t us open' c u z.as_symbols z.rule s z.reach h)
    (subst (λ (l : List Token). NamesAt b ts xs l) is led)))

-- no name
stuck_by : {s' : List Sym} {ts' : List Token} (ts : List Token) → StartsWithout kind.Name ts → (u : Token × List Token) (p : List Sym) → Rule (g.names (u.0 ∷ u.1)) p → (s : List Sym) → Reach s' ts' (p ++ s) ts → size s' ts' ≤ 2 * length ts → ⊥
stuck_by ts open' u p names_one s r h = let z = behind_token r h in without kind.Name _ _ ts z.is z.kind open'
stuck_by ts open' u p names_more s r h = let z = behind_token r h in without kind.Name _ _ ts z.is z.kind open'

pub names_refused : (b : ℕ) (ts xs rest : List Token) (e : Stop) → NamesAt b ts xs rest → NotExpected kind.Name fit.Within rest e → Exact (one name_list) continues_names b ts (refused e)
names_refused b ts xs rest (stop.Syntax left) led h =
    subst (λ (n : ℕ). Broken (one name_list) continues_names b ts n) (sym h.0) (led_stuck (λ c u s s' ts' clear r k. let z = behind_part tt r k in stuck_by rest h.1 u z.as_symbols z.rule s z.reach k) led)
names_refused b ts xs rest (stop.Deep left) led h = let bad = h.over in cc
names_refused b ts xs rest stop.Memory led h = tt

-- the first of the names is the first token
pub record NameHead (ns : List Token) (t : Token) : Type 0 where
  pub others : List Token
  pub is : ns ≡ t ∷ others

head_by : {s' : List Sym} {ts' : List Token} (ns : List Token) (t : Token) (us : List Token) (p : List Sym) → Rule (g.names ns) p → (s : List Sym) → Reach s' ts' (p ++ s) (t ∷ us) → size s' ts' ≤ 2 * length (t ∷ us) → NameHead ns t
head_by ns t us p names_one s r h = let z = behind_token r h in record { others = []; is = ap (λ (x : Token). x ∷ []) (first_is z.is) }
head_by ns t us p (names_more {u = u} {ts = l}) s r h = let z = behind_token r h in record { others = u ∷ l; is = ap (λ (x : Token). x ∷ u ∷ l) (first_is z.is) }

pub name_head : (b : ℕ) (ts ns : List Token) (n : ℕ) (rest : List Token) (t : Token) (us : List Token) → ts ≡ t ∷ us → Found (one name_list) continues_names b ts ns n rest → NameHead ns t
name_head b ts ns n rest t us is found =
    let r : Reach [] rest (g.names ns ∷ []) (t ∷ us) = subst (λ (l : List Token). Reach [] rest (g.names ns ∷ []) l) is (found.reads n (omega arith) []) in
    let k = found.short in
    let longer : length ts ≡ suc (length us) = ap length is in
    let z = behind_part tt r (omega (arith, k, longer)) in
    head_by ns t us z.as_symbols z.rule [] z.reach (omega (arith, k, longer))

-- what is said of names of which there is a first
no_names_here : {s s' : List Sym} {ts ts' : List Token} → Reach s' ts' (g.names [] ∷ s) ts → length ts ≡ length ts'
no_names_here here = refl
no_names_here (write p w r) = elim w [ ]

some_at : (c : ℕ) (ts : List Token) (left : ℕ) (v : List Token) → ((s : List Sym) → ComesWith (one name_list) c ts left v s) → ComesAt (one some_names) c ts left
some_at c ts left (t ∷ ns) before = record { value = (t, ns); before = λ s. let z = before s in record { pending = z.pending; rest = z.rest; rest_is = z.rest_is; reach = z.reach } }
some_at c ts left [] before = record {
  value = (sample.token, []);
  before = λ s. let z = before s in record { pending = some_names c (sample.token, []) ∷ s; rest = ts; rest_is = no_names_here z.reach ∙ z.rest_is; reach = here };
}

some_comes : (b : ℕ) (ts : List Token) (left : ℕ) → Comes (one name_list) b ts left → Comes (one some_names) b ts left
some_comes b ts left comes = record { at = λ c h. let a = comes.at c h in some_at c ts left a.value a.before }

pub some_names_found : (b : ℕ) (ts ns : List Token) (n : ℕ) (rest : List Token) (t : Token) → (z : NameHead ns t) → Found (one name_list) continues_names b ts ns n rest → Found (one some_names) continues_names b ts (t, z.others) n rest
some_names_found b ts ns n rest t z found = record {
  short = found.short;
  comes = some_comes b ts (length rest) found.comes;
  reads = λ c h s. subst (λ (l : List Token). Reach s rest (g.names l ∷ s) ts) z.is (found.reads c h s);
  only = λ c w s s' ts' clear r h.
      let y = found.only c (w.0 ∷ w.1) s s' ts' clear r h in
      let same : w.0 ∷ w.1 ≡ t ∷ z.others = y.value ∙ z.is in
      let first : w.0 ≡ t = cc in
      let others : w.1 ≡ z.others = cc in
      record { value = λ i. (first i, others i); bound = y.bound; reach = y.reach };
}

pub some_names_refused : (b : ℕ) (ts : List Token) (e : Stop) → Exact (one name_list) continues_names b ts (refused e) → Exact (one some_names) continues_names b ts (refused e)
some_names_refused b ts (stop.Syntax left) h = record { short = h.short; comes = some_comes b ts left h.comes; none = λ c w s s' ts' clear r k. h.none c (w.0 ∷ w.1) s s' ts' clear r k }
some_names_refused b ts (stop.Deep left) h = record {
  short = h.short;
  comes = some_comes b ts (suc left) h.comes;
  deep = λ c w s s' ts' clear r k. h.deep c (w.0 ∷ w.1) s s' ts' clear r k;
  depth = h.depth;
  deeper = some_comes h.depth ts left h.deeper;
}
some_names_refused b ts stop.Memory h = tt
