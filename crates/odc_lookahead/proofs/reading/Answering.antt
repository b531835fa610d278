-- The steps of `Leading` and `Chaining` in the forms that the parse functions' proofs use.
use Rattle.std.proofs.Common.{◌≡◌, ℕ, suc, ◌*◌, ◌<◌, ◌≤◌, max, Bool, true, false, List, [], ◌∷◌, ◌++◌, length, refl, sym, ◌∙◌, ap, subst, arith}
use Rattle.std.proofs.Math.Nat.{lt_of_not-le}
use Rattle.odc_syntax.specs.declared.token.Token.{Token}
use Rattle.odc_syntax.specs.declared.token.TokenKind.{TokenKind}
use Rattle.odc_syntax.specs.Grammar.{Sym, Rule}
use Rattle.odc_syntax.specs.Derives.{Reach, here, write}
use Rattle.odc_lookahead.specs.declared.stop.Stop.{Stop}
use Rattle.odc_lookahead.specs.declared.stop.Stop.TheVariants as stop
use Rattle.odc_lookahead.specs.Exact.{size, Clear, Part, one, ComesAt, Comes, Found, Broken, TooDeep, then_, token, Exact, Answer, Yes, Syntax, Deep, NoMemory}
use Rattle.odc_lookahead.specs.Read.{refused, NotExpected}
use Rattle.odc_lookahead.proofs.reading.Reaching.{along, moved, IsPart, behind_part}
use Rattle.odc_lookahead.proofs.reading.Leading.{Rises, same_depth, Pending, Led, led_token, part_broken, part_deep, token_missing, token_deep}
use Rattle.odc_lookahead.proofs.reading.Opening.{Opens, reach_opens}
use Rattle.odc_lookahead.proofs.reading.Chaining.{Spine, Chained, Chain, Unfolds, chain_broken, chain_tail_deep}
use Rattle.odc_lookahead.specs.declared.tokens.Fit.{Fit}
use Rattle.odc_lookahead.specs.declared.tokens.Fit.TheVariants as fit

pub moved_end : {a b : List Sym} {ts' : List Token} {s : List Sym} {ts : List Token} → a ≡ b → Reach a ts' s ts → Reach b ts' s ts
moved_end {a} {b} {ts'} {s} {ts} e r = subst (λ (l : List Sym). Reach l ts' s ts) e r

-- a production begins: the tokens leave no other
pub led_start : {V U : Type 0} {x : ℕ → V → Sym} {cont : TokenKind → Bool} {up : ℕ → ℕ} (b : ℕ) {ts : List Token} (g : Part U) (f : U → V) → U →
    ((c : ℕ) (v : V) → IsPart (x c v)) →
    ((c : ℕ) (u : U) → Rule (x (up c) (f u)) (g c u)) →
    ((c : ℕ) (w : V) (p : List Sym) → Rule (x c w) p → (s s' : List Sym) (ts' : List Token) → Reach s' ts' (p ++ s) ts → size s' ts' ≤ 2 * length ts → Clear cont s → Pending up g f 0 ts c w s s' ts') →
    Led (one x) cont up b ts g f 0 ts
led_start {V} {U} {x} {cont} {up} b {ts} g f sample part into split = record {
  short = omega arith;
  sample = sample;
  comes = record { at = λ c h. record { value = f sample; before = λ s. record { pending = x c (f sample) ∷ s; rest = ts; rest_is = refl; reach = here } } };
  reads = λ c u h s. write (g c u) (into c u) here;
  only = λ c w s s' ts' clear r h.
      let z = behind_part (part c w) r h in
      split c w z.as_symbols z.rule s s' ts' z.reach h clear;
}

-- what is left of a production is read as a whole
pub led_rest : {V U : Type 0} {p : Part V} {cont : TokenKind → Bool} {up : ℕ → ℕ} {b : ℕ} {ts : List Token} {g : Part U} {f : U → V} {n m : ℕ} {u : U} {rest rest' : List Token} →
    Rises up → Led p cont up b ts g f n rest → n ≤ b → Found g cont b rest u m rest' → Found p cont (up b) ts (f u) (up (max n m)) rest'
led_rest {V} {U} {p} {cont} {up} {b} {ts} {g} {f} {n} {m} {u} {rest} {rest'} rises l within found = record {
  short = let h = l.short in let k = found.short in omega (arith, h, k);
  comes = record {
    at = λ c h.
        let q = rises.pred b c h in
        let a = found.comes.at q.0 q.1.1 in
        subst (λ (m : ℕ). ComesAt p m ts (length rest')) (sym q.1.0) (record {
          value = f a.value;
          before = λ s.
              let z = a.before s in
              let k = q.1.1 in
              record { pending = z.pending; rest = z.rest; rest_is = z.rest_is; reach = along (l.reads q.0 a.value (omega (arith, within, k)) s) z.reach };
        });
  };
  reads = λ c h s.
      let q = rises.pred (max n m) c h in
      let k = q.1.1 in
      subst (λ (j : ℕ). Reach s rest' (p j (f u) ++ s) ts) (sym q.1.0) (along (l.reads q.0 u (omega (arith, k)) s) (found.reads q.0 (omega (arith, k)) s));
  only = λ c w s s' ts' clear r h.
      let k = found.short in
      let q = l.only c w s s' ts' clear r (omega (arith, h, k)) in
      let z = found.only q.at q.value s s' ts' clear q.reach h in
      record {
        value = q.whole ∙ ap f z.value;
        bound =
            let d = q.deep in
            let e = z.bound in
            let k = rises.le (max n m) q.at (omega (arith, d, e)) in
            let j = q.bound in
            omega (arith, k, j);
        reach = z.reach;
      };
}

-- the same where it isn't read
pub led_rest_refused : {V U : Type 0} {p : Part V} {cont : TokenKind → Bool} {up : ℕ → ℕ} {b : ℕ} {ts : List Token} {g : Part U} {f : U → V} {n : ℕ} {rest : List Token} (e : Stop) →
    Rises up → Led p cont up b ts g f n rest → n ≤ b → Exact g cont b rest (refused e) → Exact p cont (up b) ts (refused e)
led_rest_refused {V} {U} {p} {cont} {up} {b} {ts} {g} {f} {n} {rest} (stop.Syntax left) rises l within broken = record {
  short = let h = l.short in let k = broken.short in omega (arith, h, k);
  comes = record {
    at = λ c h.
        let q = rises.pred b c h in
        let a = broken.comes.at q.0 q.1.1 in
        subst (λ (m : ℕ). ComesAt p m ts left) (sym q.1.0) (record {
          value = f a.value;
          before = λ s.
              let z = a.before s in
              let k = q.1.1 in
              record { pending = z.pending; rest = z.rest; rest_is = z.rest_is; reach = along (l.reads q.0 a.value (omega (arith, within, k)) s) z.reach };
        });
  };
  none = λ c w s s' ts' clear r h.
      let k = broken.short in
      let q = l.only c w s s' ts' clear r (omega (arith, h, k)) in
      broken.none q.at q.value s s' ts' clear q.reach h;
}
led_rest_refused {V} {U} {p} {cont} {up} {b} {ts} {g} {f} {n} {rest} (stop.Deep left) rises l within deep = record {
  short = let h = l.short in let k = deep.short in omega (arith, h, k);
  comes = record {
    at = λ c h.
        let q = rises.pred b c h in
        let a = deep.comes.at q.0 q.1.1 in
        subst (λ (m : ℕ). ComesAt p m ts (suc left)) (sym q.1.0) (record {
          value = f a.value;
          before = λ s.
              let z = a.before s in
              let k = q.1.1 in
              record { pending = z.pending; rest = z.rest; rest_is = z.rest_is; reach = along (l.reads q.0 a.value (omega (arith, within, k)) s) z.reach };
        });
  };
  deep = λ c w s s' ts' clear r h.
      let k = deep.short in
      let q = l.only c w s s' ts' clear r (omega (arith, h, k)) in
      let d = rises.lt b q.at (deep.deep q.at q.value s s' ts' clear q.reach h) in
      let j = q.bound in
      omega (arith, d, j);
  depth = up (max n deep.depth);
  deeper = record {
    at = λ c h.
        let q = rises.pred (max n deep.depth) c h in
        let k = q.1.1 in
        let a = deep.deeper.at q.0 (omega (arith, k)) in
        subst (λ (m : ℕ). ComesAt p m ts left) (sym q.1.0) (record {
          value = f a.value;
          before = λ s.
              let z = a.before s in
              record { pending = z.pending; rest = z.rest; rest_is = z.rest_is; reach = along (l.reads q.0 a.value (omega (arith, k)) s) z.reach };
        });
  };
}
led_rest_refused stop.Memory rises l within h = tt

-- a part of a production isn't read
pub part_refused : {V U W : Type 0} {p : Part V} {cont : TokenKind → Bool} {up : ℕ → ℕ} {b : ℕ} {ts : List Token} (y : ℕ → W → Sym) (cont' : TokenKind → Bool) (g : Part U) {f : W × U → V} {n : ℕ} {rest : List Token} (e : Stop) →
    Rises up → Led p cont up b ts (then_ y g) f n rest → n ≤ b → Exact (one y) cont' b rest (refused e) →
    ((c : ℕ) (u : U) (s : List Sym) → Clear cont s → Clear cont' (g c u ++ s)) →
    Exact p cont (up b) ts (refused e)
part_refused y cont' g (stop.Syntax left) rises l within h clears = part_broken g rises l within h clears
part_refused y cont' g (stop.Deep left) rises l within h clears = part_deep g rises l within h clears
part_refused y cont' g stop.Memory rises l within h clears = tt

-- a token of a production isn't read
pub token_refused : {V U : Type 0} {p : Part V} {cont : TokenKind → Bool} {up : ℕ → ℕ} {b : ℕ} {ts : List Token} (k : TokenKind) (g : Part U) {f : Token × U → V} {n : ℕ} {rest : List Token} (e : Stop) (w : Fit) →
    Rises up → Led p cont up b ts (then_ (token k) g) f n rest → (w ≡ fit.Over → b < n) → NotExpected k w rest e → Exact p cont (up b) ts (refused e)
token_refused {p = p} {cont = cont} {up = up} {b = b} {ts = ts} k g (stop.Syntax left) w rises l over h =
    subst (λ (n : ℕ). Broken p cont (up b) ts n) (sym h.0) (token_missing k g l h.1)
token_refused {p = p} {cont = cont} {up = up} {b = b} {ts = ts} k g {f = f} {n = n} (stop.Deep left) w rises l over h =
    subst (λ (n : ℕ). TooDeep p cont (up b) ts n) (sym h.left_is)
    (token_deep k g rises (subst (λ (r : List Token). Led p cont up b ts (then_ (token k) g) f n r) h.is l) (over h.over) h.kind)
token_refused k g stop.Memory w rises l over h = elim h [ ]

-- a token is read
pub token_read : {V U : Type 0} {p : Part V} {cont : TokenKind → Bool} {up : ℕ → ℕ} {b : ℕ} {ts : List Token} {k : TokenKind} {g : Part U} {f : Token × U → V} {n : ℕ} {t : Token} {us rest : List Token} →
    Rises up → Led p cont up b ts (then_ (token k) g) f n rest → n ≤ b → rest ≡ t ∷ us → t.kind ≡ k → Led p cont up b ts g (λ u. f (t, u)) n us
token_read {p = p} {cont = cont} {up = up} {b = b} {ts = ts} {k = k} {g = g} {f = f} {n = n} rises l within is e =
    led_token rises (subst (λ (r : List Token). Led p cont up b ts (then_ (token k) g) f n r) is l) within e

at_most : (s : List Sym) (ts : List Token) → size s ts ≤ suc (2 * length ts)
at_most [] ts = omega arith
at_most (x ∷ s) ts = omega arith

pub nothing_read : (t : Token) (us : List Token) (s' : List Sym) (ts' : List Token) → Reach s' ts' [] (t ∷ us) → size s' ts' ≤ suc (2 * length us) → ⊥
nothing_read t us _ _ here n = omega (arith, n)

-- a tail of a chain isn't read
pub tail_refused : {V O : Type 0} {x item : ℕ → V → Sym} {tail : ℕ → O → Sym} {grow : V → O → V} {spine after : Spine V} {cont cont' : TokenKind → Bool} {b : ℕ} {ts : List Token} {v : V} {n : ℕ} {t : Token} {us rest : List Token} (e : Stop) →
    Chained x item tail grow spine after → Chain x spine cont (suc b) ts v n rest → n ≤ b → rest ≡ t ∷ us → cont t.kind ≡ true →
    Exact (one tail) cont' b rest (refused e) → ComesAt (one tail) 0 rest (length us) →
    ((c : ℕ) (w : V) (d : ℕ) (v : V) (q s : List Sym) → after c w d v q → Clear cont s → Clear cont' (q ++ s)) →
    Exact (one x) cont (suc b) ts (refused e)
tail_refused {cont' = cont'} {rest = rest} (stop.Syntax left) chained chain within is on h begins clears =
    chain_broken chained chain within is on h
    (let z = begins.before [] in
    let longer : length rest ≡ suc (length _) = ap length is in
    lt_of_not-le (λ k. h.none 0 begins.value [] z.pending z.rest (record { stops = λ t us s' ts' o r n. nothing_read t us s' ts' r n }) z.reach
    (let e = z.rest_is in let u = at_most z.pending z.rest in omega (arith, k, e, longer, u))))
    clears
tail_refused (stop.Deep left) chained chain within is on h begins clears = chain_tail_deep chained chain within is on h clears
tail_refused stop.Memory chained chain within is on h begins clears = tt

-- at the bound that is meant
pub bound_is : {V : Type 0} (p : Part V) (cont : TokenKind → Bool) (ts : List Token) (r : Answer V) {b d : ℕ} → d ≡ b → Exact p cont b ts r → Exact p cont d ts r
bound_is {V} p cont ts r {b} {d} e h = subst (λ (n : ℕ). Exact p cont n ts r) (sym e) h

-- what a function answers, in the words of its result
pub answer_is : {V : Type 0} {p : Part V} {cont : TokenKind → Bool} {b : ℕ} {ts : List Token} {v w : V} {n m : ℕ} {rest : List Token} → v ≡ w → n ≡ m →
    Found p cont b ts v n rest → Found p cont b ts w m rest
answer_is {V} {p} {cont} {b} {ts} {v} {w} {n} {m} {rest} e f h = subst (λ (x : V). Found p cont b ts x m rest) e (subst (λ (k : ℕ). Found p cont b ts v k rest) f h)

-- a part that cannot begin with the tokens
pub stuck_broken : {V : Type 0} (x : ℕ → V → Sym) {cont : TokenKind → Bool} {b : ℕ} {ts : List Token} → V → ((c : ℕ) (v : V) → Opens (x c v) ts → ⊥) → Broken (one x) cont b ts (length ts)
stuck_broken x {ts = ts} sample dead = record {
  short = omega arith;
  comes = record { at = λ c h. record { value = sample; before = λ s. record { pending = x c sample ∷ s; rest = ts; rest_is = refl; reach = here } } };
  none = λ c w s s' ts' clear r h. dead c w (reach_opens r h);
}

-- a production begins with this token, and no bound allows it
pub deep_start : {V U : Type 0} {p : Part V} {cont : TokenKind → Bool} {up : ℕ → ℕ} {b : ℕ} {ts : List Token} (k : TokenKind) (g : Part U) {f : Token × U → V} {t : Token} {us : List Token} (d : ℕ) →
    Rises up → Led p cont up b ts (then_ (token k) g) f 0 ts → ts ≡ t ∷ us → t.kind ≡ k → d < up 0 → Comes p d ts (length ts) → TooDeep p cont d ts (length us)
deep_start {p = p} {cont = cont} {up = up} {ts = ts} k g {f = f} {t = t} {us = us} d rises l is e below comes =
    let longer : length ts ≡ suc (length us) = ap length is in
    record {
      short = omega (arith, longer);
      comes = subst (λ (n : ℕ). Comes p d ts n) longer comes;
      deep = λ c w s s' ts' clear r h.
          let q = l.only c w s s' ts' clear r (omega (arith, h, longer)) in
          let j = rises.le 0 q.at (omega arith) in
          let i = q.bound in
          omega (arith, below, j, i);
      depth = up _;
      deeper = (token_read rises l (omega arith) is e).comes;
    }

-- the value of a part is that of another
pub led_same : {V : Type 0} {p g : Part V} {cont : TokenKind → Bool} {b : ℕ} {ts : List Token} → Led p cont (λ n. n) b ts g (λ v. v) 0 ts → (r : Answer V) → Exact g cont b ts r → Exact p cont b ts r
led_same l (Yes v n rest) h = answer_is refl (omega arith) (led_rest same_depth l (omega arith) h)
led_same l (Syntax left) h = led_rest_refused (stop.Syntax left) same_depth l (omega arith) h
led_same l (Deep left) h = led_rest_refused (stop.Deep left) same_depth l (omega arith) h
led_same l NoMemory h = tt

-- one is at the start
pub at_start : {V : Type 0} (x : ℕ → V → Sym) (b : ℕ) (ts : List Token) → V → Comes (one x) b ts (length ts)
at_start x b ts sample = record { at = λ c h. record { value = sample; before = λ s. record { pending = x c sample ∷ s; rest = ts; rest_is = refl; reach = here } } }

pub empty_broken : {V : Type 0} (x : ℕ → V → Sym) {cont : TokenKind → Bool} {b : ℕ} {ts : List Token} → ts ≡ [] → V → ((c : ℕ) (v : V) → Opens (x c v) [] → ⊥) → Broken (one x) cont b ts 0
empty_broken x {cont} {b} {ts} e sample dead = subst (λ (l : List Token). Broken (one x) cont b l 0) (sym e) (stuck_broken x sample dead)

-- what follows still stops
pub clear_as : {a b : TokenKind → Bool} {s : List Sym} → b ≡ a → Clear a s → Clear b s
clear_as {a} {b} {s} e clear = subst (λ (k : TokenKind → Bool). Clear k s) (sym e) clear

-- a production is read as far as some tokens that were looked at
pub led_at : {V U : Type 0} {x : ℕ → V → Sym} {cont : TokenKind → Bool} {up : ℕ → ℕ} (b : ℕ) {ts : List Token} (rest : List Token) (g : Part U) (f : U → V) → U → length rest ≤ length ts → Rises up →
    ((c : ℕ) (v : V) → IsPart (x c v)) →
    ((c : ℕ) (u : U) (s : List Sym) → Reach (g c u ++ s) rest (x (up c) (f u) ∷ s) ts) →
    ((c : ℕ) (w : V) (p : List Sym) → Rule (x c w) p → (s s' : List Sym) (ts' : List Token) → Reach s' ts' (p ++ s) ts → size s' ts' ≤ 2 * length rest → Clear cont s → Pending up g f 0 rest c w s s' ts') →
    Led (one x) cont up b ts g f 0 rest
led_at {V} {U} {x} {cont} {up} b {ts} rest g f sample short rises part into split = record {
  short = short;
  sample = sample;
  comes = record {
    at = λ c h.
        let q = rises.pred b c h in
        subst (λ (m : ℕ). ComesAt (one x) m ts (length rest)) (sym q.1.0) (record { value = f sample; before = λ s. record { pending = g q.0 sample ++ s; rest = rest; rest_is = refl; reach = into q.0 sample s } });
  };
  reads = λ c u h s. into c u s;
  only = λ c w s s' ts' clear r h.
      let z = behind_part (part c w) r (omega (arith, h, short)) in
      split c w z.as_symbols z.rule s s' ts' z.reach h clear;
}

-- the tokens leave only some of what is pending
pub led_narrow : {V U W : Type 0} {p : Part V} {cont : TokenKind → Bool} {up : ℕ → ℕ} {b : ℕ} {ts : List Token} {g : Part U} {f : U → V} {n : ℕ} {rest : List Token} (h : Part W) (i : W → U) → W →
    ((c : ℕ) (w : W) → h c w ≡ g c (i w)) →
    ((c : ℕ) (u : U) (s s' : List Sym) (ts' : List Token) → Clear cont s → Reach s' ts' (g c u ++ s) rest → size s' ts' ≤ 2 * length rest → (w : W) × (u ≡ i w)) →
    Led p cont up b ts g f n rest → Led p cont up b ts h (λ w. f (i w)) n rest
led_narrow {V} {U} {W} {p} {cont} {up} {b} {ts} {g} {f} {n} {rest} h i sample same only l = record {
  short = l.short;
  sample = sample;
  comes = l.comes;
  reads = λ c w k s. moved_end (ap (λ (q : List Sym). q ++ s) (sym (same c w))) (l.reads c (i w) k s);
  only = λ c w s s' ts' clear r k.
      let q = l.only c w s s' ts' clear r k in
      let z = only q.at q.value s s' ts' clear q.reach k in
      record {
        at = q.at;
        value = z.0;
        bound = q.bound;
        whole = q.whole ∙ ap f z.1;
        deep = q.deep;
        reach = moved (ap (λ (q : List Sym). q ++ s) (ap (g q.at) z.1 ∙ sym (same q.at z.0))) q.reach;
      };
}

-- nothing that is pending can go on
pub led_stuck : {V U : Type 0} {p : Part V} {cont : TokenKind → Bool} {up : ℕ → ℕ} {b : ℕ} {ts : List Token} {g : Part U} {f : U → V} {n : ℕ} {rest : List Token} →
    ((c : ℕ) (u : U) (s s' : List Sym) (ts' : List Token) → Clear cont s → Reach s' ts' (g c u ++ s) rest → size s' ts' ≤ 2 * length rest → ⊥) →
    Led p cont up b ts g f n rest → Broken p cont (up b) ts (length rest)
led_stuck dead l = record {
  short = l.short;
  comes = l.comes;
  none = λ c w s s' ts' clear r k. let q = l.only c w s s' ts' clear r k in dead q.at q.value s s' ts' clear q.reach k;
}

-- something that is pending can go on, but what was read is already too deep
pub led_over : {V U : Type 0} {p : Part V} {cont : TokenKind → Bool} {up : ℕ → ℕ} {b : ℕ} {ts : List Token} {g : Part U} {f : U → V} {n : ℕ} {rest us : List Token} {t : Token} → Rises up → rest ≡ t ∷ us → b < n →
    ((c : ℕ) → (u : U) × ((s : List Sym) → (q : List Sym) × Reach q us (g c u ++ s) rest)) →
    Led p cont up b ts g f n rest → TooDeep p cont (up b) ts (length us)
led_over {V} {U} {p} {cont} {up} {b} {ts} {g} {f} {n} {rest} {us} {t} rises is over goes l =
    let longer : length rest ≡ suc (length us) = ap length is in
    record {
      short = let h = l.short in omega (arith, h, longer);
      comes = subst (λ (k : ℕ). Comes p (up b) ts k) longer l.comes;
      deep = λ c w s s' ts' clear r h.
          let q = l.only c w s s' ts' clear r (omega (arith, h, longer)) in
          let d = q.deep in
          let k = rises.lt b q.at (omega (arith, d, over)) in
          let j = q.bound in
          omega (arith, k, j);
      depth = up n;
      deeper = record {
        at = λ c h.
            let q = rises.pred n c h in
            let z = goes q.0 in
            subst (λ (m : ℕ). ComesAt p m ts (length us)) (sym q.1.0) (record {
              value = f z.0;
              before = λ s. let y = z.1 s in record { pending = y.0; rest = us; rest_is = refl; reach = along (l.reads q.0 z.0 q.1.1 s) y.1 };
            });
      };
    }

pub record Stepped {U W : Type 0} (h : Part W) (i : W → U) (c : ℕ) (u : U) (s s' : List Sym) (ts' rest' : List Token) : Type 0 where
  pub by : W
  pub is : u ≡ i by
  pub reach : Reach s' ts' (h c by ++ s) rest'

-- the tokens leave only this way on
pub led_step : {V U W : Type 0} {p : Part V} {cont : TokenKind → Bool} {up : ℕ → ℕ} {b : ℕ} {ts : List Token} {g : Part U} {f : U → V} {n : ℕ} {rest : List Token} (rest' : List Token) (h : Part W) (i : W → U) → W →
    Rises up → n ≤ b → length rest' ≤ length rest →
    ((c : ℕ) (w : W) (s : List Sym) → Reach (h c w ++ s) rest' (g c (i w) ++ s) rest) →
    ((c : ℕ) (u : U) (s s' : List Sym) (ts' : List Token) → Clear cont s → Reach s' ts' (g c u ++ s) rest → size s' ts' ≤ 2 * length rest' → Stepped h i c u s s' ts' rest') →
    Led p cont up b ts g f n rest → Led p cont up b ts h (λ w. f (i w)) n rest'
led_step {V} {U} {W} {p} {cont} {up} {b} {ts} {g} {f} {n} {rest} rest' h i sample rises within shorter into only l = record {
  short = let k = l.short in omega (arith, k, shorter);
  sample = sample;
  comes = record {
    at = λ c k.
        let q = rises.pred b c k in
        let j = q.1.1 in
        subst (λ (m : ℕ). ComesAt p m ts (length rest')) (sym q.1.0) (record {
          value = f (i sample);
          before = λ s. record { pending = h q.0 sample ++ s; rest = rest'; rest_is = refl; reach = along (l.reads q.0 (i sample) (omega (arith, within, j)) s) (into q.0 sample s) };
        });
  };
  reads = λ c w k s. along (l.reads c (i w) k s) (into c w s);
  only = λ c w s s' ts' clear r k.
      let q = l.only c w s s' ts' clear r (omega (arith, k, shorter)) in
      let z = only q.at q.value s s' ts' clear q.reach k in
      record { at = q.at; value = z.by; bound = q.bound; whole = q.whole ∙ ap f z.is; deep = q.deep; reach = z.reach };
}

-- the first item of a chain isn't read
pub first_refused : {V : Type 0} (x item : ℕ → V → Sym) (spine : Spine V) {cont : TokenKind → Bool} (cont' : TokenKind → Bool) (b : ℕ) (ts : List Token) (e : Stop) →
    ((c : ℕ) (w : V) (d : ℕ) (v : V) (q : List Sym) → spine c w d v q → (ts : List Token) (s : List Sym) → Reach (item d v ∷ (q ++ s)) ts (x c w ∷ s) ts) →
    ((c : ℕ) (w : V) (s s' : List Sym) (ts' : List Token) → Reach s' ts' (x c w ∷ s) ts → size s' ts' ≤ 2 * length ts → Unfolds item spine s' ts' c w s ts) →
    ((c : ℕ) (v : V) → spine c v c v []) →
    ((c : ℕ) (w : V) (d : ℕ) (v : V) (q : List Sym) → spine c w d v q → d ≤ c) →
    ((c : ℕ) (w : V) (d : ℕ) (v : V) (q s : List Sym) → spine c w d v q → Clear cont s → Clear cont' (q ++ s)) →
    Exact (one item) cont' b ts (refused e) → Exact (one x) cont b ts (refused e)
first_refused x item spine cont' b ts (stop.Syntax left) folds unfolds root below clears broken = record {
  short = broken.short;
  comes = record {
    at = λ c h.
        let a = broken.comes.at c h in
        record {
          value = a.value;
          before = λ s.
              let z = a.before s in
              record { pending = z.pending; rest = z.rest; rest_is = z.rest_is; reach = along (folds c a.value c a.value [] (root c a.value) ts s) z.reach };
        };
  };
  none = λ c w s s' ts' clear r h.
      let k = broken.short in
      let z = unfolds c w s s' ts' r (omega (arith, h, k)) in
      broken.none z.at z.value (z.tails ++ s) s' ts' (clears c w z.at z.value z.tails s z.is clear) z.reach h;
}
first_refused x item spine cont' b ts (stop.Deep left) folds unfolds root below clears deep = record {
  short = deep.short;
  comes = record {
    at = λ c h.
        let a = deep.comes.at c h in
        record {
          value = a.value;
          before = λ s.
              let z = a.before s in
              record { pending = z.pending; rest = z.rest; rest_is = z.rest_is; reach = along (folds c a.value c a.value [] (root c a.value) ts s) z.reach };
        };
  };
  deep = λ c w s s' ts' clear r h.
      let k = deep.short in
      let z = unfolds c w s s' ts' r (omega (arith, h, k)) in
      let d = deep.deep z.at z.value (z.tails ++ s) s' ts' (clears c w z.at z.value z.tails s z.is clear) z.reach h in
      let e = below c w z.at z.value z.tails z.is in
      omega (arith, d, e);
  depth = deep.depth;
  deeper = record {
    at = λ c h.
        let a = deep.deeper.at c h in
        record {
          value = a.value;
          before = λ s.
              let z = a.before s in
              record { pending = z.pending; rest = z.rest; rest_is = z.rest_is; reach = along (folds c a.value c a.value [] (root c a.value) ts s) z.reach };
        };
  };
}
first_refused x item spine cont' b ts stop.Memory folds unfolds root below clears h = tt

-- what may follow is wider
pub wider_exact : {V : Type 0} (p : Part V) {a b : TokenKind → Bool} (d : ℕ) (ts : List Token) (r : Answer V) → ((s : List Sym) → Clear b s → Clear a s) → Exact p a d ts r → Exact p b d ts r
wider_exact p d ts (Yes v n rest) f h = record { short = h.short; comes = h.comes; reads = h.reads; only = λ c w s s' ts' clear r k. h.only c w s s' ts' (f s clear) r k }
wider_exact p d ts (Syntax left) f h = record { short = h.short; comes = h.comes; none = λ c w s s' ts' clear r k. h.none c w s s' ts' (f s clear) r k }
wider_exact p d ts (Deep left) f h = record { short = h.short; comes = h.comes; deep = λ c w s s' ts' clear r k. h.deep c w s s' ts' (f s clear) r k; depth = h.depth; deeper = h.deeper }
wider_exact p d ts NoMemory f h = tt
