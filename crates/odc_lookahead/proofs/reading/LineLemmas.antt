-- Steps of a production that read several symbols at once.
use Rattle.std.proofs.Common.{ℕ, ◌*◌, ◌≤◌, max, Bool, List, ◌++◌, length, refl, sym, ◌∙◌, ap, subst, arith, append_assoc}
use Rattle.odc_syntax.specs.declared.token.Token.{Token}
use Rattle.odc_syntax.specs.declared.token.TokenKind.{TokenKind}
use Rattle.odc_syntax.specs.Grammar.{Sym}
use Rattle.odc_syntax.specs.Derives.{Reach, here}
use Rattle.odc_lookahead.specs.declared.stop.Stop.{Stop}
use Rattle.odc_lookahead.specs.declared.stop.Stop.TheVariants as stop
use Rattle.odc_lookahead.specs.Exact.{size, Clear, Part, ComesAt, Comes, behind, Exact, Found, Broken}
use Rattle.odc_lookahead.specs.Read.{refused}
use Rattle.odc_lookahead.proofs.reading.Reaching.{along, moved}
use Rattle.odc_lookahead.proofs.reading.Leading.{Rises, Led}

comes_up : {V : Type 0} {p : Part V} {up : ℕ → ℕ} {ts : List Token} {left d : ℕ} → Rises up → ((c : ℕ) → d ≤ c → ComesAt p (up c) ts left) → Comes p (up d) ts left
comes_up {V} {p} {up} {ts} {left} {d} rises f = record { at = λ c h. let q = rises.pred d c h in subst (λ (m : ℕ). ComesAt p m ts left) (sym q.1.0) (f q.0 q.1.1) }

-- nothing has been read yet
pub led_whole : {V : Type 0} (p : Part V) (cont : TokenKind → Bool) (b : ℕ) (ts : List Token) → V → Led p cont (λ n. n) b ts p (λ v. v) 0 ts
led_whole p cont b ts sample = record {
  short = omega arith;
  sample = sample;
  comes = record { at = λ c h. record { value = sample; before = λ s. record { pending = p c sample ++ s; rest = ts; rest_is = refl; reach = here } } };
  reads = λ c u h s. here;
  only = λ c w s s' ts' clear r h. record { at = c; value = w; bound = refl; whole = refl; deep = omega arith; reach = r };
}

-- a part of several symbols is read
pub led_behind : {V U W : Type 0} {p : Part V} {cont cont' : TokenKind → Bool} {up : ℕ → ℕ} {b : ℕ} {ts : List Token} {y : Part W} {g : Part U} {f : W × U → V} {n m : ℕ} {v : W} {rest rest' : List Token} →
    Rises up → Led p cont up b ts (behind y g) f n rest → n ≤ b → Found y cont' b rest v m rest' → ((c : ℕ) (u : U) (s : List Sym) → Clear cont' (g c u ++ s)) →
    Led p cont up b ts g (λ u. f (v, u)) (max n m) rest'
unfolding behind
led_behind {V} {U} {W} {p} {cont} {cont'} {up} {b} {ts} {y} {g} {f} {n} {m} {v} {rest} {rest'} rises l within found clears = record {
  short = let h = l.short in let k = found.short in omega (arith, h, k);
  sample = l.sample.1;
  comes = comes_up rises (λ c h.
      let a = found.comes.at c h in
      record {
        value = f (a.value, l.sample.1);
        before = λ s.
            let z = a.before (g c l.sample.1 ++ s) in
            record {
              pending = z.pending;
              rest = z.rest;
              rest_is = z.rest_is;
              reach = along (l.reads c (a.value, l.sample.1) (omega (arith, within, h)) s) (moved (sym (append_assoc (y c a.value) (g c l.sample.1) s)) z.reach);
            };
      });
  reads = λ c u h s. along (l.reads c (v, u) (omega (arith, h)) s) (moved (sym (append_assoc (y c v) (g c u) s)) (found.reads c (omega (arith, h)) (g c u ++ s)));
  only = λ c w s s' ts' clear r h.
      let k = found.short in
      let q = l.only c w s s' ts' clear r (omega (arith, h, k)) in
      let z = found.only q.at q.value.0 (g q.at q.value.1 ++ s) s' ts' (clears q.at q.value.1 s) (moved (append_assoc (y q.at q.value.0) (g q.at q.value.1) s) q.reach) h in
      record {
        at = q.at;
        value = q.value.1;
        bound = q.bound;
        whole = q.whole ∙ ap (λ (x : W). f (x, q.value.1)) z.value;
        deep = let d = q.deep in let e = z.bound in omega (arith, d, e);
        reach = z.reach;
      };
}

-- the same where it isn't read
pub behind_refused : {V U W : Type 0} {p : Part V} {cont : TokenKind → Bool} (cont' : TokenKind → Bool) {up : ℕ → ℕ} {b : ℕ} {ts : List Token} (y : Part W) (g : Part U) {f : W × U → V} {n : ℕ} {rest : List Token} (e : Stop) →
    Rises up → Led p cont up b ts (behind y g) f n rest → n ≤ b → Exact y cont' b rest (refused e) → ((c : ℕ) (u : U) (s : List Sym) → Clear cont' (g c u ++ s)) → Exact p cont (up b) ts (refused e)
unfolding behind
behind_refused {V} {U} {W} {p} {cont} cont' {up} {b} {ts} y g {f} {n} {rest} (stop.Syntax left) rises l within broken clears = record {
  short = let h = l.short in let k = broken.short in omega (arith, h, k);
  comes = comes_up rises (λ c h.
      let a = broken.comes.at c h in
      record {
        value = f (a.value, l.sample.1);
        before = λ s.
            let z = a.before (g c l.sample.1 ++ s) in
            record {
              pending = z.pending;
              rest = z.rest;
              rest_is = z.rest_is;
              reach = along (l.reads c (a.value, l.sample.1) (omega (arith, within, h)) s) (moved (sym (append_assoc (y c a.value) (g c l.sample.1) s)) z.reach);
            };
      });
  none = λ c w s s' ts' clear r h.
      let k = broken.short in
      let q = l.only c w s s' ts' clear r (omega (arith, h, k)) in
      broken.none q.at q.value.0 (g q.at q.value.1 ++ s) s' ts' (clears q.at q.value.1 s) (moved (append_assoc (y q.at q.value.0) (g q.at q.value.1) s) q.reach) h;
}
behind_refused {V} {U} {W} {p} {cont} cont' {up} {b} {ts} y g {f} {n} {rest} (stop.Deep left) rises l within deep clears = record {
  short = let h = l.short in let k = deep.short in omega (arith, h, k);
  comes = comes_up rises (λ c h.
      let a = deep.comes.at c h in
      record {
        value = f (a.value, l.sample.1);
        before = λ s.
            let z = a.before (g c l.sample.1 ++ s) in
            record {
              pending = z.pending;
              rest = z.rest;
              rest_is = z.rest_is;
              reach = along (l.reads c (a.value, l.sample.1) (omega (arith, within, h)) s) (moved (sym (append_assoc (y c a.value) (g c l.sample.1) s)) z.reach);
            };
      });
  deep = λ c w s s' ts' clear r h.
      let k = deep.short in
      let q = l.only c w s s' ts' clear r (omega (arith, h, k)) in
      let d = rises.lt b q.at (deep.deep q.at q.value.0 (g q.at q.value.1 ++ s) s' ts' (clears q.at q.value.1 s) (moved (append_assoc (y q.at q.value.0) (g q.at q.value.1) s) q.reach) h) in
      let e = q.bound in
      omega (arith, d, e);
  depth = up (max n deep.depth);
  deeper = comes_up rises (λ c h.
      let a = deep.deeper.at c (omega (arith, h)) in
      record {
        value = f (a.value, l.sample.1);
        before = λ s.
            let z = a.before (g c l.sample.1 ++ s) in
            record {
              pending = z.pending;
              rest = z.rest;
              rest_is = z.rest_is;
              reach = along (l.reads c (a.value, l.sample.1) (omega (arith, h)) s) (moved (sym (append_assoc (y c a.value) (g c l.sample.1) s)) z.reach);
            };
      });
}
behind_refused cont' y g stop.Memory rises l within h clears = tt

-- Some pending tokens can be read, and nothing goes on behind them.
pub led_blocked : {V U : Type 0} {p : Part V} {cont : TokenKind → Bool} {up : ℕ → ℕ} {b : ℕ} {ts : List Token} {g : Part U} {f : U → V} {n : ℕ} {rest : List Token} (rest' : List Token) (sample : U) → Rises up → n ≤ b → length rest' ≤ length rest →
    ((c : ℕ) (s : List Sym) → (q : List Sym) × Reach q rest' (g c sample ++ s) rest) →
    ((c : ℕ) (u : U) (s s' : List Sym) (ts' : List Token) → Clear cont s → Reach s' ts' (g c u ++ s) rest → size s' ts' ≤ 2 * length rest' → ⊥) →
    Led p cont up b ts g f n rest → Broken p cont (up b) ts (length rest')
led_blocked {f = f} rest' sample rises within shorter goes dead l = record {
  short = let h = l.short in omega (arith, h, shorter);
  comes = comes_up rises (λ c h. record {
    value = f sample;
    before = λ s. let z = goes c s in record { pending = z.0; rest = rest'; rest_is = refl; reach = along (l.reads c sample (omega (arith, within, h)) s) z.1 };
  });
  none = λ c w s s' ts' clear r h.
      let q = l.only c w s s' ts' clear r (omega (arith, h, shorter)) in
      dead q.at q.value s s' ts' clear q.reach h;
}
