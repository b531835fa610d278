-- A part of several symbols within a production.
use Rattle.std.proofs.Common.{ℕ, ◌≤◌, max, Bool, List, ◌++◌, sym, ◌∙◌, ap, subst, arith, append_assoc}
use Rattle.odc_syntax.specs.declared.token.Token.{Token}
use Rattle.odc_syntax.specs.declared.token.TokenKind.{TokenKind}
use Rattle.odc_syntax.specs.Grammar.{Sym}
use Rattle.odc_lookahead.specs.declared.stop.Stop.{Stop}
use Rattle.odc_lookahead.specs.declared.stop.Stop.TheVariants as stop
use Rattle.odc_lookahead.specs.Exact.{Clear, Part, ComesAt, Comes, Exact, Found, behind}
use Rattle.odc_lookahead.specs.Read.{refused}
use Rattle.odc_lookahead.proofs.reading.Reaching.{along, moved}
use Rattle.odc_lookahead.proofs.reading.Leading.{Rises, Led}

comes_up : {V : Type 0} {p : Part V} {up : ℕ → ℕ} {ts : List Token} {left d : ℕ} → Rises up → ((c : ℕ) → d ≤ c → ComesAt p (up c) ts left) → Comes p (up d) ts left
comes_up {V} {p} {up} {ts} {left} {d} rises f = record {
  at = λ c h. let q = rises.pred d c h in subst (λ (m : ℕ). ComesAt p m ts left) (sym q.1.0) (f q.0 q.1.1);
}

comes_behind : {V U W : Type 0} {p : Part V} {cont : TokenKind → Bool} {up : ℕ → ℕ} {b : ℕ} {ts : List Token} {y : Part W} (g : Part U) {f : W × U → V} {n : ℕ} {rest : List Token} {d left : ℕ} → Rises up → n ≤ d → Led p cont up b ts (behind y g) f n rest → Comes y d rest left →
    Comes p (up d) ts left
unfolding behind
comes_behind {V} {U} {W} {p} {cont} {up} {b} {ts} {y} g {f} {n} {rest} {d} {left} rises within l comes =
    comes_up rises (λ c h.
    let a = comes.at c h in
    record {
      value = f (a.value, l.sample.1);
      before = λ s.
          let z = a.before (g c l.sample.1 ++ s) in
          record {
            pending = z.pending;
            rest = z.rest;
            rest_is = z.rest_is;
            reach = along (l.reads c (a.value, l.sample.1) (omega (arith, within, h)) s) (moved (sym (append_assoc (y c a.value) (g c l.sample.1) s)) z.reach);
          };
    })

-- it is read
pub led_behind : {V U W : Type 0} {p : Part V} {cont cont' : TokenKind → Bool} {up : ℕ → ℕ} {b : ℕ} {ts : List Token} {y : Part W} {g : Part U} {f : W × U → V} {n m : ℕ} {v : W} {rest rest' : List Token} →
    Rises up → Led p cont up b ts (behind y g) f n rest → n ≤ b → Found y cont' b rest v m rest' → ((c : ℕ) (u : U) (s : List Sym) → Clear cont s → Clear cont' (g c u ++ s)) → Led p cont up b ts g (λ u. f (v, u)) (max n m) rest'
unfolding behind
led_behind {V} {U} {W} {p} {cont} {cont'} {up} {b} {ts} {y} {g} {f} {n} {m} {v} {rest} {rest'} rises l within found clears = record {
  short = let h = l.short in let k = found.short in omega (arith, h, k);
  sample = l.sample.1;
  comes = comes_behind g rises within l found.comes;
  reads = λ c u h s. along (l.reads c (v, u) (omega (arith, h)) s) (moved (sym (append_assoc (y c v) (g c u) s)) (found.reads c (omega (arith, h)) (g c u ++ s)));
  only = λ c w s s' ts' clear r h.
      let k = found.short in
      let q = l.only c w s s' ts' clear r (omega (arith, h, k)) in
      let z = found.only q.at q.value.0 (g q.at q.value.1 ++ s) s' ts' (clears q.at q.value.1 s clear) (moved (append_assoc (y q.at q.value.0) (g q.at q.value.1) s) q.reach) h in
      record {
        at = q.at;
        value = q.value.1;
        bound = q.bound;
        whole = q.whole ∙ ap (λ (x : W). f (x, q.value.1)) z.value;
        deep = let d = q.deep in let e = z.bound in omega (arith, d, e);
        reach = z.reach;
      };
}

-- it isn't
pub behind_refused : {V U W : Type 0} {p : Part V} {cont : TokenKind → Bool} (cont' : TokenKind → Bool) {up : ℕ → ℕ} {b : ℕ} {ts : List Token} (y : Part W) (g : Part U) {f : W × U → V} {n : ℕ} {rest : List Token} (e : Stop) →
    Rises up → Led p cont up b ts (behind y g) f n rest → n ≤ b → Exact y cont' b rest (refused e) → ((c : ℕ) (u : U) (s : List Sym) → Clear cont s → Clear cont' (g c u ++ s)) → Exact p cont (up b) ts (refused e)
unfolding behind
behind_refused cont' y g (stop.Syntax left) rises l within broken clears = record {
  short = let h = l.short in let k = broken.short in omega (arith, h, k);
  comes = comes_behind g rises within l broken.comes;
  none = λ c w s s' ts' clear r h.
      let k = broken.short in
      let q = l.only c w s s' ts' clear r (omega (arith, h, k)) in
      broken.none q.at q.value.0 (g q.at q.value.1 ++ s) s' ts' (clears q.at q.value.1 s clear) (moved (append_assoc (y q.at q.value.0) (g q.at q.value.1) s) q.reach) h;
}
behind_refused cont' {up = up} {b = b} y g {n = n} (stop.Deep left) rises l within deep clears = record {
  short = let h = l.short in let k = deep.short in omega (arith, h, k);
  comes = comes_behind g rises within l deep.comes;
  deep = λ c w s s' ts' clear r h.
      let k = deep.short in
      let q = l.only c w s s' ts' clear r (omega (arith, h, k)) in
      let d = rises.lt b q.at (deep.deep q.at q.value.0 (g q.at q.value.1 ++ s) s' ts' (clears q.at q.value.1 s clear) (moved (append_assoc (y q.at q.value.0) (g q.at q.value.1) s) q.reach) h) in
      let j = q.bound in
      omega (arith, d, j);
  depth = up (max n deep.depth);
  deeper = comes_behind g rises (omega arith) l (record { at = λ c h. deep.deeper.at c (omega (arith, h)) });
}
behind_refused cont' y g stop.Memory rises l within h clears = tt
