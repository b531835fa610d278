-- Between readings that begin alike: what has been looked at leaves only one of them, as far as an answer
-- goes.
use Rattle.std.proofs.Common.{◌≡◌, ℕ, suc, ◌*◌, ◌<◌, ◌≤◌, max, Bool, List, [], ◌∷◌, ◌++◌, length, refl, sym, ◌∙◌, ap, subst, arith}
use Rattle.std.proofs.Math.Nat.{lt_of_not-le}
use Rattle.odc_syntax.specs.declared.token.Token.{Token}
use Rattle.odc_syntax.specs.declared.token.TokenKind.{TokenKind}
use Rattle.odc_syntax.specs.Grammar.{Sym, tok}
use Rattle.odc_syntax.specs.Derives.{Reach, here, read}
use Rattle.odc_lookahead.specs.declared.stop.Stop.{Stop}
use Rattle.odc_lookahead.specs.declared.stop.Stop.TheVariants as stop
use Rattle.odc_lookahead.specs.Exact.{size, Clear, Part, one, ComesAt, Comes, Found, TooDeep, then_, token, Exact, Answer, Yes, Syntax, Deep, NoMemory}
use Rattle.odc_lookahead.specs.Read.{refused}
use Rattle.odc_lookahead.proofs.reading.Reaching.{along, behind_token}
use Rattle.odc_lookahead.proofs.reading.Leading.{Rises, Pending, Led, first_is, rest_is}
use Rattle.odc_lookahead.proofs.reading.Answering.{Stepped, nothing_read}

-- how far the readings go that an answer speaks of
abbrev pub limit : {V : Type 0} → Answer V → ℕ
limit (Yes v n rest) = 2 * length rest
limit (Syntax left) = 2 * left
limit (Deep left) = suc (2 * left)
limit NoMemory = 0

abbrev pub stop_limit : Stop → ℕ
stop_limit (stop.Syntax left) = 2 * left
stop_limit (stop.Deep left) = suc (2 * left)
stop_limit stop.Memory = 0

-- a part that is found within a lower bound is found at that bound
pub lower_found : {V : Type 0} {p : Part V} {cont : TokenKind → Bool} {b d : ℕ} {ts : List Token} {v : V} {n : ℕ} {rest : List Token} → n ≤ d → Found p cont b ts v n rest → Found p cont d ts v n rest
lower_found {V} {p} {cont} {b} {d} {ts} {v} {n} {rest} within found = record {
  short = found.short;
  comes = record { at = λ c h. record { value = v; before = λ s. record { pending = s; rest = rest; rest_is = refl; reach = found.reads c (omega (arith, within, h)) s } } };
  reads = found.reads;
  only = found.only;
}

-- nothing is clear of all
pub nothing_clears : {cont : TokenKind → Bool} → Clear cont []
nothing_clears = record { stops = λ t us s' ts' on r h. nothing_read t us s' ts' r h }

only_here : {s' : List Sym} {ts' ts : List Token} → Reach s' ts' [] ts → length ts' ≡ length ts
only_here here = refl

at_most : (s : List Sym) (ts : List Token) → size s ts ≤ suc (2 * length ts)
at_most [] ts = omega arith
at_most (x ∷ s) ts = omega arith

here_size : {s' : List Sym} {ts' ts : List Token} → Reach s' ts' [] ts → size s' ts' ≡ 2 * length ts
here_size here = refl

found_size : (s : List Sym) (us : List Token) (k : ℕ) → (size s us ≤ 2 * k → size s us ≡ 2 * k) → k < suc (length us)
found_size [] us k f = lt_of_not-le (λ j. let e = f (omega (arith, j)) in absurd (omega (arith, j, e)))
found_size (x ∷ s) us k f = lt_of_not-le (λ j. let e = f (omega (arith, j)) in absurd (omega (arith, j, e)))

broken_size : (s : List Sym) (us : List Token) (k : ℕ) → (size s us ≤ 2 * k → ⊥) → k < suc (length us)
broken_size [] us k f = lt_of_not-le (λ j. absurd (f (omega (arith, j))))
broken_size (x ∷ s) us k f = lt_of_not-le (λ j. absurd (f (omega (arith, j))))

deep_size : (s : List Sym) (us : List Token) (k : ℕ) → (size s us ≤ suc (2 * k) → ⊥) → k < length us
deep_size [] us k f = lt_of_not-le (λ j. absurd (f (omega (arith, j))))
deep_size (x ∷ s) us k f = lt_of_not-le (λ j. absurd (f (omega (arith, j))))

-- an answer lies behind what the part comes to
pub beyond : {V : Type 0} (p : Part V) (cont : TokenKind → Bool) (b : ℕ) (ts : List Token) (r : Answer V) (c : ℕ) (w : V) (q : List Sym) (us : List Token) → c ≤ b → Reach q us (p c w ++ []) ts → Exact p cont b ts r → limit r ≤ 2 * length us
beyond p cont b ts (Yes v n rest) c w q us within r h =
    let far = found_size q us (length rest) (λ k. let z = h.only c w [] q us nothing_clears r k in here_size z.reach) in
    omega (arith, far)
beyond p cont b ts (Syntax left) c w q us within r h = let far = broken_size q us left (λ k. h.none c w [] q us nothing_clears r k) in omega (arith, far)
beyond p cont b ts (Deep left) c w q us within r h = let far = deep_size q us left (λ k. let d = h.deep c w [] q us nothing_clears r k in absurd (omega (arith, d, within))) in omega (arith, far)
beyond p cont b ts NoMemory c w q us within r h = omega arith

comes_up : {V : Type 0} {p : Part V} {up : ℕ → ℕ} {ts : List Token} {left d : ℕ} → Rises up → ((c : ℕ) → d ≤ c → ComesAt p (up c) ts left) → Comes p (up d) ts left
comes_up {V} {p} {up} {ts} {left} {d} rises f = record {
  at = λ c h. let q = rises.pred d c h in subst (λ (m : ℕ). ComesAt p m ts left) (sym q.1.0) (f q.0 q.1.1);
}

-- As `Led`, but only of what goes so far: what is read from the start of p goes through the symbols g, which
-- are pending at the rest.
pub record Leads {V U : Type 0} (p : Part V) (cont : TokenKind → Bool) (up : ℕ → ℕ) (b : ℕ) (ts : List Token) (g : Part U) (f : U → V) (n : ℕ) (rest : List Token) (most : ℕ) : Type 0 where
  pub short : length rest ≤ length ts
  pub sample : U
  pub comes : Comes p (up b) ts (length rest)
  pub reads : (c : ℕ) (u : U) → n ≤ c → (s : List Sym) → Reach (g c u ++ s) rest (p (up c) (f u) ++ s) ts
  pub only : (c : ℕ) (w : V) (s s' : List Sym) (ts' : List Token) → Clear cont s → Reach s' ts' (p c w ++ s) ts →
      size s' ts' ≤ most → Pending up g f n rest c w s s' ts'

-- the production that the tokens leave, as far as this
pub leads_start : {V U : Type 0} {p : Part V} {cont : TokenKind → Bool} {up : ℕ → ℕ} (b : ℕ) {ts : List Token} (rest : List Token) (g : Part U) (f : U → V) (most : ℕ) → U → Rises up → length rest ≤ length ts →
    ((c : ℕ) (u : U) (s : List Sym) → Reach (g c u ++ s) rest (p (up c) (f u) ++ s) ts) →
    ((c : ℕ) (w : V) (s s' : List Sym) (ts' : List Token) → Clear cont s → Reach s' ts' (p c w ++ s) ts → size s' ts' ≤ most → Pending up g f 0 rest c w s s' ts') →
    Leads p cont up b ts g f 0 rest most
leads_start {V} {U} {p} {cont} {up} b {ts} rest g f most sample rises short into only = record {
  short = short;
  sample = sample;
  comes = comes_up rises (λ c h. record { value = f sample; before = λ s. record { pending = g c sample ++ s; rest = rest; rest_is = refl; reach = into c sample s } });
  reads = λ c u h s. into c u s;
  only = only;
}

pub leads_less : {V U : Type 0} {p : Part V} {cont : TokenKind → Bool} {up : ℕ → ℕ} {b : ℕ} {ts : List Token} {g : Part U} {f : U → V} {n : ℕ} {rest : List Token} {most less : ℕ} → less ≤ most → Leads p cont up b ts g f n rest most → Leads p cont up b ts g f n rest less
leads_less le l = record { short = l.short; sample = l.sample; comes = l.comes; reads = l.reads; only = λ c w s s' ts' clear r h. l.only c w s s' ts' clear r (omega (arith, h, le)) }

-- as far as the rest
pub leads_led : {V U : Type 0} {p : Part V} {cont : TokenKind → Bool} {up : ℕ → ℕ} {b : ℕ} {ts : List Token} {g : Part U} {f : U → V} {n : ℕ} {rest : List Token} {most : ℕ} → 2 * length rest ≤ most → Leads p cont up b ts g f n rest most → Led p cont up b ts g f n rest
leads_led far l = record { short = l.short; sample = l.sample; comes = l.comes; reads = l.reads; only = λ c w s s' ts' clear r h. l.only c w s s' ts' clear r (omega (arith, h, far)) }

pub led_leads : {V U : Type 0} {p : Part V} {cont : TokenKind → Bool} {up : ℕ → ℕ} {b : ℕ} {ts : List Token} {g : Part U} {f : U → V} {n : ℕ} {rest : List Token} {most : ℕ} → most ≤ 2 * length rest → Led p cont up b ts g f n rest → Leads p cont up b ts g f n rest most
led_leads far l = record { short = l.short; sample = l.sample; comes = l.comes; reads = l.reads; only = λ c w s s' ts' clear r h. l.only c w s s' ts' clear r (omega (arith, h, far)) }

comes_so : {V U : Type 0} {p : Part V} {cont : TokenKind → Bool} {up : ℕ → ℕ} {b : ℕ} {ts : List Token} {g : Part U} {f : U → V} {n : ℕ} {rest : List Token} {most d left : ℕ} → Rises up → n ≤ d → Leads p cont up b ts g f n rest most → Comes g d rest left → Comes p (up d) ts left
comes_so rises within l comes =
    comes_up rises (λ c h.
    let a = comes.at c h in
    record {
      value = _;
      before = λ s. let z = a.before s in record { pending = z.pending; rest = z.rest; rest_is = z.rest_is; reach = along (l.reads c a.value (omega (arith, within, h)) s) z.reach };
    })

-- what is left is read as a whole
pub leads_found : {V U : Type 0} {p : Part V} {cont : TokenKind → Bool} {up : ℕ → ℕ} {b : ℕ} {ts : List Token} {g : Part U} {f : U → V} {n : ℕ} {rest : List Token} {most : ℕ} {u : U} {m : ℕ} {after : List Token} →
    Rises up → n ≤ b → 2 * length after ≤ most → Leads p cont up b ts g f n rest most → Found g cont b rest u m after → Found p cont (up b) ts (f u) (up (max n m)) after
leads_found {V} {U} {p} {cont} {up} {b} {ts} {g} {f} {n} {rest} {most} {u} {m} {after} rises within far l found = record {
  short = let h = l.short in let k = found.short in omega (arith, h, k);
  comes = comes_so rises within l found.comes;
  reads = λ c h s.
      let q = rises.pred (max n m) c h in
      let k = q.1.1 in
      subst (λ (j : ℕ). Reach s after (p j (f u) ++ s) ts) (sym q.1.0) (along (l.reads q.0 u (omega (arith, k)) s) (found.reads q.0 (omega (arith, k)) s));
  only = λ c w s s' ts' clear r h.
      let q = l.only c w s s' ts' clear r (omega (arith, h, far)) in
      let z = found.only q.at q.value s s' ts' clear q.reach h in
      record {
        value = q.whole ∙ ap f z.value;
        bound =
            let d = q.deep in
            let e = z.bound in
            let k = rises.le (max n m) q.at (omega (arith, d, e)) in
            let j = q.bound in
            omega (arith, k, j);
        reach = z.reach;
      };
}

-- the same where it isn't read
pub leads_refused : {V U : Type 0} {p : Part V} {cont : TokenKind → Bool} {up : ℕ → ℕ} {b : ℕ} {ts : List Token} {g : Part U} {f : U → V} {n : ℕ} {rest : List Token} {most : ℕ} (e : Stop) →
    Rises up → n ≤ b → stop_limit e ≤ most → Leads p cont up b ts g f n rest most → Exact g cont b rest (refused e) → Exact p cont (up b) ts (refused e)
leads_refused (stop.Syntax left) rises within far l broken = record {
  short = let h = l.short in let k = broken.short in omega (arith, h, k);
  comes = comes_so rises within l broken.comes;
  none = λ c w s s' ts' clear r h. let q = l.only c w s s' ts' clear r (omega (arith, h, far)) in broken.none q.at q.value s s' ts' clear q.reach h;
}
leads_refused {up = up} {b = b} {n = n} (stop.Deep left) rises within far l deep = record {
  short = let h = l.short in let k = deep.short in omega (arith, h, k);
  comes = comes_so rises within l deep.comes;
  deep = λ c w s s' ts' clear r h.
      let q = l.only c w s s' ts' clear r (omega (arith, h, far)) in
      let d = rises.lt b q.at (deep.deep q.at q.value s s' ts' clear q.reach h) in
      let j = q.bound in
      omega (arith, d, j);
  depth = up (max n deep.depth);
  deeper = comes_so rises (omega arith) l (record { at = λ c h. deep.deeper.at c (omega (arith, h)) });
}
leads_refused stop.Memory rises within far l h = tt

comes_part : {V U W : Type 0} {p : Part V} {cont : TokenKind → Bool} {up : ℕ → ℕ} {b : ℕ} {ts : List Token} {y : ℕ → W → Sym} (g : Part U) {f : W × U → V} {n : ℕ} {rest : List Token} {most d left : ℕ} →
    Rises up → n ≤ d → Leads p cont up b ts (then_ y g) f n rest most → Comes (one y) d rest left → Comes p (up d) ts left
unfolding then_
comes_part {V} {U} {W} {p} {cont} {up} {b} {ts} {y} g {f} {n} {rest} {most} {d} {left} rises within l comes =
    comes_up rises (λ c h.
    let a = comes.at c h in
    record {
      value = f (a.value, l.sample.1);
      before = λ s.
          let z = a.before (g c l.sample.1 ++ s) in
          record { pending = z.pending; rest = z.rest; rest_is = z.rest_is; reach = along (l.reads c (a.value, l.sample.1) (omega (arith, within, h)) s) z.reach };
    })

-- a part is read
pub leads_part : {V U W : Type 0} {p : Part V} {cont : TokenKind → Bool} {up : ℕ → ℕ} {b : ℕ} {ts : List Token} {y : ℕ → W → Sym} {cont' : TokenKind → Bool} {g : Part U} {f : W × U → V} {n : ℕ} {rest : List Token} {most : ℕ} {v : W} {m : ℕ} {after : List Token} →
    Rises up → n ≤ b → most ≤ 2 * length after → Leads p cont up b ts (then_ y g) f n rest most → Found (one y) cont' b rest v m after → ((c : ℕ) (u : U) (s : List Sym) → Clear cont s → Clear cont' (g c u ++ s)) →
    Leads p cont up b ts g (λ u. f (v, u)) (max n m) after most
unfolding then_
leads_part {V} {U} {W} {p} {cont} {up} {b} {ts} {y} {cont'} {g} {f} {n} {rest} {most} {v} {m} {after} rises within far l found clears = record {
  short = let h = l.short in let k = found.short in omega (arith, h, k);
  sample = l.sample.1;
  comes = comes_part g rises within l found.comes;
  reads = λ c u h s. along (l.reads c (v, u) (omega (arith, h)) s) (found.reads c (omega (arith, h)) (g c u ++ s));
  only = λ c w s s' ts' clear r h.
      let q = l.only c w s s' ts' clear r h in
      let z = found.only q.at q.value.0 (g q.at q.value.1 ++ s) s' ts' (clears q.at q.value.1 s clear) q.reach (omega (arith, h, far)) in
      record {
        at = q.at;
        value = q.value.1;
        bound = q.bound;
        whole = q.whole ∙ ap (λ (x : W). f (x, q.value.1)) z.value;
        deep = let d = q.deep in let e = z.bound in omega (arith, d, e);
        reach = z.reach;
      };
}

-- it isn't read
pub leads_part_refused : {V U W : Type 0} {p : Part V} {cont : TokenKind → Bool} {up : ℕ → ℕ} {b : ℕ} {ts : List Token} (y : ℕ → W → Sym) (cont' : TokenKind → Bool) (g : Part U) {f : W × U → V} {n : ℕ} {rest : List Token} {most : ℕ} (e : Stop) →
    Rises up → n ≤ b → stop_limit e ≤ most → Leads p cont up b ts (then_ y g) f n rest most → Exact (one y) cont' b rest (refused e) → ((c : ℕ) (u : U) (s : List Sym) → Clear cont s → Clear cont' (g c u ++ s)) →
    Exact p cont (up b) ts (refused e)
unfolding then_
leads_part_refused y cont' g (stop.Syntax left) rises within far l broken clears = record {
  short = let h = l.short in let k = broken.short in omega (arith, h, k);
  comes = comes_part g rises within l broken.comes;
  none = λ c w s s' ts' clear r h.
      let q = l.only c w s s' ts' clear r (omega (arith, h, far)) in
      broken.none q.at q.value.0 (g q.at q.value.1 ++ s) s' ts' (clears q.at q.value.1 s clear) q.reach h;
}
leads_part_refused {up = up} {b = b} y cont' g {n = n} (stop.Deep left) rises within far l deep clears = record {
  short = let h = l.short in let k = deep.short in omega (arith, h, k);
  comes = comes_part g rises within l deep.comes;
  deep = λ c w s s' ts' clear r h.
      let q = l.only c w s s' ts' clear r (omega (arith, h, far)) in
      let d = rises.lt b q.at (deep.deep q.at q.value.0 (g q.at q.value.1 ++ s) s' ts' (clears q.at q.value.1 s clear) q.reach h) in
      let j = q.bound in
      omega (arith, d, j);
  depth = up (max n deep.depth);
  deeper = comes_part g rises (omega arith) l (record { at = λ c h. deep.deeper.at c (omega (arith, h)) });
}
leads_part_refused y cont' g stop.Memory rises within far l h clears = tt

-- a token is read
pub leads_token : {V U : Type 0} {p : Part V} {cont : TokenKind → Bool} {up : ℕ → ℕ} {b : ℕ} {ts : List Token} {k : TokenKind} {g : Part U} {f : Token × U → V} {n : ℕ} {t : Token} {us rest : List Token} {most : ℕ} →
    Rises up → n ≤ b → most ≤ 2 * length rest → Leads p cont up b ts (then_ (token k) g) f n rest most → rest ≡ t ∷ us → t.kind ≡ k → Leads p cont up b ts g (λ u. f (t, u)) n us most
unfolding then_ token
leads_token {V} {U} {p} {cont} {up} {b} {ts} {k} {g} {f} {n} {t} {us} {rest} {most} rises within far l is e =
    let longer : length rest ≡ suc (length us) = ap length is in
    let on : (s : List Sym) → Reach s us (tok k t ∷ s) rest = λ s. subst (λ (r : List Token). Reach s us (tok k t ∷ s) r) (sym is) (read e here) in
    record {
      short = let h = l.short in omega (arith, h, longer);
      sample = l.sample.1;
      comes = comes_up rises (λ c h. record {
        value = f (t, l.sample.1);
        before = λ s. record { pending = g c l.sample.1 ++ s; rest = us; rest_is = refl; reach = along (l.reads c (t, l.sample.1) (omega (arith, within, h)) s) (on (g c l.sample.1 ++ s)) };
      });
      reads = λ c u h s. along (l.reads c (t, u) h s) (on (g c u ++ s));
      only = λ c w s s' ts' clear r h.
          let q = l.only c w s s' ts' clear r h in
          let z = behind_token q.reach (omega (arith, h, far)) in
          record {
            at = q.at;
            value = q.value.1;
            bound = q.bound;
            whole = q.whole ∙ ap (λ (x : Token). f (x, q.value.1)) (first_is (sym is ∙ z.is));
            deep = q.deep;
            reach = subst (λ (l : List Token). Reach s' ts' (g q.at q.value.1 ++ s) l) (rest_is (sym is ∙ z.is)) z.reach;
          };
    }

-- what goes on is already too deep
pub leads_over : {V U : Type 0} {p : Part V} {cont : TokenKind → Bool} {up : ℕ → ℕ} {b : ℕ} {ts : List Token} {g : Part U} {f : U → V} {n : ℕ} {rest us : List Token} {t : Token} {most : ℕ} → Rises up → rest ≡ t ∷ us → b < n → suc (2 * length us) ≤ most →
    ((c : ℕ) → (u : U) × ((s : List Sym) → (q : List Sym) × Reach q us (g c u ++ s) rest)) →
    Leads p cont up b ts g f n rest most → TooDeep p cont (up b) ts (length us)
leads_over {V} {U} {p} {cont} {up} {b} {ts} {g} {f} {n} {rest} {us} {t} {most} rises is over far goes l =
    let longer : length rest ≡ suc (length us) = ap length is in
    record {
      short = let h = l.short in omega (arith, h, longer);
      comes = subst (λ (k : ℕ). Comes p (up b) ts k) longer l.comes;
      deep = λ c w s s' ts' clear r h.
          let q = l.only c w s s' ts' clear r (omega (arith, h, far)) in
          let d = q.deep in
          let k = rises.lt b q.at (omega (arith, d, over)) in
          let j = q.bound in
          omega (arith, k, j);
      depth = up n;
      deeper = comes_up rises (λ c h.
          let z = goes c in
          record {
            value = f z.0;
            before = λ s. let y = z.1 s in record { pending = y.0; rest = us; rest_is = refl; reach = along (l.reads c z.0 h s) y.1 };
          });
    }

-- what is pending is written otherwise, at the same place
pub led_here : {V U W : Type 0} {p : Part V} {cont : TokenKind → Bool} {up : ℕ → ℕ} {b : ℕ} {ts : List Token} {g : Part U} {f : U → V} {n : ℕ} {rest : List Token} (h : Part W) (i : W → U) → W →
    ((c : ℕ) (w : W) (s : List Sym) → Reach (h c w ++ s) rest (g c (i w) ++ s) rest) →
    ((c : ℕ) (u : U) (s s' : List Sym) (ts' : List Token) → Clear cont s → Reach s' ts' (g c u ++ s) rest → size s' ts' ≤ 2 * length rest → Stepped h i c u s s' ts' rest) →
    Led p cont up b ts g f n rest → Led p cont up b ts h (λ w. f (i w)) n rest
led_here {V} {U} {W} {p} {cont} {up} {b} {ts} {g} {f} {n} {rest} h i sample into only l = record {
  short = l.short;
  sample = sample;
  comes = l.comes;
  reads = λ c w k s. along (l.reads c (i w) k s) (into c w s);
  only = λ c w s s' ts' clear r k.
      let q = l.only c w s s' ts' clear r k in
      let z = only q.at q.value s s' ts' clear q.reach k in
      record { at = q.at; value = z.by; bound = q.bound; whole = q.whole ∙ ap f z.is; deep = q.deep; reach = z.reach };
}

-- what is pending is written otherwise, at the same place, as far as this
pub leads_here : {V U W : Type 0} {p : Part V} {cont : TokenKind → Bool} {up : ℕ → ℕ} {b : ℕ} {ts : List Token} {g : Part U} {f : U → V} {n : ℕ} {rest : List Token} (most : ℕ) (h : Part W) (i : W → U) → W → most ≤ 2 * length rest →
    ((c : ℕ) (w : W) (s : List Sym) → Reach (h c w ++ s) rest (g c (i w) ++ s) rest) →
    ((c : ℕ) (u : U) (s s' : List Sym) (ts' : List Token) → Clear cont s → Reach s' ts' (g c u ++ s) rest → size s' ts' ≤ most → Stepped h i c u s s' ts' rest) →
    Led p cont up b ts g f n rest → Leads p cont up b ts h (λ w. f (i w)) n rest most
leads_here {V} {U} {W} {p} {cont} {up} {b} {ts} {g} {f} {n} {rest} most h i sample far into only l = record {
  short = l.short;
  sample = sample;
  comes = l.comes;
  reads = λ c w k s. along (l.reads c (i w) k s) (into c w s);
  only = λ c w s s' ts' clear r k.
      let q = l.only c w s s' ts' clear r (omega (arith, k, far)) in
      let z = only q.at q.value s s' ts' clear q.reach k in
      record { at = q.at; value = z.by; bound = q.bound; whole = q.whole ∙ ap f z.is; deep = q.deep; reach = z.reach };
}
