-- How the answers for the parts of a production make the answer for the whole. `Led` says how far a
-- production has been read: what is read from the start of p and goes past the place of the rest goes
-- through the symbols g that are still pending there, whose value u makes the whole f u.
use Rattle.std.proofs.Common.{◌≡◌, ℕ, suc, ◌-◌, ◌*◌, ◌<◌, ◌≤◌, max, Bool, List, ◌∷◌, ◌++◌, length, refl, sym, ◌∙◌, ap, subst, arith}
use Rattle.odc_syntax.specs.declared.token.Token.{Token}
use Rattle.odc_syntax.specs.declared.token.TokenKind.{TokenKind}
use Rattle.odc_syntax.specs.declared.token.Word.{Word}
use Rattle.odc_syntax.specs.Grammar.{Sym}
use Rattle.odc_syntax.specs.Derives.{Reach, here, read, read_said, StartsWithout}
use Rattle.odc_lookahead.specs.Exact.{size, Clear, Part, one, ComesAt, Comes, Found, Broken, TooDeep, then_, done, token, word}
use Rattle.odc_lookahead.proofs.reading.Reaching.{along, behind_token, behind_said, PastToken}

-- how much deeper the whole is than its parts
pub record Rises (up : ℕ → ℕ) : Type 0 where
  pub le : (a b : ℕ) → a ≤ b → up a ≤ up b
  pub lt : (a b : ℕ) → a < b → up a < up b
  pub pred : (b c : ℕ) → up b ≤ c → (a : ℕ) × ((c ≡ up a) × (b ≤ a))

pub same_depth : Rises (λ n. n)
same_depth = record { le = λ a b h. h; lt = λ a b h. h; pred = λ b c h. (c, (refl, h)) }

pred_suc : (b c : ℕ) → suc b ≤ c → (a : ℕ) × ((c ≡ suc a) × (b ≤ a))
pred_suc b c h = (c - 1, (omega (arith, h), omega (arith, h)))

pub one_deeper : Rises (λ n. suc n)
one_deeper = record { le = λ a b h. omega (arith, h); lt = λ a b h. omega (arith, h); pred = pred_suc }

pub two_deeper : Rises (λ n. suc (suc n))
two_deeper = record { le = λ a b h. omega (arith, h); lt = λ a b h. omega (arith, h); pred = λ b c h. (c - 2, (omega (arith, h), omega (arith, h))) }

pub record Pending {V U : Type 0} (up : ℕ → ℕ) (g : Part U) (f : U → V) (n : ℕ) (rest : List Token) (c : ℕ) (w : V) (s s' : List Sym) (ts' : List Token) : Type 0 where
  pub at : ℕ
  pub value : U
  pub bound : c ≡ up at
  pub whole : w ≡ f value
  pub deep : n ≤ at
  pub reach : Reach s' ts' (g at value ++ s) rest

pub record Led {V U : Type 0} (p : Part V) (cont : TokenKind → Bool) (up : ℕ → ℕ) (b : ℕ) (ts : List Token) (g : Part U) (f : U → V) (n : ℕ) (rest : List Token) : Type 0 where
  pub short : length rest ≤ length ts
  pub sample : U
  pub comes : Comes p (up b) ts (length rest)
  pub reads : (c : ℕ) (u : U) → n ≤ c → (s : List Sym) → Reach (g c u ++ s) rest (p (up c) (f u) ++ s) ts
  pub only : (c : ℕ) (w : V) (s s' : List Sym) (ts' : List Token) → Clear cont s → Reach s' ts' (p c w ++ s) ts →
      size s' ts' ≤ 2 * length rest → Pending up g f n rest c w s s' ts'

comes_up : {V : Type 0} {p : Part V} {up : ℕ → ℕ} {ts : List Token} {left d : ℕ} → Rises up →
    ((c : ℕ) → d ≤ c → ComesAt p (up c) ts left) → Comes p (up d) ts left
comes_up {V} {p} {up} {ts} {left} {d} rises f = record {
  at = λ c h. let q = rises.pred d c h in subst (λ (m : ℕ). ComesAt p m ts left) (sym q.1.0) (f q.0 q.1.1);
}

pub first_is : {t t' : Token} {us us' : List Token} → t ∷ us ≡ t' ∷ us' → t' ≡ t
first_is e = cc

pub rest_is : {t t' : Token} {us us' : List Token} → t ∷ us ≡ t' ∷ us' → us' ≡ us
rest_is e = cc

-- what is left behind a token that was read
pub at_rest : {s' : List Sym} {ts' : List Token} {k : TokenKind} {u t : Token} {s : List Sym} {us : List Token} (z : PastToken s' ts' k u s (t ∷ us)) → Reach s' ts' s us
at_rest {s'} {ts'} {s = s} z = subst (λ (l : List Token). Reach s' ts' s l) (rest_is z.is) z.reach

-- a token is read
pub led_token : {V U : Type 0} {p : Part V} {cont : TokenKind → Bool} {up : ℕ → ℕ} {b : ℕ} {ts : List Token} {k : TokenKind} {g : Part U} {f : Token × U → V} {n : ℕ} {t : Token} {us : List Token} →
    Rises up → Led p cont up b ts (then_ (token k) g) f n (t ∷ us) → n ≤ b → t.kind ≡ k → Led p cont up b ts g (λ u. f (t, u)) n us
unfolding then_ token
led_token {V} {U} {p} {cont} {up} {b} {ts} {k} {g} {f} {n} {t} {us} rises l within e = record {
  short = let h = l.short in omega (arith, h);
  sample = l.sample.1;
  comes = comes_up rises (λ c h. record {
    value = f (t, l.sample.1);
    before = λ s. record { pending = g c l.sample.1 ++ s; rest = us; rest_is = refl; reach = along (l.reads c (t, l.sample.1) (omega (arith, within, h)) s) (read e here) };
  });
  reads = λ c u h s. along (l.reads c (t, u) h s) (read e here);
  only = λ c w s s' ts' clear r h.
      let q = l.only c w s s' ts' clear r (omega (arith, h)) in
      let z = behind_token q.reach (omega (arith, h)) in
      record {
        at = q.at;
        value = q.value.1;
        bound = q.bound;
        whole = q.whole ∙ ap (λ (x : Token). f (x, q.value.1)) (first_is z.is);
        deep = q.deep;
        reach = subst (λ (l : List Token). Reach s' ts' (g q.at q.value.1 ++ s) l) (rest_is z.is) z.reach;
      };
}

pub led_word : {V U : Type 0} {p : Part V} {cont : TokenKind → Bool} {up : ℕ → ℕ} {b : ℕ} {ts : List Token} {k : TokenKind} {x : Word} {g : Part U} {f : Token × U → V} {n : ℕ} {t : Token} {us : List Token} →
    Rises up → Led p cont up b ts (then_ (word k x) g) f n (t ∷ us) → n ≤ b → t.kind ≡ k → t.word ≡ x → Led p cont up b ts g (λ u. f (t, u)) n us
unfolding then_ word
led_word {V} {U} {p} {cont} {up} {b} {ts} {k} {x} {g} {f} {n} {t} {us} rises l within e says = record {
  short = let h = l.short in omega (arith, h);
  sample = l.sample.1;
  comes = comes_up rises (λ c h. record {
    value = f (t, l.sample.1);
    before = λ s. record { pending = g c l.sample.1 ++ s; rest = us; rest_is = refl; reach = along (l.reads c (t, l.sample.1) (omega (arith, within, h)) s) (read_said e says here) };
  });
  reads = λ c u h s. along (l.reads c (t, u) h s) (read_said e says here);
  only = λ c w s s' ts' clear r h.
      let q = l.only c w s s' ts' clear r (omega (arith, h)) in
      let z = (behind_said q.reach (omega (arith, h))).1 in
      record {
        at = q.at;
        value = q.value.1;
        bound = q.bound;
        whole = q.whole ∙ ap (λ (x : Token). f (x, q.value.1)) (first_is z.is);
        deep = q.deep;
        reach = subst (λ (l : List Token). Reach s' ts' (g q.at q.value.1 ++ s) l) (rest_is z.is) z.reach;
      };
}

-- a part is read
pub led_part : {V U W : Type 0} {p : Part V} {cont : TokenKind → Bool} {up : ℕ → ℕ} {b : ℕ} {ts : List Token} {y : ℕ → W → Sym} {cont' : TokenKind → Bool} {g : Part U} {f : W × U → V} {n m : ℕ} {v : W} {rest rest' : List Token} →
    Rises up → Led p cont up b ts (then_ y g) f n rest → n ≤ b → Found (one y) cont' b rest v m rest' →
    ((c : ℕ) (u : U) (s : List Sym) → Clear cont s → Clear cont' (g c u ++ s)) →
    Led p cont up b ts g (λ u. f (v, u)) (max n m) rest'
unfolding then_
led_part {V} {U} {W} {p} {cont} {up} {b} {ts} {y} {cont'} {g} {f} {n} {m} {v} {rest} {rest'} rises l within found clears = record {
  short = let h = l.short in let k = found.short in omega (arith, h, k);
  sample = l.sample.1;
  comes = comes_up rises (λ c h.
      let a = found.comes.at c h in
      record {
        value = f (a.value, l.sample.1);
        before = λ s.
            let z = a.before (g c l.sample.1 ++ s) in
            record { pending = z.pending; rest = z.rest; rest_is = z.rest_is; reach = along (l.reads c (a.value, l.sample.1) (omega (arith, within, h)) s) z.reach };
      });
  reads = λ c u h s. along (l.reads c (v, u) (omega (arith, h)) s) (found.reads c (omega (arith, h)) (g c u ++ s));
  only = λ c w s s' ts' clear r h.
      let k = found.short in
      let q = l.only c w s s' ts' clear r (omega (arith, h, k)) in
      let z = found.only q.at q.value.0 (g q.at q.value.1 ++ s) s' ts' (clears q.at q.value.1 s clear) q.reach h in
      record {
        at = q.at;
        value = q.value.1;
        bound = q.bound;
        whole = q.whole ∙ ap (λ (x : W). f (x, q.value.1)) z.value;
        deep = let d = q.deep in let e = z.bound in omega (arith, d, e);
        reach = z.reach;
      };
}

-- a part is broken, or too deep
pub part_broken : {V U W : Type 0} {p : Part V} {cont : TokenKind → Bool} {up : ℕ → ℕ} {b : ℕ} {ts : List Token} {y : ℕ → W → Sym} {cont' : TokenKind → Bool} (g : Part U) {f : W × U → V} {n left : ℕ} {rest : List Token} →
    Rises up → Led p cont up b ts (then_ y g) f n rest → n ≤ b → Broken (one y) cont' b rest left →
    ((c : ℕ) (u : U) (s : List Sym) → Clear cont s → Clear cont' (g c u ++ s)) →
    Broken p cont (up b) ts left
unfolding then_
part_broken {V} {U} {W} {p} {cont} {up} {b} {ts} {y} {cont'} g {f} {n} {left} {rest} rises l within broken clears = record {
  short = let h = l.short in let k = broken.short in omega (arith, h, k);
  comes = comes_up rises (λ c h.
      let a = broken.comes.at c h in
      record {
        value = f (a.value, l.sample.1);
        before = λ s.
            let z = a.before (g c l.sample.1 ++ s) in
            record { pending = z.pending; rest = z.rest; rest_is = z.rest_is; reach = along (l.reads c (a.value, l.sample.1) (omega (arith, within, h)) s) z.reach };
      });
  none = λ c w s s' ts' clear r h.
      let k = broken.short in
      let q = l.only c w s s' ts' clear r (omega (arith, h, k)) in
      broken.none q.at q.value.0 (g q.at q.value.1 ++ s) s' ts' (clears q.at q.value.1 s clear) q.reach h;
}

deeper_than : {up : ℕ → ℕ} (b a c : ℕ) → Rises up → b < a → c ≡ up a → up b < c
deeper_than b a c rises h e = let k = rises.lt b a h in omega (arith, k, e)

pub part_deep : {V U W : Type 0} {p : Part V} {cont : TokenKind → Bool} {up : ℕ → ℕ} {b : ℕ} {ts : List Token} {y : ℕ → W → Sym} {cont' : TokenKind → Bool} (g : Part U) {f : W × U → V} {n left : ℕ} {rest : List Token} →
    Rises up → Led p cont up b ts (then_ y g) f n rest → n ≤ b → TooDeep (one y) cont' b rest left →
    ((c : ℕ) (u : U) (s : List Sym) → Clear cont s → Clear cont' (g c u ++ s)) →
    TooDeep p cont (up b) ts left
unfolding then_
part_deep {V} {U} {W} {p} {cont} {up} {b} {ts} {y} {cont'} g {f} {n} {left} {rest} rises l within deep clears = record {
  short = let h = l.short in let k = deep.short in omega (arith, h, k);
  comes = comes_up rises (λ c h.
      let a = deep.comes.at c h in
      record {
        value = f (a.value, l.sample.1);
        before = λ s.
            let z = a.before (g c l.sample.1 ++ s) in
            record { pending = z.pending; rest = z.rest; rest_is = z.rest_is; reach = along (l.reads c (a.value, l.sample.1) (omega (arith, within, h)) s) z.reach };
      });
  deep = λ c w s s' ts' clear r h.
      let k = deep.short in
      let q = l.only c w s s' ts' clear r (omega (arith, h, k)) in
      deeper_than b q.at c rises (deep.deep q.at q.value.0 (g q.at q.value.1 ++ s) s' ts' (clears q.at q.value.1 s clear) q.reach h) q.bound;
  depth = up (max n deep.depth);
  deeper = comes_up rises (λ c h.
      let a = deep.deeper.at c (omega (arith, h)) in
      record {
        value = f (a.value, l.sample.1);
        before = λ s.
            let z = a.before (g c l.sample.1 ++ s) in
            record { pending = z.pending; rest = z.rest; rest_is = z.rest_is; reach = along (l.reads c (a.value, l.sample.1) (omega (arith, h)) s) z.reach };
      });
}

-- the token that must stand next does not
pub without : (k : TokenKind) (t : Token) (us ts : List Token) → ts ≡ t ∷ us → t.kind ≡ k → StartsWithout k ts → ⊥
without k t us ts e is h = let g : StartsWithout k (t ∷ us) = subst (λ l. StartsWithout k l) e h in g is

pub token_missing : {V U : Type 0} {p : Part V} {cont : TokenKind → Bool} {up : ℕ → ℕ} {b : ℕ} {ts : List Token} (k : TokenKind) (g : Part U) {f : Token × U → V} {n : ℕ} {rest : List Token} →
    Led p cont up b ts (then_ (token k) g) f n rest → StartsWithout k rest → Broken p cont (up b) ts (length rest)
unfolding then_ token
token_missing {V} {U} {p} {cont} {up} {b} {ts} k g {f} {n} {rest} l missing = record {
  short = l.short;
  comes = l.comes;
  none = λ c w s s' ts' clear r h.
      let q = l.only c w s s' ts' clear r h in
      let z = behind_token q.reach h in
      without k _ _ _ z.is z.kind missing;
}

-- the token that must stand next does, but what was read before is already too deep
pub token_deep : {V U : Type 0} {p : Part V} {cont : TokenKind → Bool} {up : ℕ → ℕ} {b : ℕ} {ts : List Token} (k : TokenKind) (g : Part U) {f : Token × U → V} {n : ℕ} {t : Token} {us : List Token} →
    Rises up → Led p cont up b ts (then_ (token k) g) f n (t ∷ us) → b < n → t.kind ≡ k → TooDeep p cont (up b) ts (length us)
unfolding then_ token
token_deep {V} {U} {p} {cont} {up} {b} {ts} k g {f} {n} {t} {us} rises l over e = record {
  short = l.short;
  comes = l.comes;
  deep = λ c w s s' ts' clear r h.
      let q = l.only c w s s' ts' clear r (omega (arith, h)) in
      let d = q.deep in
      deeper_than b q.at c rises (omega (arith, d, over)) q.bound;
  depth = up n;
  deeper = comes_up rises (λ c h. record {
    value = f (t, l.sample.1);
    before = λ s. record { pending = g c l.sample.1 ++ s; rest = us; rest_is = refl; reach = along (l.reads c (t, l.sample.1) h s) (read e here) };
  });
}

-- all is read
pub led_done : {V : Type 0} {p : Part V} {cont : TokenKind → Bool} {up : ℕ → ℕ} {b : ℕ} {ts : List Token} {f : Unit {0} → V} {n : ℕ} {rest : List Token} →
    Rises up → Led p cont up b ts done f n rest → Found p cont (up b) ts (f tt) (up n) rest
unfolding done
led_done {V} {p} {cont} {up} {b} {ts} {f} {n} {rest} rises l = record {
  short = l.short;
  comes = l.comes;
  reads = λ c h s.
      let q = rises.pred n c h in
      subst (λ (m : ℕ). Reach s rest (p m (f tt) ++ s) ts) (sym q.1.0) (l.reads q.0 tt q.1.1 s);
  only = λ c w s s' ts' clear r h.
      let q = l.only c w s s' ts' clear r h in
      record { value = q.whole; bound = let k = rises.le n q.at q.deep in let e = q.bound in omega (arith, k, e); reach = q.reach };
}
