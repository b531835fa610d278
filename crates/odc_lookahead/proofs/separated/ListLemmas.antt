-- Lists between commas, with a comma allowed at the end, up to a closing token: of arguments, fields,
-- types, enumerators and parameters alike.
use Rattle.std.proofs.Common.{◌≡◌, ℕ, ◌*◌, ◌<◌, ◌≤◌, Bool, false, List, [], ◌∷◌, ◌++◌, length, refl, sym, ◌∙◌, ap, subst, arith, append_assoc, ◌⊎◌, inl, inr, max}
use Rattle.odc_syntax.specs.declared.token.Token.{Token}
use Rattle.odc_syntax.specs.declared.token.TokenKind.{TokenKind}
use Rattle.odc_syntax.specs.declared.token.TokenKind.TheVariants as kind
use Rattle.odc_syntax.specs.Grammar.{Sym, tok, Rule}
use Rattle.odc_syntax.specs.Derives.{Reach, here, read, write, StartsWithout}
use Rattle.odc_lookahead.specs.declared.stop.Stop.{Stop}
use Rattle.odc_lookahead.specs.declared.stop.Stop.TheVariants as stop
use Rattle.odc_lookahead.specs.Exact.{size, Clear, Part, then_, done, token, behind, Exact, Found}
use Rattle.odc_lookahead.specs.Read.{refused}
use Rattle.odc_lookahead.specs.Lists.{Ended, Again, NotGoing}
pub use Rattle.odc_lookahead.proofs.separated.MoreLemmas.{Item}
use Rattle.odc_lookahead.proofs.separated.MoreLemmas.{More}
use Rattle.odc_lookahead.proofs.separated.MoreLemmas as left
use Rattle.odc_lookahead.proofs.reading.Opening.{OpensAll, reach_opens}
use Rattle.odc_lookahead.proofs.reading.Reaching.{along, moved, IsPart, behind_part, behind_token}
use Rattle.odc_lookahead.proofs.reading.Leading.{Pending, Led, first_is, rest_is, without}
use Rattle.odc_lookahead.proofs.reading.Samples as sample
use Rattle.odc_lookahead.proofs.reading.Answering.{moved_end}
use Rattle.odc_lookahead.specs.declared.tokens.Fit.{Fit}
use Rattle.odc_lookahead.specs.declared.tokens.Fit.TheVariants as fit

-- a part of several symbols is read, within a production of the same depth
pub led_parts : {V U W : Type 0} {p : Part V} {cont cont' : TokenKind → Bool} {b : ℕ} {ts : List Token} {y : Part W} {g : Part U} {f : W × U → V} {n m : ℕ} {v : W} {rest rest' : List Token} →
    Led p cont (λ n. n) b ts (behind y g) f n rest → n ≤ b → Found y cont' b rest v m rest' → ((c : ℕ) (u : U) (s : List Sym) → Clear cont' (g c u ++ s)) →
    Led p cont (λ n. n) b ts g (λ u. f (v, u)) (max n m) rest'
unfolding behind
led_parts {V} {U} {W} {p} {cont} {cont'} {b} {ts} {y} {g} {f} {n} {m} {v} {rest} {rest'} l within found clears = record {
  short = let h = l.short in let k = found.short in omega (arith, h, k);
  sample = l.sample.1;
  comes = record {
    at = λ c h.
        let a = found.comes.at c h in
        record {
          value = f (a.value, l.sample.1);
          before = λ s.
              let z = a.before (g c l.sample.1 ++ s) in
              record {
                pending = z.pending;
                rest = z.rest;
                rest_is = z.rest_is;
                reach = along (l.reads c (a.value, l.sample.1) (omega (arith, within, h)) s) (moved (sym (append_assoc (y c a.value) (g c l.sample.1) s)) z.reach);
              };
        };
  };
  reads = λ c u h s. along (l.reads c (v, u) (omega (arith, h)) s) (moved (sym (append_assoc (y c v) (g c u) s)) (found.reads c (omega (arith, h)) (g c u ++ s)));
  only = λ c w s s' ts' clear r h.
      let k = found.short in
      let q = l.only c w s s' ts' clear r (omega (arith, h, k)) in
      let z = found.only q.at q.value.0 (g q.at q.value.1 ++ s) s' ts' (clears q.at q.value.1 s) (moved (append_assoc (y q.at q.value.0) (g q.at q.value.1) s) q.reach) h in
      record {
        at = q.at;
        value = q.value.1;
        bound = q.bound;
        whole = q.whole ∙ ap (λ (x : W). f (x, q.value.1)) z.value;
        deep = let d = q.deep in let e = z.bound in omega (arith, d, e);
        reach = z.reach;
      };
}

-- the same where it isn't read
pub parts_refused : {V U W : Type 0} {p : Part V} {cont : TokenKind → Bool} (cont' : TokenKind → Bool) {b : ℕ} {ts : List Token} (y : Part W) (g : Part U) {f : W × U → V} {n : ℕ} {rest : List Token} (e : Stop) →
    Led p cont (λ n. n) b ts (behind y g) f n rest → n ≤ b → Exact y cont' b rest (refused e) → ((c : ℕ) (u : U) (s : List Sym) → Clear cont' (g c u ++ s)) → Exact p cont b ts (refused e)
unfolding behind
parts_refused {V} {U} {W} {p} {cont} cont' {b} {ts} y g {f} {n} {rest} (stop.Syntax left) l within broken clears = record {
  short = let h = l.short in let k = broken.short in omega (arith, h, k);
  comes = record {
    at = λ c h.
        let a = broken.comes.at c h in
        record {
          value = f (a.value, l.sample.1);
          before = λ s.
              let z = a.before (g c l.sample.1 ++ s) in
              record {
                pending = z.pending;
                rest = z.rest;
                rest_is = z.rest_is;
                reach = along (l.reads c (a.value, l.sample.1) (omega (arith, within, h)) s) (moved (sym (append_assoc (y c a.value) (g c l.sample.1) s)) z.reach);
              };
        };
  };
  none = λ c w s s' ts' clear r h.
      let k = broken.short in
      let q = l.only c w s s' ts' clear r (omega (arith, h, k)) in
      broken.none q.at q.value.0 (g q.at q.value.1 ++ s) s' ts' (clears q.at q.value.1 s) (moved (append_assoc (y q.at q.value.0) (g q.at q.value.1) s) q.reach) h;
}
parts_refused {V} {U} {W} {p} {cont} cont' {b} {ts} y g {f} {n} {rest} (stop.Deep left) l within deep clears = record {
  short = let h = l.short in let k = deep.short in omega (arith, h, k);
  comes = record {
    at = λ c h.
        let a = deep.comes.at c h in
        record {
          value = f (a.value, l.sample.1);
          before = λ s.
              let z = a.before (g c l.sample.1 ++ s) in
              record {
                pending = z.pending;
                rest = z.rest;
                rest_is = z.rest_is;
                reach = along (l.reads c (a.value, l.sample.1) (omega (arith, within, h)) s) (moved (sym (append_assoc (y c a.value) (g c l.sample.1) s)) z.reach);
              };
        };
  };
  deep = λ c w s s' ts' clear r h.
      let k = deep.short in
      let q = l.only c w s s' ts' clear r (omega (arith, h, k)) in
      let d = deep.deep q.at q.value.0 (g q.at q.value.1 ++ s) s' ts' (clears q.at q.value.1 s) (moved (append_assoc (y q.at q.value.0) (g q.at q.value.1) s) q.reach) h in
      let e = q.bound in
      omega (arith, d, e);
  depth = max n deep.depth;
  deeper = record {
    at = λ c h.
        let a = deep.deeper.at c (omega (arith, h)) in
        record {
          value = f (a.value, l.sample.1);
          before = λ s.
              let z = a.before (g c l.sample.1 ++ s) in
              record {
                pending = z.pending;
                rest = z.rest;
                rest_is = z.rest_is;
                reach = along (l.reads c (a.value, l.sample.1) (omega (arith, h)) s) (moved (sym (append_assoc (y c a.value) (g c l.sample.1) s)) z.reach);
              };
        };
  };
}
parts_refused cont' y g stop.Memory l within h clears = tt

-- the rules of a list
pub record Listed {V L : Type 0} (item : Part V) (list more : ℕ → L → Sym) (nil : L) (cons : V → L → L) : Type 0 where
  pub list_part : (c : ℕ) (l : L) → IsPart (list c l)
  pub more_part : (c : ℕ) (l : L) → IsPart (more c l)
  pub none : (c : ℕ) → Rule (list c nil) []
  pub some : (c : ℕ) (v : V) (l : L) → Rule (list c (cons v l)) (item c v ++ more c l ∷ [])
  pub ended : (c : ℕ) → Rule (more c nil) []
  pub comma : (c : ℕ) (t : Token) → Rule (more c nil) (tok kind.Comma t ∷ [])
  pub again : (c : ℕ) (t : Token) (v : V) (l : L) → Rule (more c (cons v l)) (tok kind.Comma t ∷ (item c v ++ more c l ∷ []))
  pub list_cases : (c : ℕ) (w : L) (p : List Sym) → Rule (list c w) p → ((p ≡ []) × (w ≡ nil)) ⊎ Item item more cons c w [] p
  pub more_cases : (c : ℕ) (w : L) (p : List Sym) → Rule (more c w) p → ((p ≡ []) × (w ≡ nil)) ⊎ ((t : Token) × (((p ≡ tok kind.Comma t ∷ []) × (w ≡ nil)) ⊎ Item item more cons c w (tok kind.Comma t ∷ []) p))

module _ {V L : Type 0} (item : Part V) (list more : ℕ → L → Sym) (nil : L) (cons : V → L → L) (rules : Listed item list more nil cons) (any : V) (close : TokenKind) (not_comma : kind.Comma ≡ close → ⊥)
    (closes : (c : ℕ) (v : V) (s : List Sym) (t : Token) (us : List Token) → t.kind ≡ close → OpensAll (item c v ++ s) (t ∷ us) → ⊥) where
  -- the list with the closing token, what is left of it behind an item, and an item with what is left
  abbrev pub Whole : Part (L × (Token × Unit {0}))
  Whole = then_ list (then_ (token close) done)

  abbrev pub Left : Part (L × (Token × Unit {0}))
  Left = then_ more (then_ (token close) done)

  abbrev pub Next : Part (V × (L × (Token × Unit {0})))
  Next = behind item Left

  abbrev pub longer : V × (L × (Token × Unit {0})) → L × (Token × Unit {0})
  longer u = (cons u.0 u.1.0, u.1.1)

  regrouped : (a : List Sym) (x y : Sym) (s : List Sym) → (a ++ x ∷ []) ++ (y ∷ s) ≡ (a ++ (x ∷ y ∷ [])) ++ s
  regrouped a x y s = append_assoc a (x ∷ []) (y ∷ s) ∙ sym (append_assoc a (x ∷ y ∷ []) s)

  by_list : {s' : List Sym} {ts' : List Token} (ts : List Token) → StartsWithout close ts → (c : ℕ) (w : L × (Token × Unit {0})) (p : List Sym) (s : List Sym) →
      ((p ≡ []) × (w.0 ≡ nil)) ⊎ Item item more cons c w.0 [] p → Reach s' ts' (p ++ (tok close w.1.0 ∷ s)) ts → size s' ts' ≤ 2 * length ts →
      Pending (λ n. n) Next longer 0 ts c w s s' ts'
  unfolding then_ token done behind
  by_list ts open' c w p s (inl z) r h =
      let y = behind_token (moved (ap (λ (q : List Sym). q ++ (tok close w.1.0 ∷ s)) z.0) r) h in
      absurd (without close _ _ ts y.is y.kind open')
  by_list ts open' c w p s (inr z) r h = record {
    at = c;
    value = (z.first, (z.rest, w.1));
    bound = refl;
    whole = ap (λ (l : L). (l, w.1)) z.value;
    deep = omega arith;
    reach = moved (ap (λ (q : List Sym). q ++ (tok close w.1.0 ∷ s)) z.is ∙ regrouped (item c z.first) (more c z.rest) (tok close w.1.0) s) r;
  }

  -- a first item stands here
  pub list_open : (cont : TokenKind → Bool) (b : ℕ) (ts : List Token) → L → StartsWithout close ts → Led Whole cont (λ n. n) b ts Next longer 0 ts
  unfolding then_ token done behind
  list_open cont b ts some_list open' = record {
    short = omega arith;
    sample = (any, (some_list, (sample.token, tt)));
    comes = record { at = λ c h. record { value = (some_list, (sample.token, tt)); before = λ s. record { pending = _; rest = ts; rest_is = refl; reach = here } } };
    reads = λ c u h s. moved_end (regrouped (item c u.0) (more c u.1.0) (tok close u.1.1.0) s) (write (item c u.0 ++ more c u.1.0 ∷ []) (rules.some c u.0 u.1.0) here);
    only = λ c w s s' ts' clear r h.
        let z = behind_part (rules.list_part c w.0) r h in
        by_list ts open' c w z.as_symbols s (rules.list_cases c w.0 z.as_symbols z.rule) z.reach h;
  }

  -- an empty list ends here
  empty_by : {s' : List Sym} {ts' : List Token} (t : Token) (us : List Token) → t.kind ≡ close → (c : ℕ) (w : L × (Token × Unit {0})) (p : List Sym) (s : List Sym) →
      ((p ≡ []) × (w.0 ≡ nil)) ⊎ Item item more cons c w.0 [] p → Reach s' ts' (p ++ (tok close w.1.0 ∷ s)) (t ∷ us) → size s' ts' ≤ 2 * length us →
      Pending (λ n. n) done (λ u. (nil, (t, tt))) 0 us c w s s' ts'
  unfolding then_ token done
  empty_by {s'} {ts'} t us e c w p s (inl z) r h =
      let y = behind_token (moved (ap (λ (q : List Sym). q ++ (tok close w.1.0 ∷ s)) z.0) r) (omega (arith, h)) in
      record {
        at = c;
        value = tt;
        bound = refl;
        whole = (λ i. (z.1 i, ((first_is y.is) i, tt)));
        deep = omega arith;
        reach = subst (λ (l : List Token). Reach s' ts' s l) (rest_is y.is) y.reach;
      }
  empty_by t us e c w p s (inr z) r h =
      absurd (closes c z.first (more c z.rest ∷ tok close w.1.0 ∷ s) t us e
      (reach_opens (moved (ap (λ (q : List Sym). q ++ (tok close w.1.0 ∷ s)) z.is ∙ append_assoc (item c z.first) (more c z.rest ∷ []) (tok close w.1.0 ∷ s)) r) (omega (arith, h))))

  pub list_empty : (cont : TokenKind → Bool) (b : ℕ) (t : Token) (us : List Token) → t.kind ≡ close → Led Whole cont (λ n. n) b (t ∷ us) done (λ u. (nil, (t, tt))) 0 us
  unfolding then_ token done
  list_empty cont b t us e = record {
    short = omega arith;
    sample = tt;
    comes = record { at = λ c h. record { value = (nil, (t, tt)); before = λ s. record { pending = s; rest = us; rest_is = refl; reach = write [] (rules.none c) (read e here) } } };
    reads = λ c u h s. write [] (rules.none c) (read e here);
    only = λ c w s s' ts' clear r h.
        let z = behind_part (rules.list_part c w.0) r (omega (arith, h)) in
        empty_by t us e c w z.as_symbols s (rules.list_cases c w.0 z.as_symbols z.rule) z.reach h;
  }

  further : More item more nil cons
  further = record { part = rules.more_part; ended = rules.ended; comma = rules.comma; again = rules.again; cases = rules.more_cases }

  pub left_clear : (cont : TokenKind → Bool) → cont kind.Comma ≡ false → cont close ≡ false → (c : ℕ) (u : L × (Token × Unit {0})) (s : List Sym) → Clear cont (Left c u ++ s)
  left_clear = left.left_clear item more nil cons further any close not_comma closes

  -- the list ends behind an item
  pub list_ended : {V' : Type 0} {p : Part V'} {cont : TokenKind → Bool} {b : ℕ} {ts : List Token} {f : L × (Token × Unit {0}) → V'} {n : ℕ} {rest : List Token} (t : Token) (us : List Token) → Ended close rest t us → n ≤ b →
      Led p cont (λ n. n) b ts Left f n rest → Led p cont (λ n. n) b ts done (λ u. f (nil, (t, tt))) n us
  list_ended = left.list_ended item more nil cons further any close not_comma closes

  -- it goes on with a further item
  pub list_again : {V' : Type 0} {p : Part V'} {cont : TokenKind → Bool} {b : ℕ} {ts : List Token} {f : L × (Token × Unit {0}) → V'} {n : ℕ} {rest : List Token} (us : List Token) → Again close rest us → n ≤ b →
      Led p cont (λ n. n) b ts Left f n rest → Led p cont (λ n. n) b ts Next (λ u. f (longer u)) n us
  list_again = left.list_again item more nil cons further any close not_comma closes

  -- it does not go on
  pub list_refused : {V' : Type 0} {p : Part V'} {cont : TokenKind → Bool} {b : ℕ} {ts : List Token} {f : L × (Token × Unit {0}) → V'} {n : ℕ} {rest : List Token} (e : Stop) (within : Fit) → NotGoing close within rest e → (within ≡ fit.Over → b < n) →
      Led p cont (λ n. n) b ts Left f n rest → Exact p cont b ts (refused e)
  list_refused = left.list_refused item more nil cons further any close not_comma closes
