-- Left-nested parts: an item and tails behind it, each of which makes a node of all before it. The item
-- that is read first sinks one level with each tail.
use Rattle.std.proofs.Common.{◌≡◌, ℕ, suc, ◌-◌, ◌*◌, ◌<◌, ◌≤◌, max, Bool, true, List, [], ◌∷◌, ◌++◌, length, ap, subst, arith, ◌⊎◌, inl, inr}
use Rattle.odc_syntax.specs.declared.token.Token.{Token}
use Rattle.odc_syntax.specs.declared.token.TokenKind.{TokenKind}
use Rattle.odc_syntax.specs.Grammar.{Sym}
use Rattle.odc_syntax.specs.Derives.{Reach}
use Rattle.odc_lookahead.specs.Exact.{size, Clear, one, ComesAt, Comes, Remains, Found, Broken, TooDeep}
use Rattle.odc_lookahead.proofs.reading.Reaching.{along, moved}

-- The whole of bound c and value w is an item of bound d and value v with the tails q behind it.
abbrev pub Spine : Type 0 → Type 1
Spine V = ℕ → V → ℕ → V → List Sym → Type 0

-- none, or a first one
pub record FirstTail {V O : Type 0} (tail : ℕ → O → Sym) (grow : V → O → V) (after : Spine V) (c : ℕ) (w : V) (d : ℕ) (v : V) (q : List Sym) : Type 0 where
  pub by : O
  pub others : List Sym
  pub is : q ≡ tail d by ∷ others
  pub spine : after c w (suc d) (grow v by) others
  pub above : suc d ≤ c

pub record NoTail {V : Type 0} (c : ℕ) (w : V) (d : ℕ) (v : V) (q : List Sym) : Type 0 where
  pub is : q ≡ []
  pub bound : c ≡ d
  pub value : w ≡ v

pub record Unfolds {V : Type 0} (item : ℕ → V → Sym) (spine : Spine V) (s' : List Sym) (ts' : List Token) (c : ℕ) (w : V) (s : List Sym) (ts : List Token) : Type 0 where
  pub at : ℕ
  pub value : V
  pub tails : List Sym
  pub is : spine c w at value tails
  pub reach : Reach s' ts' (item at value ∷ (tails ++ s)) ts

-- how a left-nested part goes on, and how it does behind one more tail
pub record Chained {V O : Type 0} (x item : ℕ → V → Sym) (tail : ℕ → O → Sym) (grow : V → O → V) (spine after : Spine V) : Type 0 where
  pub root : (c : ℕ) (v : V) → spine c v c v []
  pub root_after : (c : ℕ) (v : V) → after c v c v []
  pub first : (c : ℕ) (w : V) (d : ℕ) (v : V) (q : List Sym) → spine c w d v q → NoTail c w d v q ⊎ FirstTail tail grow after c w d v q
  pub push : (c : ℕ) (w : V) (d : ℕ) (v : V) (o : O) (q : List Sym) → after c w (suc d) (grow v o) q → spine c w d v (tail d o ∷ q)

pub record Ahead {V : Type 0} (spine : Spine V) (v : V) (n : ℕ) (rest : List Token) (c : ℕ) (w : V) (s s' : List Sym) (ts' : List Token) : Type 0 where
  pub at : ℕ
  pub tails : List Sym
  pub is : spine c w at v tails
  pub deep : n ≤ at
  pub reach : Reach s' ts' (tails ++ s) rest

-- v, of depth n, has been read, and the tails that may follow it are still pending
pub record Chain {V : Type 0} (x : ℕ → V → Sym) (spine : Spine V) (cont : TokenKind → Bool) (b : ℕ) (ts : List Token) (v : V) (n : ℕ) (rest : List Token) : Type 0 where
  pub short : length rest ≤ length ts
  pub comes : Comes (one x) b ts (length rest)
  pub reads : (d : ℕ) → n ≤ d → (c : ℕ) (w : V) (q : List Sym) → spine c w d v q → (s : List Sym) → Reach (q ++ s) rest (x c w ∷ s) ts
  pub only : (c : ℕ) (w : V) (s s' : List Sym) (ts' : List Token) → Clear cont s → Reach s' ts' (x c w ∷ s) ts →
      size s' ts' ≤ 2 * length rest → Ahead spine v n rest c w s s' ts'

-- the item is read
pub chain_first : {V : Type 0} {x item : ℕ → V → Sym} {spine : Spine V} {cont cont' : TokenKind → Bool} {b : ℕ} {ts : List Token} {v : V} {n : ℕ} {rest : List Token} →
    ((c : ℕ) (w : V) (d : ℕ) (v : V) (q : List Sym) → spine c w d v q → (ts : List Token) (s : List Sym) → Reach (item d v ∷ (q ++ s)) ts (x c w ∷ s) ts) →
    ((c : ℕ) (w : V) (s s' : List Sym) (ts' : List Token) → Reach s' ts' (x c w ∷ s) ts → size s' ts' ≤ 2 * length ts → Unfolds item spine s' ts' c w s ts) →
    ((c : ℕ) (v : V) → spine c v c v []) →
    ((c : ℕ) (w : V) (d : ℕ) (v : V) (q s : List Sym) → spine c w d v q → Clear cont s → Clear cont' (q ++ s)) →
    Found (one item) cont' b ts v n rest → Chain x spine cont b ts v n rest
chain_first {V} {x} {item} {spine} {cont} {cont'} {b} {ts} {v} {n} {rest} folds unfolds root clears found = record {
  short = found.short;
  comes = record {
    at = λ c h.
        let a = found.comes.at c h in
        record {
          value = a.value;
          before = λ s.
              let z = a.before s in
              record { pending = z.pending; rest = z.rest; rest_is = z.rest_is; reach = along (folds c a.value c a.value [] (root c a.value) ts s) z.reach };
        };
  };
  reads = λ d h c w q is s. along (folds c w d v q is ts s) (found.reads d h (q ++ s));
  only = λ c w s s' ts' clear r h.
      let k = found.short in
      let z = unfolds c w s s' ts' r (omega (arith, h, k)) in
      let y = found.only z.at z.value (z.tails ++ s) s' ts' (clears c w z.at z.value z.tails s z.is clear) z.reach h in
      record { at = z.at; tails = z.tails; is = subst (λ (v : V). spine c w z.at v z.tails) y.value z.is; deep = y.bound; reach = y.reach };
}

-- what follows reads no token that could go on
stops_at : {cont : TokenKind → Bool} {s s' : List Sym} {ts' : List Token} {t : Token} {us rest : List Token} → Clear cont s → rest ≡ t ∷ us → cont t.kind ≡ true →
    Reach s' ts' s rest → size s' ts' ≤ suc (2 * length us) → ⊥
stops_at {cont} {s} {s'} {ts'} {t} {us} {rest} clear e on r h =
    clear.stops t us s' ts' on (subst (λ (l : List Token). Reach s' ts' s l) e r) h

longer : {t : Token} {us rest : List Token} → rest ≡ t ∷ us → length rest ≡ suc (length us)
longer e = ap length e

-- behind a first tail, or nowhere
at_first : {V O : Type 0} {tail : ℕ → O → Sym} {grow : V → O → V} {after : Spine V} {cont : TokenKind → Bool} {c : ℕ} {w : V} {d : ℕ} {v : V} {q s s' : List Sym} {ts' : List Token} {t : Token} {us rest : List Token} →
    Clear cont s → rest ≡ t ∷ us → cont t.kind ≡ true → NoTail c w d v q ⊎ FirstTail tail grow after c w d v q →
    Reach s' ts' (q ++ s) rest → size s' ts' ≤ suc (2 * length us) → FirstTail tail grow after c w d v q
at_first {s = s} clear e on (inl z) r h = absurd (stops_at clear e on (moved (ap (λ (l : List Sym). l ++ s) z.is) r) h)
at_first clear e on (inr z) r h = z

-- one more tail is read
pub chain_more : {V O : Type 0} {x item : ℕ → V → Sym} {tail : ℕ → O → Sym} {grow : V → O → V} {spine after : Spine V} {cont cont' : TokenKind → Bool} {b : ℕ} {ts : List Token} {v : V} {n m : ℕ} {o : O} {t : Token} {us rest rest' : List Token} →
    Chained x item tail grow spine after → Chain x spine cont (suc b) ts v n rest → n ≤ b → rest ≡ t ∷ us → cont t.kind ≡ true →
    Found (one tail) cont' b rest o m rest' → length rest' < length rest →
    ((c : ℕ) (w : V) (d : ℕ) (v : V) (q s : List Sym) → after c w d v q → Clear cont s → Clear cont' (q ++ s)) →
    Chain x after cont (suc b) ts (grow v o) (suc (max n m)) rest'
chain_more {V} {O} {x} {item} {tail} {grow} {spine} {after} {cont} {cont'} {b} {ts} {v} {n} {m} {o} {t} {us} {rest} {rest'} chained chain within e on found shorter clears = record {
  short = let h = chain.short in let k = found.short in omega (arith, h, k);
  comes = record {
    at = λ c h.
        let a = found.comes.at (c - 1) (omega (arith, h)) in
        let e : suc (c - 1) ≡ c = omega (arith, h) in
        subst (λ (l : ℕ). ComesAt (one x) l ts (length rest')) e (record {
          value = grow v a.value;
          before = λ s.
              let z = a.before s in
              let spine' = chained.push (suc (c - 1)) (grow v a.value) (c - 1) v a.value [] (chained.root_after (suc (c - 1)) (grow v a.value)) in
              record {
                pending = z.pending;
                rest = z.rest;
                rest_is = z.rest_is;
                reach = along (chain.reads (c - 1) (omega (arith, h, within)) (suc (c - 1)) (grow v a.value) (tail (c - 1) a.value ∷ []) spine' s) z.reach;
              };
        });
  };
  reads = λ d h c w q is s.
      let e : d ≡ suc (d - 1) = omega (arith, h) in
      let is' = subst (λ (l : ℕ). after c w l (grow v o) q) e is in
      along (chain.reads (d - 1) (omega (arith, h)) c w (tail (d - 1) o ∷ q) (chained.push c w (d - 1) v o q is') s) (found.reads (d - 1) (omega (arith, h)) (q ++ s));
  only = λ c w s s' ts' clear r h.
      let longer' = longer e in
      let z = chain.only c w s s' ts' clear r (omega (arith, h, shorter)) in
      let y = at_first clear e on (chained.first c w z.at v z.tails z.is) z.reach (omega (arith, h, shorter, longer')) in
      let u = found.only z.at y.by (y.others ++ s) s' ts' (clears c w (suc z.at) (grow v y.by) y.others s y.spine clear) (moved (ap (λ (l : List Sym). l ++ s) y.is) z.reach) h in
      record {
        at = suc z.at;
        tails = y.others;
        is = subst (λ (o : O). after c w (suc z.at) (grow v o) y.others) u.value y.spine;
        deep = let d = z.deep in let k = u.bound in omega (arith, d, k);
        reach = u.reach;
      };
}

-- a tail is broken, or too deep
pub chain_broken : {V O : Type 0} {x item : ℕ → V → Sym} {tail : ℕ → O → Sym} {grow : V → O → V} {spine after : Spine V} {cont cont' : TokenKind → Bool} {b : ℕ} {ts : List Token} {v : V} {n left : ℕ} {t : Token} {us rest : List Token} →
    Chained x item tail grow spine after → Chain x spine cont (suc b) ts v n rest → n ≤ b → rest ≡ t ∷ us → cont t.kind ≡ true →
    Broken (one tail) cont' b rest left → left < length rest →
    ((c : ℕ) (w : V) (d : ℕ) (v : V) (q s : List Sym) → after c w d v q → Clear cont s → Clear cont' (q ++ s)) →
    Broken (one x) cont (suc b) ts left
chain_broken {V} {O} {x} {item} {tail} {grow} {spine} {after} {cont} {cont'} {b} {ts} {v} {n} {left} {t} {us} {rest} chained chain within e on broken shorter clears = record {
  short = let h = chain.short in omega (arith, h, shorter);
  comes = record {
    at = λ c h.
        let a = broken.comes.at (c - 1) (omega (arith, h)) in
        let e : suc (c - 1) ≡ c = omega (arith, h) in
        subst (λ (l : ℕ). ComesAt (one x) l ts left) e (record {
          value = grow v a.value;
          before = λ s.
              let z = a.before s in
              let spine' = chained.push (suc (c - 1)) (grow v a.value) (c - 1) v a.value [] (chained.root_after (suc (c - 1)) (grow v a.value)) in
              record {
                pending = z.pending;
                rest = z.rest;
                rest_is = z.rest_is;
                reach = along (chain.reads (c - 1) (omega (arith, h, within)) (suc (c - 1)) (grow v a.value) (tail (c - 1) a.value ∷ []) spine' s) z.reach;
              };
        });
  };
  none = λ c w s s' ts' clear r h.
      let longer' = longer e in
      let z = chain.only c w s s' ts' clear r (omega (arith, h, shorter)) in
      let y = at_first clear e on (chained.first c w z.at v z.tails z.is) z.reach (omega (arith, h, shorter, longer')) in
      broken.none z.at y.by (y.others ++ s) s' ts' (clears c w (suc z.at) (grow v y.by) y.others s y.spine clear) (moved (ap (λ (l : List Sym). l ++ s) y.is) z.reach) h;
}

pub chain_tail_deep : {V O : Type 0} {x item : ℕ → V → Sym} {tail : ℕ → O → Sym} {grow : V → O → V} {spine after : Spine V} {cont cont' : TokenKind → Bool} {b : ℕ} {ts : List Token} {v : V} {n left : ℕ} {t : Token} {us rest : List Token} →
    Chained x item tail grow spine after → Chain x spine cont (suc b) ts v n rest → n ≤ b → rest ≡ t ∷ us → cont t.kind ≡ true →
    TooDeep (one tail) cont' b rest left →
    ((c : ℕ) (w : V) (d : ℕ) (v : V) (q s : List Sym) → after c w d v q → Clear cont s → Clear cont' (q ++ s)) →
    TooDeep (one x) cont (suc b) ts left
chain_tail_deep {V} {O} {x} {item} {tail} {grow} {spine} {after} {cont} {cont'} {b} {ts} {v} {n} {left} {t} {us} {rest} chained chain within e on deep clears =
    let comes : (k m : ℕ) → n ≤ m → Comes (one tail) m rest k → Comes (one x) (suc m) ts k = λ k m g f. record {
      at = λ c h.
          let a = f.at (c - 1) (omega (arith, h)) in
          let e : suc (c - 1) ≡ c = omega (arith, h) in
          subst (λ (l : ℕ). ComesAt (one x) l ts k) e (record {
            value = grow v a.value;
            before = λ s.
                let z = a.before s in
                let spine' = chained.push (suc (c - 1)) (grow v a.value) (c - 1) v a.value [] (chained.root_after (suc (c - 1)) (grow v a.value)) in
                record {
                  pending = z.pending;
                  rest = z.rest;
                  rest_is = z.rest_is;
                  reach = along (chain.reads (c - 1) (omega (arith, h, g)) (suc (c - 1)) (grow v a.value) (tail (c - 1) a.value ∷ []) spine' s) z.reach;
                };
          });
    }
    in
    let more : Comes (one tail) (max n deep.depth) rest left = record { at = λ c h. deep.deeper.at c (omega (arith, h)) } in
    record {
      short = let h = chain.short in let k = deep.short in omega (arith, h, k);
      comes = comes (suc left) b within deep.comes;
      deep = λ c w s s' ts' clear r h.
          let longer' = longer e in
          let k = deep.short in
          let z = chain.only c w s s' ts' clear r (omega (arith, h, k)) in
          let y = at_first clear e on (chained.first c w z.at v z.tails z.is) z.reach (omega (arith, h, k, longer')) in
          let u = deep.deep z.at y.by (y.others ++ s) s' ts' (clears c w (suc z.at) (grow v y.by) y.others s y.spine clear) (moved (ap (λ (l : List Sym). l ++ s) y.is) z.reach) h in
          let above = y.above in
          omega (arith, u, above);
      depth = suc (max n deep.depth);
      deeper = comes left (max n deep.depth) (omega arith) more;
    }

at_stop : {V O : Type 0} {tail : ℕ → O → Sym} {grow : V → O → V} {after : Spine V} {c : ℕ} {w : V} {d : ℕ} {v : V} {q s s' : List Sym} {ts' : List Token} {n : ℕ} {rest : List Token} →
    ((c : ℕ) (o : O) (s s' : List Sym) (ts' : List Token) → Reach s' ts' (tail c o ∷ s) rest → size s' ts' ≤ 2 * length rest → ⊥) →
    size s' ts' ≤ 2 * length rest → n ≤ d → Reach s' ts' (q ++ s) rest → NoTail c w d v q ⊎ FirstTail tail grow after c w d v q → Remains v n rest c w s s' ts'
at_stop {d = d} {s = s} stuck h k r (inl z) = record { value = z.value; bound = let b = z.bound in omega (arith, k, b); reach = moved (ap (λ (l : List Sym). l ++ s) z.is) r }
at_stop {d = d} {s = s} {s' = s'} {ts' = ts'} stuck h k r (inr z) = absurd (stuck d z.by (z.others ++ s) s' ts' (moved (ap (λ (l : List Sym). l ++ s) z.is) r) h)

-- no tail follows
pub chain_stop : {V O : Type 0} {x item : ℕ → V → Sym} {tail : ℕ → O → Sym} {grow : V → O → V} {spine after : Spine V} {cont : TokenKind → Bool} {b : ℕ} {ts : List Token} {v : V} {n : ℕ} {rest : List Token} →
    Chained x item tail grow spine after → Chain x spine cont b ts v n rest →
    ((c : ℕ) (o : O) (s s' : List Sym) (ts' : List Token) → Reach s' ts' (tail c o ∷ s) rest → size s' ts' ≤ 2 * length rest → ⊥) →
    Found (one x) cont b ts v n rest
chain_stop {V} {O} {x} {item} {tail} {grow} {spine} {after} {cont} {b} {ts} {v} {n} {rest} chained chain stuck = record {
  short = chain.short;
  comes = chain.comes;
  reads = λ c h s. chain.reads c h c v [] (chained.root c v) s;
  only = λ c w s s' ts' clear r h.
      let z = chain.only c w s s' ts' clear r h in
      at_stop stuck h z.deep z.reach (chained.first c w z.at v z.tails z.is);
}

-- a tail follows, and what is read is already as deep as it may be
pub chain_deep : {V O : Type 0} {x item : ℕ → V → Sym} {tail : ℕ → O → Sym} {grow : V → O → V} {spine after : Spine V} {cont : TokenKind → Bool} {b : ℕ} {ts : List Token} {v : V} {n : ℕ} {t : Token} {us rest : List Token} →
    Chained x item tail grow spine after → Chain x spine cont b ts v n rest → b ≤ n → rest ≡ t ∷ us → cont t.kind ≡ true →
    ((c : ℕ) → ComesAt (one tail) c rest (length us)) →
    TooDeep (one x) cont b ts (length us)
chain_deep {V} {O} {x} {item} {tail} {grow} {spine} {after} {cont} {b} {ts} {v} {n} {t} {us} {rest} chained chain over e on begins =
    let longer' = longer e in
    record {
      short = let h = chain.short in omega (arith, h, longer');
      comes = subst (λ (l : ℕ). Comes (one x) b ts l) longer' chain.comes;
      deep = λ c w s s' ts' clear r h.
          let z = chain.only c w s s' ts' clear r (omega (arith, h, longer')) in
          let y = at_first clear e on (chained.first c w z.at v z.tails z.is) z.reach h in
          let above = y.above in
          let deep = z.deep in
          omega (arith, above, deep, over);
      depth = suc n;
      deeper = record {
        at = λ c h.
            let a = begins (c - 1) in
            let e : suc (c - 1) ≡ c = omega (arith, h) in
            subst (λ (l : ℕ). ComesAt (one x) l ts (length us)) e (record {
              value = grow v a.value;
              before = λ s.
                  let z = a.before s in
                  let spine' = chained.push (suc (c - 1)) (grow v a.value) (c - 1) v a.value [] (chained.root_after (suc (c - 1)) (grow v a.value)) in
                  record {
                    pending = z.pending;
                    rest = z.rest;
                    rest_is = z.rest_is;
                    reach = along (chain.reads (c - 1) (omega (arith, h)) (suc (c - 1)) (grow v a.value) (tail (c - 1) a.value ∷ []) spine' s) z.reach;
                  };
            });
      };
    }
