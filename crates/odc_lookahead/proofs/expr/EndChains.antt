-- The first link of the chain of suffixes behind an operand that ends before a `.`: one token more is read
-- until there is one reading.
use Rattle.std.proofs.Common.{◌≡◌, ℕ, suc, ◌-◌, ◌*◌, ◌<◌, ◌≤◌, max, Bool, true, List, [], ◌∷◌, ◌++◌, length, ap, subst, arith, ◌⊎◌, inl, inr}
use Rattle.std.proofs.Math.Nat.{lt_of_not-le}
use Rattle.odc_syntax.specs.declared.token.Token.{Token}
use Rattle.odc_syntax.specs.declared.token.TokenKind.{TokenKind}
use Rattle.odc_syntax.specs.declared.token.TokenKind.TheVariants as kind
use Rattle.odc_syntax.specs.Grammar.{Sym}
use Rattle.odc_syntax.specs.Derives.{Reach, StartsWithout}
use Rattle.odc_lookahead.specs.declared.end.End.{End}
use Rattle.odc_lookahead.specs.declared.end.End.TheVariants.{Sure, BeforeDot}
use Rattle.odc_lookahead.specs.declared.stop.Stop.{Stop}
use Rattle.odc_lookahead.specs.declared.stop.Stop.TheVariants as stop
use Rattle.odc_lookahead.specs.Exact.{size, Clear, one, ComesAt, Comes, Found, Broken, TooDeep, Exact}
use Rattle.odc_lookahead.specs.Ends.{Follows, sure, FoundTo}
use Rattle.odc_lookahead.specs.Read.{refused}
use Rattle.odc_lookahead.proofs.reading.Reaching.{along, moved}
use Rattle.odc_lookahead.proofs.reading.Leading.{without}
use Rattle.odc_lookahead.proofs.reading.Chaining.{Spine, FirstTail, NoTail, Unfolds, Chained, Ahead, Chain}
use Rattle.odc_lookahead.proofs.reading.Answering.{nothing_read}
use Rattle.odc_lookahead.proofs.reading.EndLemmas.{sure_most, sure_least}

at_most : (s : List Sym) (ts : List Token) → size s ts ≤ suc (2 * length ts)
at_most [] ts = omega arith
at_most (x ∷ s) ts = omega arith

-- v, of depth n, has been read up to such an end, and the tails that may follow it are still pending
pub record ChainTo {V : Type 0} (x : ℕ → V → Sym) (spine : Spine V) (cont : TokenKind → Bool) (b : ℕ) (ts : List Token) (v : V) (n : ℕ) (rest : List Token) (end : End) : Type 0 where
  pub short : length rest ≤ length ts
  pub follows : Follows end rest
  pub comes : Comes (one x) b ts (sure end rest)
  pub reads : (d : ℕ) → n ≤ d → (c : ℕ) (w : V) (q : List Sym) → spine c w d v q → (s : List Sym) → Reach (q ++ s) rest (x c w ∷ s) ts
  pub only : (c : ℕ) (w : V) (s s' : List Sym) (ts' : List Token) → Clear cont s → Reach s' ts' (x c w ∷ s) ts →
      size s' ts' ≤ 2 * sure end rest → Ahead spine v n rest c w s s' ts'

-- a chain that is read for sure, and back
pub chain_to : {V : Type 0} {x : ℕ → V → Sym} {spine : Spine V} {cont : TokenKind → Bool} {b : ℕ} {ts : List Token} {v : V} {n : ℕ} {rest : List Token} → Chain x spine cont b ts v n rest → ChainTo x spine cont b ts v n rest Sure
chain_to c = record { short = c.short; follows = tt; comes = c.comes; reads = c.reads; only = c.only }

pub sure_chain : {V : Type 0} {x : ℕ → V → Sym} {spine : Spine V} {cont : TokenKind → Bool} {b : ℕ} {ts : List Token} {v : V} {n : ℕ} {rest : List Token} → ChainTo x spine cont b ts v n rest Sure → Chain x spine cont b ts v n rest
sure_chain c = record { short = c.short; comes = c.comes; reads = c.reads; only = c.only }

pub to_chain : {V : Type 0} {x : ℕ → V → Sym} {spine : Spine V} {cont : TokenKind → Bool} {b : ℕ} {ts : List Token} {v : V} {n : ℕ} {rest : List Token} (end : End) → ChainTo x spine cont b ts v n rest end → StartsWithout kind.Dot rest →
    Chain x spine cont b ts v n rest
to_chain Sure c open' = sure_chain c
to_chain {rest = rest} BeforeDot c open' = let z = c.follows in absurd (without kind.Dot z.dot z.behind rest z.is z.kind open')

-- the item is read
pub chain_first_to : {V : Type 0} {x item : ℕ → V → Sym} {spine : Spine V} {cont cont' : TokenKind → Bool} {b : ℕ} {ts : List Token} {v : V} {n : ℕ} {rest : List Token} {end : End} →
    ((c : ℕ) (w : V) (d : ℕ) (v : V) (q : List Sym) → spine c w d v q → (ts : List Token) (s : List Sym) → Reach (item d v ∷ (q ++ s)) ts (x c w ∷ s) ts) →
    ((c : ℕ) (w : V) (s s' : List Sym) (ts' : List Token) → Reach s' ts' (x c w ∷ s) ts → size s' ts' ≤ 2 * length ts → Unfolds item spine s' ts' c w s ts) →
    ((c : ℕ) (v : V) → spine c v c v []) →
    ((c : ℕ) (w : V) (d : ℕ) (v : V) (q s : List Sym) → spine c w d v q → Clear cont s → Clear cont' (q ++ s)) →
    FoundTo (one item) cont' b ts v n rest end → ChainTo x spine cont b ts v n rest end
chain_first_to {V} {x} {item} {spine} {cont} {cont'} {b} {ts} {v} {n} {rest} {end} folds unfolds root clears found = record {
  short = found.short;
  follows = found.follows;
  comes = record {
    at = λ c h.
        let a = found.comes.at c h in
        record {
          value = a.value;
          before = λ s.
              let z = a.before s in
              record { pending = z.pending; rest = z.rest; rest_is = z.rest_is; reach = along (folds c a.value c a.value [] (root c a.value) ts s) z.reach };
        };
  };
  reads = λ d h c w q is s. along (folds c w d v q is ts s) (found.reads d h (q ++ s));
  only = λ c w s s' ts' clear r h.
      let k = found.short in
      let i = sure_most end rest in
      let z = unfolds c w s s' ts' r (omega (arith, h, k, i)) in
      let y = found.only z.at z.value (z.tails ++ s) s' ts' (clears c w z.at z.value z.tails s z.is clear) z.reach h in
      record { at = z.at; tails = z.tails; is = subst (λ (v : V). spine c w z.at v z.tails) y.value z.is; deep = y.bound; reach = y.reach };
}

-- what follows reads no token that could go on
stops_to : {cont : TokenKind → Bool} {s s' : List Sym} {ts' : List Token} {t : Token} {us rest : List Token} → Clear cont s → rest ≡ t ∷ us → cont t.kind ≡ true →
    Reach s' ts' s rest → size s' ts' ≤ suc (2 * length us) → ⊥
stops_to {cont} {s} {s'} {ts'} {t} {us} {rest} clear e on r h =
    clear.stops t us s' ts' on (subst (λ (l : List Token). Reach s' ts' s l) e r) h

pub at_first_to : {V O : Type 0} {tail : ℕ → O → Sym} {grow : V → O → V} {after : Spine V} {cont : TokenKind → Bool} {c : ℕ} {w : V} {d : ℕ} {v : V} {q s s' : List Sym} {ts' : List Token} {t : Token} {us rest : List Token} →
    Clear cont s → rest ≡ t ∷ us → cont t.kind ≡ true → NoTail c w d v q ⊎ FirstTail tail grow after c w d v q →
    Reach s' ts' (q ++ s) rest → size s' ts' ≤ suc (2 * length us) → FirstTail tail grow after c w d v q
at_first_to {s = s} clear e on (inl z) r h = absurd (stops_to clear e on (moved (ap (λ (l : List Sym). l ++ s) z.is) r) h)
at_first_to clear e on (inr z) r h = z

module _ {V O : Type 0} {x item : ℕ → V → Sym} {tail : ℕ → O → Sym} {grow : V → O → V} {spine after : Spine V} (chained : Chained x item tail grow spine after) where
  -- behind one more tail
  pub tail_comes : {cont : TokenKind → Bool} {b m k : ℕ} {ts : List Token} {v : V} {n : ℕ} {rest : List Token} {end : End} →
      ChainTo x spine cont b ts v n rest end → n ≤ m → Comes (one tail) m rest k → Comes (one x) (suc m) ts k
  tail_comes {k = k} {ts = ts} {v = v} chain within comes = record {
    at = λ c h.
        let a = comes.at (c - 1) (omega (arith, h)) in
        let e : suc (c - 1) ≡ c = omega (arith, h) in
        subst (λ (l : ℕ). ComesAt (one x) l ts k) e (record {
          value = grow v a.value;
          before = λ s.
              let z = a.before s in
              let spine' = chained.push (suc (c - 1)) (grow v a.value) (c - 1) v a.value [] (chained.root_after (suc (c - 1)) (grow v a.value)) in
              record {
                pending = z.pending;
                rest = z.rest;
                rest_is = z.rest_is;
                reach = along (chain.reads (c - 1) (omega (arith, h, within)) (suc (c - 1)) (grow v a.value) (tail (c - 1) a.value ∷ []) spine' s) z.reach;
              };
        });
  }

  -- one more tail is read
  pub chain_more_to : {cont cont' : TokenKind → Bool} {b : ℕ} {ts : List Token} {v : V} {n m : ℕ} {o : O} {t : Token} {us rest rest' : List Token} (end : End) →
      ChainTo x spine cont (suc b) ts v n rest end → n ≤ b → rest ≡ t ∷ us → cont t.kind ≡ true →
      Found (one tail) cont' b rest o m rest' → length rest' < length rest →
      ((c : ℕ) (w : V) (d : ℕ) (v : V) (q s : List Sym) → after c w d v q → Clear cont s → Clear cont' (q ++ s)) →
      Chain x after cont (suc b) ts (grow v o) (suc (max n m)) rest'
  chain_more_to {cont} {cont'} {b} {ts} {v} {n} {m} {o} {t} {us} {rest} {rest'} end chain within e on found shorter clears = record {
    short = let h = chain.short in let k = found.short in omega (arith, h, k);
    comes = tail_comes chain within found.comes;
    reads = λ d h c w q is s.
        let e : d ≡ suc (d - 1) = omega (arith, h) in
        let is' = subst (λ (l : ℕ). after c w l (grow v o) q) e is in
        along (chain.reads (d - 1) (omega (arith, h)) c w (tail (d - 1) o ∷ q) (chained.push c w (d - 1) v o q is') s) (found.reads (d - 1) (omega (arith, h)) (q ++ s));
    only = λ c w s s' ts' clear r h.
        let longer : length rest ≡ suc (length us) = ap length e in
        let i = sure_least end rest in
        let z = chain.only c w s s' ts' clear r (omega (arith, h, shorter, i)) in
        let y = at_first_to clear e on (chained.first c w z.at v z.tails z.is) z.reach (omega (arith, h, shorter, longer)) in
        let u = found.only z.at y.by (y.others ++ s) s' ts' (clears c w (suc z.at) (grow v y.by) y.others s y.spine clear) (moved (ap (λ (l : List Sym). l ++ s) y.is) z.reach) h in
        record {
          at = suc z.at;
          tails = y.others;
          is = subst (λ (o : O). after c w (suc z.at) (grow v o) y.others) u.value y.spine;
          deep = let d = z.deep in let k = u.bound in omega (arith, d, k);
          reach = u.reach;
        };
  }

  chain_broken_to : {cont cont' : TokenKind → Bool} {b : ℕ} {ts : List Token} {v : V} {n left : ℕ} {t : Token} {us rest : List Token} (end : End) →
      ChainTo x spine cont (suc b) ts v n rest end → n ≤ b → rest ≡ t ∷ us → cont t.kind ≡ true →
      Broken (one tail) cont' b rest left → left < length rest →
      ((c : ℕ) (w : V) (d : ℕ) (v : V) (q s : List Sym) → after c w d v q → Clear cont s → Clear cont' (q ++ s)) →
      Broken (one x) cont (suc b) ts left
  chain_broken_to {cont} {cont'} {b} {ts} {v} {n} {left} {t} {us} {rest} end chain within e on broken shorter clears = record {
    short = let h = chain.short in omega (arith, h, shorter);
    comes = tail_comes chain within broken.comes;
    none = λ c w s s' ts' clear r h.
        let longer : length rest ≡ suc (length us) = ap length e in
        let i = sure_least end rest in
        let z = chain.only c w s s' ts' clear r (omega (arith, h, shorter, i)) in
        let y = at_first_to clear e on (chained.first c w z.at v z.tails z.is) z.reach (omega (arith, h, shorter, longer)) in
        broken.none z.at y.by (y.others ++ s) s' ts' (clears c w (suc z.at) (grow v y.by) y.others s y.spine clear) (moved (ap (λ (l : List Sym). l ++ s) y.is) z.reach) h;
  }

  chain_tail_deep_to : {cont cont' : TokenKind → Bool} {b : ℕ} {ts : List Token} {v : V} {n left : ℕ} {t : Token} {us rest : List Token} (end : End) →
      ChainTo x spine cont (suc b) ts v n rest end → n ≤ b → rest ≡ t ∷ us → cont t.kind ≡ true →
      TooDeep (one tail) cont' b rest left → left < length us →
      ((c : ℕ) (w : V) (d : ℕ) (v : V) (q s : List Sym) → after c w d v q → Clear cont s → Clear cont' (q ++ s)) →
      TooDeep (one x) cont (suc b) ts left
  chain_tail_deep_to {cont} {cont'} {b} {ts} {v} {n} {left} {t} {us} {rest} end chain within e on deep shorter clears =
      let more : Comes (one tail) (max n deep.depth) rest left = record { at = λ c h. deep.deeper.at c (omega (arith, h)) } in
      record {
        short = let h = chain.short in let k = deep.short in omega (arith, h, k);
        comes = tail_comes chain within deep.comes;
        deep = λ c w s s' ts' clear r h.
            let longer : length rest ≡ suc (length us) = ap length e in
            let i = sure_least end rest in
            let z = chain.only c w s s' ts' clear r (omega (arith, h, shorter, longer, i)) in
            let y = at_first_to clear e on (chained.first c w z.at v z.tails z.is) z.reach (omega (arith, h, shorter)) in
            let u = deep.deep z.at y.by (y.others ++ s) s' ts' (clears c w (suc z.at) (grow v y.by) y.others s y.spine clear) (moved (ap (λ (l : List Sym). l ++ s) y.is) z.reach) h in
            let above = y.above in
            omega (arith, u, above);
        depth = suc (max n deep.depth);
        deeper = tail_comes chain (omega arith) more;
      }

  -- a tail isn't read
  pub tail_refused_to : {cont cont' : TokenKind → Bool} {b : ℕ} {ts : List Token} {v : V} {n : ℕ} {t : Token} {us rest : List Token} (end : End) (e : Stop) →
      ChainTo x spine cont (suc b) ts v n rest end → n ≤ b → rest ≡ t ∷ us → cont t.kind ≡ true →
      Exact (one tail) cont' b rest (refused e) → ComesAt (one tail) 0 rest (length us) →
      ((c : ℕ) (w : V) (d : ℕ) (v : V) (q s : List Sym) → after c w d v q → Clear cont s → Clear cont' (q ++ s)) →
      Exact (one x) cont (suc b) ts (refused e)
  tail_refused_to {cont' = cont'} {us = us} {rest = rest} end (stop.Syntax left) chain within is on h begins clears =
      chain_broken_to end chain within is on h
      (let z = begins.before [] in
      let longer : length rest ≡ suc (length us) = ap length is in
      lt_of_not-le (λ k. h.none 0 begins.value [] z.pending z.rest (record { stops = λ t us s' ts' o r n. nothing_read t us s' ts' r n }) z.reach
      (let e = z.rest_is in let u = at_most z.pending z.rest in omega (arith, k, e, longer, u))))
      clears
  tail_refused_to {cont' = cont'} {b = b} {us = us} {rest = rest} end (stop.Deep left) chain within is on h begins clears =
      chain_tail_deep_to end chain within is on h
      (let z = begins.before [] in
      lt_of_not-le (λ k.
      let bad : b < 0 = h.deep 0 begins.value [] z.pending z.rest (record { stops = λ t us s' ts' o r n. nothing_read t us s' ts' r n }) z.reach
      (let e = z.rest_is in let u = at_most z.pending z.rest in omega (arith, k, e, u)) in
      omega (arith, bad)))
      clears
  tail_refused_to end stop.Memory chain within is on h begins clears = tt
