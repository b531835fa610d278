-- The two shapes of left-nested parts: with any number of tails, and with at most one.
use Rattle.std.proofs.Common.{◌≡◌, ℕ, suc, ◌*◌, ◌≤◌, true, List, [], ◌∷◌, ◌++◌, length, refl, sym, ◌∙◌, ap, subst, arith, append_assoc, ◌⊎◌, inl, inr}
use Rattle.odc_syntax.specs.declared.token.Token.{Token}
use Rattle.odc_syntax.specs.declared.grammar.Level.{Level}
use Rattle.odc_syntax.specs.declared.grammar.Level.TheVariants.{Comparison}
use Rattle.odc_syntax.specs.declared.grammar.Mode.{Mode}
use Rattle.odc_syntax.specs.Tree.{Expr}
use Rattle.odc_syntax.specs.Grammar.{Sym, Rule, chain, operation, item, postfix, operand, suffix, Operation, operated, suffixed, chains, chain_one, chain_more, chain_twice, postfix_one, postfix_more}
use Rattle.odc_syntax.specs.Derives.{Reach, here, read, read_said, see, see_not, see_no_member, write}
use Rattle.odc_lookahead.specs.Exact.{size}
use Rattle.odc_lookahead.proofs.reading.Reaching.{moved, IsPart, behind_part}
use Rattle.odc_lookahead.proofs.reading.Chaining.{FirstTail, NoTail, Unfolds, Chained}

pub record MoreTail {V O : Type 0} (x : ℕ → V → Sym) (tail : ℕ → O → Sym) (grow : V → O → V) (c : ℕ) (w : V) (p : List Sym) : Type 0 where
  pub at : ℕ
  pub of : V
  pub by : O
  pub bound : c ≡ suc at
  pub value : w ≡ grow of by
  pub is : p ≡ x at of ∷ tail at by ∷ []

-- the rules of a part with any number of tails
pub record Nested {V O : Type 0} (x item : ℕ → V → Sym) (tail : ℕ → O → Sym) (grow : V → O → V) : Type 0 where
  pub part : (c : ℕ) (v : V) → IsPart (x c v)
  pub one : (c : ℕ) (v : V) → Rule (x c v) (item c v ∷ [])
  pub more : (c : ℕ) (v : V) (o : O) → Rule (x (suc c) (grow v o)) (x c v ∷ tail c o ∷ [])
  pub cases : (c : ℕ) (w : V) (p : List Sym) → Rule (x c w) p → (p ≡ item c w ∷ []) ⊎ MoreTail x tail grow c w p

pub data Many {V O : Type 0} (tail : ℕ → O → Sym) (grow : V → O → V) : ℕ → V → ℕ → V → List Sym → Type 0 where
  root : (c : ℕ) (v : V) → Many tail grow c v c v []
  grown : (c : ℕ) (w : V) (d : ℕ) (v : V) (q : List Sym) (o : O) → Many tail grow c w d v q → Many tail grow (suc c) (grow w o) d v (q ++ tail c o ∷ [])

module _ {V O : Type 0} (x item : ℕ → V → Sym) (tail : ℕ → O → Sym) (grow : V → O → V) (rules : Nested x item tail grow) where
  pub below : (c : ℕ) (w : V) (d : ℕ) (v : V) (q : List Sym) → Many tail grow c w d v q → d ≤ c
  below _ _ _ _ _ (root c v) = omega arith
  below _ _ _ _ _ (grown c w d v q o m) = let h = below c w d v q m in omega (arith, h)

  grow_first : (c : ℕ) (w : V) (d : ℕ) (v : V) (q : List Sym) (o : O) → Many tail grow c w d v q → NoTail c w d v q ⊎ FirstTail tail grow (Many tail grow) c w d v q →
      NoTail (suc c) (grow w o) d v (q ++ tail c o ∷ []) ⊎ FirstTail tail grow (Many tail grow) (suc c) (grow w o) d v (q ++ tail c o ∷ [])
  grow_first c w d v q o m (inl z) = inr (record {
    by = o;
    others = [];
    is = ap (λ (l : List Sym). l ++ tail c o ∷ []) z.is ∙ ap (λ (n : ℕ). tail n o ∷ []) z.bound;
    spine = subst (λ (n : ℕ). Many tail grow (suc c) (grow w o) (suc n) (grow v o) []) z.bound
        (subst (λ (u : V). Many tail grow (suc c) (grow w o) (suc c) (grow u o) []) z.value (root (suc c) (grow w o)));
    above = let e = z.bound in omega (arith, e);
  })
  grow_first c w d v q o m (inr z) = inr (record {
    by = z.by;
    others = z.others ++ tail c o ∷ [];
    is = ap (λ (l : List Sym). l ++ tail c o ∷ []) z.is;
    spine = grown c w (suc d) (grow v z.by) z.others o z.spine;
    above = let e = z.above in omega (arith, e);
  })

  first_tail : (c : ℕ) (w : V) (d : ℕ) (v : V) (q : List Sym) → Many tail grow c w d v q → NoTail c w d v q ⊎ FirstTail tail grow (Many tail grow) c w d v q
  first_tail _ _ _ _ _ (root c v) = inl (record { is = refl; bound = refl; value = refl })
  first_tail _ _ _ _ _ (grown c w d v q o m) = grow_first c w d v q o m (first_tail c w d v q m)

  push_at : (c : ℕ) (w : V) (d' : ℕ) (v' : V) (q : List Sym) → Many tail grow c w d' v' q → (d : ℕ) (v : V) (o : O) → d' ≡ suc d → v' ≡ grow v o → Many tail grow c w d v (tail d o ∷ q)
  push_at _ _ _ _ _ (root c u) d v o e f =
      subst (λ (n : ℕ). Many tail grow n u d v (tail d o ∷ [])) (sym e) (subst (λ (y : V). Many tail grow (suc d) y d v (tail d o ∷ [])) (sym f) (grown d v d v [] o (root d v)))
  push_at _ _ _ _ _ (grown c w d' v' q o' m) d v o e f = grown c w d v (tail d o ∷ q) o' (push_at c w d' v' q m d v o e f)

  pub many_chained : Chained x item tail grow (Many tail grow) (Many tail grow)
  many_chained = record {
    root = root;
    root_after = root;
    first = first_tail;
    push = λ c w d v o q m. push_at c w (suc d) (grow v o) q m d v o refl refl;
  }

  pub many_folds : (c : ℕ) (w : V) (d : ℕ) (v : V) (q : List Sym) → Many tail grow c w d v q → (ts : List Token) (s : List Sym) → Reach (item d v ∷ (q ++ s)) ts (x c w ∷ s) ts
  many_folds _ _ _ _ _ (root c v) ts s = write (item c v ∷ []) (rules.one c v) here
  many_folds _ _ _ _ _ (grown c w d v q o m) ts s =
      write (x c w ∷ tail c o ∷ []) (rules.more c w o)
      (subst (λ (l : List Sym). Reach (item d v ∷ l) ts (x c w ∷ tail c o ∷ s) ts) (sym (append_assoc q (tail c o ∷ []) s)) (many_folds c w d v q m ts (tail c o ∷ s)))

  unfold_by : {s' : List Sym} {ts' : List Token} {ts : List Token} (p : List Sym) (s1 : List Sym) → Reach s' ts' (p ++ s1) ts → (c : ℕ) (w : V) (s : List Sym) → s1 ≡ s →
      ((c : ℕ) (w : V) (s : List Sym) → p ++ s1 ≡ x c w ∷ s → Unfolds item (Many tail grow) s' ts' c w s ts) →
      (p ≡ item c w ∷ []) ⊎ MoreTail x tail grow c w p → Unfolds item (Many tail grow) s' ts' c w s ts
  unfold_by p s1 r c w s e again (inl z) =
      record { at = c; value = w; tails = []; is = root c w; reach = moved (ap (λ (l : List Sym). l ++ s1) z ∙ ap (λ (l : List Sym). item c w ∷ l) e) r }
  unfold_by {s'} {ts'} {ts} p s1 r c w s e again (inr z) =
      let u = again z.at z.of (tail z.at z.by ∷ s) (ap (λ (l : List Sym). l ++ s1) z.is ∙ ap (λ (l : List Sym). x z.at z.of ∷ tail z.at z.by ∷ l) e) in
      let tails = u.tails ++ tail z.at z.by ∷ [] in
      record {
        at = u.at;
        value = u.value;
        tails = tails;
        is = subst (λ (n : ℕ). Many tail grow n w u.at u.value tails) (sym z.bound)
            (subst (λ (y : V). Many tail grow (suc z.at) y u.at u.value tails) (sym z.value) (grown z.at z.of u.at u.value u.tails z.by u.is));
        reach = moved (ap (λ (l : List Sym). item u.at u.value ∷ l) (sym (append_assoc u.tails (tail z.at z.by ∷ []) s))) u.reach;
      }

  too_near : (s' : List Sym) (ts : List Token) (y : Sym) (s : List Sym) → s' ≡ y ∷ s → size s' ts ≤ 2 * length ts → ⊥
  too_near s' ts y s e h = let g : size (y ∷ s) ts ≤ 2 * length ts = subst (λ (l : List Sym). size l ts ≤ 2 * length ts) e h in omega (arith, g)

  heads : {a b : Sym} {l m : List Sym} → a ∷ l ≡ b ∷ m → b ≡ a
  heads e = cc

  tails_are : {a b : Sym} {l m : List Sym} → a ∷ l ≡ b ∷ m → l ≡ m
  tails_are e = cc

  part_at : (y : Sym) (c : ℕ) (w : V) (l s : List Sym) → y ∷ l ≡ x c w ∷ s → IsPart y
  part_at y c w l s e = subst (λ (z : Sym). IsPart z) (heads e) (rules.part c w)

  unfold_at : {s' : List Sym} {ts' : List Token} {s0 : List Sym} {ts : List Token} → Reach s' ts' s0 ts → (c : ℕ) (w : V) (s : List Sym) → s0 ≡ x c w ∷ s →
      size s' ts' ≤ 2 * length ts → Unfolds item (Many tail grow) s' ts' c w s ts
  unfold_at {s'} {ts'} here c w s e h = absurd (too_near s' ts' _ s e h)
  unfold_at (read k r) c w s e h = absurd (part_at _ c w _ s e)
  unfold_at (read_said k l r) c w s e h = absurd (part_at _ c w _ s e)
  unfold_at (see k r) c w s e h = absurd (part_at _ c w _ s e)
  unfold_at (see_not k r) c w s e h = absurd (part_at _ c w _ s e)
  unfold_at (see_no_member k r) c w s e h = absurd (part_at _ c w _ s e)
  unfold_at (write {s = s1} p rule r) c w s e h =
      unfold_by p s1 r c w s (tails_are e) (λ c' w' s2 e'. unfold_at r c' w' s2 e' h)
      (rules.cases c w p (subst (λ (z : Sym). Rule z p) (sym (heads e)) rule))

  pub many_unfolds : {ts : List Token} (c : ℕ) (w : V) (s s' : List Sym) (ts' : List Token) → Reach s' ts' (x c w ∷ s) ts →
      size s' ts' ≤ 2 * length ts → Unfolds item (Many tail grow) s' ts' c w s ts
  many_unfolds c w s s' ts' r h = unfold_at r c w s refl h

-- chains of operators
chain_cases : (l : Level) (m : Mode) → chains l ≡ true → (c : ℕ) (w : Expr) (p : List Sym) → Rule (chain l m c w) p →
    (p ≡ item l m c w ∷ []) ⊎ MoreTail (chain l m) (operation l m) operated c w p
chain_cases l m e c w p chain_one = inl refl
chain_cases l m e c w p (chain_more k) = inr (record { at = _; of = _; by = _; bound = refl; value = refl; is = refl })
chain_cases l m e c w p chain_twice = cc

pub chain_nested : (l : Level) (m : Mode) → chains l ≡ true → Nested (chain l m) (item l m) (operation l m) operated
chain_nested l m e = record {
  part = λ c v. tt;
  one = λ c v. chain_one;
  more = λ c v o. chain_more e;
  cases = chain_cases l m e;
}

-- what stands behind an operand
postfix_cases : (m : Mode) (c : ℕ) (w : Expr) (p : List Sym) → Rule (postfix m c w) p → (p ≡ operand m c w ∷ []) ⊎ MoreTail (postfix m) (suffix m) suffixed c w p
postfix_cases m c w p postfix_one = inl refl
postfix_cases m c w p postfix_more = inr (record { at = _; of = _; by = _; bound = refl; value = refl; is = refl })

pub postfix_nested : (m : Mode) → Nested (postfix m) (operand m) (suffix m) suffixed
postfix_nested m = record { part = λ c v. tt; one = λ c v. postfix_one; more = λ c v o. postfix_more; cases = postfix_cases m }

-- one comparison at most
pub data Once {V O : Type 0} (tail : ℕ → O → Sym) (grow : V → O → V) : ℕ → V → ℕ → V → List Sym → Type 0 where
  alone : (c : ℕ) (v : V) → Once tail grow c v c v []
  with_one : (c : ℕ) (v : V) (o : O) → Once tail grow (suc c) (grow v o) c v (tail c o ∷ [])

pub data Never {V : Type 0} : ℕ → V → ℕ → V → List Sym → Type 0 where
  never : (c : ℕ) (v : V) → Never c v c v []

module _ (m : Mode) where
  abbrev of : ℕ → Expr → Sym
  of = chain Comparison m

  abbrev by : ℕ → Operation → Sym
  by = operation Comparison m

  once_first : (c : ℕ) (w : Expr) (d : ℕ) (v : Expr) (q : List Sym) → Once by operated c w d v q → NoTail c w d v q ⊎ FirstTail by operated Never c w d v q
  once_first _ _ _ _ _ (alone c v) = inl (record { is = refl; bound = refl; value = refl })
  once_first _ _ _ _ _ (with_one c v o) = inr (record { by = o; others = []; is = refl; spine = never (suc c) (operated v o); above = omega arith })

  once_push : (c : ℕ) (w : Expr) (d' : ℕ) (v' : Expr) (q : List Sym) → Never c w d' v' q → (d : ℕ) (v : Expr) (o : Operation) → d' ≡ suc d → v' ≡ operated v o → Once by operated c w d v (by d o ∷ q)
  once_push _ _ _ _ _ (never c u) d v o e f =
      subst (λ (n : ℕ). Once by operated n u d v (by d o ∷ [])) (sym e) (subst (λ (y : Expr). Once by operated (suc d) y d v (by d o ∷ [])) (sym f) (with_one d v o))

  pub once_chained : Chained of (item Comparison m) by operated (Once by operated) Never
  once_chained = record { root = alone; root_after = never; first = once_first; push = λ c w d v o q n. once_push c w (suc d) (operated v o) q n d v o refl refl }

  pub once_folds : (c : ℕ) (w : Expr) (d : ℕ) (v : Expr) (q : List Sym) → Once by operated c w d v q → (ts : List Token) (s : List Sym) → Reach (item Comparison m d v ∷ (q ++ s)) ts (of c w ∷ s) ts
  once_folds _ _ _ _ _ (alone c v) ts s = write (item Comparison m c v ∷ []) chain_one here
  once_folds _ _ _ _ _ (with_one c v o) ts s = write (item Comparison m c v ∷ by c o ∷ []) chain_twice here

  once_by : {s' : List Sym} {ts' : List Token} {ts : List Token} {s : List Sym} (c : ℕ) (w : Expr) (p : List Sym) → Rule (chain Comparison m c w) p → Reach s' ts' (p ++ s) ts →
      Unfolds (item Comparison m) (Once by operated) s' ts' c w s ts
  once_by c w p chain_one r = record { at = _; value = _; tails = []; is = alone _ _; reach = r }
  once_by c w p (chain_more e) r = cc
  once_by c w p chain_twice r = record { at = _; value = _; tails = _; is = with_one _ _ _; reach = r }

  pub once_unfolds : {ts : List Token} (c : ℕ) (w : Expr) (s s' : List Sym) (ts' : List Token) → Reach s' ts' (of c w ∷ s) ts →
      size s' ts' ≤ 2 * length ts → Unfolds (item Comparison m) (Once by operated) s' ts' c w s ts
  once_unfolds c w s s' ts' r h = let z = behind_part tt r h in once_by c w z.as_symbols z.rule z.reach

  pub once_below : (c : ℕ) (w : Expr) (d : ℕ) (v : Expr) (q : List Sym) → Once by operated c w d v q → d ≤ c
  once_below _ _ _ _ _ (alone c v) = omega arith
  once_below _ _ _ _ _ (with_one c v o) = omega arith
