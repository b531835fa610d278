-- The loop over the operators of a level, and the one comparison.
use Rattle.std.proofs.Common.{Bool, List, Some, None, [], ap, arith, length, max, refl, subst, suc, sym, true, ℕ, ◌++◌, ◌<◌, ◌||◌, ◌∷◌, ◌≡◌, ◌≤◌}
use Rattle.odc_syntax.specs.declared.token.Token.{Token}
use Rattle.odc_syntax.specs.declared.token.TokenKind.{TokenKind}
use Rattle.odc_syntax.specs.declared.grammar.Mode.{Mode}
use Rattle.odc_syntax.specs.declared.grammar.Level.{Level}
use Rattle.odc_syntax.specs.declared.grammar.Level.TheVariants.{Comparison}
use Rattle.odc_syntax.specs.declared.tree.BinaryOp.{BinaryOp}
use Rattle.odc_syntax.specs.Operators.{operator_of, level_of}
use Rattle.odc_syntax.specs.Tree.{Expr}
use Rattle.odc_syntax.specs.Grammar.{Sym, later, chains, item, chain, operation, operated}
use Rattle.odc_syntax.specs.Derives.{Reach}
use Rattle.odc_syntax.specs.Grammar as g
use Rattle.odc_syntax.specs.declared.grammar.Level.TheVariants as level
use Rattle.odc_lookahead.specs.declared.stop.Stop.{Stop}
use Rattle.odc_lookahead.specs.Exact.{Clear, one, Exact, Answer, Found, TooDeep, Remains}
use Rattle.odc_lookahead.specs.Read.{refused, NoOperator}
use Rattle.odc_lookahead.specs.Sets.{starts_suffix, rank, has_rank_from, continues, continues_item, tighter}
use Rattle.odc_lookahead.proofs.reading.Chaining.{Spine, Chain, Chained, chain_first, chain_more, chain_stop, chain_deep}
use Rattle.odc_lookahead.proofs.reading.Nesting.{Many, root, Once, alone, Never, never, below, once_below, chain_nested, many_chained, many_folds, many_unfolds, once_folds, once_unfolds}
use Rattle.odc_lookahead.proofs.reading.Answering.{tail_refused, bound_is, first_refused, wider_exact}
use Rattle.odc_lookahead.proofs.expr.UnaryLemmas.{same_suffix}
use Rattle.odc_lookahead.proofs.expr.BinaryLemmas.{clear_narrow, many_clear, once_clear, operation_begins, operation_found, operation_refused, operation_stuck, operator_goes_on, or_left}

later_item : (l : Level) (m : Mode) → continues_item l (later m) ≡ continues_item l m
later_item l m = ap (λ (f : TokenKind → Bool). λ (k : TokenKind). f k || has_rank_from (suc (rank l)) (operator_of k)) (same_suffix m)

-- what has been read of a chain
abbrev pub ChainAt : Level → Mode → Spine Expr → ℕ → List Token → Expr → ℕ → List Token → Type 0
ChainAt l m spine b ts v n rest = Chain (chain l m) spine (continues l m) b ts v n rest

abbrev pub Operators : Level → Mode → Spine Expr
Operators l m = Many (operation l m) operated

abbrev pub Comparisons : Mode → Spine Expr
Comparisons m = Once (operation Comparison m) operated

pub operators_first : (l : Level) (m : Mode) → chains l ≡ true → (b : ℕ) (ts : List Token) (v : Expr) (n : ℕ) (rest : List Token) →
    Found (one (item l m)) (continues_item l m) b ts v n rest → ChainAt l m (Operators l m) b ts v n rest
operators_first l m e b ts v n rest found =
    let nested = chain_nested l m e in
    chain_first (many_folds (chain l m) (item l m) (operation l m) operated nested) (many_unfolds (chain l m) (item l m) (operation l m) operated nested) root
    (many_clear l m e) found

pub comparison_first : (m : Mode) (b : ℕ) (ts : List Token) (v : Expr) (n : ℕ) (rest : List Token) →
    Found (one (item Comparison m)) (continues_item Comparison m) b ts v n rest → ChainAt Comparison m (Comparisons m) b ts v n rest
comparison_first m b ts v n rest found = chain_first (once_folds m) (once_unfolds m) alone (once_clear m) found

-- an operator that stands next
pub record Stands (l : Level) (rest : List Token) (op : BinaryOp) (t : Token) (us : List Token) : Type 0 where
  pub is : rest ≡ t ∷ us
  pub op_is : operator_of t.kind ≡ Some op
  pub level_is : level_of op ≡ l

module _ (l : Level) (m : Mode) (spine after : Spine Expr) (chained : Chained (chain l m) (item l m) (operation l m) operated spine after)
    (clears : (c : ℕ) (w : Expr) (d : ℕ) (v : Expr) (q s : List Sym) → after c w d v q → Clear (continues l m) s → Clear (continues_item l m) (q ++ s)) where
  clears_later : (c : ℕ) (w : Expr) (d : ℕ) (v : Expr) (q s : List Sym) → after c w d v q → Clear (continues l m) s → Clear (continues_item l (later m)) (q ++ s)
  clears_later c w d v q s a clear = subst (λ (k : TokenKind → Bool). Clear k (q ++ s)) (sym (later_item l m)) (clears c w d v q s a clear)

  -- the operator's right operand is read
  pub operator_more : (m' : Mode) (d b : ℕ) (ts : List Token) (v : Expr) (n : ℕ) (rest : List Token) (op : BinaryOp) (t : Token) (us : List Token) (x : Expr) (k : ℕ) (rest' : List Token) (w : Expr) (n' : ℕ) →
      m' ≡ later m → d ≡ suc b → ChainAt l m spine d ts v n rest → n ≤ b → Stands l rest op t us →
      Found (one (item l m')) (continues_item l m') b us x k rest' → length rest' < length us → w ≡ operated v (record { at = t.at; op = op; right = x }) → n' ≡ suc (max n k) →
      ChainAt l m after d ts w n' rest'
  operator_more m' d b ts v n rest op t us x k rest' w n' f e led within stands found shorter made deep =
      let at_later : Found (one (item l (later m))) (continues_item l (later m)) b us x k rest' = subst (λ (j : Mode). Found (one (item l j)) (continues_item l j) b us x k rest') f found in
      let at_bound : ChainAt l m spine (suc b) ts v n rest = subst (λ (j : ℕ). ChainAt l m spine j ts v n rest) e led in
      let longer : length rest ≡ suc (length us) = ap length stands.is in
      let on = operator_goes_on l m t.kind op stands.op_is stands.level_is in
      let more = chain_more chained at_bound within stands.is on (operation_found (continues_item l (later m)) l m b rest t us op x k rest' stands.is stands.op_is stands.level_is at_later) (omega (arith, shorter, longer)) clears_later in
      subst (λ (j : ℕ). ChainAt l m after j ts w n' rest') (sym e)
      (subst (λ (y : Expr). ChainAt l m after (suc b) ts y n' rest') (sym made) (subst (λ (j : ℕ). ChainAt l m after (suc b) ts (operated v (record { at = t.at; op = op; right = x })) j rest') (sym deep) more))

  pub operator_refused : (m' : Mode) (d b : ℕ) (ts : List Token) (v : Expr) (n : ℕ) (rest : List Token) (op : BinaryOp) (t : Token) (us : List Token) (e : Stop) →
      m' ≡ later m → d ≡ suc b → ChainAt l m spine d ts v n rest → n ≤ b → Stands l rest op t us →
      Exact (one (item l m')) (continues_item l m') b us (refused e) → Exact (one (chain l m)) (continues l m) d ts (refused e)
  operator_refused m' d b ts v n rest op t us stop f e led within stands h =
      let at_later : Exact (one (item l (later m))) (continues_item l (later m)) b us (refused stop) = subst (λ (j : Mode). Exact (one (item l j)) (continues_item l j) b us (refused stop)) f h in
      let at_bound : ChainAt l m spine (suc b) ts v n rest = subst (λ (j : ℕ). ChainAt l m spine j ts v n rest) e led in
      let on = operator_goes_on l m t.kind op stands.op_is stands.level_is in
      bound_is (one (chain l m)) (continues l m) ts (refused stop) e
      (tail_refused stop chained at_bound within stands.is on (operation_refused (continues_item l (later m)) l m b rest t us op stop stands.is stands.op_is stands.level_is at_later)
      (operation_begins l m 0 rest t us op stands.is stands.op_is stands.level_is) clears_later)

  pub operator_deep : (d : ℕ) (ts : List Token) (v : Expr) (n : ℕ) (rest : List Token) (op : BinaryOp) (t : Token) (us : List Token) →
      ChainAt l m spine d ts v n rest → d ≤ n → Stands l rest op t us → TooDeep (one (chain l m)) (continues l m) d ts (length us)
  operator_deep d ts v n rest op t us led over stands =
      chain_deep chained led over stands.is (operator_goes_on l m t.kind op stands.op_is stands.level_is) (λ c. operation_begins l m c rest t us op stands.is stands.op_is stands.level_is)

  pub operator_none : (d : ℕ) (ts : List Token) (v : Expr) (n : ℕ) (rest : List Token) → ChainAt l m spine d ts v n rest → NoOperator l rest → Found (one (chain l m)) (continues l m) d ts v n rest
  operator_none d ts v n rest led none = chain_stop chained led (operation_stuck l m rest none)

pub operators_chained : (l : Level) (m : Mode) → chains l ≡ true → Chained (chain l m) (item l m) (operation l m) operated (Operators l m) (Operators l m)
operators_chained l m e = many_chained (chain l m) (item l m) (operation l m) operated (chain_nested l m e)

pub operators_refused : (l : Level) (m : Mode) → chains l ≡ true → (b : ℕ) (ts : List Token) (e : Stop) → Exact (one (item l m)) (continues_item l m) b ts (refused e) → Exact (one (chain l m)) (continues l m) b ts (refused e)
operators_refused l m e b ts stop h =
    let nested = chain_nested l m e in
    first_refused (chain l m) (item l m) (Operators l m) (continues_item l m) b ts stop (many_folds (chain l m) (item l m) (operation l m) operated nested) (many_unfolds (chain l m) (item l m) (operation l m) operated nested) root
    (below (chain l m) (item l m) (operation l m) operated nested) (many_clear l m e) h

pub comparison_refused : (m : Mode) (b : ℕ) (ts : List Token) (e : Stop) → Exact (one (item Comparison m)) (continues_item Comparison m) b ts (refused e) → Exact (one (chain Comparison m)) (continues Comparison m) b ts (refused e)
comparison_refused m b ts stop h = first_refused (chain Comparison m) (item Comparison m) (Comparisons m) (continues_item Comparison m) b ts stop (once_folds m) (once_unfolds m) alone (once_below m) (once_clear m) h

at_never : {c : ℕ} {w : Expr} {d : ℕ} {v : Expr} {q s s' : List Sym} {ts' : List Token} {n : ℕ} {rest : List Token} → Never c w d v q → n ≤ d → Reach s' ts' (q ++ s) rest → Remains v n rest c w s s' ts'
at_never (never c v) h r = record { value = refl; bound = h; reach = r }

-- a whole comparison
pub comparison_done : (m : Mode) (d : ℕ) (ts : List Token) (v : Expr) (n : ℕ) (rest : List Token) → ChainAt Comparison m Never d ts v n rest → Found (one (chain Comparison m)) (continues Comparison m) d ts v n rest
comparison_done m d ts v n rest led = record {
  short = led.short;
  comes = led.comes;
  reads = λ c h s. led.reads c h c v [] (never c v) s;
  only = λ c w s s' ts' clear r h. let z = led.only c w s s' ts' clear r h in at_never z.is z.deep z.reach;
}

-- at the level that a match has found
pub item_at : (l of : Level) (m : Mode) (d : ℕ) (ts : List Token) (r : Answer Expr) → l ≡ of → Exact (one (item of m)) (continues_item of m) d ts r → Exact (one (item l m)) (continues_item l m) d ts r
item_at l of m d ts r e h = subst (λ (k : Level). Exact (one (item k m)) (continues_item k m) d ts r) (sym e) h

-- at the level that is one tighter, and where none is
pub tighter_item : (l of : Level) (m : Mode) (d : ℕ) (ts : List Token) (r : Answer Expr) → tighter l ≡ Some of → Exact (one (chain of m)) (continues of m) d ts r → Exact (one (item l m)) (continues_item l m) d ts r
tighter_item level.Or level.And m d ts r e h = h
tighter_item level.And level.Comparison m d ts r e h = h
tighter_item level.Comparison level.Sum m d ts r e h = h
tighter_item level.Sum level.Product m d ts r e h = h
tighter_item _ _ m d ts r e h = cc

pub no_tighter : (l : Level) → tighter l ≡ None → l ≡ level.Product
no_tighter level.Product e = refl
no_tighter _ e = cc

pub chain_at : (l of : Level) (m : Mode) (d : ℕ) (ts : List Token) (r : Answer Expr) → l ≡ of → Exact (one (chain of m)) (continues of m) d ts r → Exact (one (chain l m)) (continues l m) d ts r
chain_at l of m d ts r e h = subst (λ (k : Level). Exact (one (chain k m)) (continues k m) d ts r) (sym e) h

pub product_item : (l : Level) (m : Mode) (d : ℕ) (ts : List Token) (r : Answer Expr) → l ≡ level.Product → Exact (one (g.unary m)) (starts_suffix m) d ts r → Exact (one (item l m)) (continues_item l m) d ts r
product_item l m d ts r e h =
    item_at l level.Product m d ts r e (wider_exact (one (g.unary m)) d ts r (λ s clear. clear_narrow (λ k on. or_left (starts_suffix m k) _ on) clear) h)
