-- Chains of binary operators.
use Rattle.std.proofs.Common.{◌≡◌, ℕ, suc, ◌*◌, ◌<◌, ◌≤◌, ◌==◌, Bool, true, false, ◌||◌, List, [], ◌∷◌, ◌++◌, length, refl, sym, ◌∙◌, ap, subst, arith, Option, Some, None, ◌⊎◌, inl, inr}
use Rattle.std.specs.Prelude.{nat_le}
use Rattle.odc_syntax.specs.declared.token.Token.{Token}
use Rattle.odc_syntax.specs.declared.token.TokenKind.{TokenKind}
use Rattle.odc_syntax.specs.declared.token.TokenKind.TheVariants as kind
use Rattle.odc_syntax.specs.declared.grammar.Mode.{Mode}
use Rattle.odc_syntax.specs.declared.grammar.Level.{Level}
use Rattle.odc_syntax.specs.declared.grammar.Level.TheVariants.{Comparison}
use Rattle.odc_syntax.specs.declared.grammar.Level.TheVariants as level
use Rattle.odc_syntax.specs.declared.tree.BinaryOp.{BinaryOp}
use Rattle.odc_syntax.specs.Operators.{operator_of, level_of}
use Rattle.odc_syntax.specs.Tree.{Expr}
use Rattle.odc_syntax.specs.Grammar.{Sym, tok, Rule, later, chains, item, chain, operation, operation_, Operation, operated}
use Rattle.odc_syntax.specs.Derives.{Reach}
use Rattle.odc_lookahead.specs.declared.stop.Stop.{Stop}
use Rattle.odc_lookahead.specs.Exact.{size, Clear, Part, one, then_, done, token, Exact, Found, ComesAt}
use Rattle.odc_lookahead.specs.Read.{refused, NoOperator}
use Rattle.odc_lookahead.specs.Sets.{rank, has_rank, has_rank_from, starts_suffix, continues, continues_item}
use Rattle.odc_lookahead.proofs.reading.Opening.{OpensAll, reach_opens, First}
use Rattle.odc_lookahead.proofs.reading.Leading.{same_depth, Pending, Led, led_part, led_done}
use Rattle.odc_lookahead.proofs.reading.Chaining.{NoTail, FirstTail}
use Rattle.odc_lookahead.proofs.reading.Nesting.{Many, Once, Never, never, chain_nested, many_chained, once_chained}
use Rattle.odc_lookahead.proofs.reading.Answering.{led_start, token_read, part_refused, answer_is}
use Rattle.odc_lookahead.proofs.reading.Samples as sample

-- what may go on with the items of a level
suffix_no_operator : (m : Mode) (k : TokenKind) (op : BinaryOp) → starts_suffix m k ≡ true → operator_of k ≡ Some op → ⊥
suffix_no_operator m kind.Dot op h e = cc
suffix_no_operator m kind.Caret op h e = cc
suffix_no_operator m kind.OpenBracket op h e = cc
suffix_no_operator m kind.OpenParen op h e = cc
suffix_no_operator m kind.OrReturn op h e = cc
suffix_no_operator m kind.OpenBrace op h e = cc
suffix_no_operator m _ op h e = cc

same_rank : (a b : ℕ) → (a == b) ≡ true → a ≡ b
same_rank a b e = grind (arith, e)

above_rank : (a b : ℕ) → nat_le (suc a) b ≡ true → a < b
above_rank a b e = grind (arith, e)

at_or_above : (a b : ℕ) → a ≤ b → nat_le a b ≡ true
at_or_above a b e = grind (arith, e)

ranks_apart : (r : ℕ) (o : Option BinaryOp) → has_rank r o ≡ true → has_rank_from (suc r) o ≡ true → ⊥
ranks_apart r (Some op) h e = let a = same_rank (rank (level_of op)) r h in let b = above_rank r (rank (level_of op)) e in omega (arith, a, b)
ranks_apart r None h e = cc

rank_is_some : (r : ℕ) (k : TokenKind) (m : Mode) (o : Option BinaryOp) → operator_of k ≡ o → has_rank r o ≡ true → starts_suffix m k ≡ true → ⊥
rank_is_some r k m (Some op) e h s = suffix_no_operator m k op s e
rank_is_some r k m None e h s = cc

or_cases : (a b : Bool) → (a || b) ≡ true → (a ≡ true) ⊎ (b ≡ true)
or_cases true b e = inl refl
or_cases false b e = inr e

-- an operator of a level does not go on with an item of that level
item_ends : (l : Level) (m : Mode) (k : TokenKind) → continues_item l m k ≡ true → has_rank (rank l) (operator_of k) ≡ true → ⊥
item_ends l m k c h = elim (or_cases (starts_suffix m k) _ c) [ inl s ↦ rank_is_some (rank l) k m (operator_of k) refl h s | inr r ↦ ranks_apart (rank l) (operator_of k) h r ]

pub or_left : (a b : Bool) → a ≡ true → (a || b) ≡ true
or_left true b e = refl
or_left false b e = cc

or_right : (a b : Bool) → b ≡ true → (a || b) ≡ true
or_right true b e = refl
or_right false b e = e

rank_from_less : (r : ℕ) (o : Option BinaryOp) → has_rank_from (suc r) o ≡ true → has_rank_from r o ≡ true
rank_from_less r (Some op) h = let b = above_rank r (rank (level_of op)) h in at_or_above r (rank (level_of op)) (omega (arith, b))
rank_from_less r None h = h

-- what goes on with an item goes on with the chain
item_goes_on : (l : Level) (m : Mode) (k : TokenKind) → continues_item l m k ≡ true → continues l m k ≡ true
item_goes_on l m k c = elim (or_cases (starts_suffix m k) _ c) [ inl s ↦ or_left (starts_suffix m k) _ s | inr r ↦ or_right (starts_suffix m k) _ (rank_from_less (rank l) (operator_of k) r) ]

rank_from_same : (r : ℕ) (o : Option BinaryOp) → has_rank r o ≡ true → has_rank_from r o ≡ true
rank_from_same r (Some op) h = let a = same_rank (rank (level_of op)) r h in at_or_above r (rank (level_of op)) (omega (arith, a))
rank_from_same r None h = cc

ranks_refl : (a : ℕ) → (a == a) ≡ true
ranks_refl a = grind arith

has_its_rank : (l : Level) (op : BinaryOp) (o : Option BinaryOp) → o ≡ Some op → level_of op ≡ l → has_rank (rank l) o ≡ true
has_its_rank l op (Some x) e f =
    let same : x ≡ op = cc in
    let ranks : rank (level_of x) ≡ rank l = ap (λ (y : BinaryOp). rank (level_of y)) same ∙ ap rank f in
    subst (λ (n : ℕ). (rank (level_of x) == n) ≡ true) ranks (ranks_refl (rank (level_of x)))
has_its_rank l op None e f = cc

pub operator_goes_on : (l : Level) (m : Mode) (k : TokenKind) (op : BinaryOp) → operator_of k ≡ Some op → level_of op ≡ l → continues l m k ≡ true
operator_goes_on l m k op e f = or_right (starts_suffix m k) _ (rank_from_same (rank l) (operator_of k) (has_its_rank l op (operator_of k) e f))

pub clear_narrow : {a b : TokenKind → Bool} {s : List Sym} → ((k : TokenKind) → a k ≡ true → b k ≡ true) → Clear b s → Clear a s
clear_narrow f clear = record { stops = λ t us s' ts' on r h. clear.stops t us s' ts' (f t.kind on) r h }

-- nothing that goes on with an item is read by the tails behind it
item_clear : (l : Level) (m : Mode) (d : ℕ) (o : Operation) (s : List Sym) → Clear (continues_item l m) (operation l m d o ∷ s)
item_clear l m d o s = record {
  stops = λ t us s' ts' on r h. item_ends l m t.kind on (let first : OpensAll (operation l m d o ∷ s) (t ∷ us) = reach_opens r (omega (arith, h)) in first);
}

tails_clear : (l : Level) (m : Mode) {c : ℕ} {w : Expr} {d : ℕ} {v : Expr} {q : List Sym} (s : List Sym) → NoTail c w d v q ⊎ FirstTail (operation l m) operated (Many (operation l m) operated) c w d v q →
    Clear (continues l m) s → Clear (continues_item l m) (q ++ s)
tails_clear l m s (inl z) clear = subst (λ (q : List Sym). Clear (continues_item l m) (q ++ s)) (sym z.is) (clear_narrow (item_goes_on l m) clear)
tails_clear l m {d = d} s (inr z) clear = subst (λ (q : List Sym). Clear (continues_item l m) (q ++ s)) (sym z.is) (item_clear l m d z.by (z.others ++ s))

pub many_clear : (l : Level) (m : Mode) → chains l ≡ true → (c : ℕ) (w : Expr) (d : ℕ) (v : Expr) (q s : List Sym) → Many (operation l m) operated c w d v q → Clear (continues l m) s → Clear (continues_item l m) (q ++ s)
many_clear l m e c w d v q s is clear =
    tails_clear l m s ((many_chained (chain l m) (item l m) (operation l m) operated (chain_nested l m e)).first c w d v q is) clear

once_tails : (m : Mode) {c : ℕ} {w : Expr} {d : ℕ} {v : Expr} {q : List Sym} (s : List Sym) → NoTail c w d v q ⊎ FirstTail (operation Comparison m) operated Never c w d v q →
    Clear (continues Comparison m) s → Clear (continues_item Comparison m) (q ++ s)
once_tails m s (inl z) clear = subst (λ (q : List Sym). Clear (continues_item Comparison m) (q ++ s)) (sym z.is) (clear_narrow (item_goes_on Comparison m) clear)
once_tails m {d = d} s (inr z) clear = subst (λ (q : List Sym). Clear (continues_item Comparison m) (q ++ s)) (sym z.is) (item_clear Comparison m d z.by (z.others ++ s))

pub once_clear : (m : Mode) (c : ℕ) (w : Expr) (d : ℕ) (v : Expr) (q s : List Sym) → Once (operation Comparison m) operated c w d v q → Clear (continues Comparison m) s → Clear (continues_item Comparison m) (q ++ s)
once_clear m c w d v q s is clear = once_tails m s ((once_chained m).first c w d v q is) clear

pub never_clear : (m : Mode) (c : ℕ) (w : Expr) (d : ℕ) (v : Expr) (q s : List Sym) → Never c w d v q → Clear (continues Comparison m) s → Clear (continues_item Comparison m) (q ++ s)
never_clear m _ _ _ _ _ s (never c v) clear = clear_narrow (item_goes_on Comparison m) clear

-- an operator with its right operand
abbrev pub operation_line : Level → Mode → TokenKind → Part (Token × (Expr × Unit {0}))
operation_line l m k = then_ (token k) (then_ (item l (later m)) done)

abbrev pub operation_node : BinaryOp → Token × (Expr × Unit {0}) → Operation
operation_node op u = record { at = u.0.at; op = op; right = u.1.0 }

operation_split : (l : Level) (m : Mode) (t : Token) (us : List Token) (op : BinaryOp) → operator_of t.kind ≡ Some op → (c : ℕ) (w : Operation) (p : List Sym) → Rule (operation l m c w) p →
    (s s' : List Sym) (ts' : List Token) → Reach s' ts' (p ++ s) (t ∷ us) → size s' ts' ≤ 2 * length (t ∷ us) → Pending (λ n. n) (operation_line l m t.kind) (operation_node op) 0 (t ∷ us) c w s s' ts'
unfolding then_ token done
operation_split l m t us op e c w p (operation_ {k = k} {t = u} {op = o} {e = x} f g) s s' ts' r h =
    let is : t.kind ≡ k = reach_opens r h in
    let same : o ≡ op = cc in
    record {
      at = c;
      value = (u, (x, tt));
      bound = refl;
      whole = ap (λ (o : BinaryOp). record { at = u.at; op = o; right = x }) same;
      deep = omega arith;
      reach = subst (λ (k : TokenKind). Reach s' ts' (tok k u ∷ item l (later m) c x ∷ s) (t ∷ us)) (sym is) r;
    }

abbrev OperationLed : (TokenKind → Bool) → Level → Mode → ℕ → List Token → Token → BinaryOp → List Token → Type 0
OperationLed cont l m b ts t op rest = Led (one (operation l m)) cont (λ n. n) b ts (operation_line l m t.kind) (operation_node op) 0 rest

operation_start : (cont : TokenKind → Bool) (l : Level) (m : Mode) (b : ℕ) (t : Token) (us : List Token) (op : BinaryOp) → operator_of t.kind ≡ Some op → level_of op ≡ l → OperationLed cont l m b (t ∷ us) t op (t ∷ us)
unfolding then_ token done
operation_start cont l m b t us op e f =
    led_start b (operation_line l m t.kind) (operation_node op) (t, (sample.expr, tt)) (λ c v. tt) (λ c u. operation_ e f) (λ c w p rule s s' ts' r h clear. operation_split l m t us op e c w p rule s s' ts' r h)

operation_led : (cont : TokenKind → Bool) (l : Level) (m : Mode) (b : ℕ) (ts : List Token) (t : Token) (us : List Token) (op : BinaryOp) → ts ≡ t ∷ us → operator_of t.kind ≡ Some op → level_of op ≡ l →
    OperationLed cont l m b ts t op ts
operation_led cont l m b ts t us op is e f = subst (λ (ts : List Token). OperationLed cont l m b ts t op ts) (sym is) (operation_start cont l m b t us op e f)

abbrev OperationRead : (TokenKind → Bool) → Level → Mode → ℕ → List Token → Token → BinaryOp → List Token → Type 0
OperationRead cont l m b ts t op us = Led (one (operation l m)) cont (λ n. n) b ts (then_ (item l (later m)) done) (λ u. operation_node op (t, u)) 0 us

operation_read : (cont : TokenKind → Bool) (l : Level) (m : Mode) (b : ℕ) (ts : List Token) (t : Token) (us : List Token) (op : BinaryOp) → ts ≡ t ∷ us → operator_of t.kind ≡ Some op → level_of op ≡ l →
    OperationRead cont l m b ts t op us
operation_read cont l m b ts t us op is e f = token_read same_depth (operation_led cont l m b ts t us op is e f) (omega arith) is refl

item_same : (cont : TokenKind → Bool) (c : ℕ) (u : Unit {0}) (s : List Sym) → Clear cont s → Clear cont (done c u ++ s)
unfolding done
item_same cont c u s h = h

pub operation_found : (cont : TokenKind → Bool) (l : Level) (m : Mode) (b : ℕ) (ts : List Token) (t : Token) (us : List Token) (op : BinaryOp) (v : Expr) (n : ℕ) (rest : List Token) → ts ≡ t ∷ us →
    operator_of t.kind ≡ Some op → level_of op ≡ l → Found (one (item l (later m))) cont b us v n rest → Found (one (operation l m)) cont b ts (record { at = t.at; op = op; right = v }) n rest
operation_found cont l m b ts t us op v n rest is e f found =
    answer_is refl (omega arith) (led_done same_depth (led_part same_depth (operation_read cont l m b ts t us op is e f) (omega arith) found (item_same cont)))

pub operation_refused : (cont : TokenKind → Bool) (l : Level) (m : Mode) (b : ℕ) (ts : List Token) (t : Token) (us : List Token) (op : BinaryOp) (stop : Stop) → ts ≡ t ∷ us →
    operator_of t.kind ≡ Some op → level_of op ≡ l → Exact (one (item l (later m))) cont b us (refused stop) → Exact (one (operation l m)) cont b ts (refused stop)
operation_refused cont l m b ts t us op stop is e f h =
    part_refused (item l (later m)) cont done stop same_depth (operation_read cont l m b ts t us op is e f) (omega arith) h (item_same cont)

pub operation_begins : (l : Level) (m : Mode) (c : ℕ) (ts : List Token) (t : Token) (us : List Token) (op : BinaryOp) → ts ≡ t ∷ us → operator_of t.kind ≡ Some op → level_of op ≡ l →
    ComesAt (one (operation l m)) c ts (length us)
operation_begins l m c ts t us op is e f = (operation_read (λ k. false) l m c ts t us op is e f).comes.at c (omega arith)

rank_one : (a b : Level) → rank a ≡ rank b → a ≡ b
rank_one level.Or level.Or e = refl
rank_one level.Or level.And e = absurd (omega (arith, e))
rank_one level.Or level.Comparison e = absurd (omega (arith, e))
rank_one level.Or level.Sum e = absurd (omega (arith, e))
rank_one level.Or level.Product e = absurd (omega (arith, e))
rank_one level.And level.Or e = absurd (omega (arith, e))
rank_one level.And level.And e = refl
rank_one level.And level.Comparison e = absurd (omega (arith, e))
rank_one level.And level.Sum e = absurd (omega (arith, e))
rank_one level.And level.Product e = absurd (omega (arith, e))
rank_one level.Comparison level.Or e = absurd (omega (arith, e))
rank_one level.Comparison level.And e = absurd (omega (arith, e))
rank_one level.Comparison level.Comparison e = refl
rank_one level.Comparison level.Sum e = absurd (omega (arith, e))
rank_one level.Comparison level.Product e = absurd (omega (arith, e))
rank_one level.Sum level.Or e = absurd (omega (arith, e))
rank_one level.Sum level.And e = absurd (omega (arith, e))
rank_one level.Sum level.Comparison e = absurd (omega (arith, e))
rank_one level.Sum level.Sum e = refl
rank_one level.Sum level.Product e = absurd (omega (arith, e))
rank_one level.Product level.Or e = absurd (omega (arith, e))
rank_one level.Product level.And e = absurd (omega (arith, e))
rank_one level.Product level.Comparison e = absurd (omega (arith, e))
rank_one level.Product level.Sum e = absurd (omega (arith, e))
rank_one level.Product level.Product e = refl

by_option : (l : Level) (o : Option BinaryOp) → ((op : BinaryOp) → o ≡ Some op → level_of op ≡ l → ⊥) → has_rank (rank l) o ≡ true → ⊥
by_option l (Some op) f e = f op refl (rank_one (level_of op) l (same_rank (rank (level_of op)) (rank l) e))
by_option l None f e = cc

stuck_at : (l : Level) (ts : List Token) → NoOperator l ts → First (λ k. has_rank (rank l) (operator_of k)) ts → ⊥
stuck_at l [] f h = h
stuck_at l (t ∷ us) f h = by_option l (operator_of t.kind) f h

-- no operator of the level comes next
pub operation_stuck : (l : Level) (m : Mode) (ts : List Token) → NoOperator l ts → (c : ℕ) (o : Operation) (s s' : List Sym) (ts' : List Token) → Reach s' ts' (operation l m c o ∷ s) ts → size s' ts' ≤ 2 * length ts → ⊥
operation_stuck l m ts no_operator c o s s' ts' r h = stuck_at l ts no_operator (let first : OpensAll (operation l m c o ∷ s) ts = reach_opens r h in first)
