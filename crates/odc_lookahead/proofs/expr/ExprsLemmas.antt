-- Expressions between commas.
use Rattle.std.proofs.Common.{◌≡◌, ℕ, suc, ◌*◌, ◌<◌, ◌≤◌, max, Bool, true, false, List, [], ◌∷◌, ◌++◌, ◌||◌, length, refl, sym, ◌∙◌, ap, subst, arith}
use Rattle.odc_syntax.specs.declared.token.Token.{Token}
use Rattle.odc_syntax.specs.declared.token.TokenKind.{TokenKind}
use Rattle.odc_syntax.specs.declared.token.TokenKind.TheVariants as kind
use Rattle.odc_syntax.specs.Tree.{Expr, Exprs}
use Rattle.odc_syntax.specs.declared.grammar.Mode.{Mode}
use Rattle.odc_syntax.specs.declared.grammar.Level.TheVariants.{Or}
use Rattle.odc_syntax.specs.Tree as tree
use Rattle.odc_syntax.specs.View.{expr, exprs}
use Rattle.odc_syntax.specs.Grammar.{Sym, tok, Rule, later, exprs_, exprs_end, exprs_more}
use Rattle.odc_syntax.specs.Grammar as g
use Rattle.odc_syntax.specs.Derives.{Reach, here, read, write, StartsWithout}
use Rattle.odc_lookahead.specs.declared.stop.Stop.{Stop}
use Rattle.odc_lookahead.specs.Exact.{size, Clear, Part, one, then_, done, Exact, Found, TooDeep}
use Rattle.odc_lookahead.specs.Read.{refused}
use Rattle.odc_syntax.specs.Operators.{operator_of}
use Rattle.odc_lookahead.specs.Sets.{has_rank_from, continues}
use Rattle.odc_lookahead.specs.stmts.StatementSets.{continues_exprs}
use Rattle.odc_lookahead.proofs.reading.Opening.{reach_opens}
use Rattle.odc_lookahead.proofs.reading.Reaching.{behind_part, behind_token}
use Rattle.odc_lookahead.proofs.reading.Leading.{same_depth, Pending, Led, led_part, led_done, without, at_rest}
use Rattle.odc_lookahead.proofs.reading.Answering.{led_start, part_refused, answer_is, led_step, led_over, Stepped}
use Rattle.odc_lookahead.proofs.expr.UnaryLemmas.{same_suffix}
use Rattle.odc_lookahead.proofs.reading.Deciding.{led_here}
use Rattle.odc_lookahead.proofs.reading.Samples as sample

pub goes_on_exprs : (m : Mode) (k : TokenKind) → continues Or m k ≡ true → continues_exprs m k ≡ true
goes_on_exprs m kind.Comma e = refl
goes_on_exprs m _ e = e

-- the same tokens go on behind the first token
pub later_continues : (m : Mode) → continues Or (later m) ≡ continues Or m
later_continues m = ap (λ (f : TokenKind → Bool). λ (k : TokenKind). f k || has_rank_from 0 (operator_of k)) (same_suffix m)

pub later_goes_on : (m : Mode) (k : TokenKind) → continues Or (later m) k ≡ true → continues Or m k ≡ true
later_goes_on m k e = sym (ap (λ (f : TokenKind → Bool). f k) (later_continues m)) ∙ e

-- further expressions, up to what follows
abbrev pub more_part : Mode → Part (Exprs × Unit {0})
more_part m = then_ (g.more_exprs m) done

-- expressions that were read, in front of others
abbrev pub exprs_onto : List Expr → Exprs → Exprs
exprs_onto [] l = l
exprs_onto (x ∷ xs) l = tree.more_exprs (expr x) (exprs_onto xs l)

pub exprs_onto_last : (xs : List Expr) (x : Expr) (l : Exprs) → exprs_onto (xs ++ x ∷ []) l ≡ exprs_onto xs (tree.more_exprs (expr x) l)
exprs_onto_last [] x l = refl
exprs_onto_last (y ∷ xs) x l = ap (tree.more_exprs (expr y)) (exprs_onto_last xs x l)

pub exprs_onto_none : (xs : List Expr) → exprs_onto xs tree.no_exprs ≡ exprs xs
exprs_onto_none [] = refl
exprs_onto_none (x ∷ xs) = ap (tree.more_exprs (expr x)) (exprs_onto_none xs)

-- a further expression begins with a comma, which goes on with no expression
more_by : {s' : List Sym} {ts' : List Token} (m i : Mode) (t : Token) (us : List Token) → ((k : TokenKind) → continues Or i k ≡ true → continues Or m k ≡ true) → continues Or i t.kind ≡ true → (c : ℕ) (es : Exprs) (p : List Sym) →
    Rule (g.more_exprs (later m) c es) p → (s : List Sym) → Clear (continues_exprs m) s → Reach s' ts' (p ++ s) (t ∷ us) → size s' ts' ≤ suc (2 * length us) → ⊥
more_by {s'} {ts'} m i t us same on c es p exprs_end s clear r h = clear.stops t us s' ts' (goes_on_exprs m t.kind (same t.kind on)) r h
more_by m i t us same on c es p exprs_more s clear r h =
    let comma : t.kind ≡ kind.Comma = reach_opens r (omega (arith, h)) in
    let bad : true ≡ false = sym (same t.kind on) ∙ ap (continues Or m) comma in
    cc

pub more_clear : (m i : Mode) → ((k : TokenKind) → continues Or i k ≡ true → continues Or m k ≡ true) → (c : ℕ) (es : Exprs) (s : List Sym) → Clear (continues_exprs m) s → Clear (continues Or i) (g.more_exprs (later m) c es ∷ s)
more_clear m i same c es s clear = record {
  stops = λ t us s' ts' on r h. let z = behind_part tt r (omega (arith, h)) in more_by m i t us same on c es z.as_symbols z.rule s clear z.reach h;
}

pub first_clear : (m : Mode) (c : ℕ) (es : Exprs) (s : List Sym) → Clear (continues_exprs m) s → Clear (continues Or m) (g.more_exprs (later m) c es ∷ s)
first_clear m = more_clear m m (λ k e. e)

first_clears : (m : Mode) (c : ℕ) (u : Exprs × Unit {0}) (s : List Sym) → Clear (continues_exprs m) s → Clear (continues Or m) (more_part (later m) c u ++ s)
unfolding then_ done
first_clears m c u s clear = first_clear m c u.0 s clear

later_clears : (m : Mode) (c : ℕ) (u : Exprs × Unit {0}) (s : List Sym) → Clear (continues_exprs m) s → Clear (continues Or (later m)) (more_part (later m) c u ++ s)
unfolding then_ done
later_clears m c u s clear = more_clear m (later m) (later_goes_on m) c u.0 s clear

-- what has been read of a list of expressions
abbrev pub ExprsAt : Mode → ℕ → List Token → List Expr → ℕ → List Token → Type 0
ExprsAt m b ts xs n rest = Led (one (g.exprs m)) (continues_exprs m) (λ n. n) b ts (more_part (later m)) (λ u. exprs_onto xs u.0) n rest

-- an expression that stands so, and further ones of the list
abbrev item_line : Mode → Mode → Part (tree.Expr × (Exprs × Unit {0}))
item_line i m = then_ (g.expression i) (more_part (later m))

all_by : {s' : List Sym} {ts' : List Token} (m : Mode) (ts : List Token) (c : ℕ) (w : Exprs) (p : List Sym) → Rule (g.exprs m c w) p → (s : List Sym) → Reach s' ts' (p ++ s) ts →
    Pending (λ n. n) (item_line m m) (λ u. tree.more_exprs u.0 u.1.0) 0 ts c w s s' ts'
unfolding then_ done
all_by m ts c w p (exprs_ {e = e} {es = es}) s r = record { at = c; value = (e, (es, tt)); bound = refl; whole = refl; deep = omega arith; reach = r }

all_led : (m : Mode) (b : ℕ) (ts : List Token) → Led (one (g.exprs m)) (continues_exprs m) (λ n. n) b ts (item_line m m) (λ u. tree.more_exprs u.0 u.1.0) 0 ts
unfolding then_ done
all_led m b ts = led_start b (item_line m m) (λ u. tree.more_exprs u.0 u.1.0) (sample.expr, (tree.no_exprs, tt)) (λ c v. tt) (λ c u. exprs_) (λ c w p rule s s' ts' r h clear. all_by m ts c w p rule s r)

-- the first expression isn't read
pub exprs_refused : (m : Mode) (b : ℕ) (ts : List Token) (e : Stop) → Exact (one (g.expression m)) (continues Or m) b ts (refused e) → Exact (one (g.exprs m)) (continues_exprs m) b ts (refused e)
exprs_refused m b ts e h = part_refused (g.expression m) (continues Or m) (more_part (later m)) e same_depth (all_led m b ts) (omega arith) h (first_clears m)

zero_max : (n : ℕ) → max 0 n ≡ n
zero_max n = omega arith

-- it is read
pub exprs_first : (m : Mode) (b : ℕ) (ts : List Token) (xs : List Expr) (x : Expr) (n : ℕ) (rest : List Token) → xs ≡ x ∷ [] → Found (one (g.expression m)) (continues Or m) b ts (expr x) n rest → ExprsAt m b ts xs n rest
exprs_first m b ts xs x n rest is found =
    subst (λ (l : List Expr). ExprsAt m b ts l n rest) (sym is)
    (subst (λ (k : ℕ). ExprsAt m b ts (x ∷ []) k rest) (zero_max n) (led_part same_depth (all_led m b ts) (omega arith) found (first_clears m)))

-- a comma follows
comma_by : {s' : List Sym} {ts' : List Token} (m : Mode) (t : Token) (us : List Token) → t.kind ≡ kind.Comma → (c : ℕ) (es : Exprs) (p : List Sym) → Rule (g.more_exprs (later m) c es) p → (s : List Sym) →
    Clear (continues_exprs m) s → Reach s' ts' (p ++ s) (t ∷ us) → size s' ts' ≤ 2 * length us → Stepped {U = Exprs × Unit {0}} (item_line (later m) m) (λ u. (tree.more_exprs u.0 u.1.0, tt)) c (es, tt) s s' ts' us
unfolding then_ done
comma_by {s'} {ts'} m t us e c es p exprs_end s clear r h = absurd (clear.stops t us s' ts' (ap (continues_exprs m) e) r (omega (arith, h)))
comma_by m t us e c es p (exprs_more {e = x} {es = xs}) s clear r h = let z = behind_token r (omega (arith, h)) in record { by = (x, (xs, tt)); is = refl; reach = at_rest z }

-- expressions up to a comma, with what is left
abbrev onto_item : List Expr → tree.Expr × (Exprs × Unit {0}) → Exprs
onto_item xs u = exprs_onto xs (tree.more_exprs u.0 u.1.0)

at_comma : (m : Mode) (b : ℕ) (ts : List Token) (xs : List Expr) (n : ℕ) (rest : List Token) (t : Token) (us : List Token) → ExprsAt m b ts xs n rest → n ≤ b → rest ≡ t ∷ us → t.kind ≡ kind.Comma →
    Led (one (g.exprs m)) (continues_exprs m) (λ n. n) b ts (item_line (later m) m) (onto_item xs) n us
unfolding then_ done
at_comma m b ts xs n rest t us led within is e =
    led_step us (item_line (later m) m) (λ u. (tree.more_exprs u.0 u.1.0, tt)) (sample.expr, (tree.no_exprs, tt)) same_depth within (omega arith)
    (λ c w s. write _ (exprs_more {t = t}) (read e here))
    (λ c u s s' ts' clear r h. let z = behind_part tt r (omega (arith, h)) in comma_by m t us e c u.0 z.as_symbols z.rule s clear z.reach h)
    (subst (λ (l : List Token). ExprsAt m b ts xs n l) is led)

-- the expression behind it isn't read, or is
pub exprs_more_refused : (m i : Mode) (b : ℕ) (ts : List Token) (xs : List Expr) (n : ℕ) (rest : List Token) (t : Token) (us : List Token) (e : Stop) → i ≡ later m → ExprsAt m b ts xs n rest → n ≤ b → rest ≡ t ∷ us → t.kind ≡ kind.Comma →
    Exact (one (g.expression i)) (continues Or i) b us (refused e) → Exact (one (g.exprs m)) (continues_exprs m) b ts (refused e)
exprs_more_refused m i b ts xs n rest t us e f led within is k h =
    part_refused (g.expression (later m)) (continues Or (later m)) (more_part (later m)) e same_depth (at_comma m b ts xs n rest t us led within is k) within
    (subst (λ (j : Mode). Exact (one (g.expression j)) (continues Or j) b us (refused e)) f h) (later_clears m)

pub exprs_more_read : (m i : Mode) (b : ℕ) (ts : List Token) (xs ys : List Expr) (n : ℕ) (rest : List Token) (t : Token) (us : List Token) (x : Expr) (k top : ℕ) (after : List Token) → i ≡ later m → ExprsAt m b ts xs n rest → n ≤ b → rest ≡ t ∷ us →
    t.kind ≡ kind.Comma → Found (one (g.expression i)) (continues Or i) b us (expr x) k after → ys ≡ xs ++ x ∷ [] → top ≡ max n k → ExprsAt m b ts ys top after
exprs_more_read m i b ts xs ys n rest t us x k top after f led within is e found more high =
    subst (λ (l : List Expr). ExprsAt m b ts l top after) (sym more)
    (subst (λ (h : ℕ). ExprsAt m b ts (xs ++ x ∷ []) h after) (sym high)
    (subst (λ (f : Exprs × Unit {0} → Exprs). Led (one (g.exprs m)) (continues_exprs m) (λ n. n) b ts (more_part (later m)) f (max n k) after)
    (λ j. λ u. (sym (exprs_onto_last xs x u.0)) j)
    (led_part same_depth (at_comma m b ts xs n rest t us led within is e) within (subst (λ (j : Mode). Found (one (g.expression j)) (continues Or j) b us (expr x) k after) f found) (later_clears m))))

-- a comma follows what is already as deep as it may be
pub exprs_deep : (m : Mode) (b : ℕ) (ts : List Token) (xs : List Expr) (n : ℕ) (rest : List Token) (t : Token) (us : List Token) → ExprsAt m b ts xs n rest → b < n → rest ≡ t ∷ us → t.kind ≡ kind.Comma →
    TooDeep (one (g.exprs m)) (continues_exprs m) b ts (length us)
unfolding then_ done
exprs_deep m b ts xs n rest t us led over is e =
    led_over same_depth is over
    (λ c. (
      (tree.more_exprs sample.expr tree.no_exprs, tt),
      λ s. (
        g.expression (later m) c sample.expr ∷ g.more_exprs (later m) c tree.no_exprs ∷ s,
        subst (λ (l : List Token). Reach (g.expression (later m) c sample.expr ∷ g.more_exprs (later m) c tree.no_exprs ∷ s) us (g.more_exprs (later m) c (tree.more_exprs sample.expr tree.no_exprs) ∷ s) l) (sym is) (write _ (exprs_more {t = t}) (read e here)),
      ),
    )) led

-- no comma follows
end_by : {s' : List Sym} {ts' : List Token} (m : Mode) (ts : List Token) → StartsWithout kind.Comma ts → (c : ℕ) (es : Exprs) (p : List Sym) → Rule (g.more_exprs (later m) c es) p → (s : List Sym) → Reach s' ts' (p ++ s) ts →
    size s' ts' ≤ 2 * length ts → Stepped {U = Exprs × Unit {0}} done (λ u. (tree.no_exprs, tt)) c (es, tt) s s' ts' ts
unfolding done
end_by m ts open' c es p exprs_end s r h = record { by = tt; is = refl; reach = r }
end_by m ts open' c es p exprs_more s r h = let z = behind_token r h in absurd (without kind.Comma _ _ ts z.is z.kind open')

pub exprs_answer : (m : Mode) (b : ℕ) (ts : List Token) (xs : List Expr) (n : ℕ) (rest : List Token) → ExprsAt m b ts xs n rest → StartsWithout kind.Comma rest → Found (one (g.exprs m)) (continues_exprs m) b ts (exprs xs) n rest
unfolding then_ done
exprs_answer m b ts xs n rest led open' =
    answer_is (exprs_onto_none xs) refl
    (led_done same_depth
    (led_here done (λ u. (tree.no_exprs, tt)) tt (λ c w s. write [] exprs_end here) (λ c u s s' ts' clear r h. let z = behind_part tt r h in end_by m rest open' c u.0 z.as_symbols z.rule s z.reach h) led))

-- one expression alone
pub exprs_alone : (m : Mode) (b : ℕ) (ts : List Token) (v : tree.Expr) (n : ℕ) (rest : List Token) → Found (one (g.expression m)) (continues Or m) b ts v n rest → StartsWithout kind.Comma rest →
    Found (one (g.exprs m)) (continues_exprs m) b ts (tree.more_exprs v tree.no_exprs) n rest
unfolding then_ done
exprs_alone m b ts v n rest found open' =
    answer_is refl (zero_max n)
    (led_done same_depth
    (led_here done (λ u. (tree.no_exprs, tt)) tt (λ c w s. write [] exprs_end here) (λ c u s s' ts' clear r h. let z = behind_part tt r h in end_by m rest open' c u.0 z.as_symbols z.rule s z.reach h)
    (led_part same_depth (all_led m b ts) (omega arith) found (first_clears m))))
