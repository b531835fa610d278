-- Values, and the values from one to another.
use Rattle.std.proofs.Common.{◌≡◌, ℕ, suc, ◌*◌, ◌<◌, ◌≤◌, max, true, false, List, ◌∷◌, ◌++◌, length, refl, sym, ◌∙◌, ap, subst, arith}
use Rattle.odc_syntax.specs.declared.token.Token.{Token}
use Rattle.odc_syntax.specs.declared.token.TokenKind.{TokenKind}
use Rattle.odc_syntax.specs.declared.token.TokenKind.TheVariants as kind
use Rattle.odc_syntax.specs.declared.grammar.Mode.{Mode}
use Rattle.odc_syntax.specs.declared.grammar.Level.TheVariants.{Or}
use Rattle.odc_syntax.specs.Tree.{Expr, Span, span, SpanEnd}
use Rattle.odc_syntax.specs.Tree as tree
use Rattle.odc_syntax.specs.Grammar.{Sym, tok, Rule, span_from, span_alone, span_through, span_below}
use Rattle.odc_syntax.specs.Grammar as g
use Rattle.odc_syntax.specs.Derives.{Reach, here, read, write, StartsWithout}
use Rattle.odc_lookahead.specs.declared.stop.Stop.{Stop}
use Rattle.odc_lookahead.specs.Exact.{size, Clear, Part, one, then_, done, Exact, Found, TooDeep}
use Rattle.odc_lookahead.specs.Read.{refused}
use Rattle.odc_lookahead.specs.Sets.{continues}
use Rattle.odc_lookahead.specs.stmts.SwitchSets.{continues_span}
use Rattle.odc_lookahead.proofs.reading.Opening.{reach_opens}
use Rattle.odc_lookahead.proofs.reading.Reaching.{behind_part, behind_token}
use Rattle.odc_lookahead.proofs.reading.Leading.{same_depth, Pending, Led, led_part, led_done, without, at_rest}
use Rattle.odc_lookahead.proofs.reading.Answering.{led_start, led_step, led_over, part_refused, answer_is, Stepped}
use Rattle.odc_lookahead.proofs.expr.BinaryLemmas.{clear_narrow}
use Rattle.odc_lookahead.proofs.reading.Deciding.{led_here}
use Rattle.odc_lookahead.proofs.reading.Samples as sample

pub goes_on_span : (m : Mode) (k : TokenKind) → continues Or m k ≡ true → continues_span m k ≡ true
goes_on_span m kind.DotDotEqual e = refl
goes_on_span m kind.DotDotLess e = refl
goes_on_span m _ e = e

abbrev end_line : Mode → Part (SpanEnd × Unit {0})
end_line m = then_ (g.span_end m) done

abbrev whole_line : Mode → Part (Expr × (SpanEnd × Unit {0}))
whole_line m = then_ (g.expression m) (end_line m)

abbrev span_node : Expr × (SpanEnd × Unit {0}) → Span
span_node u = span u.0 u.1.0

abbrev WholeSpan : {U : Type 0} → Mode → ℕ → List Token → Part U → (U → Span) → ℕ → List Token → Type 0
WholeSpan m b ts line f n rest = Led (one (g.span_ m)) (continues_span m) (λ n. n) b ts line f n rest

span_by : {s' : List Sym} {ts' : List Token} (m : Mode) (ts : List Token) (c : ℕ) (w : Span) (p : List Sym) → Rule (g.span_ m c w) p → (s : List Sym) → Reach s' ts' (p ++ s) ts → Pending (λ n. n) (whole_line m) span_node 0 ts c w s s' ts'
unfolding then_ done
span_by m ts c w p (span_from {e = e} {s = x}) s r = record { at = c; value = (e, (x, tt)); bound = refl; whole = refl; deep = omega arith; reach = r }

span_led : (m : Mode) (b : ℕ) (ts : List Token) → WholeSpan m b ts (whole_line m) span_node 0 ts
unfolding then_ done
span_led m b ts = led_start b (whole_line m) span_node (sample.expr, (tree.alone, tt)) (λ c v. tt) (λ c u. span_from) (λ c w p rule s s' ts' r h clear. span_by m ts c w p rule s r)

-- what stands behind the value goes on with no value
end_by : {s' : List Sym} {ts' : List Token} (m : Mode) (t : Token) (us : List Token) → continues Or m t.kind ≡ true → (c : ℕ) (e : SpanEnd) (p : List Sym) → Rule (g.span_end m c e) p → (s : List Sym) → Clear (continues_span m) s → Reach s' ts' (p ++ s) (t ∷ us) → size s' ts' ≤ suc (2 * length us) → ⊥
end_by {s'} {ts'} m t us on c e p span_alone s clear r h = clear.stops t us s' ts' (goes_on_span m t.kind on) r h
end_by m t us on c e p span_through s clear r h = let is : t.kind ≡ kind.DotDotEqual = reach_opens r (omega (arith, h)) in let bad : true ≡ false = sym on ∙ ap (continues Or m) is in cc
end_by m t us on c e p span_below s clear r h = let is : t.kind ≡ kind.DotDotLess = reach_opens r (omega (arith, h)) in let bad : true ≡ false = sym on ∙ ap (continues Or m) is in cc

end_clear : (m : Mode) (c : ℕ) (u : SpanEnd × Unit {0}) (s : List Sym) → Clear (continues_span m) s → Clear (continues Or m) (end_line m c u ++ s)
unfolding then_ done
end_clear m c u s clear = record { stops = λ t us s' ts' on r h. let z = behind_part tt r (omega (arith, h)) in end_by m t us on c u.0 z.as_symbols z.rule s clear z.reach h }

pub span_refused : (m : Mode) (b : ℕ) (ts : List Token) (e : Stop) → Exact (one (g.expression m)) (continues Or m) b ts (refused e) → Exact (one (g.span_ m)) (continues_span m) b ts (refused e)
span_refused m b ts e h = part_refused (g.expression m) (continues Or m) (end_line m) e same_depth (span_led m b ts) (omega arith) h (end_clear m)

-- the value is read
abbrev pub FromAt : Mode → ℕ → List Token → Expr → ℕ → List Token → Type 0
FromAt m b ts e n rest = WholeSpan m b ts (end_line m) (λ u. span e u.0) n rest

pub from_read : (m : Mode) (b : ℕ) (ts : List Token) (e : Expr) (n : ℕ) (rest : List Token) → Found (one (g.expression m)) (continues Or m) b ts e n rest → FromAt m b ts e n rest
from_read m b ts e n rest found = subst (λ (k : ℕ). FromAt m b ts e k rest) zero_max (led_part same_depth (span_led m b ts) (omega arith) found (end_clear m))
  where
    zero_max : max 0 n ≡ n
    zero_max = omega arith

-- it stands alone
alone_by : {s' : List Sym} {ts' : List Token} (m : Mode) (ts : List Token) → StartsWithout kind.DotDotEqual ts → StartsWithout kind.DotDotLess ts → (c : ℕ) (e : SpanEnd) (p : List Sym) → Rule (g.span_end m c e) p → (s : List Sym) → Reach s' ts' (p ++ s) ts → size s' ts' ≤ 2 * length ts →
    Stepped {U = SpanEnd × Unit {0}} done (λ u. (tree.alone, tt)) c (e, tt) s s' ts' ts
unfolding done
alone_by m ts f k c e p span_alone s r h = record { by = tt; is = refl; reach = r }
alone_by m ts f k c e p span_through s r h = let z = behind_token r h in absurd (without kind.DotDotEqual _ _ ts z.is z.kind f)
alone_by m ts f k c e p span_below s r h = let z = behind_token r h in absurd (without kind.DotDotLess _ _ ts z.is z.kind k)

pub span_alone_answer : (m : Mode) (b : ℕ) (ts : List Token) (e : Expr) (n : ℕ) (rest : List Token) → FromAt m b ts e n rest → StartsWithout kind.DotDotEqual rest → StartsWithout kind.DotDotLess rest → Found (one (g.span_ m)) (continues_span m) b ts (span e tree.alone) n rest
unfolding then_ done
span_alone_answer m b ts e n rest led f k =
    led_done same_depth (led_here done (λ u. (tree.alone, tt)) tt (λ c w s. write _ span_alone here) (λ c u s s' ts' clear r h. let z = behind_part tt r h in alone_by m rest f k c u.0 z.as_symbols z.rule s z.reach h) led)

last_clear : (m : Mode) (c : ℕ) (u : Unit {0}) (s : List Sym) → Clear (continues_span m) s → Clear (continues Or m) (done c u ++ s)
unfolding done
last_clear m c u s clear = clear_narrow (goes_on_span m) clear

-- `..=`
through_by : {s' : List Sym} {ts' : List Token} (m : Mode) (t : Token) (us : List Token) → t.kind ≡ kind.DotDotEqual → (c : ℕ) (e : SpanEnd) (p : List Sym) → Rule (g.span_end m c e) p → (s : List Sym) → Clear (continues_span m) s → Reach s' ts' (p ++ s) (t ∷ us) → size s' ts' ≤ 2 * length us →
    Stepped {U = SpanEnd × Unit {0}} (then_ (g.expression m) done) (λ u. (tree.through u.0, tt)) c (e, tt) s s' ts' us
unfolding then_ done
through_by {s'} {ts'} m t us k c e p span_alone s clear r h = absurd (clear.stops t us s' ts' (ap (continues_span m) k) r (omega (arith, h)))
through_by m t us k c e p (span_through {e = x}) s clear r h = let z = behind_token r (omega (arith, h)) in record { by = (x, tt); is = refl; reach = at_rest z }
through_by m t us k c e p span_below s clear r h = let bad : t.kind ≡ kind.DotDotLess = reach_opens r (omega (arith, h)) in cc

through_led : (m : Mode) (b : ℕ) (ts : List Token) (e : Expr) (n : ℕ) (rest : List Token) (t : Token) (us : List Token) → FromAt m b ts e n rest → n ≤ b → rest ≡ t ∷ us → t.kind ≡ kind.DotDotEqual → WholeSpan m b ts (then_ (g.expression m) done) (λ u. span e (tree.through u.0)) n us
unfolding then_ done
through_led m b ts e n rest t us led within is k =
    led_step us (then_ (g.expression m) done) (λ u. (tree.through u.0, tt)) (sample.expr, tt) same_depth within (omega arith) (λ c w s. write _ (span_through {t = t}) (read k here))
    (λ c u s s' ts' clear r h. let z = behind_part tt r (omega (arith, h)) in through_by m t us k c u.0 z.as_symbols z.rule s clear z.reach h)
    (subst (λ (l : List Token). FromAt m b ts e n l) is led)

pub through_refused : (m : Mode) (b : ℕ) (ts : List Token) (e : Expr) (n : ℕ) (rest : List Token) (t : Token) (us : List Token) (stop : Stop) → FromAt m b ts e n rest → n ≤ b → rest ≡ t ∷ us → t.kind ≡ kind.DotDotEqual → Exact (one (g.expression m)) (continues Or m) b us (refused stop) →
    Exact (one (g.span_ m)) (continues_span m) b ts (refused stop)
through_refused m b ts e n rest t us stop led within is k h = part_refused (g.expression m) (continues Or m) done stop same_depth (through_led m b ts e n rest t us led within is k) within h (last_clear m)

pub through_answer : (m : Mode) (b : ℕ) (ts : List Token) (e : Expr) (n : ℕ) (rest : List Token) (t : Token) (us : List Token) (x : Expr) (k top : ℕ) (after : List Token) → FromAt m b ts e n rest → n ≤ b → rest ≡ t ∷ us → t.kind ≡ kind.DotDotEqual → Found (one (g.expression m)) (continues Or m) b us x k after →
    top ≡ max n k → Found (one (g.span_ m)) (continues_span m) b ts (span e (tree.through x)) top after
through_answer m b ts e n rest t us x k top after led within is j found high = answer_is refl (sym high) (led_done same_depth (led_part same_depth (through_led m b ts e n rest t us led within is j) within found (last_clear m)))

pub through_deep : (m : Mode) (b : ℕ) (ts : List Token) (e : Expr) (n : ℕ) (rest : List Token) (t : Token) (us : List Token) → FromAt m b ts e n rest → b < n → rest ≡ t ∷ us → t.kind ≡ kind.DotDotEqual → TooDeep (one (g.span_ m)) (continues_span m) b ts (length us)
unfolding then_ done
through_deep m b ts e n rest t us led over is k =
    led_over same_depth is over
    (λ c. (
      (tree.through sample.expr, tt),
      λ s. (
        g.expression m c sample.expr ∷ s,
        subst (λ (l : List Token). Reach (g.expression m c sample.expr ∷ s) us (g.span_end m c (tree.through sample.expr) ∷ s) l) (sym is) (write _ (span_through {t = t}) (read k here)),
      ),
    )) led

-- `..<`
below_by : {s' : List Sym} {ts' : List Token} (m : Mode) (t : Token) (us : List Token) → t.kind ≡ kind.DotDotLess → (c : ℕ) (e : SpanEnd) (p : List Sym) → Rule (g.span_end m c e) p → (s : List Sym) → Clear (continues_span m) s → Reach s' ts' (p ++ s) (t ∷ us) → size s' ts' ≤ 2 * length us →
    Stepped {U = SpanEnd × Unit {0}} (then_ (g.expression m) done) (λ u. (tree.below u.0, tt)) c (e, tt) s s' ts' us
unfolding then_ done
below_by {s'} {ts'} m t us k c e p span_alone s clear r h = absurd (clear.stops t us s' ts' (ap (continues_span m) k) r (omega (arith, h)))
below_by m t us k c e p (span_below {e = x}) s clear r h = let z = behind_token r (omega (arith, h)) in record { by = (x, tt); is = refl; reach = at_rest z }
below_by m t us k c e p span_through s clear r h = let bad : t.kind ≡ kind.DotDotEqual = reach_opens r (omega (arith, h)) in cc

below_led : (m : Mode) (b : ℕ) (ts : List Token) (e : Expr) (n : ℕ) (rest : List Token) (t : Token) (us : List Token) → FromAt m b ts e n rest → n ≤ b → rest ≡ t ∷ us → t.kind ≡ kind.DotDotLess → WholeSpan m b ts (then_ (g.expression m) done) (λ u. span e (tree.below u.0)) n us
unfolding then_ done
below_led m b ts e n rest t us led within is k =
    led_step us (then_ (g.expression m) done) (λ u. (tree.below u.0, tt)) (sample.expr, tt) same_depth within (omega arith) (λ c w s. write _ (span_below {t = t}) (read k here))
    (λ c u s s' ts' clear r h. let z = behind_part tt r (omega (arith, h)) in below_by m t us k c u.0 z.as_symbols z.rule s clear z.reach h)
    (subst (λ (l : List Token). FromAt m b ts e n l) is led)

pub below_refused : (m : Mode) (b : ℕ) (ts : List Token) (e : Expr) (n : ℕ) (rest : List Token) (t : Token) (us : List Token) (stop : Stop) → FromAt m b ts e n rest → n ≤ b → rest ≡ t ∷ us → t.kind ≡ kind.DotDotLess → Exact (one (g.expression m)) (continues Or m) b us (refused stop) →
    Exact (one (g.span_ m)) (continues_span m) b ts (refused stop)
below_refused m b ts e n rest t us stop led within is k h = part_refused (g.expression m) (continues Or m) done stop same_depth (below_led m b ts e n rest t us led within is k) within h (last_clear m)

pub below_answer : (m : Mode) (b : ℕ) (ts : List Token) (e : Expr) (n : ℕ) (rest : List Token) (t : Token) (us : List Token) (x : Expr) (k top : ℕ) (after : List Token) → FromAt m b ts e n rest → n ≤ b → rest ≡ t ∷ us → t.kind ≡ kind.DotDotLess → Found (one (g.expression m)) (continues Or m) b us x k after →
    top ≡ max n k → Found (one (g.span_ m)) (continues_span m) b ts (span e (tree.below x)) top after
below_answer m b ts e n rest t us x k top after led within is j found high = answer_is refl (sym high) (led_done same_depth (led_part same_depth (below_led m b ts e n rest t us led within is j) within found (last_clear m)))

pub below_deep : (m : Mode) (b : ℕ) (ts : List Token) (e : Expr) (n : ℕ) (rest : List Token) (t : Token) (us : List Token) → FromAt m b ts e n rest → b < n → rest ≡ t ∷ us → t.kind ≡ kind.DotDotLess → TooDeep (one (g.span_ m)) (continues_span m) b ts (length us)
unfolding then_ done
below_deep m b ts e n rest t us led over is k =
    led_over same_depth is over
    (λ c. (
      (tree.below sample.expr, tt),
      λ s. (
        g.expression m c sample.expr ∷ s,
        subst (λ (l : List Token). Reach (g.expression m c sample.expr ∷ s) us (g.span_end m c (tree.below sample.expr) ∷ s) l) (sym is) (write _ (span_below {t = t}) (read k here)),
      ),
    )) led
