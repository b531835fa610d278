-- The values of a case, between commas.
use Rattle.std.proofs.Common.{◌≡◌, ℕ, suc, ◌*◌, ◌<◌, ◌≤◌, max, true, false, List, [], ◌∷◌, ◌++◌, length, refl, sym, ◌∙◌, ap, subst, arith}
use Rattle.odc_syntax.specs.declared.token.Token.{Token}
use Rattle.odc_syntax.specs.declared.token.TokenKind.{TokenKind}
use Rattle.odc_syntax.specs.declared.token.TokenKind.TheVariants as kind
use Rattle.odc_syntax.specs.declared.tree.Span.{Span}
use Rattle.odc_syntax.specs.declared.grammar.Mode.TheVariants.{Free}
use Rattle.odc_syntax.specs.Tree.{Spans}
use Rattle.odc_syntax.specs.Tree as tree
use Rattle.odc_syntax.specs.Grammar.{Sym, tok, Rule, items_none, items_some, items_end, items_more}
use Rattle.odc_syntax.specs.Grammar as g
use Rattle.odc_syntax.specs.Derives.{Reach, here, read, write, StartsWithout}
use Rattle.odc_lookahead.specs.declared.stop.Stop.{Stop}
use Rattle.odc_lookahead.specs.declared.stop.Stop.TheVariants as stop
use Rattle.odc_lookahead.specs.Exact.{size, Clear, Part, one, then_, done, Exact, Found, Broken, TooDeep}
use Rattle.odc_lookahead.specs.Read.{refused}
use Rattle.odc_lookahead.specs.Sets.{starts_expression}
use Rattle.odc_lookahead.specs.stmts.SwitchSets.{continues_span, continues_items, begins_items}
use Rattle.odc_syntax.specs.View.{span_of, spans}
use Rattle.odc_lookahead.proofs.reading.Opening.{reach_opens}
use Rattle.odc_lookahead.proofs.reading.Reaching.{behind_part, behind_token}
use Rattle.odc_lookahead.proofs.reading.Leading.{same_depth, Led, led_part, led_done, without, at_rest}
use Rattle.odc_lookahead.proofs.reading.Answering.{led_step, led_over, part_refused, answer_is, Stepped}
use Rattle.odc_lookahead.proofs.stmts.SimpleLemmas.{or_left, or_right}
use Rattle.odc_lookahead.proofs.stmts.StmtsLemmas.{led_itself}
use Rattle.odc_lookahead.proofs.reading.Deciding.{led_here}
use Rattle.odc_lookahead.proofs.reading.Optional.{OpensBy, Turns, Into, optional_found, optional_refused}
use Rattle.odc_lookahead.proofs.reading.Samples as sample

some_span : tree.Span
some_span = tree.span sample.expr tree.alone

items_go_on : (k : TokenKind) → continues_span Free k ≡ true → begins_items k ≡ true
items_go_on kind.Comma e = or_right (starts_expression Free kind.Comma) _ refl
items_go_on k e = or_right (starts_expression Free k) _ (wider k e)
  where
    wider : (k : TokenKind) → continues_span Free k ≡ true → continues_items k ≡ true
    wider kind.Comma e = refl
    wider _ e = e

-- values that were read, in front of others
abbrev pub spans_onto : List Span → Spans → Spans
spans_onto [] l = l
spans_onto (x ∷ xs) l = tree.more_spans (span_of x) (spans_onto xs l)

spans_onto_last : (xs : List Span) (x : Span) (l : Spans) → spans_onto (xs ++ x ∷ []) l ≡ spans_onto xs (tree.more_spans (span_of x) l)
spans_onto_last [] x l = refl
spans_onto_last (y ∷ xs) x l = ap (tree.more_spans (span_of y)) (spans_onto_last xs x l)

spans_onto_none : (xs : List Span) → spans_onto xs tree.no_spans ≡ spans xs
spans_onto_none [] = refl
spans_onto_none (x ∷ xs) = ap (tree.more_spans (span_of x)) (spans_onto_none xs)

abbrev pub more_part : Part (Spans × Unit {0})
more_part = then_ g.more_items done

-- what has been read of the values
abbrev pub ItemsAt : ℕ → List Token → List Span → ℕ → List Token → Type 0
ItemsAt b ts xs n rest = Led (one g.items) begins_items (λ n. n) b ts more_part (λ u. spans_onto xs u.0) n rest

-- a further value begins with a comma
more_by : {s' : List Sym} {ts' : List Token} (t : Token) (us : List Token) → continues_span Free t.kind ≡ true → (c : ℕ) (l : Spans) (p : List Sym) → Rule (g.more_items c l) p → (s : List Sym) → Clear begins_items s → Reach s' ts' (p ++ s) (t ∷ us) → size s' ts' ≤ suc (2 * length us) → ⊥
more_by {s'} {ts'} t us on c l p items_end s clear r h = clear.stops t us s' ts' (items_go_on t.kind on) r h
more_by t us on c l p items_more s clear r h = let is : t.kind ≡ kind.Comma = reach_opens r (omega (arith, h)) in let bad : true ≡ false = sym on ∙ ap (continues_span Free) is in cc

more_clear : (c : ℕ) (u : Spans × Unit {0}) (s : List Sym) → Clear begins_items s → Clear (continues_span Free) (more_part c u ++ s)
unfolding then_ done
more_clear c u s clear = record { stops = λ t us s' ts' on r h. let z = behind_part tt r (omega (arith, h)) in more_by t us on c u.0 z.as_symbols z.rule s clear z.reach h }

-- the first
abbrev first_node : tree.Span × (Spans × Unit {0}) → Spans
first_node u = tree.more_spans u.0 u.1.0

first_into : (ts : List Token) → Into (one g.items) (g.span_ Free) more_part first_node ts
unfolding then_ done
first_into ts c w s = write _ items_some here

turn_by : {s' : List Sym} {ts' : List Token} (t : Token) (vs : List Token) → starts_expression Free t.kind ≡ true → (c : ℕ) (l : Spans) (p : List Sym) → Rule (g.items c l) p → (s : List Sym) → Clear begins_items s → Reach s' ts' (p ++ s) (t ∷ vs) → size s' ts' ≤ suc (2 * length vs) →
    Stepped (then_ (g.span_ Free) more_part) first_node c l s s' ts' (t ∷ vs)
unfolding then_ done
turn_by {s'} {ts'} t vs e c l p items_none s clear r h = absurd (clear.stops t vs s' ts' (or_left (starts_expression Free t.kind) _ e) r h)
turn_by t vs e c l p (items_some {s = x} {ss = k}) s clear r h = record { by = (x, (k, tt)); is = refl; reach = r }

first_turn : (ts : List Token) → Turns (starts_expression Free) begins_items (one g.items) (g.span_ Free) more_part first_node ts
first_turn ts t vs is e c l s s' ts' clear r h =
    subst (λ (k : List Token). Stepped (then_ (g.span_ Free) more_part) first_node c l s s' ts' k) (sym is)
    (let q = subst (λ (k : List Token). Reach s' ts' (g.items c l ∷ s) k) is r in let z = behind_part tt q (omega (arith, h)) in turn_by t vs e c l z.as_symbols z.rule s clear z.reach h)

first_opens : (ts : List Token) → OpensBy (g.span_ Free) (starts_expression Free) ts
first_opens ts c w s s' ts' r h = reach_opens r h

items_led : (b : ℕ) (ts : List Token) → Led (one g.items) begins_items (λ n. n) b ts (one g.items) (λ v. v) 0 ts
items_led b ts = led_itself (one g.items) begins_items b ts tree.no_spans

pub items_refused : (b : ℕ) (ts : List Token) (e : Stop) → Exact (one (g.span_ Free)) (continues_span Free) b ts (refused e) → (e ≡ stop.Syntax (length ts) → ⊥) → Exact (one g.items) begins_items b ts (refused e)
items_refused b ts e h elsewhere =
    optional_refused (starts_expression Free) (g.span_ Free) (continues_span Free) more_part first_node (some_span, (tree.no_spans, tt)) e same_depth (items_led b ts) (omega arith) (first_into ts) (first_turn ts) (first_opens ts) h elsewhere more_clear

pub items_first : (b : ℕ) (ts : List Token) (xs : List Span) (x : Span) (n : ℕ) (rest : List Token) → xs ≡ x ∷ [] → Found (one (g.span_ Free)) (continues_span Free) b ts (span_of x) n rest → length rest < length ts → ItemsAt b ts xs n rest
items_first b ts xs x n rest is found shorter =
    subst (λ (l : List Span). ItemsAt b ts l n rest) (sym is)
    (subst (λ (k : ℕ). ItemsAt b ts (x ∷ []) k rest) zero_max
    (optional_found (starts_expression Free) (g.span_ Free) more_part first_node (some_span, (tree.no_spans, tt)) same_depth (items_led b ts) (omega arith) (first_into ts) (first_turn ts) (first_opens ts) found shorter more_clear))
  where
    zero_max : max 0 n ≡ n
    zero_max = omega arith

-- none
none_by : {s' : List Sym} {ts' : List Token} (b : ℕ) (ts : List Token) → Broken (one (g.span_ Free)) (continues_span Free) b ts (length ts) → (c : ℕ) (l : Spans) (p : List Sym) → Rule (g.items c l) p → (s : List Sym) → Clear begins_items s → Reach s' ts' (p ++ s) ts → size s' ts' ≤ 2 * length ts →
    Stepped done (λ u. tree.no_spans) c l s s' ts' ts
unfolding then_ done
none_by b ts broken c l p items_none s clear r h = record { by = tt; is = refl; reach = r }
none_by {s'} {ts'} b ts broken c l p (items_some {s = x} {ss = k}) s clear r h = absurd (broken.none c x (g.more_items c k ∷ s) s' ts' (more_clear c (k, tt) s clear) r h)

pub items_none_answer : (b : ℕ) (ts : List Token) → Broken (one (g.span_ Free)) (continues_span Free) b ts (length ts) → Found (one g.items) begins_items b ts tree.no_spans 0 ts
unfolding done
items_none_answer b ts broken =
    led_done same_depth (led_here done (λ u. tree.no_spans) tt (λ c w s. write _ items_none here) (λ c u s s' ts' clear r h. let z = behind_part tt r h in none_by b ts broken c u z.as_symbols z.rule s clear z.reach h) (items_led b ts))

-- a comma
comma_by : {s' : List Sym} {ts' : List Token} (t : Token) (us : List Token) → t.kind ≡ kind.Comma → (c : ℕ) (l : Spans) (p : List Sym) → Rule (g.more_items c l) p → (s : List Sym) → Clear begins_items s → Reach s' ts' (p ++ s) (t ∷ us) → size s' ts' ≤ 2 * length us →
    Stepped {U = Spans × Unit {0}} (then_ (g.span_ Free) more_part) (λ u. (first_node u, tt)) c (l, tt) s s' ts' us
unfolding then_ done
comma_by {s'} {ts'} t us e c l p items_end s clear r h = absurd (clear.stops t us s' ts' (ap begins_items e) r (omega (arith, h)))
comma_by t us e c l p (items_more {s = x} {ss = k}) s clear r h = let z = behind_token r (omega (arith, h)) in record { by = (x, (k, tt)); is = refl; reach = at_rest z }

at_comma : (b : ℕ) (ts : List Token) (xs : List Span) (n : ℕ) (rest : List Token) (t : Token) (us : List Token) → ItemsAt b ts xs n rest → n ≤ b → rest ≡ t ∷ us → t.kind ≡ kind.Comma →
    Led (one g.items) begins_items (λ n. n) b ts (then_ (g.span_ Free) more_part) (λ u. spans_onto xs (first_node u)) n us
unfolding then_ done
at_comma b ts xs n rest t us led within is e =
    led_step us (then_ (g.span_ Free) more_part) (λ u. (first_node u, tt)) (some_span, (tree.no_spans, tt)) same_depth within (omega arith) (λ c w s. write _ (items_more {t = t}) (read e here))
    (λ c u s s' ts' clear r h. let z = behind_part tt r (omega (arith, h)) in comma_by t us e c u.0 z.as_symbols z.rule s clear z.reach h)
    (subst (λ (l : List Token). ItemsAt b ts xs n l) is led)

pub items_more_refused : (b : ℕ) (ts : List Token) (xs : List Span) (n : ℕ) (rest : List Token) (t : Token) (us : List Token) (e : Stop) → ItemsAt b ts xs n rest → n ≤ b → rest ≡ t ∷ us → t.kind ≡ kind.Comma → Exact (one (g.span_ Free)) (continues_span Free) b us (refused e) →
    Exact (one g.items) begins_items b ts (refused e)
items_more_refused b ts xs n rest t us e led within is k h = part_refused (g.span_ Free) (continues_span Free) more_part e same_depth (at_comma b ts xs n rest t us led within is k) within h more_clear

pub items_more_read : (b : ℕ) (ts : List Token) (xs ys : List Span) (n : ℕ) (rest : List Token) (t : Token) (us : List Token) (x : Span) (k top : ℕ) (after : List Token) → ItemsAt b ts xs n rest → n ≤ b → rest ≡ t ∷ us → t.kind ≡ kind.Comma →
    Found (one (g.span_ Free)) (continues_span Free) b us (span_of x) k after → ys ≡ xs ++ x ∷ [] → top ≡ max n k → ItemsAt b ts ys top after
items_more_read b ts xs ys n rest t us x k top after led within is e found more high =
    subst (λ (l : List Span). ItemsAt b ts l top after) (sym more)
    (subst (λ (h : ℕ). ItemsAt b ts (xs ++ x ∷ []) h after) (sym high)
    (subst (λ (f : Spans × Unit {0} → Spans). Led (one g.items) begins_items (λ n. n) b ts more_part f (max n k) after) (λ j. λ u. (sym (spans_onto_last xs x u.0)) j)
    (led_part same_depth (at_comma b ts xs n rest t us led within is e) within found more_clear)))

pub items_deep : (b : ℕ) (ts : List Token) (xs : List Span) (n : ℕ) (rest : List Token) (t : Token) (us : List Token) → ItemsAt b ts xs n rest → b < n → rest ≡ t ∷ us → t.kind ≡ kind.Comma → TooDeep (one g.items) begins_items b ts (length us)
unfolding then_ done
items_deep b ts xs n rest t us led over is e =
    led_over same_depth is over
    (λ c. (
      (tree.more_spans some_span tree.no_spans, tt),
      λ s. (
        g.span_ Free c some_span ∷ g.more_items c tree.no_spans ∷ s,
        subst (λ (l : List Token). Reach (g.span_ Free c some_span ∷ g.more_items c tree.no_spans ∷ s) us (g.more_items c (tree.more_spans some_span tree.no_spans) ∷ s) l) (sym is) (write _ (items_more {t = t}) (read e here)),
      ),
    )) led

-- no comma
end_by : {s' : List Sym} {ts' : List Token} (ts : List Token) → StartsWithout kind.Comma ts → (c : ℕ) (l : Spans) (p : List Sym) → Rule (g.more_items c l) p → (s : List Sym) → Reach s' ts' (p ++ s) ts → size s' ts' ≤ 2 * length ts →
    Stepped {U = Spans × Unit {0}} done (λ u. (tree.no_spans, tt)) c (l, tt) s s' ts' ts
unfolding done
end_by ts f c l p items_end s r h = record { by = tt; is = refl; reach = r }
end_by ts f c l p items_more s r h = let z = behind_token r h in absurd (without kind.Comma _ _ ts z.is z.kind f)

pub items_answer : (b : ℕ) (ts : List Token) (xs : List Span) (n : ℕ) (rest : List Token) → ItemsAt b ts xs n rest → StartsWithout kind.Comma rest → Found (one g.items) begins_items b ts (spans xs) n rest
unfolding then_ done
items_answer b ts xs n rest led f =
    answer_is (spans_onto_none xs) refl
    (led_done same_depth (led_here done (λ u. (tree.no_spans, tt)) tt (λ c w s. write [] items_end here) (λ c u s s' ts' clear r h. let z = behind_part tt r h in end_by rest f c u.0 z.as_symbols z.rule s z.reach h) led))
