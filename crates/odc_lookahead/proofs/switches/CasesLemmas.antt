-- The cases of a switch.
use Rattle.std.proofs.Common.{◌≡◌, ℕ, suc, ◌*◌, ◌<◌, ◌≤◌, max, Bool, true, false, List, [], ◌∷◌, ◌++◌, length, refl, sym, ◌∙◌, ap, subst, arith}
use Rattle.odc_text.specs.declared.place.Place.{Place}
use Rattle.odc_syntax.specs.declared.token.Token.{Token}
use Rattle.odc_syntax.specs.declared.token.TokenKind.{TokenKind}
use Rattle.odc_syntax.specs.declared.token.TokenKind.TheVariants as kind
use Rattle.odc_syntax.specs.declared.tree.Case.{Case}
use Rattle.odc_syntax.specs.Tree.{Cases, Spans, Stmts}
use Rattle.odc_syntax.specs.Tree as tree
use Rattle.odc_syntax.specs.Grammar.{Sym, tok, Rule, cases_none, cases_more}
use Rattle.odc_syntax.specs.Grammar as g
use Rattle.odc_syntax.specs.Derives.{Reach, here, read, write, StartsWithout}
use Rattle.odc_lookahead.specs.declared.stop.Stop.{Stop}
use Rattle.odc_lookahead.specs.Exact.{size, Clear, Part, one, then_, done, token, Exact, Found, TooDeep}
use Rattle.odc_lookahead.specs.Read.{refused, NotExpected}
use Rattle.odc_lookahead.specs.stmts.StatementSets.{continues_statements}
use Rattle.odc_lookahead.specs.stmts.SwitchSets.{begins_items, continues_cases}
use Rattle.odc_lookahead.specs.stmts.SwitchParts.{with_case}
use Rattle.odc_syntax.specs.View.{cases}
use Rattle.odc_lookahead.proofs.reading.Opening.{reach_opens}
use Rattle.odc_lookahead.proofs.reading.Reaching.{behind_part, behind_token}
use Rattle.odc_lookahead.proofs.reading.Leading.{same_depth, Led, led_part, led_done, first_is, without, at_rest}
use Rattle.odc_lookahead.proofs.reading.Answering.{led_step, led_over, part_refused, token_refused, token_read, answer_is, Stepped}
use Rattle.odc_lookahead.proofs.expr.SuffixAnswers.{token_clear}
use Rattle.odc_lookahead.proofs.stmts.StmtsLemmas.{led_itself}
use Rattle.odc_lookahead.proofs.reading.Deciding.{led_here}
use Rattle.odc_lookahead.proofs.reading.Samples as sample
use Rattle.odc_lookahead.specs.declared.tokens.Fit.{Fit}
use Rattle.odc_lookahead.specs.declared.tokens.Fit.TheVariants as fit

-- cases that were read, in front of others
abbrev pub cases_onto : List Case → Cases → Cases
cases_onto [] l = l
cases_onto (x ∷ xs) l = with_case x (cases_onto xs l)

cases_onto_last : (xs : List Case) (x : Case) (l : Cases) → cases_onto (xs ++ x ∷ []) l ≡ cases_onto xs (with_case x l)
cases_onto_last [] x l = refl
cases_onto_last (y ∷ xs) x l = ap (with_case y) (cases_onto_last xs x l)

cases_onto_none : (xs : List Case) → cases_onto xs tree.no_cases ≡ cases xs
cases_onto_none [] = refl
cases_onto_none (x ∷ xs) = ap (with_case x) (cases_onto_none xs)

-- what has been read of cases, before a further one
abbrev pub CasesAt : ℕ → List Token → List Case → ℕ → List Token → Type 0
CasesAt b ts xs n rest = Led (one g.cases) continues_cases (λ n. n) b ts (one g.cases) (cases_onto xs) n rest

pub cases_start : (b : ℕ) (ts : List Token) (xs : List Case) → xs ≡ [] → CasesAt b ts xs 0 ts
cases_start b ts xs is = subst (λ (l : List Case). CasesAt b ts l 0 ts) (sym is) (led_itself (one g.cases) continues_cases b ts tree.no_cases)

-- what is left of a case: behind `case`, behind its values, behind `:`, behind its statements
abbrev others_line : Part (Cases × Unit {0})
others_line = then_ g.cases done

abbrev body_line : Part (Stmts × (Cases × Unit {0}))
body_line = then_ g.stmts others_line

abbrev colon_line : Part (Token × (Stmts × (Cases × Unit {0})))
colon_line = then_ (token kind.Colon) body_line

abbrev items_line : Part (Spans × (Token × (Stmts × (Cases × Unit {0}))))
items_line = then_ g.items colon_line

abbrev case_node : Place → Spans × (Token × (Stmts × (Cases × Unit {0}))) → Cases
case_node at u = tree.more_cases at u.0 u.1.1.0 u.1.1.1.0

case_by : {s' : List Sym} {ts' : List Token} (t : Token) (us : List Token) → t.kind ≡ kind.Case → (c : ℕ) (l : Cases) (p : List Sym) → Rule (g.cases c l) p → (s : List Sym) → Clear continues_cases s → Reach s' ts' (p ++ s) (t ∷ us) → size s' ts' ≤ 2 * length us →
    Stepped items_line (case_node t.at) c l s s' ts' us
unfolding then_ token done
case_by {s'} {ts'} t us e c l p cases_none s clear r h = absurd (clear.stops t us s' ts' (ap continues_cases e) r (omega (arith, h)))
case_by t us e c l p (cases_more {t = x} {c = k} {ss = ss} {body' = q} {cs = cs}) s clear r h =
    let z = behind_token r (omega (arith, h)) in
    record { by = (ss, (k, (q, (cs, tt)))); is = ap (λ (x : Token). tree.more_cases x.at ss q cs) (first_is z.is); reach = at_rest z }

-- `case` is read
abbrev pub CaseAt : ℕ → List Token → List Case → Place → ℕ → List Token → Type 0
CaseAt b ts xs at n rest = Led (one g.cases) continues_cases (λ n. n) b ts items_line (λ u. cases_onto xs (case_node at u)) n rest

pub case_at : (b : ℕ) (ts : List Token) (xs : List Case) (n : ℕ) (rest : List Token) (t : Token) (us : List Token) → CasesAt b ts xs n rest → n ≤ b → rest ≡ t ∷ us → t.kind ≡ kind.Case → CaseAt b ts xs t.at n us
unfolding then_ token done
case_at b ts xs n rest t us led within is e =
    led_step us items_line (case_node t.at) (tree.no_spans, (sample.token, (tree.no_stmts, (tree.no_cases, tt)))) same_depth within (omega arith) (λ c w s. write _ cases_more (read e here))
    (λ c u s s' ts' clear r h. let z = behind_part tt r (omega (arith, h)) in case_by t us e c u z.as_symbols z.rule s clear z.reach h)
    (subst (λ (l : List Token). CasesAt b ts xs n l) is led)

pub case_deep : (b : ℕ) (ts : List Token) (xs : List Case) (n : ℕ) (rest : List Token) (t : Token) (us : List Token) → CasesAt b ts xs n rest → b < n → rest ≡ t ∷ us → t.kind ≡ kind.Case → TooDeep (one g.cases) continues_cases b ts (length us)
unfolding then_ token done
case_deep b ts xs n rest t us led over is e =
    led_over same_depth is over
    (λ c. (
      case_node t.at (tree.no_spans, (sample.token, (tree.no_stmts, (tree.no_cases, tt)))),
      λ s. (
        g.items c tree.no_spans ∷ tok kind.Colon sample.token ∷ g.stmts c tree.no_stmts ∷ g.cases c tree.no_cases ∷ s,
        subst (λ (l : List Token). Reach (g.items c tree.no_spans ∷ tok kind.Colon sample.token ∷ g.stmts c tree.no_stmts ∷ g.cases c tree.no_cases ∷ s) us (g.cases c (case_node t.at (tree.no_spans, (sample.token, (tree.no_stmts, (tree.no_cases, tt))))) ∷ s) l) (sym is)
            (write _ cases_more (read e here)),
      ),
    )) led

-- its values
colon_clear : (c : ℕ) (u : Token × (Stmts × (Cases × Unit {0}))) (s : List Sym) → Clear continues_cases s → Clear begins_items (colon_line c u ++ s)
colon_clear c u s clear = token_clear begins_items kind.Colon refl body_line c u s

pub case_items_refused : (b : ℕ) (ts : List Token) (xs : List Case) (at : Place) (n : ℕ) (rest : List Token) (e : Stop) → CaseAt b ts xs at n rest → n ≤ b → Exact (one g.items) begins_items b rest (refused e) → Exact (one g.cases) continues_cases b ts (refused e)
case_items_refused b ts xs at n rest e led within h = part_refused g.items begins_items colon_line e same_depth led within h colon_clear

abbrev pub CaseItems : ℕ → List Token → List Case → Place → Spans → ℕ → List Token → Type 0
CaseItems b ts xs at ss n rest = Led (one g.cases) continues_cases (λ n. n) b ts colon_line (λ u. cases_onto xs (case_node at (ss, u))) n rest

pub case_items : (b : ℕ) (ts : List Token) (xs : List Case) (at : Place) (n : ℕ) (rest : List Token) (ss : Spans) (m : ℕ) (after : List Token) → CaseAt b ts xs at n rest → n ≤ b → Found (one g.items) begins_items b rest ss m after → CaseItems b ts xs at ss (max n m) after
case_items b ts xs at n rest ss m after led within found = led_part same_depth led within found colon_clear

-- its `:`
pub case_no_colon : (b : ℕ) (ts : List Token) (xs : List Case) (at : Place) (ss : Spans) (n : ℕ) (rest : List Token) (e : Stop) (within : Fit) → CaseItems b ts xs at ss n rest → (within ≡ fit.Over → b < n) → NotExpected kind.Colon within rest e → Exact (one g.cases) continues_cases b ts (refused e)
case_no_colon b ts xs at ss n rest e within led over h = token_refused kind.Colon body_line e within same_depth led over h

abbrev pub CaseColon : ℕ → List Token → List Case → Place → Spans → ℕ → List Token → Type 0
CaseColon b ts xs at ss n rest = (t : Token) × Led (one g.cases) continues_cases (λ n. n) b ts body_line (λ u. cases_onto xs (case_node at (ss, (t, u)))) n rest

pub case_colon : (b : ℕ) (ts : List Token) (xs : List Case) (at : Place) (ss : Spans) (n : ℕ) (rest : List Token) (t : Token) (us : List Token) → CaseItems b ts xs at ss n rest → n ≤ b → rest ≡ t ∷ us → t.kind ≡ kind.Colon → CaseColon b ts xs at ss n us
case_colon b ts xs at ss n rest t us led within is e = (t, token_read same_depth led within is e)

-- its statements
cases_go_on : (k : TokenKind) → continues_statements k ≡ true → continues_cases k ≡ true
cases_go_on kind.CloseBrace e = cc
cases_go_on _ e = refl

others_by : {s' : List Sym} {ts' : List Token} (t : Token) (us : List Token) → continues_statements t.kind ≡ true → (c : ℕ) (l : Cases) (p : List Sym) → Rule (g.cases c l) p → (s : List Sym) → Clear continues_cases s → Reach s' ts' (p ++ s) (t ∷ us) → size s' ts' ≤ suc (2 * length us) → ⊥
others_by {s'} {ts'} t us on c l p cases_none s clear r h = clear.stops t us s' ts' (cases_go_on t.kind on) r h
others_by t us on c l p cases_more s clear r h = let is : t.kind ≡ kind.Case = reach_opens r (omega (arith, h)) in let bad : true ≡ false = sym on ∙ ap continues_statements is in cc

others_clear : (c : ℕ) (u : Cases × Unit {0}) (s : List Sym) → Clear continues_cases s → Clear continues_statements (others_line c u ++ s)
unfolding then_ done
others_clear c u s clear = record { stops = λ t us s' ts' on r h. let z = behind_part tt r (omega (arith, h)) in others_by t us on c u.0 z.as_symbols z.rule s clear z.reach h }

pub case_body_refused : (b : ℕ) (ts : List Token) (xs : List Case) (at : Place) (ss : Spans) (n : ℕ) (rest : List Token) (e : Stop) → CaseColon b ts xs at ss n rest → n ≤ b → Exact (one g.stmts) continues_statements b rest (refused e) → Exact (one g.cases) continues_cases b ts (refused e)
case_body_refused b ts xs at ss n rest e led within h = part_refused g.stmts continues_statements others_line e same_depth led.1 within h others_clear

all_cases : (b : ℕ) (ts : List Token) (f : Cases → Cases) (n : ℕ) (rest : List Token) → Led (one g.cases) continues_cases (λ n. n) b ts others_line (λ u. f u.0) n rest → Led (one g.cases) continues_cases (λ n. n) b ts (one g.cases) f n rest
unfolding then_ done
all_cases b ts f n rest led = led_here (one g.cases) (λ l. (l, tt)) tree.no_cases (λ c w s. here) (λ c u s s' ts' clear r h. record { by = u.0; is = refl; reach = r }) led

pub case_answer : (b : ℕ) (ts : List Token) (xs ys : List Case) (x : Case) (at : Place) (ss : Spans) (body : Stmts) (n : ℕ) (rest : List Token) (m top : ℕ) (after : List Token) → ((l : Cases) → with_case x l ≡ tree.more_cases at ss body l) → CaseColon b ts xs at ss n rest → n ≤ b →
    Found (one g.stmts) continues_statements b rest body m after → ys ≡ xs ++ x ∷ [] → top ≡ max n m → CasesAt b ts ys top after
case_answer b ts xs ys x at ss body n rest m top after made led within found more high =
    subst (λ (l : List Case). CasesAt b ts l top after) (sym more)
    (subst (λ (h : ℕ). CasesAt b ts (xs ++ x ∷ []) h after) (sym high)
    (subst (λ (f : Cases → Cases). Led (one g.cases) continues_cases (λ n. n) b ts (one g.cases) f (max n m) after) (λ i. λ l. (ap (cases_onto xs) (sym (made l)) ∙ sym (cases_onto_last xs x l)) i)
    (all_cases b ts (λ l. cases_onto xs (tree.more_cases at ss body l)) (max n m) after (led_part same_depth led.1 within found others_clear))))

-- no further case
end_by : {s' : List Sym} {ts' : List Token} (ts : List Token) → StartsWithout kind.Case ts → (c : ℕ) (l : Cases) (p : List Sym) → Rule (g.cases c l) p → (s : List Sym) → Reach s' ts' (p ++ s) ts → size s' ts' ≤ 2 * length ts → Stepped done (λ u. tree.no_cases) c l s s' ts' ts
unfolding done
end_by ts f c l p cases_none s r h = record { by = tt; is = refl; reach = r }
end_by ts f c l p cases_more s r h = let z = behind_token r h in absurd (without kind.Case _ _ ts z.is z.kind f)

pub cases_answer : (b : ℕ) (ts : List Token) (xs : List Case) (n : ℕ) (rest : List Token) → CasesAt b ts xs n rest → StartsWithout kind.Case rest → Found (one g.cases) continues_cases b ts (cases xs) n rest
unfolding done
cases_answer b ts xs n rest led f =
    answer_is (cases_onto_none xs) refl
    (led_done same_depth (led_here done (λ u. tree.no_cases) tt (λ c w s. write _ cases_none here) (λ c u s s' ts' clear r h. let z = behind_part tt r h in end_by rest f c u z.as_symbols z.rule s z.reach h) led))
