-- `for`: what may stand behind it.
use Rattle.std.proofs.Common.{◌≡◌, ℕ, ◌*◌, ◌≤◌, true, false, List, ◌∷◌, ◌++◌, length, refl, sym, ◌∙◌, ap, subst, arith}
use Rattle.odc_text.specs.declared.place.Place.{Place}
use Rattle.odc_syntax.specs.declared.token.Token.{Token}
use Rattle.odc_syntax.specs.declared.token.TokenKind.{TokenKind}
use Rattle.odc_syntax.specs.declared.token.TokenKind.TheVariants as kind
use Rattle.odc_syntax.specs.declared.grammar.Mode.TheVariants as mode
use Rattle.odc_syntax.specs.Tree.{Header, Stmts}
use Rattle.odc_syntax.specs.Tree as tree
use Rattle.odc_syntax.specs.Grammar.{Sym, tok, Rule, Labelled}
use Rattle.odc_syntax.specs.Grammar as g
use Rattle.odc_syntax.specs.Derives.{Reach, here, read, write}
use Rattle.odc_lookahead.specs.declared.stop.Stop.{Stop}
use Rattle.odc_lookahead.specs.stmts.Clauses.{declared, assigned, alone}
use Rattle.odc_lookahead.specs.Exact.{size, one, Exact, Found}
use Rattle.odc_lookahead.specs.stmts.Loops.{Steps, steps_line, Looped, ever, clause, stepped, ranged, looped_line, looped}
use Rattle.odc_lookahead.specs.Read.{refused}
use Rattle.odc_lookahead.specs.Sets.{starts_expression, starts_variables}
use Rattle.odc_lookahead.specs.stmts.Statements.{labelled_part}
use Rattle.odc_lookahead.specs.stmts.StatementSets.{continues_statement}
use Rattle.odc_lookahead.proofs.reading.Opening.{reach_opens, is_body, is_switch}
use Rattle.odc_lookahead.proofs.reading.Reaching.{behind_part, behind_token}
use Rattle.odc_lookahead.proofs.reading.Leading.{same_depth, Pending, Led, first_is, at_rest}
use Rattle.odc_lookahead.proofs.reading.Answering.{led_at, led_rest, led_rest_refused, led_step, answer_is, Stepped}
use Rattle.odc_lookahead.proofs.reading.Deciding.{led_here}
use Rattle.odc_lookahead.proofs.reading.Samples as sample

for_into : (t : Token) (us : List Token) → t.kind ≡ kind.For → (c : ℕ) (w : Looped) (s : List Sym) → Reach (looped_line c w ++ s) us (g.labelled_ c t.at (looped w) ∷ s) (t ∷ us)
for_into t us e c (ever ss) s = write _ g.for_ever (read e here)
for_into t us e c (clause (declared d k) u) s = write _ g.for_steps (read e (write _ g.steps_decl here))
for_into t us e c (clause (assigned x k) u) s = write _ g.for_steps (read e (write _ g.steps_simple here))
for_into t us e c (clause (alone x) u) s = write _ g.for_while (read e here)
for_into t us e c (stepped k u) s = write _ g.for_steps (read e (write _ g.steps_none here))
for_into t us e c (ranged vs i x ss) s = write _ g.for_range (read e here)

unfoldable ForPending : (s' : List Sym) (ts' : List Token) (at : Place) (us : List Token) (c : ℕ) (p : Place) (l : Labelled) (s : List Sym) → Type 0
ForPending s' ts' at us c p l s = Pending {V = Place × Labelled} (λ n. n) looped_line (λ w. (at, looped w)) 0 us c (p, l) s s' ts'

steps_by : {s' : List Sym} {ts' : List Token} (at : Place) (us : List Token) (c : ℕ) (h : Header) (u : Steps) (p : List Sym) → Rule (g.steps c h) p → (s : List Sym) → Reach s' ts' (p ++ (steps_line c u ++ s)) us → ForPending s' ts' at us c at (g.loop h u.0 u.1.1.0 u.1.1.1) s
unfolding ForPending
steps_by at us c h u p (g.steps_none {t = t}) s r = record { at = c; value = stepped t u; bound = refl; whole = refl; deep = omega arith; reach = r }
steps_by at us c h u p (g.steps_decl {t = t} {d = d}) s r = record { at = c; value = clause (declared d t) u; bound = refl; whole = refl; deep = omega arith; reach = r }
steps_by at us c h u p (g.steps_simple {t = t} {s = x}) s r = record { at = c; value = clause (assigned x t) u; bound = refl; whole = refl; deep = omega arith; reach = r }

moved_place : (s' : List Sym) (ts' : List Token) (a b : Place) (us : List Token) (c : ℕ) (l : Labelled) (s : List Sym) → a ≡ b → ForPending s' ts' b us c b l s → ForPending s' ts' b us c a l s
moved_place s' ts' a b us c l s e q = subst (λ (p : Place). ForPending s' ts' b us c p l s) (sym e) q

for_by : {s' : List Sym} {ts' : List Token} (t : Token) (us : List Token) → t.kind ≡ kind.For → (c : ℕ) (at : Place) (l : Labelled) (p : List Sym) → Rule (g.labelled_ c at l) p → (s : List Sym) → Reach s' ts' (p ++ s) (t ∷ us) → size s' ts' ≤ 2 * length us → ForPending s' ts' t.at us c at l s
unfolding ForPending
for_by t us e c at l p g.block_alone s r h = let bad : t.kind ≡ kind.OpenBrace = reach_opens r (omega (arith, h)) in cc
for_by t us e c at l p (g.for_ever {t = x} {ss = ss}) s r h =
    let z = behind_token r (omega (arith, h)) in
    record { at = c; value = ever ss; bound = refl; whole = ap (λ (x : Token). (x.at, g.loop tree.no_header tree.no_expr tree.no_stmt ss)) (first_is z.is); deep = omega arith; reach = at_rest z }
for_by t us e c at l p (g.for_while {t = x} {e = y} {ss = ss}) s r h =
    let z = behind_token r (omega (arith, h)) in
    record {
      at = c;
      value = clause (alone y) (tree.no_expr, (sample.token, (tree.no_stmt, ss)));
      bound = refl;
      whole = ap (λ (x : Token). (x.at, g.loop tree.no_header (tree.some_expr y) tree.no_stmt ss)) (first_is z.is);
      deep = omega arith;
      reach = at_rest z;
    }
for_by {s'} {ts'} t us e c at l p (g.for_steps {t = x} {c = k} {h = q} {e = y} {s = a} {ss = ss}) s r h =
    let z = behind_token r (omega (arith, h)) in
    let w = behind_part tt (at_rest z) h in
    moved_place s' ts' x.at t.at us c (g.loop q y a ss) s (ap (λ (x : Token). x.at) (first_is z.is)) (steps_by t.at us c q (y, (k, (a, ss))) w.as_symbols w.rule s w.reach)
for_by t us e c at l p (g.for_range {t = x} {i = i} {vs = vs} {s = y} {ss = ss}) s r h =
    let z = behind_token r (omega (arith, h)) in
    record { at = c; value = ranged vs i y ss; bound = refl; whole = ap (λ (x : Token). (x.at, g.range vs y ss)) (first_is z.is); deep = omega arith; reach = at_rest z }
for_by t us e c at l p g.switch_value s r h = let opens : is_switch t.kind ≡ true = reach_opens r (omega (arith, h)) in let bad : false ≡ true = sym (ap is_switch e) ∙ opens in cc
for_by t us e c at l p g.switch_type s r h = let opens : is_switch t.kind ≡ true = reach_opens r (omega (arith, h)) in let bad : false ≡ true = sym (ap is_switch e) ∙ opens in cc

-- `for` is read
abbrev pub ForAt : ℕ → List Token → Place → List Token → Type 0
ForAt b ts at us = Led (one labelled_part) continues_statement (λ n. n) b ts looped_line (λ w. (at, looped w)) 0 us

pub for_at : (b : ℕ) (ts : List Token) (t : Token) (us : List Token) → ts ≡ t ∷ us → t.kind ≡ kind.For → ForAt b ts t.at us
unfolding ForPending
for_at b ts t us is e =
    subst (λ (l : List Token). ForAt b l t.at us) (sym is)
    (led_at b us looped_line (λ w. (t.at, looped w)) (ever tree.no_stmts) (omega arith) same_depth (λ c v. tt) (λ c w s. for_into t us e c w s)
    (λ c w p rule s s' ts' r h clear. for_by t us e c w.0 w.1 p rule s r h))

-- a body follows at once
body_no_expression : (k : TokenKind) → is_body k ≡ true → starts_expression mode.Header k ≡ false
body_no_expression kind.OpenBrace e = refl
body_no_expression kind.Do e = refl
body_no_expression _ e = cc

body_no_variable : (k : TokenKind) → is_body k ≡ true → starts_variables k ≡ false
body_no_variable kind.OpenBrace e = refl
body_no_variable kind.Do e = refl
body_no_variable _ e = cc

body_no_semicolon : (k : TokenKind) → is_body k ≡ true → k ≡ kind.Semicolon → ⊥
body_no_semicolon kind.Semicolon e f = cc
body_no_semicolon _ e f = cc

body_no_name : (k : TokenKind) → is_body k ≡ true → k ≡ kind.Name → ⊥
body_no_name kind.Name e f = cc
body_no_name _ e f = cc

ever_by : {s' : List Sym} {ts' : List Token} (x : Token) (vs : List Token) → is_body x.kind ≡ true → (c : ℕ) (w : Looped) (s : List Sym) → Reach s' ts' (looped_line c w ++ s) (x ∷ vs) → size s' ts' ≤ 2 * length (x ∷ vs) → Stepped (one g.body) (λ ss. ever ss) c w s s' ts' (x ∷ vs)
ever_by x vs e c (ever ss) s r h = record { by = ss; is = refl; reach = r }
ever_by x vs e c (clause (declared d t) u) s r h = absurd (body_no_name x.kind e (reach_opens r h))
ever_by x vs e c (clause (assigned y t) u) s r h = let opens : starts_expression mode.Header x.kind ≡ true = reach_opens r h in let bad : false ≡ true = sym (body_no_expression x.kind e) ∙ opens in cc
ever_by x vs e c (clause (alone y) u) s r h = let opens : starts_expression mode.Header x.kind ≡ true = reach_opens r h in let bad : false ≡ true = sym (body_no_expression x.kind e) ∙ opens in cc
ever_by x vs e c (stepped t u) s r h = absurd (body_no_semicolon x.kind e (reach_opens r h))
ever_by x vs e c (ranged ns i y ss) s r h = let opens : starts_variables x.kind ≡ true = reach_opens r h in let bad : false ≡ true = sym (body_no_variable x.kind e) ∙ opens in cc

ever_led : (b : ℕ) (ts : List Token) (at : Place) (us : List Token) (x : Token) (vs : List Token) → ForAt b ts at us → us ≡ x ∷ vs → is_body x.kind ≡ true → Led (one labelled_part) continues_statement (λ n. n) b ts (one g.body) (λ ss. (at, looped (ever ss))) 0 us
ever_led b ts at us x vs led is e =
    subst (λ (l : List Token). Led (one labelled_part) continues_statement (λ n. n) b ts (one g.body) (λ ss. (at, looped (ever ss))) 0 l) (sym is)
    (led_here (one g.body) (λ ss. ever ss) tree.no_stmts (λ c w s. here) (λ c u s s' ts' clear r h. ever_by x vs e c u s r h) (subst (λ (l : List Token). ForAt b ts at l) is led))

pub for_ever_answer : (b : ℕ) (ts : List Token) (at : Place) (us : List Token) (x : Token) (vs : List Token) (ss : Stmts) (n : ℕ) (rest : List Token) → ForAt b ts at us → us ≡ x ∷ vs → is_body x.kind ≡ true → Found (one g.body) continues_statement b us ss n rest →
    Found (one labelled_part) continues_statement b ts (at, g.loop tree.no_header tree.no_expr tree.no_stmt ss) n rest
for_ever_answer b ts at us x vs ss n rest led is e found = answer_is refl (omega arith) (led_rest same_depth (ever_led b ts at us x vs led is e) (omega arith) found)

pub for_ever_refused : (b : ℕ) (ts : List Token) (at : Place) (us : List Token) (x : Token) (vs : List Token) (e : Stop) → ForAt b ts at us → us ≡ x ∷ vs → is_body x.kind ≡ true → Exact (one g.body) continues_statement b us (refused e) → Exact (one labelled_part) continues_statement b ts (refused e)
for_ever_refused b ts at us x vs e led is k h = led_rest_refused e same_depth (ever_led b ts at us x vs led is k) (omega arith) h

-- a `;` follows at once
semicolon_by : {s' : List Sym} {ts' : List Token} (x : Token) (vs : List Token) → x.kind ≡ kind.Semicolon → (c : ℕ) (w : Looped) (s : List Sym) → Reach s' ts' (looped_line c w ++ s) (x ∷ vs) → size s' ts' ≤ 2 * length vs → Stepped steps_line (λ u. stepped x u) c w s s' ts' vs
semicolon_by x vs e c (ever ss) s r h = let opens : is_body x.kind ≡ true = reach_opens r (omega (arith, h)) in let bad : false ≡ true = sym (ap is_body e) ∙ opens in cc
semicolon_by x vs e c (clause (declared d t) u) s r h = let opens : x.kind ≡ kind.Name = reach_opens r (omega (arith, h)) in cc
semicolon_by x vs e c (clause (assigned y t) u) s r h = let opens : starts_expression mode.Header x.kind ≡ true = reach_opens r (omega (arith, h)) in let bad : false ≡ true = sym (ap (starts_expression mode.Header) e) ∙ opens in cc
semicolon_by x vs e c (clause (alone y) u) s r h = let opens : starts_expression mode.Header x.kind ≡ true = reach_opens r (omega (arith, h)) in let bad : false ≡ true = sym (ap (starts_expression mode.Header) e) ∙ opens in cc
semicolon_by x vs e c (stepped t u) s r h = let z = behind_token r (omega (arith, h)) in record { by = u; is = ap (λ (t : Token). stepped t u) (first_is z.is); reach = at_rest z }
semicolon_by x vs e c (ranged ns i y ss) s r h = let opens : starts_variables x.kind ≡ true = reach_opens r (omega (arith, h)) in let bad : false ≡ true = sym (ap starts_variables e) ∙ opens in cc

pub for_stepped : (b : ℕ) (ts : List Token) (at : Place) (us : List Token) (x : Token) (vs : List Token) → ForAt b ts at us → us ≡ x ∷ vs → x.kind ≡ kind.Semicolon → Led (one labelled_part) continues_statement (λ n. n) b ts steps_line (λ u. (at, looped (stepped x u))) 0 vs
for_stepped b ts at us x vs led is e =
    led_step vs steps_line (λ u. stepped x u) (tree.no_expr, (sample.token, (tree.no_stmt, tree.no_stmts))) same_depth (omega arith) (omega arith) (λ c w s. read e here) (λ c u s s' ts' clear r h. semicolon_by x vs e c u s r h)
    (subst (λ (l : List Token). ForAt b ts at l) is led)
