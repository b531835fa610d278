-- Blocks and bodies.
use Rattle.std.proofs.Common.{◌≡◌, ℕ, ◌*◌, ◌≤◌, true, false, List, [], ◌∷◌, ◌++◌, length, refl, sym, ◌∙◌, ap, subst, arith}
use Rattle.odc_text.specs.declared.place.Place.{Place}
use Rattle.odc_syntax.specs.declared.token.Token.{Token}
use Rattle.odc_syntax.specs.declared.token.TokenKind.{TokenKind}
use Rattle.odc_syntax.specs.declared.token.TokenKind.TheVariants as kind
use Rattle.odc_syntax.specs.declared.grammar.Mode.TheVariants.{Free}
use Rattle.odc_syntax.specs.Tree.{Stmt, Stmts}
use Rattle.odc_syntax.specs.Tree as tree
use Rattle.odc_syntax.specs.Grammar.{Sym, tok, Rule, Labelled, body_braces, body_do, block_braces, block_alone}
use Rattle.odc_syntax.specs.Grammar as g
use Rattle.odc_syntax.specs.Derives.{Reach, here, read, write, StartsWithout}
use Rattle.odc_lookahead.specs.declared.stop.Stop.{Stop}
use Rattle.odc_lookahead.specs.Exact.{size, one, then_, done, token, Exact, Answer, Yes, Found, Broken}
use Rattle.odc_lookahead.specs.Read.{refused}
use Rattle.odc_lookahead.specs.stmts.BodyParts.{braces_line}
use Rattle.odc_lookahead.specs.Sets.{nothing_continues}
use Rattle.odc_lookahead.specs.stmts.Statements.{labelled_part}
use Rattle.odc_lookahead.specs.stmts.StatementSets.{continues_statement}
use Rattle.odc_lookahead.proofs.reading.Opening.{reach_opens, First, is_body, is_switch}
use Rattle.odc_lookahead.proofs.reading.Reaching.{behind_token}
use Rattle.odc_lookahead.proofs.reading.Leading.{same_depth, Pending, Led, first_is, at_rest}
use Rattle.odc_lookahead.proofs.reading.Answering.{led_at, led_rest, led_rest_refused, answer_is, stuck_broken, wider_exact}
use Rattle.odc_lookahead.proofs.expr.SuffixAnswers.{nothing_clear}
use Rattle.odc_lookahead.proofs.stmts.StatementLemmas.{some_stmt}
use Rattle.odc_lookahead.proofs.reading.Samples as sample

braces_wide : (b : ℕ) (ts : List Token) (r : Answer (Stmts × (Token × Unit {0}))) → Exact braces_line nothing_continues b ts r → Exact braces_line continues_statement b ts r
braces_wide b ts r h = wider_exact braces_line b ts r (λ s clear. nothing_clear s) h

-- a body in braces
body_by : {s' : List Sym} {ts' : List Token} (t : Token) (us : List Token) → t.kind ≡ kind.OpenBrace → (c : ℕ) (w : Stmts) (p : List Sym) → Rule (g.body c w) p → (s : List Sym) → Reach s' ts' (p ++ s) (t ∷ us) → size s' ts' ≤ 2 * length us →
    Pending (λ n. n) braces_line (λ u. u.0) 0 us c w s s' ts'
unfolding then_ token done
body_by t us e c w p (body_braces {c = k} {ss = l}) s r h =
    let z = behind_token r (omega (arith, h)) in
    record { at = c; value = (l, (k, tt)); bound = refl; whole = refl; deep = omega arith; reach = at_rest z }
body_by t us e c w p body_do s r h = let bad : t.kind ≡ kind.Do = reach_opens r (omega (arith, h)) in cc

body_led : (b : ℕ) (t : Token) (us : List Token) → t.kind ≡ kind.OpenBrace → Led (one g.body) continues_statement (λ n. n) b (t ∷ us) braces_line (λ u. u.0) 0 us
unfolding then_ token done
body_led b t us e =
    led_at b us braces_line (λ u. u.0) (tree.no_stmts, (sample.token, tt)) (omega arith) same_depth (λ c v. tt) (λ c u s. write _ (body_braces {o = t}) (read e here))
    (λ c w p rule s s' ts' r h clear. body_by t us e c w p rule s r h)

body_at : (b : ℕ) (ts : List Token) (t : Token) (us : List Token) → ts ≡ t ∷ us → t.kind ≡ kind.OpenBrace → Led (one g.body) continues_statement (λ n. n) b ts braces_line (λ u. u.0) 0 us
body_at b ts t us is e = subst (λ (l : List Token). Led (one g.body) continues_statement (λ n. n) b l braces_line (λ u. u.0) 0 us) (sym is) (body_led b t us e)

pub body_answer : (b : ℕ) (ts : List Token) (t : Token) (us : List Token) (v : Stmts) (k : Token) (n : ℕ) (rest : List Token) → ts ≡ t ∷ us → t.kind ≡ kind.OpenBrace → Found braces_line nothing_continues b us (v, (k, tt)) n rest → Found (one g.body) continues_statement b ts v n rest
body_answer b ts t us v k n rest is e found = answer_is refl (omega arith) (led_rest same_depth (body_at b ts t us is e) (omega arith) (braces_wide b us (Yes (v, (k, tt)) n rest) found))

pub body_refused : (b : ℕ) (ts : List Token) (t : Token) (us : List Token) (e : Stop) → ts ≡ t ∷ us → t.kind ≡ kind.OpenBrace → Exact braces_line nothing_continues b us (refused e) → Exact (one g.body) continues_statement b ts (refused e)
body_refused b ts t us e is k h = led_rest_refused e same_depth (body_at b ts t us is k) (omega arith) (braces_wide b us (refused e) h)

-- a body of one statement behind `do`
do_by : {s' : List Sym} {ts' : List Token} (t : Token) (us : List Token) → t.kind ≡ kind.Do → (c : ℕ) (w : Stmts) (p : List Sym) → Rule (g.body c w) p → (s : List Sym) → Reach s' ts' (p ++ s) (t ∷ us) → size s' ts' ≤ 2 * length us →
    Pending (λ n. n) (one g.statement) (λ x. tree.more_stmts x tree.no_stmts) 0 us c w s s' ts'
do_by t us e c w p body_braces s r h = let bad : t.kind ≡ kind.OpenBrace = reach_opens r (omega (arith, h)) in cc
do_by t us e c w p (body_do {s = x}) s r h = let z = behind_token r (omega (arith, h)) in record { at = c; value = x; bound = refl; whole = refl; deep = omega arith; reach = at_rest z }

do_led : (b : ℕ) (t : Token) (us : List Token) → t.kind ≡ kind.Do → Led (one g.body) continues_statement (λ n. n) b (t ∷ us) (one g.statement) (λ x. tree.more_stmts x tree.no_stmts) 0 us
do_led b t us e =
    led_at b us (one g.statement) (λ x. tree.more_stmts x tree.no_stmts) some_stmt (omega arith) same_depth (λ c v. tt) (λ c u s. write _ (body_do {t = t}) (read e here))
    (λ c w p rule s s' ts' r h clear. do_by t us e c w p rule s r h)

do_at : (b : ℕ) (ts : List Token) (t : Token) (us : List Token) → ts ≡ t ∷ us → t.kind ≡ kind.Do → Led (one g.body) continues_statement (λ n. n) b ts (one g.statement) (λ x. tree.more_stmts x tree.no_stmts) 0 us
do_at b ts t us is e = subst (λ (l : List Token). Led (one g.body) continues_statement (λ n. n) b l (one g.statement) (λ x. tree.more_stmts x tree.no_stmts) 0 us) (sym is) (do_led b t us e)

pub do_answer : (b : ℕ) (ts : List Token) (t : Token) (us : List Token) (v : Stmt) (n : ℕ) (rest : List Token) → ts ≡ t ∷ us → t.kind ≡ kind.Do → Found (one g.statement) continues_statement b us v n rest →
    Found (one g.body) continues_statement b ts (tree.more_stmts v tree.no_stmts) n rest
do_answer b ts t us v n rest is e found = answer_is refl (omega arith) (led_rest same_depth (do_at b ts t us is e) (omega arith) found)

pub do_refused : (b : ℕ) (ts : List Token) (t : Token) (us : List Token) (e : Stop) → ts ≡ t ∷ us → t.kind ≡ kind.Do → Exact (one g.statement) continues_statement b us (refused e) → Exact (one g.body) continues_statement b ts (refused e)
do_refused b ts t us e is k h = led_rest_refused e same_depth (do_at b ts t us is k) (omega arith) h

-- neither
body_kinds : (k : TokenKind) → is_body k ≡ true → (k ≡ kind.OpenBrace → ⊥) → (k ≡ kind.Do → ⊥) → ⊥
body_kinds kind.OpenBrace e f h = f refl
body_kinds kind.Do e f h = h refl
body_kinds _ e f h = cc

pub no_body_first : (ts : List Token) → StartsWithout kind.OpenBrace ts → StartsWithout kind.Do ts → First is_body ts → ⊥
no_body_first [] f k h = h
no_body_first (t ∷ ts) f k h = body_kinds t.kind h f k

pub no_body : (b : ℕ) (ts : List Token) → StartsWithout kind.OpenBrace ts → StartsWithout kind.Do ts → Broken (one g.body) continues_statement b ts (length ts)
no_body b ts f k = stuck_broken g.body tree.no_stmts (λ c v h. no_body_first ts f k h)

-- the block of a procedure
free_by : {s' : List Sym} {ts' : List Token} (t : Token) (us : List Token) → t.kind ≡ kind.OpenBrace → (c : ℕ) (w : Stmts) (p : List Sym) → Rule (g.block_ Free c w) p → (s : List Sym) → Reach s' ts' (p ++ s) (t ∷ us) → size s' ts' ≤ 2 * length us →
    Pending (λ n. n) braces_line (λ u. u.0) 0 us c w s s' ts'
unfolding then_ token done
free_by t us e c w p (block_braces {c = k} {ss = l}) s r h =
    let z = behind_token r (omega (arith, h)) in
    record { at = c; value = (l, (k, tt)); bound = refl; whole = refl; deep = omega arith; reach = at_rest z }

free_led : (b : ℕ) (t : Token) (us : List Token) → t.kind ≡ kind.OpenBrace → Led (one (g.block_ Free)) nothing_continues (λ n. n) b (t ∷ us) braces_line (λ u. u.0) 0 us
unfolding then_ token done
free_led b t us e =
    led_at b us braces_line (λ u. u.0) (tree.no_stmts, (sample.token, tt)) (omega arith) same_depth (λ c v. tt) (λ c u s. write _ (block_braces {o = t}) (read e here))
    (λ c w p rule s s' ts' r h clear. free_by t us e c w p rule s r h)

pub block_answer : (b : ℕ) (t : Token) (us : List Token) (v : Stmts) (k : Token) (n : ℕ) (rest : List Token) → t.kind ≡ kind.OpenBrace → Found braces_line nothing_continues b us (v, (k, tt)) n rest → Found (one (g.block_ Free)) nothing_continues b (t ∷ us) v n rest
block_answer b t us v k n rest e found = answer_is refl (omega arith) (led_rest same_depth (free_led b t us e) (omega arith) found)

pub block_refused : (b : ℕ) (t : Token) (us : List Token) (e : Stop) → t.kind ≡ kind.OpenBrace → Exact braces_line nothing_continues b us (refused e) → Exact (one (g.block_ Free)) nothing_continues b (t ∷ us) (refused e)
block_refused b t us e k h = led_rest_refused e same_depth (free_led b t us k) (omega arith) h

-- a block that is a statement
alone_by : {s' : List Sym} {ts' : List Token} (t : Token) (us : List Token) → t.kind ≡ kind.OpenBrace → (c : ℕ) (at : Place) (l : Labelled) (p : List Sym) → Rule (g.labelled_ c at l) p → (s : List Sym) → Reach s' ts' (p ++ s) (t ∷ us) → size s' ts' ≤ 2 * length us →
    Pending {V = Place × Labelled} (λ n. n) braces_line (λ u. (t.at, g.block u.0)) 0 us c (at, l) s s' ts'
unfolding then_ token done
alone_by t us e c at l p (block_alone {t = x} {c = k} {ss = q}) s r h =
    let z = behind_token r (omega (arith, h)) in
    record { at = c; value = (q, (k, tt)); bound = refl; whole = ap (λ (x : Token). (x.at, g.block q)) (first_is z.is); deep = omega arith; reach = at_rest z }
alone_by t us e c at l p g.for_ever s r h = let bad : t.kind ≡ kind.For = reach_opens r (omega (arith, h)) in cc
alone_by t us e c at l p g.for_while s r h = let bad : t.kind ≡ kind.For = reach_opens r (omega (arith, h)) in cc
alone_by t us e c at l p g.for_steps s r h = let bad : t.kind ≡ kind.For = reach_opens r (omega (arith, h)) in cc
alone_by t us e c at l p g.for_range s r h = let bad : t.kind ≡ kind.For = reach_opens r (omega (arith, h)) in cc
alone_by t us e c at l p g.switch_value s r h = let opens : is_switch t.kind ≡ true = reach_opens r (omega (arith, h)) in let bad : false ≡ true = sym (ap is_switch e) ∙ opens in cc
alone_by t us e c at l p g.switch_type s r h = let opens : is_switch t.kind ≡ true = reach_opens r (omega (arith, h)) in let bad : false ≡ true = sym (ap is_switch e) ∙ opens in cc

alone_led : (b : ℕ) (t : Token) (us : List Token) → t.kind ≡ kind.OpenBrace → Led (one labelled_part) continues_statement (λ n. n) b (t ∷ us) braces_line (λ u. (t.at, g.block u.0)) 0 us
unfolding then_ token done
alone_led b t us e =
    led_at b us braces_line (λ u. (t.at, g.block u.0)) (tree.no_stmts, (sample.token, tt)) (omega arith) same_depth (λ c v. tt) (λ c u s. write _ block_alone (read e here))
    (λ c w p rule s s' ts' r h clear. alone_by t us e c w.0 w.1 p rule s r h)

pub alone_answer : (b : ℕ) (t : Token) (us : List Token) (v : Stmts) (k : Token) (n : ℕ) (rest : List Token) → t.kind ≡ kind.OpenBrace → Found braces_line nothing_continues b us (v, (k, tt)) n rest → Found (one labelled_part) continues_statement b (t ∷ us) (t.at, g.block v) n rest
alone_answer b t us v k n rest e found = answer_is refl (omega arith) (led_rest same_depth (alone_led b t us e) (omega arith) (braces_wide b us (Yes (v, (k, tt)) n rest) found))

pub alone_refused : (b : ℕ) (t : Token) (us : List Token) (e : Stop) → t.kind ≡ kind.OpenBrace → Exact braces_line nothing_continues b us (refused e) → Exact (one labelled_part) continues_statement b (t ∷ us) (refused e)
alone_refused b t us e k h = led_rest_refused e same_depth (alone_led b t us k) (omega arith) (braces_wide b us (refused e) h)
