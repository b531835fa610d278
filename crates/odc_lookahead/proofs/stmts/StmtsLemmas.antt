-- Statements with semicolons between them.
use Rattle.std.proofs.Common.{◌≡◌, ℕ, suc, ◌*◌, ◌<◌, ◌≤◌, max, Bool, true, false, List, [], ◌∷◌, ◌++◌, length, refl, sym, ◌∙◌, ap, subst, arith}
use Rattle.odc_syntax.specs.declared.token.Token.{Token}
use Rattle.odc_syntax.specs.declared.token.TokenKind.{TokenKind}
use Rattle.odc_syntax.specs.declared.token.TokenKind.TheVariants as kind
use Rattle.odc_syntax.specs.Tree.{Stmt, Stmts}
use Rattle.odc_syntax.specs.Tree as tree
use Rattle.odc_syntax.specs.View as view
use Rattle.odc_syntax.specs.Grammar.{Sym, tok, Rule, stmts_none, stmts_skip, stmts_last, stmts_more}
use Rattle.odc_syntax.specs.Grammar as g
use Rattle.odc_syntax.specs.Derives.{Reach, here, read, write, StartsWithout}
use Rattle.odc_lookahead.specs.declared.stop.Stop.{Stop}
use Rattle.odc_lookahead.specs.declared.stop.Stop.TheVariants as stop
use Rattle.odc_lookahead.specs.Exact.{size, Clear, Part, one, then_, done, token, Exact, Found, Broken, TooDeep}
use Rattle.odc_lookahead.specs.Read.{refused, NotExpected}
use Rattle.odc_lookahead.specs.stmts.BodyParts.{braces_line}
use Rattle.odc_lookahead.specs.stmts.Runs.{Skips}
use Rattle.odc_lookahead.specs.stmts.Runs as runs
use Rattle.odc_lookahead.specs.Sets.{starts_statement, nothing_continues}
use Rattle.odc_lookahead.specs.stmts.StatementSets.{continues_statement, continues_statements}
use Rattle.odc_lookahead.proofs.reading.Opening.{reach_opens}
use Rattle.odc_lookahead.proofs.reading.Reaching.{behind_part, behind_token}
use Rattle.odc_lookahead.proofs.reading.Leading.{same_depth, Led, led_part, led_done, first_is, without, at_rest}
use Rattle.odc_lookahead.proofs.reading.Answering.{led_step, led_over, part_refused, token_refused, token_read, Stepped, answer_is}
use Rattle.odc_lookahead.proofs.expr.BinaryLemmas.{clear_narrow}
use Rattle.odc_lookahead.proofs.stmts.StatementLemmas.{some_stmt}
use Rattle.odc_lookahead.proofs.reading.Deciding.{led_here}
use Rattle.odc_lookahead.proofs.reading.Optional.{OpensBy, Turns, Into, optional_found, optional_refused}
use Rattle.odc_lookahead.proofs.reading.Samples as sample
use Rattle.odc_lookahead.specs.declared.tokens.Fit.{Fit}
use Rattle.odc_lookahead.specs.declared.tokens.Fit.TheVariants as fit

-- a part, from its start
pub led_itself : {V : Type 0} (p : Part V) (cont : TokenKind → Bool) (b : ℕ) (ts : List Token) → V → Led p cont (λ n. n) b ts p (λ v. v) 0 ts
led_itself p cont b ts some = record {
  short = omega arith;
  sample = some;
  comes = record { at = λ c h. record { value = some; before = λ s. record { pending = p c some ++ s; rest = ts; rest_is = refl; reach = here } } };
  reads = λ c u h s. here;
  only = λ c w s s' ts' clear r h. record { at = c; value = w; bound = refl; whole = refl; deep = omega arith; reach = r };
}

-- statements that were read, in front of others
abbrev pub stmts_onto : List Stmt → Stmts → Stmts
stmts_onto [] l = l
stmts_onto (x ∷ xs) l = tree.more_stmts (view.stmt x) (stmts_onto xs l)

stmts_onto_last : (xs : List Stmt) (x : Stmt) (l : Stmts) → stmts_onto (xs ++ x ∷ []) l ≡ stmts_onto xs (tree.more_stmts (view.stmt x) l)
stmts_onto_last [] x l = refl
stmts_onto_last (y ∷ xs) x l = ap (tree.more_stmts (view.stmt y)) (stmts_onto_last xs x l)

stmts_onto_none : (xs : List Stmt) → stmts_onto xs tree.no_stmts ≡ view.stmts xs
stmts_onto_none [] = refl
stmts_onto_none (x ∷ xs) = ap (tree.more_stmts (view.stmt x)) (stmts_onto_none xs)

-- what has been read of statements, before a further one
abbrev pub StmtsAt : ℕ → List Token → List Stmt → ℕ → List Token → Type 0
StmtsAt b ts xs n rest = Led (one g.stmts) continues_statements (λ n. n) b ts (one g.stmts) (stmts_onto xs) n rest

pub stmts_start : (b : ℕ) (ts : List Token) (xs : List Stmt) → xs ≡ [] → StmtsAt b ts xs 0 ts
stmts_start b ts xs is = subst (λ (l : List Stmt). StmtsAt b ts l 0 ts) (sym is) (led_itself (one g.stmts) continues_statements b ts tree.no_stmts)

starts_no_semicolon : (k : TokenKind) → starts_statement k ≡ true → k ≡ kind.Semicolon → ⊥
starts_no_semicolon kind.Semicolon e f = cc
starts_no_semicolon _ e f = cc

-- a semicolon alone
skip_by : {s' : List Sym} {ts' : List Token} (t : Token) (us : List Token) → t.kind ≡ kind.Semicolon → (c : ℕ) (l : Stmts) (p : List Sym) → Rule (g.stmts c l) p → (s : List Sym) → Clear continues_statements s → Reach s' ts' (p ++ s) (t ∷ us) → size s' ts' ≤ 2 * length us →
    Stepped (one g.stmts) (λ l. l) c l s s' ts' us
skip_by {s'} {ts'} t us e c l p stmts_none s clear r h = absurd (clear.stops t us s' ts' (ap continues_statements e) r (omega (arith, h)))
skip_by t us e c l p stmts_skip s clear r h = let z = behind_token r (omega (arith, h)) in record { by = l; is = refl; reach = at_rest z }
skip_by t us e c l p stmts_last s clear r h = absurd (starts_no_semicolon t.kind (reach_opens r (omega (arith, h))) e)
skip_by t us e c l p stmts_more s clear r h = absurd (starts_no_semicolon t.kind (reach_opens r (omega (arith, h))) e)

pub stmts_skipped : (b : ℕ) (ts : List Token) (xs : List Stmt) (n : ℕ) (rest : List Token) (t : Token) (us : List Token) → StmtsAt b ts xs n rest → n ≤ b → rest ≡ t ∷ us → t.kind ≡ kind.Semicolon → StmtsAt b ts xs n us
stmts_skipped b ts xs n rest t us led within is e =
    led_step us (one g.stmts) (λ l. l) tree.no_stmts same_depth within (omega arith) (λ c w s. write _ (stmts_skip {t = t}) (read e here))
    (λ c u s s' ts' clear r h. let z = behind_part tt r (omega (arith, h)) in skip_by t us e c u z.as_symbols z.rule s clear z.reach h)
    (subst (λ (l : List Token). StmtsAt b ts xs n l) is led)

pub skips_short : {ts us : List Token} → Skips ts us → length us ≤ length ts
skips_short (runs.none ts f) = omega arith
skips_short (runs.one t us rest e k) = let h = skips_short k in omega (arith, h)

pub skips_end : {ts us : List Token} → Skips ts us → StartsWithout kind.Semicolon us
skips_end (runs.none ts f) = f
skips_end (runs.one t us rest e k) = skips_end k

pub stmts_behind : (b : ℕ) (ts : List Token) (xs : List Stmt) (n : ℕ) {rest us : List Token} → Skips rest us → StmtsAt b ts xs n rest → n ≤ b → StmtsAt b ts xs n us
stmts_behind b ts xs n (runs.none rest f) led within = led
stmts_behind b ts xs n (runs.one t us rest e k) led within = stmts_behind b ts xs n k (stmts_skipped b ts xs n (t ∷ us) t us led within refl e) within

-- behind a statement
data AfterStatement : Type 0 where
  last : AfterStatement
  more : (t : Token) (l : Stmts) → AfterStatement

abbrev after_line : Part AfterStatement
after_line c last = []
after_line c (more t l) = tok kind.Semicolon t ∷ g.stmts c l ∷ []

abbrev with_after : tree.Stmt × AfterStatement → Stmts
with_after (s, last) = tree.more_stmts s tree.no_stmts
with_after (s, more t l) = tree.more_stmts s l

after_into : (rest : List Token) → Into (one g.stmts) g.statement after_line with_after rest
unfolding then_
after_into rest c (x, last) s = write _ stmts_last here
after_into rest c (x, more t l) s = write _ stmts_more here

statement_goes_on : (k : TokenKind) → starts_statement k ≡ true → continues_statements k ≡ true
statement_goes_on kind.CloseBrace e = cc
statement_goes_on kind.Case e = cc
statement_goes_on _ e = refl

turn_by : {s' : List Sym} {ts' : List Token} (t : Token) (vs : List Token) → starts_statement t.kind ≡ true → (c : ℕ) (l : Stmts) (p : List Sym) → Rule (g.stmts c l) p → (s : List Sym) → Clear continues_statements s → Reach s' ts' (p ++ s) (t ∷ vs) →
    size s' ts' ≤ suc (2 * length vs) → Stepped (then_ g.statement after_line) with_after c l s s' ts' (t ∷ vs)
unfolding then_
turn_by {s'} {ts'} t vs e c l p stmts_none s clear r h = absurd (clear.stops t vs s' ts' (statement_goes_on t.kind e) r h)
turn_by t vs e c l p stmts_skip s clear r h = absurd (starts_no_semicolon t.kind e (reach_opens r (omega (arith, h))))
turn_by t vs e c l p (stmts_last {s = x}) s clear r h = record { by = (x, last); is = refl; reach = r }
turn_by t vs e c l p (stmts_more {t = u} {s = x} {ss = k}) s clear r h = record { by = (x, more u k); is = refl; reach = r }

after_turn : (rest : List Token) → Turns starts_statement continues_statements (one g.stmts) g.statement after_line with_after rest
after_turn rest t vs is e c l s s' ts' clear r h =
    subst (λ (k : List Token). Stepped (then_ g.statement after_line) with_after c l s s' ts' k) (sym is)
    (let q = subst (λ (k : List Token). Reach s' ts' (g.stmts c l ∷ s) k) is r in let z = behind_part tt q (omega (arith, h)) in turn_by t vs e c l z.as_symbols z.rule s clear z.reach h)

statement_opens : (rest : List Token) → OpensBy g.statement starts_statement rest
statement_opens rest c w s s' ts' r h = reach_opens r h

pub statements_on : (k : TokenKind) → continues_statement k ≡ true → continues_statements k ≡ true
statements_on kind.Semicolon e = refl
statements_on kind.CloseBrace e = cc
statements_on kind.Else e = refl
statements_on kind.Case e = cc
statements_on _ e = refl

semicolon_clear : (t : Token) (s : List Sym) → Clear continues_statement (tok kind.Semicolon t ∷ s)
semicolon_clear t s = record {
  stops = λ u us s' ts' on r h.
      let is : u.kind ≡ kind.Semicolon = reach_opens r (omega (arith, h)) in
      let bad : true ≡ false = sym on ∙ ap continues_statement is in
      cc;
}

after_clear : (c : ℕ) (u : AfterStatement) (s : List Sym) → Clear continues_statements s → Clear continues_statement (after_line c u ++ s)
after_clear c last s clear = clear_narrow statements_on clear
after_clear c (more t l) s clear = semicolon_clear t (g.stmts c l ∷ s)

-- the next statement isn't read
pub stmt_refused : (b : ℕ) (ts : List Token) (xs : List Stmt) (n : ℕ) (rest : List Token) (e : Stop) → StmtsAt b ts xs n rest → n ≤ b → Exact (one g.statement) continues_statement b rest (refused e) → (e ≡ stop.Syntax (length rest) → ⊥) →
    Exact (one g.stmts) continues_statements b ts (refused e)
stmt_refused b ts xs n rest e led within h elsewhere =
    optional_refused starts_statement g.statement continues_statement after_line with_after (some_stmt, last) e same_depth led within (after_into rest) (after_turn rest) (statement_opens rest) h elsewhere after_clear

-- it is read
abbrev pub StmtRead : ℕ → List Token → List Stmt → tree.Stmt → ℕ → List Token → Type 0
StmtRead b ts xs v n rest = Led (one g.stmts) continues_statements (λ n. n) b ts after_line (λ u. stmts_onto xs (with_after (v, u))) n rest

pub stmt_read : (b : ℕ) (ts : List Token) (xs : List Stmt) (n : ℕ) (rest : List Token) (v : tree.Stmt) (m top : ℕ) (after : List Token) → StmtsAt b ts xs n rest → n ≤ b → Found (one g.statement) continues_statement b rest v m after → length after < length rest → top ≡ max n m →
    StmtRead b ts xs v top after
stmt_read b ts xs n rest v m top after led within found shorter high =
    subst (λ (k : ℕ). StmtRead b ts xs v k after) (sym high)
    (optional_found starts_statement g.statement after_line with_after (some_stmt, last) same_depth led within (after_into rest) (after_turn rest) (statement_opens rest) found shorter after_clear)

-- a semicolon behind it
again_by : {s' : List Sym} {ts' : List Token} (t : Token) (us : List Token) → t.kind ≡ kind.Semicolon → (c : ℕ) (u : AfterStatement) (s : List Sym) → Clear continues_statements s → Reach s' ts' (after_line c u ++ s) (t ∷ us) → size s' ts' ≤ 2 * length us →
    Stepped (one g.stmts) (λ l. more t l) c u s s' ts' us
again_by {s'} {ts'} t us e c last s clear r h = absurd (clear.stops t us s' ts' (ap continues_statements e) r (omega (arith, h)))
again_by t us e c (more x l) s clear r h = let z = behind_token r (omega (arith, h)) in record { by = l; is = ap (λ (x : Token). more x l) (first_is z.is); reach = at_rest z }

pub stmts_again : (b : ℕ) (ts : List Token) (xs ys : List Stmt) (x : Stmt) (n : ℕ) (rest : List Token) (t : Token) (us : List Token) → StmtRead b ts xs (view.stmt x) n rest → ys ≡ xs ++ x ∷ [] → n ≤ b → rest ≡ t ∷ us → t.kind ≡ kind.Semicolon → StmtsAt b ts ys n us
stmts_again b ts xs ys x n rest t us led more' within is e =
    subst (λ (l : List Stmt). StmtsAt b ts l n us) (sym more')
    (subst (λ (f : Stmts → Stmts). Led (one g.stmts) continues_statements (λ n. n) b ts (one g.stmts) f n us) (λ i. λ l. (sym (stmts_onto_last xs x l)) i)
    (led_step us (one g.stmts) (λ l. more t l) tree.no_stmts same_depth within (omega arith) (λ c w s. read e here) (λ c u s s' ts' clear r h. again_by t us e c u s clear r h)
    (subst (λ (l : List Token). StmtRead b ts xs (view.stmt x) n l) is led)))

pub stmts_deep : (b : ℕ) (ts : List Token) (xs : List Stmt) (v : tree.Stmt) (n : ℕ) (rest : List Token) (t : Token) (us : List Token) → StmtRead b ts xs v n rest → b < n → rest ≡ t ∷ us → t.kind ≡ kind.Semicolon → TooDeep (one g.stmts) continues_statements b ts (length us)
stmts_deep b ts xs v n rest t us led over is e =
    led_over same_depth is over
    (λ c. (more t tree.no_stmts, λ s. (g.stmts c tree.no_stmts ∷ s, subst (λ (l : List Token). Reach (g.stmts c tree.no_stmts ∷ s) us (tok kind.Semicolon t ∷ g.stmts c tree.no_stmts ∷ s) l) (sym is) (read e here)))) led

-- no semicolon: it is the last
last_by : {s' : List Sym} {ts' : List Token} (ts : List Token) → StartsWithout kind.Semicolon ts → (c : ℕ) (u : AfterStatement) (s : List Sym) → Reach s' ts' (after_line c u ++ s) ts → size s' ts' ≤ 2 * length ts → Stepped done (λ x. last) c u s s' ts' ts
unfolding done
last_by ts open' c last s r h = record { by = tt; is = refl; reach = r }
last_by ts open' c (more t l) s r h = let z = behind_token r h in absurd (without kind.Semicolon _ _ ts z.is z.kind open')

pub stmts_last_answer : (b : ℕ) (ts : List Token) (xs ys : List Stmt) (x : Stmt) (n : ℕ) (rest : List Token) → StmtRead b ts xs (view.stmt x) n rest → ys ≡ xs ++ x ∷ [] → StartsWithout kind.Semicolon rest → Found (one g.stmts) continues_statements b ts (view.stmts ys) n rest
unfolding done
stmts_last_answer b ts xs ys x n rest led more' open' =
    answer_is (sym (stmts_onto_last xs x tree.no_stmts) ∙ stmts_onto_none (xs ++ x ∷ []) ∙ ap view.stmts (sym more')) refl
    (led_done same_depth (led_here done (λ x. last) tt (λ c w s. here) (λ c u s s' ts' clear r h. last_by rest open' c u s r h) led))

-- no statement follows
end_by : {s' : List Sym} {ts' : List Token} (b : ℕ) (ts : List Token) → StartsWithout kind.Semicolon ts → Broken (one g.statement) continues_statement b ts (length ts) → (c : ℕ) (l : Stmts) (p : List Sym) → Rule (g.stmts c l) p → (s : List Sym) → Clear continues_statements s →
    Reach s' ts' (p ++ s) ts → size s' ts' ≤ 2 * length ts → Stepped done (λ x. tree.no_stmts) c l s s' ts' ts
unfolding done
end_by b ts open' broken c l p stmts_none s clear r h = record { by = tt; is = refl; reach = r }
end_by b ts open' broken c l p stmts_skip s clear r h = let z = behind_token r h in absurd (without kind.Semicolon _ _ ts z.is z.kind open')
end_by {s'} {ts'} b ts open' broken c l p (stmts_last {s = x}) s clear r h = absurd (broken.none c x s s' ts' (after_clear c last s clear) r h)
end_by {s'} {ts'} b ts open' broken c l p (stmts_more {t = t} {s = x} {ss = k}) s clear r h = absurd (broken.none c x (tok kind.Semicolon t ∷ g.stmts c k ∷ s) s' ts' (semicolon_clear t (g.stmts c k ∷ s)) r h)

pub stmts_end_answer : (b : ℕ) (ts : List Token) (xs : List Stmt) (n : ℕ) (rest : List Token) → StmtsAt b ts xs n rest → StartsWithout kind.Semicolon rest → Broken (one g.statement) continues_statement b rest (length rest) →
    Found (one g.stmts) continues_statements b ts (view.stmts xs) n rest
unfolding done
stmts_end_answer b ts xs n rest led open' broken =
    answer_is (stmts_onto_none xs) refl
    (led_done same_depth
    (led_here done (λ x. tree.no_stmts) tt (λ c w s. write _ stmts_none here) (λ c u s s' ts' clear r h. let z = behind_part tt r h in end_by b rest open' broken c u z.as_symbols z.rule s clear z.reach h) led))

-- statements in braces
brace_clear : (c : ℕ) (u : Token × Unit {0}) (s : List Sym) → Clear continues_statements (then_ (token kind.CloseBrace) done c u ++ s)
unfolding then_ token done
brace_clear c u s = record {
  stops = λ t us s' ts' on r h.
      let is : t.kind ≡ kind.CloseBrace = reach_opens r (omega (arith, h)) in
      let bad : true ≡ false = sym on ∙ ap continues_statements is in
      cc;
}

braces_led : (b : ℕ) (ts : List Token) → Led braces_line nothing_continues (λ n. n) b ts braces_line (λ v. v) 0 ts
braces_led b ts = led_itself braces_line nothing_continues b ts (tree.no_stmts, (sample.token, tt))

pub braces_refused : (b : ℕ) (ts : List Token) (e : Stop) → Exact (one g.stmts) continues_statements b ts (refused e) → Exact braces_line nothing_continues b ts (refused e)
braces_refused b ts e h = part_refused g.stmts continues_statements (then_ (token kind.CloseBrace) done) e same_depth (braces_led b ts) (omega arith) h (λ c u s clear. brace_clear c u s)

braces_read : (b : ℕ) (ts : List Token) (v : Stmts) (n : ℕ) (rest : List Token) → Found (one g.stmts) continues_statements b ts v n rest → Led braces_line nothing_continues (λ n. n) b ts (then_ (token kind.CloseBrace) done) (λ u. (v, u)) (max 0 n) rest
braces_read b ts v n rest found = led_part same_depth (braces_led b ts) (omega arith) found (λ c u s clear. brace_clear c u s)

pub braces_unclosed : (b : ℕ) (ts : List Token) (v : Stmts) (n : ℕ) (rest : List Token) (e : Stop) (within : Fit) → Found (one g.stmts) continues_statements b ts v n rest → (within ≡ fit.Over → b < n) → NotExpected kind.CloseBrace within rest e →
    Exact braces_line nothing_continues b ts (refused e)
braces_unclosed b ts v n rest e within found over h = token_refused kind.CloseBrace done e within same_depth (braces_read b ts v n rest found) (λ i. let k = over i in omega (arith, k)) h

pub braces_answer : (b : ℕ) (ts : List Token) (v : Stmts) (n : ℕ) (rest : List Token) (t : Token) (us : List Token) → Found (one g.stmts) continues_statements b ts v n rest → n ≤ b → rest ≡ t ∷ us → t.kind ≡ kind.CloseBrace → Found braces_line nothing_continues b ts (v, (t, tt)) n us
braces_answer b ts v n rest t us found within is e = answer_is refl (omega arith) (led_done same_depth (token_read same_depth (braces_read b ts v n rest found) (omega (arith, within)) is e))
