-- Statements by their first token.
use Rattle.std.proofs.Common.{◌≡◌, ℕ, suc, ◌*◌, ◌<◌, ◌≤◌, true, List, ◌∷◌, ◌++◌, length, refl, sym, ◌∙◌, ap, subst, arith, None}
use Rattle.odc_text.specs.declared.place.Place.{Place}
use Rattle.odc_syntax.specs.declared.token.Token.{Token}
use Rattle.odc_syntax.specs.declared.grammar.Mode.TheVariants.{Start}
use Rattle.odc_syntax.specs.Tree.{Exprs, Stmt, stmt, Decl, decl}
use Rattle.odc_syntax.specs.Tree as tree
use Rattle.odc_syntax.specs.Grammar.{Sym, tok, Rule, Labelled, labelled}
use Rattle.odc_syntax.specs.Grammar as g
use Rattle.odc_syntax.specs.Derives.{Reach, here, read, write}
use Rattle.odc_lookahead.specs.declared.stop.Stop.{Stop}
use Rattle.odc_lookahead.specs.declared.statement_form.StatementForm.{StatementForm}
use Rattle.odc_lookahead.specs.declared.statement_form.StatementForm.TheVariants as form
use Rattle.odc_lookahead.specs.Exact.{size, Clear, Part, one, done, Exact, Answer, Found}
use Rattle.odc_lookahead.specs.Read.{refused}
use Rattle.odc_lookahead.specs.stmts.StatementSets.{continues_simple, continues_statement}
use Rattle.odc_lookahead.specs.stmts.Statements.{labelled_part}
use Rattle.odc_lookahead.specs.stmts.StatementForms.{statement_form}
use Rattle.odc_lookahead.proofs.reading.Reaching.{behind_part, behind_token}
use Rattle.odc_lookahead.proofs.reading.Leading.{one_deeper, Pending, Led, led_done, first_is, at_rest}
use Rattle.odc_lookahead.proofs.reading.Answering.{led_at, led_start, led_same, led_rest, led_rest_refused, answer_is, wider_exact}
use Rattle.odc_lookahead.proofs.stmts.SimpleLemmas.{costs_simple}
use Rattle.odc_lookahead.proofs.stmts.StatementForms.{forms, statement_first, simple_clear, defer_kind, fallthrough_kind}
use Rattle.odc_lookahead.proofs.reading.Samples as sample

-- what forms the first token leaves
abbrev pub form_of : {s' : List Sym} {ts' : List Token} {c : ℕ} {w : Stmt} {p : List Sym} (t : Token) (us : List Token) (f : StatementForm) → statement_form t ≡ f → (rule : Rule (g.statement c w) p) → (s : List Sym) → Clear continues_statement s → Reach s' ts' (p ++ s) (t ∷ us) →
    size s' ts' ≤ 2 * length (t ∷ us) → forms rule f ≡ true
form_of t us f e rule s clear r h = sym (ap (forms rule) e) ∙ statement_first t us rule s clear r h

-- every statement costs a level
if_costs : (c : ℕ) (w : Stmt) (p : List Sym) → Rule (g.if_statement c w) p → 0 < c
if_costs c w p g.if_ = omega arith

pub costs_if : (c : ℕ) (w : Stmt) (s s' : List Sym) (ts ts' : List Token) → Reach s' ts' (g.if_statement c w ∷ s) ts → size s' ts' ≤ 2 * length ts → 0 < c
costs_if c w s s' ts ts' r h = let z = behind_part tt r h in if_costs c w z.as_symbols z.rule

statement_cost : (c : ℕ) (w : Stmt) (p : List Sym) → Rule (g.statement c w) p → (s s' : List Sym) (ts ts' : List Token) → Reach s' ts' (p ++ s) ts → size s' ts' ≤ 2 * length ts → 0 < c
statement_cost c w p g.statement_declare s s' ts ts' r h = omega arith
statement_cost c w p g.statement_simple s s' ts ts' r h = let k = costs_simple Start c w s s' ts ts' r h in omega (arith, k)
statement_cost c w p g.statement_if s s' ts ts' r h = costs_if c w s s' ts ts' r h
statement_cost c w p g.statement_bare s s' ts ts' r h = omega arith
statement_cost c w p g.statement_labelled s s' ts ts' r h = omega arith
statement_cost c w p g.statement_defer s s' ts ts' r h = omega arith
statement_cost c w p g.statement_return s s' ts ts' r h = omega arith
statement_cost c w p g.statement_return_values s s' ts ts' r h = omega arith
statement_cost c w p g.statement_break s s' ts ts' r h = omega arith
statement_cost c w p g.statement_continue s s' ts ts' r h = omega arith
statement_cost c w p g.statement_fallthrough s s' ts ts' r h = omega arith

pub costs_statement : (c : ℕ) (w : Stmt) (s s' : List Sym) (ts ts' : List Token) → Reach s' ts' (g.statement c w ∷ s) ts → size s' ts' ≤ 2 * length ts → 0 < c
costs_statement c w s s' ts ts' r h = let z = behind_part tt r h in statement_cost c w z.as_symbols z.rule s s' ts ts' z.reach h

pub some_stmt : Stmt
some_stmt = stmt sample.place tree.fallthrough

-- an `if`
if_by : {s' : List Sym} {ts' : List Token} (ts : List Token) (c : ℕ) (w : Stmt) (p : List Sym) → (rule : Rule (g.statement c w) p) → forms rule form.If ≡ true → (s : List Sym) → Reach s' ts' (p ++ s) ts → Pending (λ n. n) (one g.if_statement) (λ v. v) 0 ts c w s s' ts'
if_by ts c w p g.statement_if f s r = record { at = c; value = w; bound = refl; whole = refl; deep = omega arith; reach = r }
if_by ts c w p _ f s r = cc

pub if_same : (b : ℕ) (ts : List Token) (t : Token) (us : List Token) (r : Answer Stmt) → ts ≡ t ∷ us → statement_form t ≡ form.If → Exact (one g.if_statement) continues_statement b ts r → Exact (one g.statement) continues_statement b ts r
if_same b ts t us r is e h =
    led_same (subst (λ (l : List Token). Led (one g.statement) continues_statement (λ n. n) b l (one g.if_statement) (λ v. v) 0 l) (sym is)
    (led_start b (one g.if_statement) (λ v. v) some_stmt (λ c v. tt) (λ c u. g.statement_if) (λ c w p rule s s' ts' r h clear. if_by (t ∷ us) c w p rule (form_of t us form.If e rule s clear r h) s r))) r h

-- an assignment or expressions that do not begin with a name
simple_by : {s' : List Sym} {ts' : List Token} (ts : List Token) (c : ℕ) (w : Stmt) (p : List Sym) → (rule : Rule (g.statement c w) p) → forms rule form.Simple ≡ true → (s : List Sym) → Reach s' ts' (p ++ s) ts → Pending (λ n. n) (one (g.simple Start)) (λ v. v) 0 ts c w s s' ts'
simple_by ts c w p g.statement_simple f s r = record { at = c; value = w; bound = refl; whole = refl; deep = omega arith; reach = r }
simple_by ts c w p _ f s r = cc

pub simple_same : (b : ℕ) (ts : List Token) (t : Token) (us : List Token) (r : Answer Stmt) → ts ≡ t ∷ us → statement_form t ≡ form.Simple → Exact (one (g.simple Start)) (continues_simple Start) b ts r → Exact (one g.statement) continues_statement b ts r
simple_same b ts t us r is e h =
    led_same (subst (λ (l : List Token). Led (one g.statement) continues_statement (λ n. n) b l (one (g.simple Start)) (λ v. v) 0 l) (sym is)
    (led_start b (one (g.simple Start)) (λ v. v) some_stmt (λ c v. tt) (λ c u. g.statement_simple) (λ c w p rule s s' ts' r h clear. simple_by (t ∷ us) c w p rule (form_of t us form.Simple e rule s clear r h) s r))) r
    (wider_exact (one (g.simple Start)) b ts r (λ s clear. simple_clear clear) h)

-- a block, a loop or a switch without a label
abbrev pub bare_node : Place × Labelled → Stmt
bare_node u = stmt u.0 (labelled None u.1)

bare_by : {s' : List Sym} {ts' : List Token} (ts : List Token) (c : ℕ) (w : Stmt) (p : List Sym) → (rule : Rule (g.statement c w) p) → forms rule form.Labelled ≡ true → (s : List Sym) → Reach s' ts' (p ++ s) ts → Pending (λ n. suc n) (one labelled_part) bare_node 0 ts c w s s' ts'
bare_by ts c w p (g.statement_bare {b = b} {at = at} {s = l}) f s r = record { at = b; value = (at, l); bound = refl; whole = refl; deep = omega arith; reach = r }
bare_by ts c w p _ f s r = cc

bare_led : (b : ℕ) (t : Token) (us : List Token) → statement_form t ≡ form.Labelled → Led (one g.statement) continues_statement (λ n. suc n) b (t ∷ us) (one labelled_part) bare_node 0 (t ∷ us)
bare_led b t us e =
    led_start b (one labelled_part) bare_node (sample.place, g.block tree.no_stmts) (λ c v. tt) (λ c u. g.statement_bare) (λ c w p rule s s' ts' r h clear. bare_by (t ∷ us) c w p rule (form_of t us form.Labelled e rule s clear r h) s r)

pub bare_answer : (b : ℕ) (t : Token) (us : List Token) (v : Place × Labelled) (n top : ℕ) (rest : List Token) → statement_form t ≡ form.Labelled → Found (one labelled_part) continues_statement b (t ∷ us) v n rest → top ≡ suc n →
    Found (one g.statement) continues_statement (suc b) (t ∷ us) (bare_node v) top rest
bare_answer b t us v n top rest e found high = answer_is refl (omega (arith, high)) (led_rest one_deeper (bare_led b t us e) (omega arith) found)

pub bare_refused : (b : ℕ) (t : Token) (us : List Token) (stop : Stop) → statement_form t ≡ form.Labelled → Exact (one labelled_part) continues_statement b (t ∷ us) (refused stop) → Exact (one g.statement) continues_statement (suc b) (t ∷ us) (refused stop)
bare_refused b t us stop e h = led_rest_refused stop one_deeper (bare_led b t us e) (omega arith) h

-- `defer`
abbrev pub WholeStatement : {U : Type 0} → ℕ → List Token → Part U → (U → Stmt) → ℕ → List Token → Type 0
WholeStatement b ts line f n rest = Led (one g.statement) continues_statement (λ n. suc n) b ts line f n rest

defer_by : {s' : List Sym} {ts' : List Token} (t : Token) (us : List Token) (c : ℕ) (w : Stmt) (p : List Sym) → (rule : Rule (g.statement c w) p) → forms rule form.Defer ≡ true → (s : List Sym) → Reach s' ts' (p ++ s) (t ∷ us) → size s' ts' ≤ 2 * length us →
    Pending (λ n. suc n) (one g.statement) (λ v. stmt t.at (tree.defer v)) 0 us c w s s' ts'
defer_by t us c w p (g.statement_defer {b = b} {s = x}) f s r h =
    let z = behind_token r (omega (arith, h)) in
    record { at = b; value = x; bound = refl; whole = ap (λ (t : Token). stmt t.at (tree.defer x)) (first_is z.is); deep = omega arith; reach = at_rest z }
defer_by t us c w p _ f s r h = cc

defer_led : (b : ℕ) (t : Token) (us : List Token) → statement_form t ≡ form.Defer → WholeStatement b (t ∷ us) (one g.statement) (λ v. stmt t.at (tree.defer v)) 0 us
defer_led b t us e =
    led_at b us (one g.statement) (λ v. stmt t.at (tree.defer v)) some_stmt (omega arith) one_deeper (λ c v. tt) (λ c u s. write _ g.statement_defer (read (defer_kind t.kind t.word e) here))
    (λ c w p rule s s' ts' r h clear. defer_by t us c w p rule (form_of t us form.Defer e rule s clear r (omega (arith, h))) s r h)

pub defer_answer : (b : ℕ) (t : Token) (us : List Token) (v : Stmt) (n top : ℕ) (rest : List Token) → statement_form t ≡ form.Defer → Found (one g.statement) continues_statement b us v n rest → top ≡ suc n →
    Found (one g.statement) continues_statement (suc b) (t ∷ us) (stmt t.at (tree.defer v)) top rest
defer_answer b t us v n top rest e found high = answer_is refl (omega (arith, high)) (led_rest one_deeper (defer_led b t us e) (omega arith) found)

pub defer_refused : (b : ℕ) (t : Token) (us : List Token) (stop : Stop) → statement_form t ≡ form.Defer → Exact (one g.statement) continues_statement b us (refused stop) → Exact (one g.statement) continues_statement (suc b) (t ∷ us) (refused stop)
defer_refused b t us stop e h = led_rest_refused stop one_deeper (defer_led b t us e) (omega arith) h

-- `fallthrough`
fallthrough_by : {s' : List Sym} {ts' : List Token} (t : Token) (us : List Token) (c : ℕ) (w : Stmt) (p : List Sym) → (rule : Rule (g.statement c w) p) → forms rule form.Fallthrough ≡ true → (s : List Sym) → Reach s' ts' (p ++ s) (t ∷ us) → size s' ts' ≤ 2 * length us →
    Pending (λ n. suc n) done (λ v. stmt t.at tree.fallthrough) 0 us c w s s' ts'
unfolding done
fallthrough_by t us c w p (g.statement_fallthrough {b = b}) f s r h =
    let z = behind_token r (omega (arith, h)) in
    record { at = b; value = tt; bound = refl; whole = ap (λ (t : Token). stmt t.at tree.fallthrough) (first_is z.is); deep = omega arith; reach = at_rest z }
fallthrough_by t us c w p _ f s r h = cc

fallthrough_led : (b : ℕ) (t : Token) (us : List Token) → statement_form t ≡ form.Fallthrough → WholeStatement b (t ∷ us) done (λ v. stmt t.at tree.fallthrough) 0 us
unfolding done
fallthrough_led b t us e =
    led_at b us done (λ v. stmt t.at tree.fallthrough) tt (omega arith) one_deeper (λ c v. tt) (λ c u s. write _ g.statement_fallthrough (read (fallthrough_kind t.kind t.word e) here))
    (λ c w p rule s s' ts' r h clear. fallthrough_by t us c w p rule (form_of t us form.Fallthrough e rule s clear r (omega (arith, h))) s r h)

pub fallthrough_answer : (b : ℕ) (t : Token) (us : List Token) → statement_form t ≡ form.Fallthrough → Found (one g.statement) continues_statement (suc b) (t ∷ us) (stmt t.at tree.fallthrough) 1 us
fallthrough_answer b t us e = led_done one_deeper (fallthrough_led b t us e)
