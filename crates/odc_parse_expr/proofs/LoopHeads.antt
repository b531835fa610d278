-- The exits of the functions on the clauses of loops.
use Rattle.std.proofs.Common.{◌≡◌, ℕ, suc, ◌*◌, ◌<◌, ◌≤◌, max, Bool, true, false, List, [], ◌∷◌, ◌++◌, length, refl, sym, ◌∙◌, ap, subst, arith}
use Rattle.std.proofs.Math.Nat.{lt_of_not-le}
use Rattle.odc_syntax.specs.declared.token.Token.{Token}
use Rattle.odc_syntax.specs.declared.token.TokenKind.TheVariants as kind
use Rattle.odc_syntax.specs.declared.grammar.Mode.TheVariants.{Header}
use Rattle.odc_syntax.specs.declared.grammar.Level.TheVariants.{Or}
use Rattle.odc_syntax.specs.Tree.{Expr, expr, Exprs, Header as HeaderTree, Stmt, stmt, first_of, Stmts, MaybeExpr, Decl}
use Rattle.odc_syntax.specs.Tree as tree
use Rattle.odc_syntax.specs.Grammar.{Sym, tok, Labelled, exprs_, exprs_more, simple_eval}
use Rattle.odc_syntax.specs.Grammar as g
use Rattle.odc_syntax.specs.Derives.{Reach, here, read, write, StartsWithout}
use Rattle.odc_lookahead.specs.declared.stop.Stop.{Stop}
use Rattle.odc_lookahead.specs.declared.stop.Stop.TheVariants as stop
use Rattle.odc_parse_expr.specs.Blocks.{BodyOver}
use Rattle.odc_lookahead.specs.stmts.Clauses.{Clause, declared, assigned, alone, clause_then}
use Rattle.odc_lookahead.specs.Exact.{size, Clear, Part, one, then_, token, Exact, Answer, Yes, Found, TooDeep}
use Rattle.odc_lookahead.specs.stmts.Headers as header
use Rattle.odc_lookahead.specs.stmts.Headers.{GoesOn, ClosedFrom}
use Rattle.odc_parse_expr.specs.LoopForms.{LoopStart, LoopClosed, from, signs, LoopCondition, closed, evaluated}
use Rattle.odc_lookahead.specs.stmts.LoopStarts as start
use Rattle.odc_lookahead.specs.stmts.LoopStarts.{Signed, plain, signed, MoreNames, Unranged, asks, cost, list_cost}
use Rattle.odc_lookahead.specs.stmts.Loops.{Steps, body_alone, steps_line}
use Rattle.odc_lookahead.specs.Read.{refused, NotExpected}
use Rattle.odc_lookahead.specs.stmts.RunBounds.{RunOver}
use Rattle.odc_lookahead.specs.stmts.Runs.{Declares}
use Rattle.odc_lookahead.specs.stmts.Runs as runs
use Rattle.odc_lookahead.specs.Sets.{continues}
use Rattle.odc_lookahead.specs.stmts.Statements.{labelled_part}
use Rattle.odc_lookahead.specs.stmts.StatementSets.{continues_simple, continues_declaration, continues_statement, continues_head, continues_clause, EndsClause}
use Rattle.odc_lookahead.proofs.reading.Opening.{StartsWith}
use Rattle.odc_lookahead.proofs.reading.Reaching.{along}
use Rattle.odc_lookahead.proofs.reading.Leading.{same_depth, Led}
use Rattle.odc_lookahead.proofs.reading.Answering.{led_rest, led_rest_refused, token_refused, token_read, answer_is, Stepped}
use Rattle.odc_lookahead.proofs.expr.SuffixAnswers.{token_clear}
use Rattle.odc_lookahead.proofs.stmts.RunLemmas.{reads_name, not_declared}
use Rattle.odc_lookahead.proofs.headers.HeadLemmas.{head_clear, listed_run}
use Rattle.odc_lookahead.proofs.headers.HeaderFacts.{single_at, listed_at, expression_at}
use Rattle.odc_lookahead.proofs.headers.HeadAnswers.{semicolon_found}
use Rattle.odc_lookahead.proofs.headers.ClauseLemmas.{clause_declaration_refused, clause_declared, clause_listed_refused, clause_listed, clause_alone}
use Rattle.odc_lookahead.proofs.headers.ClauseExpressions.{clause_single_refused, clause_assigned_refused, clause_assigned, clause_evaluated, clause_over}
use Rattle.odc_lookahead.proofs.headers.RunBounds.{clause_run_over, run_limit}
use Rattle.odc_lookahead.proofs.reading.Deciding.{limit, stop_limit, beyond, Leads, leads_less, leads_part, leads_part_refused, leads_led}
use Rattle.odc_lookahead.proofs.reading.Within.{leads_within}
use Rattle.odc_lookahead.proofs.loops.LoopLemmas.{for_at}
use Rattle.odc_lookahead.proofs.loops.LoopBodies.{body_heads}
use Rattle.odc_lookahead.proofs.headers.FrontLemmas.{value_of, front_found, front_reads}
use Rattle.odc_lookahead.proofs.loops.LoopClauses.{ClausesLed, clauses_led, clause_node, run_far, declares_far, single_limit}
use Rattle.odc_parse_expr.proofs.LoopExits.{body_is_over}
use Rattle.odc_lookahead.proofs.reading.Samples as sample
use Rattle.odc_lookahead.specs.declared.tokens.Fit.{Fit}
use Rattle.odc_lookahead.specs.declared.tokens.Fit.TheVariants as fit

-- where a loop begins
pub start_led : {t : Token} {ts place : List Token} (b : ℕ) → LoopStart t ts place → ClausesLed b (t ∷ ts) t.at ts place
start_led {t} {ts} {place} b s = clauses_led b (t ∷ ts) t.at ts place (for_at b (t ∷ ts) t ts refl s.is_for) s.no_brace s.no_do s.no_semicolon s.unranged

stops : (c : ℕ) (u : Steps) (s : List Sym) → Clear continues_statement s → Clear continues_head (body_alone c u ++ s)
stops c u s clear = body_heads c u.1.1.1 s

asks_some : {ts place : List Token} (z : Unranged ts place) → 0 < asks z
asks_some (start.other f k) = omega arith
asks_some (start.address rest z f) = omega arith
asks_some (start.one_name r rest z) = by r
  where
    by : (r : Bool) → 0 < cost r
    by true = omega arith
    by false = omega arith
asks_some (start.more r last z f) = by r
  where
    by : (r : Bool) → 0 < list_cost r
    by true = omega arith
    by false = omega arith
asks_some (start.pair r t rest z e f) = by r
  where
    by : (r : Bool) → 0 < list_cost r
    by true = omega arith
    by false = omega arith

stop_of : (e : Stop) (n : ℕ) → limit {V = Expr} (refused e) ≤ n → stop_limit e ≤ n
stop_of (stop.Syntax left) n h = h
stop_of (stop.Deep left) n h = h
stop_of stop.Memory n h = h

-- declarations
pub declared_refused : (b : ℕ) (t : Token) (ts place rest : List Token) (e : Stop) → (s : LoopStart t ts place) → asks s.unranged ≤ b → Declares ts rest → Exact (one (g.declaration Header)) (continues_declaration Header) b ts (refused e) → Exact (one labelled_part) continues_statement b (t ∷ ts) (refused e)
declared_refused b t ts place rest e s some d h =
    let k = asks_some s.unranged in
    let far = declares_far s.unranged d in
    clause_declaration_refused body_alone steps_line same_depth stops (start_led b s) rest e (omega (arith, far)) (omega (arith, k, some)) d h

listed_name : {ts rest : List Token} → header.Listed ts rest → StartsWith kind.Name ts
listed_name z = subst (λ (l : List Token). StartsWith kind.Name l) (sym z.is) z.name

listed_far : {ts place rest : List Token} → Unranged ts place → header.Listed ts rest → length rest ≤ length place
listed_far {ts} {place} {rest} z y = run_far z (listed_name y) (listed_run ts rest (listed_at ts rest y))

-- several names
pub listed_refused : (b : ℕ) (t : Token) (ts place rest : List Token) (e : Stop) → (s : LoopStart t ts place) → 1 < b → header.Listed ts rest → Exact (one (g.simple Header)) (continues_simple Header) b ts (refused e) → Exact (one labelled_part) continues_statement b (t ∷ ts) (refused e)
listed_refused b t ts place rest e s some z h =
    let far = listed_far s.unranged z in
    clause_listed_refused body_alone steps_line same_depth stops (start_led b s) rest e (omega (arith, far)) some (listed_at ts rest z) h

pub listed_over : (b : ℕ) (t : Token) (ts place rest : List Token) (e : Stop) → (s : LoopStart t ts place) → b ≡ 1 → header.Listed ts rest → RunOver ts e → Exact (one labelled_part) continues_statement b (t ∷ ts) (refused e)
listed_over b t ts place rest e s one' z o = clause_run_over body_alone steps_line same_depth stops (start_led b s) rest e (far e o) one' (listed_at ts rest z) o
  where
    far : (e : Stop) → RunOver ts e → stop_limit e ≤ 2 * length place
    far (stop.Syntax left) o = let k = run_limit (listed_run ts rest (listed_at ts rest z)) o.run o.alone o.over (λ e. cc) in let h = listed_far s.unranged z in omega (arith, h, k)
    far (stop.Deep left) o = let k = run_limit (listed_run ts rest (listed_at ts rest z)) o.run o.alone o.over (λ e. cc) in let h = listed_far s.unranged z in omega (arith, h, k)
    far stop.Memory o = omega arith

-- an expression first
pub single_refused : (b : ℕ) (t : Token) (ts place p : List Token) (e : Stop) → (s : LoopStart t ts place) → asks s.unranged ≤ b → asks s.unranged ≤ 2 → header.Single ts p → Exact (one (g.expression Header)) (continues Or Header) b ts (refused e) → Exact (one labelled_part) continues_statement b (t ∷ ts) (refused e)
single_refused b t ts place p e s some few z h =
    let k = asks_some s.unranged in
    let far = stop_of e (2 * length place) (single_limit b ts place p (refused e) s.unranged some few z h) in
    clause_single_refused body_alone steps_line same_depth stops (start_led b s) p e far (omega (arith, k, some)) (single_at ts p z) h

-- `&`, a name and a comma
signs_unnamed : {ts us : List Token} → Signed true ts us → StartsWithout kind.Name ts
signs_unnamed (signed t _ k) = λ e. cc

signs_short : {ts us : List Token} → Signed true ts us → length us ≤ length ts
signs_short (signed t _ k) = omega arith

abbrev behind_closed : Part (Token × Steps)
behind_closed = then_ (token kind.Semicolon) steps_line

abbrev assigned_node : Stmt × (Token × Steps) → Clause × Steps
assigned_node w = (assigned w.0 w.1.0, w.1.1)

signs_by : {s' : List Sym} {ts' ts last : List Token} (n : ℕ) → n ≤ length last → MoreNames true ts last → (c : ℕ) (k : Clause) (u : Steps) (s : List Sym) → Reach s' ts' (clause_then body_alone steps_line c (k, u) ++ s) ts → size s' ts' ≤ 2 * n → Stepped {U = Clause × Steps} (then_ (g.simple Header) behind_closed) assigned_node c (k, u) s s' ts' ts
unfolding then_ token
signs_by {ts = ts} n far z c (declared x t) u s r h = let short = signs_short z.signed in absurd (not_declared Header (runs.unnamed ts (signs_unnamed z.signed)) c x (tok kind.Semicolon t ∷ (steps_line c u ++ s)) r (omega (arith, h, far, short)))
signs_by n far z c (assigned x t) u s r h = record { by = (x, (t, u)); is = refl; reach = r }
signs_by {s'} {ts'} {ts} {last} n far z c (alone e) u s r h =
    let blocked = body_heads c u.1.1.1 s in
    let y = (front_found z.name (z.comma ∷ last) z.signed z.is_name (ap (continues Or Header) z.is_comma)).only c e (g.body c u.1.1.1 ∷ s) s' ts' (head_clear blocked) r (omega (arith, h, far)) in
    absurd (blocked.stops z.comma last s' ts' (ap continues_head z.is_comma) y.reach (omega (arith, h, far)))

-- the place where variables end lies behind the comma
record Behind (ts place : List Token) : Type 0 where
  last : List Token
  names : MoreNames true ts last
  far : length place ≤ length last
  value : Stmt
  pending : List Sym
  reach : Reach pending place (g.simple Header 3 value ∷ []) ts

behind_comma : {ts last : List Token} (z : MoreNames true ts last) (x : Expr) (q : List Sym) (place : List Token) → Reach q place (g.expression Header 2 x ∷ g.more_exprs Header 2 tree.no_exprs ∷ []) last → length place ≤ length last → Behind ts place
behind_comma {ts} {last} z x q place r far = record {
  last = last;
  names = z;
  far = far;
  value = stmt (first_of (value_of z.signed z.name)) (tree.eval (tree.more_exprs (value_of z.signed z.name) (tree.more_exprs x tree.no_exprs)));
  pending = q;
  reach = write _ simple_eval (write _ exprs_ (along (front_reads z.name (z.comma ∷ last) z.signed z.is_name 2 (omega arith) (g.more_exprs Header 2 (tree.more_exprs x tree.no_exprs) ∷ [])) (write _ (exprs_more {t = z.comma}) (read z.is_comma r))));
}

plain_signed : {ts us vs : List Token} → Signed false ts us → Signed true ts vs → ⊥
plain_signed (plain _ n) (signed t _ k) = n k

signs_other : {ts us : List Token} → Signed true ts us → StartsWithout kind.Ampersand ts → ⊥
signs_other (signed t _ k) f = f k

signs_address : {ts rest us : List Token} (v : Token) → Signed true ts (v ∷ us) → v.kind ≡ kind.Name → Signed true ts rest → StartsWithout kind.Name rest → ⊥
signs_address v (signed t _ k) e (signed _ _ l) f = f e

signs_one : {ts rest last : List Token} (v n c : Token) → Signed true ts (v ∷ c ∷ last) → c.kind ≡ kind.Comma → Signed true ts (n ∷ rest) → StartsWithout kind.Comma rest → ⊥
signs_one v n c (signed t _ k) e (signed _ _ l) f = f e

behind_at : {ts place last : List Token} → MoreNames true ts last → Unranged ts place → Behind ts place
behind_at z (start.other f k) = absurd (signs_other z.signed k)
behind_at z (start.address rest y f) = absurd (signs_address z.name z.signed z.is_name y f)
behind_at z (start.one_name true rest y) = absurd (signs_one z.name y.name z.comma z.signed z.is_comma y.signed y.no_comma)
behind_at z (start.one_name false rest y) = absurd (plain_signed y.signed z.signed)
behind_at z (start.more true last y f) = behind_comma y sample.expr (g.expression Header 2 sample.expr ∷ g.more_exprs Header 2 tree.no_exprs ∷ []) last here (omega arith)
behind_at z (start.more false last y f) = absurd (plain_signed y.signed z.signed)
behind_at z (start.pair true t rest y e f) = behind_comma y (expr t.at t.at (tree.name t)) (g.more_exprs Header 2 tree.no_exprs ∷ []) rest (reads_name Header t rest e 1 (g.more_exprs Header 2 tree.no_exprs ∷ [])) (omega arith)
behind_at z (start.pair false t rest y e f) = absurd (plain_signed y.signed z.signed)

signs_limit : (b : ℕ) (ts place : List Token) (a : Answer Stmt) → 2 < b → Behind ts place → Exact (one (g.simple Header)) (continues_simple Header) b ts a → limit a ≤ 2 * length place
signs_limit b ts place a some z h = beyond (one (g.simple Header)) (continues_simple Header) b ts a 3 z.value z.pending place (omega (arith, some)) z.reach h

simple_stop : (e : Stop) (n : ℕ) → limit {V = Stmt} (refused e) ≤ n → stop_limit e ≤ n
simple_stop (stop.Syntax left) n h = h
simple_stop (stop.Deep left) n h = h
simple_stop stop.Memory n h = h

signs_led : {t : Token} {ts place : List Token} (b : ℕ) → LoopStart t ts place → Behind ts place → Leads (one labelled_part) continues_statement (λ n. n) b (t ∷ ts) (then_ (g.simple Header) behind_closed) (λ w. clause_node t.at (assigned_node w)) 0 ts (2 * length place)
unfolding then_ token
signs_led {t} {ts} {place} b s z =
    leads_within (2 * length place) (then_ (g.simple Header) behind_closed) assigned_node (stmt sample.place tree.fallthrough, (sample.token, (tree.no_expr, (sample.token, (tree.no_stmt, tree.no_stmts))))) (omega arith) (λ c w s. here)
    (λ c u s s' ts' clear r h. signs_by (length place) z.far z.names c u.0 u.1 s r h) (start_led b s)

signs_clear : (c : ℕ) (u : Token × Steps) (s : List Sym) → Clear continues_statement s → Clear (continues_simple Header) (behind_closed c u ++ s)
signs_clear c u s clear = token_clear (continues_simple Header) kind.Semicolon refl steps_line c u s

pub signs_refused : (b : ℕ) (t : Token) (ts place last : List Token) (e : Stop) → LoopStart t ts place → MoreNames true ts last → 2 < b → Exact (one (g.simple Header)) (continues_simple Header) b ts (refused e) → Exact (one labelled_part) continues_statement b (t ∷ ts) (refused e)
signs_refused b t ts place last e s z some h =
    let y = behind_at z s.unranged in
    leads_part_refused (g.simple Header) (continues_simple Header) behind_closed e same_depth (omega arith) (simple_stop e (2 * length place) (signs_limit b ts place (refused e) some y h)) (signs_led b s y) h signs_clear

-- the `;` must follow
abbrev pub ClosedLed : ℕ → Token → List Token → HeaderTree → ℕ → List Token → Type 0
ClosedLed b t ts h n rest = Led (one labelled_part) continues_statement (λ n. n) b (t ∷ ts) behind_closed (λ w. (t.at, g.loop h w.1.0 w.1.1.1.0 w.1.1.1.1)) n rest

closed_led : (b : ℕ) (t : Token) (ts place : List Token) (s : LoopStart t ts place) (h : HeaderTree) (n : ℕ) (rest : List Token) → LoopClosed b ts place s.unranged h n rest → ClosedLed b t ts h n rest
closed_led b t ts place s _ _ _ (from h n rest many few (header.declared p d _ _ some run found)) =
    let far = declares_far s.unranged run in
    clause_declared body_alone steps_line same_depth stops (start_led b s) p d n rest (omega (arith, far)) some run found
closed_led b t ts place s _ _ _ (from h n rest many few (header.listed p x _ _ some run found)) =
    let far = listed_far s.unranged run in
    clause_listed body_alone steps_line same_depth stops (start_led b s) p x n rest (omega (arith, far)) some (listed_at ts p run) found
closed_led b t ts place s _ _ _ (from h n rest many few (header.begun d p v k before x us y _ _ deeper z within is on found)) =
    let far = single_limit b ts place p (Yes v k before) s.unranged many few z.single z.found in
    let longer = ap length is in
    clause_assigned body_alone steps_line same_depth stops (start_led b s) d p v k before x us y n rest (omega (arith, far, longer)) deeper (expression_at b ts p v k before z) within is on found
closed_led b t ts place s _ _ _ (signs last x n rest some z found) =
    let y = behind_at z s.unranged in
    let far = signs_limit b ts place (Yes x n rest) some y found in
    subst (λ (k : ℕ). ClosedLed b t ts (tree.simple_header x) k rest) zero_max
    (leads_led (omega arith) (leads_part same_depth (omega arith) (omega arith) (leads_less {less = 2 * length rest} far (signs_led b s y)) found signs_clear))
  where
    zero_max : max 0 n ≡ n
    zero_max = omega arith

pub loop_unclosed : (b : ℕ) (t : Token) (ts place : List Token) (s : LoopStart t ts place) (h : HeaderTree) (n : ℕ) (rest : List Token) (e : Stop) (within : Fit) → LoopClosed b ts place s.unranged h n rest → (within ≡ fit.Over → b < n) → NotExpected kind.Semicolon within rest e →
    Exact (one labelled_part) continues_statement b (t ∷ ts) (refused e)
loop_unclosed b t ts place s h n rest e within z over k = token_refused kind.Semicolon steps_line e within same_depth (closed_led b t ts place s h n rest z) over k

-- behind it
abbrev pub SteppedLed : ℕ → Token → List Token → HeaderTree → ℕ → List Token → Type 0
SteppedLed b t ts h n us = Led (one labelled_part) continues_statement (λ n. n) b (t ∷ ts) steps_line (λ u. (t.at, g.loop h u.0 u.1.1.0 u.1.1.1)) n us

stepped_led : (b : ℕ) (t : Token) (ts place : List Token) (s : LoopStart t ts place) (h : HeaderTree) (n : ℕ) (us : List Token) → LoopCondition b ts place s.unranged h n us → SteppedLed b t ts h n us
stepped_led b t ts place s _ _ _ (closed h n rest x us z within is e) = token_read same_depth (closed_led b t ts place s h n rest z) within is e
stepped_led b t ts place s _ _ _ (evaluated d p v k rest x us many few deeper z within is e) =
    let far = single_limit b ts place p (Yes v k rest) s.unranged many few z.single z.found in
    let longer = ap length is in
    clause_evaluated body_alone steps_line same_depth stops (start_led b s) d p v k rest x us (stmt (first_of v) (tree.eval (tree.more_exprs v tree.no_exprs))) (omega (arith, far, longer)) deeper (expression_at b ts p v k rest z) within is e (semicolon_found b d ts v k rest x us deeper z.found within is e)

stepped_within : (b : ℕ) (ts place : List Token) (z : Unranged ts place) (h : HeaderTree) (n : ℕ) (us : List Token) → LoopCondition b ts place z h n us → n ≤ b
stepped_within b ts place z _ _ _ (closed h n rest x us y within is e) = within
stepped_within b ts place z _ _ _ (evaluated d p v k rest x us many few deeper y within is e) = omega (arith, within, deeper)

pub stepped_answer : (b : ℕ) (t : Token) (ts place : List Token) (s : LoopStart t ts place) (h : HeaderTree) (n : ℕ) (us : List Token) (u : Steps) (m top : ℕ) (after : List Token) → LoopCondition b ts place s.unranged h n us → Found steps_line continues_statement b us u m after → top ≡ max n m →
    Found (one labelled_part) continues_statement b (t ∷ ts) (t.at, g.loop h u.0 u.1.1.0 u.1.1.1) top after
stepped_answer b t ts place s h n us u m top after z found high = answer_is refl (sym high) (led_rest same_depth (stepped_led b t ts place s h n us z) (stepped_within b ts place s.unranged h n us z) found)

pub stepped_refused : (b : ℕ) (t : Token) (ts place : List Token) (s : LoopStart t ts place) (h : HeaderTree) (n : ℕ) (us : List Token) (e : Stop) → LoopCondition b ts place s.unranged h n us → Exact steps_line continues_statement b us (refused e) → Exact (one labelled_part) continues_statement b (t ∷ ts) (refused e)
stepped_refused b t ts place s h n us e z k = led_rest_refused e same_depth (stepped_led b t ts place s h n us z) (stepped_within b ts place s.unranged h n us z) k

-- behind the first expression
pub expression_over : (b : ℕ) (t : Token) (ts place p : List Token) (s : LoopStart t ts place) (v : Expr) (n : ℕ) (rest : List Token) (x : Token) (us : List Token) → asks s.unranged ≤ b → asks s.unranged ≤ 2 → header.HeadExpression b ts p v n rest → rest ≡ x ∷ us → continues_clause x.kind ≡ true → b ≤ n →
    TooDeep (one labelled_part) continues_statement b (t ∷ ts) (length us)
expression_over b t ts place p s v n rest x us many few z is on over =
    let far = single_limit b ts place p (Yes v n rest) s.unranged many few z.single z.found in
    let longer = ap length is in
    clause_over body_alone steps_line same_depth stops (start_led b s) p v n rest x us (omega (arith, far, longer)) (expression_at b ts p v n rest z) is on over

pub assigned_refused : (b d : ℕ) (t : Token) (ts place p : List Token) (s : LoopStart t ts place) (v : Expr) (n : ℕ) (rest : List Token) (x : Token) (us : List Token) (e : Stop) → asks s.unranged ≤ b → asks s.unranged ≤ 2 → b ≡ suc d → header.HeadExpression b ts p v n rest → n ≤ d → rest ≡ x ∷ us → GoesOn x.kind →
    Exact (one (g.simple Header)) (continues_simple Header) b ts (refused e) → Exact (one labelled_part) continues_statement b (t ∷ ts) (refused e)
assigned_refused b d t ts place p s v n rest x us e many few deeper z within is on h =
    let far = single_limit b ts place p (Yes v n rest) s.unranged many few z.single z.found in
    let longer = ap length is in
    clause_assigned_refused body_alone steps_line same_depth stops (start_led b s) d p v n rest x us e (omega (arith, far, longer)) deeper (expression_at b ts p v n rest z) within is on h

-- it is a condition alone
abbrev pub WhileLed : ℕ → Token → List Token → Expr → ℕ → List Token → Type 0
WhileLed b t ts v n rest = Led (one labelled_part) continues_statement (λ n. n) b (t ∷ ts) (one g.body) (λ ss. (t.at, g.loop tree.no_header (tree.some_expr v) tree.no_stmt ss)) n rest

body_steps : Stmts → Steps
body_steps ss = (tree.no_expr, (sample.token, (tree.no_stmt, ss)))

while_by : (b : ℕ) (t : Token) (ts : List Token) (v : Expr) (n : ℕ) (rest : List Token) → Led (one labelled_part) continues_statement (λ n. n) b (t ∷ ts) body_alone (λ u. clause_node t.at (alone v, u)) n rest → WhileLed b t ts v n rest
unfolding body_steps
while_by b t ts v n rest l = record {
  short = l.short;
  sample = tree.no_stmts;
  comes = l.comes;
  reads = λ c ss h s. l.reads c (body_steps ss) h s;
  only = λ c w s s' ts' clear r h. let q = l.only c w s s' ts' clear r h in record { at = q.at; value = q.value.1.1.1; bound = q.bound; whole = q.whole; deep = q.deep; reach = q.reach };
}

while_led : (b : ℕ) (t : Token) (ts place p : List Token) (s : LoopStart t ts place) (v : Expr) (n : ℕ) (rest : List Token) → asks s.unranged ≤ b → asks s.unranged ≤ 2 → header.HeadExpression b ts p v n rest → EndsClause rest → WhileLed b t ts v n rest
while_led b t ts place p s v n rest many few z ends =
    let far = single_limit b ts place p (Yes v n rest) s.unranged many few z.single z.found in
    while_by b t ts v n rest (clause_alone body_alone steps_line same_depth stops (start_led b s) p v n rest (omega (arith, far)) (expression_at b ts p v n rest z) ends)

pub while_over : (b : ℕ) (t : Token) (ts place p : List Token) (s : LoopStart t ts place) (v : Expr) (n : ℕ) (rest : List Token) (e : Stop) → asks s.unranged ≤ b → asks s.unranged ≤ 2 → header.HeadExpression b ts p v n rest → EndsClause rest → b < n → BodyOver rest e → Exact (one labelled_part) continues_statement b (t ∷ ts) (refused e)
while_over b t ts place p s v n rest e many few z ends over o = body_is_over (λ ss. (t.at, g.loop tree.no_header (tree.some_expr v) tree.no_stmt ss)) n rest e (while_led b t ts place p s v n rest many few z ends) over o

pub while_answer : (b : ℕ) (t : Token) (ts place p : List Token) (s : LoopStart t ts place) (v : Expr) (n : ℕ) (rest : List Token) (ss : Stmts) (m top : ℕ) (after : List Token) → asks s.unranged ≤ b → asks s.unranged ≤ 2 → header.HeadExpression b ts p v n rest → EndsClause rest → n ≤ b → Found (one g.body) continues_statement b rest ss m after → top ≡ max n m →
    Found (one labelled_part) continues_statement b (t ∷ ts) (t.at, g.loop tree.no_header (tree.some_expr v) tree.no_stmt ss) top after
while_answer b t ts place p s v n rest ss m top after many few z ends within found high = answer_is refl (sym high) (led_rest same_depth (while_led b t ts place p s v n rest many few z ends) within found)

pub while_refused : (b : ℕ) (t : Token) (ts place p : List Token) (s : LoopStart t ts place) (v : Expr) (n : ℕ) (rest : List Token) (e : Stop) → asks s.unranged ≤ b → asks s.unranged ≤ 2 → header.HeadExpression b ts p v n rest → EndsClause rest → n ≤ b → Exact (one g.body) continues_statement b rest (refused e) → Exact (one labelled_part) continues_statement b (t ∷ ts) (refused e)
while_refused b t ts place p s v n rest e many few z ends within h = led_rest_refused e same_depth (while_led b t ts place p s v n rest many few z ends) within h

-- a level is left
pub some_left : (b : ℕ) {ts place : List Token} (z : Unranged ts place) → asks z ≤ b → 0 < b
some_left b z many = let k = asks_some z in omega (arith, k, many)

-- at the bound that is meant
pub simple_deeper : (b d : ℕ) (ts : List Token) (a : Answer Stmt) → b ≡ suc d → Exact (one (g.simple Header)) (continues_simple Header) (suc d) ts a → Exact (one (g.simple Header)) (continues_simple Header) b ts a
simple_deeper b d ts a e h = subst (λ (k : ℕ). Exact (one (g.simple Header)) (continues_simple Header) k ts a) (sym e) h

-- what is not within a bound is beyond it
pub not_within : (n b : ℕ) (f : Fit) → (n ≤ b → f ≡ fit.Within) → f ≡ fit.Over → b < n
not_within n b f within off = lt_of_not-le (λ h. let bad : fit.Within ≡ fit.Over = sym (within h) ∙ off in cc)

-- the same header and height, as they are built
pub evaluated_is : (b : ℕ) (ts place : List Token) (z : Unranged ts place) (h k : HeaderTree) (n m : ℕ) (us : List Token) → h ≡ k → suc n ≡ m → LoopCondition b ts place z h (suc n) us → LoopCondition b ts place z k m us
evaluated_is b ts place z h k n m us e f y = subst (λ (x : HeaderTree). LoopCondition b ts place z x m us) e (subst (λ (i : ℕ). LoopCondition b ts place z h i us) f y)
