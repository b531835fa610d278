-- What stands between `switch` and its cases, where it begins with an expression, a declaration or a simple
-- statement; and a name where no level is left.
use Rattle.std.proofs.Common.{◌≡◌, ℕ, suc, ◌*◌, ◌<◌, ◌≤◌, max, Bool, true, false, List, [], ◌∷◌, ◌++◌, length, refl, sym, ◌∙◌, ap, subst, arith}
use Rattle.odc_syntax.specs.declared.token.Token.{Token}
use Rattle.odc_syntax.specs.declared.token.TokenKind.{TokenKind}
use Rattle.odc_syntax.specs.declared.token.TokenKind.TheVariants as kind
use Rattle.odc_syntax.specs.declared.grammar.Mode.TheVariants as mode
use Rattle.odc_syntax.specs.declared.grammar.Level.TheVariants.{Or}
use Rattle.odc_syntax.specs.Tree.{Header, Expr, expr, MaybeExpr, stmt, first_of}
use Rattle.odc_syntax.specs.Tree as tree
use Rattle.odc_syntax.specs.Grammar.{Sym, tok, Rule, no_expr, an_expr}
use Rattle.odc_syntax.specs.Grammar as g
use Rattle.odc_syntax.specs.Derives.{Reach, here, read, write, StartsWithout}
use Rattle.odc_lookahead.specs.declared.stop.Stop.{Stop}
use Rattle.odc_lookahead.specs.declared.stop.Stop.TheVariants as stop
use Rattle.odc_lookahead.specs.Exact.{size, Clear, Part, one, Comes, then_, done, token, Exact, Yes, Found, Broken, TooDeep}
use Rattle.odc_lookahead.specs.Read.{refused, NotExpected}
use Rattle.odc_lookahead.specs.stmts.Headers as header
use Rattle.odc_lookahead.specs.stmts.Runs.{Declares, named, listed}
use Rattle.odc_lookahead.specs.Sets.{starts_expression, continues}
use Rattle.odc_lookahead.specs.stmts.StatementSets.{continues_simple, continues_declaration, continues_head, continues_clause, EndsClause}
use Rattle.odc_lookahead.specs.stmts.SwitchParts.{SwitchHead, by_value, by_type, switch_head, value_read, value_line, NotTyped}
use Rattle.odc_lookahead.specs.stmts.SwitchSets.{before_cases, EndsHead}
use Rattle.odc_lookahead.proofs.reading.Opening.{reach_opens}
use Rattle.odc_lookahead.proofs.reading.Reaching.{behind_part}
use Rattle.odc_lookahead.proofs.reading.Leading.{same_depth, Led, led_done}
use Rattle.odc_lookahead.proofs.reading.Answering.{token_refused, token_read, answer_is, Stepped}
use Rattle.odc_lookahead.proofs.expr.WholeLemmas.{Ends, name_whole}
use Rattle.odc_lookahead.proofs.stmts.RunLemmas.{run_short, declares_short}
use Rattle.odc_lookahead.proofs.headers.HeadExpressions.{single_beyond, clause_head}
use Rattle.odc_lookahead.proofs.headers.HeadAnswers.{semicolon_found}
use Rattle.odc_lookahead.proofs.headers.HeaderFacts.{single_at, listed_at, expression_at}
use Rattle.odc_lookahead.proofs.headers.HeaderBounds.{no_operand, clause_costs, name_deeper}
use Rattle.odc_lookahead.proofs.reading.Optional.{OpensBy, Turns, Into, optional_found, optional_refused}
use Rattle.odc_lookahead.proofs.headers.ClauseLemmas.{clause_declaration_refused, clause_declared, clause_listed_refused, clause_listed, clause_alone}
use Rattle.odc_lookahead.proofs.headers.ClauseExpressions.{clause_assigned_refused, clause_assigned, clause_evaluated, clause_over}
use Rattle.odc_lookahead.proofs.reading.Deciding.{led_here}
use Rattle.odc_lookahead.proofs.switches.SwitchHeads.{value_clear, HeadLeads, HeadFar, first_leads, leads_named, head_stops}
use Rattle.odc_lookahead.proofs.reading.Samples as sample
use Rattle.odc_lookahead.specs.declared.tokens.Fit.{Fit}
use Rattle.odc_lookahead.specs.declared.tokens.Fit.TheVariants as fit

-- an expression is read
expression_by : (b : ℕ) (ts place : List Token) (v : Expr) (n : ℕ) (rest : List Token) (most : ℕ) → header.Single ts place → NotTyped ts → header.HeadExpression b ts place v n rest → most ≤ 2 * length rest → suc most ≤ 2 * length ts → HeadFar b ts most
expression_by b ts place v n rest most (header.unnamed _ f) untyped z near within = let short = z.found.short in first_leads b ts most f (reach_opens (z.found.reads n (omega arith) []) (omega (arith, short))) within
expression_by b ts place v n rest most (header.named t vs e f k) untyped z near within =
    let far = single_beyond b (t ∷ vs) vs (Yes v n rest) z.some (single_at (t ∷ vs) vs z.single) z.found in
    (2 * length vs, (omega (arith, far, near), leads_named b (t ∷ vs) t vs refl e untyped))

expression_far : (b : ℕ) (ts place : List Token) (v : Expr) (n : ℕ) (rest : List Token) (most : ℕ) → NotTyped ts → header.HeadExpression b ts place v n rest → most ≤ 2 * length rest → suc most ≤ 2 * length ts → HeadFar b ts most
expression_far b ts place v n rest most untyped z near within = expression_by b ts place v n rest most z.single untyped z near within

read_all : (v : SwitchHead) (b : ℕ) (ts : List Token) (n : ℕ) (rest : List Token) → Led switch_head before_cases (λ n. n) b ts value_read (λ u. v) n rest → Found switch_head before_cases b ts v n rest
read_all v b ts n rest l = record {
  short = l.short;
  comes = l.comes;
  reads = λ c h s. l.reads c tree.no_expr h s;
  only = λ c w s s' ts' clear r h. let q = l.only c w s s' ts' clear r h in record { value = q.whole; bound = let e = q.bound in let d = q.deep in omega (arith, e, d); reach = q.reach };
}

pub value_alone : (b : ℕ) (ts place : List Token) (v : Expr) (n : ℕ) (rest : List Token) → NotTyped ts → length rest < length ts → header.HeadExpression b ts place v n rest → EndsClause rest → Found switch_head before_cases b ts (by_value tree.no_header (tree.some_expr v)) n rest
value_alone b ts place v n rest untyped shorter z ends =
    let l = expression_far b ts place v n rest (2 * length rest) untyped z (omega arith) (omega (arith, shorter)) in
    read_all (by_value tree.no_header (tree.some_expr v)) b ts n rest (clause_alone value_read value_line same_depth head_stops l.1.1 place v n rest l.1.0 (expression_at b ts place v n rest z) ends)

behind_far : (b : ℕ) (ts place : List Token) (v : Expr) (n : ℕ) (rest : List Token) (t : Token) (us : List Token) → NotTyped ts → header.HeadExpression b ts place v n rest → rest ≡ t ∷ us → HeadFar b ts (suc (2 * length us))
behind_far b ts place v n rest t us untyped z is =
    let longer : length rest ≡ suc (length us) = ap length is in
    let short = z.found.short in
    expression_far b ts place v n rest (suc (2 * length us)) untyped z (omega (arith, longer)) (omega (arith, longer, short))

pub value_over : (b : ℕ) (ts place : List Token) (v : Expr) (n : ℕ) (rest : List Token) (t : Token) (us : List Token) → NotTyped ts → header.HeadExpression b ts place v n rest → rest ≡ t ∷ us → continues_clause t.kind ≡ true → b ≤ n → TooDeep switch_head before_cases b ts (length us)
value_over b ts place v n rest t us untyped z is on over =
    let l = behind_far b ts place v n rest t us untyped z is in
    clause_over value_read value_line same_depth head_stops l.1.1 place v n rest t us l.1.0 (expression_at b ts place v n rest z) is on over

pub assigned_refused : (b d : ℕ) (ts place : List Token) (v : Expr) (n : ℕ) (rest : List Token) (t : Token) (us : List Token) (e : Stop) → NotTyped ts → b ≡ suc d → header.HeadExpression b ts place v n rest → n ≤ d → rest ≡ t ∷ us → header.GoesOn t.kind →
    Exact (one (g.simple mode.Header)) (continues_simple mode.Header) b ts (refused e) → Exact switch_head before_cases b ts (refused e)
assigned_refused b d ts place v n rest t us e untyped deeper z within is on h =
    let l = behind_far b ts place v n rest t us untyped z is in
    clause_assigned_refused value_read value_line same_depth head_stops l.1.1 d place v n rest t us e l.1.0 deeper (expression_at b ts place v n rest z) within is on h

-- names
declares_far : (b : ℕ) (ts place : List Token) → NotTyped ts → Declares ts place → HeadFar b ts (2 * length place)
declares_far b ts place untyped (named t k us e f) = (2 * length (k ∷ us), (omega arith, leads_named b (t ∷ k ∷ us) t (k ∷ us) refl e untyped))
declares_far b ts place untyped (listed t k us rest e f d) = let short = declares_short d in (2 * length (k ∷ us), (omega (arith, short), leads_named b (t ∷ k ∷ us) t (k ∷ us) refl e untyped))

pub listed_far : (b : ℕ) (ts place : List Token) → NotTyped ts → header.Listed ts place → HeadFar b ts (2 * length place)
listed_far b ts place untyped z = let short = run_short z.run in (2 * length (z.comma ∷ z.others), (omega (arith, short), leads_named b ts z.first (z.comma ∷ z.others) z.is z.name untyped))

pub declared_refused : (b : ℕ) (ts place : List Token) (e : Stop) → NotTyped ts → 0 < b → Declares ts place → Exact (one (g.declaration mode.Header)) (continues_declaration mode.Header) b ts (refused e) → Exact switch_head before_cases b ts (refused e)
declared_refused b ts place e untyped some d h =
    let l = declares_far b ts place untyped d in
    clause_declaration_refused value_read value_line same_depth head_stops l.1.1 place e l.1.0 some d h

pub listed_refused : (b : ℕ) (ts place : List Token) (e : Stop) → NotTyped ts → 1 < b → header.Listed ts place → Exact (one (g.simple mode.Header)) (continues_simple mode.Header) b ts (refused e) → Exact switch_head before_cases b ts (refused e)
listed_refused b ts place e untyped some d h =
    let l = listed_far b ts place untyped d in
    clause_listed_refused value_read value_line same_depth head_stops l.1.1 place e l.1.0 some (listed_at ts place d) h

-- what must be followed by `;`
abbrev pub semicolon_line : Part (Token × MaybeExpr)
semicolon_line = then_ (token kind.Semicolon) value_line

abbrev pub ClosedAt : ℕ → List Token → Header → ℕ → List Token → Type 0
ClosedAt b ts h n rest = Led switch_head before_cases (λ n. n) b ts semicolon_line (λ w. by_value h w.1) n rest

pub closed_led : (b : ℕ) (ts : List Token) (h : Header) (n : ℕ) (rest : List Token) → NotTyped ts → header.ClosedFrom b ts h n rest → ClosedAt b ts h n rest
closed_led b ts h n rest untyped (header.declared place d m after some run found) =
    let l = declares_far b ts place untyped run in
    clause_declared value_read value_line same_depth head_stops l.1.1 place d n rest l.1.0 some run found
closed_led b ts h n rest untyped (header.listed place x m after some run found) =
    let l = listed_far b ts place untyped run in
    clause_listed value_read value_line same_depth head_stops l.1.1 place x n rest l.1.0 some (listed_at ts place run) found
closed_led b ts h n rest untyped (header.begun d place v k before t us x m after deeper z within is on found) =
    let l = behind_far b ts place v k before t us untyped z is in
    clause_assigned value_read value_line same_depth head_stops l.1.1 d place v k before t us x n rest l.1.0 deeper (expression_at b ts place v k before z) within is on found

pub head_unclosed : (b : ℕ) (ts : List Token) (h : Header) (n : ℕ) (rest : List Token) (e : Stop) (within : Fit) → NotTyped ts → header.ClosedFrom b ts h n rest → (within ≡ fit.Over → b < n) → NotExpected kind.Semicolon within rest e → Exact switch_head before_cases b ts (refused e)
head_unclosed b ts h n rest e within untyped z over k = token_refused kind.Semicolon value_line e within same_depth (closed_led b ts h n rest untyped z) over k

-- behind the `;`
abbrev pub ValueAt : ℕ → List Token → Header → ℕ → List Token → Type 0
ValueAt b ts h n us = Led switch_head before_cases (λ n. n) b ts value_line (λ e. by_value h e) n us

pub value_led : (b : ℕ) (ts : List Token) (h : Header) (n : ℕ) (us : List Token) → NotTyped ts → header.ConditionFrom b ts h n us → ValueAt b ts h n us
value_led b ts h n us untyped (header.closed hd m rest t _ z within is e) = token_read same_depth (closed_led b ts h n rest untyped z) within is e
value_led b ts h n us untyped (header.evaluated d place v m rest t _ deeper z within is e) =
    let l = behind_far b ts place v m rest t us untyped z is in
    clause_evaluated value_read value_line same_depth head_stops l.1.1 d place v m rest t us (stmt (first_of v) (tree.eval (tree.more_exprs v tree.no_exprs))) l.1.0 deeper (expression_at b ts place v m rest z) within is e (semicolon_found b d ts v m rest t us deeper z.found within is e)

value_within : (b : ℕ) (ts : List Token) (h : Header) (n : ℕ) (us : List Token) → header.ConditionFrom b ts h n us → n ≤ b
value_within b ts h n us (header.closed hd m rest t _ z within is e) = within
value_within b ts h n us (header.evaluated d place v m rest t _ deeper z within is e) = omega (arith, deeper, within)

abbrev value_node : Expr × Unit {0} → MaybeExpr
value_node u = tree.some_expr u.0

value_into : (rest : List Token) → Into value_line (g.expression mode.Header) done value_node rest
unfolding then_ done
value_into rest c w s = write _ an_expr here

turn_by : {s' : List Sym} {ts' : List Token} (t : Token) (vs : List Token) → starts_expression mode.Header t.kind ≡ true → (c : ℕ) (e : MaybeExpr) (q : List Sym) → Rule (g.maybe_expr mode.Header c e) q → (s : List Sym) → Clear before_cases s →
    Reach s' ts' (q ++ s) (t ∷ vs) → size s' ts' ≤ suc (2 * length vs) → Stepped (then_ (g.expression mode.Header) done) value_node c e s s' ts' (t ∷ vs)
unfolding then_ done
turn_by {s'} {ts'} t vs e c x q no_expr s clear r h = absurd (clear.stops t vs s' ts' (starts_before t.kind e) r h)
  where
    starts_before : (k : TokenKind) → starts_expression mode.Header k ≡ true → before_cases k ≡ true
    starts_before kind.OpenBrace e = cc
    starts_before _ e = refl
turn_by t vs e c x q (an_expr {e = y}) s clear r h = record { by = (y, tt); is = refl; reach = r }

value_turn : (rest : List Token) → Turns (starts_expression mode.Header) before_cases value_line (g.expression mode.Header) done value_node rest
value_turn rest t vs is e c u s s' ts' clear r h =
    subst (λ (k : List Token). Stepped (then_ (g.expression mode.Header) done) value_node c u s s' ts' k) (sym is)
    (let q = subst (λ (k : List Token). Reach s' ts' (g.maybe_expr mode.Header c u ∷ s) k) is r in let z = behind_part tt q (omega (arith, h)) in turn_by t vs e c u z.as_symbols z.rule s clear z.reach h)

value_opens : (rest : List Token) → OpensBy (g.expression mode.Header) (starts_expression mode.Header) rest
value_opens rest c w s s' ts' r h = reach_opens r h

last_clear : (c : ℕ) (u : Unit {0}) (s : List Sym) → Clear before_cases s → Clear (continues Or mode.Header) (done c u ++ s)
unfolding done
last_clear c u s clear = value_clear clear

pub value_refused : (b : ℕ) (ts : List Token) (h : Header) (n : ℕ) (us : List Token) (e : Stop) → NotTyped ts → header.ConditionFrom b ts h n us → Exact (one (g.expression mode.Header)) (continues Or mode.Header) b us (refused e) → (e ≡ stop.Syntax (length us) → ⊥) → Exact switch_head before_cases b ts (refused e)
value_refused b ts h n us e untyped z k elsewhere =
    optional_refused (starts_expression mode.Header) (g.expression mode.Header) (continues Or mode.Header) done value_node (sample.expr, tt) e same_depth (value_led b ts h n us untyped z) (value_within b ts h n us z) (value_into us) (value_turn us) (value_opens us) k elsewhere last_clear

pub value_answer : (b : ℕ) (ts : List Token) (h : Header) (n : ℕ) (us : List Token) (v : Expr) (m top : ℕ) (after : List Token) → NotTyped ts → header.ConditionFrom b ts h n us → Found (one (g.expression mode.Header)) (continues Or mode.Header) b us v m after → length after < length us → top ≡ max n m →
    Found switch_head before_cases b ts (by_value h (tree.some_expr v)) top after
value_answer b ts h n us v m top after untyped z found shorter high =
    answer_is refl (sym high)
    (led_done same_depth (optional_found (starts_expression mode.Header) (g.expression mode.Header) done value_node (sample.expr, tt) same_depth (value_led b ts h n us untyped z) (value_within b ts h n us z) (value_into us) (value_turn us) (value_opens us) found shorter last_clear))

-- it is left out
left_by : {s' : List Sym} {ts' : List Token} (b : ℕ) (us : List Token) → Broken (one (g.expression mode.Header)) (continues Or mode.Header) b us (length us) → (c : ℕ) (e : MaybeExpr) (q : List Sym) → Rule (g.maybe_expr mode.Header c e) q → (s : List Sym) → Clear before_cases s →
    Reach s' ts' (q ++ s) us → size s' ts' ≤ 2 * length us → Stepped done (λ u. tree.no_expr) c e s s' ts' us
unfolding done
left_by b us broken c e q no_expr s clear r h = record { by = tt; is = refl; reach = r }
left_by {s'} {ts'} b us broken c e q (an_expr {e = y}) s clear r h = absurd (broken.none c y s s' ts' (value_clear clear) r h)

pub value_none : (b : ℕ) (ts : List Token) (h : Header) (n : ℕ) (us : List Token) → NotTyped ts → header.ConditionFrom b ts h n us → Broken (one (g.expression mode.Header)) (continues Or mode.Header) b us (length us) → Found switch_head before_cases b ts (by_value h tree.no_expr) n us
unfolding done
value_none b ts h n us untyped z broken =
    led_done same_depth
    (led_here done (λ u. tree.no_expr) tt (λ c w s. write _ no_expr here) (λ c u s s' ts' clear r k. let y = behind_part tt r k in left_by b us broken c u y.as_symbols y.rule s clear y.reach k) (value_led b ts h n us untyped z))

-- a name where no level is left: it may still stand before `in`
zero_comes : (t : Token) (us : List Token) → t.kind ≡ kind.Name → Comes switch_head 0 (t ∷ us) (length us)
zero_comes t us e = record { at = λ c h. record { value = by_type t t sample.expr; before = λ s. record { pending = tok kind.In t ∷ g.expression mode.Header c sample.expr ∷ s; rest = us; rest_is = refl; reach = read e here } } }

pub zero_over : (d : ℕ) (ts : List Token) (t : Token) (us : List Token) (x : Token) (vs : List Token) → d ≡ 0 → ts ≡ t ∷ us → t.kind ≡ kind.Name → us ≡ x ∷ vs → NotTyped ts → continues_head x.kind ≡ true → TooDeep switch_head before_cases d ts (length vs)
zero_over d ts t us x vs zero' is e next untyped on =
    subst (λ (k : ℕ). TooDeep switch_head before_cases k ts (length vs)) (sym zero')
    (subst (λ (l : List Token). TooDeep switch_head before_cases 0 l (length vs)) (sym whole)
    (by_leads (leads_named 0 (t ∷ x ∷ vs) t (x ∷ vs) refl e (subst (λ (l : List Token). NotTyped l) whole untyped))))
  where
    whole : ts ≡ t ∷ x ∷ vs
    whole = is ∙ ap (λ (l : List Token). t ∷ l) next

    by_leads : HeadLeads 0 (t ∷ x ∷ vs) (2 * length (x ∷ vs)) → TooDeep switch_head before_cases 0 (t ∷ x ∷ vs) (length vs)
    by_leads led =
        let deeper = name_deeper value_read value_line same_depth head_stops led e on in
        record {
          short = omega arith;
          comes = zero_comes t (x ∷ vs) e;
          deep = λ c w s s' ts' clear r h.
              let q = led.only c w s s' ts' clear r (omega (arith, h)) in
              let k = clause_costs value_read value_line (t ∷ x ∷ vs) q.at q.value s q.reach (omega (arith, h)) in
              let i = q.bound in
              omega (arith, k, i);
          depth = deeper.0;
          deeper = deeper.1;
        }

pub zero_alone : (d : ℕ) (ts : List Token) (t : Token) (us : List Token) → d ≡ 0 → ts ≡ t ∷ us → t.kind ≡ kind.Name → NotTyped ts → EndsHead us → Found switch_head before_cases d ts (by_value tree.no_header (tree.some_expr (expr t.at t.at (tree.name t)))) 1 us
zero_alone d ts t us zero' is e untyped ends =
    subst (λ (k : ℕ). Found switch_head before_cases k ts (by_value tree.no_header (tree.some_expr (expr t.at t.at (tree.name t)))) 1 us) (sym zero')
    (subst (λ (l : List Token). Found switch_head before_cases 0 l (by_value tree.no_header (tree.some_expr (expr t.at t.at (tree.name t)))) 1 us) (sym is)
    (record { short = found.short; comes = zero_comes t us e; reads = found.reads; only = found.only }))
  where
    no_operands : (us : List Token) → EndsHead us → Ends mode.Header us
    no_operands [] ends = tt
    no_operands (x ∷ vs) ends = no_operand x.kind ends

    no_clause : (us : List Token) → EndsHead us → EndsClause us
    no_clause [] ends = tt
    no_clause (x ∷ vs) ends = by_value' (continues_clause x.kind) refl
      where
        by_value' : (a : Bool) → continues_clause x.kind ≡ a → a ≡ false
        by_value' false f = refl
        by_value' true f = let bad : true ≡ false = sym (clause_head x.kind f) ∙ ends in cc

    no_kind : (k : TokenKind) (us : List Token) → continues_head k ≡ true → EndsHead us → StartsWithout k us
    no_kind k [] on ends = tt
    no_kind k (x ∷ vs) on ends = λ f. let bad : true ≡ false = sym on ∙ sym (ap continues_head f) ∙ ends in cc

    found : Found switch_head before_cases 1 (t ∷ us) (by_value tree.no_header (tree.some_expr (expr t.at t.at (tree.name t)))) 1 us
    found =
        value_alone 1 (t ∷ us) us (expr t.at t.at (tree.name t)) 1 us (subst (λ (l : List Token). NotTyped l) is untyped) (omega arith)
        (record { some = omega arith; single = header.named t us e (no_kind kind.Comma us refl ends) (no_kind kind.Colon us refl ends); found = name_whole mode.Header t us e (no_operands us ends) }) (no_clause us ends)
