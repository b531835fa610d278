-- What stands between `switch` and its cases: a name with `in`, or the start of a header, or nothing.
use Rattle.std.proofs.Common.{◌≡◌, ℕ, suc, ◌*◌, ◌<◌, ◌≤◌, true, false, List, [], ◌∷◌, ◌++◌, length, refl, sym, ◌∙◌, ap, subst, arith}
use Rattle.odc_syntax.specs.declared.token.Token.{Token}
use Rattle.odc_syntax.specs.declared.token.TokenKind.{TokenKind}
use Rattle.odc_syntax.specs.declared.token.TokenKind.TheVariants as kind
use Rattle.odc_syntax.specs.declared.grammar.Mode.TheVariants as mode
use Rattle.odc_syntax.specs.declared.grammar.Level.TheVariants.{Or}
use Rattle.odc_syntax.specs.Tree.{Header, Expr, expr, MaybeExpr, Decl}
use Rattle.odc_syntax.specs.Tree as tree
use Rattle.odc_syntax.specs.Grammar.{Sym, tok, Rule, header_none, header_decl, header_simple, no_expr, an_expr}
use Rattle.odc_syntax.specs.Grammar as g
use Rattle.odc_syntax.specs.Derives.{Reach, here, read, write, StartsWithout}
use Rattle.odc_lookahead.specs.declared.stop.Stop.{Stop}
use Rattle.odc_lookahead.specs.declared.stop.Stop.TheVariants as stop
use Rattle.odc_lookahead.specs.Exact.{size, Clear, one, then_, done, Exact, Found, Broken}
use Rattle.odc_lookahead.specs.Read.{refused}
use Rattle.odc_lookahead.specs.stmts.Clauses.{Clause, declared, assigned, alone, clause_then}
use Rattle.odc_lookahead.specs.stmts.Headers as header
use Rattle.odc_lookahead.specs.stmts.Runs.{ended}
use Rattle.odc_lookahead.specs.Sets.{starts_expression, continues}
use Rattle.odc_lookahead.specs.stmts.StatementSets.{continues_simple, continues_head, continues_clause}
use Rattle.odc_lookahead.specs.stmts.SwitchParts.{SwitchHead, by_value, by_type, switch_head, value_read, value_line, clause_head, NotTyped}
use Rattle.odc_lookahead.specs.stmts.SwitchSets.{before_cases}
use Rattle.odc_lookahead.proofs.reading.Opening.{reach_opens, First, StartsWith}
use Rattle.odc_lookahead.proofs.reading.Reaching.{behind_part, behind_token}
use Rattle.odc_lookahead.proofs.reading.Leading.{same_depth, Pending, Led, led_part, led_done, first_is, without, at_rest}
use Rattle.odc_lookahead.proofs.reading.Answering.{part_refused, answer_is}
use Rattle.odc_lookahead.proofs.expr.BinaryLemmas.{clear_narrow}
use Rattle.odc_lookahead.proofs.expr.WholeLemmas.{name_whole}
use Rattle.odc_lookahead.proofs.expr.ExprsLemmas.{exprs_refused}
use Rattle.odc_lookahead.proofs.stmts.SimpleLemmas.{simple_refused}
use Rattle.odc_lookahead.proofs.stmts.RunLemmas.{not_declared}
use Rattle.odc_lookahead.proofs.headers.HeadLemmas.{header_goes, semicolon_clear}
use Rattle.odc_lookahead.proofs.headers.HeadExpressions.{single_beyond, clause_goes}
use Rattle.odc_lookahead.proofs.headers.HeaderFacts.{single_at}
use Rattle.odc_lookahead.proofs.reading.Optional.{stop_shows}
use Rattle.odc_lookahead.proofs.headers.ClauseExpressions.{clause_broken, clause_deep, clause_single_refused}
use Rattle.odc_lookahead.proofs.reading.Deciding.{stop_limit, Leads, leads_start, leads_led}
use Rattle.odc_lookahead.proofs.reading.Samples as sample

pub goes_before : (k : TokenKind) → continues_head k ≡ true → before_cases k ≡ true
goes_before kind.OpenBrace e = cc
goes_before _ e = refl

pub before_clear : {s : List Sym} → Clear before_cases s → Clear continues_head s
before_clear clear = clear_narrow goes_before clear

pub value_clear : {s : List Sym} → Clear before_cases s → Clear (continues Or mode.Header) s
value_clear clear = clear_narrow (λ k e. goes_before k (header_goes k e)) clear

last_clear : (c : ℕ) (u : Unit {0}) (s : List Sym) → Clear before_cases s → Clear (continues Or mode.Header) (done c u ++ s)
unfolding done
last_clear c u s clear = value_clear clear

-- a name and `in`
typed_by : {s' : List Sym} {ts' : List Token} (n i : Token) (vs : List Token) → n.kind ≡ kind.Name → i.kind ≡ kind.In → (c : ℕ) (w : SwitchHead) (s : List Sym) → Clear before_cases s → Reach s' ts' (switch_head c w ++ s) (n ∷ i ∷ vs) → size s' ts' ≤ 2 * length vs →
    Pending (λ n. n) (then_ (g.expression mode.Header) done) (λ u. by_type n i u.0) 0 vs c w s s' ts'
unfolding then_ done
typed_by n i vs e k c (by_type m j x) s clear r h =
    let z = behind_token r (omega (arith, h)) in
    let y = behind_token (at_rest z) (omega (arith, h)) in
    record { at = c; value = (x, tt); bound = refl; whole = λ q. by_type (first_is z.is q) (first_is y.is q) x; deep = omega arith; reach = at_rest y }
typed_by {s'} {ts'} n i vs e k c (by_value hd v) s clear r h = let z = behind_part tt r (omega (arith, h)) in by_header hd z.as_symbols z.rule z.reach
  where
    whole : Found (one (g.expression mode.Header)) (continues Or mode.Header) 1 (n ∷ i ∷ vs) (expr n.at n.at (tree.name n)) 1 (i ∷ vs)
    whole = name_whole mode.Header n (i ∷ vs) e (ap (continues Or mode.Header) k)

    by_maybe : (v : MaybeExpr) (p : List Sym) → Rule (g.maybe_expr mode.Header c v) p → Reach s' ts' (p ++ s) (n ∷ i ∷ vs) → ⊥
    by_maybe v p no_expr r = clear.stops n (i ∷ vs) s' ts' (ap before_cases e) r (omega (arith, h))
    by_maybe v p (an_expr {e = x}) r = let z = whole.only c x s s' ts' (value_clear clear) r (omega (arith, h)) in clear.stops i vs s' ts' (ap before_cases k) z.reach (omega (arith, h))

    by_header : (hd : Header) (p : List Sym) → Rule (g.header c hd) p → Reach s' ts' (p ++ (g.maybe_expr mode.Header c v ∷ s)) (n ∷ i ∷ vs) → Pending (λ n. n) (then_ (g.expression mode.Header) done) (λ u. by_type n i u.0) 0 vs c (by_value hd v) s s' ts'
    by_header hd p header_none r = let z = behind_part tt r (omega (arith, h)) in absurd (by_maybe v z.as_symbols z.rule z.reach)
    by_header hd p (header_decl {t = t} {d = d}) r = absurd (not_declared mode.Header (ended n (i ∷ vs) e (λ f. cc) (λ f. cc)) c d (tok kind.Semicolon t ∷ g.maybe_expr mode.Header c v ∷ s) r (omega (arith, h)))
    by_header hd p (header_simple {t = t} {s = x}) r =
        let on : continues_clause i.kind ≡ true = (clause_goes 1 (n ∷ i ∷ vs) (expr n.at n.at (tree.name n)) 1 (i ∷ vs) whole c x t (g.maybe_expr mode.Header c v ∷ s) r (omega (arith, h))).0 in
        let bad : true ≡ false = sym on ∙ ap continues_clause k in
        cc

typed_led : (b : ℕ) (us : List Token) (n i : Token) (vs : List Token) → us ≡ n ∷ i ∷ vs → n.kind ≡ kind.Name → i.kind ≡ kind.In → Led switch_head before_cases (λ n. n) b us (then_ (g.expression mode.Header) done) (λ u. by_type n i u.0) 0 vs
unfolding then_ done
typed_led b us n i vs is e k =
    subst (λ (l : List Token). Led switch_head before_cases (λ n. n) b l (then_ (g.expression mode.Header) done) (λ u. by_type n i u.0) 0 vs) (sym is)
    (leads_led (omega arith)
    (leads_start b vs (then_ (g.expression mode.Header) done) (λ u. by_type n i u.0) (2 * length vs) (sample.expr, tt) same_depth (omega arith) (λ c u s. read e (read k here))
    (λ c w s s' ts' clear r h. typed_by n i vs e k c w s clear r h)))

pub typed_refused : (b : ℕ) (us : List Token) (n i : Token) (vs : List Token) (e : Stop) → us ≡ n ∷ i ∷ vs → n.kind ≡ kind.Name → i.kind ≡ kind.In → Exact (one (g.expression mode.Header)) (continues Or mode.Header) b vs (refused e) → Exact switch_head before_cases b us (refused e)
typed_refused b us n i vs e is k j h = part_refused (g.expression mode.Header) (continues Or mode.Header) done e same_depth (typed_led b us n i vs is k j) (omega arith) h last_clear

pub typed_answer : (b : ℕ) (us : List Token) (n i : Token) (vs : List Token) (x : Expr) (m : ℕ) (after : List Token) → us ≡ n ∷ i ∷ vs → n.kind ≡ kind.Name → i.kind ≡ kind.In → Found (one (g.expression mode.Header)) (continues Or mode.Header) b vs x m after →
    Found switch_head before_cases b us (by_type n i x) m after
typed_answer b us n i vs x m after is k j found = answer_is refl (omega arith) (led_done same_depth (led_part same_depth (typed_led b us n i vs is k j) (omega arith) found last_clear))

-- the start of a header, which is not empty
not_brace : (k : TokenKind) → (k ≡ kind.OpenBrace → ⊥) → before_cases k ≡ true
not_brace kind.OpenBrace f = absurd (f refl)
not_brace _ f = refl

clause_by : {s' : List Sym} {ts' : List Token} (x : Token) (vs : List Token) → (x.kind ≡ kind.OpenBrace → ⊥) → ((n i : Token) (q : List Sym) → Reach s' ts' (tok kind.Name n ∷ tok kind.In i ∷ q) (x ∷ vs) → ⊥) → (c : ℕ) (w : SwitchHead) (s : List Sym) → Clear before_cases s →
    Reach s' ts' (switch_head c w ++ s) (x ∷ vs) → size s' ts' ≤ suc (2 * length vs) → Pending {U = Clause × MaybeExpr} (λ n. n) (clause_then value_read value_line) clause_head 0 (x ∷ vs) c w s s' ts'
clause_by x vs solid dead c (by_type n i y) s clear r h = absurd (dead n i (g.expression mode.Header c y ∷ s) r)
clause_by {s'} {ts'} x vs solid dead c (by_value hd v) s clear r h = let z = behind_part tt r (omega (arith, h)) in by_header hd z.as_symbols z.rule z.reach
  where
    by_maybe : (v : MaybeExpr) (p : List Sym) → Rule (g.maybe_expr mode.Header c v) p → Reach s' ts' (p ++ s) (x ∷ vs) → Pending {U = Clause × MaybeExpr} (λ n. n) (clause_then value_read value_line) clause_head 0 (x ∷ vs) c (by_value tree.no_header v) s s' ts'
    by_maybe v p no_expr r = absurd (clear.stops x vs s' ts' (not_brace x.kind solid) r h)
    by_maybe v p (an_expr {e = y}) r = record { at = c; value = (alone y, tree.no_expr); bound = refl; whole = refl; deep = omega arith; reach = r }

    by_header : (hd : Header) (p : List Sym) → Rule (g.header c hd) p → Reach s' ts' (p ++ (g.maybe_expr mode.Header c v ∷ s)) (x ∷ vs) → Pending {U = Clause × MaybeExpr} (λ n. n) (clause_then value_read value_line) clause_head 0 (x ∷ vs) c (by_value hd v) s s' ts'
    by_header hd p header_none r = let z = behind_part tt r (omega (arith, h)) in by_maybe v z.as_symbols z.rule z.reach
    by_header hd p (header_decl {t = t} {d = d}) r = record { at = c; value = (declared d t, v); bound = refl; whole = refl; deep = omega arith; reach = r }
    by_header hd p (header_simple {t = t} {s = y}) r = record { at = c; value = (assigned y t, v); bound = refl; whole = refl; deep = omega arith; reach = r }

clause_into : (us : List Token) (c : ℕ) (w : Clause × MaybeExpr) (s : List Sym) → Reach (clause_then value_read value_line c w ++ s) us (switch_head c (clause_head w) ++ s) us
clause_into us c (declared d t, v) s = write _ header_decl here
clause_into us c (assigned x t, v) s = write _ header_simple here
clause_into us c (alone x, v) s = write _ header_none (write _ an_expr here)

abbrev pub HeadLeads : ℕ → List Token → ℕ → Type 0
HeadLeads b us far = Leads switch_head before_cases (λ n. n) b us (clause_then value_read value_line) clause_head 0 us far

some_clause : Clause × MaybeExpr
some_clause = (alone sample.expr, tree.no_expr)

clause_leads : (b : ℕ) (us : List Token) (x : Token) (vs : List Token) (far : ℕ) → us ≡ x ∷ vs → (x.kind ≡ kind.OpenBrace → ⊥) → far ≤ suc (2 * length vs) → ((s' : List Sym) (ts' : List Token) (n i : Token) (q : List Sym) → Reach s' ts' (tok kind.Name n ∷ tok kind.In i ∷ q) (x ∷ vs) → size s' ts' ≤ far → ⊥) → HeadLeads b us far
clause_leads b us x vs far is solid within dead =
    subst (λ (l : List Token). HeadLeads b l far) (sym is)
    (leads_start b (x ∷ vs) (clause_then value_read value_line) clause_head far some_clause same_depth (omega arith) (λ c u s. clause_into (x ∷ vs) c u s)
    (λ c w s s' ts' clear r h. clause_by x vs solid (λ n i q r. dead s' ts' n i q r h) c w s clear r (omega (arith, h, within))))

-- behind a first token that is no name
pub leads_unnamed : (b : ℕ) (us : List Token) (x : Token) (vs : List Token) → us ≡ x ∷ vs → (x.kind ≡ kind.OpenBrace → ⊥) → (x.kind ≡ kind.Name → ⊥) → HeadLeads b us (suc (2 * length vs))
leads_unnamed b us x vs is solid unnamed =
    clause_leads b us x vs (suc (2 * length vs)) is solid (omega arith) (λ s' ts' n i q r h. unnamed (reach_opens r (omega (arith, h))))

-- and behind a name without `in`
pub leads_named : (b : ℕ) (us : List Token) (x : Token) (vs : List Token) → us ≡ x ∷ vs → x.kind ≡ kind.Name → NotTyped us → HeadLeads b us (2 * length vs)
leads_named b us x vs is name untyped =
    clause_leads b us x vs (2 * length vs) is (λ e. cc) (omega arith)
    (λ s' ts' n i q r h.
    let z = behind_token r (omega (arith, h)) in
    let y = behind_token (at_rest z) h in
    untyped x i y.us (is ∙ ap (λ (l : List Token). x ∷ l) y.is) name y.kind)

-- nothing stands there
starts_without : (us : List Token) → StartsWithout kind.Name us → StartsWith kind.Name us → ⊥
starts_without [] f e = e
starts_without (t ∷ us) f e = f e

none_by : {s' : List Sym} {ts' : List Token} (b : ℕ) (us : List Token) → StartsWithout kind.Name us → Broken (one (g.expression mode.Header)) (continues Or mode.Header) b us (length us) → (c : ℕ) (w : SwitchHead) (s : List Sym) → Clear before_cases s →
    Reach s' ts' (switch_head c w ++ s) us → size s' ts' ≤ 2 * length us → (w ≡ by_value tree.no_header tree.no_expr) × Reach s' ts' s us
none_by b us unnamed broken c (by_type n i y) s clear r h = let z = behind_token r h in absurd (without kind.Name _ _ us z.is z.kind unnamed)
none_by {s'} {ts'} b us unnamed broken c (by_value hd v) s clear r h = let z = behind_part tt r h in by_header hd z.as_symbols z.rule z.reach
  where
    by_maybe : (v : MaybeExpr) (p : List Sym) → Rule (g.maybe_expr mode.Header c v) p → Reach s' ts' (p ++ s) us → (by_value tree.no_header v ≡ by_value tree.no_header tree.no_expr) × Reach s' ts' s us
    by_maybe v p no_expr r = (refl, r)
    by_maybe v p (an_expr {e = y}) r = absurd (broken.none c y s s' ts' (value_clear clear) r h)

    by_header : (hd : Header) (p : List Sym) → Rule (g.header c hd) p → Reach s' ts' (p ++ (g.maybe_expr mode.Header c v ∷ s)) us → (by_value hd v ≡ by_value tree.no_header tree.no_expr) × Reach s' ts' s us
    by_header hd p header_none r = let z = behind_part tt r h in by_maybe v z.as_symbols z.rule z.reach
    by_header hd p (header_decl {t = t} {d = d}) r = absurd (starts_without us unnamed (reach_opens r h))
    by_header hd p (header_simple {t = t} {s = y}) r =
        let simple : Broken (one (g.simple mode.Header)) (continues_simple mode.Header) (suc b) us (length us) = simple_refused mode.Header b us (stop.Syntax (length us)) (exprs_refused mode.Header b us (stop.Syntax (length us)) broken) in
        absurd (simple.none c y (tok kind.Semicolon t ∷ g.maybe_expr mode.Header c v ∷ s) s' ts' (semicolon_clear (continues_simple mode.Header) refl t (g.maybe_expr mode.Header c v ∷ s)) r h)

pub head_none : (b : ℕ) (us : List Token) → StartsWithout kind.Name us → Broken (one (g.expression mode.Header)) (continues Or mode.Header) b us (length us) → Found switch_head before_cases b us (by_value tree.no_header tree.no_expr) 0 us
head_none b us unnamed broken = record {
  short = omega arith;
  comes = record { at = λ c h. record { value = by_value tree.no_header tree.no_expr; before = λ s. record { pending = s; rest = us; rest_is = refl; reach = write _ header_none (write _ no_expr here) } } };
  reads = λ c h s. write _ header_none (write _ no_expr here);
  only = λ c w s s' ts' clear r h. let z = none_by b us unnamed broken c w s clear r h in record { value = z.0; bound = omega arith; reach = z.1 };
}

-- an expression, or none, where a level is left
unnamed_expression : (k : TokenKind) → starts_expression mode.Header k ≡ true → k ≡ kind.OpenBrace → ⊥
unnamed_expression k e f = let bad : true ≡ false = sym e ∙ ap (starts_expression mode.Header) f in cc

pub single_none : (b : ℕ) (us place : List Token) → 0 < b → header.Single us place → Broken (one (g.expression mode.Header)) (continues Or mode.Header) b us (length us) → Found switch_head before_cases b us (by_value tree.no_header tree.no_expr) 0 us
single_none b us place some (header.unnamed _ f) broken = head_none b us f broken
single_none b us place some (header.named t vs e f k) broken =
    let far = single_beyond b (t ∷ vs) vs (refused (stop.Syntax (length (t ∷ vs)))) some (single_at (t ∷ vs) vs (header.named t vs e f k)) broken in
    absurd (omega (arith, far))

-- how far the readings are looked at, and that a place lies so far
abbrev pub HeadFar : ℕ → List Token → ℕ → Type 0
HeadFar b us most = (far : ℕ) × ((most ≤ far) × HeadLeads b us far)

pub first_leads : (b : ℕ) (us : List Token) (most : ℕ) → StartsWithout kind.Name us → First (starts_expression mode.Header) us → suc most ≤ 2 * length us → HeadFar b us most
first_leads b [] most unnamed f within = absurd f
first_leads b (x ∷ vs) most unnamed f within = (suc (2 * length vs), (omega (arith, within), leads_unnamed b (x ∷ vs) x vs refl (unnamed_expression x.kind f) unnamed))

stop_leads : (b : ℕ) (us place : List Token) (e : Stop) → 0 < b → NotTyped us → header.Single us place → Exact (one (g.expression mode.Header)) (continues Or mode.Header) b us (refused e) → (e ≡ stop.Syntax (length us) → ⊥) → (e ≡ stop.Memory → ⊥) → HeadFar b us (stop_limit e)
stop_leads b us place e some untyped (header.unnamed _ f) h elsewhere memory =
    let z = stop_shows (g.expression mode.Header) (continues Or mode.Header) (starts_expression mode.Header) b us e (λ c w s s' ts' r h. reach_opens r h) h elsewhere memory in
    first_leads b us (stop_limit e) f z.0 z.1
stop_leads b us place e some untyped (header.named t vs i f k) h elsewhere memory =
    (2 * length vs, (by_stop e h, leads_named b (t ∷ vs) t vs refl i untyped))
  where
    by_stop : (e : Stop) → Exact (one (g.expression mode.Header)) (continues Or mode.Header) b (t ∷ vs) (refused e) → stop_limit e ≤ 2 * length vs
    by_stop (stop.Syntax left) h = single_beyond b (t ∷ vs) vs (refused (stop.Syntax left)) some (single_at (t ∷ vs) vs (header.named t vs i f k)) h
    by_stop (stop.Deep left) h = single_beyond b (t ∷ vs) vs (refused (stop.Deep left)) some (single_at (t ∷ vs) vs (header.named t vs i f k)) h
    by_stop stop.Memory h = omega arith

pub head_stops : (c : ℕ) (u : MaybeExpr) (s : List Sym) → Clear before_cases s → Clear continues_head (value_read c u ++ s)
head_stops c u s clear = before_clear clear

pub single_refused : (b : ℕ) (us place : List Token) (e : Stop) → 0 < b → NotTyped us → header.Single us place → Exact (one (g.expression mode.Header)) (continues Or mode.Header) b us (refused e) → (e ≡ stop.Syntax (length us) → ⊥) → Exact switch_head before_cases b us (refused e)
single_refused b us place (stop.Syntax left) some untyped z h elsewhere =
    let l = stop_leads b us place (stop.Syntax left) some untyped z h elsewhere (λ e. cc) in
    clause_single_refused value_read value_line same_depth head_stops l.1.1 place (stop.Syntax left) l.1.0 some (single_at us place z) h
single_refused b us place (stop.Deep left) some untyped z h elsewhere =
    let l = stop_leads b us place (stop.Deep left) some untyped z h elsewhere (λ e. cc) in
    clause_single_refused value_read value_line same_depth head_stops l.1.1 place (stop.Deep left) l.1.0 some (single_at us place z) h
single_refused b us place stop.Memory some untyped z h elsewhere = tt

-- where no level is left
zero_declared : {s' : List Sym} {ts' : List Token} (us : List Token) → StartsWithout kind.Name us → (c : ℕ) (d : Decl) (s : List Sym) → Reach s' ts' (g.declaration mode.Header c d ∷ s) us → size s' ts' ≤ 2 * length us → ⊥
zero_declared us f c d s r h = starts_without us f (reach_opens r h)

pub unnamed_refused : (b : ℕ) (us : List Token) (e : Stop) → StartsWithout kind.Name us → Exact (one (g.expression mode.Header)) (continues Or mode.Header) b us (refused e) → (e ≡ stop.Syntax (length us) → ⊥) → Exact switch_head before_cases b us (refused e)
unnamed_refused b us (stop.Syntax left) f h elsewhere =
    let z = stop_shows (g.expression mode.Header) (continues Or mode.Header) (starts_expression mode.Header) b us (stop.Syntax left) (λ c w s s' ts' r h. reach_opens r h) h elsewhere (λ e. cc) in
    let l = first_leads b us (2 * left) f z.0 z.1 in
    let short = h.short in
    clause_broken value_read value_line same_depth head_stops l.1.1 left l.1.0 h (λ c d s s' ts' r k. zero_declared us f c d s r (omega (arith, k, short)))
unnamed_refused b us (stop.Deep left) f h elsewhere =
    let z = stop_shows (g.expression mode.Header) (continues Or mode.Header) (starts_expression mode.Header) b us (stop.Deep left) (λ c w s s' ts' r h. reach_opens r h) h elsewhere (λ e. cc) in
    let l = first_leads b us (suc (2 * left)) f z.0 z.1 in
    let short = h.short in
    clause_deep value_read value_line same_depth head_stops l.1.1 left l.1.0 h (λ c d s s' ts' r k. absurd (zero_declared us f c d s r (omega (arith, k, short))))
unnamed_refused b us stop.Memory f h elsewhere = tt
