-- What stands behind `for` where too few levels are left for clauses: variables of `for .. in` may still
-- stand there.
use Rattle.std.proofs.Common.{◌≡◌, ℕ, suc, ◌-◌, ◌*◌, ◌<◌, ◌≤◌, Bool, true, false, List, [], ◌∷◌, ◌++◌, length, refl, sym, ap, subst, arith, Some, None, ◌⊎◌, inl, inr}
use Rattle.odc_text.specs.declared.place.Place.{Place}
use Rattle.odc_syntax.specs.declared.token.Token.{Token}
use Rattle.odc_syntax.specs.declared.token.TokenKind.{TokenKind}
use Rattle.odc_syntax.specs.declared.token.TokenKind.TheVariants as kind
use Rattle.odc_syntax.specs.declared.grammar.Mode.TheVariants.{Header}
use Rattle.odc_syntax.specs.declared.grammar.Level.TheVariants.{Or}
use Rattle.odc_syntax.specs.declared.tree.RangeNames.{RangeNames}
use Rattle.odc_syntax.specs.declared.tree.UnaryOp.TheVariants.{Address}
use Rattle.odc_syntax.specs.declared.tree.AssignOp.{AssignOp}
use Rattle.odc_syntax.specs.Operators.{assignment_of}
use Rattle.odc_syntax.specs.Tree.{Expr, span, Decl, decl}
use Rattle.odc_syntax.specs.Tree as tree
use Rattle.odc_syntax.specs.Grammar.{Sym, tok, names_one, names_more, declare_inferred, variables_one, variables_two, references_one, references_two}
use Rattle.odc_syntax.specs.Grammar as g
use Rattle.odc_syntax.specs.Derives.{Reach, here, read, write, StartsWithout}
use Rattle.odc_lookahead.specs.declared.stop.Stop.{Stop}
use Rattle.odc_lookahead.specs.declared.stop.Stop.TheVariants as stop
use Rattle.odc_lookahead.specs.stmts.Clauses.{Clause, declared, assigned, alone, clause_then}
use Rattle.odc_lookahead.specs.Exact.{size, one, Comes, Exact, Broken, TooDeep}
use Rattle.odc_lookahead.specs.stmts.Loops.{Steps, body_alone, steps_line, ranged, looped}
use Rattle.odc_lookahead.specs.stmts.LoopStarts as start
use Rattle.odc_lookahead.specs.stmts.LoopStarts.{cost, list_cost}
use Rattle.odc_lookahead.specs.stmts.LoopStarts.{Signed, plain, signed, OneName, MoreNames, Unranged, goes_one, EndsOne, OneOver, MoreOver}
use Rattle.odc_lookahead.specs.Read.{refused, unary_form}
use Rattle.odc_lookahead.specs.stmts.RunBounds.{item, continues_closed, LastOver}
use Rattle.odc_lookahead.specs.stmts.RunBounds as bound
use Rattle.odc_lookahead.specs.stmts.Runs as runs
use Rattle.odc_lookahead.specs.Sets.{starts_suffix, continues}
use Rattle.odc_lookahead.specs.stmts.Statements.{labelled_part}
use Rattle.odc_lookahead.specs.stmts.StatementSets.{continues_exprs, continues_simple, continues_statement, continues_head, continues_clause}
use Rattle.odc_lookahead.proofs.reading.Opening.{reach_opens, First, is_body}
use Rattle.odc_lookahead.proofs.reading.Reaching.{along}
use Rattle.odc_lookahead.proofs.reading.Leading.{same_depth}
use Rattle.odc_lookahead.proofs.expr.UnaryLemmas.{sign_refused}
use Rattle.odc_lookahead.proofs.expr.WholeLemmas.{Ends, whole_refused, costs_unary}
use Rattle.odc_lookahead.proofs.expr.ExprsLemmas.{exprs_refused}
use Rattle.odc_lookahead.proofs.stmts.SimpleLemmas.{or_right, simple_refused, comes_nowhere, costs_simple}
use Rattle.odc_lookahead.proofs.stmts.DeclarationLemmas.{costs_declaration}
use Rattle.odc_lookahead.proofs.headers.HeadLemmas.{head_clear, semicolon_clear}
use Rattle.odc_lookahead.proofs.headers.HeadExpressions.{clause_goes}
use Rattle.odc_lookahead.proofs.reading.Deciding.{stop_limit}
use Rattle.odc_lookahead.proofs.headers.ListBounds.{Fronted, simple_none, onward_at, onward_behind, run_onward, Statement, onward_simple, closed_cases, is_false, not_both, expression_closed, syntax_short, deep_short}
use Rattle.odc_lookahead.proofs.headers.HeaderOver.{stop_place, ClauseGoes, ClausesOver, clauses_over}
use Rattle.odc_lookahead.proofs.headers.RunBounds.{unread_place}
use Rattle.odc_lookahead.proofs.loops.LoopLemmas.{ForAt}
use Rattle.odc_lookahead.proofs.loops.LoopBodies.{body_heads}
use Rattle.odc_lookahead.proofs.loops.AfterLemmas.{body_of, body_left, body_begins}
use Rattle.odc_lookahead.proofs.headers.FrontLemmas.{value_of, front_found, front_deep, front_reads, front_costs, address_zero}
use Rattle.odc_lookahead.proofs.loops.RangeLemmas.{front_undeclared}
use Rattle.odc_lookahead.proofs.loops.LoopClauses.{ClausesLed, clauses_led, start_not, unranged_short}
use Rattle.odc_lookahead.proofs.reading.Samples as sample

-- variables come to the place
record VariablesGo (ts place : List Token) : Type 0 where
  names : RangeNames
  goes : (i : Token) (s : List Sym) → (q : List Sym) × Reach q place (g.variables names ∷ tok kind.In i ∷ s) ts

one_go : {r : Bool} {ts rest : List Token} (t : Token) → Signed r ts (t ∷ rest) → t.kind ≡ kind.Name → VariablesGo ts rest
one_go t (plain _ n) e = record { names = record { by_reference = false; first = t; second = None }; goes = λ i s. (tok kind.In i ∷ s, write _ variables_one (read e here)) }
one_go t (signed v _ k) e = record { names = record { by_reference = true; first = t; second = None }; goes = λ i s. (tok kind.In i ∷ s, write _ (references_one {a = v}) (read k (read e here))) }

more_go : {r : Bool} {ts last : List Token} (t c : Token) → Signed r ts (t ∷ c ∷ last) → t.kind ≡ kind.Name → c.kind ≡ kind.Comma → VariablesGo ts last
more_go t c (plain _ n) e f = record {
  names = record { by_reference = false; first = t; second = Some sample.token };
  goes = λ i s. (tok kind.Name sample.token ∷ tok kind.In i ∷ s, write _ (variables_two {c = c}) (read e (read f here)));
}
more_go t c (signed v _ k) e f = record {
  names = record { by_reference = true; first = t; second = Some sample.token };
  goes = λ i s. (tok kind.Name sample.token ∷ tok kind.In i ∷ s, write _ (references_two {a = v} {c = c}) (read k (read e (read f here))));
}

pair_go : {r : Bool} {ts rest : List Token} (t c u : Token) → Signed r ts (t ∷ c ∷ u ∷ rest) → t.kind ≡ kind.Name → c.kind ≡ kind.Comma → u.kind ≡ kind.Name → VariablesGo ts rest
pair_go t c u (plain _ n) e f k = record {
  names = record { by_reference = false; first = t; second = Some u };
  goes = λ i s. (tok kind.In i ∷ s, write _ (variables_two {c = c}) (read e (read f (read k here))));
}
pair_go t c u (signed v _ j) e f k = record {
  names = record { by_reference = true; first = t; second = Some u };
  goes = λ i s. (tok kind.In i ∷ s, write _ (references_two {a = v} {c = c}) (read j (read e (read f (read k here)))));
}

variables_go : {ts place : List Token} → Unranged ts place → VariablesGo ts place
variables_go (start.other f k) = record { names = record { by_reference = false; first = sample.token; second = None }; goes = λ i s. (_, here) }
variables_go (start.address rest (signed v _ k) f) = record { names = record { by_reference = true; first = sample.token; second = None }; goes = λ i s. (tok kind.Name sample.token ∷ tok kind.In i ∷ s, write _ (references_one {a = v}) (read k here)) }
variables_go (start.one_name r rest z) = one_go z.name z.signed z.is_name
variables_go (start.more r last z f) = more_go z.name z.comma z.signed z.is_name z.is_comma
variables_go (start.pair r t rest z e f) = pair_go z.name z.comma t z.signed z.is_name z.is_comma e

variables_come : (b : ℕ) (ws : List Token) (at : Place) (ts place : List Token) → ForAt b ws at ts → Unranged ts place → Comes (one labelled_part) b ws (length place)
variables_come b ws at ts place led z =
    let v = variables_go z in
    record {
      at = λ c h. record {
        value = (at, looped (ranged v.names sample.token (span sample.expr tree.alone) tree.no_stmts));
        before = λ s.
            let y = v.goes sample.token (g.span_ Header c (span sample.expr tree.alone) ∷ g.body c tree.no_stmts ∷ s) in
            record { pending = y.0; rest = place; rest_is = refl; reach = along (led.reads c (ranged v.names sample.token (span sample.expr tree.alone) tree.no_stmts) (omega arith) s) y.1 };
      };
    }

-- why the expression isn't read is why no clause is
abbrev Dead : List Token → Stop → Type 0
Dead ts e = (c : ℕ) (x : Decl) (s s' : List Sym) (ts' : List Token) → Reach s' ts' (g.declaration Header c x ∷ s) ts → size s' ts' ≤ stop_limit e → ⊥

expression_over : (d b : ℕ) (ts : List Token) (e : Stop) → b ≤ d → Exact (one (g.expression Header)) (continues Or Header) d ts (refused e) → Dead ts e → ClausesOver continues_statement body_alone steps_line b ts e
expression_over d b ts (stop.Syntax left) within broken dead = λ c k u s s' ts' clear r h. by_clause c k u s s' ts' r h
  where
    by_clause : (c : ℕ) (k : Clause) (u : _) (s s' : List Sym) (ts' : List Token) → Reach s' ts' (clause_then body_alone steps_line c (k, u) ++ s) ts → size s' ts' ≤ 2 * left → ⊥
    by_clause c (declared x t) u s s' ts' r h = dead c x (tok kind.Semicolon t ∷ (steps_line c u ++ s)) s' ts' r h
    by_clause c (assigned x t) u s s' ts' r h =
        let simple : Broken (one (g.simple Header)) (continues_simple Header) (suc d) ts left = simple_refused Header d ts (stop.Syntax left) (exprs_refused Header d ts (stop.Syntax left) broken) in
        simple.none c x (tok kind.Semicolon t ∷ (steps_line c u ++ s)) s' ts' (semicolon_clear (continues_simple Header) refl t (steps_line c u ++ s)) r h
    by_clause c (alone x) u s s' ts' r h = broken.none c x (g.body c u.1.1.1 ∷ s) s' ts' (head_clear (body_heads c u.1.1.1 s)) r h
expression_over d b ts (stop.Deep left) within deep dead = (
  λ c k u s s' ts' clear r h. by_clause c k u s s' ts' r h,
  (
    deep.depth,
    λ c h.
        let a = deep.deeper.at c h in
        record { clause = alone a.value; after = (tree.no_expr, (sample.token, (tree.no_stmt, tree.no_stmts))); goes = λ s. let z = a.before (g.body c tree.no_stmts ∷ s) in record { pending = z.pending; rest = z.rest; rest_is = z.rest_is; reach = z.reach } },
  ),
)
  where
    by_clause : (c : ℕ) (k : Clause) (u : _) (s s' : List Sym) (ts' : List Token) → Reach s' ts' (clause_then body_alone steps_line c (k, u) ++ s) ts → size s' ts' ≤ suc (2 * left) → b < c
    by_clause c (declared x t) u s s' ts' r h = absurd (dead c x (tok kind.Semicolon t ∷ (steps_line c u ++ s)) s' ts' r h)
    by_clause c (assigned x t) u s s' ts' r h =
        let simple : TooDeep (one (g.simple Header)) (continues_simple Header) (suc d) ts left = simple_refused Header d ts (stop.Deep left) (exprs_refused Header d ts (stop.Deep left) deep) in
        let over = simple.deep c x (tok kind.Semicolon t ∷ (steps_line c u ++ s)) s' ts' (semicolon_clear (continues_simple Header) refl t (steps_line c u ++ s)) r h in
        omega (arith, over, within)
    by_clause c (alone x) u s s' ts' r h = let over = deep.deep c x (g.body c u.1.1.1 ∷ s) s' ts' (head_clear (body_heads c u.1.1.1 s)) r h in omega (arith, over, within)
expression_over d b ts stop.Memory within h dead = tt

-- what stands behind `for`, and how far variables go there
pub record LoopFront (b : ℕ) (ws : List Token) (at : Place) (ts place : List Token) : Type 0 where
  pub led : ForAt b ws at ts
  pub no_brace : StartsWithout kind.OpenBrace ts
  pub no_do : StartsWithout kind.Do ts
  pub no_semicolon : StartsWithout kind.Semicolon ts
  pub unranged : Unranged ts place

pub front_led : {b : ℕ} {ws : List Token} {at : Place} {ts place : List Token} → LoopFront b ws at ts place → ClausesLed b ws at ts place
front_led {b} {ws} {at} {ts} {place} z = clauses_led b ws at ts place z.led z.no_brace z.no_do z.no_semicolon z.unranged

limit_at : (e : Stop) (n : ℕ) → (e ≡ stop.Memory → ⊥) → stop_place e ≡ n → stop_limit e ≤ 2 * n
limit_at (stop.Syntax left) n some h = omega (arith, h)
limit_at (stop.Deep left) n some h = omega (arith, h)
limit_at stop.Memory n some h = absurd (some refl)

over_at : {b : ℕ} {ws : List Token} {at : Place} {ts place : List Token} (e : Stop) → (e ≡ stop.Memory → ⊥) → LoopFront b ws at ts place → stop_place e ≡ length place → ClausesOver continues_statement body_alone steps_line b ts e → Exact (one labelled_part) continues_statement b ws (refused e)
over_at {b} {ws} {at} {ts} {place} e some z is over =
    let short = unranged_short z.unranged in
    clauses_over body_alone steps_line same_depth (front_led z) e (limit_at e (length place) some is) (omega (arith, short, is)) (subst (λ (n : ℕ). Comes (one labelled_part) b ws n) (sym is) (variables_come b ws at ts place z.led z.unranged)) over

by_memory : (b : ℕ) (ws : List Token) (e : Stop) → ((e ≡ stop.Memory → ⊥) → Exact (one labelled_part) continues_statement b ws (refused e)) → Exact (one labelled_part) continues_statement b ws (refused e)
by_memory b ws (stop.Syntax left) h = h (λ e. cc)
by_memory b ws (stop.Deep left) h = h (λ e. cc)
by_memory b ws stop.Memory h = tt

-- no level is left, and neither a name nor `&` stands first
unnamed_dead : (ts : List Token) (e : Stop) → StartsWithout kind.Name ts → stop_limit e ≤ 2 * length ts → Dead ts e
unnamed_dead ts e f within c x s s' ts' r h = start_not kind.Name ts (reach_opens r (omega (arith, h, within))) f

pub other_over : (ws : List Token) (at : Place) (ts : List Token) (e : Stop) → LoopFront 0 ws at ts ts → StartsWithout kind.Name ts → Exact (one (g.expression Header)) (continues Or Header) 0 ts (refused e) → Exact (one labelled_part) continues_statement 0 ws (refused e)
other_over ws at ts e z f h =
    by_memory 0 ws e (λ some.
    let is = unread_place ts e h some in
    over_at e some z is (expression_over 0 0 ts e (omega arith) h (unnamed_dead ts e f (limit_at e (length ts) some is))))

-- no level is left behind `&`, and no name follows it
unary_place : (ts : List Token) (e : Stop) → Exact (one (g.unary Header)) (starts_suffix Header) 0 ts (refused e) → (e ≡ stop.Memory → ⊥) → stop_place e ≡ length ts
unary_place ts (stop.Syntax left) broken some = comes_nowhere (one (g.unary Header)) 0 ts left (record { costs = λ c w s s' ts' r k. costs_unary Header c w s s' ts ts' r k }) broken.short broken.comes
unary_place ts (stop.Deep left) deep some = comes_nowhere (one (g.unary Header)) 0 ts (suc left) (record { costs = λ c w s s' ts' r k. costs_unary Header c w s s' ts ts' r k }) deep.short deep.comes
unary_place ts stop.Memory h some = absurd (some refl)

sign_over : {ts rest : List Token} (e : Stop) → Signed true ts rest → Exact (one (g.unary Header)) (starts_suffix Header) 0 rest (refused e) → Exact (one (g.expression Header)) (continues Or Header) 1 ts (refused e)
sign_over {rest = rest} e (signed t _ k) h = whole_refused Header 1 (t ∷ rest) e (sign_refused Header Header 1 0 (t ∷ rest) t rest Address e refl refl refl (ap unary_form k) h)

signed_unnamed : {ts rest : List Token} → Signed true ts rest → StartsWithout kind.Name ts
signed_unnamed (signed t _ k) = λ e. cc

signed_short : {r : Bool} {ts us : List Token} → Signed r ts us → length us ≤ length ts
signed_short (plain _ n) = omega arith
signed_short (signed t _ k) = omega arith

pub address_over : (ws : List Token) (at : Place) (ts rest : List Token) (e : Stop) → LoopFront 0 ws at ts rest → Signed true ts rest → Exact (one (g.unary Header)) (starts_suffix Header) 0 rest (refused e) → Exact (one labelled_part) continues_statement 0 ws (refused e)
address_over ws at ts rest e z sign h =
    by_memory 0 ws e (λ some.
    let is = unary_place rest e h some in
    let short = signed_short sign in
    let limit = limit_at e (length rest) some is in
    over_at e some z is (expression_over 1 0 ts e (omega arith) (sign_over e sign h) (unnamed_dead ts e (signed_unnamed sign) (omega (arith, limit, short)))))

-- one name, or `&` and a name
front_simple : {s' : List Sym} {ts' ts : List Token} {r : Bool} (v : Token) (us : List Token) → Signed r ts (v ∷ us) → v.kind ≡ kind.Name → (c : ℕ) (x : _) (t : Token) (s : List Sym) → Reach s' ts' (g.simple Header c x ∷ tok kind.Semicolon t ∷ s) ts → size s' ts' ≤ suc (2 * length us) → cost r < c
front_simple {s'} {ts'} v us (plain _ n) k c x t s r h = costs_simple Header c x (tok kind.Semicolon t ∷ s) s' (v ∷ us) ts' r (omega (arith, h))
front_simple {s'} {ts'} v us (signed a _ i) k c x t s r h =
    let simple : TooDeep (one (g.simple Header)) (continues_simple Header) 2 (a ∷ v ∷ us) (length us) = simple_refused Header 1 (a ∷ v ∷ us) (stop.Deep (length us)) (exprs_refused Header 1 (a ∷ v ∷ us) (stop.Deep (length us)) (address_zero a v us i k)) in
    simple.deep c x (tok kind.Semicolon t ∷ s) s' ts' (semicolon_clear (continues_simple Header) refl t s) r h

one_ends : (r : Bool) (k : TokenKind) → continues_closed k ≡ true → goes_one r k ≡ true
one_ends r kind.Colon e = cc
one_ends r kind.OpenBrace e = refl
one_ends r kind.Do e = refl
one_ends r _ e = e

body_goes : (r : Bool) (k : TokenKind) → is_body k ≡ true → goes_one r k ≡ true
body_goes r kind.OpenBrace e = refl
body_goes r kind.Do e = refl
body_goes r _ e = cc

ends_front : (r : Bool) (us : List Token) → EndsOne r us → Ends Header us
ends_front r [] e = tt
ends_front r (t ∷ us) e = is_false (continues Or Header t.kind) (λ on. not_both (goes_one r t.kind) (one_ends r t.kind (expression_closed t.kind on)) e)

ends_first : (r : Bool) (among : TokenKind → Bool) (us : List Token) → ((k : TokenKind) → among k ≡ true → goes_one r k ≡ true) → EndsOne r us → First among us → ⊥
ends_first r among [] f e h = h
ends_first r among (t ∷ us) f e h = not_both (goes_one r t.kind) (f t.kind h) e

clause_closed : (k : TokenKind) → continues_clause k ≡ true → continues_closed k ≡ true
clause_closed kind.Comma e = refl
clause_closed kind.Semicolon e = refl
clause_closed k e = or_right (continues_exprs Header k) _ e

no_colon_first : (us : List Token) → EndsOne false us → StartsWithout kind.Colon us
no_colon_first [] e = tt
no_colon_first (t ∷ us) e = λ k. let on : goes_one false t.kind ≡ true = ap (goes_one false) k in not_both (goes_one false t.kind) on e

one_dead : {s' : List Sym} {ts' ts rest : List Token} (r : Bool) (z : OneName r ts rest) → Signed r ts (z.name ∷ rest) → EndsOne r rest → (c : ℕ) (x : Decl) (s : List Sym) → Reach s' ts' (g.declaration Header c x ∷ s) ts → size s' ts' ≤ 2 * length rest → ⊥
one_dead {rest = rest} false z sign e c x s r h = front_undeclared sign rest (runs.ended z.name rest z.is_name z.no_comma (no_colon_first rest e)) c x s r h
one_dead {ts = ts} {rest = rest} true z sign e c x s r h = let short = signed_short sign in unnamed_dead ts (stop.Syntax (length rest)) (signed_unnamed sign) (omega (arith, short)) c x s _ _ r h

one_none : {ts rest : List Token} (r : Bool) (z : OneName r ts rest) → EndsOne r rest → (c : ℕ) (k : Clause) (u : Steps) (s s' : List Sym) (ts' : List Token) → Reach s' ts' (clause_then body_alone steps_line c (k, u) ++ s) ts → size s' ts' ≤ 2 * length rest → ⊥
one_none r z e c (declared x t) u s s' ts' q h = one_dead r z z.signed e c x (tok kind.Semicolon t ∷ (steps_line c u ++ s)) q h
one_none {ts} {rest} r z e c (assigned x t) u s s' ts' q h =
    let first = clause_goes (cost r) ts (value_of z.signed z.name) (cost r) rest (front_found z.name rest z.signed z.is_name (ends_front r rest e)) c x t (steps_line c u ++ s) q h in
    ends_first r continues_clause rest (λ k f. one_ends r k (clause_closed k f)) e first.0
one_none {ts} {rest} r z e c (alone x) u s s' ts' q h =
    let y = (front_found z.name rest z.signed z.is_name (ends_front r rest e)).only c x (g.body c u.1.1.1 ∷ s) s' ts' (head_clear (body_heads c u.1.1.1 s)) q h in
    ends_first r is_body rest (body_goes r) e (reach_opens y.reach h)

one_declared : {s' : List Sym} {ts' ts us : List Token} {r : Bool} (b : ℕ) → Signed r ts us → b < cost r → (c : ℕ) (x : Decl) (s : List Sym) → Reach s' ts' (g.declaration Header c x ∷ s) ts → size s' ts' ≤ 2 * length us → b < c
one_declared {s'} {ts'} {us = us} b (plain _ n) low c x s q h = let k = costs_declaration Header c x s s' us ts' q h in omega (arith, k, low)
one_declared {us = us} b (signed t _ k) low c x s q h = absurd (unnamed_dead (t ∷ us) (stop.Syntax (length us)) (λ e. cc) (omega arith) c x s _ _ q h)

one_deep : {ts rest us : List Token} {x : Token} (b : ℕ) (r : Bool) (z : OneName r ts rest) → b < cost r → rest ≡ x ∷ us → (c : ℕ) (k : Clause) (u : Steps) (s s' : List Sym) (ts' : List Token) → Reach s' ts' (clause_then body_alone steps_line c (k, u) ++ s) ts → size s' ts' ≤ suc (2 * length us) → b < c
one_deep b r z low is c (declared d t) u s s' ts' q h = let longer = ap length is in one_declared b z.signed low c d (tok kind.Semicolon t ∷ (steps_line c u ++ s)) q (omega (arith, h, longer))
one_deep {rest = rest} b r z low is c (assigned y t) u s s' ts' q h = let longer = ap length is in let k = front_simple z.name rest z.signed z.is_name c y t (steps_line c u ++ s) q (omega (arith, h, longer)) in omega (arith, k, low)
one_deep {rest = rest} b r z low is c (alone e) u s s' ts' q h =
    let longer = ap length is in
    let k = front_costs z.name rest z.signed z.is_name c e (g.body c u.1.1.1 ∷ s) (head_clear (body_heads c u.1.1.1 s)) q (omega (arith, h, longer)) in
    omega (arith, k, low)

-- something deeper goes on
abbrev some_steps : Steps
some_steps = (tree.no_expr, (sample.token, (tree.no_stmt, tree.no_stmts)))

statement_goes : {ts : List Token} {left : ℕ} (c : ℕ) → Statement c ts left → ClauseGoes body_alone steps_line c ts left
statement_goes c z = record { clause = assigned z.value z.close; after = some_steps; goes = λ s. z.goes (steps_line c some_steps ++ s) }

-- the ways to go on
is_unsigned : (r : Bool) → start.unsigned r ≡ true → r ≡ false
is_unsigned false e = refl
is_unsigned true e = cc

one_cases : (r : Bool) (k : TokenKind) → goes_one r k ≡ true → ((r ≡ false) × (k ≡ kind.Colon)) ⊎ ((is_body k ≡ true) ⊎ (continues_closed k ≡ true))
one_cases r kind.Colon e = inl (is_unsigned r e, refl)
one_cases r kind.OpenBrace e = inr (inl refl)
one_cases r kind.Do e = inr (inl refl)
one_cases r _ e = inr (inr e)

colon_goes : {r : Bool} {ts : List Token} (t x : Token) (us : List Token) → r ≡ false → Signed r ts (t ∷ x ∷ us) → t.kind ≡ kind.Name → x.kind ≡ kind.Colon → (c : ℕ) → 1 ≤ c → ClauseGoes body_alone steps_line c ts (length us)
colon_goes t x us plain' (signed _ _ k) e f c h = cc
colon_goes t x us plain' (plain _ n) e f c h =
    let i : suc (c - 1) ≡ c = omega (arith, h) in
    subst (λ (d : ℕ). ClauseGoes body_alone steps_line d (t ∷ x ∷ us) (length us)) i (record {
      clause = declared (decl t.at (tree.variable (t ∷ []) tree.no_type (tree.values tree.no_exprs))) x;
      after = some_steps;
      goes = λ s. record {
        pending = tok kind.Assign x ∷ g.exprs Header (c - 1) tree.no_exprs ∷ tok kind.Semicolon x ∷ (steps_line (suc (c - 1)) some_steps ++ s);
        rest = us;
        rest_is = refl;
        reach = write _ (declare_inferred {a = x}) (write _ names_one (read e (read f here)));
      };
    })

body_goes_on : {r : Bool} {ts : List Token} (t x : Token) (us : List Token) → Signed r ts (t ∷ x ∷ us) → t.kind ≡ kind.Name → is_body x.kind ≡ true → (c : ℕ) → cost r ≤ c → ClauseGoes body_alone steps_line c ts (length us)
body_goes_on t x us z e f c h = record {
  clause = alone (value_of z t);
  after = (tree.no_expr, (sample.token, (tree.no_stmt, body_of x.kind f)));
  goes = λ s. record { pending = body_left c x.kind f s; rest = us; rest_is = refl; reach = along (front_reads t (x ∷ us) z e c h (g.body c (body_of x.kind f) ∷ s)) (body_begins c x us x.kind refl f s) };
}

at_simple : {r : Bool} {ts : List Token} (t x : Token) (us : List Token) → Signed r ts (t ∷ x ∷ us) → t.kind ≡ kind.Name → (x.kind ≡ kind.Semicolon) ⊎ ((x.kind ≡ kind.Comma) ⊎ ((op : AssignOp) × (assignment_of x.kind ≡ Some op))) → (d : ℕ) × ((c : ℕ) → d ≤ c → ClauseGoes body_alone steps_line c ts (length us))
at_simple {r} {ts} t x us z e i = (
  suc (cost r),
  λ c h.
      let j : suc (c - 1) ≡ c = omega (arith, h) in
      subst (λ (d : ℕ). ClauseGoes body_alone steps_line d ts (length us)) j (statement_goes (suc (c - 1)) (onward_simple (onward_at {c = c - 1} (value_of z t) x us (λ s. front_reads t (x ∷ us) z e (c - 1) (omega (arith, h)) s) i))),
)

closed_go : {r : Bool} {ts : List Token} (t x : Token) (us : List Token) → Signed r ts (t ∷ x ∷ us) → t.kind ≡ kind.Name → (x.kind ≡ kind.Semicolon) ⊎ ((x.kind ≡ kind.Comma) ⊎ ((continues Or Header x.kind ≡ true) ⊎ ((op : AssignOp) × (assignment_of x.kind ≡ Some op)))) → (d : ℕ) × ((c : ℕ) → d ≤ c → ClauseGoes body_alone steps_line c ts (length us))
closed_go t x us z e (inr (inr (inl on))) =
    let deep = front_deep t x us z e on in (
      deep.depth,
      λ c h.
          let a = deep.deeper.at c h in
          record { clause = alone a.value; after = some_steps; goes = λ s. let y = a.before (g.body c tree.no_stmts ∷ s) in record { pending = y.pending; rest = y.rest; rest_is = y.rest_is; reach = y.reach } },
    )
closed_go {r} {ts} t x us z e (inl i) = at_simple t x us z e (inl i)
closed_go {r} {ts} t x us z e (inr (inl i)) = at_simple t x us z e (inr (inl i))
closed_go {r} {ts} t x us z e (inr (inr (inr i))) = at_simple t x us z e (inr (inr i))

one_deeper : {r : Bool} {ts : List Token} (t x : Token) (us : List Token) → Signed r ts (t ∷ x ∷ us) → t.kind ≡ kind.Name → ((r ≡ false) × (x.kind ≡ kind.Colon)) ⊎ ((is_body x.kind ≡ true) ⊎ (continues_closed x.kind ≡ true)) → (d : ℕ) × ((c : ℕ) → d ≤ c → ClauseGoes body_alone steps_line c ts (length us))
one_deeper t x us z e (inl i) = (1, λ c h. colon_goes t x us i.0 z e i.1 c h)
one_deeper {r} t x us z e (inr (inl i)) = (cost r, λ c h. body_goes_on t x us z e i c h)
one_deeper t x us z e (inr (inr i)) = closed_go t x us z e (closed_cases x.kind i)

pub one_over : (b : ℕ) (ws : List Token) (at : Place) (ts rest : List Token) (r : Bool) (e : Stop) → LoopFront b ws at ts rest → OneName r ts rest → b < cost r → OneOver r rest e → Exact (one labelled_part) continues_statement b ws (refused e)
one_over b ws at ts rest r e z one' low (start.ended ends) = over_at (stop.Syntax (length rest)) (λ e. cc) z refl (λ c k u s s' ts' clear q h. one_none r one' ends c k u s s' ts' q h)
one_over b ws at ts rest r e z one' low (start.over x us is on) =
    let sign = subst (λ (l : List Token). Signed r ts (one'.name ∷ l)) is one'.signed in
    over_at (stop.Deep (length us)) (λ e. cc) z (sym (ap length is)) (λ c k u s s' ts' clear q h. one_deep b r one' low is c k u s s' ts' q h, one_deeper one'.name x us sign one'.is_name (one_cases r x.kind on))

-- a name, or `&` and a name, and a comma
more_front : {r : Bool} {ts last : List Token} → MoreNames r ts last → Fronted (cost r) ts last
more_front {last = last} z = record { value = value_of z.signed z.name; comma = z.comma; kind = z.is_comma; found = front_found z.name (z.comma ∷ last) z.signed z.is_name (ap (continues Or Header) z.is_comma) }

record Ended (last : List Token) (left : ℕ) : Type 0 where
  rest : List Token
  run : runs.Undeclared last rest
  far : left ≤ length rest

closed_comma : (us : List Token) → bound.EndsClosed us → StartsWithout kind.Comma us
closed_comma [] e = tt
closed_comma (t ∷ us) e = λ k. not_both (continues_closed t.kind) (ap continues_closed k) e

second_colon : (last us : List Token) (t : Token) → last ≡ t ∷ us → t.kind ≡ kind.Name → start.NoColon last → StartsWithout kind.Colon us
second_colon last [] t is e none = tt
second_colon last (c ∷ us) t is e none = λ k. none t c us is e k

last_ended : {last : List Token} {left : ℕ} → start.NoColon last → LastOver last (stop.Syntax left) → Ended last left
last_ended {last} none (bound.unread _ f broken) = record { rest = last; run = runs.unnamed last f; far = broken.short }
last_ended {last} none (bound.ended t us is f ends) = record { rest = us; run = subst (λ (l : List Token). runs.Undeclared l us) (sym is) (runs.ended t us f (closed_comma us ends) (second_colon last us t is f none)); far = omega arith }

more_undeclared : {s' : List Sym} {ts' ts last : List Token} {left : ℕ} (r : Bool) (z : MoreNames r ts last) → Signed r ts (z.name ∷ z.comma ∷ last) → (r ≡ false → start.NoColon last) → LastOver last (stop.Syntax left) → (c : ℕ) (x : Decl) (s : List Sym) → Reach s' ts' (g.declaration Header c x ∷ s) ts → size s' ts' ≤ 2 * left → ⊥
more_undeclared {last = last} false z sign none o c x s q h =
    let y = last_ended (none refl) o in
    let far = y.far in
    front_undeclared sign y.rest (runs.again z.name z.comma last y.rest z.is_name z.is_comma y.run) c x s q (omega (arith, h, far))
more_undeclared {ts = ts} {last = last} {left = left} true z sign none o c x s q h =
    let short = signed_short sign in
    let far = syntax_short o in
    unnamed_dead ts (stop.Syntax left) (signed_unnamed sign) (omega (arith, short, far)) c x s _ _ q h

more_none : {ts last : List Token} {left : ℕ} (r : Bool) (z : MoreNames r ts last) → (r ≡ false → start.NoColon last) → LastOver last (stop.Syntax left) → (c : ℕ) (k : Clause) (u : Steps) (s s' : List Sym) (ts' : List Token) → Reach s' ts' (clause_then body_alone steps_line c (k, u) ++ s) ts → size s' ts' ≤ 2 * left → ⊥
more_none r z none o c (declared x t) u s s' ts' q h = more_undeclared r z z.signed none o c x (tok kind.Semicolon t ∷ (steps_line c u ++ s)) q h
more_none {last = last} r z none o c (assigned x t) u s s' ts' q h = simple_none (more_front z) (item last) o c x t (steps_line c u ++ s) q h
more_none {last = last} r z none o c (alone x) u s s' ts' q h =
    let far = syntax_short o in
    let front = more_front z in
    let blocked = body_heads c u.1.1.1 s in
    let y = front.found.only c x (g.body c u.1.1.1 ∷ s) s' ts' (head_clear blocked) q (omega (arith, h, far)) in
    blocked.stops front.comma last s' ts' (ap continues_head front.kind) y.reach (omega (arith, h, far))

list_low : (r : Bool) (b c : ℕ) → b < list_cost r → cost r < c → b < c
list_low false b c low h = omega (arith, low, h)
list_low true b c low h = omega (arith, low, h)

more_declared : {s' : List Sym} {ts' ts us : List Token} {r : Bool} (b : ℕ) → Signed r ts us → b < list_cost r → (c : ℕ) (x : Decl) (s : List Sym) → Reach s' ts' (g.declaration Header c x ∷ s) ts → size s' ts' ≤ 2 * length us → b < c
more_declared {s'} {ts'} {us = us} b (plain _ n) low c x s q h = let k = costs_declaration Header c x s s' us ts' q h in omega (arith, k, low)
more_declared {us = us} b (signed t _ k) low c x s q h = absurd (unnamed_dead (t ∷ us) (stop.Syntax (length us)) (λ e. cc) (omega arith) c x s _ _ q h)

more_deep : {ts last : List Token} {left : ℕ} (b : ℕ) (r : Bool) (z : MoreNames r ts last) → b < list_cost r → suc left ≤ length last → (c : ℕ) (k : Clause) (u : Steps) (s s' : List Sym) (ts' : List Token) → Reach s' ts' (clause_then body_alone steps_line c (k, u) ++ s) ts → size s' ts' ≤ suc (2 * left) → b < c
more_deep b r z low far c (declared d t) u s s' ts' q h = more_declared b z.signed low c d (tok kind.Semicolon t ∷ (steps_line c u ++ s)) q (omega (arith, h, far))
more_deep {ts} {last} b r z low far c (assigned y t) u s s' ts' q h =
    let front = more_front z in
    list_low r b c low (clause_goes (cost r) ts front.value (cost r) (front.comma ∷ last) front.found c y t (steps_line c u ++ s) q (omega (arith, h, far))).1
more_deep {last = last} b r z low far c (alone e) u s s' ts' q h =
    let front = more_front z in
    let blocked = body_heads c u.1.1.1 s in
    let y = front.found.only c e (g.body c u.1.1.1 ∷ s) s' ts' (head_clear blocked) q (omega (arith, h, far)) in
    absurd (blocked.stops front.comma last s' ts' (ap continues_head front.kind) y.reach (omega (arith, h, far)))

more_deeper : {ts last : List Token} {left : ℕ} (r : Bool) (z : MoreNames r ts last) → LastOver last (stop.Deep left) → (d : ℕ) × ((c : ℕ) → d ≤ c → ClauseGoes body_alone steps_line c ts left)
more_deeper {ts} {last} {left} r z o =
    let onward = run_onward (item last) o in (
      suc (suc (suc onward.0)),
      λ c h.
          let j : suc (suc (c - 2)) ≡ c = omega (arith, h) in
          subst (λ (d : ℕ). ClauseGoes body_alone steps_line d ts left) j
          (statement_goes (suc (suc (c - 2)))
          (onward_simple (onward_behind (value_of z.signed z.name) z.comma z.is_comma (λ s. front_reads z.name (z.comma ∷ last) z.signed z.is_name (suc (c - 2)) (few (suc (c - 2)) (omega (arith, h))) s) (onward.1 (c - 2) (omega (arith, h)))))),
    )
  where
    few : (n : ℕ) → 2 ≤ n → cost r ≤ n
    few n h = by r
      where
        by : (r : Bool) → cost r ≤ n
        by true = h
        by false = omega (arith, h)

names_go : {r : Bool} {ts us : List Token} (t c u x : Token) → r ≡ false → Signed r ts (t ∷ c ∷ u ∷ x ∷ us) → t.kind ≡ kind.Name → c.kind ≡ kind.Comma → u.kind ≡ kind.Name → x.kind ≡ kind.Colon → (d : ℕ) → 1 ≤ d → ClauseGoes body_alone steps_line d ts (length us)
names_go t c u x plain' (signed _ _ k) e f i j d h = cc
names_go {us = us} t c u x plain' (plain _ n) e f i j d h =
    let is : suc (d - 1) ≡ d = omega (arith, h) in
    subst (λ (d : ℕ). ClauseGoes body_alone steps_line d (t ∷ c ∷ u ∷ x ∷ us) (length us)) is (record {
      clause = declared (decl t.at (tree.variable (t ∷ u ∷ []) tree.no_type (tree.values tree.no_exprs))) x;
      after = some_steps;
      goes = λ s. record {
        pending = tok kind.Assign x ∷ g.exprs Header (d - 1) tree.no_exprs ∷ tok kind.Semicolon x ∷ (steps_line (suc (d - 1)) some_steps ++ s);
        rest = us;
        rest_is = refl;
        reach = write _ (declare_inferred {a = x}) (write _ (names_more {c = c}) (read e (read f (write _ names_one (read i (read j here))))));
      };
    })

-- where variables end behind a comma
record MorePlace (ts : List Token) (n : ℕ) : Type 0 where
  place : List Token
  unranged : Unranged ts place
  is : n ≡ length place

second_in : {r : Bool} {ts last : List Token} (z : MoreNames r ts last) (us : List Token) (t : Token) → last ≡ t ∷ us → t.kind ≡ kind.Name → StartsWithout kind.In us
second_in z [] t is e = tt
second_in z (i ∷ us) t is e = λ k. z.no_in t i us is e k

more_pair : {r : Bool} {ts last : List Token} (z : MoreNames r ts last) (t : Token) (us : List Token) → last ≡ t ∷ us → t.kind ≡ kind.Name → Unranged ts us
more_pair {r} {ts} z t us is e = start.pair r t us (subst (λ (l : List Token). MoreNames r ts l) is z) e (second_in z us t is e)

more_place : {r : Bool} {ts last : List Token} {e : Stop} → (e ≡ stop.Memory → ⊥) → MoreNames r ts last → MoreOver r last e → MorePlace ts (stop_place e)
more_place {r} {last = last} some z (start.closed e none (bound.unread _ f h)) = record { place = last; unranged = start.more r last z f; is = unread_place last e h some }
more_place some z (start.closed _ none (bound.ended t us is f ends)) = record { place = us; unranged = more_pair z t us is f; is = refl }
more_place some z (start.closed _ none (bound.over t x us is f on)) = record { place = x ∷ us; unranged = more_pair z t (x ∷ us) is f; is = refl }
more_place some z (start.colon t x us plain' is f k) = record { place = x ∷ us; unranged = more_pair z t (x ∷ us) is f; is = refl }

more_clauses : {ts last : List Token} (b : ℕ) (r : Bool) (e : Stop) → MoreNames r ts last → b < list_cost r → MoreOver r last e → ClausesOver continues_statement body_alone steps_line b ts e
more_clauses b r (stop.Syntax left) z low (start.closed _ none o) = λ c k u s s' ts' clear q h. more_none r z none o c k u s s' ts' q h
more_clauses b r (stop.Deep left) z low (start.closed _ none o) = (λ c k u s s' ts' clear q h. more_deep b r z low (deep_short o) c k u s s' ts' q h, more_deeper r z o)
more_clauses b r stop.Memory z low o = tt
more_clauses {ts} b r (stop.Deep _) z low (start.colon t x us plain' is f k) =
    let longer = ap length is in
    let sign = subst (λ (l : List Token). Signed r ts (z.name ∷ z.comma ∷ l)) is z.signed in (
      λ c k u s s' ts' clear q h. more_deep b r z low (omega (arith, longer)) c k u s s' ts' q h,
      (1, λ c h. names_go z.name z.comma t x plain' sign z.is_name z.is_comma f k c h),
    )

pub more_over : (b : ℕ) (ws : List Token) (at : Place) (ts last : List Token) (r : Bool) (e : Stop) → ForAt b ws at ts → StartsWithout kind.OpenBrace ts → StartsWithout kind.Do ts → StartsWithout kind.Semicolon ts → MoreNames r ts last → b < list_cost r → MoreOver r last e → Exact (one labelled_part) continues_statement b ws (refused e)
more_over b ws at ts last r e led f d k z low o =
    by_memory b ws e (λ some.
    let y = more_place some z o in
    over_at e some (record { led = led; no_brace = f; no_do = d; no_semicolon = k; unranged = y.unranged }) y.is (more_clauses b r e z low o))
