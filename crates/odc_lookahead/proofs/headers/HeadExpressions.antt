-- What stands before a body and begins with an expression.
use Rattle.std.proofs.Common.{◌≡◌, ℕ, suc, ◌-◌, ◌*◌, ◌<◌, ◌≤◌, max, true, false, List, [], ◌∷◌, ◌++◌, length, refl, sym, ◌∙◌, ap, subst, arith, Option, Some, None, ◌⊎◌, inl, inr}
use Rattle.odc_syntax.specs.declared.token.Token.{Token}
use Rattle.odc_syntax.specs.declared.token.TokenKind.{TokenKind}
use Rattle.odc_syntax.specs.declared.token.TokenKind.TheVariants as kind
use Rattle.odc_syntax.specs.declared.grammar.Mode.TheVariants as mode
use Rattle.odc_syntax.specs.declared.grammar.Level.TheVariants.{Or}
use Rattle.odc_syntax.specs.declared.tree.AssignOp.{AssignOp}
use Rattle.odc_syntax.specs.Operators.{assignment_of}
use Rattle.odc_syntax.specs.Tree.{Expr, expr, Exprs, Header, Stmt, stmt, Decl, decl, first_of}
use Rattle.odc_syntax.specs.Tree as tree
use Rattle.odc_syntax.specs.Grammar.{Sym, tok, Rule, later, header_none, header_simple, exprs_, exprs_end, exprs_more, simple_eval, simple_assign}
use Rattle.odc_syntax.specs.Grammar as g
use Rattle.odc_syntax.specs.Derives.{Reach, here, read, write, StartsWithout}
use Rattle.odc_lookahead.specs.declared.stop.Stop.{Stop}
use Rattle.odc_lookahead.specs.declared.stop.Stop.TheVariants as stop
use Rattle.odc_lookahead.specs.Exact.{size, Clear, one, ComesAt, Comes, then_, done, token, Exact, Answer, Yes, Found, Broken, TooDeep}
use Rattle.odc_lookahead.specs.Read.{refused}
use Rattle.odc_lookahead.specs.stmts.BodyParts.{head_line}
use Rattle.odc_lookahead.specs.stmts.Runs.{Undeclared, unnamed, ended}
use Rattle.odc_lookahead.specs.Sets.{continues}
use Rattle.odc_lookahead.specs.stmts.StatementSets.{is_assignment, continues_exprs, continues_simple, continues_head, continues_clause, EndsClause}
use Rattle.odc_lookahead.proofs.reading.Opening.{reach_opens, First, StartsWith}
use Rattle.odc_lookahead.proofs.reading.Reaching.{along, behind_part}
use Rattle.odc_lookahead.proofs.reading.Leading.{same_depth, Pending, led_done}
use Rattle.odc_lookahead.proofs.reading.Answering.{answer_is}
use Rattle.odc_lookahead.proofs.expr.WholeLemmas.{costs_expression}
use Rattle.odc_lookahead.proofs.expr.ExprsLemmas.{first_clear, exprs_refused}
use Rattle.odc_lookahead.proofs.stmts.SimpleLemmas.{or_right, assignment_clear, simple_refused, Costly, comes_nowhere}
use Rattle.odc_lookahead.proofs.stmts.DeclarationLemmas.{costs_declaration}
use Rattle.odc_lookahead.proofs.stmts.RunLemmas.{not_declared, reads_name}
use Rattle.odc_lookahead.proofs.headers.HeadLemmas.{HeadReads, by_header, head_clear, semicolon_clear, condition_line, closed_line, simple_line, with_simple, ClosedAt, ConditionAt, closed_clear, last_clear, head_goes}
use Rattle.odc_lookahead.proofs.reading.Deciding.{limit, stop_limit, beyond, nothing_clears, Leads, leads_start, leads_less, leads_part, leads_part_refused, leads_token, leads_led}
use Rattle.odc_lookahead.proofs.reading.Samples as sample

-- an expression that isn't read
head_comes : (b : ℕ) (ts : List Token) (left : ℕ) → Comes (one (g.expression mode.Header)) b ts left → Comes head_line b ts left
unfolding then_ done
head_comes b ts left comes = record {
  at = λ c h.
      let a = comes.at c h in
      record { value = (tree.no_header, (a.value, tt)); before = λ s. let z = a.before s in record { pending = z.pending; rest = z.rest; rest_is = z.rest_is; reach = write _ header_none z.reach } };
}

broken_by : {s' : List Sym} {ts' : List Token} (b : ℕ) (ts : List Token) (left : ℕ) → Broken (one (g.expression mode.Header)) (continues Or mode.Header) b ts left → ((c : ℕ) (d : Decl) (s : List Sym) → Reach s' ts' (g.declaration mode.Header c d ∷ s) ts → ⊥) → (c : ℕ) (h : Header) (e : Expr) (s : List Sym) →
    Clear continues_head s → HeadReads s' ts' c h (g.expression mode.Header c e ∷ s) ts → size s' ts' ≤ 2 * left → ⊥
unfolding HeadReads
broken_by {s'} {ts'} b ts left broken dead c h e s clear (inl z) k = broken.none c e s s' ts' (head_clear clear) z.1 k
broken_by b ts left broken dead c h e s clear (inr (inl (x, (t, z)))) k = dead c x (tok kind.Semicolon t ∷ g.expression mode.Header c e ∷ s) z.1
broken_by {s'} {ts'} b ts left broken dead c h e s clear (inr (inr (x, (t, z)))) k =
    let simple : Broken (one (g.simple mode.Header)) (continues_simple mode.Header) (suc b) ts left = simple_refused mode.Header b ts (stop.Syntax left) (exprs_refused mode.Header b ts (stop.Syntax left) broken) in
    simple.none c x (tok kind.Semicolon t ∷ g.expression mode.Header c e ∷ s) s' ts' (semicolon_clear (continues_simple mode.Header) refl t (g.expression mode.Header c e ∷ s)) z.1 k

head_broken : (b : ℕ) (ts : List Token) (left : ℕ) → Broken (one (g.expression mode.Header)) (continues Or mode.Header) b ts left →
    ((c : ℕ) (d : Decl) (s s' : List Sym) (ts' : List Token) → Reach s' ts' (g.declaration mode.Header c d ∷ s) ts → size s' ts' ≤ 2 * left → ⊥) → Broken head_line continues_head b ts left
unfolding HeadReads then_ done
head_broken b ts left broken dead = record {
  short = broken.short;
  comes = head_comes b ts left broken.comes;
  none = λ c w s s' ts' clear r h.
      let k = broken.short in
      let z = behind_part tt r (omega (arith, h, k)) in
      broken_by b ts left broken (λ c d s r. dead c d s s' ts' r h) c w.0 w.1.0 s clear (by_header c w.0 z.as_symbols z.rule (g.expression mode.Header c w.1.0 ∷ s) ts z.reach) h;
}

deep_by : {s' : List Sym} {ts' : List Token} (b : ℕ) (ts : List Token) (left : ℕ) → TooDeep (one (g.expression mode.Header)) (continues Or mode.Header) b ts left → ((c : ℕ) (d : Decl) (s : List Sym) → Reach s' ts' (g.declaration mode.Header c d ∷ s) ts → b < c) → (c : ℕ) (h : Header) (e : Expr) (s : List Sym) →
    Clear continues_head s → HeadReads s' ts' c h (g.expression mode.Header c e ∷ s) ts → size s' ts' ≤ suc (2 * left) → b < c
unfolding HeadReads
deep_by {s'} {ts'} b ts left deep dead c h e s clear (inl z) k = deep.deep c e s s' ts' (head_clear clear) z.1 k
deep_by b ts left deep dead c h e s clear (inr (inl (x, (t, z)))) k = dead c x (tok kind.Semicolon t ∷ g.expression mode.Header c e ∷ s) z.1
deep_by {s'} {ts'} b ts left deep dead c h e s clear (inr (inr (x, (t, z)))) k =
    let simple : TooDeep (one (g.simple mode.Header)) (continues_simple mode.Header) (suc b) ts left = simple_refused mode.Header b ts (stop.Deep left) (exprs_refused mode.Header b ts (stop.Deep left) deep) in
    let over = simple.deep c x (tok kind.Semicolon t ∷ g.expression mode.Header c e ∷ s) s' ts' (semicolon_clear (continues_simple mode.Header) refl t (g.expression mode.Header c e ∷ s)) z.1 k in
    omega (arith, over)

head_deep : (b : ℕ) (ts : List Token) (left : ℕ) → TooDeep (one (g.expression mode.Header)) (continues Or mode.Header) b ts left →
    ((c : ℕ) (d : Decl) (s s' : List Sym) (ts' : List Token) → Reach s' ts' (g.declaration mode.Header c d ∷ s) ts → size s' ts' ≤ suc (2 * left) → b < c) → TooDeep head_line continues_head b ts left
unfolding HeadReads then_ done
head_deep b ts left deep dead = record {
  short = deep.short;
  comes = head_comes b ts (suc left) deep.comes;
  deep = λ c w s s' ts' clear r h.
      let k = deep.short in
      let z = behind_part tt r (omega (arith, h, k)) in
      deep_by b ts left deep (λ c d s r. dead c d s s' ts' r h) c w.0 w.1.0 s clear (by_header c w.0 z.as_symbols z.rule (g.expression mode.Header c w.1.0 ∷ s) ts z.reach) h;
  depth = deep.depth;
  deeper = head_comes deep.depth ts left deep.deeper;
}

-- no bound allows one
pub named_first : (ts : List Token) → Broken (one (g.expression mode.Header)) (continues Or mode.Header) 0 ts (length ts) → StartsWith kind.Name ts → ⊥
named_first [] broken f = f
named_first (t ∷ us) broken f = broken.none 1 _ [] [] us nothing_clears (reads_name mode.Header t us f 0 []) (omega arith)

pub head_zero : (d : ℕ) (ts : List Token) (e : Stop) → d ≡ 0 → Exact (one (g.expression mode.Header)) (continues Or mode.Header) 0 ts (refused e) → Exact head_line continues_head d ts (refused e)
head_zero d ts e zero' h = subst (λ (k : ℕ). Exact head_line continues_head k ts (refused e)) (sym zero') (at_zero e h)
  where
    costly : Costly (one (g.expression mode.Header)) 0 ts
    costly = record { costs = λ c w s s' ts' r k. costs_expression mode.Header c w s s' ts ts' r k }

    at_zero : (e : Stop) → Exact (one (g.expression mode.Header)) (continues Or mode.Header) 0 ts (refused e) → Exact head_line continues_head 0 ts (refused e)
    at_zero (stop.Syntax left) broken =
        let far = comes_nowhere (one (g.expression mode.Header)) 0 ts left costly broken.short broken.comes in
        let all : Broken (one (g.expression mode.Header)) (continues Or mode.Header) 0 ts (length ts) = subst (λ (n : ℕ). Broken (one (g.expression mode.Header)) (continues Or mode.Header) 0 ts n) far broken in
        head_broken 0 ts left broken (λ c d s s' ts' r k. named_first ts all (reach_opens r (omega (arith, k, far))))
    at_zero (stop.Deep left) deep = head_deep 0 ts left deep (λ c d s s' ts' r k. let short = deep.short in costs_declaration mode.Header c d s s' ts ts' r (omega (arith, k, short)))
    at_zero stop.Memory h = tt

-- no name stands first, or one behind which neither a comma nor a `:` stands
pub record Single (ts rest : List Token) : Type 0 where
  pub run : Undeclared ts rest
  pub value : Expr
  pub pending : List Sym
  pub reach : Reach pending rest (g.expression mode.Header 1 value ∷ []) ts

pub single_none : (ts : List Token) → StartsWithout kind.Name ts → Single ts ts
single_none ts f = record { run = unnamed ts f; value = sample.expr; pending = g.expression mode.Header 1 sample.expr ∷ []; reach = here }

pub single_name : (ts : List Token) (t : Token) (us : List Token) → ts ≡ t ∷ us → t.kind ≡ kind.Name → StartsWithout kind.Comma us → StartsWithout kind.Colon us → Single ts us
single_name ts t us is e f k = subst (λ (l : List Token). Single l us) (sym is) (record { run = ended t us e f k; value = expr t.at t.at (tree.name t); pending = []; reach = reads_name mode.Header t us e 0 [] })

pub single_beyond : (b : ℕ) (ts rest : List Token) (r : Answer Expr) → 0 < b → Single ts rest → Exact (one (g.expression mode.Header)) (continues Or mode.Header) b ts r → limit r ≤ 2 * length rest
single_beyond b ts rest r some z h = beyond (one (g.expression mode.Header)) (continues Or mode.Header) b ts r 1 z.value z.pending rest (omega (arith, some)) z.reach h

pub head_single_refused : (b : ℕ) (ts rest : List Token) (e : Stop) → 0 < b → Single ts rest → Exact (one (g.expression mode.Header)) (continues Or mode.Header) b ts (refused e) → Exact head_line continues_head b ts (refused e)
head_single_refused b ts rest (stop.Syntax left) some z h =
    let far = single_beyond b ts rest (refused (stop.Syntax left)) some z h in
    head_broken b ts left h (λ c d s s' ts' r k. not_declared mode.Header z.run c d s r (omega (arith, k, far)))
head_single_refused b ts rest (stop.Deep left) some z h =
    let far = single_beyond b ts rest (refused (stop.Deep left)) some z h in
    head_deep b ts left h (λ c d s s' ts' r k. absurd (not_declared mode.Header z.run c d s r (omega (arith, k, far))))
head_single_refused b ts rest stop.Memory some z h = tt

-- an expression is read
pub record HeadExpression (b : ℕ) (ts place : List Token) (v : Expr) (n : ℕ) (rest : List Token) : Type 0 where
  pub some : 0 < b
  pub single : Single ts place
  pub found : Found (one (g.expression mode.Header)) (continues Or mode.Header) b ts v n rest

-- what stands behind the first expression of a simple statement
kind_first : (k : TokenKind) (ts : List Token) → continues_clause k ≡ true → StartsWith k ts → First continues_clause ts
kind_first k [] e f = f
kind_first k (t ∷ ts) e f = ap continues_clause f ∙ e

more_first : {s' : List Sym} {ts' : List Token} (c : ℕ) (es : Exprs) (k : TokenKind) (t : Token) (s : List Sym) (rest : List Token) → continues_clause k ≡ true → Reach s' ts' (g.more_exprs (later mode.Header) c es ∷ tok k t ∷ s) rest → size s' ts' ≤ 2 * length rest → First continues_clause rest
more_first {s'} {ts'} c es k t s rest e r h = let z = behind_part tt r h in by_rule es z.as_symbols z.rule z.reach
  where
    by_rule : (es : Exprs) (p : List Sym) → Rule (g.more_exprs (later mode.Header) c es) p → Reach s' ts' (p ++ (tok k t ∷ s)) rest → First continues_clause rest
    by_rule es p exprs_end r = kind_first k rest e (reach_opens r h)
    by_rule es p exprs_more r = kind_first kind.Comma rest refl (reach_opens r h)

assignment_goes : (k : TokenKind) (op : AssignOp) → assignment_of k ≡ Some op → continues_clause k ≡ true
assignment_goes kind.Comma op e = refl
assignment_goes kind.Semicolon op e = refl
assignment_goes _ op e = ap is_assignment e

-- a simple statement and its `;` go on behind the expression, one level deeper
pub clause_goes : {s' : List Sym} {ts' : List Token} (b : ℕ) (ts : List Token) (v : Expr) (n : ℕ) (rest : List Token) → Found (one (g.expression mode.Header)) (continues Or mode.Header) b ts v n rest → (c : ℕ) (x : Stmt) (t : Token) (s : List Sym) →
    Reach s' ts' (g.simple mode.Header c x ∷ tok kind.Semicolon t ∷ s) ts → size s' ts' ≤ 2 * length rest → First continues_clause rest × (n < c)
clause_goes {s'} {ts'} b ts v n rest found c x t s r h = let k = found.short in let z = behind_part tt r (omega (arith, h, k)) in by_rule c x z.as_symbols z.rule z.reach
  where
    by_exprs : (c : ℕ) (es : Exprs) (p : List Sym) → Rule (g.exprs mode.Header c es) p → (k : TokenKind) (u : Token) (q : List Sym) → continues_clause k ≡ true → Clear (continues_exprs mode.Header) (tok k u ∷ q) → Reach s' ts' (p ++ (tok k u ∷ q)) ts → First continues_clause rest × (n ≤ c)
    by_exprs c es p (exprs_ {e = e} {es = l}) k u q on clear r =
        let z = found.only c e (g.more_exprs (later mode.Header) c l ∷ tok k u ∷ q) s' ts' (first_clear mode.Header c l (tok k u ∷ q) clear) r h in
        (more_first c l k u q rest on z.reach h, z.bound)

    by_rule : (c : ℕ) (x : Stmt) (p : List Sym) → Rule (g.simple mode.Header c x) p → Reach s' ts' (p ++ (tok kind.Semicolon t ∷ s)) ts → First continues_clause rest × (n < c)
    by_rule c x p (simple_eval {b = d} {e = e} {es = es}) r =
        let k = found.short in
        let y = behind_part tt r (omega (arith, h, k)) in
        let z = by_exprs d (tree.more_exprs e es) y.as_symbols y.rule kind.Semicolon t s refl (semicolon_clear (continues_exprs mode.Header) refl t s) y.reach in
        let deep = z.1 in
        (z.0, omega (arith, deep))
    by_rule c x p (simple_assign {b = d} {places = places} {values = values} {k = a} {t = u} {op = op} f) r =
        let k = found.short in
        let y = behind_part tt r (omega (arith, h, k)) in
        let z = by_exprs d places y.as_symbols y.rule a u (g.exprs (later mode.Header) d values ∷ tok kind.Semicolon t ∷ s) (assignment_goes a op f) (assignment_clear mode.Header a op f u (g.exprs (later mode.Header) d values ∷ tok kind.Semicolon t ∷ s)) y.reach in
        let deep = z.1 in
        (z.0, omega (arith, deep))

pub clause_ends : (rest : List Token) → EndsClause rest → First continues_clause rest → ⊥
clause_ends [] e f = f
clause_ends (t ∷ us) e f = let bad : true ≡ false = sym f ∙ e in cc

-- the expression is the condition
abbrev alone_node : Expr × Unit {0} → Header × (Expr × Unit {0})
alone_node u = (tree.no_header, u)

alone_by : {s' : List Sym} {ts' : List Token} (b : ℕ) (ts place : List Token) (v : Expr) (n : ℕ) (rest : List Token) → HeadExpression b ts place v n rest → EndsClause rest → (c : ℕ) (h : Header) (e : Expr) (s : List Sym) → HeadReads s' ts' c h (g.expression mode.Header c e ∷ s) ts → size s' ts' ≤ 2 * length rest →
    Pending (λ n. n) condition_line alone_node 0 ts c (h, (e, tt)) s s' ts'
unfolding HeadReads then_ done
alone_by b ts place v n rest z ends c h e s (inl y) k = record { at = c; value = (e, tt); bound = refl; whole = ap (λ (h : Header). (h, (e, tt))) y.0; deep = omega arith; reach = y.1 }
alone_by b ts place v n rest z ends c h e s (inr (inl (x, (t, y)))) k =
    let far = single_beyond b ts place (Yes v n rest) z.some z.single z.found in
    absurd (not_declared mode.Header z.single.run c x (tok kind.Semicolon t ∷ g.expression mode.Header c e ∷ s) y.1 (omega (arith, k, far)))
alone_by b ts place v n rest z ends c h e s (inr (inr (x, (t, y)))) k = absurd (clause_ends rest ends (clause_goes b ts v n rest z.found c x t (g.expression mode.Header c e ∷ s) y.1 k).0)

pub head_alone : (b : ℕ) (ts place : List Token) (v : Expr) (n : ℕ) (rest : List Token) → HeadExpression b ts place v n rest → EndsClause rest → Found head_line continues_head b ts (tree.no_header, (v, tt)) n rest
unfolding HeadReads then_ done
head_alone b ts place v n rest z ends =
    let k = z.found.short in
    answer_is refl (omega arith)
    (led_done same_depth
    (leads_led (omega arith)
    (leads_part same_depth (omega arith) (omega arith)
    (leads_start {p = head_line} {cont = continues_head} {up = λ n. n} b ts condition_line alone_node (2 * length rest) (sample.expr, tt) same_depth (omega arith) (λ c u s. write _ header_none here)
    (λ c w s s' ts' clear r h. let y = behind_part tt r (omega (arith, h, k)) in alone_by b ts place v n rest z ends c w.0 w.1.0 s (by_header c w.0 y.as_symbols y.rule (g.expression mode.Header c w.1.0 ∷ s) ts y.reach) h))
    z.found last_clear)))

-- a simple statement begins with the expression
pub clause_head : (k : TokenKind) → continues_clause k ≡ true → continues_head k ≡ true
clause_head kind.Comma e = refl
clause_head kind.Semicolon e = refl
clause_head kind.Colon e = refl
clause_head k e = head_goes k (or_right (continues_exprs mode.Header k) _ e)

clause_by : {s' : List Sym} {ts' : List Token} (b : ℕ) (ts place : List Token) (v : Expr) (n : ℕ) (rest : List Token) (t : Token) (us : List Token) → HeadExpression b ts place v n rest → rest ≡ t ∷ us → continues_clause t.kind ≡ true → (c : ℕ) (h : Header) (e : Expr) (s : List Sym) → Clear continues_head s →
    HeadReads s' ts' c h (g.expression mode.Header c e ∷ s) ts → size s' ts' ≤ suc (2 * length us) → Pending (λ n. n) simple_line with_simple 0 ts c (h, (e, tt)) s s' ts'
unfolding HeadReads then_ token done
clause_by {s'} {ts'} b ts place v n rest t us z is on c h e s clear (inl y) k =
    let longer : length rest ≡ suc (length us) = ap length is in
    let x = z.found.only c e s s' ts' (head_clear clear) y.1 (omega (arith, k, longer)) in
    absurd (clear.stops t us s' ts' (clause_head t.kind on) (subst (λ (l : List Token). Reach s' ts' s l) is x.reach) k)
clause_by b ts place v n rest t us z is on c h e s clear (inr (inl (x, (u, y)))) k =
    let longer : length rest ≡ suc (length us) = ap length is in
    let far = single_beyond b ts place (Yes v n rest) z.some z.single z.found in
    absurd (not_declared mode.Header z.single.run c x (tok kind.Semicolon u ∷ g.expression mode.Header c e ∷ s) y.1 (omega (arith, k, far, longer)))
clause_by b ts place v n rest t us z is on c h e s clear (inr (inr (x, (u, y)))) k = record { at = c; value = (x, (u, (e, tt))); bound = refl; whole = ap (λ (h : Header). (h, (e, tt))) y.0; deep = omega arith; reach = y.1 }

clause_leads : (b : ℕ) (ts place : List Token) (v : Expr) (n : ℕ) (rest : List Token) (t : Token) (us : List Token) → HeadExpression b ts place v n rest → rest ≡ t ∷ us → continues_clause t.kind ≡ true →
    Leads head_line continues_head (λ n. n) b ts simple_line with_simple 0 ts (suc (2 * length us))
unfolding HeadReads then_ token done
clause_leads b ts place v n rest t us z is on =
    let short = z.found.short in
    let longer : length rest ≡ suc (length us) = ap length is in
    leads_start b ts simple_line with_simple (suc (2 * length us)) (stmt sample.place tree.fallthrough, (sample.token, (sample.expr, tt))) same_depth (omega arith) (λ c u s. write _ header_simple here)
    (λ c w s s' ts' clear r h. let y = behind_part tt r (omega (arith, h, short, longer)) in clause_by b ts place v n rest t us z is on c w.0 w.1.0 s clear (by_header c w.0 y.as_symbols y.rule (g.expression mode.Header c w.1.0 ∷ s) ts y.reach) h)

-- what a simple statement may begin with behind its first expression
abbrev pub GoesOn : TokenKind → Type 0
GoesOn k = (k ≡ kind.Comma) ⊎ ((op : AssignOp) × (assignment_of k ≡ Some op))

goes_reads : (b : ℕ) (ts : List Token) (v : Expr) (n : ℕ) (rest : List Token) (t : Token) (us : List Token) → Found (one (g.expression mode.Header)) (continues Or mode.Header) b ts v n rest → rest ≡ t ∷ us → GoesOn t.kind → (c : ℕ) → n ≤ c →
    (x : Stmt) × ((s : List Sym) → (q : List Sym) × Reach q us (g.simple mode.Header (suc c) x ∷ s) ts)
goes_reads b ts v n rest t us found is (inl e) c h = (
  stmt (first_of v) (tree.eval (tree.more_exprs v (tree.more_exprs sample.expr tree.no_exprs))),
  λ s. (
    g.expression (later mode.Header) c sample.expr ∷ g.more_exprs (later mode.Header) c tree.no_exprs ∷ s,
    write _ simple_eval (write _ exprs_ (along (found.reads c h (g.more_exprs (later mode.Header) c (tree.more_exprs sample.expr tree.no_exprs) ∷ s))
        (subst (λ (l : List Token). Reach (g.expression (later mode.Header) c sample.expr ∷ g.more_exprs (later mode.Header) c tree.no_exprs ∷ s) us (g.more_exprs (later mode.Header) c (tree.more_exprs sample.expr tree.no_exprs) ∷ s) l) (sym is)
        (write _ (exprs_more {t = t}) (read e here))))),
  ),
)
goes_reads b ts v n rest t us found is (inr (op, e)) c h = (
  stmt t.at (tree.assign (tree.more_exprs v tree.no_exprs) op tree.no_exprs),
  λ s. (
    g.exprs (later mode.Header) c tree.no_exprs ∷ s,
    write _ (simple_assign {k = t.kind} {t = t} e) (write _ exprs_ (along (found.reads c h (g.more_exprs (later mode.Header) c tree.no_exprs ∷ tok t.kind t ∷ g.exprs (later mode.Header) c tree.no_exprs ∷ s))
        (subst (λ (l : List Token). Reach (g.exprs (later mode.Header) c tree.no_exprs ∷ s) us (g.more_exprs (later mode.Header) c tree.no_exprs ∷ tok t.kind t ∷ g.exprs (later mode.Header) c tree.no_exprs ∷ s) l) (sym is)
        (write _ exprs_end (read refl here))))),
  ),
)

-- behind what is as deep as it may be
pub clause_reads : (b : ℕ) (ts : List Token) (v : Expr) (n : ℕ) (rest : List Token) (t : Token) (us : List Token) → Found (one (g.expression mode.Header)) (continues Or mode.Header) b ts v n rest → rest ≡ t ∷ us → GoesOn t.kind ⊎ (t.kind ≡ kind.Semicolon) → (c : ℕ) → n ≤ c →
    (x : Stmt) × ((s : List Sym) → (q : List Sym) × Reach q us (g.simple mode.Header (suc c) x ∷ tok kind.Semicolon t ∷ s) ts)
clause_reads b ts v n rest t us found is (inl e) c h = let z = goes_reads b ts v n rest t us found is e c h in (z.0, λ s. z.1 (tok kind.Semicolon t ∷ s))
clause_reads b ts v n rest t us found is (inr e) c h = (
  stmt (first_of v) (tree.eval (tree.more_exprs v tree.no_exprs)),
  λ s. (
    s,
    write _ simple_eval (write _ exprs_ (along (found.reads c h (g.more_exprs (later mode.Header) c tree.no_exprs ∷ tok kind.Semicolon t ∷ s))
        (subst (λ (l : List Token). Reach s us (g.more_exprs (later mode.Header) c tree.no_exprs ∷ tok kind.Semicolon t ∷ s) l) (sym is)
        (write _ exprs_end (read e here))))),
  ),
)

assigned : (k : TokenKind) (o : Option AssignOp) → assignment_of k ≡ o → is_assignment o ≡ true → (op : AssignOp) × (assignment_of k ≡ Some op)
assigned k (Some op) i e = (op, i)
assigned k None i e = cc

pub clause_kinds : (k : TokenKind) → continues_clause k ≡ true → GoesOn k ⊎ (k ≡ kind.Semicolon)
clause_kinds kind.Comma e = inl (inl refl)
clause_kinds kind.Semicolon e = inr refl
clause_kinds k e = inl (inr (assigned k (assignment_of k) refl e))

pub head_over : (b : ℕ) (ts place : List Token) (v : Expr) (n : ℕ) (rest : List Token) (t : Token) (us : List Token) → HeadExpression b ts place v n rest → rest ≡ t ∷ us → continues_clause t.kind ≡ true → b ≤ n → TooDeep head_line continues_head b ts (length us)
unfolding then_ token done
head_over b ts place v n rest t us z is on over =
    let short = z.found.short in
    let longer : length rest ≡ suc (length us) = ap length is in
    let leads = clause_leads b ts place v n rest t us z is on in
    record {
      short = omega (arith, short, longer);
      comes = subst (λ (k : ℕ). Comes head_line b ts k) longer (head_comes b ts (length rest) z.found.comes);
      deep = λ c w s s' ts' clear r h.
          let q = leads.only c w s s' ts' clear r h in
          let y = clause_goes b ts v n rest z.found q.at q.value.0 q.value.1.0 (g.expression mode.Header q.at q.value.1.1.0 ∷ s) q.reach (omega (arith, h, longer)) in
          let deep = y.1 in
          let e = q.bound in
          omega (arith, deep, e, over);
      depth = suc n;
      deeper = record {
        at = λ c h.
            let x = clause_reads b ts v n rest t us z.found is (clause_kinds t.kind on) (c - 1) (omega (arith, h)) in
            let e : suc (c - 1) ≡ c = omega (arith, h) in
            subst (λ (d : ℕ). ComesAt head_line d ts (length us)) e (record {
              value = (tree.simple_header x.0, (sample.expr, tt));
              before = λ s.
                  let y = x.1 (g.expression mode.Header (suc (c - 1)) sample.expr ∷ s) in
                  record { pending = y.0; rest = us; rest_is = refl; reach = write _ (header_simple {t = t}) y.1 };
            });
      };
    }

-- a comma or an operator of an assignment follows
pub goes_clause : (k : TokenKind) → GoesOn k → continues_clause k ≡ true
goes_clause k (inl e) = ap continues_clause e
goes_clause k (inr (op, e)) = assignment_goes k op e

pub clause_limit : (b d : ℕ) (ts : List Token) (v : Expr) (n : ℕ) (rest : List Token) (t : Token) (us : List Token) (r : Answer Stmt) → b ≡ suc d → Found (one (g.expression mode.Header)) (continues Or mode.Header) b ts v n rest → n ≤ d → rest ≡ t ∷ us → GoesOn t.kind →
    Exact (one (g.simple mode.Header)) (continues_simple mode.Header) b ts r → limit r ≤ 2 * length us
clause_limit b d ts v n rest t us r e found within is on h =
    let z = goes_reads b ts v n rest t us found is on d within in
    let y = z.1 [] in
    beyond (one (g.simple mode.Header)) (continues_simple mode.Header) b ts r (suc d) z.0 y.0 us (omega (arith, e)) y.1 h

pub stop_clause : (b d : ℕ) (ts : List Token) (v : Expr) (n : ℕ) (rest : List Token) (t : Token) (us : List Token) (e : Stop) → b ≡ suc d → Found (one (g.expression mode.Header)) (continues Or mode.Header) b ts v n rest → n ≤ d → rest ≡ t ∷ us → GoesOn t.kind →
    Exact (one (g.simple mode.Header)) (continues_simple mode.Header) b ts (refused e) → stop_limit e ≤ 2 * length us
stop_clause b d ts v n rest t us (stop.Syntax left) e found within is on h = clause_limit b d ts v n rest t us (refused (stop.Syntax left)) e found within is on h
stop_clause b d ts v n rest t us (stop.Deep left) e found within is on h = clause_limit b d ts v n rest t us (refused (stop.Deep left)) e found within is on h
stop_clause b d ts v n rest t us stop.Memory e found within is on h = omega arith

pub head_clause_refused : (b d : ℕ) (ts place : List Token) (v : Expr) (n : ℕ) (rest : List Token) (t : Token) (us : List Token) (e : Stop) → b ≡ suc d → HeadExpression b ts place v n rest → n ≤ d → rest ≡ t ∷ us → GoesOn t.kind →
    Exact (one (g.simple mode.Header)) (continues_simple mode.Header) b ts (refused e) → Exact head_line continues_head b ts (refused e)
head_clause_refused b d ts place v n rest t us e deeper z within is on h =
    let far = stop_clause b d ts v n rest t us e deeper z.found within is on h in
    leads_part_refused (g.simple mode.Header) (continues_simple mode.Header) closed_line e same_depth (omega arith) (omega (arith, far)) (clause_leads b ts place v n rest t us z is (goes_clause t.kind on)) h (closed_clear (continues_simple mode.Header) refl)

pub head_clause : (b d : ℕ) (ts place : List Token) (v : Expr) (n : ℕ) (rest : List Token) (t : Token) (us : List Token) (x : Stmt) (m : ℕ) (after : List Token) → b ≡ suc d → HeadExpression b ts place v n rest → n ≤ d → rest ≡ t ∷ us → GoesOn t.kind →
    Found (one (g.simple mode.Header)) (continues_simple mode.Header) b ts x m after → ClosedAt b ts (tree.simple_header x) m after
head_clause b d ts place v n rest t us x m after deeper z within is on found =
    let far = clause_limit b d ts v n rest t us (Yes x m after) deeper z.found within is on found in
    subst (λ (k : ℕ). ClosedAt b ts (tree.simple_header x) k after) zero_max
    (leads_led (omega arith) (leads_part same_depth (omega arith) (omega arith) (leads_less {less = 2 * length after} (omega (arith, far)) (clause_leads b ts place v n rest t us z is (goes_clause t.kind on))) found (closed_clear (continues_simple mode.Header) refl)))
  where
    zero_max : max 0 m ≡ m
    zero_max = omega arith

-- `;` follows
pub head_evaluated : (b d : ℕ) (ts place : List Token) (v : Expr) (n : ℕ) (rest : List Token) (t : Token) (us : List Token) (x : Stmt) → b ≡ suc d → HeadExpression b ts place v n rest → n ≤ d → rest ≡ t ∷ us → t.kind ≡ kind.Semicolon →
    Found (one (g.simple mode.Header)) (continues_simple mode.Header) b ts x (suc n) rest → ConditionAt b ts (tree.simple_header x) (suc n) us
head_evaluated b d ts place v n rest t us x deeper z within is e found =
    let longer : length rest ≡ suc (length us) = ap length is in
    subst (λ (k : ℕ). ConditionAt b ts (tree.simple_header x) k us) zero_max
    (leads_led (omega arith)
    (leads_token same_depth (omega (arith, within, deeper)) (omega (arith, longer))
    (leads_part same_depth (omega arith) (omega (arith, longer)) (clause_leads b ts place v n rest t us z is (ap continues_clause e)) found (closed_clear (continues_simple mode.Header) refl)) is e))
  where
    zero_max : max 0 (suc n) ≡ suc n
    zero_max = omega arith
