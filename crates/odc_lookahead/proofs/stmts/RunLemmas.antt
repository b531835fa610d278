-- Names at the start of a statement: what they may still begin.
use Rattle.std.proofs.Common.{◌≡◌, ℕ, suc, ◌*◌, ◌<◌, ◌≤◌, true, List, [], ◌∷◌, ◌++◌, length, sym, ◌∙◌, ap, arith, Some}
use Rattle.odc_syntax.specs.declared.token.Token.{Token}
use Rattle.odc_syntax.specs.declared.token.TokenKind.{TokenKind}
use Rattle.odc_syntax.specs.declared.token.TokenKind.TheVariants as kind
use Rattle.odc_syntax.specs.declared.grammar.Mode.{Mode}
use Rattle.odc_syntax.specs.declared.grammar.Level.TheVariants.{Or}
use Rattle.odc_syntax.specs.Operators.{assignment_of}
use Rattle.odc_syntax.specs.Tree.{Expr, expr, Exprs, Stmt, stmt, first_of, Decl}
use Rattle.odc_syntax.specs.Tree as tree
use Rattle.odc_syntax.specs.Grammar.{Sym, tok, Rule, later, declare_constant, declare_inferred, declare_typed, names_one, names_more, exprs_, exprs_end, exprs_more, simple_eval, simple_assign}
use Rattle.odc_syntax.specs.Grammar as g
use Rattle.odc_syntax.specs.Derives.{Reach, here, read, write}
use Rattle.odc_lookahead.specs.Exact.{size, Clear, one, Exact, Answer}
use Rattle.odc_lookahead.specs.Sets.{continues}
use Rattle.odc_lookahead.specs.stmts.StatementSets.{continues_exprs, continues_simple, continues_declaration}
use Rattle.odc_lookahead.specs.stmts.DeclarationParts.{inferred}
use Rattle.odc_lookahead.specs.stmts.Runs.{Declares, named, listed, Undeclared, unnamed, ended, again}
use Rattle.odc_lookahead.proofs.reading.Opening.{reach_opens}
use Rattle.odc_lookahead.proofs.reading.Reaching.{along, behind_part, behind_token}
use Rattle.odc_lookahead.proofs.reading.Leading.{without, at_rest}
use Rattle.odc_lookahead.proofs.expr.WholeLemmas.{name_whole}
use Rattle.odc_lookahead.proofs.expr.ExprsLemmas.{more_clear, later_goes_on}
use Rattle.odc_lookahead.proofs.stmts.SimpleLemmas.{assignment_clear, goes_on_simple}
use Rattle.odc_lookahead.proofs.stmts.DeclarationLemmas.{names_node, into_by}
use Rattle.odc_lookahead.proofs.expr.BinaryLemmas.{clear_narrow}
use Rattle.odc_lookahead.proofs.reading.Deciding.{limit, beyond}
use Rattle.odc_lookahead.proofs.reading.Samples as sample

pub run_short : {ts rest : List Token} → Undeclared ts rest → length rest ≤ length ts
run_short (unnamed ts f) = omega arith
run_short (ended t us e f k) = omega arith
run_short (again t c us rest e f u) = let h = run_short u in omega (arith, h)

pub declares_short : {ts rest : List Token} → Declares ts rest → suc (suc (length rest)) ≤ length ts
declares_short (named t k us e f) = omega arith
declares_short (listed t c us rest e f u) = let h = declares_short u in omega (arith, h)

-- where no `:` follows the names, nothing is declared
dead_by : {s' : List Sym} {ts' ts rest : List Token} → Undeclared ts rest → (ns : List Token) (k : Token) (s p : List Sym) → Rule (g.names ns) p → Reach s' ts' (p ++ (tok kind.Colon k ∷ s)) ts → size s' ts' ≤ 2 * length rest → ⊥
dead_by (unnamed ts f) ns k s p names_one r h = let z = behind_token r h in without kind.Name _ _ ts z.is z.kind f
dead_by (unnamed ts f) ns k s p names_more r h = let z = behind_token r h in without kind.Name _ _ ts z.is z.kind f
dead_by (ended t us e f c) ns k s p names_one r h = let z = behind_token r (omega (arith, h)) in let y = behind_token (at_rest z) h in without kind.Colon _ _ us y.is y.kind c
dead_by (ended t us e f c) ns k s p names_more r h = let z = behind_token r (omega (arith, h)) in let y = behind_token (at_rest z) h in without kind.Comma _ _ us y.is y.kind f
dead_by (again t c us rest e f u) ns k s p names_one r h =
    let short = run_short u in
    let z = behind_token r (omega (arith, h, short)) in
    let y : c.kind ≡ kind.Colon = reach_opens (at_rest z) (omega (arith, h, short)) in
    cc
dead_by (again t c us rest e f u) ns k s p (names_more {u = v} {ts = l}) r h =
    let short = run_short u in
    let z = behind_token r (omega (arith, h, short)) in
    let y = behind_token (at_rest z) (omega (arith, h, short)) in
    let x = behind_part tt (at_rest y) (omega (arith, h, short)) in
    dead_by u (v ∷ l) k s x.as_symbols x.rule x.reach h

pub undeclared_dead : {s' : List Sym} {ts' ts rest : List Token} → Undeclared ts rest → (ns : List Token) (k : Token) (s : List Sym) → Reach s' ts' (g.names ns ∷ tok kind.Colon k ∷ s) ts → size s' ts' ≤ 2 * length rest → ⊥
undeclared_dead u ns k s r h = let short = run_short u in let z = behind_part tt r (omega (arith, h, short)) in dead_by u ns k s z.as_symbols z.rule z.reach h

pub not_declared : {s' : List Sym} {ts' ts rest : List Token} (m : Mode) → Undeclared ts rest → (c : ℕ) (w : Decl) (s : List Sym) → Reach s' ts' (g.declaration m c w ∷ s) ts → size s' ts' ≤ 2 * length rest → ⊥
not_declared {s'} {ts'} {ts} {rest} m u c w s r h = let short = run_short u in let z = behind_part tt r (omega (arith, h, short)) in by_rule c w z.as_symbols z.rule z.reach
  where
    by_rule : (c : ℕ) (w : Decl) (p : List Sym) → Rule (g.declaration m c w) p → Reach s' ts' (p ++ s) ts → ⊥
    by_rule c w p declare_constant r = undeclared_dead u _ _ _ r h
    by_rule c w p declare_inferred r = undeclared_dead u _ _ _ r h
    by_rule c w p declare_typed r = undeclared_dead u _ _ _ r h

pub reads_name : (m : Mode) (t : Token) (us : List Token) → t.kind ≡ kind.Name → (c : ℕ) (s : List Sym) → Reach s us (g.expression m (suc c) (expr t.at t.at (tree.name t)) ∷ s) (t ∷ us)
reads_name m t us e c s =
    write _ g.chain_one (write _ g.chain_one (write _ g.chain_one (write _ g.chain_one (write _ g.chain_one (write _ g.unary_one (write _ g.postfix_one (write _ g.operand_name (read e here))))))))

-- what a run of names begins as expressions
pub record Begun (m l : Mode) (c : ℕ) (ts rest : List Token) : Type 0 where
  pub first : Expr
  pub others : Exprs
  pub pending : List Sym
  pub reach : Reach pending rest (g.expression m (suc c) first ∷ g.more_exprs l (suc c) others ∷ []) ts

pub run_begins : {ts rest : List Token} → Undeclared ts rest → (m l : Mode) (c : ℕ) → Begun m l c ts rest
run_begins (unnamed ts f) m l c = record { first = sample.expr; others = tree.no_exprs; pending = _; reach = here }
run_begins (ended t us e f k) m l c = record { first = expr t.at t.at (tree.name t); others = tree.no_exprs; pending = g.more_exprs l (suc c) tree.no_exprs ∷ []; reach = reads_name m t us e c (g.more_exprs l (suc c) tree.no_exprs ∷ []) }
run_begins (again t k us rest e f u) m l c =
    let z = run_begins u l l c in
    record {
      first = expr t.at t.at (tree.name t);
      others = tree.more_exprs z.first z.others;
      pending = z.pending;
      reach = along (reads_name m t (k ∷ us) e c (g.more_exprs l (suc c) (tree.more_exprs z.first z.others) ∷ [])) (write _ (exprs_more {t = k}) (read f z.reach));
    }

pub simple_begins : {ts rest : List Token} → Undeclared ts rest → (m : Mode) (c : ℕ) → (w : Stmt) × ((q : List Sym) × Reach q rest (g.simple m (suc (suc c)) w ∷ []) ts)
simple_begins u m c =
    let z = run_begins u m (later m) c in
    (stmt (first_of z.first) (tree.eval (tree.more_exprs z.first z.others)), (z.pending, write _ simple_eval (write _ exprs_ z.reach)))

-- so what is answered of a simple statement lies behind the run
pub simple_beyond : {ts rest : List Token} (m : Mode) (b : ℕ) (r : Answer Stmt) → Undeclared ts rest → 1 < b → Exact (one (g.simple m)) (continues_simple m) b ts r → limit r ≤ 2 * length rest
simple_beyond {ts} {rest} m b r u some h = let z = simple_begins u m 0 in beyond (one (g.simple m)) (continues_simple m) b ts r 2 z.0 z.1.0 rest (omega (arith, some)) z.1.1 h

-- names and `:`, as a declaration
pub record Heads (ts rest : List Token) : Type 0 where
  pub first : Token
  pub others : List Token
  pub colon : Token
  pub reach : (s : List Sym) → Reach s rest (g.names (first ∷ others) ∷ tok kind.Colon colon ∷ s) ts

pub declares_heads : {ts rest : List Token} → Declares ts rest → Heads ts rest
declares_heads (named t k us e f) = record { first = t; others = []; colon = k; reach = λ s. write _ names_one (read e (read f here)) }
declares_heads (listed t c us rest e f d) =
    let z = declares_heads d in
    record { first = t; others = z.first ∷ z.others; colon = z.colon; reach = λ s. write _ (names_more {c = c}) (read e (read f (z.reach s))) }

pub declaration_beyond : {ts rest : List Token} (m : Mode) (b : ℕ) (r : Answer Decl) → Declares ts rest → 0 < b → Exact (one (g.declaration m)) (continues_declaration m) b ts r → limit r ≤ 2 * length rest
declaration_beyond {ts} {rest} m b r d some h =
    let z = declares_heads d in
    beyond (one (g.declaration m)) (continues_declaration m) b ts r 1 (names_node ((z.first, z.others), (z.colon, inferred sample.token tree.no_exprs))) _ rest (omega (arith, some))
    (write _ (into_by m 0 z.first z.colon z.others (inferred sample.token tree.no_exprs)) (z.reach _)) h

-- where a `:` follows the names, no expressions go on
abbrev Narrower : Mode → Mode → Type 0
Narrower m i = (k : TokenKind) → continues Or i k ≡ true → continues Or m k ≡ true

record AtColon (s' : List Sym) (ts' : List Token) (s : List Sym) (rest : List Token) : Type 0 where
  colon : Token
  kind : colon.kind ≡ kind.Colon
  reach : Reach s' ts' s (colon ∷ rest)

past_names : {s' : List Sym} {ts' ts rest : List Token} → Declares ts rest → (m i : Mode) → Narrower m i → (c : ℕ) (e : Expr) (es : Exprs) (s : List Sym) → Clear (continues_exprs m) s → Reach s' ts' (g.expression i c e ∷ g.more_exprs (later m) c es ∷ s) ts →
    size s' ts' ≤ 2 * length rest → AtColon s' ts' s rest
past_names {s'} {ts'} (named t k us e f) m i same c x es s clear r h =
    let z = (name_whole i t (k ∷ us) e (ap (continues Or i) f)).only c x (g.more_exprs (later m) c es ∷ s) s' ts' (more_clear m i same c es s clear) r (omega (arith, h)) in
    let y = behind_part tt z.reach (omega (arith, h)) in
    by_rule es y.as_symbols y.rule y.reach
  where
    by_rule : (es : Exprs) (p : List Sym) → Rule (g.more_exprs (later m) c es) p → Reach s' ts' (p ++ s) (k ∷ us) → AtColon s' ts' s us
    by_rule es p exprs_end r = record { colon = k; kind = f; reach = r }
    by_rule es p exprs_more r = let bad : k.kind ≡ kind.Comma = reach_opens r (omega (arith, h)) in cc
past_names {s'} {ts'} (listed t k us rest e f d) m i same c x es s clear r h =
    let short = declares_short d in
    let z = (name_whole i t (k ∷ us) e (ap (continues Or i) f)).only c x (g.more_exprs (later m) c es ∷ s) s' ts' (more_clear m i same c es s clear) r (omega (arith, h, short)) in
    let y = behind_part tt z.reach (omega (arith, h, short)) in
    let w = comma_next m k us f c es y.as_symbols y.rule s clear y.reach (omega (arith, h, short)) in
    past_names d m (later m) (later_goes_on m) c w.0 w.1.0 s clear w.1.1 h
  where
    comma_next : (m : Mode) (k : Token) (us : List Token) → k.kind ≡ kind.Comma → (c : ℕ) (es : Exprs) (p : List Sym) → Rule (g.more_exprs (later m) c es) p → (s : List Sym) → Clear (continues_exprs m) s → Reach s' ts' (p ++ s) (k ∷ us) → size s' ts' ≤ 2 * length us →
        (e : Expr) × ((l : Exprs) × Reach s' ts' (g.expression (later m) c e ∷ g.more_exprs (later m) c l ∷ s) us)
    comma_next m k us f c es p exprs_end s clear r h = absurd (clear.stops k us s' ts' (ap (continues_exprs m) f) r (omega (arith, h)))
    comma_next m k us f c es p (exprs_more {e = y} {es = l}) s clear r h = let z = behind_token r (omega (arith, h)) in (y, (l, at_rest z))

pub not_simple : {s' : List Sym} {ts' ts rest : List Token} (m : Mode) → Declares ts rest → (c : ℕ) (w : Stmt) (s : List Sym) → Clear (continues_simple m) s → ((k : Token) → k.kind ≡ kind.Colon → Reach s' ts' s (k ∷ rest) → ⊥) → Reach s' ts' (g.simple m c w ∷ s) ts →
    size s' ts' ≤ 2 * length rest → ⊥
not_simple {s'} {ts'} {ts} {rest} m d c w s clear no_colon r h = let short = declares_short d in let z = behind_part tt r (omega (arith, h, short)) in by_rule c w z.as_symbols z.rule z.reach
  where
    by_exprs : (c : ℕ) (es : Exprs) (p : List Sym) → Rule (g.exprs m c es) p → (s : List Sym) → Clear (continues_exprs m) s → Reach s' ts' (p ++ s) ts → AtColon s' ts' s rest
    by_exprs c es p (exprs_ {e = e} {es = l}) s clear r = past_names d m m (λ k e. e) c e l s clear r h

    by_rule : (c : ℕ) (w : Stmt) (p : List Sym) → Rule (g.simple m c w) p → Reach s' ts' (p ++ s) ts → ⊥
    by_rule c w p (simple_eval {b = b} {e = e} {es = es}) r =
        let short = declares_short d in
        let x = behind_part tt r (omega (arith, h, short)) in
        let z = by_exprs b (tree.more_exprs e es) x.as_symbols x.rule s (clear_narrow (goes_on_simple m) clear) x.reach in
        no_colon z.colon z.kind z.reach
    by_rule c w p (simple_assign {b = b} {places = places} {values = values} {k = k} {t = t} {op = op} f) r =
        let short = declares_short d in
        let x = behind_part tt r (omega (arith, h, short)) in
        let z = by_exprs b places x.as_symbols x.rule (tok k t ∷ g.exprs (later m) b values ∷ s) (assignment_clear m k op f t (g.exprs (later m) b values ∷ s)) x.reach in
        let is : z.colon.kind ≡ k = reach_opens z.reach (omega (arith, h)) in
        let bad : assignment_of kind.Colon ≡ Some op = ap assignment_of (sym z.kind ∙ is) ∙ f in
        cc
