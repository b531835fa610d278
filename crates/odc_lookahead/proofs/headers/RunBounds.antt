-- Several names at the start of a header where one level is left: they may still be declared, and all else
-- is too deep.
use Rattle.std.proofs.Common.{◌≡◌, ℕ, suc, ◌-◌, ◌*◌, ◌<◌, ◌≤◌, Bool, List, [], ◌∷◌, ◌++◌, length, refl, sym, ap, subst, arith, inl, inr}
use Rattle.odc_syntax.specs.declared.token.Token.{Token}
use Rattle.odc_syntax.specs.declared.token.TokenKind.{TokenKind}
use Rattle.odc_syntax.specs.declared.token.TokenKind.TheVariants as kind
use Rattle.odc_syntax.specs.declared.grammar.Mode.TheVariants.{Header}
use Rattle.odc_syntax.specs.declared.grammar.Level.TheVariants.{Or}
use Rattle.odc_syntax.specs.Tree.{Expr, expr, Header as HeaderTree, Decl, decl}
use Rattle.odc_syntax.specs.Tree as tree
use Rattle.odc_syntax.specs.Grammar.{Sym, tok, Rule, names_one, names_more, declare_inferred, header_none, header_decl, header_simple}
use Rattle.odc_syntax.specs.Grammar as g
use Rattle.odc_syntax.specs.Derives.{Reach, here, read, write}
use Rattle.odc_lookahead.specs.declared.stop.Stop.{Stop}
use Rattle.odc_lookahead.specs.declared.stop.Stop.TheVariants as stop
use Rattle.odc_lookahead.specs.stmts.BodyParts.{head_line}
use Rattle.odc_lookahead.specs.stmts.Clauses.{Clause, declared, assigned, alone, clause_then}
use Rattle.odc_lookahead.specs.Exact.{size, Clear, Part, one, Comes, Found, then_, done, Exact}
use Rattle.odc_lookahead.specs.Read.{refused}
use Rattle.odc_lookahead.specs.stmts.RunBounds.{Run, item, again, LastOver, unread, ended, over, RunOver}
use Rattle.odc_lookahead.specs.stmts.Runs.{Undeclared}
use Rattle.odc_lookahead.specs.stmts.Runs as runs
use Rattle.odc_lookahead.specs.Sets.{continues}
use Rattle.odc_lookahead.specs.stmts.StatementSets.{continues_head}
use Rattle.odc_lookahead.proofs.reading.Reaching.{along, behind_part}
use Rattle.odc_lookahead.proofs.reading.Leading.{Rises, same_depth, Pending}
use Rattle.odc_lookahead.proofs.expr.WholeLemmas.{name_whole, costs_expression}
use Rattle.odc_lookahead.proofs.stmts.SimpleLemmas.{comes_nowhere}
use Rattle.odc_lookahead.proofs.stmts.RunLemmas.{not_declared}
use Rattle.odc_lookahead.proofs.headers.HeadLemmas.{HeadReads, by_header, head_clear, condition_line, Listed, listed_run}
use Rattle.odc_lookahead.proofs.headers.HeadExpressions.{clause_goes}
use Rattle.odc_lookahead.proofs.reading.Deciding.{stop_limit, Leads, leads_start}
use Rattle.odc_lookahead.proofs.headers.ListBounds.{run_length, syntax_short, deep_short, Fronted, simple_none, Goes, before, Statement, onward_simple, run_onward}
use Rattle.odc_lookahead.proofs.headers.HeaderOver.{stop_place, ClauseGoes, clause_comes, clauses_over}
use Rattle.odc_lookahead.proofs.reading.Samples as sample

-- where no level is left, nothing is read
pub unread_place : (ts : List Token) (e : Stop) → Exact (one (g.expression Header)) (continues Or Header) 0 ts (refused e) → (e ≡ stop.Memory → ⊥) → stop_place e ≡ length ts
unread_place ts (stop.Syntax left) broken some = comes_nowhere (one (g.expression Header)) 0 ts left (record { costs = λ c w s s' ts' r k. costs_expression Header c w s s' ts ts' r k }) broken.short broken.comes
unread_place ts (stop.Deep left) deep some = comes_nowhere (one (g.expression Header)) 0 ts (suc left) (record { costs = λ c w s s' ts' r k. costs_expression Header c w s s' ts ts' r k }) deep.short deep.comes
unread_place ts stop.Memory h some = absurd (some refl)

-- names up to the last item
record NamesTo (ts last : List Token) (u : Token) : Type 0 where
  first : Token
  others : List Token
  reach : (s : List Sym) → Reach (g.names (u ∷ []) ∷ s) last (g.names (first ∷ others) ∷ s) ts

names_to : {ts last : List Token} → Run ts last → (u : Token) → NamesTo ts last u
names_to (item ts) u = record { first = u; others = []; reach = λ s. here }
names_to (again t c us last e f run) u = let z = names_to run u in record { first = t; others = z.first ∷ z.others; reach = λ s. write _ (names_more {c = c}) (read e (read f (z.reach s))) }

-- and with the last item, if it is a name
record NamesCome (ts : List Token) (left : ℕ) : Type 0 where
  first : Token
  others : List Token
  goes : (s : List Sym) → Goes left (g.names (first ∷ others) ∷ s) ts

names_come : {ts last : List Token} {e : Stop} → Run ts last → LastOver last e → (e ≡ stop.Memory → ⊥) → NamesCome ts (stop_place e)
names_come {last = last} run (unread e f h) some =
    let z = names_to run sample.token in
    record { first = z.first; others = z.others; goes = λ s. record { pending = g.names (sample.token ∷ []) ∷ s; rest = last; rest_is = sym (unread_place last e h some); reach = z.reach s } }
names_come run (ended t us is f ends) some =
    let z = names_to run t in
    record {
      first = z.first;
      others = z.others;
      goes = λ s. record { pending = s; rest = us; rest_is = refl; reach = along (z.reach s) (subst (λ (l : List Token). Reach s us (g.names (t ∷ []) ∷ s) l) (sym is) (write _ names_one (read f here))) };
    }
names_come run (over t x us is f on) some =
    let z = names_to run t in
    record {
      first = z.first;
      others = z.others;
      goes = λ s. record { pending = s; rest = x ∷ us; rest_is = refl; reach = along (z.reach s) (subst (λ (l : List Token). Reach s (x ∷ us) (g.names (t ∷ []) ∷ s) l) (sym is) (write _ names_one (read f here))) };
    }

-- nothing is declared as far as the last item
pub run_limit : {ts rest last : List Token} {e : Stop} → Undeclared ts rest → Run ts last → ((t c : Token) (us : List Token) → last ≡ t ∷ c ∷ us → t.kind ≡ kind.Name → c.kind ≡ kind.Comma → ⊥) → LastOver last e → (e ≡ stop.Memory → ⊥) → stop_limit e ≤ 2 * length rest
run_limit {e = stop.Syntax left} (runs.unnamed ts f) (item _) single o some = let h = syntax_short o in omega (arith, h)
run_limit {e = stop.Deep left} (runs.unnamed ts f) (item _) single o some = let h = deep_short o in omega (arith, h)
run_limit {e = stop.Memory} (runs.unnamed ts f) (item _) single o some = absurd (some refl)
run_limit (runs.unnamed ts f) (again t c us last i j run) single o some = absurd (f i)
run_limit (runs.ended t us f k l) (item _) single (unread e g h) some = absurd (g f)
run_limit (runs.ended t us f k l) (item _) single (ended u vs is g ends) some = let longer = ap length is in omega (arith, longer)
run_limit (runs.ended t us f k l) (item _) single (over u x vs is g on) some = let longer = ap length is in omega (arith, longer)
run_limit (runs.ended t us f k l) (again u c vs last i j run) single o some = absurd (k j)
run_limit (runs.again t c us rest f k u) (item _) single o some = absurd (single t c us refl f k)
run_limit (runs.again t c us rest f k u) (again v d vs last i j run) single o some = run_limit u run single o some

-- the first name
pub listed_front : (ts rest : List Token) → (z : Listed ts rest) → Fronted 1 ts z.others
listed_front ts rest z = record {
  value = expr z.first.at z.first.at (tree.name z.first);
  comma = z.comma;
  kind = z.kind;
  found = subst (λ (l : List Token). Found (one (g.expression Header)) (continues Or Header) 1 l (expr z.first.at z.first.at (tree.name z.first)) 1 (z.comma ∷ z.others)) (sym z.is) (name_whole Header z.first (z.comma ∷ z.others) z.name (ap (continues Or Header) z.kind));
}

listed_others : {ts last : List Token} (rest : List Token) → (z : Listed ts rest) → Run ts last → ((t c : Token) (us : List Token) → last ≡ t ∷ c ∷ us → t.kind ≡ kind.Name → c.kind ≡ kind.Comma → ⊥) → Run z.others last
listed_others rest z (item ts) single = absurd (single z.first z.comma z.others z.is z.name z.kind)
listed_others {last = last} rest z (again t c us _ f k run) single = let same : us ≡ z.others = let e = z.is in cc in subst (λ (l : List Token). Run l last) same run

module _ {V U : Type 0} {p : Part V} {cont : TokenKind → Bool} {up : ℕ → ℕ} {b : ℕ} {ts ws : List Token} (bare closed : Part U) {f : Clause × U → V} (rises : Rises up)
    (stops : (c : ℕ) (u : U) (s : List Sym) → Clear cont s → Clear continues_head (bare c u ++ s)) {far : ℕ} (led : Leads p cont up b ws (clause_then bare closed) f 0 ts far) where
  declared_goes : (left c : ℕ) → 1 ≤ c → NamesCome ts left → ClauseGoes bare closed c ts left
  declared_goes left c h names =
      let e : suc (c - 1) ≡ c = omega (arith, h) in
      subst (λ (d : ℕ). ClauseGoes bare closed d ts left) e (record {
        clause = declared (decl names.first.at (tree.variable (names.first ∷ names.others) tree.no_type (tree.values tree.no_exprs))) sample.token;
        after = led.sample.1;
        goes = λ s.
            before (write _ (declare_inferred {c = sample.token} {a = sample.token}) here)
            (names.goes (tok kind.Colon sample.token ∷ tok kind.Assign sample.token ∷ g.exprs Header (c - 1) tree.no_exprs ∷ tok kind.Semicolon sample.token ∷ closed (suc (c - 1)) led.sample.1 ++ s));
      })

  none_by : {last : List Token} {left : ℕ} (rest : List Token) → (z : Listed ts rest) → Run z.others last → LastOver last (stop.Syntax left) → left ≤ length rest → (c : ℕ) (k : Clause) (u : U) (s s' : List Sym) (ts' : List Token) → Clear cont s → Reach s' ts' (clause_then bare closed c (k, u) ++ s) ts → size s' ts' ≤ 2 * left → ⊥
  none_by rest z run o far c (declared x t) u s s' ts' clear r h = not_declared Header (listed_run ts rest z) c x (tok kind.Semicolon t ∷ (closed c u ++ s)) r (omega (arith, h, far))
  none_by rest z run o far c (assigned x t) u s s' ts' clear r h = simple_none (listed_front ts rest z) run o c x t (closed c u ++ s) r h
  none_by rest z run o far c (alone e) u s s' ts' clear r h =
      let front = listed_front ts rest z in
      let short = run_length run in
      let k = syntax_short o in
      let y = front.found.only c e (bare c u ++ s) s' ts' (head_clear (stops c u s clear)) r (omega (arith, h, short, k)) in
      let blocked = stops c u s clear in
      blocked.stops front.comma z.others s' ts' (ap continues_head front.kind) y.reach (omega (arith, h, short, k))

  deep_by : {last : List Token} {left : ℕ} (rest : List Token) → (z : Listed ts rest) → Run z.others last → LastOver last (stop.Deep left) → suc (2 * left) ≤ 2 * length rest → (c : ℕ) (k : Clause) (u : U) (s s' : List Sym) (ts' : List Token) → Clear cont s → Reach s' ts' (clause_then bare closed c (k, u) ++ s) ts →
      size s' ts' ≤ suc (2 * left) → 1 < c
  deep_by rest z run o far c (declared x t) u s s' ts' clear r h = absurd (not_declared Header (listed_run ts rest z) c x (tok kind.Semicolon t ∷ (closed c u ++ s)) r (omega (arith, h, far)))
  deep_by rest z run o far c (assigned x t) u s s' ts' clear r h =
      let front = listed_front ts rest z in
      let short = run_length run in
      let k = deep_short o in
      (clause_goes 1 ts front.value 1 (front.comma ∷ z.others) front.found c x t (closed c u ++ s) r (omega (arith, h, short, k))).1
  deep_by rest z run o far c (alone e) u s s' ts' clear r h =
      let front = listed_front ts rest z in
      let short = run_length run in
      let k = deep_short o in
      let y = front.found.only c e (bare c u ++ s) s' ts' (head_clear (stops c u s clear)) r (omega (arith, h, short, k)) in
      let blocked = stops c u s clear in
      absurd (blocked.stops front.comma z.others s' ts' (ap continues_head front.kind) y.reach (omega (arith, h, short, k)))

  -- a simple statement goes on
  pub statement_goes : (left d : ℕ) → ((c : ℕ) → d ≤ suc c → Statement (suc (suc c)) ts left) → (c : ℕ) → suc (suc d) ≤ c → ClauseGoes bare closed c ts left
  statement_goes left d goes c h =
      let e : suc (suc (c - 2)) ≡ c = omega (arith, h) in
      let z = goes (c - 2) (omega (arith, h)) in
      subst (λ (k : ℕ). ClauseGoes bare closed k ts left) e (record { clause = assigned z.value z.close; after = led.sample.1; goes = λ s. z.goes (closed (suc (suc (c - 2))) led.sample.1 ++ s) })

  at_one : (rest : List Token) (e : Stop) → (e ≡ stop.Memory → ⊥) → stop_limit e ≤ far → b ≡ 1 → (z : Listed ts rest) → RunOver ts e → Exact p cont (up b) ws (refused e)
  at_one rest (stop.Syntax left) some within one' z o =
      let limit = run_limit (listed_run ts rest z) o.run o.alone o.over some in
      let run = listed_others rest z o.run o.alone in
      let k = syntax_short o.over in
      let short = run_length o.run in
      clauses_over bare closed rises led (stop.Syntax left) within (omega (arith, k, short)) (subst (λ (d : ℕ). Comes p (up d) ws left) (sym one') (clause_comes bare closed rises led 1 left (λ c h. declared_goes left c h (names_come o.run o.over some))))
      (none_by rest z run o.over (omega (arith, limit)))
  at_one rest (stop.Deep left) some within one' z o =
      let limit = run_limit (listed_run ts rest z) o.run o.alone o.over some in
      let run = listed_others rest z o.run o.alone in
      let k = deep_short o.over in
      let short = run_length o.run in
      let front = listed_front ts rest z in
      let onward = run_onward o.run o.over in
      clauses_over bare closed rises led (stop.Deep left) within (omega (arith, k, short)) (subst (λ (d : ℕ). Comes p (up d) ws (suc left)) (sym one') (clause_comes bare closed rises led 1 (suc left) (λ c h. declared_goes (suc left) c h (names_come o.run o.over some)))) (
        (λ c k u s s' ts' clear r h. let d = deep_by rest z run o.over limit c k u s s' ts' clear r h in omega (arith, d, one')),
        (suc (suc onward.0), λ c h. statement_goes left onward.0 (λ c h. onward_simple (onward.1 c h)) c h),
      )
  at_one rest stop.Memory some within one' z o = tt

  pub clause_run_over : (rest : List Token) (e : Stop) → stop_limit e ≤ far → b ≡ 1 → Listed ts rest → RunOver ts e → Exact p cont (up b) ws (refused e)
  clause_run_over rest (stop.Syntax left) within one' z o = at_one rest (stop.Syntax left) (λ e. cc) within one' z o
  clause_run_over rest (stop.Deep left) within one' z o = at_one rest (stop.Deep left) (λ e. cc) within one' z o
  clause_run_over rest stop.Memory within one' z o = tt

-- what stands before a body is a clause
abbrev head_bare : Part (Expr × Unit {0})
head_bare c u = []

abbrev head_of : Clause × (Expr × Unit {0}) → HeaderTree × (Expr × Unit {0})
head_of (declared d t, u) = (tree.decl_header d, u)
head_of (assigned x t, u) = (tree.simple_header x, u)
head_of (alone e, u) = (tree.no_header, (e, tt))

head_into : (c : ℕ) (u : Clause × (Expr × Unit {0})) (s : List Sym) (ts : List Token) → Reach (clause_then head_bare condition_line c u ++ s) ts (head_line c (head_of u) ++ s) ts
unfolding then_ done
head_into c (declared d t, u) s ts = write _ header_decl here
head_into c (assigned x t, u) s ts = write _ header_simple here
head_into c (alone e, u) s ts = write _ header_none here

head_by : {s' : List Sym} {ts' : List Token} (c : ℕ) (h : HeaderTree) (e : Expr) (s : List Sym) (ts : List Token) → HeadReads s' ts' c h (g.expression Header c e ∷ s) ts → Pending (λ n. n) (clause_then head_bare condition_line) head_of 0 ts c (h, (e, tt)) s s' ts'
unfolding HeadReads then_ done
head_by c h e s ts (inl z) = record { at = c; value = (alone e, (e, tt)); bound = refl; whole = ap (λ (h : HeaderTree). (h, (e, tt))) z.0; deep = omega arith; reach = z.1 }
head_by c h e s ts (inr (inl (d, (t, z)))) = record { at = c; value = (declared d t, (e, tt)); bound = refl; whole = ap (λ (h : HeaderTree). (h, (e, tt))) z.0; deep = omega arith; reach = z.1 }
head_by c h e s ts (inr (inr (x, (t, z)))) = record { at = c; value = (assigned x t, (e, tt)); bound = refl; whole = ap (λ (h : HeaderTree). (h, (e, tt))) z.0; deep = omega arith; reach = z.1 }

pub head_leads : (b : ℕ) (ts : List Token) → Leads head_line continues_head (λ n. n) b ts (clause_then head_bare condition_line) head_of 0 ts (2 * length ts)
unfolding then_ done
head_leads b ts =
    leads_start b ts (clause_then head_bare condition_line) head_of (2 * length ts) (alone sample.expr, (sample.expr, tt)) same_depth (omega arith) (λ c u s. head_into c u s ts)
    (λ c w s s' ts' clear r h. let z = behind_part tt r h in head_by c w.0 w.1.0 s ts (by_header c w.0 z.as_symbols z.rule (g.expression Header c w.1.0 ∷ s) ts z.reach))

pub head_run_over : (d : ℕ) (ts rest : List Token) (e : Stop) → d ≡ 1 → Listed ts rest → RunOver ts e → Exact head_line continues_head d ts (refused e)
head_run_over d ts rest e one' z o =
    clause_run_over head_bare condition_line same_depth (λ c u s clear. clear) (head_leads d ts) rest e (limit_in e o) one' z o
  where
    limit_in : (e : Stop) → RunOver ts e → stop_limit e ≤ 2 * length ts
    limit_in (stop.Syntax left) o = let k = syntax_short o.over in let short = run_length o.run in omega (arith, k, short)
    limit_in (stop.Deep left) o = let k = deep_short o.over in let short = run_length o.run in omega (arith, k, short)
    limit_in stop.Memory o = omega arith
