-- Expressions at the start of a header: alone, or as the first of a simple statement.
use Rattle.std.proofs.Common.{◌≡◌, ℕ, suc, ◌-◌, ◌*◌, ◌<◌, ◌≤◌, max, Bool, true, List, ◌∷◌, ◌++◌, length, refl, sym, ap, subst, arith}
use Rattle.odc_syntax.specs.declared.token.Token.{Token}
use Rattle.odc_syntax.specs.declared.token.TokenKind.{TokenKind}
use Rattle.odc_syntax.specs.declared.token.TokenKind.TheVariants as kind
use Rattle.odc_syntax.specs.declared.grammar.Mode.TheVariants as mode
use Rattle.odc_syntax.specs.declared.grammar.Level.TheVariants.{Or}
use Rattle.odc_syntax.specs.Tree.{Expr, Stmt, stmt}
use Rattle.odc_syntax.specs.Tree as tree
use Rattle.odc_syntax.specs.Grammar.{Sym, tok}
use Rattle.odc_syntax.specs.Grammar as g
use Rattle.odc_syntax.specs.Derives.{Reach, here}
use Rattle.odc_lookahead.specs.declared.stop.Stop.{Stop}
use Rattle.odc_lookahead.specs.declared.stop.Stop.TheVariants as stop
use Rattle.odc_lookahead.specs.Exact.{size, Clear, Part, one, ComesAt, Comes, then_, token, Exact, Yes, Found, Broken, TooDeep}
use Rattle.odc_lookahead.specs.Read.{refused}
use Rattle.odc_lookahead.specs.stmts.Clauses.{Clause, declared, assigned, alone, clause_then}
use Rattle.odc_lookahead.specs.Sets.{continues}
use Rattle.odc_lookahead.specs.stmts.StatementSets.{continues_simple, continues_head, continues_clause}
use Rattle.odc_lookahead.proofs.reading.Reaching.{along}
use Rattle.odc_lookahead.proofs.reading.Leading.{Rises, Led}
use Rattle.odc_lookahead.proofs.reading.Answering.{Stepped}
use Rattle.odc_lookahead.proofs.expr.SuffixAnswers.{token_clear}
use Rattle.odc_lookahead.proofs.expr.ExprsLemmas.{exprs_refused}
use Rattle.odc_lookahead.proofs.stmts.SimpleLemmas.{simple_refused}
use Rattle.odc_lookahead.proofs.stmts.RunLemmas.{not_declared}
use Rattle.odc_lookahead.proofs.headers.HeadLemmas.{head_clear, semicolon_clear}
use Rattle.odc_lookahead.proofs.headers.HeadExpressions.{Single, single_beyond, HeadExpression, clause_goes, clause_head, GoesOn, goes_clause, clause_limit, stop_clause, clause_kinds, clause_reads}
use Rattle.odc_lookahead.proofs.reading.Within.{leads_within}
use Rattle.odc_lookahead.proofs.reading.Deciding.{stop_limit, Leads, leads_less, leads_part, leads_part_refused, leads_token, leads_led}
use Rattle.odc_lookahead.proofs.reading.Samples as sample

pub comes_up : {V : Type 0} {p : Part V} {up : ℕ → ℕ} {ts : List Token} {left d : ℕ} → Rises up → ((c : ℕ) → d ≤ c → ComesAt p (up c) ts left) → Comes p (up d) ts left
comes_up {V} {p} {up} {ts} {left} {d} rises f = record {
  at = λ c h. let q = rises.pred d c h in subst (λ (m : ℕ). ComesAt p m ts left) (sym q.1.0) (f q.0 q.1.1);
}

module _ {V U : Type 0} {p : Part V} {cont : TokenKind → Bool} {up : ℕ → ℕ} {b : ℕ} {ts ws : List Token} (bare closed : Part U) {f : Clause × U → V} (rises : Rises up)
    (stops : (c : ℕ) (u : U) (s : List Sym) → Clear cont s → Clear continues_head (bare c u ++ s)) {far : ℕ} (led : Leads p cont up b ws (clause_then bare closed) f 0 ts far) where
  abbrev behind_closed : Part (Token × U)
  behind_closed = then_ (token kind.Semicolon) closed

  pub expression_comes : (d left : ℕ) → Comes (one (g.expression mode.Header)) d ts left → Comes p (up d) ws left
  expression_comes d left comes =
      comes_up rises (λ c h.
      let a = comes.at c h in
      record {
        value = f (alone a.value, led.sample.1);
        before = λ s.
            let z = a.before (bare c led.sample.1 ++ s) in
            record { pending = z.pending; rest = z.rest; rest_is = z.rest_is; reach = along (led.reads c (alone a.value, led.sample.1) (omega arith) s) z.reach };
      })

  -- the expression isn't read
  broken_by : {s' : List Sym} {ts' : List Token} (left : ℕ) → Broken (one (g.expression mode.Header)) (continues Or mode.Header) b ts left → ((c : ℕ) (d : _) (s : List Sym) → Reach s' ts' (g.declaration mode.Header c d ∷ s) ts → ⊥) → (c : ℕ) (k : Clause) (u : U) (s : List Sym) →
      Clear cont s → Reach s' ts' (clause_then bare closed c (k, u) ++ s) ts → size s' ts' ≤ 2 * left → ⊥
  broken_by left broken dead c (declared x t) u s clear r h = dead c x (tok kind.Semicolon t ∷ (closed c u ++ s)) r
  broken_by {s'} {ts'} left broken dead c (assigned x t) u s clear r h =
      let simple : Broken (one (g.simple mode.Header)) (continues_simple mode.Header) (suc b) ts left = simple_refused mode.Header b ts (stop.Syntax left) (exprs_refused mode.Header b ts (stop.Syntax left) broken) in
      simple.none c x (tok kind.Semicolon t ∷ (closed c u ++ s)) s' ts' (semicolon_clear (continues_simple mode.Header) refl t (closed c u ++ s)) r h
  broken_by {s'} {ts'} left broken dead c (alone e) u s clear r h = broken.none c e (bare c u ++ s) s' ts' (head_clear (stops c u s clear)) r h

  pub clause_broken : (left : ℕ) → 2 * left ≤ far → Broken (one (g.expression mode.Header)) (continues Or mode.Header) b ts left → ((c : ℕ) (d : _) (s s' : List Sym) (ts' : List Token) → Reach s' ts' (g.declaration mode.Header c d ∷ s) ts → size s' ts' ≤ 2 * left → ⊥) → Broken p cont (up b) ws left
  clause_broken left within broken dead = record {
    short = let h = led.short in let k = broken.short in omega (arith, h, k);
    comes = expression_comes b left broken.comes;
    none = λ c w s s' ts' clear r h.
        let q = led.only c w s s' ts' clear r (omega (arith, h, within)) in
        broken_by left broken (λ c d s r. dead c d s s' ts' r h) q.at q.value.0 q.value.1 s clear q.reach h;
  }

  deep_by : {s' : List Sym} {ts' : List Token} (left : ℕ) → TooDeep (one (g.expression mode.Header)) (continues Or mode.Header) b ts left → ((c : ℕ) (d : _) (s : List Sym) → Reach s' ts' (g.declaration mode.Header c d ∷ s) ts → b < c) → (c : ℕ) (k : Clause) (u : U) (s : List Sym) →
      Clear cont s → Reach s' ts' (clause_then bare closed c (k, u) ++ s) ts → size s' ts' ≤ suc (2 * left) → b < c
  deep_by left deep dead c (declared x t) u s clear r h = dead c x (tok kind.Semicolon t ∷ (closed c u ++ s)) r
  deep_by {s'} {ts'} left deep dead c (assigned x t) u s clear r h =
      let simple : TooDeep (one (g.simple mode.Header)) (continues_simple mode.Header) (suc b) ts left = simple_refused mode.Header b ts (stop.Deep left) (exprs_refused mode.Header b ts (stop.Deep left) deep) in
      let over = simple.deep c x (tok kind.Semicolon t ∷ (closed c u ++ s)) s' ts' (semicolon_clear (continues_simple mode.Header) refl t (closed c u ++ s)) r h in
      omega (arith, over)
  deep_by {s'} {ts'} left deep dead c (alone e) u s clear r h = deep.deep c e (bare c u ++ s) s' ts' (head_clear (stops c u s clear)) r h

  pub clause_deep : (left : ℕ) → suc (2 * left) ≤ far → TooDeep (one (g.expression mode.Header)) (continues Or mode.Header) b ts left → ((c : ℕ) (d : _) (s s' : List Sym) (ts' : List Token) → Reach s' ts' (g.declaration mode.Header c d ∷ s) ts → size s' ts' ≤ suc (2 * left) → b < c) →
      TooDeep p cont (up b) ws left
  clause_deep left within deep dead = record {
    short = let h = led.short in let k = deep.short in omega (arith, h, k);
    comes = expression_comes b (suc left) deep.comes;
    deep = λ c w s s' ts' clear r h.
        let q = led.only c w s s' ts' clear r (omega (arith, h, within)) in
        let d = rises.lt b q.at (deep_by left deep (λ c d s r. dead c d s s' ts' r h) q.at q.value.0 q.value.1 s clear q.reach h) in
        let e = q.bound in
        omega (arith, d, e);
    depth = up deep.depth;
    deeper = expression_comes deep.depth left deep.deeper;
  }

  pub clause_single_refused : (place : List Token) (e : Stop) → stop_limit e ≤ far → 0 < b → Single ts place → Exact (one (g.expression mode.Header)) (continues Or mode.Header) b ts (refused e) → Exact p cont (up b) ws (refused e)
  clause_single_refused place (stop.Syntax left) within some z h =
      let beyond = single_beyond b ts place (refused (stop.Syntax left)) some z h in
      clause_broken left within h (λ c d s s' ts' r k. not_declared mode.Header z.run c d s r (omega (arith, k, beyond)))
  clause_single_refused place (stop.Deep left) within some z h =
      let beyond = single_beyond b ts place (refused (stop.Deep left)) some z h in
      clause_deep left within h (λ c d s s' ts' r k. absurd (not_declared mode.Header z.run c d s r (omega (arith, k, beyond))))
  clause_single_refused place stop.Memory within some z h = tt

  -- a simple statement begins with the expression
  abbrev assigned_node : Stmt × (Token × U) → Clause × U
  assigned_node w = (assigned w.0 w.1.0, w.1.1)

  clause_by : {s' : List Sym} {ts' : List Token} (place : List Token) (v : Expr) (n : ℕ) (rest : List Token) (t : Token) (us : List Token) → HeadExpression b ts place v n rest → rest ≡ t ∷ us → continues_clause t.kind ≡ true → (c : ℕ) (k : Clause) (u : U) (s : List Sym) → Clear cont s →
      Reach s' ts' (clause_then bare closed c (k, u) ++ s) ts → size s' ts' ≤ suc (2 * length us) → Stepped {U = Clause × U} (then_ (g.simple mode.Header) behind_closed) assigned_node c (k, u) s s' ts' ts
  unfolding then_ token
  clause_by place v n rest t us z is on c (declared x k) u s clear r h =
      let longer : length rest ≡ suc (length us) = ap length is in
      let far = single_beyond b ts place (Yes v n rest) z.some z.single z.found in
      absurd (not_declared mode.Header z.single.run c x (tok kind.Semicolon k ∷ (closed c u ++ s)) r (omega (arith, h, far, longer)))
  clause_by place v n rest t us z is on c (assigned x k) u s clear r h = record { by = (x, (k, u)); is = refl; reach = r }
  clause_by {s'} {ts'} place v n rest t us z is on c (alone e) u s clear r h =
      let longer : length rest ≡ suc (length us) = ap length is in
      let blocked = stops c u s clear in
      let y = z.found.only c e (bare c u ++ s) s' ts' (head_clear blocked) r (omega (arith, h, longer)) in
      absurd (blocked.stops t us s' ts' (clause_head t.kind on) (subst (λ (l : List Token). Reach s' ts' (bare c u ++ s) l) is y.reach) h)

  clause_leads : (place : List Token) (v : Expr) (n : ℕ) (rest : List Token) (t : Token) (us : List Token) → suc (2 * length us) ≤ far → HeadExpression b ts place v n rest → rest ≡ t ∷ us → continues_clause t.kind ≡ true →
      Leads p cont up b ws (then_ (g.simple mode.Header) behind_closed) (λ w. f (assigned_node w)) 0 ts (suc (2 * length us))
  unfolding then_ token
  clause_leads place v n rest t us within z is on =
      leads_within (suc (2 * length us)) (then_ (g.simple mode.Header) behind_closed) assigned_node (stmt sample.place tree.fallthrough, (sample.token, led.sample.1)) within (λ c w s. here)
      (λ c u s s' ts' clear r h. clause_by place v n rest t us z is on c u.0 u.1 s clear r h) led

  closed_clear : (c : ℕ) (u : Token × U) (s : List Sym) → Clear cont s → Clear (continues_simple mode.Header) (behind_closed c u ++ s)
  closed_clear c u s clear = token_clear (continues_simple mode.Header) kind.Semicolon refl closed c u s

  pub clause_assigned_refused : (d : ℕ) (place : List Token) (v : Expr) (n : ℕ) (rest : List Token) (t : Token) (us : List Token) (e : Stop) → suc (2 * length us) ≤ far → b ≡ suc d → HeadExpression b ts place v n rest → n ≤ d → rest ≡ t ∷ us → GoesOn t.kind →
      Exact (one (g.simple mode.Header)) (continues_simple mode.Header) b ts (refused e) → Exact p cont (up b) ws (refused e)
  clause_assigned_refused d place v n rest t us e reach deeper z within is on h =
      let beyond = stop_clause b d ts v n rest t us e deeper z.found within is on h in
      leads_part_refused (g.simple mode.Header) (continues_simple mode.Header) behind_closed e rises (omega arith) (omega (arith, beyond)) (clause_leads place v n rest t us reach z is (goes_clause t.kind on)) h closed_clear

  pub clause_assigned : (d : ℕ) (place : List Token) (v : Expr) (n : ℕ) (rest : List Token) (t : Token) (us : List Token) (x : Stmt) (m : ℕ) (after : List Token) → suc (2 * length us) ≤ far → b ≡ suc d → HeadExpression b ts place v n rest → n ≤ d → rest ≡ t ∷ us → GoesOn t.kind →
      Found (one (g.simple mode.Header)) (continues_simple mode.Header) b ts x m after → Led p cont up b ws behind_closed (λ w. f (assigned x w.0, w.1)) m after
  clause_assigned d place v n rest t us x m after reach deeper z within is on found =
      let beyond = clause_limit b d ts v n rest t us (Yes x m after) deeper z.found within is on found in
      subst (λ (k : ℕ). Led p cont up b ws behind_closed (λ w. f (assigned x w.0, w.1)) k after) zero_max
      (leads_led (omega arith) (leads_part rises (omega arith) (omega arith) (leads_less {less = 2 * length after} (omega (arith, beyond)) (clause_leads place v n rest t us reach z is (goes_clause t.kind on))) found closed_clear))
    where
      zero_max : max 0 m ≡ m
      zero_max = omega arith

  -- `;` follows the expression
  pub clause_evaluated : (d : ℕ) (place : List Token) (v : Expr) (n : ℕ) (rest : List Token) (t : Token) (us : List Token) (x : Stmt) → suc (2 * length us) ≤ far → b ≡ suc d → HeadExpression b ts place v n rest → n ≤ d → rest ≡ t ∷ us → t.kind ≡ kind.Semicolon →
      Found (one (g.simple mode.Header)) (continues_simple mode.Header) b ts x (suc n) rest → Led p cont up b ws closed (λ u. f (assigned x t, u)) (suc n) us
  clause_evaluated d place v n rest t us x reach deeper z within is e found =
      let longer : length rest ≡ suc (length us) = ap length is in
      subst (λ (k : ℕ). Led p cont up b ws closed (λ u. f (assigned x t, u)) k us) zero_max
      (leads_led (omega arith)
      (leads_token rises (omega (arith, within, deeper)) (omega (arith, longer))
      (leads_part rises (omega arith) (omega (arith, longer)) (clause_leads place v n rest t us reach z is (ap continues_clause e)) found closed_clear) is e))
    where
      zero_max : max 0 (suc n) ≡ suc n
      zero_max = omega arith

  -- what goes on is too deep
  pub clause_over : (place : List Token) (v : Expr) (n : ℕ) (rest : List Token) (t : Token) (us : List Token) → suc (2 * length us) ≤ far → HeadExpression b ts place v n rest → rest ≡ t ∷ us → continues_clause t.kind ≡ true → b ≤ n → TooDeep p cont (up b) ws (length us)
  unfolding then_ token
  clause_over place v n rest t us reach z is on over =
      let short = z.found.short in
      let before = led.short in
      let longer : length rest ≡ suc (length us) = ap length is in
      let leads = clause_leads place v n rest t us reach z is on in
      record {
        short = omega (arith, short, before, longer);
        comes = subst (λ (k : ℕ). Comes p (up b) ws k) longer (expression_comes b (length rest) z.found.comes);
        deep = λ c w s s' ts' clear r h.
            let q = leads.only c w s s' ts' clear r h in
            let y = clause_goes b ts v n rest z.found q.at q.value.0 q.value.1.0 (closed q.at q.value.1.1 ++ s) q.reach (omega (arith, h, longer)) in
            let deep = y.1 in
            let k = rises.lt b q.at (omega (arith, deep, over)) in
            let e = q.bound in
            omega (arith, k, e);
        depth = up (suc n);
        deeper = comes_up rises (λ c h.
            let x = clause_reads b ts v n rest t us z.found is (clause_kinds t.kind on) (c - 1) (omega (arith, h)) in
            let e : suc (c - 1) ≡ c = omega (arith, h) in
            subst (λ (d : ℕ). ComesAt p (up d) ws (length us)) e (record {
              value = f (assigned x.0 t, led.sample.1);
              before = λ s.
                  let y = x.1 (closed (suc (c - 1)) led.sample.1 ++ s) in
                  record { pending = y.0; rest = us; rest_is = refl; reach = along (led.reads (suc (c - 1)) (assigned x.0 t, led.sample.1) (omega arith) s) y.1 };
            }));
      }
