-- What may stand at the start of the header of `if`, `for` and `switch`: a declaration or a simple statement
-- with its `;`, or an expression alone. They are told apart here, whatever stands behind them.
use Rattle.std.proofs.Common.{◌≡◌, ℕ, ◌*◌, ◌<◌, ◌≤◌, max, Bool, false, List, ◌∷◌, ◌++◌, length, refl, ap, subst, arith, None}
use Rattle.odc_syntax.specs.declared.token.Token.{Token}
use Rattle.odc_syntax.specs.declared.token.TokenKind.{TokenKind}
use Rattle.odc_syntax.specs.declared.token.TokenKind.TheVariants as kind
use Rattle.odc_syntax.specs.declared.grammar.Mode.TheVariants as mode
use Rattle.odc_syntax.specs.declared.grammar.Level.TheVariants.{Or}
use Rattle.odc_syntax.specs.Tree.{Expr, Stmt, stmt, Decl, decl, first_of}
use Rattle.odc_syntax.specs.Tree as tree
use Rattle.odc_syntax.specs.Grammar.{Sym, tok}
use Rattle.odc_syntax.specs.Grammar as g
use Rattle.odc_syntax.specs.Derives.{Reach, here}
use Rattle.odc_lookahead.specs.declared.stop.Stop.{Stop}
use Rattle.odc_lookahead.specs.Exact.{size, Clear, Part, one, then_, token, Exact, Yes, Found}
use Rattle.odc_lookahead.specs.Read.{refused, NotExpected}
use Rattle.odc_lookahead.specs.stmts.Clauses.{Clause, declared, assigned, alone, clause_then}
use Rattle.odc_lookahead.specs.stmts.Runs.{Declares}
use Rattle.odc_lookahead.specs.Sets.{continues}
use Rattle.odc_lookahead.specs.stmts.StatementSets.{continues_simple, continues_declaration, continues_head, EndsClause}
use Rattle.odc_lookahead.proofs.reading.Leading.{Rises, Led}
use Rattle.odc_lookahead.proofs.reading.Answering.{token_refused, token_read, Stepped}
use Rattle.odc_lookahead.proofs.expr.SuffixAnswers.{token_clear}
use Rattle.odc_lookahead.proofs.expr.WholeLemmas.{name_whole}
use Rattle.odc_lookahead.proofs.stmts.RunLemmas.{run_short, not_declared, not_simple, simple_beyond, declaration_beyond}
use Rattle.odc_lookahead.proofs.headers.HeadLemmas.{head_clear, semicolon_clear, not_expression, header_goes, no_colon_semicolon, declaration_limit, simple_limit, Listed, listed_run}
use Rattle.odc_lookahead.proofs.headers.HeadExpressions.{single_beyond, HeadExpression, clause_goes, clause_ends}
use Rattle.odc_lookahead.proofs.reading.Within.{leads_within}
use Rattle.odc_lookahead.proofs.reading.Deciding.{Leads, leads_less, leads_part, leads_part_refused, leads_led}
use Rattle.odc_lookahead.proofs.reading.Samples as sample
use Rattle.odc_lookahead.specs.declared.tokens.Fit.{Fit}
use Rattle.odc_lookahead.specs.declared.tokens.Fit.TheVariants as fit

module _ {V U : Type 0} {p : Part V} {cont : TokenKind → Bool} {up : ℕ → ℕ} {b : ℕ} {ts ws : List Token} (bare closed : Part U) {f : Clause × U → V} (rises : Rises up)
    (stops : (c : ℕ) (u : U) (s : List Sym) → Clear cont s → Clear continues_head (bare c u ++ s)) {far : ℕ} (led : Leads p cont up b ws (clause_then bare closed) f 0 ts far) where
  -- `;` and what stands behind it
  abbrev behind_closed : Part (Token × U)
  behind_closed = then_ (token kind.Semicolon) closed

  closed_clear : (cont' : TokenKind → Bool) → cont' kind.Semicolon ≡ false → (c : ℕ) (u : Token × U) (s : List Sym) → Clear cont s → Clear cont' (behind_closed c u ++ s)
  closed_clear cont' e c u s clear = token_clear cont' kind.Semicolon e closed c u s

  some_declared : Decl
  some_declared = decl sample.place (tree.import None sample.token)

  -- a declaration
  abbrev declared_node : Decl × (Token × U) → Clause × U
  declared_node w = (declared w.0 w.1.0, w.1.1)

  declared_by : {s' : List Sym} {ts' rest : List Token} → Declares ts rest → (c : ℕ) (k : Clause) (u : U) (s : List Sym) → Clear cont s → Reach s' ts' (clause_then bare closed c (k, u) ++ s) ts → size s' ts' ≤ 2 * length rest →
      Stepped {U = Clause × U} (then_ (g.declaration mode.Header) behind_closed) declared_node c (k, u) s s' ts' ts
  unfolding then_ token
  declared_by d c (declared x t) u s clear r h = record { by = (x, (t, u)); is = refl; reach = r }
  declared_by {rest = rest} d c (assigned x t) u s clear r h =
      absurd (not_simple mode.Header d c x (tok kind.Semicolon t ∷ (closed c u ++ s)) (semicolon_clear (continues_simple mode.Header) refl t (closed c u ++ s)) (no_colon_semicolon t (closed c u ++ s) rest h) r h)
  declared_by d c (alone e) u s clear r h = absurd (not_expression d mode.Header c e (bare c u ++ s) (stops c u s clear) header_goes r h)

  declared_leads : {rest : List Token} → 2 * length rest ≤ far → Declares ts rest → Leads p cont up b ws (then_ (g.declaration mode.Header) behind_closed) (λ w. f (declared_node w)) 0 ts (2 * length rest)
  unfolding then_ token
  declared_leads {rest} within d =
      leads_within (2 * length rest) (then_ (g.declaration mode.Header) behind_closed) declared_node (some_declared, (sample.token, led.sample.1)) within (λ c w s. here)
      (λ c u s s' ts' clear r h. declared_by d c u.0 u.1 s clear r h) led

  pub clause_declaration_refused : (rest : List Token) (e : Stop) → 2 * length rest ≤ far → 0 < b → Declares ts rest → Exact (one (g.declaration mode.Header)) (continues_declaration mode.Header) b ts (refused e) → Exact p cont (up b) ws (refused e)
  clause_declaration_refused rest e within some d h =
      leads_part_refused (g.declaration mode.Header) (continues_declaration mode.Header) behind_closed e rises (omega arith) (declaration_limit b ts rest e some d h) (declared_leads within d) h (closed_clear (continues_declaration mode.Header) refl)

  -- a declaration or a simple statement is read, and `;` must follow
  abbrev pub ClauseAt : (Token → Clause) → ℕ → List Token → Type 0
  ClauseAt k n rest = Led p cont up b ws behind_closed (λ w. f (k w.0, w.1)) n rest

  pub clause_declared : (rest : List Token) (v : Decl) (n : ℕ) (after : List Token) → 2 * length rest ≤ far → 0 < b → Declares ts rest → Found (one (g.declaration mode.Header)) (continues_declaration mode.Header) b ts v n after → ClauseAt (declared v) n after
  clause_declared rest v n after within some d found =
      let reaches = declaration_beyond mode.Header b (Yes v n after) d some found in
      subst (λ (k : ℕ). ClauseAt (declared v) k after) zero_max
      (leads_led (omega arith) (leads_part rises (omega arith) (omega arith) (leads_less {less = 2 * length after} reaches (declared_leads within d)) found (closed_clear (continues_declaration mode.Header) refl)))
    where
      zero_max : max 0 n ≡ n
      zero_max = omega arith

  pub clause_unclosed : (k : Token → Clause) (n : ℕ) (rest : List Token) (e : Stop) (within : Fit) → ClauseAt k n rest → (within ≡ fit.Over → b < n) → NotExpected kind.Semicolon within rest e → Exact p cont (up b) ws (refused e)
  clause_unclosed k n rest e within read over h = token_refused kind.Semicolon closed e within rises read over h

  pub clause_closed : (k : Token → Clause) (n : ℕ) (rest : List Token) (t : Token) (us : List Token) → ClauseAt k n rest → n ≤ b → rest ≡ t ∷ us → t.kind ≡ kind.Semicolon → Led p cont up b ws closed (λ u. f (k t, u)) n us
  clause_closed k n rest t us read within is e = token_read rises read within is e

  -- several names that are not declared
  abbrev assigned_node : Stmt × (Token × U) → Clause × U
  assigned_node w = (assigned w.0 w.1.0, w.1.1)

  listed_by : {s' : List Sym} {ts' rest : List Token} → Listed ts rest → (c : ℕ) (k : Clause) (u : U) (s : List Sym) → Clear cont s → Reach s' ts' (clause_then bare closed c (k, u) ++ s) ts → size s' ts' ≤ 2 * length rest →
      Stepped {U = Clause × U} (then_ (g.simple mode.Header) behind_closed) assigned_node c (k, u) s s' ts' ts
  unfolding then_ token
  listed_by {rest = rest} d c (declared x t) u s clear r h = absurd (not_declared mode.Header (listed_run ts rest d) c x (tok kind.Semicolon t ∷ (closed c u ++ s)) r h)
  listed_by d c (assigned x t) u s clear r h = record { by = (x, (t, u)); is = refl; reach = r }
  listed_by {s'} {ts'} d c (alone e) u s clear r h =
      let short = run_short d.run in
      let q = subst (λ (l : List Token). Reach s' ts' (g.expression mode.Header c e ∷ (bare c u ++ s)) l) d.is r in
      let y = (name_whole mode.Header d.first (d.comma ∷ d.others) d.name (ap (continues Or mode.Header) d.kind)).only c e (bare c u ++ s) s' ts' (head_clear (stops c u s clear)) q (omega (arith, h, short)) in
      let blocked = stops c u s clear in
      absurd (blocked.stops d.comma d.others s' ts' (ap continues_head d.kind) y.reach (omega (arith, h, short)))

  listed_leads : {rest : List Token} → 2 * length rest ≤ far → Listed ts rest → Leads p cont up b ws (then_ (g.simple mode.Header) behind_closed) (λ w. f (assigned_node w)) 0 ts (2 * length rest)
  unfolding then_ token
  listed_leads {rest} within d =
      leads_within (2 * length rest) (then_ (g.simple mode.Header) behind_closed) assigned_node (stmt sample.place tree.fallthrough, (sample.token, led.sample.1)) within (λ c w s. here)
      (λ c u s s' ts' clear r h. listed_by d c u.0 u.1 s clear r h) led

  pub clause_listed_refused : (rest : List Token) (e : Stop) → 2 * length rest ≤ far → 1 < b → Listed ts rest → Exact (one (g.simple mode.Header)) (continues_simple mode.Header) b ts (refused e) → Exact p cont (up b) ws (refused e)
  clause_listed_refused rest e within some d h =
      leads_part_refused (g.simple mode.Header) (continues_simple mode.Header) behind_closed e rises (omega arith) (simple_limit b ts rest e some (listed_run ts rest d) h) (listed_leads within d) h (closed_clear (continues_simple mode.Header) refl)

  pub clause_listed : (rest : List Token) (v : Stmt) (n : ℕ) (after : List Token) → 2 * length rest ≤ far → 1 < b → Listed ts rest → Found (one (g.simple mode.Header)) (continues_simple mode.Header) b ts v n after → ClauseAt (assigned v) n after
  clause_listed rest v n after within some d found =
      let reaches = simple_beyond mode.Header b (Yes v n after) (listed_run ts rest d) some found in
      subst (λ (k : ℕ). ClauseAt (assigned v) k after) zero_max
      (leads_led (omega arith) (leads_part rises (omega arith) (omega arith) (leads_less {less = 2 * length after} reaches (listed_leads within d)) found (closed_clear (continues_simple mode.Header) refl)))
    where
      zero_max : max 0 n ≡ n
      zero_max = omega arith

  -- an expression alone
  abbrev alone_node : Expr × U → Clause × U
  alone_node w = (alone w.0, w.1)

  alone_by : {s' : List Sym} {ts' : List Token} (place : List Token) (v : Expr) (n : ℕ) (rest : List Token) → HeadExpression b ts place v n rest → EndsClause rest → (c : ℕ) (k : Clause) (u : U) (s : List Sym) → Reach s' ts' (clause_then bare closed c (k, u) ++ s) ts → size s' ts' ≤ 2 * length rest →
      Stepped {U = Clause × U} (then_ (g.expression mode.Header) bare) alone_node c (k, u) s s' ts' ts
  unfolding then_
  alone_by place v n rest z ends c (declared x t) u s r h =
      let far = single_beyond b ts place (Yes v n rest) z.some z.single z.found in
      absurd (not_declared mode.Header z.single.run c x (tok kind.Semicolon t ∷ (closed c u ++ s)) r (omega (arith, h, far)))
  alone_by place v n rest z ends c (assigned x t) u s r h = absurd (clause_ends rest ends (clause_goes b ts v n rest z.found c x t (closed c u ++ s) r h).0)
  alone_by place v n rest z ends c (alone e) u s r h = record { by = (e, u); is = refl; reach = r }

  pub clause_alone : (place : List Token) (v : Expr) (n : ℕ) (rest : List Token) → 2 * length rest ≤ far → HeadExpression b ts place v n rest → EndsClause rest → Led p cont up b ws bare (λ u. f (alone v, u)) n rest
  unfolding then_
  clause_alone place v n rest within z ends =
      subst (λ (k : ℕ). Led p cont up b ws bare (λ u. f (alone v, u)) k rest) zero_max
      (leads_led (omega arith)
      (leads_part rises (omega arith) (omega arith)
      (leads_within (2 * length rest) (then_ (g.expression mode.Header) bare) alone_node (sample.expr, led.sample.1) within (λ c w s. here) (λ c u s s' ts' clear r h. alone_by place v n rest z ends c u.0 u.1 s r h) led)
      z.found (λ c u s clear. head_clear (stops c u s clear))))
    where
      zero_max : max 0 n ≡ n
      zero_max = omega arith
