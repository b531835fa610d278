-- `for` with variables and `in`.
use Rattle.std.proofs.Common.{◌≡◌, ℕ, suc, ◌*◌, ◌≤◌, max, Bool, true, false, List, ◌∷◌, ◌++◌, length, refl, sym, ◌∙◌, ap, subst, arith, Some, None}
use Rattle.odc_text.specs.declared.place.Place.{Place}
use Rattle.odc_syntax.specs.declared.token.Token.{Token}
use Rattle.odc_syntax.specs.declared.token.TokenKind.{TokenKind}
use Rattle.odc_syntax.specs.declared.token.TokenKind.TheVariants as kind
use Rattle.odc_syntax.specs.declared.grammar.Mode.TheVariants.{Header}
use Rattle.odc_syntax.specs.declared.grammar.Level.TheVariants.{Or}
use Rattle.odc_syntax.specs.declared.tree.RangeNames.{RangeNames}
use Rattle.odc_syntax.specs.Tree.{Expr, Stmt, Stmts, Span, span, Decl}
use Rattle.odc_syntax.specs.Tree as tree
use Rattle.odc_syntax.specs.Grammar.{Sym, tok, Rule, Labelled, variables_one, variables_two, references_one, references_two, exprs_, exprs_end, exprs_more, simple_eval, simple_assign}
use Rattle.odc_syntax.specs.Grammar as g
use Rattle.odc_syntax.specs.Derives.{Reach, here, read, write}
use Rattle.odc_lookahead.specs.declared.stop.Stop.{Stop}
use Rattle.odc_lookahead.specs.stmts.Clauses.{declared, assigned, alone}
use Rattle.odc_lookahead.specs.Exact.{size, Clear, Part, one, Exact, Found, then_}
use Rattle.odc_lookahead.specs.stmts.LoopStarts as start
use Rattle.odc_lookahead.specs.stmts.LoopStarts.{cost}
use Rattle.odc_lookahead.specs.stmts.LoopStarts.{Signed, plain, signed, Ranged}
use Rattle.odc_lookahead.specs.stmts.Loops.{steps_line, Looped, ever, clause, stepped, ranged, looped_line}
use Rattle.odc_lookahead.specs.Read.{refused}
use Rattle.odc_lookahead.specs.Sets.{continues}
use Rattle.odc_lookahead.specs.stmts.Statements.{labelled_part}
use Rattle.odc_lookahead.specs.stmts.StatementSets.{continues_statement, continues_clause}
use Rattle.odc_lookahead.specs.stmts.SwitchSets.{continues_span}
use Rattle.odc_lookahead.proofs.reading.Opening.{reach_opens, First, StartsWith, is_body}
use Rattle.odc_lookahead.proofs.reading.Reaching.{behind_part, behind_token}
use Rattle.odc_lookahead.proofs.reading.Leading.{same_depth, Led, led_part, first_is, at_rest}
use Rattle.odc_lookahead.proofs.reading.Answering.{led_step, part_refused, Stepped}
use Rattle.odc_lookahead.proofs.loops.LoopLemmas.{ForAt}
use Rattle.odc_lookahead.proofs.loops.LoopBodies.{body_heads}
use Rattle.odc_lookahead.proofs.expr.WholeLemmas.{Ends}
use Rattle.odc_lookahead.proofs.headers.HeadLemmas.{head_clear}
use Rattle.odc_lookahead.proofs.stmts.RunLemmas.{run_short, not_declared}
use Rattle.odc_lookahead.proofs.headers.FrontLemmas.{front_found, value_of}
use Rattle.odc_lookahead.proofs.headers.HeadExpressions.{clause_goes}
use Rattle.odc_lookahead.proofs.headers.ListBounds.{simple_none}
use Rattle.odc_lookahead.specs.stmts.RunBounds.{item, ended, continues_closed}
use Rattle.odc_lookahead.specs.stmts.Runs as runs
use Rattle.odc_lookahead.proofs.reading.Samples as sample

-- the variables are read
in_of : {ts : List Token} {names : RangeNames} {rest : List Token} → Ranged ts names rest → Token
in_of (start.one r v i rest z e f) = i
in_of (start.two r v c w i rest z e k f j) = i

reads_variables : {ts : List Token} {names : RangeNames} {rest : List Token} → (z : Ranged ts names rest) → (s : List Sym) → Reach s rest (g.variables names ∷ tok kind.In (in_of z) ∷ s) ts
unfolding in_of
reads_variables (start.one r v i rest (plain _ n) e f) s = write _ variables_one (read e (read f here))
reads_variables (start.one r v i rest (signed t _ k) e f) s = write _ (references_one {a = t}) (read k (read e (read f here)))
reads_variables (start.two r v c w i rest (plain _ n) e k f j) s = write _ (variables_two {c = c}) (read e (read k (read f (read j here))))
reads_variables (start.two r v c w i rest (signed t _ a) e k f j) s = write _ (references_two {a = t} {c = c}) (read a (read e (read k (read f (read j here)))))

record Varied (names : RangeNames) (i : Token) (rest : List Token) (vs : RangeNames) (j : Token) (s' : List Sym) (ts' : List Token) (s : List Sym) : Type 0 where
  same : vs ≡ names
  token : j ≡ i
  reach : Reach s' ts' s rest

no_sign : (t : Token) → t.kind ≡ kind.Ampersand → t.kind ≡ kind.Name → ⊥
no_sign t e f = cc

varied_by : {s' : List Sym} {ts' ts : List Token} {names : RangeNames} {rest : List Token} → (z : Ranged ts names rest) → (vs : RangeNames) (p : List Sym) → Rule (g.variables vs) p → (j : Token) (s : List Sym) → Reach s' ts' (p ++ (tok kind.In j ∷ s)) ts → size s' ts' ≤ 2 * length rest → Varied names (in_of z) rest vs j s' ts' s
unfolding in_of
varied_by (start.one r v i rest (plain _ n) e f) vs p variables_one j s q h =
    let a = behind_token q (omega (arith, h)) in
    let b = behind_token (at_rest a) (omega (arith, h)) in
    record { same = ap (λ (t : Token). record { by_reference = false; first = t; second = None }) (first_is a.is); token = first_is b.is; reach = at_rest b }
varied_by (start.one r v i rest (plain _ n) e f) vs p variables_two j s q h =
    let a = behind_token q (omega (arith, h)) in
    let bad : i.kind ≡ kind.Comma = reach_opens (at_rest a) (omega (arith, h)) in
    cc
varied_by (start.one r v i rest (plain _ n) e f) vs p references_one j s q h = absurd (n (reach_opens q (omega (arith, h))))
varied_by (start.one r v i rest (plain _ n) e f) vs p references_two j s q h = absurd (n (reach_opens q (omega (arith, h))))
varied_by (start.one r v i rest (signed t _ k) e f) vs p variables_one j s q h = absurd (no_sign t k (reach_opens q (omega (arith, h))))
varied_by (start.one r v i rest (signed t _ k) e f) vs p variables_two j s q h = absurd (no_sign t k (reach_opens q (omega (arith, h))))
varied_by (start.one r v i rest (signed t _ k) e f) vs p references_one j s q h =
    let x = behind_token q (omega (arith, h)) in
    let a = behind_token (at_rest x) (omega (arith, h)) in
    let b = behind_token (at_rest a) (omega (arith, h)) in
    record { same = ap (λ (t : Token). record { by_reference = true; first = t; second = None }) (first_is a.is); token = first_is b.is; reach = at_rest b }
varied_by (start.one r v i rest (signed t _ k) e f) vs p references_two j s q h =
    let x = behind_token q (omega (arith, h)) in
    let a = behind_token (at_rest x) (omega (arith, h)) in
    let bad : i.kind ≡ kind.Comma = reach_opens (at_rest a) (omega (arith, h)) in
    cc
varied_by (start.two r v c w i rest (plain _ n) e k f d) vs p variables_one j s q h =
    let a = behind_token q (omega (arith, h)) in
    let bad : c.kind ≡ kind.In = reach_opens (at_rest a) (omega (arith, h)) in
    cc
varied_by (start.two r v c w i rest (plain _ n) e k f d) vs p variables_two j s q h =
    let a = behind_token q (omega (arith, h)) in
    let m = behind_token (at_rest a) (omega (arith, h)) in
    let b = behind_token (at_rest m) (omega (arith, h)) in
    let o = behind_token (at_rest b) (omega (arith, h)) in
    let first = first_is a.is in
    let second = first_is b.is in
    record { same = λ i. record { by_reference = false; first = first i; second = Some (second i) }; token = first_is o.is; reach = at_rest o }
varied_by (start.two r v c w i rest (plain _ n) e k f d) vs p references_one j s q h = absurd (n (reach_opens q (omega (arith, h))))
varied_by (start.two r v c w i rest (plain _ n) e k f d) vs p references_two j s q h = absurd (n (reach_opens q (omega (arith, h))))
varied_by (start.two r v c w i rest (signed t _ l) e k f d) vs p variables_one j s q h = absurd (no_sign t l (reach_opens q (omega (arith, h))))
varied_by (start.two r v c w i rest (signed t _ l) e k f d) vs p variables_two j s q h = absurd (no_sign t l (reach_opens q (omega (arith, h))))
varied_by (start.two r v c w i rest (signed t _ l) e k f d) vs p references_one j s q h =
    let x = behind_token q (omega (arith, h)) in
    let a = behind_token (at_rest x) (omega (arith, h)) in
    let bad : c.kind ≡ kind.In = reach_opens (at_rest a) (omega (arith, h)) in
    cc
varied_by (start.two r v c w i rest (signed t _ l) e k f d) vs p references_two j s q h =
    let x = behind_token q (omega (arith, h)) in
    let a = behind_token (at_rest x) (omega (arith, h)) in
    let m = behind_token (at_rest a) (omega (arith, h)) in
    let b = behind_token (at_rest m) (omega (arith, h)) in
    let o = behind_token (at_rest b) (omega (arith, h)) in
    let first = first_is a.is in
    let second = first_is b.is in
    record { same = λ i. record { by_reference = true; first = first i; second = Some (second i) }; token = first_is o.is; reach = at_rest o }

-- no body and no `;` begins so
pub front_no_body : {r : Bool} {ts us : List Token} (v : Token) → Signed r ts (v ∷ us) → v.kind ≡ kind.Name → First is_body ts → ⊥
front_no_body v (plain _ n) e h = let bad : false ≡ true = sym (ap is_body e) ∙ h in cc
front_no_body v (signed t _ k) e h = let bad : false ≡ true = sym (ap is_body k) ∙ h in cc

pub front_no_semicolon : {r : Bool} {ts us : List Token} (v : Token) → Signed r ts (v ∷ us) → v.kind ≡ kind.Name → StartsWith kind.Semicolon ts → ⊥
front_no_semicolon v (plain _ n) e h = cc
front_no_semicolon v (signed t _ k) e h = cc

pub front_short : {r : Bool} {ts us : List Token} → Signed r ts us → length us ≤ length ts
front_short (plain _ n) = omega arith
front_short (signed t _ k) = omega arith

-- names and `&` are declared by nothing
pub front_undeclared : {s' : List Sym} {ts' : List Token} {r : Bool} {ts us : List Token} → Signed r ts us → (rest : List Token) → runs.Undeclared us rest → (c : ℕ) (w : Decl) (s : List Sym) → Reach s' ts' (g.declaration Header c w ∷ s) ts → size s' ts' ≤ 2 * length rest → ⊥
front_undeclared (plain _ n) rest u c w s r h = not_declared Header u c w s r h
front_undeclared {us = us} (signed t _ k) rest u c w s r h =
    let short = run_short u in
    not_declared Header (runs.unnamed (t ∷ us) (λ e. no_sign t k e)) c w s r (omega (arith, h, short))

in_ends : (i : Token) (rest : List Token) → i.kind ≡ kind.In → Ends Header (i ∷ rest)
in_ends i rest f = ap (continues Or Header) f

in_undeclared : {ts : List Token} {names : RangeNames} {rest : List Token} → Ranged ts names rest → {s' : List Sym} {ts' : List Token} (c : ℕ) (w : Decl) (s : List Sym) → Reach s' ts' (g.declaration Header c w ∷ s) ts → size s' ts' ≤ 2 * length rest → ⊥
in_undeclared (start.one r v i rest z e f) c w s q h = front_undeclared z (i ∷ rest) (runs.ended v (i ∷ rest) e (λ k. cc) (λ k. cc)) c w s q (omega (arith, h))
in_undeclared (start.two r v c w i rest z e k f j) d x s q h = front_undeclared z (i ∷ rest) (runs.again v c (w ∷ i ∷ rest) (i ∷ rest) e k (runs.ended w (i ∷ rest) f (λ k. cc) (λ k. cc))) d x s q (omega (arith, h))

in_not_simple : {ts : List Token} {names : RangeNames} {rest : List Token} → Ranged ts names rest → {s' : List Sym} {ts' : List Token} (c : ℕ) (x : Stmt) (t : Token) (s : List Sym) → Reach s' ts' (g.simple Header c x ∷ tok kind.Semicolon t ∷ s) ts → size s' ts' ≤ 2 * length rest → ⊥
in_not_simple {ts} (start.one r v i rest z e f) c x t s q h =
    let first = clause_goes (cost r) ts (value_of z v) (cost r) (i ∷ rest) (front_found v (i ∷ rest) z e (in_ends i rest f)) c x t s q (omega (arith, h)) in
    let bad : false ≡ true = sym (ap continues_clause f) ∙ first.0 in
    cc
in_not_simple {ts} (start.two r v d w i rest z e k f j) c x t s q h =
    simple_none (record { value = value_of z v; comma = d; kind = k; found = front_found v (d ∷ w ∷ i ∷ rest) z e (ap (continues Or Header) k) }) (item (w ∷ i ∷ rest)) (ended w (i ∷ rest) refl f (ap continues_closed j)) c x t s q (omega (arith, h))

in_not_alone : {ts : List Token} {names : RangeNames} {rest : List Token} → Ranged ts names rest → {s' : List Sym} {ts' : List Token} (c : ℕ) (e : Expr) (ss : Stmts) (s : List Sym) → Reach s' ts' (g.expression Header c e ∷ g.body c ss ∷ s) ts → size s' ts' ≤ 2 * length rest → ⊥
in_not_alone (start.one r v i rest z e f) {s'} {ts'} c x ss s q h =
    let y = (front_found v (i ∷ rest) z e (in_ends i rest f)).only c x (g.body c ss ∷ s) s' ts' (head_clear (body_heads c ss s)) q (omega (arith, h)) in
    let opens : is_body i.kind ≡ true = reach_opens y.reach (omega (arith, h)) in
    let bad : false ≡ true = sym (ap is_body f) ∙ opens in
    cc
in_not_alone (start.two r v d w i rest z e k f j) {s'} {ts'} c x ss s q h =
    let y = (front_found v (d ∷ w ∷ i ∷ rest) z e (ap (continues Or Header) k)).only c x (g.body c ss ∷ s) s' ts' (head_clear (body_heads c ss s)) q (omega (arith, h)) in
    let opens : is_body d.kind ≡ true = reach_opens y.reach (omega (arith, h)) in
    let bad : false ≡ true = sym (ap is_body k) ∙ opens in
    cc

ranged_no_body : {ts : List Token} {names : RangeNames} {rest : List Token} → Ranged ts names rest → First is_body ts → ⊥
ranged_no_body (start.one r v i rest z e f) h = front_no_body v z e h
ranged_no_body (start.two r v c w i rest z e k f j) h = front_no_body v z e h

ranged_no_semicolon : {ts : List Token} {names : RangeNames} {rest : List Token} → Ranged ts names rest → StartsWith kind.Semicolon ts → ⊥
ranged_no_semicolon (start.one r v i rest z e f) h = front_no_semicolon v z e h
ranged_no_semicolon (start.two r v c w i rest z e k f j) h = front_no_semicolon v z e h

pub ranged_short : {ts : List Token} {names : RangeNames} {rest : List Token} → Ranged ts names rest → suc (length rest) ≤ length ts
ranged_short (start.one r v i rest z e f) = let h = front_short z in omega (arith, h)
ranged_short (start.two r v c w i rest z e k f j) = let h = front_short z in omega (arith, h)

abbrev pub over_line : Part (Span × Stmts)
over_line = then_ (g.span_ Header) (one g.body)

ranged_by : {s' : List Sym} {ts' ts : List Token} {names : RangeNames} {rest : List Token} → (z : Ranged ts names rest) → (c : ℕ) (w : Looped) (s : List Sym) → Reach s' ts' (looped_line c w ++ s) ts → size s' ts' ≤ 2 * length rest → Stepped over_line (λ u. ranged names (in_of z) u.0 u.1) c w s s' ts' rest
unfolding then_
ranged_by z c (ever ss) s r h = let k = ranged_short z in absurd (ranged_no_body z (reach_opens r (omega (arith, h, k))))
ranged_by z c (clause (declared d t) u) s r h = absurd (in_undeclared z c d (tok kind.Semicolon t ∷ (steps_line c u ++ s)) r h)
ranged_by z c (clause (assigned x t) u) s r h = absurd (in_not_simple z c x t (steps_line c u ++ s) r h)
ranged_by z c (clause (alone e) u) s r h = absurd (in_not_alone z c e u.1.1.1 s r h)
ranged_by z c (stepped t u) s r h = let k = ranged_short z in absurd (ranged_no_semicolon z (reach_opens r (omega (arith, h, k))))
ranged_by {names = names} z c (ranged vs j x ss) s r h =
    let k = ranged_short z in
    let y = behind_part tt r (omega (arith, h, k)) in
    let q = varied_by z vs y.as_symbols y.rule j (g.span_ Header c x ∷ g.body c ss ∷ s) y.reach h in
    let same = q.same in
    let token = q.token in
    record { by = (x, ss); is = λ i. ranged (same i) (token i) x ss; reach = q.reach }

abbrev pub OverAt : ℕ → List Token → Place → RangeNames → List Token → Type 0
OverAt b ws at names rest = Led (one labelled_part) continues_statement (λ n. n) b ws over_line (λ u. (at, g.range names u.0 u.1)) 0 rest

pub over_at : (b : ℕ) (ws : List Token) (at : Place) (ts : List Token) (names : RangeNames) (rest : List Token) → ForAt b ws at ts → Ranged ts names rest → OverAt b ws at names rest
unfolding then_
over_at b ws at ts names rest led z =
    let short = ranged_short z in
    led_step rest over_line (λ u. ranged names (in_of z) u.0 u.1) (span sample.expr tree.alone, tree.no_stmts) same_depth (omega arith) (omega (arith, short)) (λ c w s. reads_variables z (g.span_ Header c w.0 ∷ g.body c w.1 ∷ s))
    (λ c u s s' ts' clear r h. ranged_by z c u s r h) led

-- what they range over, and the body
body_ends : (k : TokenKind) → is_body k ≡ true → continues_span Header k ≡ false
body_ends kind.OpenBrace e = refl
body_ends kind.Do e = refl
body_ends _ e = cc

over_clear : (c : ℕ) (ss : Stmts) (s : List Sym) → Clear (continues_span Header) (g.body c ss ∷ s)
over_clear c ss s = record {
  stops = λ t us s' ts' on r h.
      let opens : is_body t.kind ≡ true = reach_opens r (omega (arith, h)) in
      let bad : true ≡ false = sym on ∙ body_ends t.kind opens in
      cc;
}

pub over_span_refused : (b : ℕ) (ws : List Token) (at : Place) (names : RangeNames) (rest : List Token) (e : Stop) → OverAt b ws at names rest → Exact (one (g.span_ Header)) (continues_span Header) b rest (refused e) → Exact (one labelled_part) continues_statement b ws (refused e)
over_span_refused b ws at names rest e led h = part_refused (g.span_ Header) (continues_span Header) (one g.body) e same_depth led (omega arith) h (λ c u s clear. over_clear c u s)

abbrev pub OverRead : ℕ → List Token → Place → RangeNames → Span → ℕ → List Token → Type 0
OverRead b ws at names x n rest = Led (one labelled_part) continues_statement (λ n. n) b ws (one g.body) (λ ss. (at, g.range names x ss)) n rest

pub over_read : (b : ℕ) (ws : List Token) (at : Place) (names : RangeNames) (rest : List Token) (x : Span) (n : ℕ) (after : List Token) → OverAt b ws at names rest → Found (one (g.span_ Header)) (continues_span Header) b rest x n after → OverRead b ws at names x n after
over_read b ws at names rest x n after led found = subst (λ (k : ℕ). OverRead b ws at names x k after) zero_max (led_part same_depth led (omega arith) found (λ c u s clear. over_clear c u s))
  where
    zero_max : max 0 n ≡ n
    zero_max = omega arith
