-- The condition of a loop, what is done behind its body, and the body.
use Rattle.std.proofs.Common.{◌≡◌, ℕ, suc, ◌*◌, ◌<◌, ◌≤◌, max, Bool, true, false, List, ◌∷◌, ◌++◌, length, refl, sym, ◌∙◌, ap, subst, arith}
use Rattle.odc_syntax.specs.declared.token.Token.{Token}
use Rattle.odc_syntax.specs.declared.token.TokenKind.{TokenKind}
use Rattle.odc_syntax.specs.declared.token.TokenKind.TheVariants as kind
use Rattle.odc_syntax.specs.declared.grammar.Mode.TheVariants as mode
use Rattle.odc_syntax.specs.declared.grammar.Level.TheVariants.{Or}
use Rattle.odc_syntax.specs.Tree.{Expr, MaybeExpr, Stmt, MaybeStmt, Stmts}
use Rattle.odc_syntax.specs.Tree as tree
use Rattle.odc_syntax.specs.Grammar.{Sym, tok, Rule, no_expr, an_expr, no_simple, a_simple}
use Rattle.odc_syntax.specs.Grammar as g
use Rattle.odc_syntax.specs.Derives.{Reach, here, write}
use Rattle.odc_lookahead.specs.declared.stop.Stop.{Stop}
use Rattle.odc_lookahead.specs.declared.stop.Stop.TheVariants as stop
use Rattle.odc_lookahead.specs.Exact.{size, Clear, Part, one, then_, token, Exact, Found, Broken}
use Rattle.odc_lookahead.specs.stmts.Loops.{Steps, steps_line, after_line}
use Rattle.odc_lookahead.specs.Read.{refused, NotExpected}
use Rattle.odc_lookahead.specs.Sets.{starts_expression, continues}
use Rattle.odc_lookahead.proofs.reading.Opening.{reach_opens}
use Rattle.odc_lookahead.proofs.reading.Reaching.{behind_part}
use Rattle.odc_lookahead.proofs.reading.Leading.{same_depth, Led}
use Rattle.odc_lookahead.proofs.reading.Answering.{token_refused, token_read, Stepped}
use Rattle.odc_lookahead.proofs.expr.SuffixAnswers.{token_clear}
use Rattle.odc_lookahead.proofs.reading.Deciding.{led_here}
use Rattle.odc_lookahead.proofs.reading.Optional.{OpensBy, Turns, Into, optional_found, optional_refused}
use Rattle.odc_lookahead.proofs.reading.Samples as sample
use Rattle.odc_lookahead.specs.declared.tokens.Fit.{Fit}
use Rattle.odc_lookahead.specs.declared.tokens.Fit.TheVariants as fit

-- behind the condition
abbrev pub semicolon_line : Part (Token × (MaybeStmt × Stmts))
semicolon_line = then_ (token kind.Semicolon) after_line

-- the condition
abbrev condition_node : Expr × (Token × (MaybeStmt × Stmts)) → Steps
condition_node u = (tree.some_expr u.0, u.1)

condition_into : (rest : List Token) → Into steps_line (g.expression mode.Header) semicolon_line condition_node rest
unfolding then_ token
condition_into rest c w s = write _ an_expr here

turn_by : {s' : List Sym} {ts' : List Token} (t : Token) (vs : List Token) → starts_expression mode.Header t.kind ≡ true → (c : ℕ) (e : MaybeExpr) (u : Token × (MaybeStmt × Stmts)) (q : List Sym) → Rule (g.maybe_expr mode.Header c e) q → (s : List Sym) →
    Reach s' ts' (q ++ (tok kind.Semicolon u.0 ∷ (after_line c u.1 ++ s))) (t ∷ vs) → size s' ts' ≤ suc (2 * length vs) → Stepped {U = Steps} (then_ (g.expression mode.Header) semicolon_line) condition_node c (e, u) s s' ts' (t ∷ vs)
unfolding then_ token
turn_by t vs e c x u q no_expr s r h =
    let is : t.kind ≡ kind.Semicolon = reach_opens r (omega (arith, h)) in
    let bad : false ≡ true = sym (ap (starts_expression mode.Header) is) ∙ e in
    cc
turn_by t vs e c x u q (an_expr {e = y}) s r h = record { by = (y, u); is = refl; reach = r }

condition_turn : {cont : TokenKind → Bool} (rest : List Token) → Turns (starts_expression mode.Header) cont steps_line (g.expression mode.Header) semicolon_line condition_node rest
condition_turn rest t vs is e c u s s' ts' clear r h =
    subst (λ (k : List Token). Stepped {U = Steps} (then_ (g.expression mode.Header) semicolon_line) condition_node c u s s' ts' k) (sym is)
    (let q = subst (λ (k : List Token). Reach s' ts' (steps_line c u ++ s) k) is r in let z = behind_part tt q (omega (arith, h)) in turn_by t vs e c u.0 u.1 z.as_symbols z.rule s z.reach h)

condition_opens : (rest : List Token) → OpensBy (g.expression mode.Header) (starts_expression mode.Header) rest
condition_opens rest c w s s' ts' r h = reach_opens r h

condition_clear : {cont : TokenKind → Bool} (c : ℕ) (u : Token × (MaybeStmt × Stmts)) (s : List Sym) → Clear cont s → Clear (continues Or mode.Header) (semicolon_line c u ++ s)
condition_clear c u s clear = token_clear (continues Or mode.Header) kind.Semicolon refl after_line c u s

-- none
none_by : {s' : List Sym} {ts' : List Token} {b : ℕ} (rest : List Token) → Broken (one (g.expression mode.Header)) (continues Or mode.Header) b rest (length rest) → (c : ℕ) (e : MaybeExpr) (u : Token × (MaybeStmt × Stmts)) (q : List Sym) → Rule (g.maybe_expr mode.Header c e) q → (s : List Sym) →
    Clear (continues Or mode.Header) (tok kind.Semicolon u.0 ∷ (after_line c u.1 ++ s)) → Reach s' ts' (q ++ (tok kind.Semicolon u.0 ∷ (after_line c u.1 ++ s))) rest → size s' ts' ≤ 2 * length rest → Stepped {U = Steps} semicolon_line (λ u. (tree.no_expr, u)) c (e, u) s s' ts' rest
unfolding then_ token
none_by rest broken c e u q no_expr s clear r h = record { by = u; is = refl; reach = r }
none_by {s'} {ts'} rest broken c e u q (an_expr {e = y}) s clear r h = absurd (broken.none c y (tok kind.Semicolon u.0 ∷ (after_line c u.1 ++ s)) s' ts' clear r h)

module _ {V : Type 0} {p : Part V} {cont : TokenKind → Bool} {b : ℕ} {ts : List Token} where
  pub steps_condition_refused : (f : Steps → V) (n : ℕ) (rest : List Token) (e : Stop) → Led p cont (λ n. n) b ts steps_line f n rest → n ≤ b → Exact (one (g.expression mode.Header)) (continues Or mode.Header) b rest (refused e) → (e ≡ stop.Syntax (length rest) → ⊥) → Exact p cont b ts (refused e)
  steps_condition_refused f n rest e led within h elsewhere =
      optional_refused (starts_expression mode.Header) (g.expression mode.Header) (continues Or mode.Header) semicolon_line condition_node (sample.expr, (sample.token, (tree.no_stmt, tree.no_stmts))) e same_depth led within (condition_into rest) (condition_turn rest) (condition_opens rest) h elsewhere
      condition_clear

  pub steps_condition : (f : Steps → V) (n : ℕ) (rest : List Token) (v : Expr) (m : ℕ) (after : List Token) → Led p cont (λ n. n) b ts steps_line f n rest → n ≤ b → Found (one (g.expression mode.Header)) (continues Or mode.Header) b rest v m after → length after < length rest →
      Led p cont (λ n. n) b ts semicolon_line (λ u. f (tree.some_expr v, u)) (max n m) after
  steps_condition f n rest v m after led within found shorter =
      optional_found (starts_expression mode.Header) (g.expression mode.Header) semicolon_line condition_node (sample.expr, (sample.token, (tree.no_stmt, tree.no_stmts))) same_depth led within (condition_into rest) (condition_turn rest) (condition_opens rest) found shorter condition_clear

  pub steps_no_condition : (f : Steps → V) (n : ℕ) (rest : List Token) → Led p cont (λ n. n) b ts steps_line f n rest → Broken (one (g.expression mode.Header)) (continues Or mode.Header) b rest (length rest) → Led p cont (λ n. n) b ts semicolon_line (λ u. f (tree.no_expr, u)) n rest
  unfolding then_ token
  steps_no_condition f n rest led broken =
      led_here semicolon_line (λ u. (tree.no_expr, u)) (sample.token, (tree.no_stmt, tree.no_stmts)) (λ c w s. write _ no_expr here)
      (λ c u s s' ts' clear r h. let z = behind_part tt r h in none_by rest broken c u.0 u.1 z.as_symbols z.rule s (condition_clear c u.1 s clear) z.reach h) led

  -- its `;`
  pub steps_unclosed : (f : Token × (MaybeStmt × Stmts) → V) (n : ℕ) (rest : List Token) (e : Stop) (within : Fit) → Led p cont (λ n. n) b ts semicolon_line f n rest → (within ≡ fit.Over → b < n) → NotExpected kind.Semicolon within rest e → Exact p cont b ts (refused e)
  steps_unclosed f n rest e within led over h = token_refused kind.Semicolon after_line e within same_depth led over h

  pub steps_closed : (f : Token × (MaybeStmt × Stmts) → V) (n : ℕ) (rest : List Token) (t : Token) (us : List Token) → Led p cont (λ n. n) b ts semicolon_line f n rest → n ≤ b → rest ≡ t ∷ us → t.kind ≡ kind.Semicolon → Led p cont (λ n. n) b ts after_line (λ u. f (t, u)) n us
  steps_closed f n rest t us led within is e = token_read same_depth led within is e
