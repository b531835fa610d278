-- What is done behind the body of a loop, and its body.
use Rattle.std.proofs.Common.{◌≡◌, ℕ, suc, ◌*◌, ◌<◌, ◌≤◌, max, Bool, true, false, List, [], ◌∷◌, ◌++◌, length, refl, sym, ◌∙◌, subst, arith}
use Rattle.odc_syntax.specs.declared.token.Token.{Token}
use Rattle.odc_syntax.specs.declared.token.TokenKind.{TokenKind}
use Rattle.odc_syntax.specs.declared.token.TokenKind.TheVariants as kind
use Rattle.odc_syntax.specs.declared.grammar.Mode.TheVariants as mode
use Rattle.odc_syntax.specs.Tree.{Stmt, MaybeStmt, Stmts}
use Rattle.odc_syntax.specs.Tree as tree
use Rattle.odc_syntax.specs.Grammar.{Sym, tok, Rule, no_simple, a_simple}
use Rattle.odc_syntax.specs.Grammar as g
use Rattle.odc_syntax.specs.Derives.{Reach, here, read, write}
use Rattle.odc_lookahead.specs.declared.stop.Stop.{Stop}
use Rattle.odc_lookahead.specs.declared.stop.Stop.TheVariants as stop
use Rattle.odc_lookahead.specs.Exact.{size, Clear, Part, one, then_, Exact, Found, Broken, TooDeep}
use Rattle.odc_lookahead.specs.Read.{refused}
use Rattle.odc_lookahead.specs.Sets.{starts_expression}
use Rattle.odc_lookahead.specs.stmts.StatementSets.{continues_simple}
use Rattle.odc_lookahead.proofs.reading.Opening.{reach_opens, is_body}
use Rattle.odc_lookahead.proofs.reading.Reaching.{behind_part}
use Rattle.odc_lookahead.proofs.reading.Leading.{Rises, same_depth, Led}
use Rattle.odc_lookahead.proofs.reading.Answering.{led_over, Stepped}
use Rattle.odc_lookahead.proofs.stmts.StatementLemmas.{some_stmt}
use Rattle.odc_lookahead.specs.stmts.Loops.{after_line}
use Rattle.odc_lookahead.proofs.reading.Deciding.{led_here}
use Rattle.odc_lookahead.proofs.reading.Optional.{OpensBy, Turns, Into, optional_found, optional_refused}
use Rattle.odc_lookahead.proofs.reading.Samples as sample

body_stops : (k : TokenKind) → is_body k ≡ true → continues_simple mode.Header k ≡ false
body_stops kind.OpenBrace e = refl
body_stops kind.Do e = refl
body_stops _ e = cc

body_starts : (k : TokenKind) → is_body k ≡ true → starts_expression mode.Header k ≡ true → ⊥
body_starts kind.OpenBrace e f = cc
body_starts kind.Do e f = cc
body_starts _ e f = cc

-- a body begins with a brace or `do`, whatever its depth
pub body_of : (k : TokenKind) → is_body k ≡ true → Stmts
body_of kind.OpenBrace f = tree.no_stmts
body_of _ f = tree.more_stmts some_stmt tree.no_stmts

pub body_left : (c : ℕ) (k : TokenKind) → is_body k ≡ true → List Sym → List Sym
body_left c kind.OpenBrace f s = g.stmts c tree.no_stmts ∷ tok kind.CloseBrace sample.token ∷ s
body_left c _ f s = g.statement c some_stmt ∷ s

pub body_begins : (c : ℕ) (t : Token) (us : List Token) (k : TokenKind) → t.kind ≡ k → (f : is_body k ≡ true) → (s : List Sym) → Reach (body_left c k f s) us (g.body c (body_of k f) ∷ s) (t ∷ us)
unfolding body_of body_left
body_begins c t us kind.OpenBrace e f s = write _ (g.body_braces {o = t}) (read e here)
body_begins c t us kind.Do e f s = write _ (g.body_do {t = t}) (read e here)
body_begins c t us _ e f s = cc

pub body_over : {V : Type 0} {p : Part V} {cont : TokenKind → Bool} {up : ℕ → ℕ} {b : ℕ} {ts : List Token} (f : Stmts → V) (n : ℕ) (rest : List Token) (k : Token) (us : List Token) → Rises up → Led p cont up b ts (one g.body) f n rest → b < n → rest ≡ k ∷ us → is_body k.kind ≡ true → TooDeep p cont (up b) ts (length us)
body_over f n rest k us rises led over is e =
    led_over rises is over
    (λ c. (body_of k.kind e, λ s. (body_left c k.kind e s, subst (λ (l : List Token). Reach (body_left c k.kind e s) us (g.body c (body_of k.kind e) ∷ s) l) (sym is) (body_begins c k us k.kind refl e s)))) led

abbrev body_line : Part Stmts
body_line c ss = g.body c ss ∷ []

abbrev simple_node : Stmt × Stmts → MaybeStmt × Stmts
simple_node u = (tree.some_stmt u.0, u.1)

simple_into : (rest : List Token) → Into after_line (g.simple mode.Header) body_line simple_node rest
unfolding then_
simple_into rest c w s = write _ a_simple here

turn_by : {s' : List Sym} {ts' : List Token} (t : Token) (vs : List Token) → starts_expression mode.Header t.kind ≡ true → (c : ℕ) (x : MaybeStmt) (ss : Stmts) (q : List Sym) → Rule (g.maybe_simple c x) q → (s : List Sym) → Reach s' ts' (q ++ (g.body c ss ∷ s)) (t ∷ vs) →
    size s' ts' ≤ suc (2 * length vs) → Stepped {U = MaybeStmt × Stmts} (then_ (g.simple mode.Header) body_line) simple_node c (x, ss) s s' ts' (t ∷ vs)
unfolding then_
turn_by t vs e c x ss q no_simple s r h = absurd (body_starts t.kind (reach_opens r (omega (arith, h))) e)
turn_by t vs e c x ss q (a_simple {s = y}) s r h = record { by = (y, ss); is = refl; reach = r }

simple_turn : {cont : TokenKind → Bool} (rest : List Token) → Turns (starts_expression mode.Header) cont after_line (g.simple mode.Header) body_line simple_node rest
simple_turn rest t vs is e c u s s' ts' clear r h =
    subst (λ (k : List Token). Stepped {U = MaybeStmt × Stmts} (then_ (g.simple mode.Header) body_line) simple_node c u s s' ts' k) (sym is)
    (let q = subst (λ (k : List Token). Reach s' ts' (after_line c u ++ s) k) is r in let z = behind_part tt q (omega (arith, h)) in turn_by t vs e c u.0 u.1 z.as_symbols z.rule s z.reach h)

simple_opens : (rest : List Token) → OpensBy (g.simple mode.Header) (starts_expression mode.Header) rest
simple_opens rest c w s s' ts' r h = reach_opens r h

body_clear : (c : ℕ) (ss : Stmts) (s : List Sym) → Clear (continues_simple mode.Header) (g.body c ss ∷ s)
body_clear c ss s = record {
  stops = λ t us s' ts' on r h.
      let opens : is_body t.kind ≡ true = reach_opens r (omega (arith, h)) in
      let bad : true ≡ false = sym on ∙ body_stops t.kind opens in
      cc;
}

-- nothing is done
none_by : {s' : List Sym} {ts' : List Token} {b : ℕ} (rest : List Token) → Broken (one (g.simple mode.Header)) (continues_simple mode.Header) b rest (length rest) → (c : ℕ) (x : MaybeStmt) (ss : Stmts) (q : List Sym) → Rule (g.maybe_simple c x) q → (s : List Sym) → Reach s' ts' (q ++ (g.body c ss ∷ s)) rest →
    size s' ts' ≤ 2 * length rest → Stepped {U = MaybeStmt × Stmts} (one g.body) (λ ss. (tree.no_stmt, ss)) c (x, ss) s s' ts' rest
none_by rest broken c x ss q no_simple s r h = record { by = ss; is = refl; reach = r }
none_by {s'} {ts'} rest broken c x ss q (a_simple {s = y}) s r h = absurd (broken.none c y (g.body c ss ∷ s) s' ts' (body_clear c ss s) r h)

module _ {V : Type 0} {p : Part V} {cont : TokenKind → Bool} {b : ℕ} {ts : List Token} where
  pub after_refused : (f : MaybeStmt × Stmts → V) (n : ℕ) (rest : List Token) (e : Stop) → Led p cont (λ n. n) b ts after_line f n rest → n ≤ b → Exact (one (g.simple mode.Header)) (continues_simple mode.Header) b rest (refused e) → (e ≡ stop.Syntax (length rest) → ⊥) → Exact p cont b ts (refused e)
  after_refused f n rest e led within h elsewhere =
      optional_refused (starts_expression mode.Header) (g.simple mode.Header) (continues_simple mode.Header) body_line simple_node (some_stmt, tree.no_stmts) e same_depth led within (simple_into rest) (simple_turn rest) (simple_opens rest) h elsewhere
      (λ c u s clear. body_clear c u s)

  pub after_read : (f : MaybeStmt × Stmts → V) (n : ℕ) (rest : List Token) (v : Stmt) (m : ℕ) (after : List Token) → Led p cont (λ n. n) b ts after_line f n rest → n ≤ b → Found (one (g.simple mode.Header)) (continues_simple mode.Header) b rest v m after → length after < length rest →
      Led p cont (λ n. n) b ts (one g.body) (λ ss. f (tree.some_stmt v, ss)) (max n m) after
  after_read f n rest v m after led within found shorter =
      optional_found (starts_expression mode.Header) (g.simple mode.Header) body_line simple_node (some_stmt, tree.no_stmts) same_depth led within (simple_into rest) (simple_turn rest) (simple_opens rest) found shorter (λ c u s clear. body_clear c u s)

  pub after_none : (f : MaybeStmt × Stmts → V) (n : ℕ) (rest : List Token) → Led p cont (λ n. n) b ts after_line f n rest → Broken (one (g.simple mode.Header)) (continues_simple mode.Header) b rest (length rest) → Led p cont (λ n. n) b ts (one g.body) (λ ss. f (tree.no_stmt, ss)) n rest
  after_none f n rest led broken =
      led_here (one g.body) (λ ss. (tree.no_stmt, ss)) tree.no_stmts (λ c w s. write _ no_simple here) (λ c u s s' ts' clear r h. let z = behind_part tt r h in none_by rest broken c u.0 u.1 z.as_symbols z.rule s z.reach h) led
