-- `switch`: its word, and the cases in their braces.
use Rattle.std.proofs.Common.{◌≡◌, ℕ, ◌*◌, ◌<◌, ◌≤◌, max, Bool, true, false, List, [], ◌∷◌, ◌++◌, length, refl, sym, ap, subst, arith}
use Rattle.odc_text.specs.declared.place.Place.{Place}
use Rattle.odc_syntax.specs.declared.token.Token.{Token}
use Rattle.odc_syntax.specs.declared.token.TokenKind.{TokenKind}
use Rattle.odc_syntax.specs.declared.token.TokenKind.TheVariants as kind
use Rattle.odc_syntax.specs.declared.token.Word.{Word}
use Rattle.odc_syntax.specs.declared.token.Word.TheVariants as word
use Rattle.odc_syntax.specs.declared.grammar.Mode.TheVariants as mode
use Rattle.odc_syntax.specs.declared.tree.SwitchWord.{SwitchWord}
use Rattle.odc_syntax.specs.Tree.{Cases}
use Rattle.odc_syntax.specs.Tree as tree
use Rattle.odc_syntax.specs.Grammar.{Sym, tok, Rule, Labelled}
use Rattle.odc_syntax.specs.Grammar as g
use Rattle.odc_syntax.specs.Derives.{Reach, here, read, read_said, write, StartsWithout}
use Rattle.odc_lookahead.specs.declared.stop.Stop.{Stop}
use Rattle.odc_lookahead.specs.Exact.{size, Clear, Part, one, then_, done, token, behind, Exact, Found, Broken}
use Rattle.odc_lookahead.specs.Read.{refused, NotExpected}
use Rattle.odc_lookahead.specs.stmts.Runs.{labelled_by}
use Rattle.odc_lookahead.specs.stmts.Statements.{labelled_part}
use Rattle.odc_lookahead.specs.stmts.StatementSets.{continues_statement}
use Rattle.odc_lookahead.specs.stmts.SwitchParts.{CasesIn, cases_line, SwitchHead, by_value, by_type, switch_head, switched, plain_word, partial_word, WordRead, plain, partial, NotPartial}
use Rattle.odc_lookahead.specs.stmts.SwitchSets.{continues_cases, before_cases}
use Rattle.odc_lookahead.proofs.reading.Opening.{reach_opens}
use Rattle.odc_lookahead.proofs.reading.Reaching.{behind_part, behind_token, behind_said}
use Rattle.odc_lookahead.proofs.reading.Leading.{same_depth, Pending, Led, led_part, led_done, first_is, at_rest}
use Rattle.odc_lookahead.proofs.reading.Answering.{led_at, part_refused, token_refused, token_read, at_start}
use Rattle.odc_lookahead.proofs.reading.Behind.{led_behind, behind_refused}
use Rattle.odc_lookahead.proofs.stmts.StatementForms.{labelled_first}
use Rattle.odc_lookahead.proofs.expr.SuffixAnswers.{token_clear}
use Rattle.odc_lookahead.proofs.reading.Samples as sample
use Rattle.odc_lookahead.specs.declared.tokens.Fit.{Fit}
use Rattle.odc_lookahead.specs.declared.tokens.Fit.TheVariants as fit

-- behind the word
abbrev pub switch_line : Part (SwitchHead × CasesIn)
switch_line = behind switch_head cases_line

some_switch : SwitchHead × CasesIn
some_switch = (by_value tree.no_header tree.no_expr, (sample.token, (tree.no_cases, (sample.token, tt))))

abbrev node : Place → Labelled → Place × Labelled
node at l = (at, l)

-- `switch` is read
abbrev pub SwitchAt : ℕ → List Token → Place → SwitchWord → List Token → Type 0
SwitchAt b ts at w us = Led (one labelled_part) continues_statement (λ n. n) b ts switch_line (λ x. (at, switched w x.0 x.1.1.0)) 0 us

switch_into : (t : Token) (us : List Token) → t.kind ≡ kind.Switch → (c : ℕ) (w : SwitchHead × CasesIn) (s : List Sym) → Reach (switch_line c w ++ s) us (g.labelled_ c t.at (switched (plain_word t) w.0 w.1.1.0) ∷ s) (t ∷ us)
unfolding behind then_ token done
switch_into t us e c (by_value h x, r) s = write _ g.switch_value (write _ g.switch_plain (read e here))
switch_into t us e c (by_type n i x, r) s = write _ g.switch_type (write _ g.switch_plain (read e here))

unfoldable SwitchPending : (s' : List Sym) (ts' : List Token) (at : Place) (w : SwitchWord) (us : List Token) (c : ℕ) (v : Place × Labelled) (s : List Sym) → Type 0
SwitchPending s' ts' at w us c v s = Pending (λ n. n) switch_line (λ x. (at, switched w x.0 x.1.1.0)) 0 us c v s s' ts'

record AtWord (s' : List Sym) (ts' : List Token) (t : Token) (at : Place) (w : SwitchWord) (s : List Sym) (us : List Token) : Type 0 where
  place : at ≡ t.at
  word : w ≡ record { at = t.at; partial = false }
  reach : Reach s' ts' s us

word_by : {s' : List Sym} {ts' : List Token} (t : Token) (us : List Token) → t.kind ≡ kind.Switch → (at : Place) (w : SwitchWord) (p : List Sym) → Rule (g.switch_word at w) p → (s : List Sym) → Reach s' ts' (p ++ s) (t ∷ us) → size s' ts' ≤ 2 * length us → AtWord s' ts' t at w s us
word_by t us e at w p g.switch_plain s r h =
    let z = behind_token r (omega (arith, h)) in
    record { place = ap (λ (x : Token). x.at) (first_is z.is); word = ap plain_word (first_is z.is); reach = at_rest z }
word_by t us e at w p g.switch_partial s r h = let bad : t.kind ≡ kind.Directive = reach_opens r (omega (arith, h)) in cc

switch_by : {s' : List Sym} {ts' : List Token} (t : Token) (us : List Token) → t.kind ≡ kind.Switch → (c : ℕ) (at : Place) (l : Labelled) (p : List Sym) → Rule (g.labelled_ c at l) p → (s : List Sym) → Reach s' ts' (p ++ s) (t ∷ us) → size s' ts' ≤ 2 * length us → SwitchPending s' ts' t.at (plain_word t) us c (node at l) s
unfolding SwitchPending behind then_ token done
switch_by t us e c at l p g.block_alone s r h = let bad : t.kind ≡ kind.OpenBrace = reach_opens r (omega (arith, h)) in cc
switch_by t us e c at l p g.for_ever s r h = let bad : t.kind ≡ kind.For = reach_opens r (omega (arith, h)) in cc
switch_by t us e c at l p g.for_while s r h = let bad : t.kind ≡ kind.For = reach_opens r (omega (arith, h)) in cc
switch_by t us e c at l p g.for_steps s r h = let bad : t.kind ≡ kind.For = reach_opens r (omega (arith, h)) in cc
switch_by t us e c at l p g.for_range s r h = let bad : t.kind ≡ kind.For = reach_opens r (omega (arith, h)) in cc
switch_by t us e c at l p (g.switch_value {w = w} {h = q} {e = x} {o = o} {c = k} {cs = cs}) s r h =
    let z = behind_part tt r (omega (arith, h)) in
    let y = word_by t us e at w z.as_symbols z.rule (g.header c q ∷ g.maybe_expr mode.Header c x ∷ tok kind.OpenBrace o ∷ g.cases c cs ∷ tok kind.CloseBrace k ∷ s) z.reach h in
    record { at = c; value = (by_value q x, (o, (cs, (k, tt)))); bound = refl; whole = λ j. node (y.place j) (g.switch (y.word j) q x cs); deep = omega arith; reach = y.reach }
switch_by t us e c at l p (g.switch_type {w = w} {n = n} {i = i} {e = x} {o = o} {c = k} {cs = cs}) s r h =
    let z = behind_part tt r (omega (arith, h)) in
    let y = word_by t us e at w z.as_symbols z.rule (tok kind.Name n ∷ tok kind.In i ∷ g.expression mode.Header c x ∷ tok kind.OpenBrace o ∷ g.cases c cs ∷ tok kind.CloseBrace k ∷ s) z.reach h in
    record { at = c; value = (by_type n i x, (o, (cs, (k, tt)))); bound = refl; whole = λ j. node (y.place j) (g.type_switch (y.word j) n x cs); deep = omega arith; reach = y.reach }

plain_at : (b : ℕ) (t : Token) (us : List Token) → t.kind ≡ kind.Switch → SwitchAt b (t ∷ us) t.at (plain_word t) us
unfolding SwitchPending
plain_at b t us e =
    led_at b us switch_line (λ x. (t.at, switched (plain_word t) x.0 x.1.1.0)) some_switch (omega arith) same_depth (λ c v. tt) (λ c w s. switch_into t us e c w s)
    (λ c w p rule s s' ts' r h clear. switch_by t us e c w.0 w.1 p rule s r h)

-- `#partial` is read
abbrev partial_line : Part (Token × (SwitchHead × CasesIn))
partial_line = then_ (token kind.Switch) switch_line

abbrev partial_node : Place → Token × (SwitchHead × CasesIn) → Place × Labelled
partial_node at u = (at, switched (partial_word u.0) u.1.0 u.1.1.1.0)

abbrev PartialAt : ℕ → List Token → Place → List Token → Type 0
PartialAt b ts at us = Led (one labelled_part) continues_statement (λ n. n) b ts partial_line (partial_node at) 0 us

partial_into : (p : Token) (us : List Token) → p.kind ≡ kind.Directive → p.word ≡ word.Partial → (c : ℕ) (w : Token × (SwitchHead × CasesIn)) (s : List Sym) → Reach (partial_line c w ++ s) us (g.labelled_ c p.at (switched (partial_word w.0) w.1.0 w.1.1.1.0) ∷ s) (p ∷ us)
unfolding behind then_ token done
partial_into p us e f c (t, (by_value h x, r)) s = write _ g.switch_value (write _ g.switch_partial (read_said e f here))
partial_into p us e f c (t, (by_type n i x, r)) s = write _ g.switch_type (write _ g.switch_partial (read_said e f here))

unfoldable PartialPending : (s' : List Sym) (ts' : List Token) (at : Place) (us : List Token) (c : ℕ) (v : Place × Labelled) (s : List Sym) → Type 0
PartialPending s' ts' at us c v s = Pending (λ n. n) partial_line (partial_node at) 0 us c v s s' ts'

record AtPartial (s' : List Sym) (ts' : List Token) (p : Token) (at : Place) (w : SwitchWord) (s : List Sym) (us : List Token) : Type 0 where
  token : Token
  place : at ≡ p.at
  word : w ≡ record { at = token.at; partial = true }
  reach : Reach s' ts' (tok kind.Switch token ∷ s) us

partial_word_by : {s' : List Sym} {ts' : List Token} (t : Token) (us : List Token) → t.kind ≡ kind.Directive → (at : Place) (w : SwitchWord) (p : List Sym) → Rule (g.switch_word at w) p → (s : List Sym) → Reach s' ts' (p ++ s) (t ∷ us) → size s' ts' ≤ 2 * length us → AtPartial s' ts' t at w s us
partial_word_by t us e at w p (g.switch_partial {t = x}) s r h =
    let z = (behind_said r (omega (arith, h))).1 in
    record { token = x; place = ap (λ (x : Token). x.at) (first_is z.is); word = refl; reach = at_rest z }
partial_word_by t us e at w p g.switch_plain s r h = let bad : t.kind ≡ kind.Switch = reach_opens r (omega (arith, h)) in cc

partial_by : {s' : List Sym} {ts' : List Token} (t : Token) (us : List Token) → t.kind ≡ kind.Directive → (c : ℕ) (at : Place) (l : Labelled) (p : List Sym) → Rule (g.labelled_ c at l) p → (s : List Sym) → Reach s' ts' (p ++ s) (t ∷ us) → size s' ts' ≤ 2 * length us → PartialPending s' ts' t.at us c (node at l) s
unfolding PartialPending behind then_ token done
partial_by t us e c at l p g.block_alone s r h = let bad : t.kind ≡ kind.OpenBrace = reach_opens r (omega (arith, h)) in cc
partial_by t us e c at l p g.for_ever s r h = let bad : t.kind ≡ kind.For = reach_opens r (omega (arith, h)) in cc
partial_by t us e c at l p g.for_while s r h = let bad : t.kind ≡ kind.For = reach_opens r (omega (arith, h)) in cc
partial_by t us e c at l p g.for_steps s r h = let bad : t.kind ≡ kind.For = reach_opens r (omega (arith, h)) in cc
partial_by t us e c at l p g.for_range s r h = let bad : t.kind ≡ kind.For = reach_opens r (omega (arith, h)) in cc
partial_by t us e c at l p (g.switch_value {w = w} {h = q} {e = x} {o = o} {c = k} {cs = cs}) s r h =
    let z = behind_part tt r (omega (arith, h)) in
    let y = partial_word_by t us e at w z.as_symbols z.rule (g.header c q ∷ g.maybe_expr mode.Header c x ∷ tok kind.OpenBrace o ∷ g.cases c cs ∷ tok kind.CloseBrace k ∷ s) z.reach h in
    record { at = c; value = (y.token, (by_value q x, (o, (cs, (k, tt))))); bound = refl; whole = λ j. node (y.place j) (g.switch (y.word j) q x cs); deep = omega arith; reach = y.reach }
partial_by t us e c at l p (g.switch_type {w = w} {n = n} {i = i} {e = x} {o = o} {c = k} {cs = cs}) s r h =
    let z = behind_part tt r (omega (arith, h)) in
    let y = partial_word_by t us e at w z.as_symbols z.rule (tok kind.Name n ∷ tok kind.In i ∷ g.expression mode.Header c x ∷ tok kind.OpenBrace o ∷ g.cases c cs ∷ tok kind.CloseBrace k ∷ s) z.reach h in
    record { at = c; value = (y.token, (by_type n i x, (o, (cs, (k, tt))))); bound = refl; whole = λ j. node (y.place j) (g.type_switch (y.word j) n x cs); deep = omega arith; reach = y.reach }

partial_at : (b : ℕ) (p : Token) (us : List Token) → p.kind ≡ kind.Directive → p.word ≡ word.Partial → PartialAt b (p ∷ us) p.at us
unfolding PartialPending
partial_at b p us e f =
    led_at b us partial_line (partial_node p.at) (sample.token, some_switch) (omega arith) same_depth (λ c v. tt) (λ c w s. partial_into p us e f c w s)
    (λ c w q rule s s' ts' r h clear. partial_by p us e c w.0 w.1 q rule s r h)

pub partial_refused : (b : ℕ) (ts : List Token) (p : Token) (us : List Token) (e : Stop) → ts ≡ p ∷ us → p.kind ≡ kind.Directive → p.word ≡ word.Partial → NotExpected kind.Switch fit.Within us e → Exact (one labelled_part) continues_statement b ts (refused e)
partial_refused b ts p us e is k f h =
    subst (λ (l : List Token). Exact (one labelled_part) continues_statement b l (refused e)) (sym is) (token_refused kind.Switch switch_line e fit.Within same_depth (partial_at b p us k f) (λ i. cc) h)

-- the word is read
pub switch_at : (b : ℕ) (ts : List Token) (at : Place) (w : SwitchWord) (us : List Token) → WordRead ts at w us → SwitchAt b ts at w us
switch_at b ts at w us (plain t _ e) = plain_at b t us e
switch_at b ts at w us (partial p t _ e f k) = token_read same_depth (partial_at b p (t ∷ us) e f) (omega arith) refl k

-- neither stands first
unlabelled : (k : TokenKind) (w : Word) → (k ≡ kind.OpenBrace → ⊥) → (k ≡ kind.For → ⊥) → (k ≡ kind.Switch → ⊥) → (k ≡ kind.Directive → w ≡ word.Partial → ⊥) → labelled_by k w ≡ true → ⊥
unlabelled kind.OpenBrace w a i e f on = a refl
unlabelled kind.For w a i e f on = i refl
unlabelled kind.Switch w a i e f on = e refl
unlabelled kind.Directive word.Partial a i e f on = f refl refl
unlabelled kind.Directive _ a i e f on = cc
unlabelled _ w a i e f on = cc

labelled_opens : {s' : List Sym} {ts' : List Token} (ts : List Token) → StartsWithout kind.OpenBrace ts → StartsWithout kind.For ts → StartsWithout kind.Switch ts → NotPartial ts → (c : ℕ) (at : Place) (l : Labelled) (s : List Sym) → Reach s' ts' (g.labelled_ c at l ∷ s) ts → size s' ts' ≤ 2 * length ts → ⊥
labelled_opens [] a i e f c at l s r h = reach_opens r h
labelled_opens (t ∷ us) a i e f c at l s r h = unlabelled t.kind t.word a i e (λ x y. f t us refl x y) (labelled_first t us c at l s r h)

pub no_switch : (b : ℕ) (ts : List Token) → StartsWithout kind.OpenBrace ts → StartsWithout kind.For ts → StartsWithout kind.Switch ts → NotPartial ts → Broken (one labelled_part) continues_statement b ts (length ts)
no_switch b ts a i e f = record {
  short = omega arith;
  comes = at_start labelled_part b ts (node sample.place (g.block tree.no_stmts));
  none = λ c w s s' ts' clear r h. labelled_opens ts a i e f c w.0 w.1 s r h;
}

-- what stands before the cases
brace_clear : (c : ℕ) (r : CasesIn) (s : List Sym) → Clear before_cases (cases_line c r ++ s)
brace_clear c r s = token_clear before_cases kind.OpenBrace refl (then_ g.cases (then_ (token kind.CloseBrace) done)) c r s

pub switch_head_refused : (b : ℕ) (ts : List Token) (at : Place) (w : SwitchWord) (us : List Token) (e : Stop) → WordRead ts at w us → Exact switch_head before_cases b us (refused e) → Exact (one labelled_part) continues_statement b ts (refused e)
switch_head_refused b ts at w us e z h = behind_refused before_cases switch_head cases_line e same_depth (switch_at b ts at w us z) (omega arith) h (λ c r s clear. brace_clear c r s)

-- it is read
abbrev pub HeadedAt : ℕ → List Token → Place → SwitchWord → SwitchHead → ℕ → List Token → Type 0
HeadedAt b ts at w x n rest = Led (one labelled_part) continues_statement (λ n. n) b ts cases_line (λ r. (at, switched w x r.1.0)) n rest

pub switch_headed : (b : ℕ) (ts : List Token) (at : Place) (w : SwitchWord) (us : List Token) (x : SwitchHead) (n : ℕ) (rest : List Token) → WordRead ts at w us → Found switch_head before_cases b us x n rest → HeadedAt b ts at w x n rest
switch_headed b ts at w us x n rest z found =
    subst (λ (k : ℕ). HeadedAt b ts at w x k rest) zero_max (led_behind same_depth (switch_at b ts at w us z) (omega arith) found (λ c r s clear. brace_clear c r s))
  where
    zero_max : max 0 n ≡ n
    zero_max = omega arith

-- the cases in their braces
close_clear : (c : ℕ) (u : Token × Unit {0}) (s : List Sym) → Clear continues_cases (then_ (token kind.CloseBrace) done c u ++ s)
close_clear c u s = token_clear continues_cases kind.CloseBrace refl done c u s

module _ {V : Type 0} {p : Part V} {cont : TokenKind → Bool} {b : ℕ} {ts : List Token} where
  pub cases_unopened : (f : CasesIn → V) (n : ℕ) (rest : List Token) (e : Stop) (within : Fit) → Led p cont (λ n. n) b ts cases_line f n rest → (within ≡ fit.Over → b < n) → NotExpected kind.OpenBrace within rest e → Exact p cont b ts (refused e)
  cases_unopened f n rest e within led over h = token_refused kind.OpenBrace (then_ g.cases (then_ (token kind.CloseBrace) done)) e within same_depth led over h

  pub cases_opened : (f : CasesIn → V) (n : ℕ) (rest : List Token) (t : Token) (us : List Token) → Led p cont (λ n. n) b ts cases_line f n rest → n ≤ b → rest ≡ t ∷ us → t.kind ≡ kind.OpenBrace → Led p cont (λ n. n) b ts (then_ g.cases (then_ (token kind.CloseBrace) done)) (λ u. f (t, u)) n us
  cases_opened f n rest t us led within is e = token_read same_depth led within is e

  pub cases_refused : (f : Cases × (Token × Unit {0}) → V) (n : ℕ) (rest : List Token) (e : Stop) → Led p cont (λ n. n) b ts (then_ g.cases (then_ (token kind.CloseBrace) done)) f n rest → n ≤ b → Exact (one g.cases) continues_cases b rest (refused e) → Exact p cont b ts (refused e)
  cases_refused f n rest e led within h = part_refused g.cases continues_cases (then_ (token kind.CloseBrace) done) e same_depth led within h (λ c u s clear. close_clear c u s)

  pub cases_read : (f : Cases × (Token × Unit {0}) → V) (n : ℕ) (rest : List Token) (v : Cases) (m : ℕ) (after : List Token) → Led p cont (λ n. n) b ts (then_ g.cases (then_ (token kind.CloseBrace) done)) f n rest → n ≤ b → Found (one g.cases) continues_cases b rest v m after →
      Led p cont (λ n. n) b ts (then_ (token kind.CloseBrace) done) (λ u. f (v, u)) (max n m) after
  cases_read f n rest v m after led within found = led_part same_depth led within found (λ c u s clear. close_clear c u s)

  pub cases_unclosed : (f : Token × Unit {0} → V) (n : ℕ) (rest : List Token) (e : Stop) (within : Fit) → Led p cont (λ n. n) b ts (then_ (token kind.CloseBrace) done) f n rest → (within ≡ fit.Over → b < n) → NotExpected kind.CloseBrace within rest e → Exact p cont b ts (refused e)
  cases_unclosed f n rest e within led over h = token_refused kind.CloseBrace done e within same_depth led over h

  pub cases_closed : (f : Token × Unit {0} → V) (n : ℕ) (rest : List Token) (t : Token) (us : List Token) → Led p cont (λ n. n) b ts (then_ (token kind.CloseBrace) done) f n rest → n ≤ b → rest ≡ t ∷ us → t.kind ≡ kind.CloseBrace → Found p cont b ts (f (t, tt)) n us
  cases_closed f n rest t us led within is e = led_done same_depth (token_read same_depth led within is e)

-- `#partial switch` stands first
pub partial_read : (ts : List Token) (p : Token) (us : List Token) (t : Token) (vs : List Token) → ts ≡ p ∷ us → p.kind ≡ kind.Directive → p.word ≡ word.Partial → us ≡ t ∷ vs → t.kind ≡ kind.Switch → WordRead ts p.at (partial_word t) vs
partial_read ts p us t vs is e f next k =
    subst (λ (l : List Token). WordRead l p.at (partial_word t) vs) (sym is) (subst (λ (l : List Token). WordRead (p ∷ l) p.at (partial_word t) vs) (sym next) (partial p t vs e f k))
