-- A switch as a whole, from the answers for its parts.
use Rattle.std.proofs.Common.{◌≡◌, ℕ, ◌≤◌, max, Bool, true, List, ◌∷◌, sym, subst, refl, ◌⊎◌, inl, inr}
use Rattle.odc_text.specs.declared.place.Place.{Place}
use Rattle.odc_syntax.specs.declared.token.Token.{Token}
use Rattle.odc_syntax.specs.declared.token.TokenKind.{TokenKind}
use Rattle.odc_syntax.specs.declared.token.TokenKind.TheVariants as kind
use Rattle.odc_syntax.specs.declared.grammar.Mode.TheVariants as mode
use Rattle.odc_syntax.specs.declared.tree.SwitchWord.{SwitchWord}
use Rattle.odc_syntax.specs.Grammar as g
use Rattle.odc_syntax.specs.Tree.{Cases, Header}
use Rattle.odc_lookahead.specs.declared.stop.Stop.{Stop}
use Rattle.odc_lookahead.specs.Exact.{one, then_, done, token, Exact, Found}
use Rattle.odc_lookahead.specs.stmts.Headers as header
use Rattle.odc_lookahead.specs.Read.{refused, NotExpected}
use Rattle.odc_lookahead.specs.stmts.Statements.{labelled_part}
use Rattle.odc_lookahead.specs.stmts.StatementSets.{continues_statement, continues_simple, continues_head, continues_clause}
use Rattle.odc_lookahead.specs.stmts.SwitchParts.{SwitchHead, switch_head, switched, WordRead}
use Rattle.odc_lookahead.specs.stmts.SwitchSets.{before_cases, continues_cases}
use Rattle.odc_lookahead.proofs.reading.Leading.{Led}
use Rattle.odc_lookahead.proofs.reading.Carrying.{over_by}
use Rattle.odc_lookahead.proofs.headers.HeadExpressions.{clause_kinds}
use Rattle.odc_lookahead.proofs.switches.SwitchLemmas.{switch_headed, cases_unopened, cases_opened, cases_refused, cases_read, cases_unclosed, cases_closed}
use Rattle.odc_lookahead.specs.declared.tokens.Fit.{Fit}
use Rattle.odc_lookahead.specs.declared.tokens.Fit.TheVariants as fit

module _ (b : ℕ) (ts : List Token) (at : Place) (w : SwitchWord) (us : List Token) (x : SwitchHead) (n : ℕ) (rest : List Token) (word : WordRead ts at w us) (head : Found switch_head before_cases b us x n rest) where
  pub switch_unopened : (e : Stop) (within : Fit) → (n ≤ b → within ≡ fit.Within) → NotExpected kind.OpenBrace within rest e → Exact (one labelled_part) continues_statement b ts (refused e)
  switch_unopened e within k h = cases_unopened (λ r. (at, switched w x r.1.0)) n rest e within (switch_headed b ts at w us x n rest word head) (λ over. over_by within n b k over) h

  opened : (o : Token) (inner : List Token) → n ≤ b → rest ≡ o ∷ inner → o.kind ≡ kind.OpenBrace → Led (one labelled_part) continues_statement (λ n. n) b ts (then_ g.cases (then_ (token kind.CloseBrace) done)) (λ u. (at, switched w x u.0)) n inner
  opened o inner within is e = cases_opened (λ r. (at, switched w x r.1.0)) n rest o inner (switch_headed b ts at w us x n rest word head) within is e

  pub switch_cases_refused : (o : Token) (inner : List Token) (e : Stop) → n ≤ b → rest ≡ o ∷ inner → o.kind ≡ kind.OpenBrace → Exact (one g.cases) continues_cases b inner (refused e) → Exact (one labelled_part) continues_statement b ts (refused e)
  switch_cases_refused o inner e within is k h = cases_refused (λ u. (at, switched w x u.0)) n inner e (opened o inner within is k) within h

  read_cases : (o : Token) (inner : List Token) (cs : Cases) (m top : ℕ) (after : List Token) → n ≤ b → rest ≡ o ∷ inner → o.kind ≡ kind.OpenBrace → Found (one g.cases) continues_cases b inner cs m after → top ≡ max n m →
      Led (one labelled_part) continues_statement (λ n. n) b ts (then_ (token kind.CloseBrace) done) (λ u. (at, switched w x cs)) top after
  read_cases o inner cs m top after within is k found high =
      subst (λ (d : ℕ). Led (one labelled_part) continues_statement (λ n. n) b ts (then_ (token kind.CloseBrace) done) (λ u. (at, switched w x cs)) d after) (sym high)
      (cases_read (λ u. (at, switched w x u.0)) n inner cs m after (opened o inner within is k) within found)

  pub switch_unclosed : (o : Token) (inner : List Token) (cs : Cases) (m top : ℕ) (after : List Token) (e : Stop) (within' : Fit) → n ≤ b → rest ≡ o ∷ inner → o.kind ≡ kind.OpenBrace → Found (one g.cases) continues_cases b inner cs m after → top ≡ max n m → (top ≤ b → within' ≡ fit.Within) →
      NotExpected kind.CloseBrace within' after e → Exact (one labelled_part) continues_statement b ts (refused e)
  switch_unclosed o inner cs m top after e within' within is k found high t h = cases_unclosed (λ u. (at, switched w x cs)) top after e within' (read_cases o inner cs m top after within is k found high) (λ over. over_by within' top b t over) h

  pub switch_answer : (o : Token) (inner : List Token) (cs : Cases) (m top : ℕ) (after : List Token) (k : Token) (end : List Token) → n ≤ b → rest ≡ o ∷ inner → o.kind ≡ kind.OpenBrace → Found (one g.cases) continues_cases b inner cs m after → top ≡ max n m → top ≤ b → after ≡ k ∷ end → k.kind ≡ kind.CloseBrace →
      Found (one labelled_part) continues_statement b ts (at, switched w x cs) top end
  switch_answer o inner cs m top after k end within is e found high low next close = cases_closed (λ u. (at, switched w x cs)) top after k end (read_cases o inner cs m top after within is e found high) low next close

-- what goes on with a simple statement behind its first expression, where it is no `;`
goes_by : (k : TokenKind) → header.GoesOn k ⊎ (k ≡ kind.Semicolon) → (k ≡ kind.Semicolon → ⊥) → header.GoesOn k
goes_by k (inl on) apart = on
goes_by k (inr e) apart = absurd (apart e)

pub goes_on_clause : (k : TokenKind) → continues_clause k ≡ true → (k ≡ kind.Semicolon → ⊥) → header.GoesOn k
goes_on_clause k on apart = goes_by k (clause_kinds k on) apart

-- what was read up to a `;`, in the words of what is made of it
pub closed_as : (b : ℕ) (ts : List Token) (h k : Header) (n : ℕ) (rest : List Token) → h ≡ k → header.ClosedFrom b ts k n rest → header.ClosedFrom b ts h n rest
closed_as b ts h k n rest e z = subst (λ (x : Header). header.ClosedFrom b ts x n rest) (sym e) z

pub condition_as : (b : ℕ) (ts : List Token) (h k : Header) (n m : ℕ) (rest : List Token) → h ≡ k → n ≡ m → header.ConditionFrom b ts k m rest → header.ConditionFrom b ts h n rest
condition_as b ts h k n m rest e f z = subst (λ (x : Header). header.ConditionFrom b ts x n rest) (sym e) (subst (λ (d : ℕ). header.ConditionFrom b ts k d rest) (sym f) z)

-- what goes on with a header and is neither `;` nor `:`
pub head_simple : (k : TokenKind) → (k ≡ kind.Semicolon → ⊥) → (k ≡ kind.Colon → ⊥) → continues_simple mode.Header k ≡ continues_head k
head_simple kind.Semicolon e f = absurd (e refl)
head_simple kind.Colon e f = absurd (f refl)
head_simple _ e f = refl
