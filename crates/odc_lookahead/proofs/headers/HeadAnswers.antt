-- What stands before a body: what has been read, from the answers of the parts.
use Rattle.std.proofs.Common.{◌≡◌, ℕ, suc, ◌≤◌, true, List, ◌∷◌, sym, ap, subst, arith, ◌⊎◌, inl, inr}
use Rattle.odc_syntax.specs.declared.token.Token.{Token}
use Rattle.odc_syntax.specs.declared.token.TokenKind.{TokenKind}
use Rattle.odc_syntax.specs.declared.token.TokenKind.TheVariants as kind
use Rattle.odc_syntax.specs.declared.grammar.Mode.TheVariants as mode
use Rattle.odc_syntax.specs.declared.grammar.Level.TheVariants.{Or}
use Rattle.odc_syntax.specs.Tree.{Expr, Header, stmt, first_of}
use Rattle.odc_syntax.specs.Tree as tree
use Rattle.odc_syntax.specs.Grammar as g
use Rattle.odc_syntax.specs.Derives.{StartsWithout}
use Rattle.odc_syntax.specs.Operators.{assignment_of}
use Rattle.odc_lookahead.specs.Exact.{one, Found}
use Rattle.odc_lookahead.specs.stmts.Headers.{GoesOn, ClosedFrom, declared, listed, begun, ConditionFrom, closed, evaluated}
use Rattle.odc_lookahead.specs.Sets.{continues}
use Rattle.odc_lookahead.specs.stmts.StatementSets.{continues_simple, continues_clause, NoAssignment}
use Rattle.odc_lookahead.proofs.reading.Deciding.{lower_found}
use Rattle.odc_lookahead.proofs.expr.ExprsLemmas.{exprs_alone}
use Rattle.odc_lookahead.proofs.stmts.SimpleLemmas.{eval_found}
use Rattle.odc_lookahead.proofs.headers.HeadLemmas.{ClosedAt, ConditionAt, head_declared, head_listed, head_closed}
use Rattle.odc_lookahead.proofs.headers.HeadExpressions.{head_clause, head_evaluated, clause_kinds}
use Rattle.odc_lookahead.proofs.headers.HeaderFacts.{listed_at, expression_at}

pub closed_at : (b : ℕ) (ts : List Token) (h : Header) (n : ℕ) (rest : List Token) → ClosedFrom b ts h n rest → ClosedAt b ts h n rest
closed_at b ts h n rest (declared place d _ _ some run found) = head_declared b ts place d n rest some run found
closed_at b ts h n rest (listed place x _ _ some run found) = head_listed b ts place x n rest some (listed_at ts place run) found
closed_at b ts h n rest (begun d place v k before t us x _ _ deeper z within is on found) = head_clause b d ts place v k before t us x n rest deeper (expression_at b ts place v k before z) within is on found

-- an expression behind which `;` stands is a statement
no_comma : (rest : List Token) (t : Token) (us : List Token) → rest ≡ t ∷ us → t.kind ≡ kind.Semicolon → StartsWithout kind.Comma rest
no_comma rest t us is e = subst (λ (l : List Token). StartsWithout kind.Comma l) (sym is) (λ f. cc)

no_operator : (rest : List Token) (t : Token) (us : List Token) → rest ≡ t ∷ us → t.kind ≡ kind.Semicolon → NoAssignment rest
no_operator rest t us is e = subst (λ (l : List Token). NoAssignment l) (sym is) (ap assignment_of e)

pub semicolon_found : (b d : ℕ) (ts : List Token) (v : Expr) (n : ℕ) (rest : List Token) (t : Token) (us : List Token) → b ≡ suc d → Found (one (g.expression mode.Header)) (continues Or mode.Header) b ts v n rest → n ≤ d → rest ≡ t ∷ us → t.kind ≡ kind.Semicolon →
    Found (one (g.simple mode.Header)) (continues_simple mode.Header) b ts (stmt (first_of v) (tree.eval (tree.more_exprs v tree.no_exprs))) (suc n) rest
semicolon_found b d ts v n rest t us deeper found within is e =
    subst (λ (c : ℕ). Found (one (g.simple mode.Header)) (continues_simple mode.Header) c ts (stmt (first_of v) (tree.eval (tree.more_exprs v tree.no_exprs))) (suc n) rest) (sym deeper)
    (eval_found mode.Header d ts v tree.no_exprs n rest (record { found = exprs_alone mode.Header d ts v n rest (lower_found within found) (no_comma rest t us is e) }) (no_operator rest t us is e))

pub condition_at : (b : ℕ) (ts : List Token) (h : Header) (n : ℕ) (us : List Token) → ConditionFrom b ts h n us → ConditionAt b ts h n us
condition_at b ts h n us (closed _ _ rest t _ z within is e) = head_closed b ts h n rest t us (closed_at b ts h n rest z) within is e
condition_at b ts h n us (evaluated d place v k rest t _ deeper z within is e) =
    head_evaluated b d ts place v k rest t us (stmt (first_of v) (tree.eval (tree.more_exprs v tree.no_exprs))) deeper (expression_at b ts place v k rest z) within is e (semicolon_found b d ts v k rest t us deeper z.found within is e)

pub condition_within : (b : ℕ) (ts : List Token) (h : Header) (n : ℕ) (us : List Token) → ConditionFrom b ts h n us → n ≤ b
condition_within b ts h n us (closed _ _ rest t _ z within is e) = within
condition_within b ts h n us (evaluated d place v k rest t _ deeper z within is e) = omega arith

-- what goes on behind an expression and is no `;`
goes_cases : (k : TokenKind) → GoesOn k ⊎ (k ≡ kind.Semicolon) → (k ≡ kind.Semicolon → ⊥) → GoesOn k
goes_cases k (inl e) f = e
goes_cases k (inr e) f = absurd (f e)

pub goes_behind : (k : TokenKind) → continues_clause k ≡ true → (k ≡ kind.Semicolon → ⊥) → GoesOn k
goes_behind k e f = goes_cases k (clause_kinds k e) f

-- the same header and height, as they are built
pub condition_is : {b : ℕ} {ts : List Token} {h k : Header} {n m : ℕ} {us : List Token} → h ≡ k → n ≡ m → ConditionFrom b ts h n us → ConditionFrom b ts k m us
condition_is {b} {ts} {h} {k} {n} {m} {us} e f z = subst (λ (x : Header). ConditionFrom b ts x m us) e (subst (λ (i : ℕ). ConditionFrom b ts h i us) f z)
