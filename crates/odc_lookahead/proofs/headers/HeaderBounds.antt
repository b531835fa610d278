-- A name at the start of a header where no level is left: what may still go on is deeper.
use Rattle.std.proofs.Common.{◌≡◌, ℕ, suc, ◌-◌, ◌*◌, ◌<◌, ◌≤◌, Bool, true, false, ◌||◌, List, [], ◌∷◌, ◌++◌, length, refl, sym, ◌∙◌, subst, arith, Option, Some, None, ◌⊎◌, inl, inr}
use Rattle.odc_syntax.specs.declared.token.Token.{Token}
use Rattle.odc_syntax.specs.declared.token.TokenKind.{TokenKind}
use Rattle.odc_syntax.specs.declared.token.TokenKind.TheVariants as kind
use Rattle.odc_syntax.specs.declared.grammar.Mode.TheVariants as mode
use Rattle.odc_syntax.specs.declared.grammar.Level.TheVariants.{Or}
use Rattle.odc_syntax.specs.declared.tree.AssignOp.{AssignOp}
use Rattle.odc_syntax.specs.Operators.{assignment_of}
use Rattle.odc_syntax.specs.Tree.{expr, decl}
use Rattle.odc_syntax.specs.Tree as tree
use Rattle.odc_syntax.specs.Grammar.{Sym, tok, names_one, declare_inferred}
use Rattle.odc_syntax.specs.Grammar as g
use Rattle.odc_syntax.specs.Derives.{Reach, here, read, write}
use Rattle.odc_lookahead.specs.Exact.{size, Clear, Part, ComesAt, Comes}
use Rattle.odc_lookahead.specs.stmts.Clauses.{Clause, declared, assigned, alone, clause_then}
use Rattle.odc_lookahead.specs.stmts.Headers.{GoesOn}
use Rattle.odc_lookahead.specs.Sets.{continues}
use Rattle.odc_lookahead.specs.stmts.StatementSets.{is_assignment, continues_exprs, continues_head}
use Rattle.odc_lookahead.proofs.reading.Reaching.{along}
use Rattle.odc_lookahead.proofs.reading.Leading.{Rises}
use Rattle.odc_lookahead.proofs.expr.WholeLemmas.{name_whole, name_deep, costs_expression, Ends}
use Rattle.odc_lookahead.proofs.stmts.SimpleLemmas.{costs_simple}
use Rattle.odc_lookahead.proofs.stmts.DeclarationLemmas.{costs_declaration}
use Rattle.odc_lookahead.proofs.headers.HeadLemmas.{header_goes}
use Rattle.odc_lookahead.proofs.headers.HeadExpressions.{clause_reads}
use Rattle.odc_lookahead.proofs.headers.ClauseExpressions.{comes_up, expression_comes}
use Rattle.odc_lookahead.proofs.reading.Deciding.{Leads}

-- what goes on with a header behind a name: a `:`, what makes a simple statement of it, or what goes on
-- with the expression
abbrev pub HeadGoes : TokenKind → Type 0
HeadGoes k = (k ≡ kind.Colon) ⊎ ((GoesOn k ⊎ (k ≡ kind.Semicolon)) ⊎ (continues Or mode.Header k ≡ true))

exprs_kinds : (k : TokenKind) → continues_exprs mode.Header k ≡ true → (k ≡ kind.Comma) ⊎ (continues Or mode.Header k ≡ true)
exprs_kinds kind.Comma e = inl refl
exprs_kinds _ e = inr e

exprs_goes : (k : TokenKind) → (k ≡ kind.Comma) ⊎ (continues Or mode.Header k ≡ true) → HeadGoes k
exprs_goes k (inl e) = inr (inl (inl (inl e)))
exprs_goes k (inr e) = inr (inr e)

simple_kinds : (k : TokenKind) (a : Bool) (o : Option AssignOp) → continues_exprs mode.Header k ≡ a → assignment_of k ≡ o → (a || is_assignment o) ≡ true → HeadGoes k
simple_kinds k true o e f h = exprs_goes k (exprs_kinds k e)
simple_kinds k false (Some op) e f h = inr (inl (inl (inr (op, f))))
simple_kinds k false None e f h = cc

pub head_kinds : (k : TokenKind) → continues_head k ≡ true → HeadGoes k
head_kinds kind.Semicolon e = inr (inl (inr refl))
head_kinds kind.Colon e = inl refl
head_kinds k e = simple_kinds k (continues_exprs mode.Header k) (assignment_of k) refl refl e

-- a name alone is an expression where none of it follows
pub no_operand : (k : TokenKind) → continues_head k ≡ false → continues Or mode.Header k ≡ false
no_operand k e = by_value (continues Or mode.Header k) refl
  where
    by_value : (a : Bool) → continues Or mode.Header k ≡ a → a ≡ false
    by_value false f = refl
    by_value true f = let bad : true ≡ false = sym (header_goes k f) ∙ e in cc

-- each reading costs a level
pub clause_costs : {U : Type 0} (bare closed : Part U) {s' : List Sym} {ts' : List Token} (ts : List Token) (c : ℕ) (w : Clause × U) (s : List Sym) → Reach s' ts' (clause_then bare closed c w ++ s) ts → size s' ts' ≤ 2 * length ts → 0 < c
clause_costs bare closed {s'} {ts'} ts c (declared d t, u) s r h = costs_declaration mode.Header c d (tok kind.Semicolon t ∷ (closed c u ++ s)) s' ts ts' r h
clause_costs bare closed {s'} {ts'} ts c (assigned x t, u) s r h = let z = costs_simple mode.Header c x (tok kind.Semicolon t ∷ (closed c u ++ s)) s' ts ts' r h in omega (arith, z)
clause_costs bare closed {s'} {ts'} ts c (alone e, u) s r h = costs_expression mode.Header c e (bare c u ++ s) s' ts ts' r h

module _ {V U : Type 0} {p : Part V} {cont : TokenKind → Bool} {up : ℕ → ℕ} {b : ℕ} {ws : List Token} (bare closed : Part U) {f : Clause × U → V} (rises : Rises up)
    (stops : (c : ℕ) (u : U) (s : List Sym) → Clear cont s → Clear continues_head (bare c u ++ s)) {t x : Token} {vs : List Token} {far : ℕ} (led : Leads p cont up b ws (clause_then bare closed) f 0 (t ∷ x ∷ vs) far) (e : t.kind ≡ kind.Name) where
  colon_deeper : x.kind ≡ kind.Colon → Comes p (up 1) ws (length vs)
  colon_deeper i =
      comes_up rises (λ c h.
      let j : suc (c - 1) ≡ c = omega (arith, h) in
      subst (λ (d : ℕ). ComesAt p (up d) ws (length vs)) j (record {
        value = f (declared (decl t.at (tree.variable (t ∷ []) tree.no_type (tree.values tree.no_exprs))) x, led.sample.1);
        before = λ s. record {
          pending = tok kind.Assign x ∷ g.exprs mode.Header (c - 1) tree.no_exprs ∷ tok kind.Semicolon x ∷ (closed (suc (c - 1)) led.sample.1 ++ s);
          rest = vs;
          rest_is = refl;
          reach = along (led.reads (suc (c - 1)) (declared (decl t.at (tree.variable (t ∷ []) tree.no_type (tree.values tree.no_exprs))) x, led.sample.1) (omega arith) s) (write _ (declare_inferred {a = x}) (write _ names_one (read e (read i here))));
        };
      }))

  -- behind the name as an expression
  clause_deeper : GoesOn x.kind ⊎ (x.kind ≡ kind.Semicolon) → Ends mode.Header (x ∷ vs) → Comes p (up 2) ws (length vs)
  clause_deeper on ends =
      comes_up rises (λ c h.
      let j : suc (c - 1) ≡ c = omega (arith, h) in
      let z = clause_reads 1 (t ∷ x ∷ vs) (expr t.at t.at (tree.name t)) 1 (x ∷ vs) x vs (name_whole mode.Header t (x ∷ vs) e ends) refl on (c - 1) (omega (arith, h)) in
      subst (λ (d : ℕ). ComesAt p (up d) ws (length vs)) j (record {
        value = f (assigned z.0 x, led.sample.1);
        before = λ s.
            let y = z.1 (closed (suc (c - 1)) led.sample.1 ++ s) in
            record { pending = y.0; rest = vs; rest_is = refl; reach = along (led.reads (suc (c - 1)) (assigned z.0 x, led.sample.1) (omega arith) s) y.1 };
      }))

  operand_deeper : continues Or mode.Header x.kind ≡ true → (d : ℕ) × Comes p (up d) ws (length vs)
  operand_deeper on = let deep = name_deep mode.Header t x vs e on in (deep.depth, expression_comes bare closed rises stops led deep.depth (length vs) deep.deeper)

  deeper_by : (a : Bool) → continues Or mode.Header x.kind ≡ a → HeadGoes x.kind → (d : ℕ) × Comes p (up d) ws (length vs)
  deeper_by true on goes = operand_deeper on
  deeper_by false ends (inl i) = (1, colon_deeper i)
  deeper_by false ends (inr (inl i)) = (2, clause_deeper i ends)
  deeper_by false ends (inr (inr i)) = operand_deeper i

  -- what goes on with a name comes deeper
  pub name_deeper : continues_head x.kind ≡ true → (d : ℕ) × Comes p (up d) ws (length vs)
  name_deeper on = deeper_by (continues Or mode.Header x.kind) refl (head_kinds x.kind on)
