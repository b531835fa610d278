-- A name and `:` where only one level is left, and a name alone.
use Rattle.std.proofs.Common.{◌≡◌, ℕ, suc, ◌-◌, ◌*◌, ◌<◌, ◌≤◌, Bool, true, false, ◌||◌, List, [], ◌∷◌, ◌++◌, length, refl, sym, ◌∙◌, ap, subst, arith, Option, Some, None, ◌⊎◌, inl, inr}
use Rattle.odc_syntax.specs.declared.token.Token.{Token}
use Rattle.odc_syntax.specs.declared.token.TokenKind.{TokenKind}
use Rattle.odc_syntax.specs.declared.token.TokenKind.TheVariants as kind
use Rattle.odc_syntax.specs.declared.grammar.Mode.TheVariants.{Free, Start}
use Rattle.odc_syntax.specs.declared.grammar.Use.{Use}
use Rattle.odc_syntax.specs.declared.grammar.Use.TheVariants.{Plain}
use Rattle.odc_syntax.specs.declared.grammar.Level.TheVariants.{Or}
use Rattle.odc_syntax.specs.Operators.{assignment_of}
use Rattle.odc_syntax.specs.declared.tree.AssignOp.{AssignOp}
use Rattle.odc_syntax.specs.Tree.{Expr, expr, Type_, MaybeType, Exprs, Stmt, stmt, Decl, decl, first_of}
use Rattle.odc_syntax.specs.View as view
use Rattle.odc_syntax.specs.Tree as tree
use Rattle.odc_syntax.specs.Grammar.{Sym, tok, Rule, Labelled, labelled, names_one, declare_constant, declare_inferred, declare_typed, no_type, a_type}
use Rattle.odc_syntax.specs.Grammar as g
use Rattle.odc_syntax.specs.Derives.{Reach, here, read, write, StartsWithout}
use Rattle.odc_lookahead.specs.declared.stop.Stop.{Stop}
use Rattle.odc_lookahead.specs.declared.stop.Stop.TheVariants as stop
use Rattle.odc_lookahead.specs.declared.statement_form.StatementForm.TheVariants as form
use Rattle.odc_lookahead.specs.Exact.{size, Clear, one, ComesAt, Comes, Exact, Found, TooDeep}
use Rattle.odc_lookahead.specs.Read.{refused}
use Rattle.odc_lookahead.specs.stmts.Runs.{named, ended, labelled_by, is_labelled, NotLabelled}
use Rattle.odc_lookahead.specs.Sets.{continues, nothing_continues}
use Rattle.odc_lookahead.specs.stmts.StatementSets.{is_assignment, continues_exprs, continues_simple, continues_statement, EndsSimple, NoAssignment}
use Rattle.odc_lookahead.proofs.reading.Reaching.{behind_part, behind_token}
use Rattle.odc_lookahead.proofs.reading.Leading.{without, at_rest}
use Rattle.odc_lookahead.proofs.reading.Answering.{answer_is}
use Rattle.odc_lookahead.proofs.expr.SuffixAnswers.{nothing_clear}
use Rattle.odc_lookahead.proofs.expr.WholeLemmas.{Ends, name_whole}
use Rattle.odc_lookahead.proofs.expr.ExprsLemmas.{exprs_first, exprs_answer}
use Rattle.odc_lookahead.proofs.stmts.SimpleLemmas.{Costly, comes_nowhere, eval_found}
use Rattle.odc_lookahead.proofs.stmts.StatementForms.{simple_clear, forms, labelled_first}
use Rattle.odc_lookahead.proofs.stmts.RunLemmas.{not_simple}
use Rattle.odc_lookahead.proofs.stmts.NamedLemmas.{named_at, name_colon, no_label, no_statement_colon, undeclared_answer}
use Rattle.odc_lookahead.proofs.stmts.StatementBounds.{name_comes, named_cost}
use Rattle.odc_lookahead.proofs.reading.Samples as sample

-- a type costs a level
constructed_costs : (u : Use) (c : ℕ) (w : Type_) (p : List Sym) → Rule (g.constructed u c w) p → 0 < c
constructed_costs u c w p g.type_pointer = omega arith
constructed_costs u c w p g.type_distinct = omega arith
constructed_costs u c w p g.type_dollar = omega arith
constructed_costs u c w p g.type_word_proc = omega arith
constructed_costs u c w p g.type_array = omega arith
constructed_costs u c w p g.type_counted = omega arith
constructed_costs u c w p g.type_soa = omega arith
constructed_costs u c w p g.type_soa_counted = omega arith
constructed_costs u c w p g.type_struct = omega arith
constructed_costs u c w p g.type_union = omega arith
constructed_costs u c w p g.type_enum = omega arith

type_costs : {s' : List Sym} {ts' : List Token} (u : Use) (c : ℕ) (w : Type_) (p : List Sym) → Rule (g.type_ u c w) p → (s : List Sym) (ts : List Token) → Reach s' ts' (p ++ s) ts → size s' ts' ≤ 2 * length ts → 0 < c
type_costs u c w p g.type_named s ts r h = omega arith
type_costs u c w p g.type_member s ts r h = omega arith
type_costs u c w p g.type_group s ts r h = omega arith
type_costs u c w p g.type_proc s ts r h = omega arith
type_costs u c w p g.type_constructed s ts r h = let z = behind_part tt r h in constructed_costs u c w z.as_symbols z.rule

pub costs_type : (u : Use) (c : ℕ) (w : Type_) (s s' : List Sym) (ts ts' : List Token) → Reach s' ts' (g.type_ u c w ∷ s) ts → size s' ts' ≤ 2 * length ts → 0 < c
costs_type u c w s s' ts ts' r h = let z = behind_part tt r h in type_costs u c w z.as_symbols z.rule s ts z.reach h

type_costly : (u : Use) (ts : List Token) → Costly (one (g.type_ u)) 0 ts
type_costly u ts = record { costs = λ c w s s' ts' r h. costs_type u c w s s' ts ts' r h }

-- a name and `:`
colon_comes : (t k : Token) (us : List Token) → t.kind ≡ kind.Name → k.kind ≡ kind.Colon → Comes (one g.statement) 1 (t ∷ k ∷ us) (length us)
colon_comes t k us e f = record {
  at = λ c h.
      let i : suc (c - 1) ≡ c = omega (arith, h) in
      subst (λ (d : ℕ). ComesAt (one g.statement) d (t ∷ k ∷ us) (length us)) i (record {
        value = stmt t.at (labelled (Some t) (g.block tree.no_stmts));
        before = λ s. record { pending = g.labelled_ (c - 1) sample.place (g.block tree.no_stmts) ∷ s; rest = us; rest_is = refl; reach = write _ g.statement_labelled (read e (read f here)) };
      });
}

not_labelled : (k : TokenKind) → (k ≡ kind.Assign) ⊎ (k ≡ kind.Colon) → (t : Token) → t.kind ≡ k → is_labelled t ≡ true → ⊥
not_labelled k (inl i) t e l = let bad : false ≡ true = sym (ap (λ (k : TokenKind). labelled_by k t.word) (e ∙ i)) ∙ l in cc
not_labelled k (inr i) t e l = let bad : false ≡ true = sym (ap (λ (k : TokenKind). labelled_by k t.word) (e ∙ i)) ∙ l in cc

declared_deeper : (t k a : Token) (vs : List Token) → t.kind ≡ kind.Name → k.kind ≡ kind.Colon → (a.kind ≡ kind.Assign) ⊎ (a.kind ≡ kind.Colon) → Comes (one g.statement) 2 (t ∷ k ∷ a ∷ vs) (length vs)
declared_deeper t k a vs e f (inl i) = record {
  at = λ c h.
      let j : suc (suc (c - 2)) ≡ c = omega (arith, h) in
      subst (λ (d : ℕ). ComesAt (one g.statement) d (t ∷ k ∷ a ∷ vs) (length vs)) j (record {
        value = stmt t.at (tree.declare (decl t.at (tree.variable (t ∷ []) tree.no_type (tree.values tree.no_exprs))));
        before = λ s. record { pending = g.exprs Free (c - 2) tree.no_exprs ∷ s; rest = vs; rest_is = refl; reach = write _ g.statement_declare (write _ declare_inferred (write _ names_one (read e (read f (read i here))))) };
      });
}
declared_deeper t k a vs e f (inr i) = record {
  at = λ c h.
      let j : suc (suc (c - 2)) ≡ c = omega (arith, h) in
      subst (λ (d : ℕ). ComesAt (one g.statement) d (t ∷ k ∷ a ∷ vs) (length vs)) j (record {
        value = stmt t.at (tree.declare (decl t.at (tree.constant (t ∷ []) tree.no_type tree.no_exprs)));
        before = λ s. record { pending = g.exprs Free (c - 2) tree.no_exprs ∷ s; rest = vs; rest_is = refl; reach = write _ g.statement_declare (write _ declare_constant (write _ names_one (read e (read f (write _ no_type (read i here)))))) };
      });
}

pub colon_over : (t k a : Token) (ts behind us vs : List Token) → ts ≡ t ∷ behind → t.kind ≡ kind.Name → behind ≡ k ∷ us → k.kind ≡ kind.Colon → us ≡ a ∷ vs → (a.kind ≡ kind.Assign) ⊎ (a.kind ≡ kind.Colon) → TooDeep (one g.statement) continues_statement 1 ts (length vs)
colon_over t k a ts behind us vs is e then' f next i =
    subst (λ (l : List Token). TooDeep (one g.statement) continues_statement 1 l (length vs)) (sym (is ∙ ap (λ (l : List Token). t ∷ l) (then' ∙ ap (λ (l : List Token). k ∷ l) next))) (record {
      short = omega arith;
      comes = colon_comes t k (a ∷ vs) e f;
      deep = λ c w s s' ts' clear r h.
          let z = behind_part tt r (omega (arith, h)) in
          named_cost (t ∷ k ∷ a ∷ vs) c w z.as_symbols z.rule (named_at (t ∷ k ∷ a ∷ vs) t (k ∷ a ∷ vs) refl e z.rule s clear z.reach (omega (arith, h))) s z.reach (omega (arith, h))
          (λ c u j at l r.
          let y = behind_token r (omega (arith, h)) in
          let x = behind_token (at_rest y) (omega (arith, h)) in
          not_labelled a.kind i a refl (labelled_first a vs c at l s (at_rest x) (omega (arith, h))));
      depth = 2;
      deeper = declared_deeper t k a vs e f i;
    })

-- what stands behind a name and `:` begins no type, or one that is too deep
declared_by : {s' : List Sym} {ts' : List Token} (t k : Token) (us : List Token) → k.kind ≡ kind.Colon → StartsWithout kind.Assign us → StartsWithout kind.Colon us → ((c : ℕ) (ty : Type_) (s : List Sym) → Reach s' ts' (g.type_ Plain c ty ∷ s) us → ⊥) → (c : ℕ) (w : Decl) (p : List Sym) →
    Rule (g.declaration Free c w) p → (s : List Sym) → Reach s' ts' (p ++ s) (t ∷ k ∷ us) → size s' ts' ≤ 2 * length us → ⊥
declared_by {s'} {ts'} t k us f a i none c w p (declare_constant {b = b} {d = d} {ty = ty} {es = es}) s r h =
    let z = behind_part tt r (omega (arith, h)) in
    let y = name_colon t k us f _ z.as_symbols z.rule _ _ z.reach h in
    let x = behind_part tt y h in
    by_type ty x.as_symbols x.rule x.reach
  where
    by_type : (ty : MaybeType) (p : List Sym) → Rule (g.maybe_type Plain b ty) p → Reach s' ts' (p ++ (tok kind.Colon d ∷ g.exprs Free b es ∷ s)) us → ⊥
    by_type ty p no_type r = let z = behind_token r h in without kind.Colon _ _ us z.is z.kind i
    by_type ty p (a_type {ty = x}) r = none b x (tok kind.Colon d ∷ g.exprs Free b es ∷ s) r
declared_by t k us f a i none c w p declare_inferred s r h =
    let z = behind_part tt r (omega (arith, h)) in
    let y = name_colon t k us f _ z.as_symbols z.rule _ _ z.reach h in
    let x = behind_token y h in
    without kind.Assign _ _ us x.is x.kind a
declared_by t k us f a i none c w p (declare_typed {b = b} {ty = ty} {i = x}) s r h =
    let z = behind_part tt r (omega (arith, h)) in
    none b ty (g.initial Free b x ∷ s) (name_colon t k us f _ z.as_symbols z.rule _ _ z.reach h)

statement_by : {s' : List Sym} {ts' : List Token} (t k : Token) (us : List Token) → t.kind ≡ kind.Name → k.kind ≡ kind.Colon → NotLabelled (t ∷ k ∷ us) → StartsWithout kind.Assign us → StartsWithout kind.Colon us → ((c : ℕ) (ty : Type_) (s : List Sym) → Reach s' ts' (g.type_ Plain c ty ∷ s) us → ⊥) →
    (c : ℕ) (w : Stmt) (p : List Sym) → (rule : Rule (g.statement c w) p) → forms rule form.Named ≡ true → (s : List Sym) → Clear continues_statement s → Reach s' ts' (p ++ s) (t ∷ k ∷ us) → size s' ts' ≤ 2 * length us → ⊥
statement_by t k us e f unlabelled a i none c w p (g.statement_declare {b = b} {at = at} {k = d}) q s clear r h =
    let z = behind_part tt r (omega (arith, h)) in
    declared_by t k us f a i none b (decl at d) z.as_symbols z.rule s z.reach h
statement_by t k us e f unlabelled a i none c w p g.statement_simple q s clear r h = not_simple Start (named t k us e f) c w s (simple_clear clear) (no_statement_colon clear h) r h
statement_by t k us e f unlabelled a i none c w p (g.statement_labelled {b = b} {t = x} {c = y} {at = at} {s = l}) q s clear r h = no_label (named t k us e f) unlabelled x y b at l s r h
statement_by t k us e f unlabelled a i none c w p _ q s clear r h = cc

colon_refused : (t k : Token) (us : List Token) (stop : Stop) → t.kind ≡ kind.Name → k.kind ≡ kind.Colon → NotLabelled (t ∷ k ∷ us) → StartsWithout kind.Assign us → StartsWithout kind.Colon us → Exact (one (g.type_ Plain)) nothing_continues 0 us (refused stop) →
    Exact (one g.statement) continues_statement 1 (t ∷ k ∷ us) (refused stop)
colon_refused t k us (stop.Syntax left) e f unlabelled a i broken =
    let far = comes_nowhere (one (g.type_ Plain)) 0 us left (type_costly Plain us) broken.short broken.comes in
    record {
      short = omega (arith, far);
      comes = subst (λ (n : ℕ). Comes (one g.statement) 1 (t ∷ k ∷ us) n) (sym far) (colon_comes t k us e f);
      none = λ c w s s' ts' clear r h.
          let z = behind_part tt r (omega (arith, h, far)) in
          statement_by t k us e f unlabelled a i (λ c ty s r. broken.none c ty s s' ts' (nothing_clear s) r h) c w z.as_symbols z.rule (named_at (t ∷ k ∷ us) t (k ∷ us) refl e z.rule s clear z.reach (omega (arith, h, far))) s clear z.reach
          (omega (arith, h, far));
    }
colon_refused t k us (stop.Deep left) e f unlabelled a i deep =
    let far = comes_nowhere (one (g.type_ Plain)) 0 us (suc left) (type_costly Plain us) deep.short deep.comes in
    record {
      short = omega (arith, far);
      comes = subst (λ (n : ℕ). Comes (one g.statement) 1 (t ∷ k ∷ us) n) (sym far) (colon_comes t k us e f);
      deep = λ c w s s' ts' clear r h.
          let z = behind_part tt r (omega (arith, h, far)) in
          named_cost (t ∷ k ∷ us) c w z.as_symbols z.rule (named_at (t ∷ k ∷ us) t (k ∷ us) refl e z.rule s clear z.reach (omega (arith, h, far))) s z.reach (omega (arith, h, far))
          (λ c u j at l r. no_label (named t k us e f) unlabelled u j c at l s r (omega (arith, h, far)));
      depth = suc (suc deep.depth);
      deeper = record {
        at = λ c h.
            let x = deep.deeper.at (c - 2) (omega (arith, h)) in
            let j : suc (suc (c - 2)) ≡ c = omega (arith, h) in
            subst (λ (d : ℕ). ComesAt (one g.statement) d (t ∷ k ∷ us) left) j (record {
              value = stmt t.at (tree.declare (decl t.at (tree.variable (t ∷ []) (tree.some_type x.value) tree.zeros)));
              before = λ s.
                  let z = x.before (g.initial Free (c - 2) tree.zeros ∷ s) in
                  record { pending = z.pending; rest = z.rest; rest_is = z.rest_is; reach = write _ g.statement_declare (write _ declare_typed (write _ names_one (read e (read f z.reach)))) };
            });
      };
    }
colon_refused t k us stop.Memory e f unlabelled a i h = tt

pub colon_type_refused : (t k : Token) (ts behind us : List Token) (stop : Stop) → ts ≡ t ∷ behind → t.kind ≡ kind.Name → behind ≡ k ∷ us → k.kind ≡ kind.Colon → NotLabelled ts → StartsWithout kind.Assign us → StartsWithout kind.Colon us →
    Exact (one (g.type_ Plain)) nothing_continues 0 us (refused stop) → Exact (one g.statement) continues_statement 1 ts (refused stop)
colon_type_refused t k ts behind us stop is e then' f unlabelled a i h =
    let whole = is ∙ ap (λ (l : List Token). t ∷ l) then' in
    subst (λ (l : List Token). Exact (one g.statement) continues_statement 1 l (refused stop)) (sym whole) (colon_refused t k us stop e f (subst (λ (l : List Token). NotLabelled l) whole unlabelled) a i h)

-- a name alone
left_false : (a b : Bool) → (a || b) ≡ false → a ≡ false
left_false true b e = e
left_false false b e = refl

right_false : (a b : Bool) → (a || b) ≡ false → b ≡ false
right_false true b e = cc
right_false false b e = e

no_assignment : (o : Option AssignOp) → is_assignment o ≡ false → o ≡ None
no_assignment (Some op) e = cc
no_assignment None e = refl

exprs_off : (k : TokenKind) → continues_exprs Start k ≡ false → continues Or Start k ≡ false
exprs_off kind.Comma e = refl
exprs_off _ e = e

ends_expression : (us : List Token) → EndsSimple Start us → Ends Start us
ends_expression [] e = tt
ends_expression (t ∷ us) e = exprs_off t.kind (left_false (continues_exprs Start t.kind) _ e)

ends_comma : (us : List Token) → EndsSimple Start us → StartsWithout kind.Comma us
ends_comma [] e = tt
ends_comma (t ∷ us) e = λ i. let on : continues_simple Start t.kind ≡ true = ap (continues_simple Start) i in let bad : true ≡ false = sym on ∙ e in cc

ends_assignment : (us : List Token) → EndsSimple Start us → NoAssignment us
ends_assignment [] e = tt
ends_assignment (t ∷ us) e = no_assignment (assignment_of t.kind) (right_false (continues_exprs Start t.kind) _ e)

alone_at : (t : Token) (us : List Token) (xs : List Expr) (x : Expr) → t.kind ≡ kind.Name → xs ≡ x ∷ [] → view.expr x ≡ expr t.at t.at (tree.name t) → StartsWithout kind.Colon us → EndsSimple Start us →
    Found (one g.statement) continues_statement 2 (t ∷ us) (stmt t.at (tree.eval (view.exprs xs))) 2 us
alone_at t us xs x e is made open' ends =
    let name = name_whole Start t us e (ends_expression us ends) in
    let first = exprs_first Start 1 (t ∷ us) xs x 1 us is (answer_is (sym made) refl name) in
    let list = exprs_answer Start 1 (t ∷ us) xs 1 us first (ends_comma us ends) in
    let list' : Found (one (g.exprs Start)) (continues_exprs Start) 1 (t ∷ us) (tree.more_exprs (view.expr x) tree.no_exprs) 1 us = answer_is (ap view.exprs is) refl list in
    let simple = eval_found Start 1 (t ∷ us) (view.expr x) tree.no_exprs 1 us (record { found = list' }) (ends_assignment us ends) in
    let whole : Found (one g.statement) continues_statement 2 (t ∷ us) _ 2 us = undeclared_answer 2 (t ∷ us) us t us _ 2 us (omega arith) (ended t us e (ends_comma us ends) open') refl e simple in
    answer_is (λ i. stmt (first_of (made i)) (tree.eval (view.exprs (sym is i)))) refl whole

pub named_alone : (t : Token) (ts us : List Token) (xs : List Expr) (x : Expr) → ts ≡ t ∷ us → t.kind ≡ kind.Name → xs ≡ x ∷ [] → view.expr x ≡ expr t.at t.at (tree.name t) → StartsWithout kind.Colon us → EndsSimple Start us →
    Found (one g.statement) continues_statement 1 ts (stmt t.at (tree.eval (view.exprs xs))) 2 us
named_alone t ts us xs x is e list made open' ends =
    let found = alone_at t us xs x e list made open' ends in
    subst (λ (l : List Token). Found (one g.statement) continues_statement 1 l (stmt t.at (tree.eval (view.exprs xs))) 2 us) (sym is) (record { short = found.short; comes = name_comes t us e; reads = found.reads; only = found.only })
