-- Statements where only one level is left, or none.
use Rattle.std.proofs.Common.{◌≡◌, ℕ, suc, ◌-◌, ◌*◌, ◌<◌, ◌≤◌, Bool, true, false, ◌||◌, List, ◌∷◌, ◌++◌, length, refl, sym, ◌∙◌, ap, subst, arith, Option, Some, None, ◌⊎◌, inl, inr}
use Rattle.odc_text.specs.declared.place.Place.{Place}
use Rattle.odc_syntax.specs.declared.token.Token.{Token}
use Rattle.odc_syntax.specs.declared.token.TokenKind.{TokenKind}
use Rattle.odc_syntax.specs.declared.token.TokenKind.TheVariants as kind
use Rattle.odc_syntax.specs.declared.token.Word.{Word}
use Rattle.odc_syntax.specs.declared.token.Word.TheVariants as word
use Rattle.odc_syntax.specs.declared.grammar.Mode.TheVariants.{Free, Header, Start}
use Rattle.odc_syntax.specs.declared.grammar.Level.TheVariants.{Or}
use Rattle.odc_syntax.specs.declared.tree.AssignOp.{AssignOp}
use Rattle.odc_syntax.specs.Operators.{assignment_of}
use Rattle.odc_syntax.specs.Tree.{Expr, expr, Type_, Exprs, Stmt, stmt, Decl, decl, first_of}
use Rattle.odc_syntax.specs.Tree as tree
use Rattle.odc_syntax.specs.Grammar.{Sym, tok, Rule, Labelled, labelled, later, names_one, exprs_, exprs_more, exprs_end, simple_eval, simple_assign}
use Rattle.odc_syntax.specs.Grammar as g
use Rattle.odc_syntax.specs.Derives.{Reach, here, read, read_said, write}
use Rattle.odc_lookahead.specs.declared.statement_form.StatementForm.{StatementForm}
use Rattle.odc_lookahead.specs.declared.statement_form.StatementForm.TheVariants as form
use Rattle.odc_lookahead.specs.Exact.{size, one, ComesAt, Comes, TooDeep}
use Rattle.odc_lookahead.specs.stmts.Runs.{labelled_by, is_labelled}
use Rattle.odc_lookahead.specs.Sets.{continues}
use Rattle.odc_lookahead.specs.stmts.StatementSets.{is_assignment, continues_exprs, continues_simple, continues_statement}
use Rattle.odc_lookahead.specs.stmts.StatementForms.{statement_by, statement_form}
use Rattle.odc_lookahead.proofs.reading.Leading.{at_rest}
use Rattle.odc_lookahead.proofs.reading.Opening.{reach_opens}
use Rattle.odc_lookahead.proofs.reading.Reaching.{along, behind_part, behind_token}
use Rattle.odc_lookahead.proofs.reading.Answering.{at_start}
use Rattle.odc_lookahead.proofs.expr.WholeLemmas.{name_deep}
use Rattle.odc_lookahead.proofs.stmts.SimpleLemmas.{costs_simple}
use Rattle.odc_lookahead.proofs.stmts.DeclarationLemmas.{costs_declaration}
use Rattle.odc_lookahead.proofs.stmts.RunLemmas.{reads_name}
use Rattle.odc_lookahead.proofs.stmts.StatementForms.{forms, defer_kind, return_kind, break_kind, continue_kind, fallthrough_kind, if_kind, named_kind, labelled_form}
use Rattle.odc_lookahead.proofs.stmts.StatementLemmas.{some_stmt, costs_statement}
use Rattle.odc_lookahead.proofs.stmts.NamedLemmas.{named_at}
use Rattle.odc_lookahead.proofs.reading.Samples as sample

-- a token that some statement begins with
pub record Begins (c : ℕ) (t : Token) (us : List Token) : Type 0 where
  pub value : Stmt
  pub pending : List Sym → List Sym
  pub reach : (s : List Sym) → Reach (pending s) us (g.statement (suc c) value ∷ s) (t ∷ us)

pub record BeginsLabelled (c : ℕ) (t : Token) (us : List Token) : Type 0 where
  pub at : Place
  pub value : Labelled
  pub pending : List Sym → List Sym
  pub reach : (s : List Sym) → Reach (pending s) us (g.labelled_ c at value ∷ s) (t ∷ us)

labelled_cases : (k : TokenKind) (w : Word) → labelled_by k w ≡ true → (k ≡ kind.OpenBrace) ⊎ ((k ≡ kind.For) ⊎ ((k ≡ kind.Switch) ⊎ ((k ≡ kind.Directive) × (w ≡ word.Partial))))
labelled_cases kind.OpenBrace w e = inl refl
labelled_cases kind.For w e = inr (inl refl)
labelled_cases kind.Switch w e = inr (inr (inl refl))
labelled_cases kind.Directive word.Partial e = inr (inr (inr (refl, refl)))
labelled_cases kind.Directive _ e = cc
labelled_cases _ w e = cc

begins_by : (c : ℕ) (t : Token) (us : List Token) → (t.kind ≡ kind.OpenBrace) ⊎ ((t.kind ≡ kind.For) ⊎ ((t.kind ≡ kind.Switch) ⊎ ((t.kind ≡ kind.Directive) × (t.word ≡ word.Partial)))) → BeginsLabelled c t us
begins_by c t us (inl e) = record {
  at = t.at;
  value = g.block tree.no_stmts;
  pending = λ s. g.stmts c tree.no_stmts ∷ tok kind.CloseBrace sample.token ∷ s;
  reach = λ s. write _ g.block_alone (read e here);
}
begins_by c t us (inr (inl e)) = record {
  at = t.at;
  value = g.loop tree.no_header tree.no_expr tree.no_stmt tree.no_stmts;
  pending = λ s. g.body c tree.no_stmts ∷ s;
  reach = λ s. write _ g.for_ever (read e here);
}
begins_by c t us (inr (inr (inl e))) = record {
  at = t.at;
  value = g.switch (record { at = t.at; partial = false }) tree.no_header tree.no_expr tree.no_cases;
  pending = λ s. g.header c tree.no_header ∷ g.maybe_expr Header c tree.no_expr ∷ tok kind.OpenBrace sample.token ∷ g.cases c tree.no_cases ∷ tok kind.CloseBrace sample.token ∷ s;
  reach = λ s. write _ g.switch_value (write _ g.switch_plain (read e here));
}
begins_by c t us (inr (inr (inr (e, f)))) = record {
  at = t.at;
  value = g.switch (record { at = sample.token.at; partial = true }) tree.no_header tree.no_expr tree.no_cases;
  pending = λ s. tok kind.Switch sample.token ∷ g.header c tree.no_header ∷ g.maybe_expr Header c tree.no_expr ∷ tok kind.OpenBrace sample.token ∷ g.cases c tree.no_cases ∷ tok kind.CloseBrace sample.token ∷ s;
  reach = λ s. write _ g.switch_value (write _ g.switch_partial (read_said e f here));
}

pub labelled_begins : (c : ℕ) (t : Token) (us : List Token) → is_labelled t ≡ true → BeginsLabelled c t us
labelled_begins c t us e = begins_by c t us (labelled_cases t.kind t.word e)

-- where no level is left
pub statement_begins : (f : StatementForm) (c : ℕ) (t : Token) (us : List Token) → statement_form t ≡ f → (f ≡ form.Simple → ⊥) → Begins c t us
statement_begins form.Simple c t us e some = absurd (some refl)
statement_begins form.Named c t us e some = record {
  value = stmt t.at (labelled (Some t) (g.block tree.no_stmts));
  pending = λ s. tok kind.Colon sample.token ∷ g.labelled_ c sample.place (g.block tree.no_stmts) ∷ s;
  reach = λ s. write _ g.statement_labelled (read (named_kind t.kind t.word e) here);
}
statement_begins form.If c t us e some = record {
  value = stmt t.at (tree.if_ tree.no_header sample.expr tree.no_stmts tree.no_else);
  pending = λ s. g.header c tree.no_header ∷ g.expression Header c sample.expr ∷ g.body c tree.no_stmts ∷ g.else_ c tree.no_else ∷ s;
  reach = λ s. write _ g.statement_if (write _ g.if_ (read (if_kind t.kind t.word e) here));
}
statement_begins form.Labelled c t us e some =
    let z = labelled_begins c t us (labelled_form t.kind t.word e) in
    record { value = stmt z.at (labelled None z.value); pending = z.pending; reach = λ s. write _ g.statement_bare (z.reach s) }
statement_begins form.Defer c t us e some = record {
  value = stmt t.at (tree.defer some_stmt);
  pending = λ s. g.statement c some_stmt ∷ s;
  reach = λ s. write _ g.statement_defer (read (defer_kind t.kind t.word e) here);
}
statement_begins form.Return c t us e some = record { value = stmt t.at (tree.return tree.no_exprs); pending = λ s. s; reach = λ s. write _ g.statement_return (read (return_kind t.kind t.word e) here) }
statement_begins form.Break c t us e some = record {
  value = stmt t.at (tree.break None);
  pending = λ s. g.maybe_token kind.Name None ∷ s;
  reach = λ s. write _ g.statement_break (read (break_kind t.kind t.word e) here);
}
statement_begins form.Continue c t us e some = record {
  value = stmt t.at (tree.continue None);
  pending = λ s. g.maybe_token kind.Name None ∷ s;
  reach = λ s. write _ g.statement_continue (read (continue_kind t.kind t.word e) here);
}
statement_begins form.Fallthrough c t us e some = record { value = stmt t.at tree.fallthrough; pending = λ s. s; reach = λ s. write _ g.statement_fallthrough (read (fallthrough_kind t.kind t.word e) here) }

begins_at : (t : Token) (us : List Token) → ((c : ℕ) → Begins c t us) → Comes (one g.statement) 1 (t ∷ us) (length us)
begins_at t us begins = record {
  at = λ c h.
      let z = begins (c - 1) in
      let e : suc (c - 1) ≡ c = omega (arith, h) in
      subst (λ (d : ℕ). ComesAt (one g.statement) d (t ∷ us) (length us)) e (record { value = z.value; before = λ s. record { pending = z.pending s; rest = us; rest_is = refl; reach = z.reach s } });
}

pub statement_zero : (d : ℕ) (f : StatementForm) (ts : List Token) (t : Token) (us : List Token) → d ≡ 0 → ts ≡ t ∷ us → statement_form t ≡ f → (f ≡ form.Simple → ⊥) → TooDeep (one g.statement) continues_statement d ts (length us)
statement_zero d f ts t us zero' is e some =
    subst (λ (k : ℕ). TooDeep (one g.statement) continues_statement k ts (length us)) (sym zero') (subst (λ (l : List Token). TooDeep (one g.statement) continues_statement 0 l (length us)) (sym is) (record {
      short = omega arith;
      comes = at_start g.statement 0 (t ∷ us) some_stmt;
      deep = λ c w s s' ts' clear r h. costs_statement c w s s' (t ∷ us) ts' r (omega (arith, h));
      depth = 1;
      deeper = begins_at t us (λ c. statement_begins f c t us e some);
    }))

-- Where one level is left, a name that begins a statement is a label, or too deep.
pub name_comes : (t : Token) (us : List Token) → t.kind ≡ kind.Name → Comes (one g.statement) 1 (t ∷ us) (length us)
name_comes t us e = begins_at t us (λ c. statement_begins form.Named c t us (ap (λ (k : TokenKind). statement_by k t.word) e) (λ i. cc))

pub named_cost : {s' : List Sym} {ts' : List Token} (ts : List Token) (c : ℕ) (w : Stmt) (p : List Sym) → (rule : Rule (g.statement c w) p) → forms rule form.Named ≡ true → (s : List Sym) → Reach s' ts' (p ++ s) ts → size s' ts' ≤ 2 * length ts →
    ((c : ℕ) (t k : Token) (at : Place) (l : Labelled) → Reach s' ts' (tok kind.Name t ∷ tok kind.Colon k ∷ g.labelled_ c at l ∷ s) ts → ⊥) → 1 < c
named_cost {s'} {ts'} ts c w p (g.statement_declare {b = b} {at = at} {k = k}) f s r h dead = let z = costs_declaration Free b (decl at k) s s' ts ts' r h in omega (arith, z)
named_cost {s'} {ts'} ts c w p g.statement_simple f s r h dead = costs_simple Start c w s s' ts ts' r h
named_cost ts c w p (g.statement_labelled {b = b} {t = t} {c = k} {at = at} {s = l}) f s r h dead = absurd (dead b t k at l r)
named_cost ts c w p _ f s r h dead = cc

-- what goes on with expressions
goes_cases : (k : TokenKind) → continues_exprs Start k ≡ true → (k ≡ kind.Comma) ⊎ (continues Or Start k ≡ true)
goes_cases kind.Comma e = inl refl
goes_cases _ e = inr e

simple_cases : (k : TokenKind) (a : Bool) (o : Option AssignOp) → continues_exprs Start k ≡ a → assignment_of k ≡ o → (a || is_assignment o) ≡ true → (continues_exprs Start k ≡ true) ⊎ ((op : AssignOp) × (assignment_of k ≡ Some op))
simple_cases k true o e f h = inl e
simple_cases k false (Some op) e f h = inr (op, f)
simple_cases k false None e f h = cc

abbrev eval_of : Expr → Exprs → Stmt
eval_of e es = stmt (first_of e) (tree.eval (tree.more_exprs e es))

simple_deeper : (t x : Token) (vs : List Token) → t.kind ≡ kind.Name → (continues_exprs Start x.kind ≡ true) ⊎ ((op : AssignOp) × (assignment_of x.kind ≡ Some op)) → (d : ℕ) × Comes (one g.statement) d (t ∷ x ∷ vs) (length vs)
simple_deeper t x vs e (inr (op, f)) = (
  2,
  record {
    at = λ c h.
        let i : suc (suc (c - 2)) ≡ c = omega (arith, h) in
        subst (λ (d : ℕ). ComesAt (one g.statement) d (t ∷ x ∷ vs) (length vs)) i (record {
          value = stmt x.at (tree.assign (tree.more_exprs (expr t.at t.at (tree.name t)) tree.no_exprs) op tree.no_exprs);
          before = λ s. record {
            pending = g.exprs (later Start) (suc (c - 2)) tree.no_exprs ∷ s;
            rest = vs;
            rest_is = refl;
            reach = write _ g.statement_simple (write _ (simple_assign f) (write _ exprs_ (along (reads_name Start t (x ∷ vs) e (c - 2) _) (write _ exprs_end (read refl here)))));
          };
        });
  },
)
simple_deeper t x vs e (inl f) = by_kind (goes_cases x.kind f)
  where
    by_kind : (x.kind ≡ kind.Comma) ⊎ (continues Or Start x.kind ≡ true) → (d : ℕ) × Comes (one g.statement) d (t ∷ x ∷ vs) (length vs)
    by_kind (inl comma) = (
      2,
      record {
        at = λ c h.
            let i : suc (suc (c - 2)) ≡ c = omega (arith, h) in
            subst (λ (d : ℕ). ComesAt (one g.statement) d (t ∷ x ∷ vs) (length vs)) i (record {
              value = eval_of (expr t.at t.at (tree.name t)) (tree.more_exprs sample.expr tree.no_exprs);
              before = λ s. record {
                pending = g.expression (later Start) (suc (c - 2)) sample.expr ∷ g.more_exprs (later Start) (suc (c - 2)) tree.no_exprs ∷ s;
                rest = vs;
                rest_is = refl;
                reach = write _ g.statement_simple (write _ simple_eval (write _ exprs_ (along (reads_name Start t (x ∷ vs) e (c - 2) _) (write _ (exprs_more {t = x}) (read comma here)))));
              };
            });
      },
    )
    by_kind (inr on) =
        let deep = name_deep Start t x vs e on in (
          suc deep.depth,
          record {
            at = λ c h.
                let a = deep.deeper.at (c - 1) (omega (arith, h)) in
                let i : suc (c - 1) ≡ c = omega (arith, h) in
                subst (λ (d : ℕ). ComesAt (one g.statement) d (t ∷ x ∷ vs) (length vs)) i (record {
                  value = eval_of a.value tree.no_exprs;
                  before = λ s.
                      let z = a.before (g.more_exprs (later Start) (c - 1) tree.no_exprs ∷ s) in
                      record { pending = z.pending; rest = z.rest; rest_is = z.rest_is; reach = write _ g.statement_simple (write _ simple_eval (write _ exprs_ z.reach)) };
                });
          },
        )

no_colon : (k : TokenKind) → continues_simple Start k ≡ true → k ≡ kind.Colon → ⊥
no_colon kind.Colon e f = cc
no_colon _ e f = cc

pub named_over : (t x : Token) (ts us vs : List Token) → ts ≡ t ∷ us → t.kind ≡ kind.Name → us ≡ x ∷ vs → continues_simple Start x.kind ≡ true → TooDeep (one g.statement) continues_statement 1 ts (length vs)
named_over t x ts us vs is e then' on =
    let deeper = simple_deeper t x vs e (simple_cases x.kind (continues_exprs Start x.kind) (assignment_of x.kind) refl refl on) in
    subst (λ (l : List Token). TooDeep (one g.statement) continues_statement 1 l (length vs)) (sym (is ∙ ap (λ (l : List Token). t ∷ l) then')) (record {
      short = omega arith;
      comes = name_comes t (x ∷ vs) e;
      deep = λ c w s s' ts' clear r h.
          let z = behind_part tt r (omega (arith, h)) in
          named_cost (t ∷ x ∷ vs) c w z.as_symbols z.rule (named_at (t ∷ x ∷ vs) t (x ∷ vs) refl e z.rule s clear z.reach (omega (arith, h))) s z.reach (omega (arith, h))
          (λ c u k at l r. let y = behind_token r (omega (arith, h)) in no_colon x.kind on (reach_opens (at_rest y) (omega (arith, h))));
      depth = deeper.0;
      deeper = deeper.1;
    })
