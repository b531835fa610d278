-- From an operand with what stands behind it to the expression that it is.
use Rattle.std.proofs.Common.{◌≡◌, ℕ, ◌*◌, ◌<◌, ◌≤◌, Bool, true, false, ◌||◌, List, [], ◌∷◌, ◌++◌, length, refl, sym, ◌∙◌, ap, subst, arith, Option, Some, None}
use Rattle.odc_syntax.specs.declared.token.Token.{Token}
use Rattle.odc_syntax.specs.declared.token.TokenKind.TheVariants as kind
use Rattle.odc_syntax.specs.declared.grammar.Mode.{Mode}
use Rattle.odc_syntax.specs.declared.grammar.Level.{Level}
use Rattle.odc_syntax.specs.declared.grammar.Level.TheVariants as level
use Rattle.odc_syntax.specs.declared.tree.BinaryOp.{BinaryOp}
use Rattle.odc_syntax.specs.Operators.{operator_of, level_of}
use Rattle.odc_syntax.specs.Tree.{Expr, expr}
use Rattle.odc_syntax.specs.Tree as tree
use Rattle.odc_syntax.specs.Grammar.{Sym, Rule, later, item, chain, operation, operated, chain_one, chain_more, chain_twice, unary_one, unary_sign, unary_cast, postfix_one, postfix_more}
use Rattle.odc_syntax.specs.Grammar as g
use Rattle.odc_syntax.specs.Derives.{Reach}
use Rattle.odc_lookahead.specs.declared.stop.Stop.{Stop}
use Rattle.odc_lookahead.specs.declared.stop.Stop.TheVariants as stop
use Rattle.odc_lookahead.specs.Exact.{size, one, Exact, Answer, Yes, Deep, Found, TooDeep}
use Rattle.odc_lookahead.specs.Read.{refused, NoOperator, unary_form}
use Rattle.odc_lookahead.specs.Sets.{has_rank_from, starts_suffix, continues, continues_item}
use Rattle.odc_lookahead.proofs.reading.Reaching.{behind_part}
use Rattle.odc_lookahead.proofs.reading.Opening.{First}
use Rattle.odc_lookahead.proofs.reading.Nesting.{Never, once_chained}
use Rattle.odc_lookahead.proofs.expr.BinaryLemmas.{many_clear, never_clear}
use Rattle.odc_lookahead.proofs.expr.ChainLemmas.{Operators, Comparisons, Stands, operators_first, operators_refused, operators_chained, operator_deep, operator_none, comparison_first, comparison_refused, product_item}
use Rattle.odc_lookahead.proofs.expr.PostfixLemmas.{PostfixAt, suffixes_first, suffix_deep, suffix_none}
use Rattle.odc_lookahead.proofs.expr.UnaryLemmas.{operand_same}
use Rattle.odc_lookahead.proofs.expr.OperandLemmas.{name_found}

-- no operator follows at any level
abbrev pub NoOperators : List Token → Type 0
NoOperators rest = (l : Level) → NoOperator l rest

module _ (m : Mode) (b : ℕ) (ts : List Token) where
  chained_found : (l : Level) → g.chains l ≡ true → (v : Expr) (n : ℕ) (rest : List Token) → NoOperator l rest → Found (one (item l m)) (continues_item l m) b ts v n rest → Found (one (chain l m)) (continues l m) b ts v n rest
  chained_found l e v n rest none found =
      operator_none l m (Operators l m) (Operators l m) (operators_chained l m e) (many_clear l m e) b ts v n rest (operators_first l m e b ts v n rest found) none

  compared_found : (v : Expr) (n : ℕ) (rest : List Token) → NoOperator level.Comparison rest → Found (one (item level.Comparison m)) (continues_item level.Comparison m) b ts v n rest →
      Found (one (chain level.Comparison m)) (continues level.Comparison m) b ts v n rest
  compared_found v n rest none found =
      operator_none level.Comparison m (Comparisons m) Never (once_chained m) (never_clear m) b ts v n rest (comparison_first m b ts v n rest found) none

  product_found : (v : Expr) (n : ℕ) (rest : List Token) → NoOperator level.Product rest → Found (one (g.unary m)) (starts_suffix m) b ts v n rest → Found (one (chain level.Product m)) (continues level.Product m) b ts v n rest
  product_found v n rest none found = chained_found level.Product refl v n rest none (product_item level.Product m b ts (Yes v n rest) refl found)

  -- a unary expression that no operator follows is an expression
  pub whole_found : (v : Expr) (n : ℕ) (rest : List Token) → NoOperators rest → Found (one (g.unary m)) (starts_suffix m) b ts v n rest → Found (one (g.expression m)) (continues level.Or m) b ts v n rest
  whole_found v n rest none found =
      chained_found level.Or refl v n rest (none level.Or)
      (chained_found level.And refl v n rest (none level.And)
      (compared_found v n rest (none level.Comparison)
      (chained_found level.Sum refl v n rest (none level.Sum)
      (product_found v n rest (none level.Product) found))))

  -- what is refused at a level is refused
  at_or : (e : Stop) → Exact (one (chain level.And m)) (continues level.And m) b ts (refused e) → Exact (one (g.expression m)) (continues level.Or m) b ts (refused e)
  at_or e h = operators_refused level.Or m refl b ts e h

  at_and : (e : Stop) → Exact (one (chain level.Comparison m)) (continues level.Comparison m) b ts (refused e) → Exact (one (g.expression m)) (continues level.Or m) b ts (refused e)
  at_and e h = at_or e (operators_refused level.And m refl b ts e h)

  at_comparison : (e : Stop) → Exact (one (chain level.Sum m)) (continues level.Sum m) b ts (refused e) → Exact (one (g.expression m)) (continues level.Or m) b ts (refused e)
  at_comparison e h = at_and e (comparison_refused m b ts e h)

  at_sum : (e : Stop) → Exact (one (chain level.Product m)) (continues level.Product m) b ts (refused e) → Exact (one (g.expression m)) (continues level.Or m) b ts (refused e)
  at_sum e h = at_comparison e (operators_refused level.Sum m refl b ts e h)

  pub whole_refused : (e : Stop) → Exact (one (g.unary m)) (starts_suffix m) b ts (refused e) → Exact (one (g.expression m)) (continues level.Or m) b ts (refused e)
  whole_refused e h = at_sum e (operators_refused level.Product m refl b ts e (product_item level.Product m b ts (refused e) refl h))

  -- an operator follows, and what stands before it is already as deep as it may be
  chain_over : (l : Level) → g.chains l ≡ true → (v : Expr) (n : ℕ) (rest : List Token) (op : BinaryOp) (t : Token) (us : List Token) → Found (one (item l m)) (continues_item l m) b ts v n rest → b ≤ n → Stands l rest op t us →
      TooDeep (one (chain l m)) (continues l m) b ts (length us)
  chain_over l e v n rest op t us found over stands =
      operator_deep l m (Operators l m) (Operators l m) (operators_chained l m e) (many_clear l m e) b ts v n rest op t us (operators_first l m e b ts v n rest found) over stands

  compared_over : (v : Expr) (n : ℕ) (rest : List Token) (op : BinaryOp) (t : Token) (us : List Token) → Found (one (item level.Comparison m)) (continues_item level.Comparison m) b ts v n rest → b ≤ n → Stands level.Comparison rest op t us →
      TooDeep (one (chain level.Comparison m)) (continues level.Comparison m) b ts (length us)
  compared_over v n rest op t us found over stands =
      operator_deep level.Comparison m (Comparisons m) Never (once_chained m) (never_clear m) b ts v n rest op t us (comparison_first m b ts v n rest found) over stands

  by_level : (l : Level) (v : Expr) (n : ℕ) (rest : List Token) (op : BinaryOp) (t : Token) (us : List Token) → ((k : Level) → (k ≡ l → ⊥) → NoOperator k rest) → Found (one (g.unary m)) (starts_suffix m) b ts v n rest → b ≤ n → Stands l rest op t us →
      TooDeep (one (g.expression m)) (continues level.Or m) b ts (length us)
  by_level level.Product v n rest op t us others found over stands =
      at_sum (stop.Deep (length us)) (chain_over level.Product refl v n rest op t us (product_item level.Product m b ts (Yes v n rest) refl found) over stands)
  by_level level.Sum v n rest op t us others found over stands =
      at_comparison (stop.Deep (length us)) (chain_over level.Sum refl v n rest op t us (product_found v n rest (others level.Product (λ e. cc)) found) over stands)
  by_level level.Comparison v n rest op t us others found over stands =
      at_and (stop.Deep (length us)) (compared_over v n rest op t us (chained_found level.Sum refl v n rest (others level.Sum (λ e. cc)) (product_found v n rest (others level.Product (λ e. cc)) found)) over stands)
  by_level level.And v n rest op t us others found over stands =
      at_or (stop.Deep (length us)) (chain_over level.And refl v n rest op t us
      (compared_found v n rest (others level.Comparison (λ e. cc)) (chained_found level.Sum refl v n rest (others level.Sum (λ e. cc)) (product_found v n rest (others level.Product (λ e. cc)) found))) over stands)
  by_level level.Or v n rest op t us others found over stands =
      chain_over level.Or refl v n rest op t us
      (chained_found level.And refl v n rest (others level.And (λ e. cc))
      (compared_found v n rest (others level.Comparison (λ e. cc)) (chained_found level.Sum refl v n rest (others level.Sum (λ e. cc)) (product_found v n rest (others level.Product (λ e. cc)) found)))) over stands

  one_level : (rest : List Token) (op : BinaryOp) (t : Token) (us : List Token) → rest ≡ t ∷ us → operator_of t.kind ≡ Some op → (k : Level) → (k ≡ level_of op → ⊥) → NoOperator k rest
  one_level rest op t us is e k other =
      subst (λ (l : List Token). NoOperator k l) (sym is) (λ op' e' f. let same : op' ≡ op = cc in other (sym f ∙ ap level_of same))

  pub whole_over : (v : Expr) (n : ℕ) (rest : List Token) (op : BinaryOp) (t : Token) (us : List Token) → Found (one (g.unary m)) (starts_suffix m) b ts v n rest → b ≤ n → rest ≡ t ∷ us → operator_of t.kind ≡ Some op →
      TooDeep (one (g.expression m)) (continues level.Or m) b ts (length us)
  whole_over v n rest op t us found over is e =
      by_level (level_of op) v n rest op t us (one_level rest op t us is e) found over (record { is = is; op_is = e; level_is = refl })

-- a name, and what follows it
pub name_postfix : (m : Mode) (t : Token) (us : List Token) → t.kind ≡ kind.Name → PostfixAt m 1 (t ∷ us) (expr t.at t.at (tree.name t)) 1 us
name_postfix m t us e = suffixes_first m 1 (t ∷ us) (expr t.at t.at (tree.name t)) 1 us (name_found m 0 t us e)

pub as_unary : (m : Mode) (t : Token) (us : List Token) (r : Answer Expr) → t.kind ≡ kind.Name → Exact (one (g.postfix m)) (starts_suffix m) 1 (t ∷ us) r → Exact (one (g.unary m)) (starts_suffix m) 1 (t ∷ us) r
as_unary m t us r e h = operand_same m 1 (t ∷ us) t us r refl (ap unary_form e) h

-- what may go on with any expression doesn't follow
abbrev pub Ends : Mode → List Token → Type 0
Ends m [] = Unit {0}
Ends m (t ∷ ts) = continues level.Or m t.kind ≡ false

or_false_left : (a b : Bool) → (a || b) ≡ false → a ≡ false
or_false_left true b e = e
or_false_left false b e = refl

or_false_right : (a b : Bool) → (a || b) ≡ false → b ≡ false
or_false_right true b e = cc
or_false_right false b e = e

pub ends_no_suffix : (m : Mode) (us : List Token) → Ends m us → First (starts_suffix m) us → ⊥
ends_no_suffix m [] e f = f
ends_no_suffix m (t ∷ us) e f = let no = or_false_left (starts_suffix m t.kind) _ e in let bad : true ≡ false = sym f ∙ no in cc

any_rank : (o : Option BinaryOp) (op : BinaryOp) → o ≡ Some op → has_rank_from 0 o ≡ true
any_rank (Some op') op e = grind arith
any_rank None op e = cc

pub ends_no_operator : (m : Mode) (us : List Token) → Ends m us → NoOperators us
ends_no_operator m [] e l = tt
ends_no_operator m (t ∷ us) e l = λ op f k. let no = or_false_right (starts_suffix m t.kind) _ e in let on = any_rank (operator_of t.kind) op f in let bad : true ≡ false = sym on ∙ no in cc

pub name_whole : (m : Mode) (t : Token) (us : List Token) → t.kind ≡ kind.Name → Ends m us → Found (one (g.expression m)) (continues level.Or m) 1 (t ∷ us) (expr t.at t.at (tree.name t)) 1 us
name_whole m t us e none =
    let v = expr t.at t.at (tree.name t) in
    whole_found m 1 (t ∷ us) v 1 us (ends_no_operator m us none) (as_unary m t us (Yes v 1 us) e (suffix_none m 1 (t ∷ us) v 1 us (name_postfix m t us e) (ends_no_suffix m us none)))

deep_by : (m : Mode) (t x : Token) (us : List Token) → t.kind ≡ kind.Name → (a : Bool) (o : Option BinaryOp) → starts_suffix m x.kind ≡ a → operator_of x.kind ≡ o → (a || has_rank_from 0 o) ≡ true →
    TooDeep (one (g.expression m)) (continues level.Or m) 1 (t ∷ x ∷ us) (length us)
deep_by m t x us e true o s f on =
    let v = expr t.at t.at (tree.name t) in
    whole_refused m 1 (t ∷ x ∷ us) (stop.Deep (length us)) (as_unary m t (x ∷ us) (Deep (length us)) e (suffix_deep m 1 (t ∷ x ∷ us) v 1 (x ∷ us) x us (name_postfix m t (x ∷ us) e) (omega arith) refl s))
deep_by m t x us e false (Some op) s f on =
    let v = expr t.at t.at (tree.name t) in
    let none : First (starts_suffix m) (x ∷ us) → ⊥ = λ h. let bad : true ≡ false = sym h ∙ s in cc in
    whole_over m 1 (t ∷ x ∷ us) v 1 (x ∷ us) op x us (as_unary m t (x ∷ us) (Yes v 1 (x ∷ us)) e (suffix_none m 1 (t ∷ x ∷ us) v 1 (x ∷ us) (name_postfix m t (x ∷ us) e) none)) (omega arith) refl f
deep_by m t x us e false None s f on = cc

pub name_deep : (m : Mode) (t x : Token) (us : List Token) → t.kind ≡ kind.Name → continues level.Or m x.kind ≡ true → TooDeep (one (g.expression m)) (continues level.Or m) 1 (t ∷ x ∷ us) (length us)
name_deep m t x us e on = deep_by m t x us e (starts_suffix m x.kind) (operator_of x.kind) refl refl on

-- an expression costs a level
operand_costs : {m : Mode} {c : ℕ} {w : Expr} {p : List Sym} → Rule (g.operand m c w) p → 0 < c
operand_costs g.operand_name = omega arith
operand_costs g.operand_int = omega arith
operand_costs g.operand_rune = omega arith
operand_costs g.operand_text = omega arith
operand_costs g.operand_context = omega arith
operand_costs g.operand_location = omega arith
operand_costs g.operand_dot = omega arith
operand_costs g.operand_literal = omega arith
operand_costs g.operand_group = omega arith
operand_costs g.operand_type = omega arith
operand_costs g.operand_proc_type = omega arith
operand_costs g.operand_proc = omega arith

pub costs_operand : {m : Mode} {c : ℕ} {w : Expr} {s s' : List Sym} {ts ts' : List Token} → Reach s' ts' (g.operand m c w ∷ s) ts → size s' ts' ≤ 2 * length ts → 0 < c
costs_operand r h = let z = behind_part tt r h in operand_costs z.rule

abbrev pub Costs : (Mode → ℕ → Expr → Sym) → Type 0
Costs x = (m : Mode) (c : ℕ) (w : Expr) (s s' : List Sym) (ts ts' : List Token) → Reach s' ts' (x m c w ∷ s) ts → size s' ts' ≤ 2 * length ts → 0 < c

postfix_by : (m : Mode) (c : ℕ) (w : Expr) (p s s' : List Sym) (ts ts' : List Token) → Rule (g.postfix m c w) p → Reach s' ts' (p ++ s) ts → size s' ts' ≤ 2 * length ts → 0 < c
postfix_by m c w p s s' ts ts' postfix_one r h = costs_operand r h
postfix_by m c w p s s' ts ts' postfix_more r h = omega arith

unary_by : (m : Mode) (c : ℕ) (w : Expr) (p s s' : List Sym) (ts ts' : List Token) → Rule (g.unary m c w) p → Reach s' ts' (p ++ s) ts → size s' ts' ≤ 2 * length ts → 0 < c
unary_by m c w p s s' ts ts' unary_one r h = let z = behind_part tt r h in postfix_by m c w z.as_symbols s s' ts ts' z.rule z.reach h
unary_by m c w p s s' ts ts' (unary_sign e) r h = omega arith
unary_by m c w p s s' ts ts' unary_cast r h = omega arith

pub costs_unary : Costs g.unary
costs_unary m c w s s' ts ts' r h = let z = behind_part tt r h in unary_by m c w z.as_symbols s s' ts ts' z.rule z.reach h

chain_by : (l : Level) → Costs (item l) → (m : Mode) (c : ℕ) (w : Expr) (p s s' : List Sym) (ts ts' : List Token) → Rule (chain l m c w) p → Reach s' ts' (p ++ s) ts → size s' ts' ≤ 2 * length ts → 0 < c
chain_by l costs m c w p s s' ts ts' chain_one r h = costs m c w s s' ts ts' r h
chain_by l costs m c w p s s' ts ts' (chain_more e) r h = omega arith
chain_by l costs m c w p s s' ts ts' chain_twice r h = omega arith

chain_costs : (l : Level) → Costs (item l) → Costs (chain l)
chain_costs l costs m c w s s' ts ts' r h = let z = behind_part tt r h in chain_by l costs m c w z.as_symbols s s' ts ts' z.rule z.reach h

pub costs_expression : Costs (chain level.Or)
costs_expression = chain_costs level.Or (chain_costs level.And (chain_costs level.Comparison (chain_costs level.Sum (chain_costs level.Product costs_unary))))
