-- Which productions of a statement begin with a token.
use Rattle.std.proofs.Common.{◌≡◌, ℕ, ◌*◌, ◌≤◌, Bool, true, false, List, ◌∷◌, ◌++◌, length, refl, sym, ◌∙◌, ap}
use Rattle.odc_syntax.specs.declared.token.Token.{Token}
use Rattle.odc_syntax.specs.declared.token.TokenKind.{TokenKind}
use Rattle.odc_syntax.specs.declared.token.TokenKind.TheVariants as kind
use Rattle.odc_syntax.specs.declared.token.Word.{Word}
use Rattle.odc_syntax.specs.declared.token.Word.TheVariants as word
use Rattle.odc_syntax.specs.declared.grammar.Mode.{Mode}
use Rattle.odc_text.specs.declared.place.Place.{Place}
use Rattle.odc_syntax.specs.declared.tree.SwitchWord.{SwitchWord}
use Rattle.odc_syntax.specs.declared.grammar.Mode.TheVariants.{Start}
use Rattle.odc_syntax.specs.declared.grammar.Level.TheVariants.{Or}
use Rattle.odc_syntax.specs.Tree.{Expr, Exprs, Stmt}
use Rattle.odc_syntax.specs.Tree as tree
use Rattle.odc_syntax.specs.Grammar.{Sym, tok, Rule, later, exprs_, simple_eval, simple_assign}
use Rattle.odc_syntax.specs.Grammar as g
use Rattle.odc_syntax.specs.Derives.{Reach}
use Rattle.odc_lookahead.specs.declared.operand.OperandForm.TheVariants as operand
use Rattle.odc_lookahead.specs.declared.statement_form.StatementForm.{StatementForm}
use Rattle.odc_lookahead.specs.declared.statement_form.StatementForm.TheVariants as form
use Rattle.odc_lookahead.specs.declared.stop.Stop.TheVariants as stop
use Rattle.odc_lookahead.specs.Exact.{size, Clear, one, Broken, Syntax}
use Rattle.odc_lookahead.specs.Forms.{form_by, directive_form}
use Rattle.odc_lookahead.specs.Read.{unary_form}
use Rattle.odc_lookahead.specs.stmts.Runs.{labelled_by, is_labelled}
use Rattle.odc_lookahead.specs.Sets.{starts_expression, continues}
use Rattle.odc_lookahead.specs.stmts.StatementForms.{statement_by, statement_form}
use Rattle.odc_lookahead.proofs.reading.Opening.{reach_opens}
use Rattle.odc_lookahead.proofs.reading.Reaching.{behind_part, behind_said}
use Rattle.odc_lookahead.specs.stmts.StatementSets.{continues_exprs, continues_simple, continues_statement}
use Rattle.odc_lookahead.proofs.reading.Leading.{first_is}
use Rattle.odc_lookahead.proofs.expr.BinaryLemmas.{clear_narrow}
use Rattle.odc_lookahead.proofs.expr.ExprsLemmas.{first_clear}
use Rattle.odc_lookahead.proofs.stmts.SimpleLemmas.{goes_on_simple, assignment_clear}
use Rattle.odc_lookahead.proofs.expr.UnaryLemmas.{operand_same}
use Rattle.odc_lookahead.proofs.expr.SuffixAnswers.{operand_refused}
use Rattle.odc_lookahead.proofs.types.OperandAnswers.{nothing_broken}
use Rattle.odc_lookahead.proofs.expr.WholeLemmas.{whole_refused}

-- a statement of this form may begin with a production of that one
abbrev pub is_simple : StatementForm → Bool
is_simple form.Simple = true
is_simple form.Named = true
is_simple _ = false

abbrev pub is_named : StatementForm → Bool
is_named form.Named = true
is_named _ = false

abbrev pub is_if : StatementForm → Bool
is_if form.If = true
is_if _ = false

abbrev pub is_bare : StatementForm → Bool
is_bare form.Labelled = true
is_bare _ = false

abbrev pub is_defer : StatementForm → Bool
is_defer form.Defer = true
is_defer _ = false

abbrev pub is_return : StatementForm → Bool
is_return form.Return = true
is_return _ = false

abbrev pub is_break : StatementForm → Bool
is_break form.Break = true
is_break _ = false

abbrev pub is_continue : StatementForm → Bool
is_continue form.Continue = true
is_continue _ = false

abbrev pub is_fallthrough : StatementForm → Bool
is_fallthrough form.Fallthrough = true
is_fallthrough _ = false

abbrev pub forms : {c : ℕ} {w : Stmt} {p : List Sym} → Rule (g.statement c w) p → StatementForm → Bool
forms g.statement_declare f = is_named f
forms g.statement_simple f = is_simple f
forms g.statement_if f = is_if f
forms g.statement_bare f = is_bare f
forms g.statement_labelled f = is_named f
forms g.statement_defer f = is_defer f
forms g.statement_return f = is_return f
forms g.statement_return_values f = is_return f
forms g.statement_break f = is_break f
forms g.statement_continue f = is_continue f
forms g.statement_fallthrough f = is_fallthrough f

by_kind : (among : StatementForm → Bool) (t : Token) (k : TokenKind) → t.kind ≡ k → ((w : Word) → among (statement_by k w) ≡ true) → among (statement_form t) ≡ true
by_kind among t k e f = ap (λ (k : TokenKind). among (statement_by k t.word)) e ∙ f t.word

-- an expression does not begin with `#partial`
partial_broken : (m : Mode) (t : Token) (us : List Token) → t.kind ≡ kind.Directive → t.word ≡ word.Partial → Broken (one (g.expression m)) (continues Or m) 0 (t ∷ us) (length (t ∷ us))
partial_broken m t us e f =
    whole_refused m 0 (t ∷ us) (stop.Syntax (length (t ∷ us)))
    (operand_same m 0 (t ∷ us) t us (Syntax (length (t ∷ us))) refl (ap unary_form e)
    (operand_refused m 0 (t ∷ us) (stop.Syntax (length (t ∷ us)))
    (nothing_broken m 0 t (t ∷ us) us operand.Nothing refl (ap (λ (k : TokenKind). form_by m k t.word) e ∙ ap directive_form f) refl)))

simple_form : (k : TokenKind) (w : Word) → starts_expression Start k ≡ true → (k ≡ kind.Directive → w ≡ word.Partial → ⊥) → is_simple (statement_by k w) ≡ true
simple_form kind.If w e f = cc
simple_form kind.Defer w e f = cc
simple_form kind.Return w e f = cc
simple_form kind.Break w e f = cc
simple_form kind.Continue w e f = cc
simple_form kind.Fallthrough w e f = cc
simple_form kind.OpenBrace w e f = cc
simple_form kind.For w e f = cc
simple_form kind.Switch w e f = cc
simple_form kind.Directive word.Partial e f = absurd (f refl refl)
simple_form kind.Directive _ e f = refl
simple_form _ w e f = refl

statement_simple_goes : (k : TokenKind) → continues_simple Start k ≡ true → continues_statement k ≡ true
statement_simple_goes kind.Semicolon e = cc
statement_simple_goes kind.CloseBrace e = cc
statement_simple_goes kind.Else e = cc
statement_simple_goes kind.Case e = cc
statement_simple_goes _ e = refl

pub simple_clear : {s : List Sym} → Clear continues_statement s → Clear (continues_simple Start) s
simple_clear clear = clear_narrow statement_simple_goes clear

exprs_no_partial : {s' : List Sym} {ts' : List Token} (t : Token) (us : List Token) → t.kind ≡ kind.Directive → t.word ≡ word.Partial → (c : ℕ) (es : Exprs) (s : List Sym) → Clear (continues_exprs Start) s → Reach s' ts' (g.exprs Start c es ∷ s) (t ∷ us) →
    size s' ts' ≤ 2 * length (t ∷ us) → ⊥
exprs_no_partial {s'} {ts'} t us e f c es s clear r h = let z = behind_part tt r h in by_rule es z.as_symbols z.rule z.reach
  where
    by_rule : (es : Exprs) (p : List Sym) → Rule (g.exprs Start c es) p → Reach s' ts' (p ++ s) (t ∷ us) → ⊥
    by_rule es p (exprs_ {e = x} {es = l}) r = (partial_broken Start t us e f).none c x (g.more_exprs (later Start) c l ∷ s) s' ts' (first_clear Start c l s clear) r h

simple_no_partial : {s' : List Sym} {ts' : List Token} (t : Token) (us : List Token) → t.kind ≡ kind.Directive → t.word ≡ word.Partial → (c : ℕ) (w : Stmt) (s : List Sym) → Clear (continues_simple Start) s → Reach s' ts' (g.simple Start c w ∷ s) (t ∷ us) →
    size s' ts' ≤ 2 * length (t ∷ us) → ⊥
simple_no_partial {s'} {ts'} t us e f c w s clear r h = let z = behind_part tt r h in by_rule c w z.as_symbols z.rule z.reach
  where
    by_rule : (c : ℕ) (w : Stmt) (p : List Sym) → Rule (g.simple Start c w) p → Reach s' ts' (p ++ s) (t ∷ us) → ⊥
    by_rule c w p (simple_eval {b = b} {e = x} {es = l}) r = exprs_no_partial t us e f b (tree.more_exprs x l) s (clear_narrow (goes_on_simple Start) clear) r h
    by_rule c w p (simple_assign {b = b} {places = places} {values = values} {k = k} {t = u} {op = op} o) r = exprs_no_partial t us e f b places _ (assignment_clear Start k op o u (g.exprs (later Start) b values ∷ s)) r h

-- what a label may stand before, by its first token
labelled_kind : (t : Token) (k : TokenKind) → t.kind ≡ k → ((w : Word) → labelled_by k w ≡ true) → is_labelled t ≡ true
labelled_kind t k e f = ap (λ (k : TokenKind). labelled_by k t.word) e ∙ f t.word

pub labelled_first : {s' : List Sym} {ts' : List Token} (t : Token) (us : List Token) (c : ℕ) (at : Place) (l : g.Labelled) (s : List Sym) → Reach s' ts' (g.labelled_ c at l ∷ s) (t ∷ us) → size s' ts' ≤ 2 * length (t ∷ us) → is_labelled t ≡ true
labelled_first {s'} {ts'} t us c at l s r h = let z = behind_part tt r h in by_rule at l z.as_symbols z.rule z.reach
  where
    by_word : (at : Place) (w : SwitchWord) (p : List Sym) → Rule (g.switch_word at w) p → (s : List Sym) → Reach s' ts' (p ++ s) (t ∷ us) → is_labelled t ≡ true
    by_word at w p g.switch_plain s r = labelled_kind t kind.Switch (reach_opens r h) (λ w. refl)
    by_word at w p g.switch_partial s r = let z = behind_said r h in ap (λ (k : TokenKind). labelled_by k t.word) (sym (ap (λ (x : Token). x.kind) (first_is z.1.is)) ∙ z.1.kind) ∙ ap (labelled_by kind.Directive) (sym (ap (λ (x : Token). x.word) (first_is z.1.is)) ∙ z.0)

    of_switch : (at : Place) (w : SwitchWord) (s : List Sym) → Reach s' ts' (g.switch_word at w ∷ s) (t ∷ us) → is_labelled t ≡ true
    of_switch at w s r = let z = behind_part tt r h in by_word at w z.as_symbols z.rule s z.reach

    by_rule : (at : Place) (l : g.Labelled) (p : List Sym) → Rule (g.labelled_ c at l) p → Reach s' ts' (p ++ s) (t ∷ us) → is_labelled t ≡ true
    by_rule at l p g.block_alone r = labelled_kind t kind.OpenBrace (reach_opens r h) (λ w. refl)
    by_rule at l p g.for_ever r = labelled_kind t kind.For (reach_opens r h) (λ w. refl)
    by_rule at l p g.for_while r = labelled_kind t kind.For (reach_opens r h) (λ w. refl)
    by_rule at l p g.for_steps r = labelled_kind t kind.For (reach_opens r h) (λ w. refl)
    by_rule at l p g.for_range r = labelled_kind t kind.For (reach_opens r h) (λ w. refl)
    by_rule at l p g.switch_value r = of_switch _ _ _ r
    by_rule at l p g.switch_type r = of_switch _ _ _ r

bare_form : (k : TokenKind) (w : Word) → labelled_by k w ≡ true → is_bare (statement_by k w) ≡ true
bare_form kind.OpenBrace w e = refl
bare_form kind.For w e = refl
bare_form kind.Switch w e = refl
bare_form kind.Directive word.Partial e = refl
bare_form kind.Directive _ e = cc
bare_form _ w e = cc

-- the forms of the first token are those of the production
pub statement_first : {s' : List Sym} {ts' : List Token} {c : ℕ} {w : Stmt} {p : List Sym} (t : Token) (us : List Token) (rule : Rule (g.statement c w) p) (s : List Sym) → Clear continues_statement s → Reach s' ts' (p ++ s) (t ∷ us) → size s' ts' ≤ 2 * length (t ∷ us) →
    forms rule (statement_form t) ≡ true
statement_first t us g.statement_declare s clear r h = by_kind is_named t kind.Name (reach_opens r h) (λ w. refl)
statement_first t us (g.statement_simple {b = b} {s = x}) s clear r h = simple_form t.kind t.word (reach_opens r h) (λ e f. simple_no_partial t us e f b x s (simple_clear clear) r h)
statement_first t us g.statement_if s clear r h = by_kind is_if t kind.If (reach_opens r h) (λ w. refl)
statement_first t us (g.statement_bare {b = b} {at = at} {s = l}) s clear r h = bare_form t.kind t.word (labelled_first t us b at l s r h)
statement_first t us g.statement_labelled s clear r h = by_kind is_named t kind.Name (reach_opens r h) (λ w. refl)
statement_first t us g.statement_defer s clear r h = by_kind is_defer t kind.Defer (reach_opens r h) (λ w. refl)
statement_first t us g.statement_return s clear r h = by_kind is_return t kind.Return (reach_opens r h) (λ w. refl)
statement_first t us g.statement_return_values s clear r h = by_kind is_return t kind.Return (reach_opens r h) (λ w. refl)
statement_first t us g.statement_break s clear r h = by_kind is_break t kind.Break (reach_opens r h) (λ w. refl)
statement_first t us g.statement_continue s clear r h = by_kind is_continue t kind.Continue (reach_opens r h) (λ w. refl)
statement_first t us g.statement_fallthrough s clear r h = by_kind is_fallthrough t kind.Fallthrough (reach_opens r h) (λ w. refl)

-- the kind of the first token by the form
pub defer_kind : (k : TokenKind) (w : Word) → statement_by k w ≡ form.Defer → k ≡ kind.Defer
defer_kind kind.Defer w e = refl
defer_kind kind.Directive word.Partial e = cc
defer_kind kind.Directive _ e = cc
defer_kind _ w e = cc

pub return_kind : (k : TokenKind) (w : Word) → statement_by k w ≡ form.Return → k ≡ kind.Return
return_kind kind.Return w e = refl
return_kind kind.Directive word.Partial e = cc
return_kind kind.Directive _ e = cc
return_kind _ w e = cc

pub break_kind : (k : TokenKind) (w : Word) → statement_by k w ≡ form.Break → k ≡ kind.Break
break_kind kind.Break w e = refl
break_kind kind.Directive word.Partial e = cc
break_kind kind.Directive _ e = cc
break_kind _ w e = cc

pub continue_kind : (k : TokenKind) (w : Word) → statement_by k w ≡ form.Continue → k ≡ kind.Continue
continue_kind kind.Continue w e = refl
continue_kind kind.Directive word.Partial e = cc
continue_kind kind.Directive _ e = cc
continue_kind _ w e = cc

pub fallthrough_kind : (k : TokenKind) (w : Word) → statement_by k w ≡ form.Fallthrough → k ≡ kind.Fallthrough
fallthrough_kind kind.Fallthrough w e = refl
fallthrough_kind kind.Directive word.Partial e = cc
fallthrough_kind kind.Directive _ e = cc
fallthrough_kind _ w e = cc

pub if_kind : (k : TokenKind) (w : Word) → statement_by k w ≡ form.If → k ≡ kind.If
if_kind kind.If w e = refl
if_kind kind.Directive word.Partial e = cc
if_kind kind.Directive _ e = cc
if_kind _ w e = cc

pub named_kind : (k : TokenKind) (w : Word) → statement_by k w ≡ form.Named → k ≡ kind.Name
named_kind kind.Name w e = refl
named_kind kind.Directive word.Partial e = cc
named_kind kind.Directive _ e = cc
named_kind _ w e = cc

pub labelled_form : (k : TokenKind) (w : Word) → statement_by k w ≡ form.Labelled → labelled_by k w ≡ true
labelled_form kind.OpenBrace w e = refl
labelled_form kind.For w e = refl
labelled_form kind.Switch w e = refl
labelled_form kind.Directive word.Partial e = refl
labelled_form kind.Directive _ e = cc
labelled_form _ w e = cc
