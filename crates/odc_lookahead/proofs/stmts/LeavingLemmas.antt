-- `break`, `continue` and `return`.
use Rattle.std.proofs.Common.{◌≡◌, ℕ, suc, ◌*◌, ◌<◌, ◌≤◌, true, List, [], ◌∷◌, ◌++◌, length, refl, ap, subst, arith, Option, Some, None}
use Rattle.odc_syntax.specs.declared.token.Token.{Token}
use Rattle.odc_syntax.specs.declared.token.TokenKind.{TokenKind}
use Rattle.odc_syntax.specs.declared.token.TokenKind.TheVariants as kind
use Rattle.odc_syntax.specs.declared.grammar.Mode.TheVariants.{Free}
use Rattle.odc_syntax.specs.Tree.{Exprs, Stmt, stmt}
use Rattle.odc_syntax.specs.Tree as tree
use Rattle.odc_syntax.specs.Grammar.{Sym, tok, Rule, no_token, a_token}
use Rattle.odc_syntax.specs.Grammar as g
use Rattle.odc_syntax.specs.Derives.{Reach, here, read, write, StartsWithout}
use Rattle.odc_lookahead.specs.declared.stop.Stop.{Stop}
use Rattle.odc_lookahead.specs.declared.stop.Stop.TheVariants as stop
use Rattle.odc_lookahead.specs.declared.statement_form.StatementForm.TheVariants as form
use Rattle.odc_lookahead.specs.Exact.{size, Clear, Part, one, then_, done, Exact, Found, Broken}
use Rattle.odc_lookahead.specs.Read.{refused}
use Rattle.odc_lookahead.specs.Sets.{starts_expression}
use Rattle.odc_lookahead.specs.stmts.StatementSets.{continues_exprs, continues_statement}
use Rattle.odc_lookahead.specs.stmts.StatementForms.{statement_form}
use Rattle.odc_lookahead.proofs.reading.Opening.{reach_opens}
use Rattle.odc_lookahead.proofs.reading.Reaching.{behind_part, behind_token}
use Rattle.odc_lookahead.proofs.reading.Leading.{one_deeper, Pending, led_done, first_is, without, at_rest}
use Rattle.odc_lookahead.proofs.reading.Answering.{led_at, led_step, answer_is, Stepped}
use Rattle.odc_lookahead.proofs.expr.BinaryLemmas.{clear_narrow}
use Rattle.odc_lookahead.proofs.stmts.StatementForms.{forms, break_kind, continue_kind, return_kind}
use Rattle.odc_lookahead.proofs.stmts.StatementLemmas.{form_of, WholeStatement}
use Rattle.odc_lookahead.proofs.reading.Deciding.{led_here}
use Rattle.odc_lookahead.proofs.reading.Optional.{OpensBy, Turns, Into, optional_found, optional_refused}

-- a label may follow
abbrev label_part : ℕ → Option Token → Sym
label_part c l = g.maybe_token kind.Name l

abbrev LabelAt : ℕ → List Token → (Option Token → Stmt) → List Token → Type 0
LabelAt b ts f us = WholeStatement b ts (one label_part) f 0 us

label_by : {s' : List Sym} {ts' : List Token} (n : Token) (vs : List Token) → n.kind ≡ kind.Name → (c : ℕ) (l : Option Token) (p : List Sym) → Rule (g.maybe_token kind.Name l) p → (s : List Sym) → Clear continues_statement s → Reach s' ts' (p ++ s) (n ∷ vs) →
    size s' ts' ≤ 2 * length vs → Stepped done (λ u. Some n) c l s s' ts' vs
unfolding done
label_by {s'} {ts'} n vs e c l p no_token s clear r h = absurd (clear.stops n vs s' ts' (ap continues_statement e) r (omega (arith, h)))
label_by n vs e c l p a_token s clear r h = let z = behind_token r (omega (arith, h)) in record { by = tt; is = ap (λ (x : Token). Some x) (first_is z.is); reach = at_rest z }

label_read : (b : ℕ) (ts : List Token) (f : Option Token → Stmt) (us : List Token) (n : Token) (vs : List Token) → LabelAt b ts f us → us ≡ n ∷ vs → n.kind ≡ kind.Name → Found (one g.statement) continues_statement (suc b) ts (f (Some n)) 1 vs
unfolding done
label_read b ts f us n vs led is e =
    led_done one_deeper
    (led_step vs done (λ u. Some n) tt one_deeper (omega arith) (omega arith) (λ c w s. write _ a_token (read e here))
    (λ c u s s' ts' clear r h. let z = behind_part tt r (omega (arith, h)) in label_by n vs e c u z.as_symbols z.rule s clear z.reach h)
    (subst (λ (l : List Token). LabelAt b ts f l) is led))

none_by : {s' : List Sym} {ts' : List Token} (us : List Token) → StartsWithout kind.Name us → (c : ℕ) (l : Option Token) (p : List Sym) → Rule (g.maybe_token kind.Name l) p → (s : List Sym) → Reach s' ts' (p ++ s) us → size s' ts' ≤ 2 * length us →
    Stepped done (λ u. None) c l s s' ts' us
unfolding done
none_by us open' c l p no_token s r h = record { by = tt; is = refl; reach = r }
none_by us open' c l p a_token s r h = let z = behind_token r h in absurd (without kind.Name _ _ us z.is z.kind open')

label_none : (b : ℕ) (ts : List Token) (f : Option Token → Stmt) (us : List Token) → LabelAt b ts f us → StartsWithout kind.Name us → Found (one g.statement) continues_statement (suc b) ts (f None) 1 us
unfolding done
label_none b ts f us led open' =
    led_done one_deeper (led_here done (λ u. None) tt (λ c w s. write _ no_token here) (λ c u s s' ts' clear r h. let z = behind_part tt r h in none_by us open' c u z.as_symbols z.rule s z.reach h) led)

-- `break`
break_by : {s' : List Sym} {ts' : List Token} (t : Token) (us : List Token) (c : ℕ) (w : Stmt) (p : List Sym) → (rule : Rule (g.statement c w) p) → forms rule form.Break ≡ true → (s : List Sym) → Reach s' ts' (p ++ s) (t ∷ us) → size s' ts' ≤ 2 * length us →
    Pending (λ n. suc n) (one label_part) (λ l. stmt t.at (tree.break l)) 0 us c w s s' ts'
break_by t us c w p (g.statement_break {b = b} {l = l}) f s r h =
    let z = behind_token r (omega (arith, h)) in
    record { at = b; value = l; bound = refl; whole = ap (λ (t : Token). stmt t.at (tree.break l)) (first_is z.is); deep = omega arith; reach = at_rest z }
break_by t us c w p _ f s r h = cc

break_led : (b : ℕ) (t : Token) (us : List Token) → statement_form t ≡ form.Break → LabelAt b (t ∷ us) (λ l. stmt t.at (tree.break l)) us
break_led b t us e =
    led_at b us (one label_part) (λ l. stmt t.at (tree.break l)) None (omega arith) one_deeper (λ c v. tt) (λ c u s. write _ g.statement_break (read (break_kind t.kind t.word e) here))
    (λ c w p rule s s' ts' r h clear. break_by t us c w p rule (form_of t us form.Break e rule s clear r (omega (arith, h))) s r h)

pub break_label : (b : ℕ) (t : Token) (us : List Token) (n : Token) (vs : List Token) → statement_form t ≡ form.Break → us ≡ n ∷ vs → n.kind ≡ kind.Name → Found (one g.statement) continues_statement (suc b) (t ∷ us) (stmt t.at (tree.break (Some n))) 1 vs
break_label b t us n vs e is k = label_read b (t ∷ us) (λ l. stmt t.at (tree.break l)) us n vs (break_led b t us e) is k

pub break_alone : (b : ℕ) (t : Token) (us : List Token) → statement_form t ≡ form.Break → StartsWithout kind.Name us → Found (one g.statement) continues_statement (suc b) (t ∷ us) (stmt t.at (tree.break None)) 1 us
break_alone b t us e open' = label_none b (t ∷ us) (λ l. stmt t.at (tree.break l)) us (break_led b t us e) open'

-- `continue`
continue_by : {s' : List Sym} {ts' : List Token} (t : Token) (us : List Token) (c : ℕ) (w : Stmt) (p : List Sym) → (rule : Rule (g.statement c w) p) → forms rule form.Continue ≡ true → (s : List Sym) → Reach s' ts' (p ++ s) (t ∷ us) → size s' ts' ≤ 2 * length us →
    Pending (λ n. suc n) (one label_part) (λ l. stmt t.at (tree.continue l)) 0 us c w s s' ts'
continue_by t us c w p (g.statement_continue {b = b} {l = l}) f s r h =
    let z = behind_token r (omega (arith, h)) in
    record { at = b; value = l; bound = refl; whole = ap (λ (t : Token). stmt t.at (tree.continue l)) (first_is z.is); deep = omega arith; reach = at_rest z }
continue_by t us c w p _ f s r h = cc

continue_led : (b : ℕ) (t : Token) (us : List Token) → statement_form t ≡ form.Continue → LabelAt b (t ∷ us) (λ l. stmt t.at (tree.continue l)) us
continue_led b t us e =
    led_at b us (one label_part) (λ l. stmt t.at (tree.continue l)) None (omega arith) one_deeper (λ c v. tt) (λ c u s. write _ g.statement_continue (read (continue_kind t.kind t.word e) here))
    (λ c w p rule s s' ts' r h clear. continue_by t us c w p rule (form_of t us form.Continue e rule s clear r (omega (arith, h))) s r h)

pub continue_label : (b : ℕ) (t : Token) (us : List Token) (n : Token) (vs : List Token) → statement_form t ≡ form.Continue → us ≡ n ∷ vs → n.kind ≡ kind.Name → Found (one g.statement) continues_statement (suc b) (t ∷ us) (stmt t.at (tree.continue (Some n))) 1 vs
continue_label b t us n vs e is k = label_read b (t ∷ us) (λ l. stmt t.at (tree.continue l)) us n vs (continue_led b t us e) is k

pub continue_alone : (b : ℕ) (t : Token) (us : List Token) → statement_form t ≡ form.Continue → StartsWithout kind.Name us → Found (one g.statement) continues_statement (suc b) (t ∷ us) (stmt t.at (tree.continue None)) 1 us
continue_alone b t us e open' = label_none b (t ∷ us) (λ l. stmt t.at (tree.continue l)) us (continue_led b t us e) open'

-- `return`, with values or without
data Returned : Type 0 where
  nothing : Returned
  values : (es : Exprs) → Returned

abbrev returned_line : Part Returned
returned_line c nothing = []
returned_line c (values es) = g.exprs Free c es ∷ []

abbrev returned_node : Token → Returned → Stmt
returned_node t nothing = stmt t.at (tree.return tree.no_exprs)
returned_node t (values es) = stmt t.at (tree.return es)

return_by : {s' : List Sym} {ts' : List Token} (t : Token) (us : List Token) (c : ℕ) (w : Stmt) (p : List Sym) → (rule : Rule (g.statement c w) p) → forms rule form.Return ≡ true → (s : List Sym) → Reach s' ts' (p ++ s) (t ∷ us) → size s' ts' ≤ 2 * length us →
    Pending (λ n. suc n) returned_line (returned_node t) 0 us c w s s' ts'
return_by t us c w p (g.statement_return {b = b}) f s r h =
    let z = behind_token r (omega (arith, h)) in
    record { at = b; value = nothing; bound = refl; whole = ap (λ (t : Token). stmt t.at (tree.return tree.no_exprs)) (first_is z.is); deep = omega arith; reach = at_rest z }
return_by t us c w p (g.statement_return_values {b = b} {es = es}) f s r h =
    let z = behind_token r (omega (arith, h)) in
    record { at = b; value = values es; bound = refl; whole = ap (λ (t : Token). stmt t.at (tree.return es)) (first_is z.is); deep = omega arith; reach = at_rest z }
return_by t us c w p _ f s r h = cc

return_into : (t : Token) (us : List Token) → t.kind ≡ kind.Return → (c : ℕ) (u : Returned) (s : List Sym) → Reach (returned_line c u ++ s) us (g.statement (suc c) (returned_node t u) ∷ s) (t ∷ us)
return_into t us e c nothing s = write _ g.statement_return (read e here)
return_into t us e c (values es) s = write _ g.statement_return_values (read e here)

return_led : (b : ℕ) (t : Token) (us : List Token) → statement_form t ≡ form.Return → WholeStatement b (t ∷ us) returned_line (returned_node t) 0 us
return_led b t us e =
    led_at b us returned_line (returned_node t) nothing (omega arith) one_deeper (λ c v. tt) (return_into t us (return_kind t.kind t.word e))
    (λ c w p rule s s' ts' r h clear. return_by t us c w p rule (form_of t us form.Return e rule s clear r (omega (arith, h))) s r h)

nothing_by : {s' : List Sym} {ts' : List Token} (b : ℕ) (us : List Token) → Broken (one (g.exprs Free)) (continues_exprs Free) b us (length us) → (c : ℕ) (u : Returned) (s : List Sym) → Clear (continues_exprs Free) s → Reach s' ts' (returned_line c u ++ s) us →
    size s' ts' ≤ 2 * length us → Stepped done (λ x. nothing) c u s s' ts' us
unfolding done
nothing_by b us broken c nothing s clear r h = record { by = tt; is = refl; reach = r }
nothing_by {s'} {ts'} b us broken c (values es) s clear r h = absurd (broken.none c es s s' ts' clear r h)

statement_exprs : (k : TokenKind) → continues_exprs Free k ≡ true → continues_statement k ≡ true
statement_exprs kind.Semicolon e = cc
statement_exprs kind.CloseBrace e = cc
statement_exprs kind.Else e = cc
statement_exprs kind.Case e = cc
statement_exprs _ e = refl

pub exprs_clear : {s : List Sym} → Clear continues_statement s → Clear (continues_exprs Free) s
exprs_clear clear = clear_narrow statement_exprs clear

pub return_alone : (b : ℕ) (t : Token) (us : List Token) → statement_form t ≡ form.Return → Broken (one (g.exprs Free)) (continues_exprs Free) b us (length us) →
    Found (one g.statement) continues_statement (suc b) (t ∷ us) (stmt t.at (tree.return tree.no_exprs)) 1 us
unfolding done
return_alone b t us e broken =
    led_done one_deeper (led_here done (λ x. nothing) tt (λ c w s. here) (λ c u s s' ts' clear r h. nothing_by b us broken c u s (exprs_clear clear) r h) (return_led b t us e))

pub statement_expression : (k : TokenKind) → starts_expression Free k ≡ true → continues_statement k ≡ true
statement_expression kind.Semicolon e = cc
statement_expression kind.CloseBrace e = cc
statement_expression kind.Else e = cc
statement_expression kind.Case e = cc
statement_expression _ e = refl

values_into : (us : List Token) → Into returned_line (g.exprs Free) done (λ u. values u.0) us
unfolding then_ done
values_into us c w s = here

values_turn : (us : List Token) → Turns (starts_expression Free) continues_statement returned_line (g.exprs Free) done (λ u. values u.0) us
unfolding then_ done
values_turn us t vs is among c nothing s s' ts' clear r h = absurd (clear.stops t vs s' ts' (statement_expression t.kind among) (subst (λ (l : List Token). Reach s' ts' s l) is r) h)
values_turn us t vs is among c (values es) s s' ts' clear r h = record { by = (es, tt); is = refl; reach = r }

values_open : (us : List Token) → OpensBy (g.exprs Free) (starts_expression Free) us
values_open us c w s s' ts' r h = reach_opens r h

last_clear : (c : ℕ) (u : Unit {0}) (s : List Sym) → Clear continues_statement s → Clear (continues_exprs Free) (done c u ++ s)
unfolding done
last_clear c u s clear = exprs_clear clear

pub return_refused : (b : ℕ) (t : Token) (us : List Token) (e : Stop) → statement_form t ≡ form.Return → Exact (one (g.exprs Free)) (continues_exprs Free) b us (refused e) → (e ≡ stop.Syntax (length us) → ⊥) →
    Exact (one g.statement) continues_statement (suc b) (t ∷ us) (refused e)
return_refused b t us e f h elsewhere =
    optional_refused (starts_expression Free) (g.exprs Free) (continues_exprs Free) done (λ u. values u.0) (tree.no_exprs, tt) e one_deeper (return_led b t us f) (omega arith) (values_into us) (values_turn us) (values_open us) h elsewhere last_clear

pub return_answer : (b : ℕ) (t : Token) (us : List Token) (es : Exprs) (n top : ℕ) (rest : List Token) → statement_form t ≡ form.Return → Found (one (g.exprs Free)) (continues_exprs Free) b us es n rest → length rest < length us → top ≡ suc n →
    Found (one g.statement) continues_statement (suc b) (t ∷ us) (stmt t.at (tree.return es)) top rest
return_answer b t us es n top rest e found shorter high =
    answer_is refl (omega (arith, high))
    (led_done one_deeper (optional_found (starts_expression Free) (g.exprs Free) done (λ u. values u.0) (tree.no_exprs, tt) one_deeper (return_led b t us e) (omega arith) (values_into us) (values_turn us) (values_open us) found shorter last_clear))
