-- Statements that begin with a name: declarations, labels, assignments and expressions.
use Rattle.std.proofs.Common.{◌≡◌, ℕ, suc, ◌*◌, ◌<◌, ◌≤◌, true, List, [], ◌∷◌, ◌++◌, length, refl, sym, ◌∙◌, ap, subst, arith, Some, None}
use Rattle.odc_text.specs.declared.place.Place.{Place}
use Rattle.odc_syntax.specs.declared.token.Token.{Token}
use Rattle.odc_syntax.specs.declared.token.TokenKind.{TokenKind}
use Rattle.odc_syntax.specs.declared.token.TokenKind.TheVariants as kind
use Rattle.odc_syntax.specs.declared.token.Word.{Word}
use Rattle.odc_syntax.specs.declared.token.Word.TheVariants as word
use Rattle.odc_syntax.specs.declared.grammar.Mode.TheVariants.{Free, Start}
use Rattle.odc_syntax.specs.declared.grammar.Use.TheVariants.{Plain}
use Rattle.odc_syntax.specs.Tree.{Type_, MaybeType, Exprs, Stmt, stmt, Decl, decl}
use Rattle.odc_syntax.specs.Tree as tree
use Rattle.odc_syntax.specs.Grammar.{Sym, tok, Rule, Labelled, labelled, names_one, names_more, declare_constant, declare_inferred, declare_typed, no_type, a_type}
use Rattle.odc_syntax.specs.Grammar as g
use Rattle.odc_syntax.specs.Derives.{Reach, here, read, write}
use Rattle.odc_lookahead.specs.declared.stop.Stop.{Stop}
use Rattle.odc_lookahead.specs.declared.stop.Stop.TheVariants as stop
use Rattle.odc_lookahead.specs.declared.statement_form.StatementForm.TheVariants as form
use Rattle.odc_lookahead.specs.Exact.{size, Clear, one, Exact, Answer, Yes, Found}
use Rattle.odc_lookahead.specs.Read.{refused}
use Rattle.odc_lookahead.specs.stmts.Runs.{Declares, named, listed, Undeclared, labelled_by, is_labelled, Labels, NotLabelled}
use Rattle.odc_lookahead.specs.Sets.{starts_type}
use Rattle.odc_lookahead.specs.stmts.Statements.{labelled_part}
use Rattle.odc_lookahead.specs.stmts.StatementSets.{continues_simple, continues_declaration, continues_statement}
use Rattle.odc_lookahead.specs.stmts.StatementForms.{statement_by, statement_form}
use Rattle.odc_lookahead.proofs.reading.Opening.{reach_opens}
use Rattle.odc_lookahead.proofs.reading.Reaching.{behind_part, behind_token, behind_said}
use Rattle.odc_lookahead.proofs.reading.Leading.{same_depth, one_deeper, Pending, first_is, at_rest}
use Rattle.odc_lookahead.proofs.reading.Answering.{led_at, led_rest, led_rest_refused, answer_is, wider_exact}
use Rattle.odc_lookahead.proofs.expr.BinaryLemmas.{clear_narrow}
use Rattle.odc_lookahead.proofs.stmts.RunLemmas.{run_short, declares_short, undeclared_dead, not_declared, not_simple, simple_beyond, declaration_beyond}
use Rattle.odc_lookahead.proofs.stmts.StatementForms.{forms, simple_clear, labelled_first}
use Rattle.odc_lookahead.proofs.stmts.StatementLemmas.{form_of, some_stmt, WholeStatement}
use Rattle.odc_lookahead.proofs.reading.Deciding.{stop_limit, Leads, leads_start, leads_found, leads_refused}
use Rattle.odc_lookahead.proofs.reading.Samples as sample

pub named_form : (t : Token) → t.kind ≡ kind.Name → statement_form t ≡ form.Named
named_form t e = ap (λ (k : TokenKind). statement_by k t.word) e

-- what a label may stand before is neither a type nor `:` nor `=`
labelled_no_colon : (k : TokenKind) (w : Word) → labelled_by k w ≡ true → k ≡ kind.Colon → ⊥
labelled_no_colon kind.Colon w e f = cc
labelled_no_colon _ w e f = cc

labelled_no_assign : (k : TokenKind) (w : Word) → labelled_by k w ≡ true → k ≡ kind.Assign → ⊥
labelled_no_assign kind.Assign w e f = cc
labelled_no_assign _ w e f = cc

labelled_directive : (k : TokenKind) (w : Word) → labelled_by k w ≡ true → starts_type Plain k ≡ true → (k ≡ kind.Directive) × (w ≡ word.Partial)
labelled_directive kind.Directive word.Partial e f = (refl, refl)
labelled_directive kind.Directive _ e f = cc
labelled_directive kind.OpenBrace w e f = cc
labelled_directive kind.For w e f = cc
labelled_directive kind.Switch w e f = cc
labelled_directive _ w e f = cc

-- a type does not begin with `#partial`
constructed_by : {s' : List Sym} {ts' : List Token} (t : Token) (us : List Token) → t.kind ≡ kind.Directive → t.word ≡ word.Partial → (c : ℕ) (ty : Type_) (p : List Sym) → Rule (g.constructed Plain c ty) p → (s : List Sym) → Reach s' ts' (p ++ s) (t ∷ us) →
    size s' ts' ≤ 2 * length (t ∷ us) → ⊥
constructed_by t us e f c ty p g.type_pointer s r h = let bad : t.kind ≡ kind.Caret = reach_opens r h in cc
constructed_by t us e f c ty p g.type_distinct s r h = let bad : t.kind ≡ kind.Distinct = reach_opens r h in cc
constructed_by t us e f c ty p g.type_word_proc s r h = let z = behind_said r h in let says : t.word ≡ word.Type = sym (ap (λ (x : Token). x.word) (first_is z.1.is)) ∙ z.0 in cc
constructed_by t us e f c ty p g.type_array s r h = let bad : t.kind ≡ kind.OpenBracket = reach_opens r h in cc
constructed_by t us e f c ty p g.type_counted s r h = let bad : t.kind ≡ kind.OpenBracket = reach_opens r h in cc
constructed_by t us e f c ty p g.type_soa s r h = let z = behind_said r h in let says : t.word ≡ word.Soa = sym (ap (λ (x : Token). x.word) (first_is z.1.is)) ∙ z.0 in cc
constructed_by t us e f c ty p g.type_soa_counted s r h = let z = behind_said r h in let says : t.word ≡ word.Soa = sym (ap (λ (x : Token). x.word) (first_is z.1.is)) ∙ z.0 in cc
constructed_by t us e f c ty p g.type_struct s r h = let bad : t.kind ≡ kind.Struct = reach_opens r h in cc
constructed_by t us e f c ty p g.type_union s r h = let bad : t.kind ≡ kind.Union = reach_opens r h in cc
constructed_by t us e f c ty p g.type_enum s r h = let bad : t.kind ≡ kind.Enum = reach_opens r h in cc

type_by : {s' : List Sym} {ts' : List Token} (t : Token) (us : List Token) → t.kind ≡ kind.Directive → t.word ≡ word.Partial → (c : ℕ) (ty : Type_) (p : List Sym) → Rule (g.type_ Plain c ty) p → (s : List Sym) → Reach s' ts' (p ++ s) (t ∷ us) →
    size s' ts' ≤ 2 * length (t ∷ us) → ⊥
type_by t us e f c ty p g.type_named s r h = let bad : t.kind ≡ kind.Name = reach_opens r h in cc
type_by t us e f c ty p g.type_member s r h = let bad : t.kind ≡ kind.Name = reach_opens r h in cc
type_by t us e f c ty p g.type_group s r h = let bad : t.kind ≡ kind.OpenParen = reach_opens r h in cc
type_by t us e f c ty p g.type_proc s r h = let bad : t.kind ≡ kind.Proc = reach_opens r h in cc
type_by t us e f c ty p g.type_constructed s r h = let z = behind_part tt r h in constructed_by t us e f c ty z.as_symbols z.rule s z.reach h

no_type_labelled : {s' : List Sym} {ts' : List Token} (t : Token) (us : List Token) → is_labelled t ≡ true → (c : ℕ) (ty : Type_) (s : List Sym) → Reach s' ts' (g.type_ Plain c ty ∷ s) (t ∷ us) → size s' ts' ≤ 2 * length (t ∷ us) → ⊥
no_type_labelled t us e c ty s r h =
    let w = labelled_directive t.kind t.word e (reach_opens r h) in
    let z = behind_part tt r h in
    type_by t us w.0 w.1 c ty z.as_symbols z.rule s z.reach h

-- where a label stands, nothing is declared
maybe_by : {s' : List Sym} {ts' : List Token} (t : Token) (us : List Token) → is_labelled t ≡ true → (c : ℕ) (ty : MaybeType) (p : List Sym) → Rule (g.maybe_type Plain c ty) p → (d : Token) (s : List Sym) → Reach s' ts' (p ++ (tok kind.Colon d ∷ s)) (t ∷ us) →
    size s' ts' ≤ 2 * length (t ∷ us) → ⊥
maybe_by t us e c ty p no_type d s r h = labelled_no_colon t.kind t.word e (reach_opens r h)
maybe_by t us e c ty p (a_type {ty = x}) d s r h = no_type_labelled t us e c x (tok kind.Colon d ∷ s) r h

-- what is left behind a name and `:`
pub name_colon : {s' : List Sym} {ts' : List Token} (t k : Token) (us : List Token) → k.kind ≡ kind.Colon → (ns : List Token) (p : List Sym) → Rule (g.names ns) p → (d : Token) (s : List Sym) → Reach s' ts' (p ++ (tok kind.Colon d ∷ s)) (t ∷ k ∷ us) →
    size s' ts' ≤ 2 * length us → Reach s' ts' s us
name_colon t k us e ns p names_one d s r h = let z = behind_token r (omega (arith, h)) in let y = behind_token (at_rest z) (omega (arith, h)) in at_rest y
name_colon t k us e ns p names_more d s r h = let z = behind_token r (omega (arith, h)) in let bad : k.kind ≡ kind.Comma = reach_opens (at_rest z) (omega (arith, h)) in cc

label_undeclared : {s' : List Sym} {ts' : List Token} (t k f : Token) (us : List Token) → k.kind ≡ kind.Colon → is_labelled f ≡ true → (c : ℕ) (w : Decl) (p : List Sym) → Rule (g.declaration Free c w) p → (s : List Sym) → Reach s' ts' (p ++ s) (t ∷ k ∷ f ∷ us) →
    size s' ts' ≤ 2 * length (f ∷ us) → ⊥
label_undeclared t k f us e l c w p (declare_constant {b = b} {d = d} {ty = ty} {es = es}) s r h =
    let z = behind_part tt r (omega (arith, h)) in
    let y = name_colon t k (f ∷ us) e _ z.as_symbols z.rule _ _ z.reach h in
    let x = behind_part tt y h in
    maybe_by f us l b ty x.as_symbols x.rule d (g.exprs Free b es ∷ s) x.reach h
label_undeclared t k f us e l c w p declare_inferred s r h =
    let z = behind_part tt r (omega (arith, h)) in
    let y = name_colon t k (f ∷ us) e _ z.as_symbols z.rule _ _ z.reach h in
    labelled_no_assign f.kind f.word l (reach_opens y h)
label_undeclared t k f us e l c w p (declare_typed {b = b} {ty = ty} {i = i}) s r h =
    let z = behind_part tt r (omega (arith, h)) in
    let y = name_colon t k (f ∷ us) e _ z.as_symbols z.rule _ _ z.reach h in
    no_type_labelled f us l b ty (g.initial Free b i ∷ s) y h

pub no_statement_colon : {s s' : List Sym} {ts' rest : List Token} → Clear continues_statement s → size s' ts' ≤ 2 * length rest → (k : Token) → k.kind ≡ kind.Colon → Reach s' ts' s (k ∷ rest) → ⊥
no_statement_colon {s} {s'} {ts'} {rest} clear h k e r = clear.stops k rest s' ts' (ap continues_statement e) r (omega (arith, h))

-- a label
abbrev label_node : Token → Place × Labelled → Stmt
label_node t u = stmt t.at (labelled (Some t) u.1)

label_by : {s' : List Sym} {ts' : List Token} (t k f : Token) (us : List Token) → t.kind ≡ kind.Name → k.kind ≡ kind.Colon → is_labelled f ≡ true → (c : ℕ) (w : Stmt) (p : List Sym) → (rule : Rule (g.statement c w) p) → forms rule form.Named ≡ true → (s : List Sym) →
    Clear continues_statement s → Reach s' ts' (p ++ s) (t ∷ k ∷ f ∷ us) → size s' ts' ≤ 2 * length (f ∷ us) → Pending (λ n. suc n) (one labelled_part) (label_node t) 0 (f ∷ us) c w s s' ts'
label_by t k f us n e l c w p (g.statement_declare {b = b} {at = at} {k = d}) q s clear r h =
    let z = behind_part tt r (omega (arith, h)) in
    absurd (label_undeclared t k f us e l b (decl at d) z.as_symbols z.rule s z.reach h)
label_by t k f us n e l c w p g.statement_simple q s clear r h = absurd (not_simple Start (named t k (f ∷ us) n e) c w s (simple_clear clear) (no_statement_colon clear h) r h)
label_by t k f us n e l c w p (g.statement_labelled {b = b} {at = at} {s = x}) q s clear r h =
    let z = behind_token r (omega (arith, h)) in
    let y = behind_token (at_rest z) (omega (arith, h)) in
    record { at = b; value = (at, x); bound = refl; whole = ap (λ (t : Token). stmt t.at (labelled (Some t) x)) (first_is z.is); deep = omega arith; reach = at_rest y }
label_by t k f us n e l c w p _ q s clear r h = cc

label_led : (b : ℕ) (t k f : Token) (us : List Token) → t.kind ≡ kind.Name → k.kind ≡ kind.Colon → is_labelled f ≡ true → WholeStatement b (t ∷ k ∷ f ∷ us) (one labelled_part) (label_node t) 0 (f ∷ us)
label_led b t k f us n e l =
    led_at b (f ∷ us) (one labelled_part) (label_node t) (sample.place, g.block tree.no_stmts) (omega arith) one_deeper (λ c v. tt) (λ c u s. write _ g.statement_labelled (read n (read e here)))
    (λ c w p rule s s' ts' r h clear. label_by t k f us n e l c w p rule (form_of t (k ∷ f ∷ us) form.Named (named_form t n) rule s clear r (omega (arith, h))) s clear r h)

label_at : (b : ℕ) (ts : List Token) (t : Token) (rest : List Token) → Labels ts t rest → WholeStatement b ts (one labelled_part) (label_node t) 0 rest
label_at b ts t rest z =
    subst (λ (l : List Token). WholeStatement b ts (one labelled_part) (label_node t) 0 l) (sym z.rest_is)
    (subst (λ (l : List Token). WholeStatement b l (one labelled_part) (label_node t) 0 (z.first ∷ z.behind)) (sym (z.is ∙ ap (λ (l : List Token). t ∷ z.colon ∷ l) z.rest_is))
    (label_led b t z.colon z.first z.behind z.name z.kind z.labelled))

pub label_answer : (b : ℕ) (ts : List Token) (t : Token) (rest : List Token) (v : Place × Labelled) (n top : ℕ) (after : List Token) → Labels ts t rest → Found (one labelled_part) continues_statement b rest v n after → top ≡ suc n →
    Found (one g.statement) continues_statement (suc b) ts (stmt t.at (labelled (Some t) v.1)) top after
label_answer b ts t rest v n top after z found high = answer_is refl (omega (arith, high)) (led_rest one_deeper (label_at b ts t rest z) (omega arith) found)

pub label_refused : (b : ℕ) (ts : List Token) (t : Token) (rest : List Token) (e : Stop) → Labels ts t rest → Exact (one labelled_part) continues_statement b rest (refused e) → Exact (one g.statement) continues_statement (suc b) ts (refused e)
label_refused b ts t rest e z h = led_rest_refused e one_deeper (label_at b ts t rest z) (omega arith) h

-- a declaration
abbrev pub declare_node : Decl → Stmt
declare_node (decl at k) = stmt at (tree.declare (decl at k))

statement_declares : (k : TokenKind) → continues_declaration Free k ≡ true → continues_statement k ≡ true
statement_declares kind.Semicolon e = cc
statement_declares kind.CloseBrace e = cc
statement_declares kind.Else e = cc
statement_declares kind.Case e = cc
statement_declares _ e = refl

declare_into : (c : ℕ) (d : Decl) (s : List Sym) (ts : List Token) → Reach (g.declaration Free c d ∷ s) ts (g.statement (suc c) (declare_node d) ∷ s) ts
declare_into c (decl at k) s ts = write _ g.statement_declare here

pub no_label : {s' : List Sym} {ts' ts rest : List Token} → Declares ts rest → NotLabelled ts → (t k : Token) (c : ℕ) (at : Place) (l : Labelled) (s : List Sym) → Reach s' ts' (tok kind.Name t ∷ tok kind.Colon k ∷ g.labelled_ c at l ∷ s) ts → size s' ts' ≤ 2 * length rest → ⊥
no_label (listed t c us rest e f d) none u k b at l s r h =
    let short = declares_short d in
    let z = behind_token r (omega (arith, h, short)) in
    let bad : c.kind ≡ kind.Colon = reach_opens (at_rest z) (omega (arith, h, short)) in
    cc
no_label {s'} {ts'} (named t k us e f) none u v b at l s r h =
    let z = behind_token r (omega (arith, h)) in
    let y = behind_token (at_rest z) (omega (arith, h)) in
    by_rest us none (at_rest y) h
  where
    by_rest : (us : List Token) → NotLabelled (t ∷ k ∷ us) → Reach s' ts' (g.labelled_ b at l ∷ s) us → size s' ts' ≤ 2 * length us → ⊥
    by_rest [] none r h = reach_opens r h
    by_rest (x ∷ us) none r h = none t k x us refl e f (labelled_first x us b at l s r h)

declare_by : {s' : List Sym} {ts' ts rest : List Token} → Declares ts rest → NotLabelled ts → (t : Token) (us : List Token) → ts ≡ t ∷ us → t.kind ≡ kind.Name → (c : ℕ) (w : Stmt) (p : List Sym) → (rule : Rule (g.statement c w) p) → forms rule form.Named ≡ true →
    (s : List Sym) → Clear continues_statement s → Reach s' ts' (p ++ s) ts → size s' ts' ≤ 2 * length rest → Pending (λ n. suc n) (one (g.declaration Free)) declare_node 0 ts c w s s' ts'
declare_by d none t us is n c w p (g.statement_declare {b = b} {at = at} {k = k}) q s clear r h = record { at = b; value = decl at k; bound = refl; whole = refl; deep = omega arith; reach = r }
declare_by d none t us is n c w p g.statement_simple q s clear r h = absurd (not_simple Start d c w s (simple_clear clear) (no_statement_colon clear h) r h)
declare_by d none t us is n c w p (g.statement_labelled {b = b} {t = x} {c = k} {at = at} {s = l}) q s clear r h = absurd (no_label d none x k b at l s r h)
declare_by d none t us is n c w p _ q s clear r h = cc

pub named_at : {s' : List Sym} {ts' : List Token} {c : ℕ} {w : Stmt} {p : List Sym} (ts : List Token) (t : Token) (us : List Token) → ts ≡ t ∷ us → t.kind ≡ kind.Name → (rule : Rule (g.statement c w) p) → (s : List Sym) → Clear continues_statement s → Reach s' ts' (p ++ s) ts →
    size s' ts' ≤ 2 * length ts → forms rule form.Named ≡ true
named_at {s'} {ts'} {p = p} ts t us is n rule s clear r h =
    form_of t us form.Named (named_form t n) rule s clear (subst (λ (l : List Token). Reach s' ts' (p ++ s) l) is r) (subst (λ (l : List Token). size s' ts' ≤ 2 * length l) is h)

declare_leads : (b : ℕ) (ts rest : List Token) (t : Token) (us : List Token) → Declares ts rest → NotLabelled ts → ts ≡ t ∷ us → t.kind ≡ kind.Name → Leads (one g.statement) continues_statement (λ n. suc n) b ts (one (g.declaration Free)) declare_node 0 ts (2 * length rest)
declare_leads b ts rest t us d none is n =
    let short = declares_short d in
    leads_start b ts (one (g.declaration Free)) declare_node (2 * length rest) (decl sample.place (tree.import None sample.token)) one_deeper (omega arith) (λ c u s. declare_into c u s ts)
    (λ c w s s' ts' clear r h.
    let z = behind_part tt r (omega (arith, h, short)) in
    declare_by d none t us is n c w z.as_symbols z.rule (named_at ts t us is n z.rule s clear z.reach (omega (arith, h, short))) s clear z.reach h)

declaration_wide : (b : ℕ) (ts : List Token) (r : Answer Decl) → Exact (one (g.declaration Free)) (continues_declaration Free) b ts r → Exact (one (g.declaration Free)) continues_statement b ts r
declaration_wide b ts r h = wider_exact (one (g.declaration Free)) b ts r (λ s clear. clear_narrow statement_declares clear) h

pub declare_answer : (b : ℕ) (ts rest : List Token) (t : Token) (us : List Token) (v : Decl) (n top : ℕ) (after : List Token) → 0 < b → Declares ts rest → NotLabelled ts → ts ≡ t ∷ us → t.kind ≡ kind.Name →
    Found (one (g.declaration Free)) (continues_declaration Free) b ts v n after → top ≡ suc n → Found (one g.statement) continues_statement (suc b) ts (declare_node v) top after
declare_answer b ts rest t us v n top after some d none is k found high =
    let far = declaration_beyond Free b (Yes v n after) d some found in
    answer_is refl (omega (arith, high)) (leads_found one_deeper (omega arith) far (declare_leads b ts rest t us d none is k) (declaration_wide b ts (Yes v n after) found))

refused_limit : (b : ℕ) (ts rest : List Token) (e : Stop) → 0 < b → Declares ts rest → Exact (one (g.declaration Free)) (continues_declaration Free) b ts (refused e) → stop_limit e ≤ 2 * length rest
refused_limit b ts rest (stop.Syntax left) some d h = declaration_beyond Free b (refused (stop.Syntax left)) d some h
refused_limit b ts rest (stop.Deep left) some d h = declaration_beyond Free b (refused (stop.Deep left)) d some h
refused_limit b ts rest stop.Memory some d h = omega arith

pub declare_refused : (b : ℕ) (ts rest : List Token) (t : Token) (us : List Token) (e : Stop) → 0 < b → Declares ts rest → NotLabelled ts → ts ≡ t ∷ us → t.kind ≡ kind.Name → Exact (one (g.declaration Free)) (continues_declaration Free) b ts (refused e) →
    Exact (one g.statement) continues_statement (suc b) ts (refused e)
declare_refused b ts rest t us e some d none is k h = leads_refused e one_deeper (omega arith) (refused_limit b ts rest e some d h) (declare_leads b ts rest t us d none is k) (declaration_wide b ts (refused e) h)

-- an assignment or expressions
simple_by : {s' : List Sym} {ts' ts rest : List Token} → Undeclared ts rest → (t : Token) (us : List Token) → ts ≡ t ∷ us → t.kind ≡ kind.Name → (c : ℕ) (w : Stmt) (p : List Sym) → (rule : Rule (g.statement c w) p) → forms rule form.Named ≡ true →
    (s : List Sym) → Clear continues_statement s → Reach s' ts' (p ++ s) ts → size s' ts' ≤ 2 * length rest → Pending (λ n. n) (one (g.simple Start)) (λ v. v) 0 ts c w s s' ts'
simple_by d t us is n c w p (g.statement_declare {b = b} {at = at} {k = k}) q s clear r h = absurd (not_declared Free d b (decl at k) s r h)
simple_by d t us is n c w p g.statement_simple q s clear r h = record { at = c; value = w; bound = refl; whole = refl; deep = omega arith; reach = r }
simple_by d t us is n c w p (g.statement_labelled {b = b} {t = x} {c = k} {at = at} {s = l}) q s clear r h = absurd (undeclared_dead d (x ∷ []) k (g.labelled_ b at l ∷ s) (write _ names_one r) h)
simple_by d t us is n c w p _ q s clear r h = cc

pub simple_leads : (b : ℕ) (ts rest : List Token) (t : Token) (us : List Token) → Undeclared ts rest → ts ≡ t ∷ us → t.kind ≡ kind.Name → Leads (one g.statement) continues_statement (λ n. n) b ts (one (g.simple Start)) (λ v. v) 0 ts (2 * length rest)
simple_leads b ts rest t us d is n =
    let short = run_short d in
    leads_start b ts (one (g.simple Start)) (λ v. v) (2 * length rest) some_stmt same_depth (omega arith) (λ c u s. write _ g.statement_simple here)
    (λ c w s s' ts' clear r h.
    let z = behind_part tt r (omega (arith, h, short)) in
    simple_by d t us is n c w z.as_symbols z.rule (named_at ts t us is n z.rule s clear z.reach (omega (arith, h, short))) s clear z.reach h)

simple_wide : (b : ℕ) (ts : List Token) (r : Answer Stmt) → Exact (one (g.simple Start)) (continues_simple Start) b ts r → Exact (one (g.simple Start)) continues_statement b ts r
simple_wide b ts r h = wider_exact (one (g.simple Start)) b ts r (λ s clear. simple_clear clear) h

pub undeclared_answer : (b : ℕ) (ts rest : List Token) (t : Token) (us : List Token) (v : Stmt) (n : ℕ) (after : List Token) → 1 < b → Undeclared ts rest → ts ≡ t ∷ us → t.kind ≡ kind.Name →
    Found (one (g.simple Start)) (continues_simple Start) b ts v n after → Found (one g.statement) continues_statement b ts v n after
undeclared_answer b ts rest t us v n after some d is k found =
    let far = simple_beyond Start b (Yes v n after) d some found in
    answer_is refl (omega arith) (leads_found same_depth (omega arith) far (simple_leads b ts rest t us d is k) (simple_wide b ts (Yes v n after) found))

simple_limit : (b : ℕ) (ts rest : List Token) (e : Stop) → 1 < b → Undeclared ts rest → Exact (one (g.simple Start)) (continues_simple Start) b ts (refused e) → stop_limit e ≤ 2 * length rest
simple_limit b ts rest (stop.Syntax left) some d h = simple_beyond Start b (refused (stop.Syntax left)) d some h
simple_limit b ts rest (stop.Deep left) some d h = simple_beyond Start b (refused (stop.Deep left)) d some h
simple_limit b ts rest stop.Memory some d h = omega arith

pub undeclared_refused : (b : ℕ) (ts rest : List Token) (t : Token) (us : List Token) (e : Stop) → 1 < b → Undeclared ts rest → ts ≡ t ∷ us → t.kind ≡ kind.Name → Exact (one (g.simple Start)) (continues_simple Start) b ts (refused e) →
    Exact (one g.statement) continues_statement b ts (refused e)
undeclared_refused b ts rest t us e some d is k h = leads_refused e same_depth (omega arith) (simple_limit b ts rest e some d h) (simple_leads b ts rest t us d is k) (simple_wide b ts (refused e) h)
