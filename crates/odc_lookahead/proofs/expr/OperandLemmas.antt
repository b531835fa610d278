-- Operands, production by production.
use Rattle.std.proofs.Common.{◌≡◌, ℕ, suc, ◌*◌, ◌≤◌, false, List, [], ◌∷◌, ◌++◌, length, refl, sym, ◌∙◌, ap, arith}
use Rattle.odc_syntax.specs.declared.token.Token.{Token}
use Rattle.odc_syntax.specs.declared.token.TokenKind.{TokenKind}
use Rattle.odc_syntax.specs.declared.token.TokenKind.TheVariants as kind
use Rattle.odc_syntax.specs.declared.token.Word.{Word}
use Rattle.odc_syntax.specs.declared.token.Word.TheVariants as word
use Rattle.odc_syntax.specs.declared.grammar.Mode.{Mode}
use Rattle.odc_syntax.specs.declared.grammar.Mode.TheVariants.{Free}
use Rattle.odc_syntax.specs.declared.grammar.Use.{Use}
use Rattle.odc_syntax.specs.Tree.{Expr, expr, Args, Type_}
use Rattle.odc_syntax.specs.Tree as tree
use Rattle.odc_syntax.specs.Grammar.{Sym, tok, said, Rule, operand}
use Rattle.odc_syntax.specs.Grammar as g
use Rattle.odc_syntax.specs.Derives.{Reach, here, read, read_said, write}
use Rattle.odc_lookahead.specs.declared.operand.OperandForm.{OperandForm}
use Rattle.odc_lookahead.specs.declared.operand.OperandForm.TheVariants as form
use Rattle.odc_lookahead.specs.Exact.{size, Part, one, then_, done, token, Found}
use Rattle.odc_lookahead.specs.Forms.{form_by, operand_form}
use Rattle.odc_lookahead.specs.Sets.{nothing_continues, is_parameter}
use Rattle.odc_lookahead.proofs.reading.Opening.{reach_opens, not_parameter}
use Rattle.odc_lookahead.proofs.reading.Reaching.{behind_token, behind_said, behind_part}
use Rattle.odc_lookahead.proofs.reading.Leading.{one_deeper, Pending, Led, led_done, first_is, at_rest}
use Rattle.odc_lookahead.proofs.reading.Answering.{led_at, led_start}
use Rattle.odc_lookahead.specs.Parts.{arguments}
use Rattle.odc_lookahead.proofs.reading.Samples as sample

abbrev pub rule_form : {m : Mode} {c : ℕ} {w : Expr} {p : List Sym} → Rule (operand m c w) p → OperandForm
rule_form g.operand_name = form.Name
rule_form g.operand_int = form.Int
rule_form g.operand_rune = form.Rune
rule_form g.operand_text = form.Text
rule_form g.operand_context = form.Context
rule_form g.operand_location = form.Location
rule_form g.operand_dot = form.Dot
rule_form g.operand_literal = form.Literal
rule_form g.operand_group = form.Group
rule_form g.operand_type = form.Type
rule_form g.operand_proc_type = form.Proc
rule_form g.operand_proc = form.Proc

-- what a token that must say a word says
says : {s' : List Sym} {ts' : List Token} {k : TokenKind} {x : Word} {u t : Token} {s : List Sym} {us : List Token} → Reach s' ts' (said k x u ∷ s) (t ∷ us) → size s' ts' ≤ 2 * length (t ∷ us) → t.word ≡ x
says r h = let z = behind_said r h in ap (λ (t : Token). t.word) (sym (first_is z.1.is)) ∙ z.0

constructed_form : (m : Mode) {u : Use} {c : ℕ} {ty : Type_} {p : List Sym} → is_parameter u ≡ false → Rule (g.constructed u c ty) p → (s s' : List Sym) (ts' : List Token) (t : Token) (us : List Token) → Reach s' ts' (p ++ s) (t ∷ us) →
    size s' ts' ≤ 2 * length (t ∷ us) → form_by m t.kind t.word ≡ form.Type
constructed_form m e g.type_pointer s s' ts' t us r h = ap (λ (k : TokenKind). form_by m k t.word) (reach_opens r h)
constructed_form m e g.type_distinct s s' ts' t us r h = ap (λ (k : TokenKind). form_by m k t.word) (reach_opens r h)
constructed_form m e g.type_word_proc s s' ts' t us r h = let k : t.kind ≡ kind.Directive = reach_opens r h in let w = says r h in λ i. form_by m (k i) (w i)
constructed_form m e g.type_array s s' ts' t us r h = ap (λ (k : TokenKind). form_by m k t.word) (reach_opens r h)
constructed_form m e g.type_counted s s' ts' t us r h = ap (λ (k : TokenKind). form_by m k t.word) (reach_opens r h)
constructed_form m e g.type_soa s s' ts' t us r h = let k : t.kind ≡ kind.Directive = reach_opens r h in let w = says r h in λ i. form_by m (k i) (w i)
constructed_form m e g.type_soa_counted s s' ts' t us r h = let k : t.kind ≡ kind.Directive = reach_opens r h in let w = says r h in λ i. form_by m (k i) (w i)
constructed_form m e g.type_struct s s' ts' t us r h = ap (λ (k : TokenKind). form_by m k t.word) (reach_opens r h)
constructed_form m e g.type_union s s' ts' t us r h = ap (λ (k : TokenKind). form_by m k t.word) (reach_opens r h)
constructed_form m e g.type_enum s s' ts' t us r h = ap (λ (k : TokenKind). form_by m k t.word) (reach_opens r h)
constructed_form m e g.type_dollar s s' ts' t us r h = cc

-- the first token tells the production
pub operand_first : {m : Mode} {c : ℕ} {w : Expr} {p : List Sym} (rule : Rule (operand m c w) p) (s s' : List Sym) (ts' : List Token) (t : Token) (us : List Token) → Reach s' ts' (p ++ s) (t ∷ us) →
    size s' ts' ≤ 2 * length (t ∷ us) → operand_form m t ≡ rule_form rule
operand_first (g.operand_name {m = m}) s s' ts' t us r h = ap (λ (k : TokenKind). form_by m k t.word) (reach_opens r h)
operand_first (g.operand_int {m = m}) s s' ts' t us r h = ap (λ (k : TokenKind). form_by m k t.word) (reach_opens r h)
operand_first (g.operand_rune {m = m}) s s' ts' t us r h = ap (λ (k : TokenKind). form_by m k t.word) (reach_opens r h)
operand_first (g.operand_text {m = m}) s s' ts' t us r h = ap (λ (k : TokenKind). form_by m k t.word) (reach_opens r h)
operand_first (g.operand_context {m = m}) s s' ts' t us r h = ap (λ (k : TokenKind). form_by m k t.word) (reach_opens r h)
operand_first (g.operand_location {m = m}) s s' ts' t us r h = let k : t.kind ≡ kind.Directive = reach_opens r h in let w = says r h in λ i. form_by m (k i) (w i)
operand_first (g.operand_dot {m = m}) s s' ts' t us r h = ap (λ (k : TokenKind). form_by m k t.word) (reach_opens r h)
operand_first g.operand_literal s s' ts' t us r h = ap (λ (k : TokenKind). form_by Free k t.word) (reach_opens r h)
operand_first (g.operand_group {m = m}) s s' ts' t us r h = ap (λ (k : TokenKind). form_by m k t.word) (reach_opens r h)
operand_first (g.operand_type {m = m}) s s' ts' t us r h = let z = behind_part tt r h in constructed_form m (not_parameter m) z.rule s s' ts' t us z.reach h
operand_first (g.operand_proc_type {m = m}) s s' ts' t us r h = ap (λ (k : TokenKind). form_by m k t.word) (reach_opens r h)
operand_first (g.operand_proc {m = m}) s s' ts' t us r h = ap (λ (k : TokenKind). form_by m k t.word) (reach_opens r h)

-- a name
name_split : (m : Mode) (t : Token) (us : List Token) → operand_form m t ≡ form.Name → (c : ℕ) (w : Expr) (p : List Sym) (rule : Rule (operand m c w) p) → operand_form m t ≡ rule_form rule →
    (s s' : List Sym) (ts' : List Token) → Reach s' ts' (p ++ s) (t ∷ us) → size s' ts' ≤ 2 * length us → Pending (λ n. suc n) done (λ u. expr t.at t.at (tree.name t)) 0 us c w s s' ts'
unfolding done
name_split m t us e c w p (g.operand_name {b = b}) f s s' ts' r h =
    let z = behind_token r (omega (arith, h)) in
    record { at = b; value = tt; bound = refl; whole = ap (λ (t : Token). expr t.at t.at (tree.name t)) (first_is z.is); deep = omega arith; reach = at_rest z }
name_split m t us e c w p _ f s s' ts' r h = cc

pub name_found : (m : Mode) (b : ℕ) (t : Token) (us : List Token) → t.kind ≡ kind.Name → Found (one (operand m)) nothing_continues (suc b) (t ∷ us) (expr t.at t.at (tree.name t)) 1 us
unfolding done
name_found m b t us e =
    let f : operand_form m t ≡ form.Name = ap (λ (k : TokenKind). form_by m k t.word) e in
    led_done one_deeper (led_at b us done (λ u. expr t.at t.at (tree.name t)) tt (omega arith) one_deeper (λ c v. tt) (λ c u s. write _ g.operand_name (read e here))
    (λ c w p rule s s' ts' r h clear. name_split m t us f c w p rule (operand_first rule s s' ts' t us r (omega (arith, h))) s s' ts' r h))

-- an expression in parentheses
abbrev pub group_line : Part (Expr × (Token × Unit {0}))
group_line = then_ (g.expression Free) (then_ (token kind.CloseParen) done)

group_split : (m : Mode) (t : Token) (us : List Token) → operand_form m t ≡ form.Group → (c : ℕ) (w : Expr) (p : List Sym) (rule : Rule (operand m c w) p) → operand_form m t ≡ rule_form rule →
    (s s' : List Sym) (ts' : List Token) → Reach s' ts' (p ++ s) (t ∷ us) → size s' ts' ≤ 2 * length us → Pending (λ n. suc n) group_line (λ u. g.opened t.at u.0) 0 us c w s s' ts'
unfolding then_ token done
group_split m t us e c w p (g.operand_group {b = b} {c = k} {e = x}) f s s' ts' r h =
    let z = behind_token r (omega (arith, h)) in
    record { at = b; value = (x, (k, tt)); bound = refl; whole = ap (λ (t : Token). g.opened t.at x) (first_is z.is); deep = omega arith; reach = at_rest z }
group_split m t us e c w p _ f s s' ts' r h = cc

pub group_led : (m : Mode) (b : ℕ) (t : Token) (us : List Token) → t.kind ≡ kind.OpenParen → Led (one (operand m)) nothing_continues (λ n. suc n) b (t ∷ us) group_line (λ u. g.opened t.at u.0) 0 us
unfolding then_ token done
group_led m b t us e =
    let f : operand_form m t ≡ form.Group = ap (λ (k : TokenKind). form_by m k t.word) e in
    led_at b us group_line (λ u. g.opened t.at u.0) (sample.expr, (sample.token, tt)) (omega arith) one_deeper (λ c v. tt) (λ c u s. write _ (g.operand_group {c = u.1.0}) (read e here))
    (λ c w p rule s s' ts' r h clear. group_split m t us f c w p rule (operand_first rule s s' ts' t us r (omega (arith, h))) s s' ts' r h)

-- a literal
leaf_found : (m : Mode) (b : ℕ) (t : Token) (us : List Token) (f : OperandForm) (node : Token → Expr) → ((c : ℕ) (s : List Sym) → Reach s us (operand m (suc c) (node t) ∷ s) (t ∷ us)) →
    ((c : ℕ) (w : Expr) (p : List Sym) (rule : Rule (operand m c w) p) → operand_form m t ≡ rule_form rule → (s s' : List Sym) (ts' : List Token) → Reach s' ts' (p ++ s) (t ∷ us) → size s' ts' ≤ 2 * length us →
    Pending (λ n. suc n) done (λ u. node t) 0 us c w s s' ts') →
    Found (one (operand m)) nothing_continues (suc b) (t ∷ us) (node t) 1 us
unfolding done
leaf_found m b t us f node into split =
    led_done one_deeper (led_at b us done (λ u. node t) tt (omega arith) one_deeper (λ c v. tt) (λ c u s. into c s)
    (λ c w p rule s s' ts' r h clear. split c w p rule (operand_first rule s s' ts' t us r (omega (arith, h))) s s' ts' r h))

int_split : (m : Mode) (t : Token) (us : List Token) → operand_form m t ≡ form.Int → (c : ℕ) (w : Expr) (p : List Sym) (rule : Rule (operand m c w) p) → operand_form m t ≡ rule_form rule →
    (s s' : List Sym) (ts' : List Token) → Reach s' ts' (p ++ s) (t ∷ us) → size s' ts' ≤ 2 * length us → Pending (λ n. suc n) done (λ u. expr t.at t.at (tree.int t)) 0 us c w s s' ts'
unfolding done
int_split m t us e c w p (g.operand_int {b = b}) f s s' ts' r h =
    let z = behind_token r (omega (arith, h)) in
    record { at = b; value = tt; bound = refl; whole = ap (λ (t : Token). expr t.at t.at (tree.int t)) (first_is z.is); deep = omega arith; reach = at_rest z }
int_split m t us e c w p _ f s s' ts' r h = cc

pub int_found : (m : Mode) (b : ℕ) (t : Token) (us : List Token) → t.kind ≡ kind.Int → Found (one (operand m)) nothing_continues (suc b) (t ∷ us) (expr t.at t.at (tree.int t)) 1 us
int_found m b t us e = leaf_found m b t us form.Int (λ t. expr t.at t.at (tree.int t)) (λ c s. write _ g.operand_int (read e here)) (int_split m t us (ap (λ (k : TokenKind). form_by m k t.word) e))

rune_split : (m : Mode) (t : Token) (us : List Token) → operand_form m t ≡ form.Rune → (c : ℕ) (w : Expr) (p : List Sym) (rule : Rule (operand m c w) p) → operand_form m t ≡ rule_form rule →
    (s s' : List Sym) (ts' : List Token) → Reach s' ts' (p ++ s) (t ∷ us) → size s' ts' ≤ 2 * length us → Pending (λ n. suc n) done (λ u. expr t.at t.at (tree.rune t)) 0 us c w s s' ts'
unfolding done
rune_split m t us e c w p (g.operand_rune {b = b}) f s s' ts' r h =
    let z = behind_token r (omega (arith, h)) in
    record { at = b; value = tt; bound = refl; whole = ap (λ (t : Token). expr t.at t.at (tree.rune t)) (first_is z.is); deep = omega arith; reach = at_rest z }
rune_split m t us e c w p _ f s s' ts' r h = cc

pub rune_found : (m : Mode) (b : ℕ) (t : Token) (us : List Token) → t.kind ≡ kind.Rune → Found (one (operand m)) nothing_continues (suc b) (t ∷ us) (expr t.at t.at (tree.rune t)) 1 us
rune_found m b t us e = leaf_found m b t us form.Rune (λ t. expr t.at t.at (tree.rune t)) (λ c s. write _ g.operand_rune (read e here)) (rune_split m t us (ap (λ (k : TokenKind). form_by m k t.word) e))

text_split : (m : Mode) (t : Token) (us : List Token) → operand_form m t ≡ form.Text → (c : ℕ) (w : Expr) (p : List Sym) (rule : Rule (operand m c w) p) → operand_form m t ≡ rule_form rule →
    (s s' : List Sym) (ts' : List Token) → Reach s' ts' (p ++ s) (t ∷ us) → size s' ts' ≤ 2 * length us → Pending (λ n. suc n) done (λ u. expr t.at t.at (tree.text t)) 0 us c w s s' ts'
unfolding done
text_split m t us e c w p (g.operand_text {b = b}) f s s' ts' r h =
    let z = behind_token r (omega (arith, h)) in
    record { at = b; value = tt; bound = refl; whole = ap (λ (t : Token). expr t.at t.at (tree.text t)) (first_is z.is); deep = omega arith; reach = at_rest z }
text_split m t us e c w p _ f s s' ts' r h = cc

pub text_found : (m : Mode) (b : ℕ) (t : Token) (us : List Token) → t.kind ≡ kind.Text → Found (one (operand m)) nothing_continues (suc b) (t ∷ us) (expr t.at t.at (tree.text t)) 1 us
text_found m b t us e = leaf_found m b t us form.Text (λ t. expr t.at t.at (tree.text t)) (λ c s. write _ g.operand_text (read e here)) (text_split m t us (ap (λ (k : TokenKind). form_by m k t.word) e))

context_split : (m : Mode) (t : Token) (us : List Token) → operand_form m t ≡ form.Context → (c : ℕ) (w : Expr) (p : List Sym) (rule : Rule (operand m c w) p) → operand_form m t ≡ rule_form rule →
    (s s' : List Sym) (ts' : List Token) → Reach s' ts' (p ++ s) (t ∷ us) → size s' ts' ≤ 2 * length us → Pending (λ n. suc n) done (λ u. expr t.at t.at tree.context) 0 us c w s s' ts'
unfolding done
context_split m t us e c w p (g.operand_context {b = b}) f s s' ts' r h =
    let z = behind_token r (omega (arith, h)) in
    record { at = b; value = tt; bound = refl; whole = ap (λ (t : Token). expr t.at t.at tree.context) (first_is z.is); deep = omega arith; reach = at_rest z }
context_split m t us e c w p _ f s s' ts' r h = cc

pub context_found : (m : Mode) (b : ℕ) (t : Token) (us : List Token) → t.kind ≡ kind.Context → Found (one (operand m)) nothing_continues (suc b) (t ∷ us) (expr t.at t.at tree.context) 1 us
context_found m b t us e = leaf_found m b t us form.Context (λ t. expr t.at t.at tree.context) (λ c s. write _ g.operand_context (read e here)) (context_split m t us (ap (λ (k : TokenKind). form_by m k t.word) e))

-- `{..}` of the type that is wanted
literal_split : (t : Token) (us : List Token) → operand_form Free t ≡ form.Literal → (c : ℕ) (w : Expr) (p : List Sym) (rule : Rule (operand Free c w) p) → operand_form Free t ≡ rule_form rule →
    (s s' : List Sym) (ts' : List Token) → Reach s' ts' (p ++ s) (t ∷ us) → size s' ts' ≤ 2 * length us → Pending (λ n. suc n) (arguments kind.CloseBrace) (λ u. expr t.at t.at (tree.literal tree.no_expr u.0)) 0 us c w s s' ts'
unfolding then_ token done
literal_split t us e c w p (g.operand_literal {b = b} {c = k} {xs = xs}) f s s' ts' r h =
    let z = behind_token r (omega (arith, h)) in
    record { at = b; value = (xs, (k, tt)); bound = refl; whole = ap (λ (t : Token). expr t.at t.at (tree.literal tree.no_expr xs)) (first_is z.is); deep = omega arith; reach = at_rest z }
literal_split t us e c w p _ f s s' ts' r h = cc

pub literal_led : (b : ℕ) (t : Token) (us : List Token) → t.kind ≡ kind.OpenBrace → Led (one (operand Free)) nothing_continues (λ n. suc n) b (t ∷ us) (arguments kind.CloseBrace) (λ u. expr t.at t.at (tree.literal tree.no_expr u.0)) 0 us
unfolding then_ token done
literal_led b t us e =
    let f : operand_form Free t ≡ form.Literal = ap (λ (k : TokenKind). form_by Free k t.word) e in
    led_at b us (arguments kind.CloseBrace) (λ u. expr t.at t.at (tree.literal tree.no_expr u.0)) (tree.no_args, (sample.token, tt)) (omega arith) one_deeper (λ c v. tt) (λ c u s. write _ (g.operand_literal {c = u.1.0}) (read e here))
    (λ c w p rule s s' ts' r h clear. literal_split t us f c w p rule (operand_first rule s s' ts' t us r (omega (arith, h))) s s' ts' r h)

-- a type
abbrev pub type_operand : Type_ → Expr
type_operand (tree.type at k) = expr at at (tree.type_tree (tree.type at k))

type_write : (m : Mode) (c : ℕ) (ty : Type_) → Rule (operand m (suc c) (type_operand ty)) (g.constructed (g.operand_use m) c ty ∷ [])
type_write m c (tree.type at k) = g.operand_type

type_split : (m : Mode) (t : Token) (us : List Token) → operand_form m t ≡ form.Type → (c : ℕ) (w : Expr) (p : List Sym) (rule : Rule (operand m c w) p) → operand_form m t ≡ rule_form rule →
    (s s' : List Sym) (ts' : List Token) → Reach s' ts' (p ++ s) (t ∷ us) → Pending (λ n. suc n) (one (g.constructed (g.operand_use m))) type_operand 0 (t ∷ us) c w s s' ts'
type_split m t us e c w p (g.operand_type {b = b} {at = at} {k = k}) f s s' ts' r = record { at = b; value = tree.type at k; bound = refl; whole = refl; deep = omega arith; reach = r }
type_split m t us e c w p _ f s s' ts' r = cc

pub type_led : (m : Mode) (b : ℕ) (t : Token) (us : List Token) → operand_form m t ≡ form.Type → Led (one (operand m)) nothing_continues (λ n. suc n) b (t ∷ us) (one (g.constructed (g.operand_use m))) type_operand 0 (t ∷ us)
type_led m b t us e =
    led_start b (one (g.constructed (g.operand_use m))) type_operand sample.type (λ c v. tt) (λ c u. type_write m c u)
    (λ c w p rule s s' ts' r h clear. type_split m t us e c w p rule (operand_first rule s s' ts' t us r h) s s' ts' r)

-- `.A`
dot_split : (m : Mode) (t n : Token) (us : List Token) → operand_form m t ≡ form.Dot → (c : ℕ) (w : Expr) (p : List Sym) (rule : Rule (operand m c w) p) → operand_form m t ≡ rule_form rule →
    (s s' : List Sym) (ts' : List Token) → Reach s' ts' (p ++ s) (t ∷ n ∷ us) → size s' ts' ≤ 2 * length us → Pending (λ n. suc n) done (λ u. expr t.at t.at (tree.dot n)) 0 us c w s s' ts'
unfolding done
dot_split m t n us e c w p (g.operand_dot {b = b}) f s s' ts' r h =
    let z = behind_token r (omega (arith, h)) in
    let y = behind_token (at_rest z) (omega (arith, h)) in
    record { at = b; value = tt; bound = refl; whole = λ i. expr ((first_is z.is) i).at ((first_is z.is) i).at (tree.dot ((first_is y.is) i)); deep = omega arith; reach = at_rest y }
dot_split m t n us e c w p _ f s s' ts' r h = cc

pub dot_found : (m : Mode) (b : ℕ) (t n : Token) (us : List Token) → t.kind ≡ kind.Dot → n.kind ≡ kind.Name → Found (one (operand m)) nothing_continues (suc b) (t ∷ n ∷ us) (expr t.at t.at (tree.dot n)) 1 us
unfolding done
dot_found m b t n us e f =
    let at_dot : operand_form m t ≡ form.Dot = ap (λ (k : TokenKind). form_by m k t.word) e in
    led_done one_deeper (led_at b us done (λ u. expr t.at t.at (tree.dot n)) tt (omega arith) one_deeper (λ c v. tt) (λ c u s. write _ g.operand_dot (read e (read f here)))
    (λ c w p rule s s' ts' r h clear. dot_split m t n us at_dot c w p rule (operand_first rule s s' ts' t (n ∷ us) r (omega (arith, h))) s s' ts' r h))

-- `#caller_location`
location_split : (m : Mode) (t : Token) (us : List Token) → operand_form m t ≡ form.Location → (c : ℕ) (w : Expr) (p : List Sym) (rule : Rule (operand m c w) p) → operand_form m t ≡ rule_form rule →
    (s s' : List Sym) (ts' : List Token) → Reach s' ts' (p ++ s) (t ∷ us) → size s' ts' ≤ 2 * length us → Pending (λ n. suc n) done (λ u. expr t.at t.at tree.location) 0 us c w s s' ts'
unfolding done
location_split m t us e c w p (g.operand_location {b = b}) f s s' ts' r h =
    let z = (behind_said r (omega (arith, h))).1 in
    record { at = b; value = tt; bound = refl; whole = ap (λ (t : Token). expr t.at t.at tree.location) (first_is z.is); deep = omega arith; reach = at_rest z }
location_split m t us e c w p _ f s s' ts' r h = cc

pub location_found : (m : Mode) (b : ℕ) (t : Token) (us : List Token) → t.kind ≡ kind.Directive → t.word ≡ word.CallerLocation →
    Found (one (operand m)) nothing_continues (suc b) (t ∷ us) (expr t.at t.at tree.location) 1 us
location_found m b t us e f =
    leaf_found m b t us form.Location (λ t. expr t.at t.at tree.location) (λ c s. write _ g.operand_location (read_said e f here)) (location_split m t us (λ i. form_by m (e i) (f i)))
