-- Operators before an operand.
use Rattle.std.proofs.Common.{◌≡◌, ℕ, suc, ◌+◌, ◌*◌, ◌≤◌, true, List, ◌∷◌, ◌++◌, length, refl, sym, ◌∙◌, ap, subst, arith, Option, Some, None}
use Rattle.odc_syntax.specs.declared.token.Token.{Token}
use Rattle.odc_syntax.specs.declared.token.TokenKind.{TokenKind}
use Rattle.odc_syntax.specs.declared.token.TokenKind.TheVariants as kind
use Rattle.odc_syntax.specs.declared.grammar.Mode.{Mode}
use Rattle.odc_syntax.specs.declared.tree.UnaryOp.{UnaryOp}
use Rattle.odc_syntax.specs.Operators.{prefix_of}
use Rattle.odc_syntax.specs.Tree.{Expr, expr, Type_}
use Rattle.odc_syntax.specs.Tree as tree
use Rattle.odc_syntax.specs.Grammar.{Sym, tok, Rule, later, unary_one, unary_sign, unary_cast}
use Rattle.odc_syntax.specs.Grammar as g
use Rattle.odc_syntax.specs.Derives.{Reach}
use Rattle.odc_lookahead.specs.declared.unary.UnaryForm.TheVariants as form
use Rattle.odc_lookahead.specs.Exact.{size, Clear, Part, one, then_, done, token, Exact, Answer, Yes}
use Rattle.odc_lookahead.specs.Read.{sign_form, unary_form}
use Rattle.odc_lookahead.specs.Sets.{starts_operand, starts_suffix}
use Rattle.odc_lookahead.proofs.reading.Opening.{reach_opens}
use Rattle.odc_lookahead.proofs.reading.Leading.{one_deeper, Pending, Led, led_part, led_done}
use Rattle.odc_lookahead.proofs.reading.Samples as sample
use Rattle.odc_lookahead.proofs.reading.Answering.{led_start, led_same, token_read, part_refused, deep_start, at_start, bound_is, answer_is, clear_as}
use Rattle.odc_lookahead.specs.Exact.{Found, TooDeep}
use Rattle.odc_lookahead.specs.Read.{refused}
use Rattle.odc_lookahead.specs.declared.stop.Stop.{Stop}
use Rattle.odc_syntax.specs.declared.grammar.Mode.TheVariants.{Free, Header, Start}

pub operand_form : (o : Option UnaryOp) (k : TokenKind) → sign_form o k ≡ form.Operand → (o ≡ None) × (k ≡ kind.Cast → ⊥)
operand_form (Some op) k e = cc
operand_form None kind.Cast e = cc
operand_form None _ e = (refl, λ h. cc)

pub operator_form : (o : Option UnaryOp) (k : TokenKind) (op : UnaryOp) → sign_form o k ≡ form.Sign op → o ≡ Some op
operator_form (Some x) k op e = cc
operator_form None kind.Cast op e = cc
operator_form None _ op e = cc

pub cast_form : (o : Option UnaryOp) (k : TokenKind) → sign_form o k ≡ form.Cast → k ≡ kind.Cast
cast_form (Some x) k e = cc
cast_form None kind.Cast e = refl
cast_form None _ e = cc

operand_no_prefix : (m : Mode) (k : TokenKind) (op : UnaryOp) → starts_operand m k ≡ true → prefix_of k ≡ Some op → ⊥
operand_no_prefix m kind.Plus op h e = cc
operand_no_prefix m kind.Minus op h e = cc
operand_no_prefix m kind.Bang op h e = cc
operand_no_prefix m kind.Tilde op h e = cc
operand_no_prefix m kind.Ampersand op h e = cc
operand_no_prefix m _ op h e = cc

abbrev pub sign_line : Mode → TokenKind → Part (Token × (Expr × Unit {0}))
sign_line m k = then_ (token k) (then_ (g.unary (later m)) done)

abbrev pub sign_node : UnaryOp → Token × (Expr × Unit {0}) → Expr
sign_node op u = expr u.0.at u.0.at (tree.unary op u.1.0)

sign_split : (m : Mode) (t : Token) (us : List Token) (op : UnaryOp) → prefix_of t.kind ≡ Some op → (c : ℕ) (w : Expr) (p : List Sym) → Rule (g.unary m c w) p →
    (s s' : List Sym) (ts' : List Token) → Reach s' ts' (p ++ s) (t ∷ us) → size s' ts' ≤ 2 * length (t ∷ us) → Pending (λ n. suc n) (sign_line m t.kind) (sign_node op) 0 (t ∷ us) c w s s' ts'
unfolding then_ token done
sign_split m t us op e c w p unary_one s s' ts' r h = absurd (operand_no_prefix m t.kind op (reach_opens r h) e)
sign_split m t us op e c w p (unary_sign {b = b} {k = k} {t = u} {op = o} {e = x} f) s s' ts' r h =
    let is : t.kind ≡ k = reach_opens r h in
    let same : o ≡ op = cc in
    record {
      at = b;
      value = (u, (x, tt));
      bound = refl;
      whole = ap (λ (o : UnaryOp). expr u.at u.at (tree.unary o x)) same;
      deep = omega arith;
      reach = subst (λ (k : TokenKind). Reach s' ts' (tok k u ∷ g.unary (later m) b x ∷ s) (t ∷ us)) (sym is) r;
    }
sign_split m t us op e c w p unary_cast s s' ts' r h =
    let is : t.kind ≡ kind.Cast = reach_opens r h in
    let bad : prefix_of kind.Cast ≡ Some op = sym (ap prefix_of is) ∙ e in
    cc

pub sign_led : (m : Mode) (b : ℕ) (t : Token) (us : List Token) (op : UnaryOp) → prefix_of t.kind ≡ Some op →
    Led (one (g.unary m)) (starts_suffix m) (λ n. suc n) b (t ∷ us) (sign_line m t.kind) (sign_node op) 0 (t ∷ us)
unfolding then_ token done
sign_led m b t us op e = led_start b (sign_line m t.kind) (sign_node op) (t, (sample.expr, tt)) (λ c v. tt) (λ c u. unary_sign e) (λ c w p rule s s' ts' r h clear. sign_split m t us op e c w p rule s s' ts' r h)

operand_split : (m : Mode) (t : Token) (us : List Token) → prefix_of t.kind ≡ None → (t.kind ≡ kind.Cast → ⊥) → (c : ℕ) (w : Expr) (p : List Sym) → Rule (g.unary m c w) p →
    (s s' : List Sym) (ts' : List Token) → Reach s' ts' (p ++ s) (t ∷ us) → size s' ts' ≤ 2 * length (t ∷ us) → Pending (λ n. n) (one (g.postfix m)) (λ v. v) 0 (t ∷ us) c w s s' ts'
operand_split m t us e f c w p unary_one s s' ts' r h = record { at = c; value = w; bound = refl; whole = refl; deep = omega arith; reach = r }
operand_split m t us e f c w p (unary_sign {k = k} {op = op} q) s s' ts' r h =
    let is : t.kind ≡ k = reach_opens r h in
    let bad : None ≡ Some op = sym e ∙ ap prefix_of is ∙ q in
    cc
operand_split m t us e f c w p unary_cast s s' ts' r h = absurd (f (reach_opens r h))

pub operand_led : (m : Mode) (b : ℕ) (t : Token) (us : List Token) → unary_form t.kind ≡ form.Operand →
    Led (one (g.unary m)) (starts_suffix m) (λ n. n) b (t ∷ us) (one (g.postfix m)) (λ v. v) 0 (t ∷ us)
operand_led m b t us e =
    let f = operand_form (prefix_of t.kind) t.kind e in
    led_start b (one (g.postfix m)) (λ v. v) sample.expr (λ c v. tt) (λ c u. unary_one) (λ c w p rule s s' ts' r h clear. operand_split m t us f.0 f.1 c w p rule s s' ts' r h)

pub same_suffix : (m : Mode) → starts_suffix (later m) ≡ starts_suffix m
same_suffix Free = refl
same_suffix Header = refl
same_suffix Start = refl

abbrev SignLed : Mode → ℕ → List Token → Token → UnaryOp → List Token → Type 0
SignLed m b ts t op rest = Led (one (g.unary m)) (starts_suffix m) (λ n. suc n) b ts (sign_line m t.kind) (sign_node op) 0 rest

sign_at : (m : Mode) (b : ℕ) (ts : List Token) (t : Token) (us : List Token) (op : UnaryOp) → ts ≡ t ∷ us → unary_form t.kind ≡ form.Sign op → SignLed m b ts t op ts
sign_at m b ts t us op is e = subst (λ (l : List Token). SignLed m b l t op l) (sym is) (sign_led m b t us op (operator_form (prefix_of t.kind) t.kind op e))

pub sign_deep : (m : Mode) (d : ℕ) (ts : List Token) (t : Token) (us : List Token) (op : UnaryOp) → d ≡ 0 → ts ≡ t ∷ us → unary_form t.kind ≡ form.Sign op →
    TooDeep (one (g.unary m)) (starts_suffix m) d ts (length us)
sign_deep m d ts t us op z is e = deep_start t.kind (then_ (g.unary (later m)) done) d one_deeper (sign_at m 0 ts t us op is e) is refl (omega (arith, z)) (at_start (g.unary m) d ts sample.expr)

abbrev SignRead : Mode → ℕ → List Token → Token → UnaryOp → List Token → Type 0
SignRead m b ts t op us = Led (one (g.unary m)) (starts_suffix m) (λ n. suc n) b ts (then_ (g.unary (later m)) done) (λ u. sign_node op (t, u)) 0 us

sign_read : (m : Mode) (b : ℕ) (ts : List Token) (t : Token) (us : List Token) (op : UnaryOp) → ts ≡ t ∷ us → unary_form t.kind ≡ form.Sign op → SignRead m b ts t op us
sign_read m b ts t us op is e = token_read one_deeper (sign_at m b ts t us op is e) (omega arith) is refl

pub clears : (m : Mode) (c : ℕ) (u : Unit {0}) (s : List Sym) → Clear (starts_suffix m) s → Clear (starts_suffix (later m)) (done c u ++ s)
unfolding done
clears m c u s h = clear_as (same_suffix m) h

pub sign_found : (m m' : Mode) (d b : ℕ) (ts : List Token) (t : Token) (us : List Token) (op : UnaryOp) (v w : Expr) (n : ℕ) (rest : List Token) → m' ≡ later m → d ≡ suc b →
    ts ≡ t ∷ us → unary_form t.kind ≡ form.Sign op → Found (one (g.unary m')) (starts_suffix m') b us v n rest → w ≡ expr t.at t.at (tree.unary op v) →
    Found (one (g.unary m)) (starts_suffix m) d ts w (n + 1) rest
sign_found m m' d b ts t us op v w n rest f deeper is e found made =
    let at_later : Found (one (g.unary (later m))) (starts_suffix (later m)) b us v n rest = subst (λ (k : Mode). Found (one (g.unary k)) (starts_suffix k) b us v n rest) f found in
    bound_is (one (g.unary m)) (starts_suffix m) ts (Yes w (n + 1) rest) deeper
    (answer_is (sym made) (omega arith) (led_done one_deeper (led_part one_deeper (sign_read m b ts t us op is e) (omega arith) at_later (clears m))))

pub sign_refused : (m m' : Mode) (d b : ℕ) (ts : List Token) (t : Token) (us : List Token) (op : UnaryOp) (stop : Stop) → m' ≡ later m → d ≡ suc b →
    ts ≡ t ∷ us → unary_form t.kind ≡ form.Sign op → Exact (one (g.unary m')) (starts_suffix m') b us (refused stop) → Exact (one (g.unary m)) (starts_suffix m) d ts (refused stop)
sign_refused m m' d b ts t us op stop f deeper is e h =
    let at_later : Exact (one (g.unary (later m))) (starts_suffix (later m)) b us (refused stop) = subst (λ (k : Mode). Exact (one (g.unary k)) (starts_suffix k) b us (refused stop)) f h in
    bound_is (one (g.unary m)) (starts_suffix m) ts (refused stop) deeper
    (part_refused (g.unary (later m)) (starts_suffix (later m)) done stop one_deeper (sign_read m b ts t us op is e) (omega arith) at_later (clears m))

pub operand_same : (m : Mode) (b : ℕ) (ts : List Token) (t : Token) (us : List Token) (r : Answer Expr) → ts ≡ t ∷ us → unary_form t.kind ≡ form.Operand →
    Exact (one (g.postfix m)) (starts_suffix m) b ts r → Exact (one (g.unary m)) (starts_suffix m) b ts r
operand_same m b ts t us r is e h =
    led_same (subst (λ (l : List Token). Led (one (g.unary m)) (starts_suffix m) (λ n. n) b l (one (g.postfix m)) (λ v. v) 0 l) (sym is) (operand_led m b t us e)) r h
