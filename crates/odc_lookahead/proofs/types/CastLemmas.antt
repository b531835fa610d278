-- Conversions by `cast`.
use Rattle.std.proofs.Common.{◌≡◌, ℕ, suc, ◌*◌, ◌<◌, ◌≤◌, max, Bool, true, false, List, ◌∷◌, ◌++◌, length, refl, sym, ◌∙◌, ap, subst, arith, Some}
use Rattle.odc_syntax.specs.declared.token.Token.{Token}
use Rattle.odc_syntax.specs.declared.token.TokenKind.{TokenKind}
use Rattle.odc_syntax.specs.declared.token.TokenKind.TheVariants as kind
use Rattle.odc_syntax.specs.declared.grammar.Mode.{Mode}
use Rattle.odc_syntax.specs.declared.grammar.Use.TheVariants.{Plain}
use Rattle.odc_syntax.specs.Operators.{prefix_of}
use Rattle.odc_syntax.specs.Tree.{Expr, expr, Type_}
use Rattle.odc_syntax.specs.Tree as tree
use Rattle.odc_syntax.specs.Grammar.{Sym, Rule, later, unary_one, unary_sign, unary_cast}
use Rattle.odc_syntax.specs.Grammar as g
use Rattle.odc_syntax.specs.Derives.{Reach, here, read, write}
use Rattle.odc_lookahead.specs.declared.stop.Stop.{Stop}
use Rattle.odc_lookahead.specs.declared.unary.UnaryForm.TheVariants as form
use Rattle.odc_lookahead.specs.Exact.{size, Part, one, then_, done, token, Exact, Found, TooDeep}
use Rattle.odc_lookahead.specs.Read.{refused, NotExpected, unary_form}
use Rattle.odc_lookahead.specs.Sets.{starts_operand, starts_suffix, nothing_continues}
use Rattle.odc_lookahead.proofs.reading.Opening.{reach_opens}
use Rattle.odc_lookahead.proofs.reading.Reaching.{behind_token}
use Rattle.odc_lookahead.proofs.reading.Leading.{one_deeper, Pending, Led, led_part, led_done, first_is, at_rest}
use Rattle.odc_lookahead.proofs.reading.Answering.{led_at, part_refused, token_refused, token_read, answer_is, at_start}
use Rattle.odc_lookahead.proofs.expr.SuffixAnswers.{nothing_clear}
use Rattle.odc_lookahead.proofs.expr.UnaryLemmas.{cast_form, clears}
use Rattle.odc_lookahead.proofs.expr.WholeLemmas.{costs_unary}
use Rattle.odc_lookahead.proofs.reading.Samples as sample
use Rattle.odc_lookahead.specs.declared.tokens.Fit.{Fit}
use Rattle.odc_lookahead.specs.declared.tokens.Fit.TheVariants as fit

abbrev operand_line : Mode → Part (Expr × Unit {0})
operand_line m = then_ (g.unary (later m)) done

abbrev type_line : Mode → Part (Type_ × (Token × (Expr × Unit {0})))
type_line m = then_ (g.type_ Plain) (then_ (token kind.CloseParen) (operand_line m))

abbrev cast_line : Mode → Part (Token × (Type_ × (Token × (Expr × Unit {0}))))
cast_line m = then_ (token kind.OpenParen) (type_line m)

abbrev cast_node : Token → Token × (Type_ × (Token × (Expr × Unit {0}))) → Expr
cast_node t u = expr t.at t.at (tree.cast u.1.0 u.1.1.1.0)

cast_split : (m : Mode) (t : Token) (us : List Token) → t.kind ≡ kind.Cast → (c : ℕ) (w : Expr) (p : List Sym) → Rule (g.unary m c w) p → (s s' : List Sym) (ts' : List Token) → Reach s' ts' (p ++ s) (t ∷ us) →
    size s' ts' ≤ 2 * length us → Pending (λ n. suc n) (cast_line m) (cast_node t) 0 us c w s s' ts'
unfolding then_ token done
cast_split m t us e c w p unary_one s s' ts' r h =
    let opens = reach_opens r (omega (arith, h)) in
    let bad : false ≡ true = sym (ap (starts_operand m) e) ∙ opens in
    cc
cast_split m t us e c w p (unary_sign {k = k} {op = op} f) s s' ts' r h =
    let is : t.kind ≡ k = reach_opens r (omega (arith, h)) in
    let bad : prefix_of kind.Cast ≡ Some op = ap prefix_of (sym e ∙ is) ∙ f in
    cc
cast_split m t us e c w p (unary_cast {b = b} {o = o} {c = k} {ty = ty} {e = x}) s s' ts' r h =
    let z = behind_token r (omega (arith, h)) in
    record { at = b; value = (o, (ty, (k, (x, tt)))); bound = refl; whole = ap (λ (t : Token). expr t.at t.at (tree.cast ty x)) (first_is z.is); deep = omega arith; reach = at_rest z }

cast_led : (m : Mode) (b : ℕ) (t : Token) (us : List Token) → t.kind ≡ kind.Cast → Led (one (g.unary m)) (starts_suffix m) (λ n. suc n) b (t ∷ us) (cast_line m) (cast_node t) 0 us
unfolding then_ token done
cast_led m b t us e =
    led_at b us (cast_line m) (cast_node t) (sample.token, (sample.type, (sample.token, (sample.expr, tt)))) (omega arith) one_deeper (λ c v. tt) (λ c u s. write _ (unary_cast {o = u.0} {c = u.1.1.0}) (read e here))
    (λ c w p rule s s' ts' r h clear. cast_split m t us e c w p rule s s' ts' r h)

pub cast_kind : (k : TokenKind) → unary_form k ≡ form.Cast → k ≡ kind.Cast
cast_kind k e = cast_form (prefix_of k) k e

pub cast_deep : (m : Mode) (d : ℕ) (t : Token) (ts us : List Token) → d ≡ 0 → ts ≡ t ∷ us → unary_form t.kind ≡ form.Cast → TooDeep (one (g.unary m)) (starts_suffix m) d ts (length us)
cast_deep m d t ts us zero' is e =
    subst (λ (k : ℕ). TooDeep (one (g.unary m)) (starts_suffix m) k ts (length us)) (sym zero') (subst (λ (l : List Token). TooDeep (one (g.unary m)) (starts_suffix m) 0 l (length us)) (sym is) (record {
      short = omega arith;
      comes = at_start (g.unary m) 0 (t ∷ us) sample.expr;
      deep = λ c w s s' ts' clear r h. costs_unary m c w s s' (t ∷ us) ts' r (omega (arith, h));
      depth = 1;
      deeper = (cast_led m 0 t us (cast_kind t.kind e)).comes;
    }))

-- `(`
pub cast_unopened : (m : Mode) (b : ℕ) (t : Token) (us : List Token) (stop : Stop) → t.kind ≡ kind.Cast → NotExpected kind.OpenParen fit.Within us stop → Exact (one (g.unary m)) (starts_suffix m) (suc b) (t ∷ us) (refused stop)
cast_unopened m b t us stop e h = token_refused kind.OpenParen (type_line m) stop fit.Within one_deeper (cast_led m b t us e) (λ bad. cc) h

cast_opened : (m : Mode) (b : ℕ) (t o : Token) (us inner : List Token) → t.kind ≡ kind.Cast → us ≡ o ∷ inner → o.kind ≡ kind.OpenParen →
    Led (one (g.unary m)) (starts_suffix m) (λ n. suc n) b (t ∷ us) (type_line m) (λ u. cast_node t (o, u)) 0 inner
cast_opened m b t o us inner e is k = token_read one_deeper (cast_led m b t us e) (omega arith) is k

pub cast_type_refused : (m : Mode) (b : ℕ) (t o : Token) (us inner : List Token) (stop : Stop) → t.kind ≡ kind.Cast → us ≡ o ∷ inner → o.kind ≡ kind.OpenParen → Exact (one (g.type_ Plain)) nothing_continues b inner (refused stop) →
    Exact (one (g.unary m)) (starts_suffix m) (suc b) (t ∷ us) (refused stop)
cast_type_refused m b t o us inner stop e is k h =
    part_refused (g.type_ Plain) nothing_continues (then_ (token kind.CloseParen) (operand_line m)) stop one_deeper (cast_opened m b t o us inner e is k) (omega arith) h
    (λ c u s clear. nothing_clear (then_ (token kind.CloseParen) (operand_line m) c u ++ s))

-- `cast(T` is read
pub record Converts (b : ℕ) (us : List Token) (ty : Type_) (n : ℕ) (after : List Token) : Type 0 where
  pub open_ : Token
  pub inner : List Token
  pub is : us ≡ open_ ∷ inner
  pub kind : open_.kind ≡ kind.OpenParen
  pub found : Found (one (g.type_ Plain)) nothing_continues b inner ty n after

cast_typed : (m : Mode) (b : ℕ) (t : Token) (us : List Token) (ty : Type_) (n : ℕ) (after : List Token) → t.kind ≡ kind.Cast → (z : Converts b us ty n after) →
    Led (one (g.unary m)) (starts_suffix m) (λ n. suc n) b (t ∷ us) (then_ (token kind.CloseParen) (operand_line m)) (λ u. cast_node t (z.open_, (ty, u))) (max 0 n) after
cast_typed m b t us ty n after e z =
    led_part one_deeper (cast_opened m b t z.open_ us z.inner e z.is z.kind) (omega arith) z.found (λ c u s clear. nothing_clear (then_ (token kind.CloseParen) (operand_line m) c u ++ s))

pub cast_unclosed : (m : Mode) (b : ℕ) (t : Token) (us : List Token) (ty : Type_) (n : ℕ) (after : List Token) (stop : Stop) (within : Fit) → t.kind ≡ kind.Cast → Converts b us ty n after → (within ≡ fit.Over → b < n) →
    NotExpected kind.CloseParen within after stop → Exact (one (g.unary m)) (starts_suffix m) (suc b) (t ∷ us) (refused stop)
cast_unclosed m b t us ty n after stop within e z over h =
    token_refused kind.CloseParen (operand_line m) stop within one_deeper (cast_typed m b t us ty n after e z) (λ a. let k = over a in omega (arith, k)) h

-- `cast(T)` is read
pub record Closed (b n : ℕ) (after last : List Token) : Type 0 where
  pub within : n ≤ b
  pub close : Token
  pub is : after ≡ close ∷ last
  pub kind : close.kind ≡ kind.CloseParen

cast_closed : (m : Mode) (b : ℕ) (t : Token) (us : List Token) (ty : Type_) (n : ℕ) (after last : List Token) → t.kind ≡ kind.Cast → (z : Converts b us ty n after) → (y : Closed b n after last) →
    Led (one (g.unary m)) (starts_suffix m) (λ n. suc n) b (t ∷ us) (operand_line m) (λ u. cast_node t (z.open_, (ty, (y.close, u)))) (max 0 n) last
cast_closed m b t us ty n after last e z y = let h = y.within in token_read one_deeper (cast_typed m b t us ty n after e z) (omega (arith, h)) y.is y.kind

pub cast_refused : (m m' : Mode) (b : ℕ) (t : Token) (us : List Token) (ty : Type_) (n : ℕ) (after last : List Token) (stop : Stop) → m' ≡ later m → t.kind ≡ kind.Cast → Converts b us ty n after → Closed b n after last →
    Exact (one (g.unary m')) (starts_suffix m') b last (refused stop) → Exact (one (g.unary m)) (starts_suffix m) (suc b) (t ∷ us) (refused stop)
cast_refused m m' b t us ty n after last stop f e z y h =
    let at_later : Exact (one (g.unary (later m))) (starts_suffix (later m)) b last (refused stop) = subst (λ (k : Mode). Exact (one (g.unary k)) (starts_suffix k) b last (refused stop)) f h in
    let i = y.within in
    part_refused (g.unary (later m)) (starts_suffix (later m)) done stop one_deeper (cast_closed m b t us ty n after last e z y) (omega (arith, i)) at_later (clears m)

pub cast_answer : (m m' : Mode) (b : ℕ) (t : Token) (us : List Token) (ty : Type_) (n : ℕ) (after last : List Token) (x w : Expr) (k top : ℕ) (rest : List Token) → m' ≡ later m → t.kind ≡ kind.Cast → Converts b us ty n after → Closed b n after last →
    Found (one (g.unary m')) (starts_suffix m') b last x k rest → w ≡ expr t.at t.at (tree.cast ty x) → top ≡ suc (max n k) → Found (one (g.unary m)) (starts_suffix m) (suc b) (t ∷ us) w top rest
cast_answer m m' b t us ty n after last x w k top rest f e z y found made high =
    let at_later : Found (one (g.unary (later m))) (starts_suffix (later m)) b last x k rest = subst (λ (k' : Mode). Found (one (g.unary k')) (starts_suffix k') b last x k rest) f found in
    let i = y.within in
    answer_is (sym made) (omega (arith, high)) (led_done one_deeper (led_part one_deeper (cast_closed m b t us ty n after last e z y) (omega (arith, i)) at_later (clears m)))
