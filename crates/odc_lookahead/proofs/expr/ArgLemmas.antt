-- One argument: an expression, or a name, `=` and an expression.
use Rattle.std.proofs.Common.{◌≡◌, ℕ, suc, ◌*◌, ◌<◌, ◌≤◌, true, List, [], ◌∷◌, ◌++◌, length, refl, sym, ◌∙◌, ap, subst, arith, Option, Some, None}
use Rattle.std.proofs.Math.Nat.{lt_of_not-le}
use Rattle.odc_syntax.specs.declared.token.Token.{Token}
use Rattle.odc_syntax.specs.declared.token.TokenKind.{TokenKind}
use Rattle.odc_syntax.specs.declared.token.TokenKind.TheVariants as kind
use Rattle.odc_syntax.specs.declared.grammar.Mode.TheVariants.{Free}
use Rattle.odc_syntax.specs.declared.grammar.Level.TheVariants.{Or}
use Rattle.odc_syntax.specs.Tree.{Expr, expr}
use Rattle.odc_syntax.specs.Tree as tree
use Rattle.odc_syntax.specs.Grammar.{Sym, tok, Rule, arg_value, arg_named, expression}
use Rattle.odc_syntax.specs.Grammar as g
use Rattle.odc_syntax.specs.Derives.{Reach, here, read, write, StartsWithout}
use Rattle.odc_lookahead.specs.declared.stop.Stop.{Stop}
use Rattle.odc_lookahead.specs.declared.stop.Stop.TheVariants as stop
use Rattle.odc_lookahead.specs.Exact.{size, Clear, one, Exact, Yes, Comes, Remains, Found, Broken, TooDeep}
use Rattle.odc_lookahead.specs.Parts.{arg_item}
use Rattle.odc_lookahead.specs.Read.{refused}
use Rattle.odc_lookahead.specs.Sets.{continues, continues_argument}
use Rattle.odc_lookahead.proofs.reading.Reaching.{behind_token, behind_part}
use Rattle.odc_lookahead.proofs.reading.Leading.{same_depth, Pending, Led, first_is, without, at_rest}
use Rattle.odc_lookahead.proofs.reading.Answering.{led_at, led_rest, led_rest_refused, answer_is, nothing_read, wider_exact}
use Rattle.odc_lookahead.proofs.expr.BinaryLemmas.{clear_narrow}
use Rattle.odc_lookahead.proofs.expr.WholeLemmas.{Ends, name_whole, name_deep, costs_expression}
use Rattle.odc_lookahead.proofs.reading.Samples as sample

goes_on_argument : (k : TokenKind) → continues Or Free k ≡ true → continues_argument k ≡ true
goes_on_argument kind.Assign e = refl
goes_on_argument _ e = e

narrow : {s : List Sym} → Clear continues_argument s → Clear (continues Or Free) s
narrow clear = clear_narrow goes_on_argument clear

abbrev Named : Token → Token → ℕ → Expr → List Sym → List Sym
Named t a c e s = tok kind.Name t ∷ tok kind.Assign a ∷ expression Free c e ∷ s

-- no name and `=` comes next, as far as here
abbrev NotNamed : List Token → ℕ → Type 0
NotNamed ts limit = (t a : Token) (c : ℕ) (e : Expr) (s s' : List Sym) (ts' : List Token) → Reach s' ts' (Named t a c e s) ts → size s' ts' ≤ limit → ⊥

no_name_first : (ts : List Token) → StartsWithout kind.Name ts → NotNamed ts (2 * length ts)
no_name_first ts open' t a c e s s' ts' r h = let z = behind_token r h in without kind.Name _ _ ts z.is z.kind open'

no_sign_second : (n : Token) (us : List Token) → StartsWithout kind.Assign us → NotNamed (n ∷ us) (2 * length us)
no_sign_second n us open' t a c e s s' ts' r h =
    let z = behind_token r (omega (arith, h)) in
    let y = behind_token (at_rest z) h in
    without kind.Assign _ _ us y.is y.kind open'

-- an expression alone is an argument
comes_up : {b : ℕ} {ts : List Token} {left : ℕ} → Comes (one (expression Free)) b ts left → Comes arg_item b ts left
comes_up comes = record {
  at = λ c h.
      let a = comes.at c h in
      record {
        value = (None, a.value);
        before = λ s. let z = a.before s in record { pending = z.pending; rest = z.rest; rest_is = z.rest_is; reach = write (expression Free c a.value ∷ []) arg_value z.reach };
      };
}

found_by : {b : ℕ} {ts : List Token} {v : Expr} {n : ℕ} {rest : List Token} → Found (one (expression Free)) (continues Or Free) b ts v n rest → NotNamed ts (2 * length rest) →
    (c : ℕ) (w : Option Token × Expr) (p : List Sym) → Rule (g.arg c w.0 w.1) p → (s s' : List Sym) (ts' : List Token) → Clear continues_argument s → Reach s' ts' (p ++ s) ts → size s' ts' ≤ 2 * length rest →
    Remains (None, v) n rest c w s s' ts'
found_by found none c w p arg_value s s' ts' clear r h =
    let z = found.only c w.1 s s' ts' (narrow clear) r h in
    record { value = ap (λ (e : Expr). (None, e)) z.value; bound = z.bound; reach = z.reach }
found_by found none c w p arg_named s s' ts' clear r h = absurd (none _ _ c w.1 s s' ts' r h)

broken_by : {b : ℕ} {ts : List Token} {left : ℕ} → Broken (one (expression Free)) (continues Or Free) b ts left → NotNamed ts (2 * left) →
    (c : ℕ) (w : Option Token × Expr) (p : List Sym) → Rule (g.arg c w.0 w.1) p → (s s' : List Sym) (ts' : List Token) → Clear continues_argument s → Reach s' ts' (p ++ s) ts → size s' ts' ≤ 2 * left → ⊥
broken_by broken none c w p arg_value s s' ts' clear r h = broken.none c w.1 s s' ts' (narrow clear) r h
broken_by broken none c w p arg_named s s' ts' clear r h = none _ _ c w.1 s s' ts' r h

deep_by : {b : ℕ} {ts : List Token} {left : ℕ} → TooDeep (one (expression Free)) (continues Or Free) b ts left → NotNamed ts (suc (2 * left)) →
    (c : ℕ) (w : Option Token × Expr) (p : List Sym) → Rule (g.arg c w.0 w.1) p → (s s' : List Sym) (ts' : List Token) → Clear continues_argument s → Reach s' ts' (p ++ s) ts → size s' ts' ≤ suc (2 * left) → b < c
deep_by deep none c w p arg_value s s' ts' clear r h = deep.deep c w.1 s s' ts' (narrow clear) r h
deep_by deep none c w p arg_named s s' ts' clear r h = absurd (none _ _ c w.1 s s' ts' r h)

value_found : {b : ℕ} {ts : List Token} {v : Expr} {n : ℕ} {rest : List Token} → Comes arg_item b ts (length rest) → NotNamed ts (2 * length rest) → (d : ℕ) → Found (one (expression Free)) (continues Or Free) d ts v n rest → Found arg_item continues_argument b ts (None, v) n rest
value_found {b} {ts} {v} {n} {rest} comes none d found = record {
  short = found.short;
  comes = comes;
  reads = λ c h s. write (expression Free c v ∷ []) arg_value (found.reads c h s);
  only = λ c w s s' ts' clear r h.
      let k = found.short in
      let z = behind_part tt r (omega (arith, h, k)) in
      found_by found none c w z.as_symbols z.rule s s' ts' clear z.reach h;
}

value_broken : {b : ℕ} {ts : List Token} {left : ℕ} → NotNamed ts (2 * left) → Broken (one (expression Free)) (continues Or Free) b ts left → Broken arg_item continues_argument b ts left
value_broken none broken = record {
  short = broken.short;
  comes = comes_up broken.comes;
  none = λ c w s s' ts' clear r h.
      let k = broken.short in
      let z = behind_part tt r (omega (arith, h, k)) in
      broken_by broken none c w z.as_symbols z.rule s s' ts' clear z.reach h;
}

value_deep : {b : ℕ} {ts : List Token} {left : ℕ} → NotNamed ts (suc (2 * left)) → TooDeep (one (expression Free)) (continues Or Free) b ts left → TooDeep arg_item continues_argument b ts left
value_deep none deep = record {
  short = deep.short;
  comes = comes_up deep.comes;
  deep = λ c w s s' ts' clear r h.
      let k = deep.short in
      let z = behind_part tt r (omega (arith, h, k)) in
      deep_by deep none c w z.as_symbols z.rule s s' ts' clear z.reach h;
  depth = deep.depth;
  deeper = comes_up deep.deeper;
}

less : {ts : List Token} {a b : ℕ} → a ≤ b → NotNamed ts b → NotNamed ts a
less le none t a c e s s' ts' r h = none t a c e s s' ts' r (omega (arith, le, h))

-- no name stands first
pub plain_argument : (b : ℕ) (ts : List Token) (v : Expr) (n : ℕ) (rest : List Token) → StartsWithout kind.Name ts → Found (one (expression Free)) (continues Or Free) b ts v n rest → Found arg_item continues_argument b ts (None, v) n rest
plain_argument b ts v n rest open' found = let k = found.short in value_found (comes_up found.comes) (less (omega (arith, k)) (no_name_first ts open')) b found

pub plain_refused : (b : ℕ) (ts : List Token) (e : Stop) → StartsWithout kind.Name ts → Exact (one (expression Free)) (continues Or Free) b ts (refused e) → Exact arg_item continues_argument b ts (refused e)
plain_refused b ts (stop.Syntax left) open' h = let k = h.short in value_broken (less (omega (arith, k)) (no_name_first ts open')) h
plain_refused b ts (stop.Deep left) open' h = let k = h.short in value_deep (less (omega (arith, k)) (no_name_first ts open')) h
plain_refused b ts stop.Memory open' h = tt

-- a name stands first, and no `=` behind it
nothing_clear : Clear (continues Or Free) []
nothing_clear = record { stops = λ t us s' ts' on r h. nothing_read t us s' ts' r h }

name_reads : (t : Token) (us : List Token) → t.kind ≡ kind.Name → (c : ℕ) (s : List Sym) → Reach s us (expression Free (suc c) (expr t.at t.at (tree.name t)) ∷ s) (t ∷ us)
name_reads t us e c s =
    write _ g.chain_one (write _ g.chain_one (write _ g.chain_one (write _ g.chain_one (write _ g.chain_one (write _ g.unary_one (write _ g.postfix_one (write _ g.operand_name (read e here))))))))

pub named_argument : (b : ℕ) (t : Token) (ts us : List Token) (v : Expr) (n : ℕ) (rest : List Token) → ts ≡ t ∷ us → StartsWithout kind.Assign us → length rest < length ts →
    Found (one (expression Free)) (continues Or Free) b ts v n rest → Found arg_item continues_argument b ts (None, v) n rest
named_argument b t ts us v n rest is open' short found =
    let longer : length ts ≡ suc (length us) = ap length is in
    value_found (comes_up found.comes) (less (omega (arith, short, longer)) (subst (λ (l : List Token). NotNamed l (2 * length us)) (sym is) (no_sign_second t us open'))) b found

pub named_refused : (b : ℕ) (t : Token) (ts us : List Token) (e : Stop) → 0 < b → ts ≡ t ∷ us → t.kind ≡ kind.Name → StartsWithout kind.Assign us →
    Exact (one (expression Free)) (continues Or Free) b ts (refused e) → Exact arg_item continues_argument b ts (refused e)
named_refused b t ts us (stop.Syntax left) some is e open' h =
    let read : Reach [] us (expression Free 1 (expr t.at t.at (tree.name t)) ∷ []) ts = subst (λ (l : List Token). Reach [] us (expression Free 1 (expr t.at t.at (tree.name t)) ∷ []) l) (sym is) (name_reads t us e 0 []) in
    let far : left < suc (length us) = lt_of_not-le (λ k. h.none 1 (expr t.at t.at (tree.name t)) [] [] us nothing_clear read (omega (arith, k))) in
    value_broken (less (omega (arith, far)) (subst (λ (l : List Token). NotNamed l (2 * length us)) (sym is) (no_sign_second t us open'))) h
named_refused b t ts us (stop.Deep left) some is e open' h =
    let read : Reach [] us (expression Free 1 (expr t.at t.at (tree.name t)) ∷ []) ts = subst (λ (l : List Token). Reach [] us (expression Free 1 (expr t.at t.at (tree.name t)) ∷ []) l) (sym is) (name_reads t us e 0 []) in
    let far : left < length us = lt_of_not-le (λ k. let bad = h.deep 1 (expr t.at t.at (tree.name t)) [] [] us nothing_clear read (omega (arith, k)) in absurd (omega (arith, bad, some))) in
    value_deep (less (omega (arith, far)) (subst (λ (l : List Token). NotNamed l (2 * length us)) (sym is) (no_sign_second t us open'))) h
named_refused b t ts us stop.Memory some is e open' h = tt

-- a name that is too deep to be an expression
alone_comes : (t : Token) (us : List Token) → t.kind ≡ kind.Name → Comes arg_item 0 (t ∷ us) (length us)
alone_comes t us e = record {
  at = λ c h. record {
    value = (Some t, sample.expr);
    before = λ s. record { pending = tok kind.Assign sample.token ∷ expression Free c sample.expr ∷ s; rest = us; rest_is = refl; reach = write _ arg_named (read e here) };
  };
}

pub alone_found : (t : Token) (us : List Token) → t.kind ≡ kind.Name → StartsWithout kind.Assign us → Ends Free us → Found arg_item continues_argument 0 (t ∷ us) (None, expr t.at t.at (tree.name t)) 1 us
alone_found t us e open' none = value_found (alone_comes t us e) (no_sign_second t us open') 1 (name_whole Free t us e none)

alone_by : (t x : Token) (us : List Token) → StartsWithout kind.Assign (x ∷ us) → (c : ℕ) (w : Option Token × Expr) (p : List Sym) → Rule (g.arg c w.0 w.1) p → (s s' : List Sym) (ts' : List Token) → Reach s' ts' (p ++ s) (t ∷ x ∷ us) →
    size s' ts' ≤ suc (2 * length us) → 0 < c
alone_by t x us open' c w p arg_value s s' ts' r h = costs_expression Free c w.1 s s' (t ∷ x ∷ us) ts' r (omega (arith, h))
alone_by t x us open' c w p arg_named s s' ts' r h = absurd (no_sign_second t (x ∷ us) open' _ _ c w.1 s s' ts' r (omega (arith, h)))

pub alone_deep : (t x : Token) (ts us : List Token) → t.kind ≡ kind.Name → ts ≡ x ∷ us → StartsWithout kind.Assign ts → continues Or Free x.kind ≡ true → TooDeep arg_item continues_argument 0 (t ∷ ts) (length us)
alone_deep t x ts us e is open' on =
    let open'' : StartsWithout kind.Assign (x ∷ us) = subst (λ (l : List Token). StartsWithout kind.Assign l) is open' in
    let deep = name_deep Free t x us e on in
    subst (λ (l : List Token). TooDeep arg_item continues_argument 0 (t ∷ l) (length us)) (sym is) (record {
      short = omega arith;
      comes = alone_comes t (x ∷ us) e;
      deep = λ c w s s' ts' clear r h.
          let z = behind_part tt r (omega (arith, h)) in
          alone_by t x us open'' c w z.as_symbols z.rule s s' ts' z.reach h;
      depth = deep.depth;
      deeper = comes_up deep.deeper;
    })

-- a name and `=`
sign_split : (t a : Token) (us : List Token) → t.kind ≡ kind.Name → a.kind ≡ kind.Assign → (c : ℕ) (w : Option Token × Expr) (p : List Sym) → Rule (g.arg c w.0 w.1) p → (s s' : List Sym) (ts' : List Token) → Reach s' ts' (p ++ s) (t ∷ a ∷ us) →
    size s' ts' ≤ 2 * length us → Clear continues_argument s → Pending (λ n. n) (one (expression Free)) (λ e. (Some t, e)) 0 us c w s s' ts'
sign_split t a us e f c w p arg_value s s' ts' r h clear =
    let z = (name_whole Free t (a ∷ us) e (ap (continues Or Free) f)).only c w.1 s s' ts' (narrow clear) r (omega (arith, h)) in
    absurd (clear.stops a us s' ts' (ap continues_argument f) z.reach (omega (arith, h)))
sign_split t a us e f c w p arg_named s s' ts' r h clear =
    let z = behind_token r (omega (arith, h)) in
    let y = behind_token (at_rest z) (omega (arith, h)) in
    record { at = c; value = w.1; bound = refl; whole = ap (λ (t : Token). (Some t, w.1)) (first_is z.is); deep = omega arith; reach = at_rest y }

sign_led : (b : ℕ) (t a : Token) (us : List Token) → t.kind ≡ kind.Name → a.kind ≡ kind.Assign → Led arg_item continues_argument (λ n. n) b (t ∷ a ∷ us) (one (expression Free)) (λ e. (Some t, e)) 0 us
sign_led b t a us e f =
    led_at {x = λ c v. g.arg c v.0 v.1} b us (one (expression Free)) (λ e. (Some t, e)) sample.expr (omega arith) same_depth (λ c v. tt) (λ c u s. write _ arg_named (read e (read f here)))
    (λ c w p rule s s' ts' r h clear. sign_split t a us e f c w p rule s s' ts' r h clear)

sign_at : (b : ℕ) (t a : Token) (ts vs us : List Token) → ts ≡ t ∷ vs → vs ≡ a ∷ us → t.kind ≡ kind.Name → a.kind ≡ kind.Assign → Led arg_item continues_argument (λ n. n) b ts (one (expression Free)) (λ e. (Some t, e)) 0 us
sign_at b t a ts vs us is second e f =
    subst (λ (l : List Token). Led arg_item continues_argument (λ n. n) b l (one (expression Free)) (λ e. (Some t, e)) 0 us) (sym (is ∙ ap (λ (l : List Token). t ∷ l) second)) (sign_led b t a us e f)

pub signed_argument : (b : ℕ) (t a : Token) (ts vs us : List Token) (v : Expr) (n : ℕ) (rest : List Token) → ts ≡ t ∷ vs → vs ≡ a ∷ us → t.kind ≡ kind.Name → a.kind ≡ kind.Assign →
    Found (one (expression Free)) (continues Or Free) b us v n rest → Found arg_item continues_argument b ts (Some t, v) n rest
signed_argument b t a ts vs us v n rest is second e f found =
    let wide = wider_exact (one (expression Free)) b us (Yes v n rest) (λ s clear. narrow clear) found in
    answer_is refl (omega arith) (led_rest same_depth (sign_at b t a ts vs us is second e f) (omega arith) wide)

pub signed_refused : (b : ℕ) (t a : Token) (ts vs us : List Token) (stop : Stop) → ts ≡ t ∷ vs → vs ≡ a ∷ us → t.kind ≡ kind.Name → a.kind ≡ kind.Assign →
    Exact (one (expression Free)) (continues Or Free) b us (refused stop) → Exact arg_item continues_argument b ts (refused stop)
signed_refused b t a ts vs us stop is second e f h =
    led_rest_refused stop same_depth (sign_at b t a ts vs us is second e f) (omega arith) (wider_exact (one (expression Free)) b us (refused stop) (λ s clear. narrow clear) h)
