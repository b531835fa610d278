-- What stands behind an operand, production by production.
use Rattle.std.proofs.Common.{◌≡◌, ℕ, ◌*◌, ◌≤◌, Bool, true, List, ◌∷◌, ◌++◌, length, refl, sym, ◌∙◌, ap, arith}
use Rattle.odc_syntax.specs.declared.token.Token.{Token}
use Rattle.odc_syntax.specs.declared.token.TokenKind.{TokenKind}
use Rattle.odc_syntax.specs.declared.token.TokenKind.TheVariants as kind
use Rattle.odc_syntax.specs.declared.grammar.Mode.{Mode}
use Rattle.odc_syntax.specs.declared.grammar.Use.TheVariants.{Plain}
use Rattle.odc_syntax.specs.Tree.{Type_}
use Rattle.odc_syntax.specs.Grammar.{Sym, tok, Rule, later, suffix, Suffix, suffix_select, suffix_assert, suffix_deref, suffix_index, suffix_cut, suffix_call, suffix_or_return, suffix_literal, braces_, an_expr, no_expr}
use Rattle.odc_syntax.specs.Grammar as g
use Rattle.odc_syntax.specs.Derives.{Reach, here, read, write, StartsWithout}
use Rattle.odc_lookahead.specs.Exact.{size, Part, one, then_, done, token, Found, Broken}
use Rattle.odc_lookahead.specs.Sets.{is_free, nothing_continues}
use Rattle.odc_lookahead.proofs.reading.Opening.{reach_opens, is_brace}
use Rattle.odc_lookahead.proofs.reading.Reaching.{behind_token, behind_part}
use Rattle.odc_lookahead.proofs.reading.Leading.{same_depth, Pending, Led, led_done, first_is, without, at_rest}
use Rattle.odc_lookahead.proofs.reading.Answering.{led_at}
use Rattle.odc_lookahead.proofs.reading.Samples as sample

brace_is : (b : Bool) (k : TokenKind) → is_brace b k ≡ true → k ≡ kind.OpenBrace
brace_is b kind.OpenBrace e = refl
brace_is b _ e = cc

abbrev pub suffix_kind : {m : Mode} {c : ℕ} {w : Suffix} {p : List Sym} → Rule (suffix m c w) p → TokenKind
suffix_kind suffix_select = kind.Dot
suffix_kind suffix_assert = kind.Dot
suffix_kind suffix_deref = kind.Caret
suffix_kind suffix_index = kind.OpenBracket
suffix_kind suffix_cut = kind.OpenBracket
suffix_kind suffix_call = kind.OpenParen
suffix_kind suffix_or_return = kind.OrReturn
suffix_kind suffix_literal = kind.OpenBrace

-- the kind of the token that each production begins with
pub suffix_first : {m : Mode} {c : ℕ} {w : Suffix} {p : List Sym} (rule : Rule (suffix m c w) p) (s s' : List Sym) (ts' : List Token) (t : Token) (us : List Token) → Reach s' ts' (p ++ s) (t ∷ us) →
    size s' ts' ≤ 2 * length (t ∷ us) → t.kind ≡ suffix_kind rule
suffix_first suffix_select s s' ts' t us r h = reach_opens r h
suffix_first suffix_assert s s' ts' t us r h = reach_opens r h
suffix_first suffix_deref s s' ts' t us r h = reach_opens r h
suffix_first suffix_index s s' ts' t us r h = reach_opens r h
suffix_first suffix_cut s s' ts' t us r h = reach_opens r h
suffix_first suffix_call s s' ts' t us r h = reach_opens r h
suffix_first suffix_or_return s s' ts' t us r h = reach_opens r h
suffix_first (suffix_literal {m = m}) s s' ts' t us r h = brace_is (is_free (later m)) t.kind (reach_opens r h)

-- `^`
deref_split : (m : Mode) (t : Token) (us : List Token) → t.kind ≡ kind.Caret → (c : ℕ) (w : Suffix) (p : List Sym) (rule : Rule (suffix m c w) p) → t.kind ≡ suffix_kind rule →
    (s s' : List Sym) (ts' : List Token) → Reach s' ts' (p ++ s) (t ∷ us) → size s' ts' ≤ 2 * length us → Pending (λ n. n) done (λ u. g.deref t.at) 0 us c w s s' ts'
unfolding done
deref_split m t us e c w p suffix_deref f s s' ts' r h =
    let z = behind_token r (omega (arith, h)) in
    record { at = c; value = tt; bound = refl; whole = ap (λ (t : Token). g.deref t.at) (first_is z.is); deep = omega arith; reach = at_rest z }
deref_split m t us e c w p _ f s s' ts' r h = cc

pub deref_found : (m : Mode) (b : ℕ) (t : Token) (us : List Token) → t.kind ≡ kind.Caret → Found (one (suffix m)) nothing_continues b (t ∷ us) (g.deref t.at) 0 us
unfolding done
deref_found m b t us e =
    led_done same_depth (led_at b us done (λ u. g.deref t.at) tt (omega arith) same_depth (λ c v. tt) (λ c u s. write _ suffix_deref (read e here))
    (λ c w p rule s s' ts' r h clear. deref_split m t us e c w p rule (suffix_first rule s s' ts' t us r (omega (arith, h))) s s' ts' r h))

-- `or_return`
or_return_split : (m : Mode) (t : Token) (us : List Token) → t.kind ≡ kind.OrReturn → (c : ℕ) (w : Suffix) (p : List Sym) (rule : Rule (suffix m c w) p) → t.kind ≡ suffix_kind rule →
    (s s' : List Sym) (ts' : List Token) → Reach s' ts' (p ++ s) (t ∷ us) → size s' ts' ≤ 2 * length us → Pending (λ n. n) done (λ u. g.or_return) 0 us c w s s' ts'
unfolding done
or_return_split m t us e c w p suffix_or_return f s s' ts' r h =
    let z = behind_token r (omega (arith, h)) in
    record { at = c; value = tt; bound = refl; whole = refl; deep = omega arith; reach = at_rest z }
or_return_split m t us e c w p _ f s s' ts' r h = cc

pub or_return_found : (m : Mode) (b : ℕ) (t : Token) (us : List Token) → t.kind ≡ kind.OrReturn → Found (one (suffix m)) nothing_continues b (t ∷ us) g.or_return 0 us
unfolding done
or_return_found m b t us e =
    led_done same_depth (led_at b us done (λ u. g.or_return) tt (omega arith) same_depth (λ c v. tt) (λ c u s. write _ (suffix_or_return {t = t}) (read e here))
    (λ c w p rule s s' ts' r h clear. or_return_split m t us e c w p rule (suffix_first rule s s' ts' t us r (omega (arith, h))) s s' ts' r h))

-- `.x` and `.(T)`, by the token behind the dot
select_split : (m : Mode) (t n : Token) (us : List Token) → t.kind ≡ kind.Dot → n.kind ≡ kind.Name → (c : ℕ) (w : Suffix) (p : List Sym) (rule : Rule (suffix m c w) p) → t.kind ≡ suffix_kind rule →
    (s s' : List Sym) (ts' : List Token) → Reach s' ts' (p ++ s) (t ∷ n ∷ us) → size s' ts' ≤ 2 * length us → Pending (λ n. n) done (λ u. g.select t.at n) 0 us c w s s' ts'
unfolding done
select_split m t n us e f c w p suffix_select i s s' ts' r h =
    let z = behind_token r (omega (arith, h)) in
    let y = behind_token (at_rest z) (omega (arith, h)) in
    record { at = c; value = tt; bound = refl; whole = λ j. g.select ((first_is z.is) j).at ((first_is y.is) j); deep = omega arith; reach = at_rest y }
select_split m t n us e f c w p suffix_assert i s s' ts' r h =
    let z = behind_token r (omega (arith, h)) in
    let bad : n.kind ≡ kind.OpenParen = reach_opens (at_rest z) (omega (arith, h)) in
    cc
select_split m t n us e f c w p _ i s s' ts' r h = cc

pub select_found : (m : Mode) (b : ℕ) (t n : Token) (us : List Token) → t.kind ≡ kind.Dot → n.kind ≡ kind.Name → Found (one (suffix m)) nothing_continues b (t ∷ n ∷ us) (g.select t.at n) 0 us
unfolding done
select_found m b t n us e f =
    led_done same_depth (led_at b us done (λ u. g.select t.at n) tt (omega arith) same_depth (λ c v. tt) (λ c u s. write _ suffix_select (read e (read f here)))
    (λ c w p rule s s' ts' r h clear. select_split m t n us e f c w p rule (suffix_first rule s s' ts' t (n ∷ us) r (omega (arith, h))) s s' ts' r h))

abbrev pub assert_line : Part (Type_ × (Token × Unit {0}))
assert_line = then_ (g.type_ Plain) (then_ (token kind.CloseParen) done)

abbrev pub assert_node : Token → Type_ × (Token × Unit {0}) → Suffix
assert_node t u = g.assert t.at u.0

assert_split : (m : Mode) (t o : Token) (us : List Token) → t.kind ≡ kind.Dot → o.kind ≡ kind.OpenParen → (c : ℕ) (w : Suffix) (p : List Sym) (rule : Rule (suffix m c w) p) → t.kind ≡ suffix_kind rule →
    (s s' : List Sym) (ts' : List Token) → Reach s' ts' (p ++ s) (t ∷ o ∷ us) → size s' ts' ≤ 2 * length us → Pending (λ n. n) assert_line (assert_node t) 0 us c w s s' ts'
unfolding done then_ token
assert_split m t o us e f c w p (suffix_assert {c = k} {ty = ty}) i s s' ts' r h =
    let z = behind_token r (omega (arith, h)) in
    let y = behind_token (at_rest z) (omega (arith, h)) in
    record { at = c; value = (ty, (k, tt)); bound = refl; whole = ap (λ (t : Token). g.assert t.at ty) (first_is z.is); deep = omega arith; reach = at_rest y }
assert_split m t o us e f c w p suffix_select i s s' ts' r h =
    let z = behind_token r (omega (arith, h)) in
    let bad : o.kind ≡ kind.Name = reach_opens (at_rest z) (omega (arith, h)) in
    cc
assert_split m t o us e f c w p _ i s s' ts' r h = cc

pub assert_led : (m : Mode) (b : ℕ) (t o : Token) (us : List Token) → t.kind ≡ kind.Dot → o.kind ≡ kind.OpenParen →
    Led (one (suffix m)) nothing_continues (λ n. n) b (t ∷ o ∷ us) assert_line (assert_node t) 0 us
unfolding done then_ token
assert_led m b t o us e f =
    led_at b us assert_line (assert_node t) (sample.type, (sample.token, tt)) (omega arith) same_depth (λ c v. tt) (λ c u s. write _ suffix_assert (read e (read f here)))
    (λ c w p rule s s' ts' r h clear. assert_split m t o us e f c w p rule (suffix_first rule s s' ts' t (o ∷ us) r (omega (arith, h))) s s' ts' r h)

-- neither a name nor a parenthesis stands behind the dot
no_member_left : (m : Mode) (t : Token) (us : List Token) → t.kind ≡ kind.Dot → StartsWithout kind.Name us → StartsWithout kind.OpenParen us → (c : ℕ) (w : Suffix) (p : List Sym) (rule : Rule (suffix m c w) p) →
    t.kind ≡ suffix_kind rule → (s s' : List Sym) (ts' : List Token) → Reach s' ts' (p ++ s) (t ∷ us) → size s' ts' ≤ 2 * length us → ⊥
no_member_left m t us e f o c w p suffix_select i s s' ts' r h =
    let z = behind_token r (omega (arith, h)) in
    let y = behind_token (at_rest z) h in
    without kind.Name _ _ us y.is y.kind f
no_member_left m t us e f o c w p suffix_assert i s s' ts' r h =
    let z = behind_token r (omega (arith, h)) in
    let y = behind_token (at_rest z) h in
    without kind.OpenParen _ _ us y.is y.kind o
no_member_left m t us e f o c w p suffix_deref i s s' ts' r h = let bad : kind.Dot ≡ kind.Caret = sym e ∙ i in cc
no_member_left m t us e f o c w p suffix_index i s s' ts' r h = let bad : kind.Dot ≡ kind.OpenBracket = sym e ∙ i in cc
no_member_left m t us e f o c w p suffix_cut i s s' ts' r h = let bad : kind.Dot ≡ kind.OpenBracket = sym e ∙ i in cc
no_member_left m t us e f o c w p suffix_call i s s' ts' r h = let bad : kind.Dot ≡ kind.OpenParen = sym e ∙ i in cc
no_member_left m t us e f o c w p suffix_or_return i s s' ts' r h = let bad : kind.Dot ≡ kind.OrReturn = sym e ∙ i in cc
no_member_left m t us e f o c w p suffix_literal i s s' ts' r h = let bad : kind.Dot ≡ kind.OpenBrace = sym e ∙ i in cc

pub dot_broken : (m : Mode) (b : ℕ) (t : Token) (us : List Token) → t.kind ≡ kind.Dot → StartsWithout kind.Name us → StartsWithout kind.OpenParen us → Broken (one (suffix m)) nothing_continues b (t ∷ us) (length us)
dot_broken m b t us e f o = record {
  short = omega arith;
  comes = record { at = λ c h. record { value = g.select t.at sample.token; before = λ s. record { pending = tok kind.Name sample.token ∷ s; rest = us; rest_is = refl; reach = write _ suffix_select (read e here) } } };
  none = λ c w s s' ts' clear r h.
      let z = behind_part tt r (omega (arith, h)) in
      no_member_left m t us e f o c w z.as_symbols z.rule (suffix_first z.rule s s' ts' t us z.reach (omega (arith, h))) s s' ts' z.reach h;
}
