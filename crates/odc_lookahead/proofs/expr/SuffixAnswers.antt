-- What stands behind an operand: the answers of its forms, by their parts.
use Rattle.std.proofs.Common.{◌≡◌, ℕ, ◌*◌, ◌<◌, ◌≤◌, max, Bool, true, false, List, [], ◌∷◌, ◌++◌, length, refl, sym, ◌∙◌, ap, subst, arith, inl, inr}
use Rattle.odc_syntax.specs.declared.token.Token.{Token}
use Rattle.odc_syntax.specs.declared.token.TokenKind.{TokenKind}
use Rattle.odc_syntax.specs.declared.token.TokenKind.TheVariants as kind
use Rattle.odc_syntax.specs.declared.grammar.Mode.{Mode}
use Rattle.odc_syntax.specs.declared.grammar.Mode.TheVariants.{Free}
use Rattle.odc_syntax.specs.declared.grammar.Use.TheVariants.{Plain}
use Rattle.odc_syntax.specs.declared.grammar.Level.TheVariants.{Or}
use Rattle.odc_syntax.specs.Tree.{Expr, Type_, MaybeExpr, Args}
use Rattle.odc_syntax.specs.Tree as tree
use Rattle.odc_syntax.specs.Grammar.{Sym, tok, Rule, suffix, Suffix, suffix_cut, suffix_index, no_expr, an_expr}
use Rattle.odc_syntax.specs.Grammar as g
use Rattle.odc_syntax.specs.Derives.{Reach, here, read, write, StartsWithout}
use Rattle.odc_lookahead.specs.declared.stop.Stop.{Stop}
use Rattle.odc_lookahead.specs.declared.stop.Stop.TheVariants as stop
use Rattle.odc_lookahead.specs.declared.suffix.SuffixForm.{SuffixForm}
use Rattle.odc_lookahead.specs.declared.suffix.SuffixForm.TheVariants as form
use Rattle.odc_lookahead.specs.Exact.{size, Clear, Part, one, then_, done, token, Exact, Found, Broken, TooDeep}
use Rattle.odc_lookahead.specs.Forms.{suffix_form}
use Rattle.odc_lookahead.specs.Parts.{arguments, high_line}
use Rattle.odc_lookahead.specs.Read.{refused, NotExpected, NoSuffix}
use Rattle.odc_lookahead.specs.Sets.{starts_suffix, starts_expression, continues, nothing_continues}
use Rattle.odc_lookahead.proofs.reading.Opening.{reach_opens}
use Rattle.odc_lookahead.proofs.reading.Reaching.{behind_token, behind_part}
use Rattle.odc_lookahead.proofs.reading.Leading.{same_depth, Pending, Led, led_part, led_done, first_is, at_rest}
use Rattle.odc_lookahead.proofs.reading.Answering.{led_at, led_rest, led_rest_refused, part_refused, token_refused, token_read, answer_is, first_refused}
use Rattle.odc_lookahead.proofs.reading.Nesting.{below, root, postfix_nested, many_folds, many_unfolds}
use Rattle.odc_lookahead.proofs.expr.PostfixLemmas.{Suffixes, PostfixAt, suffix_none}
use Rattle.odc_lookahead.proofs.expr.SuffixLemmas.{suffix_kind, suffix_first, deref_found, or_return_found, select_found, assert_led, assert_line, assert_node}
use Rattle.odc_lookahead.proofs.expr.BracketLemmas.{call_led, literal_led, Behind, ends, goes_on, behind_line, bracket_node, bracket_led}
use Rattle.odc_lookahead.proofs.expr.CutLemmas.{rest_of_cut, index_ends, cut_goes_on, behind_broken, behind_deep, with_high, high_given, high_none}
use Rattle.odc_lookahead.proofs.expr.FormLemmas.{suffix_kind_is, no_suffix}
use Rattle.odc_lookahead.proofs.reading.Samples as sample
use Rattle.odc_lookahead.specs.declared.tokens.Fit.{Fit}
use Rattle.odc_lookahead.specs.declared.tokens.Fit.TheVariants as fit

-- a token that must come next stops what cannot go on with it
pub token_clear : {U : Type 0} (cont : TokenKind → Bool) (k : TokenKind) → cont k ≡ false → (g : Part U) (c : ℕ) (u : Token × U) (s : List Sym) → Clear cont (then_ (token k) g c u ++ s)
unfolding then_ token
token_clear cont k e g c u s = record {
  stops = λ t us s' ts' on r h.
      let opens : t.kind ≡ k = reach_opens r (omega (arith, h)) in
      let bad : true ≡ false = sym on ∙ ap cont opens ∙ e in
      cc;
}

-- the first item of what stands behind an operand isn't read
pub nothing_clear : (s : List Sym) → Clear nothing_continues s
nothing_clear s = record { stops = λ t us s' ts' on r h. cc }

pub operand_refused : (m : Mode) (b : ℕ) (ts : List Token) (e : Stop) → Exact (one (g.operand m)) nothing_continues b ts (refused e) → Exact (one (g.postfix m)) (starts_suffix m) b ts (refused e)
operand_refused m b ts e h =
    let nested = postfix_nested m in
    first_refused (g.postfix m) (g.operand m) (Suffixes m) nothing_continues b ts e (many_folds (g.postfix m) (g.operand m) (suffix m) g.suffixed nested) (many_unfolds (g.postfix m) (g.operand m) (suffix m) g.suffixed nested) root
    (below (g.postfix m) (g.operand m) (suffix m) g.suffixed nested) (λ c w d v q s a clear. nothing_clear (q ++ s)) h

pub no_suffix_follows : (m : Mode) (d : ℕ) (ts : List Token) (v : Expr) (n : ℕ) (rest : List Token) → PostfixAt m d ts v n rest → NoSuffix m rest → Found (one (g.postfix m)) (starts_suffix m) d ts v n rest
no_suffix_follows m d ts v n rest led none = suffix_none m d ts v n rest led (no_suffix m rest none)

-- by the form
pub deref_answer : (m : Mode) (b : ℕ) (t : Token) (us : List Token) (f : SuffixForm) → f ≡ form.Deref → suffix_form m t.kind ≡ f → Found (one (suffix m)) nothing_continues b (t ∷ us) (g.deref t.at) 0 us
deref_answer m b t us f i e = deref_found m b t us (suffix_kind_is m t.kind form.Deref (e ∙ i))

pub or_return_answer : (m : Mode) (b : ℕ) (t : Token) (us : List Token) (f : SuffixForm) → f ≡ form.OrReturn → suffix_form m t.kind ≡ f → Found (one (suffix m)) nothing_continues b (t ∷ us) g.or_return 0 us
or_return_answer m b t us f i e = or_return_found m b t us (suffix_kind_is m t.kind form.OrReturn (e ∙ i))

pub member_kind : (m : Mode) (k : TokenKind) (f : SuffixForm) → f ≡ form.Member → suffix_form m k ≡ f → k ≡ kind.Dot
member_kind m k f i e = suffix_kind_is m k form.Member (e ∙ i)

pub bracket_kind : (m : Mode) (k : TokenKind) (f : SuffixForm) → f ≡ form.Bracket → suffix_form m k ≡ f → k ≡ kind.OpenBracket
bracket_kind m k f i e = suffix_kind_is m k form.Bracket (e ∙ i)

pub no_form : (m : Mode) (k : TokenKind) (f : SuffixForm) → f ≡ form.Nothing → suffix_form m k ≡ f → starts_suffix m k ≡ true → ⊥
no_form m k f i e on = let none = suffix_kind_is m k form.Nothing (e ∙ i) in let bad : true ≡ false = sym on ∙ none in cc

pub call_answer : (m : Mode) (b : ℕ) (t : Token) (us : List Token) (f : SuffixForm) (v : Args × (Token × Unit {0})) (n : ℕ) (rest : List Token) → f ≡ form.Call → suffix_form m t.kind ≡ f →
    Found (arguments kind.CloseParen) nothing_continues b us v n rest → Found (one (suffix m)) nothing_continues b (t ∷ us) (g.call v.0) n rest
call_answer m b t us f v n rest i e found = answer_is refl (omega arith) (led_rest same_depth (call_led m b t us (suffix_kind_is m t.kind form.Call (e ∙ i))) (omega arith) found)

pub call_refused : (m : Mode) (b : ℕ) (t : Token) (us : List Token) (f : SuffixForm) (stop : Stop) → f ≡ form.Call → suffix_form m t.kind ≡ f →
    Exact (arguments kind.CloseParen) nothing_continues b us (refused stop) → Exact (one (suffix m)) nothing_continues b (t ∷ us) (refused stop)
call_refused m b t us f stop i e h = led_rest_refused stop same_depth (call_led m b t us (suffix_kind_is m t.kind form.Call (e ∙ i))) (omega arith) h

pub literal_answer : (m : Mode) (b : ℕ) (t : Token) (us : List Token) (f : SuffixForm) (v : Args × (Token × Unit {0})) (n : ℕ) (rest : List Token) → f ≡ form.Literal → suffix_form m t.kind ≡ f →
    Found (arguments kind.CloseBrace) nothing_continues b us v n rest → Found (one (suffix m)) nothing_continues b (t ∷ us) (g.literal v.0) n rest
literal_answer m b t us f v n rest i e found = let k = suffix_kind_is m t.kind form.Literal (e ∙ i) in answer_is refl (omega arith) (led_rest same_depth (literal_led m b t us k.0 k.1) (omega arith) found)

pub literal_refused : (m : Mode) (b : ℕ) (t : Token) (us : List Token) (f : SuffixForm) (stop : Stop) → f ≡ form.Literal → suffix_form m t.kind ≡ f →
    Exact (arguments kind.CloseBrace) nothing_continues b us (refused stop) → Exact (one (suffix m)) nothing_continues b (t ∷ us) (refused stop)
literal_refused m b t us f stop i e h = let k = suffix_kind_is m t.kind form.Literal (e ∙ i) in led_rest_refused stop same_depth (literal_led m b t us k.0 k.1) (omega arith) h

-- `.`
pub select_answer : (m : Mode) (b : ℕ) (t n : Token) (us rest : List Token) → t.kind ≡ kind.Dot → us ≡ n ∷ rest → n.kind ≡ kind.Name → Found (one (suffix m)) nothing_continues b (t ∷ us) (g.select t.at n) 0 rest
select_answer m b t n us rest e is f = subst (λ (l : List Token). Found (one (suffix m)) nothing_continues b (t ∷ l) (g.select t.at n) 0 rest) (sym is) (select_found m b t n rest e f)

assert_at : (m : Mode) (b : ℕ) (t o : Token) (us inner : List Token) → t.kind ≡ kind.Dot → us ≡ o ∷ inner → o.kind ≡ kind.OpenParen →
    Led (one (suffix m)) nothing_continues (λ n. n) b (t ∷ us) assert_line (assert_node t) 0 inner
assert_at m b t o us inner e is f = subst (λ (l : List Token). Led (one (suffix m)) nothing_continues (λ n. n) b (t ∷ l) assert_line (assert_node t) 0 inner) (sym is) (assert_led m b t o inner e f)

pub assert_refused : (m : Mode) (b : ℕ) (t o : Token) (us inner : List Token) (stop : Stop) → t.kind ≡ kind.Dot → us ≡ o ∷ inner → o.kind ≡ kind.OpenParen →
    Exact (one (g.type_ Plain)) nothing_continues b inner (refused stop) → Exact (one (suffix m)) nothing_continues b (t ∷ us) (refused stop)
assert_refused m b t o us inner stop e is f h =
    part_refused (g.type_ Plain) nothing_continues (then_ (token kind.CloseParen) done) stop same_depth (assert_at m b t o us inner e is f) (omega arith) h (λ c u s clear. nothing_clear (then_ (token kind.CloseParen) done c u ++ s))

assert_read : (m : Mode) (b : ℕ) (t o : Token) (us inner : List Token) (ty : Type_) (n : ℕ) (after : List Token) → t.kind ≡ kind.Dot → us ≡ o ∷ inner → o.kind ≡ kind.OpenParen →
    Found (one (g.type_ Plain)) nothing_continues b inner ty n after → Led (one (suffix m)) nothing_continues (λ n. n) b (t ∷ us) (then_ (token kind.CloseParen) done) (λ u. assert_node t (ty, u)) (max 0 n) after
assert_read m b t o us inner ty n after e is f found =
    led_part same_depth (assert_at m b t o us inner e is f) (omega arith) found (λ c u s clear. nothing_clear (then_ (token kind.CloseParen) done c u ++ s))

pub assert_unclosed : (m : Mode) (b : ℕ) (t o : Token) (us inner : List Token) (ty : Type_) (n : ℕ) (after : List Token) (stop : Stop) (within : Fit) → t.kind ≡ kind.Dot → us ≡ o ∷ inner → o.kind ≡ kind.OpenParen →
    Found (one (g.type_ Plain)) nothing_continues b inner ty n after → (within ≡ fit.Over → b < n) → NotExpected kind.CloseParen within after stop → Exact (one (suffix m)) nothing_continues b (t ∷ us) (refused stop)
assert_unclosed m b t o us inner ty n after stop within e is f found over h =
    token_refused kind.CloseParen done stop within same_depth (assert_read m b t o us inner ty n after e is f found) (λ x. let k = over x in omega (arith, k)) h

pub assert_answer : (m : Mode) (b : ℕ) (t o c : Token) (us inner : List Token) (ty : Type_) (n : ℕ) (after rest : List Token) → t.kind ≡ kind.Dot → us ≡ o ∷ inner → o.kind ≡ kind.OpenParen →
    Found (one (g.type_ Plain)) nothing_continues b inner ty n after → n ≤ b → after ≡ c ∷ rest → c.kind ≡ kind.CloseParen → Found (one (suffix m)) nothing_continues b (t ∷ us) (g.assert t.at ty) n rest
assert_answer m b t o c us inner ty n after rest e is f found within closes k =
    answer_is refl (omega arith) (led_done same_depth (token_read same_depth (assert_read m b t o us inner ty n after e is f found) (omega (arith, within)) closes k))

-- `[:`
low_split : (d : Token) (us : List Token) → d.kind ≡ kind.Colon → (c : ℕ) (low : MaybeExpr) (p : List Sym) → Rule (g.maybe_expr Free c low) p → (u t d' k : Token) (high : MaybeExpr) → u ≡ t →
    (s s' : List Sym) (ts' : List Token) → Reach s' ts' (p ++ (tok kind.Colon d' ∷ g.maybe_expr Free c high ∷ tok kind.CloseBracket k ∷ s)) (d ∷ us) → size s' ts' ≤ 2 * length us →
    Pending (λ n. n) high_line (λ x. g.cut t.at tree.no_expr x.0) 0 us c (g.cut u.at low high) s s' ts'
unfolding then_ token done
low_split d us f c low p an_expr u t d' k high e s s' ts' r h =
    let opens = reach_opens r (omega (arith, h)) in
    let bad : false ≡ true = sym (ap (starts_expression Free) f) ∙ opens in
    cc
low_split d us f c low p no_expr u t d' k high e s s' ts' r h =
    let z = behind_token r (omega (arith, h)) in
    record { at = c; value = (high, (k, tt)); bound = refl; whole = ap (λ (t : Token). g.cut t.at tree.no_expr high) e; deep = omega arith; reach = at_rest z }

open_cut_split : (m : Mode) (t d : Token) (us : List Token) → t.kind ≡ kind.OpenBracket → d.kind ≡ kind.Colon → (c : ℕ) (w : Suffix) (p : List Sym) (rule : Rule (suffix m c w) p) → t.kind ≡ suffix_kind rule →
    (s s' : List Sym) (ts' : List Token) → Reach s' ts' (p ++ s) (t ∷ d ∷ us) → size s' ts' ≤ 2 * length us → Pending (λ n. n) high_line (λ u. g.cut t.at tree.no_expr u.0) 0 us c w s s' ts'
open_cut_split m t d us e f c w p (suffix_cut {t = u} {d = d'} {c = k} {low = low} {high = high}) i s s' ts' r h =
    let z = behind_token r (omega (arith, h)) in
    let y = behind_part tt (at_rest z) (omega (arith, h)) in
    low_split d us f c low y.as_symbols y.rule u t d' k high (first_is z.is) s s' ts' y.reach h
open_cut_split m t d us e f c w p suffix_index i s s' ts' r h =
    let z = behind_token r (omega (arith, h)) in
    let opens = reach_opens (at_rest z) (omega (arith, h)) in
    let bad : false ≡ true = sym (ap (starts_expression Free) f) ∙ opens in
    cc
open_cut_split m t d us e f c w p _ i s s' ts' r h = cc

open_cut_led : (m : Mode) (b : ℕ) (t d : Token) (us : List Token) → t.kind ≡ kind.OpenBracket → d.kind ≡ kind.Colon →
    Led (one (suffix m)) nothing_continues (λ n. n) b (t ∷ d ∷ us) high_line (λ u. g.cut t.at tree.no_expr u.0) 0 us
unfolding then_ token done
open_cut_led m b t d us e f =
    led_at b us high_line (λ u. g.cut t.at tree.no_expr u.0) (tree.no_expr, (sample.token, tt)) (omega arith) same_depth (λ c v. tt) (λ c u s. write _ (suffix_cut {c = u.1.0}) (read e (write [] no_expr (read f here))))
    (λ c w p rule s s' ts' r h clear. open_cut_split m t d us e f c w p rule (suffix_first rule s s' ts' t (d ∷ us) r (omega (arith, h))) s s' ts' r h)

open_cut_at : (m : Mode) (b : ℕ) (t d : Token) (us rest : List Token) → t.kind ≡ kind.OpenBracket → us ≡ d ∷ rest → d.kind ≡ kind.Colon →
    Led (one (suffix m)) nothing_continues (λ n. n) b (t ∷ us) high_line (λ u. g.cut t.at tree.no_expr u.0) 0 rest
open_cut_at m b t d us rest e is f = subst (λ (l : List Token). Led (one (suffix m)) nothing_continues (λ n. n) b (t ∷ l) high_line (λ u. g.cut t.at tree.no_expr u.0) 0 rest) (sym is) (open_cut_led m b t d rest e f)

pub open_cut_answer : (m : Mode) (b : ℕ) (t d : Token) (us rest : List Token) (v : MaybeExpr × (Token × Unit {0})) (n : ℕ) (after : List Token) → t.kind ≡ kind.OpenBracket → us ≡ d ∷ rest → d.kind ≡ kind.Colon →
    Found high_line nothing_continues b rest v n after → Found (one (suffix m)) nothing_continues b (t ∷ us) (g.cut t.at tree.no_expr v.0) n after
open_cut_answer m b t d us rest v n after e is f found = answer_is refl (omega arith) (led_rest same_depth (open_cut_at m b t d us rest e is f) (omega arith) found)

pub open_cut_refused : (m : Mode) (b : ℕ) (t d : Token) (us rest : List Token) (stop : Stop) → t.kind ≡ kind.OpenBracket → us ≡ d ∷ rest → d.kind ≡ kind.Colon →
    Exact high_line nothing_continues b rest (refused stop) → Exact (one (suffix m)) nothing_continues b (t ∷ us) (refused stop)
open_cut_refused m b t d us rest stop e is f h = led_rest_refused stop same_depth (open_cut_at m b t d us rest e is f) (omega arith) h

-- `[`, an expression, and `]` or `:`
behind_clear : (c : ℕ) (u : Behind) (s : List Sym) → Clear (continues Or Free) (behind_line c u ++ s)
behind_clear c (ends k) s = record {
  stops = λ t us s' ts' on r h.
      let opens : t.kind ≡ kind.CloseBracket = reach_opens r (omega (arith, h)) in
      let bad : true ≡ false = sym on ∙ ap (continues Or Free) opens in
      cc;
}
behind_clear c (goes_on d high k) s = record {
  stops = λ t us s' ts' on r h.
      let opens : t.kind ≡ kind.Colon = reach_opens r (omega (arith, h)) in
      let bad : true ≡ false = sym on ∙ ap (continues Or Free) opens in
      cc;
}

pub index_refused : (m : Mode) (b : ℕ) (t : Token) (us : List Token) (stop : Stop) → t.kind ≡ kind.OpenBracket → StartsWithout kind.Colon us →
    Exact (one (g.expression Free)) (continues Or Free) b us (refused stop) → Exact (one (suffix m)) nothing_continues b (t ∷ us) (refused stop)
index_refused m b t us stop e open' h =
    part_refused (g.expression Free) (continues Or Free) behind_line stop same_depth (bracket_led m b t us e open') (omega arith) h (λ c u s clear. behind_clear c u s)

abbrev IndexRead : Mode → ℕ → Token → List Token → Expr → ℕ → List Token → Type 0
IndexRead m b t us x n after = Led (one (suffix m)) nothing_continues (λ n. n) b (t ∷ us) behind_line (λ u. bracket_node t (x, u)) n after

pub index_read : (m : Mode) (b : ℕ) (t : Token) (us : List Token) (x : Expr) (n : ℕ) (after : List Token) → t.kind ≡ kind.OpenBracket → StartsWithout kind.Colon us →
    Found (one (g.expression Free)) (continues Or Free) b us x n after → Led (one (suffix m)) nothing_continues (λ n. n) b (t ∷ us) behind_line (λ u. bracket_node t (x, u)) (max 0 n) after
index_read m b t us x n after e open' found = led_part same_depth (bracket_led m b t us e open') (omega arith) found (λ c u s clear. behind_clear c u s)

at_tokens : {m : Mode} {b : ℕ} {t : Token} {us : List Token} {x : Expr} {n : ℕ} {after rest : List Token} → after ≡ rest → IndexRead m b t us x n after → IndexRead m b t us x n rest
at_tokens {m} {b} {t} {us} {x} {n} is l = subst (λ (r : List Token). IndexRead m b t us x n r) is l

pub index_answer : (m : Mode) (b : ℕ) (t c : Token) (us : List Token) (x : Expr) (n : ℕ) (after rest : List Token) → t.kind ≡ kind.OpenBracket → StartsWithout kind.Colon us →
    Found (one (g.expression Free)) (continues Or Free) b us x n after → n ≤ b → after ≡ c ∷ rest → c.kind ≡ kind.CloseBracket → Found (one (suffix m)) nothing_continues b (t ∷ us) (g.index t.at x) n rest
index_answer m b t c us x n after rest e open' found within is k =
    answer_is refl (omega arith) (led_done same_depth (index_ends c rest k (omega (arith, within)) (at_tokens is (index_read m b t us x n after e open' found))))

pub index_deep : (m : Mode) (b : ℕ) (t c : Token) (us : List Token) (x : Expr) (n : ℕ) (after rest : List Token) → t.kind ≡ kind.OpenBracket → StartsWithout kind.Colon us →
    Found (one (g.expression Free)) (continues Or Free) b us x n after → b < n → after ≡ c ∷ rest → c.kind ≡ kind.CloseBracket → TooDeep (one (suffix m)) nothing_continues b (t ∷ us) (length rest)
index_deep m b t c us x n after rest e open' found over is k = behind_deep c rest is (inl k) (omega (arith, over)) (index_read m b t us x n after e open' found)

pub colon_refused : (m : Mode) (b : ℕ) (t : Token) (us : List Token) (x : Expr) (n : ℕ) (after : List Token) (stop : Stop) (w : Fit) → t.kind ≡ kind.OpenBracket → StartsWithout kind.Colon us →
    Found (one (g.expression Free)) (continues Or Free) b us x n after → StartsWithout kind.CloseBracket after → (w ≡ fit.Over → b < n) → NotExpected kind.Colon w after stop →
    Exact (one (suffix m)) nothing_continues b (t ∷ us) (refused stop)
colon_refused m b t us x n after (stop.Syntax left) w e open' found closed over h =
    subst (λ (k : ℕ). Broken (one (suffix m)) nothing_continues b (t ∷ us) k) (sym h.0) (behind_broken closed h.1 (index_read m b t us x n after e open' found))
colon_refused m b t us x n after (stop.Deep left) w e open' found closed over h =
    let k = over h.over in
    subst (λ (k : ℕ). TooDeep (one (suffix m)) nothing_continues b (t ∷ us) k) (sym h.left_is) (behind_deep h.first h.rest h.is (inr h.kind) (omega (arith, k)) (index_read m b t us x n after e open' found))
colon_refused m b t us x n after stop.Memory w e open' found closed over h = elim h [ ]

cut_read : (m : Mode) (b : ℕ) (t d : Token) (us : List Token) (x : Expr) (n : ℕ) (after rest : List Token) → t.kind ≡ kind.OpenBracket → StartsWithout kind.Colon us →
    Found (one (g.expression Free)) (continues Or Free) b us x n after → n ≤ b → after ≡ d ∷ rest → d.kind ≡ kind.Colon →
    Led (one (suffix m)) nothing_continues (λ n. n) b (t ∷ us) high_line (λ u. bracket_node t (x, rest_of_cut d u)) (max 0 n) rest
cut_read m b t d us x n after rest e open' found within is k = cut_goes_on d rest k (omega (arith, within)) (at_tokens is (index_read m b t us x n after e open' found))

pub cut_answer : (m : Mode) (b : ℕ) (t d : Token) (us : List Token) (x : Expr) (n : ℕ) (after rest : List Token) (v : MaybeExpr × (Token × Unit {0})) (k : ℕ) (last : List Token) → t.kind ≡ kind.OpenBracket → StartsWithout kind.Colon us →
    Found (one (g.expression Free)) (continues Or Free) b us x n after → n ≤ b → after ≡ d ∷ rest → d.kind ≡ kind.Colon → Found high_line nothing_continues b rest v k last → (top : ℕ) → top ≡ max n k →
    Found (one (suffix m)) nothing_continues b (t ∷ us) (g.cut t.at (tree.some_expr x) v.0) top last
cut_answer m b t d us x n after rest v k last e open' found within is f ending top h =
    answer_is refl (omega (arith, h)) (led_rest same_depth (cut_read m b t d us x n after rest e open' found within is f) (omega (arith, within)) ending)

pub cut_refused : (m : Mode) (b : ℕ) (t d : Token) (us : List Token) (x : Expr) (n : ℕ) (after rest : List Token) (stop : Stop) → t.kind ≡ kind.OpenBracket → StartsWithout kind.Colon us →
    Found (one (g.expression Free)) (continues Or Free) b us x n after → n ≤ b → after ≡ d ∷ rest → d.kind ≡ kind.Colon → Exact high_line nothing_continues b rest (refused stop) → Exact (one (suffix m)) nothing_continues b (t ∷ us) (refused stop)
cut_refused m b t d us x n after rest stop e open' found within is f h =
    led_rest_refused stop same_depth (cut_read m b t d us x n after rest e open' found within is f) (omega (arith, within)) h

-- the high end of a cut
high_start : (b : ℕ) (ts : List Token) → Led high_line nothing_continues (λ n. n) b ts high_line (λ u. u) 0 ts
unfolding then_ token done
high_start b ts = record {
  short = omega arith;
  sample = (tree.no_expr, (sample.token, tt));
  comes = record { at = λ c h. record { value = (tree.no_expr, (sample.token, tt)); before = λ s. record { pending = _; rest = ts; rest_is = refl; reach = here } } };
  reads = λ c u h s. here;
  only = λ c w s s' ts' clear r h. record { at = c; value = w; bound = refl; whole = refl; deep = omega arith; reach = r };
}

pub high_none_answer : (b : ℕ) (c : Token) (ts rest : List Token) → ts ≡ c ∷ rest → c.kind ≡ kind.CloseBracket → Found high_line nothing_continues b ts (tree.no_expr, (c, tt)) 0 rest
high_none_answer b c ts rest is k =
    subst (λ (l : List Token). Found high_line nothing_continues b l (tree.no_expr, (c, tt)) 0 rest) (sym is) (led_done same_depth (high_none c rest k (omega arith) (high_start b (c ∷ rest))))

pub high_refused : (b : ℕ) (ts : List Token) (stop : Stop) → StartsWithout kind.CloseBracket ts → Exact (one (g.expression Free)) (continues Or Free) b ts (refused stop) → Exact high_line nothing_continues b ts (refused stop)
high_refused b ts stop open' h =
    part_refused (g.expression Free) (continues Or Free) (then_ (token kind.CloseBracket) done) stop same_depth (high_given open' (omega arith) (high_start b ts)) (omega arith) h
    (λ c u s clear. token_clear (continues Or Free) kind.CloseBracket refl done c u s)

high_read : (b : ℕ) (ts : List Token) (x : Expr) (n : ℕ) (after : List Token) → StartsWithout kind.CloseBracket ts → Found (one (g.expression Free)) (continues Or Free) b ts x n after →
    Led high_line nothing_continues (λ n. n) b ts (then_ (token kind.CloseBracket) done) (λ u. with_high (x, u)) (max 0 n) after
high_read b ts x n after open' found =
    led_part same_depth (high_given open' (omega arith) (high_start b ts)) (omega arith) found (λ c u s clear. token_clear (continues Or Free) kind.CloseBracket refl done c u s)

pub high_unclosed : (b : ℕ) (ts : List Token) (x : Expr) (n : ℕ) (after : List Token) (stop : Stop) (within : Fit) → StartsWithout kind.CloseBracket ts → Found (one (g.expression Free)) (continues Or Free) b ts x n after →
    (within ≡ fit.Over → b < n) → NotExpected kind.CloseBracket within after stop → Exact high_line nothing_continues b ts (refused stop)
high_unclosed b ts x n after stop within open' found over h =
    token_refused kind.CloseBracket done stop within same_depth (high_read b ts x n after open' found) (λ e. let k = over e in omega (arith, k)) h

pub high_answer : (b : ℕ) (c : Token) (ts : List Token) (x : Expr) (n : ℕ) (after rest : List Token) → StartsWithout kind.CloseBracket ts → Found (one (g.expression Free)) (continues Or Free) b ts x n after → n ≤ b →
    after ≡ c ∷ rest → c.kind ≡ kind.CloseBracket → Found high_line nothing_continues b ts (tree.some_expr x, (c, tt)) n rest
high_answer b c ts x n after rest open' found within is k = answer_is refl (omega arith) (led_done same_depth (token_read same_depth (high_read b ts x n after open' found) (omega (arith, within)) is k))
