-- What stands behind an operand in brackets: calls, literals, indices and cuts.
use Rattle.std.proofs.Common.{◌≡◌, ℕ, ◌*◌, ◌≤◌, true, List, [], ◌∷◌, ◌++◌, length, refl, sym, ap, subst, arith}
use Rattle.odc_syntax.specs.declared.token.Token.{Token}
use Rattle.odc_syntax.specs.declared.token.TokenKind.TheVariants as kind
use Rattle.odc_syntax.specs.declared.grammar.Mode.{Mode}
use Rattle.odc_syntax.specs.declared.grammar.Mode.TheVariants.{Free}
use Rattle.odc_syntax.specs.Tree.{Expr, MaybeExpr, Args}
use Rattle.odc_syntax.specs.Tree as tree
use Rattle.odc_syntax.specs.Grammar.{Sym, tok, Rule, later, suffix, Suffix, suffix_select, suffix_assert, suffix_deref, suffix_index, suffix_cut, suffix_call, suffix_or_return, suffix_literal, braces_, an_expr, no_expr}
use Rattle.odc_syntax.specs.Grammar as g
use Rattle.odc_syntax.specs.Derives.{Reach, here, read, write, StartsWithout}
use Rattle.odc_lookahead.specs.Exact.{size, Part, one, then_, done, token}
use Rattle.odc_lookahead.specs.Parts.{arguments}
use Rattle.odc_lookahead.specs.Sets.{takes_braces, nothing_continues}
use Rattle.odc_lookahead.proofs.reading.Reaching.{behind_token, behind_part}
use Rattle.odc_lookahead.proofs.reading.Leading.{same_depth, Pending, Led, first_is, without, at_rest}
use Rattle.odc_lookahead.proofs.reading.Answering.{led_at}
use Rattle.odc_lookahead.proofs.expr.SuffixLemmas.{suffix_kind, suffix_first}
use Rattle.odc_lookahead.proofs.expr.PostfixLemmas.{takes_free}
use Rattle.odc_lookahead.proofs.reading.Samples as sample

call_split : (m : Mode) (t : Token) (us : List Token) → t.kind ≡ kind.OpenParen → (c : ℕ) (w : Suffix) (p : List Sym) (rule : Rule (suffix m c w) p) → t.kind ≡ suffix_kind rule →
    (s s' : List Sym) (ts' : List Token) → Reach s' ts' (p ++ s) (t ∷ us) → size s' ts' ≤ 2 * length us → Pending (λ n. n) (arguments kind.CloseParen) (λ u. g.call u.0) 0 us c w s s' ts'
unfolding then_ token done
call_split m t us e c w p (suffix_call {c = k} {xs = xs}) f s s' ts' r h =
    let z = behind_token r (omega (arith, h)) in
    record { at = c; value = (xs, (k, tt)); bound = refl; whole = refl; deep = omega arith; reach = at_rest z }
call_split m t us e c w p _ f s s' ts' r h = cc

pub call_led : (m : Mode) (b : ℕ) (t : Token) (us : List Token) → t.kind ≡ kind.OpenParen → Led (one (suffix m)) nothing_continues (λ n. n) b (t ∷ us) (arguments kind.CloseParen) (λ u. g.call u.0) 0 us
unfolding then_ token done
call_led m b t us e =
    led_at b us (arguments kind.CloseParen) (λ u. g.call u.0) (tree.no_args, (sample.token, tt)) (omega arith) same_depth (λ c v. tt) (λ c u s. write _ (suffix_call {c = u.1.0}) (read e here))
    (λ c w p rule s s' ts' r h clear. call_split m t us e c w p rule (suffix_first rule s s' ts' t us r (omega (arith, h))) s s' ts' r h)

-- braces stand behind an operand
braces_split : (m : Mode) (c : ℕ) (xs : Args) (p : List Sym) → Rule (g.braces m c xs) p → (t : Token) (us : List Token) (s s' : List Sym) (ts' : List Token) → Reach s' ts' (p ++ s) (t ∷ us) → size s' ts' ≤ 2 * length us →
    Pending (λ n. n) (arguments kind.CloseBrace) (λ u. g.literal u.0) 0 us c (g.literal xs) s s' ts'
unfolding then_ token done
braces_split m c xs p (braces_ {c = k}) t us s s' ts' r h =
    let z = behind_token r (omega (arith, h)) in
    record { at = c; value = (xs, (k, tt)); bound = refl; whole = refl; deep = omega arith; reach = at_rest z }

literal_split : (m : Mode) (t : Token) (us : List Token) → t.kind ≡ kind.OpenBrace → (c : ℕ) (w : Suffix) (p : List Sym) (rule : Rule (suffix m c w) p) → t.kind ≡ suffix_kind rule →
    (s s' : List Sym) (ts' : List Token) → Reach s' ts' (p ++ s) (t ∷ us) → size s' ts' ≤ 2 * length us → Pending (λ n. n) (arguments kind.CloseBrace) (λ u. g.literal u.0) 0 us c w s s' ts'
literal_split m t us e c w p suffix_literal f s s' ts' r h =
    let z = behind_part tt r (omega (arith, h)) in
    braces_split (later m) c _ z.as_symbols z.rule t us s s' ts' z.reach h
literal_split m t us e c w p suffix_call f s s' ts' r h = cc
literal_split m t us e c w p _ f s s' ts' r h = cc

braces_write : (m : Mode) → m ≡ Free → (c : ℕ) (xs : Args) (k : Token) (t : Token) (us : List Token) (s : List Sym) → t.kind ≡ kind.OpenBrace → Reach (g.args c xs ∷ tok kind.CloseBrace k ∷ s) us (g.braces m c xs ∷ s) (t ∷ us)
braces_write m e c xs k t us s f =
    subst (λ (m : Mode). Reach (g.args c xs ∷ tok kind.CloseBrace k ∷ s) us (g.braces m c xs ∷ s) (t ∷ us)) (sym e) (write _ (braces_ {c = k}) (read f here))

pub literal_led : (m : Mode) (b : ℕ) (t : Token) (us : List Token) → t.kind ≡ kind.OpenBrace → takes_braces m ≡ true → Led (one (suffix m)) nothing_continues (λ n. n) b (t ∷ us) (arguments kind.CloseBrace) (λ u. g.literal u.0) 0 us
unfolding then_ token done
literal_led m b t us e takes =
    led_at b us (arguments kind.CloseBrace) (λ u. g.literal u.0) (tree.no_args, (sample.token, tt)) (omega arith) same_depth (λ c v. tt)
    (λ c u s. write (g.braces (later m) c u.0 ∷ []) suffix_literal (braces_write (later m) (takes_free m takes) c u.0 u.1.0 t us s e))
    (λ c w p rule s s' ts' r h clear. literal_split m t us e c w p rule (suffix_first rule s s' ts' t us r (omega (arith, h))) s s' ts' r h)

-- what may follow an expression behind `[`: the end of an index, or the rest of a cut
pub data Behind : Type 0 where
  ends : (c : Token) → Behind
  goes_on : (d : Token) (high : MaybeExpr) (c : Token) → Behind

abbrev pub behind_line : Part Behind
behind_line b (ends c) = tok kind.CloseBracket c ∷ []
behind_line b (goes_on d high c) = tok kind.Colon d ∷ g.maybe_expr Free b high ∷ tok kind.CloseBracket c ∷ []

abbrev pub bracket_line : Part (Expr × Behind)
bracket_line = then_ (g.expression Free) behind_line

abbrev pub bracket_node : Token → Expr × Behind → Suffix
bracket_node t (e, ends c) = g.index t.at e
bracket_node t (e, goes_on d high c) = g.cut t.at (tree.some_expr e) high

cut_split : (t : Token) (us : List Token) → StartsWithout kind.Colon us → (c : ℕ) (low : MaybeExpr) (p : List Sym) → Rule (g.maybe_expr Free c low) p → (u d k : Token) (high : MaybeExpr) → u ≡ t →
    (s s' : List Sym) (ts' : List Token) → Reach s' ts' (p ++ (tok kind.Colon d ∷ g.maybe_expr Free c high ∷ tok kind.CloseBracket k ∷ s)) us → size s' ts' ≤ 2 * length us →
    Pending (λ n. n) bracket_line (bracket_node t) 0 us c (g.cut u.at low high) s s' ts'
unfolding then_
cut_split t us open' c low p an_expr u d k high e s s' ts' r h =
    record { at = c; value = (_, goes_on d high k); bound = refl; whole = ap (λ (t : Token). g.cut t.at low high) e; deep = omega arith; reach = r }
cut_split t us open' c low p no_expr u d k high e s s' ts' r h = let y = behind_token r h in absurd (without kind.Colon _ _ us y.is y.kind open')

bracket_split : (m : Mode) (t : Token) (us : List Token) → t.kind ≡ kind.OpenBracket → StartsWithout kind.Colon us → (c : ℕ) (w : Suffix) (p : List Sym) (rule : Rule (suffix m c w) p) → t.kind ≡ suffix_kind rule →
    (s s' : List Sym) (ts' : List Token) → Reach s' ts' (p ++ s) (t ∷ us) → size s' ts' ≤ 2 * length us → Pending (λ n. n) bracket_line (bracket_node t) 0 us c w s s' ts'
unfolding then_
bracket_split m t us e open' c w p (suffix_index {c = k} {i = x}) f s s' ts' r h =
    let z = behind_token r (omega (arith, h)) in
    record { at = c; value = (x, ends k); bound = refl; whole = ap (λ (t : Token). g.index t.at x) (first_is z.is); deep = omega arith; reach = at_rest z }
bracket_split m t us e open' c w p (suffix_cut {t = u} {d = d} {c = k} {low = low} {high = high}) f s s' ts' r h =
    let z = behind_token r (omega (arith, h)) in
    let y = behind_part tt (at_rest z) h in
    cut_split t us open' c low y.as_symbols y.rule u d k high (first_is z.is) s s' ts' y.reach h
bracket_split m t us e open' c w p _ f s s' ts' r h = cc

bracket_write : (m : Mode) (c : ℕ) (u : Expr × Behind) (t : Token) (us : List Token) (s : List Sym) → t.kind ≡ kind.OpenBracket → Reach (bracket_line c u ++ s) us (suffix m c (bracket_node t u) ∷ s) (t ∷ us)
unfolding then_
bracket_write m c (x, ends k) t us s e = write _ suffix_index (read e here)
bracket_write m c (x, goes_on d high k) t us s e = write _ suffix_cut (read e (write _ an_expr here))

-- an index, or a cut whose low end is given
pub bracket_led : (m : Mode) (b : ℕ) (t : Token) (us : List Token) → t.kind ≡ kind.OpenBracket → StartsWithout kind.Colon us → Led (one (suffix m)) nothing_continues (λ n. n) b (t ∷ us) bracket_line (bracket_node t) 0 us
bracket_led m b t us e open' =
    led_at b us bracket_line (bracket_node t) (sample.expr, ends sample.token) (omega arith) same_depth (λ c v. tt) (λ c u s. bracket_write m c u t us s e)
    (λ c w p rule s s' ts' r h clear. bracket_split m t us e open' c w p rule (suffix_first rule s s' ts' t us r (omega (arith, h))) s s' ts' r h)
