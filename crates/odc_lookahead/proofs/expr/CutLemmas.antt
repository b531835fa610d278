-- How an index or a cut goes on behind its first expression.
use Rattle.std.proofs.Common.{◌≡◌, ℕ, ◌*◌, ◌<◌, ◌≤◌, Bool, true, false, List, [], ◌∷◌, ◌++◌, length, refl, sym, ◌∙◌, ap, subst, arith, ◌⊎◌, inl, inr}
use Rattle.odc_syntax.specs.declared.token.Token.{Token}
use Rattle.odc_syntax.specs.declared.token.TokenKind.{TokenKind}
use Rattle.odc_syntax.specs.declared.token.TokenKind.TheVariants as kind
use Rattle.odc_syntax.specs.declared.grammar.Mode.TheVariants.{Free}
use Rattle.odc_syntax.specs.Tree.{Expr, MaybeExpr}
use Rattle.odc_syntax.specs.Tree as tree
use Rattle.odc_syntax.specs.Grammar.{Sym, tok, Rule, suffix, Suffix, suffix_index, suffix_cut, an_expr, no_expr}
use Rattle.odc_syntax.specs.Grammar as g
use Rattle.odc_syntax.specs.Derives.{Reach, here, read, write, StartsWithout}
use Rattle.odc_lookahead.specs.Exact.{size, Part, then_, done, token, Broken, TooDeep}
use Rattle.odc_lookahead.specs.Parts.{high_line}
use Rattle.odc_lookahead.specs.Sets.{starts_expression}
use Rattle.odc_lookahead.proofs.reading.Opening.{reach_opens}
use Rattle.odc_lookahead.proofs.reading.Reaching.{behind_token, behind_part}
use Rattle.odc_lookahead.proofs.reading.Leading.{same_depth, Led, first_is, without, at_rest}
use Rattle.odc_lookahead.proofs.reading.Answering.{led_step, led_stuck, led_over, Stepped}
use Rattle.odc_lookahead.proofs.expr.BracketLemmas.{Behind, ends, goes_on, behind_line}
use Rattle.odc_lookahead.proofs.reading.Samples as sample

abbrev pub rest_of_cut : Token → MaybeExpr × (Token × Unit {0}) → Behind
rest_of_cut d u = goes_on d u.0 u.1.0

close_by : {s' : List Sym} {ts' : List Token} (t : Token) (us : List Token) → t.kind ≡ kind.CloseBracket → (c : ℕ) (u : Behind) (s : List Sym) → Reach s' ts' (behind_line c u ++ s) (t ∷ us) → size s' ts' ≤ 2 * length us →
    Stepped done (λ x. ends t) c u s s' ts' us
unfolding done
close_by t us e c (ends k) s r h = let z = behind_token r (omega (arith, h)) in record { by = tt; is = ap ends (first_is z.is); reach = at_rest z }
close_by t us e c (goes_on d high k) s r h = let bad : t.kind ≡ kind.Colon = reach_opens r (omega (arith, h)) in cc

-- `]` ends an index
pub index_ends : {V : Type 0} {p : Part V} {cont : TokenKind → Bool} {b : ℕ} {ts : List Token} {f : Behind → V} {n : ℕ} (t : Token) (us : List Token) → t.kind ≡ kind.CloseBracket → n ≤ b →
    Led p cont (λ n. n) b ts behind_line f n (t ∷ us) → Led p cont (λ n. n) b ts done (λ u. f (ends t)) n us
unfolding done
index_ends t us e within l = led_step us done (λ u. ends t) tt same_depth within (omega arith) (λ c w s. read e here) (λ c u s s' ts' clear r h. close_by t us e c u s r h) l

colon_by : {s' : List Sym} {ts' : List Token} (t : Token) (us : List Token) → t.kind ≡ kind.Colon → (c : ℕ) (u : Behind) (s : List Sym) → Reach s' ts' (behind_line c u ++ s) (t ∷ us) → size s' ts' ≤ 2 * length us →
    Stepped high_line (rest_of_cut t) c u s s' ts' us
unfolding then_ token done
colon_by t us e c (ends k) s r h = let bad : t.kind ≡ kind.CloseBracket = reach_opens r (omega (arith, h)) in cc
colon_by t us e c (goes_on d high k) s r h = let z = behind_token r (omega (arith, h)) in record { by = (high, (k, tt)); is = ap (λ (d : Token). goes_on d high k) (first_is z.is); reach = at_rest z }

-- `:` goes on with a cut
pub cut_goes_on : {V : Type 0} {p : Part V} {cont : TokenKind → Bool} {b : ℕ} {ts : List Token} {f : Behind → V} {n : ℕ} (t : Token) (us : List Token) → t.kind ≡ kind.Colon → n ≤ b →
    Led p cont (λ n. n) b ts behind_line f n (t ∷ us) → Led p cont (λ n. n) b ts high_line (λ u. f (rest_of_cut t u)) n us
unfolding then_ token done
cut_goes_on t us e within l = led_step us high_line (rest_of_cut t) (tree.no_expr, (sample.token, tt)) same_depth within (omega arith) (λ c w s. read e here) (λ c u s s' ts' clear r h. colon_by t us e c u s r h) l

-- neither
behind_stuck : {s' : List Sym} {ts' : List Token} (rest : List Token) → StartsWithout kind.CloseBracket rest → StartsWithout kind.Colon rest → (c : ℕ) (u : Behind) (s : List Sym) → Reach s' ts' (behind_line c u ++ s) rest → size s' ts' ≤ 2 * length rest → ⊥
behind_stuck rest f e c (ends k) s r h = let z = behind_token r h in without kind.CloseBracket _ _ rest z.is z.kind f
behind_stuck rest f e c (goes_on d high k) s r h = let z = behind_token r h in without kind.Colon _ _ rest z.is z.kind e

pub behind_broken : {V : Type 0} {p : Part V} {cont : TokenKind → Bool} {b : ℕ} {ts : List Token} {f : Behind → V} {n : ℕ} {rest : List Token} → StartsWithout kind.CloseBracket rest → StartsWithout kind.Colon rest →
    Led p cont (λ n. n) b ts behind_line f n rest → Broken p cont b ts (length rest)
behind_broken {rest = rest} f e l = led_stuck (λ c u s s' ts' clear r h. behind_stuck rest f e c u s r h) l

-- either of them, behind what is too deep
pub behind_deep : {V : Type 0} {p : Part V} {cont : TokenKind → Bool} {b : ℕ} {ts : List Token} {f : Behind → V} {n : ℕ} {rest : List Token} (t : Token) (us : List Token) → rest ≡ t ∷ us → (t.kind ≡ kind.CloseBracket) ⊎ (t.kind ≡ kind.Colon) → b < n →
    Led p cont (λ n. n) b ts behind_line f n rest → TooDeep p cont b ts (length us)
behind_deep t us is (inl e) over l = led_over same_depth is over (λ c. (ends t, λ s. (s, subst (λ (r : List Token). Reach s us (tok kind.CloseBracket t ∷ s) r) (sym is) (read e here)))) l
behind_deep t us is (inr e) over l =
    led_over same_depth is over (λ c. (
      goes_on t tree.no_expr sample.token,
      λ s. (g.maybe_expr Free c tree.no_expr ∷ tok kind.CloseBracket sample.token ∷ s, subst (λ (r : List Token). Reach (g.maybe_expr Free c tree.no_expr ∷ tok kind.CloseBracket sample.token ∷ s) us (tok kind.Colon t ∷ g.maybe_expr Free c tree.no_expr ∷ tok kind.CloseBracket sample.token ∷ s) r) (sym is) (read e here)),
    )) l

-- the high end is left out, or it isn't
abbrev pub given_line : Part (Expr × (Token × Unit {0}))
given_line = then_ (g.expression Free) (then_ (token kind.CloseBracket) done)

abbrev pub with_high : Expr × (Token × Unit {0}) → MaybeExpr × (Token × Unit {0})
with_high u = (tree.some_expr u.0, u.1)

high_by : {s' : List Sym} {ts' : List Token} (rest : List Token) → StartsWithout kind.CloseBracket rest → (c : ℕ) (high : MaybeExpr) (k : Token) (p : List Sym) → Rule (g.maybe_expr Free c high) p → (s : List Sym) →
    Reach s' ts' (p ++ (tok kind.CloseBracket k ∷ s)) rest → size s' ts' ≤ 2 * length rest → Stepped given_line with_high c (high, (k, tt)) s s' ts' rest
unfolding then_ token done
high_by rest f c high k p (an_expr {e = x}) s r h = record { by = (x, (k, tt)); is = refl; reach = r }
high_by rest f c high k p no_expr s r h = let z = behind_token r h in absurd (without kind.CloseBracket _ _ rest z.is z.kind f)

pub high_given : {V : Type 0} {p : Part V} {cont : TokenKind → Bool} {b : ℕ} {ts : List Token} {f : MaybeExpr × (Token × Unit {0}) → V} {n : ℕ} {rest : List Token} → StartsWithout kind.CloseBracket rest → n ≤ b →
    Led p cont (λ n. n) b ts high_line f n rest → Led p cont (λ n. n) b ts given_line (λ u. f (with_high u)) n rest
unfolding then_ token done
high_given {rest = rest} e within l =
    led_step rest given_line with_high (sample.expr, (sample.token, tt)) same_depth within (omega arith) (λ c w s. write _ an_expr here)
    (λ c u s s' ts' clear r h. let z = behind_part tt r h in high_by rest e c u.0 u.1.0 z.as_symbols z.rule s z.reach h) l

abbrev pub without_high : Token → Unit {0} → MaybeExpr × (Token × Unit {0})
without_high t u = (tree.no_expr, (t, tt))

none_by : {s' : List Sym} {ts' : List Token} (t : Token) (us : List Token) → t.kind ≡ kind.CloseBracket → (c : ℕ) (high : MaybeExpr) (k : Token) (p : List Sym) → Rule (g.maybe_expr Free c high) p → (s : List Sym) →
    Reach s' ts' (p ++ (tok kind.CloseBracket k ∷ s)) (t ∷ us) → size s' ts' ≤ 2 * length us → Stepped done (without_high t) c (high, (k, tt)) s s' ts' us
unfolding done
none_by t us e c high k p an_expr s r h =
    let opens = reach_opens r (omega (arith, h)) in
    let bad : false ≡ true = sym (ap (starts_expression Free) e) ∙ opens in
    cc
none_by t us e c high k p no_expr s r h = let z = behind_token r (omega (arith, h)) in record { by = tt; is = ap (λ (k : Token). without_high k tt) (first_is z.is); reach = at_rest z }

pub high_none : {V : Type 0} {p : Part V} {cont : TokenKind → Bool} {b : ℕ} {ts : List Token} {f : MaybeExpr × (Token × Unit {0}) → V} {n : ℕ} (t : Token) (us : List Token) → t.kind ≡ kind.CloseBracket → n ≤ b →
    Led p cont (λ n. n) b ts high_line f n (t ∷ us) → Led p cont (λ n. n) b ts done (λ u. f (tree.no_expr, (t, tt))) n us
unfolding then_ token done
high_none t us e within l =
    led_step us done (without_high t) tt same_depth within (omega arith) (λ c w s. write [] no_expr (read e here))
    (λ c u s s' ts' clear r h. let z = behind_part tt r (omega (arith, h)) in none_by t us e c u.0 u.1.0 z.as_symbols z.rule s z.reach h) l
