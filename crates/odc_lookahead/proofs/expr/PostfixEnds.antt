-- The loop over what stands behind an operand that may end before a `.`.
use Rattle.std.proofs.Common.{◌≡◌, ℕ, suc, ◌-◌, ◌<◌, ◌≤◌, true, false, List, ◌∷◌, ◌++◌, length, sym, ◌∙◌, ap, subst, max, arith}
use Rattle.odc_syntax.specs.declared.token.Token.{Token}
use Rattle.odc_syntax.specs.declared.token.TokenKind.TheVariants as kind
use Rattle.odc_syntax.specs.declared.grammar.Mode.{Mode}
use Rattle.odc_syntax.specs.Tree.{Expr}
use Rattle.odc_syntax.specs.Grammar.{Sym, postfix, operand, suffix, Suffix, suffixed}
use Rattle.odc_syntax.specs.Derives.{Reach, StartsWithout}
use Rattle.odc_lookahead.specs.declared.end.End.{End}
use Rattle.odc_lookahead.specs.declared.end.End.TheVariants.{Sure, BeforeDot}
use Rattle.odc_lookahead.specs.declared.stop.Stop.{Stop}
use Rattle.odc_lookahead.specs.declared.stop.Stop.TheVariants as stop
use Rattle.odc_lookahead.specs.Exact.{one, Comes, Exact, Found, Broken, TooDeep}
use Rattle.odc_lookahead.specs.Ends.{AtDot, FoundTo, Over}
use Rattle.odc_lookahead.specs.Read.{refused, NotExpected}
use Rattle.odc_lookahead.specs.Sets.{starts_suffix, nothing_continues}
use Rattle.odc_lookahead.proofs.reading.Reaching.{moved}
use Rattle.odc_lookahead.proofs.reading.Opening.{First}
use Rattle.odc_lookahead.proofs.reading.Leading.{first_is, rest_is}
use Rattle.odc_lookahead.proofs.reading.Chaining.{Chained}
use Rattle.odc_lookahead.proofs.reading.Nesting.{root, postfix_nested, many_chained, many_folds, many_unfolds}
use Rattle.odc_lookahead.proofs.reading.Answering.{bound_is}
use Rattle.odc_lookahead.proofs.expr.SuffixLemmas.{assert_led, dot_broken}
use Rattle.odc_lookahead.proofs.expr.SuffixAnswers.{nothing_clear}
use Rattle.odc_lookahead.proofs.expr.PostfixLemmas.{Suffixes, NoSuffix, suffix_begins, suffix_deep, suffix_none}
use Rattle.odc_lookahead.proofs.expr.EndChains.{ChainTo, chain_to, sure_chain, chain_first_to, chain_more_to, tail_refused_to, tail_comes, at_first_to}
use Rattle.odc_lookahead.specs.declared.tokens.Fit.TheVariants as fit

-- what has been read of an operand and what stands behind it
abbrev pub PostfixTo : Mode → ℕ → List Token → Expr → ℕ → List Token → End → Type 0
PostfixTo m b ts v n rest end = ChainTo (postfix m) (Suffixes m) (starts_suffix m) b ts v n rest end

links : (m : Mode) → Chained (postfix m) (operand m) (suffix m) suffixed (Suffixes m) (Suffixes m)
links m = many_chained (postfix m) (operand m) (suffix m) suffixed (postfix_nested m)

pub suffixes_first_to : (m : Mode) (b : ℕ) (ts : List Token) (v : Expr) (n : ℕ) (rest : List Token) (end : End) → FoundTo (one (operand m)) nothing_continues b ts v n rest end → PostfixTo m b ts v n rest end
suffixes_first_to m b ts v n rest end found =
    let nested = postfix_nested m in
    chain_first_to (many_folds (postfix m) (operand m) (suffix m) suffixed nested) (many_unfolds (postfix m) (operand m) (suffix m) suffixed nested) root
    (λ c w d v q s is clear. nothing_clear (q ++ s)) found

pub suffix_more_to : (m : Mode) (d b : ℕ) (ts : List Token) (v : Expr) (n : ℕ) (rest : List Token) (end : End) (t : Token) (us : List Token) (x : Suffix) (k : ℕ) (rest' : List Token) (w : Expr) (n' : ℕ) →
    d ≡ suc b → PostfixTo m d ts v n rest end → n ≤ b → rest ≡ t ∷ us → starts_suffix m t.kind ≡ true → Found (one (suffix m)) nothing_continues b rest x k rest' → length rest' < length rest →
    w ≡ suffixed v x → n' ≡ suc (max n k) → PostfixTo m d ts w n' rest' Sure
suffix_more_to m d b ts v n rest end t us x k rest' w n' e led within is on found shorter made deep =
    let at_bound : PostfixTo m (suc b) ts v n rest end = subst (λ (j : ℕ). PostfixTo m j ts v n rest end) e led in
    let more = chain_to (chain_more_to (links m) end at_bound within is on found shorter (λ c w d v q s a clear. nothing_clear (q ++ s))) in
    subst (λ (j : ℕ). PostfixTo m j ts w n' rest' Sure) (sym e)
    (subst (λ (y : Expr). PostfixTo m (suc b) ts y n' rest' Sure) (sym made) (subst (λ (j : ℕ). PostfixTo m (suc b) ts (suffixed v x) j rest' Sure) (sym deep) more))

pub suffix_refused_to : (m : Mode) (d b : ℕ) (ts : List Token) (v : Expr) (n : ℕ) (rest : List Token) (end : End) (t : Token) (us : List Token) (e : Stop) →
    d ≡ suc b → PostfixTo m d ts v n rest end → n ≤ b → rest ≡ t ∷ us → starts_suffix m t.kind ≡ true → Exact (one (suffix m)) nothing_continues b rest (refused e) →
    Exact (one (postfix m)) (starts_suffix m) d ts (refused e)
suffix_refused_to m d b ts v n rest end t us stop e led within is on h =
    let at_bound : PostfixTo m (suc b) ts v n rest end = subst (λ (j : ℕ). PostfixTo m j ts v n rest end) e led in
    bound_is (one (postfix m)) (starts_suffix m) ts (refused stop) e
    (tail_refused_to (links m) end stop at_bound within is on h (suffix_begins m 0 rest t us is on) (λ c w d v q s a clear. nothing_clear (q ++ s)))

-- no suffix comes next
pub suffix_none_to : (m : Mode) (d : ℕ) (ts : List Token) (v : Expr) (n : ℕ) (rest : List Token) (end : End) → PostfixTo m d ts v n rest end → NoSuffix m rest → Found (one (postfix m)) (starts_suffix m) d ts v n rest
suffix_none_to m d ts v n rest Sure led none = suffix_none m d ts v n rest (sure_chain led) none
suffix_none_to m d ts v n rest BeforeDot led none =
    let z = led.follows in
    absurd (none (subst (λ (l : List Token). First (starts_suffix m) l) (sym z.is) (ap (starts_suffix m) z.kind)))

-- A suffix comes next, and what is read is already as deep as it may be. Where the `.` may still be read
-- with the operand, the token behind it tells.
broken_behind : (m : Mode) (d : ℕ) (ts : List Token) (v : Expr) (n : ℕ) (rest : List Token) (t : Token) (us : List Token) → PostfixTo m d ts v n rest BeforeDot → rest ≡ t ∷ us → t.kind ≡ kind.Dot → StartsWithout kind.Name us →
    StartsWithout kind.OpenParen us → Broken (one (postfix m)) (starts_suffix m) d ts (length us)
broken_behind m d ts v n rest t us led is dot no_name no_paren =
    let longer : length rest ≡ suc (length us) = ap length is in
    let near : length rest - 1 ≡ length us = omega (arith, longer) in
    record {
      short = let h = led.short in omega (arith, h, longer);
      comes = subst (λ (k : ℕ). Comes (one (postfix m)) d ts k) near led.comes;
      none = λ c w s s' ts' clear r h.
          let z = led.only c w s s' ts' clear r (omega (arith, h, near)) in
          let y = at_first_to clear is (ap (starts_suffix m) dot) ((links m).first c w z.at v z.tails z.is) z.reach (omega (arith, h)) in
          (dot_broken m z.at t us dot no_name no_paren).none z.at y.by (y.others ++ s) s' ts' (nothing_clear (y.others ++ s))
          (subst (λ (l : List Token). Reach s' ts' (suffix m z.at y.by ∷ (y.others ++ s)) l) is (moved (ap (λ (l : List Sym). l ++ s) y.is) z.reach)) h;
    }

deep_behind : (m : Mode) (d : ℕ) (ts : List Token) (v : Expr) (n : ℕ) (rest : List Token) (t : Token) (us : List Token) (o : Token) (inner : List Token) → PostfixTo m d ts v n rest BeforeDot → rest ≡ t ∷ us → t.kind ≡ kind.Dot → d ≤ n →
    us ≡ o ∷ inner → o.kind ≡ kind.OpenParen → TooDeep (one (postfix m)) (starts_suffix m) d ts (length inner)
deep_behind m d ts v n rest t us o inner led is dot over second paren =
    let longer : length rest ≡ suc (length us) = ap length is in
    let near : length us ≡ suc (length inner) = ap length second in
    let both : rest ≡ t ∷ o ∷ inner = is ∙ ap (λ (l : List Token). t ∷ l) second in
    let next : Comes (one (suffix m)) n rest (length inner) = subst (λ (l : List Token). Comes (one (suffix m)) n l (length inner)) (sym both) (assert_led m n t o inner dot paren).comes in
    record {
      short = let h = led.short in omega (arith, h, longer, near);
      comes = subst (λ (k : ℕ). Comes (one (postfix m)) d ts k) (let e : length rest - 1 ≡ suc (length inner) = omega (arith, longer, near) in e) led.comes;
      deep = λ c w s s' ts' clear r h.
          let z = led.only c w s s' ts' clear r (omega (arith, h, longer, near)) in
          let y = at_first_to clear is (ap (starts_suffix m) dot) ((links m).first c w z.at v z.tails z.is) z.reach (omega (arith, h, near)) in
          let above = y.above in
          let deep = z.deep in
          omega (arith, above, deep, over);
      depth = suc n;
      deeper = tail_comes (links m) led (omega arith) next;
    }

over_by : (m : Mode) (d : ℕ) (ts : List Token) (v : Expr) (n : ℕ) (rest : List Token) (t : Token) (us : List Token) (e : Stop) → PostfixTo m d ts v n rest BeforeDot → d ≤ n → rest ≡ t ∷ us → NotExpected kind.OpenParen fit.Over us e → (z : AtDot rest) →
    Exact (one (postfix m)) (starts_suffix m) d ts (refused e)
over_by m d ts v n rest t us (stop.Syntax left) led over is h z =
    let dot : t.kind ≡ kind.Dot = ap (λ (t : Token). t.kind) (first_is (sym z.is ∙ is)) ∙ z.kind in
    let no_name : StartsWithout kind.Name us = subst (λ (l : List Token). StartsWithout kind.Name l) (rest_is (sym is ∙ z.is)) z.no_name in
    subst (λ (k : ℕ). Broken (one (postfix m)) (starts_suffix m) d ts k) (sym h.0) (broken_behind m d ts v n rest t us led is dot no_name h.1)
over_by m d ts v n rest t us (stop.Deep left) led over is h z =
    let dot : t.kind ≡ kind.Dot = ap (λ (t : Token). t.kind) (first_is (sym z.is ∙ is)) ∙ z.kind in
    subst (λ (k : ℕ). TooDeep (one (postfix m)) (starts_suffix m) d ts k) (sym h.left_is) (deep_behind m d ts v n rest t us h.first h.rest led is dot over h.is h.kind)
over_by m d ts v n rest t us stop.Memory led over is h z = elim h [ ]

sure_over : (m : Mode) (d : ℕ) (ts : List Token) (v : Expr) (n : ℕ) (rest : List Token) (t : Token) (us : List Token) (e : Stop) → PostfixTo m d ts v n rest Sure → d ≤ n → rest ≡ t ∷ us → starts_suffix m t.kind ≡ true → e ≡ stop.Deep (length us) →
    Exact (one (postfix m)) (starts_suffix m) d ts (refused e)
sure_over m d ts v n rest t us e led over is on h = subst (λ (e : Stop). Exact (one (postfix m)) (starts_suffix m) d ts (refused e)) (sym h) (suffix_deep m d ts v n rest t us (sure_chain led) over is on)

pub suffix_over : (m : Mode) (d : ℕ) (ts : List Token) (v : Expr) (n : ℕ) (rest : List Token) (end : End) (t : Token) (us : List Token) (e : Stop) → PostfixTo m d ts v n rest end → d ≤ n → rest ≡ t ∷ us → starts_suffix m t.kind ≡ true → Over end us e →
    Exact (one (postfix m)) (starts_suffix m) d ts (refused e)
suffix_over m d ts v n rest Sure t us e led over is on h = sure_over m d ts v n rest t us e led over is on h
suffix_over m d ts v n rest BeforeDot t us e led over is on h = over_by m d ts v n rest t us e led over is h led.follows
