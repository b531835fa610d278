-- The loop over what stands behind an operand.
use Rattle.std.proofs.Common.{◌≡◌, ℕ, suc, ◌*◌, ◌<◌, ◌≤◌, true, List, [], ◌∷◌, ◌++◌, length, refl, sym, subst, max}
use Rattle.odc_syntax.specs.declared.token.Token.{Token}
use Rattle.odc_syntax.specs.declared.token.TokenKind.{TokenKind}
use Rattle.odc_syntax.specs.declared.token.TokenKind.TheVariants as kind
use Rattle.odc_syntax.specs.declared.grammar.Mode.{Mode}
use Rattle.odc_syntax.specs.declared.grammar.Mode.TheVariants.{Free, Header, Start}
use Rattle.odc_syntax.specs.Tree.{Expr}
use Rattle.odc_syntax.specs.Tree as tree
use Rattle.odc_syntax.specs.Grammar.{Sym, Rule, later, postfix, operand, suffix, Suffix, suffixed, suffix_select, suffix_deref, suffix_index, suffix_call, suffix_or_return, suffix_literal, braces_}
use Rattle.odc_syntax.specs.Grammar as g
use Rattle.odc_syntax.specs.Derives.{Reach, here, read, write}
use Rattle.odc_lookahead.specs.declared.stop.Stop.{Stop}
use Rattle.odc_lookahead.specs.Exact.{size, Clear, one, Exact, Found, TooDeep, ComesAt}
use Rattle.odc_lookahead.specs.Read.{refused}
use Rattle.odc_lookahead.specs.Sets.{starts_suffix, takes_braces, nothing_continues}
use Rattle.odc_lookahead.proofs.reading.Opening.{OpensAll, reach_opens, First}
use Rattle.odc_lookahead.proofs.reading.Chaining.{Spine, Chain, Chained, chain_first, chain_more, chain_stop, chain_deep}
use Rattle.odc_lookahead.proofs.reading.Nesting.{Many, root, postfix_nested, many_chained, many_folds, many_unfolds}
use Rattle.odc_lookahead.proofs.reading.Answering.{tail_refused, bound_is}
use Rattle.odc_lookahead.proofs.reading.Samples as sample

abbrev pub Suffixes : Mode → Spine Expr
Suffixes m = Many (suffix m) suffixed

-- what has been read of an operand and what stands behind it
abbrev pub PostfixAt : Mode → ℕ → List Token → Expr → ℕ → List Token → Type 0
PostfixAt m b ts v n rest = Chain (postfix m) (Suffixes m) (starts_suffix m) b ts v n rest

nothing_clear : (s : List Sym) → Clear nothing_continues s
nothing_clear s = record { stops = λ t us s' ts' on r h. cc }

pub suffixes_first : (m : Mode) (b : ℕ) (ts : List Token) (v : Expr) (n : ℕ) (rest : List Token) → Found (one (operand m)) nothing_continues b ts v n rest → PostfixAt m b ts v n rest
suffixes_first m b ts v n rest found =
    let nested = postfix_nested m in
    chain_first (many_folds (postfix m) (operand m) (suffix m) suffixed nested) (many_unfolds (postfix m) (operand m) (suffix m) suffixed nested) root
    (λ c w d v q s is clear. nothing_clear (q ++ s)) found

suffixes : (m : Mode) → Chained (postfix m) (operand m) (suffix m) suffixed (Suffixes m) (Suffixes m)
suffixes m = many_chained (postfix m) (operand m) (suffix m) suffixed (postfix_nested m)

-- the first token of a suffix can be read
begun : {m : Mode} {c : ℕ} {ts : List Token} {left : ℕ} (v : Suffix) → ((s : List Sym) → (p : List Sym) × ((us : List Token) × ((length us ≡ left) × Reach (p ++ s) us (suffix m c v ∷ s) ts))) → ComesAt (one (suffix m)) c ts left
begun v f = record { value = v; before = λ s. let z = f s in record { pending = z.0 ++ s; rest = z.1.0; rest_is = z.1.1.0; reach = z.1.1.1 } }

pub takes_free : (m : Mode) → takes_braces m ≡ true → later m ≡ Free
takes_free Free e = refl
takes_free Header e = cc
takes_free Start e = refl

suffix_begins_by : (m : Mode) (k : TokenKind) (c : ℕ) (t : Token) (us : List Token) → t.kind ≡ k → starts_suffix m k ≡ true → ComesAt (one (suffix m)) c (t ∷ us) (length us)
suffix_begins_by m kind.Dot c t us e h = begun (g.select t.at sample.token) (λ s. (g.tok kind.Name sample.token ∷ [], (us, (refl, write _ suffix_select (read e here)))))
suffix_begins_by m kind.Caret c t us e h = begun (g.deref t.at) (λ s. ([], (us, (refl, write _ suffix_deref (read e here)))))
suffix_begins_by m kind.OpenBracket c t us e h = begun (g.index t.at sample.expr) (λ s. (g.expression Free c sample.expr ∷ g.tok kind.CloseBracket sample.token ∷ [], (us, (refl, write _ (suffix_index {c = sample.token}) (read e here)))))
suffix_begins_by m kind.OpenParen c t us e h = begun (g.call tree.no_args) (λ s. (g.args c tree.no_args ∷ g.tok kind.CloseParen sample.token ∷ [], (us, (refl, write _ (suffix_call {c = sample.token}) (read e here)))))
suffix_begins_by m kind.OrReturn c t us e h = begun g.or_return (λ s. ([], (us, (refl, write _ suffix_or_return (read e here)))))
suffix_begins_by m kind.OpenBrace c t us e h = begun (g.literal tree.no_args)
    (λ s. (
      g.args c tree.no_args ∷ g.tok kind.CloseBrace sample.token ∷ [],
      (
        us,
        (
          refl,
          write (g.braces (later m) c tree.no_args ∷ []) suffix_literal
              (subst (λ (k : Mode). Reach (g.args c tree.no_args ∷ g.tok kind.CloseBrace sample.token ∷ s) us (g.braces k c tree.no_args ∷ s) (t ∷ us)) (sym (takes_free m h)) (write _ (braces_ {c = sample.token}) (read e here))),
        ),
      ),
    ))
suffix_begins_by m _ c t us e h = cc

pub suffix_begins : (m : Mode) (c : ℕ) (ts : List Token) (t : Token) (us : List Token) → ts ≡ t ∷ us → starts_suffix m t.kind ≡ true → ComesAt (one (suffix m)) c ts (length us)
suffix_begins m c ts t us is h = subst (λ (l : List Token). ComesAt (one (suffix m)) c l (length us)) (sym is) (suffix_begins_by m t.kind c t us refl h)

pub suffix_more : (m : Mode) (d b : ℕ) (ts : List Token) (v : Expr) (n : ℕ) (rest : List Token) (t : Token) (us : List Token) (x : Suffix) (k : ℕ) (rest' : List Token) (w : Expr) (n' : ℕ) →
    d ≡ suc b → PostfixAt m d ts v n rest → n ≤ b → rest ≡ t ∷ us → starts_suffix m t.kind ≡ true → Found (one (suffix m)) nothing_continues b rest x k rest' → length rest' < length rest →
    w ≡ suffixed v x → n' ≡ suc (max n k) → PostfixAt m d ts w n' rest'
suffix_more m d b ts v n rest t us x k rest' w n' e led within is on found shorter made deep =
    let at_bound : PostfixAt m (suc b) ts v n rest = subst (λ (j : ℕ). PostfixAt m j ts v n rest) e led in
    let more = chain_more (suffixes m) at_bound within is on found shorter (λ c w d v q s a clear. nothing_clear (q ++ s)) in
    subst (λ (j : ℕ). PostfixAt m j ts w n' rest') (sym e) (subst (λ (y : Expr). PostfixAt m (suc b) ts y n' rest') (sym made) (subst (λ (j : ℕ). PostfixAt m (suc b) ts (suffixed v x) j rest') (sym deep) more))

pub suffix_refused : (m : Mode) (d b : ℕ) (ts : List Token) (v : Expr) (n : ℕ) (rest : List Token) (t : Token) (us : List Token) (e : Stop) →
    d ≡ suc b → PostfixAt m d ts v n rest → n ≤ b → rest ≡ t ∷ us → starts_suffix m t.kind ≡ true → Exact (one (suffix m)) nothing_continues b rest (refused e) →
    Exact (one (postfix m)) (starts_suffix m) d ts (refused e)
suffix_refused m d b ts v n rest t us stop e led within is on h =
    let at_bound : PostfixAt m (suc b) ts v n rest = subst (λ (j : ℕ). PostfixAt m j ts v n rest) e led in
    bound_is (one (postfix m)) (starts_suffix m) ts (refused stop) e
    (tail_refused stop (suffixes m) at_bound within is on h (suffix_begins m 0 rest t us is on) (λ c w d v q s a clear. nothing_clear (q ++ s)))

pub suffix_deep : (m : Mode) (d : ℕ) (ts : List Token) (v : Expr) (n : ℕ) (rest : List Token) (t : Token) (us : List Token) →
    PostfixAt m d ts v n rest → d ≤ n → rest ≡ t ∷ us → starts_suffix m t.kind ≡ true → TooDeep (one (postfix m)) (starts_suffix m) d ts (length us)
suffix_deep m d ts v n rest t us led over is on = chain_deep (suffixes m) led over is on (λ c. suffix_begins m c rest t us is on)

-- no suffix comes next
abbrev pub NoSuffix : Mode → List Token → Type 0
NoSuffix m ts = First (starts_suffix m) ts → ⊥

stuck_suffix : (m : Mode) (ts : List Token) → NoSuffix m ts → (c : ℕ) (o : Suffix) (s s' : List Sym) (ts' : List Token) → Reach s' ts' (suffix m c o ∷ s) ts → size s' ts' ≤ 2 * length ts → ⊥
stuck_suffix m ts none c o s s' ts' r h = none (let first : OpensAll (suffix m c o ∷ s) ts = reach_opens r h in first)

pub suffix_none : (m : Mode) (d : ℕ) (ts : List Token) (v : Expr) (n : ℕ) (rest : List Token) → PostfixAt m d ts v n rest → NoSuffix m rest → Found (one (postfix m)) (starts_suffix m) d ts v n rest
suffix_none m d ts v n rest led none = chain_stop (suffixes m) led (stuck_suffix m rest none)
