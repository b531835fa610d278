-- Parameters with names, and parameters without: what the names in front leave of the two.
use Rattle.std.proofs.Common.{◌≡◌, ℕ, suc, ◌*◌, ◌<◌, ◌≤◌, true, false, List, [], ◌∷◌, ◌++◌, length, refl, sym, ◌∙◌, ap, subst, arith}
use Rattle.std.proofs.Math.Nat.{lt_of_not-le}
use Rattle.odc_syntax.specs.declared.token.Token.{Token}
use Rattle.odc_syntax.specs.declared.token.TokenKind.TheVariants as kind
use Rattle.odc_syntax.specs.declared.grammar.Use.{Use}
use Rattle.odc_syntax.specs.declared.grammar.Use.TheVariants.{Parameter}
use Rattle.odc_syntax.specs.Tree.{Type_, Param, Params}
use Rattle.odc_syntax.specs.Grammar.{Sym, tok, Rule, type_, constructed}
use Rattle.odc_syntax.specs.Grammar as g
use Rattle.odc_syntax.specs.Derives.{Reach, here, StartsWithout}
use Rattle.odc_lookahead.specs.Exact.{size, Part, Comes, Exact, Answer, Yes, Syntax, Deep, NoMemory}
use Rattle.odc_lookahead.specs.ParamForms.{Front, plain, dollar}
use Rattle.odc_lookahead.specs.stmts.Runs.{Declares, named, listed, Undeclared, unnamed, ended, again}
use Rattle.odc_lookahead.specs.Sets.{starts_constructed, nothing_continues}
use Rattle.odc_lookahead.proofs.reading.Opening.{reach_opens, StartsWith}
use Rattle.odc_lookahead.proofs.reading.Reaching.{along, behind_token, behind_part, behind_not_next}
use Rattle.odc_lookahead.proofs.reading.Leading.{without, at_rest}
use Rattle.odc_lookahead.proofs.expr.SuffixAnswers.{nothing_clear}
use Rattle.odc_lookahead.proofs.separated.NamesAnswers.{not_first}
use Rattle.odc_lookahead.proofs.types.TypeLemmas.{TypeBegins, type_first}

-- One of several parts, each of which comes as far as the place where k tokens are left, goes on from there
-- alone. What is read of it, is read of them all.
ends_here : {s' : List Sym} {ts' ts : List Token} → Reach s' ts' [] ts → length ts' ≡ length ts
ends_here here = refl

at_most : (s : List Sym) (ts : List Token) → size s ts ≤ suc (2 * length ts)
at_most [] ts = omega arith
at_most (x ∷ s) ts = omega arith

module _ {V : Type 0} (p q : Part V) (b k : ℕ) (ts : List Token)
    (into : (c : ℕ) (v : V) (s : List Sym) → Reach (q c v ++ s) ts (p c v ++ s) ts)
    (split : (c : ℕ) (w : V) (s s' : List Sym) (ts' : List Token) → Reach s' ts' (p c w ++ s) ts → size s' ts' ≤ 2 * k → Reach s' ts' (q c w ++ s) ts)
    (comes : Comes q b ts k) where
  carried : (d left : ℕ) → Comes q d ts left → Comes p d ts left
  carried d left comes' = record {
    at = λ c h.
        let a = comes'.at c h in
        record { value = a.value; before = λ s. let z = a.before s in record { pending = z.pending; rest = z.rest; rest_is = z.rest_is; reach = along (into c a.value s) z.reach } };
  }

  pub chosen : (r : Answer V) → Exact q nothing_continues b ts r → Exact p nothing_continues b ts r
  chosen (Yes v n rest) found =
      let a = comes.at b (omega arith) in
      let z = a.before [] in
      let e = z.rest_is in
      let near : length rest < suc k =
      lt_of_not-le (λ h.
      let y = found.only b a.value [] z.pending z.rest (nothing_clear []) z.reach (let u = at_most z.pending z.rest in omega (arith, u, e, h)) in
      let same = ends_here y.reach in
      omega (arith, same, e, h))
      in
      record {
        short = found.short;
        comes = carried b (length rest) found.comes;
        reads = λ c h s. along (into c v s) (found.reads c h s);
        only = λ c w s s' ts' clear r h. found.only c w s s' ts' clear (split c w s s' ts' r (omega (arith, h, near))) h;
      }
  chosen (Syntax left) broken =
      let a = comes.at b (omega arith) in
      let z = a.before [] in
      let e = z.rest_is in
      let near : left < suc k = lt_of_not-le (λ h. broken.none b a.value [] z.pending z.rest (nothing_clear []) z.reach (let u = at_most z.pending z.rest in omega (arith, u, e, h))) in
      record {
        short = broken.short;
        comes = carried b left broken.comes;
        none = λ c w s s' ts' clear r h. broken.none c w s s' ts' clear (split c w s s' ts' r (omega (arith, h, near))) h;
      }
  chosen (Deep left) deep =
      let a = comes.at b (omega arith) in
      let z = a.before [] in
      let e = z.rest_is in
      let near : left < k =
      lt_of_not-le (λ h.
      let bad : b < b = deep.deep b a.value [] z.pending z.rest (nothing_clear []) z.reach (let u = at_most z.pending z.rest in omega (arith, u, e, h)) in
      omega (arith, bad))
      in
      record {
        short = deep.short;
        comes = carried b (suc left) deep.comes;
        deep = λ c w s s' ts' clear r h. deep.deep c w s s' ts' clear (split c w s s' ts' r (omega (arith, h, near))) h;
        depth = deep.depth;
        deeper = carried deep.depth left deep.deeper;
      }
  chosen NoMemory h = tt

-- names, and what they leave
pub leads_short : {us after : List Token} → Declares us after → length after < length us
leads_short (named _ _ _ e f) = omega arith
leads_short (listed _ _ _ _ e f l) = let h = leads_short l in omega (arith, h)

pub blocked_short : {us at : List Token} → Undeclared us at → length at ≤ length us
blocked_short (unnamed _ e) = omega arith
blocked_short (ended _ _ e f o) = omega arith
blocked_short (again _ _ _ _ e f b) = let h = blocked_short b in omega (arith, h)

alone_dead : {ns : List Token} {p : List Sym} → Rule (g.names ns) p → (t : Token) (rest : List Token) → StartsWithout kind.Comma rest → StartsWithout kind.Colon rest → (k : Token) (s s' : List Sym) (ts' : List Token) → Reach s' ts' (p ++ (tok kind.Colon k ∷ s)) (t ∷ rest) →
    size s' ts' ≤ 2 * length rest → ⊥
alone_dead g.names_one t rest f o k s s' ts' r h = let z = behind_token r (omega (arith, h)) in let y = behind_token (at_rest z) h in without kind.Colon _ _ rest y.is y.kind o
alone_dead g.names_more t rest f o k s s' ts' r h = let z = behind_token r (omega (arith, h)) in let y = behind_token (at_rest z) h in without kind.Comma _ _ rest y.is y.kind f

again_dead : {ns : List Token} {p : List Sym} → Rule (g.names ns) p → (t c : Token) (us at : List Token) → c.kind ≡ kind.Comma → length at ≤ length us → (k : Token) (s s' : List Sym) (ts' : List Token) → Reach s' ts' (p ++ (tok kind.Colon k ∷ s)) (t ∷ c ∷ us) →
    size s' ts' ≤ 2 * length at → ((ns : List Token) (k : Token) (s s' : List Sym) (ts' : List Token) → Reach s' ts' (g.names ns ∷ tok kind.Colon k ∷ s) us → size s' ts' ≤ 2 * length at → ⊥) → ⊥
again_dead g.names_one t c us at f short k s s' ts' r h rec =
    let z = behind_token r (omega (arith, h, short)) in
    let bad : c.kind ≡ kind.Colon = reach_opens (at_rest z) (omega (arith, h, short)) in
    cc
again_dead g.names_more t c us at f short k s s' ts' r h rec =
    let z = behind_token r (omega (arith, h, short)) in
    let y = behind_token (at_rest z) (omega (arith, h, short)) in
    rec _ k s s' ts' (at_rest y) h

names_dead : {us at : List Token} → Undeclared us at → (ns : List Token) (k : Token) (s s' : List Sym) (ts' : List Token) → Reach s' ts' (g.names ns ∷ tok kind.Colon k ∷ s) us → size s' ts' ≤ 2 * length at → ⊥
names_dead {us} (unnamed _ none) ns k s s' ts' r h = not_first kind.Name us none (reach_opens r h)
names_dead (ended t rest e f o) ns k s s' ts' r h = let z = behind_part tt r (omega (arith, h)) in alone_dead z.rule t rest f o k s s' ts' z.reach h
names_dead (again t c us at e f b) ns k s s' ts' r h =
    let short = blocked_short b in
    let z = behind_part tt r (omega (arith, h, short)) in
    again_dead z.rule t c us at f short k s s' ts' z.reach h (λ ns k s s' ts' r h. names_dead b ns k s s' ts' r h)

-- parameters with names go no farther than their names
named_by : {u : Use} {c : ℕ} {w : Param} {p : List Sym} (rule : Rule (g.named_param u c w) p) (ts at : List Token) → (u ≡ Parameter → StartsWithout kind.Dollar ts) → Undeclared ts at → (s s' : List Sym) (ts' : List Token) → Reach s' ts' (p ++ s) ts → size s' ts' ≤ 2 * length at → ⊥
named_by g.named_typed ts at none b s s' ts' r h = names_dead b _ _ _ s' ts' r h
named_by g.named_typeid ts at none b s s' ts' r h = names_dead b _ _ _ s' ts' r h
named_by g.named_inferred ts at none b s s' ts' r h = names_dead b _ _ _ s' ts' r h
named_by g.dollar_typeid ts at none b s s' ts' r h = let short = blocked_short b in let z = behind_token r (omega (arith, h, short)) in without kind.Dollar _ _ ts z.is z.kind (none refl)
named_by g.dollar_int ts at none b s s' ts' r h = let short = blocked_short b in let z = behind_token r (omega (arith, h, short)) in without kind.Dollar _ _ ts z.is z.kind (none refl)

dollar_by : {u : Use} {c : ℕ} {w : Param} {p : List Sym} (rule : Rule (g.named_param u c w) p) (t : Token) (us at : List Token) → t.kind ≡ kind.Dollar → Undeclared us at → (s s' : List Sym) (ts' : List Token) → Reach s' ts' (p ++ s) (t ∷ us) → size s' ts' ≤ 2 * length at → ⊥
dollar_by g.named_typed t us at e b s s' ts' r h = let short = blocked_short b in let bad : t.kind ≡ kind.Name = reach_opens r (omega (arith, h, short)) in cc
dollar_by g.named_typeid t us at e b s s' ts' r h = let short = blocked_short b in let bad : t.kind ≡ kind.Name = reach_opens r (omega (arith, h, short)) in cc
dollar_by g.named_inferred t us at e b s s' ts' r h = let short = blocked_short b in let bad : t.kind ≡ kind.Name = reach_opens r (omega (arith, h, short)) in cc
dollar_by g.dollar_typeid t us at e b s s' ts' r h = let short = blocked_short b in let z = behind_token r (omega (arith, h, short)) in names_dead b _ _ _ s' ts' (at_rest z) h
dollar_by g.dollar_int t us at e b s s' ts' r h = let short = blocked_short b in let z = behind_token r (omega (arith, h, short)) in names_dead b _ _ _ s' ts' (at_rest z) h

pub named_dead : {u : Use} {ts us at : List Token} → Front u ts us → Undeclared us at → (c : ℕ) (w : Param) (s s' : List Sym) (ts' : List Token) → Reach s' ts' (g.named_param u c w ∷ s) ts → size s' ts' ≤ 2 * length at → ⊥
named_dead {ts = ts} {at = at} (plain none) b c w s s' ts' r h = let short = blocked_short b in let z = behind_part tt r (omega (arith, h, short)) in named_by z.rule ts at none b s s' ts' z.reach h
named_dead {us = us} {at = at} (dollar {t = t} i e) b c w s s' ts' r h = let short = blocked_short b in let z = behind_part tt r (omega (arith, h, short)) in dollar_by z.rule t us at e b s s' ts' z.reach h

-- parameters without names go no farther than the colon behind names
type_by : {u : Use} {c : ℕ} {w : Type_} {p : List Sym} (rule : Rule (type_ u c w) p) (t k : Token) (us : List Token) (l : ℕ) → t.kind ≡ kind.Name → (k.kind ≡ kind.Dot → ⊥) → g.behind_name u ≡ g.not_next kind.Dot → TypeBegins rule t.kind → (s s' : List Sym) (ts' : List Token) →
    Reach s' ts' (p ++ s) (t ∷ k ∷ us) → size s' ts' ≤ 2 * l → l ≤ length us → Reach s' ts' s (k ∷ us)
type_by g.type_named t k us l e no_dot look f s s' ts' r h short =
    let z = behind_token r (omega (arith, h, short)) in
    (behind_not_next (subst (λ (x : Sym). Reach s' ts' (x ∷ s) (k ∷ us)) look (at_rest z)) (omega (arith, h, short))).1
type_by g.type_member t k us l e no_dot look f s s' ts' r h short =
    let z = behind_token r (omega (arith, h, short)) in
    absurd (no_dot (reach_opens (at_rest z) (omega (arith, h, short))))
type_by g.type_group t k us l e no_dot look f s s' ts' r h short = let bad : kind.Name ≡ kind.OpenParen = sym e ∙ f in cc
type_by g.type_proc t k us l e no_dot look f s s' ts' r h short = let bad : kind.Name ≡ kind.Proc = sym e ∙ f in cc
type_by (g.type_constructed {u = u}) t k us l e no_dot look f s s' ts' r h short = let bad : false ≡ true = ap (starts_constructed u) (sym e) ∙ f in cc

bare_by : {u : Use} {c : ℕ} {w : Param} {p : List Sym} (rule : Rule (g.bare_param u c w) p) (t k : Token) (us : List Token) (l : ℕ) → t.kind ≡ kind.Name → (k.kind ≡ kind.Dot → ⊥) → g.behind_name u ≡ g.not_next kind.Dot → (s s' : List Sym) (ts' : List Token) →
    Reach s' ts' (p ++ s) (t ∷ k ∷ us) → size s' ts' ≤ 2 * l → l ≤ length us → Reach s' ts' s (k ∷ us)
bare_by g.bare_type t k us l e no_dot look s s' ts' r h short =
    let z = behind_part tt r (omega (arith, h, short)) in
    type_by z.rule t k us l e no_dot look (type_first z.rule s s' ts' t (k ∷ us) z.reach (omega (arith, h, short))) s s' ts' z.reach h short

abbrev pub BareDead : Use → List Token → List Token → Type 0
BareDead u us after = (c : ℕ) (p : Param) (ps : Params) (x : Token) (s s' : List Sym) (ts' : List Token) → Reach s' ts' (g.bare_param u c p ∷ g.more_bare u c ps ∷ tok kind.CloseParen x ∷ s) us → size s' ts' ≤ 2 * length after → ⊥

pub colon_by : {u : Use} {c : ℕ} {w : Params} {p : List Sym} (rule : Rule (g.more_bare u c w) p) (k : Token) (us : List Token) → k.kind ≡ kind.Colon → (x : Token) (s s' : List Sym) (ts' : List Token) → Reach s' ts' (p ++ (tok kind.CloseParen x ∷ s)) (k ∷ us) →
    size s' ts' ≤ 2 * length us → ⊥
colon_by g.bare_end k us e x s s' ts' r h = let bad : k.kind ≡ kind.CloseParen = reach_opens r (omega (arith, h)) in cc
colon_by g.bare_comma k us e x s s' ts' r h = let bad : k.kind ≡ kind.Comma = reach_opens r (omega (arith, h)) in cc
colon_by g.bare_more k us e x s s' ts' r h = let bad : k.kind ≡ kind.Comma = reach_opens r (omega (arith, h)) in cc

pub leads_name : {us after : List Token} → Declares us after → StartsWith kind.Name us
leads_name (named _ _ _ e f) = e
leads_name (listed _ _ _ _ e f l) = e

not_both : (ts : List Token) → StartsWith kind.Name ts → StartsWith kind.CloseParen ts → ⊥
not_both [] e f = e
not_both (t ∷ ts) e f = let bad : kind.Name ≡ kind.CloseParen = sym e ∙ f in cc

pub comma_by : {u : Use} {c : ℕ} {w : Params} {p : List Sym} (rule : Rule (g.more_bare u c w) p) (k : Token) (us after : List Token) → k.kind ≡ kind.Comma → Declares us after → BareDead u us after → (x : Token) (s s' : List Sym) (ts' : List Token) →
    Reach s' ts' (p ++ (tok kind.CloseParen x ∷ s)) (k ∷ us) → size s' ts' ≤ 2 * length after → ⊥
comma_by g.bare_end k us after e l dead x s s' ts' r h = let short = leads_short l in let bad : k.kind ≡ kind.CloseParen = reach_opens r (omega (arith, h, short)) in cc
comma_by g.bare_comma k us after e l dead x s s' ts' r h =
    let short = leads_short l in
    let z = behind_token r (omega (arith, h, short)) in
    not_both us (leads_name l) (reach_opens (at_rest z) (omega (arith, h, short)))
comma_by (g.bare_more {b = b} {p = p} {ps = ps}) k us after e l dead x s s' ts' r h =
    let short = leads_short l in
    let z = behind_token r (omega (arith, h, short)) in
    dead b p ps x s s' ts' (at_rest z) h

pub bare_dead : {us after : List Token} (u : Use) → g.behind_name u ≡ g.not_next kind.Dot → Declares us after → BareDead u us after
bare_dead u look (named t k after e f) c p ps x s s' ts' r h =
    let z = behind_part tt r (omega (arith, h)) in
    let y = bare_by z.rule t k after (length after) e (λ d. let bad : kind.Colon ≡ kind.Dot = sym f ∙ d in cc) look (g.more_bare u c ps ∷ tok kind.CloseParen x ∷ s) s' ts' z.reach h (omega arith) in
    let w = behind_part tt y (omega (arith, h)) in
    colon_by w.rule k after f x s s' ts' w.reach h
bare_dead u look (listed t k us after e f l) c p ps x s s' ts' r h =
    let short = leads_short l in
    let z = behind_part tt r (omega (arith, h, short)) in
    let y = bare_by z.rule t k us (length after) e (λ d. let bad : kind.Comma ≡ kind.Dot = sym f ∙ d in cc) look (g.more_bare u c ps ∷ tok kind.CloseParen x ∷ s) s' ts' z.reach h (omega (arith, short)) in
    let w = behind_part tt y (omega (arith, h, short)) in
    comma_by w.rule k us after f l (bare_dead u look l) x s s' ts' w.reach h
