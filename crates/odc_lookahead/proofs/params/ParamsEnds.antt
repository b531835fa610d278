-- A list without names that is read as a whole ends behind its closing token, and so behind the names in
-- front.
use Rattle.std.proofs.Common.{◌≡◌, ℕ, ◌<◌, List, [], ◌∷◌, ◌++◌, length, sym, ◌∙◌, arith, ◌⊎◌, inl, inr}
use Rattle.std.proofs.Math.Nat.{lt_of_not-le, eq-or-lt_of_le}
use Rattle.odc_syntax.specs.declared.token.Token.{Token}
use Rattle.odc_syntax.specs.declared.token.TokenKind.{TokenKind}
use Rattle.odc_syntax.specs.declared.token.TokenKind.TheVariants as kind
use Rattle.odc_syntax.specs.declared.grammar.Use.{Use}
use Rattle.odc_syntax.specs.Tree.{Params}
use Rattle.odc_syntax.specs.Tree as tree
use Rattle.odc_syntax.specs.Grammar.{Sym, tok, Rule}
use Rattle.odc_syntax.specs.Grammar as g
use Rattle.odc_syntax.specs.Derives.{Reach, here, read, read_said, see, see_not, see_no_member, write}
use Rattle.odc_lookahead.specs.Exact.{Found}
use Rattle.odc_lookahead.specs.ParamForms.{Front, plain, dollar}
use Rattle.odc_lookahead.specs.stmts.Runs.{Undeclared, unnamed, ended, again}
use Rattle.odc_lookahead.specs.Sets.{nothing_continues}
use Rattle.odc_lookahead.specs.TypeParts.{bare_params, bare_line}
use Rattle.odc_lookahead.proofs.expr.SuffixAnswers.{nothing_clear}
use Rattle.odc_lookahead.proofs.params.ParamsChoice.{blocked_short}
use Rattle.odc_lookahead.proofs.params.ParamsAnswers.{front_goes}
use Rattle.odc_lookahead.proofs.reading.Samples as sample

-- the last of these symbols is a token of this kind
data EndsWith (k : TokenKind) : List Sym → Type 0 where
  token : (x : Token) → EndsWith k (tok k x ∷ [])
  behind : {y : Sym} {s : List Sym} → EndsWith k s → EndsWith k (y ∷ s)

-- a token of this kind stands right before these tokens
data Before (k : TokenKind) (rest : List Token) : List Token → Type 0 where
  at : {t : Token} → t.kind ≡ k → Before k rest (t ∷ rest)
  skip : {t : Token} {ts : List Token} → Before k rest ts → Before k rest (t ∷ ts)

before_short : {k : TokenKind} {rest ts : List Token} → Before k rest ts → length rest < length ts
before_short (at e) = omega arith
before_short (skip b) = let h = before_short b in omega (arith, h)

ends_more : {k : TokenKind} (p : List Sym) {s : List Sym} → EndsWith k s → EndsWith k (p ++ s)
ends_more [] e = e
ends_more (x ∷ p) e = behind (ends_more p e)

last_read : {k : TokenKind} {rest ts : List Token} {t : Token} → t.kind ≡ k → Reach [] rest [] ts → Before k rest (t ∷ ts)
last_read e here = at e

ends_before : {k : TokenKind} {rest : List Token} {s : List Sym} {ts : List Token} → EndsWith k s → Reach [] rest s ts → Before k rest ts
ends_before (token x) (read e r) = last_read e r
ends_before (behind m) (read e r) = skip (ends_before m r)
ends_before (behind m) (read_said e f r) = skip (ends_before m r)
ends_before (behind m) (see e r) = ends_before m r
ends_before (behind m) (see_not e r) = ends_before m r
ends_before (behind m) (see_no_member e r) = ends_before m r
ends_before (behind m) (write p w r) = ends_before (ends_more p m) r
ends_before (token x) (write p w r) = elim w [ ]

not_before : {us at' rest : List Token} → Undeclared us at' → Before kind.CloseParen rest us → length rest ≡ length at' → ⊥
not_before (unnamed _ none) b e = let h = before_short b in omega (arith, h, e)
not_before (ended _ _ f c o) (at i) e = let bad : kind.Name ≡ kind.CloseParen = sym f ∙ i in cc
not_before (ended _ _ f c o) (skip b) e = let h = before_short b in omega (arith, h, e)
not_before (again _ _ _ _ f c l) (at i) e = let h = blocked_short l in omega (arith, h, e)
not_before (again _ _ _ _ f c l) (skip (at i)) e = let bad : kind.Comma ≡ kind.CloseParen = sym c ∙ i in cc
not_before (again _ _ _ _ f c l) (skip (skip b)) e = not_before l b e

front_before : {u : Use} {ts us at' rest : List Token} → Front u ts us → Undeclared us at' → Before kind.CloseParen rest ts → length rest ≡ length at' → ⊥
front_before (plain none) l b e = not_before l b e
front_before (dollar i d) l (at k) e = let bad : kind.Dollar ≡ kind.CloseParen = sym d ∙ k in cc
front_before (dollar i d) l (skip b) e = not_before l b e

list_ends : (u : Use) (c : ℕ) (ps : Params) (x : Token) → EndsWith kind.CloseParen (bare_params u c ps x ++ [])
list_ends u c tree.no_params x = token x
list_ends u c (tree.more_params p ps) x = behind (behind (token x))

nowhere : {a : Sym} {q : List Sym} {ts' ts : List Token} → Reach (a ∷ q) ts' [] ts → ⊥
nowhere r = elim r [ ]

same_or : {m n : ℕ} → (n ≡ m) ⊎ (n < m) → (n ≡ m → ⊥) → (n < m → ⊥) → ⊥
same_or (inl e) f g = f e
same_or (inr h) f g = g h

pub found_near : {ts us at' : List Token} (u : Use) → g.behind_name u ≡ g.not_next kind.Dot → (v : Params × (Token × Unit {0})) (n : ℕ) (rest : List Token) → Front u ts us → Undeclared us at' → Found (bare_line u) nothing_continues 1 ts v n rest → length rest < length at'
found_near {at' = at'} u look v n rest f l found =
    lt_of_not-le (λ h.
    same_or (eq-or-lt_of_le h)
    (λ e. front_before f l (ends_before (list_ends u n v.0 v.1.0) (found.reads n (omega arith) [])) (sym e))
    (λ less.
    let z = front_goes look f l 0 in
    let y = z.reach sample.token [] in
    nowhere ((found.only 1 (tree.more_params z.first z.others, (sample.token, tt)) [] (y.0 ∷ y.1.0) at' (nothing_clear []) y.1.1 (omega (arith, less))).reach)))
