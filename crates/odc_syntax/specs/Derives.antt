-- What a list of tokens derives, and what lists begin some that derive.
use Rattle.std.specs.Prelude.{◌≡◌, ℕ, List, [], ◌∷◌, ◌++◌, length}
use Rattle.odc_syntax.specs.declared.token.Token.{Token}
use Rattle.odc_syntax.specs.declared.token.TokenKind.{TokenKind}
use Rattle.odc_syntax.specs.declared.token.TokenKind.TheVariants.{Dot, Name}
use Rattle.odc_syntax.specs.Grammar.{Sym, tok, said, next, not_next, not_member, Rule}

-- the first of these tokens, if there is one, is not of this kind
abbrev pub StartsWithout : TokenKind → List Token → Type 0
StartsWithout k [] = Unit {0}
StartsWithout k (t ∷ ts) = t.kind ≡ k → ⊥

-- these tokens do not begin with `.` and a name
abbrev pub StartsNoMember : List Token → Type 0
StartsNoMember [] = Unit {0}
StartsNoMember (t ∷ []) = Unit {0}
StartsNoMember (t ∷ u ∷ ts) = t.kind ≡ Dot → u.kind ≡ Name → ⊥

-- From the pending symbols of the last two arguments, before their tokens, one comes to the pending
-- symbols and the tokens of the first two: by reading a token that stands first, or by writing the first
-- symbol as a rule says.
pub data Reach (end : List Sym) (left : List Token) : List Sym → List Token → Type 0 where
  here : Reach end left end left
  read : {k : TokenKind} {t : Token} {s : List Sym} {ts : List Token} → t.kind ≡ k → Reach end left s ts → Reach end left (tok k t ∷ s) (t ∷ ts)
  read_said : {k : TokenKind} {w : _} {t : Token} {s : List Sym} {ts : List Token} → t.kind ≡ k → t.word ≡ w →
      Reach end left s ts → Reach end left (said k w t ∷ s) (t ∷ ts)
  see : {k : TokenKind} {t : Token} {s : List Sym} {ts : List Token} → t.kind ≡ k → Reach end left s (t ∷ ts) → Reach end left (next k ∷ s) (t ∷ ts)
  see_not : {k : TokenKind} {s : List Sym} {ts : List Token} → StartsWithout k ts → Reach end left s ts → Reach end left (not_next k ∷ s) ts
  see_no_member : {s : List Sym} {ts : List Token} → StartsNoMember ts → Reach end left s ts → Reach end left (not_member ∷ s) ts
  write : {x : Sym} {s : List Sym} {ts : List Token} (p : List Sym) → Rule x p → Reach end left (p ++ s) ts → Reach end left (x ∷ s) ts

-- these tokens are what the symbol stands for
abbrev pub Derives : Sym → List Token → Type 0
Derives x ts = Reach [] [] (x ∷ []) ts

-- The symbol stands for the tokens in front of the last ones, which follow it.
abbrev pub DerivesBefore : Sym → List Token → List Token → Type 0
DerivesBefore x rest ts = Reach [] rest (x ∷ []) ts

-- The tokens but the last so many begin a list that the symbol stands for, with some bound on its depth
-- and some tree: what is still pending is cut off.
pub record Begins {V : Type 0} (x : V → Sym) (ts : List Token) (left : ℕ) : Type 0 where
  pub value : V
  pub pending : List Sym
  pub rest : List Token
  pub rest_is : length rest ≡ left
  pub reach : Reach pending rest (x value ∷ []) ts
