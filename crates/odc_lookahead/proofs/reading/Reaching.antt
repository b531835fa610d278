-- How one comes from pending symbols to others.
use Rattle.std.proofs.Common.{◌≡◌, ◌*◌, ◌≤◌, List, [], ◌∷◌, ◌++◌, length, refl, subst, arith}
use Rattle.odc_syntax.specs.declared.token.Token.{Token}
use Rattle.odc_syntax.specs.declared.token.TokenKind.{TokenKind}
use Rattle.odc_syntax.specs.declared.token.Word.{Word}
use Rattle.odc_syntax.specs.Grammar.{Sym, tok, said, next, not_next, not_member, Rule}
use Rattle.odc_syntax.specs.Derives.{Reach, here, read, read_said, see, see_not, see_no_member, write, StartsWithout, StartsNoMember}
use Rattle.odc_lookahead.specs.Exact.{size}

pub reach_short : {s' : List Sym} {ts' : List Token} {s : List Sym} {ts : List Token} → Reach s' ts' s ts → length ts' ≤ length ts
reach_short here = omega arith
reach_short (read e r) = let h = reach_short r in omega (arith, h)
reach_short (read_said e f r) = let h = reach_short r in omega (arith, h)
reach_short (see e r) = reach_short r
reach_short (see_not e r) = reach_short r
reach_short (see_no_member e r) = reach_short r
reach_short (write p q r) = reach_short r

pub along : {a b : List Sym} {ta tb : List Token} {s : List Sym} {ts : List Token} → Reach a ta s ts → Reach b tb a ta → Reach b tb s ts
along here q = q
along (read e r) q = read e (along r q)
along (read_said e f r) q = read_said e f (along r q)
along (see e r) q = see e (along r q)
along (see_not e r) q = see_not e (along r q)
along (see_no_member e r) q = see_no_member e (along r q)
along (write p w r) q = write p w (along r q)

-- pending symbols that are written otherwise
pub moved : {s' : List Sym} {ts' : List Token} {a b : List Sym} {ts : List Token} → a ≡ b → Reach s' ts' a ts → Reach s' ts' b ts
moved {s'} {ts'} {a} {b} {ts} e r = subst (λ s. Reach s' ts' s ts) e r

-- behind a token that stands first
pub record PastToken (s' : List Sym) (ts' : List Token) (k : TokenKind) (t : Token) (s : List Sym) (ts : List Token) : Type 0 where
  pub us : List Token
  pub is : ts ≡ t ∷ us
  pub kind : t.kind ≡ k
  pub reach : Reach s' ts' s us

pub behind_token : {s' : List Sym} {ts' : List Token} {k : TokenKind} {t : Token} {s : List Sym} {ts : List Token} →
    Reach s' ts' (tok k t ∷ s) ts → size s' ts' ≤ 2 * length ts → PastToken s' ts' k t s ts
behind_token here h = absurd (omega (arith, h))
behind_token (read e r) h = record { us = _; is = refl; kind = e; reach = r }
behind_token (write p w r) h = elim w [ ]

pub behind_said : {s' : List Sym} {ts' : List Token} {k : TokenKind} {w : Word} {t : Token} {s : List Sym} {ts : List Token} →
    Reach s' ts' (said k w t ∷ s) ts → size s' ts' ≤ 2 * length ts → (t.word ≡ w) × PastToken s' ts' k t s ts
behind_said here h = absurd (omega (arith, h))
behind_said (read_said e f r) h = (f, record { us = _; is = refl; kind = e; reach = r })
behind_said (write p w r) h = elim w [ ]

-- behind what must come next, or must not
pub record Sees (s' : List Sym) (ts' : List Token) (k : TokenKind) (s : List Sym) (ts : List Token) : Type 0 where
  pub first : Token
  pub us : List Token
  pub is : ts ≡ first ∷ us
  pub kind : first.kind ≡ k
  pub reach : Reach s' ts' s ts

pub behind_next : {s' : List Sym} {ts' : List Token} {k : TokenKind} {s : List Sym} {ts : List Token} →
    Reach s' ts' (next k ∷ s) ts → size s' ts' ≤ 2 * length ts → Sees s' ts' k s ts
behind_next here h = absurd (omega (arith, h))
behind_next (see e r) h = record { first = _; us = _; is = refl; kind = e; reach = r }
behind_next (write p w r) h = elim w [ ]

pub behind_not_next : {s' : List Sym} {ts' : List Token} {k : TokenKind} {s : List Sym} {ts : List Token} →
    Reach s' ts' (not_next k ∷ s) ts → size s' ts' ≤ 2 * length ts → StartsWithout k ts × Reach s' ts' s ts
behind_not_next here h = absurd (omega (arith, h))
behind_not_next (see_not e r) h = (e, r)
behind_not_next (write p w r) h = elim w [ ]

pub behind_not_member : {s' : List Sym} {ts' : List Token} {s : List Sym} {ts : List Token} →
    Reach s' ts' (not_member ∷ s) ts → size s' ts' ≤ 2 * length ts → StartsNoMember ts × Reach s' ts' s ts
behind_not_member here h = absurd (omega (arith, h))
behind_not_member (see_no_member e r) h = (e, r)
behind_not_member (write p w r) h = elim w [ ]

-- A part of the language is written as a rule says.
abbrev pub IsPart : Sym → Type 0
IsPart (tok k t) = ⊥
IsPart (said k w t) = ⊥
IsPart (next k) = ⊥
IsPart (not_next k) = ⊥
IsPart not_member = ⊥
IsPart _ = Unit {0}

pub record Written (s' : List Sym) (ts' : List Token) (x : Sym) (s : List Sym) (ts : List Token) : Type 0 where
  pub as_symbols : List Sym
  pub rule : Rule x as_symbols
  pub reach : Reach s' ts' (as_symbols ++ s) ts

pub behind_part : {s' : List Sym} {ts' : List Token} {x : Sym} {s : List Sym} {ts : List Token} → IsPart x →
    Reach s' ts' (x ∷ s) ts → size s' ts' ≤ 2 * length ts → Written s' ts' x s ts
behind_part i here h = absurd (omega (arith, h))
behind_part i (read e r) h = elim i [ ]
behind_part i (read_said e f r) h = elim i [ ]
behind_part i (see e r) h = elim i [ ]
behind_part i (see_not e r) h = elim i [ ]
behind_part i (see_no_member e r) h = elim i [ ]
behind_part i (write p w r) h = record { as_symbols = p; rule = w; reach = r }

-- no target is nearer than its tokens
pub size_at_least : (s : List Sym) (ts : List Token) → 2 * length ts ≤ size s ts
size_at_least [] ts = omega arith
size_at_least (x ∷ s) ts = omega arith
