-- What `parse_expr` and `parse_decl` answer. The front is the longest run of tokens, from the position on,
-- that begins some list of a depth of at most 200; one is past the front where it begins some list of any
-- depth with the next token, too.
use Rattle.std.specs.Prelude.{◌≡◌, ℕ, ◌+◌, ◌<◌, List, length, drop, slice_get, Option, Some, None, ◌⊎◌}
use Rattle.odc_text.specs.declared.place.Place.{Place}
use Rattle.odc_text.specs.declared.code.Code.{Code}
use Rattle.odc_text.specs.declared.code.Code.TheVariants.{G01, L05}
use Rattle.odc_text.specs.declared.code.Fault.{Fault}
use Rattle.odc_syntax.specs.declared.token.Token.{Token}
use Rattle.odc_syntax.specs.Grammar.{Sym}
use Rattle.odc_syntax.specs.Derives.{DerivesBefore, Begins}
use Rattle.odc_lookahead.specs.Refused.{FirstRefused, NoneRefused}

-- a kind of tree: the symbol that stands for it, by the bound on its depth and the tree
abbrev pub Kind : Type 0 → Type 0
Kind V = ℕ → V → Sym

-- The first n tokens begin a list that derives such a tree of a depth of at most b.
pub record BeginsWith {V : Type 0} (x : Kind V) (b : ℕ) (ts : List Token) (n : ℕ) : Type 0 where
  pub left : ℕ
  pub all : length ts ≡ n + left
  pub begins : Begins (x b) ts left

-- They are such a list, and v is its tree.
pub record IsWhole {V : Type 0} (x : Kind V) (b : ℕ) (ts : List Token) (n : ℕ) (v : V) : Type 0 where
  pub rest : List Token
  pub all : length ts ≡ n + length rest
  pub derives : DerivesBefore (x b v) rest ts

-- They are the longest run of a depth of at most 200.
pub record IsFront {V : Type 0} (x : Kind V) (ts : List Token) (n : ℕ) : Type 0 where
  pub begins : BeginsWith x 200 ts n
  pub longest : (m : ℕ) → n < m → BeginsWith x 200 ts m → ⊥

abbrev pub IsPast : {V : Type 0} → Kind V → List Token → ℕ → Type 0
IsPast x ts n = (b : ℕ) × BeginsWith x b ts (n + 1)

-- no tree of a depth of at most 200 is the front's
abbrev pub NoTree : {V : Type 0} → Kind V → List Token → ℕ → Type 0
NoTree {V} x ts n = (v : V) → IsWhole x 200 ts n v → ⊥

-- the place of a token, or the end of all
abbrev pub place_in : Place → Option Token → Place
place_in end None = end
place_in end (Some t) = t.at

abbrev pub place_of : List Token → Place → ℕ → Place
place_of ts end i = place_in end (slice_get ts i)

-- The front is a tree, nothing is past it, and no refused form begins in it. The tree is the only one,
-- whatever the depth.
pub record IsRead {V : Type 0} (x : Kind V) (ts : List Token) (from : ℕ) (v : V) (next : ℕ) : Type 0 where
  pub size : ℕ
  pub ends : next ≡ from + size
  pub front : IsFront x (drop from ts) size
  pub tree : IsWhole x 200 (drop from ts) size v
  pub only : (b : ℕ) (w : V) → IsWhole x b (drop from ts) size w → w ≡ v
  pub not_past : IsPast x (drop from ts) size → ⊥
  pub clean : NoneRefused ts from next

-- how far a refused form is looked for: in the front, and at the token behind it where the front is no
-- tree or is gone past
pub data Searched {V : Type 0} (x : Kind V) (ts : List Token) (size : ℕ) : ℕ → Type 0 where
  front_alone : {v : V} → IsWhole x 200 ts size v → (IsPast x ts size → ⊥) → Searched x ts size size
  one_further : NoTree x ts size ⊎ IsPast x ts size → Searched x ts size (size + 1)

-- Why it is not read.
pub data IsNotRead {V : Type 0} (x : Kind V) (ts : List Token) (end : Place) (from : ℕ) (fault : Fault) : Type 0 where
  -- the front is no tree, nothing is past it, and no refused form begins in it or behind it
  syntax : (size : ℕ) → IsFront x (drop from ts) size → NoTree x (drop from ts) size → (IsPast x (drop from ts) size → ⊥) →
      NoneRefused ts from (from + size + 1) → fault ≡ record { code = G01; at = place_of ts end (from + size) } → IsNotRead x ts end from fault
  -- one is past the front, and no refused form begins in it or behind it
  deep : (size : ℕ) → IsFront x (drop from ts) size → IsPast x (drop from ts) size →
      NoneRefused ts from (from + size + 1) → fault ≡ record { code = L05; at = place_of ts end (from + size) } → IsNotRead x ts end from fault
  -- the first refused form
  refused : (size to at : ℕ) (code : Code) → IsFront x (drop from ts) size → Searched x (drop from ts) size to →
      FirstRefused ts from (from + to) at code → fault ≡ record { code = code; at = place_of ts end at } → IsNotRead x ts end from fault
