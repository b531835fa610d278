-- What a function answers that reads a part of the grammar from the front of some tokens, and when that
-- answer is right. A part is some pending symbols that depend on a bound of their depth and on the value
-- that is read, as a tree. Places are counted as tokens left.
use Rattle.std.specs.Prelude.{◌≡◌, ℕ, suc, ◌*◌, ◌<◌, ◌≤◌, Bool, true, List, [], ◌∷◌, ◌++◌, length}
use Rattle.odc_syntax.specs.declared.token.Token.{Token}
use Rattle.odc_syntax.specs.declared.token.TokenKind.{TokenKind}
use Rattle.odc_syntax.specs.declared.token.Word.{Word}
use Rattle.odc_syntax.specs.Grammar.{Sym, tok, said}
use Rattle.odc_syntax.specs.Derives.{Reach}

-- Twice the tokens that are left, and one more while symbols are pending. It is at most twice k where one
-- is past the place where k tokens are left, or is there with nothing pending.
abbrev pub size : List Sym → List Token → ℕ
size [] ts = 2 * length ts
size (x ∷ s) ts = suc (2 * length ts)

-- What follows reads none of the tokens that could go on with a part.
pub record Clear (cont : TokenKind → Bool) (s : List Sym) : Type 0 where
  pub stops : (t : Token) (us : List Token) (s' : List Sym) (ts' : List Token) →
      cont t.kind ≡ true → Reach s' ts' s (t ∷ us) → size s' ts' ≤ suc (2 * length us) → ⊥

abbrev pub Part : Type 0 → Type 0
Part V = ℕ → V → List Sym

-- one pending symbol
abbrev pub one : {V : Type 0} → (ℕ → V → Sym) → Part V
one x c v = x c v ∷ []

-- With every bound that is at least b, the part comes to the place where so many tokens are left,
-- whatever follows it.
pub record ComesWith {V : Type 0} (p : Part V) (c : ℕ) (ts : List Token) (left : ℕ) (v : V) (s : List Sym) : Type 0 where
  pub pending : List Sym
  pub rest : List Token
  pub rest_is : length rest ≡ left
  pub reach : Reach pending rest (p c v ++ s) ts

pub record ComesAt {V : Type 0} (p : Part V) (c : ℕ) (ts : List Token) (left : ℕ) : Type 0 where
  pub value : V
  pub before : (s : List Sym) → ComesWith p c ts left value s

pub record Comes {V : Type 0} (p : Part V) (b : ℕ) (ts : List Token) (left : ℕ) : Type 0 where
  pub at : (c : ℕ) → b ≤ c → ComesAt p c ts left

-- The part is v, whose depth is n, and the rest comes behind it. The bound b may be less than the
-- depth where the tokens before the rest begin another reading, too.
pub record Remains {V : Type 0} (v : V) (n : ℕ) (rest : List Token) (c : ℕ) (w : V) (s s' : List Sym) (ts' : List Token) : Type 0 where
  pub value : w ≡ v
  pub bound : n ≤ c
  pub reach : Reach s' ts' s rest

pub record Found {V : Type 0} (p : Part V) (cont : TokenKind → Bool) (b : ℕ) (ts : List Token) (v : V) (n : ℕ) (rest : List Token) : Type 0 where
  pub short : length rest ≤ length ts
  pub comes : Comes p b ts (length rest)
  pub reads : (c : ℕ) → n ≤ c → (s : List Sym) → Reach s rest (p c v ++ s) ts
  pub only : (c : ℕ) (w : V) (s s' : List Sym) (ts' : List Token) → Clear cont s → Reach s' ts' (p c w ++ s) ts →
      size s' ts' ≤ 2 * length rest → Remains v n rest c w s s' ts'

-- The tokens but the last so many begin the part; with the next token nothing does, whatever the depth,
-- and the part isn't complete there.
pub record Broken {V : Type 0} (p : Part V) (cont : TokenKind → Bool) (b : ℕ) (ts : List Token) (left : ℕ) : Type 0 where
  pub short : left ≤ length ts
  pub comes : Comes p b ts left
  pub none : (c : ℕ) (w : V) (s s' : List Sym) (ts' : List Token) → Clear cont s → Reach s' ts' (p c w ++ s) ts →
      size s' ts' ≤ 2 * left → ⊥

-- So many tokens are left behind the first that nothing within the bound may have, though something
-- deeper may.
pub record TooDeep {V : Type 0} (p : Part V) (cont : TokenKind → Bool) (b : ℕ) (ts : List Token) (left : ℕ) : Type 0 where
  pub short : suc left ≤ length ts
  pub comes : Comes p b ts (suc left)
  pub deep : (c : ℕ) (w : V) (s s' : List Sym) (ts' : List Token) → Clear cont s → Reach s' ts' (p c w ++ s) ts →
      size s' ts' ≤ suc (2 * left) → b < c
  pub depth : ℕ
  pub deeper : Comes p depth ts left

-- what a function that reads a part answers
pub data Answer (V : Type 0) : Type 0 where
  Yes : (v : V) (n : ℕ) (rest : List Token) → Answer V
  Syntax : (left : ℕ) → Answer V
  Deep : (left : ℕ) → Answer V
  NoMemory : Answer V

abbrev pub Exact : {V : Type 0} → Part V → (TokenKind → Bool) → ℕ → List Token → Answer V → Type 0
Exact p cont b ts (Yes v n rest) = Found p cont b ts v n rest
Exact p cont b ts (Syntax left) = Broken p cont b ts left
Exact p cont b ts (Deep left) = TooDeep p cont b ts left
Exact p cont b ts NoMemory = Unit {0}

-- A production is its symbols one after another, and its value is theirs.
unfoldable pub then_ : {V U : Type 0} → (ℕ → V → Sym) → Part U → Part (V × U)
then_ x g c u = x c u.0 ∷ g c u.1

unfoldable pub done : Part (Unit {0})
done c u = []

unfoldable pub token : TokenKind → ℕ → Token → Sym
token k c t = tok k t

unfoldable pub word : TokenKind → Word → ℕ → Token → Sym
word k w c t = said k w t

-- one part behind another
unfoldable pub behind : {V U : Type 0} → Part V → Part U → Part (V × U)
behind p g c u = p c u.0 ++ g c u.1
