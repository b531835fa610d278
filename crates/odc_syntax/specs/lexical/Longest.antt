-- What it means that a stretch at the front of a text is the longest of its form.
use Rattle.std.specs.Prelude.{◌≡◌, ℕ, ◌<◌, ◌≤◌, ◌⊎◌, Bool, true, List, ◌∷◌, ◌++◌, length, take, drop, Option, Some, None}
use Rattle.odc_syntax.specs.lexical.Words.{Run}

-- a word of P begins the text
pub record Begins (P : List ℕ → Type 0) (text : List ℕ) : Type 0 where
  pub word : List ℕ
  pub rest : List ℕ
  pub is : P word
  pub bytes : text ≡ word ++ rest

-- no word of P begins the text
abbrev pub Absent : (List ℕ → Type 0) → List ℕ → Type 0
Absent P text = (v s : List ℕ) → P v → v ++ s ≡ text → ⊥

-- w is the longest word of P before r, and what follows a shorter one is of Next
pub record Best (P Next : List ℕ → Type 0) (w r : List ℕ) : Type 0 where
  pub is : P w
  pub only : (v s : List ℕ) → P v → v ++ s ≡ w ++ r → (v ≡ w) ⊎ ((length v < length w) × Next s)

-- the first n bytes of the text are its longest word of P
pub record IsFront (P Next : List ℕ → Type 0) (text : List ℕ) (n : ℕ) : Type 0 where
  pub within : n ≤ length text
  pub best : Best P Next (take n text) (drop n text)

-- how long the word of P at the front of the text is, if there is one
abbrev pub FindsFront : (List ℕ → Type 0) → (List ℕ → Type 0) → List ℕ → Option ℕ → Type 0
FindsFront P Next text None = Absent P text
FindsFront P Next text (Some n) = IsFront P Next text n

-- how long the unit at the front of the text is, if there is one
abbrev pub FindsUnit : (List ℕ → Type 0) → List ℕ → Option ℕ → Type 0
FindsUnit U text None = Absent U text
FindsUnit U text (Some n) = (n ≤ length text) × U (take n text)

-- the first n bytes of the text are units, and no unit follows
pub record IsWholeRun (U : List ℕ → Type 0) (text : List ℕ) (n : ℕ) : Type 0 where
  pub within : n ≤ length text
  pub run : Run U (take n text)
  pub over : Absent U (drop n text)

-- what follows no word
abbrev pub Never : List ℕ → Type 0
Never s = ⊥

-- the first n bytes of the text are its only front of P, which may ask something of what follows
pub record IsOnlyFront (P : List ℕ → List ℕ → Type 0) (text : List ℕ) (n : ℕ) : Type 0 where
  pub within : n ≤ length text
  pub is : P (take n text) (drop n text)
  pub only : (v s : List ℕ) → P v s → v ++ s ≡ text → v ≡ take n text

abbrev pub FindsOnlyFront : (List ℕ → List ℕ → Type 0) → List ℕ → Option ℕ → Type 0
FindsOnlyFront P text None = (v s : List ℕ) → P v s → v ++ s ≡ text → ⊥
FindsOnlyFront P text (Some n) = IsOnlyFront P text n

-- the text begins with a byte that passes the test
pub record Heads (passes : ℕ → Bool) (text : List ℕ) : Type 0 where
  pub byte : ℕ
  pub rest : List ℕ
  pub passed : passes byte ≡ true
  pub bytes : text ≡ byte ∷ rest
