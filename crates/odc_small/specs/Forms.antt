-- What can stand at the front of a text: forms with a spelling, and the end that closes them.
use Rattle.std.specs.Prelude.{◌≡◌, ◌<◌, ◌≤◌, ℕ, List, [], ◌∷◌, ◌++◌, length, slice_index}
use Rattle.std.specs.Char.{IsAsciiDigit}
use Rattle.std.specs.List.{AllByRecursion}

-- how trees are spelled, which of them belong to the grammar, and what may follow them
pub record Form (T : Type 0) : Type 1 where
  pub spelling : T → List ℕ
  pub Is : T → Type 0
  pub Ends : List ℕ → Type 0

-- the text begins with this tree of the form, and goes on with the rest
pub record FoundAt {T : Type 0} (form : Form T) (bytes : List ℕ) (tree : T) (rest : List ℕ) : Type 0 where
  pub is : form.Is tree
  pub ends : form.Ends rest
  pub whole : bytes ≡ form.spelling tree ++ rest

-- the text begins with no tree of the form
abbrev pub NoneAt : {T : Type 0} → Form T → List ℕ → Type 0
NoneAt {T} form bytes = (tree : T) (rest : List ℕ) → FoundAt form bytes tree rest → ⊥

-- one after another
abbrev pub spellings : {T : Type 0} → (T → List ℕ) → List T → List ℕ
spellings spelling [] = []
spellings spelling (t ∷ ts) = spelling t ++ spellings spelling ts

-- as many trees of the form as there are
abbrev pub many : {T : Type 0} → Form T → Form (List T)
many form = record {
  spelling = spellings form.spelling;
  Is = AllByRecursion form.Is;
  Ends = λ rest. form.Ends rest × NoneAt form rest;
}

-- a fixed text
abbrev pub mark : List ℕ → Form (Unit {0})
mark text = record { spelling = λ _. text; Is = λ _. Unit {0}; Ends = λ _. Unit {0} }

-- one form, and then another
abbrev pub both : {A B : Type 0} → Form A → Form B → Form (A × B)
both first second = record {
  spelling = λ p. first.spelling p.0 ++ second.spelling p.1;
  Is = λ p. first.Is p.0 × second.Is p.1;
  Ends = second.Ends;
}

-- no digit comes first
abbrev pub NoDigitFirst : List ℕ → Type 0
NoDigitFirst [] = Unit {0}
NoDigitFirst (b ∷ bs) = ¬ IsAsciiDigit b

-- one to nine digits, and a first `0` stands alone
pub record IsPlain (digits : List ℕ) : Type 0 where
  pub some : 0 < length digits
  pub short : length digits ≤ 9
  pub zero : slice_index digits 0 ≡ 48 → length digits ≡ 1

-- no tree at all
abbrev pub never : Form ⊥
never = record { spelling = λ t. []; Is = λ t. ⊥; Ends = λ _. Unit {0} }
