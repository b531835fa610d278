-- Comments. One begins with `//` and goes to the end of its line; the other stands between `/*` and
-- `*/`, and may hold others of its kind.
use Rattle.std.specs.Prelude.{◌≡◌, ℕ, suc, Bool, true, not, ◌==◌, List, [], ◌∷◌, ◌++◌}
use Rattle.odc_syntax.specs.lexical.Words.{IsCharacter, Run}

abbrev pub is_no_newline : ℕ → Bool
is_no_newline c = not (c == 10)

-- the text is at an end, or before a newline
abbrev pub EndsLine : List ℕ → Type 0
EndsLine [] = Unit {0}
EndsLine (b ∷ bs) = b ≡ 10

pub record IsLineComment (w rest : List ℕ) : Type 0 where
  pub inside : List ℕ
  pub characters : Run (IsCharacter is_no_newline) inside
  pub ends : EndsLine rest
  pub bytes : w ≡ 47 ∷ 47 ∷ inside

abbrev pub is_any : ℕ → Bool
is_any c = true

-- a text begins with these two bytes
abbrev pub BeginsWith : ℕ → ℕ → List ℕ → Type 0
BeginsWith a b text = (rest : List ℕ) × (text ≡ a ∷ b ∷ rest)

-- w is all that comes up to the end of as many open comments
pub data Closes : ℕ → List ℕ → Type 0 where
  nothing : Closes 0 []
  close : {n : ℕ} {w : List ℕ} (v : List ℕ) → Closes n v → w ≡ 42 ∷ 47 ∷ v → Closes (suc n) w
  open' : {n : ℕ} {w : List ℕ} (v : List ℕ) → Closes (suc (suc n)) v → w ≡ 47 ∷ 42 ∷ v → Closes (suc n) w
  other : {n : ℕ} {w : List ℕ} (u v : List ℕ) → IsCharacter is_any u → ¬ (BeginsWith 42 47 w) → ¬ (BeginsWith 47 42 w) → Closes (suc n) v → w ≡ u ++ v → Closes (suc n) w

pub record IsBlockComment (w : List ℕ) : Type 0 where
  pub inside : List ℕ
  pub closes : Closes 1 inside
  pub bytes : w ≡ 47 ∷ 42 ∷ inside
