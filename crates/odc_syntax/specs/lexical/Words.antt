-- Stretches of text that are made of units, one after another.
use Rattle.std.specs.Prelude.{◌≡◌, ℕ, Bool, true, List, [], ◌∷◌, ◌++◌, encode_utf8}
use Rattle.std.specs.List.{AllByRecursion}
use Rattle.std.specs.Char.{IsScalar}

-- the bytes of one character that passes the test
pub record IsCharacter (passes : ℕ → Bool) (w : List ℕ) : Type 0 where
  pub code : ℕ
  pub scalar : IsScalar code
  pub passed : passes code ≡ true
  pub bytes : w ≡ encode_utf8 code

-- one byte that passes the test
pub record IsByte (passes : ℕ → Bool) (w : List ℕ) : Type 0 where
  pub byte : ℕ
  pub passed : passes byte ≡ true
  pub bytes : w ≡ byte ∷ []

abbrev pub joined : List (List ℕ) → List ℕ
joined [] = []
joined (u ∷ us) = u ++ joined us

-- units one after another, none or more
pub record Run (IsUnit : List ℕ → Type 0) (w : List ℕ) : Type 0 where
  pub units : List (List ℕ)
  pub each : AllByRecursion IsUnit units
  pub bytes : w ≡ joined units

-- a first unit, and then a run of others
pub record Led (IsFirst IsUnit : List ℕ → Type 0) (w : List ℕ) : Type 0 where
  pub lead : List ℕ
  pub rest : List ℕ
  pub first : IsFirst lead
  pub run : Run IsUnit rest
  pub bytes : w ≡ lead ++ rest

-- one stretch, and then another
pub record Then (P Q : List ℕ → Type 0) (w : List ℕ) : Type 0 where
  pub front : List ℕ
  pub back : List ℕ
  pub first : P front
  pub second : Q back
  pub bytes : w ≡ front ++ back
