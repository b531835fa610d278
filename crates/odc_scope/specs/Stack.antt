-- How a `Scopes` keeps its scopes: one stack of openings and bindings, here with the newest first. A position counts
-- from the oldest entry, so that of the entry on a stack `older` is `length older`.
use Rattle.std.specs.Prelude.{◌≡◌, ◌≢◌, ℕ, Bool, false, nat_le, ◌+◌, List, [], ◌∷◌, Option, Some, None, nat_eq, length, if◌then◌else◌}
use Rattle.odc_scope.specs.declared.Entry.{Entry}
use Rattle.odc_scope.specs.declared.Entry.TheVariants.{Opening, Binding}
use Rattle.odc_scope.specs.Scopes.{with_binding}

-- the scopes that a stack stands for
abbrev pub scopes_of : {I : Type 0} → List (Entry I) → List (List (ℕ × I))
scopes_of [] = []
scopes_of (Opening outer ∷ older) = [] ∷ scopes_of older
scopes_of (Binding name item hidden ∷ older) = with_binding name item (scopes_of older)

-- the position of the newest binding of a name
abbrev pub newest : {I : Type 0} → ℕ → List (Entry I) → Option ℕ
newest name [] = None
newest name (Opening outer ∷ older) = newest name older
newest name (Binding bound item hidden ∷ older) = if nat_eq name bound then Some (length older) else newest name older

-- the number of entries up to and with the newest opening
abbrev pub opened_at : {I : Type 0} → List (Entry I) → ℕ
opened_at [] = 0
opened_at (Opening outer ∷ older) = length older + 1
opened_at (Binding name item hidden ∷ older) = opened_at older

-- whether a position lies above the newest opening
abbrev pub is_inside : ℕ → Option ℕ → Bool
is_inside opened None = false
is_inside opened (Some at) = nat_le opened at

-- each entry leads back to what it hides, and each binding stands in a scope
abbrev pub IsLinked : {I : Type 0} → List (Entry I) → Type 0
IsLinked [] = Unit {0}
IsLinked (Opening outer ∷ older) = (outer ≡ opened_at older) × IsLinked older
IsLinked (Binding name item hidden ∷ older) = (hidden ≡ newest name older) × (scopes_of older ≢ []) × IsLinked older

-- the stack is linked, and the table and the count beside it are those of the stack
pub record IsSound {I : Type 0} (stack : List (Entry I)) (latest : ℕ → Option ℕ) (innermost : ℕ) : Type 0 where
  pub linked : IsLinked stack
  pub tracked : (name : ℕ) → latest name ≡ newest name stack
  pub opened : innermost ≡ opened_at stack
