use Rattle.std.specs.Prelude.{ℕ, List, [], ◌∷◌, Option, Some, None, nat_eq}
use Rattle.std.specs.Map.{lookup}

-- what a scope binds a name to
abbrev pub item_in : {I : Type 0} → ℕ → List (ℕ × I) → Option I
item_in name scope = lookup (nat_eq name) scope

abbrev pub or_else : {I : Type 0} → Option I → Option I → Option I
or_else None other = other
or_else (Some x) other = Some x

-- what the innermost scope that has the name binds it to
abbrev pub innermost_item : {I : Type 0} → ℕ → List (List (ℕ × I)) → Option I
innermost_item name [] = None
innermost_item name (scope ∷ outer) = or_else (item_in name scope) (innermost_item name outer)

-- the innermost scope
abbrev pub first_scope : {I : Type 0} → List (List (ℕ × I)) → List (ℕ × I)
first_scope [] = []
first_scope (scope ∷ outer) = scope

-- the scopes with one more binding in the innermost
abbrev pub with_binding : {I : Type 0} → ℕ → I → List (List (ℕ × I)) → List (List (ℕ × I))
with_binding name item [] = []
with_binding name item (scope ∷ outer) = ((name, item) ∷ scope) ∷ outer
