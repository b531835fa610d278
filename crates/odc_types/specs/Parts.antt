-- The parts of a node.
use Rattle.std.specs.Prelude.{◌≡◌, ℕ, ◌<◌, List, Option, Some, None, All, ⊤, length}
use Rattle.odc_types.specs.Identity.{identity, all_of}
use Rattle.odc_types.specs.Nodes.{Node, Name, truth, integer, rune, text, rawptr, pointer, array, slice, dynamic, soa, struct, union, enum, distinct, procedure}

-- each number in the node is that of a type in a table of so many
abbrev pub HasPartsBelow : ℕ → Node → Type 0
HasPartsBelow n truth = ⊤
HasPartsBelow n (integer w) = ⊤
HasPartsBelow n rune = ⊤
HasPartsBelow n text = ⊤
HasPartsBelow n rawptr = ⊤
HasPartsBelow n (pointer to) = to.index < n
HasPartsBelow n (array count of) = of.index < n
HasPartsBelow n (slice of) = of.index < n
HasPartsBelow n (dynamic of) = of.index < n
HasPartsBelow n (soa form of) = of.index < n
HasPartsBelow n (struct name None) = All (λ t. t.index < n) name.types
HasPartsBelow n (struct name (Some fields)) = All (λ t. t.index < n) name.types × All (λ f. f.ty.index < n) fields
HasPartsBelow n (union name None) = All (λ t. t.index < n) name.types
HasPartsBelow n (union name (Some variants)) = All (λ t. t.index < n) name.types × All (λ v. v.index < n) variants
HasPartsBelow n (enum name base enumerators) = All (λ t. t.index < n) name.types
HasPartsBelow n (distinct name None) = All (λ t. t.index < n) name.types
HasPartsBelow n (distinct name (Some base)) = All (λ t. t.index < n) name.types × (base.index < n)
HasPartsBelow n (procedure convention params results) = All (λ p. p.ty.index < n) params × All (λ r. r.index < n) results

-- two names have one place and one instance
pub record IsSameName (types : List Node) (a b : Name) : Type 0 where
  pub place : a.at ≡ b.at
  pub numbers : a.numbers ≡ b.numbers
  pub instance : all_of (identity types (length types)) a.types ≡ all_of (identity types (length types)) b.types

-- the first is a named type without its parts, and the second is of the same kind, place and instance
abbrev pub IsUndefined : List Node → Option Node → Node → Type 0
IsUndefined types (Some (struct name None)) (struct again fields) = IsSameName types name again
IsUndefined types (Some (union name None)) (union again variants) = IsSameName types name again
IsUndefined types (Some (enum name base None)) (enum again underlying enumerators) = IsSameName types name again
IsUndefined types (Some (distinct name None)) (distinct again base) = IsSameName types name again
IsUndefined types _ _ = ⊥
