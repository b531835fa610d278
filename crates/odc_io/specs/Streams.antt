-- What a source has left and a sink was given, each where it is known.
use Rattle.std.specs.Prelude.{◌≡◌, ℕ, ◌≤◌, List, [], ◌∷◌, ◌++◌, length, take, drop, Some, None, IfSome}
use Rattle.std.specs.Prelude.{Option}
use Rattle.std.specs.declared.vec.Vec.{Vec}
use Rattle.std.specs.declared.alloc.Global.{Global}

-- what was written, and these bytes after it
abbrev pub grown : Option (List ℕ) → List ℕ → Option (List ℕ)
grown None bytes = None
grown (Some written) bytes = Some (written ++ bytes)

-- what is left once the next n bytes are taken
abbrev pub shrunk : Option (List ℕ) → ℕ → Option (List ℕ)
shrunk None n = None
shrunk (Some rest) n = Some (drop n rest)

-- the first n bytes of the piece are the next n of the source, which has so many
abbrev pub ReadsNext : Option (List ℕ) → List ℕ → ℕ → Type 0
ReadsNext rest piece n = IfSome rest (λ r. (n ≤ length r) × (take n piece ≡ take n r))

-- nothing is left
abbrev pub AtEnd : Option (List ℕ) → Type 0
AtEnd rest = IfSome rest (λ r. r ≡ [])

-- some front of the bytes was written, and nothing after it
abbrev pub GrewByFront : Option (List ℕ) → Option (List ℕ) → List ℕ → Type 0
GrewByFront old new bytes = (n : ℕ) × (n ≤ length bytes) × (new ≡ grown old (take n bytes))

-- the bytes of all pieces, in order
abbrev pub concatenated : List (Vec ℕ Global) → List ℕ
concatenated [] = []
concatenated (piece ∷ rest) = piece.items ++ concatenated rest
