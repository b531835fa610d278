-- Trees of files: for each path, the bytes of the file there, if there is one. Paths and names are
-- the bytes of their texts.
use Rattle.std.specs.Prelude.{◌≡◌, ◌≢◌, ℕ, ◌+◌, List, ◌++◌, ◌∷◌, map, take, Some, None, IsSome, MatchOption, if◌then◌else◌, string_bytes}
use Rattle.std.specs.Str.{bytes_eq}
use Rattle.std.specs.List.{Contains, AllPairs}
use Rattle.std.specs.Prelude.{Option}
use Rattle.std.specs.declared.vec.Vec.{Vec}
use Rattle.std.specs.declared.string.String.{String}
use Rattle.std.specs.declared.alloc.Global.{Global}

abbrev pub Tree : Type 0
Tree = List ℕ → Option (List ℕ)

-- the path of what has this name in the folder: the two with a slash between
abbrev pub joined : List ℕ → List ℕ → List ℕ
joined folder name = folder ++ 47 ∷ name

-- a file lies under the folder, at whatever depth
abbrev pub HasFilesUnder : Tree → List ℕ → Type 0
HasFilesUnder tree folder = (rest : List ℕ) × IsSome (tree (joined folder rest))

-- a file of this name, which has no slash, lies directly in the folder
abbrev pub IsFileIn : Tree → List ℕ → List ℕ → Type 0
IsFileIn tree folder name = ¬ Contains name 47 × IsSome (tree (joined folder name))

-- these are the names of the files directly in the folder, each once
pub record IsListing (tree : Tree) (folder : List ℕ) (names : List (List ℕ)) : Type 0 where
  pub each : (name : List ℕ) → Contains names name → IsFileIn tree folder name
  pub all : (name : List ℕ) → IsFileIn tree folder name → Contains names name
  pub distinct : AllPairs (λ a b. a ≢ b) names

-- the texts of a list
abbrev pub texts : Vec (String Global) Global → List (List ℕ)
texts names = map string_bytes names.items

-- nothing exactly where no file lies under the folder, else the listing
abbrev pub ListsFiles : Tree → List ℕ → Option (Vec (String Global) Global) → Type 0
ListsFiles tree folder found =
    MatchOption found (¬ HasFilesUnder tree folder) (λ names. HasFilesUnder tree folder × IsListing tree folder (texts names))

-- nothing exactly where there is no file, else its first limit + 1 bytes
abbrev pub ReadsFront : Option (List ℕ) → ℕ → Option (Vec ℕ Global) → Type 0
ReadsFront None limit found = found ≡ None
ReadsFront (Some bytes) limit None = ⊥
ReadsFront (Some bytes) limit (Some front) = front.items ≡ take (limit + 1) bytes

-- the tree with these bytes at the path
abbrev pub with_file : Option Tree → List ℕ → List ℕ → Option Tree
with_file None path bytes = None
with_file (Some tree) path bytes = Some (λ p. if bytes_eq p path then Some bytes else tree p)

-- each other path has what it had, and the tree is known as before
abbrev pub SameBut : List ℕ → Option Tree → Option Tree → Type 0
SameBut path None new = new ≡ None
SameBut path (Some old) None = ⊥
SameBut path (Some old) (Some new) = (p : List ℕ) → p ≢ path → new p ≡ old p
