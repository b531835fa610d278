-- A tree of files as a list of them.
use Rattle.std.specs.Prelude.{◌≡◌, ◌<◌, ◌⊎◌, ℕ, ◌++◌, List, [], ◌∷◌, Some, None, Ok, Err, Option, Result, length, take, slice_index_or, if◌then◌else◌, string_bytes}
use Rattle.std.specs.Str.{bytes_eq}
use Rattle.std.specs.List.{Contains}
use Rattle.odc_io.specs.Counts.{next_count}
use Rattle.odc_io.specs.declared.files.MemFile.{MemFile}
use Rattle.odc_io.specs.declared.traits.FolderError.{FolderError}
use Rattle.odc_io.specs.declared.traits.FolderError.TheVariants.{Failed, Memory}

-- the bytes of the first file with this path
abbrev pub file_at : List MemFile → List ℕ → Option (List ℕ)
file_at [] path = None
file_at (file ∷ files) path = if bytes_eq path (string_bytes file.path) then Some file.bytes.items else file_at files path

-- the file at this place is the first with the path
abbrev pub IsFirstAt : List MemFile → List ℕ → ℕ → Type 0
IsFirstAt files path i =
    (i < length files) × (file_at (take i files) path ≡ None)
    × ((d : MemFile) → string_bytes (slice_index_or files i d).path ≡ path)

-- a fault is counted, and nothing else
abbrev pub CountsFault : {A : Type 0} → Result A FolderError → ℕ → ℕ → Type 0
CountsFault (Err Failed) old new = new ≡ next_count old
CountsFault (Err Memory) old new = new ≡ old
CountsFault (Ok a) old new = new ≡ old

-- a name without a slash that was missing was added, and any other was not
abbrev pub AddsName : List (List ℕ) → List (List ℕ) → List ℕ → Type 0
AddsName old new name =
    ((new ≡ old ++ name ∷ []) × ¬ Contains name 47 × ¬ Contains old name)
    ⊎ ((new ≡ old) × (Contains name 47 ⊎ Contains old name))
