-- What a listing and the bytes of `main.odin` show of a folder.
use Rattle.std.specs.Prelude.{◌≡◌, ◌≢◌, ◌⊎◌, ℕ, ◌≤◌, List, length, Some, None, Option, if◌then◌else◌}
use Rattle.std.specs.Cmp.Lexicographic.{slice_cmp}
use Rattle.std.specs.Ordering.{nat_cmp, is_lt}
use Rattle.std.specs.List.{Contains}
use Rattle.std.specs.declared.vec.Vec.{Vec}
use Rattle.std.specs.declared.alloc.Global.{Global}
use Rattle.odc_io.specs.Trees.{joined, ReadsFront}
use Rattle.odc_io.specs.Trees.{Tree as Files}
use Rattle.odc_typed.specs.Tree.{Whole}
use Rattle.odc_small.specs.Grammar.{Tree, text_spelling}
use Rattle.odc_small.specs.Names.{IsText}
use Rattle.odc_small.specs.Text.{Spells}
use Rattle.odc_small.specs.Typing.{typed}
use Rattle.odc_tool.specs.Verdict.{Outcome, refused, taken, main_name, IsSourceName, NotAfter, no_source, outside}
use Rattle.odc_tool.specs.declared.folder.GatherError.{GatherError}
use Rattle.odc_tool.specs.declared.folder.GatherError.TheVariants.{FolderFault, Refused, Memory}

-- the name of a source file other than `main.odin`
abbrev pub IsOther : List ℕ → Type 0
IsOther name = IsSourceName name × ¬ Contains name 47 × (name ≢ main_name)

-- the first of the other names in byte order, if there is one
abbrev pub IsLeast : List (List ℕ) → Option (List ℕ) → Type 0
IsLeast names None = (name : List ℕ) → Contains names name → ¬ IsOther name
IsLeast names (Some least) =
    Contains names least × IsOther least × ((name : List ℕ) → Contains names name → IsOther name → NotAfter least name)

-- the one that comes first of the two
abbrev pub lesser : List ℕ → List ℕ → List ℕ
lesser a b = if is_lt (slice_cmp nat_cmp b a) then b else a

-- `main.odin` was read where it is listed
abbrev pub IsMain : Files → List ℕ → List (List ℕ) → Option (Vec ℕ Global) → Type 0
IsMain files dir names found =
    (Contains names main_name × ReadsFront (files (joined dir main_name)) 16384 found)
    ⊎ (¬ Contains names main_name × (found ≡ None))

-- the tree belongs to the grammar, and its text has at most 16,384 bytes
pub record IsWithin (tree : Tree) : Type 0 where
  pub is : IsText tree
  pub short : length (text_spelling tree) ≤ 16384

-- the program is that of a tree of which this holds, within the limit
pub record IsTypedOf (Holds : Tree → Type 0) (p : Whole) : Type 0 where
  pub tree : Tree
  pub within : IsWithin tree
  pub same : p ≡ typed tree
  pub holds : Holds tree

-- what follows from the bytes of `main.odin` and the first other name
abbrev pub Shows : Option (Vec ℕ Global) → Option (List ℕ) → List ℕ → Outcome → Type 0
Shows None None dir outcome = outcome ≡ refused no_source dir
Shows None (Some other) dir outcome = outcome ≡ refused outside other
Shows (Some bytes) (Some other) dir outcome = outcome ≡ refused outside (lesser other main_name)
Shows (Some bytes) None dir (taken tree) = Spells bytes.items tree
Shows (Some bytes) None dir (refused fault path) =
    (refused fault path ≡ refused outside main_name) × ((tree : Tree) → ¬ Spells bytes.items tree)

-- the claim of a refusal
abbrev pub IfRefused : GatherError → (Outcome → Type 0) → Type 0
IfRefused (Refused fault path) claim = claim (refused fault path)
IfRefused FolderFault claim = Unit {0}
IfRefused Memory claim = Unit {0}
