-- What a folder is worth: the text of the small grammar that its one source file holds, or the fault
-- that refuses it.
use Rattle.std.specs.Prelude.{◌≡◌, ◌≢◌, ◌⊎◌, ℕ, ◌≤◌, List, ◌++◌, length, codes, Some}
use Rattle.std.specs.Cmp.Lexicographic.{slice_cmp}
use Rattle.std.specs.Ordering.{nat_cmp}
use Rattle.std.specs.declared.cmp.Ordering.TheVariants.{Greater}
use Rattle.odc_text.specs.declared.code.Fault.{Fault}
use Rattle.odc_text.specs.declared.code.Code.TheVariants.{S01, N00}
use Rattle.odc_io.specs.Trees.{joined, IsFileIn}
use Rattle.odc_io.specs.Trees.{Tree as Files}
use Rattle.odc_small.specs.Grammar.{Tree, text_spelling}
use Rattle.odc_small.specs.Names.{IsText}

-- the outcome: a fault with the path that is printed before its place, or a text
pub data Outcome : Type 0 where
  refused : (fault : Fault) (path : List ℕ) → Outcome
  taken : (tree : Tree) → Outcome

abbrev pub main_name : List ℕ
main_name = codes "main.odin"

-- the name ends in `.odin`
abbrev pub IsSourceName : List ℕ → Type 0
IsSourceName name = (front : List ℕ) × (name ≡ front ++ codes ".odin")

-- the folder lists a source file of this name
abbrev pub HasSource : Files → List ℕ → List ℕ → Type 0
HasSource files dir name = IsFileIn files dir name × IsSourceName name

-- the folder's only source file is `main.odin`, and it holds the spelling of this tree, which has at
-- most 16,384 bytes
pub record IsTaken (files : Files) (dir : List ℕ) (tree : Tree) : Type 0 where
  pub only : (name : List ℕ) → HasSource files dir name → name ≡ main_name
  pub whole : files (joined dir main_name) ≡ Some (text_spelling tree)
  pub is : IsText tree
  pub short : length (text_spelling tree) ≤ 16384

-- a text comes no later than another in byte order
abbrev pub NotAfter : List ℕ → List ℕ → Type 0
NotAfter a b = slice_cmp nat_cmp a b ≢ Greater

-- the name is the first of the folder's source files
abbrev pub IsFirstSource : Files → List ℕ → List ℕ → Type 0
IsFirstSource files dir name = HasSource files dir name × ((other : List ℕ) → HasSource files dir other → NotAfter name other)

-- no source file: at the folder
abbrev pub no_source : Fault
no_source = record { code = S01; at = record { file = record { number = 0 }; line = 0; column = 0 } }

-- no text of the grammar: at the start of a file
abbrev pub outside : Fault
outside = record { code = N00; at = record { file = record { number = 0 }; line = 1; column = 1 } }

-- the outcome of a folder
abbrev pub Verdict : Files → List ℕ → Outcome → Type 0
Verdict files dir (taken tree) = IsTaken files dir tree
Verdict files dir (refused fault path) =
    ((fault ≡ no_source) × (path ≡ dir) × ((name : List ℕ) → ¬ HasSource files dir name))
    ⊎ ((fault ≡ outside) × IsFirstSource files dir path × ((tree : Tree) → ¬ IsTaken files dir tree))
