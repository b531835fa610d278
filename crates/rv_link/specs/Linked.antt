-- The lists of linked blocks, and the blocks whose lists can be written.
use Rattle.std.specs.Prelude.{ℕ, ◌+◌, ◌*◌, ◌^◌, ◌<◌, List, [], ◌∷◌, length, All}
use Rattle.rv_table.specs.Run.{Site}
use Rattle.rv_sites.specs.Sections.{IsShortText}
use Rattle.rv_sites.specs.declared.sites.ProcedureName.{ProcedureName}
use Rattle.rv_emit.specs.Code.{text_start, start_size}
use Rattle.rv_emit.specs.Blocks.{Block, Unlinked, all_sites, all_calls}

-- ---- the list of procedures: the entry and the name of each, in the order of the blocks

-- the first of them begins at this address, and each other one behind the code of the one before
abbrev pub names_from : ℕ → List Block → List ProcedureName
names_from at [] = []
names_from at (b ∷ bs) = record { entry = at; name = b.name } ∷ names_from (at + 4 * length b.code) bs

-- the first block stands behind the start
abbrev pub first_block : ℕ
first_block = text_start + 4 * start_size

-- ---- lists whose lengths have 32 bits

abbrev pub AreShortNames : List Block → Type 0
AreShortNames [] = Unit {0}
AreShortNames (b ∷ bs) = (length b.name < 2 ^ 32) × AreShortNames bs

-- the line and the column of a site have 32 bits
abbrev pub HasSmallNumbers : Site → Type 0
HasSmallNumbers s = (s.1.line < 2 ^ 32) × (s.1.column < 2 ^ 32)

-- the site's file is one of so many
abbrev pub IsInFiles : ℕ → Site → Type 0
IsInFiles files s = s.1.file.number < files

pub record CanList (u : Unlinked) (files : List (List ℕ)) : Type 0 where
  pub paths : length files < 2 ^ 32
  pub texts : All IsShortText files
  pub sites : All (IsInFiles (length files)) (all_sites u.list)
  pub blocks : length u.list < 2 ^ 32
  pub names : AreShortNames u.list
  pub calls : length (all_calls first_block u.list) < 2 ^ 32
