-- Blocks: the code of procedures with holes, how holes are filled, and the text that blocks make.
use Rattle.std.specs.Prelude.{ℕ, zero, suc, ◌+◌, ◌-◌, ◌*◌, ◌<◌, ◌≤◌, ◌^◌, List, [], ◌∷◌, ◌++◌, length, map, take, drop, get_or, true, string_bytes}
use Rattle.odc_text.specs.declared.check.Check.{Check}
use Rattle.odc_text.specs.declared.check.Check.TheVariants.{Stack}
use Rattle.odc_text.specs.declared.place.Place.{Place}
use Rattle.rv_table.specs.Run.{Site}
use Rattle.rv_table.specs.declared.inst.Inst.{Inst}
use Rattle.odc_mid.specs.declared.tree.Named.TheVariants.{Stored, Procedure as OfProcedure}
use Rattle.odc_mid.specs.declared.tree.MidStep.{MidStep}
use Rattle.odc_mid.specs.declared.tree.MidStep.TheVariants.{Address as AddressStep, Call, CallValue, Check as CheckStep}
use Rattle.odc_mid.specs.Tree.{Proc, Whole}
use Rattle.rv_emit.specs.Code.{Around, around_of, text_start, start_size, start_code, enter_size, number_code, proc_code, step_size, registers_size}
use Rattle.rv_emit.specs.Encoded.{AllFit}
use Rattle.rv_emit.specs.declared.unlinked.Hole.{Hole}
use Rattle.rv_emit.specs.declared.unlinked.HoleKind.{HoleKind}
use Rattle.rv_emit.specs.declared.unlinked.HoleKind.TheVariants.{Procedure, Address, Site as SiteHole}
use Rattle.rv_emit.specs.declared.unlinked.Block.{Block as BlockType}
use Rattle.rv_emit.specs.declared.unlinked.Blocks.{Blocks as BlocksType}

-- a block as the definitions see it
pub record Block : Type 0 where
  pub name : List ℕ
  pub code : List Inst
  pub holes : List Hole
  pub calls : List ℕ

pub record Unlinked : Type 0 where
  pub list : List Block
  pub addresses : List ℕ
  pub main : ℕ

abbrev pub block : BlockType → Block
block b = record { name = string_bytes b.name; code = b.code.items; holes = b.holes.items; calls = b.calls.items }

abbrev pub blocks : BlocksType → Unlinked
blocks b = record { list = map block b.list.items; addresses = b.addresses.items; main = b.main }

-- ---- the block of a procedure

abbrev pub site_hole : ℕ → Check → Place → Hole
site_hole at which source = record { at = at; kind = SiteHole source.line source.column which; own = source.file.number }

abbrev pub procedure_hole : ℕ → ℕ → Hole
procedure_hole at f = record { at = at; kind = Procedure; own = f }

abbrev pub address_hole : ℕ → ℕ → Hole
address_hole at n = record { at = at; kind = Address; own = n }

-- the holes of a step whose code begins at this position
abbrev pub step_holes : ℕ → MidStep → List Hole
step_holes at (AddressStep to (Stored n)) = address_hole at n ∷ []
step_holes at (AddressStep to (OfProcedure f)) = procedure_hole at f ∷ []
step_holes at (Call to f arguments) = procedure_hole (at + (13 + 8 * length arguments.items)) f ∷ []
step_holes at (CheckStep condition which source) = site_hole (at + 8) which source ∷ []
step_holes at _ = []

abbrev pub steps_holes : ℕ → List MidStep → List Hole
steps_holes at [] = []
steps_holes at (s ∷ ss) = step_holes at s ++ steps_holes (at + step_size s) ss

abbrev pub proc_holes : Proc → List Hole
proc_holes p = site_hole 6 Stack p.at ∷ steps_holes enter_size p.steps

-- the position of the jump of a step, if it calls an allocator
abbrev pub step_marks : ℕ → MidStep → List ℕ
step_marks at (CallValue to target arguments true) = (at + (6 + (registers_size arguments.items + (13 + 8 * length arguments.items)))) ∷ []
step_marks at _ = []

abbrev pub steps_marks : ℕ → List MidStep → List ℕ
steps_marks at [] = []
steps_marks at (s ∷ ss) = step_marks at s ++ steps_marks (at + step_size s) ss

-- what surrounds the steps of a procedure whose block stands nowhere yet: holes hold 0 and the block's own
-- numbers of its sites
abbrev pub bare : Proc → Around
bare p = around_of (λ _. 0) [] 0 p

abbrev pub bare_code : Proc → List Inst
bare_code p = proc_code (bare p) 0 0 p

abbrev pub block_of : Proc → Block
block_of p = record { name = p.name; code = bare_code p; holes = proc_holes p; calls = steps_marks enter_size p.steps }

abbrev pub blocks_of : Whole → Unlinked
blocks_of w = record { list = map block_of w.procedures; addresses = w.addresses; main = w.main }

-- ---- filled holes

abbrev pub kind_sites : ℕ → HoleKind → List Site
kind_sites own Procedure = []
kind_sites own Address = []
kind_sites own (SiteHole line column which) = (which, record { file = record { number = own }; line = line; column = column }) ∷ []

-- the site that a hole names
abbrev pub hole_sites : Hole → List Site
hole_sites h = kind_sites h.own h.kind

abbrev pub holes_sites : List Hole → List Site
holes_sites [] = []
holes_sites (h ∷ hs) = hole_sites h ++ holes_sites hs

abbrev pub kind_value : (ℕ → ℕ) → List ℕ → ℕ → ℕ → HoleKind → ℕ
kind_value entries addresses site own Procedure = entries own
kind_value entries addresses site own Address = get_or addresses own 0
kind_value entries addresses site own (SiteHole line column which) = site

-- what fills a hole: the entry of the procedure, the address, or the number of the site
abbrev pub hole_value : (ℕ → ℕ) → List ℕ → ℕ → Hole → ℕ
hole_value entries addresses site h = kind_value entries addresses site h.own h.kind

-- the register that the number goes to
abbrev pub hole_register : HoleKind → ℕ
hole_register Procedure = 6
hole_register Address = 6
hole_register (SiteHole line column which) = 11

-- The code from a position on, with these holes filled; the first site has this number.
abbrev pub filled : (ℕ → ℕ) → List ℕ → ℕ → ℕ → List Hole → List Inst → List Inst
filled entries addresses next site [] code = code
filled entries addresses next site (h ∷ hs) code =
    take (h.at - next) code
    ++ (number_code (hole_register h.kind) (hole_value entries addresses site h) ++ filled entries addresses (h.at + 4) (site + length (hole_sites h)) hs (drop (h.at + 4 - next) code))

-- ---- blocks one behind the other

abbrev pub size_in_front : List Block → ℕ → ℕ
size_in_front bs zero = 0
size_in_front [] (suc f) = 0
size_in_front (b ∷ bs) (suc f) = length b.code + size_in_front bs f

abbrev pub size_of_all : List Block → ℕ
size_of_all [] = 0
size_of_all (b ∷ bs) = length b.code + size_of_all bs

-- the address of the first instruction of each block
abbrev pub entry_in : List Block → ℕ → ℕ
entry_in bs f = text_start + 4 * (start_size + size_in_front bs f)

abbrev pub all_code : (ℕ → ℕ) → List ℕ → ℕ → List Block → List Inst
all_code entries addresses site [] = []
all_code entries addresses site (b ∷ bs) = filled entries addresses 0 site b.holes b.code ++ all_code entries addresses (site + length (holes_sites b.holes)) bs

abbrev pub all_sites : List Block → List Site
all_sites [] = []
all_sites (b ∷ bs) = holes_sites b.holes ++ all_sites bs

-- the addresses of positions in a block that begins at an address
abbrev pub addresses_of : ℕ → List ℕ → List ℕ
addresses_of at [] = []
addresses_of at (k ∷ ks) = (at + 4 * k) ∷ addresses_of at ks

abbrev pub all_calls : ℕ → List Block → List ℕ
all_calls at [] = []
all_calls at (b ∷ bs) = addresses_of at b.calls ++ all_calls (at + 4 * length b.code) bs

-- the text that blocks make: the start, and then each block, in the order of the list, with its holes filled
abbrev pub linked_code : Unlinked → List Inst
linked_code u = start_code (entry_in u.list u.main) ++ all_code (entry_in u.list) u.addresses 0 u.list

-- ---- blocks that can be linked

-- the instructions of holes lie one behind the other inside the code, from a position on
abbrev pub AreHoles : ℕ → ℕ → List Hole → Type 0
AreHoles next size [] = next ≤ size
AreHoles next size (h ∷ hs) = ((next ≤ h.at) × (h.at + 4 ≤ size)) × AreHoles (h.at + 4) size hs

abbrev pub IsKindIn : ℕ → ℕ → ℕ → HoleKind → Type 0
IsKindIn count addresses own Procedure = own < count
IsKindIn count addresses own Address = own < addresses
IsKindIn count addresses own (SiteHole line column which) = Unit {0}

-- what a hole names is there
abbrev pub IsNamedIn : ℕ → ℕ → Hole → Type 0
IsNamedIn count addresses h = IsKindIn count addresses h.own h.kind

abbrev pub AllNamedIn : ℕ → ℕ → List Hole → Type 0
AllNamedIn count addresses [] = Unit {0}
AllNamedIn count addresses (h ∷ hs) = IsNamedIn count addresses h × AllNamedIn count addresses hs

abbrev pub AllBelow : ℕ → List ℕ → Type 0
AllBelow n [] = Unit {0}
AllBelow n (k ∷ ks) = (k < n) × AllBelow n ks

pub record IsBlock (count addresses : ℕ) (b : Block) : Type 0 where
  pub fit : AllFit b.code
  pub holes : AreHoles 0 (length b.code) b.holes
  pub named : AllNamedIn count addresses b.holes
  pub calls : AllBelow (length b.code) b.calls

abbrev pub AreBlocks : ℕ → ℕ → List Block → Type 0
AreBlocks count addresses [] = Unit {0}
AreBlocks count addresses (b ∷ bs) = IsBlock count addresses b × AreBlocks count addresses bs

-- what holes name is there, `main` is one of the blocks, and the text lies below the store
pub record CanLink (u : Unlinked) : Type 0 where
  pub blocks : AreBlocks (length u.list) (length u.addresses) u.list
  pub addresses : AllBelow 0x6000_0000 u.addresses
  pub main : u.main < length u.list
  pub short : 4 * (start_size + size_of_all u.list) ≤ 0x4fff_0000
