-- What the step from a program to a file promises, and which programs it takes.
use Rattle.std.specs.Prelude.{◌≡◌, ℕ, ◌+◌, ◌*◌, ◌≤◌, max, List, [], ◌∷◌, length, None}
use Rattle.odc_text.specs.Run.{Entry, entry_by}
use Rattle.odc_text.specs.Follow.{KeepsOn, FollowsOn}
use Rattle.odc_core.specs.Well.{AreBytes}
use Rattle.rv_table.specs.Run.{Image, machine}
use Rattle.odc_mid.specs.Tree.{Whole as MidWhole}
use Rattle.odc_context.specs.Code.{crossed_program}
use Rattle.odc_lower.specs.Lowered.{IsLowered}
use Rattle.rv_emit.specs.Code.{text_start}
use Rattle.rv_emit.specs.Layout.{text_range, memory_ranges}
use Rattle.rv_emit.specs.Encoded.{IsEncoded}
use Rattle.rv_emit.specs.Blocks.{blocks_of, linked_code, all_sites, all_calls}
use Rattle.rv_sites.specs.declared.sites.ProcedureName.{ProcedureName}
use Rattle.rv_link.specs.Linked.{names_from, first_block}
use Rattle.elf_file.specs.Rules.{Image as FileImage, Denotes, refused}
use Rattle.odc_typed.specs.Tree.{Proc, Whole}
use Rattle.odc_typed.specs.Bytes.{Address}
use Rattle.odc_typed.specs.Frame.{FramesFit}
use Rattle.odc_typed.specs.Nodes.{NodesFit, all_nodes}
use Rattle.odc_typed.specs.Place.{number_at}
use Rattle.odc_typed.specs.Source.{source}

-- ---- limits

-- no frame passes 16 MiB, no procedure has more than 20,000 nodes, and nodes and procedures are at most
-- 250,000 in sum, so that the text lies below the globals
pub record IsWithin (p : Whole) : Type 0 where
  pub frames : FramesFit p.procedures
  pub nodes : NodesFit p.procedures
  pub all : all_nodes p.procedures + length p.procedures ≤ 250000

-- ---- what an image promises

-- An entry of the source run's log as the machine's: an address is the number of its place, a
-- procedure the address of its first instruction, by the list of these.
abbrev pub placed : (ℕ → ℕ) → Entry Address ℕ → Entry ℕ ℕ
placed entry_of = entry_by number_at entry_of

-- the most parameters of a procedure
abbrev pub widest : List Proc → ℕ
widest [] = 0
widest (p ∷ ps) = max (length p.parameters) (widest ps)

-- A step of mid code takes so many instructions at most: a call moves its arguments.
abbrev pub step_cost : Whole → ℕ
step_cost p = 32 + 14 * widest p.procedures

-- each unit of the source's cost becomes at most 100 of core code's, and each of these twelve steps of
-- mid code, to which two are added
abbrev pub KeptBy : (ℕ → ℕ) → Whole → Image → List ℕ → Type 0
KeptBy entry_of p image input = KeepsOn (step_cost p * 1200) (step_cost p * 2 + 18) (placed entry_of) (source p) (machine image) input

-- on every input of bytes, the image keeps the program's run
abbrev pub KeepsAll : (ℕ → ℕ) → Whole → Image → Type 0
KeepsAll entry_of p image = (input : List ℕ) → AreBytes input → KeptBy entry_of p image input

-- and follows it
abbrev pub FollowsAll : (ℕ → ℕ) → Whole → Image → Type 0
FollowsAll entry_of p image = (input : List ℕ) → AreBytes input → FollowsOn (placed entry_of) (source p) (machine image) input

-- ---- what a file promises

-- what the machine loads of an image that a file denotes
abbrev pub loaded : FileImage → Image
loaded i = record { ranges = i.ranges; entry = i.entry; sites = i.lists.checks; calls = i.lists.calls }

-- the entry and the name of each procedure, of which the first has this number
abbrev pub procedures_from : (ℕ → ℕ) → ℕ → List Proc → List ProcedureName
procedures_from entry_of k [] = []
procedures_from entry_of k (p ∷ ps) = record { entry = entry_of k; name = p.name } ∷ procedures_from entry_of (k + 1) ps

-- The bytes denote an image and meet all nine rules. There is a way to read procedures as addresses, by which
-- the image keeps the program's run and follows it. The paths are those of the program, and the procedures are
-- listed in its order, each with its entry and its name.
pub record IsBuilt (p : Whole) (paths : List (List ℕ)) (bytes : List ℕ) : Type 0 where
  pub image : FileImage
  pub denotes : Denotes bytes image
  pub accepted : refused bytes ≡ None
  pub entry_of : ℕ → ℕ
  pub kept : KeepsAll entry_of p (loaded image)
  pub followed : FollowsAll entry_of p (loaded image)
  pub files : image.lists.paths ≡ paths
  pub names : image.lists.names ≡ procedures_from entry_of 0 p.procedures

-- The bytes denote the image of linked blocks: one for each procedure, in the program's order, made of the mid
-- code that the procedure's core code becomes.
pub record IsMade (p : Whole) (bytes : List ℕ) : Type 0 where
  pub mid : MidWhole
  pub pieces : IsLowered (crossed_program p) mid
  pub text : List ℕ
  pub code : IsEncoded text (linked_code (blocks_of mid))
  pub image : FileImage
  pub denotes : Denotes bytes image
  pub ranges : image.ranges ≡ text_range text ∷ memory_ranges mid.store mid.store_size
  pub entry : image.entry ≡ text_start
  pub checks : image.lists.checks ≡ all_sites (blocks_of mid).list
  pub names : image.lists.names ≡ names_from first_block (blocks_of mid).list
  pub calls : image.lists.calls ≡ all_calls first_block (blocks_of mid).list
