-- The image that is linked of a program.
use Rattle.std.specs.Prelude.{◌≡◌, ℕ, List}
use Rattle.odc_typed.specs.Tree.{Whole}
use Rattle.odc_mid.specs.Tree.{Whole as MidWhole}
use Rattle.odc_context.specs.Code.{crossed_program}
use Rattle.odc_lower.specs.Lowered.{IsLowered, IsKept as IsKeptByMid}
use Rattle.rv_emit.specs.Code.{text_start, entry_of}
use Rattle.rv_emit.specs.Layout.{image_of}
use Rattle.rv_emit.specs.Encoded.{IsEncoded}
use Rattle.rv_emit.specs.Blocks.{blocks_of, linked_code, all_sites, all_calls}
use Rattle.rv_emit.specs.Emitted.{IsKept as IsKeptByMachine}
use Rattle.rv_sites.specs.declared.image.Image.{Image}
use Rattle.rv_link.specs.Linked.{names_from, first_block}
use Rattle.elf_file.specs.Written.{CanWrite}

-- the blocks of mid code that the program's core code becomes, linked; its file can be written
pub record IsImageOf (p : Whole) (files : List (List ℕ)) (i : Image) : Type 0 where
  pub mid : MidWhole
  pub pieces : IsLowered (crossed_program p) mid
  pub kept : IsKeptByMid (crossed_program p) mid
  pub machine : IsKeptByMachine (entry_of mid) mid (image_of mid i.text.items)
  pub code : IsEncoded i.text.items (linked_code (blocks_of mid))
  pub entry : i.entry ≡ text_start
  pub store : i.store.items ≡ mid.store
  pub store_size : i.store_size ≡ mid.store_size
  pub paths : i.sites.paths.items ≡ files
  pub checks : i.sites.checks.items ≡ all_sites (blocks_of mid).list
  pub names : i.sites.names.items ≡ names_from first_block (blocks_of mid).list
  pub calls : i.sites.calls.items ≡ all_calls first_block (blocks_of mid).list
  pub can_write : CanWrite i
