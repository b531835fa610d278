-- What mid code becomes: a start, and for each procedure a block of the text, with its sites and its
-- calls of allocators. The blocks may stand anywhere, in any order.
use Rattle.std.specs.Prelude.{◌≡◌, ℕ, ◌+◌, ◌*◌, ◌^◌, ◌<◌, ◌≤◌, List, ◌++◌, length, Some, slice_get}
use Rattle.odc_text.specs.Follow.{KeepsOn}
use Rattle.rv_table.specs.Run.{Site, Image, machine}
use Rattle.rv_table.specs.declared.inst.Inst.{Inst}
use Rattle.odc_core.specs.Well.{AreBytes}
use Rattle.odc_mid.specs.Run.{mid}
use Rattle.odc_mid.specs.Tree.{Proc, Whole}
use Rattle.rv_emit.specs.Code.{text_start, enter_size, block_code, proc_sites, steps_calls, start_code}
use Rattle.rv_emit.specs.Layout.{factor}
use Rattle.rv_emit.specs.Encoded.{IsEncoded}

-- The block of a procedure that begins at an address, among procedures that begin at these and data that
-- lie at these: its code stands there, its sites are told from the number on that its code names, and its
-- calls are told.
pub record Becomes (entries : ℕ → ℕ) (addresses : List ℕ) (at : ℕ) (p : Proc) (code : List Inst) (sites : List Site) (calls : List ℕ) : Type 0 where
  pub before : List Inst
  pub behind : List Inst
  pub sites_before : List Site
  pub sites_behind : List Site
  pub calls_before : List ℕ
  pub calls_behind : List ℕ
  pub place : at ≡ text_start + 4 * length before
  pub block : code ≡ before ++ (block_code entries addresses at (length sites_before) p ++ behind)
  pub told : sites ≡ sites_before ++ (proc_sites p ++ sites_behind)
  pub called : calls ≡ calls_before ++ (steps_calls (at + 4 * enter_size) p.steps ++ calls_behind)

-- a text that begins with the start, lies below the store, and in which each procedure becomes the block at
-- an entry of its own
pub record IsEmitted (w : Whole) (entries : ℕ → ℕ) (text : List ℕ) (sites : List Site) (calls : List ℕ) : Type 0 where
  pub code : List Inst
  pub blocks : List Inst
  pub encoded : IsEncoded text code
  pub start : code ≡ start_code (entries w.main) ++ blocks
  pub procedures : (f : ℕ) (p : Proc) → slice_get w.procedures f ≡ Some p → Becomes entries w.addresses (entries f) p code sites calls
  pub short : 4 * length code ≤ 0x4fff_0000
  pub few : length sites < 2 ^ 31
  pub apart : (f g : ℕ) → f < length w.procedures → g < length w.procedures → entries f ≡ entries g → f ≡ g

-- on every input of bytes, the machine's run of the image keeps the mid run
abbrev pub IsKept : (ℕ → ℕ) → Whole → Image → Type 0
IsKept entries w image = (input : List ℕ) → AreBytes input → KeepsOn (factor w) 18 (λ e. e) (mid entries w) (machine image) input
