-- Text that is decoded once, at load, and what memory keeps over every store.
use Rattle.std.specs.Prelude.{◌≡◌, ℕ, ◌+◌, ◌-◌, ◌*◌, Bool, true, false, List, Option, Some, map, position, slice_get, slice_range}
use Rattle.std.specs.Int.{w32, from_le_bytes}
use Rattle.rv_table.specs.Table.{decoded, Fits}
use Rattle.rv_table.specs.State.{Area, covers, jumps_by_x5}
use Rattle.rv_table.specs.Areas.{shape, AreApart}
use Rattle.rv_table.specs.declared.inst.Inst.{Inst}
use Rattle.rv_table.specs.declared.effect.Access.TheVariants.{Execute}

-- the instruction that is fetched at the address; its range may not be written, and it is no jump by x5
pub record IsFixedAt (areas : List Area) (address : ℕ) (inst : Inst) : Type 0 where
  pub index : ℕ
  pub area : Area
  pub first : position (covers Execute address 4) areas ≡ Some index
  pub at : slice_get areas index ≡ Some area
  pub fixed : area.writable ≡ false
  pub means : decoded (from_le_bytes w32 (slice_range area.bytes (address - area.start) (address - area.start + 4))) ≡ Some inst
  pub fits : Fits inst
  pub plain : jumps_by_x5 inst ≡ false

-- the entry of the address is this instruction
pub record IsEntry (start : ℕ) (entries : List (Option Inst)) (address : ℕ) (inst : Inst) : Type 0 where
  pub index : ℕ
  pub is : slice_get entries index ≡ Some (Some inst)
  pub place : start + 4 * index ≡ address

-- each entry is the instruction at its address
pub record AreFixed (areas : List Area) (start : ℕ) (entries : List (Option Inst)) : Type 0 where
  pub each : (i : ℕ) (inst : Inst) → slice_get entries i ≡ Some (Some inst) → IsFixedAt areas (start + 4 * i) inst

-- what memory keeps: the flag is true only where no two ranges share an address, and the text stays
pub record Keeps (areas : List Area) (apart : Bool) (start : ℕ) (entries : List (Option Inst)) : Type 0 where
  pub are_apart : apart ≡ true → AreApart (map shape areas)
  pub text : AreFixed areas start entries
