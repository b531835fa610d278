-- What a range that was found says of memory.
use Rattle.std.specs.Prelude.{◌≡◌, ℕ, ◌+◌, ◌-◌, ◌≤◌, true, List, length, Some, slice_range}
use Rattle.rv_table.specs.State.{Area, allows, loaded}
use Rattle.rv_table.specs.declared.effect.Access.{Access}

-- the range allows the access and holds these addresses, and a load there reads it
pub record Holds (areas : List Area) (access : Access) (address size : ℕ) (area : Area) : Type 0 where
  pub allowed : allows access area ≡ true
  pub start : area.start ≤ address
  pub end : address + size ≤ area.start + length area.bytes
  pub loads : loaded areas access address size ≡ Some (slice_range area.bytes (address - area.start) (address - area.start + size))
