-- Ranges of memory seen as one function from addresses to bytes.
use Rattle.std.specs.Prelude.{◌≡◌, ℕ, ◌+◌, ◌≤◌, ◌⊎◌, ◌&&◌, ◌||◌, Bool, false, nat_le, List, [], ◌∷◌, length, map, Some}
use Rattle.rv_table.specs.Bytes.{run, written}
use Rattle.rv_table.specs.State.{Area, allowed, filled}
use Rattle.rv_table.specs.declared.effect.Access.{Access}

-- each range holds the function's bytes at its addresses
abbrev pub Shows : List Area → (ℕ → ℕ) → Type 0
Shows [] f = Unit {0}
Shows (r ∷ rs) f = (run f r.start (length r.bytes) ≡ r.bytes) × Shows rs f

-- a range without its bytes
pub record Shape : Type 0 where
  pub start : ℕ
  pub size : ℕ
  pub readable : Bool
  pub writable : Bool
  pub executable : Bool

abbrev pub shape : Area → Shape
shape r = record { start = r.start; size = length r.bytes; readable = r.readable; writable = r.writable; executable = r.executable }

-- the range allows the access and has these addresses
abbrev pub holds : Access → ℕ → ℕ → Shape → Bool
holds access address size r = allowed access r.readable r.writable r.executable && nat_le r.start address && nat_le (address + size) (r.start + r.size)

-- some range does
abbrev pub has : Access → ℕ → ℕ → List Shape → Bool
has access address size [] = false
has access address size (r ∷ rs) = holds access address size r || has access address size rs

-- the range shares no address with any of the others
abbrev pub IsApartFrom : Shape → List Shape → Type 0
IsApartFrom r [] = Unit {0}
IsApartFrom r (q ∷ qs) = ((r.start + r.size ≤ q.start) ⊎ (q.start + q.size ≤ r.start)) × IsApartFrom r qs

-- no two ranges share an address
abbrev pub AreApart : List Shape → Type 0
AreApart [] = Unit {0}
AreApart (r ∷ rs) = IsApartFrom r rs × AreApart rs

-- what comes of writing these bytes to the start of a buffer: memory that shows the function with them
pub record Filled (areas : List Area) (f : ℕ → ℕ) (address size : ℕ) (bytes : List ℕ) : Type 0 where
  pub after : List Area
  pub is : filled areas address size bytes ≡ Some after
  pub shows : Shows after (written f address bytes)
  pub shapes : map shape after ≡ map shape areas
