-- Instructions in memory.
use Rattle.std.specs.Prelude.{◌≡◌, ℕ, ◌+◌, ◌<◌, ◌^◌, List, [], ◌∷◌, Some}
use Rattle.std.specs.Int.{w32, to_le_bytes}
use Rattle.rv_table.specs.Bytes.{run}
use Rattle.rv_table.specs.Table.{decoded}
use Rattle.rv_table.specs.declared.inst.Inst.{Inst}

-- a word that means the instruction stands at the address, the lowest byte first
pub record StandsAt (f : ℕ → ℕ) (address : ℕ) (inst : Inst) : Type 0 where
  pub word : ℕ
  pub fits : word < 2 ^ 32
  pub means : decoded word ≡ Some inst
  pub bytes : run f address 4 ≡ to_le_bytes w32 word

-- the instructions stand from the address on
abbrev pub StandFrom : (ℕ → ℕ) → ℕ → List Inst → Type 0
StandFrom f address [] = Unit {0}
StandFrom f address (inst ∷ rest) = StandsAt f address inst × StandFrom f (address + 4) rest
