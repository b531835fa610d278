-- The bytes of a list of instructions: each word with its lowest byte first.
use Rattle.std.specs.Prelude.{◌≡◌, ℕ, ◌^◌, ◌<◌, List, [], ◌∷◌, Some}
use Rattle.std.specs.List.{flat_map}
use Rattle.std.specs.Int.{w32, to_le_bytes}
use Rattle.rv_table.specs.Table.{decoded, Fits}
use Rattle.rv_table.specs.declared.inst.Inst.{Inst}

-- each word means the instruction at its position
abbrev pub Mean : List ℕ → List Inst → Type 0
Mean [] [] = Unit {0}
Mean (word ∷ words) (inst ∷ code) = ((word < 2 ^ 32) × (decoded word ≡ Some inst)) × Mean words code
Mean _ _ = ⊥

pub record IsEncoded (text : List ℕ) (code : List Inst) : Type 0 where
  pub words : List ℕ
  pub mean : Mean words code
  pub bytes : text ≡ flat_map (to_le_bytes w32) words

-- each field of each instruction has its width
abbrev pub AllFit : List Inst → Type 0
AllFit [] = Unit {0}
AllFit (inst ∷ code) = Fits inst × AllFit code
