-- What a program's run begins with, and how a procedure is found by its word.
use Rattle.std.specs.Prelude.{ℕ, suc, ◌-◌, ◌==◌, List, [], ◌∷◌, Option, Some, None, get_or, nat_lt, if◌then◌else◌}
use Rattle.odc_core.specs.Memory.{Memory}
use Rattle.odc_core.specs.Frames.{store_low, touched_always}

-- the bytes of the store and zeros behind them; the regions are zeros
abbrev pub first_byte : List ℕ → ℕ → ℕ
first_byte store x = if nat_lt x store_low then 0 else get_or store (x - store_low) 0

abbrev pub first_memory : List ℕ → ℕ → Memory
first_memory store store_size x = if touched_always store_size x then Some (first_byte store x) else None

-- the first procedure that is called by this word, among those from a position on
abbrev pub called_by : {A : Type 0} → (ℕ → ℕ) → ℕ → List A → ℕ → Option ℕ
called_by entries f [] word = None
called_by entries f (p ∷ ps) word = if entries f == word then Some f else called_by entries (suc f) ps word
