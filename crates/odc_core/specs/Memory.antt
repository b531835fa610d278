-- Flat memory: a byte at each address, or none where nothing was put there since the bytes came to
-- their owner. Which addresses may be touched is told apart from it, since only calls change that.
use Rattle.std.specs.Prelude.{ℕ, zero, suc, ◌+◌, ◌&&◌, Bool, true, List, [], ◌∷◌, map, length, Option, Some, None, nat_le, nat_lt, if◌then◌else◌}
use Rattle.rv_table.specs.Bytes.{written}

abbrev pub Memory : Type 0
Memory = ℕ → Option ℕ

-- whether all of the n addresses from a on may be touched
abbrev pub all_in : (ℕ → Bool) → ℕ → ℕ → Bool
all_in touched a zero = true
all_in touched a (suc n) = touched a && all_in touched (a + 1) n

abbrev pub before : Option ℕ → Option (List ℕ) → Option (List ℕ)
before (Some b) (Some bs) = Some (b ∷ bs)
before _ _ = None

-- the n bytes from a on, where each is there
abbrev pub bytes_at : Memory → ℕ → ℕ → Option (List ℕ)
bytes_at m a zero = Some []
bytes_at m a (suc n) = before (m a) (bytes_at m (a + 1) n)

-- the bytes that a load gives; none where it strays
abbrev pub loaded : (ℕ → Bool) → Memory → ℕ → ℕ → Option (List ℕ)
loaded touched m a n = if all_in touched a n then bytes_at m a n else None

-- the memory that a store leaves; none where it strays
abbrev pub put : Memory → ℕ → List ℕ → Memory
put m a bytes = written m a (map Some bytes)

abbrev pub stored : (ℕ → Bool) → Memory → ℕ → List ℕ → Option Memory
stored touched m a bytes = if all_in touched a (length bytes) then Some (put m a bytes) else None

-- the address lies among the n from a on
abbrev pub lies : ℕ → ℕ → ℕ → Bool
lies a n x = nat_le a x && nat_lt x (a + n)

-- nothing is there any more
abbrev pub forgotten : Memory → ℕ → ℕ → Memory
forgotten m a n x = if lies a n x then None else m x
