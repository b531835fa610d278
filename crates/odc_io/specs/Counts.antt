-- Counts that go up by one and stand still at the end of a `u64`.
use Rattle.std.specs.Prelude.{ℕ, ◌+◌, ◌≤◌, min}

abbrev pub last_count : ℕ
last_count = 18446744073709551615

-- the count after this one
abbrev pub next_count : ℕ → ℕ
next_count n = min (n + 1) last_count

-- the new count is above the old one, or stands at the end
abbrev pub Rose : ℕ → ℕ → Type 0
Rose old new = next_count old ≤ new
