-- Tables of numbers that are made once and looked up many times.
use Rattle.std.specs.Prelude.{◌≡◌, ℕ, ◌<◌, List, length, slice_index}

-- the first numbers of a row
pub record IsTable (table : List ℕ) (size : ℕ) (number : ℕ → ℕ) : Type 0 where
  pub count : length table ≡ size
  pub each : (k : ℕ) → k < size → slice_index table k ≡ number k
