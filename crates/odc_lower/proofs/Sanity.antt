-- Memory holds bytes alone, and goes on doing so.
use Rattle.std.proofs.Common.{◌≡◌, ℕ, zero, suc, ◌+◌, ◌<◌, Bool, true, false, List, [], ◌∷◌, map, take, drop, arith}
use Rattle.std.specs.Prelude.{replicate, Some, None, ◌==◌, ◌/◌, if◌then◌else◌}
use Rattle.rv_table.specs.Bytes.{written}
use Rattle.odc_core.specs.declared.tree.Variable.{Variable}
use Rattle.odc_core.specs.Words.{bytes_of}
use Rattle.odc_core.specs.Memory.{Memory, put, lies, forgotten}
use Rattle.odc_core.specs.Frames.{with_arguments}
use Rattle.odc_core.specs.Well.{AreBytes}

some_same : (a b : ℕ) → Some a ≡ Some b → a ≡ b
some_same a b h = cc

pub put_bytes : (bytes : List ℕ) (m : Memory) (a : ℕ) → ((x b : ℕ) → m x ≡ Some b → b < 256) → AreBytes bytes → (x b : ℕ) → put m a bytes x ≡ Some b → b < 256
put_bytes [] m a sane are x b h = sane x b h
put_bytes (v ∷ vs) m a sane are x b h = by_test (x == a) h (put_bytes vs m (a + 1) sane are.1 x b)
  where
    by_test : (t : Bool) → (if t then Some v else written m (a + 1) (map Some vs) x) ≡ Some b → (written m (a + 1) (map Some vs) x ≡ Some b → b < 256) → b < 256
    by_test true e rest = let same : v ≡ b = some_same v b e in omega (arith, are.0)
    by_test false e rest = rest e

pub bytes_are : (n v : ℕ) → AreBytes (bytes_of n v)
bytes_are zero v = tt
bytes_are (suc n) v = (omega arith, bytes_are n (v / 256))

pub taken_are : (n : ℕ) (xs : List ℕ) → AreBytes xs → AreBytes (take n xs)
taken_are zero xs h = tt
taken_are (suc n) [] h = tt
taken_are (suc n) (x ∷ xs) h = (h.0, taken_are n xs h.1)

pub dropped_are : (n : ℕ) (xs : List ℕ) → AreBytes xs → AreBytes (drop n xs)
dropped_are zero xs h = h
dropped_are (suc n) [] h = tt
dropped_are (suc n) (x ∷ xs) h = dropped_are n xs h.1

pub forgotten_bytes : (m : Memory) (a n : ℕ) → ((x b : ℕ) → m x ≡ Some b → b < 256) → (x b : ℕ) → forgotten m a n x ≡ Some b → b < 256
forgotten_bytes m a n sane x b h = by_test (lies a n x) h
  where
    by_test : (t : Bool) → (if t then None else m x) ≡ Some b → b < 256
    by_test true e = absurd (cc)
    by_test false e = sane x b e

pub arguments_bytes : (low : ℕ) (vs : List Variable) (ws : List ℕ) (m : Memory) → ((x b : ℕ) → m x ≡ Some b → b < 256) → (x b : ℕ) → with_arguments low vs ws m x ≡ Some b → b < 256
arguments_bytes low [] ws m sane x b h = sane x b h
arguments_bytes low (v ∷ vs) [] m sane x b h = sane x b h
arguments_bytes low (v ∷ vs) (w ∷ ws) m sane x b h =
    arguments_bytes low vs ws (put m (low + v.offset) (bytes_of 8 w)) (put_bytes (bytes_of 8 w) m (low + v.offset) sane (bytes_are 8 w)) x b h

pub zeros_are : (n : ℕ) → AreBytes (replicate n 0)
zeros_are zero = tt
zeros_are (suc n) = (omega arith, zeros_are n)
