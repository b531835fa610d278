-- When a run follows another, and when a pass keeps runs.
use Rattle.std.specs.Prelude.{◌≡◌, ℕ, ◌+◌, ◌*◌, ◌≤◌, List}
use Rattle.odc_text.specs.Run.{Entry, Run, Agree, HasEnded, HasStrayed}

-- the run strays on this input at no bound
abbrev pub NeverStrays : {A P : Type 0} → Run A P → List ℕ → Type 0
NeverStrays run input = (n : ℕ) → HasStrayed (run input n).end → ⊥

-- an ended run stays as it is at every greater bound
abbrev pub Stays : {A P : Type 0} → Run A P → Type 0
Stays run = (input : List ℕ) (n m : ℕ) → n ≤ m → HasEnded (run input n).end → run input m ≡ run input n

-- On one input: for every bound of the first run there is one of the second at which they agree;
-- and unless the first strays at some bound, past every bound of the second there is one at which
-- it agrees with some bound of the first. So where the first goes on for ever, the second does
-- too, and adds nothing.
pub record FollowsOn {A P B Q : Type 0} (read : Entry A P → Entry B Q) (p : Run A P) (q : Run B Q) (input : List ℕ) : Type 0 where
  pub there : (n : ℕ) → (m : ℕ) × Agree read (p input n) (q input m)
  pub back : NeverStrays p input → (m : ℕ) → (m' : ℕ) × (m ≤ m') × ((n : ℕ) × Agree read (p input n) (q input m'))

-- the second run follows the first, whatever the input
abbrev pub Follows : {A P B Q : Type 0} → (Entry A P → Entry B Q) → Run A P → Run B Q → Type 0
Follows read p q = (input : List ℕ) → FollowsOn read p q input

-- The form that composes, on one input. `factor` and `constant` bound the second's cost by the
-- first's once the first has ended.
pub record KeepsOn {A P B Q : Type 0} (factor constant : ℕ) (read : Entry A P → Entry B Q) (p : Run A P) (q : Run B Q) (input : List ℕ) : Type 0 where
  -- for every bound of the first there is one of the second at which they agree
  pub goes : (n : ℕ) → (m : ℕ) × Agree read (p input n) (q input m)
  -- from some bound of the first on, each has a bound of the second, at least `m`, at which they agree
  pub far : NeverStrays p input → (m : ℕ) → (from : ℕ) × ((n : ℕ) → from ≤ n → (m' : ℕ) × (m ≤ m') × Agree read (p input n) (q input m'))
  -- the second strays only where the first does
  pub sound : NeverStrays p input → NeverStrays q input
  -- where the first has ended, the second has, at a cost that is bounded by the first's
  pub cheap : (n : ℕ) → HasEnded (p input n).end → (m : ℕ) × Agree read (p input n) (q input m) × ((q input m).cost ≤ factor * (p input n).cost + constant)

-- a pass keeps runs, whatever the input
abbrev pub Keeps : {A P B Q : Type 0} → (factor constant : ℕ) → (Entry A P → Entry B Q) → Run A P → Run B Q → Type 0
Keeps factor constant read p q = (input : List ℕ) → KeepsOn factor constant read p q input
