-- What a closed run is asked: how it ends, what it leaves behind, and what it took.
use Rattle.std.specs.Prelude.{◌≡◌, ℕ, ℤ, List, [], map}
use Rattle.odc_text.specs.Run.{End, Entry, out, call}
use Rattle.odc_program.specs.States.Bytes.{Pointer, nil}
use Rattle.odc_program.specs.Trees.Program.{Program}
use Rattle.odc_program.specs.Runs.Source.{source, turns_taken}

pub record Told : Type 0 where
  pub end : End
  pub log : List (Entry Pointer ℕ)
  -- bytes of the input, cost and turns
  pub taken : ℕ
  pub cost : ℕ
  pub turns : ℕ

abbrev pub told : Program → List ℕ → ℕ → Told
told p input bound = record { end = (source p input bound).end; log = (source p input bound).log; taken = (source p input bound).taken; cost = (source p input bound).cost; turns = turns_taken p input bound }

-- within 100 turns and without input it leaves this behind and ends so
abbrev pub Leaves : Program → List (Entry Pointer ℕ) → End → ℕ → ℕ → Type 0
Leaves p log end cost turns = told p [] 100 ≡ record { end = end; log = log; taken = 0; cost = cost; turns = turns }

-- within 100 turns and without input it prints this and ends so
abbrev pub Prints : Program → List ℕ → End → ℕ → ℕ → Type 0
Prints p text end cost turns = told p [] 100 ≡ record { end = end; log = map out text; taken = 0; cost = cost; turns = turns }

-- a call of an allocator as the log holds it
abbrev pub asked : ℕ → ℤ → ℤ → ℤ → Pointer → ℤ → Entry Pointer ℕ
asked f mode size align old old_size = call (record { procedure = f; given = nil; mode = mode; size = size; align = align; old = old; old_size = old_size })
