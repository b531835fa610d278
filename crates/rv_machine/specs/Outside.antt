-- What a run takes of its input, and what it gives to its outputs.
use Rattle.std.specs.Prelude.{◌≡◌, ℕ, List, [], ◌∷◌, ◌++◌, Option, Some, None}
use Rattle.odc_text.specs.Run.{Log, out, err, call}

-- what the outside tells: what is left of the input, and what was written to the two outputs
pub record Told : Type 0 where
  pub input : Option (List ℕ)
  pub out : Option (List ℕ)
  pub err : Option (List ℕ)

abbrev pub told : (rest o e : Option (List ℕ)) → Told
told rest o e = record { input = rest; out = o; err = e }

-- the bytes of a log to descriptor 1, in order
abbrev pub out_bytes : Log ℕ ℕ → List ℕ
out_bytes [] = []
out_bytes (out byte ∷ log) = byte ∷ out_bytes log
out_bytes (err byte ∷ log) = out_bytes log
out_bytes (call made ∷ log) = out_bytes log

-- and to descriptor 2
abbrev pub err_bytes : Log ℕ ℕ → List ℕ
err_bytes [] = []
err_bytes (out byte ∷ log) = err_bytes log
err_bytes (err byte ∷ log) = byte ∷ err_bytes log
err_bytes (call made ∷ log) = err_bytes log

-- these bytes stood in front of what is left now
pub record Front (rest : List ℕ) (new : Option (List ℕ)) (got : List ℕ) : Type 0 where
  pub left : List ℕ
  pub parts : rest ≡ got ++ left
  pub now : new ≡ Some left

-- these bytes were taken from a source
abbrev pub Took : Option (List ℕ) → Option (List ℕ) → List ℕ → Type 0
Took None new got = new ≡ None
Took (Some rest) new got = Front rest new got
