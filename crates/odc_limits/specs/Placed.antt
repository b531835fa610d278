-- Where variables lie.
use Rattle.std.specs.Prelude.{ℕ, ◌+◌, List, [], ◌∷◌}
use Rattle.odc_program.specs.Trees.Program.{Local}
use Rattle.odc_program.specs.States.State.{Env, size_of}
use Rattle.odc_program.specs.Typing.Frames.{rounded}

abbrev pub types_of_locals : List Local → List ℕ
types_of_locals [] = []
types_of_locals (l ∷ ls) = l.ty ∷ types_of_locals ls

-- the place behind variables of these types, the first of which lies at `at`
abbrev pub behind : Env → ℕ → List ℕ → ℕ
behind env at [] = at
behind env at (t ∷ ts) = behind env (at + rounded (size_of env t) + 8) ts
