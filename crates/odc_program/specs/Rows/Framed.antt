-- Small programs and the frames of their procedures.
use Rattle.std.specs.Prelude.{ℕ, List, [], ◌∷◌, None}
use Rattle.odc_program.specs.Trees.Program.{Head, Body, Program}
use Rattle.odc_program.specs.Runs.Source.{env_of}
use Rattle.odc_program.specs.Typing.Frames.{nodes_of, frame_of}

abbrev pub frames_from : Program → List Head → List Body → List ℕ
frames_from p (h ∷ hs) (q ∷ qs) = frame_of (env_of p.tables h 0 0 0 None) h q.stmts ∷ frames_from p hs qs
frames_from p _ _ = []

-- what the trees of its procedures give
abbrev pub frames : Program → List ℕ
frames p = frames_from p p.tables.procedures p.bodies

abbrev pub nodes_from : List Head → List Body → List ℕ
nodes_from (h ∷ hs) (q ∷ qs) = nodes_of h q.stmts ∷ nodes_from hs qs
nodes_from _ _ = []

abbrev pub nodes : Program → List ℕ
nodes p = nodes_from p.tables.procedures p.bodies

-- a program with these frames
abbrev pub set_frames : List ℕ → List Head → List Head
set_frames (n ∷ ns) (h ∷ hs) = record h { frame = n } ∷ set_frames ns hs
set_frames _ hs = hs

abbrev pub with_frames : List ℕ → Program → Program
with_frames ns p = record p { tables = record p.tables { procedures = set_frames ns p.tables.procedures } }
