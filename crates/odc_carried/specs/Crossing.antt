-- Which programs cross to core code, and what their core code promises.
use Rattle.std.specs.Prelude.{◌≡◌, ℕ, ◌^◌, ◌≤◌, true, List, [], ◌∷◌}
use Rattle.odc_text.specs.Run.{entry_by}
use Rattle.odc_text.specs.Follow.{KeepsOn, NeverStrays}
use Rattle.odc_program.specs.Trees.Program.{Head, Program}
use Rattle.odc_program.specs.Typing.Well.{well}
use Rattle.odc_program.specs.Typing.Frames.{framed}
use Rattle.odc_program.specs.Runs.Source.{source}
use Rattle.odc_core.specs.Run.{core}
use Rattle.odc_core.specs.Well.{IsWell}
use Rattle.odc_carried.specs.Carried.{carried}
use Rattle.odc_carried.specs.Code.{crossed_program}
use Rattle.odc_carried.specs.Places.{address_at}

-- no frame passes 16 MiB
abbrev pub FramesFit : List Head → Type 0
FramesFit [] = Unit {0}
FramesFit (p ∷ ps) = (p.frame ≤ 2 ^ 24) × FramesFit ps

-- a well program of carried forms, whose frames are those that its trees give, within the limit
pub record CanCross (p : Program) : Type 0 where
  pub well : well p ≡ true
  pub framed : framed p ≡ true
  pub carried : carried p ≡ true
  pub frames : FramesFit p.tables.procedures

-- its core code is well
abbrev pub AreWell : Type 0
AreWell = (p : Program) → CanCross p → IsWell (crossed_program p)

-- on every input, and whatever the words of the procedures, the core run keeps the source run, at 64 times its cost and a
-- little more; an address becomes the number where its block lies
abbrev pub AreKept : Type 0
AreKept = (p : Program) → CanCross p → (entries : ℕ → ℕ) (input : List ℕ) → KeepsOn 64 8 (entry_by address_at entries) (source p) (core entries (crossed_program p)) input

-- its source run strays nowhere
abbrev pub NeverAstray : Type 0
NeverAstray = (p : Program) → CanCross p → (input : List ℕ) → NeverStrays (source p) input
