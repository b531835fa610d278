-- A status's line on the error output, and the lines that need no memory.
use Rattle.std.specs.Prelude.{◌≡◌, ◌⊎◌, ℕ, ◌≤◌, List, [], ◌++◌, length, take, Option}
use Rattle.odc_io.specs.Streams.{grown, GrewByFront}
use Rattle.odc_tool.specs.declared.status.Status.{Status}
use Rattle.odc_tool.specs.declared.status.Status.TheVariants.{Refused as RefusedStatus, FolderFault, ReadFault, WriteFault, Memory}
use Rattle.odc_tool.specs.declared.folder.GatherError.{GatherError}
use Rattle.odc_tool.specs.declared.folder.GatherError.TheVariants.{FolderFault as GatherFault, Refused, Memory as OutOfMemory}
use Rattle.odc_tool.specs.declared.run.Failure.{Failure}
use Rattle.odc_tool.specs.declared.run.Failure.TheVariants.{Read, Write, NoMemory}
use Rattle.odc_tool.specs.Status.{line_of}

-- a failure at which a command may be broken off
abbrev pub IsFailure : Status → Type 0
IsFailure ReadFault = Unit {0}
IsFailure WriteFault = Unit {0}
IsFailure Memory = Unit {0}
IsFailure _ = ⊥

abbrev pub status_of : Failure → Status
status_of Read = ReadFault
status_of Write = WriteFault
status_of NoMemory = Memory

-- a front of the line was written, and then the line of the failure or a front of it
pub record TellsFront (text : List ℕ) (status : Status) (old new : Option (List ℕ)) : Type 0 where
  pub failed : IsFailure status
  pub part : ℕ
  pub part_fits : part ≤ length text
  pub line : ℕ
  pub line_fits : line ≤ length (line_of status [] [])
  pub is : new ≡ grown old (take part text ++ take line (line_of status [] []))

-- the line of a status was written whole, or a failure came in its place
abbrev pub Tells : Status → List ℕ → Status → Option (List ℕ) → Option (List ℕ) → Type 0
Tells status text answered old new = ((answered ≡ status) × (new ≡ grown old text)) ⊎ TellsFront text answered old new

-- the answer is the status, or the output failed, or memory ran out
abbrev pub TellsBy : Status → (rose : Type 0) → Status → Type 0
TellsBy status rose answered = (answered ≡ status) ⊎ (((answered ≡ WriteFault) × rose) ⊎ (answered ≡ Memory))

-- why a folder gives no text is told by its line; where memory ran out, by that line or a front of it
abbrev pub TellsError : GatherError → Status → Option (List ℕ) → Option (List ℕ) → Type 0
TellsError (Refused fault path) answered old new = Tells (RefusedStatus fault) (line_of (RefusedStatus fault) path []) answered old new
TellsError GatherFault answered old new = Tells FolderFault (line_of FolderFault [] []) answered old new
TellsError OutOfMemory answered old new = (answered ≡ Memory) × GrewByFront old new (line_of Memory [] [])

abbrev pub ErrorTellsBy : GatherError → (rose : Type 0) → Status → Type 0
ErrorTellsBy (Refused fault path) rose answered = TellsBy (RefusedStatus fault) rose answered
ErrorTellsBy GatherFault rose answered = TellsBy FolderFault rose answered
ErrorTellsBy OutOfMemory rose answered = answered ≡ Memory
