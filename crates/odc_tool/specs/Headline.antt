-- What a command does: the theorem of the whole program.
--
-- Where nothing fails, a command gives a status, bytes to the two outputs, and takes bytes of the input (`Given`).
-- Bad words, a package that breaks a rule and a file that denotes no image give their line. The file of any other
-- package is built (`IsBuilt`): `build` writes it, `run` gives the machine run of its image, and `exec` that of the
-- image of a file. Where the outside or memory fails, fronts of these bytes were given, and the line of the failure
-- after them (`Answers`).
use Rattle.std.specs.Prelude.{◌≡◌, ◌⊎◌, ℕ, ◌^◌, ◌≤◌, nat_le, List, [], ◌∷◌, ◌++◌, length, take, get_or, IfSome, Option, Some, None, if◌then◌else◌}
use Rattle.odc_text.specs.declared.code.Fault.{Fault}
use Rattle.odc_text.specs.Run.{End, exited, checked, strayed, trapped, going}
use Rattle.odc_io.specs.Streams.{grown, shrunk, GrewByFront}
use Rattle.odc_io.specs.Trees.{with_file, SameBut}
use Rattle.odc_io.specs.Trees.{Tree as Files}
use Rattle.rv_table.specs.Run.{machine}
use Rattle.rv_machine.specs.Outside.{Told, out_bytes, err_bytes}
use Rattle.elf_file.specs.Rules.{Image, Denotes}
use Rattle.elf_file.specs.Rules.{refused as refused_file}
use Rattle.elf_file.specs.declared.read.BadImage.{BadImage as Broken}
use Rattle.odc_typed.specs.Tree.{Whole}
use Rattle.odc_small.specs.Grammar.{Tree}
use Rattle.odc_small.specs.Typing.{typed}
use Rattle.odc_build.specs.Kept.{IsBuilt, loaded}
use Rattle.odc_tool.specs.declared.status.Status.{Status}
use Rattle.odc_tool.specs.declared.status.Status.TheVariants.{Done, Exited, Refused, Usage, Stopped, StepsOut, Trapped, Strayed, BadImage, FolderFault, ReadFault, WriteFault, Memory, TurnsOut}
use Rattle.odc_tool.specs.Status.{line_of}
use Rattle.odc_tool.specs.Telling.{IsFailure}
use Rattle.odc_tool.specs.Verdict.{Verdict, refused, taken, main_name}
use Rattle.odc_tool.specs.Words.{word_at, Asked, run, exec, make, Ask, BadWord}

-- ---- without a failure

-- a status, the bytes to the outputs, the status's line among them, and how much input is taken
pub record Given : Type 0 where
  pub status : Status
  pub out : List ℕ
  pub err : List ℕ
  pub taken : ℕ

-- a status that comes before any run: its line alone
abbrev pub told_alone : Status → (path word : List ℕ) → Given
told_alone status path word = record { status = status; out = []; err = line_of status path word; taken = 0 }

-- words that are no command
abbrev pub bad_words : List (List ℕ) → ℕ → Given
bad_words words i = told_alone (Usage i) [] (word_at words i)

-- a package that breaks a rule
abbrev pub refusal : Fault → List ℕ → Given
refusal fault path = told_alone (Refused fault) path []

-- a file that denotes no image
abbrev pub bad_image : Broken → Given
bad_image broken = told_alone (BadImage broken.rule broken.offset) [] []

-- a folder that fails
abbrev pub folder_fault : Given
folder_fault = told_alone FolderFault [] []

-- the status of a machine run that stands so after so many steps
abbrev pub IsStatusOf : ℕ → End → Status → Type 0
IsStatusOf n (exited code) status = status ≡ Exited code
IsStatusOf n (checked check at) status = status ≡ Stopped check at
IsStatusOf n (trapped pc) status = status ≡ Trapped pc
IsStatusOf n going status = status ≡ StepsOut n
IsStatusOf n (strayed at) status = ⊥

-- the path of the file in which a check stopped, among those that the image lists
abbrev pub path_in : List (List ℕ) → Status → List ℕ
path_in paths (Stopped check at) = get_or paths at.file.number []
path_in paths _ = []

abbrev pub line_in : List (List ℕ) → Status → List ℕ
line_in paths status = line_of status (path_in paths status) []

-- what the run of an image gives on an input after so many steps
pub record RunOf (image : Image) (n : ℕ) (rest : List ℕ) (g : Given) : Type 0 where
  pub status : IsStatusOf n (machine (loaded image) rest n).end g.status
  pub out : g.out ≡ out_bytes (machine (loaded image) rest n).log
  pub err : g.err ≡ err_bytes (machine (loaded image) rest n).log ++ line_in image.lists.paths g.status
  pub taken : g.taken ≡ (machine (loaded image) rest n).taken

-- ---- with failures

-- all was given
pub record Gave (g : Given) (answered : Status) (old new : Told) : Type 0 where
  pub status : answered ≡ g.status
  pub out : new.out ≡ grown old.out g.out
  pub err : new.err ≡ grown old.err g.err
  pub input : new.input ≡ shrunk old.input g.taken

-- fronts were given, and the failure's line after them, or a front of it
pub record GaveFront (g : Given) (answered : Status) (old new : Told) : Type 0 where
  pub failed : IsFailure answered
  pub out : GrewByFront old.out new.out g.out
  pub part : ℕ
  pub part_fits : part ≤ length g.err
  pub line : ℕ
  pub line_fits : line ≤ length (line_of answered [] [])
  pub err : new.err ≡ grown old.err (take part g.err ++ take line (line_of answered [] []))
  pub taken : ℕ
  pub taken_fits : taken ≤ g.taken
  pub input : new.input ≡ shrunk old.input taken

abbrev pub Answers : Given → Status → Told → Told → Type 0
Answers g answered old new = Gave g answered old new ⊎ GaveFront g answered old new

-- memory ran out before a run: nothing was given but its line, or a front of it
pub record GaveNothing (answered : Status) (old new : Told) : Type 0 where
  pub status : answered ≡ Memory
  pub out : new.out ≡ old.out
  pub err : GrewByFront old.err new.err (line_of Memory [] [])
  pub input : new.input ≡ old.input

-- the folder failed, or memory ran out, before anything else
abbrev pub Failed : (rose : Type 0) → Status → Told → Told → Type 0
Failed rose answered old new = (rose × Answers folder_fault answered old new) ⊎ GaveNothing answered old new

-- ---- the run of an image

-- so it is on some input, which is the one that is told where one is
abbrev pub OnInput : Option (List ℕ) → (List ℕ → Type 0) → Type 0
OnInput told P = (rest : List ℕ) × IfSome told (λ r. r ≡ rest) × P rest

-- what an image answers on an input
abbrev pub ImageAnswersOn : Image → ℕ → Status → Told → Told → List ℕ → Type 0
ImageAnswersOn image n answered old new rest = (g : Given) × RunOf image n rest g × Answers g answered old new

-- what an image answers, unless memory runs out before its run
abbrev pub ImageAnswers : Image → ℕ → Status → Told → Told → Type 0
ImageAnswers image n answered old new = GaveNothing answered old new ⊎ OnInput old.input (ImageAnswersOn image n answered old new)

-- ---- `run`

-- the paths of a package
abbrev pub paths_of : List (List ℕ)
paths_of = main_name ∷ []

-- the file of a program was built, before any input was read, and its image was run
pub record Ran (p : Whole) (n : ℕ) (bytes : List ℕ) (answered : Status) (old new : Told) : Type 0 where
  pub built : IsBuilt p paths_of bytes
  pub answers : ImageAnswers built.image n answered old new

-- What is answered for a folder that tells its files, where so many steps are carried out at most; `rose` says that
-- the folder's count of faults rose in the call, and the image is where the bytes of the file are left.
pub record RunAnswers (files : Files) (dir : List ℕ) (n : ℕ) (rose : Type 0) (answered : Status) (image image' : List ℕ) (old new : Told) : Type 0 where
  -- a package that breaks a rule is refused by it
  pub refused_where : (fault : Fault) (path : List ℕ) → Verdict files dir (refused fault path) →
      (image' ≡ image) × ((rose × Answers folder_fault answered old new) ⊎ Answers (refusal fault path) answered old new)
  -- any other package runs
  pub runs_where : (tree : Tree) → Verdict files dir (taken tree) →
      ((image' ≡ image) × Failed rose answered old new) ⊎ Ran (typed tree) n image' answered old new

-- ---- `build`

-- the file of a program was built and written
pub record Made (p : Whole) (file : List ℕ) (tree tree' : Option Files) (bytes : List ℕ) (answered : Status) (old new : Told) : Type 0 where
  pub done : answered ≡ Done
  pub built : IsBuilt p paths_of bytes
  pub written : tree' ≡ with_file tree file bytes
  pub quiet : new ≡ old

-- what is answered for a folder that tells its files
pub record BuildAnswers (files : Files) (dir file : List ℕ) (rose : Type 0) (answered : Status) (tree' : Option Files) (image image' : List ℕ) (old new : Told) : Type 0 where
  -- a package that breaks a rule is refused by it, and no file is written
  pub refused_where : (fault : Fault) (path : List ℕ) → Verdict files dir (refused fault path) →
      (image' ≡ image) × ((tree' ≡ Some files) × ((rose × Answers folder_fault answered old new) ⊎ Answers (refusal fault path) answered old new))
  -- the file of any other package is written
  pub builds_where : (tree : Tree) → Verdict files dir (taken tree) →
      ((image' ≡ image) × Failed rose answered old new) ⊎ Made (typed tree) file (Some files) tree' image' answered old new

-- ---- `exec`

-- the most bytes of a file
abbrev pub file_limit : ℕ
file_limit = 2 ^ 31

-- the rule that says that the file is there, and that it has no more bytes
abbrev pub no_file : Broken
no_file = record { rule = 0; offset = 0 }

-- the first rule that the file at a path doesn't meet
abbrev pub broken : Option (List ℕ) → Option Broken
broken None = Some no_file
broken (Some bytes) = if nat_le (length bytes) file_limit then refused_file bytes else Some no_file

-- the file at a path meets all rules and denotes the image
pub record IsImage (content : Option (List ℕ)) (image : Image) : Type 0 where
  pub bytes : List ℕ
  pub there : content ≡ Some bytes
  pub accepted : broken content ≡ None
  pub denotes : Denotes bytes image

-- what is answered for a file
pub record ExecAnswers (content : Option (List ℕ)) (n : ℕ) (rose : Type 0) (answered : Status) (old new : Told) : Type 0 where
  -- a file that breaks a rule is refused by the first one
  pub refused_where : (b : Broken) → broken content ≡ Some b → (rose × Answers folder_fault answered old new) ⊎ Answers (bad_image b) answered old new
  -- the image of any other one runs
  pub runs_where : (image : Image) → IsImage content image → (rose × Answers folder_fault answered old new) ⊎ ImageAnswers image n answered old new

-- ---- by what is asked for

-- what is answered, from the tree and the image before to those after it: `run` and `exec` change no file, `build` no
-- other one, and `exec` leaves the image as it is
abbrev pub AskedAnswers : Asked → (rose : Type 0) → Status → (tree tree' : Option Files) → (image image' : List ℕ) → Told → Told → Type 0
AskedAnswers (run dir n) rose answered tree tree' image image' old new =
    (tree' ≡ tree) × IfSome tree (λ files. RunAnswers files dir n rose answered image image' old new)
AskedAnswers (exec file n) rose answered tree tree' image image' old new =
    (tree' ≡ tree) × ((image' ≡ image) × IfSome tree (λ files. ExecAnswers (files file) n rose answered old new))
AskedAnswers (make dir file) rose answered tree tree' image image' old new =
    SameBut file tree tree' × IfSome tree (λ files. BuildAnswers files dir file rose answered tree' image image' old new)

-- ---- the other way: what a status says

-- what has to hold for statuses to be given
pub record Causes : Type 1 where
  -- the command did what it was asked
  pub done : Type 0
  -- the package breaks a rule with this fault
  pub refused : Fault → Type 0
  -- instructions were carried out
  pub runs : Type 0
  -- the file doesn't meet this rule
  pub breaks : Broken → Type 0
  -- the count of faults of the folder, of the input, of an output rose
  pub folder : Type 0
  pub input : Type 0
  pub output : Type 0

-- the cause of a status where so many steps are carried out at most; memory is free
abbrev pub CauseBy : Causes → ℕ → Status → Type 0
CauseBy c n Done = c.done
CauseBy c n (Exited code) = c.runs
CauseBy c n (Refused fault) = c.refused fault
CauseBy c n (Usage i) = ⊥
CauseBy c n (Stopped check at) = c.runs
CauseBy c n (StepsOut steps) = c.runs × (steps ≡ n)
CauseBy c n (Trapped pc) = c.runs
CauseBy c n (Strayed at) = ⊥
CauseBy c n (BadImage rule offset) = c.breaks (record { rule = rule; offset = offset })
CauseBy c n FolderFault = c.folder
CauseBy c n ReadFault = c.input
CauseBy c n WriteFault = c.output
CauseBy c n Memory = Unit {0}
CauseBy c n (TurnsOut turns) = ⊥

-- the package of the folder breaks no rule; a folder that isn't told shows nothing
abbrev pub IsPackage : List ℕ → Option Files → Type 0
IsPackage dir files = IfSome files (λ f. (tree : Tree) × Verdict f dir (taken tree))

-- the package breaks a rule with this fault
abbrev pub IsRefused : List ℕ → Option Files → Fault → Type 0
IsRefused dir files fault = IfSome files (λ f. (path : List ℕ) × Verdict f dir (refused fault path))

-- the file at a path meets all rules, or breaks this one
abbrev pub IsExecutable : List ℕ → Option Files → Type 0
IsExecutable file files = IfSome files (λ f. broken (f file) ≡ None)

abbrev pub IsBroken : List ℕ → Option Files → Broken → Type 0
IsBroken file files b = IfSome files (λ f. broken (f file) ≡ Some b)

abbrev pub run_causes : List ℕ → Option Files → (folder_rose input_rose output_rose : Type 0) → Causes
run_causes dir files fr ir or = record {
  done = ⊥;
  refused = IsRefused dir files;
  runs = IsPackage dir files;
  breaks = λ _. ⊥;
  folder = fr;
  input = ir;
  output = or;
}

abbrev pub build_causes : List ℕ → Option Files → (folder_rose output_rose : Type 0) → Causes
build_causes dir files fr or = record {
  done = IsPackage dir files;
  refused = IsRefused dir files;
  runs = ⊥;
  breaks = λ _. ⊥;
  folder = fr;
  input = ⊥;
  output = or;
}

abbrev pub exec_causes : List ℕ → Option Files → (folder_rose input_rose output_rose : Type 0) → Causes
exec_causes file files fr ir or = record {
  done = ⊥;
  refused = λ _. ⊥;
  runs = IsExecutable file files;
  breaks = IsBroken file files;
  folder = fr;
  input = ir;
  output = or;
}

abbrev pub AskedCause : Asked → Option Files → (folder_rose input_rose output_rose : Type 0) → Status → Type 0
AskedCause (run dir n) files fr ir or status = CauseBy (run_causes dir files fr ir or) n status
AskedCause (exec file n) files fr ir or status = CauseBy (exec_causes file files fr ir or) n status
AskedCause (make dir file) files fr ir or status = CauseBy (build_causes dir files fr or) 0 status

-- the cause of a status: bad words, or that of what the words ask for; memory is free, and a failed output may come in
-- the place of any
abbrev pub HasCause : List (List ℕ) → Option Files → (folder_rose input_rose output_rose : Type 0) → Status → Type 0
HasCause words files fr ir or (Usage i) = BadWord words i
HasCause words files fr ir or WriteFault = or
HasCause words files fr ir or Memory = Unit {0}
HasCause words files fr ir or status = (asked : Asked) × Ask words asked × AskedCause asked files fr ir or status
