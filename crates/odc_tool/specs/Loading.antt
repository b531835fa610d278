-- What the parts of a command tell of the bytes of a file, of its image, and of a program.
use Rattle.std.specs.Prelude.{◌≡◌, ◌⊎◌, ℕ, List, Option, Some, None}
use Rattle.odc_io.specs.Trees.{Tree as Files}
use Rattle.rv_machine.specs.Outside.{Told}
use Rattle.rv_machine.specs.Machine.{loaded_from}
use Rattle.elf_file.specs.Rules.{Image, Denotes}
use Rattle.elf_file.specs.Rules.{refused as refused_file}
use Rattle.elf_file.specs.declared.read.BadImage.{BadImage as Broken}
use Rattle.odc_typed.specs.Tree.{Whole}
use Rattle.odc_build.specs.Kept.{loaded}
use Rattle.odc_tool.specs.Headline.{Answers, ImageAnswers, bad_image, GaveNothing, Ran, Made, Failed, Causes, broken, IsImage}
use Rattle.odc_tool.specs.declared.run.Ready.{Ready}
use Rattle.odc_tool.specs.declared.status.Status.{Status}

-- an image is loaded, with the paths that it lists
pub record IsReady (image : Image) (ready : Ready) : Type 0 where
  pub machine : ready.machine ≡ loaded_from (loaded image)
  pub paths : ready.paths.items ≡ image.lists.paths

-- what is answered for the bytes of a file
pub record BytesAnswer (bytes : List ℕ) (n : ℕ) (answered : Status) (old new : Told) : Type 0 where
  pub refused_where : (b : Broken) → refused_file bytes ≡ Some b → Answers (bad_image b) answered old new
  pub runs_where : (image : Image) → refused_file bytes ≡ None → Denotes bytes image → ImageAnswers image n answered old new

-- what is answered for a file of which so much was read
pub record FileAnswer (content : Option (List ℕ)) (n : ℕ) (answered : Status) (old new : Told) : Type 0 where
  pub refused_where : (b : Broken) → broken content ≡ Some b → Answers (bad_image b) answered old new
  pub runs_where : (image : Image) → IsImage content image → ImageAnswers image n answered old new

-- what is answered for a program; the image is where the bytes of its file are left
abbrev pub ProgramAnswers : Whole → ℕ → Status → (image image' : List ℕ) → Told → Told → Type 0
ProgramAnswers p n answered image image' old new =
    ((image' ≡ image) × GaveNothing answered old new) ⊎ Ran p n image' answered old new

-- what is answered for a program whose file is to be written
abbrev pub WriteAnswers : Whole → List ℕ → (rose : Type 0) → Status → (tree tree' : Option Files) → (image image' : List ℕ) → Told → Told → Type 0
WriteAnswers p file rose answered tree tree' image image' old new =
    ((image' ≡ image) × Failed rose answered old new) ⊎ Made p file tree tree' image' answered old new

-- ---- causes

-- where something is run, and it may be that a rule isn't met
abbrev pub start_causes : (runs : Type 0) → (Broken → Type 0) → (input_rose output_rose : Type 0) → Causes
start_causes runs breaks ir or = record {
  done = ⊥;
  refused = λ _. ⊥;
  runs = runs;
  breaks = breaks;
  folder = ⊥;
  input = ir;
  output = or;
}

-- a program is run
abbrev pub program_causes : (input_rose output_rose : Type 0) → Causes
program_causes ir or = start_causes (Unit {0}) (λ _. ⊥) ir or

-- the bytes of a file are run
abbrev pub bytes_causes : List ℕ → (input_rose output_rose : Type 0) → Causes
bytes_causes bytes ir or = start_causes (refused_file bytes ≡ None) (λ b. refused_file bytes ≡ Some b) ir or

-- the file at a path is run
abbrev pub file_causes : Option (List ℕ) → (input_rose output_rose : Type 0) → Causes
file_causes content ir or = start_causes (broken content ≡ None) (λ b. broken content ≡ Some b) ir or

-- the file of a program is written
abbrev pub write_causes : (folder_rose output_rose : Type 0) → Causes
write_causes fr or = record {
  done = Unit {0};
  refused = λ _. ⊥;
  runs = ⊥;
  breaks = λ _. ⊥;
  folder = fr;
  input = ⊥;
  output = or;
}
