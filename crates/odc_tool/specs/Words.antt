-- The commands, and which words are none.
use Rattle.std.specs.Prelude.{◌≡◌, ◌≢◌, ℕ, ◌+◌, ◌^◌, ◌<◌, ◌≤◌, List, [], ◌∷◌, ◌++◌, length, take, slice_index_or, codes, Option, Some, None}
use Rattle.std.specs.Str.Parse.{AllDigits, digits_value}
use Rattle.odc_tool.specs.declared.words.Command.{Command as Given}
use Rattle.odc_tool.specs.declared.words.Command.TheVariants.{Run, Exec, Build}

-- ---- the table of commands

-- the commands that carry out instructions: a package's, or those of a file
pub data Verb : Type 0 where
  running : Verb
  executing : Verb

abbrev pub word_of : Verb → List ℕ
word_of running = codes "run"
word_of executing = codes "exec"

-- A command, as its words say it: what is carried out, and the digits of the number of steps where it is given;
-- or the folder of a package, and the file that is made of it.
pub data Command : Type 0 where
  start : (verb : Verb) (what : List ℕ) (steps : Option (List ℕ)) → Command
  build : (dir file : List ℕ) → Command

-- one to twenty digits, of a number of 64 bits
pub record IsSteps (digits : List ℕ) : Type 0 where
  pub all : AllDigits 10 digits
  pub some : 0 < length digits
  pub short : length digits ≤ 20
  pub fits : digits_value 10 digits < 2 ^ 64

abbrev pub AreSteps : Option (List ℕ) → Type 0
AreSteps None = Unit {0}
AreSteps (Some digits) = IsSteps digits

abbrev pub steps_words : Option (List ℕ) → List (List ℕ)
steps_words None = []
steps_words (Some digits) = codes "--steps" ∷ digits ∷ []

abbrev pub words_of : Command → List (List ℕ)
words_of (start verb what steps) = word_of verb ∷ what ∷ steps_words steps
words_of (build dir file) = codes "build" ∷ dir ∷ file ∷ []

abbrev pub IsCommand : Command → Type 0
IsCommand (start verb what steps) = AreSteps steps
IsCommand (build dir file) = Unit {0}

-- some command begins with these words
abbrev pub Begins : List (List ℕ) → Type 0
Begins words = (command : Command) × IsCommand command × (rest : List (List ℕ)) × (words_of command ≡ words ++ rest)

-- these are the words of no command, and this is the first index at which no command begins so, or
-- the number of words where one is missing
pub record BadWord (words : List (List ℕ)) (index : ℕ) : Type 0 where
  pub none : (command : Command) → IsCommand command → words_of command ≢ words
  pub within : index ≤ length words
  pub before : Begins (take index words)
  pub bad : index < length words → ¬ Begins (take (index + 1) words)

-- the word at an index, and no text where it is missing
abbrev pub word_at : List (List ℕ) → ℕ → List ℕ
word_at words index = slice_index_or words index []

-- ---- what a command asks for

-- as many instructions as a run carries out where no number is given
abbrev pub default_steps : ℕ
default_steps = 1000000000

abbrev pub steps_number : Option (List ℕ) → ℕ
steps_number None = default_steps
steps_number (Some digits) = digits_value 10 digits

-- to run the package of a folder, or to execute a file, for so many instructions at most; or to write the file of a
-- package
pub data Asked : Type 0 where
  run : (dir : List ℕ) (n : ℕ) → Asked
  exec : (file : List ℕ) (n : ℕ) → Asked
  make : (dir file : List ℕ) → Asked

-- the words carry this out for so many instructions at most
abbrev pub IsStart : Verb → List (List ℕ) → List ℕ → ℕ → Type 0
IsStart verb words what n = (steps : Option (List ℕ)) × AreSteps steps × (words ≡ words_of (start verb what steps)) × (n ≡ steps_number steps)

-- the words ask for this
abbrev pub Ask : List (List ℕ) → Asked → Type 0
Ask words (run dir n) = IsStart running words dir n
Ask words (exec file n) = IsStart executing words file n
Ask words (make dir file) = words ≡ words_of (build dir file)

-- what a command that was read asks for
abbrev pub asked_by : Given → Asked
asked_by (Run dir steps) = run dir.now steps
asked_by (Exec file steps) = exec file.now steps
asked_by (Build dir file) = make dir.now file.now
