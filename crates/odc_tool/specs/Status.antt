-- The exit number of each status, and the line that tells it. 10 is a newline.
use Rattle.std.specs.Prelude.{ℕ, false, List, [], ◌∷◌, ◌++◌, codes}
use Rattle.std.specs.Fmt.{decimal, digits}
use Rattle.odc_text.specs.Code.{name_of, text_of}
use Rattle.odc_text.specs.Check.{name_of as check_name}
use Rattle.odc_text.specs.declared.code.Fault.{Fault}
use Rattle.odc_text.specs.declared.check.Check.{Check}
use Rattle.odc_text.specs.declared.place.Place.{Place}
use Rattle.odc_tool.specs.declared.status.Status.{Status}
use Rattle.odc_tool.specs.declared.status.Status.TheVariants.{Done, Exited, Refused, Usage, Stopped, StepsOut, Trapped, Strayed, BadImage, FolderFault, ReadFault, WriteFault, Memory, TurnsOut}

abbrev pub number_of : Status → ℕ
number_of Done = 0
number_of (Exited code) = code
number_of (Refused fault) = 1
number_of (Usage word) = 2
number_of (Stopped check at) = 3
number_of (StepsOut steps) = 4
number_of (Trapped pc) = 5
number_of (Strayed at) = 6
number_of (BadImage rule offset) = 7
number_of FolderFault = 8
number_of ReadFault = 9
number_of WriteFault = 10
number_of Memory = 11
number_of (TurnsOut turns) = 12

abbrev pub newline : List ℕ
newline = 10 ∷ []

-- `:LINE:COLUMN: ` and what follows
abbrev pub placed : Place → List ℕ → List ℕ
placed at rest = codes ":" ++ (decimal at.line ++ (codes ":" ++ (decimal at.column ++ (codes ": " ++ rest))))

abbrev pub refused_text_of : Fault → List ℕ
refused_text_of fault = placed fault.at (name_of fault.code ++ (codes " " ++ (text_of fault.code ++ newline)))

abbrev pub stopped_text_of : Check → Place → List ℕ
stopped_text_of check at = placed at (codes "stopped: " ++ (check_name check ++ newline))

abbrev pub strayed_text_of : Place → List ℕ
strayed_text_of at = placed at (codes "strayed" ++ newline)

-- the path of the place's file, where the status has a place
abbrev pub path_of : Status → List ℕ → List ℕ
path_of (Refused fault) path = path
path_of (Stopped check at) path = path
path_of (Strayed at) path = path
path_of status path = []

-- what stands behind it, given the word that fits no command
abbrev pub text_behind : Status → List ℕ → List ℕ
text_behind Done word = []
text_behind (Exited code) word = []
text_behind (Refused fault) word = refused_text_of fault
text_behind (Usage index) word = codes "odin_rv: bad word " ++ (word ++ newline)
text_behind (Stopped check at) word = stopped_text_of check at
text_behind (StepsOut steps) word = codes "odin_rv: stopped after " ++ (decimal steps ++ (codes " steps" ++ newline))
text_behind (Trapped pc) word = codes "odin_rv: trap at 0x" ++ (digits 16 false pc ++ newline)
text_behind (Strayed at) word = strayed_text_of at
text_behind (BadImage rule offset) word = codes "odin_rv: bad image, rule " ++ (decimal rule ++ (codes " at " ++ (decimal offset ++ newline)))
text_behind FolderFault word = codes "odin_rv: folder fault" ++ newline
text_behind ReadFault word = codes "odin_rv: read fault" ++ newline
text_behind WriteFault word = codes "odin_rv: write fault" ++ newline
text_behind Memory word = codes "odin_rv: no memory" ++ newline
text_behind (TurnsOut turns) word = codes "odin_rv: stopped after " ++ (decimal turns ++ (codes " turns" ++ newline))

-- the line of a status, given the path of its place's file and the word that fits no command
abbrev pub line_of : Status → List ℕ → List ℕ → List ℕ
line_of status path word = path_of status path ++ text_behind status word
