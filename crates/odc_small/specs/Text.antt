-- Texts whose names may stand, and the texts that are taken.
use Rattle.std.specs.Prelude.{◌≡◌, ℕ, ◌+◌, ◌<◌, ◌≤◌, List, [], ◌∷◌, ◌++◌, length, map, codes}
use Rattle.std.specs.List.{AllByRecursion}
use Rattle.odc_typed.specs.Tree.{Expr, Proc}
use Rattle.odc_small.specs.declared.scope.Signature.{Signature}
use Rattle.odc_small.specs.Forms.{Form, FoundAt, spellings, many, mark, both}
use Rattle.odc_small.specs.Grammar.{Value, Func, Tree, IsName, IsFunc, IsTree, LineAt, lines, newline, parameter_spelling, func_spelling, main_head, foot, text_spelling}
use Rattle.odc_small.specs.Names.{Callable, Names, KnowsFunc, KnowsBody, IsText, around_main, signature_of, sum_of, parameter_names}
use Rattle.odc_small.specs.Progress.{Reached, known_values}
use Rattle.odc_small.specs.Reading.{uppers, closed_by, nexts_of}
use Rattle.odc_small.specs.Typing.{value_at, func_proc, func_procs, main_proc, func_height}

-- a text has so many bytes at most
abbrev pub within : ℕ
within = 16384

-- the bytes are a text, and this is its tree
pub record Spells (bytes : List ℕ) (tree : Tree) : Type 0 where
  pub is : IsText tree
  pub whole : bytes ≡ text_spelling tree
  pub short : length bytes ≤ within

-- ---- procedures

-- parameters, each with its type
abbrev pub parameters : Form ℕ
parameters = record { spelling = parameter_spelling; Is = IsName; Ends = λ _. Unit {0} }

abbrev pub parameters_close : List ℕ
parameters_close = codes ") -> int {" ++ newline

-- the first line of a procedure
abbrev pub Heading : Type 0
Heading = ℕ × (Unit {0} × List ℕ)

abbrev pub headings : Form Heading
headings = both uppers (both (mark (codes " :: proc(")) (closed_by parameters_close parameters))

-- the last lines of a procedure
abbrev pub Footing : Type 0
Footing = Unit {0} × (Value × Unit {0})

abbrev pub footings : Callable → Names → Form Footing
footings callable bindings = both (mark (9 ∷ codes "return ")) (both (known_values callable bindings) (mark (newline ++ (codes "}" ++ newline))))

-- procedures whose names may stand
abbrev pub known_funcs : Callable → Form Func
known_funcs callable = record { spelling = func_spelling; Is = λ f. IsFunc f × KnowsFunc callable f; Ends = λ _. Unit {0} }

abbrev pub footing_told : Callable → Names → (line : ℕ) → ℕ → Footing → Expr
footing_told callable bindings line column t = value_at callable bindings line (column + 8) t.1.0

-- what has been read where the lines of a procedure begin
abbrev pub started : List ℕ → ℕ → Reached
started names line = record { names = parameter_names 0 names; locals = []; next = length names + 1; line = line + 1 }

-- a procedure is read, and what it becomes; so many lines come before, and so many before the next one
pub record ReadsFunc (callable : Callable) (line next : ℕ) (bytes rest : List ℕ) (p : Proc) (s : Signature) : Type 0 where
  pub tree : Func
  pub found : FoundAt (known_funcs callable) bytes tree rest
  pub gives : p ≡ func_proc callable line tree
  pub signature : s ≡ signature_of tree
  pub after : next ≡ line + func_height tree
  pub moves : next + length rest ≤ line + length bytes
  pub consumed : length rest < length bytes

-- further parameters are read behind a first one
pub record ReadsMore (first : ℕ) (bytes : List ℕ) (names : List ℕ) (rest : List ℕ) : Type 0 where
  pub others : List ℕ
  pub are : names ≡ first ∷ others
  pub found : FoundAt (many (nexts_of parameters)) bytes others rest

-- ---- texts where these procedures may be called

-- the bytes spell this tree, and its names may stand
pub record IsKnownText (callable : Callable) (bytes : List ℕ) (tree : Tree) : Type 0 where
  pub is : IsTree tree
  pub funcs : AllByRecursion (KnowsFunc callable) tree.funcs
  pub main : KnowsBody (around_main callable) 8 0 [] tree.main
  pub whole : bytes ≡ text_spelling tree

-- all procedures that stand here are read
pub record ReadsFuncs (callable : Callable) (next : ℕ) (bytes rest : List ℕ) (ps : List Proc) (ss : List Signature) : Type 0 where
  pub trees : List Func
  pub found : FoundAt (many (known_funcs callable)) bytes trees rest
  pub gives : ps ≡ func_procs callable 3 trees
  pub signatures : ss ≡ map signature_of trees
  pub after : next ≡ 3 + sum_of func_height trees
  pub moves : next + length rest ≤ 3 + length bytes

-- the lines of `main` to the end of the text
pub record MainAt (callable : Callable) (bytes : List ℕ) (ls : List (LineAt 7)) : Type 0 where
  pub is : AllByRecursion (lines 7).Is ls
  pub knows : KnowsBody (around_main callable) 8 0 [] ls
  pub whole : bytes ≡ main_head ++ (spellings (lines 7).spelling ls ++ foot)

pub record ReadsMain (callable : Callable) (line : ℕ) (bytes : List ℕ) (p : Proc) : Type 0 where
  pub trees : List (LineAt 7)
  pub found : MainAt callable bytes trees
  pub gives : p ≡ main_proc callable line trees

-- a whole text is read: its procedures, `main` last, and the signatures of the others
pub record ReadsText (callable : Callable) (bytes : List ℕ) (ps : List Proc) (ss : List Signature) : Type 0 where
  pub tree : Tree
  pub found : IsKnownText callable bytes tree
  pub gives : ps ≡ func_procs callable 3 tree.funcs ++ main_proc callable (3 + sum_of func_height tree.funcs) tree.main ∷ []
  pub signatures : ss ≡ map signature_of tree.funcs
  pub some : 0 < length ps
  pub few : length ps ≤ length bytes
  pub fewer : length ss ≤ length bytes
