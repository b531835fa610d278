-- What the parts of the reader of words tell.
use Rattle.std.specs.Prelude.{◌≡◌, ℕ, List, [], ◌∷◌, codes, map, string_bytes}
use Rattle.std.specs.declared.string.String.{String}
use Rattle.std.specs.declared.alloc.Global.{Global}
use Rattle.odc_tool.specs.declared.words.Name.{Name}
use Rattle.odc_tool.specs.declared.words.Name.TheVariants.{Run, Exec, Build}

-- the word that names a command
abbrev pub text_of : Name → List ℕ
text_of Run = codes "run"
text_of Exec = codes "exec"
text_of Build = codes "build"

abbrev pub Texts : Type 0
Texts = List (String Global)

-- the first of some words
abbrev pub IsFirst : Texts → List ℕ → Type 0
IsFirst [] word = ⊥
IsFirst (x ∷ xs) word = string_bytes x ≡ word

abbrev pub spelled : Texts → List (List ℕ)
spelled xs = map string_bytes xs
