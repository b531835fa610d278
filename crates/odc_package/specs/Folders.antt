-- Folders inside the program's own, and the paths that lead from one to another. The byte 47 is the slash, 46 the dot.
use Rattle.std.specs.Prelude.{◌≡◌, Bool, true, false, ℕ, ◌==◌, ◌&&◌, List, [], ◌∷◌, ◌++◌, Option, Some, None, map, length, take, get_or, if◌then◌else◌}
use Rattle.std.specs.Option.{option_and_then}
use Rattle.odc_package.specs.declared.folder.Name.{Name}
use Rattle.odc_package.specs.declared.folder.FolderPath.{FolderPath}
use Rattle.odc_package.specs.declared.folder.Step.{Step}
use Rattle.odc_package.specs.declared.folder.Step.TheVariants.{Nowhere, Here, Up, Into}

abbrev pub name_of : Name → List ℕ
name_of n = n.bytes.items

-- the names that lead to a folder
abbrev pub names_of : FolderPath → List (List ℕ)
names_of p = map name_of p.names.items

-- the parts of a path, between its slashes, behind the beginning of the first part
abbrev pub parts : List ℕ → List ℕ → List (List ℕ)
parts part [] = part ∷ []
parts part (b ∷ bs) = if b == 47 then part ∷ parts [] bs else parts (part ++ (b ∷ [])) bs

-- an empty part leads nowhere, one dot stays, two dots go up, and any other part is the name of a folder
abbrev pub step_of : List ℕ → Step
step_of part =
    if length part == 0 then Nowhere
    else if (length part == 1) && (get_or part 0 0 == 46) then Here
    else if (length part == 2) && ((get_or part 0 0 == 46) && (get_or part 1 0 == 46)) then Up
    else Into

-- the folder around one; there is none around the program's own
abbrev pub around : List (List ℕ) → Option (List (List ℕ))
around [] = None
around (n ∷ ns) = Some (take (length ns) (n ∷ ns))

abbrev pub gone : List (List ℕ) → List ℕ → Step → Option (List (List ℕ))
gone names part Nowhere = None
gone names part Here = Some names
gone names part Up = around names
gone names part Into = Some (names ++ (part ∷ []))

-- one part further
abbrev pub entered : List (List ℕ) → List ℕ → Option (List (List ℕ))
entered names part = gone names part (step_of part)

-- whether there is a way, and the folder to which it leads
abbrev pub IsEntered : Option (List (List ℕ)) → Bool → List (List ℕ) → Type 0
IsEntered to true at = to ≡ Some at
IsEntered to false at = to ≡ None

-- where parts lead, one after another
abbrev pub led : List (List ℕ) → List (List ℕ) → Option (List (List ℕ))
led names [] = Some names
led names (p ∷ ps) = option_and_then (λ ns. led ns ps) (entered names p)

-- where a path leads from a folder
abbrev pub resolved : List (List ℕ) → List ℕ → Option (List (List ℕ))
resolved names path = led names (parts [] path)
