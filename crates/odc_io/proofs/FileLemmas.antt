-- Files of a list, and their paths.
use Rattle.std.proofs.Common.{◌≡◌, ◌≢◌, ℕ, ◌+◌, ◌<◌, Bool, true, false, List, [], ◌∷◌, ◌++◌, zero, suc, length, take, drop, set, get_or, Some, None, IsSome, refl, sym, ◌∙◌, ap, subst, Option, MatchOption, arith, Bor, if◌then◌else◌, string_bytes}
use Rattle.std.specs.declared.vec.Vec.{Vec}
use Rattle.std.specs.declared.alloc.Global.{Global}
use Rattle.std.specs.Str.{bytes_eq}
use Rattle.std.specs.List.{Contains}
use Rattle.std.proofs.lemmas.List.{append_cancel_left, take_more, take-append-drop}
use Rattle.std.proofs.lemmas.List.Elements.{Contains-append_right}
use Rattle.std.proofs.lemmas.Map.Made.{Contains-tail}
use Rattle.std.proofs.lemmas.Slice.Eq.{bytes_eq-Decides}
use Rattle.std.proofs.Math.Seq.{drop-cons}
use Rattle.odc_io.specs.Trees.{joined, ReadsFront}
use Rattle.odc_io.specs.Files.{file_at, IsFirstAt}
use Rattle.odc_io.specs.declared.files.MemFile.{MemFile}

-- a path that goes on after its folder, with a slash or without
pub path_under_by : (path folder mid : List ℕ) (r : Option (Bor (List ℕ))) → path ≡ folder ++ mid
    → MatchOption r ((rest : List ℕ) → mid ≢ 47 ∷ rest) (λ x. mid ≡ 47 ∷ x.now)
    → MatchOption r ((rest : List ℕ) → path ≢ joined folder rest) (λ x. path ≡ joined folder x.now)
path_under_by path folder mid None e none = λ rest p. none rest (append_cancel_left folder mid (47 ∷ rest) (sym e ∙ p))
path_under_by path folder mid (Some x) e some = e ∙ ap (λ z. folder ++ z) some

pub same_bytes : (p q : List ℕ) → bytes_eq p q ≡ true → p ≡ q
same_bytes p q = (bytes_eq-Decides p q).0

pub bytes_same : (p q : List ℕ) → p ≡ q → bytes_eq p q ≡ true
bytes_same p q = (bytes_eq-Decides p q).1

none_by : (t : Bool) (b : List ℕ) (rest : Option (List ℕ)) → (if t then Some b else rest) ≡ None → (t ≡ false) × (rest ≡ None)
none_by true b rest h = cc
none_by false b rest h = (refl, h)

-- where the first files lack a path, the others decide
pub file_at-append : (xs ys : List MemFile) (p : List ℕ) → file_at xs p ≡ None → file_at (xs ++ ys) p ≡ file_at ys p
file_at-append [] ys p h = refl
file_at-append (x ∷ xs) ys p h =
    let both = none_by (bytes_eq p (string_bytes x.path)) x.bytes.items (file_at xs p) h in
    ap (λ t. if t then Some x.bytes.items else file_at (xs ++ ys) p) both.0 ∙ file_at-append xs ys p both.1

-- one file more that has another path
pub none_more : (files : List MemFile) (i : ℕ) (f : MemFile) (p : List ℕ) → i < length files → f ≡ get_or files i f
    → file_at (take i files) p ≡ None → bytes_eq p (string_bytes f.path) ≡ false → file_at (take (i + 1) files) p ≡ None
none_more files i f p h e none off =
    ap (λ z. file_at z p) (take_more files i f h)
    ∙ file_at-append (take i files) (get_or files i f ∷ []) p none
    ∙ ap (λ (z : MemFile). file_at (z ∷ []) p) (sym e)
    ∙ ap (λ t. if t then Some f.bytes.items else None) off

-- what the first file with the path holds
pub at_first : (files : List MemFile) (p : List ℕ) (i : ℕ) (d : MemFile) → IsFirstAt files p i
    → file_at files p ≡ Some (get_or files i d).bytes.items
at_first files p i d (h, none, here) =
    let f = get_or files i d in
    ap (λ z. file_at z p) (sym (take-append-drop i files))
    ∙ file_at-append (take i files) (drop i files) p none
    ∙ ap (λ z. file_at z p) (drop-cons files i d h)
    ∙ ap (λ t. if t then Some f.bytes.items else file_at (drop (suc i) files) p) (bytes_same p (string_bytes f.path) (sym (here d)))

pub reads_front_by : (o : Option (List ℕ)) (b : List ℕ) (limit : ℕ) (v : Vec ℕ Global) → o ≡ Some b
    → v.items ≡ take (limit + 1) b → ReadsFront o limit (Some v)
reads_front_by o b limit v e h = subst (λ z. ReadsFront z limit (Some v)) (sym e) h

-- two tests that don't hold together may come in either order
swapped : (t u : Bool) (x b : List ℕ) (r : Option (List ℕ)) → (t ≡ true → u ≡ true → ⊥)
    → (if t then Some x else (if u then Some b else r)) ≡ (if u then Some b else (if t then Some x else r))
swapped true true x b r h = absurd (h refl refl)
swapped true false x b r h = refl
swapped false u x b r h = refl

apart : (path other p : List ℕ) → bytes_eq path other ≡ false → bytes_eq p other ≡ true → bytes_eq p path ≡ true → ⊥
apart path other p off there here =
    let same : bytes_eq path other ≡ true = bytes_same path other (sym (same_bytes p path here) ∙ same_bytes p other there) in
    cc

placed_first : (u : Bool) (x b : List ℕ) (r : Option (List ℕ)) → (if u then Some b else r) ≡ (if u then Some b else (if u then Some x else r))
placed_first true x b r = refl
placed_first false x b r = refl

-- the file with the path in the place of the first one
pub file_at-set : (files : List MemFile) (i : ℕ) (f : MemFile) (path : List ℕ) → IsFirstAt files path i → string_bytes f.path ≡ path
    → (p : List ℕ) → file_at (set files i f) p ≡ (if bytes_eq p path then Some f.bytes.items else file_at files p)
file_at-set [] i f path (h, none, here) named p = absurd (omega (arith, h))
file_at-set (x ∷ xs) zero f path (h, none, here) named p =
    ap (λ z. if bytes_eq p z then Some f.bytes.items else file_at xs p) named
    ∙ placed_first (bytes_eq p path) x.bytes.items f.bytes.items (file_at xs p)
    ∙ ap (λ z. if bytes_eq p path then Some f.bytes.items else (if bytes_eq p z then Some x.bytes.items else file_at xs p)) (sym (here x))
file_at-set (x ∷ xs) (suc i) f path (h, none, here) named p =
    let both = none_by (bytes_eq path (string_bytes x.path)) x.bytes.items (file_at (take i xs) path) none in
    let fits : i < length xs = omega (arith, h) in
    ap (λ z. if bytes_eq p (string_bytes x.path) then Some x.bytes.items else z) (file_at-set xs i f path (fits, both.1, here) named p)
    ∙ swapped (bytes_eq p (string_bytes x.path)) (bytes_eq p path) x.bytes.items f.bytes.items (file_at xs p) (apart path (string_bytes x.path) p both.0)

-- a file with a new path after all
pub file_at-push : (files : List MemFile) (f : MemFile) (path : List ℕ) → file_at files path ≡ None → string_bytes f.path ≡ path
    → (p : List ℕ) → file_at (files ++ f ∷ []) p ≡ (if bytes_eq p path then Some f.bytes.items else file_at files p)
file_at-push [] f path none named p = ap (λ z. if bytes_eq p z then Some f.bytes.items else None) named
file_at-push (x ∷ xs) f path none named p =
    let both = none_by (bytes_eq path (string_bytes x.path)) x.bytes.items (file_at xs path) none in
    ap (λ z. if bytes_eq p (string_bytes x.path) then Some x.bytes.items else z) (file_at-push xs f path both.1 named p)
    ∙ swapped (bytes_eq p (string_bytes x.path)) (bytes_eq p path) x.bytes.items f.bytes.items (file_at xs p) (apart path (string_bytes x.path) p both.0)

-- the paths of the files
abbrev pub paths : List MemFile → List (List ℕ)
paths [] = []
paths (x ∷ xs) = string_bytes x.path ∷ paths xs

pub paths-append : (xs ys : List MemFile) → paths (xs ++ ys) ≡ paths xs ++ paths ys
paths-append [] ys = refl
paths-append (x ∷ xs) ys = ap (λ z. string_bytes x.path ∷ z) (paths-append xs ys)

pub paths_more : (files : List MemFile) (i : ℕ) (f : MemFile) → i < length files → f ≡ get_or files i f
    → paths (take (i + 1) files) ≡ paths (take i files) ++ string_bytes f.path ∷ []
paths_more files i f h e =
    ap paths (take_more files i f h) ∙ paths-append (take i files) (get_or files i f ∷ [])
    ∙ ap (λ (z : MemFile). paths (take i files) ++ string_bytes z.path ∷ []) (sym e)

file_there_by : (t : Bool) (b : List ℕ) (r : Option (List ℕ)) → (t ≡ false → IsSome r) → IsSome (if t then Some b else r)
file_there_by true b r h = refl
file_there_by false b r h = h refl

-- a path of the list has a file, and a file has its path in the list
pub file_there : (files : List MemFile) (p : List ℕ) → Contains (paths files) p → IsSome (file_at files p)
file_there [] p (k, h, e) = absurd (omega (arith, h))
file_there (x ∷ xs) p among =
    file_there_by (bytes_eq p (string_bytes x.path)) x.bytes.items (file_at xs p)
    (λ off. file_there xs p (Contains-tail (string_bytes x.path) (paths xs) p (λ e. let same = bytes_same p (string_bytes x.path) (sym e) in cc) among))

path_there_by : (t : Bool) (x p : List ℕ) (b : List ℕ) (r : Option (List ℕ)) (ps : List (List ℕ)) → (t ≡ true → p ≡ x)
    → (IsSome r → Contains ps p) → IsSome (if t then Some b else r) → Contains (x ∷ ps) p
path_there_by true x p b r ps same later h = (0, omega arith, sym (same refl))
path_there_by false x p b r ps same later h = Contains-append_right (x ∷ []) ps p (later h)

pub path_there : (files : List MemFile) (p : List ℕ) → IsSome (file_at files p) → Contains (paths files) p
path_there [] p h = cc
path_there (x ∷ xs) p h =
    path_there_by (bytes_eq p (string_bytes x.path)) (string_bytes x.path) p x.bytes.items (file_at xs p) (paths xs)
    (same_bytes p (string_bytes x.path)) (path_there xs p) h
