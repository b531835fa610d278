-- The names that a walk over paths has found so far.
use Rattle.std.proofs.Common.{◌≡◌, ◌≢◌, ℕ, ◌<◌, inl, inr, Bool, true, false, List, [], ◌∷◌, ◌++◌, length, get_or, Some, None, refl, sym, ◌∙◌, ap, subst, map, arith, if◌then◌else◌, string_bytes}
use Rattle.std.specs.declared.vec.Vec.{Vec}
use Rattle.std.specs.declared.string.String.{String}
use Rattle.std.specs.declared.alloc.Global.{Global}
use Rattle.std.specs.Str.{bytes_eq}
use Rattle.std.specs.List.{Contains, AllPairs, list_any}
use Rattle.std.specs.Cmp.{IsEquivalence}
use Rattle.std.proofs.lemmas.Map.Views.{Contains-from_any, list_any-from_Contains}
use Rattle.std.proofs.lemmas.List.{append_cancel_left, get_or_default, map-append}
use Rattle.std.proofs.lemmas.List.Elements.{Contains-append_left, Contains-push, Contains-push_cases}
use Rattle.std.proofs.lemmas.List.Quantifiers.{all_pairs_push}
use Rattle.odc_io.specs.Trees.{joined, texts, ListsFiles}
use Rattle.odc_io.specs.Files.{file_at, AddsName}
use Rattle.odc_io.specs.declared.files.MemFile.{MemFile}
use Rattle.odc_io.proofs.FileLemmas.{paths, file_there, path_there, same_bytes, bytes_same}

pub record Listed (ps : List (List ℕ)) (folder : List ℕ) (names : List (List ℕ)) (any : Bool) : Type 0 where
  pub some : any ≡ true → (rest : List ℕ) × Contains ps (joined folder rest)
  pub none : any ≡ false → (rest : List ℕ) → Contains ps (joined folder rest) → ⊥
  pub each : (name : List ℕ) → Contains names name → ¬ Contains name 47 × Contains ps (joined folder name)
  pub all : (name : List ℕ) → ¬ Contains name 47 → Contains ps (joined folder name) → Contains names name
  pub distinct : AllPairs (λ a b. a ≢ b) names

same_name : (folder a b : List ℕ) → joined folder a ≡ joined folder b → a ≡ b
same_name folder a b e = let inner : 47 ∷ a ≡ 47 ∷ b = append_cancel_left folder (47 ∷ a) (47 ∷ b) e in cc

pub listed_none : (folder : List ℕ) → Listed [] folder [] false
listed_none folder = record {
  some = λ t. absurd (cc);
  none = λ t rest (k, h, e). omega (arith, h);
  each = λ name (k, h, e). absurd (omega (arith, h));
  all = λ name plain (k, h, e). absurd (omega (arith, h));
  distinct = λ i j d b h. absurd (omega (arith, h));
}

-- a path elsewhere
pub listed_other : (ps : List (List ℕ)) (folder : List ℕ) (names : List (List ℕ)) (any : Bool) (p : List ℕ)
    → ((rest : List ℕ) → p ≢ joined folder rest) → Listed ps folder names any → Listed (ps ++ p ∷ []) folder names any
listed_other ps folder names any p off l = record {
  some = λ t. let s = l.some t in (s.0, Contains-append_left ps (p ∷ []) (joined folder s.0) s.1);
  none = λ t rest h. elim (Contains-push_cases ps p (joined folder rest) h) [ inl x ↦ l.none t rest x | inr e ↦ off rest e ];
  each = λ name h. let e = l.each name h in (e.0, Contains-append_left ps (p ∷ []) (joined folder name) e.1);
  all = λ name plain h. elim (Contains-push_cases ps p (joined folder name) h) [ inl x ↦ l.all name plain x | inr e ↦ absurd (off name e) ];
  distinct = l.distinct;
}

absent : (names : List (List ℕ)) (name : List ℕ) → ¬ Contains names name → (k : ℕ) (d : List ℕ) → k < length names → get_or names k d ≢ name
absent names name missing k d h e = missing (k, h, get_or_default names k name d h ∙ e)

-- a path under the folder
pub listed_under : (ps : List (List ℕ)) (folder : List ℕ) (names new : List (List ℕ)) (any : Bool) (p rest : List ℕ)
    → p ≡ joined folder rest → AddsName names new rest → Listed ps folder names any → Listed (ps ++ p ∷ []) folder new true
listed_under ps folder names new any p rest e (inl (grew, plain, missing)) l =
    subst (λ z. Listed (ps ++ p ∷ []) folder z true) (sym grew) (record {
      some = λ t. (rest, subst (λ z. Contains (ps ++ p ∷ []) z) e (Contains-push ps p));
      none = λ t. absurd (cc);
      each = λ name h. elim (Contains-push_cases names rest name h) [
        | inl x ↦ (let was = l.each name x in (was.0, Contains-append_left ps (p ∷ []) (joined folder name) was.1))
        | inr s ↦ (subst (λ z. ¬ Contains z 47) s plain, subst (λ z. Contains (ps ++ p ∷ []) z) (e ∙ ap (joined folder) s) (Contains-push ps p))
      ];
      all = λ name simple h. elim (Contains-push_cases ps p (joined folder name) h) [
        | inl x ↦ Contains-append_left names (rest ∷ []) name (l.all name simple x)
        | inr s ↦ subst (λ z. Contains (names ++ rest ∷ []) z) (same_name folder rest name (sym e ∙ s)) (Contains-push names rest)
      ];
      distinct = all_pairs_push (λ a b. a ≢ b) names rest l.distinct (absent names rest missing);
    })
listed_under ps folder names new any p rest e (inr (same, why)) l =
    subst (λ z. Listed (ps ++ p ∷ []) folder z true) (sym same) (record {
      some = λ t. (rest, subst (λ z. Contains (ps ++ p ∷ []) z) e (Contains-push ps p));
      none = λ t. absurd (cc);
      each = λ name h. let was = l.each name h in (was.0, Contains-append_left ps (p ∷ []) (joined folder name) was.1);
      all = λ name simple h. elim (Contains-push_cases ps p (joined folder name) h) [
        | inl x ↦ l.all name simple x
        | inr s ↦ (let here = same_name folder rest name (sym e ∙ s) in
            elim why [ inl slash ↦ absurd (simple (subst (λ z. Contains z 47) here slash)) | inr had ↦ subst (λ z. Contains names z) here had ])
      ];
      distinct = l.distinct;
    })

-- all paths were walked
pub lists_files : (files : List MemFile) (folder : List ℕ) (names : Vec (String Global) Global) (any : Bool)
    → Listed (paths files) folder (texts names) any → ListsFiles (file_at files) folder (if any then Some names else None)
lists_files files folder names true l =
    let s = l.some refl in (
      (s.0, file_there files (joined folder s.0) s.1),
      record {
        each = λ name h. let e = l.each name h in (e.0, file_there files (joined folder name) e.1);
        all = λ name here. l.all name here.0 (path_there files (joined folder name) here.1);
        distinct = l.distinct;
      },
    )
lists_files files folder names false l = λ (rest, h). l.none refl rest (path_there files (joined folder rest) h)

-- a listing with its parts written otherwise
pub listed_as : (ps qs : List (List ℕ)) (folder : List ℕ) (names new : List (List ℕ)) (any b : Bool)
    → qs ≡ ps → new ≡ names → b ≡ any → Listed ps folder names any → Listed qs folder new b
listed_as ps qs folder names new any b e f g l =
    subst (λ z. Listed z folder new b) (sym e) (subst (λ z. Listed ps folder z b) (sym f) (subst (λ z. Listed ps folder names z) (sym g) l))

same_bool : (a b : Bool) → (a ≡ true → b ≡ true) → (b ≡ true → a ≡ true) → a ≡ b
same_bool true true f g = refl
same_bool true false f g = sym (f refl)
same_bool false true f g = g refl
same_bool false false f g = refl

bytes_laws : IsEquivalence bytes_eq
bytes_laws = record {
  refl = λ x. bytes_same x x refl;
  symm = λ x y. same_bool (bytes_eq x y) (bytes_eq y x) (λ h. bytes_same y x (sym (same_bytes x y h))) (λ h. bytes_same x y (sym (same_bytes y x h)));
  congr = λ x y z h. same_bool (bytes_eq x z) (bytes_eq y z)
      (λ g. bytes_same y z (sym (same_bytes x y h) ∙ same_bytes x z g)) (λ g. bytes_same x z (same_bytes x y h ∙ same_bytes y z g));
}

-- the test finds exactly the names of a list
pub among : (names : List (List ℕ)) (name : List ℕ) → list_any (bytes_eq name) names ≡ true → Contains names name
among names name h = Contains-from_any same_bytes name names h

pub not_among : (names : List (List ℕ)) (name : List ℕ) → list_any (bytes_eq name) names ≡ false → ¬ Contains names name
not_among names name off there = let found = list_any-from_Contains bytes_laws name names there in cc

pub texts_push : (names new : Vec (String Global) Global) (s : String Global) (name : List ℕ)
    → new.items ≡ names.items ++ s ∷ [] → string_bytes s ≡ name → texts new ≡ texts names ++ name ∷ []
texts_push names new s name e f =
    ap (map string_bytes) e ∙ map-append string_bytes names.items (s ∷ []) ∙ ap (λ z. texts names ++ z ∷ []) f
