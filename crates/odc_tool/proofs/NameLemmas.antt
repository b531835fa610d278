-- Names in a listing.
use Rattle.std.proofs.Common.{◌≡◌, ◌≢◌, ℕ, ◌+◌, ◌<◌, Bool, true, List, [], ◌∷◌, ◌++◌, length, take, map, get_or, Some, None, Option, is_some, MatchOption, IfSome, sym, ◌∙◌, ap, arith, codes, string_bytes, Bor}
use Rattle.std.specs.declared.string.String.{String}
use Rattle.std.specs.declared.alloc.Global.{Global}
use Rattle.std.specs.Str.{bytes_eq}
use Rattle.std.specs.List.{list_any, Contains}
use Rattle.std.proofs.lemmas.Slice.Eq.{bytes_eq-Decides}
use Rattle.std.proofs.lemmas.Map.Views.{Contains-from_any}
use Rattle.std.proofs.lemmas.List.{take_more, map-append, get_or-map, length-map}
use Rattle.std.proofs.lemmas.List.Folds.{list_any_at}
use Rattle.odc_tool.specs.Verdict.{IsSourceName}

pub source_by : (name : List ℕ) (r : Option (Bor (List ℕ))) (b : Bool) → b ≡ is_some r
    → MatchOption r ((front : List ℕ) → name ≢ front ++ codes ".odin") (λ x. name ≡ x.now ++ codes ".odin")
    → (b ≡ true → IsSourceName name) × (IsSourceName name → b ≡ true)
source_by name None b e off = (λ t. absurd (cc), λ (front, same). absurd (off front same))
source_by name (Some x) b e on = (λ t. (x.now, on), λ _. e)

-- one text more
pub texts_more : (xs : List (String Global)) (i : ℕ) (s : String Global) → i < length xs → s ≡ get_or xs i s
    → map string_bytes (take (i + 1) xs) ≡ map string_bytes (take i xs) ++ string_bytes s ∷ []
texts_more xs i s h e =
    ap (map string_bytes) (take_more xs i s h) ∙ map-append string_bytes (take i xs) (get_or xs i s ∷ [])
    ∙ ap (λ (z : String Global). map string_bytes (take i xs) ++ string_bytes z ∷ []) (sym e)

-- a text at an index is found
pub text_at : (xs : List (String Global)) (i : ℕ) (s : String Global) (text : List ℕ) → i < length xs → s ≡ get_or xs i s
    → bytes_eq text (string_bytes s) ≡ true → list_any (bytes_eq text) (map string_bytes xs) ≡ true
text_at xs i s text h e same =
    list_any_at (bytes_eq text) (map string_bytes xs) i text (omega (arith, h, length-map xs string_bytes))
    (ap (bytes_eq text) (get_or-map string_bytes xs i s text h ∙ ap string_bytes (sym e)) ∙ same)

-- what is told, in other words
pub told_weaker : {T : Type 0} (o : Option T) (P Q : T → Type 0) → ((x : T) → P x → Q x) → IfSome o P → IfSome o Q
told_weaker None P Q f h = tt
told_weaker (Some x) P Q f h = f x h

pub told_both : {T : Type 0} (o : Option T) (P Q R : T → Type 0) → ((x : T) → P x → Q x → R x) → IfSome o P → IfSome o Q → IfSome o R
told_both None P Q R f g h = tt
told_both (Some x) P Q R f g h = f x g h

pub told_always : {T : Type 0} (o : Option T) → IfSome o (λ _. Unit {0})
told_always None = tt
told_always (Some x) = tt

-- what the test finds is among the texts
pub among : (names : List (List ℕ)) (name : List ℕ) → list_any (bytes_eq name) names ≡ true → Contains names name
among names name h = Contains-from_any (λ x y. (bytes_eq-Decides x y).0) name names h
