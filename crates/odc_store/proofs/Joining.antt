-- What numbers and marks stand for, part by part.
use Rattle.std.proofs.Common.{◌≡◌, ℕ, zero, suc, ◌<◌, List, [], ◌∷◌, ◌++◌, Option, Some, None, length, take, drop, replicate, refl, sym, ◌∙◌, ap, arith, get_or, slice_get}
use Rattle.odc_store.specs.declared.bytes.Origin.{Origin}
use Rattle.odc_store.specs.declared.bytes.SourceByte.{SourceByte}
use Rattle.odc_store.specs.declared.bytes.SourceByte.TheVariants.{Number}
use Rattle.odc_store.specs.Bytes.{byte, joined, numbers}

pub length_joined : (ns : List ℕ) (ms : List (Option Origin)) → length (joined ns ms) ≡ length ns
length_joined [] ms = refl
length_joined (n ∷ ns) [] = ap suc (length_joined ns [])
length_joined (n ∷ ns) (m ∷ ms) = ap suc (length_joined ns ms)

-- a byte, by its number and its mark
pub get_joined : (ns : List ℕ) (ms : List (Option Origin)) (i n : ℕ) → slice_get ns i ≡ Some n → slice_get (joined ns ms) i ≡ Some (byte n (get_or ms i None))
get_joined [] ms i n e = cc
get_joined (k ∷ ns) [] zero n e = cc
get_joined (k ∷ ns) (m ∷ ms) zero n e = cc
get_joined (k ∷ ns) [] (suc i) n e = get_joined ns [] i n e
get_joined (k ∷ ns) (m ∷ ms) (suc i) n e = get_joined ns ms i n e

pub take_none : {A : Type 0} (k : ℕ) → take {A = A} k [] ≡ []
take_none zero = refl
take_none (suc k) = refl

pub drop_none : {A : Type 0} (k : ℕ) → drop {A = A} k [] ≡ []
drop_none zero = refl
drop_none (suc k) = refl

pub take_joined : (k : ℕ) (ns : List ℕ) (ms : List (Option Origin)) → joined (take k ns) (take k ms) ≡ take k (joined ns ms)
take_joined zero ns ms = refl
take_joined (suc k) [] ms = refl
take_joined (suc k) (n ∷ ns) [] = ap (λ bs. Number n ∷ bs) (ap (joined (take k ns)) (sym (take_none k)) ∙ take_joined k ns [])
take_joined (suc k) (n ∷ ns) (m ∷ ms) = ap (λ bs. byte n m ∷ bs) (take_joined k ns ms)

pub drop_joined : (k : ℕ) (ns : List ℕ) (ms : List (Option Origin)) → joined (drop k ns) (drop k ms) ≡ drop k (joined ns ms)
drop_joined zero ns ms = refl
drop_joined (suc k) [] ms = refl
drop_joined (suc k) (n ∷ ns) [] = ap (joined (drop k ns)) (sym (drop_none k)) ∙ drop_joined k ns []
drop_joined (suc k) (n ∷ ns) (m ∷ ms) = drop_joined k ns ms

-- a front of numbers has a front of the marks
pub split : (xs ys : List ℕ) (ms : List (Option Origin)) → joined (xs ++ ys) ms ≡ joined xs (take (length xs) ms) ++ joined ys (drop (length xs) ms)
split [] ys ms = refl
split (x ∷ xs) ys [] = ap (λ bs. Number x ∷ bs) (split xs ys [] ∙ ap (λ a. joined xs a ++ joined ys (drop (length xs) [])) (take_none (length xs)) ∙ ap (λ b. joined xs [] ++ joined ys b) (drop_none (length xs)))
split (x ∷ xs) ys (m ∷ ms) = ap (λ bs. byte x m ∷ bs) (split xs ys ms)

-- bytes that are numbers may have no marks
pub unmarked : (ns : List ℕ) (k : ℕ) → joined ns (replicate k None) ≡ numbers ns
unmarked [] k = refl
unmarked (n ∷ ns) zero = refl
unmarked (n ∷ ns) (suc k) = ap (λ bs. Number n ∷ bs) (unmarked ns k)

-- marks of numbers that are added change nothing
pub padded_front : (f : ℕ) (xs : List ℕ) (ms : List (Option Origin)) (k : ℕ) → joined xs (take f (ms ++ replicate k None)) ≡ joined xs (take f ms)
padded_front zero xs ms k = refl
padded_front (suc f) [] ms k = refl
padded_front (suc f) (x ∷ xs) [] zero = refl
padded_front (suc f) (x ∷ xs) [] (suc k) = ap (λ bs. Number x ∷ bs) (padded_front f xs [] k ∙ ap (joined xs) (take_none f))
padded_front (suc f) (x ∷ xs) (m ∷ ms) k = ap (λ bs. byte x m ∷ bs) (padded_front f xs ms k)

pub padded_back : (f : ℕ) (xs : List ℕ) (ms : List (Option Origin)) (k : ℕ) → joined xs (drop f (ms ++ replicate k None)) ≡ joined xs (drop f ms)
padded_back zero [] ms k = refl
padded_back zero (x ∷ xs) [] k = unmarked (x ∷ xs) k
padded_back zero (x ∷ xs) (m ∷ ms) k = ap (λ bs. byte x m ∷ bs) (padded_back zero xs ms k)
padded_back (suc f) xs [] zero = refl
padded_back (suc f) xs [] (suc k) = padded_back f xs [] k ∙ ap (joined xs) (drop_none f)
padded_back (suc f) xs (m ∷ ms) k = padded_back f xs ms k

read_there : (ns : List ℕ) (i n : ℕ) → i < length ns → n ≡ get_or ns i n → slice_get ns i ≡ Some n
read_there [] i n l e = absurd (omega arith)
read_there (k ∷ ns) zero n l e = ap Some (sym e)
read_there (k ∷ ns) (suc i) n l e = read_there ns i n (omega arith) e

pub get_view : (ns : List ℕ) (ms : List (Option Origin)) (i n : ℕ) (self : List SourceByte) (b : SourceByte) → self ≡ joined ns ms → i < length self → n ≡ get_or ns i n → b ≡ byte n (get_or ms i None) →
    slice_get self i ≡ Some b
get_view ns ms i n self b e l g h =
    let size : length self ≡ length ns = ap length e ∙ length_joined ns ms in
    rw (e, h) (get_joined ns ms i n (read_there ns i n (omega arith) g))
