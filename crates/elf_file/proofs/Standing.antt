-- What stands at an offset of a file.
use Rattle.std.proofs.Common.{◌≡◌, ℕ, ◌+◌, ◌-◌, ◌≤◌, List, [], ◌++◌, length, take, drop, arith, refl, ap, ◌∙◌, sym, append_assoc, append-nil, length-append}
use Rattle.std.specs.List.{slice_range}
use Rattle.std.proofs.lemmas.List.{take_at, drop_at, drop-drop}
use Rattle.rv_sites.specs.Numbers.{number16, number32, number64}
use Rattle.elf_file.specs.Fields.{half, word, long}

-- the part stands at the offset
pub record StandsAt (bytes : List ℕ) (at : ℕ) (part : List ℕ) : Type 0 where
  pub before : List ℕ
  pub behind : List ℕ
  pub whole : bytes ≡ before ++ (part ++ behind)
  pub offset : length before ≡ at

pub all_stands : (bytes : List ℕ) → StandsAt bytes 0 bytes
all_stands bytes = record { before = []; behind = []; whole = sym (append-nil bytes); offset = refl }

pub first_stands : (bytes : List ℕ) (at : ℕ) (a b : List ℕ) → StandsAt bytes at (a ++ b) → StandsAt bytes at a
first_stands bytes at a b s = record { before = s.before; behind = b ++ s.behind; whole = s.whole ∙ ap (λ (l : List ℕ). s.before ++ l) (append_assoc a b s.behind); offset = s.offset }

pub next_stands : (bytes : List ℕ) (at to : ℕ) (a b : List ℕ) → StandsAt bytes at (a ++ b) → at + length a ≡ to → StandsAt bytes to b
next_stands bytes at to a b s e = record {
  before = s.before ++ a;
  behind = s.behind;
  whole = s.whole ∙ ap (λ (l : List ℕ). s.before ++ l) (append_assoc a b s.behind) ∙ sym (append_assoc s.before a (b ++ s.behind));
  offset = length-append s.before a ∙ omega (arith, s.offset, e);
}

pub second_stands : (bytes : List ℕ) (to : ℕ) (a b : List ℕ) → StandsAt bytes 0 (a ++ b) → length a ≡ to → StandsAt bytes to b
second_stands bytes to a b s e = next_stands bytes 0 to a b s (omega (arith, e))

pub ends_inside : (bytes : List ℕ) (at : ℕ) (part : List ℕ) → StandsAt bytes at part → at + length part ≤ length bytes
ends_inside bytes at part s =
    let size = ap length s.whole ∙ length-append s.before (part ++ s.behind) in
    omega (arith, size, length-append part s.behind, s.offset)

-- what is dropped from the offset on
pub from_there : (bytes : List ℕ) (at : ℕ) (part : List ℕ) (s : StandsAt bytes at part) → drop at bytes ≡ part ++ s.behind
from_there bytes at part s = ap (drop at) s.whole ∙ drop_at s.before (part ++ s.behind) at s.offset

pub from_inside : (bytes : List ℕ) (at k : ℕ) (part : List ℕ) (s : StandsAt bytes at part) → drop (at + k) bytes ≡ drop k (part ++ s.behind)
from_inside bytes at k part s = sym (drop-drop k at bytes) ∙ ap (drop k) (from_there bytes at part s)

pub slice_stands : (bytes : List ℕ) (at : ℕ) (part : List ℕ) → StandsAt bytes at part → slice_range bytes at (at + length part) ≡ part
slice_stands bytes at part s =
    let size : at + length part - at ≡ length part = omega arith in
    ap (λ (n : ℕ). take n (drop at bytes)) size ∙ ap (take (length part)) (from_there bytes at part s) ∙ take_at part s.behind (length part) refl

-- ---- numbers that stand inside a part

pub half_inside : (bytes : List ℕ) (at k : ℕ) (part : List ℕ) (s : StandsAt bytes at part) → half bytes (at + k) ≡ number16 (drop k (part ++ s.behind))
unfolding half
half_inside bytes at k part s = ap number16 (from_inside bytes at k part s)

pub word_inside : (bytes : List ℕ) (at k : ℕ) (part : List ℕ) (s : StandsAt bytes at part) → word bytes (at + k) ≡ number32 (drop k (part ++ s.behind))
unfolding word
word_inside bytes at k part s = ap number32 (from_inside bytes at k part s)

pub word_there : (bytes : List ℕ) (at : ℕ) (part : List ℕ) (s : StandsAt bytes at part) → word bytes at ≡ number32 (part ++ s.behind)
unfolding word
word_there bytes at part s = ap number32 (from_there bytes at part s)

pub long_inside : (bytes : List ℕ) (at k : ℕ) (part : List ℕ) (s : StandsAt bytes at part) → long bytes (at + k) ≡ number64 (drop k (part ++ s.behind))
unfolding long
long_inside bytes at k part s = ap number64 (from_inside bytes at k part s)
