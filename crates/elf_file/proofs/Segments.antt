-- The ranges that program headers give.
use Rattle.std.proofs.Common.{◌≡◌, ℕ, suc, ◌+◌, ◌*◌, ◌^◌, ◌<◌, ◌≤◌, Bool, true, false, List, [], ◌∷◌, ◌++◌, length, None, arith, refl, ap, ◌∙◌}
use Rattle.std.specs.Prelude.{nat_le, ◌==◌, ◌||◌}
use Rattle.std.specs.List.{list_all, slice_range}
use Rattle.std.proofs.lemmas.Bool.{le-leb}
use Rattle.std.proofs.lemmas.Nat.{from_le_bytes-to_le_bytes_4, from_le_bytes-to_le_bytes_8}
use Rattle.rv_table.specs.Run.{Range}
use Rattle.elf_file.specs.Fields as field
use Rattle.elf_file.specs.Rules.{is_load, has_flag, range_at, ranges_below, is_apart, fits, broken_range}
use Rattle.elf_file.specs.Written.{program_header}
use Rattle.elf_file.proofs.Standing.{StandsAt, word_there, word_inside, long_inside, slice_stands, ends_inside}

pub record IsSegment (b : List ℕ) (k f o a g s : ℕ) : Type 0 where
  pub load : field.program_type b k ≡ 1
  pub flags : field.program_flags b k ≡ f
  pub offset : field.program_offset b k ≡ o
  pub address : field.program_address b k ≡ a
  pub given : field.file_size b k ≡ g
  pub size : field.memory_size b k ≡ s

pub segment : (b : List ℕ) (k flags offset address given size : ℕ) → field.program_headers b ≡ 64 → StandsAt b (64 + 56 * k) (program_header flags offset address given size) →
    flags < 2 ^ 32 → offset < 2 ^ 64 → address < 2 ^ 64 → given < 2 ^ 64 → size < 2 ^ 64 → IsSegment b k flags offset address given size
segment b k flags offset address given size e s f o a g m =
    let part : List ℕ = program_header flags offset address given size in
    let at : ℕ = 64 + 56 * k in
    let here : field.program_header b k ≡ at = ap (λ (n : ℕ). n + 56 * k) e in
    record {
      load = ap (λ (n : ℕ). field.word b n) here ∙ word_there b at part s ∙ from_le_bytes-to_le_bytes_4 1 (omega arith);
      flags = ap (λ (n : ℕ). field.word b (n + 4)) here ∙ word_inside b at 4 part s ∙ from_le_bytes-to_le_bytes_4 flags f;
      offset = ap (λ (n : ℕ). field.long b (n + 8)) here ∙ long_inside b at 8 part s ∙ from_le_bytes-to_le_bytes_8 offset o;
      address = ap (λ (n : ℕ). field.long b (n + 16)) here ∙ long_inside b at 16 part s ∙ from_le_bytes-to_le_bytes_8 address a;
      given = ap (λ (n : ℕ). field.long b (n + 32)) here ∙ long_inside b at 32 part s ∙ from_le_bytes-to_le_bytes_8 given g;
      size = ap (λ (n : ℕ). field.long b (n + 40)) here ∙ long_inside b at 40 part s ∙ from_le_bytes-to_le_bytes_8 size m;
    }

abbrev pub range_of : ℕ → ℕ → ℕ → List ℕ → Range
range_of flags address size bytes = record { start = address; size = size; readable = has_flag 4 flags; writable = has_flag 2 flags; executable = has_flag 1 flags; bytes = bytes }

pub loads : (b : List ℕ) (k f o a g s : ℕ) → IsSegment b k f o a g s → is_load b k ≡ true
loads b k f o a g s h = ap (λ (n : ℕ). n == 1) h.load

pub range_is : (b : List ℕ) (k f o a s : ℕ) (bytes : List ℕ) → IsSegment b k f o a (length bytes) s → StandsAt b o bytes → range_at b k ≡ range_of f a s bytes
range_is b k f o a s bytes h there =
    let given : ℕ = field.file_size b k in
    let offset : ℕ = field.program_offset b k in
    let slice : slice_range b offset (offset + given) ≡ bytes =
    ap (λ (n : ℕ). slice_range b n (n + given)) h.offset ∙ ap (λ (n : ℕ). slice_range b o (o + n)) h.given ∙ slice_stands b o bytes there in
    ap (λ (n : ℕ). range_of (field.program_flags b k) n (field.memory_size b k) (slice_range b offset (offset + given))) h.address
    ∙ ap (λ (n : ℕ). range_of (field.program_flags b k) a n (slice_range b offset (offset + given))) h.size
    ∙ ap (λ (n : ℕ). range_of n a s (slice_range b offset (offset + given))) h.flags
    ∙ ap (range_of f a s) slice

pub next_range : (b : List ℕ) (k : ℕ) (rs : List Range) (r : Range) → is_load b k ≡ true → range_at b k ≡ r → ranges_below b k ≡ rs → ranges_below b (suc k) ≡ rs ++ r ∷ []
next_range b k rs r h e g = rw (h, e, g) refl

-- ranges that end at or below an address
abbrev pub AllEnd : ℕ → List Range → Type 0
AllEnd address [] = Unit {0}
AllEnd address (r ∷ rs) = (r.start + r.size ≤ address) × AllEnd address rs

or_true : (a : Bool) → (a || true) ≡ true
or_true true = refl
or_true false = refl

apart_above : (a s : ℕ) (r : Range) → r.start + r.size ≤ a → is_apart a s r ≡ true
apart_above a s r h =
    let above : nat_le (r.start + r.size) a ≡ true = le-leb (r.start + r.size) a h in
    rw above (or_true _)

pub all_apart : (a s : ℕ) (rs : List Range) → AllEnd a rs → list_all (is_apart a s) rs ≡ true
all_apart a s [] h = refl
all_apart a s (r ∷ rs) h = rw (apart_above a s r h.0, all_apart a s rs h.1) refl

pub fits_there : (b : List ℕ) (k f o a s : ℕ) (bytes : List ℕ) (rs : List Range) → IsSegment b k f o a (length bytes) s → StandsAt b o bytes → ranges_below b k ≡ rs →
    length bytes ≤ s → 0x1000 ≤ a → a + s ≤ 0x8000_0000 → AllEnd a rs → broken_range b k ≡ None
fits_there b k f o a s bytes rs h there e given low high ends =
    let p1 : nat_le (field.file_size b k) (field.memory_size b k) ≡ true = rw (h.given, h.size) (le-leb (length bytes) s given) in
    let p2 : nat_le (field.program_offset b k + field.file_size b k) (length b) ≡ true = rw (h.given, h.offset) (le-leb (o + length bytes) (length b) (ends_inside b o bytes there)) in
    let p3 : nat_le 0x1000 (field.program_address b k) ≡ true = rw h.address (le-leb 0x1000 a low) in
    let p4 : nat_le (field.program_address b k + field.memory_size b k) 0x8000_0000 ≡ true = rw (h.address, h.size) (le-leb (a + s) 0x8000_0000 high) in
    let p5 : list_all (is_apart (field.program_address b k) (field.memory_size b k)) (ranges_below b k) ≡ true = rw (h.address, h.size, e) (all_apart a s rs ends) in
    let whole : fits b k ≡ true = rw (p1, p2, p3, p4, p5) refl in
    rw (whole, loads b k f o a (length bytes) s h) refl
