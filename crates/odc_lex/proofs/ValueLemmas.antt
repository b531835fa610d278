-- Reading the value of a string byte by byte.
use Rattle.std.proofs.Common.{◌≡◌, ℕ, zero, suc, ◌≤◌, ◌<◌, ◌+◌, ◌*◌, ◌/◌, ◌%◌, ◌^◌, ◌==◌, ◌≢◌, nat_eq, Bool, true, false, if◌then◌else◌, Some, List, [], ◌∷◌, ◌++◌, length, drop, get_or, bytes_eq, ◌∙◌, sym, ap, ap₂, refl, ⊎_elim, arith}
use Rattle.std.proofs.Math.Nat.{mul-le-mul_right, mul_assoc, mul_comm}
use native.Mathlib.Numerals.{unary_clauses}
use Rattle.std.proofs.lemmas.Bool.{cases_lt, cond-true, cond-false, le-ltb, lt-ltb}
use Rattle.std.proofs.lemmas.Bool.Decides.{nat_tests}
use Rattle.std.proofs.lemmas.List.{drop_more}
use Rattle.std.proofs.lemmas.Str.{encode_ascii}
use Rattle.std.specs.Char.{digit_value, encode_utf8}
use Rattle.std.specs.List.{list_all}
use Rattle.odc_syntax.specs.lexical.Value.{coded_bytes, unescaped}
use Rattle.odc_lex.specs.declared.value.Coded.{Coded}
use Rattle.odc_lex.specs.declared.value.Reading.{Reading}
use Rattle.odc_lex.specs.declared.value.Step.{Step}
use Rattle.odc_lex.specs.Value.{is_ascii, reading_of, bytes_of, Reads}

pub digit_small : (b : ℕ) → digit_value b ≤ 36
digit_small b = grind (arith, nat_tests)

next_power : (k : ℕ) → 16 ^ (suc k) ≡ 16 ^ k * 16
next_power k = simp unary_clauses

-- one digit less to come
pub room_step : (n v left : ℕ) → (n + 3) * 16 ^ (suc left) ≤ 16 ^ 8 → v ≤ 36 → (n * 16 + v + 3) * 16 ^ left ≤ 16 ^ 8
room_step n v left room small =
    let more : n * 16 + v + 3 ≤ (n + 3) * 16 = omega arith in
    let wider : (n * 16 + v + 3) * 16 ^ left ≤ (n + 3) * 16 * 16 ^ left = mul-le-mul_right (16 ^ left) more in
    let same : (n + 3) * 16 * 16 ^ left ≡ (n + 3) * 16 ^ (suc left) =
    mul_assoc (n + 3) 16 (16 ^ left) ∙ ap (λ k. (n + 3) * k) (mul_comm 16 (16 ^ left) ∙ sym (next_power left)) in
    omega (arith, wider, same, room)

one_or_more : (k : ℕ) → 1 ≤ 16 ^ k
one_or_more zero = omega arith
one_or_more (suc k) = omega (arith, one_or_more k, next_power k)

pub room_bounds : (n left : ℕ) → (n + 3) * 16 ^ left ≤ 16 ^ 8 → n < 2 ^ 32
room_bounds n left room =
    let wider : 1 * (n + 3) ≤ 16 ^ left * (n + 3) = mul-le-mul_right (n + 3) (one_or_more left) in
    omega (arith, wider, mul_comm (16 ^ left) (n + 3), room)

-- the first byte of what is written tells the number, if it is of ASCII
record HasHead (w : List ℕ) (n : ℕ) : Type 0 where
  pub head : ℕ
  pub tail : List ℕ
  pub is : w ≡ head ∷ tail
  pub same : head < 128 → head ≡ n

encode_two : (c : ℕ) → 0x80 ≤ c → c < 0x800 → encode_utf8 c ≡ (192 + c / 64) ∷ (128 + c % 64) ∷ []
unfolding encode_utf8
encode_two c low high = cond-false _ _ _ (le-ltb c 128 low) ∙ cond-true _ _ _ (lt-ltb c 2048 high)

encode_three : (c : ℕ) → 0x800 ≤ c → c < 0x1_0000 →
    encode_utf8 c ≡ (224 + c / 4096) ∷ (128 + (c / 64) % 64) ∷ (128 + c % 64) ∷ []
unfolding encode_utf8
encode_three c low high =
    cond-false _ _ _ (le-ltb c 128 (omega arith)) ∙ cond-false _ _ _ (le-ltb c 2048 low) ∙ cond-true _ _ _ (lt-ltb c 65536 high)

encode_four : (c : ℕ) → 0x1_0000 ≤ c →
    encode_utf8 c ≡ (240 + c / 262144) ∷ (128 + (c / 4096) % 64) ∷ (128 + (c / 64) % 64) ∷ (128 + c % 64) ∷ []
unfolding encode_utf8
encode_four c low =
    cond-false _ _ _ (le-ltb c 128 (omega arith)) ∙ cond-false _ _ _ (le-ltb c 2048 (omega arith)) ∙ cond-false _ _ _ (le-ltb c 65536 low)

wide_head : (n : ℕ) → 128 ≤ n → HasHead (encode_utf8 n) n
wide_head n high =
    ⊎_elim
    (λ two. record { head = 192 + n / 64; tail = (128 + n % 64) ∷ []; is = encode_two n high two; same = λ l. absurd (omega arith) })
    (λ more.
    ⊎_elim
    (λ three. record { head = 224 + n / 4096; tail = (128 + (n / 64) % 64) ∷ (128 + n % 64) ∷ []; is = encode_three n more three; same = λ l. absurd (omega arith) })
    (λ four. record { head = 240 + n / 262144; tail = (128 + (n / 4096) % 64) ∷ (128 + (n / 64) % 64) ∷ (128 + n % 64) ∷ []; is = encode_four n four; same = λ l. absurd (omega arith) })
    (cases_lt n 65536))
    (cases_lt n 2048)

written_head : (n : ℕ) → HasHead (encode_utf8 n) n
written_head n = ⊎_elim (λ low. record { head = n; tail = []; is = encode_ascii n low; same = λ l. refl }) (λ high. wide_head n high) (cases_lt n 128)

coded_head_by : (n : ℕ) (t : Bool) → HasHead (if t then n ∷ [] else encode_utf8 n) n
coded_head_by n true = record { head = n; tail = []; is = refl; same = λ l. refl }
coded_head_by n false = written_head n

coded_head : (letter n : ℕ) → HasHead (coded_bytes letter n) n
coded_head letter n = coded_head_by n (letter == 120)

ascii_at : (xs : List ℕ) (i : ℕ) → list_all is_ascii xs ≡ true → i < length xs → get_or xs i 0 < 128
ascii_at [] i all l = absurd (omega arith)
ascii_at (x ∷ xs) zero all l = grind (arith, nat_tests, all)
ascii_at (x ∷ xs) (suc i) all l = ascii_at xs i (grind (arith, all)) (omega arith)

other_heads : (n w : ℕ) (us ws : List ℕ) → n ≢ w → bytes_eq (n ∷ us) (w ∷ ws) ≡ false
other_heads n w us ws e = let t : nat_eq n w ≡ false = grind (arith, nat_tests) in rw t refl

module _ (r : Reading) (s : Step) (inside : List ℕ) (i : ℕ) (within : i < length inside) (reads : Reads r (get_or inside i 0) s) (c : Coded) (e : s.writes ≡ Some c) where
  written : unescaped (reading_of r) (drop i inside) ≡ coded_bytes c.letter c.number ++ unescaped (reading_of s.reading) (drop (i + 1) inside)
  written =
      ap (unescaped (reading_of r)) (drop_more inside i 0 within) ∙ reads (drop (i + 1) inside)
      ∙ ap (λ w. bytes_of w ++ unescaped (reading_of s.reading) (drop (i + 1) inside)) e

  -- the byte writes another than the next of the value
  pub other : (v : List ℕ) (at : ℕ) → list_all is_ascii v ≡ true → at < length v → c.number ≢ get_or v at 0
      → bytes_eq (unescaped (reading_of r) (drop i inside)) (drop at v) ≡ false
  other v at all more differ =
      let h = coded_head c.letter c.number in
      let rest = unescaped (reading_of s.reading) (drop (i + 1) inside) in
      let apart : h.head ≢ get_or v at 0 = λ k. differ (sym (h.same (omega (arith, ascii_at v at all more, k))) ∙ k) in
      ap₂ bytes_eq (written ∙ ap (λ w. w ++ rest) h.is) (drop_more v at 0 more) ∙ other_heads h.head (get_or v at 0) (h.tail ++ rest) (drop (at + 1) v) apart

  -- it writes a byte behind the value
  pub past : bytes_eq (unescaped (reading_of r) (drop i inside)) [] ≡ false
  past =
      let h = coded_head c.letter c.number in
      ap (λ w. bytes_eq w []) (written ∙ ap (λ w. w ++ unescaped (reading_of s.reading) (drop (i + 1) inside)) h.is)
