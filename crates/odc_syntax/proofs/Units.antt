-- The units of runs: bytes, characters, and the items of strings.
use Rattle.std.proofs.Common.{◌≡◌, ℕ, ◌<◌, Bool, true, false, List, [], ◌∷◌, ◌++◌, length, sym, ◌∙◌, ap, subst, lit<, arith}
use Rattle.std.proofs.lemmas.Str.{encode_same, length-encode, len_utf8_bounds, encode_ascii}
use Rattle.std.specs.Char.{encode_utf8}
use Rattle.std.proofs.lemmas.Bool.{false≢true}
use Rattle.std.proofs.lemmas.Bool.Decides.{nat_tests}
use Rattle.odc_syntax.specs.lexical.Texts.{IsEscape, IsItem, is_short_escape, hex_digits, short, coded, plain, escape}
use Rattle.odc_syntax.specs.lexical.Words.{IsByte, IsCharacter}
use Rattle.odc_syntax.proofs.Longest.{AreUnits, same_length}

pub bytes_are_units : {p : ℕ → Bool} → AreUnits (IsByte p)
bytes_are_units = record {
  nonempty = λ u is. omega (arith, ap length is.bytes);
  apart = λ u v r s is other e. is.bytes ∙ (let same : is.byte ∷ r ≡ other.byte ∷ s = ap (λ x. x ++ r) (sym is.bytes) ∙ e ∙ ap (λ x. x ++ s) other.bytes in let heads : is.byte ≡ other.byte = cc in ap (λ b. b ∷ []) heads) ∙ sym other.bytes;
}

pub characters_are_units : {p : ℕ → Bool} → AreUnits (IsCharacter p)
characters_are_units = record {
  nonempty = λ u is. omega (arith, ap length is.bytes, length-encode is.code, (len_utf8_bounds is.code).0);
  apart = λ u v r s is other e. is.bytes ∙ ap encode_utf8 (encode_same is.code other.code r s (ap (λ x. x ++ r) (sym is.bytes) ∙ e ∙ ap (λ x. x ++ s) other.bytes)).0 ∙ sym other.bytes;
}

-- what makes an escape coded makes it no short one
hex_cases : (b : ℕ) → 0 < hex_digits b → is_short_escape b ≡ true → ⊥
hex_cases b positive is_short = grind (arith, nat_tests)

escape_nonempty : (u : List ℕ) → IsEscape u → 0 < length u
escape_nonempty u (short b is e) = omega (arith, ap length e)
escape_nonempty u (coded b ds positive len digits scalar e) = omega (arith, ap length e)

pub escapes_apart : (u v r s : List ℕ) → IsEscape u → IsEscape v → u ++ r ≡ v ++ s → u ≡ v
escapes_apart u v r s (short b is e) (short c is' f) same =
    let spelled : 92 ∷ b ∷ r ≡ 92 ∷ c ∷ s = ap (λ x. x ++ r) (sym e) ∙ same ∙ ap (λ x. x ++ s) f in
    let equal : b ≡ c = cc in
    e ∙ ap (λ x. 92 ∷ x ∷ []) equal ∙ sym f
escapes_apart u v r s (short b is e) (coded c ds positive len digits scalar f) same =
    let spelled : 92 ∷ b ∷ r ≡ 92 ∷ c ∷ (ds ++ s) = ap (λ x. x ++ r) (sym e) ∙ same ∙ ap (λ x. x ++ s) f in
    let equal : b ≡ c = cc in
    absurd (hex_cases c (omega arith) (subst (λ x. is_short_escape x ≡ true) equal is))
escapes_apart u v r s (coded c ds positive len digits scalar f) (short b is e) same =
    let spelled : 92 ∷ c ∷ (ds ++ r) ≡ 92 ∷ b ∷ s = ap (λ x. x ++ r) (sym f) ∙ same ∙ ap (λ x. x ++ s) e in
    let equal : b ≡ c = cc in
    absurd (hex_cases c (omega arith) (subst (λ x. is_short_escape x ≡ true) equal is))
escapes_apart u v r s (coded b ds positive len digits scalar e) (coded c ds' positive' len' digits' scalar' f) same =
    let spelled : 92 ∷ b ∷ (ds ++ r) ≡ 92 ∷ c ∷ (ds' ++ s) = ap (λ x. x ++ r) (sym e) ∙ same ∙ ap (λ x. x ++ s) f in
    let equal : b ≡ c = cc in
    let rests : ds ++ r ≡ ds' ++ s = cc in
    let digits_same : ds ≡ ds' = same_length ds ds' r s rests (len ∙ ap hex_digits equal ∙ sym len') in
    e ∙ (λ i. 92 ∷ equal i ∷ digits_same i) ∙ sym f

-- an escape begins with a backslash
pub escape_head : (u : List ℕ) → IsEscape u → (t : List ℕ) × (u ≡ 92 ∷ t)
escape_head u (short b is e) = (b ∷ [], e)
escape_head u (coded b ds positive len digits scalar e) = (b ∷ ds, e)

-- a character whose first byte is ASCII is that byte
pub ascii_character : (p : ℕ → Bool) (u r t : List ℕ) (b : ℕ) → b < 128 → IsCharacter p u → u ++ r ≡ b ∷ t → (p b ≡ true) × (u ≡ b ∷ [])
ascii_character p u r t b low is e =
    let same : is.code ≡ b = (encode_same is.code b r t (ap (λ x. x ++ r) (sym is.bytes) ∙ e ∙ ap (λ x. x ++ t) (sym (encode_ascii b low)))).0 in (
      subst (λ c. p c ≡ true) same is.passed,
      is.bytes ∙ ap encode_utf8 same ∙ encode_ascii b low,
    )

module _ {p : ℕ → Bool} (no_backslash : p 92 ≡ false) where
  apart : (u v r s : List ℕ) → IsCharacter p u → IsEscape v → u ++ r ≡ v ++ s → ⊥
  apart u v r s is other e =
      let head = escape_head v other in
      let passed = (ascii_character p u r (head.0 ++ s) 92 (lit< tt) is (e ∙ ap (λ x. x ++ s) head.1)).0 in
      false≢true (sym no_backslash ∙ passed)

  items_nonempty : (u : List ℕ) → IsItem p u → 0 < length u
  items_nonempty u (plain is) = (characters_are_units {p = p}).nonempty u is
  items_nonempty u (escape is) = escape_nonempty u is

  items_apart : (u v r s : List ℕ) → IsItem p u → IsItem p v → u ++ r ≡ v ++ s → u ≡ v
  items_apart u v r s (plain is) (plain other) e = (characters_are_units {p = p}).apart u v r s is other e
  items_apart u v r s (plain is) (escape other) e = absurd (apart u v r s is other e)
  items_apart u v r s (escape is) (plain other) e = absurd (apart v u s r other is (sym e))
  items_apart u v r s (escape is) (escape other) e = escapes_apart u v r s is other e

  pub items_are_units : AreUnits (IsItem p)
  items_are_units = record { nonempty = items_nonempty; apart = items_apart }
