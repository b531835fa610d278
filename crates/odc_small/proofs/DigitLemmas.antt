-- Digits at the front of a text, and the integers that they write.
use Rattle.std.proofs.Common.{◌≡◌, ◌<◌, ◌≤◌, ℕ, zero, suc, ◌+◌, ◌-◌, ◌*◌, ◌^◌, List, [], ◌∷◌, ◌++◌, length, take, get_or, refl, sym, ◌∙◌, ap, subst, arith, lit<, lit≤, inl, inr, ◌⊎◌}
use Rattle.std.specs.Char.{digit_value}
use Rattle.std.specs.Int.{IsInRange}
use Rattle.std.specs.Fmt.{decimal}
use Rattle.std.specs.Str.Parse.{AllDigits, digits_value}
use Rattle.std.proofs.lemmas.Str.Parse.{IsNumeralModel, numerals_by_value, tells_digits, digits_value_short, digits_value-take-le, digit_at}
use Rattle.std.proofs.lemmas.Str.{digit_value_digit}
use Rattle.std.proofs.lemmas.Int.Digits.{digits_value_more}
use Rattle.std.proofs.lemmas.Fmt.{digits_decimal, decimal_injective, decimal_nonempty, length-decimal-le, first_decimal, decimal_digit, decimal-digits_value}
use Rattle.odc_small.specs.Forms.{FoundAt, NoneAt, NoDigitFirst, IsPlain}
use Rattle.odc_small.specs.Grammar.{IsInt}
use Rattle.odc_small.specs.Reading.{ints}
use Rattle.odc_small.proofs.FormLemmas.{Unique}

pub own : IsNumeralModel (AllDigits 10) (digits_value 10)
own = numerals_by_value (AllDigits 10) tells_digits

pub digits_push : (ds : List ℕ) (c : ℕ) → AllDigits 10 ds → IsInRange 48 57 c → AllDigits 10 (ds ++ c ∷ [])
digits_push [] c all is = tells_digits.more c [] is tells_digits.empty
digits_push (d ∷ ds) c all is =
    let parts = tells_digits.parts d ds all in
    tells_digits.more d (ds ++ c ∷ []) parts.0 (digits_push ds c parts.1 is)

-- the digits at the front are all that any cut before a byte that is none gives
pub digits_unique : (ds es r s : List ℕ) → AllDigits 10 ds → AllDigits 10 es → NoDigitFirst r → NoDigitFirst s
    → ds ++ r ≡ es ++ s → (ds ≡ es) × (r ≡ s)
digits_unique [] [] r s p q f g e = (refl, e)
digits_unique [] (x ∷ es) r s p q f g e = absurd (subst NoDigitFirst e f (tells_digits.parts x es q).0)
digits_unique (d ∷ ds) [] r s p q f g e = absurd (subst NoDigitFirst (sym e) g (tells_digits.parts d ds p).0)
digits_unique (d ∷ ds) (x ∷ es) r s p q f g e =
    let heads : d ≡ x = cc in
    let tails : ds ++ r ≡ es ++ s = cc in
    let rest = digits_unique ds es r s (tells_digits.parts d ds p).1 (tells_digits.parts x es q).1 f g tails in
    (rw heads (ap (λ z. x ∷ z) rest.0), rest.1)

small : (n : ℕ) → IsInt n → n < 2 ^ 64
small n h = omega (arith, h)

pub digits_of_int : (n : ℕ) → IsInt n → AllDigits 10 (decimal n)
digits_of_int n h = digits_decimal own n (small n h)

zero_alone : (n : ℕ) → IsInt n → (n ≡ 0) ⊎ (0 < n) → get_or (decimal n) 0 0 ≡ 48 → length (decimal n) ≡ 1
zero_alone n h (inl e) z = rw e (ap length (decimal_digit 0 (lit< tt)))
zero_alone n h (inr pos) z = absurd (omega (arith, first_decimal n pos (small n h), z))

zero_or_not : (n : ℕ) → (n ≡ 0) ⊎ (0 < n)
zero_or_not zero = inl refl
zero_or_not (suc n) = inr (omega arith)

-- what an integer is spelled with is plain
pub plain_decimal : (n : ℕ) → IsInt n → IsPlain (decimal n)
plain_decimal n h = record {
  some = decimal_nonempty n (small n h);
  short = length-decimal-le 9 n (lit< tt) h (small n h);
  zero = zero_alone n h (zero_or_not n);
}

value_small : (ds : List ℕ) → AllDigits 10 ds → IsPlain ds → IsInt (digits_value 10 ds)
value_small ds all p = digits_value_short own ds 9 all p.short

-- plain digits are an integer
pub plain_found : (bytes ds rest : List ℕ) → AllDigits 10 ds → NoDigitFirst rest → bytes ≡ ds ++ rest → IsPlain ds
    → FoundAt ints bytes (digits_value 10 ds) rest
plain_found bytes ds rest all ends whole p =
    let fits = value_small ds all p in
    record {
      is = fits;
      ends = ends;
      whole = whole ∙ ap (λ z. z ++ rest) (sym (decimal-digits_value own ds all p.some p.zero (small (digits_value 10 ds) fits)));
    }

-- other digits are none
pub none_plain : (bytes ds rest : List ℕ) → AllDigits 10 ds → NoDigitFirst rest → bytes ≡ ds ++ rest → ¬ IsPlain ds → NoneAt ints bytes
none_plain bytes ds rest all ends whole off n s found =
    let cut = digits_unique ds (decimal n) rest s all (digits_of_int n found.is) ends found.ends (sym whole ∙ found.whole) in
    off (subst IsPlain (sym cut.0) (plain_decimal n found.is))

pub ints_unique : Unique ints
ints_unique bytes n m r s f g =
    let cut = digits_unique (decimal n) (decimal m) r s (digits_of_int n f.is) (digits_of_int m g.is) f.ends g.ends (sym f.whole ∙ g.whole) in
    (decimal_injective n m (small n f.is) (small m g.is) cut.0, cut.1)

-- one digit more of at most nine
pub record Step (ds : List ℕ) (i v : ℕ) : Type 0 where
  pub digit : 48 ≤ get_or ds i 0
  pub value : v * 10 + (get_or ds i 0 - 48) ≡ digits_value 10 (take (i + 1) ds)
  pub fits : v * 10 + (get_or ds i 0 - 48) < 1000000000

pub value_step : (ds : List ℕ) (i v : ℕ) → AllDigits 10 ds → length ds ≤ 9 → i < length ds → v ≡ digits_value 10 (take i ds) → Step ds i v
value_step ds i v all short h e =
    let range : IsInRange 48 57 (get_or ds i 0) = digit_at ds i all h in
    let here : digit_value (get_or ds i 0) + 48 ≡ get_or ds i 0 = digit_value_digit (get_or ds i 0) range in
    let step = digits_value_more 10 ds i h in
    let below : digits_value 10 (take (i + 1) ds) ≤ digits_value 10 ds = digits_value-take-le 10 ds (i + 1) (lit≤ tt) in
    let total : digits_value 10 ds < 1000000000 = digits_value_short own ds 9 all short in
    let value : v * 10 + (get_or ds i 0 - 48) ≡ digits_value 10 (take (i + 1) ds) = omega (arith, here, step, e) in
    record { digit = range.0; value = value; fits = omega (arith, value, below, total) }
