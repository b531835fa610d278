-- Numbers: the parts of one are each the longest, and its kind is determined.
use Rattle.std.proofs.Common.{◌≡◌, ℕ, ◌≤◌, ◌⊎◌, Bool, true, false, ◌||◌, ◌==◌, List, [], ◌∷◌, ◌++◌, length, refl, sym, ◌∙◌, ap, subst, inl, inr, ⊎_elim, append_assoc, append-nil, arith, length-append}
use Rattle.std.proofs.lemmas.Bool.{false≢true, eqb-true, or_cases, or_right, le-ltb}
use Rattle.std.proofs.lemmas.Bool.Decides.{nat_tests}
use Rattle.std.specs.Char.{is_digit}
use Rattle.odc_syntax.specs.declared.token.TokenKind.{TokenKind}
use Rattle.odc_syntax.specs.lexical.Words.{IsByte, Run, Then}
use Rattle.odc_syntax.specs.lexical.Longest.{Begins, Absent, Best, Heads}
use Rattle.odc_syntax.specs.lexical.Numbers.{Digits, Prefix, binary, octal, hexadecimal, IsBased, Optional, IsFraction, IsExponent, IsUnitLetter, DecimalTail, number_kind, IsNumber, decimal, based, is_digit_of, is_digit_or_underscore, is_underscore, is_exponent_letter, is_unit_letter}
use Rattle.odc_syntax.proofs.Longest.{run_best, run_none, led_best, then_best, cancel_along}
use Rattle.odc_syntax.proofs.Units.{bytes_are_units}

-- ---- the first byte of a word

abbrev pub is_dot : ℕ → Bool
is_dot b = b == 46

at_equal : (p : ℕ → Bool) (a b : ℕ) → (b == a) ≡ true → p a ≡ false → p b ≡ true → ⊥
at_equal p a b e fails passes = false≢true (sym fails ∙ ap p (sym (eqb-true b a e)) ∙ passes)

pub no_dot : (p : ℕ → Bool) → p 46 ≡ false → (b : ℕ) → is_dot b ≡ true → p b ≡ true → ⊥
no_dot p f b e = at_equal p 46 b e f

pub no_exponent_letter : (p : ℕ → Bool) → p 101 ≡ false → p 69 ≡ false → (b : ℕ) → is_exponent_letter b ≡ true → p b ≡ true → ⊥
no_exponent_letter p f g b e passes = ⊎_elim (λ h. at_equal p 101 b h f passes) (λ h. at_equal p 69 b h g passes) (or_cases (b == 101) (b == 69) e)

pub no_unit_letter : (p : ℕ → Bool) → p 105 ≡ false → p 106 ≡ false → p 107 ≡ false → (b : ℕ) → is_unit_letter b ≡ true → p b ≡ true → ⊥
no_unit_letter p f g h b e passes =
    ⊎_elim
    (λ x. ⊎_elim (λ y. at_equal p 105 b y f passes) (λ y. at_equal p 106 b y g passes) (or_cases (b == 105) (b == 106) x))
    (λ x. at_equal p 107 b x h passes)
    (or_cases (b == 105 || b == 106) (b == 107) e)

-- no word begins with bytes of two kinds
pub heads_apart : {p q : ℕ → Bool} (v s : List ℕ) → Heads p v → Heads q (v ++ s) → ((b : ℕ) → p b ≡ true → q b ≡ true → ⊥) → ⊥
heads_apart {p} {q} v s first both apart =
    let spelled : first.byte ∷ (first.rest ++ s) ≡ both.byte ∷ both.rest = ap (λ x. x ++ s) (sym first.bytes) ∙ both.bytes in
    let same : first.byte ≡ both.byte = cc in
    apart first.byte first.passed (subst (λ b. q b ≡ true) (sym same) both.passed)

pub heads_of_byte : {p : ℕ → Bool} (w : List ℕ) → IsByte p w → Heads p w
heads_of_byte w is = record { byte = is.byte; rest = []; passed = is.passed; bytes = is.bytes }

pub heads_more : {p : ℕ → Bool} (v s w : List ℕ) → Heads p v → w ≡ v ++ s → Heads p w
heads_more v s w first e = record { byte = first.byte; rest = first.rest ++ s; passed = first.passed; bytes = e ∙ ap (λ x. x ++ s) first.bytes }

pub heads_of_begins : {p : ℕ → Bool} (s : List ℕ) → Begins (IsByte p) s → Heads p s
heads_of_begins s begins = heads_more begins.word begins.rest s (heads_of_byte begins.word begins.is) begins.bytes

pub heads_weaken : {p : ℕ → Bool} (q : ℕ → Bool) (s : List ℕ) → ((b : ℕ) → p b ≡ true → q b ≡ true) → Heads p s → Heads q s
heads_weaken q s more first = record { byte = first.byte; rest = first.rest; passed = more first.byte first.passed; bytes = first.bytes }

pub heads_of_digits : (base : ℕ) (w : List ℕ) → Digits base w → Heads (is_digit_of base) w
heads_of_digits base w is = heads_more is.lead is.rest w (heads_of_byte is.lead is.first) is.bytes

pub heads_of_fraction : (w : List ℕ) → IsFraction w → Heads is_dot w
heads_of_fraction w is = record { byte = 46; rest = is.digits; passed = refl; bytes = is.bytes }

pub heads_of_exponent : (w : List ℕ) → IsExponent w → Heads is_exponent_letter w
heads_of_exponent w is = record { byte = is.letter; rest = is.tail; passed = is.is_letter; bytes = is.bytes }

-- a word that may be left out is nothing, or begins as it must
pub optional_heads : {P : List ℕ → Type 0} {p : ℕ → Bool} (v s : List ℕ) → ((w : List ℕ) → P w → Heads p w) → {q : ℕ → Bool} → ((b : ℕ) → p b ≡ true → q b ≡ true → ⊥) → Optional P v → Heads q (v ++ s) → v ≡ []
optional_heads v s head apart is both = ⊎_elim (λ empty. empty) (λ here. absurd (heads_apart v s (head v here) both apart)) is

pub then_empty : {P Q : List ℕ → Type 0} {q : ℕ → Bool} (v s : List ℕ) → ((w t : List ℕ) → P w → Heads q (w ++ t) → w ≡ []) → ((w t : List ℕ) → Q w → Heads q (w ++ t) → w ≡ []) → Then P Q v → Heads q (v ++ s) → v ≡ []
then_empty {P} {Q} {q} v s first second is both =
    let spelled : v ++ s ≡ is.front ++ (is.back ++ s) = ap (λ x. x ++ s) is.bytes ∙ append_assoc is.front is.back s in
    let empty : is.front ≡ [] = first is.front (is.back ++ s) is.first (subst (Heads q) spelled both) in
    let rest : is.back ≡ [] = second is.back s is.second (subst (Heads q) (spelled ∙ ap (λ x. x ++ (is.back ++ s)) empty) both) in
    is.bytes ∙ (λ i. empty i ++ rest i)

pub fraction_empty : (q : ℕ → Bool) → q 46 ≡ false → (v s : List ℕ) → Optional IsFraction v → Heads q (v ++ s) → v ≡ []
fraction_empty q f v s is both = optional_heads v s heads_of_fraction (no_dot q f) is both

pub exponent_empty : (q : ℕ → Bool) → q 101 ≡ false → q 69 ≡ false → (v s : List ℕ) → Optional IsExponent v → Heads q (v ++ s) → v ≡ []
exponent_empty q f g v s is both = optional_heads v s heads_of_exponent (no_exponent_letter q f g) is both

pub unit_empty : (q : ℕ → Bool) → q 105 ≡ false → q 106 ≡ false → q 107 ≡ false → (v s : List ℕ) → Optional IsUnitLetter v → Heads q (v ++ s) → v ≡ []
unit_empty q f g h v s is both = optional_heads v s (λ w here. heads_of_byte w here) (no_unit_letter q f g h) is both

-- a tail doesn't begin with a byte that begins none of its parts
pub tail_empty : (q : ℕ → Bool) → q 46 ≡ false → q 101 ≡ false → q 69 ≡ false → q 105 ≡ false → q 106 ≡ false → q 107 ≡ false → (v s : List ℕ) → DecimalTail v → Heads q (v ++ s) → v ≡ []
tail_empty q a b c d e f v s is both =
    then_empty v s (fraction_empty q a) (λ w t more first. then_empty w t (exponent_empty q b c) (unit_empty q d e f) more first) is both

-- ---- the digits of a number

pub no_digit_begins : {p : ℕ → Bool} (t : List ℕ) → (Heads p t → ⊥) → Absent (IsByte p) t
no_digit_begins t none v s is e = none (heads_more v s t (heads_of_byte v is) (sym e))

-- nothing that may follow the digits goes on with them
pub tail_is_over : (t : List ℕ) → DecimalTail t → Absent (IsByte (is_digit_or_underscore 10)) t
tail_is_over t is = no_digit_begins t (λ first. empty_has_no_head (tail_empty (is_digit_or_underscore 10) refl refl refl refl refl refl t [] is (heads_more t [] (t ++ []) first refl)) first) where
  empty_has_no_head : t ≡ [] → Heads (is_digit_or_underscore 10) t → ⊥
  empty_has_no_head e first = omega (arith, ap length e, ap length first.bytes)

pub unit_is_over : (base : ℕ) (t : List ℕ) → is_digit_or_underscore base 105 ≡ false → is_digit_or_underscore base 106 ≡ false → is_digit_or_underscore base 107 ≡ false → Optional IsUnitLetter t → Absent (IsByte (is_digit_or_underscore base)) t
unit_is_over base t f g h is = no_digit_begins t (λ first. empty_has_no_head (unit_empty (is_digit_or_underscore base) f g h t [] is (heads_more t [] (t ++ []) first refl)) first) where
  empty_has_no_head : t ≡ [] → Heads (is_digit_or_underscore base) t → ⊥
  empty_has_no_head e first = omega (arith, ap length e, ap length first.bytes)

pub digits_best : (base : ℕ) (w r : List ℕ) → Digits base w → Absent (IsByte (is_digit_or_underscore base)) r → Best (Digits base) (Begins (IsByte (is_digit_or_underscore base))) w r
digits_best base w r is over = subst (λ x. Best (Digits base) (Begins (IsByte (is_digit_or_underscore base))) x r) (sym is.bytes) (led_best bytes_are_units bytes_are_units is.first is.run over)

-- `_` is no digit of a base up to 36
pub underscore_no_digit : (base : ℕ) → base ≤ 36 → (v s : List ℕ) → Digits base v → Begins (IsByte is_underscore) (v ++ s) → ⊥
underscore_no_digit base low v s is begins =
    heads_apart v s (heads_of_digits base v is) (heads_of_begins (v ++ s) begins)
    (λ b digit under. at_equal (is_digit_of base) 95 b under (none base low) digit) where
      none : (base : ℕ) → base ≤ 36 → is_digit_of base 95 ≡ false
      none base low = le-ltb 36 base low

abbrev pub BasedDigits : ℕ → List ℕ → Type 0
BasedDigits base = Then (Run (IsByte is_underscore)) (Digits base)

-- a first `_` is followed by others and then a digit
pub prefix_base : (letter base : ℕ) → Prefix letter base → base ≤ 16
prefix_base letter base (binary l b) = omega arith
prefix_base letter base (octal l b) = omega arith
prefix_base letter base (hexadecimal l b) = omega arith

pub prefix_same : (l m b c : ℕ) → Prefix l b → Prefix m c → l ≡ m → b ≡ c
prefix_same l m b c (binary p q) (binary r s) e = omega arith
prefix_same l m b c (binary p q) (octal r s) e = absurd (omega arith)
prefix_same l m b c (binary p q) (hexadecimal r s) e = absurd (omega arith)
prefix_same l m b c (octal p q) (binary r s) e = absurd (omega arith)
prefix_same l m b c (octal p q) (octal r s) e = omega arith
prefix_same l m b c (octal p q) (hexadecimal r s) e = absurd (omega arith)
prefix_same l m b c (hexadecimal p q) (binary r s) e = absurd (omega arith)
prefix_same l m b c (hexadecimal p q) (octal r s) e = absurd (omega arith)
prefix_same l m b c (hexadecimal p q) (hexadecimal r s) e = omega arith

-- ---- numbers with a prefix

pub best_weaken : {P N : List ℕ → Type 0} (M : List ℕ → Type 0) {w r : List ℕ} → ((s : List ℕ) → N s → M s) → Best P N w r → Best P M w r
best_weaken M more best = record { is = best.is; only = λ v s is e. ⊎_elim (λ same. inl same) (λ shorter. inr (shorter.0, more s shorter.1)) (best.only v s is e) }

wider : (base : ℕ) → base ≤ 16 → (b : ℕ) → is_digit_or_underscore base b ≡ true → is_digit_or_underscore 16 b ≡ true
wider base low b h = grind (arith, nat_tests)

pub begins_digit_wider : (base : ℕ) → base ≤ 16 → (s : List ℕ) → Begins (IsByte (is_digit_or_underscore base)) s → Heads (is_digit_or_underscore 16) s
begins_digit_wider base low s begins = heads_weaken (is_digit_or_underscore 16) s (wider base low) (heads_of_begins s begins)

underscore_wider : (b : ℕ) → is_underscore b ≡ true → is_digit_or_underscore 16 b ≡ true
underscore_wider b h = or_right (is_digit b 16) (b == 95) h

pub based_digits_wider : (base : ℕ) → base ≤ 16 → (s : List ℕ) → Begins (IsByte is_underscore) s ⊎ Begins (IsByte (is_digit_or_underscore base)) s → Heads (is_digit_or_underscore 16) s
based_digits_wider base low s either =
    ⊎_elim (λ under. heads_weaken (is_digit_or_underscore 16) s underscore_wider (heads_of_begins s under)) (λ digit. begins_digit_wider base low s digit) either

digits_no_underscore : (base : ℕ) → base ≤ 36 → (v s : List ℕ) → Digits base v → Absent (IsByte is_underscore) (v ++ s)
digits_no_underscore base low v s is u t under e = underscore_no_digit base low v s is (record { word = u; rest = t; is = under; bytes = sym e })

pub based_digits_best : (base : ℕ) (w r : List ℕ) → base ≤ 16 → BasedDigits base w → Absent (IsByte (is_digit_or_underscore base)) r → Best (BasedDigits base) (Heads (is_digit_or_underscore 16)) w r
based_digits_best base w r low is over =
    let under = run_best {U = IsByte is_underscore} bytes_are_units is.first (digits_no_underscore base (omega arith) is.back r is.second) in
    let both = then_best under (digits_best base is.back r is.second over) (λ v s digits begins. absurd (underscore_no_digit base (omega arith) v s digits begins)) in
    subst (λ x. Best (BasedDigits base) (Heads (is_digit_or_underscore 16)) x r) (sym is.bytes) (best_weaken (Heads (is_digit_or_underscore 16)) (based_digits_wider base low) both)

pub based_best : (letter base : ℕ) (t r : List ℕ) {N : List ℕ → Type 0} → Prefix letter base → Best (BasedDigits base) N t r → Best IsBased N (48 ∷ letter ∷ t) r
based_best letter base t r known best = record {
  is = record { letter = letter; base = base; digits = t; known = known; are_digits = best.is; bytes = refl };
  only = λ v s other e.
      let spelled : 48 ∷ other.letter ∷ (other.digits ++ s) ≡ 48 ∷ letter ∷ (t ++ r) = ap (λ x. x ++ s) (sym other.bytes) ∙ e in
      let letters : other.letter ≡ letter = cc in
      let rests : other.digits ++ s ≡ t ++ r = cc in
      let bases : other.base ≡ base = prefix_same other.letter letter other.base base other.known known letters in
      ⊎_elim
      (λ same. inl (other.bytes ∙ (λ i. 48 ∷ letters i ∷ same i)))
      (λ shorter. inr (omega (arith, shorter.0, ap length other.bytes), shorter.1))
      (best.only other.digits s (subst (λ k. BasedDigits k other.digits) bases other.are_digits) rests);
}

pub based_long : (w : List ℕ) → IsBased w → 2 ≤ length w
based_long w is = omega (arith, ap length is.bytes)

-- a prefix parts a first 0 from what follows, where the number is read as a decimal one
abbrev pub is_prefix_letter : ℕ → Bool
is_prefix_letter b = b == 98 || b == 111 || b == 120

prefix_letter : (letter base : ℕ) → Prefix letter base → is_prefix_letter letter ≡ true
prefix_letter letter base (binary l b) = ap is_prefix_letter l
prefix_letter letter base (octal l b) = ap is_prefix_letter l
prefix_letter letter base (hexadecimal l b) = ap is_prefix_letter l

no_prefix_digit : (b : ℕ) → is_prefix_letter b ≡ true → is_digit_or_underscore 10 b ≡ true → ⊥
no_prefix_digit b e passes =
    ⊎_elim
    (λ x.
    ⊎_elim
    (λ y. at_equal (is_digit_or_underscore 10) 98 b y refl passes)
    (λ y. at_equal (is_digit_or_underscore 10) 111 b y refl passes)
    (or_cases (b == 98) (b == 111) x))
    (λ x. at_equal (is_digit_or_underscore 10) 120 b x refl passes)
    (or_cases (b == 98 || b == 111) (b == 120) e)

prefix_over : (letter base : ℕ) (x : List ℕ) → Prefix letter base → Absent (IsByte (is_digit_or_underscore 10)) (letter ∷ x)
prefix_over letter base x known v s is e =
    let spelled : is.byte ∷ s ≡ letter ∷ x = ap (λ y. y ++ s) (sym is.bytes) ∙ e in
    let same : is.byte ≡ letter = cc in
    no_prefix_digit letter (prefix_letter letter base known) (subst (λ b. is_digit_or_underscore 10 b ≡ true) same is.passed)

zero_digits : Digits 10 (48 ∷ [])
zero_digits = record { lead = 48 ∷ []; rest = []; first = record { byte = 48; passed = refl; bytes = refl }; run = run_none; bytes = refl }

pub decimal_short : (d t s x : List ℕ) (letter base : ℕ) → Digits 10 d → DecimalTail t → Prefix letter base → (d ++ t) ++ s ≡ 48 ∷ letter ∷ x → length (d ++ t) ≤ 1
decimal_short d t s x letter base digits tail known e =
    let best = digits_best 10 (48 ∷ []) (letter ∷ x) zero_digits (prefix_over letter base x known) in
    ⊎_elim
    (λ same.
    let rest : t ++ s ≡ letter ∷ x = cancel_along d (48 ∷ []) (t ++ s) (letter ∷ x) same (sym (append_assoc d t s) ∙ e) in
    let empty : t ≡ [] =
    tail_empty is_prefix_letter refl refl refl refl refl refl t s tail (record { byte = letter; rest = x; passed = prefix_letter letter base known; bytes = rest }) in
    omega (arith, ap length same, ap length empty, length-append d t))
    (λ shorter. absurd (omega (arith, shorter.0, ap length digits.bytes, length-append digits.lead digits.rest, (bytes_are_units {p = is_digit_of 10}).nonempty digits.lead digits.first)))
    (best.only d (t ++ s) digits (sym (append_assoc d t s) ∙ e))

-- ---- the kind of a number

kinds_same : (t u : List ℕ) (k l : TokenKind) → t ≡ u → k ≡ number_kind t → l ≡ number_kind u → k ≡ l
kinds_same t u k l same e f = e ∙ ap number_kind same ∙ sym f

pub number_kind_is_one : (k l : TokenKind) (w : List ℕ) → IsNumber k w → IsNumber l w → k ≡ l
number_kind_is_one k l w (decimal d t digits tail e f) (decimal d' t' digits' tail' e' f') =
    let best = digits_best 10 d t digits (tail_is_over t tail) in
    let spelled : d' ++ t' ≡ d ++ t = sym e' ∙ e in
    ⊎_elim
    (λ same. kinds_same t t' k l (sym (cancel_along d' d t' t same spelled)) f f')
    (λ shorter. absurd (tail_is_over t' tail' shorter.1.word shorter.1.rest shorter.1.is (sym shorter.1.bytes)))
    (best.only d' t' digits' spelled)
number_kind_is_one k l w (decimal d t digits tail e f) (based d' t' digits' tail' e' f') =
    let short = decimal_short d t [] (digits'.digits ++ t') digits'.letter digits'.base digits tail digits'.known (append-nil (d ++ t) ∙ sym e ∙ e' ∙ ap (λ x. x ++ t') digits'.bytes) in
    absurd (omega (arith, short, ap length e, ap length e', length-append d' t', based_long d' digits'))
number_kind_is_one k l w (based d t digits tail e f) (decimal d' t' digits' tail' e' f') =
    let short = decimal_short d' t' [] (digits.digits ++ t) digits.letter digits.base digits' tail' digits.known (append-nil (d' ++ t') ∙ sym e' ∙ e ∙ ap (λ x. x ++ t) digits.bytes) in
    absurd (omega (arith, short, ap length e, ap length e', length-append d t, based_long d digits))
number_kind_is_one k l w (based d t digits tail e f) (based d' t' digits' tail' e' f') =
    let low = prefix_base digits.letter digits.base digits.known in
    let inner = based_digits_best digits.base digits.digits t low digits.are_digits (unit_over digits.base t digits.known tail) in
    let best : Best IsBased (Heads (is_digit_or_underscore 16)) d t = subst (λ x. Best IsBased (Heads (is_digit_or_underscore 16)) x t) (sym digits.bytes) (based_best digits.letter digits.base digits.digits t digits.known inner) in
    let spelled : d' ++ t' ≡ d ++ t = sym e' ∙ e in
    ⊎_elim
    (λ same. kinds_same t t' k l (sym (cancel_along d' d t' t same spelled)) f f')
    (λ shorter. absurd (unit_is_over 16 t' refl refl refl tail' (shorter.1.byte ∷ []) shorter.1.rest (record { byte = shorter.1.byte; passed = shorter.1.passed; bytes = refl }) (sym shorter.1.bytes)))
    (best.only d' t' digits' spelled) where
      unit_over : {letter : ℕ} (base : ℕ) (t : List ℕ) → Prefix letter base → Optional IsUnitLetter t → Absent (IsByte (is_digit_or_underscore base)) t
      unit_over {letter} base t known tail v s is e =
          unit_is_over 16 t refl refl refl tail v s (record { byte = is.byte; passed = wider base (prefix_base letter base known) is.byte is.passed; bytes = is.bytes }) e
