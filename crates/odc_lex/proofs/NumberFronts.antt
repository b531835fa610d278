-- Numbers at the front of a text.
use Rattle.std.proofs.Common.{◌≡◌, ℕ, zero, suc, ◌+◌, ◌-◌, ◌<◌, ◌≤◌, Bool, true, List, [], ◌∷◌, ◌++◌, ◌||◌, length, take, drop, get_or, Option, Some, None, refl, sym, ◌∙◌, ap, subst, inl, inr, ⊎_elim, append_assoc, take-append-drop, arith, length-take}
use Rattle.std.proofs.lemmas.List.{take_rest}
use Rattle.std.specs.Option.{unwrap_or}
use Rattle.std.proofs.lemmas.Bool.Decides.{nat_tests}
use Rattle.std.proofs.lemmas.Bool.{or_left, or_right}
use Rattle.odc_syntax.specs.declared.token.TokenKind.{TokenKind}
use Rattle.odc_syntax.specs.lexical.Words.{IsByte, Then}
use Rattle.odc_syntax.specs.lexical.Longest.{Begins, Absent, Best, Heads, IsFront, FindsFront, FindsUnit, IsWholeRun, Never}
use Rattle.odc_syntax.specs.lexical.Numbers.{Digits, Prefix, IsBased, Optional, IsFraction, IsExponent, IsUnitLetter, DecimalTail, number_kind, IsNumber, decimal, based, IsNumberFront, is_digit_of, is_digit_or_underscore, is_underscore, is_exponent_letter, is_plus_or_minus}
use Rattle.odc_syntax.proofs.Longest.{cancel_along, take_join, best_longest}
use Rattle.odc_syntax.proofs.Units.{bytes_are_units}
use Rattle.odc_syntax.proofs.Fronts.{then_front, run_front, unit_front, optional_front}
use Rattle.odc_syntax.proofs.NumberLemmas.{best_weaken, based_digits_wider, underscore_no_digit, BasedDigits, based_best, based_long, decimal_short, prefix_same, heads_of_begins, heads_of_fraction, heads_of_exponent, heads_more, heads_weaken, heads_apart, exponent_empty, unit_empty, tail_empty, then_empty, is_dot, heads_of_digits}
use Rattle.odc_lex.specs.Number.{AfterDigits, AfterExponent, AfterTail, kind_by_tail, NoNumber, is_after_sign}

pub front_weaken : {P N : List ℕ → Type 0} (M : List ℕ → Type 0) (text : List ℕ) (n : ℕ) → ((s : List ℕ) → N s → M s) → IsFront P N text n → IsFront P M text n
front_weaken M text n more front = record { within = front.within; best = best_weaken M more front.best }

pub then_absent : {P Q N : List ℕ → Type 0} (text : List ℕ) (m : ℕ) → IsFront P N text m → Absent Q (drop m text) → ((v s : List ℕ) → Q v → N (v ++ s) → ⊥) → Absent (Then P Q) text
then_absent text m front absent apart v s is e =
    let spelled : is.front ++ (is.back ++ s) ≡ text = sym (append_assoc is.front is.back s) ∙ ap (λ x. x ++ s) (sym is.bytes) ∙ e in
    ⊎_elim
    (λ same. absent is.back s is.second (cancel_along is.front (take m text) (is.back ++ s) (drop m text) same (spelled ∙ sym (take-append-drop m text))))
    (λ shorter. apart is.back s is.second shorter.1)
    (front.best.only is.front (is.back ++ s) is.first (spelled ∙ sym (take-append-drop m text)))

-- a word is a byte and a word of P
pub record Consed (P : List ℕ → Type 0) (w : List ℕ) : Type 0 where
  pub head : ℕ
  pub tail : List ℕ
  pub is : P tail
  pub bytes : w ≡ head ∷ tail

module _ {P Q : List ℕ → Type 0} (unwrap : (w : List ℕ) → Q w → Consed P w) (b : ℕ) (text t : List ℕ) (e : text ≡ b ∷ t) where
  consed : (v s : List ℕ) (is : Q v) → v ++ s ≡ text → ((unwrap v is).head ≡ b) × ((unwrap v is).tail ++ s ≡ t)
  consed v s is f =
      let u = unwrap v is in
      let spelled : u.head ∷ (u.tail ++ s) ≡ b ∷ t = ap (λ x. x ++ s) (sym u.bytes) ∙ f ∙ e in
      let heads : u.head ≡ b = cc in
      let tails : u.tail ++ s ≡ t = cc in
      (heads, tails)

  pub cons_front : {N : List ℕ → Type 0} (n : ℕ) → ((d : List ℕ) → P d → Q (b ∷ d)) → IsFront P N t n → IsFront Q N text (n + 1)
  cons_front n wrap front =
      let k : n + 1 ≡ suc n = omega arith in
      let bytes : take (n + 1) text ≡ b ∷ take n t = ap (take (n + 1)) e ∙ ap (λ j. take j (b ∷ t)) k in record {
        within = omega (arith, front.within, ap length e);
        best = record {
          is = subst Q (sym bytes) (wrap (take n t) front.best.is);
          only = λ v s is f.
              let u = unwrap v is in
              let parts = consed v s is (f ∙ take-append-drop (n + 1) text) in
              ⊎_elim
              (λ same. inl (u.bytes ∙ (λ i. parts.0 i ∷ same i) ∙ sym bytes))
              (λ shorter. inr (omega (arith, shorter.0, ap length u.bytes, ap length bytes), shorter.1))
              (front.best.only u.tail s u.is (parts.1 ∙ sym (take-append-drop n t)));
        };
      }

  pub cons_absent : Absent P t → Absent Q text
  cons_absent absent v s is f = absent (unwrap v is).tail s (unwrap v is).is (consed v s is f).1

-- the rest behind a first byte, as a slice
pub rest_one : (text : List ℕ) (b : ℕ) → text ≡ b ∷ drop 1 text → text ≡ b ∷ take (length text - 1) (drop 1 text)
rest_one text b e = e ∙ ap (λ t. b ∷ t) (sym (take_rest text 1))

pub two_heads : (text : List ℕ) → 2 ≤ length text → text ≡ get_or text 0 0 ∷ get_or text 1 0 ∷ drop 2 text
two_heads [] l = absurd (omega arith)
two_heads (a ∷ []) l = absurd (omega arith)
two_heads (a ∷ b ∷ text) l = refl

-- ---- digits of a base

pub based_digits_found : (base : ℕ) (text : List ℕ) (m n : ℕ) → base ≤ 16 → IsWholeRun (IsByte is_underscore) text m → IsFront (Digits base) (Begins (IsByte (is_digit_or_underscore base))) (take (length text - m) (drop m text)) n → IsFront (BasedDigits base) (Heads (is_digit_or_underscore 16)) text (m + n)
based_digits_found base text m n low run digits =
    front_weaken (Heads (is_digit_or_underscore 16)) text (m + n) (based_digits_wider base low)
    (then_front text m n (run_front bytes_are_units text m run) (subst (λ t. IsFront (Digits base) (Begins (IsByte (is_digit_or_underscore base))) t n) (take_rest text m) digits)
    (λ v s is begins. absurd (underscore_no_digit base (omega arith) v s is begins)))

pub based_digits_lost : (base : ℕ) (text : List ℕ) (m : ℕ) → base ≤ 16 → IsWholeRun (IsByte is_underscore) text m → Absent (Digits base) (take (length text - m) (drop m text)) → Absent (BasedDigits base) text
based_digits_lost base text m low run absent =
    then_absent text m (run_front bytes_are_units text m run) (subst (Absent (Digits base)) (take_rest text m) absent) (λ v s is begins. underscore_no_digit base (omega arith) v s is begins)

module _ (text : List ℕ) (l : 2 ≤ length text) (zero_first : get_or text 0 0 ≡ 48) where
  heads : text ≡ 48 ∷ get_or text 1 0 ∷ drop 2 text
  heads = two_heads text l ∙ ap (λ b. b ∷ get_or text 1 0 ∷ drop 2 text) zero_first

  pub based_found : (base n : ℕ) → Prefix (get_or text 1 0) base → IsFront (BasedDigits base) (Heads (is_digit_or_underscore 16)) (take (length text - 2) (drop 2 text)) n → IsFront IsBased (Heads (is_digit_or_underscore 16)) text (n + 2)
  based_found base n known front' =
      let front = subst (λ t. IsFront (BasedDigits base) (Heads (is_digit_or_underscore 16)) t n) (take_rest text 2) front' in
      let k : n + 2 ≡ suc (suc n) = omega arith in
      let t = drop 2 text in
      let letter = get_or text 1 0 in
      let bytes : take (n + 2) text ≡ 48 ∷ letter ∷ take n t = ap (take (n + 2)) heads ∙ ap (λ j. take j (48 ∷ letter ∷ t)) k in
      let after : drop (n + 2) text ≡ drop n t = ap (drop (n + 2)) heads ∙ ap (λ j. drop j (48 ∷ letter ∷ t)) k in record {
        within = omega (arith, front.within, ap length heads);
        best = subst (λ r. Best IsBased (Heads (is_digit_or_underscore 16)) (take (n + 2) text) r) (sym after)
            (subst (λ w. Best IsBased (Heads (is_digit_or_underscore 16)) w (drop n t)) (sym bytes) (based_best letter base (take n t) (drop n t) known front.best));
      }

  based_letter : (v s : List ℕ) (is : IsBased v) → v ++ s ≡ text → (is.letter ≡ get_or text 1 0) × (is.digits ++ s ≡ drop 2 text)
  based_letter v s is e =
      let spelled : 48 ∷ is.letter ∷ (is.digits ++ s) ≡ 48 ∷ get_or text 1 0 ∷ drop 2 text = ap (λ x. x ++ s) (sym is.bytes) ∙ e ∙ heads in
      let letters : is.letter ≡ get_or text 1 0 = cc in
      let rests : is.digits ++ s ≡ drop 2 text = cc in
      (letters, rests)

  pub based_lost : (base : ℕ) → Prefix (get_or text 1 0) base → Absent (BasedDigits base) (take (length text - 2) (drop 2 text)) → Absent IsBased text
  based_lost base known absent v s is e =
      let parts = based_letter v s is e in
      let bases : is.base ≡ base = prefix_same is.letter (get_or text 1 0) is.base base is.known known parts.0 in
      absent is.digits s (subst (λ k. BasedDigits k is.digits) bases is.are_digits) (parts.1 ∙ sym (take_rest text 2))

  pub based_unknown : ((base : ℕ) → Prefix (get_or text 1 0) base → ⊥) → Absent IsBased text
  based_unknown unknown v s is e = unknown is.base (subst (λ b. Prefix b is.base) (based_letter v s is e).0 is.known)

-- ---- fractions and exponents

fraction_parts : (w : List ℕ) → IsFraction w → Consed (Digits 10) w
fraction_parts w is = record { head = 46; tail = is.digits; is = is.are_digits; bytes = is.bytes }

pub fraction_found : (text : List ℕ) (n : ℕ) → text ≡ 46 ∷ drop 1 text → IsFront (Digits 10) AfterDigits (take (length text - 1) (drop 1 text)) n → IsFront IsFraction AfterDigits text (n + 1)
fraction_found text n e front = cons_front fraction_parts 46 text _ (rest_one text 46 e) n (λ d is. record { digits = d; are_digits = is; bytes = refl }) front

abbrev pub SignedDigits : List ℕ → Type 0
SignedDigits = Then (Optional (IsByte is_plus_or_minus)) (Digits 10)

exponent_parts : (w : List ℕ) → IsExponent w → Consed SignedDigits w
exponent_parts w is = record { head = is.letter; tail = is.tail; is = is.is_tail; bytes = is.bytes }

unit_of_text : (p : ℕ → Bool) (text : List ℕ) (n : ℕ) → (n ≤ length text) × IsByte p (take n text) → (b : ℕ) × (p b ≡ true) × (text ≡ b ∷ drop 1 text)
unit_of_text p [] n is = absurd (omega (arith, ap length is.1.bytes, length-take {A = ℕ} n []))
unit_of_text p (b ∷ text) zero is = absurd (omega (arith, ap length is.1.bytes))
unit_of_text p (b ∷ text) (suc n) is =
    let spelled : b ∷ take n text ≡ is.1.byte ∷ [] = is.1.bytes in
    let same : is.1.byte ≡ b = cc in
    (b, subst (λ x. p x ≡ true) same is.1.passed, refl)

pub exponent_found : (text : List ℕ) (one n : ℕ) → (one ≤ length text) × IsByte is_exponent_letter (take one text) → IsFront SignedDigits AfterExponent (take (length text - 1) (drop 1 text)) n → IsFront IsExponent AfterExponent text (n + 1)
exponent_found text one n letter front =
    let head = unit_of_text is_exponent_letter text one letter in
    cons_front exponent_parts head.0 text _ (rest_one text head.0 head.2) n (λ d is. record { letter = head.0; tail = d; is_letter = head.1; is_tail = is; bytes = refl }) front

pub exponent_lost : (text : List ℕ) (one : ℕ) → (one ≤ length text) × IsByte is_exponent_letter (take one text) → Absent SignedDigits (take (length text - 1) (drop 1 text)) → Absent IsExponent text
exponent_lost text one letter absent =
    let head = unit_of_text is_exponent_letter text one letter in
    cons_absent exponent_parts head.0 text _ (rest_one text head.0 head.2) absent

pub exponent_none : (text : List ℕ) → Absent (IsByte is_exponent_letter) text → Absent IsExponent text
exponent_none text absent v s is e =
    absent (is.letter ∷ []) (is.tail ++ s) (record { byte = is.letter; passed = is.is_letter; bytes = refl }) (ap (λ x. x ++ s) (sym is.bytes) ∙ e)

-- a byte that may be left out
pub byte_front : (p : ℕ → Bool) (text : List ℕ) (found : Option ℕ) (n : ℕ) → FindsUnit (IsByte p) text found → n ≡ unwrap_or found 0 → IsFront (Optional (IsByte p)) (Heads p) text n
byte_front p text found n finds e =
    subst (IsFront (Optional (IsByte p)) (Heads p) text) (sym e)
    (front_weaken (Heads p) text (unwrap_or found 0) (λ s either. ⊎_elim (λ begins. heads_of_begins s begins) (λ never. absurd never) either)
    (optional_front text found ((bytes_are_units {p = p}).nonempty) (as_front found finds))) where
      as_front : (found : Option ℕ) → FindsUnit (IsByte p) text found → FindsFront (IsByte p) Never text found
      as_front (Some n) is = unit_front bytes_are_units text n is
      as_front None absent = absent

-- a sign is no digit
signs_apart : (v s : List ℕ) → Digits 10 v → Heads is_plus_or_minus (v ++ s) → ⊥
signs_apart v s is both = heads_apart v s (heads_of_digits 10 v is) both (λ b digit sign. no_sign b sign digit) where
  no_sign : (b : ℕ) → is_plus_or_minus b ≡ true → is_digit_of 10 b ≡ true → ⊥
  no_sign b sign digit = grind (arith, nat_tests)

pub signed_found : (text : List ℕ) (found : Option ℕ) (m n : ℕ) → FindsUnit (IsByte is_plus_or_minus) text found → m ≡ unwrap_or found 0 → IsFront (Digits 10) AfterDigits (take (length text - m) (drop m text)) n → IsFront SignedDigits AfterExponent text (m + n)
signed_found text found m n finds e digits =
    front_weaken AfterExponent text (m + n) (λ s either. ⊎_elim (λ sign. heads_weaken is_after_sign s (λ b h. or_left (is_plus_or_minus b) (is_digit_or_underscore 10 b) h) sign) (λ digit. heads_weaken is_after_sign s (λ b h. or_right (is_plus_or_minus b) (is_digit_or_underscore 10 b) h) (heads_of_begins s digit)) either)
    (then_front text m n (byte_front is_plus_or_minus text found m finds e) (subst (λ t. IsFront (Digits 10) AfterDigits t n) (take_rest text m) digits) (λ v s is both. absurd (signs_apart v s is both)))

pub signed_lost : (text : List ℕ) (found : Option ℕ) (m : ℕ) → FindsUnit (IsByte is_plus_or_minus) text found → m ≡ unwrap_or found 0 → Absent (Digits 10) (take (length text - m) (drop m text)) → Absent SignedDigits text
signed_lost text found m finds e absent = then_absent text m (byte_front is_plus_or_minus text found m finds e) (subst (Absent (Digits 10)) (take_rest text m) absent) signs_apart

-- ---- what follows the digits of a decimal number

abbrev pub is_after_fraction : ℕ → Bool
is_after_fraction b = is_dot b || is_digit_or_underscore 10 b

abbrev pub is_after_exponent : ℕ → Bool
is_after_exponent b = is_exponent_letter b || is_after_sign b

heads_of_begins_word : {P : List ℕ → Type 0} {p : ℕ → Bool} (s : List ℕ) → ((w : List ℕ) → P w → Heads p w) → Begins P s → Heads p s
heads_of_begins_word s head begins = heads_more begins.word begins.rest s (head begins.word begins.is) begins.bytes

heads_nonempty : {p : ℕ → Bool} (w : List ℕ) → Heads p w → 0 < length w
heads_nonempty w first = omega (arith, ap length first.bytes)

pub fraction_front : (text : List ℕ) (found : Option ℕ) (n : ℕ) → FindsFront IsFraction AfterDigits text found → n ≡ unwrap_or found 0 → IsFront (Optional IsFraction) (Heads is_after_fraction) text n
fraction_front text found n finds e =
    subst (IsFront (Optional IsFraction) (Heads is_after_fraction) text) (sym e)
    (front_weaken (Heads is_after_fraction) text (unwrap_or found 0)
    (λ s either.
    ⊎_elim
    (λ begins. heads_weaken is_after_fraction s (λ b h. or_left (is_dot b) (is_digit_or_underscore 10 b) h) (heads_of_begins_word s heads_of_fraction begins))
    (λ digit. heads_weaken is_after_fraction s (λ b h. or_right (is_dot b) (is_digit_or_underscore 10 b) h) (heads_of_begins s digit))
    either)
    (optional_front text found (λ w is. heads_nonempty w (heads_of_fraction w is)) finds))

pub exponent_front : (text : List ℕ) (found : Option ℕ) (n : ℕ) → FindsFront IsExponent AfterExponent text found → n ≡ unwrap_or found 0 → IsFront (Optional IsExponent) (Heads is_after_exponent) text n
exponent_front text found n finds e =
    subst (IsFront (Optional IsExponent) (Heads is_after_exponent) text) (sym e)
    (front_weaken (Heads is_after_exponent) text (unwrap_or found 0)
    (λ s either.
    ⊎_elim
    (λ begins. heads_weaken is_after_exponent s (λ b h. or_left (is_exponent_letter b) (is_after_sign b) h) (heads_of_begins_word s heads_of_exponent begins))
    (λ sign. heads_weaken is_after_exponent s (λ b h. or_right (is_exponent_letter b) (is_after_sign b) h) sign)
    either)
    (optional_front text found (λ w is. heads_nonempty w (heads_of_exponent w is)) finds))

pub tail_front : (text : List ℕ) (f x u : ℕ) → IsFront (Optional IsFraction) (Heads is_after_fraction) text f → IsFront (Optional IsExponent) (Heads is_after_exponent) (drop f text) x → IsFront (Optional IsUnitLetter) AfterTail (drop x (drop f text)) u → IsFront DecimalTail AfterTail text (f + (x + u))
tail_front text f x u fraction exponent unit =
    let back = then_front (drop f text) x u exponent unit (λ v s is both. unit_empty is_after_exponent refl refl refl v s is both) in
    front_weaken AfterTail text (f + (x + u)) (λ s either. tt)
    (then_front text f (x + u) fraction back
    (λ v s is both. then_empty v s (exponent_empty is_after_fraction refl refl) (unit_empty is_after_fraction refl refl refl) is both))

-- ---- whole numbers

pub kind_of_tail : (w : List ℕ) (n : ℕ) → n ≤ length w → kind_by_tail n ≡ number_kind (take n w)
kind_of_tail w zero l = refl
kind_of_tail [] (suc n) l = absurd (omega arith)
kind_of_tail (b ∷ w) (suc n) l = refl

pub decimal_front : (text : List ℕ) (k : TokenKind) (m n : ℕ) → Absent IsBased text → IsFront (Digits 10) AfterDigits text m → IsFront DecimalTail AfterTail (drop m text) n → k ≡ kind_by_tail n → IsNumberFront text k (m + n)
decimal_front text k m n no_prefix digits tail kind =
    let both = then_front text m n digits tail (λ v s is begins. tail_empty (is_digit_or_underscore 10) refl refl refl refl refl refl v s is (heads_of_begins (v ++ s) begins)) in record {
      within = both.within;
      is = decimal (take m text) (take n (drop m text)) digits.best.is tail.best.is (sym (take_join text m n)) (kind ∙ kind_of_tail (drop m text) n tail.within);
      longest = λ l v s is e. longest l v s is e both;
    } where
      longest : (l : TokenKind) (v s : List ℕ) → IsNumber l v → v ++ s ≡ text → {N : List ℕ → Type 0} → IsFront (Then (Digits 10) DecimalTail) N text (m + n) → length v ≤ m + n
      longest l v s (decimal d t dd tt' f g) e both =
          let shorter = best_longest both.best v s (record { front = d; back = t; first = dd; second = tt'; bytes = f }) (e ∙ sym (take-append-drop (m + n) text)) in
          omega (arith, shorter, length-take (m + n) text)
      longest l v s (based d t dd tt' f g) e both = absurd (no_prefix d (t ++ s) dd (sym (append_assoc d t s) ∙ ap (λ x. x ++ s) (sym f) ∙ e))

pub based_number_front : (text : List ℕ) (k : TokenKind) (m n : ℕ) → IsFront IsBased (Heads (is_digit_or_underscore 16)) text m → IsFront (Optional IsUnitLetter) AfterTail (drop m text) n → k ≡ kind_by_tail n → IsNumberFront text k (m + n)
based_number_front text k m n digits tail kind =
    let both = then_front text m n digits tail (λ v s is heads. unit_empty (is_digit_or_underscore 16) refl refl refl v s is heads) in record {
      within = both.within;
      is = based (take m text) (take n (drop m text)) digits.best.is tail.best.is (sym (take_join text m n)) (kind ∙ kind_of_tail (drop m text) n tail.within);
      longest = λ l v s is e. longest l v s is e both;
    } where
      longest : (l : TokenKind) (v s : List ℕ) → IsNumber l v → v ++ s ≡ text → {N : List ℕ → Type 0} → IsFront (Then IsBased (Optional IsUnitLetter)) N text (m + n) → length v ≤ m + n
      longest l v s (based d t dd tt' f g) e both =
          let shorter = best_longest both.best v s (record { front = d; back = t; first = dd; second = tt'; bytes = f }) (e ∙ sym (take-append-drop (m + n) text)) in
          omega (arith, shorter, length-take (m + n) text)
      longest l v s (decimal d t dd tt' f g) e both =
          let is = digits.best.is in
          let spelled : (d ++ t) ++ s ≡ 48 ∷ is.letter ∷ (is.digits ++ drop m text) = ap (λ x. x ++ s) (sym f) ∙ e ∙ sym (take-append-drop m text) ∙ ap (λ x. x ++ drop m text) is.bytes in
          let short = decimal_short d t s (is.digits ++ drop m text) is.letter is.base dd tt' is.known spelled in
          omega (arith, short, ap length f, based_long (take m text) is, length-take m text)

pub no_number : (text : List ℕ) → Absent IsBased text → Absent (Digits 10) text → NoNumber text
no_number text no_prefix no_digits k v s (decimal d t dd tt' f g) e = no_digits d (t ++ s) dd (sym (append_assoc d t s) ∙ ap (λ x. x ++ s) (sym f) ∙ e)
no_number text no_prefix no_digits k v s (based d t dd tt' f g) e = no_prefix d (t ++ s) dd (sym (append_assoc d t s) ∙ ap (λ x. x ++ s) (sym f) ∙ e)

-- over slices
pub at_rest : {P N : List ℕ → Type 0} (text : List ℕ) (m n : ℕ) → IsFront P N (take (length text - m) (drop m text)) n → IsFront P N (drop m text) n
at_rest {P} {N} text m n front = subst (λ t. IsFront P N t n) (take_rest text m) front

pub tail_from : (text : List ℕ) (f x u : ℕ) → let r = take (length text - f) (drop f text) in IsFront (Optional IsFraction) (Heads is_after_fraction) text f → IsFront (Optional IsExponent) (Heads is_after_exponent) r x → IsFront (Optional IsUnitLetter) AfterTail (take (length r - x) (drop x r)) u → IsFront DecimalTail AfterTail text (f + (x + u))
tail_from text f x u fraction exponent unit =
    let unit_there = at_rest (take (length text - f) (drop f text)) x u unit in
    tail_front text f x u fraction (at_rest text f x exponent) (subst (λ t. IsFront (Optional IsUnitLetter) AfterTail (drop x t) u) (take_rest text f) unit_there)
