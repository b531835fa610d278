-- Words as the source run computes and prints them.
use Rattle.std.proofs.Common.{◌≡◌, ℕ, zero, suc, ◌+◌, ◌-◌, ◌*◌, ◌/◌, ◌%◌, ◌^◌, ◌<◌, ◌≤◌, Bool, true, false, List, [], ◌∷◌, ◌++◌, length, map, arith, ap, ◌∙◌, sym, subst, refl, lit<, append_assoc, length-append}
use Rattle.std.specs.Prelude.{ℤ, pos, negsuc, neg_ℤ, nat_abs, Option, Some, option_map, FitsSigned, nat_lt, ◌==◌, int_div, int_rem, if◌then◌else◌}
use Rattle.std.specs.Ordering.{int_eq}
use Rattle.std.specs.Int.{w64, cast_signed, cast_unsigned, int_wrap}
use Rattle.std.proofs.Math.Nat.{mod-eq_of_lt, div-le_self, mod-le}
use Rattle.std.proofs.lemmas.List.{map-append}
use Rattle.std.proofs.lemmas.Int.{wrapping_add-bits, wrapping_sub-bits, wrapping_mul-bits, of_z-to_z}
use Rattle.std.proofs.lemmas.Bool.Decides.{nat_tests, Decides-int_eq}
use Rattle.std.specs.Cmp.{unsigned_Decides}
use Rattle.std.specs.Bool.{one_answer}
use Rattle.odc_context.proofs.simulation.Signs.{signed_low, signed_high}
use Rattle.odc_text.specs.declared.place.Place.{Place}
use Rattle.odc_text.specs.Run.{out, Log}
use Rattle.rv_table.specs.Words.{plus, minus, quotient, remainder}
use Rattle.odc_typed.specs.declared.tree.BinaryOp.{BinaryOp}
use Rattle.odc_typed.specs.declared.tree.BinaryOp.TheVariants.{Add, Subtract, Multiply, Divide, Remainder}
use Rattle.odc_typed.specs.Bytes.{Address, Value, bytes_of, number_of, after_byte, int_of}
use Rattle.odc_typed.specs.Source.{State, Res, ok, then_by, exact, wrapped, operate, operate_on, result_of, print_read, print_int, print_rest, print_line, int_text}

-- ---- words and their bytes

pub word_fits : (z : ℤ) → FitsSigned w64 z → cast_unsigned w64 z < 2 ^ 64
word_fits (pos n) h = omega arith
word_fits (negsuc n) h = omega arith

abbrev IsBytes : ℕ → ℕ → Type 0
IsBytes zero w = w ≡ 0
IsBytes (suc n) w = IsBytes n (w / 256)

bytes_number : (n w : ℕ) → IsBytes n w → number_of (bytes_of n w) ≡ Some w
bytes_number zero w h = ap (λ (x : ℕ). Some x) (sym h)
bytes_number (suc n) w h =
    let whole : w % 256 + 256 * (w / 256) ≡ w = omega arith in
    ap (after_byte (w % 256)) (bytes_number n (w / 256) h) ∙ ap (λ (x : ℕ). Some x) whole

number_bytes : (w : ℕ) → w < 2 ^ 64 → number_of (bytes_of 8 w) ≡ Some w
number_bytes w h = bytes_number 8 w (omega arith)

-- the integer that a word is
pub word_int : (w : ℕ) → w < 2 ^ 64 → int_of (bytes_of 8 w) ≡ Some (cast_signed w64 w)
word_int w h = ap (option_map (cast_signed w64)) (number_bytes w h)

-- ---- the operations on words

wrapped_sum : (op : BinaryOp) (u v r : ℕ) → r < 2 ^ 64 → cast_signed w64 r ≡ int_wrap w64 (exact op (cast_signed w64 u) (cast_signed w64 v)) →
    wrapped op (cast_signed w64 u) (cast_signed w64 v) ≡ bytes_of 8 r
wrapped_sum op u v r small e = ap (λ (z : ℤ). bytes_of 8 (cast_unsigned w64 z)) (sym e) ∙ ap (bytes_of 8) (of_z-to_z w64 r small)

pub added : (u v : ℕ) → u < 2 ^ 64 → v < 2 ^ 64 → wrapped Add (cast_signed w64 u) (cast_signed w64 v) ≡ bytes_of 8 (plus u v)
added u v p q = wrapped_sum Add u v (plus u v) (omega arith) (wrapping_add-bits w64 u v p q)

pub subtracted : (u v : ℕ) → u < 2 ^ 64 → v < 2 ^ 64 → wrapped Subtract (cast_signed w64 u) (cast_signed w64 v) ≡ bytes_of 8 (minus u v)
subtracted u v p q = wrapped_sum Subtract u v (minus u v) (omega arith) (wrapping_sub-bits w64 u v p q)

pub multiplied : (u v : ℕ) → u < 2 ^ 64 → v < 2 ^ 64 → wrapped Multiply (cast_signed w64 u) (cast_signed w64 v) ≡ bytes_of 8 (u * v % 2 ^ 64)
multiplied u v p q = wrapped_sum Multiply u v (u * v % 2 ^ 64) (omega arith) (wrapping_mul-bits w64 u v p q)

-- an integer that is near enough has the word of what it wraps to
abbrev IsNear : ℤ → Type 0
IsNear (pos n) = n ≤ 2 ^ 63
IsNear (negsuc n) = n < 2 ^ 63

wrap_word : (z : ℤ) → IsNear z → cast_unsigned w64 (int_wrap w64 z) ≡ cast_unsigned w64 z
unfolding int_wrap
wrap_word (pos n) h = of_z-to_z w64 (n % 2 ^ 64) (omega arith) ∙ mod-eq_of_lt (omega arith)
wrap_word (negsuc n) h =
    let small : 2 ^ 64 - 1 - n % 2 ^ 64 < 2 ^ 64 = omega arith in
    let below : n < 2 ^ 64 = omega arith in
    of_z-to_z w64 (2 ^ 64 - 1 - n % 2 ^ 64) small ∙ (let same : n % 2 ^ 64 ≡ n = mod-eq_of_lt below in omega (arith, same))

near_negative : (n : ℕ) → n ≤ 2 ^ 63 → IsNear (neg_ℤ (pos n))
near_negative zero h = h
near_negative (suc n) h = omega arith

near_quotient : (y z : ℤ) → IsNear y → IsNear (int_div y z)
near_quotient (pos a) (pos b) h = omega (arith, div-le_self a b)
near_quotient (pos a) (negsuc b) h = near_negative (a / suc b) (omega (arith, div-le_self a (suc b)))
near_quotient (negsuc a) (pos b) h = near_negative (suc a / b) (omega (arith, div-le_self (suc a) b))
near_quotient (negsuc a) (negsuc b) h = omega (arith, div-le_self (suc a) (suc b))

near_remainder : (y z : ℤ) → IsNear y → IsNear (int_rem y z)
near_remainder (pos a) z h = omega (arith, mod-le a (nat_abs z))
near_remainder (negsuc a) z h = near_negative (suc a % nat_abs z) (omega (arith, mod-le (suc a) (nat_abs z)))

near_word : (v : ℕ) → v < 2 ^ 64 → IsNear (cast_signed w64 v)
near_word v h = by (nat_lt v (2 ^ 63)) refl
  where
    by : (t : Bool) → nat_lt v (2 ^ 63) ≡ t → IsNear (cast_signed w64 v)
    by true e = let below : v < 2 ^ 63 = grind (arith, nat_tests) in subst IsNear (sym (signed_low v below)) (omega arith)
    by false e = let big : 2 ^ 63 ≤ v = grind (arith, nat_tests) in subst IsNear (sym (signed_high v big h)) (omega arith)

pub divided_word : (u v : ℕ) → u < 2 ^ 64 → wrapped Divide (cast_signed w64 u) (cast_signed w64 v) ≡ bytes_of 8 (cast_unsigned w64 (int_div (cast_signed w64 u) (cast_signed w64 v)))
divided_word u v p = ap (bytes_of 8) (wrap_word (int_div (cast_signed w64 u) (cast_signed w64 v)) (near_quotient (cast_signed w64 u) (cast_signed w64 v) (near_word u p)))

pub rest_word : (u v : ℕ) → u < 2 ^ 64 → wrapped Remainder (cast_signed w64 u) (cast_signed w64 v) ≡ bytes_of 8 (cast_unsigned w64 (int_rem (cast_signed w64 u) (cast_signed w64 v)))
rest_word u v p = ap (bytes_of 8) (wrap_word (int_rem (cast_signed w64 u) (cast_signed w64 v)) (near_remainder (cast_signed w64 u) (cast_signed w64 v) (near_word u p)))

word_of_near : (z : ℤ) → IsNear z → cast_unsigned w64 z < 2 ^ 64
word_of_near (pos n) h = omega arith
word_of_near (negsuc n) h = omega arith

pub quotient_small : (u v : ℕ) → u < 2 ^ 64 → quotient w64 u v < 2 ^ 64
quotient_small u v p = by (v == 0)
  where
    by : (t : Bool) → (if t then cast_unsigned w64 (negsuc 0) else cast_unsigned w64 (int_div (cast_signed w64 u) (cast_signed w64 v))) < 2 ^ 64
    by true = lit< tt
    by false = word_of_near (int_div (cast_signed w64 u) (cast_signed w64 v)) (near_quotient (cast_signed w64 u) (cast_signed w64 v) (near_word u p))

pub remainder_small : (u v : ℕ) → u < 2 ^ 64 → remainder w64 u v < 2 ^ 64
remainder_small u v p = by (v == 0)
  where
    by : (t : Bool) → (if t then u else cast_unsigned w64 (int_rem (cast_signed w64 u) (cast_signed w64 v))) < 2 ^ 64
    by true = p
    by false = word_of_near (int_rem (cast_signed w64 u) (cast_signed w64 v)) (near_remainder (cast_signed w64 u) (cast_signed w64 v) (near_word u p))

-- equal words are equal integers
pub equal_test : (u v : ℕ) → u < 2 ^ 64 → v < 2 ^ 64 → int_eq (cast_signed w64 u) (cast_signed w64 v) ≡ (u == v)
equal_test u v p q =
    let d = unsigned_Decides u v in
    one_answer (int_eq (cast_signed w64 u) (cast_signed w64 v)) (u == v) (Decides-int_eq (cast_signed w64 u) (cast_signed w64 v))
    ((λ e. ap (cast_signed w64) (d.0 e)), (λ e. d.1 (sym (of_z-to_z w64 u p) ∙ ap (cast_unsigned w64) e ∙ of_z-to_z w64 v q)))

pub zero_test : (v : ℕ) → v < 2 ^ 64 → int_eq (cast_signed w64 v) (pos 0) ≡ (v == 0)
zero_test v p = equal_test v 0 p (lit< tt)

-- an operation on words is the operation on the integers that they are
pub operates : (at : Place) (op : BinaryOp) (u v : ℕ) (s : State) → u < 2 ^ 64 → v < 2 ^ 64 →
    operate at op (bytes_of 8 u) (bytes_of 8 v) s ≡ result_of at op (cast_signed w64 u) (cast_signed w64 v) s
operates at op u v s p q =
    ap (λ (o : Option ℤ). operate_on at op o (int_of (bytes_of 8 v)) s) (word_int u p)
    ∙ ap (λ (o : Option ℤ). operate_on at op (Some (cast_signed w64 u)) o s) (word_int v q)

-- ---- printed words

abbrev pub AreSmall : List ℕ → Type 0
AreSmall [] = Unit {0}
AreSmall (w ∷ ws) = (w < 2 ^ 64) × AreSmall ws

abbrev pub values : List ℕ → List Value
values [] = []
values (w ∷ ws) = bytes_of 8 w ∷ values ws

-- what an `int` prints
abbrev pub word_text : ℕ → List ℕ
word_text w = int_text (cast_signed w64 w)

-- what follows a word: a space, or after the last one a newline
abbrev pub follower : List ℕ → ℕ
follower [] = 10
follower (w ∷ ws) = 32

abbrev pub words_text : List ℕ → List ℕ
words_text [] = []
words_text (w ∷ ws) = (word_text w ++ (follower ws ∷ [])) ++ words_text ws

abbrev pub line_text : List ℕ → List ℕ
line_text [] = 10 ∷ []
line_text (w ∷ ws) = words_text (w ∷ ws)

-- a state in which this was printed, at this cost
abbrev pub said : State → List ℕ → ℕ → State
said s text cost = record s { log = s.log ++ map out text; cost = s.cost + cost }

with_log : (s : State) (l l' : Log Address ℕ) (c c' : ℕ) → l ≡ l' → c ≡ c' → (let r : State = record s { log = l; cost = c } in r) ≡ (let r : State = record s { log = l'; cost = c' } in r)
with_log s l l' c c' e f = ap (λ (x : Log Address ℕ). let r : State = record s { log = x; cost = c } in r) e ∙ ap (λ (x : ℕ). let r : State = record s { log = l'; cost = x } in r) f

said_twice : (s : State) (t u : List ℕ) (c d : ℕ) → said (said s t c) u d ≡ said s (t ++ u) (c + d)
said_twice s t u c d = with_log s _ _ _ _ (append_assoc s.log (map out t) (map out u) ∙ ap (λ (l : Log Address ℕ). s.log ++ l) (sym (map-append out t u))) (omega arith)

said_as : (s : State) (t t' : List ℕ) (c c' : ℕ) → t ≡ t' → c ≡ c' → said s t c ≡ said s t' c'
said_as s t t' c c' e f = with_log s _ _ _ _ (ap (λ (x : List ℕ). s.log ++ map out x) e) (ap (λ (x : ℕ). s.cost + x) f)

printed_int : (w : ℕ) (at : Place) (s : State) → w < 2 ^ 64 → print_int at (bytes_of 8 w) s ≡ ok tt (said s (word_text w) (length (word_text w)))
printed_int w at s h = ap (λ (o : Option ℤ). print_read at o s) (word_int w h)

printed_rest : (ws : List ℕ) (at : Place) (s : State) → AreSmall ws →
    print_rest at (values ws) s ≡ ok tt (said s (follower ws ∷ words_text ws) (length (follower ws ∷ words_text ws)))
printed_rest [] at s h = refl
printed_rest (w ∷ ws) at s h =
    let s1 : State = said s (32 ∷ []) 1 in
    let s2 : State = said s1 (word_text w) (length (word_text w)) in
    let rest : List ℕ = follower ws ∷ words_text ws in
    let spelled : (32 ∷ []) ++ word_text w ++ rest ≡ 32 ∷ ((word_text w ++ (follower ws ∷ [])) ++ words_text ws) =
    ap (λ (x : List ℕ). 32 ∷ x) (sym (append_assoc (word_text w) (follower ws ∷ []) (words_text ws))) in
    let counted : 1 + length (word_text w) + length rest ≡ length (32 ∷ ((word_text w ++ (follower ws ∷ [])) ++ words_text ws)) =
    omega (arith, ap length spelled, length-append (word_text w) rest) in
    ap (λ (r : Res (Unit {0})). then_by r (λ _ t. print_rest at (values ws) t)) (printed_int w at s1 h.0)
    ∙ printed_rest ws at s2 h.1
    ∙ ap (λ (t : State). ok tt t)
    (said_twice s1 (word_text w) rest (length (word_text w)) (length rest)
    ∙ said_twice s (32 ∷ []) (word_text w ++ rest) 1 (length (word_text w) + length rest)
    ∙ said_as s _ _ _ _ spelled (omega (arith, counted)))

pub printed_line : (ws : List ℕ) (at : Place) (s : State) → AreSmall ws → print_line at (values ws) s ≡ ok tt (said s (line_text ws) (length (line_text ws)))
printed_line [] at s h = refl
printed_line (w ∷ ws) at s h =
    let s1 : State = said s (word_text w) (length (word_text w)) in
    let rest : List ℕ = follower ws ∷ words_text ws in
    let spelled : word_text w ++ rest ≡ (word_text w ++ (follower ws ∷ [])) ++ words_text ws =
    sym (append_assoc (word_text w) (follower ws ∷ []) (words_text ws)) in
    let counted : length (word_text w) + length rest ≡ length ((word_text w ++ (follower ws ∷ [])) ++ words_text ws) =
    sym (length-append (word_text w) rest) ∙ ap length spelled in
    ap (λ (r : Res (Unit {0})). then_by r (λ _ t. print_rest at (values ws) t)) (printed_int w at s h.0)
    ∙ printed_rest ws at s1 h.1
    ∙ ap (λ (t : State). ok tt t) (said_twice s (word_text w) rest (length (word_text w)) (length rest) ∙ said_as s _ _ _ _ spelled counted)
