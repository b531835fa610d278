-- Escapes at the front of a text.
use Rattle.std.proofs.Common.{◌≡◌, ℕ, suc, ◌≤◌, ◌<◌, ◌+◌, ◌*◌, ◌^◌, true, List, [], ◌∷◌, length, take, drop, get_or, ◌∙◌, ap, subst, arith, length-drop, length-take-le, lit<}
use Rattle.std.proofs.Math.Nat.{pow-le-pow_right}
use native.Mathlib.Numerals.{unary_clauses}
use Rattle.std.specs.Char.{IsScalar}
use Rattle.odc_syntax.specs.lexical.Texts.{IsEscape, short, coded, is_short_escape, hex_digits}
use Rattle.odc_lex.specs.Escape.{WritesHex}

-- the first two bytes, and those behind them
pub two_ahead : (text : List ℕ) (n : ℕ) → 2 ≤ length text → take (2 + n) text ≡ get_or text 0 0 ∷ get_or text 1 0 ∷ take n (drop 2 text)
two_ahead [] n l = absurd (omega arith)
two_ahead (a ∷ []) n l = absurd (omega arith)
two_ahead (a ∷ b ∷ text) n l = let e : 2 + n ≡ suc (suc n) = omega arith in ap (λ k. take k (a ∷ b ∷ text)) e

pub short_found : (text : List ℕ) → 2 ≤ length text → get_or text 0 0 ≡ 92 → is_short_escape (get_or text 1 0) ≡ true → (2 ≤ length text) × IsEscape (take 2 text)
short_found text l head is =
    (l, short (get_or text 1 0) is (two_ahead text 0 l ∙ ap (λ b. b ∷ get_or text 1 0 ∷ []) head))

pub coded_found : (text : List ℕ) (n code : ℕ) → 2 ≤ length text → get_or text 0 0 ≡ 92 → n ≡ hex_digits (get_or text 1 0) → 0 < n → WritesHex (drop 2 text) n code → IsScalar code → (2 + n ≤ length text) × IsEscape (take (2 + n) text)
coded_found text n code l head digits positive hex scalar =
    let len : length (take n (drop 2 text)) ≡ n = length-take-le n (drop 2 text) hex.within in (
      omega (arith, hex.within, length-drop 2 text),
      coded (get_or text 1 0) (take n (drop 2 text)) (omega arith) (len ∙ digits) hex.are_digits (subst IsScalar hex.value scalar)
          (two_ahead text n l ∙ ap (λ b. b ∷ get_or text 1 0 ∷ take n (drop 2 text)) head),
    )

-- one more digit stays below the next power
pub hex_small : (code value i n : ℕ) → code < 16 ^ i → value < 16 → i < n → n ≤ 8 → code * 16 + value < 2 ^ 32
hex_small code value i n small digit more most =
    let below : suc i ≤ 8 = omega arith in
    let step : 16 ^ (suc i) ≤ 16 ^ 8 = pow-le-pow_right (lit< tt) below in
    let next : 16 ^ (suc i) ≡ 16 ^ i * 16 = simp unary_clauses in
    omega arith
