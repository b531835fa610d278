-- The first two bytes of a text tell of which form its piece is.
use Rattle.std.proofs.Common.{◌≡◌, ℕ, ◌<◌, ◌≤◌, ◌⊎◌, Bool, true, false, not, ◌||◌, ◌&&◌, ◌==◌, List, [], ◌∷◌, ◌++◌, length, get_or, refl, sym, ◌∙◌, ap, subst, inl, inr, ⊎_elim, arith, append-nil}
use Rattle.std.specs.Prelude.{if◌then◌else◌, nat_le, nat_lt}
use Rattle.std.specs.Char.{is_digit, encode_utf8, is_ascii_alphabetic}
use Rattle.std.proofs.lemmas.Bool.{agree_below, agree_below_at, or_right, le-leb, cases_eq, ltb-true, false≢true, and_parts, ne_eqb, cases_lt, or_cases, not-true}
use Rattle.std.proofs.lemmas.Bool.Decides.{nat_tests}
use Rattle.std.proofs.lemmas.Str.{char_from_byte}
use Rattle.unicode_ident.proofs.IdentLemmas.{is_xid_start-ascii}
use Rattle.odc_syntax.specs.declared.token.TokenKind.{TokenKind}
use Rattle.odc_syntax.specs.lexical.Longest.{Heads}
use Rattle.odc_syntax.specs.lexical.Names.{IsWord, IsDirective, Row, word_kind, starts_name}
use Rattle.odc_syntax.specs.lexical.Numbers.{IsNumber, decimal, based}
use Rattle.odc_syntax.specs.lexical.Texts.{IsRune, IsQuoted, IsRaw}
use Rattle.odc_syntax.specs.lexical.Comments.{IsLineComment, IsBlockComment}
use Rattle.odc_syntax.specs.lexical.Signs.{signs, IsAmong, IsSign}
use Rattle.odc_syntax.specs.lexical.Pieces.{Piece, blank, newline, token, bytes_of, IsPiece, white, line_end, line_comment, block_comment, word, number, rune, quoted, raw, directive, sign, is_white, IsWhite, comment, BeginsComment}
use Rattle.odc_syntax.specs.lexical.Classes.{Class, white_class, newline_class, line_comment_class, block_comment_class, word_class, number_class, rune_class, quoted_class, raw_class, directive_class, sign_class, is_word_byte, class_at, class_of}
use Rattle.std.specs.List.{list_any}
use Rattle.odc_syntax.specs.declared.token.TokenKind.TheVariants.{Rune, Text, Directive}
use Rattle.odc_syntax.proofs.Units.{characters_are_units}
use Rattle.odc_syntax.proofs.NumberLemmas.{heads_of_byte, heads_more, heads_of_digits}

-- of which form a piece is
abbrev pub shape : {a : Bool} {p : Piece} {r : List ℕ} → IsPiece a p r → Class
shape (white w is e) = white_class
shape (line_end e) = newline_class
shape (line_comment w is e) = line_comment_class
shape (block_comment w is e) = block_comment_class
shape (word w is f e) = word_class
shape (number k w is e) = number_class
shape (rune w is e) = rune_class
shape (quoted w is e) = quoted_class
shape (raw w is e) = raw_class
shape (directive w is e) = directive_class
shape (sign k w is alone e) = sign_class

-- a test that holds of each byte of ASCII
ascii : (f : ℕ → Bool) (b : ℕ) → agree_below f (λ _. true) 128 ≡ true → b < 128 → f b ≡ true
ascii f b all low = agree_below_at f (λ _. true) 128 b all low

implied : (x y : Bool) → (not x || y) ≡ true → x ≡ true → y ≡ true
implied x y e h = ⊎_elim (λ n. absurd (false≢true (sym (not-true x n) ∙ h))) (λ p. p) (or_cases (not x) y e)

abbrev is_number_class : Class → Bool
is_number_class number_class = true
is_number_class _ = false

abbrev is_word_class : Class → Bool
is_word_class word_class = true
is_word_class _ = false

number_from : (x : Class) → is_number_class x ≡ true → x ≡ number_class
number_from white_class e = absurd (false≢true e)
number_from newline_class e = absurd (false≢true e)
number_from line_comment_class e = absurd (false≢true e)
number_from block_comment_class e = absurd (false≢true e)
number_from word_class e = absurd (false≢true e)
number_from number_class e = refl
number_from rune_class e = absurd (false≢true e)
number_from quoted_class e = absurd (false≢true e)
number_from raw_class e = absurd (false≢true e)
number_from directive_class e = absurd (false≢true e)
number_from sign_class e = absurd (false≢true e)

word_from : (x : Class) → is_word_class x ≡ true → x ≡ word_class
word_from white_class e = absurd (false≢true e)
word_from newline_class e = absurd (false≢true e)
word_from line_comment_class e = absurd (false≢true e)
word_from block_comment_class e = absurd (false≢true e)
word_from word_class e = refl
word_from number_class e = absurd (false≢true e)
word_from rune_class e = absurd (false≢true e)
word_from quoted_class e = absurd (false≢true e)
word_from raw_class e = absurd (false≢true e)
word_from directive_class e = absurd (false≢true e)
word_from sign_class e = absurd (false≢true e)

class_white : (b c : ℕ) → is_white b ≡ true → class_at b c ≡ white_class
class_white b c e = rw e

digit_low : (b : ℕ) → is_digit b 10 ≡ true → b < 128
digit_low b e = grind (arith, nat_tests)

class_digit : (b c : ℕ) → is_digit b 10 ≡ true → class_at b c ≡ number_class
class_digit b c e =
    number_from (class_at b c) (implied (is_digit b 10) (is_number_class (class_at b c)) (ascii (λ x. not (is_digit x 10) || is_number_class (class_at x c)) b refl (digit_low b e)) e)

class_high : (b c : ℕ) → 128 ≤ b → class_at b c ≡ word_class
class_high b c h =
    let e32 : (b == 32) ≡ false = ne_eqb b 32 (λ e. omega arith) in
    let e9 : (b == 9) ≡ false = ne_eqb b 9 (λ e. omega arith) in
    let e13 : (b == 13) ≡ false = ne_eqb b 13 (λ e. omega arith) in
    let e10 : (b == 10) ≡ false = ne_eqb b 10 (λ e. omega arith) in
    let e47 : (b == 47) ≡ false = ne_eqb b 47 (λ e. omega arith) in
    let e39 : (b == 39) ≡ false = ne_eqb b 39 (λ e. omega arith) in
    let e34 : (b == 34) ≡ false = ne_eqb b 34 (λ e. omega arith) in
    let e96 : (b == 96) ≡ false = ne_eqb b 96 (λ e. omega arith) in
    let e35 : (b == 35) ≡ false = ne_eqb b 35 (λ e. omega arith) in
    let no_digit : is_digit b 10 ≡ false = grind (arith, nat_tests) in
    let is_word : is_word_byte b ≡ true = or_right _ (nat_le 128 b) (le-leb 128 b h) in
    rw (e32, e9, e13, e10, e47, no_digit, e39, e34, e96, e35, is_word)

class_word : (b c : ℕ) → is_word_byte b ≡ true → class_at b c ≡ word_class
class_word b c e =
    ⊎_elim
    (λ low. word_from (class_at b c) (implied (is_word_byte b) (is_word_class (class_at b c)) (ascii (λ x. not (is_word_byte x) || is_word_class (class_at x c)) b refl low) e))
    (λ high. class_high b c high)
    (cases_lt b 128)

-- a character that begins a name begins with a byte of a word
word_byte : (c : ℕ) (r t : List ℕ) (b : ℕ) → starts_name c ≡ true → encode_utf8 c ++ r ≡ b ∷ t → is_word_byte b ≡ true
word_byte c r t b starts e =
    ⊎_elim
    (λ low.
    let same : c ≡ b = char_from_byte (b ∷ t) r c (sym e) low (omega arith) in
    let letter : (is_ascii_alphabetic b || b == 95) ≡ true = subst (λ x. (x || b == 95) ≡ true) (is_xid_start-ascii b low) (subst (λ x. starts_name x ≡ true) same starts) in
    implied (is_ascii_alphabetic b || b == 95) (is_word_byte b) (ascii (λ x. not (is_ascii_alphabetic x || x == 95) || is_word_byte x) b refl low) letter)
    (λ high. or_right _ (nat_le 128 b) (le-leb 128 b high))
    (cases_lt b 128)

-- ---- signs

abbrev is_sign_class : Class → Bool
is_sign_class sign_class = true
is_sign_class _ = false

sign_from : (x : Class) → is_sign_class x ≡ true → x ≡ sign_class
sign_from white_class e = absurd (false≢true e)
sign_from newline_class e = absurd (false≢true e)
sign_from line_comment_class e = absurd (false≢true e)
sign_from block_comment_class e = absurd (false≢true e)
sign_from word_class e = absurd (false≢true e)
sign_from number_class e = absurd (false≢true e)
sign_from rune_class e = absurd (false≢true e)
sign_from quoted_class e = absurd (false≢true e)
sign_from raw_class e = absurd (false≢true e)
sign_from directive_class e = absurd (false≢true e)
sign_from sign_class e = refl

-- where the second byte tells, the text has it; the slash is apart
abbrev tells : List ℕ → Bool
tells [] = false
tells (b ∷ []) = (is_sign_class (class_at b 0) && not (b == 35)) && nat_lt b 128
tells (b ∷ c ∷ w) = is_sign_class (class_at b c)

abbrev each_tells : List Row → Bool
each_tells [] = true
each_tells (r ∷ rs) = tells r.text && each_tells rs

signs_tell : each_tells signs ≡ true
unfolding signs
signs_tell = refl

among_tells : (rs : List Row) (k : TokenKind) (w : List ℕ) → each_tells rs ≡ true → IsAmong rs k w → tells w ≡ true
among_tells [] k w all is = absurd is
among_tells (r ∷ rs) k w all is =
    let parts = and_parts (tells r.text) (each_tells rs) all in
    ⊎_elim (λ here. subst (λ x. tells x ≡ true) (sym here.0) parts.0) (λ there. among_tells rs k w parts.1 there) is

-- a second byte says nothing but behind a slash and a number sign
abbrev either_way : ℕ → ℕ → Bool
either_way c b = (not (is_sign_class (class_at b 0)) || (b == 47 || b == 35)) || is_sign_class (class_at b c)

one_byte : (b c : ℕ) → is_sign_class (class_at b 0) ≡ true → (b == 35) ≡ false → b < 128 → (b ≡ 47 → (c ≡ 47) ⊎ (c ≡ 42) → ⊥) → class_at b c ≡ sign_class
one_byte b c alone no_hash low no_comment =
    ⊎_elim
    (λ slash.
    let e47 : (c == 47) ≡ false = ne_eqb c 47 (λ e. no_comment slash (inl e)) in
    let e42 : (c == 42) ≡ false = ne_eqb c 42 (λ e. no_comment slash (inr e)) in
    ap (λ x. class_at x c) slash ∙ rw (e47, e42))
    (λ other.
    let no_slash : (b == 47) ≡ false = ne_eqb b 47 other in
    let case : either_way c b ≡ true = ascii (either_way c) b refl low in
    sign_from (class_at b c)
    (⊎_elim
    (λ x.
    ⊎_elim
    (λ y. absurd (false≢true (sym (not-true (is_sign_class (class_at b 0)) y) ∙ alone)))
    (λ y. ⊎_elim (λ z. absurd (false≢true (sym no_slash ∙ z))) (λ z. absurd (false≢true (sym no_hash ∙ z))) (or_cases (b == 47) (b == 35) y))
    (or_cases (not (is_sign_class (class_at b 0))) (b == 47 || b == 35) x))
    (λ x. x)
    (or_cases (not (is_sign_class (class_at b 0)) || (b == 47 || b == 35)) (is_sign_class (class_at b c)) case)))
    (cases_eq b 47)

sign_class_of : (w r : List ℕ) → tells w ≡ true → ¬ (BeginsComment w r) → class_of (w ++ r) ≡ sign_class
sign_class_of [] r t alone = absurd (false≢true t)
sign_class_of (b ∷ c ∷ w) r t alone = sign_from (class_at b c) t
sign_class_of (b ∷ []) [] t alone = sign_from (class_at b 0) (and_parts (is_sign_class (class_at b 0)) (not (b == 35)) (and_parts (is_sign_class (class_at b 0) && not (b == 35)) (nat_lt b 128) t).0).0
sign_class_of (b ∷ []) (c ∷ r) t alone =
    let low = and_parts (is_sign_class (class_at b 0) && not (b == 35)) (nat_lt b 128) t in
    let both = and_parts (is_sign_class (class_at b 0)) (not (b == 35)) low.0 in
    one_byte b c both.0 (not-true (b == 35) both.1) (ltb-true b 128 low.1) (λ slash second. alone (ap (λ x. x ∷ []) slash, c, r, refl, second))

pub sign_some : (k : TokenKind) (w : List ℕ) → IsSign k w → 0 < length w
sign_some k w is = some w (among_tells signs k w signs_tell is) where
  some : (w : List ℕ) → tells w ≡ true → 0 < length w
  some [] t = absurd (false≢true t)
  some (b ∷ w) t = omega arith

-- ---- pieces

pub bytes_of_comment : (w : List ℕ) → bytes_of (comment w) ≡ w
bytes_of_comment w = by (list_any (λ b. b == 10) w) where
  by : (t : Bool) → bytes_of (if t then newline w else blank w) ≡ w
  by true = refl
  by false = refl

of_heads : {q : ℕ → Bool} (k : Class) (text : List ℕ) → Heads q text → ((b c : ℕ) → q b ≡ true → class_at b c ≡ k) → class_of text ≡ k
of_heads k text first tells = ap class_of first.bytes ∙ tells first.byte (get_or first.rest 0 0) first.passed

pub heads_of_white : (w : List ℕ) → IsWhite w → Heads is_white w
heads_of_white w is = heads_more is.lead is.rest w (heads_of_byte is.lead is.first) is.bytes

pub heads_of_number : (k : TokenKind) (w : List ℕ) → IsNumber k w → Heads (λ b. is_digit b 10) w
heads_of_number k w (decimal d t is tail e f) = heads_more d t w (heads_of_digits 10 d is) e
heads_of_number k w (based d t is tail e f) = heads_more d t w (record { byte = 48; rest = is.letter ∷ is.digits; passed = refl; bytes = is.bytes }) e

some_byte : (u : List ℕ) → 0 < length u → (b : ℕ) × (t : List ℕ) × (u ≡ b ∷ t)
some_byte [] l = absurd (omega arith)
some_byte (b ∷ t) l = (b, t, refl)

pub heads_of_word : (w : List ℕ) → IsWord w → Heads is_word_byte w
heads_of_word w is =
    let some = some_byte is.lead ((characters_are_units {p = starts_name}).nonempty is.lead is.first) in
    record {
      byte = some.0;
      rest = some.1 ++ is.rest;
      passed = word_byte is.first.code [] some.1 some.0 is.first.passed (append-nil (encode_utf8 is.first.code) ∙ sym is.first.bytes ∙ some.2);
      bytes = is.bytes ∙ ap (λ x. x ++ is.rest) some.2;
    }

no_plus : (b : ℕ) → is_word_byte b ≡ true → (b == 43) ≡ false
no_plus b e = ne_eqb b 43 (λ f. false≢true (ap is_word_byte (sym f) ∙ e))

class_directive : (w r : List ℕ) → IsDirective w → class_of (w ++ r) ≡ directive_class
class_directive w r is =
    let first = heads_of_word is.name is.word in
    let spelled : w ++ r ≡ 35 ∷ first.byte ∷ (first.rest ++ r) = ap (λ x. x ++ r) (is.bytes ∙ ap (λ x. 35 ∷ x) first.bytes) in
    ap class_of spelled ∙ rw (no_plus first.byte first.passed)

class_of_word : (w r : List ℕ) → IsWord w → class_of (w ++ r) ≡ word_class
class_of_word w r is = of_heads word_class (w ++ r) (heads_more w r (w ++ r) (heads_of_word w is) refl) class_word

class_of_sign : (k : TokenKind) (w r : List ℕ) → IsSign k w → ¬ (BeginsComment w r) → class_of (w ++ r) ≡ sign_class
class_of_sign k w r is alone = sign_class_of w r (among_tells signs k w signs_tell is) alone

-- the first two bytes of the text are those of its piece's form
pub classified : {a : Bool} {p : Piece} {r : List ℕ} (x : IsPiece a p r) → class_of (bytes_of p ++ r) ≡ shape x
classified {r = r} (white w is e) = ap (λ q. class_of (bytes_of q ++ r)) e ∙ of_heads white_class (w ++ r) (heads_more w r (w ++ r) (heads_of_white w is) refl) class_white
classified {r = r} (line_end e) = ap (λ q. class_of (bytes_of q ++ r)) e
classified {r = r} (line_comment w is e) = ap (λ q. class_of (bytes_of q ++ r)) e ∙ ap (λ x. class_of (x ++ r)) is.bytes
classified {r = r} (block_comment w is e) = ap (λ q. class_of (bytes_of q ++ r)) e ∙ ap (λ x. class_of (x ++ r)) (bytes_of_comment w ∙ is.bytes)
classified {r = r} (word w is f e) = ap (λ q. class_of (bytes_of q ++ r)) e ∙ class_of_word w r is
classified {r = r} (number k w is e) = ap (λ q. class_of (bytes_of q ++ r)) e ∙ of_heads number_class (w ++ r) (heads_more w r (w ++ r) (heads_of_number k w is) refl) class_digit
classified {r = r} (rune w is e) = ap (λ q. class_of (bytes_of q ++ r)) e ∙ ap (λ x. class_of (x ++ r)) is.bytes
classified {r = r} (quoted w is e) = ap (λ q. class_of (bytes_of q ++ r)) e ∙ ap (λ x. class_of (x ++ r)) is.bytes
classified {r = r} (raw w is e) = ap (λ q. class_of (bytes_of q ++ r)) e ∙ ap (λ x. class_of (x ++ r)) is.bytes
classified {r = r} (directive w is e) = ap (λ q. class_of (bytes_of q ++ r)) e ∙ class_directive w r is
classified {r = r} (sign k w is alone e) = ap (λ q. class_of (bytes_of q ++ r)) e ∙ class_of_sign k w r is alone

-- ---- what a piece of a class is

module _ {a : Bool} {p : Piece} {r : List ℕ} where
  pub only_white : (x : IsPiece a p r) → shape x ≡ white_class → (w : List ℕ) × IsWhite w × (p ≡ blank w)
  only_white (white w is e) h = (w, is, e)
  only_white _ h = cc

  pub only_newline : (x : IsPiece a p r) → shape x ≡ newline_class → p ≡ newline (10 ∷ [])
  only_newline (line_end e) h = e
  only_newline _ h = cc

  pub only_line_comment : (x : IsPiece a p r) → shape x ≡ line_comment_class → (w : List ℕ) × IsLineComment w r × (p ≡ blank w)
  only_line_comment (line_comment w is e) h = (w, is, e)
  only_line_comment _ h = cc

  pub only_block_comment : (x : IsPiece a p r) → shape x ≡ block_comment_class → (w : List ℕ) × IsBlockComment w × (p ≡ comment w)
  only_block_comment (block_comment w is e) h = (w, is, e)
  only_block_comment _ h = cc

  pub only_word : (x : IsPiece a p r) → shape x ≡ word_class → (w : List ℕ) × IsWord w × (a ≡ false) × (p ≡ token (word_kind w) w)
  only_word (word w is f e) h = (w, is, f, e)
  only_word _ h = cc

  pub only_number : (x : IsPiece a p r) → shape x ≡ number_class → (k : TokenKind) × (w : List ℕ) × IsNumber k w × (p ≡ token k w)
  only_number (number k w is e) h = (k, w, is, e)
  only_number _ h = cc

  pub only_rune : (x : IsPiece a p r) → shape x ≡ rune_class → (w : List ℕ) × IsRune w × (p ≡ token Rune w)
  only_rune (rune w is e) h = (w, is, e)
  only_rune _ h = cc

  pub only_quoted : (x : IsPiece a p r) → shape x ≡ quoted_class → (w : List ℕ) × IsQuoted w × (p ≡ token Text w)
  only_quoted (quoted w is e) h = (w, is, e)
  only_quoted _ h = cc

  pub only_raw : (x : IsPiece a p r) → shape x ≡ raw_class → (w : List ℕ) × IsRaw w × (p ≡ token Text w)
  only_raw (raw w is e) h = (w, is, e)
  only_raw _ h = cc

  pub only_directive : (x : IsPiece a p r) → shape x ≡ directive_class → (w : List ℕ) × IsDirective w × (p ≡ token Directive w)
  only_directive (directive w is e) h = (w, is, e)
  only_directive _ h = cc

  pub only_sign : (x : IsPiece a p r) → shape x ≡ sign_class → (k : TokenKind) × (w : List ℕ) × IsSign k w × ¬ (BeginsComment w r) × (p ≡ token k w)
  only_sign (sign k w is alone e) h = (k, w, is, alone, e)
  only_sign _ h = cc
