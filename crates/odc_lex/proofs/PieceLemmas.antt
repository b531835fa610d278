-- The piece at the front of a text.
use Rattle.std.proofs.Common.{◌≡◌, ℕ, ◌<◌, ◌≤◌, Bool, true, false, List, [], ◌∷◌, ◌++◌, length, take, drop, get_or, refl, sym, ◌∙◌, ap, subst, ⊎_elim, arith, lit<, length-take, take-append-drop}
use Rattle.std.specs.Prelude.{if◌then◌else◌, ◌==◌}
use Rattle.std.specs.List.{list_any}
use Rattle.std.proofs.lemmas.Bool.{false≢true}
use Rattle.odc_syntax.specs.declared.token.TokenKind.{TokenKind}
use Rattle.odc_syntax.specs.declared.token.TokenKind.TheVariants as kinds
use Rattle.odc_syntax.specs.lexical.Longest.{Absent, IsFront, IsOnlyFront}
use Rattle.odc_syntax.specs.lexical.Names.{IsWord, IsDirective, word_kind}
use Rattle.odc_syntax.specs.lexical.Numbers.{IsNumber}
use Rattle.odc_syntax.specs.lexical.Texts.{IsRune, IsQuoted, IsRaw}
use Rattle.odc_syntax.specs.lexical.Comments.{IsLineComment, IsBlockComment}
use Rattle.odc_syntax.specs.lexical.Signs.{IsSign}
use Rattle.odc_syntax.specs.lexical.Pieces.{Piece, blank, newline, token, bytes_of, IsPiece, white, line_end, line_comment, block_comment, word, number, rune, quoted, raw, directive, sign, comment, IsWhite, BeginsComment, NoPiece}
use Rattle.odc_syntax.specs.lexical.Classes.{Class, class_of, white_class, newline_class, line_comment_class, block_comment_class, word_class, number_class, rune_class, quoted_class, raw_class, directive_class, sign_class}
use Rattle.odc_syntax.proofs.Longest.{best_longest}
use Rattle.odc_syntax.proofs.ClassLemmas.{shape, classified, bytes_of_comment, only_white, only_newline, only_line_comment, only_block_comment, only_word, only_number, only_rune, only_quoted, only_raw, only_directive, only_sign}
use Rattle.odc_syntax.proofs.CutLemmas.{piece_some}
use Rattle.odc_lex.specs.declared.number.Lexeme.{Lexeme}
use Rattle.odc_lex.specs.declared.piece.Form.{Form}
use Rattle.odc_lex.specs.declared.piece.Form.TheVariants as forms
use Rattle.odc_lex.specs.Number.{LexemeFront, NoNumber}
use Rattle.odc_lex.specs.Table.{SignFront, NoSign}
use Rattle.odc_lex.specs.Piece.{IsPieceFront, piece_of, comment_form}

-- what is said of the words of one class, with what else is told of each
pub record Told (I : Type 0) (P : I → List ℕ → List ℕ → Type 0) (wrap : I → List ℕ → Piece) (q : Piece) (s : List ℕ) : Type 0 where
  pub index : I
  pub word : List ℕ
  pub is : P index word s
  pub piece : q ≡ wrap index word

module _ {a : Bool} {I : Type 0} {P : I → List ℕ → List ℕ → Type 0} {wrap : I → List ℕ → Piece} (k : Class) (bytes_wrap : (i : I) (w : List ℕ) → bytes_of (wrap i w) ≡ w)
    (only : (q : Piece) (s : List ℕ) (y : IsPiece a q s) → shape y ≡ k → Told I P wrap q s) where
  pub class_none : (text : List ℕ) → class_of text ≡ k → ((i : I) (v s : List ℕ) → P i v s → v ++ s ≡ text → ⊥) → NoPiece a text
  class_none text class none q s y e =
      let told = only q s y (sym (classified y) ∙ ap class_of e ∙ class) in
      let bytes : bytes_of q ≡ told.word = ap bytes_of told.piece ∙ bytes_wrap told.index told.word in
      none told.index told.word s told.is (ap (λ x. x ++ s) (sym bytes) ∙ e)

  pub class_found : (text : List ℕ) (n : ℕ) (i : I) → class_of text ≡ k → n ≤ length text → IsPiece a (wrap i (take n text)) (drop n text) → ((j : I) (v s : List ℕ) → P j v s → v ++ s ≡ text → length v ≤ n) → IsPieceFront a text (wrap i (take n text)) n
  class_found text n i class within piece longest =
      let bytes = bytes_wrap i (take n text) in
      let len : length (take n text) ≤ n = omega (arith, length-take n text) in
      let exact : length (take n text) ≡ n = omega (arith, length-take n text) in record {
        within = within;
        some = omega (arith, piece_some piece, ap length bytes, len);
        bytes = bytes;
        longest = record {
          piece = piece;
          longest = λ q s y e.
              let whole : bytes_of q ++ s ≡ text = e ∙ ap (λ x. x ++ drop n text) bytes ∙ take-append-drop n text in
              let told = only q s y (sym (classified y) ∙ ap class_of whole ∙ class) in
              let same : bytes_of q ≡ told.word = ap bytes_of told.piece ∙ bytes_wrap told.index told.word in
              let short = longest told.index told.word s told.is (ap (λ x. x ++ s) (sym same) ∙ whole) in
              omega (arith, short, ap length same, ap length bytes, exact);
        };
      }

-- a front is as long as any
pub front_length : {P N : List ℕ → Type 0} (text : List ℕ) (n : ℕ) → IsFront P N text n → (v s : List ℕ) → P v → v ++ s ≡ text → length v ≤ n
front_length text n front v s is e = omega (arith, best_longest front.best v s is (e ∙ sym (take-append-drop n text)), length-take n text)

only_length : {P : List ℕ → List ℕ → Type 0} (text : List ℕ) (n : ℕ) → IsOnlyFront P text n → (v s : List ℕ) → P v s → v ++ s ≡ text → length v ≤ n
only_length text n front v s is e = omega (arith, ap length (front.only v s is e), length-take n text)

same_bytes : (i : Unit {0}) (w : List ℕ) → w ≡ w
same_bytes i w = refl

-- ---- white space and newlines

abbrev pub Plain : (List ℕ → Type 0) → Unit {0} → List ℕ → List ℕ → Type 0
Plain P i w s = P w

module _ (a : Bool) (text : List ℕ) (n : ℕ) where
  pub white_found : {N : List ℕ → Type 0} → class_of text ≡ white_class → IsFront IsWhite N text n → IsPieceFront a text (blank (take n text)) n
  white_found class front =
      class_found {P = Plain IsWhite} {wrap = λ i w. blank w} white_class same_bytes
      (λ q s y h. let o = only_white y h in record { index = tt; word = o.0; is = o.1; piece = o.2 })
      text n tt class front.within (white (take n text) front.best.is refl) (λ i v s is e. front_length text n front v s is e)

  pub line_comment_found : class_of text ≡ line_comment_class → IsOnlyFront IsLineComment text n → IsPieceFront a text (blank (take n text)) n
  line_comment_found class front =
      class_found {P = λ i. IsLineComment} {wrap = λ i w. blank w} line_comment_class same_bytes
      (λ q s y h. let o = only_line_comment y h in record { index = tt; word = o.0; is = o.1; piece = o.2 })
      text n tt class front.within (line_comment (take n text) front.is refl) (λ i v s is e. only_length text n front v s is e)

  block_found : class_of text ≡ block_comment_class → IsOnlyFront (λ w rest. IsBlockComment w) text n → IsPieceFront a text (comment (take n text)) n
  block_found class front =
      class_found {P = Plain IsBlockComment} {wrap = λ i w. comment w} block_comment_class (λ i w. bytes_of_comment w)
      (λ q s y h. let o = only_block_comment y h in record { index = tt; word = o.0; is = o.1; piece = o.2 })
      text n tt class front.within (block_comment (take n text) front.is refl) (λ i v s is e. only_length text n front v s is e)

  pub block_comment_found : (form : Form) → class_of text ≡ block_comment_class → form ≡ comment_form (take n text) → IsOnlyFront (λ w rest. IsBlockComment w) text n → IsPieceFront a text (piece_of form (take n text)) n
  block_comment_found form class e front = subst (λ p. IsPieceFront a text p n) (sym (ap (λ f. piece_of f (take n text)) e ∙ by (list_any (λ b. b == 10) (take n text)))) (block_found class front) where
    by : (t : Bool) → piece_of (if t then forms.Newline else forms.Blank) (take n text) ≡ (if t then newline (take n text) else blank (take n text))
    by true = refl
    by false = refl

  pub word_found : {N : List ℕ → Type 0} (k : TokenKind) → a ≡ false → class_of text ≡ word_class → k ≡ word_kind (take n text) → IsFront IsWord N text n → IsPieceFront a text (token k (take n text)) n
  word_found k behind class kind front =
      subst (λ l. IsPieceFront a text (token l (take n text)) n) (sym kind)
      (class_found {P = Plain IsWord} {wrap = λ i w. token (word_kind w) w} word_class same_bytes
      (λ q s y h. let o = only_word y h in record { index = tt; word = o.0; is = o.1; piece = o.3 })
      text n tt class front.within (word (take n text) front.best.is behind refl) (λ i v s is e. front_length text n front v s is e))

  pub rune_found : {N : List ℕ → Type 0} → class_of text ≡ rune_class → IsFront IsRune N text n → IsPieceFront a text (token kinds.Rune (take n text)) n
  rune_found class front =
      class_found {P = Plain IsRune} {wrap = λ i w. token kinds.Rune w} rune_class same_bytes
      (λ q s y h. let o = only_rune y h in record { index = tt; word = o.0; is = o.1; piece = o.2 })
      text n tt class front.within (rune (take n text) front.best.is refl) (λ i v s is e. front_length text n front v s is e)

  pub quoted_found : {N : List ℕ → Type 0} → class_of text ≡ quoted_class → IsFront IsQuoted N text n → IsPieceFront a text (token kinds.Text (take n text)) n
  quoted_found class front =
      class_found {P = Plain IsQuoted} {wrap = λ i w. token kinds.Text w} quoted_class same_bytes
      (λ q s y h. let o = only_quoted y h in record { index = tt; word = o.0; is = o.1; piece = o.2 })
      text n tt class front.within (quoted (take n text) front.best.is refl) (λ i v s is e. front_length text n front v s is e)

  pub raw_found : {N : List ℕ → Type 0} → class_of text ≡ raw_class → IsFront IsRaw N text n → IsPieceFront a text (token kinds.Text (take n text)) n
  raw_found class front =
      class_found {P = Plain IsRaw} {wrap = λ i w. token kinds.Text w} raw_class same_bytes
      (λ q s y h. let o = only_raw y h in record { index = tt; word = o.0; is = o.1; piece = o.2 })
      text n tt class front.within (raw (take n text) front.best.is refl) (λ i v s is e. front_length text n front v s is e)

  pub directive_found : {N : List ℕ → Type 0} → class_of text ≡ directive_class → IsFront IsDirective N text n → IsPieceFront a text (token kinds.Directive (take n text)) n
  directive_found class front =
      class_found {P = Plain IsDirective} {wrap = λ i w. token kinds.Directive w} directive_class same_bytes
      (λ q s y h. let o = only_directive y h in record { index = tt; word = o.0; is = o.1; piece = o.2 })
      text n tt class front.within (directive (take n text) front.best.is refl) (λ i v s is e. front_length text n front v s is e)

module _ (a : Bool) (text : List ℕ) where
  pub number_found : (found : Lexeme) → class_of text ≡ number_class → LexemeFront text found → IsPieceFront a text (token found.kind (take found.len text)) found.len
  number_found found class front =
      class_found {P = λ k w s. IsNumber k w} {wrap = λ k w. token k w} number_class (λ k w. refl)
      (λ q s y h. let o = only_number y h in record { index = o.0; word = o.1; is = o.2; piece = o.3 })
      text found.len found.kind class front.within (number found.kind (take found.len text) front.is refl) front.longest

  pub number_none : class_of text ≡ number_class → NoNumber text → NoPiece a text
  number_none class none =
      class_none {P = λ k w s. IsNumber k w} {wrap = λ k w. token k w} number_class (λ k w. refl)
      (λ q s y h. let o = only_number y h in record { index = o.0; word = o.1; is = o.2; piece = o.3 })
      text class none

  -- where a comment begins, the class isn't that of signs
  no_comment : (n : ℕ) → class_of text ≡ sign_class → BeginsComment (take n text) (drop n text) → ⊥
  no_comment n class begins =
      let spelled : text ≡ 47 ∷ begins.1 ∷ begins.2 = sym (take-append-drop n text) ∙ ap (λ x. x ++ drop n text) begins.0 ∙ ap (λ x. 47 ∷ x) begins.3 in
      ⊎_elim
      (λ e. let clash : line_comment_class ≡ sign_class = sym (ap class_of (spelled ∙ ap (λ b. 47 ∷ b ∷ begins.2) e)) ∙ class in cc)
      (λ e. let clash : block_comment_class ≡ sign_class = sym (ap class_of (spelled ∙ ap (λ b. 47 ∷ b ∷ begins.2) e)) ∙ class in cc)
      begins.4

  pub sign_found : (found : Lexeme) → class_of text ≡ sign_class → SignFront text found → IsPieceFront a text (token found.kind (take found.len text)) found.len
  sign_found found class front =
      class_found {P = λ k w s. IsSign k w} {wrap = λ k w. token k w} sign_class (λ k w. refl)
      (λ q s y h. let o = only_sign y h in record { index = o.0; word = o.1; is = o.2; piece = o.4 })
      text found.len found.kind class front.within (sign found.kind (take found.len text) front.is (no_comment found.len class) refl) front.longest

  pub sign_none : class_of text ≡ sign_class → NoSign text → NoPiece a text
  sign_none class none =
      class_none {P = λ k w s. IsSign k w} {wrap = λ k w. token k w} sign_class (λ k w. refl)
      (λ q s y h. let o = only_sign y h in record { index = o.0; word = o.1; is = o.2; piece = o.4 })
      text class none

  pub white_none : class_of text ≡ white_class → Absent IsWhite text → NoPiece a text
  white_none class none =
      class_none {P = Plain IsWhite} {wrap = λ i w. blank w} white_class same_bytes
      (λ q s y h. let o = only_white y h in record { index = tt; word = o.0; is = o.1; piece = o.2 }) text class (λ i. none)

  pub line_comment_none : class_of text ≡ line_comment_class → ((v s : List ℕ) → IsLineComment v s → v ++ s ≡ text → ⊥) → NoPiece a text
  line_comment_none class none =
      class_none {P = λ i. IsLineComment} {wrap = λ i w. blank w} line_comment_class same_bytes
      (λ q s y h. let o = only_line_comment y h in record { index = tt; word = o.0; is = o.1; piece = o.2 }) text class (λ i. none)

  pub block_comment_none : class_of text ≡ block_comment_class → ((v s : List ℕ) → IsBlockComment v → v ++ s ≡ text → ⊥) → NoPiece a text
  block_comment_none class none =
      class_none {P = Plain IsBlockComment} {wrap = λ i w. comment w} block_comment_class (λ i w. bytes_of_comment w)
      (λ q s y h. let o = only_block_comment y h in record { index = tt; word = o.0; is = o.1; piece = o.2 }) text class (λ i. none)

  pub word_none : class_of text ≡ word_class → Absent IsWord text → NoPiece a text
  word_none class none =
      class_none {P = Plain IsWord} {wrap = λ i w. token (word_kind w) w} word_class same_bytes
      (λ q s y h. let o = only_word y h in record { index = tt; word = o.0; is = o.1; piece = o.3 }) text class (λ i. none)

  -- no word stands directly behind a number
  pub word_behind : a ≡ true → class_of text ≡ word_class → NoPiece a text
  word_behind behind class q s y e =
      let o = only_word y (sym (classified y) ∙ ap class_of e ∙ class) in
      false≢true (sym o.2 ∙ behind)

  pub rune_none : class_of text ≡ rune_class → Absent IsRune text → NoPiece a text
  rune_none class none =
      class_none {P = Plain IsRune} {wrap = λ i w. token kinds.Rune w} rune_class same_bytes
      (λ q s y h. let o = only_rune y h in record { index = tt; word = o.0; is = o.1; piece = o.2 }) text class (λ i. none)

  pub quoted_none : class_of text ≡ quoted_class → Absent IsQuoted text → NoPiece a text
  quoted_none class none =
      class_none {P = Plain IsQuoted} {wrap = λ i w. token kinds.Text w} quoted_class same_bytes
      (λ q s y h. let o = only_quoted y h in record { index = tt; word = o.0; is = o.1; piece = o.2 }) text class (λ i. none)

  pub raw_none : class_of text ≡ raw_class → Absent IsRaw text → NoPiece a text
  raw_none class none =
      class_none {P = Plain IsRaw} {wrap = λ i w. token kinds.Text w} raw_class same_bytes
      (λ q s y h. let o = only_raw y h in record { index = tt; word = o.0; is = o.1; piece = o.2 }) text class (λ i. none)

  pub directive_none : class_of text ≡ directive_class → Absent IsDirective text → NoPiece a text
  directive_none class none =
      class_none {P = Plain IsDirective} {wrap = λ i w. token kinds.Directive w} directive_class same_bytes
      (λ q s y h. let o = only_directive y h in record { index = tt; word = o.0; is = o.1; piece = o.2 }) text class (λ i. none)

  -- a newline
  pub newline_found : (t : List ℕ) → class_of text ≡ newline_class → text ≡ 10 ∷ t → IsPieceFront a text (newline (take 1 text)) 1
  newline_found t class e =
      let front : take 1 text ≡ 10 ∷ [] = ap (take 1) e in record {
        within = omega (arith, ap length e);
        some = lit< tt;
        bytes = refl;
        longest = record {
          piece = line_end (ap newline front);
          longest = λ q s y f.
              let whole : bytes_of q ++ s ≡ text = f ∙ take-append-drop 1 text in
              let o = only_newline y (sym (classified y) ∙ ap class_of whole ∙ class) in
              omega (arith, ap length (ap bytes_of o), ap length front);
        };
      }

  pub newline_none : (t : List ℕ) (b : ℕ) → class_of text ≡ newline_class → text ≡ b ∷ t → (b ≡ 10 → ⊥) → NoPiece a text
  newline_none t b class e other q s y f =
      let o = only_newline y (sym (classified y) ∙ ap class_of f ∙ class) in
      let spelled : 10 ∷ s ≡ b ∷ t = ap (λ x. x ++ s) (sym (ap bytes_of o)) ∙ f ∙ e in
      let heads : 10 ≡ b = cc in
      other (sym heads)

head_and_rest : (text : List ℕ) → 0 < length text → text ≡ get_or text 0 0 ∷ drop 1 text
head_and_rest [] l = absurd (omega arith)
head_and_rest (b ∷ t) l = refl

pub newline_at : (a : Bool) (text : List ℕ) → 0 < length text → class_of text ≡ newline_class → get_or text 0 0 ≡ 10 → IsPieceFront a text (newline (take 1 text)) 1
newline_at a text some class e = newline_found a text (drop 1 text) class (head_and_rest text some ∙ ap (λ b. b ∷ drop 1 text) e)

pub newline_not : (a : Bool) (text : List ℕ) → 0 < length text → class_of text ≡ newline_class → (get_or text 0 0 ≡ 10 → ⊥) → NoPiece a text
newline_not a text some class other = newline_none a text (drop 1 text) (get_or text 0 0) class (head_and_rest text some) other
