-- A text is cut into pieces one way at most.
use Rattle.std.proofs.Common.{◌≡◌, ◌≢◌, ℕ, ◌<◌, Bool, false, List, [], ◌∷◌, ◌++◌, length, refl, sym, ◌∙◌, ap, subst, arith, append_assoc, append-nil, length-append}
use Rattle.odc_text.specs.declared.place.FileId.{FileId}
use Rattle.odc_text.specs.declared.place.Place.{Place}
use Rattle.odc_syntax.specs.declared.token.Token.{Token}
use Rattle.odc_syntax.specs.declared.token.TokenKind.TheVariants.{Rune, Text, Directive}
use Rattle.odc_syntax.specs.lexical.Names.{word_kind}
use Rattle.odc_syntax.specs.lexical.Numbers.{IsNumber}
use Rattle.odc_syntax.specs.lexical.Signs.{IsSign}
use Rattle.odc_syntax.specs.lexical.Pieces.{Piece, blank, token, bytes_of, is_number, IsPiece, white, line_end, line_comment, block_comment, word, number, rune, quoted, raw, directive, sign, comment, IsLongest, NoPiece, spelled, IsCut, ends_in_number}
use Rattle.odc_syntax.specs.lexical.Lexes.{Lexes, IsStuck, tokens_of, start, mark_len, behind}
use Rattle.odc_syntax.specs.lexical.Classes.{class_of}
use Rattle.odc_syntax.specs.lexical.Longest.{Heads}
use Rattle.odc_syntax.proofs.Longest.{same_length, cancel_along}
use Rattle.odc_syntax.proofs.NumberLemmas.{number_kind_is_one}
use Rattle.odc_syntax.proofs.SignLemmas.{sign_is_one}
use Rattle.odc_syntax.proofs.ClassLemmas.{shape, classified, bytes_of_comment, only_white, only_newline, only_line_comment, only_block_comment, only_word, only_number, only_rune, only_quoted, only_raw, only_directive, only_sign, heads_of_white, heads_of_word, heads_of_number, sign_some}

-- two pieces of one form with the same bytes are the same
same_piece : {a : Bool} {p q : Piece} {r s : List ℕ} (x : IsPiece a p r) (y : IsPiece a q s) → shape x ≡ shape y → bytes_of p ≡ bytes_of q → p ≡ q
same_piece (white w is e) y h same = let o = only_white y (sym h) in e ∙ ap blank (ap bytes_of (sym e) ∙ same ∙ ap bytes_of o.2) ∙ sym o.2
same_piece (line_end e) y h same = e ∙ sym (only_newline y (sym h))
same_piece (line_comment w is e) y h same = let o = only_line_comment y (sym h) in e ∙ ap blank (ap bytes_of (sym e) ∙ same ∙ ap bytes_of o.2) ∙ sym o.2
same_piece (block_comment w is e) y h same =
    let o = only_block_comment y (sym h) in
    e ∙ ap comment (sym (bytes_of_comment w) ∙ ap bytes_of (sym e) ∙ same ∙ ap bytes_of o.2 ∙ bytes_of_comment o.0) ∙ sym o.2
same_piece (word w is f e) y h same = let o = only_word y (sym h) in e ∙ ap (λ w. token (word_kind w) w) (ap bytes_of (sym e) ∙ same ∙ ap bytes_of o.3) ∙ sym o.3
same_piece (number k w is e) y h same =
    let o = only_number y (sym h) in
    let bytes : w ≡ o.1 = ap bytes_of (sym e) ∙ same ∙ ap bytes_of o.3 in
    let kinds : k ≡ o.0 = number_kind_is_one k o.0 w is (subst (IsNumber o.0) (sym bytes) o.2) in
    e ∙ (λ i. token (kinds i) (bytes i)) ∙ sym o.3
same_piece (rune w is e) y h same = let o = only_rune y (sym h) in e ∙ ap (λ w. token Rune w) (ap bytes_of (sym e) ∙ same ∙ ap bytes_of o.2) ∙ sym o.2
same_piece (quoted w is e) y h same = let o = only_quoted y (sym h) in e ∙ ap (λ w. token Text w) (ap bytes_of (sym e) ∙ same ∙ ap bytes_of o.2) ∙ sym o.2
same_piece (raw w is e) y h same = let o = only_raw y (sym h) in e ∙ ap (λ w. token Text w) (ap bytes_of (sym e) ∙ same ∙ ap bytes_of o.2) ∙ sym o.2
same_piece (directive w is e) y h same = let o = only_directive y (sym h) in e ∙ ap (λ w. token Directive w) (ap bytes_of (sym e) ∙ same ∙ ap bytes_of o.2) ∙ sym o.2
same_piece (sign k w is alone e) y h same =
    let o = only_sign y (sym h) in
    let bytes : w ≡ o.1 = ap bytes_of (sym e) ∙ same ∙ ap bytes_of o.4 in
    let kinds : k ≡ o.0 = sign_is_one k o.0 w is (subst (IsSign o.0) (sym bytes) o.2) in
    e ∙ (λ i. token (kinds i) (bytes i)) ∙ sym o.4

-- the longest piece at a place is determined
pub one_longest : {a : Bool} (p q : Piece) (r s : List ℕ) → IsLongest a p r → IsLongest a q s → bytes_of p ++ r ≡ bytes_of q ++ s → (p ≡ q) × (r ≡ s)
one_longest {a} p q r s x y e =
    let le = x.longest q s y.piece (sym e) in
    let ge = y.longest p r x.piece e in
    let bytes : bytes_of p ≡ bytes_of q = same_length (bytes_of p) (bytes_of q) r s e (omega arith) in
    let shapes : shape x.piece ≡ shape y.piece = sym (classified x.piece) ∙ ap class_of e ∙ classified y.piece in
    (same_piece x.piece y.piece shapes bytes, cancel_along (bytes_of p) (bytes_of q) r s bytes e)

some_head : {f : ℕ → Bool} (p : Piece) (w : List ℕ) → bytes_of p ≡ w → Heads f w → 0 < length (bytes_of p)
some_head p w e first = omega (arith, ap length e, ap length first.bytes)

some_bytes : (p : Piece) (w : List ℕ) (b : ℕ) (t : List ℕ) → bytes_of p ≡ w → w ≡ b ∷ t → 0 < length (bytes_of p)
some_bytes p w b t e f = omega (arith, ap length e, ap length f)

-- no piece is empty
pub piece_some : {a : Bool} {p : Piece} {r : List ℕ} → IsPiece a p r → 0 < length (bytes_of p)
piece_some {p = p} (white w is e) = some_head p w (ap bytes_of e) (heads_of_white w is)
piece_some {p = p} (line_end e) = some_bytes p (10 ∷ []) 10 [] (ap bytes_of e) refl
piece_some {p = p} (line_comment w is e) = some_bytes p w _ _ (ap bytes_of e) is.bytes
piece_some {p = p} (block_comment w is e) = some_bytes p w _ _ (ap bytes_of e ∙ bytes_of_comment w) is.bytes
piece_some {p = p} (word w is f e) = some_head p w (ap bytes_of e) (heads_of_word w is)
piece_some {p = p} (number k w is e) = some_head p w (ap bytes_of e) (heads_of_number k w is)
piece_some {p = p} (rune w is e) = some_bytes p w _ _ (ap bytes_of e) is.bytes
piece_some {p = p} (quoted w is e) = some_bytes p w _ _ (ap bytes_of e) is.bytes
piece_some {p = p} (raw w is e) = some_bytes p w _ _ (ap bytes_of e) is.bytes
piece_some {p = p} (directive w is e) = some_bytes p w _ _ (ap bytes_of e) is.bytes
piece_some {p = p} (sign k w is alone e) = omega (arith, ap length (ap bytes_of e), sign_some k w is)

-- ---- whole texts

regroup : (p : Piece) (ps : List Piece) (r : List ℕ) → spelled (p ∷ ps) ++ r ≡ bytes_of p ++ (spelled ps ++ r)
regroup p ps r = append_assoc (bytes_of p) (spelled ps) r

pub cut_same : (a : Bool) (ps qs : List Piece) → IsCut a ps [] → IsCut a qs [] → spelled ps ++ [] ≡ spelled qs ++ [] → ps ≡ qs
cut_same a [] [] x y e = refl
cut_same a [] (q ∷ qs) x y e = absurd (omega (arith, piece_some y.0.piece, ap length (e ∙ regroup q qs []), length-append (bytes_of q) (spelled qs ++ [])))
cut_same a (p ∷ ps) [] x y e = absurd (omega (arith, piece_some x.0.piece, ap length (sym e ∙ regroup p ps []), length-append (bytes_of p) (spelled ps ++ [])))
cut_same a (p ∷ ps) (q ∷ qs) x y e =
    let one = one_longest p q (spelled ps ++ []) (spelled qs ++ []) x.0 y.0 (sym (regroup p ps []) ∙ e ∙ regroup q qs []) in
    let rest : ps ≡ qs = cut_same (is_number p) ps qs x.1 (subst (λ z. IsCut (is_number z) qs []) (sym one.0) y.1) one.1 in
    λ i. one.0 i ∷ rest i

-- a text that no piece goes on with isn't cut whole
pub cut_stuck : (a : Bool) (ps qs : List Piece) (rest : List ℕ) → IsCut a ps rest → rest ≢ [] → NoPiece (ends_in_number a ps) rest → IsCut a qs [] → spelled ps ++ rest ≡ spelled qs ++ [] → ⊥
cut_stuck a [] [] rest x some none y e = some e
cut_stuck a [] (q ∷ qs) rest x some none y e = none q (spelled qs ++ []) y.0.piece (sym (e ∙ regroup q qs []))
cut_stuck a (p ∷ ps) [] rest x some none y e = omega (arith, piece_some x.0.piece, ap length (sym e ∙ regroup p ps rest), length-append (bytes_of p) (spelled ps ++ rest))
cut_stuck a (p ∷ ps) (q ∷ qs) rest x some none y e =
    let one = one_longest p q (spelled ps ++ rest) (spelled qs ++ []) x.0 y.0 (sym (regroup p ps rest) ∙ e ∙ regroup q qs []) in
    cut_stuck (is_number p) ps qs rest x.1 some none (subst (λ z. IsCut (is_number z) qs []) (sym one.0) y.1) one.1

-- nor does it stop at two places
pub stuck_same : (a : Bool) (ps qs : List Piece) (rest left : List ℕ) → IsCut a ps rest → IsCut a qs left → NoPiece (ends_in_number a ps) rest → NoPiece (ends_in_number a qs) left → spelled ps ++ rest ≡ spelled qs ++ left → ps ≡ qs
stuck_same a [] [] rest left x y none nothing e = refl
stuck_same a [] (q ∷ qs) rest left x y none nothing e = absurd (none q (spelled qs ++ left) y.0.piece (sym (e ∙ regroup q qs left)))
stuck_same a (p ∷ ps) [] rest left x y none nothing e = absurd (nothing p (spelled ps ++ rest) x.0.piece (sym (sym e ∙ regroup p ps rest)))
stuck_same a (p ∷ ps) (q ∷ qs) rest left x y none nothing e =
    let one = one_longest p q (spelled ps ++ rest) (spelled qs ++ left) x.0 y.0 (sym (regroup p ps rest) ∙ e ∙ regroup q qs left) in
    let more : ps ≡ qs =
    stuck_same (is_number p) ps qs rest left x.1 (subst (λ z. IsCut (is_number z) qs left) (sym one.0) y.1) none (subst (λ z. NoPiece (ends_in_number (is_number z) qs) left) (sym one.0) nothing) one.1 in
    λ i. one.0 i ∷ more i

pub lexes_same : (file : FileId) (text : List ℕ) (ts us : List Token) (d e : Place) → Lexes file text ts d → Lexes file text us e → (ts ≡ us) × (d ≡ e)
lexes_same file text ts us d e x y =
    let pieces : x.pieces ≡ y.pieces = cut_same false x.pieces y.pieces x.cut y.cut (append-nil (spelled x.pieces) ∙ sym x.whole ∙ y.whole ∙ sym (append-nil (spelled y.pieces))) in
    (x.tokens_are ∙ ap (tokens_of [] (start file text) (mark_len text)) pieces ∙ sym y.tokens_are, x.end_is ∙ sym y.end_is)

pub stuck_lost : (file : FileId) (text : List ℕ) (at : Place) (ts : List Token) (end : Place) → IsStuck file text at → Lexes file text ts end → ⊥
stuck_lost file text at ts end x y = cut_stuck false x.pieces y.pieces x.rest x.cut x.goes_on x.none y.cut (sym x.whole ∙ y.whole ∙ sym (append-nil (spelled y.pieces)))

pub stuck_one : (file : FileId) (text : List ℕ) (a b : Place) → IsStuck file text a → IsStuck file text b → a ≡ b
stuck_one file text a b x y =
    let pieces : x.pieces ≡ y.pieces = stuck_same false x.pieces y.pieces x.rest y.rest x.cut y.cut x.none y.none (sym x.whole ∙ y.whole) in
    x.place ∙ ap (λ ps. behind (start file text) (spelled ps)) pieces ∙ sym y.place
