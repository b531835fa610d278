-- What the lexer's loop keeps: the pieces so far are cut from the front of the text, and their tokens
-- and those of the pieces to come are all tokens.
use Rattle.std.proofs.Common.{◌≡◌, ℕ, ◌+◌, ◌<◌, ◌≤◌, ◌-◌, ◌^◌, Bool, true, false, List, [], ◌∷◌, ◌++◌, length, take, drop, refl, sym, ◌∙◌, ap, subst, append_assoc, append-nil, take-append-drop, length-take, length-drop, arith}
use Rattle.std.proofs.lemmas.List.{take_rest, drop_all}
use Rattle.std.specs.Prelude.{if◌then◌else◌, ◌==◌, nat_eq}
use Rattle.std.specs.List.{starts_with}
use Rattle.std.proofs.lemmas.Slice.Eq.{bytes_eq-Decides}
use Rattle.odc_lex.specs.declared.state.Ending.TheVariants.{Never}
use Rattle.odc_text.specs.declared.place.FileId.{FileId}
use Rattle.odc_text.specs.declared.place.Place.{Place}
use Rattle.odc_text.specs.declared.code.Code.TheVariants.{X01}
use Rattle.odc_syntax.specs.declared.token.Token.{Token}
use Rattle.odc_syntax.specs.lexical.Pieces.{Piece, bytes_of, is_number, IsLongest, NoPiece, spelled, IsCut, ends_in_number}
use Rattle.odc_syntax.specs.lexical.Lexes.{past, behind, tokens_of, start, mark_len, body, Lexes, IsStuck}
use Rattle.odc_syntax.proofs.CutLemmas.{stuck_lost}
use Rattle.odc_syntax.proofs.Fronts.{drop_join}
use Rattle.odc_lex.specs.declared.state.State.{State}
use Rattle.odc_lex.specs.Piece.{IsPieceFront}
use Rattle.odc_lex.specs.State.{owed, total, Steps, HasRoom}
use Rattle.odc_lex.specs.Lex.{GetsStuck}

-- ---- places

past_line : (at : Place) (b : ℕ) → ((past at b).line ≤ at.line + 1) × ((past at b).column ≤ at.column + 1)
past_line at b = by (b == 10) where
  by : (t : Bool) → let p : Place = if t then record { file = at.file; line = at.line + 1; column = 1 } else record { file = at.file; line = at.line; column = at.column + 1 } in (p.line ≤ at.line + 1) × (p.column ≤ at.column + 1)
  by true = (omega arith, omega arith)
  by false = (omega arith, omega arith)

pub behind_bounds : (at : Place) (bs : List ℕ) → ((behind at bs).line ≤ at.line + length bs) × ((behind at bs).column ≤ at.column + length bs)
behind_bounds at [] = (omega arith, omega arith)
behind_bounds at (b ∷ bs) = let one = past_line at b in let more = behind_bounds (past at b) bs in (omega (arith, one.0, more.0), omega (arith, one.1, more.1))

pub behind-append : (at : Place) (bs cs : List ℕ) → behind at (bs ++ cs) ≡ behind (behind at bs) cs
behind-append at [] cs = refl
behind-append at (b ∷ bs) cs = behind-append (past at b) bs cs

-- ---- one more piece

spelled-push : (ps : List Piece) (p : Piece) (r : List ℕ) → spelled (ps ++ p ∷ []) ++ r ≡ spelled ps ++ (bytes_of p ++ r)
spelled-push [] p r = ap (λ x. x ++ r) (append-nil (bytes_of p))
spelled-push (q ∷ ps) p r =
    append_assoc (bytes_of q) (spelled (ps ++ p ∷ [])) r ∙ ap (λ x. bytes_of q ++ x) (spelled-push ps p r) ∙ sym (append_assoc (bytes_of q) (spelled ps) (bytes_of p ++ r))

spelled_whole : (ps : List Piece) (p : Piece) → spelled (ps ++ p ∷ []) ≡ spelled ps ++ bytes_of p
spelled_whole ps p = sym (append-nil (spelled (ps ++ p ∷ []))) ∙ spelled-push ps p [] ∙ ap (λ x. spelled ps ++ x) (append-nil (bytes_of p))

ends_push : (a : Bool) (ps : List Piece) (p : Piece) → ends_in_number a (ps ++ p ∷ []) ≡ is_number p
ends_push a [] p = refl
ends_push a (q ∷ ps) p = ends_push (is_number q) ps p

cut_push : (a : Bool) (ps : List Piece) (p : Piece) (r : List ℕ) → IsCut a ps (bytes_of p ++ r) → IsLongest (ends_in_number a ps) p r → IsCut a (ps ++ p ∷ []) r
cut_push a [] p r cut longest = (longest, tt)
cut_push a (q ∷ ps) p r cut longest = (subst (IsLongest a q) (sym (spelled-push ps p r)) cut.0, cut_push (is_number q) ps p r cut.1 longest)

-- ---- the loop

pub record StandsAt (file : FileId) (text : List ℕ) (s : State) : Type 0 where
  pub pieces : List Piece
  pub within : s.from ≤ length text
  pub cut : IsCut false pieces (drop s.from text)
  pub whole : body text ≡ spelled pieces ++ drop s.from text
  pub place : s.at ≡ behind (start file text) (spelled pieces)
  pub number : s.behind_number ≡ ends_in_number false pieces
  pub tokens : (ps : List Piece) → total s ps ≡ tokens_of [] (start file text) (mark_len text) (pieces ++ ps)
  pub line : s.at.line ≤ s.from + 1
  pub column : s.at.column ≤ s.from + 1

pub stands_next : (file : FileId) (text : List ℕ) (s t : State) (p : Piece) (n : ℕ) → StandsAt file text s → IsPieceFront s.behind_number (drop s.from text) p n → Steps s t p → StandsAt file text t
stands_next file text s t p n stands front step =
    let len : length (bytes_of p) ≡ n = ap length front.bytes ∙ omega (arith, length-take n (drop s.from text), front.within) in
    let from : t.from ≡ s.from + n = step.from ∙ ap (λ k. s.from + k) len in
    let rest : drop n (drop s.from text) ≡ drop t.from text = drop_join text s.from n ∙ ap (λ k. drop k text) (sym from) in
    let parts : drop s.from text ≡ bytes_of p ++ drop t.from text =
    sym (take-append-drop n (drop s.from text)) ∙ (λ i. sym front.bytes i ++ rest i) in
    let bounds = behind_bounds s.at (bytes_of p) in
    record {
      pieces = stands.pieces ++ p ∷ [];
      within = omega (arith, front.within, length-drop s.from text);
      cut = cut_push false stands.pieces p (drop t.from text) (subst (IsCut false stands.pieces) parts stands.cut) (subst (λ a. IsLongest a p (drop t.from text)) stands.number (subst (IsLongest s.behind_number p) rest front.longest));
      whole = stands.whole ∙ ap (λ x. spelled stands.pieces ++ x) parts ∙ sym (spelled-push stands.pieces p (drop t.from text));
      place = step.at ∙ ap (λ a. behind a (bytes_of p)) stands.place ∙ sym (behind-append (start file text) (spelled stands.pieces) (bytes_of p)) ∙ ap (behind (start file text)) (sym (spelled_whole stands.pieces p));
      number = step.number ∙ sym (ends_push false stands.pieces p);
      tokens = λ ps. step.tokens ps ∙ stands.tokens (p ∷ ps) ∙ ap (tokens_of [] (start file text) (mark_len text)) (sym (append_assoc stands.pieces (p ∷ []) ps));
      line = omega (arith, stands.line, bounds.0, ap (λ (a : Place). a.line) step.at, len);
      column = omega (arith, stands.column, bounds.1, ap (λ (a : Place). a.column) step.at, len);
    }

pub stands_end : (file : FileId) (text : List ℕ) (s : State) → StandsAt file text s → length text ≤ s.from → (ts : List Token) (end : Place) → ts ≡ total s [] → end ≡ s.at → Lexes file text ts end
stands_end file text s stands over ts end tokens ended =
    let empty : drop s.from text ≡ [] = drop_all s.from text over in
    let whole : body text ≡ spelled stands.pieces = stands.whole ∙ ap (λ x. spelled stands.pieces ++ x) empty ∙ append-nil (spelled stands.pieces) in record {
      pieces = stands.pieces;
      cut = subst (IsCut false stands.pieces) empty stands.cut;
      whole = whole;
      tokens_are = tokens ∙ stands.tokens [] ∙ ap (tokens_of [] (start file text) (mark_len text)) (append-nil stands.pieces);
      end_is = ended ∙ stands.place ∙ ap (behind (start file text)) (sym whole);
    }

pub stands_stuck : (file : FileId) (text : List ℕ) (s : State) → StandsAt file text s → s.from < length text → NoPiece s.behind_number (drop s.from text) → GetsStuck file text (record { code = X01; at = s.at })
stands_stuck file text s stands more none =
    let stuck : IsStuck file text s.at = record {
      pieces = stands.pieces;
      rest = drop s.from text;
      cut = stands.cut;
      whole = stands.whole;
      goes_on = λ e. omega (arith, ap length e, length-drop s.from text);
      none = subst (λ a. NoPiece a (drop s.from text)) stands.number none;
      place = stands.place;
    } in
    record { code = refl; place = stuck; none = λ ts end. stuck_lost file text s.at ts end stuck }

-- what is counted up to the end of a piece fits
pub stands_room : (file : FileId) (text : List ℕ) (s : State) (bytes : List ℕ) → StandsAt file text s → length text < 2 ^ 32 - 1 → length bytes ≤ length (drop s.from text) → HasRoom s bytes
stands_room file text s bytes stands small within = record {
  line = omega (arith, stands.line, stands.within, within, small, length-drop s.from text);
  column = omega (arith, stands.column, stands.within, within, small, length-drop s.from text);
  from = omega (arith, stands.within, within, small, length-drop s.from text);
}

-- ---- the start

starts_long : (text mark : List ℕ) → starts_with nat_eq text mark ≡ true → length mark ≤ length text
starts_long text mark e = let same = (bytes_eq-Decides mark (take (length mark) text)).0 e in omega (arith, ap length same, length-take (length mark) text)

mark_fits : (text : List ℕ) → mark_len text ≤ length text
mark_fits text = by (starts_with nat_eq text (239 ∷ 187 ∷ 191 ∷ [])) refl where
  by : (t : Bool) → starts_with nat_eq text (239 ∷ 187 ∷ 191 ∷ []) ≡ t → (if t then 3 else 0) ≤ length text
  by true e = starts_long text (239 ∷ 187 ∷ 191 ∷ []) e
  by false e = omega arith

pub stands_start : (file : FileId) (text : List ℕ) (s : State) → s.from ≡ mark_len text → s.at ≡ start file text → s.tokens.items ≡ [] → s.«open».items ≡ [] → s.ending ≡ Never → s.behind_number ≡ false → StandsAt file text s
stands_start file text s from at none closed never no_number =
    let whole : body text ≡ drop s.from text = ap (λ k. drop k text) (sym from) in record {
      pieces = [];
      within = omega (arith, mark_fits text, from);
      cut = tt;
      whole = whole;
      place = at;
      number = no_number;
      tokens = λ ps. λ i. none i ++ (owed (never i) (at i) (from i) ps ++ tokens_of (closed i) (at i) (from i) ps);
      line = omega (arith, ap (λ (a : Place). a.line) at);
      column = omega (arith, ap (λ (a : Place). a.column) at, from);
    }

-- ---- over slices

pub next_over_slices : (file : FileId) (text : List ℕ) (s t : State) (p : Piece) (n : ℕ) → StandsAt file text s → IsPieceFront s.behind_number (take (length text - s.from) (drop s.from text)) p n → Steps s t p → StandsAt file text t
next_over_slices file text s t p n stands front step = stands_next file text s t p n stands (subst (λ r. IsPieceFront s.behind_number r p n) (take_rest text s.from) front) step

pub stuck_over_slices : (file : FileId) (text : List ℕ) (s : State) → StandsAt file text s → s.from < length text → NoPiece s.behind_number (take (length text - s.from) (drop s.from text)) → GetsStuck file text (record { code = X01; at = s.at })
stuck_over_slices file text s stands more none = stands_stuck file text s stands more (subst (NoPiece s.behind_number) (take_rest text s.from) none)
