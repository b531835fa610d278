-- How the lexer's state goes on, and what it stands for at the end.
use Rattle.std.proofs.Common.{◌≡◌, ℕ, ◌+◌, Bool, true, false, not, ◌&&◌, List, [], ◌∷◌, ◌++◌, length, refl, sym, ◌∙◌, ap, append_assoc, append-nil}
use Rattle.std.specs.Prelude.{if◌then◌else◌, option_to_list}
use Rattle.odc_text.specs.declared.place.Place.{Place}
use Rattle.odc_syntax.specs.declared.token.Token.{Token}
use Rattle.odc_syntax.specs.declared.token.TokenKind.{TokenKind}
use Rattle.odc_syntax.specs.lexical.Pieces.{Piece, token}
use Rattle.odc_syntax.specs.lexical.Wording.{word_of}
use Rattle.odc_syntax.specs.lexical.Lexes.{behind, ends_statement, joins_lines, innermost, at_newline, else_follows, is_else, tokens_of, open_behind, semicolon_behind}
use Rattle.odc_lex.specs.declared.state.State.{State}
use Rattle.odc_lex.specs.declared.state.Ending.{Ending}
use Rattle.odc_lex.specs.declared.state.Ending.TheVariants.{Never, AtNewline, Ended}
use Rattle.odc_lex.specs.State.{owed, total, before_token, before_end, ending_behind}

nothing_either_way : (b : Bool) (none : List Token) → (if b then none else none) ≡ none
nothing_either_way true none = refl
nothing_either_way false none = refl

owed_at_token : (e : Ending) (at : Place) (from : ℕ) (k : TokenKind) (w : List ℕ) (ps : List Piece) → owed e at from (token k w ∷ ps) ≡ before_token e k
owed_at_token Never at from k w ps = refl
owed_at_token AtNewline at from k w ps = nothing_either_way (not (is_else k)) []
owed_at_token (Ended semicolon) at from k w ps = refl

owed_by : (ends joins else_next : Bool) (at : Place) (from : ℕ) (ps : List Piece) → else_follows ps ≡ else_next → owed (if ends && not joins then AtNewline else Never) at from ps ≡ (if ends && (not joins && not (else_follows ps)) then option_to_list (at_newline at from ps) else [])
owed_by false joins n at from ps e = refl
owed_by true true n at from ps e = refl
owed_by true false n at from ps e = refl

owed_behind : (k : TokenKind) (open' : List TokenKind) (at : Place) (from : ℕ) (ps : List Piece) → owed (ending_behind k open') at from ps ≡ semicolon_behind k open' at from ps
owed_behind k open' at from ps = owed_by (ends_statement k) (joins_lines (innermost open')) (else_follows ps) at from ps refl

pub token_total : (old new : State) (k : TokenKind) (w : List ℕ) →
    new.tokens.items ≡ (old.tokens.items ++ before_token old.ending k) ++ record { kind = k; word = word_of k w; at = old.at; from = old.from; to = old.from + length w } ∷ [] →
    new.«open».items ≡ open_behind old.«open».items k →
    new.ending ≡ ending_behind k new.«open».items →
    new.at ≡ behind old.at w →
    new.from ≡ old.from + length w →
    (ps : List Piece) → total new ps ≡ total old (token k w ∷ ps)
token_total old new k w items opened ending at from ps =
    let t : Token = record { kind = k; word = word_of k w; at = old.at; from = old.from; to = old.from + length w } in
    let open' = open_behind old.«open».items k in
    let at' = behind old.at w in
    let from' = old.from + length w in
    let rest = semicolon_behind k open' at' from' ps ++ tokens_of open' at' from' ps in
    let owes : owed new.ending new.at new.from ps ≡ semicolon_behind k open' at' from' ps =
    ap (λ e. owed e new.at new.from ps) (ending ∙ ap (ending_behind k) opened) ∙ owed_behind k open' new.at new.from ps ∙ (λ i. semicolon_behind k open' (at i) (from i) ps) in
    let comes : tokens_of new.«open».items new.at new.from ps ≡ tokens_of open' at' from' ps = λ i. tokens_of (opened i) (at i) (from i) ps in
    let left : total new ps ≡ ((old.tokens.items ++ before_token old.ending k) ++ t ∷ []) ++ rest = λ i. items i ++ (owes i ++ comes i) in
    let right : total old (token k w ∷ ps) ≡ old.tokens.items ++ (before_token old.ending k ++ t ∷ rest) =
    ap (λ x. old.tokens.items ++ (x ++ t ∷ rest)) (owed_at_token old.ending old.at old.from k w ps) in
    left
    ∙ append_assoc (old.tokens.items ++ before_token old.ending k) (t ∷ []) rest
    ∙ append_assoc old.tokens.items (before_token old.ending k) (t ∷ rest)
    ∙ sym right

-- what is owed at the end
pub owed_at_end : (e : Ending) (at : Place) (from : ℕ) → owed e at from [] ≡ before_end e at from
owed_at_end Never at from = refl
owed_at_end AtNewline at from = refl
owed_at_end (Ended semicolon) at from = refl

pub total_at_end : (s : State) → total s [] ≡ s.tokens.items ++ before_end s.ending s.at s.from
total_at_end s = ap (λ x. s.tokens.items ++ x) (append-nil (owed s.ending s.at s.from []) ∙ owed_at_end s.ending s.at s.from)
