-- Comments.
use Rattle.std.proofs.Common.{◌≡◌, ℕ, zero, suc, ◌+◌, ◌-◌, ◌<◌, ◌≤◌, List, [], ◌∷◌, ◌++◌, length, take, drop, refl, sym, ◌∙◌, ap, subst, ⊎_elim, arith, lit<, append-nil, append_assoc, take-append-drop, length-take, length-drop, length-append}
use Rattle.std.proofs.lemmas.List.{take_rest}
use Rattle.odc_syntax.specs.lexical.Words.{IsCharacter}
use Rattle.odc_syntax.specs.lexical.Longest.{Begins, Absent, IsOnlyFront, IsWholeRun}
use Rattle.odc_syntax.specs.lexical.Comments.{Closes, nothing, close, open', other, BeginsWith, IsLineComment, EndsLine, is_any, is_no_newline}
use Rattle.odc_syntax.proofs.Longest.{run_best, cancel, take_join}
use Rattle.odc_syntax.proofs.Fronts.{drop_join}
use Rattle.odc_syntax.proofs.Units.{characters_are_units, ascii_character}
use Rattle.std.proofs.lemmas.Bool.{false≢true}
use Rattle.odc_lex.specs.declared.comment.Step.{Step}
use Rattle.odc_lex.specs.declared.character.Character.{Character}
use Rattle.odc_lex.specs.Character.{IsFirstCharacter}
use Rattle.odc_lex.specs.Comment.{CanClose, IsStep}

-- the first at bytes were read, and leave so many comments open
pub record Reached (text : List ℕ) (depth at : ℕ) : Type 0 where
  pub within : at ≤ length text
  pub few : depth ≤ at + 1
  pub forth : (w s : List ℕ) → Closes depth w → w ++ s ≡ drop at text → Closes 1 (take at text ++ w)
  pub back : (v s : List ℕ) → Closes 1 v → v ++ s ≡ text → (w : List ℕ) × Closes depth w × (v ≡ take at text ++ w)

pub reached_start : (text : List ℕ) → Reached text 1 0
reached_start text = record { within = omega arith; few = omega arith; forth = λ w s is e. is; back = λ v s is e. (v, is, refl) }

-- what is left of a word behind its front
tail_of : (text v w s : List ℕ) (at : ℕ) → v ++ s ≡ text → v ≡ take at text ++ w → w ++ s ≡ drop at text
tail_of text v w s at e f = cancel (take at text) (w ++ s) (drop at text) (sym (append_assoc (take at text) w s) ∙ ap (λ x. x ++ s) (sym f) ∙ e ∙ sym (take-append-drop at text))

pub reached_step : (text : List ℕ) (depth at : ℕ) (step : Step) → Reached text depth at → IsStep depth (take (length text - at) (drop at text)) step → Reached text step.depth (at + step.len)
reached_step text depth at step reached is =
    let taken : take step.len (take (length text - at) (drop at text)) ≡ take step.len (drop at text) = ap (take step.len) (take_rest text at) in
    let joined : take at text ++ take step.len (drop at text) ≡ take (at + step.len) text = take_join text at step.len in
    let len : length (take (length text - at) (drop at text)) ≡ length text - at = ap length (take_rest text at) ∙ length-drop at text in record {
      within = omega (arith, reached.within, is.within, len);
      few = omega (arith, reached.few, is.few);
      forth = λ w s closes e.
          let next : w ++ s ≡ drop step.len (take (length text - at) (drop at text)) =
          e ∙ sym (drop_join text at step.len) ∙ ap (drop step.len) (sym (take_rest text at)) in
          let whole : (take step.len (take (length text - at) (drop at text)) ++ w) ++ s ≡ drop at text =
          append_assoc (take step.len (take (length text - at) (drop at text))) w s ∙ ap (λ x. take step.len (take (length text - at) (drop at text)) ++ x) next
          ∙ take-append-drop step.len (take (length text - at) (drop at text)) ∙ take_rest text at in
          let more = reached.forth (take step.len (take (length text - at) (drop at text)) ++ w) s (is.forth w s closes next) whole in
          let regrouped : take at text ++ (take step.len (take (length text - at) (drop at text)) ++ w) ≡ take (at + step.len) text ++ w =
          ap (λ x. take at text ++ (x ++ w)) taken ∙ sym (append_assoc (take at text) (take step.len (drop at text)) w) ∙ ap (λ x. x ++ w) joined in
          subst (Closes 1) regrouped more;
      back = λ v s closes e.
          let first = reached.back v s closes e in
          let next = is.back first.0 s first.1 (tail_of text v first.0 s at e first.2 ∙ sym (take_rest text at)) in (
            next.0,
            next.1,
            first.2 ∙ ap (λ x. take at text ++ x) (next.2 ∙ ap (λ x. x ++ next.0) taken) ∙ sym (append_assoc (take at text) (take step.len (drop at text)) next.0) ∙ ap (λ x. x ++ next.0) joined,
          );
    }

closes_nothing : (n : ℕ) (w : List ℕ) → Closes n w → n ≡ 0 → w ≡ []
closes_nothing _ _ nothing e = refl
closes_nothing _ w (close {n} v is f) e = absurd (omega arith)
closes_nothing _ w (open' {n} v is f) e = absurd (omega arith)
closes_nothing _ w (other {n} u v c a b is f) e = absurd (omega arith)

-- all comments are closed
pub reached_end : (text : List ℕ) (n at : ℕ) → n ≡ 0 → Reached text n at → IsOnlyFront (λ w rest. Closes 1 w) text at
reached_end text n at e reached = record {
  within = reached.within;
  is = subst (Closes 1) (append-nil (take at text)) (reached.forth [] (drop at text) (subst (λ k. Closes k []) (sym e) nothing) refl);
  only = λ v s is same.
      let rest = reached.back v s is same in
      rest.2 ∙ ap (λ x. take at text ++ x) (closes_nothing n rest.0 rest.1 e) ∙ append-nil (take at text);
}

pub reached_lost : (text : List ℕ) (n at : ℕ) → Reached text n at → (CanClose n (take (length text - at) (drop at text)) → ⊥) → (v s : List ℕ) → Closes 1 v → v ++ s ≡ text → ⊥
reached_lost text n at reached lost v s is e =
    let rest = reached.back v s is e in
    lost (rest.0, s, rest.1, tail_of text v rest.0 s at e rest.2 ∙ sym (take_rest text at))

-- a word of two bytes or more begins with the first two of its text
two_of : (v s t : List ℕ) (a b : ℕ) → 2 ≤ length v → v ++ s ≡ a ∷ b ∷ t → BeginsWith a b v
two_of [] s t a b l e = absurd (omega arith)
two_of (x ∷ []) s t a b l e = absurd (omega arith)
two_of (x ∷ y ∷ v) s t a b l e =
    let first : x ≡ a = cc in
    let second : y ≡ b = cc in
    (v, λ i. first i ∷ second i ∷ v)

closes_some : (n : ℕ) (w : List ℕ) → Closes n w → 0 < n → 0 < length w
closes_some _ _ nothing some = absurd (omega arith)
closes_some _ w (close v is f) some = omega (arith, ap length f)
closes_some _ w (open' v is f) some = omega (arith, ap length f)
closes_some _ w (other {n} u v c a b is f) some = omega (arith, ap length f, length-append u v, (characters_are_units {p = is_any}).nonempty u c)

other_some : (n : ℕ) (u v w : List ℕ) → IsCharacter is_any u → Closes (suc n) v → w ≡ u ++ v → 2 ≤ length w
other_some n u v w c is f = omega (arith, ap length f, length-append u v, (characters_are_units {p = is_any}).nonempty u c, closes_some (suc n) v is (omega arith))

heads : (a b : ℕ) (x y : List ℕ) → a ∷ x ≡ b ∷ y → a ≡ b
heads a b x y e = cc

close_back : (depth : ℕ) (v s t : List ℕ) → Closes depth v → 0 < depth → v ++ s ≡ 42 ∷ 47 ∷ t → (w : List ℕ) × Closes (depth - 1) w × (v ≡ 42 ∷ 47 ∷ w)
close_back _ _ s t nothing some e = absurd (omega arith)
close_back _ v s t (close {n} w is f) some e = let same : n ≡ suc n - 1 = omega arith in (w, subst (λ k. Closes k w) same is, f)
close_back _ v s t (open' {n} w is f) some e = absurd (omega (arith, heads 47 42 (42 ∷ (w ++ s)) (47 ∷ t) (ap (λ x. x ++ s) (sym f) ∙ e)))
close_back _ v s t (other {n} u w c a b is f) some e = absurd (a (two_of v s t 42 47 (other_some n u w v c is f) e))

open_back : (depth : ℕ) (v s t : List ℕ) → Closes depth v → 0 < depth → v ++ s ≡ 47 ∷ 42 ∷ t → (w : List ℕ) × Closes (depth + 1) w × (v ≡ 47 ∷ 42 ∷ w)
open_back _ _ s t nothing some e = absurd (omega arith)
open_back _ v s t (close {n} w is f) some e = absurd (omega (arith, heads 42 47 (47 ∷ (w ++ s)) (42 ∷ t) (ap (λ x. x ++ s) (sym f) ∙ e)))
open_back _ v s t (open' {n} w is f) some e = let same : suc (suc n) ≡ suc n + 1 = omega arith in (w, subst (λ k. Closes k w) same is, f)
open_back _ v s t (other {n} u w c a b is f) some e = absurd (b (two_of v s t 47 42 (other_some n u w v c is f) e))

-- what begins with no mark goes on with a character
pub record Behind (depth : ℕ) (v s text : List ℕ) : Type 0 where
  pub character : List ℕ
  pub rest : List ℕ
  pub is : IsCharacter is_any character
  pub closes : Closes depth rest
  pub bytes : v ≡ character ++ rest

other_back : (depth : ℕ) (v s text : List ℕ) → Closes depth v → 0 < depth → v ++ s ≡ text → ((t : List ℕ) → text ≡ 42 ∷ 47 ∷ t → ⊥) → ((t : List ℕ) → text ≡ 47 ∷ 42 ∷ t → ⊥) → Behind depth v s text
other_back _ _ s text nothing some e no_close no_open = absurd (omega arith)
other_back _ v s text (close {n} w is f) some e no_close no_open = absurd (no_close (w ++ s) (sym e ∙ ap (λ x. x ++ s) f))
other_back _ v s text (open' {n} w is f) some e no_close no_open = absurd (no_open (w ++ s) (sym e ∙ ap (λ x. x ++ s) f))
other_back _ v s text (other {n} u w c a b is f) some e no_close no_open = record { character = u; rest = w; is = c; closes = is; bytes = f }

other_from : (depth : ℕ) (u w : List ℕ) → 0 < depth → IsCharacter is_any u → ¬ (BeginsWith 42 47 (u ++ w)) → ¬ (BeginsWith 47 42 (u ++ w)) → Closes depth w → Closes depth (u ++ w)
other_from zero u w some c a b is = absurd (omega arith)
other_from (suc n) u w some c a b is = other u w c a b is refl

close_from : (depth : ℕ) (w : List ℕ) → 0 < depth → Closes (depth - 1) w → Closes depth (42 ∷ 47 ∷ w)
close_from zero w some is = absurd (omega arith)
close_from (suc n) w some is = let same : suc n - 1 ≡ n = omega arith in close w (subst (λ k. Closes k w) same is) refl

open_from : (depth : ℕ) (w : List ℕ) → 0 < depth → Closes (depth + 1) w → Closes depth (47 ∷ 42 ∷ w)
open_from zero w some is = absurd (omega arith)
open_from (suc n) w some is = let same : suc n + 1 ≡ suc (suc n) = omega arith in open' w (subst (λ k. Closes k w) same is) refl

module _ (text : List ℕ) (depth : ℕ) (some : 0 < depth) where
  -- a mark that closes one comment
  pub close_step : text ≡ 42 ∷ 47 ∷ drop 2 text → IsStep depth text (record { depth = depth - 1; len = 2 })
  close_step e =
      let front : take 2 text ≡ 42 ∷ 47 ∷ [] = ap (take 2) e in record {
        within = omega (arith, ap length e);
        moves = lit< tt;
        few = omega arith;
        forth = λ w s closes f. subst (λ x. Closes depth (x ++ w)) (sym front) (close_from depth w some closes);
        back = λ v s closes f. let r = close_back depth v s (drop 2 text) closes some (f ∙ e) in (r.0, r.1, r.2 ∙ ap (λ x. x ++ r.0) (sym front));
      }

  -- a mark that opens one more
  pub open_step : text ≡ 47 ∷ 42 ∷ drop 2 text → IsStep depth text (record { depth = depth + 1; len = 2 })
  open_step e =
      let front : take 2 text ≡ 47 ∷ 42 ∷ [] = ap (take 2) e in record {
        within = omega (arith, ap length e);
        moves = lit< tt;
        few = omega arith;
        forth = λ w s closes f. subst (λ x. Closes depth (x ++ w)) (sym front) (open_from depth w some closes);
        back = λ v s closes f. let r = open_back depth v s (drop 2 text) closes some (f ∙ e) in (r.0, r.1, r.2 ∙ ap (λ x. x ++ r.0) (sym front));
      }

  module _ (no_close : (t : List ℕ) → text ≡ 42 ∷ 47 ∷ t → ⊥) (no_open : (t : List ℕ) → text ≡ 47 ∷ 42 ∷ t → ⊥) where
    pub other_step : (c : Character) → IsFirstCharacter text c → IsStep depth text (record { depth = depth; len = c.len })
    other_step c first =
        let is : IsCharacter is_any (take c.len text) = record { code = c.code; scalar = first.scalar; passed = refl; bytes = first.bytes } in
        let whole = λ (w s : List ℕ) (f : w ++ s ≡ drop c.len text). append_assoc (take c.len text) w s ∙ ap (λ x. take c.len text ++ x) f ∙ take-append-drop c.len text in record {
          within = first.within;
          moves = omega (arith, length-take c.len text, (characters_are_units {p = is_any}).nonempty (take c.len text) is);
          few = omega arith;
          forth = λ w s closes f.
              other_from depth (take c.len text) w some is
              (λ h. no_close (h.0 ++ s) (sym (whole w s f) ∙ ap (λ x. x ++ s) h.1))
              (λ h. no_open (h.0 ++ s) (sym (whole w s f) ∙ ap (λ x. x ++ s) h.1))
              closes;
          back = λ v s closes f.
              let r = other_back depth v s text closes some f no_close no_open in
              let same : r.character ≡ take c.len text =
              (characters_are_units {p = is_any}).apart r.character (take c.len text) (r.rest ++ s) (drop c.len text) r.is is
              (sym (append_assoc r.character r.rest s) ∙ ap (λ x. x ++ s) (sym r.bytes) ∙ f ∙ sym (take-append-drop c.len text)) in
              (r.rest, r.closes, r.bytes ∙ ap (λ x. x ++ r.rest) same);
        }

    pub no_step : Absent (IsCharacter is_any) text → CanClose depth text → ⊥
    no_step absent can =
        let r = other_back depth can.0 can.1 text can.2 some can.3 no_close no_open in
        absent r.character (r.rest ++ can.1) r.is (sym (append_assoc r.character r.rest can.1) ∙ ap (λ x. x ++ can.1) (sym r.bytes) ∙ can.3)

-- a character of a line comment doesn't begin where a line ends
no_more : (s : List ℕ) → Begins (IsCharacter is_no_newline) s → EndsLine s → ⊥
no_more [] begins ends = omega (arith, ap length begins.bytes, length-append begins.word begins.rest, (characters_are_units {p = is_no_newline}).nonempty begins.word begins.is)
no_more (b ∷ s) begins ends =
    false≢true (ascii_character is_no_newline begins.word begins.rest s 10 (lit< tt) begins.is (sym begins.bytes ∙ ap (λ x. x ∷ s) ends)).0

-- a line comment
module _ (text : List ℕ) (e : text ≡ 47 ∷ 47 ∷ drop 2 text) (n : ℕ) (run : IsWholeRun (IsCharacter is_no_newline) (take (length text - 2) (drop 2 text)) n) where
  abbrev t : List ℕ
  t = take (length text - 2) (drop 2 text)

  same : text ≡ 47 ∷ 47 ∷ t
  same = e ∙ ap (λ x. 47 ∷ 47 ∷ x) (sym (take_rest text 2))

  two : take (n + 2) text ≡ 47 ∷ 47 ∷ take n t
  two = let k : n + 2 ≡ suc (suc n) = omega arith in ap (take (n + 2)) same ∙ ap (λ j. take j (47 ∷ 47 ∷ t)) k

  behind_two : drop (n + 2) text ≡ drop n t
  behind_two = let k : n + 2 ≡ suc (suc n) = omega arith in ap (drop (n + 2)) same ∙ ap (λ j. drop j (47 ∷ 47 ∷ t)) k

  -- a comment takes the whole run
  only_run : (v s : List ℕ) (is : IsLineComment v s) → v ++ s ≡ text → is.inside ≡ take n t
  only_run v s is f =
      let spelled : 47 ∷ 47 ∷ (is.inside ++ s) ≡ 47 ∷ 47 ∷ t = ap (λ x. x ++ s) (sym is.bytes) ∙ f ∙ same in
      let tails : is.inside ++ s ≡ t = cc in
      ⊎_elim (λ equal. equal) (λ shorter. absurd (no_more s shorter.1 is.ends))
      ((run_best (characters_are_units {p = is_no_newline}) run.run run.over).only is.inside s is.characters (tails ∙ sym (take-append-drop n t)))

  pub line_found : EndsLine (take (length t - n) (drop n t)) → IsOnlyFront IsLineComment text (n + 2)
  line_found ends = record {
    within = omega (arith, run.within, ap length same);
    is = record { inside = take n t; characters = run.run; ends = subst EndsLine (take_rest t n ∙ sym behind_two) ends; bytes = two };
    only = λ v s is f. is.bytes ∙ ap (λ x. 47 ∷ 47 ∷ x) (only_run v s is f) ∙ sym two;
  }

  pub line_lost : (EndsLine (take (length t - n) (drop n t)) → ⊥) → (v s : List ℕ) → IsLineComment v s → v ++ s ≡ text → ⊥
  line_lost goes_on v s is f =
      let whole = only_run v s is f in
      let rest : s ≡ drop n t =
      let spelled : 47 ∷ 47 ∷ (is.inside ++ s) ≡ 47 ∷ 47 ∷ t = ap (λ x. x ++ s) (sym is.bytes) ∙ f ∙ same in
      let tails : is.inside ++ s ≡ t = cc in
      cancel (take n t) s (drop n t) (ap (λ x. x ++ s) (sym whole) ∙ tails ∙ sym (take-append-drop n t)) in
      goes_on (subst EndsLine (rest ∙ sym (take_rest t n)) is.ends)
