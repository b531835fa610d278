-- Words that are no command, by how many there are, and words that are one.
use Rattle.std.proofs.Common.{◌≡◌, ◌≢◌, Bool, true, false, not, eqb, ℕ, ◌<◌, ◌≤◌, List, [], ◌∷◌, length, get_or, map, refl, sym, ◌∙◌, ap, subst, arith, codes, string_bytes, lit<, lit≤}
use Rattle.std.specs.Prelude.{Option, Some, None}
use Rattle.std.specs.declared.string.String.{String}
use Rattle.std.specs.declared.alloc.Global.{Global}
use Rattle.std.specs.Cmp.Lexicographic.{pointwise}
use Rattle.std.specs.Str.Parse.{digits_value}
use Rattle.std.proofs.lemmas.Slice.Eq.{bytes_eq-Decides}
use Rattle.std.proofs.lemmas.Str.Parse.{tells_digits}
use Rattle.odc_tool.specs.Words.{Verb, running, executing, word_of, Command, start, build, words_of, Begins, BadWord, IsCommand, IsSteps, AreSteps, IsStart, steps_words}
use Rattle.odc_tool.specs.Reading.{Texts, IsFirst, spelled}

-- ---- one digit

zero_steps : IsSteps (codes "0")
zero_steps = record { all = tells_digits.more 48 [] (lit≤ tt, lit≤ tt) tells_digits.empty; some = lit< tt; short = lit≤ tt; fits = lit< tt }

-- ---- words that no command has

pub verb_no_build : (v : Verb) → word_of v ≢ codes "build"
verb_no_build running e = cc
verb_no_build executing e = cc

not_none : (command : Command) → words_of command ≢ []
not_none (start v what steps) e = cc
not_none (build dir file) e = cc

module _ (w : List ℕ) (no_run : w ≢ codes "run") (no_exec : w ≢ codes "exec") (no_build : w ≢ codes "build") where
  not_first : (ws : List (List ℕ)) (command : Command) → words_of command ≢ w ∷ ws
  not_first ws (start running what steps) e = let h : w ≡ codes "run" = cc in no_run h
  not_first ws (start executing what steps) e = let h : w ≡ codes "exec" = cc in no_exec h
  not_first ws (build dir file) e = let h : w ≡ codes "build" = cc in no_build h

  -- the first word begins no command
  bad_first : (ws : List (List ℕ)) → BadWord (w ∷ ws) 0
  bad_first ws = record {
    none = λ command is. not_first ws command;
    within = omega arith;
    before = (start running [] None, tt, codes "run" ∷ [] ∷ [], refl);
    bad = λ _. no_begin;
  }
    where
      no_begin : ¬ Begins (w ∷ [])
      no_begin (command, is, rest, e) = not_first rest command e

not_alone : (w : List ℕ) (command : Command) → words_of command ≢ w ∷ []
not_alone w (start v what steps) e = cc
not_alone w (build dir file) e = cc

not_third : (x : List ℕ) (ws : List (List ℕ)) → x ≢ codes "--steps" → (steps : Option (List ℕ)) → steps_words steps ≢ x ∷ ws
not_third x ws off None e = cc
not_third x ws off (Some n) e = let h : x ≡ codes "--steps" = cc in off h

not_missing : (x : List ℕ) (steps : Option (List ℕ)) → steps_words steps ≢ x ∷ []
not_missing x None e = cc
not_missing x (Some n) e = cc

steps_in : (x n : List ℕ) (ws : List (List ℕ)) (steps : Option (List ℕ)) → AreSteps steps → steps_words steps ≡ x ∷ n ∷ ws → IsSteps n
steps_in x n ws None are e = cc
steps_in x n ws (Some m) are e = let h : m ≡ n = cc in subst IsSteps h are

not_longer : (x n y : List ℕ) (ws : List (List ℕ)) (steps : Option (List ℕ)) → steps_words steps ≢ x ∷ n ∷ y ∷ ws
not_longer x n y ws None e = cc
not_longer x n y ws (Some m) e = cc

-- ---- by how many there are

-- no words: one is missing
pub bad_none : BadWord [] 0
bad_none = record {
  none = λ command is. not_none command;
  within = omega arith;
  before = (start running [] None, tt, codes "run" ∷ [] ∷ [], refl);
  bad = λ h. absurd (omega (arith, h));
}

module _ (v : Verb) (w : List ℕ) (e : w ≡ word_of v) where
  -- what is carried out is missing
  bad_second : BadWord (w ∷ []) 1
  bad_second = record {
    none = λ command is. not_alone w command;
    within = omega arith;
    before = (start v [] None, tt, [] ∷ [], ap (λ z. z ∷ [] ∷ []) (sym e));
    bad = λ h. absurd (omega (arith, h));
  }

  -- what follows it
  abbrev Follow : List (List ℕ) → Type 0
  Follow ws = (steps : Option (List ℕ)) × AreSteps steps × (steps_words steps ≡ ws)

  rest_of : (what : List ℕ) (ws : List (List ℕ)) (command : Command) → IsCommand command → words_of command ≡ w ∷ what ∷ ws → Follow ws
  rest_of what ws (start u d steps) is h = (let same : steps_words steps ≡ ws = cc in (steps, is, same))
  rest_of what ws (build dir file) is h = (let first : w ≡ codes "build" = cc in absurd (verb_no_build v (sym e ∙ first)))

  -- another third word
  bad_third : (what x : List ℕ) (ws : List (List ℕ)) → x ≢ codes "--steps" → BadWord (w ∷ what ∷ x ∷ ws) 2
  bad_third what x ws off = record {
    none = not_these ws;
    within = omega arith;
    before = (start v what None, tt, [], ap (λ z. z ∷ what ∷ []) (sym e));
    bad = λ _. no_begin;
  }
    where
      not_these : (vs : List (List ℕ)) (command : Command) → IsCommand command → words_of command ≢ w ∷ what ∷ x ∷ vs
      not_these vs command is h = let f = rest_of what (x ∷ vs) command is h in not_third x vs off f.0 f.2

      no_begin : ¬ Begins (w ∷ what ∷ x ∷ [])
      no_begin (command, is, rest, h) = not_these rest command is h

  -- the number of steps is missing
  bad_missing : (what x : List ℕ) → x ≡ codes "--steps" → BadWord (w ∷ what ∷ x ∷ []) 3
  bad_missing what x f = record {
    none = not_these;
    within = omega arith;
    before = (start v what (Some (codes "0")), zero_steps, codes "0" ∷ [], ap (λ z. z ∷ what ∷ codes "--steps" ∷ codes "0" ∷ []) (sym e) ∙ ap (λ z. w ∷ what ∷ z ∷ codes "0" ∷ []) (sym f));
    bad = λ h. absurd (omega (arith, h));
  }
    where
      not_these : (command : Command) → IsCommand command → words_of command ≢ w ∷ what ∷ x ∷ []
      not_these command is h = let g = rest_of what (x ∷ []) command is h in not_missing x g.0 g.2

  -- another word in its place
  bad_fourth : (what x n : List ℕ) (ws : List (List ℕ)) → x ≡ codes "--steps" → ¬ IsSteps n → BadWord (w ∷ what ∷ x ∷ n ∷ ws) 3
  bad_fourth what x n ws f off = record {
    none = not_these ws;
    within = omega arith;
    before = (start v what (Some (codes "0")), zero_steps, codes "0" ∷ [], ap (λ z. z ∷ what ∷ codes "--steps" ∷ codes "0" ∷ []) (sym e) ∙ ap (λ z. w ∷ what ∷ z ∷ codes "0" ∷ []) (sym f));
    bad = λ _. no_begin;
  }
    where
      not_these : (vs : List (List ℕ)) (command : Command) → IsCommand command → words_of command ≢ w ∷ what ∷ x ∷ n ∷ vs
      not_these vs command is h = let g = rest_of what (x ∷ n ∷ vs) command is h in off (steps_in x n vs g.0 g.1 g.2)

      no_begin : ¬ Begins (w ∷ what ∷ x ∷ n ∷ [])
      no_begin (command, is, rest, h) = not_these rest command is h

  -- a word too many
  bad_fifth : (what x n y : List ℕ) (ws : List (List ℕ)) → x ≡ codes "--steps" → IsSteps n → BadWord (w ∷ what ∷ x ∷ n ∷ y ∷ ws) 4
  bad_fifth what x n y ws f is = record {
    none = not_these ws;
    within = omega arith;
    before = (start v what (Some n), is, [], ap (λ z. z ∷ what ∷ codes "--steps" ∷ n ∷ []) (sym e) ∙ ap (λ z. w ∷ what ∷ z ∷ n ∷ []) (sym f));
    bad = λ _. no_begin;
  }
    where
      not_these : (vs : List (List ℕ)) (command : Command) → IsCommand command → words_of command ≢ w ∷ what ∷ x ∷ n ∷ y ∷ vs
      not_these vs command are h = let g = rest_of what (x ∷ n ∷ y ∷ vs) command are h in not_longer x n y vs g.0 g.2

      no_begin : ¬ Begins (w ∷ what ∷ x ∷ n ∷ y ∷ [])
      no_begin (command, are, rest, h) = not_these rest command are h

module _ (w : List ℕ) (e : w ≡ codes "build") where
  -- the folder is missing
  no_folder : BadWord (w ∷ []) 1
  no_folder = record {
    none = λ command is. not_alone w command;
    within = omega arith;
    before = (build [] [], tt, [] ∷ [] ∷ [], ap (λ z. z ∷ [] ∷ [] ∷ []) (sym e));
    bad = λ h. absurd (omega (arith, h));
  }

  -- the file is missing
  no_file : (dir : List ℕ) → BadWord (w ∷ dir ∷ []) 2
  no_file dir = record {
    none = not_these;
    within = omega arith;
    before = (build dir [], tt, [] ∷ [], ap (λ z. z ∷ dir ∷ [] ∷ []) (sym e));
    bad = λ h. absurd (omega (arith, h));
  }
    where
      not_these : (command : Command) → IsCommand command → words_of command ≢ w ∷ dir ∷ []
      not_these (start v what steps) is h = let first : word_of v ≡ w = cc in verb_no_build v (first ∙ e)
      not_these (build d f) is h = cc

  -- a word too many
  too_many : (dir file y : List ℕ) (ws : List (List ℕ)) → BadWord (w ∷ dir ∷ file ∷ y ∷ ws) 3
  too_many dir file y ws = record {
    none = not_these ws;
    within = omega arith;
    before = (build dir file, tt, [], ap (λ z. z ∷ dir ∷ file ∷ []) (sym e));
    bad = λ _. no_begin;
  }
    where
      not_these : (vs : List (List ℕ)) (command : Command) → IsCommand command → words_of command ≢ w ∷ dir ∷ file ∷ y ∷ vs
      not_these vs (start v what steps) is h = let first : word_of v ≡ w = cc in verb_no_build v (first ∙ e)
      not_these vs (build d f) is h = cc

      no_begin : ¬ Begins (w ∷ dir ∷ file ∷ y ∷ [])
      no_begin (command, are, rest, h) = not_these rest command are h

-- ---- the same of the words as texts

pub none_bad : (xs : Texts) → length xs ≡ 0 → BadWord (spelled xs) 0
none_bad [] h = bad_none
none_bad (x ∷ xs) h = absurd (omega (arith, h))

pub first_bad : (xs : Texts) (s : String Global) → 0 < length xs → s ≡ get_or xs 0 s → string_bytes s ≢ codes "run" → string_bytes s ≢ codes "exec" → string_bytes s ≢ codes "build" → BadWord (spelled xs) 0
first_bad [] s h e a b c = absurd (omega (arith, h))
first_bad (x ∷ xs) s h e a b c = bad_first (string_bytes x) (λ r. a (ap string_bytes e ∙ r)) (λ r. b (ap string_bytes e ∙ r)) (λ r. c (ap string_bytes e ∙ r)) (map string_bytes xs)

pub first_is : (xs : Texts) (s : String Global) (w : List ℕ) → 0 < length xs → s ≡ get_or xs 0 s → string_bytes s ≡ w → IsFirst xs w
first_is [] s w h e named = absurd (omega (arith, h))
first_is (x ∷ xs) s w h e named = ap string_bytes (sym e) ∙ named

module _ (v : Verb) where
  pub second_bad : (xs : Texts) → IsFirst xs (word_of v) → length xs < 2 → BadWord (spelled xs) 1
  second_bad [] named i = absurd named
  second_bad (x ∷ []) named i = bad_second v (string_bytes x) named
  second_bad (x ∷ y ∷ xs) named i = absurd (omega (arith, i))

  pub third_bad : (xs : Texts) (t : String Global) → IsFirst xs (word_of v) → 2 ≤ length xs → length xs ≢ 2 → t ≡ get_or xs 2 t → string_bytes t ≢ codes "--steps" → BadWord (spelled xs) 2
  third_bad [] t named h i f off = absurd named
  third_bad (x ∷ []) t named h i f off = absurd (omega (arith, h))
  third_bad (x ∷ y ∷ []) t named h i f off = absurd (i refl)
  third_bad (x ∷ y ∷ z ∷ xs) t named h i f off = bad_third v (string_bytes x) named (string_bytes y) (string_bytes z) (map string_bytes xs) (λ r. off (ap string_bytes f ∙ r))

  pub missing_bad : (xs : Texts) (t : String Global) → IsFirst xs (word_of v) → 2 ≤ length xs → length xs ≢ 2 → length xs < 4 → t ≡ get_or xs 2 t → string_bytes t ≡ codes "--steps" → BadWord (spelled xs) 3
  missing_bad [] t named h i j f on = absurd named
  missing_bad (x ∷ []) t named h i j f on = absurd (omega (arith, h))
  missing_bad (x ∷ y ∷ []) t named h i j f on = absurd (i refl)
  missing_bad (x ∷ y ∷ z ∷ []) t named h i j f on = bad_missing v (string_bytes x) named (string_bytes y) (string_bytes z) (ap string_bytes (sym f) ∙ on)
  missing_bad (x ∷ y ∷ z ∷ n ∷ xs) t named h i j f on = absurd (omega (arith, j))

  pub fourth_bad : (xs : Texts) (t u : String Global) → IsFirst xs (word_of v) → 4 ≤ length xs → t ≡ get_or xs 2 t → string_bytes t ≡ codes "--steps" → u ≡ get_or xs 3 u → ¬ IsSteps (string_bytes u) → BadWord (spelled xs) 3
  fourth_bad [] t u named h f on g off = absurd named
  fourth_bad (x ∷ []) t u named h f on g off = absurd (omega (arith, h))
  fourth_bad (x ∷ y ∷ []) t u named h f on g off = absurd (omega (arith, h))
  fourth_bad (x ∷ y ∷ z ∷ []) t u named h f on g off = absurd (omega (arith, h))
  fourth_bad (x ∷ y ∷ z ∷ n ∷ xs) t u named h f on g off =
      bad_fourth v (string_bytes x) named (string_bytes y) (string_bytes z) (string_bytes n) (map string_bytes xs) (ap string_bytes (sym f) ∙ on)
      (λ r. off (subst (λ (a : String Global). IsSteps (string_bytes a)) (sym g) r))

  pub fifth_bad : (xs : Texts) (t u : String Global) → IsFirst xs (word_of v) → 4 < length xs → t ≡ get_or xs 2 t → string_bytes t ≡ codes "--steps" → u ≡ get_or xs 3 u → IsSteps (string_bytes u) → BadWord (spelled xs) 4
  fifth_bad [] t u named h f on g is = absurd named
  fifth_bad (x ∷ []) t u named h f on g is = absurd (omega (arith, h))
  fifth_bad (x ∷ y ∷ []) t u named h f on g is = absurd (omega (arith, h))
  fifth_bad (x ∷ y ∷ z ∷ []) t u named h f on g is = absurd (omega (arith, h))
  fifth_bad (x ∷ y ∷ z ∷ n ∷ []) t u named h f on g is = absurd (omega (arith, h))
  fifth_bad (x ∷ y ∷ z ∷ n ∷ w ∷ xs) t u named h f on g is =
      bad_fifth v (string_bytes x) named (string_bytes y) (string_bytes z) (string_bytes n) (string_bytes w) (map string_bytes xs) (ap string_bytes (sym f) ∙ on)
      (subst (λ (a : String Global). IsSteps (string_bytes a)) g is)

  -- ---- words that carry something out

  pub two_words : (xs : Texts) (d : String Global) → IsFirst xs (word_of v) → length xs ≡ 2 → d ≡ get_or xs 1 d → IsStart v (spelled xs) (string_bytes d) 1000000000
  two_words [] d named h f = absurd named
  two_words (x ∷ []) d named h f = absurd (omega (arith, h))
  two_words (x ∷ y ∷ []) d named h f = (None, tt, ap (λ z. z ∷ string_bytes y ∷ []) named ∙ ap (λ z. word_of v ∷ string_bytes z ∷ []) (sym f), refl)
  two_words (x ∷ y ∷ z ∷ xs) d named h f = absurd (omega (arith, h))

  pub four_words : (xs : Texts) (d t u : String Global) (n : ℕ) → IsFirst xs (word_of v) → 4 ≤ length xs → length xs ≤ 4 → d ≡ get_or xs 1 d → t ≡ get_or xs 2 t → u ≡ get_or xs 3 u
      → string_bytes t ≡ codes "--steps" → IsSteps (string_bytes u) → n ≡ digits_value 10 (string_bytes u) → IsStart v (spelled xs) (string_bytes d) n
  four_words [] d t u n named h i f g k on is e = absurd named
  four_words (x ∷ []) d t u n named h i f g k on is e = absurd (omega (arith, h))
  four_words (x ∷ y ∷ []) d t u n named h i f g k on is e = absurd (omega (arith, h))
  four_words (x ∷ y ∷ z ∷ []) d t u n named h i f g k on is e = absurd (omega (arith, h))
  four_words (x ∷ y ∷ z ∷ w ∷ []) d t u n named h i f g k on is e =
      let third : string_bytes z ≡ codes "--steps" = ap string_bytes (sym g) ∙ on in
      let second : string_bytes y ≡ string_bytes d = ap string_bytes (sym f) in
      let fourth : string_bytes w ≡ string_bytes u = ap string_bytes (sym k) in (
        Some (string_bytes u),
        is,
        ap (λ a. a ∷ string_bytes y ∷ string_bytes z ∷ string_bytes w ∷ []) named ∙ ap (λ a. word_of v ∷ a ∷ string_bytes z ∷ string_bytes w ∷ []) second
            ∙ ap (λ a. word_of v ∷ string_bytes d ∷ a ∷ string_bytes w ∷ []) third ∙ ap (λ a. word_of v ∷ string_bytes d ∷ codes "--steps" ∷ a ∷ []) fourth,
        e,
      )
  four_words (x ∷ y ∷ z ∷ w ∷ a ∷ xs) d t u n named h i f g k on is e = absurd (omega (arith, i))

-- ---- words that make a file

pub folder_bad : (xs : Texts) → IsFirst xs (codes "build") → length xs < 2 → BadWord (spelled xs) 1
folder_bad [] named i = absurd named
folder_bad (x ∷ []) named i = no_folder (string_bytes x) named
folder_bad (x ∷ y ∷ xs) named i = absurd (omega (arith, i))

pub file_bad : (xs : Texts) → IsFirst xs (codes "build") → 2 ≤ length xs → length xs < 3 → BadWord (spelled xs) 2
file_bad [] named h i = absurd named
file_bad (x ∷ []) named h i = absurd (omega (arith, h))
file_bad (x ∷ y ∷ []) named h i = no_file (string_bytes x) named (string_bytes y)
file_bad (x ∷ y ∷ z ∷ xs) named h i = absurd (omega (arith, i))

pub more_bad : (xs : Texts) → IsFirst xs (codes "build") → 3 < length xs → BadWord (spelled xs) 3
more_bad [] named h = absurd named
more_bad (x ∷ []) named h = absurd (omega (arith, h))
more_bad (x ∷ y ∷ []) named h = absurd (omega (arith, h))
more_bad (x ∷ y ∷ z ∷ []) named h = absurd (omega (arith, h))
more_bad (x ∷ y ∷ z ∷ w ∷ xs) named h = too_many (string_bytes x) named (string_bytes y) (string_bytes z) (string_bytes w) (map string_bytes xs)

pub three_words : (xs : Texts) (d f : String Global) → IsFirst xs (codes "build") → 3 ≤ length xs → length xs ≤ 3 → d ≡ get_or xs 1 d → f ≡ get_or xs 2 f → spelled xs ≡ words_of (build (string_bytes d) (string_bytes f))
three_words [] d f named h i g k = absurd named
three_words (x ∷ []) d f named h i g k = absurd (omega (arith, h))
three_words (x ∷ y ∷ []) d f named h i g k = absurd (omega (arith, h))
three_words (x ∷ y ∷ z ∷ []) d f named h i g k =
    ap (λ a. a ∷ string_bytes y ∷ string_bytes z ∷ []) named ∙ ap (λ a. codes "build" ∷ string_bytes a ∷ string_bytes z ∷ []) (sym g)
    ∙ ap (λ a. codes "build" ∷ string_bytes d ∷ string_bytes a ∷ []) (sym k)
three_words (x ∷ y ∷ z ∷ w ∷ xs) d f named h i g k = absurd (omega (arith, i))

-- what `!=` says of a text
pub other_text : (xs ys : List ℕ) (r : Bool) → r ≡ not (pointwise eqb xs ys) → r ≡ true → xs ≢ ys
other_text xs ys r e t same = let b : pointwise eqb xs ys ≡ true = (bytes_eq-Decides xs ys).1 same in cc

pub same_text : (xs ys : List ℕ) (r : Bool) → r ≡ not (pointwise eqb xs ys) → r ≡ false → xs ≡ ys
same_text xs ys r e f = (bytes_eq-Decides xs ys).0 (by_not (pointwise eqb xs ys) (sym e ∙ f))
  where
    by_not : (b : Bool) → not b ≡ false → b ≡ true
    by_not true h = refl
    by_not false h = cc
