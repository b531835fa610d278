-- Stretches of one form at the front of a text.
use Rattle.std.proofs.Common.{◌≡◌, ℕ, ◌+◌, ◌-◌, ◌<◌, ◌≤◌, Bool, false, List, ◌∷◌, ◌++◌, length, take, drop, refl, sym, ◌∙◌, ap, subst, arith, lit<}
use Rattle.std.proofs.lemmas.List.{take_rest}
use Rattle.std.proofs.lemmas.Bool.{false≢true}
use Rattle.odc_syntax.specs.lexical.Words.{Led, Run}
use Rattle.odc_syntax.specs.lexical.Longest.{Begins, Absent, IsFront, Never, IsWholeRun}
use Rattle.odc_syntax.specs.lexical.Texts.{IsBetween, IsItem, plain, escape, is_plain_text}
use Rattle.odc_syntax.proofs.Units.{ascii_character, escape_head, items_are_units}
use Rattle.odc_syntax.proofs.Fronts.{led_front, run_front, unit_front, between_front, between_open, between_absent}
use Rattle.odc_lex.specs.declared.unit.Unit.{Unit}
use Rattle.odc_lex.specs.declared.unit.Unit.TheVariants.{Character, Item}
use Rattle.odc_lex.specs.declared.unit.Quote.TheVariants.{Double}
use Rattle.odc_lex.specs.declared.unit.CharacterClass.TheVariants.{Raw}
use Rattle.odc_lex.specs.Unit.{IsUnit, NoneBegins}
use Rattle.odc_lex.proofs.UnitLemmas.{units_of}

-- what begins with a byte, over the slice behind it
rest_at : (text : List ℕ) (b : ℕ) → text ≡ b ∷ drop 1 text → text ≡ b ∷ take (length text - 1) (drop 1 text)
rest_at text b e = e ∙ ap (λ t. b ∷ t) (sym (take_rest text 1))

pub led_found : (first next : Unit) (text : List ℕ) (m n : ℕ) → (m ≤ length text) × IsUnit first (take m text) → IsWholeRun (IsUnit next) (take (length text - m) (drop m text)) n → IsFront (Led (IsUnit first) (IsUnit next)) (Begins (IsUnit next)) text (m + n)
led_found first next text m n is run =
    led_front (units_of first) (units_of next) text m n is (subst (λ t. IsWholeRun (IsUnit next) t n) (take_rest text m) run)

module _ (sign : ℕ) (unit : Unit) (none : NoneBegins sign unit) (text : List ℕ) (e : text ≡ sign ∷ drop 1 text) (n : ℕ) (run : IsWholeRun (IsUnit unit) (take (length text - 1) (drop 1 text)) n) where
  abbrev t : List ℕ
  t = take (length text - 1) (drop 1 text)

  pub between_found : take (length t - n) (drop n t) ≡ sign ∷ drop 1 (take (length t - n) (drop n t)) → IsFront (IsBetween sign (Run (IsUnit unit))) Never text (n + 2)
  between_found last = between_front sign none text t _ n (rest_at text sign e) (run_front (units_of unit) t n run) (sym (take_rest t n) ∙ last)

  pub between_lost : ((r : List ℕ) → take (length t - n) (drop n t) ≡ sign ∷ r → ⊥) → Absent (IsBetween sign (Run (IsUnit unit))) text
  between_lost open' = between_open sign none text t n (rest_at text sign e) (run_front (units_of unit) t n run) (λ r last. open' r (take_rest t n ∙ last))

never_closes : (s : List ℕ) → Never s → ⊥
never_closes s h = h

module _ (p : ℕ → Bool) (no_backslash : p 92 ≡ false) (sign : ℕ) (text : List ℕ) (e : text ≡ sign ∷ drop 1 text) where
  abbrev u : List ℕ
  u = take (length text - 1) (drop 1 text)

  pub one_found : (n : ℕ) → (n ≤ length u) × IsItem p (take n u) → take (length u - n) (drop n u) ≡ sign ∷ drop 1 (take (length u - n) (drop n u)) → IsFront (IsBetween sign (IsItem p)) Never text (n + 2)
  one_found n is last = between_front sign (λ s h. h) text u _ n (rest_at text sign e) (unit_front (items_are_units no_backslash) u n is) (sym (take_rest u n) ∙ last)

  pub one_lost : (n : ℕ) → (n ≤ length u) × IsItem p (take n u) → ((r : List ℕ) → take (length u - n) (drop n u) ≡ sign ∷ r → ⊥) → Absent (IsBetween sign (IsItem p)) text
  one_lost n is open' = between_open sign (λ s h. h) text u n (rest_at text sign e) (unit_front (items_are_units no_backslash) u n is) (λ r last. open' r (take_rest u n ∙ last))

  pub one_absent : Absent (IsItem p) u → Absent (IsBetween sign (IsItem p)) text
  one_absent absent = between_absent sign text u (rest_at text sign e) absent

-- no item begins with an ASCII byte that is neither plain nor a backslash
pub item_elsewhere : (p : ℕ → Bool) (b : ℕ) (w r s : List ℕ) → b < 128 → p b ≡ false → (b ≡ 92 → ⊥) → IsItem p w → w ++ r ≡ b ∷ s → ⊥
item_elsewhere p b w r s low not_plain no_backslash (plain is) e = false≢true (sym not_plain ∙ (ascii_character p w r s b low is e).0)
item_elsewhere p b w r s low not_plain no_backslash (escape is) e =
    let head = escape_head w is in
    let same : b ∷ s ≡ 92 ∷ (head.0 ++ r) = sym e ∙ ap (λ x. x ++ r) head.1 in
    let heads : b ≡ 92 = cc in
    no_backslash heads

-- no item of a string begins with its quote
pub no_item_begins : NoneBegins 34 (Item Double)
no_item_begins s begins = item_elsewhere is_plain_text 34 begins.word begins.rest s (lit< tt) refl (λ e. absurd (omega arith)) begins.is (sym begins.bytes)

pub no_raw_begins : NoneBegins 96 (Character Raw)
no_raw_begins s begins = false≢true (ascii_character _ begins.word begins.rest s 96 (lit< tt) begins.is (sym begins.bytes)).0
