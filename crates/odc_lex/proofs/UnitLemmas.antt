-- The lexer's units.
use Rattle.std.proofs.Common.{◌+◌, ◌-◌, subst, Bool, Option, Some, None, ◌≤◌, arith, length-take, ◌≡◌, ℕ, ◌<◌, List, ◌++◌, length, refl, drop, take}
use Rattle.odc_syntax.specs.lexical.Longest.{Absent, FindsUnit}
use Rattle.odc_syntax.specs.lexical.Texts.{IsItem, IsEscape, plain, escape}
use Rattle.std.proofs.lemmas.List.{take_rest}
use Rattle.odc_syntax.specs.lexical.Words.{IsCharacter, Run}
use Rattle.odc_syntax.proofs.Longest.{AreUnits, run_more}
use Rattle.odc_syntax.proofs.Units.{bytes_are_units, characters_are_units, items_are_units}
use Rattle.odc_lex.specs.declared.unit.Unit.{Unit}
use Rattle.odc_lex.specs.declared.unit.Unit.TheVariants.{Byte, Character, Item}
use Rattle.odc_lex.specs.declared.unit.Quote.TheVariants.{Single, Double}
use Rattle.odc_lex.specs.Unit.{IsUnit}

pub units_of : (unit : Unit) → AreUnits (IsUnit unit)
units_of (Byte class) = bytes_are_units
units_of (Character class) = characters_are_units
units_of (Item Single) = items_are_units refl
units_of (Item Double) = items_are_units refl

-- where no escape begins the text, an item is a plain character
pub item_found : (p : ℕ → Bool) (text : List ℕ) (found : Option ℕ) → Absent IsEscape text → FindsUnit (IsCharacter p) text found → FindsUnit (IsItem p) text found
item_found p text (Some n) no_escape is = (is.0, plain is.1)
item_found p text None no_escape no_plain = absent where
  absent : (v s : List ℕ) → IsItem p v → v ++ s ≡ text → ⊥
  absent v s (plain is) e = no_plain v s is e
  absent v s (escape is) e = no_escape v s is e

pub escape_found : (p : ℕ → Bool) (text : List ℕ) (n : ℕ) → (n ≤ length text) × IsEscape (take n text) → (n ≤ length text) × IsItem p (take n text)
escape_found p text n is = (is.0, escape is.1)

-- a unit takes at least one byte
pub unit_step : (unit : Unit) (text : List ℕ) (n : ℕ) → (n ≤ length text) × IsUnit unit (take n text) → 0 < n
unit_step unit text n is = let positive = (units_of unit).nonempty (take n text) is.1 in omega (arith, length-take n text)

-- what one turn of the loop over a run does
pub run_step : (unit : Unit) (text : List ℕ) (at n : ℕ) → at ≤ length text → Run (IsUnit unit) (take at text)
    → (n ≤ length (take (length text - at) (drop at text))) × IsUnit unit (take n (take (length text - at) (drop at text)))
    → (0 < n) × (at + n ≤ length text) × Run (IsUnit unit) (take (at + n) text)
run_step unit text at n within run found =
    let rest : (n ≤ length (drop at text)) × IsUnit unit (take n (drop at text)) = subst (λ t. (n ≤ length t) × IsUnit unit (take n t)) (take_rest text at) found in
    let more = run_more text at n within run rest in
    (unit_step unit (drop at text) n rest, more.0, more.1)
