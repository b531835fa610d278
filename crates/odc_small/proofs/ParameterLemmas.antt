-- Parameters that are read so far, and what the pieces of a procedure's first and last lines are.
use Rattle.std.proofs.Common.{subst, ◌≡◌, ◌≢◌, ◌≤◌, ◌+◌, ℕ, List, [], ◌∷◌, ◌++◌, ◌∙◌, ap, sym, codes, arith, length, length-append}
use Rattle.odc_typed.specs.Tree.{Expr}
use Rattle.odc_small.specs.Forms.{FoundAt, NoneAt, spellings, many, both, mark}
use Rattle.odc_small.specs.Grammar.{newline, parameter_spelling, list_spelling, next_spelling}
use Rattle.odc_small.specs.Names.{Callable, Names}
use Rattle.odc_small.specs.Reading.{nexts_of, lists_of, closed_by, column_at, ReadsAt}
use Rattle.odc_small.specs.Progress.{known_values}
use Rattle.odc_small.specs.Text.{parameters, parameters_close, ReadsMore, headings, footings, footing_told}
use Rattle.odc_small.specs.Typing.{value_at}
use Rattle.odc_small.proofs.FormLemmas.{SoFar, mark_found, mark_none, mark_unique, both_found, none_first, none_second}
use Rattle.odc_small.proofs.AtomLemmas.{known_sums_unique, closed_found, closed_empty, closed_none_list, closed_none_mark, list_none}
use Rattle.odc_small.proofs.FuncLemmas.{parameters_unique, any_end, close_more, answered, answered_meets}
use Rattle.odc_small.proofs.ReadLemmas.{column_after}

pub record MoreSoFar (first : ℕ) (bytes : List ℕ) (names : List ℕ) (rest : List ℕ) : Type 0 where
  pub others : List ℕ
  pub are : names ≡ first ∷ others
  pub so_far : SoFar (nexts_of parameters) bytes others rest

pub list_read : (bytes mid rest names : List ℕ) (first : ℕ) → FoundAt parameters bytes first mid → (r : ReadsMore first mid names rest) → FoundAt (lists_of parameters) bytes (first, r.others) rest
list_read bytes mid rest names first f r = both_found parameters (many (nexts_of parameters)) bytes mid rest first r.others f r.found

pub parameters_read : (bytes mid end rest names : List ℕ) (first : ℕ) → FoundAt parameters bytes first mid → ReadsMore first mid names end → end ≡ parameters_close ++ rest
    → FoundAt (closed_by parameters_close parameters) bytes names rest
parameters_read bytes mid end rest names first f r e =
    let found = closed_found parameters parameters_unique any_end close_more any_end bytes end rest first r.others (list_read bytes mid end names first f r) e in
    let P : List ℕ → Type 0 = λ ns. FoundAt (closed_by parameters_close parameters) bytes ns rest in
    subst P (sym r.are) found

pub parameters_none_first : (bytes : List ℕ) → ((rest : List ℕ) → bytes ≢ parameters_close ++ rest) → NoneAt parameters bytes → NoneAt (closed_by parameters_close parameters) bytes
parameters_none_first bytes off none =
    closed_none_list parameters parameters_unique any_end close_more any_end bytes off (list_none parameters parameters_unique any_end bytes none)

pub parameters_none_close : (bytes mid end names : List ℕ) (first : ℕ) → ((rest : List ℕ) → bytes ≢ parameters_close ++ rest) → FoundAt parameters bytes first mid → ReadsMore first mid names end
    → ((rest : List ℕ) → end ≢ parameters_close ++ rest) → NoneAt (closed_by parameters_close parameters) bytes
parameters_none_close bytes mid end names first off f r none =
    closed_none_mark parameters parameters_unique any_end close_more any_end bytes end first r.others off (list_read bytes mid end names first f r) none

-- ---- the last lines

module _ (callable : Callable) (bindings : Names) where
  abbrev returning : List ℕ
  returning = 9 ∷ codes "return "

  abbrev last : List ℕ
  last = newline ++ (codes "}" ++ newline)

  pub footing_none_mark : (bytes : List ℕ) → ((rest : List ℕ) → bytes ≢ (9 ∷ codes "return ") ++ rest) → NoneAt (footings callable bindings) bytes
  footing_none_mark bytes off = none_first (mark returning) (answered callable bindings) (λ _ _ _ _. tt) bytes (mark_none returning bytes off)

  none_answered : (bytes b1 : List ℕ) → bytes ≡ returning ++ b1 → NoneAt (answered callable bindings) b1 → NoneAt (footings callable bindings) bytes
  none_answered bytes b1 e off = none_second (mark returning) (answered callable bindings) (λ _ _ _ _. tt) (mark_unique returning) bytes b1 tt (mark_found returning bytes b1 e) off

  pub footing_none_value : (bytes b1 : List ℕ) → bytes ≡ (9 ∷ codes "return ") ++ b1 → NoneAt (known_values callable bindings) b1 → NoneAt (footings callable bindings) bytes
  footing_none_value bytes b1 e off = none_answered bytes b1 e (none_first (known_values callable bindings) (mark last) (answered_meets callable bindings) b1 off)

  module _ (line origin : ℕ) where
    pub footing_none_end : (bytes b1 b2 : List ℕ) (v : Expr) → bytes ≡ (9 ∷ codes "return ") ++ b1 → ReadsAt (known_values callable bindings) (value_at callable bindings line) origin b1 b2 v
        → ((rest : List ℕ) → b2 ≢ (newline ++ (codes "}" ++ newline)) ++ rest) → NoneAt (footings callable bindings) bytes
    footing_none_end bytes b1 b2 v e r off =
        none_answered bytes b1 e (none_second (known_values callable bindings) (mark last) (answered_meets callable bindings) (known_sums_unique callable bindings 4) b1 b2 r.tree r.found (mark_none last b2 off))

    pub footing_read : (bytes b1 b2 rest : List ℕ) (v : Expr) → bytes ≡ (9 ∷ codes "return ") ++ b1 → ReadsAt (known_values callable bindings) (value_at callable bindings line) origin b1 b2 v
        → b2 ≡ (newline ++ (codes "}" ++ newline)) ++ rest → length bytes ≤ origin → ReadsAt (footings callable bindings) (footing_told callable bindings line) origin bytes rest v
    footing_read bytes b1 b2 rest v e r f within = record {
      tree = (tt, (r.tree, tt));
      found = both_found (mark returning) (answered callable bindings) bytes b1 rest tt (r.tree, tt) (mark_found returning bytes b1 e)
          (both_found (known_values callable bindings) (mark last) b1 b2 rest r.tree tt r.found (mark_found last b2 rest f));
      gives = r.gives ∙ ap (λ (k : ℕ). value_at callable bindings line k r.tree) (column_after origin bytes returning b1 e within);
    }

-- ---- the length of a first line

nexts_long : (ps : List ℕ) → length ps ≤ length (spellings (next_spelling parameter_spelling) ps)
nexts_long [] = omega arith
nexts_long (p ∷ ps) = omega (arith, length-append (next_spelling parameter_spelling p) (spellings (next_spelling parameter_spelling) ps), nexts_long ps)

list_long : (ps : List ℕ) → length ps ≤ length (list_spelling parameter_spelling ps)
list_long [] = omega arith
list_long (p ∷ ps) = omega (arith, length-append (parameter_spelling p) (spellings (next_spelling parameter_spelling) ps), nexts_long ps)

pub heading_length : (bytes rest : List ℕ) (c : ℕ) (ps : List ℕ) → FoundAt headings bytes (c, (tt, ps)) rest → length bytes ≡ 21 + length (list_spelling parameter_spelling ps) + length rest
heading_length bytes rest c ps f =
    omega (arith, ap length f.whole, length-append (headings.spelling (c, (tt, ps))) rest, length-append (list_spelling parameter_spelling ps) parameters_close)

pub few_parameters : (bytes rest : List ℕ) (c : ℕ) (ps : List ℕ) → FoundAt headings bytes (c, (tt, ps)) rest → length ps + length rest + 21 ≤ length bytes
few_parameters bytes rest c ps f = omega (arith, heading_length bytes rest c ps f, list_long ps)
