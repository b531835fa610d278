-- The parts of lines: each text begins with one of each at most, and what the reader finds is that one.
use Rattle.std.proofs.Common.{◌≡◌, ◌≢◌, ◌<◌, ◌≤◌, ◌+◌, ℕ, List, [], ◌∷◌, ◌++◌, length, refl, sym, ◌∙◌, ap, subst, append_assoc, arith, codes}
use Rattle.odc_typed.specs.Tree.{Expr, Exprs}
use Rattle.odc_text.specs.declared.place.Place.{Place}
use Rattle.odc_small.specs.declared.grammar.Keyword.TheVariants.{If, For}
use Rattle.odc_small.specs.declared.grammar.Relation.{Relation}
use Rattle.odc_small.specs.declared.grammar.Relation.TheVariants.{Less, Same}
use Rattle.odc_small.specs.Forms.{Form, FoundAt, NoneAt, both, mark}
use Rattle.odc_small.specs.Grammar.{Value, SumAt, atoms, values, newline, relation_spelling}
use Rattle.odc_small.specs.Names.{Callable, Names}
use Rattle.odc_small.specs.Reading.{names, relations, known_atoms, known_arguments, lists_of, column_at, ReadsAt, list_told}
use Rattle.odc_small.specs.Progress.{known_values, keywords, settings, setting_told, prints, printing_told, conditions, condition_told}
use Rattle.odc_small.specs.Typing.{at, compared, value_at}
use Rattle.odc_small.proofs.FormLemmas.{Unique, Meets, mark_found, mark_none, mark_unique, both_found, both_unique, none_first, none_second}
use Rattle.odc_small.proofs.PieceLemmas.{heads, tails, thirds, names_unique, relations_unique}
use Rattle.odc_small.proofs.SumLemmas.{IsOther, ends_sum, space_ends_sum}
use Rattle.odc_small.proofs.AtomLemmas.{known_sums_unique, lists_unique, closed_lists_unique, close_meets}
use Rattle.odc_small.proofs.ReadLemmas.{column_after, found_within}

pub keywords_unique : Unique keywords
keywords_unique bytes If If r s f g = (refl, thirds 105 105 102 102 32 32 r s (sym f.whole ∙ g.whole))
keywords_unique bytes For For r s f g = (refl, tails 32 32 r s (thirds 102 102 111 111 114 114 (32 ∷ r) (32 ∷ s) (sym f.whole ∙ g.whole)))
keywords_unique bytes If For r s f g = absurd (omega (arith, heads 105 102 (102 ∷ 32 ∷ r) (111 ∷ 114 ∷ 32 ∷ s) (sym f.whole ∙ g.whole)))
keywords_unique bytes For If r s f g = absurd (omega (arith, heads 102 105 (111 ∷ 114 ∷ 32 ∷ r) (102 ∷ 32 ∷ s) (sym f.whole ∙ g.whole)))

abbrev pair_with : ℕ → Expr → ℕ × Expr
pair_with d v = (d, v)

less_other : IsOther 60
less_other = (λ e. omega (arith, e), λ e. omega (arith, e), λ e. omega (arith, e))

same_other : IsOther 61
same_other = (λ e. omega (arith, e), λ e. omega (arith, e), λ e. omega (arith, e))

brace_other : IsOther 123
brace_other = (λ e. omega (arith, e), λ e. omega (arith, e), λ e. omega (arith, e))

module _ (callable : Callable) (bindings : Names) where
  abbrev here : Form (SumAt 4)
  here = known_values callable bindings

  here_unique : Unique here
  here_unique = known_sums_unique callable bindings 4

  byte_ends : (b : ℕ) (r : List ℕ) → b ≢ 32 → (b < 48) → here.Ends (b ∷ r)
  byte_ends b r off small = ends_sum (atoms 4).spelling (known_atoms callable bindings 4).Is b r off (λ digit. omega (arith, digit.0, small))

  space_ends : (b : ℕ) (r : List ℕ) → IsOther b → b ≢ 43 → b ≢ 45 → here.Ends (32 ∷ b ∷ r)
  space_ends b r other off also = space_ends_sum (atoms 4).spelling (known_atoms callable bindings 4).Is b r other off also

  -- ---- a value to the end of its line

  abbrev ended : Form (Value × Unit {0})
  ended = both here (mark newline)

  ended_meets : Meets here (mark newline)
  ended_meets t rest is ends = byte_ends 10 rest (λ e. omega (arith, e)) (omega arith)

  ended_unique : Unique ended
  ended_unique = both_unique here (mark newline) ended_meets here_unique (mark_unique newline)

  pub answer_found : (bytes mid rest : List ℕ) (v : Value) → FoundAt here bytes v mid → mid ≡ newline ++ rest → FoundAt ended bytes (v, tt) rest
  answer_found bytes mid rest v f e = both_found here (mark newline) bytes mid rest v tt f (mark_found newline mid rest e)

  pub answer_none_value : (bytes : List ℕ) → NoneAt here bytes → NoneAt ended bytes
  answer_none_value bytes off = none_first here (mark newline) ended_meets bytes off

  pub answer_none_end : (bytes mid : List ℕ) (v : Value) → FoundAt here bytes v mid → ((rest : List ℕ) → mid ≢ newline ++ rest) → NoneAt ended bytes
  answer_none_end bytes mid v f off = none_second here (mark newline) ended_meets here_unique bytes mid v f (mark_none newline mid off)

  pub answer_unique : Unique ended
  answer_unique = ended_unique

  -- ---- settings

  module _ (sign : List ℕ) where
    abbrev signed : Form (Unit {0} × (Value × Unit {0}))
    signed = both (mark sign) ended

    pub settings_unique : Unique (settings callable bindings sign)
    settings_unique = both_unique names signed (λ _ _ _ _. tt) names_unique (both_unique (mark sign) ended (λ _ _ _ _. tt) (mark_unique sign) ended_unique)

    pub setting_none_name : (bytes : List ℕ) → NoneAt names bytes → NoneAt (settings callable bindings sign) bytes
    setting_none_name bytes off = none_first names signed (λ _ _ _ _. tt) bytes off

    none_signed : (bytes b1 : List ℕ) (c : ℕ) → FoundAt names bytes c b1 → NoneAt signed b1 → NoneAt (settings callable bindings sign) bytes
    none_signed bytes b1 c f off = none_second names signed (λ _ _ _ _. tt) names_unique bytes b1 c f off

    pub setting_none_sign : (bytes b1 : List ℕ) (c : ℕ) → FoundAt names bytes c b1 → ((rest : List ℕ) → b1 ≢ sign ++ rest) → NoneAt (settings callable bindings sign) bytes
    setting_none_sign bytes b1 c f off = none_signed bytes b1 c f (none_first (mark sign) ended (λ _ _ _ _. tt) b1 (mark_none sign b1 off))

    none_ended : (bytes b1 b2 : List ℕ) (c : ℕ) → FoundAt names bytes c b1 → b1 ≡ sign ++ b2 → NoneAt ended b2 → NoneAt (settings callable bindings sign) bytes
    none_ended bytes b1 b2 c f e off = none_signed bytes b1 c f (none_second (mark sign) ended (λ _ _ _ _. tt) (mark_unique sign) b1 b2 tt (mark_found sign b1 b2 e) off)

    pub setting_none_value : (bytes b1 b2 : List ℕ) (c : ℕ) → FoundAt names bytes c b1 → b1 ≡ sign ++ b2 → NoneAt here b2 → NoneAt (settings callable bindings sign) bytes
    setting_none_value bytes b1 b2 c f e off = none_ended bytes b1 b2 c f e (answer_none_value b2 off)

    module _ (line origin : ℕ) where
      pub setting_none_end : (bytes b1 b2 b3 : List ℕ) (c : ℕ) (e : Expr) → FoundAt names bytes c b1 → b1 ≡ sign ++ b2 → ReadsAt here (value_at callable bindings line) origin b2 b3 e
          → ((rest : List ℕ) → b3 ≢ newline ++ rest) → NoneAt (settings callable bindings sign) bytes
      setting_none_end bytes b1 b2 b3 c e f g r off = none_ended bytes b1 b2 c f g (answer_none_end b2 b3 r.tree r.found off)

      pub setting_read : (bytes b1 b2 b3 rest : List ℕ) (c : ℕ) (e : Expr) → FoundAt names bytes c b1 → b1 ≡ sign ++ b2 → ReadsAt here (value_at callable bindings line) origin b2 b3 e
          → b3 ≡ newline ++ rest → length bytes ≤ origin → ReadsAt (settings callable bindings sign) (setting_told callable bindings line (length sign)) origin bytes rest (c, e)
      setting_read bytes b1 b2 b3 rest c e f g r h within =
          let column : column_at origin b2 ≡ column_at origin bytes + 1 + length sign =
          column_after origin b1 sign b2 g (omega (arith, found_within names bytes b1 c f, within)) ∙ ap (λ k. k + length sign) (column_after origin bytes (c ∷ []) b1 f.whole within) in
          record {
            tree = (c, (tt, (r.tree, tt)));
            found = both_found names signed bytes b1 rest c (tt, (r.tree, tt)) f
                (both_found (mark sign) ended b1 b2 rest tt (r.tree, tt) (mark_found sign b1 b2 g) (answer_found b2 b3 rest r.tree r.found h));
            gives = ap (pair_with c) (r.gives ∙ ap (λ (k : ℕ). value_at callable bindings line k r.tree) column);
          }

  -- ---- printing

  abbrev shut : List ℕ
  shut = codes ")" ++ newline

  abbrev listed : Form ((Value × List Value) × Unit {0})
  listed = both (lists_of here) (mark shut)

  here_comma : (r : List ℕ) → here.Ends (44 ∷ r)
  here_comma r = byte_ends 44 r (λ e. omega (arith, e)) (omega arith)

  here_shut : (r : List ℕ) → here.Ends (41 ∷ r)
  here_shut r = byte_ends 41 r (λ e. omega (arith, e)) (omega arith)

  listed_meets : Meets (lists_of here) (mark shut)
  listed_meets = close_meets here here_unique here_comma newline here_shut

  listed_unique : Unique listed
  listed_unique = closed_lists_unique here here_unique here_comma newline here_shut

  abbrev opening : List ℕ
  opening = codes "fmt.println("

  pub prints_unique : Unique (prints callable bindings)
  prints_unique = both_unique (mark opening) listed (λ _ _ _ _. tt) (mark_unique opening) listed_unique

  pub print_none_open : (bytes : List ℕ) → ((rest : List ℕ) → bytes ≢ codes "fmt.println(" ++ rest) → NoneAt (prints callable bindings) bytes
  print_none_open bytes off = none_first (mark opening) listed (λ _ _ _ _. tt) bytes (mark_none opening bytes off)

  none_listed : (bytes b1 : List ℕ) → bytes ≡ opening ++ b1 → NoneAt listed b1 → NoneAt (prints callable bindings) bytes
  none_listed bytes b1 e off = none_second (mark opening) listed (λ _ _ _ _. tt) (mark_unique opening) bytes b1 tt (mark_found opening bytes b1 e) off

  pub print_none_list : (bytes b1 : List ℕ) → bytes ≡ codes "fmt.println(" ++ b1 → NoneAt (lists_of (known_arguments callable bindings 5)) b1 → NoneAt (prints callable bindings) bytes
  print_none_list bytes b1 e off = none_listed bytes b1 e (none_first (lists_of here) (mark shut) listed_meets b1 off)

  module _ (line origin : ℕ) where
    abbrev ReadsItems : List ℕ → List ℕ → Exprs → Type 0
    ReadsItems bytes rest es = ReadsAt (lists_of (known_arguments callable bindings 5)) (list_told callable bindings line 5) origin bytes rest es

    pub print_none_shut : (bytes b1 b2 : List ℕ) (es : Exprs) → bytes ≡ codes "fmt.println(" ++ b1 → ReadsItems b1 b2 es → ((rest : List ℕ) → b2 ≢ (codes ")" ++ newline) ++ rest)
        → NoneAt (prints callable bindings) bytes
    print_none_shut bytes b1 b2 es e r off =
        none_listed bytes b1 e (none_second (lists_of here) (mark shut) listed_meets (lists_unique here here_unique here_comma) b1 b2 r.tree r.found (mark_none shut b2 off))

    pub print_read : (bytes b1 b2 rest : List ℕ) (es : Exprs) → bytes ≡ codes "fmt.println(" ++ b1 → ReadsItems b1 b2 es → b2 ≡ (codes ")" ++ newline) ++ rest → length bytes ≤ origin
        → ReadsAt (prints callable bindings) (printing_told callable bindings line) origin bytes rest es
    print_read bytes b1 b2 rest es e r f within = record {
      tree = (tt, (r.tree, tt));
      found = both_found (mark opening) listed bytes b1 rest tt (r.tree, tt) (mark_found opening bytes b1 e)
          (both_found (lists_of here) (mark shut) b1 b2 rest r.tree tt r.found (mark_found shut b2 rest f));
      gives = r.gives ∙ ap (λ (k : ℕ). list_told callable bindings line 5 k r.tree) (column_after origin bytes opening b1 e within);
    }

  -- ---- conditions

  abbrev brace : List ℕ
  brace = codes " {" ++ newline

  abbrev right : Form (Value × Unit {0})
  right = both here (mark brace)

  abbrev related : Form (Relation × (Value × Unit {0}))
  related = both relations right

  right_meets : Meets here (mark brace)
  right_meets t rest is ends = space_ends 123 (10 ∷ rest) brace_other (λ e. omega (arith, e)) (λ e. omega (arith, e))

  relation_ends : (x : Relation) (r : List ℕ) → here.Ends (relation_spelling x ++ r)
  relation_ends Less r = space_ends 60 (32 ∷ r) less_other (λ e. omega (arith, e)) (λ e. omega (arith, e))
  relation_ends Same r = space_ends 61 (61 ∷ 32 ∷ r) same_other (λ e. omega (arith, e)) (λ e. omega (arith, e))

  left_meets : Meets here related
  left_meets p rest is ends =
      subst here.Ends (sym (append_assoc (relation_spelling p.0) (right.spelling p.1) rest)) (relation_ends p.0 (right.spelling p.1 ++ rest))

  right_unique : Unique right
  right_unique = both_unique here (mark brace) right_meets here_unique (mark_unique brace)

  related_unique : Unique related
  related_unique = both_unique relations right (λ _ _ _ _. tt) relations_unique right_unique

  pub conditions_unique : Unique (conditions callable bindings)
  conditions_unique = both_unique here related left_meets here_unique related_unique

  pub condition_none_left : (bytes : List ℕ) → NoneAt here bytes → NoneAt (conditions callable bindings) bytes
  condition_none_left bytes off = none_first here related left_meets bytes off

  module _ (line origin : ℕ) where
    abbrev ReadsValue : List ℕ → List ℕ → Expr → Type 0
    ReadsValue bytes rest e = ReadsAt here (value_at callable bindings line) origin bytes rest e

    none_related : (bytes b1 : List ℕ) (e : Expr) → ReadsValue bytes b1 e → NoneAt related b1 → NoneAt (conditions callable bindings) bytes
    none_related bytes b1 e r off = none_second here related left_meets here_unique bytes b1 r.tree r.found off

    pub condition_none_relation : (bytes b1 : List ℕ) (e : Expr) → ReadsValue bytes b1 e → NoneAt relations b1 → NoneAt (conditions callable bindings) bytes
    condition_none_relation bytes b1 e r off = none_related bytes b1 e r (none_first relations right (λ _ _ _ _. tt) b1 off)

    none_right : (bytes b1 b2 : List ℕ) (e : Expr) (x : Relation) → ReadsValue bytes b1 e → FoundAt relations b1 x b2 → NoneAt right b2 → NoneAt (conditions callable bindings) bytes
    none_right bytes b1 b2 e x r f off = none_related bytes b1 e r (none_second relations right (λ _ _ _ _. tt) relations_unique b1 b2 x f off)

    pub condition_none_right : (bytes b1 b2 : List ℕ) (e : Expr) (x : Relation) → ReadsValue bytes b1 e → FoundAt relations b1 x b2 → NoneAt here b2 → NoneAt (conditions callable bindings) bytes
    condition_none_right bytes b1 b2 e x r f off = none_right bytes b1 b2 e x r f (none_first here (mark brace) right_meets b2 off)

    pub condition_none_brace : (bytes b1 b2 b3 : List ℕ) (e d : Expr) (x : Relation) → ReadsValue bytes b1 e → FoundAt relations b1 x b2 → ReadsValue b2 b3 d
        → ((rest : List ℕ) → b3 ≢ (codes " {" ++ newline) ++ rest) → NoneAt (conditions callable bindings) bytes
    condition_none_brace bytes b1 b2 b3 e d x r f q off =
        none_right bytes b1 b2 e x r f (none_second here (mark brace) right_meets here_unique b2 b3 q.tree q.found (mark_none brace b3 off))

    pub condition_read : (bytes b1 b2 b3 rest : List ℕ) (left other whole : Expr) (x : Relation) (place : Place) → ReadsValue bytes b1 left → FoundAt relations b1 x b2 → ReadsValue b2 b3 other
        → b3 ≡ (codes " {" ++ newline) ++ rest → length bytes ≤ origin → place ≡ at line (column_at origin b1 + 1) → whole ≡ compared place x left other
        → ReadsAt (conditions callable bindings) (condition_told callable bindings line) origin bytes rest whole
    condition_read bytes b1 b2 b3 rest left other whole x place r f q e within p w =
        let c1 = column_after origin bytes (values.spelling r.tree) b1 r.found.whole within in
        let c2 = column_after origin b1 (relation_spelling x) b2 f.whole (omega (arith, found_within here bytes b1 r.tree r.found, within)) ∙ ap (λ k. k + length (relation_spelling x)) c1 in
        let column = column_at origin bytes in
        let v = value_at callable bindings line column r.tree in
        record {
          tree = (r.tree, (x, (q.tree, tt)));
          found = both_found here related bytes b1 rest r.tree (x, (q.tree, tt)) r.found
              (both_found relations right b1 b2 rest x (q.tree, tt) f (both_found here (mark brace) b2 b3 rest q.tree tt q.found (mark_found brace b3 rest e)));
          gives = w
              ∙ ap (λ (a : Place). compared a x left other) (p ∙ ap (λ (k : ℕ). at line (k + 1)) c1)
              ∙ ap (λ (a : Expr). compared (at line (column + length (values.spelling r.tree) + 1)) x a other) r.gives
              ∙ ap (λ (a : Expr). compared (at line (column + length (values.spelling r.tree) + 1)) x v a) (q.gives ∙ ap (λ (k : ℕ). value_at callable bindings line k q.tree) c2);
        }
