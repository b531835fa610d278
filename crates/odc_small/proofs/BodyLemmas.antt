-- Lines behind one another: where so much has been read, a text begins with one line at most and with one
-- body at most.
use Rattle.std.proofs.Common.{◌⊎◌, inl, inr, ◌≡◌, ◌≢◌, ◌≤◌, ◌-◌, ℕ, zero, suc, List, [], ◌∷◌, ◌++◌, refl, sym, ◌∙◌, ap, subst, append_assoc, arith, codes}
use Rattle.std.specs.List.{AllByRecursion}
use Rattle.std.proofs.lemmas.List.{append_cancel_left}
use Rattle.odc_small.specs.declared.grammar.Keyword.{Keyword}
use Rattle.odc_small.specs.declared.grammar.Keyword.TheVariants.{If, For}
use Rattle.odc_small.specs.declared.grammar.Relation.{Relation}
use Rattle.odc_small.specs.Forms.{Form, FoundAt, spellings, both}
use Rattle.odc_small.specs.Grammar.{Value, declare, assign, print, nest, BodyAt, LineAt, bodies, lines, newline, tabs, keyword_spelling, inner_spelling}
use Rattle.odc_small.specs.Names.{Around, KnowsBody}
use Rattle.odc_small.specs.Progress.{keywords, Setting, settings, Printing, prints, Condition, conditions, Reached, after_body, after_all, InnerAt, OuterAt, NoBody}
use Rattle.odc_small.proofs.FormLemmas.{Unique, both_unique}
use Rattle.odc_small.proofs.PieceLemmas.{heads, tails}
use Rattle.odc_small.proofs.KnownLemmas.{value_join, all_join}
use Rattle.odc_small.proofs.LineLemmas.{keywords_unique, settings_unique, prints_unique, conditions_unique}

-- ---- tabs

pub tabs_cut : (d : ℕ) (x y : List ℕ) → tabs d ++ x ≡ tabs d ++ y → x ≡ y
tabs_cut zero x y e = e
tabs_cut (suc d) x y e = tabs_cut d x y (tails 9 9 _ _ e)

-- one tab more stands where no tab does
pub tabs_more : (d b : ℕ) (x y : List ℕ) → tabs (suc d) ++ x ≡ tabs d ++ b ∷ y → b ≡ 9
tabs_more zero b x y e = sym (heads 9 b x y e)
tabs_more (suc d) b x y e = tabs_more d b x y (tails 9 9 _ _ e)

module _ (around : Around) where
  -- ---- lines as their parts

  module _ (k : ℕ) (old : Reached) where
    abbrev In : List ℕ → LineAt k → List ℕ → Type 0
    In bytes l rest = InnerAt around k old bytes l rest

    abbrev setting_of : ℕ → Value → Setting
    setting_of c v = (c, (tt, (v, tt)))

    pub as_declare : (bytes rest : List ℕ) (c : ℕ) (v : Value) → In bytes (declare c v) rest → FoundAt (settings around.callable old.names (codes " := ")) bytes (setting_of c v) rest
    as_declare bytes rest c v f = record { is = (f.is.0, (tt, (value_join around old.names v f.is.1 f.knows.1, tt))); ends = tt; whole = f.whole }

    pub as_assign : (bytes rest : List ℕ) (c : ℕ) (v : Value) → In bytes (assign c v) rest → FoundAt (settings around.callable old.names (codes " = ")) bytes (setting_of c v) rest
    as_assign bytes rest c v f = record { is = (f.is.0, (tt, (value_join around old.names v f.is.1 f.knows.1, tt))); ends = tt; whole = f.whole }

    abbrev printing_of : Value → List Value → Printing
    printing_of v vs = (tt, ((v, vs), tt))

    pub as_print : (bytes rest : List ℕ) (v : Value) (vs : List Value) → In bytes (print v vs) rest → FoundAt (prints around.callable old.names) bytes (printing_of v vs) rest
    as_print bytes rest v vs f = record {
      is = (tt, ((value_join around old.names v f.is.0 f.knows.0, all_join _ _ _ (value_join around old.names) vs f.is.1 f.knows.1), tt));
      ends = tt;
      whole = f.whole;
    }

    abbrev condition_of : Value → Relation → Value → Condition
    condition_of left x right = (left, (x, (right, tt)))

    abbrev heads_of : Form (Keyword × Condition)
    heads_of = both keywords (conditions around.callable old.names)

    abbrev foot : List ℕ
    foot = tabs (8 - k) ++ (codes "}" ++ newline)

    pub as_head : (bytes rest : List ℕ) (w : Keyword) (left : Value) (x : Relation) (right : Value) (body : List (BodyAt k)) → In bytes (nest w left x right body) rest
        → FoundAt heads_of bytes (w, condition_of left x right) (spellings (bodies k).spelling body ++ (foot ++ rest))
    as_head bytes rest w left x right body f = record {
      is = (tt, (value_join around old.names left f.is.0 f.knows.0, (tt, (value_join around old.names right f.is.1.0 f.knows.1.0, tt))));
      ends = tt;
      whole = f.whole ∙ append_assoc (heads_of.spelling (w, condition_of left x right)) (spellings (bodies k).spelling body ++ foot) rest
          ∙ ap (λ z. heads_of.spelling (w, condition_of left x right) ++ z) (append_assoc (spellings (bodies k).spelling body) foot rest);
    }

    heads_unique : Unique heads_of
    heads_unique = both_unique keywords (conditions around.callable old.names) (λ _ _ _ _. tt) keywords_unique (conditions_unique around.callable old.names)

    -- ---- lines of two kinds differ in their first three bytes

    two_signs : (bytes r s : List ℕ) (c d : ℕ) (v w : Value) → In bytes (declare c v) r → In bytes (assign d w) s → ⊥
    two_signs bytes r s c d v w f g = omega (arith, heads 58 61 _ _ (tails 32 32 _ _ (tails c d _ _ (sym f.whole ∙ g.whole))))

    declare_print : (bytes r s : List ℕ) (c : ℕ) (v w : Value) (ws : List Value) → In bytes (declare c v) r → In bytes (print w ws) s → ⊥
    declare_print bytes r s c v w ws f g = omega (arith, heads 32 109 _ _ (tails c 102 _ _ (sym f.whole ∙ g.whole)))

    assign_print : (bytes r s : List ℕ) (c : ℕ) (v w : Value) (ws : List Value) → In bytes (assign c v) r → In bytes (print w ws) s → ⊥
    assign_print bytes r s c v w ws f g = omega (arith, heads 32 109 _ _ (tails c 102 _ _ (sym f.whole ∙ g.whole)))

    -- what stands behind the first byte of a line with a body
    second_of_nest : (w : Keyword) (c b : ℕ) (x y z : List ℕ) → (c ∷ b ∷ x) ≡ ((keyword_spelling w ++ y) ++ z) → (b ≡ 102) ⊎ (b ≡ 111)
    second_of_nest If c b x y z e = inl (heads b 102 _ _ (tails c 105 _ _ e))
    second_of_nest For c b x y z e = inr (heads b 111 _ _ (tails c 102 _ _ e))

    no_space : (b : ℕ) → b ≡ 32 → (b ≡ 102) ⊎ (b ≡ 111) → ⊥
    no_space b s (inl e) = omega (arith, s, e)
    no_space b s (inr e) = omega (arith, s, e)

    regroup : (w : Keyword) (h t r : List ℕ) → ((keyword_spelling w ++ h) ++ t) ++ r ≡ (keyword_spelling w ++ (h ++ t)) ++ r
    regroup w h t r = ap (λ z. z ++ r) (append_assoc (keyword_spelling w) h t)

    declare_nest : (bytes r s : List ℕ) (c : ℕ) (v : Value) (w : Keyword) (left : Value) (x : Relation) (right : Value) (body : List (BodyAt k))
        → In bytes (declare c v) r → In bytes (nest w left x right body) s → ⊥
    declare_nest bytes r s c v w left x right body f g = no_space 32 refl (second_of_nest w c 32 _ _ s (sym f.whole ∙ g.whole ∙ regroup w _ _ s))

    assign_nest : (bytes r s : List ℕ) (c : ℕ) (v : Value) (w : Keyword) (left : Value) (x : Relation) (right : Value) (body : List (BodyAt k))
        → In bytes (assign c v) r → In bytes (nest w left x right body) s → ⊥
    assign_nest bytes r s c v w left x right body f g = no_space 32 refl (second_of_nest w c 32 _ _ s (sym f.whole ∙ g.whole ∙ regroup w _ _ s))

    print_nest : (bytes r s : List ℕ) (v : Value) (vs : List Value) (w : Keyword) (left : Value) (x : Relation) (right : Value) (body : List (BodyAt k))
        → In bytes (print v vs) r → In bytes (nest w left x right body) s → ⊥
    print_nest bytes r s v vs If left x right body f g = omega (arith, heads 102 105 _ _ (sym f.whole ∙ g.whole))
    print_nest bytes r s v vs For left x right body f g = omega (arith, heads 109 111 _ _ (tails 102 102 _ _ (sym f.whole ∙ g.whole)))

  -- ---- no line of a body stands at its end

  no_more_tabs : (j b : ℕ) (x y : List ℕ) → suc j ≤ 8 → b ≢ 9 → tabs (8 - suc j) ++ b ∷ y ≡ tabs (8 - j) ++ x → ⊥
  no_more_tabs j b x y h off e =
      let one : 8 - j ≡ suc (8 - suc j) = omega arith in
      off (tabs_more (8 - suc j) b x y (sym (e ∙ ap (λ d. tabs d ++ x) one)))

  pub no_body : (k : ℕ) (old : Reached) (b : ℕ) (y : List ℕ) → k ≤ 8 → b ≢ 9 → NoBody around k old (tabs (8 - k) ++ b ∷ y)
  no_body zero old b y h off = tt
  no_body (suc j) old b y h off = λ l rest f.
      no_more_tabs j b (inner_spelling (8 - j) (bodies j).spelling l ++ rest) y h off
      (f.whole ∙ append_assoc (tabs (8 - j)) (inner_spelling (8 - j) (bodies j).spelling l) rest)

  -- ---- one line at most, and one body

  abbrev BodyUnique : ℕ → Type 0
  BodyUnique k = (old : Reached) (ls ms : List (BodyAt k)) (rest foot : List ℕ) → AllByRecursion (bodies k).Is ls → KnowsBody around k old.next old.names ls
      → AllByRecursion (bodies k).Is ms → KnowsBody around k old.next old.names ms → spellings (bodies k).spelling ls ++ rest ≡ spellings (bodies k).spelling ms ++ foot
      → NoBody around k (after_all k old ls) rest → NoBody around k (after_all k old ms) foot → (ls ≡ ms) × (rest ≡ foot)

  abbrev LineUnique : ℕ → Type 0
  LineUnique k = (old : Reached) (bytes r s : List ℕ) (l m : LineAt k) → InnerAt around k old bytes l r → InnerAt around k old bytes m s → (l ≡ m) × (r ≡ s)

  line_by : (k : ℕ) → k ≤ 8 → BodyUnique k → LineUnique k
  line_by k h below old bytes r s (declare c v) (declare d w) f g =
      let F : Setting → LineAt k = λ p. declare p.0 p.1.1.0 in
      let same = settings_unique around.callable old.names (codes " := ") bytes (setting_of k old c v) (setting_of k old d w) r s (as_declare k old bytes r c v f) (as_declare k old bytes s d w g) in
      (ap F same.0, same.1)
  line_by k h below old bytes r s (declare c v) (assign d w) f g = absurd (two_signs k old bytes r s c d v w f g)
  line_by k h below old bytes r s (declare c v) (print w ws) f g = absurd (declare_print k old bytes r s c v w ws f g)
  line_by k h below old bytes r s (declare c v) (nest w left x right body) f g = absurd (declare_nest k old bytes r s c v w left x right body f g)
  line_by k h below old bytes r s (assign c v) (declare d w) f g = absurd (two_signs k old bytes s r d c w v g f)
  line_by k h below old bytes r s (assign c v) (assign d w) f g =
      let F : Setting → LineAt k = λ p. assign p.0 p.1.1.0 in
      let same = settings_unique around.callable old.names (codes " = ") bytes (setting_of k old c v) (setting_of k old d w) r s (as_assign k old bytes r c v f) (as_assign k old bytes s d w g) in
      (ap F same.0, same.1)
  line_by k h below old bytes r s (assign c v) (print w ws) f g = absurd (assign_print k old bytes r s c v w ws f g)
  line_by k h below old bytes r s (assign c v) (nest w left x right body) f g = absurd (assign_nest k old bytes r s c v w left x right body f g)
  line_by k h below old bytes r s (print v vs) (declare d w) f g = absurd (declare_print k old bytes s r d w v vs g f)
  line_by k h below old bytes r s (print v vs) (assign d w) f g = absurd (assign_print k old bytes s r d w v vs g f)
  line_by k h below old bytes r s (print v vs) (print w ws) f g =
      let F : Printing → LineAt k = λ p. print p.1.0.0 p.1.0.1 in
      let same = prints_unique around.callable old.names bytes (printing_of k old v vs) (printing_of k old w ws) r s (as_print k old bytes r v vs f) (as_print k old bytes s w ws g) in
      (ap F same.0, same.1)
  line_by k h below old bytes r s (print v vs) (nest w left x right body) f g = absurd (print_nest k old bytes r s v vs w left x right body f g)
  line_by k h below old bytes r s (nest w left x right body) (declare d v) f g = absurd (declare_nest k old bytes s r d v w left x right body g f)
  line_by k h below old bytes r s (nest w left x right body) (assign d v) f g = absurd (assign_nest k old bytes s r d v w left x right body g f)
  line_by k h below old bytes r s (nest w left x right body) (print v vs) f g = absurd (print_nest k old bytes s r v vs w left x right body g f)
  line_by k h below old bytes r s (nest w left x right body) (nest w' left' x' right' body') f g =
      let same = heads_unique k old bytes (w, condition_of k old left x right) (w', condition_of k old left' x' right')
      (spellings (bodies k).spelling body ++ (foot k old ++ r)) (spellings (bodies k).spelling body' ++ (foot k old ++ s))
      (as_head k old bytes r w left x right body f) (as_head k old bytes s w' left' x' right' body' g) in
      let off : (z : List ℕ) (there : Reached) → NoBody around k there (foot k old ++ z) =
      λ z there. subst (NoBody around k there) (sym (append_assoc (tabs (8 - k)) (codes "}" ++ newline) z)) (no_body k there 125 (10 ∷ z) h (λ e. omega (arith, e))) in
      let inside = below old body body' (foot k old ++ r) (foot k old ++ s) f.is.1.1 f.knows.1.1 g.is.1.1 g.knows.1.1 same.1 (off r _) (off s _) in
      let F : Keyword × Condition → List (BodyAt k) → LineAt k = λ p b. nest p.0 p.1.0 p.1.1.0 p.1.1.1.0 b in
      (ap (λ p. F p body) same.0 ∙ ap (F (w', condition_of k old left' x' right')) inside.0, append_cancel_left (foot k old) r s inside.1)

  outer_inner : (k : ℕ) (old : Reached) (bytes rest : List ℕ) (l : LineAt k) → OuterAt around k old bytes l rest
      → (inner : List ℕ) × (bytes ≡ tabs (8 - k) ++ inner) × InnerAt around k old inner l rest
  outer_inner k old bytes rest l f = (
    inner_spelling (8 - k) (bodies k).spelling l ++ rest,
    f.whole ∙ append_assoc (tabs (8 - k)) (inner_spelling (8 - k) (bodies k).spelling l) rest,
    record { is = f.is; knows = f.knows; whole = refl },
  )

  pub outer_by : (k : ℕ) → LineUnique k → (old : Reached) (bytes r s : List ℕ) (l m : LineAt k) → OuterAt around k old bytes l r → OuterAt around k old bytes m s → (l ≡ m) × (r ≡ s)
  outer_by k one old bytes r s l m f g =
      let p = outer_inner k old bytes r l f in
      let q = outer_inner k old bytes s m g in
      one old p.0 r s l m p.2 (subst (λ z. InnerAt around k old z m s) (sym (tabs_cut (8 - k) p.0 q.0 (sym p.1 ∙ q.1))) q.2)

  first_line : (j : ℕ) (old : Reached) (bytes rest : List ℕ) (l : LineAt j) (ls : List (LineAt j)) → bytes ≡ spellings (bodies (suc j)).spelling (l ∷ ls) ++ rest
      → AllByRecursion (bodies (suc j)).Is (l ∷ ls) → KnowsBody around (suc j) old.next old.names (l ∷ ls) → OuterAt around j old bytes l (spellings (bodies (suc j)).spelling ls ++ rest)
  first_line j old bytes rest l ls e is knows = record {
    is = is.0;
    knows = knows.0;
    whole = e ∙ append_assoc ((lines j).spelling l) (spellings (bodies (suc j)).spelling ls) rest;
  }

  body_by : (j : ℕ) → LineUnique j → BodyUnique (suc j)
  body_by j one old [] [] rest end is knows is' knows' e off off' = (refl, e)
  body_by j one old [] (m ∷ ms) rest end is knows is' knows' e off off' =
      absurd (off m (spellings (bodies (suc j)).spelling ms ++ end) (first_line j old rest end m ms e is' knows'))
  body_by j one old (l ∷ ls) [] rest end is knows is' knows' e off off' =
      absurd (off' l (spellings (bodies (suc j)).spelling ls ++ rest) (first_line j old end rest l ls (sym e) is knows))
  body_by j one old (l ∷ ls) (m ∷ ms) rest end is knows is' knows' e off off' =
      let bytes = spellings (bodies (suc j)).spelling (l ∷ ls) ++ rest in
      let same = outer_by j one old bytes (spellings (bodies (suc j)).spelling ls ++ rest) (spellings (bodies (suc j)).spelling ms ++ end) l m
      (first_line j old bytes rest l ls refl is knows) (first_line j old bytes end m ms e is' knows') in
      let P : LineAt j → Type 0 = λ n. KnowsBody around (suc j) (after_body (suc j) old n).next (after_body (suc j) old n).names ms in
      let Q : LineAt j → Type 0 = λ n. NoBody around (suc j) (after_all (suc j) (after_body (suc j) old n) ms) end in
      let behind = body_by j one (after_body (suc j) old l) ls ms rest end is.1 knows.1 is'.1 (subst P (sym same.0) knows'.1) same.1 off (subst Q (sym same.0) off') in
      let F : LineAt j → List (LineAt j) → List (LineAt j) = λ n ns. n ∷ ns in
      (ap (λ n. F n ls) same.0 ∙ ap (F m) behind.0, behind.1)

  none_unique : BodyUnique 0
  none_unique old [] [] rest end is knows is' knows' e off off' = (refl, e)
  none_unique old [] (m ∷ ms) rest end is knows is' knows' e off off' = absurd m
  none_unique old (l ∷ ls) ms rest end is knows is' knows' e off off' = absurd l

  pub body_unique : (k : ℕ) → k ≤ 8 → BodyUnique k
  body_unique zero h = none_unique
  body_unique (suc j) h = body_by j (line_by j (omega arith) (body_unique j (omega arith)))

  pub line_unique : (k : ℕ) → k ≤ 8 → LineUnique k
  line_unique k h = line_by k h (body_unique k h)
